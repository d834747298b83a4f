-- `removal::remove_vertex` meets its contract.
-- Assumes nothing.
use mathlib.Core.List.{List}
use mathlib.Core.Path.{◌≡◌, sym, ap, ◌∙◌, subst}
use Prim.Native.Nat.{ℕ, ◌+◌, ◌*◌}
use native.Mathlib.Omega.{arith}
use lib.ListN.{set}
use Rattle.le.specs.Le.{words}
use Rattle.le.proofs.Places.{in_words}
use Rattle.halves.specs.Halves.{lower_all, drop_both, pick}
use Rattle.tables.specs.Tables.{picked_at}
use Rattle.removal.specs.Room.{source, halves_in, list_in, Roomy, Went}
use Rattle.removal.proofs.Rooms.{roomy_all}
use Rattle.removal.proofs.Peeling.{lists_steady}
use Rattle.removal.proofs.Picking.{roomy_drop, zeroed, went_list}
use Rattle.removal.proofs.remove_vertex.Goals as goal
use Rattle.removal.proofs.remove_vertex.Goals.{After-lower_all-mid, After-set_word-2}

-- after the two writes
zero : (c : After-set_word-2) → let a = c.args in let W = words a.room.now in
    Went W (words c.set_word-2.new.room) a.n a.end (record { degrees = drop_both a.x (halves_in W a.n a.end).degrees; waiting = (halves_in W a.n a.end).waiting })
zero c = let a = c.args in
    let W = words a.room.now in
    let is : words c.set_word-2.new.room ≡ set (set W (2 * a.x) 0) (2 * a.x + 1) 0 = c.set_word-2.ensures ∙ ap (λ (X : List ℕ). set X (2 * a.x + 1) 0) c.set_word.ensures in
    subst (λ (X : List ℕ). Went W X a.n a.end (record { degrees = drop_both a.x (halves_in W a.n a.end).degrees; waiting = (halves_in W a.n a.end).waiting })) (sym is)
    (zeroed W a.n a.end a.x (omega arith) (omega arith) (omega arith) (in_words a.room.now picked_at (omega arith)))

-- after the first list
one : (c : After-lower_all-mid) → let a = c.args in let W = words a.room.now in
    Went W (words c.set_word-2.new.room) a.n a.end (record { degrees = drop_both a.x (halves_in W a.n a.end).degrees; waiting = (halves_in W a.n a.end).waiting })
    → Went W (words c.lower_all-mid.new.room) a.n c.lower_all-mid.result
    (lower_all (list_in (source a.s.now a.r) W a.nodes (2 * a.x)) (record { degrees = drop_both a.x (halves_in W a.n a.end).degrees; waiting = (halves_in W a.n a.end).waiting }))
one c zeros = let a = c.args in
    let W = words a.room.now in
    went_list (source a.s.now a.r) W (words c.set_word-2.new.room) (words c.lower_all-mid.new.room) a.nodes a.n (2 * a.x) a.end c.lower_all-mid.result
    (record { degrees = drop_both a.x (halves_in W a.n a.end).degrees; waiting = (halves_in W a.n a.end).waiting })
    (omega arith) (omega arith) (in_words a.room.now picked_at (omega arith)) c.requires.roomy.1 zeros c.lower_all-mid.ensures

pub lower_all-mid-requires-clause-roomy : goal.lower_all-mid-requires-clause-roomy
lower_all-mid-requires-clause-roomy c =
    let a = c.args in
    let W = words a.room.now in
    let w = zero (goal.at.lower_all-mid-requires-clause-roomy c).After-set_word-2 in (
      subst (Roomy a.n) (sym w.is) (roomy_drop a.n (halves_in W a.n a.end) a.x (omega arith) c.requires.roomy.0),
      lists_steady (source a.s.now a.r) W (words c.set_word-2.new.room) a.nodes a.n (omega arith) (omega arith) (in_words a.room.now picked_at (omega arith)) w.frame c.requires.roomy.1,
    )

pub lower_all-requires-clause-roomy : goal.lower_all-requires-clause-roomy
lower_all-requires-clause-roomy c =
    let a = c.args in
    let W = words a.room.now in
    let h = halves_in W a.n a.end in
    let w = one (goal.at.lower_all-requires-clause-roomy c).After-lower_all-mid (zero (goal.at.lower_all-requires-clause-roomy c).After-set_word-2) in (
      subst (Roomy a.n) (sym w.is)
          (roomy_all a.n (list_in (source a.s.now a.r) W a.nodes (2 * a.x)) (record { degrees = drop_both a.x h.degrees; waiting = h.waiting }) (c.requires.roomy.1.low (2 * a.x) (omega arith)) (roomy_drop a.n h a.x (omega arith) c.requires.roomy.0)),
      lists_steady (source a.s.now a.r) W (words c.lower_all-mid.new.room) a.nodes a.n (omega arith) (omega arith) (in_words a.room.now picked_at (omega arith)) w.frame c.requires.roomy.1,
    )

pub returns : goal.returns
unfolding pick
returns c =
    let a = c.args in
    let W = words a.room.now in
    let h = halves_in W a.n a.end in
    let o = c.lower_all in
    let m = c.lower_all-mid in
    went_list (source a.s.now a.r) W (words m.new.room) (words o.new.room) a.nodes a.n (2 * a.x + 1) m.result o.result
    (lower_all (list_in (source a.s.now a.r) W a.nodes (2 * a.x)) (record { degrees = drop_both a.x h.degrees; waiting = h.waiting }))
    (omega arith) (omega arith) (in_words a.room.now picked_at (omega arith)) c.requires.roomy.1 (one (goal.at.returns c).After-lower_all-mid (zero (goal.at.returns c).After-set_word-2)) o.ensures
