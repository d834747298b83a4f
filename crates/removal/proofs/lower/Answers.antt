-- `removal::lower` meets its contract.
-- Assumes nothing.
use mathlib.Core.List.{List}
use mathlib.Core.Path.{◌≡◌, sym, ap, ◌∙◌, subst}
use Prim.Native.Nat.{ℕ, ◌+◌, ◌-◌, ◌<◌}
use native.Mathlib.Omega.{arith}
use lib.ListN.{get_or, set}
use Rattle.le.specs.Le.{words}
use Rattle.le.proofs.Places.{in_words}
use Rattle.halves.specs.Halves.{mate, lower}
use Rattle.tables.specs.Tables.{waiting_at, picked_at}
use Rattle.removal.specs.Room.{halves_in, Went}
use Rattle.removal.proofs.Rooms.{roomy_place}
use Rattle.removal.proofs.Tables.{degree_read, waiting_length, lowered_more, lowered_last}
use Rattle.removal.proofs.lower.Goals as goal

pub returns-then-d-ne1 : goal.returns-then-d-ne1
returns-then-d-ne1 c =
    let a = c.args in
    let W = words a.room.now in
    let r = c.word-d.result in
    let w : r ≡ get_or W a.y 0 = c.word-d.ensures in
    let is : words c.set_word.new.room ≡ set W a.y (get_or W a.y 0 - 1) =
    c.set_word.ensures ∙ ap (set W a.y) (c.saturating_sub.ensures ∙ ap (λ (k : ℕ). k - 1) w) in
    subst (λ (X : List ℕ). Went W X a.n a.end (lower a.y (halves_in W a.n a.end))) (sym is)
    (lowered_more W a.n a.y a.end (omega arith) (omega arith) (omega arith) (in_words a.room.now picked_at (omega arith))
    (λ e. c.if-d-ne1.true (w ∙ e)))

pub returns : goal.returns
returns c =
    let a = c.args in
    let W = words a.room.now in
    let h = halves_in W a.n a.end in
    let r = c.word-d.result in
    let w : r ≡ get_or W a.y 0 = c.word-d.ensures in
    let long = in_words a.room.now picked_at (omega arith) in
    let last : get_or W a.y 0 ≡ 1 = sym w ∙ c.if-d-ne1.false in
    let i1 : words c.set_word.new.room ≡ set W a.y (get_or W a.y 0 - 1) =
    c.set_word.ensures ∙ ap (set W a.y) (c.saturating_sub.ensures ∙ ap (λ (k : ℕ). k - 1) w) in
    let i2 : words c.set_word-2.new.room ≡ set (set W a.y (get_or W a.y 0 - 1)) (mate a.y) 0 =
    c.set_word-2.ensures ∙ ap (λ (X : List ℕ). set X (mate a.y) 0) i1 in
    let i3 : words c.set_word-3.new.room ≡ set (set (set W a.y (get_or W a.y 0 - 1)) (mate a.y) 0) (waiting_at + a.end) a.y =
    c.set_word-3.ensures ∙ ap (λ (X : List ℕ). set X (waiting_at + a.end) a.y) i2 in
    let place : a.end < a.n =
    omega (arith, roomy_place a.n h a.y (omega arith) c.requires.roomy (degree_read W a.n a.y a.end (omega arith) (omega arith) (omega arith) long ∙ last), waiting_length W a.n a.y a.end (omega arith) (omega arith) (omega arith) long) in
    subst (λ (X : List ℕ). Went W X a.n (a.end + 1) (lower a.y h)) (sym i3)
    (lowered_last W a.n a.y a.end (omega arith) (omega arith) (omega arith) long last place)
