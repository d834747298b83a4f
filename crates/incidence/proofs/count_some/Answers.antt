-- `incidence::count_some` meets its contract.
-- Assumes nothing.
use mathlib.Core.List.{List, [], ◌∷◌, ◌++◌}
use mathlib.Core.Path.{◌≡◌, refl, sym, ap, ◌∙◌}
use Prim.Native.Nat.{ℕ, ◌+◌, ◌*◌, ◌<◌}
use native.Mathlib.Numerals.{add-one}
use native.Mathlib.Omega.{arith}
use lib.ListN.{get_or, set, take}
use lib.Seq.{take-suc, take_all}
use Rattle.le.specs.Le.{words}
use Rattle.le.proofs.Places.{length_words}
use Rattle.tables.specs.Tables.{lists_at}
use Rattle.removal.specs.Room.{source, form_list}
use Rattle.removal.proofs.Walks.{in_get_d, formed_length, formed_at}
use Rattle.incidence.specs.Incidence.{bump_all}
use Rattle.incidence.proofs.Counting.{bump_snoc, bump_few}
use Rattle.incidence.proofs.count_some.Goals as goal
use Rattle.incidence.proofs.count_some.Goals.{After-number-id, After-word-d}

-- what was read is the list's entry
next : (c : After-number-id) → let a = c.args in 2 * c.number-id.result + a.side ≡ get_or (form_list (source a.src.now a.r) a.first a.count a.side) c.loop-j.j 0
next c = let a = c.args in
    ap (λ (k : ℕ). 2 * k + a.side) c.number-id.ensures.0 ∙ formed_at (source a.src.now a.r) a.first a.count a.side c.loop-j.j (omega arith)

-- which is the half of a node
low : (c : After-number-id) → 2 * c.number-id.result + c.args.side < lists_at
low c = let a = c.args in
    let ys = form_list (source a.src.now a.r) a.first a.count a.side in
    let j = c.loop-j.j in
    omega (arith, next c, c.requires.all_low (get_or ys j 0) (in_get_d ys j (omega (arith, formed_length (source a.src.now a.r) a.first a.count a.side))))

-- which has the arcs that it had, and those of the entries before
value : (c : After-word-d) → let a = c.args in
    let ys = form_list (source a.src.now a.r) a.first a.count a.side in
    let j = c.loop-j.j in 2 * c.number-id.result + a.side ≡ get_or ys j 0 → c.word-d.result ≡ get_or (bump_all (take j ys) (words a.room.now)) (get_or ys j 0) 0
value c n = c.word-d.ensures ∙ (λ i. get_or (c.loop-j.invariant.1 i) (n i) 0)

pub loop-j-init : goal.loop-j-init
unfolding bump_all
loop-j-init c = (omega arith, refl, refl)

pub word-d-requires : goal.word-d-requires
word-d-requires c = omega (arith, low (goal.at.word-d-requires c).After-number-id)

pub overflow_add-d : goal.overflow_add-d
overflow_add-d c =
    let a = c.args in
    let j = c.loop-j.j in
    let ys = form_list (source a.src.now a.r) a.first a.count a.side in
    let at = in_get_d ys j (omega (arith, formed_length (source a.src.now a.r) a.first a.count a.side)) in
    let v = value (goal.at.overflow_add-d c).After-word-d (next (goal.at.overflow_add-d c).After-number-id) in
    omega (arith, v, bump_few ys (words a.room.now) j (omega (arith, c.requires.all_low (get_or ys j 0) at, length_words a.room.now)), c.requires.by_index (get_or ys j 0) at)

pub set_word-requires : goal.set_word-requires
set_word-requires c = omega (arith, low (goal.at.set_word-requires c).After-number-id)

pub loop-j-preserved : goal.loop-j-preserved
loop-j-preserved c =
    let a = c.args in
    let l = c.loop-j in
    let W = words a.room.now in
    let ys = form_list (source a.src.now a.r) a.first a.count a.side in
    let o = c.set_word in
    let n = next (goal.at.loop-j-preserved c).After-number-id in
    let v = value (goal.at.loop-j-preserved c).After-word-d n in
    let more : take (l.j + 1) ys ≡ take l.j ys ++ (get_or ys l.j 0 ∷ []) =
    rw (add-one l.j) (take-suc ys l.j 0 (omega (arith, formed_length (source a.src.now a.r) a.first a.count a.side))) in (
      omega arith,
      o.ensures ∙ (λ i. set (l.invariant.1 i) (n i) (v i + 1)) ∙ sym (ap (λ (l : List ℕ). bump_all l W) more ∙ bump_snoc (take l.j ys) (get_or ys l.j 0) W),
      o.auto.room ∙ l.invariant.2,
    )

pub returns : goal.returns
returns c =
    let a = c.args in
    let l = c.loop-j in
    let ys = form_list (source a.src.now a.r) a.first a.count a.side in
    l.invariant.1 ∙ ap (λ (l : List ℕ). bump_all l (words a.room.now)) (take_all l.j ys (omega (arith, formed_length (source a.src.now a.r) a.first a.count a.side)))
