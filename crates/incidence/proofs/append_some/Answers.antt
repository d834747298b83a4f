-- `incidence::append_some` meets its contract.
-- Assumes nothing.
use mathlib.Core.List.{List, [], ◌∷◌, ◌++◌}
use mathlib.Core.Path.{◌≡◌, refl, sym, ap, ◌∙◌}
use Prim.Native.Nat.{ℕ, ◌+◌, ◌*◌, ◌<◌}
use native.Mathlib.Numerals.{add-one}
use native.Mathlib.Omega.{arith}
use lib.ListN.{get_or, take}
use lib.Seq.{take-suc, take_all}
use Rattle.le.specs.Le.{words}
use Rattle.tables.specs.Tables.{lists_at}
use Rattle.removal.specs.Room.{source, start_of, count_of, form_list}
use Rattle.removal.proofs.Walks.{in_get_d, formed_length, formed_at}
use Rattle.incidence.specs.Incidence.{appended, appended_all}
use Rattle.incidence.proofs.Filling.{appended_snoc}
use Rattle.incidence.proofs.append_some.Goals as goal
use Rattle.incidence.proofs.append_some.Goals.{After-number-id}

-- what was read is the list's entry
next : (c : After-number-id) → let a = c.args in 2 * c.number-id.result + a.side ≡ get_or (form_list (source a.src.now a.r) a.first a.count a.side) c.loop-j.j 0
next c = let a = c.args in
    ap (λ (k : ℕ). 2 * k + a.side) c.number-id.ensures.0 ∙ formed_at (source a.src.now a.r) a.first a.count a.side c.loop-j.j (omega arith)

-- which is the half of a node
low : (c : After-number-id) → 2 * c.number-id.result + c.args.side < lists_at
low c = let a = c.args in
    let ys = form_list (source a.src.now a.r) a.first a.count a.side in
    let j = c.loop-j.j in
    omega (arith, next c, c.requires.all_low (get_or ys j 0) (in_get_d ys j (omega (arith, formed_length (source a.src.now a.r) a.first a.count a.side))))

pub loop-j-init : goal.loop-j-init
unfolding appended_all
loop-j-init c = (omega arith, refl, refl)

pub append-requires : goal.append-requires
append-requires c =
    let a = c.args in
    let l = c.loop-j in
    let ys = form_list (source a.src.now a.r) a.first a.count a.side in
    let W = appended_all (take l.j ys) a.t (words a.room.now) in
    let here = (goal.at.append-requires c).After-number-id in
    let n = next here in
    let y = 2 * c.number-id.result + a.side in
    let e : start_of (words l.room) y + count_of (words l.room) y ≡ start_of W (get_or ys l.j 0) + count_of W (get_or ys l.j 0) =
    λ i. start_of (l.invariant.1 i) (n i) + count_of (l.invariant.1 i) (n i) in
    (low here, omega arith, omega (arith, e, c.requires.by_index l.j (omega arith)))

pub loop-j-preserved : goal.loop-j-preserved
loop-j-preserved c =
    let a = c.args in
    let l = c.loop-j in
    let W = words a.room.now in
    let ys = form_list (source a.src.now a.r) a.first a.count a.side in
    let o = c.append in
    let n = next (goal.at.loop-j-preserved c).After-number-id in
    let more : take (l.j + 1) ys ≡ take l.j ys ++ (get_or ys l.j 0 ∷ []) =
    rw (add-one l.j) (take-suc ys l.j 0 (omega (arith, formed_length (source a.src.now a.r) a.first a.count a.side))) in (
      omega arith,
      o.ensures ∙ (λ i. appended (n i) a.t (l.invariant.1 i)) ∙ sym (ap (λ (l : List ℕ). appended_all l a.t W) more ∙ appended_snoc (take l.j ys) (get_or ys l.j 0) a.t W),
      o.auto.room ∙ l.invariant.2,
    )

pub returns : goal.returns
returns c =
    let a = c.args in
    let l = c.loop-j in
    let ys = form_list (source a.src.now a.r) a.first a.count a.side in
    l.invariant.1 ∙ ap (λ (l : List ℕ). appended_all l a.t (words a.room.now)) (take_all l.j ys (omega (arith, formed_length (source a.src.now a.r) a.first a.count a.side)))
