-- `deletions::mark` meets its contract.
-- Assumes nothing.
use mathlib.Core.List.{List, [], ◌∷◌, ◌++◌}
use mathlib.Core.Path.{◌≡◌, refl, sym, ap, ◌∙◌, subst}
use Prim.Native.Nat.{ℕ, ◌+◌, ◌≤◌, ◌<◌}
use lib.ListN.{length, get_or}
use Rattle.le.specs.Le.{Outside, words}
use Rattle.le.specs.Rows.{entry, span}
use Rattle.le.proofs.Frames.{outside_none, outside_set, outside_trans}
use Rattle.le.proofs.Places.{length_words}
use Rattle.le.proofs.Rows.{length_span, span_at, span_next}
use Rattle.le.proofs.Numbers.{below_at}
use Rattle.ledger.specs.Tables.{map_at}
use Rattle.deletions.specs.Sifts.{Marked}
use Rattle.deletions.proofs.Maps.{marked_next}
use native.Mathlib.Omega.{arith}
use Rattle.deletions.proofs.mark.Goals as goal
use Rattle.deletions.proofs.mark.Goals.{After-number-id}

-- the id that was read is one of the listed, and has a place in the map
low : (c : After-number-id) → c.loop-k.k < c.args.listed → c.number-id.result < c.args.n
low c less = let a = c.args in
    let l = c.loop-k in
    let ids = span a.s.now a.r 0 a.listed in
    let z : 0 + l.k ≡ l.k = omega arith in
    let at : get_or ids l.k 0 ≡ entry a.s.now a.r l.k = span_at a.s.now a.r 0 a.listed l.k (omega arith) ∙ ap (entry a.s.now a.r) z in
    omega (arith, c.number-id.ensures.0, at, below_at a.n ids l.k c.requires.1 (omega (arith, length_span a.s.now a.r 0 a.listed)))

pub loop-k-init : goal.loop-k-init
unfolding span
loop-k-init c = let a = c.args in (omega arith, c.requires.4, outside_none map_at (map_at + a.n) (words a.room.now), refl)

pub set_word-requires : goal.set_word-requires
set_word-requires c = let n = c.requires.2 in let q = c.requires.3 in let l = c.loop-k.invariant.3 in omega (arith, low (goal.at.set_word-requires c).After-number-id c.loop-k-test.true)

pub loop-k-preserved : goal.loop-k-preserved
loop-k-preserved c =
    let a = c.args in
    let l = c.loop-k in
    let o = c.set_word in
    let id = c.number-id.result in
    let lo = low (goal.at.loop-k-preserved c).After-number-id c.loop-k-test.true in
    let W = words l.room in
    let z : 0 + l.k ≡ l.k = omega arith in
    let ids : span a.s.now a.r 0 (l.k + 1) ≡ span a.s.now a.r 0 l.k ++ (id ∷ []) =
    span_next a.s.now a.r 0 l.k ∙ ap (λ (x : ℕ). span a.s.now a.r 0 l.k ++ (x ∷ [])) (ap (entry a.s.now a.r) z ∙ sym c.number-id.ensures.0) in
    let long : map_at + a.n ≤ length W = omega (arith, c.requires.2, c.requires.3, l.invariant.3, length_words l.room) in (
      omega arith,
      subst (λ (is : List ℕ). Marked (words o.new.room) a.n is) (sym ids)
          (subst (λ (X : List ℕ). Marked X a.n (span a.s.now a.r 0 l.k ++ (id ∷ []))) (sym o.ensures) (marked_next W a.n (span a.s.now a.r 0 l.k) id long lo l.invariant.1)),
      outside_trans l.invariant.2 (subst (λ (X : List ℕ). Outside map_at (map_at + a.n) W X) (sym o.ensures) (outside_set map_at (map_at + a.n) W (map_at + id) 1 (omega arith) (omega arith))),
      o.auto.room ∙ l.invariant.3,
    )
