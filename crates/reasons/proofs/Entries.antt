-- Entries as they are written: one of four numbers, and those of halves that have gone, one after the other.
-- Assumes nothing.
use mathlib.Core.Path.{◌≡◌, refl, sym, ap, ◌∙◌}
use mathlib.Core.List.{List, [], ◌∷◌, ◌++◌}
use Prim.Native.Nat.{ℕ, ◌+◌, ◌*◌, ◌/◌, ◌≤◌, ◌<◌}
use native.Mathlib.Numerals.{add-one}
use native.Mathlib.Omega.{arith}
use lib.ListN.{length, get_or, take}
use lib.Seq.{sets, length-sets, take-suc, take_all}
use borrow.Author.Tests.{lt-ltb, le-ltb}
use Rattle.le.specs.Le.{bytes, row}
use Rattle.le.proofs.Stores.{sets_append}
use Rattle.choice.specs.Reasons.{Reason, numbers_of}
use Rattle.reasons.specs.Told.{place_of, entered, freed_half, freed_all}

pub entered_four : (out : List ℕ) (v a b c d : ℕ)
    → sets (sets (sets (sets out (16 * v) (bytes 4 a)) (16 * v + 4) (bytes 4 b)) (16 * v + 8) (bytes 4 c)) (16 * v + 12) (bytes 4 d) ≡ entered out v (a ∷ b ∷ c ∷ d ∷ [])
unfolding entered
entered_four out v a b c d =
    let p = 16 * v in
    let e₂ : p + 4 + 4 ≡ p + 8 = omega arith in
    let e₃ : p + 8 + 4 ≡ p + 12 = omega arith in
    sym (sets_append out p (bytes 4 a) (bytes 4 b ++ (bytes 4 c ++ (bytes 4 d ++ [])))
    ∙ sets_append (sets out p (bytes 4 a)) (p + 4) (bytes 4 b) (bytes 4 c ++ (bytes 4 d ++ []))
    ∙ ap (λ (q : ℕ). sets (sets (sets out p (bytes 4 a)) (p + 4) (bytes 4 b)) q (bytes 4 c ++ (bytes 4 d ++ []))) e₂
    ∙ sets_append (sets (sets out p (bytes 4 a)) (p + 4) (bytes 4 b)) (p + 8) (bytes 4 c) (bytes 4 d ++ [])
    ∙ ap (λ (q : ℕ). sets (sets (sets (sets out p (bytes 4 a)) (p + 4) (bytes 4 b)) (p + 8) (bytes 4 c)) q (bytes 4 d)) e₃)

pub length_entered : (out : List ℕ) (v : ℕ) (numbers : List ℕ) → length (entered out v numbers) ≡ length out
unfolding entered
length_entered out v numbers = length-sets out (place_of v) (row 4 numbers)

module _ (nodes : ℕ) (why : Reason) where
  -- a node, and an edge
  pub freed_node : (y : ℕ) (out : List ℕ) → y / 2 < nodes → freed_half nodes why y out ≡ entered out (y / 2) (numbers_of why)
  unfolding freed_half
  freed_node y out l = rw (lt-ltb (y / 2) nodes l)

  pub freed_edge : (y : ℕ) (out : List ℕ) → nodes ≤ y / 2 → freed_half nodes why y out ≡ out
  unfolding freed_half
  freed_edge y out l = rw (le-ltb (y / 2) nodes l)

  freed_snoc : (ys : List ℕ) (y : ℕ) (out : List ℕ) → freed_all nodes why (ys ++ (y ∷ [])) out ≡ freed_half nodes why y (freed_all nodes why ys out)
  unfolding freed_all
  freed_snoc [] y out = refl
  freed_snoc (x ∷ ys) y out = freed_snoc ys y (freed_half nodes why x out)

  -- the first j of a list so far: start, turn and done
  pub freed_none : (ys out : List ℕ) → out ≡ freed_all nodes why (take 0 ys) out
  unfolding freed_all
  freed_none ys out = refl

  pub freed_more : (ys out now new : List ℕ) (j y : ℕ) → j < length ys → now ≡ freed_all nodes why (take j ys) out → y ≡ get_or ys j 0 → new ≡ freed_half nodes why y now
      → new ≡ freed_all nodes why (take (j + 1) ys) out
  freed_more ys out now new j y l e q f =
      f ∙ (λ i. freed_half nodes why (q i) (e i)) ∙ sym (freed_snoc (take j ys) (get_or ys j 0) out)
      ∙ ap (λ (l : List ℕ). freed_all nodes why l out) (sym (rw add-one (take-suc ys j 0 l)))

  pub freed_done : (ys out now : List ℕ) (j : ℕ) → length ys ≤ j → now ≡ freed_all nodes why (take j ys) out → now ≡ freed_all nodes why ys out
  freed_done ys out now j l e = e ∙ ap (λ (l : List ℕ). freed_all nodes why l out) (take_all j ys l)
