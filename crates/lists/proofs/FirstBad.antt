-- The first bad of a row of ids, as it is looked for id by id.
-- Assumes nothing.
use mathlib.Core.List.{List, ◌∷◌}
use mathlib.Core.Path.{◌≡◌, sym, ap, ◌∙◌}
use Prim.Native.Nat.{ℕ, suc, ◌+◌, ◌*◌, ◌-◌, ◌≤◌, ◌<◌}
use native.Mathlib.Nat.{add-zero, zero-add, zero-mul}
use native.Mathlib.Omega.{arith}
use lib.ListN.{drop}
use lib.Seq.{drop-drop}
use borrow.Author.Tests.{lt-ltb, le-ltb}
use Rattle.graph.specs.Lists.{first_bad}
use Rattle.le.specs.Le.{number_at, numbers}

module _ (b : List ℕ) (at w bound n : ℕ) where
  -- it is the first bad one of what is left after k ids
  abbrev pub Left : ℕ → Type 0
  Left k = first_bad bound (numbers w n (drop at b)) ≡ k + first_bad bound (numbers w (n - k) (drop (at + k * w) b))

  pub all_left : Left 0
  all_left =
      let all : n - 0 ≡ n = omega arith in
      rw (zero-mul w, add-zero at, all) (sym (zero-add (first_bad bound (numbers w n (drop at b)))))

  -- the next of them
  next_id : (k : ℕ) → k < n → numbers w (n - k) (drop (at + k * w) b) ≡ number_at w b (at + k * w) ∷ numbers w (n - (k + 1)) (drop (at + (k + 1) * w) b)
  next_id k l =
      let one_less : n - k ≡ suc (n - (k + 1)) = omega arith in
      let on : at + k * w + w ≡ at + (k + 1) * w = omega arith in
      ap (λ (m : ℕ). numbers w m (drop (at + k * w) b)) one_less
      ∙ ap (λ (r : List ℕ). number_at w b (at + k * w) ∷ numbers w (n - (k + 1)) r) (drop-drop w (at + k * w) b ∙ ap (λ (p : ℕ). drop p b) on)

  pub here_bad : (k : ℕ) → k < n → Left k → bound ≤ number_at w b (at + k * w) → k ≡ first_bad bound (numbers w n (drop at b))
  here_bad k l h bad =
      sym (h ∙ rw (next_id k l, le-ltb (number_at w b (at + k * w)) bound bad) (add-zero k))

  pub one_on : (k : ℕ) → k < n → Left k → number_at w b (at + k * w) < bound → Left (k + 1)
  one_on k l h good = h ∙ rw (next_id k l, lt-ltb (number_at w b (at + k * w)) bound good) (omega arith)

  pub none_left : Left n → n ≡ first_bad bound (numbers w n (drop at b))
  none_left h =
      let none : n - n ≡ 0 = omega arith in
      sym (h ∙ ap (λ (m : ℕ). n + first_bad bound (numbers w m (drop (at + n * w) b))) none ∙ add-zero n)
