-- A list of ids in the form: its first id, and the others.
-- Assumes nothing.
use mathlib.Core.Path.{◌≡◌, refl, sym, ap, ◌∙◌, subst}
use mathlib.Core.List.Memᴰ
use mathlib.Core.List.{List, [], ◌∷◌, ◌++◌, map}
use Prim.Native.Nat.{ℕ, zero, suc, ◌+◌, ◌-◌, ◌*◌, ◌≤◌, ◌<◌}
use native.Mathlib.Omega.{arith}
use lib.Dec.{eqb}
use lib.ListN.{length, get_or, take}
use Rattle.le.specs.Rows.{entry, span}
use Rattle.le.proofs.Rows.{span_append, span_one}
use Rattle.choice.specs.Arcs.{In}
use Rattle.choice.proofs.Degrees.{how_many_length}
use Rattle.tables.specs.Tables.{most_ports}
use Rattle.removal.specs.Room.{Source, start_of, count_of, form_list}
use Rattle.removal.proofs.Walks.{formed_length}
use Rattle.incidence.specs.Incidence.{bump_all, appended_all}
use Rattle.incidence.proofs.Counting.{bump_at}

-- no id
pub no_bump : (s : Source) (first side : ℕ) (W : List ℕ) → W ≡ bump_all (form_list s first 0 side) W
unfolding form_list span bump_all
no_bump s first side W = refl

pub no_appended : (s : Source) (first side t : ℕ) (W : List ℕ) → W ≡ appended_all (form_list s first 0 side) t W
unfolding form_list span appended_all
no_appended s first side t W = refl

-- room for an entry at each place
abbrev pub Fits : List ℕ → ℕ → ℕ → List ℕ → Type 0
Fits ys n t W = (j : ℕ) → j < n → start_of (appended_all (take j ys) t W) (get_or ys j 0) + count_of (appended_all (take j ys) t W) (get_or ys j 0) < most_ports

fits_head : (y : ℕ) (ys : List ℕ) (n t : ℕ) (W : List ℕ) → 0 < n → Fits (y ∷ ys) n t W → Fits (y ∷ []) 1 t W
unfolding appended_all
fits_head y ys n t W l h zero k = h zero l
fits_head y ys n t W l h (suc j) k = absurd (omega arith)

fits_tail : (y : ℕ) (ys : List ℕ) (n t : ℕ) (W : List ℕ) → Fits (y ∷ ys) n t W → Fits ys (n - 1) t (appended_all (y ∷ []) t W)
unfolding appended_all
fits_tail y ys n t W h j k = h (suc j) (omega arith)

module _ (s : Source) (first count side : ℕ) (some : 0 < count) where
  abbrev head : ℕ
  head = 2 * entry s.bytes s.row first + side

  abbrev rest : List ℕ
  rest = form_list s (first + 1) (count - 1) side

  one : form_list s first 1 side ≡ head ∷ []
  unfolding form_list
  one = ap (map (λ id. 2 * id + side)) (span_one s.bytes s.row first)

  whole : form_list s first count side ≡ head ∷ rest
  unfolding form_list
  whole =
      ap (map (λ id. 2 * id + side))
      (ap (span s.bytes s.row first) more ∙ span_append s.bytes s.row first 1 (count - 1) ∙ ap (λ (l : List ℕ). l ++ span s.bytes s.row (first + 1) (count - 1)) (span_one s.bytes s.row first))
    where
      more : count ≡ 1 + (count - 1)
      more = omega arith

  pub in_first : (y : ℕ) → In y (form_list s first 1 side) → In y (form_list s first count side)
  in_first y m = subst (λ (l : List ℕ). In y l) (sym whole) (Memᴰ.append_left rest (subst (λ (l : List ℕ). In y l) one m))

  pub in_rest : (y : ℕ) → In y rest → In y (form_list s first count side)
  in_rest y m = subst (λ (l : List ℕ). In y l) (sym whole) (Memᴰ.append_right (head ∷ []) m)

  -- the first adds 1 at most
  pub bump_first : (W : List ℕ) (y : ℕ) → y < length W → get_or (bump_all (form_list s first 1 side) W) y 0 ≤ get_or W y 0 + 1
  bump_first W y l = omega (arith, bump_at (form_list s first 1 side) W y l, how_many_length (λ t. eqb t y) (form_list s first 1 side), formed_length s first 1 side)

  pub bump_parts : (W : List ℕ) → bump_all rest (bump_all (form_list s first 1 side) W) ≡ bump_all (form_list s first count side) W
  unfolding bump_all
  bump_parts W = ap (λ (l : List ℕ). bump_all rest (bump_all l W)) one ∙ sym (ap (λ (l : List ℕ). bump_all l W) whole)

  pub appended_parts : (t : ℕ) (W : List ℕ) → appended_all rest t (appended_all (form_list s first 1 side) t W) ≡ appended_all (form_list s first count side) t W
  unfolding appended_all
  appended_parts t W = ap (λ (l : List ℕ). appended_all rest t (appended_all l t W)) one ∙ sym (ap (λ (l : List ℕ). appended_all l t W) whole)

  pub fits_first : (t : ℕ) (W : List ℕ) → Fits (form_list s first count side) count t W → Fits (form_list s first 1 side) 1 t W
  fits_first t W h = subst (λ (l : List ℕ). Fits l 1 t W) (sym one) (fits_head head rest count t W some (subst (λ (l : List ℕ). Fits l count t W) whole h))

  pub fits_rest : (t : ℕ) (W : List ℕ) → Fits (form_list s first count side) count t W → Fits rest (count - 1) t (appended_all (form_list s first 1 side) t W)
  fits_rest t W h = subst (λ (l : List ℕ). Fits rest (count - 1) t (appended_all l t W)) (sym one) (fits_tail head rest count t W (subst (λ (l : List ℕ). Fits l count t W) whole h))
