-- The walk that prices: what the totals are after each drawing.
-- Assumes nothing.
use mathlib.Core.List.{List, [], ◌∷◌, ◌++◌, map}
use mathlib.Core.Path.{◌≡◌, refl, sym, ap, ◌∙◌, subst}
use Prim.Native.Nat.{ℕ, zero, suc, ◌+◌, ◌≤◌, ◌<◌}
use native.Mathlib.Numerals.{add-one}
use native.Mathlib.Omega.{arith}
use lib.ListN.{length, get_or, take, drop, length-map}
use lib.Seq.{take_all, take-suc, length-take-le}
use Rattle.le.specs.Le.{Below, number_at}
use Rattle.graph.specs.Answer.{Answer, answered, reply}
use Rattle.catalogue.specs.Price.{Priced, price}
use Rattle.catalogue.specs.Range.{drawings_in, most_drawings}
use Rattle.catalogue.specs.Slices.{SliceOf}
use Rattle.price.specs.Totals.{forms_of, totals_of, added, Upto, nothing}
use Rattle.price.specs.declared.range.Totals.{Totals}
use Rattle.price.proofs.Adding.{Good, price_good, prices_good, added_next, nothing_totals, totals_upto}
use Rattle.catalogue.proofs.Slices.{Clean, forms_clean, clean_take, drawings_back, Walked, Standing, none_walked, all_walked, standing}

-- a slice in order is its drawings
pub forms_of_lem : (b : List ℕ) (forms : List (List ℕ)) → drawings_in most_drawings b ≡ answered forms → forms_of b ≡ forms
unfolding forms_of
forms_of_lem b forms e = ap (λ (a : Answer (List (List ℕ))). reply [] (λ l. l) a) e

map_take : (forms : List (List ℕ)) (i : ℕ) → i < length forms → map price (take (i + 1) forms) ≡ map price (take i forms) ++ (price (get_or forms i []) ∷ [])
map_take forms i l =
    let one : take (i + 1) forms ≡ take i forms ++ (get_or forms i [] ∷ []) = rw add-one (take-suc forms i [] l) in
    ap (map price) one ∙ map_snoc (take i forms) (get_or forms i [])
  where
    map_snoc : (xs : List (List ℕ)) (x : List ℕ) → map price (xs ++ (x ∷ [])) ≡ map price xs ++ (price x ∷ [])
    map_snoc [] x = refl
    map_snoc (y ∷ xs) x = ap (λ (l : List (Answer Priced)). price y ∷ l) (map_snoc xs x)

-- the totals of the drawings before `at`
pub record Sofar (b : List ℕ) (forms : List (List ℕ)) (t : Totals) (at : ℕ) : Type 0 where
  pub behind : ℕ
  pub walked : Walked b forms behind at
  pub totals : t ≡ totals_of (map price (take behind forms))

pub sofar_none : (b : List ℕ) (forms : List (List ℕ)) → drawings_in most_drawings b ≡ answered forms → (t : Totals) → t ≡ nothing → Sofar b forms t 0
sofar_none b forms e t is = record { behind = 0; walked = none_walked b forms e; totals = is ∙ nothing_totals }

module _ {b : List ℕ} {forms : List (List ℕ)} (clean : Below 256 b) (e : drawings_in most_drawings b ≡ answered forms) {t : Totals} {at : ℕ} (s : Sofar b forms t at) where
  slice : SliceOf most_drawings b forms
  slice = drawings_back most_drawings b forms clean e

  all_clean : Clean forms
  all_clean = forms_clean forms (subst (Below 256) (sym slice.whole) clean)

  module _ (l : at < length b) where
    pub next_stands : Standing b forms s.behind at
    next_stands = standing s.walked l

    pub sofar_upto : Upto 999 t
    sofar_upto =
        let i = s.behind in
        let long : length (map price (take i forms)) ≤ 999 = omega (arith, length-map (take i forms) price, length-take-le i forms (omega (arith, next_stands.less)), next_stands.less, slice.few) in
        subst (Upto 999) (sym s.totals) (totals_upto (map price (take i forms)) (prices_good (take i forms) (clean_take i forms all_clean)) 999 long)

    pub sofar_next : (next : Totals) → next ≡ added t (price (take (number_at 4 b at) (drop (at + 4) b))) → Sofar b forms next (at + 4 + number_at 4 b at)
    sofar_next next is =
        let i = s.behind in
        let n = next_stands in
        record {
          behind = i + 1;
          walked = n.next;
          totals = is ∙ (λ j. added (s.totals j) (price (n.form j))) ∙ added_next (map price (take i forms)) (price (get_or forms i [])) (good i n.less)
              ∙ ap totals_of (sym (map_take forms i n.less));
        }
      where
        clean_at : (fs : List (List ℕ)) (i : ℕ) → Clean fs → i < length fs → Below 256 (get_or fs i [])
        clean_at [] i c l = tt
        clean_at (f ∷ fs) zero c l = c.0
        clean_at (f ∷ fs) (suc i) c l = clean_at fs i c.1 (omega arith)

        good : (i : ℕ) → i < length forms → Good (price (get_or forms i []))
        good i l = price_good (get_or forms i []) (clean_at forms i all_clean l)

  pub sofar_all : length b ≤ at → t ≡ totals_of (map price forms)
  sofar_all l = s.totals ∙ ap (λ (fs : List (List ℕ)). totals_of (map price fs)) (take_all s.behind forms (all_walked s.walked l))
