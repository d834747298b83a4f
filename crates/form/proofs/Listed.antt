-- A list that a call was given and that was found in order: the numbers that it is read as, and that they stand in it.
-- Assumes nothing.
use mathlib.Core.List.{List}
use mathlib.Core.Path.{◌≡◌, sym, ap, ◌∙◌, subst}
use Prim.Native.Nat.{ℕ, ◌/◌}
use native.Mathlib.Nat.{div-add-mod'}
use native.Mathlib.Omega.{arith}
use lib.ListN.{length, drop}
use Rattle.le.specs.Le.{Below, Wide, numbers}
use Rattle.le.specs.Rows.{Holds, place_in, row_at, span}
use Rattle.le.proofs.Numbers.{length_numbers}
use Rattle.le.proofs.Rows.{length_span}
use Rattle.graph.specs.Answer as answer
use Rattle.graph.specs.Answer.{Answer, refused, answered}
use Rattle.graph.specs.Calls.{label_list, id_list}
use Rattle.graph.specs.Graph.{Format}
use Rattle.graph.proofs.Lists.{below_true}
use Rattle.graph.proofs.Steps.{same_answer, passed}
use Rattle.form.specs.Form.{counted}
use Rattle.form.specs.Stored.{format_of, Stored}
use Rattle.form.specs.declared.Sizes.{Sizes}
use Rattle.form.proofs.Answers.{refused_so, answered_so}
use Rattle.form.proofs.Stored.{stored_rows}

pub record Given (a : Answer (List ℕ)) (b : List ℕ) (w n : ℕ) : Type 0 where
  pub answers : a ≡ answered (span b (row_at 0 w) 0 n)
  pub there : Holds b (row_at 0 w) n
  pub many : n ≡ length (span b (row_at 0 w) 0 n)

given : {w : ℕ} → Wide w → (a : Answer (List ℕ)) (b l : List ℕ) (n : ℕ) → a ≡ answered l → n ≡ length l → numbers w (length b / w) b ≡ l → Given a b w n
unfolding span
given {w} wide a b l n e many is =
    let k : n ≡ length b / w = many ∙ ap length (sym is) ∙ length_numbers w (length b / w) b in
    let start : place_in (row_at 0 w) 0 ≡ 0 = omega arith in
    record {
      answers = e ∙ ap answered (sym is ∙ (λ i. numbers w (sym k i) (drop (sym start i) b)));
      there = record { wide = wide; inside = rw k (omega (arith, div-add-mod' (length b) w)) };
      many = sym (length_span b (row_at 0 w) 0 n);
    }

-- labels
pub labels_given : (b : List ℕ) (n : ℕ) → Wide 4 → answered n ≡ counted (label_list b) → Given (label_list b) b 4 n
unfolding label_list
labels_given b n wide e =
    let t = answered_so length (label_list b) n e in
    given wide (label_list b) b t.0 n t.1 t.2 (same_answer (passed _ _ _ t.1).1)

-- ids below a count, in the width of the form that was read
module _ {b : List ℕ} {z : Sizes} (s : Stored b z) (ids : List ℕ) (count : ℕ) where
  width : (format_of b).width ≡ z.width
  width = ap (λ (y : Sizes). y.width) (sym s.sizes)

  pub ids_refused : (r : answer.Refusal) → ((f : Format) → f.width ≡ z.width → refused r ≡ counted (id_list f count ids)) → id_list (format_of b) count ids ≡ refused r
  ids_refused r is = refused_so length (id_list (format_of b) count ids) r (is (format_of b) width)

  module _ (n : ℕ) (is : (f : Format) → f.width ≡ z.width → answered n ≡ counted (id_list f count ids)) where
    pub ids_given_lem : Given (id_list (format_of b) count ids) ids z.width n
    unfolding id_list
    ids_given_lem =
        let t = answered_so length (id_list (format_of b) count ids) n (is (format_of b) width) in
        let p = passed _ _ _ (passed _ _ _ t.1).1 in
        given (stored_rows s).low.width (id_list (format_of b) count ids) ids t.0 n t.1 t.2 (subst (λ (k : ℕ). numbers k (length ids / k) ids ≡ t.0) width (same_answer p.1))

    pub ids_below : Below count (span ids (row_at 0 z.width) 0 n)
    unfolding id_list
    ids_below =
        let p = passed _ _ _ (passed _ _ _ ids_given_lem.answers).1 in
        subst (Below count) (same_answer p.1) (below_true count (numbers (format_of b).width (length ids / (format_of b).width) ids) p.0)
