-- Laws of the report's text: its lines, one after the other; and by the totals in code it is the definition's.
-- Assumes nothing.
use mathlib.Core.List.{List, [], ◌++◌, map, append_assoc}
use mathlib.Core.Path.{◌≡◌, refl, sym, ap, ◌∙◌}
use Prim.Native.Nat.{ℕ, ◌/◌, ◌%◌}
use native.Mathlib.Nat.{add-zero}
use lib.ListN.{length, length-map}
use Rattle.choice.specs.Arcs.{how_many}
use Rattle.catalogue.specs.Price.{price}
use Rattle.catalogue.specs.Range.{sum_of, is_priced, none, dearest_of, index_of, report_of}
use Rattle.price.specs.Totals.{totals_of}
use Rattle.price.proofs.Adding.{meant_back}
use Rattle.text.specs.Text.{Printed}
use Rattle.text.proofs.Texts.{printed_then}
use Rattle.range.specs.Glance.{sum_line, dearest_line, mean_line, report_text}
use Rattle.range.specs.Lines.{front_text, back_text}

-- nothing is put
pub printed_nothing : (a : List ℕ) (at : ℕ) → Printed a at [] a at
printed_nothing a at = record { holds = refl; ends = sym (add-zero at) }

-- three and four parts
pub printed_3 : {a b c d : List ℕ} {at i j k : ℕ} (xs ys zs : List ℕ) → Printed a at xs b i → Printed b i ys c j → Printed c j zs d k → Printed a at (xs ++ ys ++ zs) d k
printed_3 xs ys zs p q r = printed_then (xs ++ ys) zs (printed_then xs ys p q) r

pub printed_4 : {a b c d e : List ℕ} {at i j k l : ℕ} (xs ys zs ws : List ℕ) → Printed a at xs b i → Printed b i ys c j → Printed c j zs d k → Printed d k ws e l → Printed a at (xs ++ ys ++ zs ++ ws) e l
printed_4 xs ys zs ws p q r s = printed_then (xs ++ ys ++ zs) ws (printed_3 xs ys zs p q r) s

-- the report by its totals
pub text_of_totals : (forms : List (List ℕ)) → front_text (totals_of (map price forms)) ++ back_text (totals_of (map price forms)) ≡ report_text (length forms) (report_of (map price forms))
unfolding report_of
text_of_totals forms =
    let answers = map price forms in
    let t = totals_of answers in
    let s = sum_of (λ p. p.total) answers in
    let n = how_many is_priced answers in
    (λ i. front_text t ++ (sum_line s ++ dearest_line (index_of (meant_back (dearest_of none 0 answers) i)) ++ mean_line (s / n) (s % n)))
    ∙ sym (append_assoc (front_text t) (sum_line s ++ dearest_line (index_of (dearest_of none 0 answers))) (mean_line (s / n) (s % n)))
    ∙ ap (λ (l : List ℕ). l ++ mean_line (s / n) (s % n)) (sym (append_assoc (front_text t) (sum_line s) (dearest_line (index_of (dearest_of none 0 answers)))))
    ∙ ap (λ (m : ℕ). report_text m (report_of answers)) (length-map forms price)
