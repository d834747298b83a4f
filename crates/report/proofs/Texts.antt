-- Laws of the report's text: its lines, one after the other.
-- Assumes nothing.
use mathlib.Core.Path.{◌≡◌, refl, sym, ap, subst, ◌∙◌}
use mathlib.Core.List.{List, [], ◌∷◌, ◌++◌, append-nil}
use Prim.Native.Nat.{ℕ, ◌+◌}
use native.Mathlib.Nat.{add-zero, zero-add}
use lib.ListN.{length}
use Rattle.le.specs.declared.Row.{Row}
use Rattle.le.specs.Rows.{entry, span}
use Rattle.le.proofs.Rows.{span_next}
use Rattle.graph.specs.Graph.{form1}
use Rattle.graph.specs.Lists.{joined}
use Rattle.graph.proofs.Laws.{joined_append}
use Rattle.text.specs.Text.{ascii, decimal, Printed}
use Rattle.text.proofs.Texts.{printed_then}
use Rattle.report.specs.Report.{mark_line, sizes_line, counts_line, id_line, drawing_text}

-- no id is put yet
pub printed_none : (a : List ℕ) (place : ℕ) (list : List ℕ) (r : Row) → Printed a place (joined id_line (span list r 0 0)) a place
unfolding span
printed_none a place list r = record { holds = refl; ends = sym (add-zero place) }

-- the lines of one id more of a row
pub printed_id : {a b c : List ℕ} {place mid next : ℕ} (list : List ℕ) (r : Row) (i id : ℕ) → id ≡ entry list r i
    → Printed a place (joined id_line (span list r 0 i)) b mid → Printed b mid (id_line id) c next → Printed a place (joined id_line (span list r 0 (i + 1))) c next
printed_id {a} {b} {c} {place} {mid} {next} list r i id e p q =
    let ids = span list r 0 i in
    let more : joined id_line (span list r 0 (i + 1)) ≡ joined id_line ids ++ id_line (entry list r i) =
    ap (joined id_line) (span_next list r 0 i) ∙ joined_append id_line ids (entry list r (0 + i) ∷ [])
    ∙ (λ h. joined id_line ids ++ append-nil (id_line (entry list r (zero-add i h))) h) in
    subst (λ (l : List ℕ). Printed a place l c next) (ap (λ (k : ℕ). joined id_line ids ++ id_line k) e ∙ sym more)
    (printed_then (joined id_line ids) (id_line id) p q)

-- the first line of every drawing
mark_line_lem : ascii "OHG 1\n" ≡ mark_line form1
unfolding decimal
mark_line_lem = refl

-- the lines of a drawing, one after the other
pub printed_lines : {a b c d e : List ℕ} {i j k l : ℕ} (nodes edges ports count free : ℕ) (ids : List ℕ) → count ≡ length ids
    → Printed a 0 (ascii "OHG 1\n") b i → Printed b i (sizes_line nodes edges ports) c j → Printed c j (counts_line count free) d k
    → Printed d k (joined id_line ids) e l → Printed a 0 (drawing_text nodes edges ports free ids) e l
printed_lines {a} {b} {c} {d} {e} {i} {j} {k} {l} nodes edges ports count free ids many p q r s =
    let sizes = sizes_line nodes edges ports in
    let counts = counts_line count free in
    subst (λ (t : List ℕ). Printed a 0 t e l) (λ h. mark_line_lem h ++ sizes ++ counts_line (many h) free ++ joined id_line ids)
    (printed_then (ascii "OHG 1\n" ++ sizes ++ counts) (joined id_line ids)
    (printed_then (ascii "OHG 1\n" ++ sizes) counts (printed_then (ascii "OHG 1\n") sizes p q) r) s)
