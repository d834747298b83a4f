-- The law of the bill's text: its lines, one after the other.
-- Assumes nothing.
use mathlib.Core.List.{List, ◌++◌}
use Prim.Native.Nat.{ℕ}
use Rattle.text.specs.Text.{ascii, Printed}
use Rattle.text.proofs.Texts.{printed_then}
use Rattle.amounts.specs.Amounts.{amount, buffers_line}
use Rattle.bill.specs.Bill.{total_line}

pub printed_list : {a b c d e f : List ℕ} {i j k l m : ℕ} (kinds : List ℕ) (buffers total : ℕ) → Printed a 0 kinds b i → Printed b i (buffers_line buffers) c j
    → Printed c j (ascii "total ") d k → Printed d k (amount total) e l → Printed e l (ascii "\n") f m → Printed a 0 (kinds ++ buffers_line buffers ++ total_line total) f m
printed_list kinds buffers total p q r s t =
    printed_then (kinds ++ buffers_line buffers) (total_line total) (printed_then kinds (buffers_line buffers) p q) (printed_then (ascii "total " ++ amount total) (ascii "\n") (printed_then (ascii "total ") (amount total) r s) t)
