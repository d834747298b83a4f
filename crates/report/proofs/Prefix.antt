-- More bytes than the longest form has make no difference to the report.
-- Assumes nothing.
use mathlib.Core.Bool.{Bool, true, false}
use mathlib.Core.List.{List, ◌++◌}
use mathlib.Core.Path.{◌≡◌, refl, sym, ap, ◌∙◌}
use Prim.Native.Nat.{ℕ, ◌<◌}
use native.Mathlib.Omega.{arith}
use lib.Dec.{leb}
use lib.ListN.{length, take, drop, take-append-drop}
use lib.Seq.{take_all, length-take-le}
use borrow.Author.Tests.{leb-true, leb-false}
use Rattle.graph.specs.Answer.{Answer, ◌>>=◌}
use Rattle.graph.specs.Calls.{unpaired}
use Rattle.graph.specs.Form.{form_bytes}
use Rattle.graph.specs.Graph.{Graph, form1}
use Rattle.graph.specs.Read.{read_as}
use Rattle.text.proofs.Prefix.{Same, stopped, went, alike_then, alike_test, in_more, version_more}
use Rattle.text.specs.Text.{refused_line}
use Rattle.report.specs.Report.{told, report_text}

read_more : (p q : List ℕ) → form_bytes form1 form1.most form1.most_ports < length p → Same (λ g. Unit {0}) (read_as form1 p) (read_as form1 (p ++ q))
unfolding read_as
read_more p q l = alike_then _ _ (version_more p q (omega arith)) (λ v _. alike_test _ _ _ _ refl refl (λ _. in_more form1 p q l))

-- the report tells of a refusal its number alone
same_told : {x y : Answer Graph} → Same (λ g. Unit {0}) x y → told (y >>= unpaired) ≡ told (x >>= unpaired)
unfolding ◌>>=◌
same_told (stopped r s e) = ap refused_line e
same_told (went a b e p) = ap (λ (g : Graph). told (unpaired g)) e

pub report_of_prefix : (n : ℕ) (b : List ℕ) → form_bytes form1 form1.most form1.most_ports < n → report_text (take n b) ≡ report_text b
unfolding report_text
report_of_prefix n b l = go (leb (length b) n) refl
  where
    go : (t : Bool) → leb (length b) n ≡ t → told (read_as form1 (take n b) >>= unpaired) ≡ told (read_as form1 b >>= unpaired)
    go true e = ap (λ (b : List ℕ). told (read_as form1 b >>= unpaired)) (take_all n b (leb-true _ _ e))
    go false e =
        let long : length (take n b) ≡ n = length-take-le n b (omega (arith, leb-false (length b) n e)) in
        sym (same_told (read_more (take n b) (drop n b) (omega arith))) ∙ ap (λ (b : List ℕ). told (read_as form1 b >>= unpaired)) (take-append-drop n b)
