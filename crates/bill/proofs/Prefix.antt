-- More bytes than the longest form has make no difference to the bill.
-- Assumes nothing.
use mathlib.Core.Bool.{Bool, true, false}
use mathlib.Core.List.{List}
use mathlib.Core.Path.{◌≡◌, refl, sym, ap, ◌∙◌}
use Prim.Native.Nat.{ℕ, ◌<◌}
use native.Mathlib.Omega.{arith}
use lib.Dec.{leb}
use lib.ListN.{length, take, drop, take-append-drop}
use lib.Seq.{take_all, length-take-le}
use borrow.Author.Tests.{leb-true, leb-false}
use Rattle.graph.specs.Answer.{Answer, answered, ◌>>=◌, ◌>>◌}
use Rattle.graph.specs.Calls.{unpaired}
use Rattle.graph.specs.Form.{form_bytes}
use Rattle.graph.specs.Graph.{form2}
use Rattle.graph.specs.Versions.{StoredGraph, read}
use Rattle.text.proofs.Prefix.{Same, stopped, went, read_more}
use Rattle.catalogue.specs.Price.{parts_check, Priced, priced_graph, price}
use Rattle.text.specs.Text.{refused_line}
use Rattle.bill.specs.Bill.{told, bill_text}

-- what follows the read
abbrev after : StoredGraph → Answer Priced
after s = unpaired s.graph >>= λ g. parts_check g.edges >> answered (priced_graph g)

-- the bill tells of a refusal its number alone
same_told : {x y : Answer StoredGraph} → Same (λ s. Unit {0}) x y → told (y >>= after) ≡ told (x >>= after)
unfolding ◌>>=◌
same_told (stopped r s e) = ap refused_line e
same_told (went a b e p) = ap (λ (s : StoredGraph). told (after s)) e

pub bill_of_prefix : (n : ℕ) (b : List ℕ) → form_bytes form2 form2.most form2.most_ports < n → bill_text (take n b) ≡ bill_text b
unfolding bill_text price
bill_of_prefix n b l = go (leb (length b) n) refl
  where
    go : (t : Bool) → leb (length b) n ≡ t → told (read (take n b) >>= after) ≡ told (read b >>= after)
    go true e = ap (λ (b : List ℕ). told (read b >>= after)) (take_all n b (leb-true _ _ e))
    go false e =
        let long : length (take n b) ≡ n = length-take-le n b (omega (arith, leb-false (length b) n e)) in
        sym (same_told (read_more (take n b) (drop n b) (omega arith))) ∙ ap (λ (b : List ℕ). told (read b >>= after)) (take-append-drop n b)
