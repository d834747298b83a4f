-- For the caller of both engines of the choice: by the returned numbers and the lent buffers they answer the same, so that all that holds of the first
-- holds of the second.
-- Assumes nothing.
use mathlib.Core.List.{List}
use mathlib.Core.Path.{◌≡◌, sym, ap, ◌∙◌, subst}
use Prim.Native.Nat.{ℕ, ◌≤◌}
use lib.ListN.{length}
use Rattle.le.specs.Le.{Below}
use Rattle.graph.specs.Answer.{Answer, Result, laid}
use Rattle.graph.specs.Graph.{Graph}
use Rattle.choice.specs.Calls.{room_cycle_breaking_nodes, cycle_breaking_nodes_keeping_call, room_cycle_breaking_nodes_scanning, cycle_breaking_nodes_scanning_call}
use Rattle.choice.proofs.Sweeps.{engines_agree, scanned_kept}
use Rattle.packing.specs.Packed.{packed, Returns}
use Rattle.packing.specs.Unpacked.{code_in}
use Rattle.packing.proofs.Caller.{answer_of_lem}
use Rattle.ohg.specs.Caller.{ToldKeeping}
use Rattle.ohg.proofs.Caller.{keeping_for_the_caller}
use Rattle.ohg.proofs.Ranges.{cycle_breaking_nodes_scanning_ranged}

-- the same bytes, the same kept list and list buffers of one length, each engine lent the work room that it needs: the same number is returned, and
-- buffers that were alike are alike
pub engines_agree_for_the_caller : (b kept old new old' new' : List ℕ) (lent lent' r r' : ℕ) → length old' ≡ length old
    → room_cycle_breaking_nodes ≤ lent → room_cycle_breaking_nodes_scanning ≤ lent'
    → Returns (cycle_breaking_nodes_keeping_call b kept (length old) lent) r old new
    → Returns (cycle_breaking_nodes_scanning_call b kept (length old') lent') r' old' new'
    → (r' ≡ r) × (old' ≡ old → new' ≡ new)
engines_agree_for_the_caller b kept old new old' new' lent lent' r r' long enough enough' first second =
    let same : cycle_breaking_nodes_scanning_call b kept (length old') lent' ≡ cycle_breaking_nodes_keeping_call b kept (length old) lent =
    ap (λ (k : ℕ). cycle_breaking_nodes_scanning_call b kept k lent') long ∙ engines_agree b kept (length old) lent lent' enough enough' in (
      second.number ∙ ap packed same ∙ sym first.number,
      λ e. second.buffer ∙ (λ i. laid (same i) (e i)) ∙ sym first.buffer,
    )

-- an answered call of the second engine promises what one of the first does
pub scanning_for_the_caller : (b : List ℕ) → Below 256 b → (kept old new : List ℕ) (lent r : ℕ) → Returns (cycle_breaking_nodes_scanning_call b kept (length old) lent) r old new
    → code_in r ≡ 0 → (g : Graph) × ToldKeeping b kept r old new g
scanning_for_the_caller b t kept old new lent r h code =
    let call = cycle_breaking_nodes_scanning_call b kept (length old) lent in
    let p = answer_of_lem call (cycle_breaking_nodes_scanning_ranged b t (length old) kept lent) h.number code in
    let same : call ≡ cycle_breaking_nodes_keeping_call b kept (length old) room_cycle_breaking_nodes = p.1 ∙ sym (scanned_kept b kept (length old) lent p.0 p.1) in
    keeping_for_the_caller b t kept old new room_cycle_breaking_nodes r (subst (λ (a : Answer Result). Returns a r old new) same h) code
