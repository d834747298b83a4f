-- Which refusals the choice, with kept nodes and without and by either engine, its reasons, the no-loop check and the loop that is shown can give, whatever they are given.
-- Assumes nothing.
use mathlib.Core.List.{List}
use mathlib.Core.Path.{refl}
use Prim.Native.Nat.{ℕ}
use Rattle.graph.proofs.Refuses.{RefusedBy, answer_by, step_by}
use Rattle.graph.proofs.RefusedBy.{reads_by, id_list_by, unpaired_by, fit_by, work_by}
use Rattle.graph.specs.Calls.{in_work_room}
use Rattle.choice.specs.Calls.{listing, cycle_broken, cycle_broken_keeping, room_cycle_breaking_nodes, cycle_breaking_nodes_call, cycle_breaking_nodes_keeping_call, room_cycle_breaking_nodes_scanning, cycle_breaking_nodes_scanning_call, loop_free, no_loop_call, showing, loop_found, find_loop_call, reasoned, reasons_call}
use Rattle.choice.specs.RefusedBy.{cycle_breaking_nodes_refusals, cycle_breaking_nodes_keeping_refusals, cycle_breaking_nodes_scanning_refusals, no_loop_refusals, find_loop_refusals, reasons_refusals}
use Rattle.choice.proofs.Kept.{sixteen_by}

pub cycle_breaking_nodes_by : (b : List ℕ) (room work_room : ℕ) → RefusedBy cycle_breaking_nodes_refusals (cycle_breaking_nodes_call b room work_room)
unfolding listing cycle_broken
cycle_breaking_nodes_by b room work_room =
    let ns : List ℕ = cycle_breaking_nodes_refusals in
    work_by ns refl _ work_room _
    (step_by _ _ (reads_by ns refl b) (λ s. step_by _ _ (unpaired_by ns refl s.graph) (λ g. step_by _ _ (fit_by ns refl room _) (λ list. answer_by _))))

-- by either engine, in the work room that it needs
keeping_in : (needed : ℕ) (b kept : List ℕ) (room work_room : ℕ) → RefusedBy cycle_breaking_nodes_keeping_refusals (in_work_room needed work_room (cycle_broken_keeping b kept room))
unfolding listing cycle_broken_keeping
keeping_in needed b kept room work_room =
    let ns : List ℕ = cycle_breaking_nodes_keeping_refusals in
    work_by ns refl needed work_room _
    (step_by _ _ (reads_by ns refl b) (λ s. step_by _ _ (id_list_by ns refl s.format _ kept) (λ kept. step_by _ _ (unpaired_by ns refl s.graph) (λ g. step_by _ _ (sixteen_by ns refl kept g) (λ c. step_by _ _ (fit_by ns refl room _) (λ list. answer_by _))))))

pub cycle_breaking_nodes_keeping_by : (b kept : List ℕ) (room work_room : ℕ)
    → RefusedBy cycle_breaking_nodes_keeping_refusals (cycle_breaking_nodes_keeping_call b kept room work_room)
cycle_breaking_nodes_keeping_by = keeping_in room_cycle_breaking_nodes

pub cycle_breaking_nodes_scanning_by : (b kept : List ℕ) (room work_room : ℕ)
    → RefusedBy cycle_breaking_nodes_scanning_refusals (cycle_breaking_nodes_scanning_call b kept room work_room)
cycle_breaking_nodes_scanning_by = keeping_in room_cycle_breaking_nodes_scanning

pub no_loop_by : (b : List ℕ) (work_room : ℕ) → RefusedBy no_loop_refusals (no_loop_call b work_room)
unfolding loop_free
no_loop_by b work_room =
    let ns : List ℕ = no_loop_refusals in
    work_by ns refl _ work_room _ (step_by _ _ (reads_by ns refl b) (λ s. step_by _ _ (unpaired_by ns refl s.graph) (λ g. answer_by _)))

pub find_loop_by : (b : List ℕ) (room work_room : ℕ) → RefusedBy find_loop_refusals (find_loop_call b room work_room)
unfolding showing loop_found
find_loop_by b room work_room =
    let ns : List ℕ = find_loop_refusals in
    work_by ns refl _ work_room _
    (step_by _ _ (reads_by ns refl b) (λ s. step_by _ _ (unpaired_by ns refl s.graph) (λ g. step_by _ _ (fit_by ns refl room _) (λ list. answer_by _))))

pub reasons_by : (b : List ℕ) (room work_room : ℕ) → RefusedBy reasons_refusals (reasons_call b room work_room)
unfolding reasoned
reasons_by b room work_room =
    let ns : List ℕ = reasons_refusals in
    work_by ns refl _ work_room _
    (step_by _ _ (reads_by ns refl b) (λ s. step_by _ _ (unpaired_by ns refl s.graph) (λ g. step_by _ _ (fit_by ns refl room _) (λ list. answer_by _))))
