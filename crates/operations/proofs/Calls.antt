-- The ways out of the calls: what each step answers.
-- Assumes nothing.
use mathlib.Core.Bool.{false, and-false}
use mathlib.Core.List.{List}
use mathlib.Core.Path.{◌≡◌, ap, ◌∙◌}
use Prim.Native.Nat.{ℕ, ◌<◌}
use lib.ListN.{length}
use borrow.Author.Tests.{lt-leb}
use Rattle.std.specs.Prelude.{Err}
use Rattle.graph.specs.Answer.{Answer, answered, ◌>>=◌}
use Rattle.graph.specs.Build.{new_edge, new_operation}
use Rattle.graph.specs.Calls.{Next, on_graph, id_list, label_list, new_edge_step, new_operation_step}
use Rattle.graph.specs.Graph.{Graph, Format, counts, ports, largest, counts_fit, within_limits}
use Rattle.graph.proofs.Verdicts.{call_made, made_9}
use Rattle.form.specs.Form.{Gives}
use Rattle.form.specs.Stored.{stored_of, graph_of, format_of, Stored}
use Rattle.form.specs.declared.Refusal.TheVariants as why
use Rattle.form.specs.declared.Sizes.{Sizes}
use Rattle.form.proofs.Answers.{gives_refused}
use Rattle.form.proofs.Stored.{stored_rows, nodes_are, edges_are}
use Rattle.write.proofs.Calls.{next}

-- a result with more ports than there may be
pub graph_over : (b : List ℕ) (step : Format → Graph → Answer Next) (old : List ℕ) {z : Sizes} → Stored b z → (x : Next) → step (format_of b) (graph_of b) ≡ answered x
    → largest.most_ports < ports x.graph → Gives (on_graph b (length old) step) (Err why.ResultAboveLimit) old old
graph_over b step old s x is h =
    let over : within_limits largest x.graph ≡ false =
    rw (lt-leb (ports x.graph) largest.most_ports h) (and-false (counts_fit largest (counts x.graph))) in
    gives_refused why.ResultAboveLimit old (call_made b (length old) step (stored_of b) s.read_as x is ∙ made_9 (length old) x over)

-- ---- what the steps answer

module _ {b : List ℕ} {z : Sizes} (s : Stored b z) where
  module _ (label : ℕ) (sources targets : List ℕ) where
    pub new_edge_lists : new_edge_step (format_of b) label sources targets (graph_of b)
        ≡ (id_list (format_of b) z.nodes sources >>= λ ss. id_list (format_of b) z.nodes targets >>= λ ts. answered (next (new_edge label ss ts (graph_of b)) z.edges))
    unfolding new_edge_step
    new_edge_lists = λ i.
        let n = nodes_are (stored_rows s) i in
        id_list (format_of b) n sources >>= λ ss. id_list (format_of b) n targets >>= λ ts. answered (next (new_edge label ss ts (graph_of b)) (edges_are (stored_rows s) i))

    pub new_operation_lists : new_operation_step label sources targets (graph_of b)
        ≡ (label_list sources >>= λ ss. label_list targets >>= λ ts. answered (next (new_operation label ss ts (graph_of b)) z.edges))
    unfolding new_operation_step
    new_operation_lists = ap (λ (n : ℕ). label_list sources >>= λ ss. label_list targets >>= λ ts. answered (next (new_operation label ss ts (graph_of b)) n)) (edges_are (stored_rows s))
