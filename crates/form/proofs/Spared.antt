-- A call in lent work room on a stored graph without pairs and a list of its nodes: the refusals in their order, and what it comes to.
-- Assumes nothing.
use mathlib.Core.List.{List}
use mathlib.Core.Path.{◌≡◌, sym, ap, ◌∙◌}
use Prim.Native.Nat.{ℕ}
use lib.Dec.{leb}
use lib.ListN.{length}
use Rattle.form.specs.Form.{tested, counted, reading}
use Rattle.form.specs.Stored.{stored_of, graph_of, format_of, Stored}
use Rattle.form.specs.declared.Sizes.{Sizes}
use Rattle.graph.specs.Answer as answer
use Rattle.graph.specs.Answer.{Answer, refused, answered, Result, ◌else◌, ◌>>=◌, refusal}
use Rattle.graph.specs.Calls.{id_list, unpaired, in_work_room}
use Rattle.graph.specs.Graph.{Graph, Format}
use Rattle.graph.specs.Versions as versions
use Rattle.graph.specs.Versions.{read}
use Rattle.le.specs.Rows.{row_at, span}
use Rattle.form.proofs.Answers.{refused_so, answered_so, work_short, work_enough}
use Rattle.form.proofs.Listed.{ids_given_lem, ids_refused}
use Rattle.form.proofs.Stored.{unread}
use Rattle.graph.proofs.Steps.{same_answer, passed, stops, goes}

-- what follows the work room's test
abbrev on_spared : List ℕ → List ℕ → (versions.StoredGraph → List ℕ → Graph → Answer Result) → Answer Result
on_spared b list next = read b >>= λ s. id_list s.format (length s.graph.labels) list >>= λ ids. unpaired s.graph >>= λ g. next s ids g

module _ (b list : List ℕ) (needed lent : ℕ) (next : versions.StoredGraph → List ℕ → Graph → Answer Result) where
  pub room_short : (r : answer.Refusal) → refused r ≡ tested (leb needed lent else refusal 10) → in_work_room needed lent (on_spared b list next) ≡ refused r
  room_short = work_short needed lent (on_spared b list next)

  module _ (enough : answered tt ≡ tested (leb needed lent else refusal 10)) where
    within : in_work_room needed lent (on_spared b list next) ≡ on_spared b list next
    within = work_enough needed lent (on_spared b list next) enough

    pub graph_unread : (r : answer.Refusal) → refused r ≡ reading (read b) → in_work_room needed lent (on_spared b list next) ≡ refused r
    graph_unread r e = within ∙ stops _ (unread b r e)

    module _ {z : Sizes} (s : Stored b z) where
      nodes : id_list (format_of b) (length (graph_of b).labels) list ≡ id_list (format_of b) z.nodes list
      nodes = ap (λ (k : ℕ). id_list (format_of b) k list) (ap (λ (y : Sizes). y.nodes) (sym s.sizes))

      pub list_bad : (r : answer.Refusal) → ((f : Format) → f.width ≡ z.width → refused r ≡ counted (id_list f z.nodes list)) → in_work_room needed lent (on_spared b list next) ≡ refused r
      list_bad r is = within ∙ goes _ s.read_as ∙ stops _ (nodes ∙ ids_refused s list z.nodes r is)

      module _ (m : ℕ) (is_ids : (f : Format) → f.width ≡ z.width → answered m ≡ counted (id_list f z.nodes list)) where
        given : id_list (format_of b) (length (graph_of b).labels) list ≡ answered (span list (row_at 0 z.width) 0 m)
        given = nodes ∙ (ids_given_lem s list z.nodes m is_ids).answers

        many : length (graph_of b).pairs ≡ z.pairs
        many = ap (λ (y : Sizes). y.pairs) (sym s.sizes)

        pub graph_paired : (r : answer.Refusal) → ((g : Graph) → length g.pairs ≡ z.pairs → refused r ≡ tested (unpaired g)) → in_work_room needed lent (on_spared b list next) ≡ refused r
        graph_paired r is = within ∙ goes _ s.read_as ∙ goes _ given ∙ stops _ (refused_so _ (unpaired (graph_of b)) r (is (graph_of b) many))

        pub graph_spared : ((g : Graph) → length g.pairs ≡ z.pairs → answered tt ≡ tested (unpaired g))
            → in_work_room needed lent (on_spared b list next) ≡ next (stored_of b) (span list (row_at 0 z.width) 0 m) (graph_of b)
        unfolding unpaired
        graph_spared is =
            let t = answered_so _ (unpaired (graph_of b)) tt (is (graph_of b) many) in
            within ∙ goes _ s.read_as ∙ goes _ given ∙ goes _ t.1 ∙ ap (next (stored_of b) (span list (row_at 0 z.width) 0 m)) (sym (same_answer (passed _ _ _ t.1).1))
