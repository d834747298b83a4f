-- 02, T-11: the call that spiderizes all, told from sizes: whether a graph that is read and merged gives 9, 10 or an answer, how long the answered form is,
-- and that an answer spiderized again gives 9, 10 or an answer alone.
-- Assumes nothing.
use mathlib.Core.Bool.{Bool, true, false}
use mathlib.Core.List.{List, ◌∷◌, []}
use mathlib.Core.Path.{◌≡◌, refl, sym, ap, ◌∙◌, subst}
use Prim.Native.Nat.{ℕ, ◌+◌, ◌*◌, ◌≤◌}
use native.Mathlib.Omega.{arith}
use lib.Dec.{leb}
use lib.ListN.{length}
use Rattle.graph.specs.Answer.{Answer, answered, refusal, Result, writing, ◌else◌, ◌>>=◌, ◌>>◌}
use Rattle.graph.specs.Calls.{Next, fit, in_work_room, made, on_graph, spiderize_all_step, room_spiderize, spiderize_call}
use Rattle.graph.specs.Explicit.{all_counts, all_ports}
use Rattle.graph.specs.Form.{encode, form_bytes}
use Rattle.graph.specs.Graph.{Graph, Format, Counts, counts, ports, form1, form2, largest, sizes_fit, Proper}
use Rattle.graph.specs.Lists.{range}
use Rattle.graph.specs.Merge.{Merged, quotient}
use Rattle.graph.specs.Spider.{spiderize}
use Rattle.graph.specs.Versions.{StoredGraph, fitting, fitting_sizes, read, store}
use Rattle.le.specs.Le.{Below}
use Rattle.graph.proofs.Answers.{FormOf, worked, on_graph_answer, spiderize_all_kept}
use Rattle.graph.proofs.Explicit.{spiderized_all_sizes, spiderized_all_ports}
use Rattle.graph.proofs.Laws.{length_encode}
use Rattle.graph.proofs.MergeCall.{fitting_shorter}
use Rattle.graph.proofs.Merged.{quotient_sizes, quotient_proper}
use Rattle.graph.proofs.Refuses.{RefusedBy, answer_by, test_by, step_by}
use Rattle.graph.proofs.Sizes.{spiderize_sizes}
use Rattle.graph.proofs.Spidered.{spiderize_all_0, spiderize_all_unpaired}
use Rattle.graph.proofs.Steps.{same_answer, came}
use Rattle.graph.proofs.Verdicts.{in_room, call_made}
use Rattle.graph.proofs.Versions.{read_sound}

-- the bytes of the form, in either version, of a graph without pairs
pub spiderized_all_length : (g : Graph) → Proper g → length g.pairs ≡ 0
    → (length (encode form1 (spiderize (range 0 (length g.labels)) g)) ≡ 15 + 24 * length g.labels + 8 * (length g.edges + ports g + (length g.sources + length g.targets)))
    × (length (encode form2 (spiderize (range 0 (length g.labels)) g)) ≡ 25 + 36 * length g.labels + 12 * (length g.edges + ports g + (length g.sources + length g.targets)))
spiderized_all_length g p z =
    let h = spiderize (range 0 (length g.labels)) g in
    let told : (f : Format) → length (encode f h) ≡ form_bytes f (all_counts (counts g) (ports g)) (all_ports (counts g) (ports g)) =
    λ f. length_encode f h ∙ (λ i. form_bytes f (spiderized_all_sizes g p i) (spiderized_all_ports g p i)) in
    (omega (arith, told form1), omega (arith, told form2))

-- so many bytes are enough, by the sizes of the graph that is read, whatever is merged and in whichever version the form is
pub spiderized_all_enough : (g : Graph) (m : Merged) → Proper g → quotient g ≡ answered m
    → length (encode (fitting (spiderize (range 0 (length m.graph.labels)) m.graph)) (spiderize (range 0 (length m.graph.labels)) m.graph))
    ≤ 25 + 36 * length g.labels + 12 * (length g.edges + ports g + (length g.sources + length g.targets))
spiderized_all_enough g m p e =
    let z = quotient_sizes g m p e in
    omega (
      arith,
      z.nodes,
      z.edges,
      z.sources,
      z.targets,
      z.ports,
      fitting_shorter (spiderize (range 0 (length m.graph.labels)) m.graph),
      (spiderized_all_length m.graph (quotient_proper g m p e) z.pairs).1,
    )

-- what is made of a graph, by its sizes
made_by_sizes : (room : ℕ) (g : Graph) → made room (record { graph = g; id = 0 })
    ≡ ((sizes_fit largest (counts g) (ports g) else refusal 9)
    >> ((leb (form_bytes (fitting g) (counts g) (ports g)) room else refusal 10) >> answered (writing (encode (fitting g) g) 0)))
unfolding made store fit ◌else◌ ◌>>◌ ◌>>=◌
made_by_sizes room g = go (sizes_fit largest (counts g) (ports g))
  where
    form : List ℕ
    form = encode (fitting g) g

    last : (d : Bool) → (((d else refusal 10) >> answered form) >>= λ (form : List ℕ). answered (writing form 0)) ≡ ((d else refusal 10) >> answered (writing form 0))
    last true = refl
    last false = refl

    go : (c : Bool) → (((c else refusal 9) >> answered form) >>= λ (form : List ℕ). fit room form >>= λ (form : List ℕ). answered (writing form 0))
        ≡ ((c else refusal 9) >> ((leb (form_bytes (fitting g) (counts g) (ports g)) room else refusal 10) >> answered (writing form 0)))
    go true = last (leb (length form) room) ∙ ap (λ (k : ℕ). (leb k room else refusal 10) >> answered (writing form 0)) (length_encode (fitting g) g)
    go false = refl

-- what is left of the call after the read and the merge: 9 and 10, both told from the merged graph's sizes
module _ (b : List ℕ) (t : Below 256 b) (room work_room : ℕ) (lent : room_spiderize ≤ work_room) (s : StoredGraph) (e : read b ≡ answered s) (m : Merged) (k : quotient s.graph ≡ answered m) where
  pub spiderize_call_by_sizes :
      let c = all_counts (counts m.graph) (ports m.graph) in
      let p = all_ports (counts m.graph) (ports m.graph) in
      let f = fitting_sizes c p in
      spiderize_call b room work_room
      ≡ ((sizes_fit largest c p else refusal 9) >> ((leb (form_bytes f c p) room else refusal 10) >> answered (writing (encode f (spiderize (range 0 (length m.graph.labels)) m.graph)) 0)))
  spiderize_call_by_sizes =
      let proper : Proper m.graph = quotient_proper s.graph m (read_sound b s t e).formed.proper k in
      let h = spiderize (range 0 (length m.graph.labels)) m.graph in
      let by : Counts → ℕ → Answer Result =
      λ c p. (sizes_fit largest c p else refusal 9) >> ((leb (form_bytes (fitting_sizes c p) c p) room else refusal 10) >> answered (writing (encode (fitting_sizes c p) h) 0)) in
      in_room room_spiderize work_room (on_graph b room (λ f. spiderize_all_step)) lent
      ∙ call_made b room (λ f. spiderize_all_step) s e _ (spiderize_all_0 s.graph m k)
      ∙ made_by_sizes room h
      ∙ (λ i. by (spiderized_all_sizes m.graph proper i) (spiderized_all_ports m.graph proper i))

-- what the call answers: the form of the merged graph with every node spiderized, which has no pairs
pub spiderize_all_answer : (b : List ℕ) → Below 256 b → (room work_room : ℕ) (x : Result) → spiderize_call b room work_room ≡ answered x
    → (s : StoredGraph) × (m : Merged) × (read b ≡ answered s) × (quotient s.graph ≡ answered m) × Proper m.graph
    × FormOf room (spiderize (range 0 (length m.graph.labels)) m.graph) x.bytes
    × (length (spiderize (range 0 (length m.graph.labels)) m.graph).pairs ≡ 0) × (x ≡ writing x.bytes 0)
unfolding spiderize_all_step
spiderize_all_answer b t room work_room x p =
    let made = on_graph_answer b room (λ f. spiderize_all_step) x t (λ f. spiderize_all_kept) (worked room_spiderize work_room _ p) in
    let s = made.0 in
    let q = came (quotient s.graph) _ made.3 in
    let m = q.0 in
    let proper = (read_sound b s t made.2).formed.proper in
    let proper' = quotient_proper s.graph m proper q.1 in
    let is = range 0 (length m.graph.labels) in
    let next = same_answer q.2 in (
      s,
      m,
      made.2,
      q.1,
      proper',
      subst (λ (y : Next). FormOf room y.graph x.bytes) (sym next) made.4,
      ap length (spiderize_sizes is m.graph proper').pairs ∙ (quotient_sizes s.graph m proper q.1).pairs,
      made.5 ∙ ap (λ (y : Next). writing x.bytes y.id) (sym next),
    )

-- an answer spiderized again: it is read and has no pairs, so it gives 9, 10 or an answer alone
pub spiderized_all_again : (b : List ℕ) → Below 256 b → (room room' work_room work_room' : ℕ) (x : Result) → spiderize_call b room work_room ≡ answered x
    → RefusedBy (9 ∷ 10 ∷ []) (spiderize_call x.bytes room' work_room')
unfolding in_work_room made store fit
spiderized_all_again b t room room' work_room work_room' x p =
    let q = spiderize_all_answer b t room work_room x p in
    let h = spiderize (range 0 (length q.1.graph.labels)) q.1.graph in
    let goes = call_made x.bytes room' (λ f. spiderize_all_step) _ q.5.back _ (spiderize_all_unpaired h q.5.formed.proper q.6) in
    test_by _ _ _ refl (rw goes (step_by _ _ (test_by _ _ _ refl (answer_by _)) (λ form. step_by _ _ (test_by _ _ _ refl (answer_by _)) (λ form. answer_by _))))
