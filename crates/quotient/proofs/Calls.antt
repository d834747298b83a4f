-- The ways out of the call: from the value met in code to what the call gives.
-- Assumes nothing.
use mathlib.Core.List.{List}
use mathlib.Core.Path.{◌≡◌, sym, ap, ◌∙◌, subst}
use Prim.Native.Nat.{ℕ, ◌+◌, ◌*◌, ◌≤◌, ◌<◌}
use native.Mathlib.Omega.{arith}
use lib.Dec.{leb}
use lib.ListN.{length}
use lib.Seq.{sets, ext_get_or}
use Rattle.std.specs.Prelude.{Ok}
use Rattle.le.specs.Le.{row, number_at, words}
use Rattle.le.specs.Rows.{row_at, place_in, entry, span, puts}
use Rattle.le.proofs.Numbers.{length_row}
use Rattle.le.proofs.Places.{get_d_words}
use Rattle.le.proofs.Rows.{length_span, span_at}
use Rattle.graph.specs.Answer as answer
use Rattle.graph.specs.Answer.{Answer, refused, answered, writing, lay, ◌else◌, refusal}
use Rattle.graph.specs.Calls.{made, nodes_merged, room_quotient}
use Rattle.graph.specs.Graph.{Graph}
use Rattle.graph.specs.Merge.{Merged, merged, quotient}
use Rattle.graph.specs.Versions.{read, fitting}
use Rattle.graph.specs.Form.{encode}
use Rattle.graph.proofs.Merged.{quotient_answer}
use Rattle.graph.proofs.Places.{sets_lay}
use Rattle.graph.proofs.Steps.{stops, goes}
use Rattle.form.specs.Form.{tested}
use Rattle.form.specs.Stored.{graph_of, format_of, Stored}
use Rattle.form.specs.declared.Sizes.{Sizes}
use Rattle.form.proofs.Answers.{answered_so}
use Rattle.form.proofs.Stored.{stored_rows, nodes_are}
use Rattle.write.proofs.Maps.{with_map, map_refused, map_short, map_fits}
use Rattle.classes.specs.Forest.{Tabled, MapMade}

pub nodes_roomy : {b : List ℕ} {z : Sizes} {n : ℕ} → Stored b z → room_quotient ≤ n → 4 * z.nodes ≤ n
nodes_roomy s l = omega (arith, nodes_are (stored_rows s), s.within.counts.nodes)

-- the classes were found, and their map stands in the room
pub record Told (b : List ℕ) (nodes : ℕ) (room : List ℕ) : Type 0 where
  pub answers : quotient (graph_of b) ≡ answered (merged (graph_of b))
  pub count : nodes ≡ length (merged (graph_of b)).graph.labels
  pub map : Tabled (length (graph_of b).labels) (merged (graph_of b)).ids (words room)

pub classes_told : {b room : List ℕ} {nodes : ℕ} → MapMade (graph_of b) (words room) (Ok nodes) → Told b nodes room
classes_told {b} {room} {nodes} m =
    let g = graph_of b in
    let t = answered_so (λ (k : Merged). length k.graph.labels) (quotient g) nodes m.answer in
    let same = (quotient_answer g t.0 t.1).1 in
    record {
      answers = t.1 ∙ ap answered (sym same);
      count = t.2 ∙ ap (λ (y : Merged). length y.graph.labels) (sym same);
      map = subst (λ (y : Merged). Tabled (length g.labels) y.ids (words room)) (sym same) (m.map t.0 t.1);
    }

module _ (b : List ℕ) (room map_room : ℕ) where
  pub merged_unread : (r : answer.Refusal) → read b ≡ refused r → nodes_merged b room map_room ≡ refused r
  unfolding nodes_merged
  merged_unread r e = stops _ e

  module _ {z : Sizes} (s : Stored b z) where
    pub merged_differ : (r : answer.Refusal) → quotient (graph_of b) ≡ refused r → nodes_merged b room map_room ≡ refused r
    unfolding nodes_merged
    merged_differ r e = goes _ s.read_as ∙ stops _ e

    module _ (is : quotient (graph_of b) ≡ answered (merged (graph_of b))) where
      abbrev mapped : List ℕ
      mapped = row (format_of b).width (merged (graph_of b)).ids

      abbrev graph : Graph
      graph = (merged (graph_of b)).graph

      reached : nodes_merged b room map_room ≡ with_map room map_room graph mapped (length (graph_of b).labels)
      unfolding nodes_merged
      reached = goes _ s.read_as ∙ goes _ is

      pub merged_refused : (r : answer.Refusal) → made room (record { graph = graph; id = 0 }) ≡ refused r → nodes_merged b room map_room ≡ refused r
      merged_refused r e = reached ∙ map_refused room map_room graph mapped (length (graph_of b).labels) r e

      module _ (long : length (merged (graph_of b)).ids ≡ z.nodes) where
        map_long : length mapped ≡ z.nodes * z.width
        map_long =
            length_row (format_of b).width (merged (graph_of b)).ids ∙ ap (λ (n : ℕ). n * (format_of b).width) long
            ∙ ap (λ (w : ℕ). z.nodes * w) (sym (ap (λ (y : Sizes). y.width) s.sizes))

        abbrev form : List ℕ
        form = encode (fitting graph) graph

        module _ (makes : made room (record { graph = graph; id = 0 }) ≡ answered (writing form 0)) where
          pub merged_no_map : (r : answer.Refusal) → refused r ≡ tested (leb (z.nodes * z.width) map_room else refusal 10) → nodes_merged b room map_room ≡ refused r
          merged_no_map r e = reached ∙ map_short room map_room graph mapped (length (graph_of b).labels) makes map_long r e

          pub merged_done : answered tt ≡ tested (leb (z.nodes * z.width) map_room else refusal 10) → nodes_merged b room map_room
              ≡ answered (record { a = length form; b = length (graph_of b).labels; bytes = form; map = mapped })
          merged_done e = reached ∙ map_fits room map_room graph mapped (length (graph_of b).labels) makes map_long e

        -- the words as a row
        words_row : (W : List ℕ) → 4 * z.nodes ≤ length W → Tabled z.nodes (merged (graph_of b)).ids (words W) → span W (row_at 0 4) 0 z.nodes ≡ (merged (graph_of b)).ids
        unfolding entry
        words_row W held map =
            ext_get_or 0 (span W (row_at 0 4) 0 z.nodes) (merged (graph_of b)).ids (length_span W (row_at 0 4) 0 z.nodes ∙ sym long)
            (λ i h.
            let l : i < z.nodes = omega (arith, length_span W (row_at 0 4) 0 z.nodes) in
            let e : place_in (row_at 0 4) (0 + i) ≡ 4 * i = omega arith in
            span_at W (row_at 0 4) 0 z.nodes i l ∙ ap (number_at 4 W) e ∙ sym (get_d_words W i (omega (arith, held))) ∙ map.is i l)

        -- the map that was put is the answered one
        pub map_put : (W old : List ℕ) → 4 * z.nodes ≤ length W → Tabled z.nodes (merged (graph_of b)).ids (words W) → z.nodes * z.width ≤ length old
            → puts old (row_at 0 z.width) 0 (span W (row_at 0 4) 0 z.nodes) ≡ lay mapped old
        unfolding puts
        map_put W old held map l =
            let start : place_in (row_at 0 z.width) 0 ≡ 0 = omega arith in
            (λ i. sets old (start i) (row (s.sizes i).width (words_row W held map i))) ∙ sets_lay mapped old (rw map_long l)
