-- 02, T-01: the call that merges, one law for each way out: 10 for work room, a refusal of the read, 11, 10, or the answer.
-- It never gives 9 (`quotient_no_9` in Limits).
-- Assumes nothing.
use mathlib.Core.Bool.{Bool, true, false, cond}
use mathlib.Core.List.{List}
use mathlib.Core.Logic.{◌⊎◌, inl, inr}
use mathlib.Core.Path.{◌≡◌, ap, ◌∙◌, subst}
use Prim.Native.Nat.{ℕ, ◌+◌, ◌*◌, ◌≤◌, ◌<◌}
use native.Mathlib.Nat.{mul-le-mul_right}
use native.Mathlib.Omega.{arith}
use lib.ListN.{length}
use borrow.Author.Tests.{le-leb, lt-leb}
use Rattle.graph.specs.Answer.{Refusal, refused, answered, refusal, ◌else◌, ◌>>=◌, ◌>>◌}
use Rattle.graph.specs.Calls.{fit, room_quotient, nodes_merged, quotient_call}
use Rattle.graph.specs.Form.{encode}
use Rattle.graph.specs.Graph.{Graph, Format, form1, form2, largest, ports, within_limits, Proper, WellFormed}
use Rattle.graph.specs.Merge.{Merged, quotient}
use Rattle.graph.specs.Versions.{StoredGraph, fitting_sizes, fitting, read}
use Rattle.le.specs.Le.{Below, row}
use Rattle.graph.proofs.Laws.{length_encode}
use Rattle.graph.proofs.Merged.{quotient_sizes, quotient_formed}
use Rattle.graph.proofs.Steps.{stops, goes}
use Rattle.graph.proofs.Verdicts.{no_room, in_room}
use Rattle.graph.proofs.Versions.{StoredAs, fitting_first, formed_limits, read_sound, store_formed}

module _ (b : List ℕ) (room map_room work_room : ℕ) where
  pub quotient_work_10 : work_room < room_quotient → quotient_call b room map_room work_room ≡ refused (refusal 10)
  quotient_work_10 h = no_room room_quotient work_room (nodes_merged b room map_room) h

  module _ (lent : room_quotient ≤ work_room) where
    called : quotient_call b room map_room work_room ≡ nodes_merged b room map_room
    called = in_room room_quotient work_room (nodes_merged b room map_room) lent

    pub quotient_unread : (r : Refusal) → read b ≡ refused r → quotient_call b room map_room work_room ≡ refused r
    unfolding nodes_merged
    quotient_unread r e = called ∙ stops _ e

    module _ (s : StoredGraph) (e : read b ≡ answered s) where
      pub quotient_call_11 : (r : Refusal) → quotient s.graph ≡ refused r → quotient_call b room map_room work_room ≡ refused r
      unfolding nodes_merged
      quotient_call_11 r k = called ∙ goes _ e ∙ stops _ k

      module _ (t : Below 256 b) (m : Merged) (k : quotient s.graph ≡ answered m) where
        -- the two answers
        form : List ℕ
        form = encode (fitting m.graph) m.graph

        map : List ℕ
        map = row s.format.width m.ids

        -- what is left: the two buffers
        fitted : quotient_call b room map_room work_room
            ≡ (fit room form >>= λ form. fit map_room map >>= λ map. answered (record { a = length form; b = length s.graph.labels; bytes = form; map = map }))
        unfolding nodes_merged form map
        fitted =
            let sound = read_sound b s t e in
            called ∙ goes _ e ∙ goes _ k ∙ goes _ (store_formed m.graph (quotient_formed largest s.graph m (sound.version.grows s.graph sound.formed) k))

        pub quotient_call_10 : room < length (encode (fitting m.graph) m.graph) → quotient_call b room map_room work_room ≡ refused (refusal 10)
        unfolding fit form map ◌else◌ ◌>>◌ ◌>>=◌
        quotient_call_10 h = fitted ∙ rw (lt-leb (length form) room h)

        module _ (fits : length (encode (fitting m.graph) m.graph) ≤ room) where
          pub quotient_map_10 : map_room < length (row s.format.width m.ids) → quotient_call b room map_room work_room ≡ refused (refusal 10)
          unfolding fit form map ◌else◌ ◌>>◌ ◌>>=◌
          quotient_map_10 h = fitted ∙ rw (le-leb (length form) room fits, lt-leb (length map) map_room h)

          pub quotient_call_0 : length (row s.format.width m.ids) ≤ map_room → quotient_call b room map_room work_room
              ≡ answered (record {
                a = length (encode (fitting m.graph) m.graph);
                b = length s.graph.labels;
                bytes = encode (fitting m.graph) m.graph;
                map = row s.format.width m.ids;
              })
          unfolding fit form map ◌else◌ ◌>>◌ ◌>>=◌
          quotient_call_0 h = fitted ∙ rw (le-leb (length form) room fits, le-leb (length map) map_room h)

-- the merged graph's form is no longer than the graph's, of one version
same_version_shorter : (f : Format) (g : Graph) (m : Merged) → Proper g → quotient g ≡ answered m → length (encode f m.graph) ≤ length (encode f g)
same_version_shorter f g m p e =
    let z = quotient_sizes g m p e in
    let less : 2 * length m.graph.edges + ports m.graph + (length m.graph.sources + (length m.graph.targets + 2 * length m.graph.pairs))
    ≤ 2 * length g.edges + ports g + (length g.sources + (length g.targets + 2 * length g.pairs)) =
    omega (arith, z.edges, z.sources, z.targets, z.pairs, z.ports) in
    rw (length_encode f m.graph, length_encode f g) (omega (arith, z.nodes, z.edges, mul-le-mul_right f.width less))

-- nor is the form in the version that it fits longer than that of the second version
pub fitting_shorter : (g : Graph) → length (encode (fitting g) g) ≤ length (encode form2 g)
unfolding fitting_sizes
fitting_shorter g = go (within_limits form1 g)
  where
    go : (c : Bool) → length (encode (cond c form1 form2) g) ≤ length (encode form2 g)
    go true = rw (length_encode form1 g, length_encode form2 g) (omega arith)
    go false = omega arith

-- so what merging answers is no longer than what was read
pub quotient_shorter : (b : List ℕ) (s : StoredGraph) (m : Merged) → Below 256 b → read b ≡ answered s → quotient s.graph ≡ answered m
    → length (encode (fitting m.graph) m.graph) ≤ length b
quotient_shorter b s m t p e = omega (arith, ap length sound.whole, go sound.version.one)
  where
    sound : StoredAs b s
    sound = read_sound b s t p

    go : (s.format ≡ form1) ⊎ (s.format ≡ form2) → length (encode (fitting m.graph) m.graph) ≤ length (encode s.format s.graph)
    go (inl q) =
        let formed = quotient_formed form1 s.graph m (subst (λ (f : Format). WellFormed f s.graph) q sound.formed) e in
        let first : fitting m.graph ≡ form1 = fitting_first _ _ (formed_limits form1 m.graph formed) in
        rw (first, q) (same_version_shorter form1 s.graph m sound.formed.proper e)
    go (inr q) = rw q (omega (arith, fitting_shorter m.graph, same_version_shorter form2 s.graph m sound.formed.proper e))
