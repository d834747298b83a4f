-- T-12 of stored bytes: what the call answers. Vertex numbers fit the width of each version.
-- Assumes nothing.
use mathlib.Core.Path.{◌≡◌, refl, sym, ◌∙◌, subst}
use mathlib.Core.List.{List, [], append-nil}
use mathlib.Core.Logic.{◌⊎◌, inl, inr}
use Prim.Native.Nat.{ℕ, zero, ◌+◌, ◌^◌, ◌≤◌}
use native.Mathlib.Omega.{arith}
use lib.Dec.{leb}
use lib.ListN.{length}
use borrow.Author.Tests.{leb-true}
use Rattle.le.specs.Le.{Below, numbers, row}
use Rattle.le.proofs.Numbers.{below_widen, numbers_row}
use Rattle.graph.specs.Graph.{Format, form1, form2}
use Rattle.graph.specs.Answer.{answered, Result}
use Rattle.graph.specs.Versions.{StoredGraph, read}
use Rattle.graph.specs.Calls.{fit}
use Rattle.graph.proofs.Steps.{same_answer, passed, came}
use Rattle.graph.proofs.Answers.{worked}
use Rattle.graph.proofs.Versions.{Version, read_sound}
use Rattle.choice.specs.Drawing.{vertex_count}
use Rattle.choice.specs.Loop.{loop}
use Rattle.choice.specs.Calls.{showing, loop_found, room_find_loop, find_loop_call}
use Rattle.choice.specs.Promises.{LoopOf}
use Rattle.choice.proofs.Fits.{all_below_lem}
use Rattle.choice.proofs.Stored.{read_unpaired}
use Rattle.choice.proofs.Shown.{shown_below_lem}

-- "Edges are numbered on after the nodes": the width of each version holds all these numbers
pub vertices_fit : (f : Format) → Version f → f.most.nodes + f.most.edges ≤ 256 ^ f.width
vertices_fit f v = go v.one
  where
    go : (f ≡ form1) ⊎ (f ≡ form2) → f.most.nodes + f.most.edges ≤ 256 ^ f.width
    go (inl e) = subst (λ (x : Format). x.most.nodes + x.most.edges ≤ 256 ^ x.width) (sym e) (omega arith)
    go (inr e) = subst (λ (x : Format). x.most.nodes + x.most.edges ≤ 256 ^ x.width) (sym e) (omega arith)

module _ (b : List ℕ) (clean : Below 256 b) where
  -- the vertices that are listed fit the width of the version read
  pub shown_fits : (s : StoredGraph) → read b ≡ answered s → Below (256 ^ s.format.width) (loop s.graph).list
  shown_fits s r =
      let g = s.graph in
      let sound = read_sound b s clean r in
      below_widen (loop g).list (omega (arith, sound.formed.counts.nodes, sound.formed.counts.edges, vertices_fit s.format sound.version))
      (all_below_lem (vertex_count g) (loop g).list (shown_below_lem g sound.formed.proper))

  loop_of : (room : ℕ) (s : StoredGraph) → read b ≡ answered s → length s.graph.pairs ≡ zero → (list : List ℕ)
      → fit room (row s.format.width (loop s.graph).list) ≡ answered list
      → LoopOf b room s (record { a = length (loop s.graph).list; b = (loop s.graph).steps; bytes = list; map = [] })
  unfolding fit
  loop_of room s r z list p =
      let w = s.format.width in
      let xs = (loop s.graph).list in
      let q = passed (leb (length (row w xs)) room) _ (answered (row w xs)) p in
      let e : row w xs ≡ list = same_answer q.1 in
      record {
        stored = r;
        pairless = z;
        written = sym e;
        count = refl;
        steps = refl;
        fits = subst (λ (k : List ℕ). length k ≤ room) e (leb-true _ _ q.0);
        back = subst (λ (k : List ℕ). numbers w (length xs) k ≡ xs) (append-nil (row w xs) ∙ e) (numbers_row w xs [] (shown_fits s r));
      }

  -- the call's answer is the loop that is shown of the stored graph: `none_or_shown` says what holds of it
  pub find_loop_answer : (room work_room : ℕ) (c : Result) → find_loop_call b room work_room ≡ answered c → (s : StoredGraph) × LoopOf b room s c
  unfolding showing loop_found
  find_loop_answer room work_room c p =
      let q = read_unpaired b _ c (worked room_find_loop work_room (loop_found b room) p) in
      let s = q.0 in
      let l = came (fit room (row s.format.width (loop s.graph).list)) _ q.3 in
      (s, subst (LoopOf b room s) (same_answer l.2) (loop_of room s q.1 q.2 l.0 l.1))
