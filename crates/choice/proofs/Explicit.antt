-- 02, T-11: spiderizing all makes the whole drawing explicit, of a graph and of stored bytes.
-- Assumes nothing.
use mathlib.Core.Bool.{Bool, true, false}
use mathlib.Core.List.{List, map}
use mathlib.Core.Path.{◌≡◌, ap, ◌∙◌}
use Prim.Native.Nat.{ℕ}
use native.Mathlib.Omega.{arith}
use lib.ListN.{length}
use Rattle.le.specs.Le.{Below}
use Rattle.graph.specs.Answer.{answered, Result, saying}
use Rattle.graph.specs.Calls.{room_once_fed, fed_once, spiderize_call}
use Rattle.graph.specs.Checks.{monogamous}
use Rattle.graph.specs.Graph.{Graph, Proper}
use Rattle.graph.specs.Lists.{range, among}
use Rattle.graph.specs.Spider.{spiderize}
use Rattle.graph.specs.Versions.{StoredGraph, read}
use Rattle.graph.proofs.Explicit.{spiderized_all_once_fed, spiderized_all_ports}
use Rattle.graph.proofs.ExplicitCall.{spiderize_all_answer}
use Rattle.graph.proofs.Monogamous.{monogamous_iff}
use Rattle.graph.proofs.Spidered.{listed_all}
use Rattle.graph.proofs.Steps.{goes}
use Rattle.graph.proofs.Verdicts.{in_room, unpaired_0}
use Rattle.choice.specs.Arcs.{NoCycle}
use Rattle.choice.specs.Calls.{room_no_loop, loop_free}
use Rattle.choice.specs.Drawing.{arcs, chosen}
use Rattle.choice.specs.Explicit.{Explicit, ExplicitForm}
use Rattle.choice.proofs.Fits.{below_in}
use Rattle.choice.proofs.Graphs.{chosen_breaks, no_loop_iff_no_cycle}
use Rattle.choice.proofs.Ranks.{back, spiderized_cycle}
use Rattle.choice.proofs.Spiderized.{check_gives}

-- no directed cycle is left: one would be a cycle of the graph that avoids every node, and each cycle has a node, as a chosen one
pub spiderized_all_no_cycle : (g : Graph) → Proper g → NoCycle (arcs (spiderize (range 0 (length g.labels)) g))
unfolding spiderize
spiderized_all_no_cycle g proper c y =
    let n = length g.labels in
    let old = spiderized_cycle (among (range 0 n)) g proper c y in
    let breaks = chosen_breaks g proper in
    let met = breaks.meets (map (back (among (range 0 n)) g) c) old.0 in
    let node = below_in n (chosen g).ids breaks.nodes met.0 met.2 in
    let listed : among (range 0 n) met.0 ≡ true = listed_all n met.0 node in
    let not_listed : among (range 0 n) met.0 ≡ false = old.1 met.0 met.1 node in
    let z : ◌≡◌ {A = ℕ} 0 1 = cc in
    omega arith

-- the three facts of a graph
pub spiderized_all_explicit : (g : Graph) → Proper g → Explicit g (spiderize (range 0 (length g.labels)) g)
spiderized_all_explicit g p =
    let once = (monogamous_iff (spiderize (range 0 (length g.labels)) g)).0 (spiderized_all_once_fed g p) in
    record { fed = λ v l. (once v l).0; used = λ v l. (once v l).1; acyclic = spiderized_all_no_cycle g p; ports = spiderized_all_ports g p }

-- ---- of stored bytes

-- the once-fed check of a form that is read as a graph without pairs
once_fed_gives : (form : List ℕ) (s : StoredGraph) → read form ≡ answered s → length s.graph.pairs ≡ 0 → fed_once form ≡ answered (saying (monogamous s.graph))
unfolding fed_once
once_fed_gives form s e z = goes _ e ∙ goes _ (unpaired_0 s.graph z)

-- where the call is answered, the form is that of the explicit graph, and both checks say yes of it
pub spiderize_call_explicit : (b : List ℕ) → Below 256 b → (room work_room : ℕ) (x : Result) → spiderize_call b room work_room ≡ answered x → ExplicitForm b x.bytes
spiderize_call_explicit b t room work_room x p =
    let q = spiderize_all_answer b t room work_room x p in
    let g = q.1.graph in
    let h = spiderize (range 0 (length g.labels)) g in
    let all = spiderized_all_explicit g q.4 in
    record {
      before = q.0;
      stored = q.2;
      between = q.1;
      merged = q.3;
      after = _;
      back = q.5.back;
      explicit = all;
      once_fed = λ room l. in_room room_once_fed room (fed_once x.bytes) l ∙ once_fed_gives x.bytes _ q.5.back q.6
          ∙ ap (λ (y : Bool). answered (saying y)) (spiderized_all_once_fed g q.4);
      no_loop = λ room l. in_room room_no_loop room (loop_free x.bytes) l ∙ check_gives x.bytes _ q.5.back q.6
          ∙ ap (λ (y : Bool). answered (saying y)) ((no_loop_iff_no_cycle h q.5.formed.proper).1 all.acyclic);
    }
