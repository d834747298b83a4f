-- How large the numbers of a priced parts list are: in both versions each fits its field.
-- Assumes nothing.
use mathlib.Core.Bool.{Bool, true, false, cond}
use mathlib.Core.List.{List, [], ◌∷◌, map}
use Prim.Native.Nat.{ℕ, zero, suc, ◌+◌, ◌-◌, ◌*◌, ◌≤◌, ◌<◌, zero-le}
use native.Mathlib.Omega.{arith}
use lib.Dec.{eqb}
use lib.ListN.{length, get_or}
use Rattle.le.specs.Le.{Below}
use Rattle.graph.specs.Graph.{Edge, Graph, largest, WellFormed}
use Rattle.choice.specs.Drawing.{chosen}
use Rattle.cycle.proofs.Few.{ascending_few}
use Rattle.choice.proofs.Degrees.{how_many_length}
use Rattle.choice.proofs.Graphs.{chosen_breaks}
use Rattle.catalogue.specs.Price.{Kind, kind, catalogue, kinds, kind_of, is_spider, of_kind, edge_price, edges_price, priced_graph}
use Rattle.catalogue.specs.Promises.{Small}

-- an entry of a list of numbers below a bound
pub get_d_below : (m : ℕ) (xs : List ℕ) → 0 < m → Below m xs → (k : ℕ) → get_or xs k 0 < m
get_d_below m [] l b k = l
get_d_below m (x ∷ xs) l b zero = b.0
get_d_below m (x ∷ xs) l b (suc k) = get_d_below m xs l b.1 k

of_kind_few : (es : List Edge) (k : ℕ) → of_kind es k ≤ length es
unfolding of_kind
of_kind_few es k = how_many_length (λ e. eqb e.label k) es

-- no kind costs more than 4,200
dear : (ks : List Kind) → Below 4201 (map (λ k. k.price) ks) → (i : ℕ) → (get_or ks i (kind "" 0 0 0)).price ≤ 4200
dear [] b i = zero-le
dear (k ∷ ks) b zero = omega (arith, b.0)
dear (k ∷ ks) b (suc i) = dear ks b.1 i

pub kind_few : (label : ℕ) → (kind_of label).price ≤ 4200
unfolding kind_of
kind_few label = dear catalogue (omega arith) (label - 1)

pub edges_price_few : (es : List Edge) → edges_price es ≤ 4200 * length es
unfolding edges_price edge_price
edges_price_few [] = zero-le
edges_price_few (e ∷ es) = go (is_spider e) (edges_price_few es)
  where
    go : (b : Bool) → edges_price es ≤ 4200 * length es → cond b 0 (kind_of e.label).price + edges_price es ≤ 4200 * suc (length es)
    go true l = omega arith
    go false l = omega (arith, kind_few e.label)

pub counts_below : (es : List Edge) (m : ℕ) → length es < m → (ks : List ℕ) → Below m (map (of_kind es) ks)
counts_below es m l [] = tt
counts_below es m l (k ∷ ks) = (omega (arith, of_kind_few es k), counts_below es m l ks)

pub buffers_few : (g : Graph) → WellFormed largest g → length (chosen g).ids ≤ 16384
buffers_few g w =
    let c = chosen_breaks g w.proper in
    omega (arith, ascending_few (length g.labels) (chosen g).ids c.ascends c.nodes, w.counts.nodes)

pub graph_small : (g : Graph) → WellFormed largest g → Small (priced_graph g)
unfolding priced_graph
graph_small g w = record {
  counts = counts_below g.edges 16385 (omega (arith, w.counts.edges)) kinds;
  buffers = buffers_few g w;
  total = omega (arith, edges_price_few g.edges, w.counts.edges, buffers_few g w);
}
