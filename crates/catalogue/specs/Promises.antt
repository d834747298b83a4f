-- What is promised of priced parts: which edge decides on a refusal, what an edge in order is, and what the total is made of.
-- Assumes nothing.
use Rattle.std.specs.Prelude.{◌≡◌, false, List, [], ◌∷◌, ◌++◌, ℕ, zero, ◌+◌, ◌*◌, ◌≤◌, length}
use Rattle.le.specs.Le.{Below}
use Rattle.graph.specs.Graph.{Edge}
use Rattle.graph.specs.Answer.{answered, refused, Refusal}
use Rattle.graph.specs.Versions.{StoredGraph, read}
use Rattle.choice.specs.Arcs.{how_many}
use Rattle.choice.specs.Drawing.{chosen}
use Rattle.catalogue.specs.Price.{Kind, kind_of, catalogue, buffer_price, is_spider, part_check, parts_check, Priced, priced_graph}

-- an edge of one of the twelve kinds, with its ports
pub record OfKind (e : Edge) : Type 0 where
  pub plain : is_spider e ≡ false
  pub low : 1 ≤ e.label
  pub high : e.label ≤ 12
  pub sources : length e.sources ≡ (kind_of e.label).sources
  pub targets : length e.targets ≡ (kind_of e.label).targets

-- the edges before it are in order, and this edge is refused so
pub record FirstFault (es : List Edge) (r : Refusal) : Type 0 where
  pub before : List Edge
  pub edge : Edge
  pub after : List Edge
  pub split : es ≡ before ++ (edge ∷ after)
  pub in_order : parts_check before ≡ answered tt
  pub fault : part_check edge ≡ refused r

-- what the kinds of a list cost together, so many of each
unfoldable pub cost : List ℕ → List Kind → ℕ
cost [] ks = 0
cost (n ∷ ns) [] = 0
cost (n ∷ ns) (k ∷ ks) = n * k.price + cost ns ks

-- numbers together
unfoldable pub sum : List ℕ → ℕ
sum [] = 0
sum (n ∷ ns) = n + sum ns

-- the stored graph's parts list
pub record PricedOf (b : List ℕ) (s : StoredGraph) (p : Priced) : Type 0 where
  pub stored : read b ≡ answered s
  pub pairless : length s.graph.pairs ≡ zero
  pub in_order : parts_check s.graph.edges ≡ answered tt
  pub is : p ≡ priced_graph s.graph
  -- a count for each kind
  pub twelve : length p.counts ≡ 12
  -- the buffers are the nodes of the choice
  pub buffered : p.buffers ≡ length (chosen s.graph).ids
  -- "the exact total": counts times prices, and buffers times 260
  pub billed : p.total ≡ cost p.counts catalogue + buffer_price * p.buffers
  -- every edge is counted or a spider
  pub all_counted : sum p.counts + how_many is_spider s.graph.edges ≡ length s.graph.edges

-- the most that a graph of either version can hold: 16,384 of a kind, 16,384 buffers, 73,072,640 in all
pub record Small (p : Priced) : Type 0 where
  pub counts : Below 16385 p.counts
  pub buffers : p.buffers ≤ 16384
  pub total : p.total ≤ 73072640
