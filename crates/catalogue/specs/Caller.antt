-- What a caller of ohg_price may rely on where the code is 0, and where it is 14 or 15: promises about the returned number and the bytes of the lent buffers
-- alone, one field for each. Assumes nothing.
use Rattle.std.specs.Prelude.{◌≡◌, true, List, map, ◌⊎◌, ℕ, ◌+◌, ◌*◌, ◌≤◌, length, drop}
use Rattle.le.specs.Le.{number_at, numbers}
use Rattle.graph.specs.Answer.{refusal}
use Rattle.graph.specs.Graph.{Edge, Graph}
use Rattle.choice.specs.Arcs.{In, how_many}
use Rattle.choice.specs.Drawing.{chosen}
use Rattle.packing.specs.Unpacked.{code_in, a_in, b_in}
use Rattle.packing.specs.Caller.{Draws}
use Rattle.catalogue.specs.Price.{catalogue, kinds, buffer_price, is_spider, of_kind}
use Rattle.catalogue.specs.Promises.{OfKind, FirstFault, cost, sum}

-- the numbers in the answer buffer: twelve counts, the buffers, the total
abbrev pub counts_in : List ℕ → List ℕ
counts_in new = numbers 4 12 new

abbrev pub buffers_in : List ℕ → ℕ
buffers_in new = number_at 4 new 48

abbrev pub total_in : List ℕ → ℕ
total_in new = number_at 8 new 52

-- ohg_price on the bytes b returned r, and its buffer was old and is new
pub record ToldPrice (b : List ℕ) (r : ℕ) (old new : List ℕ) (g : Graph) : Type 0 where
  -- the bytes are this graph
  pub drawing : Draws b g
  -- which has no pending pair
  pub pairless : length g.pairs ≡ 0
  -- each edge is a spider, or of a kind and with its ports
  pub in_order : (e : Edge) → In e g.edges → (is_spider e ≡ true) ⊎ OfKind e
  -- how many edges are of each kind
  pub counts : counts_in new ≡ map (of_kind g.edges) kinds
  -- every edge is counted or a spider
  pub all_counted : sum (counts_in new) + how_many is_spider g.edges ≡ length g.edges
  -- the buffers are the nodes of the choice
  pub buffers : buffers_in new ≡ length (chosen g).ids
  -- the total is counts times prices, and buffers times 260
  pub total : total_in new ≡ cost (counts_in new) catalogue + buffer_price * buffers_in new
  -- 60 bytes were written, and what was behind them stays
  pub written : a_in r ≡ 60
  pub fits : 60 ≤ length old
  pub stays : drop 60 new ≡ drop 60 old

-- the same call where the code is 14 or 15
pub record ToldFault (b : List ℕ) (r : ℕ) (old new : List ℕ) (g : Graph) : Type 0 where
  -- the bytes are this graph
  pub drawing : Draws b g
  -- which has no pending pair
  pub pairless : length g.pairs ≡ 0
  -- its first edge at fault is refused by that number
  pub fault : FirstFault g.edges (refusal (code_in r))
  -- there is no place to name
  pub place : b_in r ≡ 0
  -- and the buffer is as it was
  pub stays : new ≡ old
