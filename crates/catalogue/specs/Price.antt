-- 02, T-07, "Priced parts list": the catalogue, the refusals 14 and 15, counts, buffers and the exact total.
-- Assumes nothing.
use Rattle.std.specs.Prelude.{Bool, ◌&&◌, cond, List, [], ◌∷◌, ◌++◌, map, ℕ, ◌+◌, ◌-◌, ◌*◌, eqb, leb, length, get_or}
use Prim.Native.String.{String}
use Rattle.le.specs.Le.{bytes, row}
use Rattle.graph.specs.Lists.{range}
use Rattle.graph.specs.Graph.{Edge, Graph, spider}
use Rattle.graph.specs.Answer.{Answer, answered, refusal, Result, writing, ◌else◌, ◌>>=◌, ◌>>◌}
use Rattle.graph.specs.Versions.{read}
use Rattle.graph.specs.Calls.{unpaired, fit, in_work_room}
use Rattle.choice.specs.Arcs.{how_many}
use Rattle.choice.specs.Calls.{room_cycle_breaking_nodes}
use Rattle.choice.specs.Drawing.{chosen}

-- a kind of part: its name, how many sources and targets it has, and its price in hundredths of a cent
pub record Kind : Type 0 where
  pub name : String
  pub sources : ℕ
  pub targets : ℕ
  pub price : ℕ

-- a row of the catalogue, as the request writes it
abbrev pub kind : String → ℕ → ℕ → ℕ → Kind
kind name sources targets price = record { name = name; sources = sources; targets = targets; price = price }

-- "The catalogue is fixed and holds twelve kinds": 1 to 12
abbrev pub catalogue : List Kind
catalogue =
    kind "receive" 0 1 4200
    ∷ kind "transmit" 1 0 4200
    ∷ kind "parser" 1 2 1150
    ∷ kind "hash" 2 1 640
    ∷ kind "server table" 1 1 2300
    ∷ kind "pick" 2 1 390
    ∷ kind "rewriter" 2 1 870
    ∷ kind "probe" 1 1 510
    ∷ kind "counter" 1 1 120
    ∷ kind "splitter" 1 2 95
    ∷ kind "joiner" 2 1 95
    ∷ kind "flow store" 2 2 3100
    ∷ []

-- their labels
abbrev pub kinds : List ℕ
kinds = range 1 12

-- "an edge's label is its kind"
unfoldable pub kind_of : ℕ → Kind
kind_of label = get_or catalogue (label - 1) (kind "" 0 0 0)

-- "Each chosen node adds a loop buffer at 260."
abbrev pub buffer_price : ℕ
buffer_price = 260

-- "Spiders are free."
abbrev pub is_spider : Edge → Bool
is_spider e = eqb e.label spider

-- "14 its label is outside the catalogue, else 15 its port counts differ from the row"
unfoldable pub part_check : Edge → Answer (Unit {0})
part_check e = cond (is_spider e) (answered tt) do
  leb 1 e.label && leb e.label 12 else refusal 14
  eqb (length e.sources) (kind_of e.label).sources && eqb (length e.targets) (kind_of e.label).targets else refusal 15

-- "edges in order, the first at fault decides"
unfoldable pub parts_check : List Edge → Answer (Unit {0})
parts_check [] = answered tt
parts_check (e ∷ es) = do
  part_check e
  parts_check es

-- how many edges are of a kind
unfoldable pub of_kind : List Edge → ℕ → ℕ
of_kind es k = how_many (λ e. eqb e.label k) es

-- what an edge costs
unfoldable pub edge_price : Edge → ℕ
edge_price e = cond (is_spider e) 0 (kind_of e.label).price

-- what edges cost together
unfoldable pub edges_price : List Edge → ℕ
edges_price [] = 0
edges_price (e ∷ es) = edge_price e + edges_price es

-- "the count of each of the twelve kinds, the buffers and the exact total"
pub record Priced : Type 0 where
  pub counts : List ℕ
  pub buffers : ℕ
  pub total : ℕ

-- those of a graph whose parts are in order
unfoldable pub priced_graph : Graph → Priced
priced_graph g =
    let buffers : ℕ = length (chosen g).ids in
    record { counts = map (of_kind g.edges) kinds; buffers = buffers; total = edges_price g.edges + buffer_price * buffers }

-- a stored graph priced: 1 to 6, 13, 8, and then 14 and 15
unfoldable pub price : List ℕ → Answer Priced
price b = do
  s ← read b
  g ← unpaired s.graph
  parts_check g.edges
  answered (priced_graph g)

-- the twelve counts and the buffers, 4 bytes each, and the total in 8: 60 bytes
abbrev pub price_bytes : Priced → List ℕ
price_bytes p = row 4 p.counts ++ (bytes 4 p.buffers ++ bytes 8 p.total)

-- the same in a buffer of this room: 10 after all others
unfoldable pub price_answer : List ℕ → ℕ → Answer Result
price_answer b room = do
  p ← price b
  list ← fit room (price_bytes p)
  answered (writing list 0)

-- the tables of the choice
abbrev pub room_price : ℕ
room_price = room_cycle_breaking_nodes

abbrev pub price_call : List ℕ → ℕ → ℕ → Answer Result
price_call b room work_room = in_work_room room_price work_room (price_answer b room)
