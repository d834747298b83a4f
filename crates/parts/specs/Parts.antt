-- What the types of this crate stand for.
-- Assumes nothing.
use Rattle.std.specs.Prelude.{◌≡◌, cond, List, ◌++◌, map, ◌⊎◌, ℕ, ◌+◌, ◌-◌, ◌*◌, ◌≤◌, eqb, length, get_or, set}
use Rattle.le.specs.Le.{Below, bytes, row}
use Rattle.graph.specs.Graph.{Edge, spider}
use Rattle.graph.specs.Answer.{Answer}
use Rattle.form.specs.Form.{telling}
use Rattle.catalogue.specs.Price.{Kind, kinds, kind_of, of_kind, edges_price, buffer_price, Priced}
use Rattle.parts.specs.declared.KindRow.{KindRow}
use Rattle.parts.specs.declared.Parts.{Parts}
use Rattle.parts.specs.declared.Bill.{Bill}

-- a row of the catalogue in code
abbrev pub row_of : Kind → KindRow
row_of k = record { sources = k.sources; targets = k.targets; price = k.price }

-- the label of a kind
pub record InCatalogue (label : ℕ) : Type 0 where
  pub low : 1 ≤ label
  pub high : label ≤ 12

-- the counters of these edges, and what they cost
abbrev pub parts_of : List Edge → Parts
parts_of es = record { counts = map (of_kind es) kinds; total = edges_price es }

-- an edge of this label may be counted: it is a spider or of a kind, and the numbers are far from the ends of their fields
pub record Addable (p : Parts) (label : ℕ) : Type 0 where
  pub known : (label ≡ spider) ⊎ InCatalogue label
  pub counts : Below 16384 p.counts
  pub total : p.total ≤ 68808600

-- its kind's counter is raised
abbrev pub added : Parts → ℕ → Parts
added p label = cond (eqb label spider) p (record {
  counts = set p.counts (label - 1) (get_or p.counts (label - 1) 0 + 1);
  total = p.total + (kind_of label).price;
})

-- parts with so many loop buffers
abbrev pub billed : Parts → ℕ → Bill
billed p buffers = record { counts = p.counts; buffers = buffers; total = p.total + buffer_price * buffers }

-- a priced parts list in code
abbrev pub bill_of : Priced → Bill
bill_of p = record { counts = p.counts; buffers = p.buffers; total = p.total }

-- counters as a priced graph has them: one for each kind, and far from the end of its field
pub record Countable (counts : List ℕ) : Type 0 where
  pub twelve : length counts ≡ 12
  pub few : Below 16385 counts

-- its bytes
abbrev pub bytes_of : Bill → List ℕ
bytes_of p = row 4 p.counts ++ (bytes 4 p.buffers ++ bytes 8 p.total)

-- what pricing answers
abbrev pub pricing : Answer Priced → Answer Bill
pricing = telling bill_of
