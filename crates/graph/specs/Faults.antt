-- T-06: what a refusal says of the bytes. Read.antt says which refusal comes first; here is what each of them means, by its place.
-- Assumes nothing.
use Rattle.std.specs.Prelude.{ℕ, ◌+◌, ◌*◌, ◌%◌, ◌/◌, ◌<◌, ◌≤◌, ◌≡◌, List, [], ◌∷◌, ◌++◌, length, get_or, take, drop}
use Rattle.le.specs.Le.{number_at}
use Rattle.graph.specs.Lists.{joined}
use Rattle.graph.specs.Graph.{Edge, Graph, Format, form1, form2, edge_entries, ids, WellFormed}
use Rattle.graph.specs.Form.{mark, header_bytes, edge_bytes, encode, form_bytes, edges_place, id_places}
use Rattle.graph.specs.Answer.{Refusal, answered, ◌carrying◌}
use Rattle.graph.specs.Read.{counts_at}
use Rattle.graph.specs.Versions.{format_numbered}

-- the limits of the five counts, in the header's order
abbrev pub limits : Format → List ℕ
limits f = f.most.nodes ∷ f.most.edges ∷ f.most.sources ∷ f.most.targets ∷ f.most.pairs ∷ []

-- count number k of the header
abbrev pub count_at : Format → List ℕ → ℕ → ℕ
count_at f b k = number_at f.width b (5 + k * f.width)

-- these edges are the bytes between the two places
pub record EdgesAt (f : Format) (b : List ℕ) (from to : ℕ) (es : List Edge) : Type 0 where
  pub stand : drop from b ≡ joined (edge_bytes f) es ++ drop to b
  pub inside : to ≤ length b

-- the first entry of a list that is not below the bound stands at k
pub record FirstBad (bound : ℕ) (xs : List ℕ) (k : ℕ) : Type 0 where
  pub inside : k < length xs
  pub before : (j : ℕ) → j < k → get_or xs j 0 < bound
  pub bad : bound ≤ get_or xs k 0

-- what is wrong with bytes of a version that are refused so
pub data Fault (f : Format) (b : List ℕ) : Refusal → Type 0 where
  -- too short for the header; for the labels; after these edges for the next one's counts; for its ids; after all of them for the lists
  cut_header : length b < header_bytes f → Fault f b (5 carrying length b)
  cut_labels : length b < edges_place f (counts_at f b) → Fault f b (5 carrying length b)
  cut_counts : (es : List Edge) (to : ℕ) → EdgesAt f b (edges_place f (counts_at f b)) to es → length b < to + 2 * f.width → Fault f b (5 carrying length b)
  cut_ids : (es : List Edge) (to : ℕ) → EdgesAt f b (edges_place f (counts_at f b)) to es
      → length b < to + (2 + (number_at f.width b to + number_at f.width b (to + f.width))) * f.width → Fault f b (5 carrying length b)
  cut_lists : (es : List Edge) → length es ≡ (counts_at f b).edges → (to : ℕ) → EdgesAt f b (edges_place f (counts_at f b)) to es
      → length b < form_bytes f (counts_at f b) (length (edge_entries es)) → Fault f b (5 carrying length b)
  -- the counts and the port sum call for fewer bytes
  extra : (es : List Edge) → length es ≡ (counts_at f b).edges → (to : ℕ) → EdgesAt f b (edges_place f (counts_at f b)) to es
      → form_bytes f (counts_at f b) (length (edge_entries es)) < length b → Fault f b (5 carrying form_bytes f (counts_at f b) (length (edge_entries es)))
  -- count k is above its limit, and none before it
  above : (k : ℕ) → k < 5 → ((j : ℕ) → j < k → count_at f b j ≤ get_or (limits f) j 0) → get_or (limits f) k 0 < count_at f b k
      → 5 + k * f.width + f.width ≤ length b → Fault f b (4 carrying 5 + k * f.width)
  -- the port sum of the edges before is within the limit, and passes it with the source count
  with_sources : (es : List Edge) (to : ℕ) → EdgesAt f b (edges_place f (counts_at f b)) to es → length (edge_entries es) ≤ f.most_ports
      → f.most_ports < length (edge_entries es) + number_at f.width b to → to + f.width ≤ length b → Fault f b (4 carrying to)
  -- it is within the limit with the source count, and passes it with the target count
  with_targets : (es : List Edge) (to : ℕ) → EdgesAt f b (edges_place f (counts_at f b)) to es
      → length (edge_entries es) + number_at f.width b to ≤ f.most_ports
      → f.most_ports < length (edge_entries es) + (number_at f.width b to + number_at f.width b (to + f.width))
      → to + f.width + f.width ≤ length b → Fault f b (4 carrying to + f.width)
  -- the bytes are the form of a drawing but for its ids: each id before is below the node count, and the one at the place is not
  bad_id : (g : Graph) (k : ℕ) → encode f g ≡ b → k < length (ids g)
      → ((j : ℕ) → j < k → number_at f.width b (get_or (id_places f g) j 0) < length g.labels)
      → length g.labels ≤ number_at f.width b (get_or (id_places f g) k 0)
      → get_or (id_places f g) k 0 + f.width ≤ length b → Fault f b (6 carrying get_or (id_places f g) k 0)

-- what is wrong with any bytes that are refused so: too few bytes; another mark; neither version; a form of a version with a fault;
-- a version 2 form whose graph fits version 1
pub data ReadFault (b : List ℕ) : Refusal → Type 0 where
  few : length b < 15 → ReadFault b (1 carrying length b)
  unmarked : 15 ≤ length b → (take 3 b ≡ mark → ⊥) → ReadFault b (2 carrying 0)
  neither : 15 ≤ length b → (number_at 2 b 3 ≡ 1 → ⊥) → (number_at 2 b 3 ≡ 2 → ⊥) → ReadFault b (3 carrying 3)
  form : (f : Format) → format_numbered (number_at 2 b 3) ≡ answered f → 15 ≤ length b → (r : Refusal) → Fault f b r → ReadFault b r
  fits_one : (g : Graph) → WellFormed form1 g → encode form2 g ≡ b → 15 ≤ length b → ReadFault b (13 carrying 0)

-- what is wrong with a list of ids that is refused so
pub data ListFault (f : Format) (count : ℕ) (b : List ℕ) : Refusal → Type 0 where
  -- its end is broken: fewer bytes follow the whole entries than an entry has
  broken_end : (length b % f.width ≡ 0 → ⊥) → ListFault f count b (7 carrying length b / f.width)
  -- each id before is below the count, and the one at the index is not
  bad_entry : (k : ℕ) → length b % f.width ≡ 0 → k < length b / f.width → ((j : ℕ) → j < k → number_at f.width b (j * f.width) < count)
      → count ≤ number_at f.width b (k * f.width) → ListFault f count b (7 carrying k)
