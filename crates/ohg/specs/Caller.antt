-- What a caller of the choice, with kept nodes and without, of spiderizing its list, of the no-loop check and of the loop that is shown may rely on where the code is 0: promises about the returned number
-- and the bytes of the lent buffers alone, one field for each; and where the code is 16. `code_in`, `a_in` and `b_in` take the number apart.
-- Assumes nothing.
use Rattle.std.specs.Prelude.{◌≡◌, cond, List, [], ◌∷◌, ◌⊎◌, ◌↔◌, ℕ, ◌+◌, ◌*◌, ◌/◌, ◌%◌, ◌≤◌, T, eqb, length, take, drop}
use Rattle.le.specs.Le.{Below, number_at, numbers}
use Rattle.graph.specs.Graph.{Graph}
use Rattle.graph.specs.Spider.{spiderize}
use Rattle.choice.specs.Arcs.{In, vertices, Cycle, NoCycle}
use Rattle.choice.specs.Choice.{Chooses, Ascends}
use Rattle.choice.specs.Drawing.{arcs, vertex_count, selectable}
use Rattle.choice.specs.Keeping.{unkept, KeptCycle}
use Rattle.choice.specs.Loop.{first_core, since, Lowest, Walks}
use Rattle.choice.specs.Promises.{NoneOrShown}
use Rattle.choice.specs.Simple.{SimpleCycle}
use Rattle.packing.specs.Unpacked.{a_in, b_in}
use Rattle.packing.specs.Caller.{Draws}

-- the bytes of an id in the lists of a call on these bytes, as ohg_width of the header tells them: 4 where the version is 2, else 2
abbrev pub width_in : List ℕ → ℕ
width_in b = cond (eqb (number_at 2 b 3) 2) 4 2

-- the bytes that the first a ids of a list buffer take, and these ids
abbrev pub list_bytes : List ℕ → ℕ → ℕ
list_bytes b r = a_in r * width_in b

abbrev pub listed : List ℕ → ℕ → List ℕ → List ℕ
listed b r list = numbers (width_in b) (a_in r) list

-- ohg_cycle_breaking_nodes on the bytes b returned r, and its list buffer was old and is new
pub record ToldChoice (b : List ℕ) (r : ℕ) (old new : List ℕ) (g : Graph) : Type 0 where
  -- the bytes are this graph
  pub drawing : Draws b g
  -- which has no pending pair
  pub pairless : length g.pairs ≡ 0
  -- the listed ids ascend strictly
  pub ascends : Ascends (listed b r new)
  -- each is a node
  pub nodes : Below (length g.labels) (listed b r new)
  -- there are none exactly if no directed cycle exists
  pub none : (listed b r new ≡ []) ↔ NoCycle (arcs g)
  -- every directed cycle passes through one of them
  pub meets : (c : List ℕ) → Cycle (arcs g) c → (v : ℕ) × In v c × In v (listed b r new)
  -- every run of the stages, whatever the order of its free removals, chooses just these ids and makes just b free removals
  pub every_run : (ids : List ℕ) (free : ℕ) → Chooses (arcs g) (selectable g) (vertices (vertex_count g)) ids free → (ids ≡ listed b r new) × (free ≡ b_in r)
  -- and there is such a run
  pub some_run : Chooses (arcs g) (selectable g) (vertices (vertex_count g)) (listed b r new) (b_in r)
  -- a and b together are all nodes and edges
  pub all : a_in r + b_in r ≡ length g.labels + length g.edges
  -- the list is wholly in the buffer, and what was behind it stays
  pub fits : list_bytes b r ≤ length old
  pub stays : drop (list_bytes b r) new ≡ drop (list_bytes b r) old

-- the ids in the bytes of a list that a caller gives to a call on these bytes
abbrev pub ids_given : List ℕ → List ℕ → List ℕ
ids_given b list = numbers (width_in b) (length list / width_in b) list

-- the bytes b are the graph g, and with them the bytes kept are such a list as ohg_cycle_breaking_nodes_keeping asks for
pub record Keepable (b kept : List ℕ) (g : Graph) : Type 0 where
  -- the bytes are this graph
  pub drawing : Draws b g
  -- which has no pending pair
  pub pairless : length g.pairs ≡ 0
  -- the list ends with an id
  pub whole : length kept % width_in b ≡ 0
  -- each is a node
  pub known : Below (length g.labels) (ids_given b kept)

-- ohg_cycle_breaking_nodes_keeping on the bytes b and the list kept returned r, and its list buffer was old and is new
pub record ToldKeeping (b kept : List ℕ) (r : ℕ) (old new : List ℕ) (g : Graph) : Type 0 where
  -- the bytes are this graph without a pending pair, and the list is of its nodes
  pub given : Keepable b kept g
  -- the listed ids ascend strictly
  pub ascends : Ascends (listed b r new)
  -- each is a node
  pub nodes : Below (length g.labels) (listed b r new)
  -- no kept node is listed
  pub spared : (v : ℕ) → In v (listed b r new) → In v (ids_given b kept) → ⊥
  -- there are none exactly if no directed cycle exists
  pub none : (listed b r new ≡ []) ↔ NoCycle (arcs g)
  -- every directed cycle passes through one of them
  pub meets : (c : List ℕ) → Cycle (arcs g) c → (v : ℕ) × In v c × In v (listed b r new)
  -- every run of the stages among the nodes that are not kept, whatever the order of its free removals, chooses just these ids and makes just b free
  -- removals
  pub every_run : (ids : List ℕ) (free : ℕ) → Chooses (arcs g) (unkept (ids_given b kept) g) (vertices (vertex_count g)) ids free → (ids ≡ listed b r new) × (free ≡ b_in r)
  -- and there is such a run
  pub some_run : Chooses (arcs g) (unkept (ids_given b kept) g) (vertices (vertex_count g)) (listed b r new) (b_in r)
  -- a and b together are all nodes and edges
  pub all : a_in r + b_in r ≡ length g.labels + length g.edges
  -- the list is wholly in the buffer, and what was behind it stays
  pub fits : list_bytes b r ≤ length old
  pub stays : drop (list_bytes b r) new ≡ drop (list_bytes b r) old

-- the same call where the code is 16
pub record ToldKeptCycle (b kept : List ℕ) (r : ℕ) (old new : List ℕ) (g : Graph) : Type 0 where
  -- the bytes are this graph without a pending pair, and the list is of its nodes
  pub given : Keepable b kept g
  -- some directed cycle has only kept nodes
  pub cycle : KeptCycle (ids_given b kept) g
  -- there is no place to name
  pub place : b_in r ≡ 0
  -- and the buffer is as it was
  pub stays : new ≡ old

-- ohg_spiderize_nodes on the bytes b and that list, which is the first a ids of the buffer `list` by the number c, returned r; its buffer was old and is
-- new; g is the graph that was read, and k the one that is answered
pub record ToldSpiderized (b : List ℕ) (c : ℕ) (list : List ℕ) (r : ℕ) (old new : List ℕ) (g k : Graph) : Type 0 where
  -- the bytes that were read are the one graph
  pub drawing : Draws b g
  -- the first a bytes of the buffer are the other
  pub answer : Draws (take (a_in r) new) k
  -- which is the first spiderized at the listed nodes
  pub spiderized : k ≡ spiderize (listed b c list) g
  -- it has no directed cycle
  pub none : NoCycle (arcs k)
  -- it is wholly in the buffer, and what was behind it stays
  pub fits : a_in r ≤ length old
  pub stays : drop (a_in r) new ≡ drop (a_in r) old

-- ohg_no_loop on the bytes b returned r
pub record ToldNoLoop (b : List ℕ) (r : ℕ) (g : Graph) : Type 0 where
  -- the bytes are this graph
  pub drawing : Draws b g
  -- a is 1 exactly if it has no directed cycle
  pub says_yes : (a_in r ≡ 1) ↔ NoCycle (arcs g)
  -- and 0 exactly if it has one
  pub says_no : (a_in r ≡ 0) ↔ ((c : List ℕ) × Cycle (arcs g) c)

-- ohg_find_loop on the bytes b returned r, and its list buffer was old and is new
pub record ToldLoop (b : List ℕ) (r : ℕ) (old new : List ℕ) (g : Graph) : Type 0 where
  -- the bytes are this graph
  pub drawing : Draws b g
  -- which has no pending pair
  pub pairless : length g.pairs ≡ 0
  -- no vertex is listed exactly if no directed cycle exists
  pub none : (listed b r new ≡ []) ↔ NoCycle (arcs g)
  -- and else the listed vertices are a directed cycle along the graph's arcs, in its order, that passes none twice
  pub cycle : (listed b r new ≡ []) ⊎ SimpleCycle (arcs g) (listed b r new)
  -- each is a node or an edge, edges numbered on after the nodes
  pub vertices : Below (length g.labels + length g.edges) (listed b r new)
  -- the walk that the rule allows, from the lowest node of the first core: b is its length, and the list is what it visits from the first visit of the
  -- vertex met again on
  pub every_walk : (start : ℕ) (visits : List ℕ) (again : ℕ) → Lowest (first_core g) (λ v. T (selectable g v)) start → Walks (arcs g) (first_core g) (start ∷ []) start visits again
      → (listed b r new ≡ since again visits) × (b_in r ≡ length visits)
  -- and there is such a walk, unless there is no directed cycle and no step
  pub some_walk : NoneOrShown (arcs g) (selectable g) (first_core g) (record { list = listed b r new; steps = b_in r })
  -- no more are listed than steps were taken, and no more steps than there are nodes and edges
  pub few : (a_in r ≤ b_in r) × (b_in r ≤ length g.labels + length g.edges)
  -- the list is wholly in the buffer, and what was behind it stays
  pub fits : list_bytes b r ≤ length old
  pub stays : drop (list_bytes b r) new ≡ drop (list_bytes b r) old
