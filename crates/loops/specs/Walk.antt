-- The walk over the tables that the first free removal leaves: where it goes from a vertex, its steps, and the loop laid where halves have waited.
-- Assumes nothing.
use Rattle.std.specs.Prelude.{◌≡◌, Bool, ◌&&◌, cond, not, List, [], ◌∷◌, map, ◌⊎◌, ℕ, ◌+◌, ◌*◌, ◌≤◌, ◌<◌, T, eqb, ltb, length, get_or, take}
use Rattle.choice.specs.Arcs.{Arc, In, Leads, Set, has, without, size, passing, Stable}
use Rattle.choice.specs.Loop.{Walked, Loop}
use Rattle.choice.specs.Simple.{Distinct}
use Rattle.halves.specs.Halves.{vertex, Listed}
use Rattle.tables.specs.Tables.{most_vertices, waiting_at}
use Rattle.removal.specs.Room.{Source, part, list_in, Lists}

-- ---- where it goes

-- whether v has not gone
abbrev pub live_in : List ℕ → ℕ → Bool
live_in W v = not (eqb (get_or W (2 * v) 0) 0)

-- the lower of the lowest so far and v, if v is live
unfoldable pub lower_live : List ℕ → ℕ → ℕ → ℕ
lower_live W best v = cond (ltb v best && live_in W v) v best

-- the same for each of a list
unfoldable pub lowest_live : List ℕ → ℕ → List ℕ → ℕ
lowest_live W best [] = best
lowest_live W best (v ∷ vs) = lowest_live W (lower_live W best v) vs

-- the vertices of halves
abbrev pub vertices_of : List ℕ → List ℕ
vertices_of ys = map vertex ys

-- from v: to the lowest live vertex in the list of the half that counts the arcs into v, where its arcs out lead to
unfoldable pub next_in : Source → List ℕ → ℕ → ℕ → ℕ
next_in s W nodes v = lowest_live W most_vertices (vertices_of (list_in s W nodes (2 * v)))

-- the room tells that C is live, of n vertices that these arcs join, and where each leads to
pub record Told (s : Source) (W : List ℕ) (nodes n : ℕ) (arcs : List Arc) (C : Set) : Type 0 where
  pub less : nodes ≤ n
  pub few : n ≤ most_vertices
  pub lists : Lists s W nodes n
  pub listed : Listed arcs n (list_in s W nodes)
  pub long : length C ≡ n
  pub live : (v : ℕ) → v < n → has C v ≡ live_in W v
  pub stable : Stable arcs C
  pub onto_edge : (u v : ℕ) → u < nodes → Leads arcs u v → nodes ≤ v
  pub onto_node : (u v : ℕ) → nodes ≤ u → Leads arcs u v → v < nodes

-- r is the lowest live node, or there is none
pub record FirstLive (W : List ℕ) (nodes r : ℕ) : Type 0 where
  pub before : (v : ℕ) → v < r → get_or W (2 * v) 0 ≡ 0
  pub live : (r ≡ nodes) ⊎ ((r < nodes) × (get_or W (2 * r) 0 ≡ 0 → ⊥))

-- ---- its steps

-- of C, what is not marked as visited
abbrev pub unseen : Set → List ℕ → Set
unseen C F = passing (λ v. eqb (get_or F v 0) 0) C

-- v of the core is visited as the k-th: `left` are unvisited then
pub record At (s : Source) (W F : List ℕ) (v k left : ℕ) : Type 0 where
  pub nodes : ℕ
  pub n : ℕ
  pub arcs : List Arc
  pub core : Set
  pub told : Told s W nodes n arcs core
  pub inside : T (has core v)
  pub marks : length F ≡ most_vertices
  pub fresh : get_or F v 0 ≡ 0
  pub left_is : size (without v (unseen core F)) ≡ left
  pub few : k + left ≤ most_vertices

-- and v is a node
pub record AtNode (s : Source) (W F : List ℕ) (v k left : ℕ) : Type 0 where
  pub at : At s W F v k left
  pub is_node : v < at.nodes

-- or an edge
pub record AtEdge (s : Source) (W F : List ℕ) (v k left : ℕ) : Type 0 where
  pub at : At s W F v k left
  pub is_edge : at.nodes ≤ v

-- the unvisited vertices that are left then
abbrev pub rest : {s : Source} {W F : List ℕ} {v k left : ℕ} → At s W F v k left → Set
rest {F = F} {v = v} a = without v (unseen a.core F)

-- in all r steps were taken, this walk's first vertex being visited as the k-th, and w was met again
pub record Closes (k : ℕ) (walk : Walked) (r w : ℕ) : Type 0 where
  pub steps : r + 1 ≡ k + length walk.visits
  pub again : w ≡ walk.again

-- nothing is visited yet, and `left` are to be
pub record Starting (s : Source) (W : List ℕ) (nodes left : ℕ) : Type 0 where
  pub n : ℕ
  pub arcs : List Arc
  pub core : Set
  pub told : Told s W nodes n arcs core
  pub left_is : size core ≡ left
  pub some_node : (u : ℕ) × T (has core u) × (u < nodes)
  pub some_left : 0 < left

-- ---- the loop

-- from u through the vertices of the list to w, always where `next` goes
abbrev pub Moves : (ℕ → ℕ) → ℕ → List ℕ → ℕ → Type 0
Moves next u [] w = next u ≡ w
Moves next u (x ∷ xs) w = (next u ≡ x) × Moves next x xs w

-- from w through the others, each once, and back to w
pub record Looping (s : Source) (W : List ℕ) (nodes w : ℕ) : Type 0 where
  pub n : ℕ
  pub others : List ℕ
  pub lists : Lists s W nodes n
  pub few : n ≤ most_vertices
  pub less : nodes ≤ n
  pub moves : Moves (next_in s W nodes) w others w
  pub once : Distinct (w ∷ others)
  pub low : (x : ℕ) → In x (w ∷ others) → x < n
  pub short : length (w ∷ others) ≤ most_vertices

-- the first k of a loop are laid, and v comes next
pub record LaidTo (X ring : List ℕ) (v k : ℕ) : Type 0 where
  pub more : k < length ring
  pub is : v ≡ get_or ring k 0
  pub put : part X waiting_at k ≡ take k ring

-- all of a loop is laid, r vertices
pub record LaidIn (X ring : List ℕ) (r : ℕ) : Type 0 where
  pub count : r ≡ length ring
  pub put : part X waiting_at r ≡ ring

-- the loop that so many steps have found
abbrev pub loop_as : List ℕ → ℕ → Loop
loop_as list steps = record { list = list; steps = steps }
