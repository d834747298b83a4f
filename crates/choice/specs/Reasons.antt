-- 02, T-04, "Why this node": one reason for each vertex. First as functions that compute: what is left when vertices without an arc in
-- are taken away is what core vertices lead to. Then as statements about paths. Assumes nothing.
use Rattle.std.specs.Prelude.{Bool, true, false, cond, List, [], ◌∷◌, map, ℕ, zero, suc, ◌<◌, ◌≡◌, T, eqb, ltb, length}
use Rattle.graph.specs.Lists.{range}
use Rattle.graph.specs.Graph.{Graph}
use Rattle.choice.specs.Arcs.{Arc, Leads, Set, has, vertices, without, size, passing, into, out}
use Rattle.choice.specs.Choice.{core, best, Best}
use Rattle.choice.specs.Drawing.{arcs, vertex_count, selectable}

-- "Chosen: the stage, counted from 1, its arcs in and out at that moment. Freed before stage k's choice: either no core vertex of
-- that stage leads to it, or it leads to none"
pub data Reason : Type 0 where
  picked : ℕ → ℕ → ℕ → Reason
  not_led_to : ℕ → Reason
  leads_to_none : ℕ → Reason

-- four numbers: kind (0 chosen; 1 freed, no core vertex leads to it; 2 freed, it leads to none), stage, arcs in, arcs out
abbrev pub numbers_of : Reason → List ℕ
numbers_of (picked stage ins outs) = 0 ∷ stage ∷ ins ∷ outs ∷ []
numbers_of (not_led_to stage) = 1 ∷ stage ∷ 0 ∷ 0 ∷ []
numbers_of (leads_to_none stage) = 2 ∷ stage ∷ 0 ∷ 0 ∷ []

-- the reason says chosen
abbrev pub is_picked : Reason → Bool
is_picked (picked stage ins outs) = true
is_picked (not_led_to stage) = false
is_picked (leads_to_none stage) = false

-- the stage that it names
abbrev pub stage_of : Reason → ℕ
stage_of (picked stage ins outs) = stage
stage_of (not_led_to stage) = stage
stage_of (leads_to_none stage) = stage

-- the vertices of S that have an arc in within it, all others taken away at once; and that k times
unfoldable pub feed : ℕ → List Arc → Set → Set
feed zero arcs S = S
feed (suc k) arcs S = feed k arcs (passing (λ v. ltb zero (into arcs S v)) S)

-- what is left of S when vertices without an arc in are taken away until there is none
unfoldable pub led : List Arc → Set → Set
led arcs S = feed (size S) arcs S

-- the reason of a vertex of S, of at most k stages, S being what remained when this one began
unfoldable pub why : ℕ → ℕ → List Arc → (ℕ → Bool) → Set → ℕ → Reason
why zero stage arcs may S v = not_led_to stage
why (suc k) stage arcs may S v =
    let C : Set = core arcs S in
    let b : ℕ = best arcs may C (length C) in
    cond (has C v)
    (cond (eqb v b) (picked stage (into arcs C v) (out arcs C v)) (why k (suc stage) arcs may (without b C) v))
    (cond (has (led arcs S) v) (leads_to_none stage) (not_led_to stage))

-- that of a node of a graph
unfoldable pub reason : Graph → ℕ → Reason
reason g v = why (vertex_count g) 1 (arcs g) (selectable g) (vertices (vertex_count g)) v

-- "For each node answer one reason."
unfoldable pub reasons : Graph → List Reason
reasons g = map (reason g) (range 0 (length g.labels))

-- ---- the same as statements

-- "by paths through what remained when the stage began": u leads to v, all of the way in S
pub data Way (arcs : List Arc) (S : Set) (u : ℕ) : ℕ → Type 0 where
  here : T (has S u) → Way arcs S u u
  onto : {v w : ℕ} → Way arcs S u v → Leads arcs v w → T (has S w) → Way arcs S u w

-- some core vertex leads to v
pub record LedTo (arcs : List Arc) (S : Set) (v : ℕ) : Type 0 where
  pub vertex : ℕ
  pub inside : T (has (core arcs S) vertex)
  pub way : Way arcs S vertex v

-- v leads to some core vertex
pub record LeadsOn (arcs : List Arc) (S : Set) (v : ℕ) : Type 0 where
  pub vertex : ℕ
  pub inside : T (has (core arcs S) vertex)
  pub way : Way arcs S v vertex

-- r is the reason of v, which is in the set S that remained when this stage began; "the first is given where both hold"
pub data Because (arcs : List Arc) (may : ℕ → Bool) : ℕ → Set → ℕ → Reason → Type 0 where
  is_best : {stage : ℕ} {S : Set} {v : ℕ} → Best arcs may (core arcs S) v
      → Because arcs may stage S v (picked stage (into arcs (core arcs S) v) (out arcs (core arcs S) v))
  is_not_led_to : {stage : ℕ} {S : Set} {v : ℕ} → T (has S v) → (LedTo arcs S v → ⊥) → Because arcs may stage S v (not_led_to stage)
  is_leading_to_none : {stage : ℕ} {S : Set} {v : ℕ} → LedTo arcs S v → (LeadsOn arcs S v → ⊥) → Because arcs may stage S v (leads_to_none stage)
  is_later : {stage : ℕ} {S : Set} {v b : ℕ} {r : Reason} → T (has (core arcs S) v) → Best arcs may (core arcs S) b → (v ≡ b → ⊥)
      → Because arcs may (suc stage) (without b (core arcs S)) v r → Because arcs may stage S v r

-- every vertex of S has an arc in within it
abbrev pub Fed : List Arc → Set → Type 0
Fed arcs S = (v : ℕ) → T (has S v) → zero < into arcs S v

-- U is reached from S by taking away vertices without an arc in, one at a time and in any order, until there is none
pub data Drains (arcs : List Arc) : Set → Set → Type 0 where
  drained : {S : Set} → Fed arcs S → Drains arcs S S
  drain : {S U : Set} (v : ℕ) → T (has S v) → into arcs S v ≡ zero → Drains arcs (without v S) U → Drains arcs S U

-- what an engine has told so far, S being what remained when this stage began: the reasons of what is in S are reasons from the start on
pub record Known (arcs : List Arc) (may : ℕ → Bool) (n stage : ℕ) (S : Set) : Type 0 where
  pub onward : (v : ℕ) (r : Reason) → Because arcs may stage S v r → Because arcs may 1 (vertices n) v r
