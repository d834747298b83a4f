-- Half vertices: half 2x counts the arcs into x and half 2x + 1 those out of x; x has gone exactly when both are 0, and waits once, as the half that ran out.
-- The engine's steps on two lists, the degrees of the halves and the waiting list, and the invariant between any two steps. Assumes nothing.
use Rattle.std.specs.Prelude.{◌≡◌, Bool, ◌&&◌, cond, not, List, [], ◌∷◌, ◌++◌, ℕ, zero, suc, ◌+◌, ◌-◌, ◌*◌, ◌/◌, ◌%◌, ◌≤◌, ◌<◌, T, eqb, ltb, length, get_or, set, drop}
use Rattle.choice.specs.Arcs.{Arc, In, bump, how_many, Set, has, vertices, without, size, passing, into, out}
use Rattle.choice.specs.Degrees.{between, Sofar}

-- ---- halves

-- the vertex of a half
abbrev pub vertex : ℕ → ℕ
vertex y = y / 2

-- the other half of its vertex
abbrev pub mate : ℕ → ℕ
mate y = y + 1 - 2 * (y % 2)

-- how many arcs half y has that come from S, or lead to S
unfoldable pub within : List Arc → Set → ℕ → ℕ
within arcs S y = cond (eqb (y % 2) 0) (into arcs S (vertex y)) (out arcs S (vertex y))

-- how often half z loses an arc when the list of half y is walked: 2w for each arc x -> w at 2x, and 2u + 1 for each arc u -> x at 2x + 1
unfoldable pub joins : List Arc → ℕ → ℕ → ℕ
joins arcs y z = cond (eqb (y % 2) (z % 2)) (cond (eqb (y % 2) 0) (between arcs (vertex y) (vertex z)) (between arcs (vertex z) (vertex y))) 0

-- how often z stands in a list
abbrev pub times : ℕ → List ℕ → ℕ
times z ts = how_many (λ t. eqb t z) ts

-- the first k numbers that a function gives, summed
unfoldable pub sum_to : (ℕ → ℕ) → ℕ → ℕ
sum_to f zero = 0
sum_to f (suc k) = sum_to f k + f k

-- how often a vertex waits
abbrev pub waits : ℕ → List ℕ → ℕ
waits x q = how_many (λ y. eqb (vertex y) x) q

-- the lists of the halves are right
pub record Listed (arcs : List Arc) (n : ℕ) (lists : ℕ → List ℕ) : Type 0 where
  pub right : (y z : ℕ) → y < 2 * n → times z (lists y) ≡ joins arcs y z
  pub low : (y t : ℕ) → y < 2 * n → In t (lists y) → t < 2 * n

-- ---- the steps

-- the degrees of the halves, and the halves that wait or have waited
pub record Halves : Type 0 where
  pub degrees : List ℕ
  pub waiting : List ℕ

-- an arc at half y has gone: it has one less, and where it runs out its vertex goes and waits
unfoldable pub lower : ℕ → Halves → Halves
lower y h =
    cond (eqb (get_or h.degrees y 0) 1)
    (record { degrees = set (set h.degrees y 0) (mate y) 0; waiting = h.waiting ++ (y ∷ []) })
    (record { degrees = set h.degrees y (get_or h.degrees y 0 - 1); waiting = h.waiting })

-- the same for each half of a list
unfoldable pub lower_all : List ℕ → Halves → Halves
lower_all [] h = h
lower_all (y ∷ ts) h = lower_all ts (lower y h)

-- the halves that wait from place `first` on are taken one after the other until none waits; k of them at most
unfoldable pub peel_from : ℕ → (ℕ → List ℕ) → ℕ → Halves → Halves
peel_from zero lists first h = h
peel_from (suc k) lists first h =
    cond (ltb first (length h.waiting)) (peel_from k lists (suc first) (lower_all (lists (get_or h.waiting first 0)) h)) h

-- node x goes
unfoldable pub drop_both : ℕ → List ℕ → List ℕ
drop_both x d = set (set d (2 * x) 0) (2 * x + 1) 0

unfoldable pub pick : (ℕ → List ℕ) → ℕ → Halves → Halves
pick lists x h =
    lower_all (lists (2 * x + 1)) (lower_all (lists (2 * x)) (record { degrees = drop_both x h.degrees; waiting = h.waiting }))

-- at the start: if a half of x is 0, x has gone and waits
unfoldable pub seed : ℕ → Halves → Halves
seed x h =
    cond (eqb (get_or h.degrees (2 * x) 0) 0)
    (record { degrees = set h.degrees (2 * x + 1) 0; waiting = h.waiting ++ ((2 * x) ∷ []) })
    (cond (eqb (get_or h.degrees (2 * x + 1) 0) 0)
    (record { degrees = set h.degrees (2 * x) 0; waiting = h.waiting ++ ((2 * x + 1) ∷ []) }) h)

-- the same for each of the first k vertices
unfoldable pub seed_to : ℕ → Halves → Halves
seed_to zero h = h
seed_to (suc k) h = seed k (seed_to k h)

-- ---- the invariant

-- of n vertices, those that have not gone
unfoldable pub live : ℕ → List ℕ → Set
live n d = passing (λ x. not (eqb (get_or d (2 * x) 0) 0)) (vertices n)

-- S: the vertices that are live or still wait; d: the degrees; q: what still waits; ts: the halves that are still to be lowered, for vertices that left S or as a start
-- put them in
pub record Between (arcs : List Arc) (n : ℕ) (S : Set) (d q ts : List ℕ) : Type 0 where
  pub long : length d ≡ 2 * n
  pub set_long : length S ≡ n
  -- both halves are 0, or none
  pub paired : (y : ℕ) → get_or d y 0 ≡ 0 → get_or d (mate y) 0 ≡ 0
  pub inside : (y : ℕ) → 0 < get_or d y 0 → T (has S (vertex y))
  -- of a live vertex each half has the arcs within S, and those still to be lowered
  pub right : (y : ℕ) → 0 < get_or d y 0 → get_or d y 0 ≡ within arcs S y + times y ts
  -- who has gone and is in S waits once, and no other waits
  pub once : (x : ℕ) → waits x q ≡ bump (has S x && eqb (get_or d (2 * x) 0) 0) 0
  -- as a half that has nothing left
  pub idle : (y : ℕ) → In y q → within arcs S y ≡ 0
  pub number : length q + size (live n d) ≡ size S

-- the same where what still waits stands from place `first` on
pub record Ready (arcs : List Arc) (n : ℕ) (S : Set) (h : Halves) (first : ℕ) (ts : List ℕ) : Type 0 where
  pub started : first ≤ length h.waiting
  pub state : Between arcs n S h.degrees (drop first h.waiting) ts

-- from S the vertices of these halves went, one after the other, each as a half that had nothing left, and U is left
pub data Leaves (arcs : List Arc) : Set → List ℕ → Set → Type 0 where
  stayed : {S : Set} → Leaves arcs S [] S
  left : {S U : Set} {ys : List ℕ} (y : ℕ) → T (has S (vertex y)) → within arcs S y ≡ 0 → Leaves arcs (without (vertex y) S) ys U → Leaves arcs S (y ∷ ys) U

-- what holds before and after each vertex: `first` were removed freely so far, and those of `picked` were chosen
pub record Going (arcs : List Arc) (may : ℕ → Bool) (n : ℕ) (S : Set) (h : Halves) (picked : List ℕ) (first : ℕ) : Type 0 where
  pub ready : Ready arcs n S h first []
  pub told : Sofar arcs may n S picked first
  pub spent : first + length picked + size S ≡ n

-- the first k vertices are seeded, these halves being still to be lowered
pub record Seeding (arcs : List Arc) (n : ℕ) (ts : List ℕ) (k : ℕ) (d q : List ℕ) : Type 0 where
  pub long : length d ≡ 2 * n
  pub paired : (y : ℕ) → vertex y < k → get_or d y 0 ≡ 0 → get_or d (mate y) 0 ≡ 0
  pub right : (y : ℕ) → 0 < get_or d y 0 → get_or d y 0 ≡ within arcs (vertices n) y + times y ts
  pub fresh : (y : ℕ) → k ≤ vertex y → y < 2 * n → get_or d y 0 ≡ within arcs (vertices n) y + times y ts
  pub once : (x : ℕ) → waits x q ≡ bump (ltb x k && eqb (get_or d (2 * x) 0) 0) 0
  pub idle : (y : ℕ) → In y q → within arcs (vertices n) y ≡ 0

-- ---- a removal in two parts: first what has no arc in, then what has no arc out

-- at the start: a vertex without an arc out is given one, which is still to be lowered, so that it does not go before its part
unfoldable pub raise_to : ℕ → List ℕ → List ℕ
raise_to zero d = d
raise_to (suc k) d = let e = raise_to k d in cond (eqb (get_or e (2 * k + 1) 0) 0) (set e (2 * k + 1) 1) e

-- the out-halves of the first k vertices without an arc out, whose in-halves have empty lists
unfoldable pub ends_to : (ℕ → List ℕ) → ℕ → List ℕ
ends_to lists zero = []
ends_to lists (suc k) = ends_to lists k ++ cond (eqb (length (lists (2 * k))) 0) ((2 * k + 1) ∷ []) []
