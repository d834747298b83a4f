-- A queue of numbers in heap order, the largest at the top; a number is the key of a node with a snapshot of its degrees.
-- Each node that may be chosen has one key, not below its present one; what is lowered meanwhile is not told to the queue. Assumes nothing.
use Rattle.std.specs.Prelude.{◌≡◌, ◌⊎◌, ◌≢◌, Bool, ◌&&◌, not, List, [], ◌∷◌, ℕ, zero, suc, ◌+◌, ◌-◌, ◌*◌, ◌/◌, ◌%◌, ◌≤◌, ◌<◌, T, eqb, ltb, length, get_or, set}
use Rattle.choice.specs.Arcs.{Arc, In, bump}

-- ---- keys

-- above every id, and above every degree once what may go freely has gone
abbrev pub radix : ℕ
radix = 65536

-- the key of node v with i arcs in and o arcs out: larger score first, lower id on a tie
unfoldable pub key : ℕ → ℕ → ℕ → ℕ
key v i o = i * o * (radix * radix) + (radix - 1 - v) * radix + i

-- the node, the arcs in and the score of a key
unfoldable pub id_of : ℕ → ℕ
id_of k = radix - 1 - k / radix % radix

unfoldable pub in_of : ℕ → ℕ
in_of k = k % radix

unfoldable pub score_of : ℕ → ℕ
score_of k = k / (radix * radix)

-- the key of v with its present degrees, of which d has both halves
abbrev pub key_now : List ℕ → ℕ → ℕ
key_now d v = key v (get_or d (2 * v) 0) (get_or d (2 * v + 1) 0)

-- ---- heap order

-- the sum of what each entry is worth
unfoldable pub total : (ℕ → ℕ) → List ℕ → ℕ
total f [] = 0
total f (k ∷ ks) = f k + total f ks

-- no entry is above its parent
abbrev pub Heap : List ℕ → ℕ → Type 0
Heap K n = (i : ℕ) → 0 < i → i < n → get_or K i 0 ≤ get_or K ((i - 1) / 2) 0

-- while k sinks from the top of K: X has a gap, where the last that rose still stands
pub record Sinking (K X : List ℕ) (k gap : ℕ) : Type 0 where
  pub long : length X ≡ length K
  pub inside : gap < length K
  pub heap : Heap X (length K)
  pub over : 0 < gap → k ≤ get_or X gap 0
  pub moved : (f : ℕ → ℕ) → total f (set X gap k) ≡ total f (set K 0 k)

-- X has k instead of the top of K
pub record Sunk (K X : List ℕ) (k : ℕ) : Type 0 where
  pub long : length X ≡ length K
  pub heap : Heap X (length K)
  pub moved : (f : ℕ → ℕ) → total f X + f (get_or K 0 0) ≡ total f K + f k

-- while k rises from the end, place n, of n + 1 entries
pub record Rising (K X : List ℕ) (n k gap : ℕ) : Type 0 where
  pub long : length X ≡ n + 1
  pub inside : gap ≤ n
  pub heap : Heap X n
  pub last : gap < n → get_or X n 0 ≤ get_or X ((n - 1) / 2) 0
  pub under : gap < n → get_or X gap 0 ≤ k
  pub moved : (f : ℕ → ℕ) → total f (set X gap k) ≡ total f K + f k

-- X has the entries of K and k
pub record Pushed (K X : List ℕ) (k : ℕ) : Type 0 where
  pub long : length X ≡ length K + 1
  pub heap : Heap X (length K + 1)
  pub moved : (f : ℕ → ℕ) → total f X ≡ total f K + f k

-- ---- what the queue says of the nodes

-- k is the key of a node that may be chosen with a snapshot of its degrees, not below the present ones
pub record Entry (may : ℕ → Bool) (d : List ℕ) (k : ℕ) : Type 0 where
  pub arcs_out : ℕ
  pub is : k ≡ key (id_of k) (in_of k) arcs_out
  pub allowed : T (may (id_of k))
  pub ins : get_or d (2 * id_of k) 0 ≤ in_of k
  pub outs : get_or d (2 * id_of k + 1) 0 ≤ arcs_out

-- how many entries node v has
abbrev pub times_queued : ℕ → List ℕ → ℕ
times_queued v K = total (λ k. bump (eqb (id_of k) v) 0) K

-- each live node that may be chosen stands there once, and no node twice
pub record Queued (may : ℕ → Bool) (d K : List ℕ) : Type 0 where
  pub ids : (v : ℕ) → T (may v) → v < radix
  pub small : (y : ℕ) → get_or d y 0 < radix
  pub heap : Heap K (length K)
  pub sound : (k : ℕ) → In k K → Entry may d k
  pub once : (v : ℕ) → times_queued v K ≤ 1
  pub there : (v : ℕ) → T (may v) → 0 < get_or d (2 * v) 0 → times_queued v K ≡ 1

-- while the queue is made: each of the first k nodes that is live and may be chosen has an entry with its present degrees, and there is no other
pub record Filling (may : ℕ → Bool) (d K : List ℕ) (k : ℕ) : Type 0 where
  pub few : length K ≤ k
  pub heap : Heap K (length K)
  pub sound : (x : ℕ) → In x K → Entry may d x
  pub exact : (v : ℕ) → times_queued v K ≡ bump (ltb v k && (may v && not (eqb (get_or d (2 * v) 0) 0))) 0

-- ---- how much work the queue is

-- the arcs in and out of a key's snapshot
unfoldable pub arcs_of : ℕ → ℕ
arcs_of k = in_of k + score_of k / in_of k

-- the degrees of the first k nodes
unfoldable pub degree_sum : List ℕ → ℕ → ℕ
degree_sum d zero = 0
degree_sum d (suc k) = degree_sum d k + (get_or d (2 * k) 0 + get_or d (2 * k + 1) 0)

-- no arc has two ends among the first k vertices
abbrev pub OneEnd : ℕ → List Arc → Type 0
OneEnd k arcs = (a : Arc) → In a arcs → (k ≤ a.from) ⊎ (k ≤ a.to)

-- a queue of the first k nodes: an entry for each that is live and may be chosen, one after the other
pub data Filled (may : ℕ → Bool) (d : List ℕ) : ℕ → List ℕ → Type 0 where
  none : Filled may d 0 []
  passed : {k : ℕ} {K : List ℕ} → Filled may d k K → Filled may d (suc k) K
  pushed : {k : ℕ} {K X : List ℕ} → Filled may d k K → T (may k) → 0 < get_or d (2 * k) 0 → Pushed K X (key_now d k) → Filled may d (suc k) X

-- the queue K with degrees d after so many entries were made: first those of the nodes, of degrees `first`; then degrees are lowered, and a top that does not
-- agree is replaced by the present key
pub data Makes (may : ℕ → Bool) (nodes : ℕ) (first : List ℕ) : List ℕ → List ℕ → ℕ → Type 0 where
  filled : {K : List ℕ} → Filled may first nodes K → Queued may first K → Makes may nodes first first K (length K)
  lowered : {d e K : List ℕ} {made : ℕ} → Makes may nodes first d K made → ((y : ℕ) → get_or e y 0 ≤ get_or d y 0) → Makes may nodes first e K made
  replaced : {d K X : List ℕ} {made : ℕ} → Makes may nodes first d K made → 0 < length K → key_now d (id_of (get_or K 0 0)) ≢ get_or K 0 0
      → Sunk K X (key_now d (id_of (get_or K 0 0))) → Makes may nodes first d X (made + 1)
