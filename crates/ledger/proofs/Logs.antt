-- The edges that a log means: one more edge, one more port, and how many ports there are.
-- Assumes nothing.
use mathlib.Core.Bool.{Bool, true, false, cond}
use mathlib.Core.List.{List, [], ◌∷◌, ◌++◌, map, append-nil}
use mathlib.Core.Path.{◌≡◌, refl, ap, ◌∙◌}
use Prim.Native.Nat.{ℕ, zero, suc, ◌+◌, ◌*◌, ◌≤◌, ◌<◌}
use native.Mathlib.Omega.{arith}
use lib.Dec.{eqb}
use lib.ListN.{length, get_or, length-append}
use borrow.Author.Tests.{eqb-true, eqb-false, eq-eqb, ne_eqb}
use Rattle.le.specs.Le.{Below}
use Rattle.graph.specs.Graph.{Edge, edge_entries}
use Rattle.graph.specs.Lists.{changed}
use Rattle.ledger.specs.Ledger.{nodes_at, edge_at, edges_from, Logged, ports_of, edge_ports}

-- ---- the nodes of a half

pub nodes_append : (half : ℕ) (a b : List (ℕ × ℕ)) → nodes_at half (a ++ b) ≡ nodes_at half a ++ nodes_at half b
nodes_append half [] b = refl
nodes_append half (p ∷ a) b = go (eqb p.0 half) (nodes_append half a b)
  where
    go : (c : Bool) → nodes_at half (a ++ b) ≡ nodes_at half a ++ nodes_at half b
        → cond c (p.1 ∷ nodes_at half (a ++ b)) (nodes_at half (a ++ b)) ≡ cond c (p.1 ∷ nodes_at half a) (nodes_at half a) ++ nodes_at half b
    go true e = ap (λ (l : List ℕ). p.1 ∷ l) e
    go false e = e

pub nodes_same : (half : ℕ) (ids : List ℕ) → nodes_at half (ports_of half ids) ≡ ids
nodes_same half [] = refl
nodes_same half (x ∷ ids) = rw (eq-eqb half half refl) (ap (λ (l : List ℕ). x ∷ l) (nodes_same half ids))

pub nodes_other : (half other : ℕ) (ids : List ℕ) → (other ≡ half → ⊥) → nodes_at half (ports_of other ids) ≡ []
nodes_other half other [] h = refl
nodes_other half other (x ∷ ids) h = rw (ne_eqb other half h) (nodes_other half other ids h)

pub nodes_none : (halves nodes half : ℕ) (log : List (ℕ × ℕ)) → Logged halves nodes log → halves ≤ half → nodes_at half log ≡ []
nodes_none halves nodes half [] l h = refl
nodes_none halves nodes half (p ∷ log) l h = rw (ne_eqb p.0 half (λ e. omega arith)) (nodes_none halves nodes half log l.2 h)

-- ---- the edges

pub length_edges_from : (i : ℕ) (labels : List ℕ) (log : List (ℕ × ℕ)) → length (edges_from i labels log) ≡ length labels
length_edges_from i [] log = refl
length_edges_from i (l ∷ labels) log = ap suc (length_edges_from (suc i) labels log)

pub edge_labels_lem : (i : ℕ) (labels : List ℕ) (log : List (ℕ × ℕ)) → map (λ e. e.label) (edges_from i labels log) ≡ labels
edge_labels_lem i [] log = refl
edge_labels_lem i (l ∷ labels) log = ap (λ (r : List ℕ). l ∷ r) (edge_labels_lem (suc i) labels log)

pub edges_append : (i : ℕ) (xs ys : List ℕ) (log : List (ℕ × ℕ)) → edges_from i (xs ++ ys) log ≡ edges_from i xs log ++ edges_from (i + length xs) ys log
edges_append i [] ys log = let e : i + 0 ≡ i = omega arith in rw e refl
edges_append i (x ∷ xs) ys log =
    let e : i + suc (length xs) ≡ suc i + length xs = omega arith in
    rw e (ap (λ (l : List Edge). edge_at i x log ∷ l) (edges_append (suc i) xs ys log))

-- ports of other halves change nothing
pub edges_untouched : (i : ℕ) (xs : List ℕ) (log more : List (ℕ × ℕ)) → ((half : ℕ) → half < 2 * (i + length xs) → nodes_at half more ≡ [])
    → edges_from i xs (log ++ more) ≡ edges_from i xs log
edges_untouched i [] log more h = refl
edges_untouched i (x ∷ xs) log more h =
    let one : (half : ℕ) → half < 2 * suc i → nodes_at half (log ++ more) ≡ nodes_at half log = λ half l.
    nodes_append half log more ∙ ap (λ (r : List ℕ). nodes_at half log ++ r) (h half (omega arith)) ∙ append-nil (nodes_at half log) in
    let a = one (2 * i) (omega arith) in
    let b = one (2 * i + 1) (omega arith) in
    let rest = edges_untouched (suc i) xs log more (λ half l. h half (omega arith)) in
    λ k. record { label = x; sources = a k; targets = b k } ∷ rest k

-- one more edge
pub edge_more : (labels : List ℕ) (label nodes : ℕ) (log : List (ℕ × ℕ)) (s t : List ℕ) → Logged (2 * length labels) nodes log
    → edges_from 0 (labels ++ (label ∷ [])) (log ++ edge_ports (length labels) s t)
    ≡ edges_from 0 labels log ++ (record { label = label; sources = s; targets = t } ∷ [])
edge_more labels label nodes log s t l =
    let n = length labels in
    let new = ports_of (2 * n) s ++ ports_of (2 * n + 1) t in
    let apart : (half : ℕ) → half < 2 * (0 + n) → nodes_at half new ≡ [] = λ half h.
    nodes_append half (ports_of (2 * n) s) (ports_of (2 * n + 1) t)
    ∙ (λ k. nodes_other half (2 * n) s (λ e. omega arith) k ++ nodes_other half (2 * n + 1) t (λ e. omega arith) k) in
    let e : 0 + n ≡ n = omega arith in
    let sources : nodes_at (2 * n) (log ++ new) ≡ s =
    nodes_append (2 * n) log new
    ∙ (λ k. nodes_none (2 * n) nodes (2 * n) log l (omega arith) k ++ nodes_append (2 * n) (ports_of (2 * n) s) (ports_of (2 * n + 1) t) k)
    ∙ (λ k. nodes_same (2 * n) s k ++ nodes_other (2 * n) (2 * n + 1) t (λ e. omega arith) k) ∙ append-nil s in
    let targets : nodes_at (2 * n + 1) (log ++ new) ≡ t =
    nodes_append (2 * n + 1) log new
    ∙ (λ k. nodes_none (2 * n) nodes (2 * n + 1) log l (omega arith) k ++ nodes_append (2 * n + 1) (ports_of (2 * n) s) (ports_of (2 * n + 1) t) k)
    ∙ (λ k. nodes_other (2 * n + 1) (2 * n) s (λ e. omega arith) k ++ nodes_same (2 * n + 1) t k) in
    edges_append 0 labels (label ∷ []) (log ++ new)
    ∙ (λ k. edges_untouched 0 labels log new apart k ++ edges_from (e k) (label ∷ []) (log ++ new))
    ∙ (λ k. edges_from 0 labels log ++ (record { label = label; sources = sources k; targets = targets k } ∷ []))

-- ---- one more port

-- an edge with one more node at the end of its sources, or of its targets
abbrev pub with_source : ℕ → Edge → Edge
with_source n e = record { label = e.label; sources = e.sources ++ (n ∷ []); targets = e.targets }

abbrev pub with_target : ℕ → Edge → Edge
with_target n e = record { label = e.label; sources = e.sources; targets = e.targets ++ (n ∷ []) }

-- a port of a half that is no edge's of these
port_apart : (i half n : ℕ) (xs : List ℕ) (log : List (ℕ × ℕ)) → half < 2 * i → edges_from i xs (log ++ ((half, n) ∷ [])) ≡ edges_from i xs log
port_apart i half n [] log h = refl
port_apart i half n (x ∷ xs) log h =
    let one : (other : ℕ) → 2 * i ≤ other → nodes_at other (log ++ ((half, n) ∷ [])) ≡ nodes_at other log = λ other l.
    nodes_append other log ((half, n) ∷ []) ∙ ap (λ (r : List ℕ). nodes_at other log ++ r) (nodes_other other half (n ∷ []) (λ e. omega arith)) ∙ append-nil (nodes_at other log) in
    let a = one (2 * i) (omega arith) in
    let b = one (2 * i + 1) (omega arith) in
    let rest = port_apart (suc i) half n xs log (omega arith) in
    λ k. record { label = x; sources = a k; targets = b k } ∷ rest k

here : (half n : ℕ) (log : List (ℕ × ℕ)) → nodes_at half (log ++ ((half, n) ∷ [])) ≡ nodes_at half log ++ (n ∷ [])
here half n log = nodes_append half log ((half, n) ∷ []) ∙ ap (λ (r : List ℕ). nodes_at half log ++ r) (nodes_same half (n ∷ []))

there : (other half n : ℕ) (log : List (ℕ × ℕ)) → (half ≡ other → ⊥) → nodes_at other (log ++ ((half, n) ∷ [])) ≡ nodes_at other log
there other half n log h = nodes_append other log ((half, n) ∷ []) ∙ ap (λ (r : List ℕ). nodes_at other log ++ r) (nodes_other other half (n ∷ []) h) ∙ append-nil (nodes_at other log)

pub source_more : (i edge n : ℕ) (xs : List ℕ) (log : List (ℕ × ℕ)) → edge < length xs
    → edges_from i xs (log ++ ((2 * (i + edge), n) ∷ [])) ≡ changed (with_source n) edge (edges_from i xs log)
source_more i edge n [] log h = absurd (omega arith)
source_more i zero n (x ∷ xs) log h =
    let e : i + 0 ≡ i = omega arith in
    let a = here (2 * i) n log in
    let b = there (2 * i + 1) (2 * i) n log (λ e. omega arith) in
    let rest = port_apart (suc i) (2 * i) n xs log (omega arith) in
    rw e (λ k. record { label = x; sources = a k; targets = b k } ∷ rest k)
source_more i (suc edge) n (x ∷ xs) log h =
    let e : i + suc edge ≡ suc i + edge = omega arith in
    let a = there (2 * i) (2 * (suc i + edge)) n log (λ e. omega arith) in
    let b = there (2 * i + 1) (2 * (suc i + edge)) n log (λ e. omega arith) in
    let rest = source_more (suc i) edge n xs log (omega arith) in
    rw e (λ k. record { label = x; sources = a k; targets = b k } ∷ rest k)

pub target_more : (i edge n : ℕ) (xs : List ℕ) (log : List (ℕ × ℕ)) → edge < length xs
    → edges_from i xs (log ++ ((2 * (i + edge) + 1, n) ∷ [])) ≡ changed (with_target n) edge (edges_from i xs log)
target_more i edge n [] log h = absurd (omega arith)
target_more i zero n (x ∷ xs) log h =
    let e : i + 0 ≡ i = omega arith in
    let a = there (2 * i) (2 * i + 1) n log (λ e. omega arith) in
    let b = here (2 * i + 1) n log in
    let rest = port_apart (suc i) (2 * i + 1) n xs log (omega arith) in
    rw e (λ k. record { label = x; sources = a k; targets = b k } ∷ rest k)
target_more i (suc edge) n (x ∷ xs) log h =
    let e : i + suc edge ≡ suc i + edge = omega arith in
    let a = there (2 * i) (2 * (suc i + edge) + 1) n log (λ e. omega arith) in
    let b = there (2 * i + 1) (2 * (suc i + edge) + 1) n log (λ e. omega arith) in
    let rest = target_more (suc i) edge n xs log (omega arith) in
    rw e (λ k. record { label = x; sources = a k; targets = b k } ∷ rest k)

-- ---- how many ports

none_at : (i : ℕ) (xs : List ℕ) → length (edge_entries (edges_from i xs [])) ≡ 0
none_at i [] = refl
none_at i (x ∷ xs) = none_at (suc i) xs

-- 1 for a port of a half
abbrev one_of : ℕ → ℕ → ℕ
one_of a half = cond (eqb a half) 1 0

one_same : (a half : ℕ) → a ≡ half → one_of a half ≡ 1
one_same a half e = rw (e, eq-eqb half half refl)

one_other : (a half : ℕ) → (a ≡ half → ⊥) → one_of a half ≡ 0
one_other a half h = rw (ne_eqb a half h)

nodes_at_cons : (half : ℕ) (p : ℕ × ℕ) (log : List (ℕ × ℕ)) → length (nodes_at half (p ∷ log)) ≡ one_of p.0 half + length (nodes_at half log)
nodes_at_cons half p log = go (eqb p.0 half)
  where
    go : (c : Bool) → length (cond c (p.1 ∷ nodes_at half log) (nodes_at half log)) ≡ cond c 1 0 + length (nodes_at half log)
    go true = omega arith
    go false = omega arith

-- the ports of the edges from i on
abbrev many : ℕ → List ℕ → List (ℕ × ℕ) → ℕ
many i xs log = length (edge_entries (edges_from i xs log))

many_cons : (i x : ℕ) (xs : List ℕ) (log : List (ℕ × ℕ)) → many i (x ∷ xs) log ≡ length (nodes_at (2 * i) log) + length (nodes_at (2 * i + 1) log) + many (suc i) xs log
many_cons i x xs log = simp length-append (omega arith)

-- an entry with a half before those of the edges counts at none of them
ports_before : (i : ℕ) (p : ℕ × ℕ) (xs : List ℕ) (log : List (ℕ × ℕ)) → p.0 < 2 * i → many i xs (p ∷ log) ≡ many i xs log
ports_before i p [] log h = refl
ports_before i p (x ∷ xs) log h =
    many_cons i x xs (p ∷ log)
    ∙ omega (arith, many_cons i x xs log, nodes_at_cons (2 * i) p log, nodes_at_cons (2 * i + 1) p log, one_other p.0 (2 * i) (λ e. omega arith), one_other p.0 (2 * i + 1) (λ e. omega arith), ports_before (suc i) p xs log (omega arith))

-- and one with a half among them at one
ports_cons : (i : ℕ) (p : ℕ × ℕ) (xs : List ℕ) (log : List (ℕ × ℕ)) → 2 * i ≤ p.0 → p.0 < 2 * (i + length xs) → many i xs (p ∷ log) ≡ suc (many i xs log)
ports_cons i p [] log h k = absurd (omega arith)
ports_cons i p (x ∷ xs) log h k =
    many_cons i x xs (p ∷ log)
    ∙ omega (arith, many_cons i x xs log, nodes_at_cons (2 * i) p log, nodes_at_cons (2 * i + 1) p log, go (eqb p.0 (2 * i)) refl (eqb p.0 (2 * i + 1)) refl (λ l. ports_cons (suc i) p xs log l (omega arith)))
  where
    go : (c : Bool) → eqb p.0 (2 * i) ≡ c → (d : Bool) → eqb p.0 (2 * i + 1) ≡ d → (2 * suc i ≤ p.0 → many (suc i) xs (p ∷ log) ≡ suc (many (suc i) xs log))
        → one_of p.0 (2 * i) + one_of p.0 (2 * i + 1) + many (suc i) xs (p ∷ log) ≡ suc (many (suc i) xs log)
    go true e d f ih =
        let q = eqb-true p.0 (2 * i) e in
        omega (arith, one_same p.0 (2 * i) q, one_other p.0 (2 * i + 1) (λ e. omega arith), ports_before (suc i) p xs log (omega arith))
    go false e true f ih =
        let q = eqb-true p.0 (2 * i + 1) f in
        omega (arith, one_other p.0 (2 * i) (eqb-false p.0 (2 * i) e), one_same p.0 (2 * i + 1) q, ports_before (suc i) p xs log (omega arith))
    go false e false f ih =
        let q = eqb-false p.0 (2 * i) e in
        let r = eqb-false p.0 (2 * i + 1) f in
        omega (arith, one_other p.0 (2 * i) q, one_other p.0 (2 * i + 1) r, ih (omega (arith, q, r)))

pub ports_logged : (xs : List ℕ) (nodes : ℕ) (log : List (ℕ × ℕ)) → Logged (2 * length xs) nodes log → length (edge_entries (edges_from 0 xs log)) ≡ length log
ports_logged xs nodes [] l = none_at 0 xs
ports_logged xs nodes (p ∷ log) l = ports_cons 0 p xs log (omega arith) (omega arith) ∙ ap suc (ports_logged xs nodes log l.2)

-- ---- halves and nodes below their counts

pub logged_append : (halves nodes : ℕ) (a b : List (ℕ × ℕ)) → Logged halves nodes a → Logged halves nodes b → Logged halves nodes (a ++ b)
logged_append halves nodes [] b h k = k
logged_append halves nodes (p ∷ a) b h k = (h.0, h.1, logged_append halves nodes a b h.2 k)

pub logged_wider : (halves nodes more nodes₁ : ℕ) (a : List (ℕ × ℕ)) → halves ≤ more → nodes ≤ nodes₁ → Logged halves nodes a → Logged more nodes₁ a
logged_wider halves nodes more nodes₁ [] l m h = tt
logged_wider halves nodes more nodes₁ (p ∷ a) l m h = (omega arith, omega arith, logged_wider halves nodes more nodes₁ a l m h.2)

pub logged_ports : (halves nodes half : ℕ) (ids : List ℕ) → half < halves → Below nodes ids → Logged halves nodes (ports_of half ids)
logged_ports halves nodes half [] l h = tt
logged_ports halves nodes half (x ∷ ids) l h = (l, h.0, logged_ports halves nodes half ids l h.1)

pub logged_edge : (edges nodes : ℕ) (s t : List ℕ) → Below nodes s → Below nodes t → Logged (2 * (edges + 1)) nodes (edge_ports edges s t)
logged_edge edges nodes s t h k =
    logged_append (2 * (edges + 1)) nodes (ports_of (2 * edges) s) (ports_of (2 * edges + 1) t)
    (logged_ports (2 * (edges + 1)) nodes (2 * edges) s (omega arith) h) (logged_ports (2 * (edges + 1)) nodes (2 * edges + 1) t (omega arith) k)

pub logged_at : (halves nodes : ℕ) (log : List (ℕ × ℕ)) (j : ℕ) → j < length log → Logged halves nodes log → ((get_or log j (0, 0)).0 < halves) × ((get_or log j (0, 0)).1 < nodes)
logged_at halves nodes [] j h l = absurd (omega arith)
logged_at halves nodes (p ∷ log) zero h l = (l.0, l.1)
logged_at halves nodes (p ∷ log) (suc j) h l = logged_at halves nodes log j (omega arith) l.2
