-- The engine's run: the start, each vertex that waits, each node that is chosen, and the end, at which the answer is the choice.
-- Assumes nothing.
use mathlib.Core.Path.{◌≡◌, refl, sym, ap, ◌∙◌, subst}
use mathlib.Core.Bool.{Bool, true, false, cond}
use mathlib.Core.List.Memᴰ
use mathlib.Core.List.{List, [], ◌∷◌, ◌++◌}
use mathlib.Core.Logic.{◌≢◌, ◌↔◌}
use Prim.Native.Nat.{ℕ, zero, suc, ◌+◌, ◌-◌, ◌*◌, ◌≤◌, ◌<◌}
use native.Mathlib.Nat.{zero-add}
use native.Mathlib.Omega.{arith}
use lib.Dec.{T, ltb}
use lib.ListN.{length, get_or, drop, length-drop}
use lib.Seq.{drop-cons, drop-length}
use borrow.Author.Tests.{ltb-true, ltb-false}
use Rattle.choice.specs.Arcs.{Arc, In, Set, has, vertices, without, size, Stable, Loose}
use Rattle.choice.specs.Choice.{Chosen, Best, Ascends}
use Rattle.choice.specs.Degrees.{Sofar, Frees, untouched, freed}
use Rattle.choice.specs.Keeping.{keeping_choice}
use Rattle.choice.specs.Promises.{Bounded}
use Rattle.choice.proofs.Sets.{has_lt, size_without, size_empty, size_some, size_vertices}
use Rattle.choice.proofs.Sofar.{sofar_start, sofar_best, sofar_done, sofar_frees, frees_size}
use Rattle.graph.specs.Answer.{answered}
use Rattle.halves.specs.Halves.{vertex, within, live, Listed, Halves, lower_all, peel_from, drop_both, pick, Between, Ready, Leaves, stayed, left, Going, Seeding}
use Rattle.halves.proofs.Lists.{pos_of}
use Rattle.halves.proofs.Lowering.{lower_all_ready}
use Rattle.halves.proofs.Leaving.{waiting_in, waiting_low, waiting_leaves, chosen_leaves, all_live, all_stable}
use Rattle.halves.proofs.Sides.{idle_loose}
use Rattle.halves.proofs.Waiting.{lower_all_front, peel_front}
use Rattle.halves.proofs.Start.{seeding_done}

-- ---- without what is told: one vertex that waits, and one that is chosen

module _ (arcs : List Arc) (n : ℕ) (lists : ℕ → List ℕ) (listed : Listed arcs n lists) where
  -- the vertex that waits at place `first`
  module _ (ts : List ℕ) (S : Set) (h : Halves) (first : ℕ) (more : first < length h.waiting) (r : Ready arcs n S h first ts) where
    abbrev y : ℕ
    y = get_or h.waiting first 0

    front : Between arcs n S h.degrees (y ∷ drop (suc first) h.waiting) ts
    front = subst (λ (q : List ℕ). Between arcs n S h.degrees q ts) (drop-cons h.waiting first 0 more) r.state

    pub next_in_lem : T (has S (vertex (get_or h.waiting first 0)))
    next_in_lem = waiting_in arcs n lists listed S h.degrees (drop (suc first) h.waiting) y ts front

    pub next_idle : within arcs S (get_or h.waiting first 0) ≡ 0
    next_idle = front.idle y (Memᴰ.head refl)

    pub next_low : get_or h.waiting first 0 < 2 * n
    next_low = waiting_low arcs n lists listed S h.degrees (drop (suc first) h.waiting) y ts front

    -- it has left, and its list is to be lowered
    pub next_left : Ready arcs n (without (vertex (get_or h.waiting first 0)) S) h (suc first) (lists (get_or h.waiting first 0) ++ ts)
    next_left = record { started = more; state = waiting_leaves arcs n lists listed S h.degrees (drop (suc first) h.waiting) y ts front }

  -- a node x that is live goes: its first list is to be lowered, then its second
  pub pick_left : (S : Set) (h : Halves) (first x : ℕ) → x < n → 0 < get_or h.degrees (2 * x) 0 → Ready arcs n S h first []
      → Ready arcs n (without x S) (record { degrees = drop_both x h.degrees; waiting = h.waiting }) first (lists (2 * x) ++ lists (2 * x + 1))
  pick_left S h first x low alive r = record {
    started = r.started;
    state = chosen_leaves arcs n lists listed S h.degrees (drop first h.waiting) x low alive r.state;
  }

append_nil : (ts : List ℕ) → ts ++ [] ≡ ts
append_nil [] = refl
append_nil (t ∷ ts) = ap (◌∷◌ t) (append_nil ts)

-- ---- numbers

module _ (arcs : List Arc) (may : ℕ → Bool) (n : ℕ) (S : Set) (h : Halves) (picked : List ℕ) (first : ℕ) (g : Going arcs may n S h picked first) where
  -- "end + chosen = vertices that have gone"
  pub gone_number : length h.waiting + length picked + size (live n h.degrees) ≡ n
  gone_number = omega (arith, g.spent, g.ready.started, g.ready.state.number, length-drop first h.waiting)

-- ---- the run

-- a half without arcs makes its vertex loose, so what leaves is removed freely
left_freed : (arcs : List Arc) {S : Set} (v : ℕ) {U : Set} {k : ℕ} → T (has S v) → Loose arcs S v → Frees arcs (without v S) U k → Frees arcs S U (suc k)
left_freed arcs v t l untouched = freed v untouched t l
left_freed arcs v t l (freed u f m n) = freed u (left_freed arcs v t l f) m n

pub leaves_frees : (arcs : List Arc) {S U : Set} {ys : List ℕ} → Leaves arcs S ys U → Frees arcs S U (length ys)
leaves_frees arcs stayed = untouched
leaves_frees arcs {S} (left y t e l) = left_freed arcs (vertex y) t (idle_loose arcs S y e) (leaves_frees arcs l)

-- what waits from place `first` on has left S, nothing waits any more, and what was to be lowered before is still to be lowered
pub record Emptied (arcs : List Arc) (n : ℕ) (ts : List ℕ) (S : Set) (first : ℕ) (h : Halves) : Type 0 where
  pub rest : Set
  pub leaves : Leaves arcs S (drop first h.waiting) rest
  pub ready : Ready arcs n rest h (length h.waiting) ts

-- the same by free removals alone
pub record Peeled (arcs : List Arc) (n : ℕ) (S : Set) (first : ℕ) (h : Halves) : Type 0 where
  pub rest : Set
  pub many : ℕ
  pub frees : Frees arcs S rest many
  pub number : first + many ≡ length h.waiting
  pub ready : Ready arcs n rest h (length h.waiting) []

-- nothing waits from `first` on
no_more : {arcs : List Arc} {n : ℕ} (ts : List ℕ) (S : Set) (h : Halves) (first : ℕ) → first ≡ length h.waiting → Ready arcs n S h first ts → Emptied arcs n ts S first h
no_more {arcs} {n} ts S h first all r = record {
  rest = S;
  leaves = subst (λ (ys : List ℕ). Leaves arcs S ys S) (sym (ap (λ (f : ℕ). drop f h.waiting) all ∙ drop-length h.waiting)) stayed;
  ready = subst (λ (f : ℕ). Ready arcs n S h f ts) all r;
}

module _ (arcs : List Arc) (n : ℕ) (lists : ℕ → List ℕ) (listed : Listed arcs n lists) where
  -- one vertex that waits is removed
  pub ready_next : (ts : List ℕ) (S : Set) (h : Halves) (first : ℕ) → first < length h.waiting → Ready arcs n S h first ts
      → Ready arcs n (without (vertex (get_or h.waiting first 0)) S) (lower_all (lists (get_or h.waiting first 0)) h) (suc first) ts
  ready_next ts S h first more r =
      lower_all_ready arcs n (without (vertex (get_or h.waiting first 0)) S) (lists (get_or h.waiting first 0)) ts h (suc first)
      (λ t m. listed.low (get_or h.waiting first 0) t (next_low arcs n lists listed ts S h first more r) m) (next_left arcs n lists listed ts S h first more r)

  -- the loop: as often as there are vertices is enough
  pub peel_emptied : (k : ℕ) (ts : List ℕ) (S : Set) (h : Halves) (first : ℕ) → size S ≤ k → Ready arcs n S h first ts → Emptied arcs n ts S first (peel_from k lists first h)
  unfolding peel_from
  peel_emptied zero ts S h first few r = no_more ts S h first all r
    where
      all : first ≡ length h.waiting
      all = omega (arith, r.started, r.state.number, length-drop first h.waiting)
  peel_emptied (suc k) ts S h first few r =
      go (ltb first (length h.waiting)) refl
      (λ more. peel_emptied k ts (without (vertex (get_or h.waiting first 0)) S) (lower_all (lists (get_or h.waiting first 0)) h) (suc first) (less more) (ready_next ts S h first more r))
    where
      y : ℕ
      y = get_or h.waiting first 0

      l : Halves
      l = lower_all (lists (get_or h.waiting first 0)) h

      less : first < length h.waiting → size (without (vertex (get_or h.waiting first 0)) S) ≤ k
      less more = omega (arith, size_without (vertex (get_or h.waiting first 0)) S (next_in_lem arcs n lists listed ts S h first more r))

      go : (t : Bool) → ltb first (length h.waiting) ≡ t → (first < length h.waiting → Emptied arcs n ts (without (vertex y) S) (suc first) (peel_from k lists (suc first) l))
          → Emptied arcs n ts S first (cond t (peel_from k lists (suc first) l) h)
      go true e q =
          let more = ltb-true first (length h.waiting) e in
          let p = q more in
          let after = (peel_from k lists (suc first) l).waiting in
          let grown = peel_front k lists (suc first) l in
          let lowered = lower_all_front (lists y) h in
          let here : first < length after = omega (arith, grown.longer, lowered.longer) in
          let same : get_or after first 0 ≡ y = grown.same first (omega (arith, lowered.longer)) ∙ lowered.same first more in
          record {
            rest = p.rest;
            leaves = subst (λ (ys : List ℕ). Leaves arcs S ys p.rest) (ap (λ (z : ℕ). z ∷ drop (suc first) after) (sym same) ∙ sym (drop-cons after first 0 here))
                (left y (next_in_lem arcs n lists listed ts S h first more r) (next_idle arcs n lists listed ts S h first more r) p.leaves);
            ready = p.ready;
          }
      go false e q = no_more ts S h first (omega (arith, r.started, ltb-false first (length h.waiting) e)) r

  pub peel_ready : (k : ℕ) (S : Set) (h : Halves) (first : ℕ) → size S ≤ k → Ready arcs n S h first [] → Peeled arcs n S first (peel_from k lists first h)
  peel_ready k S h first few r =
      let p = peel_emptied k [] S h first few r in
      let after = (peel_from k lists first h).waiting in
      record {
        rest = p.rest;
        many = length (drop first after);
        frees = leaves_frees arcs p.leaves;
        number = omega (arith, length-drop first after, (peel_front k lists first h).longer, r.started);
        ready = p.ready;
      }

  -- the first removal: what waits at the start
  pub first_peeled : (d q : List ℕ) → Seeding arcs n [] n d q → Peeled arcs n (vertices n) 0 (peel_from n lists 0 (record { degrees = d; waiting = q }))
  first_peeled d q b =
      peel_ready n (vertices n) (record { degrees = d; waiting = q }) 0 (omega (arith, size_vertices n)) (record { started = omega arith; state = seeding_done arcs n [] d q b })

-- nothing waits
module _ (arcs : List Arc) (n : ℕ) (S : Set) (h : Halves) (r : Ready arcs n S h (length h.waiting) []) where
  pub still : Between arcs n S h.degrees [] []
  still = subst (λ (q : List ℕ). Between arcs n S h.degrees q []) (drop-length h.waiting) r.state

-- ---- what is told

module _ (arcs : List Arc) (may : ℕ → Bool) (n : ℕ) where
  -- all that may go freely at first has gone
  pub first_going : (S : Set) (h : Halves) (end : ℕ) → Frees arcs (vertices n) S end → Ready arcs n S h end [] → Going arcs may n S h [] end
  first_going S h end f r = record {
    ready = r;
    told = subst (Sofar arcs may n S []) (zero-add end) (sofar_frees arcs may n f [] 0 (sofar_start arcs may n));
    spent = omega (arith, frees_size arcs f, size_vertices n);
  }

  module _ (lists : ℕ → List ℕ) (listed : Listed arcs n lists) (S : Set) (h : Halves) (picked : List ℕ) (g : Going arcs may n S h picked (length h.waiting)) where
    -- what is left is stable: the core
    pub going_stable : Stable arcs S
    going_stable = all_stable arcs n S h.degrees (still arcs n S h g.ready)

    -- the best node goes
    pick_ready : (x : ℕ) → Best arcs may S x → Ready arcs n (without x S) (pick lists x h) (length h.waiting) []
    unfolding pick
    pick_ready x b =
        lower_all_ready arcs n R (lists (2 * x + 1)) [] (lower_all (lists (2 * x)) k) first (λ t m. listed.low (2 * x + 1) t (omega (arith, low)) m)
        (subst (Ready arcs n R (lower_all (lists (2 * x)) k) first) (sym (append_nil (lists (2 * x + 1))))
        (lower_all_ready arcs n R (lists (2 * x)) (lists (2 * x + 1)) k first (λ t m. listed.low (2 * x) t (omega (arith, low)) m)
        (pick_left arcs n lists listed S h first x low (all_live arcs n S h.degrees (still arcs n S h g.ready) x b.inside) g.ready)))
      where
        R : Set
        R = without x S

        first : ℕ
        first = length h.waiting

        k : Halves
        k = record { degrees = drop_both x h.degrees; waiting = h.waiting }

        low : x < n
        low = omega (arith, has_lt S x b.inside, g.ready.state.set_long)

    -- one stage: the best node goes, and all that then may go freely. What was free before is all that waited so far.
    pub stage_going : (x : ℕ) → Best arcs may S x
        → let k : Halves = peel_from (n - length h.waiting) lists (length h.waiting) (pick lists x h) in
        (U : Set) × Going arcs may n U k (x ∷ picked) (length k.waiting)
    stage_going x b = (
      p.rest,
      record {
        ready = p.ready;
        told = subst (Sofar arcs may n p.rest (x ∷ picked)) p.number (sofar_frees arcs may n p.frees (x ∷ picked) (length h.waiting) (sofar_best arcs may n S picked (length h.waiting) g.told x going_stable b));
        spent = omega (arith, p.number, frees_size arcs p.frees, less, g.spent);
      },
    )
      where
        less : suc (size (without x S)) ≡ size S
        less = size_without x S b.inside

        p : Peeled arcs n (without x S) (length h.waiting) (peel_from (n - length h.waiting) lists (length h.waiting) (pick lists x h))
        p = peel_ready arcs n lists listed (n - length h.waiting) (without x S) (pick lists x h) (length h.waiting) (omega (arith, g.spent, less)) (pick_ready x b)

    -- all have gone: the choice is answered, by what was picked
    pub going_done : Bounded arcs n → length h.waiting + length picked ≡ n
        → (c : Chosen) × (keeping_choice arcs may n ≡ answered c) × Ascends c.ids × ((x : ℕ) → In x c.ids ↔ In x picked) × (c.free ≡ length h.waiting)
    going_done bounded e = sofar_done arcs may n S picked (length h.waiting) g.told bounded (size_empty S (omega (arith, g.spent)))

    -- and if not all have gone, something is left
    pub going_some : length h.waiting + length picked ≢ n → (x : ℕ) × T (has S x)
    going_some e = size_some S (pos_of (size S) (λ z. e (omega (arith, g.spent))))
