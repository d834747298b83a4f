-- How often an entry is made: each present key that replaces a stale top has fewer arcs, so all in all no more than nodes and arcs.
-- Assumes nothing.
use mathlib.Core.Path.{◌≡◌, refl, sym, ap, ◌∙◌}
use mathlib.Core.Bool.{Bool, ◌&&◌}
use mathlib.Core.List.Memᴰ
use mathlib.Core.List.{List, [], ◌∷◌}
use mathlib.Core.Logic.{◌⊎◌, inl, inr, ◌≢◌}
use Prim.Native.Nat.{ℕ, zero, suc, ◌+◌, ◌-◌, ◌*◌, ◌≤◌, ◌<◌}
use native.Mathlib.Decide.{dec_le}
use native.Mathlib.Nat.{lt_of_not-le, le_refl, mul-div_cancel_left, zero-mul, eq-zero-or-pos}
use native.Mathlib.Omega.{arith}
use lib.Dec.{T, eqb}
use lib.ListN.{length, get_or}
use Rattle.choice.specs.Arcs.{Arc, bump, how_many, Set, has, into, out}
use Rattle.halves.specs.Halves.{sum_to}
use Rattle.halves.proofs.Lists.{pos_of}
use Rattle.halves.proofs.Sums.{sum_same, sum_add, sum_none, sum_one, sum_zero, bump_plus}
use Rattle.queue.specs.Keys.{radix, key, id_of, in_of, key_now, arcs_of, degree_sum, total, Entry, times_queued, Queued, Filled, none, passed, pushed, Makes, filled, lowered, replaced, OneEnd}
use Rattle.queue.proofs.Numbers.{key_in, key_score}
use Rattle.queue.proofs.Nodes.{top_entry, in_small, queue_lowered, queue_replaced}

pub key_worth : (v i o : ℕ) → v < radix → i < radix → 0 < i → arcs_of (key v i o) ≡ i + o
unfolding arcs_of
key_worth v i o l s p = rw (key_in v i o l s, key_score v i o l s) (ap (λ (x : ℕ). i + x) (mul-div_cancel_left o p))

no_worth : (v o : ℕ) → v < radix → arcs_of (key v 0 o) ≡ 0
unfolding arcs_of
no_worth v o l = rw (key_in v 0 o l (omega arith), key_score v 0 o l (omega arith), zero-mul o) refl

module _ (may : ℕ → Bool) (d K : List ℕ) (q : Queued may d K) (some : 0 < length K) where
  abbrev best : ℕ
  best = id_of (get_or K 0 0)

  -- a stale top has more arcs than its node has
  pub stale_worth : key_now d (id_of (get_or K 0 0)) ≢ get_or K 0 0 → arcs_of (key_now d (id_of (get_or K 0 0))) < arcs_of (get_or K 0 0)
  stale_worth stale = go (eq-zero-or-pos di)
    where
      e : Entry may d (get_or K 0 0)
      e = top_entry may d K q some

      i : ℕ
      i = in_of (get_or K 0 0)

      o : ℕ
      o = e.arcs_out

      di : ℕ
      di = get_or d (2 * best) 0

      do' : ℕ
      do' = get_or d (2 * best + 1) 0

      low : best < radix
      low = q.ids best e.allowed

      differs : (di ≡ i) → (di * do' ≡ i * o) → ⊥
      differs s t = stale (same ∙ sym e.is)
        where
          same : key best di do' ≡ key best i o
          same = unfold key in (λ j. t j * (radix * radix) + (radix - 1 - best) * radix + s j)

      was : 0 < i → arcs_of (get_or K 0 0) ≡ i + o
      was p = ap arcs_of e.is ∙ key_worth best i o low (in_small (get_or K 0 0)) p

      go : (di ≡ 0) ⊎ (0 < di) → arcs_of (key_now d best) < arcs_of (get_or K 0 0)
      go (inl z) =
          let none : arcs_of (key_now d best) ≡ 0 = ap (λ (x : ℕ). arcs_of (key best x do')) z ∙ no_worth best do' low in
          let p : 0 < i = pos_of i (λ y. differs (z ∙ sym y) ((λ j. z j * do') ∙ zero-mul do' ∙ sym ((λ j. y j * o) ∙ zero-mul o))) in
          omega (arith, none, was p)
      go (inr p) = more (dec_le (i + o) (di + do'))
        where
          now : arcs_of (key_now d best) ≡ di + do'
          now = key_worth best di do' low (q.small (2 * best)) p

          more : Dec (i + o ≤ di + do') → arcs_of (key_now d best) < arcs_of (get_or K 0 0)
          more (yes l) =
              let si : di ≡ i = omega (arith, e.ins, e.outs) in
              let so : do' ≡ o = omega (arith, e.ins, e.outs) in
              absurd (differs si (λ j. si j * so j))
          more (no l) = omega (arith, now, was (omega (arith, e.ins)), lt_of_not-le l)

-- ---- how many entries are made

-- while the queue is made: as many as nodes at most, and each is worth its node's degrees
filled_spent : (may : ℕ → Bool) (d : List ℕ) → ((v : ℕ) → T (may v) → v < radix) → ((y : ℕ) → get_or d y 0 < radix) → {k : ℕ} {K : List ℕ} → Filled may d k K
    → (length K ≤ k) × (total arcs_of K ≤ degree_sum d k)
unfolding total degree_sum
filled_spent may d ids small none = (omega arith, omega arith)
filled_spent may d ids small (passed {k = k} {K = K} f) = let h = filled_spent may d ids small f in (omega (arith, h.0), omega (arith, h.1))
filled_spent may d ids small (pushed {k = k} {K = K} {X = X} f m p s) =
    let h = filled_spent may d ids small f in
    (omega (arith, h.0, s.long), omega (arith, h.1, s.moved arcs_of, key_worth k (get_or d (2 * k) 0) (get_or d (2 * k + 1) 0) (ids k m) (small (2 * k)) p))

makes_spent : {may : ℕ → Bool} {nodes : ℕ} {first d K : List ℕ} {made : ℕ} → Makes may nodes first d K made
    → Queued may d K × (made + total arcs_of K ≤ nodes + degree_sum first nodes)
makes_spent (filled f q) = let h = filled_spent _ _ q.ids q.small f in (q, omega (arith, h.0, h.1))
makes_spent (lowered {d = d} {e = e} {K = K} m less) = let h = makes_spent m in (queue_lowered _ d e K less h.0, h.1)
makes_spent (replaced {d = d} {K = K} {X = X} m some stale s) =
    let h = makes_spent m in
    (queue_replaced _ d K h.0 some X s, omega (arith, h.1, s.moved arcs_of, stale_worth _ d K h.0 some stale))

-- ---- the degrees of all nodes are the arcs: each arc has one node

into_cons : (a : Arc) (arcs : List Arc) (S : Set) (v : ℕ) → into (a ∷ arcs) S v ≡ bump (eqb a.to v && has S a.from) 0 + into arcs S v
unfolding into how_many
into_cons a arcs S v = bump_plus (eqb a.to v && has S a.from) (how_many (λ c. eqb c.to v && has S c.from) arcs)

out_cons : (a : Arc) (arcs : List Arc) (S : Set) (v : ℕ) → out (a ∷ arcs) S v ≡ bump (eqb a.from v && has S a.to) 0 + out arcs S v
unfolding out how_many
out_cons a arcs S v = bump_plus (eqb a.from v && has S a.to) (how_many (λ c. eqb c.from v && has S c.to) arcs)

none_there : (S : Set) (v : ℕ) → into [] S v + out [] S v ≡ 0
unfolding into out how_many
none_there S v = refl

sum_arcs : (arcs : List Arc) (S : Set) (k : ℕ) → OneEnd k arcs → sum_to (λ v. into arcs S v + out arcs S v) k ≤ length arcs
sum_arcs [] S k h = omega (arith, sum_zero (λ v. into [] S v + out [] S v) k (none_there S))
sum_arcs (a ∷ arcs) S k h =
    omega (
      arith,
      sum_same (λ v. into (a ∷ arcs) S v + out (a ∷ arcs) S v) (λ v. (pin v + pout v) + (into arcs S v + out arcs S v)) k (λ v l. omega (arith, into_cons a arcs S v, out_cons a arcs S v)),
      sum_add (λ v. pin v + pout v) (λ v. into arcs S v + out arcs S v) k,
      sum_add pin pout k,
      one (h a (Memᴰ.head refl)),
      sum_arcs arcs S k (λ b m. h b (Memᴰ.tail m)),
    )
  where
    pin : ℕ → ℕ
    pin v = bump (eqb a.to v && has S a.from) 0

    pout : ℕ → ℕ
    pout v = bump (eqb a.from v && has S a.to) 0

    one : (k ≤ a.from) ⊎ (k ≤ a.to) → sum_to pin k + sum_to pout k ≤ 1
    one (inl l) = omega (arith, sum_none a.from (has S a.to) k l, sum_one a.to (has S a.from) k)
    one (inr l) = omega (arith, sum_none a.to (has S a.from) k l, sum_one a.from (has S a.to) k)

-- so the queue that is made when nothing waits is worth no more than there are arcs
degrees_few : (arcs : List Arc) (S : Set) (d : List ℕ) (nodes : ℕ) → OneEnd nodes arcs
    → ((v : ℕ) → v < nodes → (get_or d (2 * v) 0 ≤ into arcs S v) × (get_or d (2 * v + 1) 0 ≤ out arcs S v)) → degree_sum d nodes ≤ length arcs
degrees_few arcs S d nodes h less = omega (arith, below nodes (le_refl nodes), sum_arcs arcs S nodes h)
  where
    below : (k : ℕ) → k ≤ nodes → degree_sum d k ≤ sum_to (λ v. into arcs S v + out arcs S v) k
    below zero l = unfold degree_sum in omega arith
    below (suc k) l = step (below k (omega arith))
      where
        step : degree_sum d k ≤ sum_to (λ v. into arcs S v + out arcs S v) k → degree_sum d (suc k) ≤ sum_to (λ v. into arcs S v + out arcs S v) (suc k)
        step r = unfold degree_sum in unfold sum_to in omega (arith, r, less k (omega arith))

-- however the engine runs: no more entries are made than there are nodes and arcs, and no node has two
pub entries_made : (arcs : List Arc) (S : Set) (may : ℕ → Bool) (nodes : ℕ) (first d K : List ℕ) (made : ℕ) → OneEnd nodes arcs
    → ((v : ℕ) → v < nodes → (get_or first (2 * v) 0 ≤ into arcs S v) × (get_or first (2 * v + 1) 0 ≤ out arcs S v))
    → Makes may nodes first d K made → (made ≤ nodes + length arcs) × ((v : ℕ) → times_queued v K ≤ 1)
entries_made arcs S may nodes first d K made h less m = let s = makes_spent m in (omega (arith, s.1, degrees_few arcs S first nodes h less), s.0.once)
