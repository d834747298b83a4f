-- Keys in words: reads, one stored key, and the loops that sift, in words.
-- Assumes nothing.
use mathlib.Core.Path.{◌≡◌, refl, sym, ap, ◌∙◌, subst}
use mathlib.Core.List.{List, [], ◌∷◌, ◌++◌}
use mathlib.Core.Logic.{◌≢◌, ◌⊎◌, inl, inr, ⊎_elim}
use Prim.Native.Nat.{ℕ, zero, suc, ◌+◌, ◌-◌, ◌*◌, ◌/◌, ◌%◌, ◌≤◌, ◌<◌}
use native.Mathlib.Decide.{ℕ_discrete}
use native.Mathlib.Omega.{arith}
use lib.ListN.{length, get_or, set, length-set, length-append, get_or-append}
use lib.Seq.{get_or-set_same, get_or-set_other, ext_get_or, get_or-append_seam}
use Rattle.le.specs.Le.{Outside}
use Rattle.le.proofs.Frames.{outside_none, outside_trans, outside_set}
use Rattle.queue.specs.Keys.{Heap, Sinking, Sunk, Rising, Pushed}
use Rattle.queue.specs.Places.{key_at, list_of, keys_in, placed, Larger, Sinks, Replaced, Rises, Added}
use Rattle.queue.proofs.Heaps.{sink_start, sink_turn, sink_done, rise_start, rise_turn, rise_done}

-- ---- the list of the keys

length_list_of : (f : ℕ → ℕ) (n : ℕ) → length (list_of f n) ≡ n
unfolding list_of
length_list_of f zero = refl
length_list_of f (suc n) = ap suc (length_list_of (λ i. f (suc i)) n)

get_d_list_of : (f : ℕ → ℕ) (n i : ℕ) → i < n → get_or (list_of f n) i 0 ≡ f i
unfolding list_of
get_d_list_of f zero i l = absurd (omega arith)
get_d_list_of f (suc n) zero l = refl
get_d_list_of f (suc n) (suc i) l = get_d_list_of (λ j. f (suc j)) n i (omega arith)

pub keys_length : (W : List ℕ) (base n : ℕ) → length (keys_in W base n) ≡ n
unfolding keys_in
keys_length W base n = length_list_of (key_at W base) n

pub keys_at : (W : List ℕ) (base n i : ℕ) → i < n → get_or (keys_in W base n) i 0 ≡ key_at W base i
unfolding keys_in
keys_at W base n i l = get_d_list_of (key_at W base) n i l

-- one key more
pub keys_snoc : (W : List ℕ) (base n : ℕ) → keys_in W base (n + 1) ≡ keys_in W base n ++ (key_at W base n ∷ [])
keys_snoc W base n =
    ext_get_or 0 (keys_in W base (n + 1)) (keys_in W base n ++ (key_at W base n ∷ []))
    (omega (arith, keys_length W base (n + 1), keys_length W base n, length-append (keys_in W base n) (key_at W base n ∷ [])))
    (λ i l. at i (omega (arith, keys_length W base (n + 1))) (ℕ_discrete i n))
  where
    at : (i : ℕ) → i < n + 1 → Dec (i ≡ n) → get_or (keys_in W base (n + 1)) i 0 ≡ get_or (keys_in W base n ++ (key_at W base n ∷ [])) i 0
    at i l (yes e) =
        keys_at W base (n + 1) i l ∙ ap (key_at W base) e
        ∙ sym (ap (λ (k : ℕ). get_or (keys_in W base n ++ (key_at W base n ∷ [])) k 0) (e ∙ sym (keys_length W base n)) ∙ get_or-append_seam (keys_in W base n) (key_at W base n) [] 0)
    at i l (no f) =
        let k : i < n = omega arith in
        keys_at W base (n + 1) i l ∙ sym (get_or-append (keys_in W base n) (key_at W base n ∷ []) 0 i (omega (arith, keys_length W base n)) ∙ keys_at W base n i k)

-- ---- one stored key

module _ (W : List ℕ) (base i k : ℕ) (fits : base + 2 * (i + 1) ≤ length W) where
  placed_here : key_at (placed W base i k) base i ≡ k
  unfolding key_at placed
  placed_here =
      omega (
        arith,
        get_or-set_same M (base + 2 * i + 1) (k / 4294967296) 0 (rw length-set (omega arith)),
        get_or-set_other M (base + 2 * i + 1) (base + 2 * i) (k / 4294967296) 0 (λ e. omega arith),
        get_or-set_same W (base + 2 * i) (k % 4294967296) 0 (omega arith),
      )
    where
      M : List ℕ
      M = set W (base + 2 * i) (k % 4294967296)

  placed_word : (j : ℕ) → j ≢ base + 2 * i → j ≢ base + 2 * i + 1 → get_or (placed W base i k) j 0 ≡ get_or W j 0
  unfolding placed
  placed_word j f g = get_or-set_other (set W (base + 2 * i) (k % 4294967296)) (base + 2 * i + 1) j (k / 4294967296) 0 g ∙ get_or-set_other W (base + 2 * i) j (k % 4294967296) 0 f

  placed_other : (j : ℕ) → j ≢ i → key_at (placed W base i k) base j ≡ key_at W base j
  unfolding key_at
  placed_other j f =
      omega (arith, placed_word (base + 2 * j) (λ e. f (omega arith)) (λ e. f (omega arith)), placed_word (base + 2 * j + 1) (λ e. f (omega arith)) (λ e. f (omega arith)))

  pub placed_keys : (n : ℕ) → i < n → keys_in (placed W base i k) base n ≡ set (keys_in W base n) i k
  placed_keys n l =
      ext_get_or 0 (keys_in (placed W base i k) base n) (set (keys_in W base n) i k) (keys_length (placed W base i k) base n ∙ sym (length-set (keys_in W base n) i k ∙ keys_length W base n))
      (λ j m. at j (omega (arith, keys_length (placed W base i k) base n)) (ℕ_discrete j i))
    where
      at : (j : ℕ) → j < n → Dec (j ≡ i) → get_or (keys_in (placed W base i k) base n) j 0 ≡ get_or (set (keys_in W base n) i k) j 0
      at j m (yes e) =
          keys_at (placed W base i k) base n j m ∙ ap (key_at (placed W base i k) base) e ∙ placed_here
          ∙ sym (ap (λ (x : ℕ). get_or (set (keys_in W base n) i k) x 0) e ∙ get_or-set_same (keys_in W base n) i k 0 (omega (arith, keys_length W base n)))
      at j m (no f) =
          keys_at (placed W base i k) base n j m ∙ placed_other j f ∙ sym (get_or-set_other (keys_in W base n) i j k 0 f ∙ keys_at W base n j m)

  pub placed_outside : (n : ℕ) → i < n → Outside base (base + 2 * n) W (placed W base i k)
  unfolding placed
  placed_outside n l =
      outside_trans (outside_set base (base + 2 * n) W (base + 2 * i) (k % 4294967296) (omega arith) (omega arith))
      (outside_set base (base + 2 * n) (set W (base + 2 * i) (k % 4294967296)) (base + 2 * i + 1) (k / 4294967296) (omega arith) (omega arith))

-- ---- the larger of two

-- a key below key i that is not below the others there
pub larger_is : (W : List ℕ) (base n i c : ℕ) → 0 < c → c < n → (c - 1) / 2 ≡ i
    → ((j : ℕ) → (j ≡ 2 * i + 1) ⊎ (j ≡ 2 * i + 2) → j < n → key_at W base j ≤ key_at W base c) → Larger (keys_in W base n) n i c
larger_is W base n i c p q e h = record {
  positive = p;
  inside = q;
  parent = e;
  most = λ j r s f. omega (arith, keys_at W base n j s, keys_at W base n c q, h j (which j r f (ℕ_discrete j (2 * i + 1))) s);
}
  where
    which : (j : ℕ) → 0 < j → (j - 1) / 2 ≡ i → Dec (j ≡ 2 * i + 1) → (j ≡ 2 * i + 1) ⊎ (j ≡ 2 * i + 2)
    which j r f (yes g) = inl g
    which j r f (no g) = inr (omega arith)

module _ (W : List ℕ) (base n i right : ℕ) (l : 2 * i + 1 < n) (there : (right ≡ 2 * i + 1) ⊎ (right ≡ 2 * i + 1 + 1)) (last : 2 * i + 1 + 1 < n → right ≡ 2 * i + 1 + 1) where
  at : (j : ℕ) → j ≡ right → key_at W base j ≡ key_at W base right
  at j e = ap (key_at W base) e

  -- the right one is larger, so it is another than the left one
  pub larger_right : right < n → key_at W base (2 * i + 1) < key_at W base right → Larger (keys_in W base n) n i right
  larger_right q h = larger_is W base n i right (⊎_elim (λ e. omega arith) (λ e. omega arith) there) q (omega (arith, other)) (λ j w s. ⊎_elim (λ e. omega (arith, ap (key_at W base) e)) (λ e. omega (arith, at j (e ∙ sym other))) w)
    where
      other : right ≡ 2 * i + 2
      other = ⊎_elim (λ e. absurd (omega (arith, ap (key_at W base) e))) (λ e. omega arith) there

  pub larger_left : key_at W base right ≤ key_at W base (2 * i + 1) → Larger (keys_in W base n) n i (2 * i + 1)
  larger_left h = larger_is W base n i (2 * i + 1) (omega arith) l (omega arith) (λ j w s. ⊎_elim (λ e. omega (arith, ap (key_at W base) e)) (λ e. let r : right ≡ 2 * i + 2 = omega (arith, last (omega arith)) in omega (arith, at j (e ∙ sym r))) w)

-- ---- sinking, in words

-- while k sinks
pub record SinkingIn (W X : List ℕ) (base n k gap : ℕ) : Type 0 where
  pub sinking : Sinking (keys_in W base n) (keys_in X base n) k gap
  pub frame : Outside base (base + 2 * n) W X

module _ (W : List ℕ) (base n k : ℕ) (fits : base + 2 * n ≤ length W) where
  long : length (keys_in W base n) ≡ n
  long = keys_length W base n

  pub sinking_start : 0 < n → Heap (keys_in W base n) n → SinkingIn W W base n k 0
  sinking_start l h = record {
    sinking = sink_start (keys_in W base n) k (omega (arith, long)) (subst (Heap (keys_in W base n)) (sym long) h);
    frame = outside_none base (base + 2 * n) W;
  }

  module _ (X : List ℕ) (gap : ℕ) (s : SinkingIn W X base n k gap) where
    pub sinking_gap : gap < n
    sinking_gap = omega (arith, s.sinking.inside, long)

    pub sinking_turn : (c : ℕ) → Larger (keys_in X base n) n gap c → k ≤ key_at X base c → SinkingIn W (placed X base gap (key_at X base c)) base n k c
    sinking_turn c l a = record {
      sinking = subst (λ (Y : List ℕ). Sinking (keys_in W base n) Y k c) (sym is)
          (sink_turn (keys_in W base n) k (keys_in X base n) gap c s.sinking (omega (arith, long, l.inside)) l.positive l.parent (omega (arith, at)) (λ j p q e. l.most j p (omega (arith, long)) e));
      frame = outside_trans s.frame (placed_outside X base gap (key_at X base c) inside n sinking_gap);
    }
      where
        at : get_or (keys_in X base n) c 0 ≡ key_at X base c
        at = keys_at X base n c l.inside

        inside : base + 2 * (gap + 1) ≤ length X
        inside = omega (arith, s.frame.long, sinking_gap)

        is : keys_in (placed X base gap (key_at X base c)) base n ≡ set (keys_in X base n) gap (get_or (keys_in X base n) c 0)
        is = placed_keys X base gap (key_at X base c) inside n sinking_gap ∙ ap (set (keys_in X base n) gap) (sym at)

    -- no child is above k
    pub sinking_stop : (c : ℕ) → Larger (keys_in X base n) n gap c → key_at X base c ≤ k → Sinks W X base n k gap
    sinking_stop c l a = record {
      sinking = s.sinking;
      below = λ j p q e. omega (arith, l.most j p q e, keys_at X base n c l.inside);
      frame = s.frame;
    }

  pub sinks_put : (X : List ℕ) (gap : ℕ) → Sinks W X base n k gap → Replaced W (placed X base gap k) base n k
  sinks_put X gap s = record {
    sunk = subst (λ (Y : List ℕ). Sunk (keys_in W base n) Y k) (sym (placed_keys X base gap k inside n low)) (sink_done (keys_in W base n) k (keys_in X base n) gap s.sinking (λ j p q e. s.below j p (omega (arith, long)) e));
    frame = outside_trans s.frame (placed_outside X base gap k inside n low);
  }
    where
      low : gap < n
      low = omega (arith, s.sinking.inside, long)

      inside : base + 2 * (gap + 1) ≤ length X
      inside = omega (arith, s.frame.long, low)

-- ---- rising, in words

pub record RisingIn (W X : List ℕ) (base n k gap : ℕ) : Type 0 where
  pub rising : Rising (keys_in W base n) (keys_in X base (n + 1)) n k gap
  pub frame : Outside base (base + 2 * (n + 1)) W X

module _ (W : List ℕ) (base n k : ℕ) (fits : base + 2 * (n + 1) ≤ length W) where
  pub rising_start : Heap (keys_in W base n) n → RisingIn W W base n k n
  rising_start h = record {
    rising = subst (λ (Y : List ℕ). Rising (keys_in W base n) Y n k n) (sym (keys_snoc W base n))
        (subst (λ (m : ℕ). Rising (keys_in W base n) (keys_in W base n ++ (key_at W base n ∷ [])) m k m) e (rise_start (keys_in W base n) k (key_at W base n) (subst (Heap (keys_in W base n)) (sym e) h)));
    frame = outside_none base (base + 2 * (n + 1)) W;
  }
    where
      e : length (keys_in W base n) ≡ n
      e = keys_length W base n

  module _ (X : List ℕ) (gap : ℕ) (r : RisingIn W X base n k gap) where
    inside : base + 2 * (gap + 1) ≤ length X
    inside = omega (arith, r.frame.long, r.rising.inside)

    pub rising_turn : 0 < gap → key_at X base ((gap - 1) / 2) ≤ k → RisingIn W (placed X base gap (key_at X base ((gap - 1) / 2))) base n k ((gap - 1) / 2)
    rising_turn p a = record {
      rising = subst (λ (Y : List ℕ). Rising (keys_in W base n) Y n k ((gap - 1) / 2)) (sym is) (rise_turn (keys_in W base n) k (keys_in X base (n + 1)) n gap r.rising p (omega (arith, at)));
      frame = outside_trans r.frame (placed_outside X base gap (key_at X base ((gap - 1) / 2)) inside (n + 1) (omega (arith, r.rising.inside)));
    }
      where
        at : get_or (keys_in X base (n + 1)) ((gap - 1) / 2) 0 ≡ key_at X base ((gap - 1) / 2)
        at = keys_at X base (n + 1) ((gap - 1) / 2) (omega (arith, r.rising.inside))

        is : keys_in (placed X base gap (key_at X base ((gap - 1) / 2))) base (n + 1) ≡ set (keys_in X base (n + 1)) gap (get_or (keys_in X base (n + 1)) ((gap - 1) / 2) 0)
        is = placed_keys X base gap (key_at X base ((gap - 1) / 2)) inside (n + 1) (omega (arith, r.rising.inside)) ∙ ap (set (keys_in X base (n + 1)) gap) (sym at)

    pub rising_stop : (0 < gap → k ≤ key_at X base ((gap - 1) / 2)) → Rises W X base n k gap
    rising_stop a = record {
      rising = r.rising;
      above = λ p. omega (arith, a p, keys_at X base (n + 1) ((gap - 1) / 2) (omega (arith, r.rising.inside)));
      frame = r.frame;
    }

  pub rises_put : (X : List ℕ) (gap : ℕ) → Rises W X base n k gap → Added W (placed X base gap k) base n k
  rises_put X gap r = record {
    pushed = subst (λ (Y : List ℕ). Pushed (keys_in W base n) Y k) (sym (placed_keys X base gap k i (n + 1) l)) (rise_done (keys_in W base n) k (keys_in X base (n + 1)) n gap r.rising (keys_length W base n) r.above);
    frame = outside_trans r.frame (placed_outside X base gap k i (n + 1) l);
  }
    where
      l : gap < n + 1
      l = omega (arith, r.rising.inside)

      i : base + 2 * (gap + 1) ≤ length X
      i = omega (arith, r.frame.long, r.rising.inside)
