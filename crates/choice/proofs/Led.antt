-- Taking away vertices without an arc in leaves just what core vertices lead to. And a vertex outside the core that a core vertex
-- leads to leads to none.
-- Assumes nothing.
use mathlib.Core.Path.{◌≡◌, refl, sym, ◌∙◌, subst}
use mathlib.Core.Bool.{false}
use mathlib.Core.List.{List}
use mathlib.Core.Logic.{◌⊎◌, inl, inr, ◌↔◌}
use Prim.Native.Nat.{ℕ, zero, suc, ◌≤◌, ◌<◌}
use native.Mathlib.Nat.{le_refl, lt_irrefl}
use native.Mathlib.Decide.{ℕ_discrete}
use native.Mathlib.Omega.{arith}
use lib.Dec.{T, ltb, ltb→lt, lt→ltb}
use lib.ListN.{length, length-set}
use Rattle.choice.specs.Arcs.{Arc, Leads, Set, has, without, size, passing, Subset, into, out}
use Rattle.choice.specs.Choice.{core, Peels, peel}
use Rattle.choice.proofs.Sets.{test, set_ext, without_subset, stays, length_passing, kept, passing_subset, none_left, size_without, passing_or_less}
use Rattle.choice.proofs.Core.{into_some, into_of, out_of, Steady, Inside, stable_steady, core_subset, core_stable, core_steady}
use Rattle.choice.specs.Reasons.{feed, led, Way, here, onto, LedTo, LeadsOn, Fed, Drains, drained, drain}

module _ (arcs : List Arc) where
  -- ---- ways

  pub way_start : {S : Set} {u v : ℕ} → Way arcs S u v → T (has S u)
  way_start (here t) = t
  way_start (onto w j t) = way_start w

  pub way_end : {S : Set} {u v : ℕ} → Way arcs S u v → T (has S v)
  way_end (here t) = t
  way_end (onto w j t) = t

  pub way_before : {S : Set} {u v w : ℕ} → T (has S u) → Leads arcs u v → Way arcs S v w → Way arcs S u w
  way_before t j (here s) = onto (here t) j s
  way_before t j (onto w k s) = onto (way_before t j w) k s

  -- a way is empty, or has a last arc; and a first
  pub way_last : {S : Set} {u v : ℕ} → Way arcs S u v → (u ≡ v) ⊎ ((x : ℕ) × Way arcs S u x × Leads arcs x v)
  way_last (here t) = inl refl
  way_last (onto {v = x} w j t) = inr (x, w, j)

  pub way_first : {S : Set} {u v : ℕ} → Way arcs S u v → (u ≡ v) ⊎ ((x : ℕ) × Leads arcs u x × Way arcs S x v)
  way_first (here t) = inl refl
  way_first {S} {u} (onto {v = y} {w = w} p j t) = go (way_first p)
    where
      go : (u ≡ y) ⊎ ((x : ℕ) × Leads arcs u x × Way arcs S x y) → (u ≡ w) ⊎ ((x : ℕ) × Leads arcs u x × Way arcs S x w)
      go (inl e) = inr (w, subst (λ (x : ℕ). Leads arcs x w) (sym e) j, here t)
      go (inr h) = inr (h.0, h.1, onto h.2 j t)

  -- ---- what has an arc in

  -- as Core's Steady, of arcs in alone
  abbrev pub FedFrom : (ℕ → Type 0) → Type 0
  FedFrom P = (v : ℕ) → P v → (u : ℕ) × P u × Leads arcs u v

  pub fed_from : (S : Set) → Fed arcs S → FedFrom (λ v. T (has S v))
  fed_from S f v t = into_some arcs S v (f v t)

  length_feed : (k : ℕ) (S : Set) → length (feed k arcs S) ≡ length S
  unfolding feed
  length_feed zero S = refl
  length_feed (suc k) S =
      length_feed k (passing (λ v. ltb zero (into arcs S v)) S) ∙ length_passing (λ v. ltb zero (into arcs S v)) S

  feed_subset : (k : ℕ) (S : Set) → Subset (feed k arcs S) S
  unfolding feed
  feed_subset zero S v t = t
  feed_subset (suc k) S v t = passing_subset (λ u. ltb zero (into arcs S u)) S v (feed_subset k (passing (λ u. ltb zero (into arcs S u)) S) v t)

  feed_keeps : (k : ℕ) (P : ℕ → Type 0) (S : Set) → FedFrom P → Inside arcs P S → Inside arcs P (feed k arcs S)
  unfolding feed
  feed_keeps zero P S s w = w
  feed_keeps (suc k) P S s w =
      feed_keeps k P (passing (λ v. ltb zero (into arcs S v)) S) s
      (λ v p. let h = s v p in kept (λ u. ltb zero (into arcs S u)) S v (w v p) (lt→ltb zero _ (into_of arcs S h.0 v h.2 (w h.0 h.1))))

  feed_same : (k : ℕ) (S : Set) → Fed arcs S → feed k arcs S ≡ S
  feed_same k S f =
      set_ext (feed k arcs S) S (length_feed k S) (feed_subset k S) (feed_keeps k (λ v. T (has S v)) S (fed_from S f) (λ v t. t))

  feed_fed : (k : ℕ) (S : Set) → size S ≤ k → Fed arcs (feed k arcs S)
  feed_fed zero S h = λ v t. absurd (none_left S h v (feed_subset zero S v t))
  feed_fed (suc k) S h = go (feed_fed k F) (passing_or_less (λ v. ltb zero (into arcs S v)) S)
    where
      F : Set
      F = passing (λ v. ltb zero (into arcs S v)) S

      go : (size F ≤ k → Fed arcs (feed k arcs F)) → ((v : ℕ) → T (has S v) → T (ltb zero (into arcs S v))) ⊎ (size F < size S) → Fed arcs (feed (suc k) arcs S)
      go r (inl f) =
          let s : Fed arcs S = λ v t. ltb→lt zero _ (f v t) in subst (Fed arcs) (sym (feed_same (suc k) S s)) s
      go r (inr l) = unfold feed in r (omega arith)

  pub length_led : (S : Set) → length (led arcs S) ≡ length S
  unfolding led
  length_led S = length_feed (size S) S

  pub led_subset : (S : Set) → Subset (led arcs S) S
  unfolding led
  led_subset S = feed_subset (size S) S

  pub led_fed : (S : Set) → Fed arcs (led arcs S)
  unfolding led
  led_fed S = feed_fed (size S) S (le_refl (size S))

  -- it is the largest such set
  pub led_largest : (P : ℕ → Type 0) (S : Set) → FedFrom P → Inside arcs P S → Inside arcs P (led arcs S)
  unfolding led
  led_largest P S = feed_keeps (size S) P S

  -- ---- a core vertex leads to v exactly if v is left

  core_led : (S : Set) → Subset (core arcs S) (led arcs S)
  core_led S =
      led_largest (λ v. T (has (core arcs S) v)) S (λ v t. (stable_steady arcs (core arcs S) (core_stable arcs S) v t).0) (core_subset arcs S)

  -- what is left leads to what is left
  led_onto : (S : Set) (v w : ℕ) → T (has (led arcs S) v) → Leads arcs v w → T (has S w) → T (has (led arcs S) w)
  led_onto S v w t j i = led_largest P S fed inside w (inr refl)
    where
      P : ℕ → Type 0
      P x = T (has (led arcs S) x) ⊎ (x ≡ w)

      fed : (x : ℕ) → T (has (led arcs S) x) ⊎ (x ≡ w) → (u : ℕ) × (T (has (led arcs S) u) ⊎ (u ≡ w)) × Leads arcs u x
      fed x (inl s) = let h = fed_from (led arcs S) (led_fed S) x s in (h.0, inl h.1, h.2)
      fed x (inr e) = (v, inl t, subst (λ (y : ℕ). Leads arcs v y) (sym e) j)

      inside : (x : ℕ) → T (has (led arcs S) x) ⊎ (x ≡ w) → T (has S x)
      inside x (inl s) = led_subset S x s
      inside x (inr e) = subst (λ (y : ℕ). T (has S y)) (sym e) i

  way_led : {S : Set} {u v : ℕ} → Way arcs S u v → T (has (led arcs S) u) → T (has (led arcs S) v)
  way_led (here t) s = s
  way_led {S} (onto {v = v} {w = w} p j t) s = led_onto S v w (way_led p s) j t

  -- a way that an arc closes lies in the core
  closed_core : (S : Set) (x y : ℕ) → Way arcs S x y → Leads arcs y x → T (has (core arcs S) x)
  closed_core S x y w j = core_steady arcs P S steady (λ z p. way_end p.0) x (here (way_start w), w)
    where
      P : ℕ → Type 0
      P z = Way arcs S x z × Way arcs S z y

      ins : (z : ℕ) → P z → (x ≡ z) ⊎ ((u : ℕ) × Way arcs S x u × Leads arcs u z) → (u : ℕ) × P u × Leads arcs u z
      ins z p (inl e) = (y, (w, here (way_end w)), subst (λ (k : ℕ). Leads arcs y k) e j)
      ins z p (inr h) = (h.0, (h.1, way_before (way_end h.1) h.2 p.1), h.2)

      outs : (z : ℕ) → P z → (z ≡ y) ⊎ ((u : ℕ) × Leads arcs z u × Way arcs S u y) → (u : ℕ) × P u × Leads arcs z u
      outs z p (inl e) = (x, (here (way_start w), w), subst (λ (k : ℕ). Leads arcs k x) (sym e) j)
      outs z p (inr h) = (h.0, (onto p.0 h.1 (way_start h.2), h.2), h.1)

      steady : Steady arcs P
      steady z p = (ins z p (way_last p.0), outs z p (way_first p.1))

  -- go back from arc to arc; R has those not met yet, and x leads to all the others
  Met : Set → Set → ℕ → Type 0
  Met S R x = (u : ℕ) → T (has (led arcs S) u) → (T (has R u) → ⊥) → Way arcs S x u

  go_back : (k : ℕ) (S R : Set) (x v : ℕ) → T (has (led arcs S) x) → Way arcs S x v → size R ≤ k → Met S R x → LedTo arcs S v
  unfolding Met
  go_back zero S R x v t w h met =
      let y = fed_from (led arcs S) (led_fed S) x t in
      record { vertex = x; inside = closed_core S x y.0 (met y.0 y.1 (none_left R h y.0)) y.2; way = w }
  go_back (suc k) S R x v t w h met = go (fed_from (led arcs S) (led_fed S) x t) (λ y s q l m. go_back k S (without y R) y v s q l m)
    where
      L : Set
      L = led arcs S

      more : (y : ℕ) → T (has L y) → Leads arcs y x → (u : ℕ) → T (has L u) → (T (has (without y R) u) → ⊥) → Way arcs S y u
      more y s j u i n = by (ℕ_discrete u y)
        where
          by : Dec (u ≡ y) → Way arcs S y u
          by (yes e) = subst (Way arcs S y) (sym e) (here (led_subset S y s))
          by (no d) = way_before (led_subset S y s) j (met u i (λ m. n (stays y R u d m)))

      turn : (y : ℕ) → T (has L y) → Leads arcs y x → Dec (T (has R y))
          → (T (has L y) → Way arcs S y v → size (without y R) ≤ k → ((u : ℕ) → T (has L u) → (T (has (without y R) u) → ⊥) → Way arcs S y u) → LedTo arcs S v) → LedTo arcs S v
      turn y s j (yes i) r = r s (way_before (led_subset S y s) j w) (omega (arith, size_without y R i)) (more y s j)
      turn y s j (no n) r = record { vertex = x; inside = closed_core S x y (met y s n) j; way = w }

      go : (y : ℕ) × T (has L y) × Leads arcs y x
          → ((y : ℕ) → T (has L y) → Way arcs S y v → size (without y R) ≤ k → ((u : ℕ) → T (has L u) → (T (has (without y R) u) → ⊥) → Way arcs S y u) → LedTo arcs S v) → LedTo arcs S v
      go y r = turn y.0 y.1 y.2 (test (has R y.0)) (r y.0)

  pub led_iff : (S : Set) (v : ℕ) → T (has (led arcs S) v) ↔ LedTo arcs S v
  unfolding Met
  led_iff S v = (λ t. go_back (size (without v (led arcs S))) S (without v (led arcs S)) v v t (here (led_subset S v t)) (le_refl (size (without v (led arcs S)))) (start t), back)
    where
      start : T (has (led arcs S) v) → (u : ℕ) → T (has (led arcs S) u) → (T (has (without v (led arcs S)) u) → ⊥) → Way arcs S v u
      start t u i n = go (ℕ_discrete u v)
        where
          go : Dec (u ≡ v) → Way arcs S v u
          go (yes e) = subst (Way arcs S v) (sym e) (here (led_subset S v t))
          go (no d) = absurd (n (stays v (led arcs S) u d i))

      back : LedTo arcs S v → T (has (led arcs S) v)
      back l = way_led l.way (core_led S l.vertex l.inside)

  -- ---- what a core vertex leads to and what leads to one is in the core

  pub between_core : (S : Set) (v : ℕ) → LedTo arcs S v → LeadsOn arcs S v → T (has (core arcs S) v)
  between_core S v l o = core_steady arcs P S steady (λ z p. way_end p.0.way) v (l, o)
    where
      C : Set
      C = core arcs S

      P : ℕ → Type 0
      P z = LedTo arcs S z × LeadsOn arcs S z

      self : (z : ℕ) → T (has C z) → LedTo arcs S z
      self z t = record { vertex = z; inside = t; way = here (core_subset arcs S z t) }

      onself : (z : ℕ) → T (has C z) → LeadsOn arcs S z
      onself z t = record { vertex = z; inside = t; way = here (core_subset arcs S z t) }

      ins : (z : ℕ) → P z → (p : LedTo arcs S z) → (p.vertex ≡ z) ⊎ ((u : ℕ) × Way arcs S p.vertex u × Leads arcs u z) → (u : ℕ) × P u × Leads arcs u z
      ins z q p (inl e) =
          let h = (stable_steady arcs C (core_stable arcs S) z (subst (λ (k : ℕ). T (has C k)) e p.inside)).0 in
          (h.0, (self h.0 h.1, onself h.0 h.1), h.2)
      ins z q p (inr h) =
          (h.0, (record { vertex = p.vertex; inside = p.inside; way = h.1 }, record { vertex = q.1.vertex; inside = q.1.inside; way = way_before (way_end h.1) h.2 q.1.way }), h.2)

      outs : (z : ℕ) → P z → (p : LeadsOn arcs S z) → (z ≡ p.vertex) ⊎ ((u : ℕ) × Leads arcs z u × Way arcs S u p.vertex) → (u : ℕ) × P u × Leads arcs z u
      outs z q p (inl e) =
          let h = (stable_steady arcs C (core_stable arcs S) z (subst (λ (k : ℕ). T (has C k)) (sym e) p.inside)).1 in
          (h.0, (self h.0 h.1, onself h.0 h.1), h.2)
      outs z q p (inr h) =
          (h.0, (record { vertex = q.0.vertex; inside = q.0.inside; way = onto q.0.way h.1 (way_start h.2) }, record { vertex = p.vertex; inside = p.inside; way = h.2 }), h.1)

      steady : Steady arcs P
      steady z p = (ins z p p.0 (way_last p.0.way), outs z p p.1 (way_first p.1.way))

  -- so one of the two reasons holds of each vertex that is freed
  pub freed_either : (S : Set) (v : ℕ) → (T (has (core arcs S) v) → ⊥) → (LedTo arcs S v → ⊥) ⊎ (LeadsOn arcs S v → ⊥)
  freed_either S v n = go (test (has (led arcs S) v))
    where
      go : Dec (T (has (led arcs S) v)) → (LedTo arcs S v → ⊥) ⊎ (LeadsOn arcs S v → ⊥)
      go (yes t) = inr (λ o. n (between_core S v ((led_iff S v).0 t) o))
      go (no k) = inl (λ l. k ((led_iff S v).1 l))

  -- ---- for an engine: whatever order vertices without an arc in are taken away in, this is what is left

  drains_length : {S U : Set} → Drains arcs S U → length U ≡ length S
  drains_length (drained f) = refl
  drains_length (drain {S = S} v t e d) = drains_length d ∙ length-set S v false

  drains_subset : {S U : Set} → Drains arcs S U → Subset U S
  drains_subset (drained f) u h = h
  drains_subset (drain {S = S} v t e d) u h = without_subset v S u (drains_subset d u h)

  drains_fed : {S U : Set} → Drains arcs S U → Fed arcs U
  drains_fed (drained f) = f
  drains_fed (drain v t e d) = drains_fed d

  drains_keeps : {S U : Set} → Drains arcs S U → (P : ℕ → Type 0) → FedFrom P → Inside arcs P S → Inside arcs P U
  drains_keeps (drained f) P s w = w
  drains_keeps (drain {S = S} v t e d) P s w = drains_keeps d P s (λ u p. stays v S u (other u p) (w u p))
    where
      other : (u : ℕ) → P u → u ≡ v → ⊥
      other u p q =
          let h = s u p in
          lt_irrefl zero (subst (λ (k : ℕ). zero < k) e (subst (λ (x : ℕ). zero < into arcs S x) q (into_of arcs S h.0 u h.2 (w h.0 h.1))))

  pub drains_led : {S U : Set} → Drains arcs S U → U ≡ led arcs S
  drains_led {S} {U} d = set_ext U (led arcs S) (drains_length d ∙ sym (length_led S))
      (led_largest (λ v. T (has U v)) S (fed_from U (drains_fed d)) (drains_subset d))
      (drains_keeps d (λ v. T (has (led arcs S) v)) (fed_from (led arcs S) (led_fed S)) (led_subset S))

  -- and then taking away a vertex without an arc out leaves each of the others an arc in: the second waiting list alone is enough
  pub still_fed : (U : Set) (v : ℕ) → Fed arcs U → out arcs U v ≡ zero → Fed arcs (without v U)
  still_fed U v f e u t =
      let i = without_subset v U u t in
      let h = fed_from U f u i in
      into_of arcs (without v U) h.0 u h.2
      (stays v U h.0 (λ q. lt_irrefl zero (subst (λ (k : ℕ). zero < k) e (subst (λ (x : ℕ). zero < out arcs U x) q (out_of arcs U u h.0 h.2 i)))) h.1)

  -- both removals, one after the other, are a free removal of 01: what is left in the end is the core
  pub drains_then_peels : {S U W : Set} → Drains arcs S U → Peels arcs U W → Peels arcs S W
  drains_then_peels (drained f) p = p
  drains_then_peels (drain v t e d) p = peel v t (inl e) (drains_then_peels d p)
