-- Each vertex has exactly one reason, the computed one, and it says chosen exactly if the vertex is in the chosen list.
-- Assumes nothing.
use mathlib.Core.Path.{◌≡◌, refl, sym, ap, ◌∙◌, subst}
use mathlib.Core.Bool.{Bool, true, false, cond}
use mathlib.Core.List.Memᴰ
use mathlib.Core.List.{List}
use mathlib.Core.Logic.{◌⊎◌, inl, inr, ◌↔◌}
use Prim.Native.Nat.{ℕ, zero, suc, ◌≤◌}
use native.Mathlib.Omega.{arith}
use lib.Dec.{T, eqb, eqb→eq, eqb_refl}
use lib.ListN.{length}
use Rattle.choice.specs.Arcs.{Arc, In, Set, has, vertices, without, size, IsEmpty, into, out}
use Rattle.choice.specs.Choice.{core, best, Best, Chooses, stop, choose}
use Rattle.choice.proofs.Sets.{gone, none_left, size_without, stays, without_subset}
use Rattle.choice.proofs.Core.{core_subset, core_stable, peels_core, peels_to_core, peels_taken}
use Rattle.choice.proofs.Ascending.{insert_in, in_insert}
use Rattle.choice.proofs.Stages.{best_best, best_only, run_inside}
use Rattle.choice.specs.Promises.{Offers}
use Rattle.choice.specs.Reasons.{Reason, picked, not_led_to, leads_to_none, is_picked, led, why, here, LedTo, LeadsOn, Because, Known, is_best, is_not_led_to, is_leading_to_none, is_later}
use Rattle.choice.proofs.Led.{led_subset, led_iff, between_core}

module _ (arcs : List Arc) where
  -- a core vertex leads to itself
  pub core_led_to : (S : Set) (v : ℕ) → T (has (core arcs S) v) → LedTo arcs S v
  core_led_to S v t = record { vertex = v; inside = t; way = here (core_subset arcs S v t) }

  pub core_leads_on : (S : Set) (v : ℕ) → T (has (core arcs S) v) → LeadsOn arcs S v
  core_leads_on S v t = record { vertex = v; inside = t; way = here (core_subset arcs S v t) }

  -- "The last stage has an empty core, so there the first always holds."
  pub last_stage : (S : Set) (v : ℕ) → IsEmpty (core arcs S) → LedTo arcs S v → ⊥
  last_stage S v e l = e l.vertex l.inside

module _ (arcs : List Arc) (may : ℕ → Bool) where
  -- ---- the reasons as an engine finds them: what the first removal takes, and what the second takes

  pub because_drained : (stage : ℕ) (S : Set) (v : ℕ) → T (has S v) → (T (has (led arcs S) v) → ⊥) → Because arcs may stage S v (not_led_to stage)
  because_drained stage S v t n = is_not_led_to t (λ l. n ((led_iff arcs S v).1 l))

  pub because_left : (stage : ℕ) (S : Set) (v : ℕ) → T (has (led arcs S) v) → (T (has (core arcs S) v) → ⊥) → Because arcs may stage S v (leads_to_none stage)
  because_left stage S v t n = is_leading_to_none ((led_iff arcs S v).0 t) (λ o. n (between_core arcs S v ((led_iff arcs S v).0 t) o))

  -- ---- the computed reason is one

  pub why_because : Offers arcs may → (k stage : ℕ) (S : Set) (v : ℕ) → size S ≤ k → T (has S v) → Because arcs may stage S v (why k stage arcs may S v)
  unfolding why
  why_because o zero stage S v h t = absurd (none_left S h v t)
  why_because o (suc k) stage S v h t =
      inner (has C v) refl (eqb v b) refl (has (led arcs S) v) refl (λ l i. why_because o k (suc stage) (without b C) v l i)
    where
      C : Set
      C = core arcs S

      b : ℕ
      b = best arcs may C (length C)

      top : T (has C v) → Best arcs may C b
      top i = let u = o C (core_stable arcs S) v i in best_best arcs may C (core_stable arcs S) u.0 u.1 u.2

      inner : (c : Bool) → has C v ≡ c → (d : Bool) → eqb v b ≡ d → (e : Bool) → has (led arcs S) v ≡ e
          → (size (without b C) ≤ k → T (has (without b C) v) → Because arcs may (suc stage) (without b C) v (why k (suc stage) arcs may (without b C) v))
          → Because arcs may stage S v (cond c (cond d (picked stage (into arcs C v) (out arcs C v)) (why k (suc stage) arcs may (without b C) v)) (cond e (leads_to_none stage) (not_led_to stage)))
      inner true p true q e w r =
          is_best (subst (Best arcs may C) (sym (eqb→eq v b (subst T (sym q) tt))) (top (subst T (sym p) tt)))
      inner true p false q e w r =
          let i : T (has C v) = subst T (sym p) tt in
          let a = top i in
          let ne : v ≡ b → ⊥ = λ x. subst T q (subst (λ (y : ℕ). T (eqb v y)) x (eqb_refl v)) in
          is_later i a ne (r (omega (arith, size_without b C a.inside, peels_taken arcs (peels_to_core arcs S))) (stays b C v ne i))
      inner false p d q true w r = because_left stage S v (subst T (sym w) tt) (λ i. subst T p i)
      inner false p d q false w r = because_drained stage S v t (λ i. subst T w i)

  -- ---- and no vertex has another

  same_picked : (stage : ℕ) (S S' : Set) (v : ℕ) → S' ≡ S
      → picked stage (into arcs (core arcs S) v) (out arcs (core arcs S) v) ≡ picked stage (into arcs (core arcs S') v) (out arcs (core arcs S') v)
  same_picked stage S S' v q = λ i. picked stage (into arcs (core arcs (sym q i)) v) (out arcs (core arcs (sym q i)) v)

  pub because_only : {stage : ℕ} {S : Set} {v : ℕ} {r : Reason} → Because arcs may stage S v r
      → (S' : Set) → S' ≡ S → {r' : Reason} → Because arcs may stage S' v r' → r ≡ r'
  because_only (is_best {stage = stage} {S = S} {v = v} b) S' q (is_best b') = same_picked stage S S' v q
  because_only (is_best {S = S} {v = v} b) S' q (is_not_led_to t' n') = absurd (n' (subst (λ (X : Set). LedTo arcs X v) (sym q) (core_led_to arcs S v b.inside)))
  because_only (is_best {S = S} {v = v} b) S' q (is_leading_to_none l' n') = absurd (n' (subst (λ (X : Set). LeadsOn arcs X v) (sym q) (core_leads_on arcs S v b.inside)))
  because_only (is_best {S = S} {v = v} b) S' q (is_later {b = c} i' b' n' r') = absurd (n' (best_only arcs may (core arcs S) v c b (subst (λ (X : Set). Best arcs may (core arcs X) c) q b')))
  because_only (is_not_led_to {S = S} {v = v} t n) S' q (is_best b') = absurd (n (core_led_to arcs S v (subst (λ (X : Set). T (has (core arcs X) v)) q b'.inside)))
  because_only (is_not_led_to t n) S' q (is_not_led_to t' n') = refl
  because_only (is_not_led_to {v = v} t n) S' q (is_leading_to_none l' n') = absurd (n (subst (λ (X : Set). LedTo arcs X v) q l'))
  because_only (is_not_led_to {S = S} {v = v} t n) S' q (is_later i' b' n' r') = absurd (n (core_led_to arcs S v (subst (λ (X : Set). T (has (core arcs X) v)) q i')))
  because_only (is_leading_to_none {S = S} {v = v} l n) S' q (is_best b') = absurd (n (core_leads_on arcs S v (subst (λ (X : Set). T (has (core arcs X) v)) q b'.inside)))
  because_only (is_leading_to_none {v = v} l n) S' q (is_not_led_to t' n') = absurd (n' (subst (λ (X : Set). LedTo arcs X v) (sym q) l))
  because_only (is_leading_to_none l n) S' q (is_leading_to_none l' n') = refl
  because_only (is_leading_to_none {S = S} {v = v} l n) S' q (is_later i' b' n' r') = absurd (n (core_leads_on arcs S v (subst (λ (X : Set). T (has (core arcs X) v)) q i')))
  because_only (is_later {S = S} {v = v} {b = c} i b n r) S' q (is_best b') = absurd (n (best_only arcs may (core arcs S) v c (subst (λ (X : Set). Best arcs may (core arcs X) v) q b') b))
  because_only (is_later {S = S} {v = v} i b n r) S' q (is_not_led_to t' n') = absurd (n' (subst (λ (X : Set). LedTo arcs X v) (sym q) (core_led_to arcs S v i)))
  because_only (is_later {S = S} {v = v} i b n r) S' q (is_leading_to_none l' n') = absurd (n' (subst (λ (X : Set). LeadsOn arcs X v) (sym q) (core_leads_on arcs S v i)))
  because_only (is_later {S = S} {b = c} i b n r) S' q (is_later {b = c'} i' b' n' r') =
      let e : c' ≡ c = best_only arcs may (core arcs S) c' c (subst (λ (X : Set). Best arcs may (core arcs X) c') q b') b in
      because_only r (without c' (core arcs S')) (λ i. without (e i) (core arcs (q i))) r'

  -- ---- chosen is said exactly of what is in the list

  -- a vertex outside the core is not chosen
  outside_core : {S : Set} {ids : List ℕ} {free : ℕ} → Chooses arcs may S ids free → (v : ℕ) → (T (has (core arcs S) v) → ⊥) → In v ids → ⊥
  outside_core (stop p e) v n m = Memᴰ.not-nil m
  outside_core {S} (choose {U = U} {ids = ids} p w b r) v n m = go (insert_in v w ids m)
    where
      there : T (has U v) → ⊥
      there t = n (subst (λ (X : Set). T (has X v)) (peels_core arcs p) t)

      go : (v ≡ w) ⊎ In v ids → ⊥
      go (inl e) = there (subst (λ (x : ℕ). T (has U x)) (sym e) b.inside)
      go (inr i) = there (without_subset w U v (run_inside arcs may r v i).1)

  pub because_chosen : {stage : ℕ} {S : Set} {v : ℕ} {r : Reason} → Because arcs may stage S v r
      → (S' : Set) → S' ≡ S → {ids : List ℕ} {free : ℕ} → Chooses arcs may S' ids free → (In v ids ↔ T (is_picked r))
  because_chosen (is_best {S = S} {v = v} b) S' q (stop {U = U} p e) =
      absurd (e v (subst (λ (X : Set). T (has X v)) (sym (peels_core arcs p ∙ ap (core arcs) q)) b.inside))
  because_chosen (is_best {S = S} {v = v} b) S' q (choose {U = U} {ids = ids} p w c r) =
      let l : U ≡ core arcs S = peels_core arcs p ∙ ap (core arcs) q in
      let e : v ≡ w = best_only arcs may (core arcs S) v w b (subst (λ (X : Set). Best arcs may X w) l c) in
      (λ m. tt, λ t. in_insert v w ids (inl e))
  because_chosen (is_not_led_to {S = S} {v = v} t n) S' q c =
      (λ m. outside_core c v (λ i. n (core_led_to arcs S v (subst (λ (X : Set). T (has (core arcs X) v)) q i))) m, λ k. absurd k)
  because_chosen (is_leading_to_none {S = S} {v = v} l n) S' q c =
      (λ m. outside_core c v (λ i. n (core_leads_on arcs S v (subst (λ (X : Set). T (has (core arcs X) v)) q i))) m, λ k. absurd k)
  because_chosen (is_later {S = S} {v = v} i b n r) S' q (stop {U = U} p e) =
      absurd (e v (subst (λ (X : Set). T (has X v)) (sym (peels_core arcs p ∙ ap (core arcs) q)) i))
  because_chosen (is_later {S = S} {v = v} {b = d} {r = y} i b n r) S' q (choose {U = U} {ids = ids} p w c x) =
      let l : U ≡ core arcs S = peels_core arcs p ∙ ap (core arcs) q in
      let e : w ≡ d = best_only arcs may (core arcs S) w d (subst (λ (X : Set). Best arcs may X w) l c) b in
      let h = because_chosen r (without w U) (λ j. without (e j) (l j)) x in
      (λ m. there e h (insert_in v w ids m), λ t. in_insert v w ids (inr (h.1 t)))
    where
      there : w ≡ d → (In v ids ↔ T (is_picked y)) → (v ≡ w) ⊎ In v ids → T (is_picked y)
      there e h (inl k) = absurd (n (k ∙ e))
      there e h (inr m) = h.0 m

  -- a vertex with a reason is in the set
  pub because_present : {stage : ℕ} {S : Set} {v : ℕ} {r : Reason} → Because arcs may stage S v r → T (has S v)
  because_present {S = S} {v = v} (is_best c) = core_subset arcs S v c.inside
  because_present (is_not_led_to t m) = t
  because_present {S = S} {v = v} (is_leading_to_none l m) = led_subset arcs S v ((led_iff arcs S v).1 l)
  because_present {S = S} {v = v} (is_later i c m x) = core_subset arcs S v i

  -- ---- for an engine: the reasons of what remains are reasons from the start on

  pub known_start : (n : ℕ) → Known arcs may n 1 (vertices n)
  known_start n = record { onward = λ v r b. b }

  -- the choice of a stage: b goes, and the next stage begins with the rest of the core
  pub known_next : (n stage : ℕ) (S : Set) (b : ℕ) → Known arcs may n stage S → Best arcs may (core arcs S) b → Known arcs may n (suc stage) (without b (core arcs S))
  known_next n stage S b a best = record { onward = λ v r x. a.onward v r (is_later (inside v x) best (other v x) x) }
    where
      inside : (v : ℕ) {r : Reason} → Because arcs may (suc stage) (without b (core arcs S)) v r → T (has (core arcs S) v)
      inside v x = without_subset b (core arcs S) v (because_present x)

      other : (v : ℕ) {r : Reason} → Because arcs may (suc stage) (without b (core arcs S)) v r → v ≡ b → ⊥
      other v x e = gone b (core arcs S) (subst (λ (y : ℕ). T (has (without b (core arcs S)) y)) e (because_present x))
