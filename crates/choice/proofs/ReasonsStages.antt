-- The stages that reasons name, and how many say chosen: each stage of the choice chooses one vertex, and what is freed last is freed one stage later.
-- Assumes nothing.
use mathlib.Core.Path.{◌≡◌, refl, sym, ap, ◌∙◌, subst}
use mathlib.Core.Bool.{Bool, true, false, cond}
use mathlib.Core.List.Memᴰ
use mathlib.Core.List.{List, [], ◌∷◌, map}
use mathlib.Core.Logic.{◌⊎◌, inl, inr, ◌↔◌}
use Prim.Native.Nat.{ℕ, zero, suc, ◌+◌, ◌≤◌, ◌<◌}
use native.Mathlib.Decide.{ℕ_discrete}
use native.Mathlib.Omega.{arith}
use lib.Dec.{T}
use lib.ListN.{length}
use Rattle.graph.specs.Lists.{range}
use Rattle.choice.specs.Arcs.{Arc, In, bump, how_many, Set, has, without}
use Rattle.choice.specs.Choice.{core, Best, Chooses, stop, choose, Above, Ascends}
use Rattle.choice.specs.Reasons.{Reason, is_picked, stage_of, Because, is_best, is_not_led_to, is_leading_to_none, is_later}
use Rattle.choice.proofs.Ascending.{length_insert, ascends_ext}
use Rattle.choice.proofs.Core.{peels_core}
use Rattle.choice.proofs.Sets.{gone, without_subset}
use Rattle.choice.proofs.Stages.{best_only}
use Rattle.choice.proofs.Reasons.{because_present}

module _ (arcs : List Arc) (may : ℕ → Bool) where
  -- no reason names a stage before the one it is given at
  pub stage_from : {stage : ℕ} {S : Set} {v : ℕ} {r : Reason} → Because arcs may stage S v r → stage ≤ stage_of r
  stage_from (is_best b) = omega arith
  stage_from (is_not_led_to t n) = omega arith
  stage_from (is_leading_to_none l n) = omega arith
  stage_from (is_later i b n r) = omega (arith, stage_from r)

  -- nor one after the stage behind the last choice; and what is chosen is chosen before that
  pub stage_to : {stage : ℕ} {S : Set} {v : ℕ} {r : Reason} → Because arcs may stage S v r → (S' : Set) → S' ≡ S → {ids : List ℕ} {free : ℕ}
      → Chooses arcs may S' ids free → (stage_of r ≤ stage + length ids) × (T (is_picked r) → stage_of r < stage + length ids)
  stage_to (is_best {S = S} {v = v} b) S' q (stop p e) =
      absurd (e v (subst (λ (X : Set). T (has X v)) (sym (peels_core arcs p ∙ ap (core arcs) q)) b.inside))
  stage_to (is_best b) S' q (choose {ids = ids} p w c r) = (omega (arith, length_insert w ids), λ t. omega (arith, length_insert w ids))
  stage_to (is_not_led_to t n) S' q c = (omega arith, λ k. absurd k)
  stage_to (is_leading_to_none l n) S' q c = (omega arith, λ k. absurd k)
  stage_to (is_later {v = v} i b n r) S' q (stop p e) =
      absurd (e v (subst (λ (X : Set). T (has X v)) (sym (peels_core arcs p ∙ ap (core arcs) q)) i))
  stage_to (is_later {S = S} {b = d} i b n r) S' q (choose {U = U} {ids = ids} p w c x) =
      let l : U ≡ core arcs S = peels_core arcs p ∙ ap (core arcs) q in
      let e : w ≡ d = best_only arcs may (core arcs S) w d (subst (λ (X : Set). Best arcs may X w) l c) b in
      let h = stage_to r (without w U) (λ j. without (e j) (l j)) x in
      (omega (arith, length_insert w ids, h.0), λ t. omega (arith, length_insert w ids, h.1 t))

  -- a stage chooses one vertex at most
  pub stage_only : {stage : ℕ} {S : Set} {v : ℕ} {r : Reason} → Because arcs may stage S v r → T (is_picked r) → (S' : Set) → S' ≡ S → {v' : ℕ} {r' : Reason}
      → Because arcs may stage S' v' r' → T (is_picked r') → stage_of r ≡ stage_of r' → v ≡ v'
  stage_only (is_best {S = S} {v = v} b) t S' q (is_best {v = w} c) u e = best_only arcs may (core arcs S) v w b (subst (λ (X : Set). Best arcs may (core arcs X) w) q c)
  stage_only (is_best b) t S' q (is_not_led_to s n) u e = absurd u
  stage_only (is_best b) t S' q (is_leading_to_none l n) u e = absurd u
  stage_only (is_best b) t S' q (is_later i c n r) u e = absurd (omega (arith, stage_from r))
  stage_only (is_not_led_to s n) t S' q c u e = absurd t
  stage_only (is_leading_to_none l n) t S' q c u e = absurd t
  stage_only (is_later i b n r) t S' q (is_best c) u e = absurd (omega (arith, stage_from r))
  stage_only (is_later i b n r) t S' q (is_not_led_to s m) u e = absurd u
  stage_only (is_later i b n r) t S' q (is_leading_to_none l m) u e = absurd u
  stage_only (is_later {S = S} {b = d} i b n r) t S' q (is_later {b = d'} i' b' n' r') u e =
      let k : d' ≡ d = best_only arcs may (core arcs S) d' d (subst (λ (X : Set). Best arcs may (core arcs X) d') q b') b in
      stage_only r t (without d' (core arcs S')) (λ j. without (k j) (core arcs (q j))) r' u e

  -- v is chosen at this stage
  pub record PickedAt (stage : ℕ) (S : Set) (at : ℕ) : Type 0 where
    pub vertex : ℕ
    pub reason : Reason
    pub because : Because arcs may stage S vertex reason
    pub is_picked_lem : T (is_picked reason)
    pub at_stage : stage_of reason ≡ at

  -- and one at least, as long as the choice goes on
  pub stage_some : {S : Set} {ids : List ℕ} {free : ℕ} → Chooses arcs may S ids free → (stage j : ℕ) → j < length ids → PickedAt stage S (stage + j)
  stage_some (stop p e) stage j l = absurd (omega arith)
  stage_some {S} (choose {U = U} {ids = ids} p w c r) stage zero l = record {
    vertex = w;
    reason = _;
    because = is_best (subst (λ (X : Set). Best arcs may X w) (peels_core arcs p) c);
    is_picked_lem = tt;
    at_stage = omega arith;
  }
  stage_some {S} (choose {U = U} {ids = ids} p w c r) stage (suc j) l =
      let h = stage_some r (suc stage) j (omega (arith, length_insert w ids)) in
      let q : U ≡ core arcs S = peels_core arcs p in
      let x = h.because in
      let i : T (has (without w U) h.vertex) = because_present arcs may x in
      record {
        vertex = h.vertex;
        reason = h.reason;
        because = is_later (subst (λ (X : Set). T (has X h.vertex)) q (without_subset w U h.vertex i)) (subst (λ (X : Set). Best arcs may X w) q c)
            (λ e. gone w U (subst (λ (y : ℕ). T (has (without w U) y)) e i))
            (subst (λ (X : Set). Because arcs may (suc stage) (without w X) h.vertex h.reason) q x);
        is_picked_lem = h.is_picked_lem;
        at_stage = omega (arith, h.at_stage);
      }

-- ---- how many numbers of a range pass a test that holds of just those in an ascending list

unfoldable passed : (ℕ → Bool) → ℕ → ℕ → List ℕ
passed p from zero = []
passed p from (suc n) = cond (p from) (from ∷ passed p (suc from) n) (passed p (suc from) n)

passed_above : (p : ℕ → Bool) (x from n : ℕ) → x < from → Above x (passed p from n)
unfolding passed
passed_above p x from zero l = tt
passed_above p x from (suc n) l = go (p from) (passed_above p x (suc from) n (omega arith)) (passed_above p from (suc from) n (omega arith))
  where
    go : (c : Bool) → Above x (passed p (suc from) n) → Above from (passed p (suc from) n) → Above x (cond c (from ∷ passed p (suc from) n) (passed p (suc from) n))
    go true a b = (l, b)
    go false a b = a

passed_ascends : (p : ℕ → Bool) (from n : ℕ) → Ascends (passed p from n)
unfolding passed
passed_ascends p from zero = tt
passed_ascends p from (suc n) = go (p from) (passed_above p from (suc from) n (omega arith)) (passed_ascends p (suc from) n)
  where
    go : (c : Bool) → Above from (passed p (suc from) n) → Ascends (passed p (suc from) n) → Ascends (cond c (from ∷ passed p (suc from) n) (passed p (suc from) n))
    go true a b = a
    go false a b = b

passed_in : (p : ℕ → Bool) (x from n : ℕ) → In x (passed p from n) → T (p x)
unfolding passed
passed_in p x from zero m = absurd (Memᴰ.not-nil m)
passed_in p x from (suc n) m = go (p from) refl m (passed_in p x (suc from) n)
  where
    one : p from ≡ true → (x ≡ from) ⊎ In x (passed p (suc from) n) → (In x (passed p (suc from) n) → T (p x)) → T (p x)
    one e (inl k) r = subst T (sym (ap p k ∙ e)) tt
    one e (inr k) r = r k

    go : (c : Bool) → p from ≡ c → In x (cond c (from ∷ passed p (suc from) n) (passed p (suc from) n)) → (In x (passed p (suc from) n) → T (p x)) → T (p x)
    go true e k r = one e (Memᴰ.cases_cons k) r
    go false e k r = r k

in_passed : (p : ℕ → Bool) (x from n : ℕ) → from ≤ x → x < from + n → T (p x) → In x (passed p from n)
unfolding passed
in_passed p x from zero a b t = absurd (omega arith)
in_passed p x from (suc n) a b t = go (p from) refl (ℕ_discrete x from) (λ l. in_passed p x (suc from) n l (omega arith) t)
  where
    go : (c : Bool) → p from ≡ c → Dec (x ≡ from) → (from < x → In x (passed p (suc from) n)) → In x (cond c (from ∷ passed p (suc from) n) (passed p (suc from) n))
    go true e (yes k) r = Memᴰ.head k
    go true e (no k) r = Memᴰ.tail (r (omega arith))
    go false e (yes k) r = absurd (subst T (ap p k ∙ e) t)
    go false e (no k) r = r (omega arith)

length_passed : {A : Type 0} (q : A → Bool) (f : ℕ → A) (from n : ℕ) → length (passed (λ v. q (f v)) from n) ≡ how_many q (map f (range from n))
unfolding passed how_many
length_passed q f from zero = refl
length_passed q f from (suc n) = go (q (f from)) (length_passed q f (suc from) n)
  where
    go : (c : Bool) → length (passed (λ v. q (f v)) (suc from) n) ≡ how_many q (map f (range (suc from) n))
        → length (cond c (from ∷ passed (λ v. q (f v)) (suc from) n) (passed (λ v. q (f v)) (suc from) n)) ≡ bump c (how_many q (map f (range (suc from) n)))
    go true e = ap suc e
    go false e = e

passed_low : (p : ℕ → Bool) (x from k : ℕ) → In x (passed p from k) → x < from + k
unfolding passed
passed_low p x from zero m = absurd (Memᴰ.not-nil m)
passed_low p x from (suc k) m = go (p from) m (passed_low p x (suc from) k)
  where
    one : (x ≡ from) ⊎ In x (passed p (suc from) k) → (In x (passed p (suc from) k) → x < suc from + k) → x < from + suc k
    one (inl e) r = omega arith
    one (inr e) r = omega (arith, r e)

    go : (c : Bool) → In x (cond c (from ∷ passed p (suc from) k) (passed p (suc from) k)) → (In x (passed p (suc from) k) → x < suc from + k) → x < from + suc k
    go true e r = one (Memᴰ.cases_cons e) r
    go false e r = omega (arith, r e)

pub how_many_pass : {A : Type 0} (q : A → Bool) (f : ℕ → A) (n : ℕ) (ids : List ℕ) → Ascends ids → ((v : ℕ) → In v ids → v < n) → ((v : ℕ) → v < n → In v ids ↔ T (q (f v)))
    → how_many q (map f (range 0 n)) ≡ length ids
how_many_pass q f n ids asc low iff =
    sym (length_passed q f 0 n)
    ∙ ap length (ascends_ext (passed p 0 n) ids (passed_ascends p 0 n) asc
    (λ x m. (iff x (omega (arith, passed_low p x 0 n m))).1 (passed_in p x 0 n m))
    (λ x m. in_passed p x 0 n (omega arith) (omega (arith, low x m)) ((iff x (low x m)).0 m)))
  where
    p : ℕ → Bool
    p v = q (f v)
