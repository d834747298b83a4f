-- A directed cycle contains one that passes no vertex twice, so that it does not matter which of the two is meant.
-- Assumes nothing.
use mathlib.Core.Path.{◌≡◌}
use mathlib.Core.List.Memᴰ
use mathlib.Core.List.{List, [], ◌∷◌}
use mathlib.Core.Logic.{◌⊎◌, inl, inr, ◌↔◌}
use Prim.Native.Nat.{ℕ}
use native.Mathlib.Decide.{ℕ_discrete}
use Rattle.choice.specs.Arcs.{Arc, arc, In, Walk, Cycle, NoCycle}
use Rattle.choice.specs.Simple.{Distinct, SimpleCycle, NoSimpleCycle}

-- a number stands in a list or it does not
stands : (t : ℕ) (ys : List ℕ) → In t ys ⊎ (In t ys → ⊥)
stands t [] = inr (λ m. Memᴰ.not-nil m)
stands t (y ∷ ys) = go (ℕ_discrete t y) (stands t ys)
  where
    neither : (t ≡ y → ⊥) → (In t ys → ⊥) → (t ≡ y) ⊎ In t ys → ⊥
    neither d n (inl e) = d e
    neither d n (inr m) = n m

    go : Dec (t ≡ y) → In t ys ⊎ (In t ys → ⊥) → In t (y ∷ ys) ⊎ (In t (y ∷ ys) → ⊥)
    go (yes e) s = inl (Memᴰ.head e)
    go (no d) (inl m) = inl (Memᴰ.tail m)
    go (no d) (inr n) = inr (λ m. neither d n (Memᴰ.cases_cons m))

-- each entry of the one list is one of the other
abbrev Within : List ℕ → List ℕ → Type 0
Within zs ys = (v : ℕ) → In v zs → In v ys

within_tail : (y : ℕ) {zs ys : List ℕ} → Within zs ys → Within zs (y ∷ ys)
within_tail y h v m = Memᴰ.tail (h v m)

within_cons : (y : ℕ) {zs ys : List ℕ} → Within zs ys → Within (y ∷ zs) (y ∷ ys)
within_cons y {zs} {ys} h v m = go (Memᴰ.cases_cons m)
  where
    go : (v ≡ y) ⊎ In v zs → In v (y ∷ ys)
    go (inl e) = Memᴰ.head e
    go (inr k) = Memᴰ.tail (h v k)

module _ (arcs : List Arc) where
  -- a walk from u to t through some of the vertices ys, each once and none of them t
  record Cut (u t : ℕ) (ys zs : List ℕ) : Type 0 where
    walk : Walk arcs u zs t
    apart : In t zs → ⊥
    once : Distinct zs
    within : Within zs ys

  -- a walk through distinct vertices, of which t is one, cut where it comes to t
  cut : (u : ℕ) (ys : List ℕ) (w t : ℕ) → Walk arcs u ys w → Distinct ys → In t ys → (zs : List ℕ) × Cut u t ys zs
  cut u [] w t j d m = absurd (Memᴰ.not-nil m)
  cut u (y ∷ ys) w t j d m = go (ℕ_discrete t y) (Memᴰ.cases_cons m) (cut y ys w t j.1 d.1)
    where
      other : {zs : List ℕ} → (t ≡ y → ⊥) → (In t zs → ⊥) → (t ≡ y) ⊎ In t zs → ⊥
      other n a (inl e) = n e
      other n a (inr k) = a k

      on : (t ≡ y → ⊥) → (zs : List ℕ) × Cut y t ys zs → (zs : List ℕ) × Cut u t (y ∷ ys) zs
      on n r = (
        y ∷ r.0,
        record {
          walk = (j.0, r.1.walk);
          apart = λ k. other n r.1.apart (Memᴰ.cases_cons k);
          once = (λ k. d.0 (r.1.within y k), r.1.once);
          within = within_cons y r.1.within;
        },
      )

      go : Dec (t ≡ y) → (t ≡ y) ⊎ In t ys → (In t ys → (zs : List ℕ) × Cut y t ys zs) → (zs : List ℕ) × Cut u t (y ∷ ys) zs
      go (yes e) s r = (
        [],
        record {
          walk = Memᴰ.cast (λ i. arc u (e i)) j.0;
          apart = λ k. Memᴰ.not-nil k;
          once = tt;
          within = λ v k. absurd (Memᴰ.not-nil k);
        },
      )
      go (no n) (inl e) r = absurd (n e)
      go (no n) (inr k) r = on n (r k)

  abbrev SimpleIn : List ℕ → Type 0
  SimpleIn c = (d : List ℕ) × SimpleCycle arcs d × Within d c

  -- a walk passes no vertex twice, or a simple cycle is in it
  once_or_cycle : (u : ℕ) (xs : List ℕ) (w : ℕ) → Walk arcs u xs w → Distinct (u ∷ xs) ⊎ SimpleIn (u ∷ xs)
  once_or_cycle u [] w j = inl (λ m. Memᴰ.not-nil m, tt)
  once_or_cycle u (x ∷ xs) w j = go (once_or_cycle x xs w j.1) (stands u (x ∷ xs))
    where
      closed : (zs : List ℕ) × Cut u u (x ∷ xs) zs → SimpleIn (u ∷ x ∷ xs)
      closed r = (u ∷ r.0, record { cycle = r.1.walk; once = (r.1.apart, r.1.once) }, within_cons u r.1.within)

      go : Distinct (x ∷ xs) ⊎ SimpleIn (x ∷ xs) → In u (x ∷ xs) ⊎ (In u (x ∷ xs) → ⊥) → Distinct (u ∷ x ∷ xs) ⊎ SimpleIn (u ∷ x ∷ xs)
      go (inr c) s = inr (c.0, c.1, within_tail u c.2)
      go (inl d) (inr n) = inl (n, d)
      go (inl d) (inl m) = inr (closed (cut u (x ∷ xs) w u j d m))

  -- a directed cycle contains one that passes no vertex twice
  pub simple_cycle : (c : List ℕ) → Cycle arcs c → (d : List ℕ) × SimpleCycle arcs d × ((v : ℕ) → In v d → In v c)
  simple_cycle [] y = absurd y
  simple_cycle (v ∷ vs) y = go (once_or_cycle v vs v y)
    where
      go : Distinct (v ∷ vs) ⊎ SimpleIn (v ∷ vs) → SimpleIn (v ∷ vs)
      go (inl d) = (v ∷ vs, record { cycle = y; once = d }, λ u m. m)
      go (inr r) = r

  -- so no directed cycle exists exactly when no simple one does
  pub no_cycle_iff_no_simple : NoCycle arcs ↔ NoSimpleCycle arcs
  no_cycle_iff_no_simple = (λ n c y. n c y.cycle, λ n c y. let s = simple_cycle c y in n s.0 s.1)

  -- and a list meets every directed cycle exactly when it meets every simple one
  pub meets_iff_meets_simple : (list : List ℕ)
      → ((c : List ℕ) → Cycle arcs c → (v : ℕ) × In v c × In v list) ↔ ((c : List ℕ) → SimpleCycle arcs c → (v : ℕ) × In v c × In v list)
  meets_iff_meets_simple list = (
    λ h c y. h c y.cycle,
    λ h c y.
        let s = simple_cycle c y in
        let m = h s.0 s.1 in
        (m.0, s.2 m.0 m.1, m.2),
  )
