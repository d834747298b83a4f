-- The classes of joined nodes: the table of least members tells them, and no other table does. An engine proves `Tells` of its own.
-- Assumes nothing.
use mathlib.Core.Bool.{Bool, true, false, cond, ◌||◌}
use mathlib.Core.List.Memᴰ
use mathlib.Core.List.{List, [], ◌∷◌, Memᴰ}
use mathlib.Core.Logic.{◌⊎◌, inl, inr, ◌↔◌}
use mathlib.Core.Path.{◌≡◌, refl, sym, ap, ◌∙◌, subst}
use Prim.Native.Nat.{ℕ, ◌≤◌, ◌<◌, min}
use native.Mathlib.Omega.{arith}
use lib.Dec.{eqb}
use lib.ListN.{length, length-map, get_or}
use lib.Seq.{ext_get_or}
use borrow.Author.Tests.{eqb-true, eqb-false, eq-eqb}
use Rattle.graph.specs.Lists.{range, flat}
use Rattle.graph.specs.Merge.{Joined, paired, itself, turned, onward, Least, united, leaders}
use Rattle.le.specs.Le.{Below}
use Rattle.graph.proofs.Lists.{get_d_map, get_d_range, length_range}

-- both ends of a pair are below the bound
pub pair_below : (n : ℕ) (ps : List (ℕ × ℕ)) (v w : ℕ) → Below n (flat ps) → Memᴰ (v, w) ps → (v < n) × (w < n)
pair_below n [] v w h m = absurd (Memᴰ.not-nil m)
pair_below n (p ∷ ps) v w h m = go (Memᴰ.cases_cons m) (pair_below n ps v w h.1.1)
  where
    go : ((v, w) ≡ p) ⊎ Memᴰ (v, w) ps → (Memᴰ (v, w) ps → (v < n) × (w < n)) → (v < n) × (w < n)
    go (inl e) r = (subst (λ (k : ℕ). k < n) (sym (ap (λ (q : ℕ × ℕ). q.0) e)) h.0, subst (λ (k : ℕ). k < n) (sym (ap (λ (q : ℕ × ℕ). q.1) e)) h.1.0)
    go (inr k) r = r k

-- ---- joined: the least equivalence

-- an equivalence that holds of the pairs holds of all that is joined
pub joined_least : {pairs : List (ℕ × ℕ)} (R : ℕ → ℕ → Type 0) → ((v : ℕ) → R v v) → ((v w : ℕ) → R v w → R w v)
    → ((u v w : ℕ) → R u v → R v w → R u w) → ((v w : ℕ) → Memᴰ (v, w) pairs → R v w) → {v w : ℕ} → Joined pairs v w → R v w
joined_least R one back on of (paired {v} {w} m) = of v w m
joined_least R one back on of (itself {v}) = one v
joined_least R one back on of (turned {v} {w} j) = back v w (joined_least R one back on of j)
joined_least R one back on of (onward {u} {v} {w} j k) = on u v w (joined_least R one back on of j) (joined_least R one back on of k)

-- pairs that other pairs join join no more than those
pub joined_by : {pairs others : List (ℕ × ℕ)} → ((v w : ℕ) → Memᴰ (v, w) pairs → Joined others v w) → {v w : ℕ} → Joined pairs v w → Joined others v w
joined_by {others = others} of j = joined_least (Joined others) (λ v. itself) (λ v w k. turned k) (λ u v w k l. onward k l) of j

pub joined_more : {pairs : List (ℕ × ℕ)} (p : ℕ × ℕ) {v w : ℕ} → Joined pairs v w → Joined (p ∷ pairs) v w
joined_more p j = joined_by (λ v w m. paired (Memᴰ.tail m)) j

-- a function that is the same at both ends of each pair is the same at all that is joined
pub joined_same : {pairs : List (ℕ × ℕ)} (f : ℕ → ℕ) → ((v w : ℕ) → Memᴰ (v, w) pairs → f v ≡ f w) → {v w : ℕ} → Joined pairs v w → f v ≡ f w
joined_same f of j = joined_least (λ v w. f v ≡ f w) (λ v. refl) (λ v w e. sym e) (λ u v w e k. e ∙ k) of j

-- ---- a table that tells the classes

pub record Tells (n : ℕ) (pairs : List (ℕ × ℕ)) (table : List ℕ) : Type 0 where
  pub long : length table ≡ n
  pub joins : (v : ℕ) → v < n → Joined pairs v (get_or table v 0)
  pub low : (v : ℕ) → v < n → get_or table v 0 ≤ v
  pub one : {v w : ℕ} → Joined pairs v w → get_or table v 0 ≡ get_or table w 0

module _ (n : ℕ) (pairs : List (ℕ × ℕ)) (table : List ℕ) (t : Tells n pairs table) where
  -- its entry is the least member of the class
  pub tells_least : (v : ℕ) → v < n → Below n (flat pairs) → Least pairs v (get_or table v 0)
  tells_least v h below = record {
    inside = t.joins v h;
    lowest = λ w j. low w j (joined_end below j);
  }
    where
      -- v is below n, and so is whatever is joined to it
      joined_end : Below n (flat pairs) → {w : ℕ} → Joined pairs v w → w < n
      joined_end below j = (joined_least (λ x y. (x < n) ↔ (y < n)) (λ x. ((λ k. k), (λ k. k))) (λ x y k. (k.1, k.0))
          (λ x y z k l. ((λ q. l.0 (k.0 q)), (λ q. k.1 (l.1 q))))
          (λ x y m. let b = pair_below n pairs x y below m in ((λ q. b.1), (λ q. b.0))) j).0 h

      low : (w : ℕ) → Joined pairs v w → w < n → get_or table v 0 ≤ w
      low w j k = omega (arith, t.one j, t.low w k)

  -- two nodes have the same entry exactly when they are joined
  pub tells_joined : (v w : ℕ) → v < n → w < n → (get_or table v 0 ≡ get_or table w 0) ↔ Joined pairs v w
  tells_joined v w h k = (
    (λ e. onward (t.joins v h) (turned (subst (λ (l : ℕ). Joined pairs w l) (sym e) (t.joins w k)))),
    (λ j. t.one j),
  )

  -- an entry stands for itself
  pub tells_leader : (v : ℕ) → v < n → get_or table (get_or table v 0) 0 ≡ get_or table v 0
  tells_leader v h = sym (t.one (t.joins v h))

-- tables that tell the same classes are the same
pub tells_unique : (n : ℕ) (ps qs : List (ℕ × ℕ)) (a b : List ℕ) → Tells n ps a → Tells n qs b → ((v w : ℕ) → Joined ps v w ↔ Joined qs v w) → a ≡ b
tells_unique n ps qs a b t u k = ext_get_or 0 a b (t.long ∙ sym u.long) (λ i h. both i (subst (λ (m : ℕ). i < m) t.long h))
  where
    both : (i : ℕ) → i < n → get_or a i 0 ≡ get_or b i 0
    both i h =
        let x = get_or a i 0 in
        let y = get_or b i 0 in
        let e : x ≡ get_or a y 0 = t.one ((k i y).1 (u.joins i h)) in
        let e' : y ≡ get_or b x 0 = u.one ((k i x).0 (t.joins i h)) in
        omega (arith, t.low i h, u.low i h, t.low y (omega (arith, u.low i h)), u.low x (omega (arith, t.low i h)))

-- ---- the definition's table does

range_tells : (n : ℕ) → Tells n [] (range 0 n)
range_tells n = record {
  long = length_range 0 n;
  joins = λ v h. subst (λ (l : ℕ). Joined [] v l) (sym (at v h)) itself;
  low = λ v h. omega (arith, at v h);
  one = λ j. joined_same (λ v. get_or (range 0 n) v 0) (λ v w m. absurd (Memᴰ.not-nil m)) j;
}
  where
    at : (v : ℕ) → v < n → get_or (range 0 n) v 0 ≡ v
    at v h = omega (arith, get_d_range 0 n v h)

-- one more pair
module _ (n : ℕ) (pairs : List (ℕ × ℕ)) (table : List ℕ) (t : Tells n pairs table) (below : Below n (flat pairs)) (p : ℕ × ℕ) (hv : p.0 < n) (hw : p.1 < n) where
  a : ℕ
  a = get_or table p.0 0

  b : ℕ
  b = get_or table p.1 0

  new : ℕ → ℕ
  new l = cond (eqb l a || eqb l b) (min a b) l

  -- what becomes of a least member: it is one of the two, and becomes the lesser; or it is another, and stays
  new_cases : (l : ℕ) → (((l ≡ a) ⊎ (l ≡ b)) × (new l ≡ min a b)) ⊎ (new l ≡ l)
  unfolding new
  new_cases l = go (eqb l a) (eqb l b) refl refl
    where
      go : (c d : Bool) → eqb l a ≡ c → eqb l b ≡ d → (((l ≡ a) ⊎ (l ≡ b)) × (cond (c || d) (min a b) l ≡ min a b)) ⊎ (cond (c || d) (min a b) l ≡ l)
      go true d e f = inl (inl (eqb-true l a e), refl)
      go false true e f = inl (inr (eqb-true l b f), refl)
      go false false e f = inr refl

  new_a : new a ≡ min a b
  unfolding new
  new_a = rw (eq-eqb a a refl)

  new_b : new b ≡ min a b
  unfolding new
  new_b = rw (eq-eqb b b refl) (go (eqb b a))
    where
      go : (c : Bool) → cond (c || true) (min a b) b ≡ min a b
      go true = refl
      go false = refl

  -- both ends, and so the lesser of their least members, are joined
  ends : Joined (p ∷ pairs) p.0 p.1
  ends = paired (Memᴰ.head refl)

  to_a : Joined (p ∷ pairs) p.0 a
  unfolding a
  to_a = joined_more p (t.joins p.0 hv)

  to_b : Joined (p ∷ pairs) p.1 b
  unfolding b
  to_b = joined_more p (t.joins p.1 hw)

  lesser : (l : ℕ) → (l ≡ a) ⊎ (l ≡ b) → Joined (p ∷ pairs) l (min a b)
  lesser l h = onward (start h) (pick (min_is a b))
    where
      min_is : (x y : ℕ) → (min x y ≡ x) ⊎ (min x y ≡ y)
      min_is x y = go (eqb (min x y) x) refl
        where
          go : (c : Bool) → eqb (min x y) x ≡ c → (min x y ≡ x) ⊎ (min x y ≡ y)
          go true e = inl (eqb-true _ _ e)
          go false e = let ne : min x y ≡ x → ⊥ = eqb-false _ _ e in inr (omega arith)

      start : (l ≡ a) ⊎ (l ≡ b) → Joined (p ∷ pairs) l p.0
      start (inl e) = subst (λ (k : ℕ). Joined (p ∷ pairs) k p.0) (sym e) (turned to_a)
      start (inr e) = subst (λ (k : ℕ). Joined (p ∷ pairs) k p.0) (sym e) (onward (turned to_b) (turned ends))

      pick : (min a b ≡ a) ⊎ (min a b ≡ b) → Joined (p ∷ pairs) p.0 (min a b)
      pick (inl e) = subst (λ (k : ℕ). Joined (p ∷ pairs) p.0 k) (sym e) to_a
      pick (inr e) = subst (λ (k : ℕ). Joined (p ∷ pairs) p.0 k) (sym e) (onward ends to_b)

  at : (v : ℕ) → v < n → get_or (united p table) v 0 ≡ new (get_or table v 0)
  unfolding new a b
  at v h = get_d_map _ table v (omega (arith, t.long))

  new_joins : (v : ℕ) → v < n → Joined (p ∷ pairs) v (new (get_or table v 0))
  new_joins v h = go (get_or table v 0) (joined_more p (t.joins v h)) (new_cases (get_or table v 0))
    where
      go : (l : ℕ) → Joined (p ∷ pairs) v l → (((l ≡ a) ⊎ (l ≡ b)) × (new l ≡ min a b)) ⊎ (new l ≡ l) → Joined (p ∷ pairs) v (new l)
      go l j (inl k) = subst (λ (m : ℕ). Joined (p ∷ pairs) v m) (sym k.1) (onward j (lesser l k.0))
      go l j (inr e) = subst (λ (m : ℕ). Joined (p ∷ pairs) v m) (sym e) j

  new_low : (v : ℕ) → v < n → new (get_or table v 0) ≤ v
  new_low v h = go (get_or table v 0) (t.low v h) (new_cases (get_or table v 0))
    where
      go : (l : ℕ) → l ≤ v → (((l ≡ a) ⊎ (l ≡ b)) × (new l ≡ min a b)) ⊎ (new l ≡ l) → new l ≤ v
      go l k (inl (inl e, q)) = omega arith
      go l k (inl (inr e, q)) = omega arith
      go l k (inr e) = omega arith

  new_one : (v w : ℕ) → Memᴰ (v, w) (p ∷ pairs) → get_or (united p table) v 0 ≡ get_or (united p table) w 0
  unfolding a b
  new_one v w m = go (Memᴰ.cases_cons m)
    where
      go : ((v, w) ≡ p) ⊎ Memᴰ (v, w) pairs → get_or (united p table) v 0 ≡ get_or (united p table) w 0
      go (inl e) =
          ap (λ (q : ℕ × ℕ). get_or (united p table) q.0 0) e ∙ at p.0 hv ∙ new_a ∙ sym new_b ∙ sym (at p.1 hw)
          ∙ sym (ap (λ (q : ℕ × ℕ). get_or (united p table) q.1 0) e)
      go (inr k) = let h = pair_below n pairs v w below k in at v h.0 ∙ ap new (t.one (paired k)) ∙ sym (at w h.1)

  pub united_tells : Tells n (p ∷ pairs) (united p table)
  united_tells = record {
    long = length-map table _ ∙ t.long;
    joins = λ v h. subst (λ (l : ℕ). Joined (p ∷ pairs) v l) (sym (at v h)) (new_joins v h);
    low = λ v h. subst (λ (l : ℕ). l ≤ v) (sym (at v h)) (new_low v h);
    one = λ j. joined_same (λ v. get_or (united p table) v 0) new_one j;
  }

pub leaders_tell : (n : ℕ) (pairs : List (ℕ × ℕ)) → Below n (flat pairs) → Tells n pairs (leaders n pairs)
leaders_tell n [] h = range_tells n
leaders_tell n (p ∷ ps) h = united_tells n ps (leaders n ps) (leaders_tell n ps h.1.1) h.1.1 p h.0 h.1.0
