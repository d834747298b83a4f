-- The walk of T-12, "Show me one loop": the steps follow the rule, the rule allows one walk only, and its vertices are visited once each.
-- Assumes nothing.
use mathlib.Core.Path.{◌≡◌, refl, sym, ap, subst}
use mathlib.Core.Bool.{Bool, true, false, ◌&&◌, cond}
use mathlib.Core.List.Memᴰ
use mathlib.Core.List.{List, [], ◌∷◌}
use mathlib.Core.Logic.{◌⊎◌, inl, inr}
use Prim.Native.Nat.{ℕ, zero, suc, ◌≤◌, zero-le, suc-le-suc}
use native.Mathlib.Nat.{le_refl, le_antisymm}
use native.Mathlib.Decide.{ℕ_discrete}
use native.Mathlib.Omega.{arith}
use lib.Dec.{T, eqb, eqb→eq, eqb_refl, ltb→lt, lt→ltb}
use lib.ListN.{length}
use Rattle.choice.specs.Arcs.{Arc, arc, In, Leads, Set, has, without, size, passing, Stable, Walk, Cycle}
use Rattle.choice.proofs.Sets.{and_left, and_right, both, how_many_some, how_many_in, has_passing, kept, passing_subset, gone, without_subset, stays, none_left, size_without}
use Rattle.choice.proofs.Core.{out_some}
use Rattle.choice.specs.Loop.{lowest, leads, onward, Walked, closing, visiting, node_step, edge_step, since, Lowest, Walks, closes, goes}
use Rattle.choice.specs.Simple.{Distinct}

-- ---- the lowest vertex

pub lowest_in : (S : Set) (u : ℕ) → T (has S u) → T (has S (lowest S))
unfolding lowest
lowest_in [] u t = absurd t
lowest_in (true ∷ S) u t = tt
lowest_in (false ∷ S) zero t = absurd t
lowest_in (false ∷ S) (suc u) t = lowest_in S u t

pub lowest_least : (S : Set) (u : ℕ) → T (has S u) → lowest S ≤ u
unfolding lowest
lowest_least [] u t = absurd t
lowest_least (true ∷ S) u t = zero-le
lowest_least (false ∷ S) zero t = absurd t
lowest_least (false ∷ S) (suc u) t = suc-le-suc (lowest_least S u t)

-- that of those which pass a test
pub lowest_passing : (p : ℕ → Bool) (S : Set) (u : ℕ) → T (has S u) → T (p u) → Lowest S (λ v. T (p v)) (lowest (passing p S))
lowest_passing p S u t m = record {
  inside = passing_subset p S v i;
  passes = and_right (has S v) (p v) (subst T (has_passing p S v) i);
  least = λ w a b. lowest_least (passing p S) w (kept p S w a b);
}
  where
    v : ℕ
    v = lowest (passing p S)

    i : T (has (passing p S) v)
    i = lowest_in (passing p S) u (kept p S u t m)

pub lowest_only : (S : Set) (P : ℕ → Type 0) (v w : ℕ) → Lowest S P v → Lowest S P w → v ≡ w
lowest_only S P v w a b = le_antisymm (a.least w b.inside b.passes) (b.least v a.inside a.passes)

-- ---- since

pub since_length : (w : ℕ) (xs : List ℕ) → length (since w xs) ≤ length xs
unfolding since
since_length w [] = zero-le
since_length w (x ∷ xs) = go (eqb w x) (since_length w xs)
  where
    go : (b : Bool) → length (since w xs) ≤ length xs → length (cond b (x ∷ xs) (since w xs)) ≤ suc (length xs)
    go true l = le_refl (suc (length xs))
    go false l = omega arith

pub since_in : (w : ℕ) (xs : List ℕ) (y : ℕ) → In y (since w xs) → In y xs
unfolding since
since_in w [] y m = m
since_in w (x ∷ xs) y m = go (eqb w x) (since_in w xs y) m
  where
    go : (b : Bool) → (In y (since w xs) → In y xs) → In y (cond b (x ∷ xs) (since w xs)) → In y (x ∷ xs)
    go true r n = n
    go false r n = Memᴰ.tail (r n)

pub since_once : (w : ℕ) (xs : List ℕ) → Distinct xs → Distinct (since w xs)
unfolding since
since_once w [] o = o
since_once w (x ∷ xs) o = go (eqb w x) (since_once w xs o.1)
  where
    go : (b : Bool) → Distinct (since w xs) → Distinct (cond b (x ∷ xs) (since w xs))
    go true r = o
    go false r = r

module _ (arcs : List Arc) where
  -- ---- an arc is seen by its test

  pub leads_of : (u v : ℕ) → Leads arcs u v → T (leads arcs u v)
  unfolding leads
  leads_of u v j = lt→ltb zero _ (how_many_in (λ a. eqb a.from u && eqb a.to v) j (both (eqb u u) (eqb v v) (eqb_refl u) (eqb_refl v)))

  pub of_leads : (u v : ℕ) → T (leads arcs u v) → Leads arcs u v
  unfolding leads
  of_leads u v t =
      let w = how_many_some (λ a. eqb a.from u && eqb a.to v) arcs (ltb→lt zero _ t) in
      let a : Arc = w.0 in
      let e : a.from ≡ u = eqb→eq a.from u (and_left (eqb a.from u) (eqb a.to v) w.2) in
      let f : a.to ≡ v = eqb→eq a.to v (and_right (eqb a.from u) (eqb a.to v) w.2) in
      Memᴰ.cast (λ i. arc (sym e i) (sym f i)) w.1

  -- ---- a walk that leads to one of its vertices has a cycle from there on

  pub since_cycle : (v : ℕ) (ys : List ℕ) (w : ℕ) → Walk arcs v ys w → In w (v ∷ ys) → Cycle arcs (since w (v ∷ ys))
  unfolding since
  since_cycle v [] w j m = go (eqb w v) refl (Memᴰ.cases_cons m)
    where
      go : (b : Bool) → eqb w v ≡ b → (w ≡ v) ⊎ In w [] → Cycle arcs (cond b (v ∷ []) [])
      go true q o = subst (Walk arcs v []) (eqb→eq w v (subst T (sym q) tt)) j
      go false q (inl e) = absurd (subst T q (subst (λ (x : ℕ). T (eqb w x)) e (eqb_refl w)))
      go false q (inr n) = absurd (Memᴰ.not-nil n)
  since_cycle v (y ∷ ys) w j m = go (eqb w v) refl (Memᴰ.cases_cons m) (since_cycle y ys w j.1)
    where
      go : (b : Bool) → eqb w v ≡ b → (w ≡ v) ⊎ In w (y ∷ ys) → (In w (y ∷ ys) → Cycle arcs (since w (y ∷ ys))) → Cycle arcs (cond b (v ∷ y ∷ ys) (since w (y ∷ ys)))
      go true q o r = subst (Walk arcs v (y ∷ ys)) (eqb→eq w v (subst T (sym q) tt)) j
      go false q (inl e) r = absurd (subst T q (subst (λ (x : ℕ). T (eqb w x)) e (eqb_refl w)))
      go false q (inr n) r = r n

  module _ (C : Set) where
    -- ---- the rule allows one walk only

    pub walks_only : {seen xs : List ℕ} {v w : ℕ} → Walks arcs C seen v xs w → (seen' : List ℕ) → seen' ≡ seen → (v' : ℕ) → v' ≡ v
        → {xs' : List ℕ} {w' : ℕ} → Walks arcs C seen' v' xs' w' → (xs ≡ xs') × (w ≡ w')
    walks_only (closes {v = v} {w = w} l m) seen' q v' e (closes {w = w'} l' m') =
        ((λ i. sym e i ∷ []), lowest_only C (Leads arcs v) w w' l (subst (λ (x : ℕ). Lowest C (Leads arcs x) w') e l'))
    walks_only (closes {seen = seen} {v = v} {w = w} l m) seen' q v' e (goes {u = u} l' n r) =
        let z = lowest_only C (Leads arcs v) w u l (subst (λ (x : ℕ). Lowest C (Leads arcs x) u) e l') in
        absurd (n (subst (In u) (sym q) (Memᴰ.cast (sym z) m)))
    walks_only (goes {seen = seen} {v = v} {u = u} l n r) seen' q v' e (closes {w = w'} l' m') =
        let z = lowest_only C (Leads arcs v) w' u (subst (λ (x : ℕ). Lowest C (Leads arcs x) w') e l') l in
        absurd (n (Memᴰ.cast (sym z) (subst (In w') q m')))
    walks_only (goes {seen = seen} {v = v} {u = u} l n r) seen' q v' e (goes {u = u'} l' n' r') =
        let z = lowest_only C (Leads arcs v) u' u (subst (λ (x : ℕ). Lowest C (Leads arcs x) u') e l') l in
        let h = walks_only r (u' ∷ seen') (λ i. z i ∷ q i) u' z r' in
        ((λ i. sym e i ∷ h.0 i), h.1)

    -- ---- what holds of the walk

    -- it is a walk along arcs
    pub walks_walk : {seen xs : List ℕ} {v w : ℕ} → Walks arcs C seen v xs w → (ys : List ℕ) × (xs ≡ v ∷ ys) × Walk arcs v ys w
    walks_walk (closes l m) = ([], refl, l.passes)
    walks_walk (goes {v = v} {u = u} l n r) =
        let h = walks_walk r in (u ∷ h.0, ap (λ (k : List ℕ). v ∷ k) h.1, (l.passes, h.2))

    -- the vertex met again was visited before it, or is visited by it
    pub walks_again : {seen xs : List ℕ} {v w : ℕ} → Walks arcs C seen v xs w → In w seen ⊎ In w xs
    walks_again (closes l m) = inl m
    walks_again (goes {seen = seen} {visits = xs} {v = v} {u = u} {w = w} l n r) = go (walks_again r)
      where
        first : In u xs
        first = let h = walks_walk r in subst (In u) (sym h.1) (Memᴰ.head refl)

        cut : (w ≡ u) ⊎ In w seen → In w seen ⊎ In w (v ∷ xs)
        cut (inl e) = inr (Memᴰ.tail (Memᴰ.cast e first))
        cut (inr m) = inl m

        go : In w (u ∷ seen) ⊎ In w xs → In w seen ⊎ In w (v ∷ xs)
        go (inl m) = cut (Memᴰ.cases_cons m)
        go (inr m) = inr (Memᴰ.tail m)

    -- each vertex is visited once, and none but v was visited before
    pub walks_once : {seen xs : List ℕ} {v w : ℕ} → Walks arcs C seen v xs w → In v seen → Distinct xs × ((x : ℕ) → In x xs → In x seen → x ≡ v)
    walks_once (closes {v = v} l m) i = ((Memᴰ.not-nil, tt), λ x n s. go x (Memᴰ.cases_cons n))
      where
        go : (x : ℕ) → (x ≡ v) ⊎ In x [] → x ≡ v
        go x (inl e) = e
        go x (inr k) = absurd (Memᴰ.not-nil k)
    walks_once (goes {seen = seen} {visits = xs} {v = v} {u = u} l n r) i =
        let h : Distinct xs × ((x : ℕ) → In x xs → In x (u ∷ seen) → x ≡ u) = walks_once r (Memᴰ.head refl) in
        ((λ m. old h.1 v m i, h.0), λ x m s. go h.1 x s (Memᴰ.cases_cons m))
      where
        -- nothing seen before is visited now
        old : ((x : ℕ) → In x xs → In x (u ∷ seen) → x ≡ u) → (x : ℕ) → In x xs → In x seen → ⊥
        old h x m s = n (Memᴰ.cast (sym (h x m (Memᴰ.tail s))) s)

        go : ((x : ℕ) → In x xs → In x (u ∷ seen) → x ≡ u) → (x : ℕ) → In x seen → (x ≡ v) ⊎ In x xs → x ≡ v
        go h x s (inl e) = e
        go h x s (inr m) = absurd (old h x m s)

    pub walks_inside : {seen xs : List ℕ} {v w : ℕ} → Walks arcs C seen v xs w → T (has C v) → (x : ℕ) → In x xs → T (has C x)
    walks_inside (closes {v = v} l m) t x n = go (Memᴰ.cases_cons n)
      where
        go : (x ≡ v) ⊎ In x [] → T (has C x)
        go (inl e) = subst (λ (y : ℕ). T (has C y)) (sym e) t
        go (inr k) = absurd (Memᴰ.not-nil k)
    walks_inside (goes {visits = xs} {v = v} l k r) t x n = go (walks_inside r l.inside x) (Memᴰ.cases_cons n)
      where
        go : (In x xs → T (has C x)) → (x ≡ v) ⊎ In x xs → T (has C x)
        go r (inl e) = subst (λ (y : ℕ). T (has C y)) (sym e) t
        go r (inr m) = r m

    -- ---- the steps

    -- a node's step and an edge's are the same: the arcs alone make them go by turns
    pub same_step : (k : ℕ) (R : Set) (v : ℕ) → node_step k arcs C R v ≡ edge_step k arcs C R v
    unfolding node_step edge_step
    same_step zero R v = refl
    same_step (suc k) R v =
        let e : ℕ = onward arcs C v in
        ap (λ (r : Walked). cond (has R e) (visiting v r) (closing v e)) (sym (same_step k (without e R) e))

    -- no more vertices are visited than v and those that are left
    pub step_length : (k : ℕ) (R : Set) (v : ℕ) → length (node_step k arcs C R v).visits ≤ suc k
    unfolding node_step
    step_length zero R v = le_refl 1
    step_length (suc k) R v = go (has R e) (rw (same_step k (without e R) e) at (step_length k (without e R) e))
      where
        e : ℕ
        e = onward arcs C v

        r : Walked
        r = edge_step k arcs C (without e R) e

        go : (b : Bool) → length r.visits ≤ suc k → length (cond b (visiting v r) (closing v e)).visits ≤ suc (suc k)
        go true l = suc-le-suc l
        go false l = omega arith

    module _ (stable : Stable arcs C) where
      pub onward_lowest : (v : ℕ) → T (has C v) → Lowest C (Leads arcs v) (onward arcs C v)
      unfolding onward
      onward_lowest v t =
          let w = out_some arcs C v (stable v t).1 in
          let l = lowest_passing (leads arcs v) C w.0 w.1 (leads_of v w.0 w.2) in
          record { inside = l.inside; passes = of_leads v (onward arcs C v) l.passes; least = λ u i j. l.least u i (leads_of v u j) }

      -- R has the vertices of C that were not seen
      pub record Unseen (R : Set) (seen : List ℕ) : Type 0 where
        pub either : (u : ℕ) → T (has C u) → In u seen ⊎ T (has R u)
        pub apart : (u : ℕ) → T (has R u) → In u seen → ⊥

      unseen_next : (R : Set) (seen : List ℕ) (w : ℕ) → Unseen R seen → Unseen (without w R) (w ∷ seen)
      unseen_next R seen w a = record { either = λ u t. go u (a.either u t) (ℕ_discrete u w); apart = λ u t m. off u t (Memᴰ.cases_cons m) }
        where
          go : (u : ℕ) → In u seen ⊎ T (has R u) → Dec (u ≡ w) → In u (w ∷ seen) ⊎ T (has (without w R) u)
          go u (inl m) d = inl (Memᴰ.tail m)
          go u (inr t) (yes e) = inl (Memᴰ.head e)
          go u (inr t) (no n) = inr (stays w R u n t)

          off : (u : ℕ) → T (has (without w R) u) → (u ≡ w) ⊎ In u seen → ⊥
          off u t (inl e) = gone w R (subst (λ (x : ℕ). T (has (without w R) x)) e t)
          off u t (inr m) = a.apart u (without_subset w R u t) m

      -- the steps follow the rule
      pub step_walks : (k : ℕ) (R : Set) (seen : List ℕ) (v : ℕ) → T (has C v) → size R ≤ k → Unseen R seen
          → Walks arcs C seen v (node_step k arcs C R v).visits (node_step k arcs C R v).again
      unfolding node_step
      step_walks zero R seen v t h a = closes l (go (a.either (onward arcs C v) l.inside))
        where
          l : Lowest C (Leads arcs v) (onward arcs C v)
          l = onward_lowest v t

          go : In (onward arcs C v) seen ⊎ T (has R (onward arcs C v)) → In (onward arcs C v) seen
          go (inl m) = m
          go (inr i) = absurd (none_left R h (onward arcs C v) i)
      step_walks (suc k) R seen v t h a =
          go (has R e) refl (a.either e l.inside) (λ s. rw (same_step k (without e R) e) at (step_walks k (without e R) (e ∷ seen) e l.inside s (unseen_next R seen e a)))
        where
          e : ℕ
          e = onward arcs C v

          l : Lowest C (Leads arcs v) e
          l = onward_lowest v t

          r : Walked
          r = edge_step k arcs C (without e R) e

          go : (b : Bool) → has R e ≡ b → In e seen ⊎ T (has R e) → (size (without e R) ≤ k → Walks arcs C (e ∷ seen) e r.visits r.again)
              → Walks arcs C seen v (cond b (visiting v r) (closing v e)).visits (cond b (visiting v r) (closing v e)).again
          go true q o f =
              let i : T (has R e) = subst T (sym q) tt in goes l (λ m. a.apart e i m) (f (omega (arith, size_without e R i)))
          go false q (inl m) f = closes l m
          go false q (inr i) f = absurd (subst T q i)
