-- The lists of the halves, arc by arc and edge by edge: what an edge adds to each.
-- Assumes nothing.
use mathlib.Core.Path.{◌≡◌, refl, sym, ap, ◌∙◌}
use mathlib.Core.Bool.{Bool, true, false, cond}
use mathlib.Core.List.{List, [], ◌∷◌, ◌++◌, map, map-append, append-nil}
use mathlib.Core.Logic.{◌≢◌}
use Prim.Native.Nat.{ℕ, zero, suc, ◌+◌, ◌*◌, ◌/◌, ◌%◌, ◌≤◌, ◌<◌}
use native.Mathlib.Decide.{ℕ_discrete}
use native.Mathlib.Omega.{arith}
use lib.Dec.{eqb}
use lib.ListN.{replicate}
use borrow.Author.Tests.{eq-eqb, ne_eqb}
use Rattle.le.specs.Le.{Below}
use Rattle.graph.specs.Graph.{Edge}
use Rattle.choice.specs.Arcs.{Arc, arc, bump, how_many}
use Rattle.choice.specs.Degrees.{ends_at, outgoing, incoming}
use Rattle.choice.specs.Drawing.{edge_arcs}
use Rattle.halves.specs.Halves.{mate, times}
use Rattle.halves.proofs.Lists.{count_append}
use Rattle.incidence.specs.Incidence.{neighbours, ports_of}

-- ---- the ends of arcs that are made one by one from a list

ends_append : (near far : Arc → ℕ) (v : ℕ) (P Q : List Arc) → ends_at near far v (P ++ Q) ≡ ends_at near far v P ++ ends_at near far v Q
unfolding ends_at
ends_append near far v [] Q = refl
ends_append near far v (a ∷ P) Q = go (eqb (near a) v) (ends_append near far v P Q)
  where
    go : (t : Bool) → ends_at near far v (P ++ Q) ≡ ends_at near far v P ++ ends_at near far v Q
        → cond t (far a ∷ ends_at near far v (P ++ Q)) (ends_at near far v (P ++ Q)) ≡ cond t (far a ∷ ends_at near far v P) (ends_at near far v P) ++ ends_at near far v Q
    go true e = ap (λ (l : List ℕ). far a ∷ l) e
    go false e = e

-- the near end is the entry, the far end always the same
ends_each : (near far : Arc → ℕ) (f : ℕ → Arc) (c v : ℕ) → ((x : ℕ) → near (f x) ≡ x) → ((x : ℕ) → far (f x) ≡ c) → (xs : List ℕ)
    → ends_at near far v (map f xs) ≡ replicate (times v xs) c
unfolding ends_at how_many
ends_each near far f c v n k [] = refl
ends_each near far f c v n k (x ∷ xs) =
    ap (λ (z : ℕ). cond (eqb z v) (far (f x) ∷ ends_at near far v (map f xs)) (ends_at near far v (map f xs))) (n x) ∙ go (eqb x v) (ends_each near far f c v n k xs)
  where
    go : (t : Bool) → ends_at near far v (map f xs) ≡ replicate (times v xs) c
        → cond t (far (f x) ∷ ends_at near far v (map f xs)) (ends_at near far v (map f xs)) ≡ replicate (bump t (times v xs)) c
    go true e = λ i. k x i ∷ e i
    go false e = e

-- the near end is another vertex
ends_none : (near far : Arc → ℕ) (f : ℕ → Arc) (v : ℕ) → ((x : ℕ) → near (f x) ≢ v) → (xs : List ℕ) → ends_at near far v (map f xs) ≡ []
unfolding ends_at
ends_none near far f v n [] = refl
ends_none near far f v n (x ∷ xs) = rw (ne_eqb (near (f x)) v (n x)) (ends_none near far f v n xs)

-- the near end is this vertex, the far end the entry
ends_all : (near far : Arc → ℕ) (f : ℕ → Arc) (v : ℕ) → ((x : ℕ) → near (f x) ≡ v) → ((x : ℕ) → far (f x) ≡ x) → (xs : List ℕ) → ends_at near far v (map f xs) ≡ xs
unfolding ends_at
ends_all near far f v n k [] = refl
ends_all near far f v n k (x ∷ xs) = rw (eq-eqb (near (f x)) v (n x)) (λ i. k x i ∷ ends_all near far f v n k xs i)

-- ---- the halves of ids

times_none : (n y : ℕ) (ids : List ℕ) → Below n ids → n ≤ y → times y ids ≡ 0
unfolding how_many
times_none n y [] b l = refl
times_none n y (x ∷ ids) b l = rw (ne_eqb x y (λ e. omega (arith, b.0))) (times_none n y ids b.1 l)

module _ (y side : ℕ) (low : side < 2) where
  pub times_side : y % 2 ≡ side → (ids : List ℕ) → times y (map (λ id. 2 * id + side) ids) ≡ times (y / 2) ids
  unfolding how_many
  times_side e [] = refl
  times_side e (x ∷ ids) = go (ℕ_discrete x (y / 2)) (times_side e ids)
    where
      go : Dec (x ≡ y / 2) → times y (map (λ id. 2 * id + side) ids) ≡ times (y / 2) ids
          → bump (eqb (2 * x + side) y) (times y (map (λ id. 2 * id + side) ids)) ≡ bump (eqb x (y / 2)) (times (y / 2) ids)
      go (yes q) r = rw (eq-eqb (2 * x + side) y (omega arith), eq-eqb x (y / 2) q) (ap suc r)
      go (no q) r = rw (ne_eqb (2 * x + side) y (λ p. q (omega arith)), ne_eqb x (y / 2) q) r

  pub times_far : y % 2 ≢ side → (ids : List ℕ) → times y (map (λ id. 2 * id + side) ids) ≡ 0
  unfolding how_many
  times_far e [] = refl
  times_far e (x ∷ ids) = rw (ne_eqb (2 * x + side) y (λ p. e (omega arith))) (times_far e ids)

-- ---- what an edge adds

pub neighbours_append : (P Q : List Arc) (y : ℕ) → neighbours (P ++ Q) y ≡ neighbours P y ++ neighbours Q y
unfolding neighbours
neighbours_append P Q y = go (eqb (y % 2) 0)
  where
    go : (t : Bool) → map (λ x. 2 * x + y % 2) (cond t (outgoing (P ++ Q) (y / 2)) (incoming (P ++ Q) (y / 2)))
        ≡ map (λ x. 2 * x + y % 2) (cond t (outgoing P (y / 2)) (incoming P (y / 2))) ++ map (λ x. 2 * x + y % 2) (cond t (outgoing Q (y / 2)) (incoming Q (y / 2)))
    go true = ap (map (λ x. 2 * x + y % 2)) (ends_append (λ a. a.from) (λ a. a.to) (y / 2) P Q) ∙ map-append (λ x. 2 * x + y % 2) (outgoing P (y / 2)) (outgoing Q (y / 2))
    go false = ap (map (λ x. 2 * x + y % 2)) (ends_append (λ a. a.to) (λ a. a.from) (y / 2) P Q) ∙ map-append (λ x. 2 * x + y % 2) (incoming P (y / 2)) (incoming Q (y / 2))

map_replicate : (f : ℕ → ℕ) (n c : ℕ) → map f (replicate n c) ≡ replicate n (f c)
map_replicate f zero c = refl
map_replicate f (suc n) c = ap (λ (l : List ℕ). f c ∷ l) (map_replicate f n c)

module _ (x : ℕ) (d : Edge) where
  -- a half of another vertex: the edge stands there for each of its ports
  pub ports_at_lem : (y : ℕ) → y / 2 ≢ x → neighbours (edge_arcs x d) y ≡ replicate (times y (ports_of d)) (2 * x + y % 2)
  unfolding neighbours edge_arcs ports_of
  ports_at_lem y ne = go (ℕ_discrete (y % 2) 0)
    where
      S : List ℕ
      S = d.sources

      R : List ℕ
      R = d.targets

      all : times y (map (λ id. 2 * id + 0) S ++ map (λ id. 2 * id + 1) R) ≡ times y (map (λ id. 2 * id + 0) S) + times y (map (λ id. 2 * id + 1) R)
      all = count_append (λ t. eqb t y) (map (λ id. 2 * id + 0) S) (map (λ id. 2 * id + 1) R)

      go : Dec (y % 2 ≡ 0) → map (λ z. 2 * z + y % 2) (cond (eqb (y % 2) 0) (outgoing (map (λ z. arc z x) S ++ map (λ z. arc x z) R) (y / 2)) (incoming (map (λ z. arc z x) S ++ map (λ z. arc x z) R) (y / 2)))
          ≡ replicate (times y (map (λ id. 2 * id + 0) S ++ map (λ id. 2 * id + 1) R)) (2 * x + y % 2)
      go (yes e) =
          rw (eq-eqb (y % 2) 0 e)
          (ap (map (λ z. 2 * z + y % 2)) (ends_append (λ a. a.from) (λ a. a.to) (y / 2) (map (λ z. arc z x) S) (map (λ z. arc x z) R)
          ∙ (λ i. ends_each (λ a. a.from) (λ a. a.to) (λ z. arc z x) x (y / 2) (λ z. refl) (λ z. refl) S i ++ ends_none (λ a. a.from) (λ a. a.to) (λ z. arc x z) (y / 2) (λ z q. ne (sym q)) R i)
          ∙ append-nil (replicate (times (y / 2) S) x))
          ∙ map_replicate (λ z. 2 * z + y % 2) (times (y / 2) S) x ∙ ap (λ (n : ℕ). replicate n (2 * x + y % 2)) many)
        where
          many : times (y / 2) S ≡ times y (map (λ id. 2 * id + 0) S ++ map (λ id. 2 * id + 1) R)
          many = omega (arith, all, times_side y 0 (omega arith) e S, times_far y 1 (omega arith) (λ p. omega arith) R)
      go (no e) =
          rw (ne_eqb (y % 2) 0 e)
          (ap (map (λ z. 2 * z + y % 2)) (ends_append (λ a. a.to) (λ a. a.from) (y / 2) (map (λ z. arc z x) S) (map (λ z. arc x z) R)
          ∙ (λ i. ends_none (λ a. a.to) (λ a. a.from) (λ z. arc z x) (y / 2) (λ z q. ne (sym q)) S i ++ ends_each (λ a. a.to) (λ a. a.from) (λ z. arc x z) x (y / 2) (λ z. refl) (λ z. refl) R i))
          ∙ map_replicate (λ z. 2 * z + y % 2) (times (y / 2) R) x ∙ ap (λ (n : ℕ). replicate n (2 * x + y % 2)) many)
        where
          many : times (y / 2) R ≡ times y (map (λ id. 2 * id + 0) S ++ map (λ id. 2 * id + 1) R)
          many = omega (arith, all, times_far y 0 (omega arith) e S, times_side y 1 (omega arith) (omega arith) R)

  module _ (n : ℕ) (above : n ≤ x) (sources : Below n d.sources) (targets : Below n d.targets) where
    -- its own halves: its targets, and its sources
    pub ports_own : (y : ℕ) → y / 2 ≡ x → neighbours (edge_arcs x d) y ≡ map (λ id. 2 * id + y % 2) (cond (eqb (y % 2) 0) d.targets d.sources)
    unfolding neighbours edge_arcs
    ports_own y e = go (eqb (y % 2) 0)
      where
        S : List ℕ
        S = d.sources

        R : List ℕ
        R = d.targets

        none : (ids : List ℕ) → Below n ids → replicate (times (y / 2) ids) x ≡ []
        none ids b = ap (λ (k : ℕ). replicate k x) (times_none n (y / 2) ids b (omega arith))

        go : (t : Bool) → map (λ z. 2 * z + y % 2) (cond t (outgoing (map (λ z. arc z x) S ++ map (λ z. arc x z) R) (y / 2)) (incoming (map (λ z. arc z x) S ++ map (λ z. arc x z) R) (y / 2)))
            ≡ map (λ z. 2 * z + y % 2) (cond t R S)
        go true =
            ap (map (λ z. 2 * z + y % 2)) (ends_append (λ a. a.from) (λ a. a.to) (y / 2) (map (λ z. arc z x) S) (map (λ z. arc x z) R)
            ∙ (λ i. (ends_each (λ a. a.from) (λ a. a.to) (λ z. arc z x) x (y / 2) (λ z. refl) (λ z. refl) S ∙ none S sources) i ++ ends_all (λ a. a.from) (λ a. a.to) (λ z. arc x z) (y / 2) (λ z. sym e) (λ z. refl) R i))
        go false =
            ap (map (λ z. 2 * z + y % 2)) (ends_append (λ a. a.to) (λ a. a.from) (y / 2) (map (λ z. arc z x) S) (map (λ z. arc x z) R)
            ∙ (λ i. ends_all (λ a. a.to) (λ a. a.from) (λ z. arc z x) (y / 2) (λ z. sym e) (λ z. refl) S i ++ (ends_each (λ a. a.to) (λ a. a.from) (λ z. arc x z) x (y / 2) (λ z. refl) (λ z. refl) R ∙ none R targets) i)
            ∙ append-nil S)

    -- no port is a half of an edge
    pub ports_low : (y : ℕ) → 2 * n ≤ y → times y (ports_of d) ≡ 0
    unfolding ports_of
    ports_low y l = count_append (λ t. eqb t y) (map (λ id. 2 * id + 0) d.sources) (map (λ id. 2 * id + 1) d.targets) ∙ (λ i. none 0 d.sources (omega arith) sources i + none 1 d.targets (omega arith) targets i)
      where
        none : (side : ℕ) (ids : List ℕ) → side < 2 → Below n ids → times y (map (λ id. 2 * id + side) ids) ≡ 0
        none side [] s b = unfold how_many in refl
        none side (z ∷ ids) s b = go (none side ids s b.1)
          where
            go : times y (map (λ id. 2 * id + side) ids) ≡ 0 → times y (map (λ id. 2 * id + side) (z ∷ ids)) ≡ 0
            go r = unfold how_many in rw (ne_eqb (2 * z + side) y (λ e. omega (arith, b.0))) r

-- the ports seen from the other side: what the edge adds to the degrees of its nodes
pub ports_mate : (d : Edge) (y : ℕ) → times y (map (λ id. 2 * id + 1) d.sources) + times y (map (λ id. 2 * id + 0) d.targets) ≡ times (mate y) (ports_of d)
unfolding ports_of
ports_mate d y = go (ℕ_discrete (y % 2) 0)
  where
    S : List ℕ
    S = d.sources

    R : List ℕ
    R = d.targets

    all : times (mate y) (map (λ id. 2 * id + 0) S ++ map (λ id. 2 * id + 1) R) ≡ times (mate y) (map (λ id. 2 * id + 0) S) + times (mate y) (map (λ id. 2 * id + 1) R)
    all = count_append (λ t. eqb t (mate y)) (map (λ id. 2 * id + 0) S) (map (λ id. 2 * id + 1) R)

    same : (y / 2) ≡ (mate y / 2)
    same = omega arith

    go : Dec (y % 2 ≡ 0) → times y (map (λ id. 2 * id + 1) S) + times y (map (λ id. 2 * id + 0) R) ≡ times (mate y) (map (λ id. 2 * id + 0) S ++ map (λ id. 2 * id + 1) R)
    go (yes e) = omega (
      arith,
      all,
      times_far y 1 (omega arith) (λ p. omega arith) S,
      times_side y 0 (omega arith) e R,
      times_far (mate y) 0 (omega arith) (λ p. omega arith) S,
      times_side (mate y) 1 (omega arith) (omega arith) R,
      ap (λ (v : ℕ). times v R) same,
    )
    go (no e) = omega (
      arith,
      all,
      times_side y 1 (omega arith) (omega arith) S,
      times_far y 0 (omega arith) e R,
      times_side (mate y) 0 (omega arith) (omega arith) S,
      times_far (mate y) 1 (omega arith) (λ p. omega arith) R,
      ap (λ (v : ℕ). times v S) same,
    )
