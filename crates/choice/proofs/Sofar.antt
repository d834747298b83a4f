-- What an engine has told so far, in steps as small as its own: one loose vertex removed, one node picked. Whatever run goes on from
-- what remains is a run of the whole, with what was picked and counted before it.
-- Assumes nothing.
use mathlib.Core.Path.{◌≡◌, sym, subst}
use mathlib.Core.Bool.{Bool}
use mathlib.Core.List.Memᴰ
use mathlib.Core.List.{List, [], ◌∷◌}
use mathlib.Core.Logic.{◌⊎◌, inl, inr, ◌↔◌}
use Prim.Native.Nat.{ℕ, zero, suc, ◌+◌}
use native.Mathlib.Nat.{suc-add, zero-add, add-zero}
use native.Mathlib.Omega.{arith}
use lib.Dec.{T}
use Rattle.graph.specs.Answer.{answered}
use Rattle.choice.specs.Arcs.{Arc, In, Set, has, vertices, without, size, IsEmpty, Stable, Loose}
use Rattle.choice.specs.Choice.{core, Chosen, insert, Peels, rest, peel, taken, Best, Chooses, stop, choose, Ascends}
use Rattle.choice.specs.Degrees.{Sofar, Frees, untouched, freed}
use Rattle.choice.specs.Promises.{Bounded}
use Rattle.choice.proofs.Sets.{size_without}
use Rattle.choice.proofs.Ascending.{insert_in, in_insert}
use Rattle.choice.proofs.Stages.{run_ascends}
use Rattle.choice.specs.Keeping.{keeping_choice}
use Rattle.choice.proofs.Demand3.{same_core}
use Rattle.choice.proofs.Keeping.{run_answers}

-- a run, with one more vertex taken away before it
run_peel : {arcs : List Arc} {may : ℕ → Bool} {S : Set} (v : ℕ) → T (has S v) → Loose arcs S v → {ids : List ℕ} {free : ℕ}
    → Chooses arcs may (without v S) ids free → Chooses arcs may S ids (suc free)
unfolding taken
run_peel v t l (stop p e) = stop (peel v t l p) e
run_peel {arcs} {may} {S} v t l (choose {ids = ids} {free = free} p w b r) =
    subst (Chooses arcs may S (insert w ids)) (suc-add (taken p) free) (choose (peel v t l p) w b r)

module _ (arcs : List Arc) (may : ℕ → Bool) (n : ℕ) where
  pub sofar_start : Sofar arcs may n (vertices n) [] 0
  sofar_start = record { onward = λ ids more r. (ids, subst (Chooses arcs may (vertices n) ids) (sym (zero-add more)) r, λ x. (inr, back x ids)) }
    where
      back : (x : ℕ) (ids : List ℕ) → In x [] ⊎ In x ids → In x ids
      back x ids (inl m) = absurd (Memᴰ.not-nil m)
      back x ids (inr m) = m

  module _ (S : Set) (picked : List ℕ) (free : ℕ) (a : Sofar arcs may n S picked free) where
    -- a loose vertex is removed: one more is counted
    pub sofar_loose : (v : ℕ) → T (has S v) → Loose arcs S v → Sofar arcs may n (without v S) picked (suc free)
    sofar_loose v t l = record { onward = λ ids more r. go ids more (a.onward ids (suc more) (run_peel v t l r)) }
      where
        go : (ids : List ℕ) (more : ℕ) → (all : List ℕ) × Chooses arcs may (vertices n) all (free + suc more) × ((x : ℕ) → In x all ↔ (In x picked ⊎ In x ids))
            → (all : List ℕ) × Chooses arcs may (vertices n) all (suc free + more) × ((x : ℕ) → In x all ↔ (In x picked ⊎ In x ids))
        go ids more w = let e : free + suc more ≡ suc free + more = omega arith in (w.0, subst (Chooses arcs may (vertices n) w.0) e w.1, w.2)

    -- no vertex is loose: the best of those that may be chosen is picked and removed
    pub sofar_best : (v : ℕ) → Stable arcs S → Best arcs may S v → Sofar arcs may n (without v S) (v ∷ picked) free
    unfolding taken
    sofar_best v s b =
        record { onward = λ ids more r. go ids more (a.onward (insert v ids) (zero + more) (choose (rest s) v b r)) }
      where
        there : (x : ℕ) (ids : List ℕ) → (x ≡ v) ⊎ In x ids → In x (v ∷ picked) ⊎ In x ids
        there x ids (inl e) = inl (Memᴰ.head e)
        there x ids (inr m) = inr m

        sort : (x : ℕ) (ids : List ℕ) → In x picked ⊎ In x (insert v ids) → In x (v ∷ picked) ⊎ In x ids
        sort x ids (inl m) = inl (Memᴰ.tail m)
        sort x ids (inr m) = there x ids (insert_in x v ids m)

        at : (x : ℕ) (ids : List ℕ) → (x ≡ v) ⊎ In x picked → In x picked ⊎ In x (insert v ids)
        at x ids (inl e) = inr (in_insert x v ids (inl e))
        at x ids (inr m) = inl m

        back : (x : ℕ) (ids : List ℕ) → In x (v ∷ picked) ⊎ In x ids → In x picked ⊎ In x (insert v ids)
        back x ids (inl m) = at x ids (Memᴰ.cases_cons m)
        back x ids (inr m) = inr (in_insert x v ids (inr m))

        go : (ids : List ℕ) (more : ℕ) → (all : List ℕ) × Chooses arcs may (vertices n) all (free + (zero + more)) × ((x : ℕ) → In x all ↔ (In x picked ⊎ In x (insert v ids)))
            → (all : List ℕ) × Chooses arcs may (vertices n) all (free + more) × ((x : ℕ) → In x all ↔ (In x (v ∷ picked) ⊎ In x ids))
        go ids more w =
            let e : free + (zero + more) ≡ free + more = omega arith in
            (w.0, subst (Chooses arcs may (vertices n) w.0) e w.1, λ x. (λ m. sort x ids ((w.2 x).0 m), λ o. (w.2 x).1 (back x ids o)))

    -- nothing remains: the choice is answered, by just what was picked, ascending, and counted
    pub sofar_done : Bounded arcs n → IsEmpty S
        → (c : Chosen) × (keeping_choice arcs may n ≡ answered c) × Ascends c.ids × ((x : ℕ) → In x c.ids ↔ In x picked) × (c.free ≡ free)
    unfolding taken
    sofar_done bounded none = go (a.onward [] zero (stop (rest (λ v t. absurd (none v t))) none))
      where
        only : (x : ℕ) → In x picked ⊎ In x [] → In x picked
        only x (inl m) = m
        only x (inr m) = absurd (Memᴰ.not-nil m)

        go : (all : List ℕ) × Chooses arcs may (vertices n) all (free + zero) × ((x : ℕ) → In x all ↔ (In x picked ⊎ In x []))
            → (c : Chosen) × (keeping_choice arcs may n ≡ answered c) × Ascends c.ids × ((x : ℕ) → In x c.ids ↔ In x picked) × (c.free ≡ free)
        go w = (
          record { ids = w.0; free = free + zero },
          run_answers arcs may n bounded w.0 (free + zero) w.1,
          run_ascends arcs may w.1,
          (λ x. (λ m. only x ((w.2 x).0 m), λ m. (w.2 x).1 (inl m))),
          add-zero free,
        )

-- ---- free removals as a loop makes them, one after the other: what a sweep promises

-- each takes one vertex away: no more than there are vertices can remove something, over all stages
pub frees_size : (arcs : List Arc) {S U : Set} {k : ℕ} → Frees arcs S U k → k + size U ≡ size S
frees_size arcs untouched = omega arith
frees_size arcs (freed {U = U} v f t l) = omega (arith, frees_size arcs f, size_without v U t)

pub sofar_frees : (arcs : List Arc) (may : ℕ → Bool) (n : ℕ) {S U : Set} {k : ℕ} → Frees arcs S U k → (picked : List ℕ) (free : ℕ)
    → Sofar arcs may n S picked free → Sofar arcs may n U picked (free + k)
sofar_frees arcs may n {S} untouched picked m a = subst (Sofar arcs may n S picked) (sym (add-zero m)) a
sofar_frees arcs may n {S} (freed {U = U} {k = k} v f t l) picked m a =
    let e : suc (m + k) ≡ m + suc k = omega arith in
    subst (Sofar arcs may n (without v U) picked) e (sofar_loose arcs may n U picked (m + k) (sofar_frees arcs may n f picked m a) v t l)

-- they come before whatever is taken away after them
frees_peels : (arcs : List Arc) {S U W : Set} {k : ℕ} → Frees arcs S U k → Peels arcs U W → Peels arcs S W
frees_peels arcs untouched p = p
frees_peels arcs (freed v f t l) p = frees_peels arcs f (peel v t l p)

-- where they come to a stable set, that is the core
pub frees_core : (arcs : List Arc) {S U : Set} {k : ℕ} → Frees arcs S U k → Stable arcs U → U ≡ core arcs S
frees_core arcs {S} {U} f s = let p = frees_peels arcs f (rest s) in (same_core arcs S U U p p).1
