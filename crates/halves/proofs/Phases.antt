-- A free removal in two parts: first what has no arc in, while the arcs out that are still to be lowered wait; then what has no arc out. What the first part leaves is what
-- core vertices lead to, and what the second leaves is the core. Assumes nothing.
use mathlib.Core.Path.{◌≡◌, refl, sym, ap, ◌∙◌, subst}
use mathlib.Core.Bool.{Bool, true, false, cond}
use mathlib.Core.List.Memᴰ
use mathlib.Core.List.{List, [], ◌∷◌, ◌++◌, append-nil}
use mathlib.Core.Logic.{◌⊎◌, inl, inr, ◌≢◌}
use Prim.Native.Nat.{ℕ, zero, suc, ◌+◌, ◌-◌, ◌*◌, ◌%◌, ◌≤◌, ◌<◌}
use native.Mathlib.Decide.{ℕ_discrete}
use native.Mathlib.Nat.{add-zero}
use native.Mathlib.Omega.{arith}
use lib.Dec.{T, eqb, ltb}
use lib.ListN.{length, get_or, set, drop, length-drop}
use lib.Seq.{drop-append-le, drop-cons, drop-length}
use borrow.Author.Tests.{eq-eqb, ne_eqb, ltb-true}
use Rattle.choice.specs.Arcs.{Arc, In, bump, how_many, Set, has, without, size}
use Rattle.choice.specs.Choice.{core}
use Rattle.choice.specs.Degrees.{Sofar, Frees, untouched, freed}
use Rattle.choice.specs.Reasons.{led, Fed, Drains, drained, drain}
use Rattle.choice.proofs.Led.{drains_led}
use Rattle.choice.proofs.Sets.{gone, without_subset, stays}
use Rattle.choice.proofs.Sofar.{sofar_frees, frees_size, frees_core}
use Rattle.halves.specs.Halves.{vertex, mate, within, times, Listed, Halves, lower, lower_all, peel_from, Between, Ready, Leaves, stayed, left, Going}
use Rattle.halves.proofs.Leaving.{all_live, all_stable}
use Rattle.halves.proofs.Lists.{count_cons}
use Rattle.halves.proofs.Sums.{bump_plus}
use Rattle.halves.proofs.Lowering.{lower_all_ready}
use Rattle.halves.proofs.Sides.{into_half, joins_other}
use Rattle.halves.proofs.Waiting.{lower_front, lower_all_front, peel_front}
use Rattle.halves.proofs.Whole.{leaves_frees, Emptied, peel_emptied, still}

-- ---- what leaves

module _ (arcs : List Arc) where
  leaves_subset : {S U : Set} {ys : List ℕ} → Leaves arcs S ys U → (v : ℕ) → T (has U v) → T (has S v)
  leaves_subset stayed v t = t
  leaves_subset {S} (left x t e l) v u = without_subset (vertex x) S v (leaves_subset l v u)

  pub leaves_in : {S U : Set} {ys : List ℕ} → Leaves arcs S ys U → (y : ℕ) → In y ys → T (has S (vertex y)) × (T (has U (vertex y)) → ⊥)
  leaves_in stayed y m = absurd (Memᴰ.not-nil m)
  leaves_in {S} {U} (left {ys = ys} x t e l) y m = go (Memᴰ.cases_cons m) (leaves_in l y)
    where
      go : (y ≡ x) ⊎ In y ys → (In y ys → T (has (without (vertex x) S) (vertex y)) × (T (has U (vertex y)) → ⊥)) → T (has S (vertex y)) × (T (has U (vertex y)) → ⊥)
      go (inl q) r = (subst (λ (z : ℕ). T (has S (vertex z))) (sym q) t, λ u. gone (vertex x) S (subst (λ (z : ℕ). T (has (without (vertex x) S) (vertex z))) q (leaves_subset l (vertex y) u)))
      go (inr k) r = (without_subset (vertex x) S (vertex y) (r k).0, (r k).1)

  pub leaves_all : {S U : Set} {ys : List ℕ} → Leaves arcs S ys U → (v : ℕ) → T (has S v) → (T (has U v) → ⊥) → (y : ℕ) × In y ys × (vertex y ≡ v)
  leaves_all stayed v t n = absurd (n t)
  leaves_all {S} {U} (left {ys = ys} x i e l) v t n = go (ℕ_discrete v (vertex x)) (λ k. leaves_all l v k n)
    where
      go : Dec (v ≡ vertex x) → (T (has (without (vertex x) S) v) → (y : ℕ) × In y ys × (vertex y ≡ v)) → (y : ℕ) × In y (x ∷ ys) × (vertex y ≡ v)
      go (yes q) r = (x, Memᴰ.head refl, sym q)
      go (no q) r = let w = r (stays (vertex x) S v q t) in (w.0, Memᴰ.tail w.1, w.2)

  -- vertices that have no arc in
  leaves_drains : {S U : Set} {ys : List ℕ} → Leaves arcs S ys U → ((y : ℕ) → In y ys → y % 2 ≡ 0) → Fed arcs U → Drains arcs S U
  leaves_drains stayed even f = drained f
  leaves_drains {S} (left x t e l) even f =
      let v : 2 * vertex x ≡ x = omega (arith, even x (Memᴰ.head refl)) in
      drain (vertex x) t (sym (into_half arcs S (vertex x)) ∙ ap (within arcs S) v ∙ e) (leaves_drains l (λ y m. even y (Memᴰ.tail m)) f)

-- removals one after the other
frees_then : (arcs : List Arc) {S U R : Set} {j k : ℕ} → Frees arcs S U j → Frees arcs U R k → Frees arcs S R (j + k)
frees_then arcs {S} {U} {R} {j} f untouched = subst (Frees arcs S U) (sym (add-zero j)) f
frees_then arcs {S} {U} {R} {j} f (freed {U = W} {k = k} v g t l) = let e : suc (j + k) ≡ j + suc k = omega arith in subst (Frees arcs S (without v W)) e (freed v (frees_then arcs f g) t l)

-- ---- what waits has the side of what was walked

-- what waits after an arc is lowered
lower_waits : (first : ℕ) (h : Halves) (y z : ℕ) → first ≤ length h.waiting → In z (drop first (lower y h).waiting) → In z (drop first h.waiting) ⊎ (z ≡ y)
unfolding lower
lower_waits first h y z l = at (eqb (get_or h.degrees y 0) 1)
  where
    split : In z (drop first h.waiting) ⊎ In z (y ∷ []) → In z (drop first h.waiting) ⊎ (z ≡ y)
    split (inl j) = inl j
    split (inr j) = inr (Memᴰ.eq_of_singleton j)

    at : (t : Bool) → In z (drop first (cond {A = Halves} t (record { degrees = set (set h.degrees y 0) (mate y) 0; waiting = h.waiting ++ (y ∷ []) }) (record { degrees = set h.degrees y (get_or h.degrees y 0 - 1); waiting = h.waiting })).waiting)
        → In z (drop first h.waiting) ⊎ (z ≡ y)
    at true k = split (Memᴰ.append_cases (drop first h.waiting) (subst (In z) (drop-append-le first h.waiting (y ∷ []) l) k))
    at false k = inl k

-- every half that waits from a place on has this property
abbrev pub AllFrom : (ℕ → Type 0) → ℕ → List ℕ → Type 0
AllFrom P first q = (z : ℕ) → In z (drop first q) → P z

pub lower_all_from : (P : ℕ → Type 0) (first : ℕ) (h : Halves) (ts : List ℕ) → first ≤ length h.waiting → ((t : ℕ) → In t ts → P t) → AllFrom P first h.waiting → AllFrom P first (lower_all ts h).waiting
unfolding lower_all
lower_all_from P first h [] l p a = a
lower_all_from P first h (y ∷ ts) l p a =
    lower_all_from P first (lower y h) ts (omega (arith, (lower_front y h).longer)) (λ t m. p t (Memᴰ.tail m)) (λ z m. go z (lower_waits first h y z l m))
  where
    go : (z : ℕ) → In z (drop first h.waiting) ⊎ (z ≡ y) → P z
    go z (inl m) = a z m
    go z (inr e) = subst P (sym e) (p y (Memᴰ.head refl))

in_from : (q : List ℕ) (first : ℕ) → first < length q → In (get_or q first 0) (drop first q)
in_from q first l = subst (In (get_or q first 0)) (sym (drop-cons q first 0 l)) (Memᴰ.head refl)

in_later : (q : List ℕ) (first : ℕ) (z : ℕ) → first < length q → In z (drop (suc first) q) → In z (drop first q)
in_later q first z l m = subst (In z) (sym (drop-cons q first 0 l)) (Memᴰ.tail m)

peel_from_lem : (P : ℕ → Type 0) (lists : ℕ → List ℕ) → ((y t : ℕ) → P y → In t (lists y) → P t) → (k first : ℕ) (h : Halves) → first ≤ length h.waiting → AllFrom P first h.waiting
    → AllFrom P first (peel_from k lists first h).waiting
unfolding peel_from
peel_from_lem P lists closed zero first h l a = a
peel_from_lem P lists closed (suc k) first h l a =
    go (ltb first (length h.waiting)) refl (λ m b. peel_from_lem P lists closed k (suc first) (lower_all (lists (get_or h.waiting first 0)) h) m b)
  where
    y : ℕ
    y = get_or h.waiting first 0

    n : Halves
    n = lower_all (lists (get_or h.waiting first 0)) h

    go : (t : Bool) → ltb first (length h.waiting) ≡ t → (suc first ≤ length n.waiting → AllFrom P (suc first) n.waiting → AllFrom P (suc first) (peel_from k lists (suc first) n).waiting)
        → AllFrom P first (cond t (peel_from k lists (suc first) n) h).waiting
    go true e r =
        let more = ltb-true first (length h.waiting) e in
        let grown = lower_all_front (lists y) h in
        let after = peel_front k lists (suc first) n in
        let all = lower_all_from P first h (lists y) l (λ t m. closed y t (a y (in_from h.waiting first more)) m) a in
        λ z m. at (omega (arith, grown.longer, after.longer)) (a y (in_from h.waiting first more)) (after.same first (omega (arith, grown.longer)) ∙ grown.same first more) (r (omega (arith, grown.longer)) (λ z j. all z (in_later n.waiting first z (omega (arith, grown.longer)) j))) z m
      where
        q : List ℕ
        q = (peel_from k lists (suc first) n).waiting

        one : P y → get_or q first 0 ≡ y → AllFrom P (suc first) q → (z : ℕ) → (z ≡ get_or q first 0) ⊎ In z (drop (suc first) q) → P z
        one p same b z (inl e) = subst P (sym (e ∙ same)) p
        one p same b z (inr m) = b z m

        at : first < length q → P y → get_or q first 0 ≡ y → AllFrom P (suc first) q → AllFrom P first q
        at here p same b z m = one p same b z (Memᴰ.cases_cons (subst (In z) (drop-cons q first 0 here) m))
    go false e r = a

-- ---- the two parts

-- half y is one of n vertices, on this side
pub record On (n side y : ℕ) : Type 0 where
  pub low : y < 2 * n
  pub sided : y % 2 ≡ side

times_in : (t : ℕ) (ts : List ℕ) → In t ts → 0 < times t ts
times_in t [] m = absurd (Memᴰ.not-nil m)
times_in t (x ∷ ts) m = go (Memᴰ.cases_cons m) (times_in t ts)
  where
    go : (t ≡ x) ⊎ In t ts → (In t ts → 0 < times t ts) → 0 < times t (x ∷ ts)
    go (inl e) r = omega (arith, count_cons (λ z. eqb z t) x ts, ap (λ (b : Bool). bump b (times t ts)) (eq-eqb x t (sym e)))
    go (inr k) r = omega (arith, count_cons (λ z. eqb z t) x ts, bump_plus (eqb x t) (times t ts), r k)

pub none_in : (z : ℕ) (ts : List ℕ) → ((t : ℕ) → In t ts → t ≢ z) → times z ts ≡ 0
none_in z [] n = unfold how_many in refl
none_in z (t ∷ ts) n = count_cons (λ x. eqb x z) t ts ∙ ap (λ (b : Bool). bump b (times z ts)) (ne_eqb t z (n t (Memᴰ.head refl))) ∙ none_in z ts (λ x m. n x (Memᴰ.tail m))

module _ (arcs : List Arc) (n : ℕ) (lists : ℕ → List ℕ) (listed : Listed arcs n lists) where
  -- a list has halves of its own side only
  pub lists_on : (side y t : ℕ) → On n side y → In t (lists y) → On n side t
  lists_on side y t o m = record { low = listed.low y t o.low m; sided = go (ℕ_discrete (y % 2) (t % 2)) }
    where
      go : Dec (y % 2 ≡ t % 2) → t % 2 ≡ side
      go (yes e) = sym e ∙ o.sided
      go (no k) = absurd (omega (arith, times_in t (lists y) m, listed.right y t o.low, joins_other arcs y t k))

  module _ (may : ℕ → Bool) (S : Set) (h : Halves) (first : ℕ) (ts picked : List ℕ) (r : Ready arcs n S h first ts) (ins : AllFrom (On n 0) first h.waiting) (outs : (t : ℕ) → In t ts → On n 1 t)
      (told : Sofar arcs may n S picked first) (spent : first + length picked + size S ≡ n) where
    -- what has no arc in goes
    abbrev pub drained_by : Halves
    drained_by = peel_from (n - first) lists first h

    abbrev pub mid : ℕ
    mid = length drained_by.waiting

    p : Emptied arcs n ts S first (peel_from (n - first) lists first h)
    p = peel_emptied arcs n lists listed (n - first) ts S h first (omega arith) r

    fed : Fed arcs p.rest
    fed v t =
        let b = subst (λ (q : List ℕ). Between arcs n p.rest drained_by.degrees q ts) (drop-length drained_by.waiting) p.ready.state in
        let live = all_live arcs n p.rest drained_by.degrees b v t in
        omega (arith, live, b.right (2 * v) live, into_half arcs p.rest v, none_in (2 * v) ts (λ x m e. omega (arith, (outs x m).sided)))

    is_led : p.rest ≡ led arcs S
    is_led = drains_led arcs (leaves_drains arcs p.leaves (λ y m. (peel_from_lem (On n 0) lists (lists_on 0) (n - first) first h r.started ins y m).sided) fed)

    -- each half that then waits went as one that no core vertex leads to
    pub leaves_first : Leaves arcs S (drop first drained_by.waiting) (led arcs S)
    leaves_first = subst (Leaves arcs S (drop first drained_by.waiting)) is_led p.leaves

    -- then what has no arc out
    abbrev pub lowered : Halves
    lowered = lower_all ts drained_by

    ready_second : Ready arcs n p.rest (lower_all ts (peel_from (n - first) lists first h)) mid []
    ready_second = lower_all_ready arcs n p.rest ts [] drained_by mid (λ t m. (outs t m).low) (subst (Ready arcs n p.rest drained_by mid) (sym (append-nil ts)) p.ready)

    long_first : first + length (drop first drained_by.waiting) ≡ mid
    long_first = omega (arith, length-drop first drained_by.waiting, (peel_front (n - first) lists first h).longer, r.started)

    size_first : length (drop first drained_by.waiting) + size p.rest ≡ size S
    size_first = frees_size arcs (leaves_frees arcs p.leaves)

    abbrev pub emptied : Halves
    emptied = peel_from (n - mid) lists mid lowered

    abbrev pub end : ℕ
    end = length emptied.waiting

    k : Emptied arcs n [] p.rest mid (peel_from (n - mid) lists mid (lower_all ts (peel_from (n - first) lists first h)))
    k = peel_emptied arcs n lists listed (n - mid) [] p.rest lowered mid (omega (arith, long_first, size_first)) ready_second

    is_core : k.rest ≡ core arcs S
    is_core = frees_core arcs (frees_then arcs (leaves_frees arcs p.leaves) (leaves_frees arcs k.leaves)) (all_stable arcs n k.rest emptied.degrees (still arcs n k.rest emptied k.ready))

    -- each half that then waits behind them went as one that leads to none
    pub leaves_second : Leaves arcs (led arcs S) (drop mid emptied.waiting) (core arcs S)
    leaves_second = subst (λ (U : Set). Leaves arcs U (drop mid emptied.waiting) (core arcs S)) is_led (subst (Leaves arcs p.rest (drop mid emptied.waiting)) is_core k.leaves)

    long_second : mid + length (drop mid emptied.waiting) ≡ end
    long_second = omega (arith, length-drop mid emptied.waiting, (peel_front (n - mid) lists mid lowered).longer, (lower_all_front ts drained_by).longer)

    -- and what is left is the core
    pub parted_going : Going arcs may n (core arcs S) emptied picked end
    parted_going = subst (λ (U : Set). Going arcs may n U emptied picked end) is_core (record {
      ready = k.ready;
      told = subst (Sofar arcs may n k.rest picked) long_second
          (sofar_frees arcs may n (leaves_frees arcs k.leaves) picked mid (subst (Sofar arcs may n p.rest picked) long_first (sofar_frees arcs may n (leaves_frees arcs p.leaves) picked first told)));
      spent = omega (arith, long_first, long_second, size_first, frees_size arcs (leaves_frees arcs k.leaves));
    })

    pub mid_few : (first ≤ mid) × (mid ≤ end)
    mid_few = (omega (arith, long_first), omega (arith, long_second))
