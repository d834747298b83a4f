-- Laws of marking: an entry more, entries more, and what the whole table decides.
-- Assumes nothing.
use mathlib.Core.Bool.{Bool, true, false, cond, not}
use mathlib.Core.List.{List, [], ◌∷◌, ◌++◌, append-nil, append_assoc}
use mathlib.Core.Logic.{◌⊎◌, ⊎_elim, inl, inr}
use mathlib.Core.Path.{◌≡◌, refl, sym, ap, ◌∙◌, subst}
use Prim.Native.Nat.{ℕ, ◌+◌, ◌*◌, ◌-◌, ◌/◌, ◌%◌, ◌≤◌, ◌<◌}
use native.Mathlib.Decide.{ℕ_discrete}
use native.Mathlib.Nat.{zero-add}
use native.Mathlib.Omega.{arith}
use lib.Dec.{eqb}
use lib.ListN.{length, get_or, set, replicate, get_or-replicate, length-replicate}
use lib.Seq.{get_or-set_same, get_or-set_other, sets}
use borrow.Author.Tests.{eqb-true, eqb-false, eq-eqb, ne_eqb, not-true, not-false}
use Rattle.once_fed.specs.Marked.{Marked, Twice, added, Fared, Marks, MarksBoth, AllMarked}
use Rattle.once_fed.specs.declared.Way.{Way}
use Rattle.once_fed.specs.declared.Way.TheVariants as way
use Rattle.graph.specs.Checks.{feeds, uses, monogamous}
use Rattle.graph.specs.Graph.{Graph}
use Rattle.graph.specs.Lists.{occurrences}
use Rattle.graph.proofs.Monogamous.{occurrences_append, monogamous_iff}
use Rattle.le.specs.Rows.{entry, span}
use Rattle.le.specs.declared.Row.{Row}
use Rattle.le.proofs.Rows.{span_append, span_next}
use Rattle.le.proofs.Tables.{get_d_sets}

-- what a way adds
abbrev pub IsWay : ℕ → Type 0
IsWay way = (way ≡ 1) ⊎ (way ≡ 2)

pub is_way : (w : Way) → IsWay (added w)
is_way way.Used = inl refl
is_way way.Fed = inr refl

-- a node that occurs twice does so among more entries
pub twice_among : {nodes : ℕ} {xs ys : List ℕ} (xs' ys' : List ℕ) → ((v : ℕ) → occurrences v xs ≤ occurrences v xs') → ((v : ℕ) → occurrences v ys ≤ occurrences v ys')
    → Twice nodes xs ys → Twice nodes xs' ys'
twice_among {nodes} {xs} {ys} xs' ys' f g h = record {
  id = h.id;
  known = h.known;
  twice = ⊎_elim (λ (l : 1 < occurrences h.id xs). inl (omega (arith, f h.id))) (λ (l : 1 < occurrences h.id ys). inr (omega (arith, g h.id))) h.twice;
}

-- ---- the two ways exchanged

pub marked_other : (table : List ℕ) (nodes way : ℕ) → IsWay way → (xs ys : List ℕ) → Marked table nodes way xs ys → Marked table nodes (3 - way) ys xs
marked_other table nodes way w xs ys h = record {
  is = λ id l. ⊎_elim (λ (e : way ≡ 1). rw e (omega (arith, rw e at (h.is id l)))) (λ (e : way ≡ 2). rw e (omega (arith, rw e at (h.is id l)))) w;
  once = λ id l. ((h.once id l).1, (h.once id l).0);
}

pub twice_other : {nodes : ℕ} {xs ys : List ℕ} → Twice nodes xs ys → Twice nodes ys xs
twice_other {nodes} {xs} {ys} h = record {
  id = h.id;
  known = h.known;
  twice = ⊎_elim (λ (l : 1 < occurrences h.id xs). inr l) (λ (l : 1 < occurrences h.id ys). inl l) h.twice;
}

pub fared_other : (r : Bool) (table : List ℕ) (nodes way : ℕ) → IsWay way → (xs ys : List ℕ) → Fared r table nodes way xs ys → Fared r table nodes (3 - way) ys xs
fared_other true table nodes way w xs ys h = marked_other table nodes way w xs ys h
fared_other false table nodes way w xs ys h = twice_other h

-- 3 less a way is the other
other_way : (way : ℕ) → IsWay way → IsWay (3 - way)
other_way way (inl e) = inr (omega arith)
other_way way (inr e) = inl (omega arith)

-- ---- an entry more

-- what the table says of a node in one way
told : (way : ℕ) → IsWay way → (t a b : ℕ) → t ≡ way * a + (3 - way) * b → a ≤ 1 → b ≤ 1 → t / way % 2 ≡ a
told way (inl e) t a b h l m = rw e (omega (arith, rw e at h))
told way (inr e) t a b h l m = rw e (omega (arith, rw e at h))

module _ (table : List ℕ) (nodes id way : ℕ) (known : id < nodes) (long : nodes ≤ length table) (w : IsWay way) (xs ys : List ℕ) (marked : Marked table nodes way xs ys) where
  here : occurrences id (xs ++ (id ∷ [])) ≡ occurrences id xs + 1
  here = occurrences_append id xs (id ∷ []) ∙ rw (eq-eqb id id refl)

  before : get_or table id 0 / way % 2 ≡ occurrences id xs
  before = told way w (get_or table id 0) _ _ (marked.is id known) (marked.once id known).0 (marked.once id known).1

  pub twice_now : eqb (get_or table id 0 / way % 2) 1 ≡ true → Twice nodes (xs ++ (id ∷ [])) ys
  twice_now e = record { id = id; known = known; twice = inl (omega (arith, here, before, eqb-true (get_or table id 0 / way % 2) 1 e)) }

  pub marked_now : eqb (get_or table id 0 / way % 2) 1 ≡ false → Marked (set table id (get_or table id 0 + way)) nodes way (xs ++ (id ∷ [])) ys
  marked_now e = record { is = λ v l. (each v l (ℕ_discrete v id)).0; once = λ v l. (each v l (ℕ_discrete v id)).1 }
    where
      none : occurrences id xs ≡ 0
      none = let f = eqb-false (get_or table id 0 / way % 2) 1 e in omega (arith, before, (marked.once id known).0, f)

      each : (v : ℕ) → v < nodes → Dec (v ≡ id)
          → (get_or (set table id (get_or table id 0 + way)) v 0 ≡ way * occurrences v (xs ++ (id ∷ [])) + (3 - way) * occurrences v ys)
          × ((occurrences v (xs ++ (id ∷ [])) ≤ 1) × (occurrences v ys ≤ 1))
      each v l (yes q) =
          let one : occurrences id (xs ++ (id ∷ [])) ≡ 1 = omega (arith, here, none) in
          let old : get_or table id 0 ≡ (3 - way) * occurrences id ys = marked.is id known ∙ rw none (omega arith) in
          rw (q, get_or-set_same table id (get_or table id 0 + way) 0 (omega arith), one) (omega (arith, old), (omega arith, (marked.once id known).1))
      each v l (no q) =
          let same : occurrences v (xs ++ (id ∷ [])) ≡ occurrences v xs = occurrences_append v xs (id ∷ []) ∙ rw (ne_eqb v id q) (omega arith) in
          rw (get_or-set_other table id v (get_or table id 0 + way) 0 q, same) (marked.is v l, marked.once v l)

-- ---- a list of entries, from the table old on

module _ (old : List ℕ) (nodes way : ℕ) (b : List ℕ) (r : Row) (k : ℕ) where
  pub list_start : Marks old old nodes true way (span b r k 0)
  unfolding span
  list_start xs ys h = rw (append-nil xs) h

  module _ (n i : ℕ) (less : i < n) (table : List ℕ) (sofar : Marks old table nodes true way (span b r k i)) (id : ℕ) (is_id : id ≡ entry b r (k + i))
      (known : id < nodes) (long : nodes ≤ length table) (is : IsWay way) (yes : Bool) (is_yes : yes ≡ not (eqb (get_or table id 0 / way % 2) 1)) (new : List ℕ)
      (is_new : new ≡ cond yes (set table id (get_or table id 0 + way)) table) where
    ids : (xs : List ℕ) → xs ++ span b r k (i + 1) ≡ (xs ++ span b r k i) ++ (id ∷ [])
    ids xs = ap (λ (l : List ℕ). xs ++ l) (span_next b r k i ∙ ap (λ (x : ℕ). span b r k i ++ (x ∷ [])) (sym is_id)) ∙ sym (append_assoc xs (span b r k i) (id ∷ []))

    pub list_turn : yes ≡ true → Marks old new nodes true way (span b r k (i + 1))
    list_turn t xs ys h =
        let free : eqb (get_or table id 0 / way % 2) 1 ≡ false = not-true (eqb (get_or table id 0 / way % 2) 1) (sym is_yes ∙ t) in
        rw (ids xs, is_new, t) (marked_now table nodes id way known long is (xs ++ span b r k i) ys (sofar xs ys h) free)

    pub list_stop : yes ≡ false → Marks old new nodes false way (span b r k n)
    list_stop t xs ys h =
        let full : eqb (get_or table id 0 / way % 2) 1 ≡ true = not-false (eqb (get_or table id 0 / way % 2) 1) (sym is_yes ∙ t) in
        let rest = span b r (k + (i + 1)) (n - (i + 1)) in
        let sum : n ≡ i + 1 + (n - (i + 1)) = omega arith in
        let all : xs ++ span b r k n ≡ ((xs ++ span b r k i) ++ (id ∷ [])) ++ rest =
        ap (λ (m : ℕ). xs ++ span b r k m) sum ∙ ap (λ (l : List ℕ). xs ++ l) (span_append b r k (i + 1) (n - (i + 1)))
        ∙ sym (append_assoc xs (span b r k (i + 1)) rest) ∙ ap (λ (l : List ℕ). l ++ rest) (ids xs) in
        rw all (twice_among _ ys (λ v. omega (arith, occurrences_append v ((xs ++ span b r k i) ++ (id ∷ [])) rest)) (λ v. omega arith)
        (twice_now table nodes id way known long is (xs ++ span b r k i) ys (sofar xs ys h) full))

-- ---- entries in one way, and then some in the other

module _ (old mid new : List ℕ) (nodes way : ℕ) (w : IsWay way) (s t : List ℕ) where
  pub first_stop : (r : Bool) → Marks old mid nodes r way s → r ≡ false → MarksBoth old new nodes false way s t
  first_stop r h e xs ys f =
      twice_among (xs ++ s) (ys ++ t) (λ v. omega arith) (λ v. omega (arith, occurrences_append v ys t))
      (subst (λ (c : Bool). Fared c mid nodes way (xs ++ s) ys) e (h xs ys f))

  pub second_next : (q : Bool) → Marks old mid nodes q way s → q ≡ true → (r : Bool) → Marks mid new nodes r (3 - way) t → MarksBoth old new nodes r way s t
  second_next q first e r second xs ys f =
      let back : 3 - (3 - way) ≡ way = ⊎_elim (λ (e : way ≡ 1). omega arith) (λ (e : way ≡ 2). omega arith) w in
      let now = subst (λ (c : Bool). Fared c mid nodes way (xs ++ s) ys) e (first xs ys f) in
      subst (λ (way : ℕ). Fared r new nodes way (xs ++ s) (ys ++ t)) back
      (fared_other r new nodes (3 - way) (other_way way w) (ys ++ t) (xs ++ s) (second ys (xs ++ s) (marked_other mid nodes way w (xs ++ s) ys now)))

-- ---- the whole

no_yes : (b : Bool) → (b ≡ true → ⊥) → b ≡ false
no_yes true h = absurd (h refl)
no_yes false h = refl

-- a node that is not fed exactly once and used exactly once
missed : (g : Graph) (id : ℕ) → id < length g.labels → ((occurrences id (feeds g) ≡ 1) × (occurrences id (uses g) ≡ 1) → ⊥) → monogamous g ≡ false
missed g id known h = no_yes (monogamous g) (λ e. h ((monogamous_iff g).0 e id known))

pub twice_not : (g : Graph) → Twice (length g.labels) (feeds g) (uses g) → monogamous g ≡ false
twice_not g h =
    missed g h.id h.known (λ one.
    ⊎_elim (λ (l : 1 < occurrences h.id (feeds g)). omega (arith, one.0)) (λ (l : 1 < occurrences h.id (uses g)). omega (arith, one.1)) h.twice)

-- no node is marked twice: then each is marked in both ways exactly where each is fed and used exactly once
pub marked_says : (g : Graph) (table : List ℕ) → Marked table (length g.labels) 2 (feeds g) (uses g) → (r : Bool) → AllMarked r table (length g.labels) → r ≡ monogamous g
marked_says g table m true h =
    sym ((monogamous_iff g).1 (λ v l. (omega (arith, m.is v l, (m.once v l).0, (m.once v l).1, h v l), omega (arith, m.is v l, (m.once v l).0, (m.once v l).1, h v l))))
marked_says g table m false h = sym (missed g h.0 h.1 (λ one. h.2 (omega (arith, m.is h.0 h.1, one.0, one.1))))

-- a cleared table
pub marked_cleared : (old table : List ℕ) (nodes : ℕ) → nodes ≤ length old → table ≡ sets old 0 (replicate nodes 0) → Marked table nodes 1 [] []
marked_cleared old table nodes l e = record {
  is = λ id k.
      let n = length-replicate {A = ℕ} nodes 0 in
      rw e (ap (λ (i : ℕ). get_or (sets old 0 (replicate nodes 0)) i 0) (sym (zero-add id)) ∙ get_d_sets old 0 (replicate nodes 0) id (omega arith) (omega arith) ∙ get_or-replicate nodes id 0 0 k);
  once = λ id k. (omega arith, omega arith);
}
