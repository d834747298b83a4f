-- Laws of the words that hold the classes: a step of a search, its end, and the hanging of one root under another.
-- Assumes nothing.
use mathlib.Core.Bool.{Bool, true, false, cond, ◌||◌}
use mathlib.Core.List.{List, map}
use mathlib.Core.Logic.{◌⊎◌, inl, inr}
use mathlib.Core.Path.{◌≡◌, refl, sym, ap, ◌∙◌, subst}
use Prim.Native.Nat.{ℕ, ◌+◌, ◌*◌, ◌≤◌, ◌<◌, min}
use native.Mathlib.Omega.{arith}
use lib.Dec.{eqb}
use lib.ListN.{length, length-map, get_or, set}
use lib.Seq.{ext_get_or, get_or-set_same, get_or-set_other}
use borrow.Author.Tests.{eqb-true, eqb-false, eq-eqb}
use Rattle.le.specs.Le.{words}
use Rattle.le.proofs.Places.{length_words}
use Rattle.graph.specs.Lists.{range}
use Rattle.graph.specs.Merge.{united}
use Rattle.graph.proofs.Lists.{get_d_map, get_d_range, length_range}
use Rattle.classes.specs.Forest.{Falls, Forest, Tabled, Found, Climbed, Joins, Flattened}

-- so many words lie within the room
pub words_fit : (s : List ℕ) (room m : ℕ) → length s ≡ room → 4 * m ≤ room → m ≤ length (words s)
words_fit s room m e h = omega (arith, length_words s)

-- ---- one word changed

module _ (n : ℕ) (W : List ℕ) (room : n ≤ length W) (x q : ℕ) (inside : x < n) where
  -- what holds of each word holds after a store, if it holds of the new one
  pub each : (P : ℕ → ℕ → Type 0) → ((v : ℕ) → v < n → (v ≡ x → ⊥) → P v (get_or W v 0)) → P x q → (v : ℕ) → v < n → P v (get_or (set W x q) v 0)
  each P old new v h = go (eqb v x) refl
    where
      go : (c : Bool) → eqb v x ≡ c → P v (get_or (set W x q) v 0)
      go true e =
          let s : v ≡ x = eqb-true v x e in
          subst (λ (k : ℕ). P k (get_or (set W x q) k 0)) (sym s) (subst (P x) (sym (get_or-set_same W x q 0 (omega arith))) new)
      go false e =
          let ne : v ≡ x → ⊥ = eqb-false v x e in
          subst (P v) (sym (get_or-set_other W x v q 0 (λ k. ne (omega arith)))) (old v h ne)

  set_falls : Falls n W → q ≤ x → Falls n (set W x q)
  set_falls f l = record { low = each (λ v w. w ≤ v) (λ v h ne. f.low v h) l }

  -- by another node of its class
  set_forest : (table : List ℕ) → Forest n table W → q ≤ x → get_or table q 0 ≡ get_or table x 0 → (q ≡ x → get_or table x 0 ≡ x)
      → Forest n table (set W x q)
  set_forest table f l e t = record {
    long = f.long;
    falls = set_falls f.falls l;
    class = each (λ v w. get_or table w 0 ≡ get_or table v 0) (λ v h ne. f.class v h) e;
    top = each (λ v w. w ≡ v → get_or table v 0 ≡ v) (λ v h ne. f.top v h) t;
  }

-- ---- a search

pub climb_start : (n : ℕ) (W : List ℕ) (v : ℕ) → Falls n W → Climbed n W W v v
climb_start n W v f = record {
  falls = f;
  low = omega arith;
  keeps = λ table k. k;
  class = λ table k. refl;
}

module _ (n : ℕ) (W X : List ℕ) (v x : ℕ) (c : Climbed n W X v x) (room : n ≤ length X) (inside : v < n) where
  -- the word's word
  abbrev up : ℕ
  up = get_or X (get_or X x 0) 0

  climb_low : (get_or X x 0 ≤ x) × (up ≤ get_or X x 0)
  climb_low =
      let a = c.falls.low x (omega (arith, c.low)) in
      (a, c.falls.low (get_or X x 0) (omega (arith, c.low)))

  climb_turn : (get_or X x 0 ≡ x → ⊥) → Climbed n W (set X x up) v up × (up < x)
  climb_turn ne =
      let l = climb_low in
      let less : up < x = omega arith in
      let here : x < n = omega (arith, c.low) in
      let next : get_or X x 0 < n = omega arith in (
        record {
          falls = set_falls n X room x up here c.falls (omega arith);
          low = omega (arith, c.low);
          keeps = λ table k.
              let f = c.keeps table k in
              set_forest n X room x up here table f (omega arith) (f.class _ next ∙ f.class x here) (λ e. absurd (omega arith));
          class = λ table k. let f = c.keeps table k in f.class _ next ∙ f.class x here ∙ c.class table k;
        },
        less,
      )

  -- the same of the words that were read
  module _ (p : ℕ) (read : p ≡ get_or X x 0) where
    pub climb_inside : (p ≤ x) × (x < n)
    climb_inside = (omega (arith, climb_low.0), omega (arith, c.low))

    pub climb_step : (q : ℕ) → q ≡ get_or X p 0 → (p ≡ x → ⊥) → Climbed n W (set X x q) v q × (q < x)
    climb_step q read' ne =
        let e : q ≡ up = read' ∙ ap (λ (k : ℕ). get_or X k 0) read in
        subst (λ (k : ℕ). Climbed n W (set X x k) v k × (k < x)) (sym e) (climb_turn (λ z. ne (read ∙ z)))

  pub climb_done : get_or X x 0 ≡ x → Found n W X v x
  climb_done e = record {
    falls = c.falls;
    low = c.low;
    keeps = c.keeps;
    leader = λ table k.
        let top = (c.keeps table k).top x (omega (arith, c.low)) e in
        (sym top ∙ c.class table k, top);
  }

-- ---- one root under another

-- the table with other least members
module _ (n : ℕ) (table W : List ℕ) (f : Forest n table W) (new : ℕ → ℕ) (lo hi : ℕ) (less : lo < hi) (inside : hi < n) (room : n ≤ length W) where
  renamed_at : (v : ℕ) → v < n → get_or (map new table) v 0 ≡ new (get_or table v 0)
  renamed_at v h = get_d_map new table v (omega (arith, f.long))

  hang : get_or table lo 0 ≡ lo → get_or table hi 0 ≡ hi → new lo ≡ lo → new hi ≡ lo → ((l : ℕ) → (l ≡ hi) ⊎ (new l ≡ l)) → Forest n (map new table) (set W hi lo)
  hang tl th nl nh other = record {
    long = length-map table new ∙ f.long;
    falls = set_falls n W room hi lo inside f.falls (omega arith);
    class = each n W room hi lo inside (λ v w. get_or (map new table) w 0 ≡ get_or (map new table) v 0)
        (λ v h ne. renamed_at _ (omega (arith, f.falls.low v h)) ∙ ap new (f.class v h) ∙ sym (renamed_at v h))
        (renamed_at lo (omega arith) ∙ ap new tl ∙ nl ∙ sym nh ∙ ap new (sym th) ∙ sym (renamed_at hi inside));
    top = each n W room hi lo inside (λ v w. w ≡ v → get_or (map new table) v 0 ≡ v)
        (λ v h ne e. renamed_at v h ∙ ap new (f.top v h e) ∙ stays v ne (other v))
        (λ e. absurd (omega arith));
  }
    where
      stays : (v : ℕ) → (v ≡ hi → ⊥) → (v ≡ hi) ⊎ (new v ≡ v) → new v ≡ v
      stays v ne (inl e) = absurd (ne e)
      stays v ne (inr e) = e

-- what one more pair makes of a least member
module _ (a b : ℕ) where
  abbrev renew : ℕ → ℕ
  renew l = cond (eqb l a || eqb l b) (min a b) l

  renew_a : renew a ≡ min a b
  renew_a = rw (eq-eqb a a refl)

  renew_b : renew b ≡ min a b
  renew_b = rw (eq-eqb b b refl) (go (eqb b a))
    where
      go : (c : Bool) → cond (c || true) (min a b) b ≡ min a b
      go true = refl
      go false = refl

  renew_other : (l : ℕ) → (l ≡ a) ⊎ ((l ≡ b) ⊎ (renew l ≡ l))
  renew_other l = go (eqb l a) (eqb l b) refl refl
    where
      go : (c d : Bool) → eqb l a ≡ c → eqb l b ≡ d → (l ≡ a) ⊎ ((l ≡ b) ⊎ (cond (c || d) (min a b) l ≡ l))
      go true d e k = inl (eqb-true l a e)
      go false true e k = inr (inl (eqb-true l b k))
      go false false e k = inr (inr refl)

  -- above the lesser, only the greater is renamed
  renew_above : a < b → (l : ℕ) → (l ≡ b) ⊎ (renew l ≡ l)
  renew_above h l = go (renew_other l)
    where
      go : (l ≡ a) ⊎ ((l ≡ b) ⊎ (renew l ≡ l)) → (l ≡ b) ⊎ (renew l ≡ l)
      go (inl e) = inr (ap renew e ∙ omega (arith, renew_a))
      go (inr k) = k

  renew_below : b < a → (l : ℕ) → (l ≡ a) ⊎ (renew l ≡ l)
  renew_below h l = go (renew_other l)
    where
      go : (l ≡ a) ⊎ ((l ≡ b) ⊎ (renew l ≡ l)) → (l ≡ a) ⊎ (renew l ≡ l)
      go (inl e) = inl e
      go (inr (inl e)) = inr (ap renew e ∙ omega (arith, renew_b))
      go (inr (inr e)) = inr e

  renew_same : a ≡ b → (l : ℕ) → renew l ≡ l
  renew_same h l = go (renew_other l)
    where
      go : (l ≡ a) ⊎ ((l ≡ b) ⊎ (renew l ≡ l)) → renew l ≡ l
      go (inl e) = ap renew e ∙ omega (arith, renew_a)
      go (inr (inl e)) = ap renew e ∙ omega (arith, renew_b)
      go (inr (inr e)) = e

-- r was found for v, then s for w
module _ (n : ℕ) (W X Y : List ℕ) (v w r s : ℕ) (p : Found n W X v r) (q : Found n X Y w s) (hv : v < n) (hw : w < n) (room : n ≤ length Y) where
  -- both are least members of the old table
  both : (table : List ℕ) → Forest n table W
      → (r ≡ get_or table v 0) × (get_or table r 0 ≡ r) × (s ≡ get_or table w 0) × (get_or table s 0 ≡ s) × Forest n table Y
  both table f =
      let g = p.keeps table f in
      ((p.leader table f).0, (p.leader table f).1, (q.leader table g).0, (q.leader table g).1, q.keeps table g)

  -- the table of one more pair, by the two found
  named : (table : List ℕ) → r ≡ get_or table v 0 → s ≡ get_or table w 0 → map (renew r s) table ≡ united (v, w) table
  named table e k = (λ i. map (renew (e i) (k i)) table)

  pub join_less : r < s → Joins n W (set Y s r) v w
  join_less h = record {
    falls = set_falls n Y room s r (omega (arith, q.low)) q.falls (omega arith);
    unites = λ table f.
        let k = both table f in
        subst (λ (t : List ℕ). Forest n t (set Y s r)) (named table k.0 k.2)
        (hang n table Y k.4 (renew r s) r s h (omega (arith, q.low)) room k.1 k.3 (omega (arith, renew_a r s)) (omega (arith, renew_b r s)) (renew_above r s h));
  }

  pub join_more : s < r → Joins n W (set Y r s) v w
  join_more h = record {
    falls = set_falls n Y room r s (omega (arith, p.low)) q.falls (omega arith);
    unites = λ table f.
        let k = both table f in
        subst (λ (t : List ℕ). Forest n t (set Y r s)) (named table k.0 k.2)
        (hang n table Y k.4 (renew r s) s r h (omega (arith, p.low)) room k.3 k.1 (omega (arith, renew_b r s)) (omega (arith, renew_a r s)) (renew_below r s h));
  }

  pub join_same : r ≡ s → Joins n W Y v w
  join_same h = record {
    falls = q.falls;
    unites = λ table f.
        let k = both table f in
        let same : table ≡ map (renew r s) table =
        ext_get_or 0 table (map (renew r s) table) (sym (length-map table (renew r s))) (λ i l. sym (get_d_map (renew r s) table i l ∙ renew_same r s h (get_or table i 0))) in
        subst (λ (t : List ℕ). Forest n t Y) (same ∙ named table k.0 k.2) k.4;
  }

-- ---- each node a class of its own

-- one node more
pub own_more : (W X : List ℕ) (k : ℕ) → k < length W → X ≡ set W k k → ((v : ℕ) → v < k → get_or W v 0 ≡ v) → (v : ℕ) → v < k + 1 → get_or X v 0 ≡ v
own_more W X k room e own v h = ap (λ (l : List ℕ). get_or l v 0) e ∙ each (k + 1) W (omega arith) k k (omega arith) (λ v w. w ≡ v) (λ v l ne. own v (omega arith)) refl v h

pub range_forest : (n : ℕ) (W : List ℕ) → ((v : ℕ) → v < n → get_or W v 0 ≡ v) → Forest n (range 0 n) W
range_forest n W word = record {
  long = length_range 0 n;
  falls = record { low = λ v h. omega (arith, word v h) };
  class = λ v h. ap (λ (k : ℕ). get_or (range 0 n) k 0) (word v h);
  top = λ v h e. omega (arith, get_d_range 0 n v h);
}

-- ---- the pass that leaves the least members

pub flat_start : (n : ℕ) (W : List ℕ) → Falls n W → Flattened n W W 0
flat_start n W f = record {
  falls = f;
  done = λ table k u l. absurd (omega arith);
  rest = λ u l h. refl;
}

module _ (n : ℕ) (W X : List ℕ) (k : ℕ) (c : Flattened n W X k) (room : n ≤ length X) (inside : k < n) (p q : ℕ) (ep : p ≡ get_or X k 0) (eq : q ≡ get_or X p 0) where
  pub flat_low : p ≤ k
  flat_low = omega (arith, c.falls.low k inside)

  pub flat_turn : Flattened n W (set X k q) (k + 1)
  flat_turn = record {
    falls = set_falls n X room k q inside c.falls (omega (arith, flat_low, c.falls.low p (omega (arith, flat_low))));
    done = λ table f u l. each n X room k q inside (λ u w. u < k + 1 → w ≡ get_or table u 0) (λ u h ne l. c.done table f u (omega arith)) (λ l. here table f (eqb p k) refl) u (omega arith) l;
    rest = λ u l h. each n X room k q inside (λ u w. k + 1 ≤ u → w ≡ get_or W u 0) (λ u h ne l. c.rest u (omega arith) h) (λ l. absurd (omega arith)) u h l;
  }
    where
      old : p ≡ get_or W k 0
      old = ep ∙ c.rest k (omega arith) inside

      here : (table : List ℕ) → Forest n table W → (d : Bool) → eqb p k ≡ d → q ≡ get_or table k 0
      here table f true e =
          let s : p ≡ k = eqb-true p k e in
          let t : get_or table k 0 ≡ k = f.top k inside (sym old ∙ s) in
          eq ∙ ap (λ (i : ℕ). get_or X i 0) s ∙ sym ep ∙ s ∙ sym t
      here table f false e =
          let ne : p ≡ k → ⊥ = eqb-false p k e in
          eq ∙ c.done table f p (omega (arith, flat_low)) ∙ ap (λ (i : ℕ). get_or table i 0) old ∙ f.class k inside

pub flat_done : (n : ℕ) (W X : List ℕ) → Flattened n W X n → (table : List ℕ) → Forest n table W → Tabled n table X
flat_done n W X c table f = record { long = f.long; is = c.done table f }
