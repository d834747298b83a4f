-- The loop, laid one vertex after the other where halves have waited.
-- Assumes nothing.
use mathlib.Core.Path.{◌≡◌, refl, sym, ap, ◌∙◌, subst}
use mathlib.Core.Bool.{Bool, true, false, ◌&&◌, cond, not}
use mathlib.Core.List.Memᴰ
use mathlib.Core.List.{List, [], ◌∷◌, ◌++◌}
use mathlib.Core.Logic.{◌⊎◌, inl, inr, ◌≢◌}
use Prim.Native.Nat.{ℕ, zero, suc, ◌+◌, ◌*◌, ◌≤◌, ◌<◌}
use native.Mathlib.Nat.{le_refl}
use native.Mathlib.Numerals.{add-one}
use native.Mathlib.Decide.{ℕ_discrete}
use native.Mathlib.Omega.{arith}
use lib.Dec.{T, eqb, eqb→eq, eqb_refl, ltb}
use lib.ListN.{length, get_or, set, take, length-set}
use lib.Seq.{get_or-set_same, get_or-set_other, take-suc, take_all}
use borrow.Author.Tests.{ltb-true}
use Rattle.le.specs.Le.{Outside}
use Rattle.choice.specs.Arcs.{In}
use Rattle.choice.specs.Loop.{since}
use Rattle.tables.specs.Tables.{most_vertices, waiting_at, picked_at}
use Rattle.removal.specs.Room.{Source, part, list_in, Lists}
use Rattle.removal.proofs.Tables.{part_ext, part_snoc, list_same}
use Rattle.removal.proofs.Walks.{in_get_d}
use Rattle.loops.specs.Walk.{live_in, lower_live, lowest_live, vertices_of, next_in, Moves, Looping, LaidTo, LaidIn}

-- ---- moves

module _ (next : ℕ → ℕ) where
  pub moves_on : (u : ℕ) (zs : List ℕ) (w : ℕ) → Moves next u zs w → (i : ℕ) → i < length zs → next (get_or (u ∷ zs) i 0) ≡ get_or (u ∷ zs) (suc i) 0
  moves_on u [] w m i l = absurd (omega arith)
  moves_on u (x ∷ zs) w m zero l = m.0
  moves_on u (x ∷ zs) w m (suc i) l = moves_on x zs w m.1 i (omega arith)

  pub moves_last : (u : ℕ) (zs : List ℕ) (w : ℕ) → Moves next u zs w → next (get_or (u ∷ zs) (length zs) 0) ≡ w
  moves_last u [] w m = m
  moves_last u (x ∷ zs) w m = moves_last x zs w m.1

  -- moves that lead to one of their vertices lead from there back to it
  pub since_moves : (v : ℕ) (ys : List ℕ) (w : ℕ) → Moves next v ys w → In w (v ∷ ys) → (zs : List ℕ) × (since w (v ∷ ys) ≡ w ∷ zs) × Moves next w zs w
  unfolding since
  since_moves v [] w m i = go (eqb w v) refl (Memᴰ.cases_cons i)
    where
      go : (b : Bool) → eqb w v ≡ b → (w ≡ v) ⊎ In w [] → (zs : List ℕ) × (cond b (v ∷ []) [] ≡ w ∷ zs) × Moves next w zs w
      go true q o =
          let e : w ≡ v = eqb→eq w v (subst T (sym q) tt) in
          ([], (λ i. sym e i ∷ []), subst (λ (x : ℕ). next x ≡ w) (sym e) m)
      go false q (inl e) = absurd (subst T q (subst (λ (x : ℕ). T (eqb w x)) e (eqb_refl w)))
      go false q (inr n) = absurd (Memᴰ.not-nil n)
  since_moves v (y ∷ ys) w m i = go (eqb w v) refl (Memᴰ.cases_cons i) (since_moves y ys w m.1)
    where
      go : (b : Bool) → eqb w v ≡ b → (w ≡ v) ⊎ In w (y ∷ ys) → (In w (y ∷ ys) → (zs : List ℕ) × (since w (y ∷ ys) ≡ w ∷ zs) × Moves next w zs w)
          → (zs : List ℕ) × (cond b (v ∷ y ∷ ys) (since w (y ∷ ys)) ≡ w ∷ zs) × Moves next w zs w
      go true q o r =
          let e : w ≡ v = eqb→eq w v (subst T (sym q) tt) in
          (y ∷ ys, (λ i. sym e i ∷ y ∷ ys), subst (λ (x : ℕ). Moves next x (y ∷ ys) w) (sym e) m)
      go false q (inl e) r = absurd (subst T q (subst (λ (x : ℕ). T (eqb w x)) e (eqb_refl w)))
      go false q (inr n) r = r n

-- ---- where the walk goes is told by what lies before the waiting list

lower_same : (W X : List ℕ) → ((i : ℕ) → i < waiting_at → get_or X i 0 ≡ get_or W i 0) → (best v : ℕ) → best ≤ most_vertices → lower_live X best v ≡ lower_live W best v
unfolding lower_live
lower_same W X same best v few = go (ltb v best) refl
  where
    go : (b : Bool) → ltb v best ≡ b → cond (b && live_in X v) v best ≡ cond (b && live_in W v) v best
    go true e = ap (λ (d : ℕ). cond (not (eqb d 0)) v best) (same (2 * v) (omega (arith, ltb-true v best e)))
    go false e = refl

lower_few : (W : List ℕ) (best v : ℕ) → lower_live W best v ≤ best
unfolding lower_live
lower_few W best v = go (ltb v best) (live_in W v) refl
  where
    go : (a b : Bool) → ltb v best ≡ a → cond (a && b) v best ≤ best
    go true true e = omega (arith, ltb-true v best e)
    go true false e = le_refl best
    go false b e = le_refl best

lowest_same : (W X : List ℕ) → ((i : ℕ) → i < waiting_at → get_or X i 0 ≡ get_or W i 0) → (best : ℕ) (vs : List ℕ) → best ≤ most_vertices
    → lowest_live X best vs ≡ lowest_live W best vs
unfolding lowest_live
lowest_same W X same best [] few = refl
lowest_same W X same best (v ∷ vs) few =
    ap (λ (b : ℕ). lowest_live X b vs) (lower_same W X same best v few) ∙ lowest_same W X same (lower_live W best v) vs (omega (arith, lower_few W best v))

-- W and X differ only where halves have waited
abbrev pub Beside : List ℕ → List ℕ → Type 0
Beside W X = Outside waiting_at (waiting_at + most_vertices) W X

pub next_same : (s : Source) (W X : List ℕ) (nodes n v : ℕ) → Beside W X → picked_at ≤ length W → n ≤ most_vertices → v < n → Lists s W nodes n
    → next_in s X nodes v ≡ next_in s W nodes v
unfolding next_in
next_same s W X nodes n v f long few low lists =
    lowest_same W X (λ i l. f.same i (inl l)) most_vertices (vertices_of (list_in s X nodes (2 * v))) (le_refl most_vertices)
    ∙ ap (λ (ys : List ℕ). lowest_live W most_vertices (vertices_of ys))
    (list_same s W X nodes (2 * v) (omega arith) f.long (λ i a b. f.same i (inl b)) (omega arith) (lists.room_inside (2 * v)))

-- ---- the loop

module _ (s : Source) (W : List ℕ) (nodes w : ℕ) (u : Looping s W nodes w) where
  abbrev ring : List ℕ
  ring = w ∷ u.others

  pub laid_start : (X : List ℕ) → LaidTo X (w ∷ u.others) w 0
  unfolding part
  laid_start X = record { more = omega arith; is = refl; put = refl }

  module _ (X : List ℕ) (v k : ℕ) (long : picked_at ≤ length X) (l : LaidTo X (w ∷ u.others) v k) where
    -- the vertex that comes next is one of the loop
    pub laid_in : In v (w ∷ u.others)
    laid_in = Memᴰ.cast l.is (in_get_d ring k l.more)

    pub laid_low : v < u.n
    laid_low = u.low v laid_in

    pub laid_few : k < most_vertices
    laid_few = omega (arith, l.more, u.short)

    -- it is put behind the others
    laid_put : part (set X (waiting_at + k) v) waiting_at (k + 1) ≡ take (k + 1) ring
    laid_put =
        part_snoc (set X (waiting_at + k) v) waiting_at k (omega (arith, length-set X (waiting_at + k) v, laid_few))
        ∙ (λ i. before i ++ (here i ∷ []))
        ∙ sym (rw add-one (take-suc ring k 0 l.more))
      where
        before : part (set X (waiting_at + k) v) waiting_at k ≡ take k ring
        before =
            part_ext X (set X (waiting_at + k) v) waiting_at k (length-set X (waiting_at + k) v) (omega (arith, laid_few))
            (λ i m. get_or-set_other X (waiting_at + k) (waiting_at + i) v 0 (λ e. omega arith))
            ∙ l.put

        here : get_or (set X (waiting_at + k) v) (waiting_at + k) 0 ≡ get_or ring k 0
        here = get_or-set_same X (waiting_at + k) v 0 (omega (arith, laid_few)) ∙ l.is

    -- and then the walk goes on
    module _ (x : ℕ) (is : x ≡ next_in s W nodes v) where
      from_k : x ≡ next_in s W nodes (get_or ring k 0)
      from_k = is ∙ ap (next_in s W nodes) l.is

      pub laid_next : x ≢ w → LaidTo (set X (waiting_at + k) v) (w ∷ u.others) x (k + 1)
      laid_next n = record {
        more = omega (arith, not_last);
        is = from_k ∙ moves_on (next_in s W nodes) w u.others w u.moves k not_last ∙ ap (λ (j : ℕ). get_or ring j 0) (sym (add-one k));
        put = laid_put;
      }
        where
          not_last : k < length u.others
          not_last = go (ℕ_discrete k (length u.others))
            where
              go : Dec (k ≡ length u.others) → k < length u.others
              go (yes e) = absurd (n (from_k ∙ ap (λ (j : ℕ). next_in s W nodes (get_or ring j 0)) e ∙ moves_last (next_in s W nodes) w u.others w u.moves))
              go (no d) = omega (arith, l.more)

      pub laid_done : x ≡ w → LaidIn (set X (waiting_at + k) v) (w ∷ u.others) (k + 1)
      laid_done e = record { count = last; put = laid_put ∙ take_all (k + 1) ring (omega (arith, last)) }
        where
          last : k + 1 ≡ length ring
          last = go (ℕ_discrete k (length u.others))
            where
              go : Dec (k ≡ length u.others) → k + 1 ≡ length ring
              go (yes q) = omega arith
              go (no d) =
                  let m : k < length u.others = omega (arith, l.more) in
                  absurd (u.once.0 (Memᴰ.cast (sym e ∙ from_k ∙ moves_on (next_in s W nodes) w u.others w u.moves k m) (in_get_d u.others k m)))
