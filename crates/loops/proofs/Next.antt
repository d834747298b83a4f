-- Where the walk goes: the lowest live vertex of a list; and in a room that tells a core, the vertex that the definition goes to.
-- Assumes nothing.
use mathlib.Core.Path.{◌≡◌, refl, sym, ap, ◌∙◌, subst}
use mathlib.Core.Bool.{Bool, true, false, ◌&&◌, cond}
use mathlib.Core.List.Memᴰ
use mathlib.Core.List.{List, [], ◌∷◌, ◌++◌, map}
use mathlib.Core.Logic.{◌⊎◌, inl, inr, ◌≢◌}
use Prim.Native.Nat.{ℕ, ◌+◌, ◌*◌, ◌/◌, ◌%◌, ◌≤◌, ◌<◌}
use native.Mathlib.Nat.{le_refl}
use native.Mathlib.Decide.{ℕ_discrete}
use native.Mathlib.Omega.{arith}
use lib.Dec.{T, eqb, eqb→eq, eqb_refl, ltb}
use lib.ListN.{length, get_or}
use borrow.Author.Tests.{ltb-true, ltb-false, lt-ltb, le-ltb, eq-eqb, ne_eqb}
use Rattle.le.specs.Rows.{entry, span}
use Rattle.le.specs.declared.Row.{Row}
use Rattle.le.proofs.Rows.{span_next}
use Rattle.choice.specs.Arcs.{Arc, arc, In, Leads, Set, has}
use Rattle.choice.specs.Degrees.{between}
use Rattle.choice.specs.Loop.{onward, Lowest}
use Rattle.choice.proofs.Core.{out_some}
use Rattle.choice.proofs.Sets.{and_left, and_right, both, has_lt, how_many_some, how_many_in}
use Rattle.choice.proofs.Walks.{lowest_only, onward_lowest}
use Rattle.halves.specs.Halves.{vertex, joins, times, Listed}
use Rattle.tables.specs.Tables.{most_vertices, entries_at}
use Rattle.removal.specs.Room.{Source, part, start_of, count_of, room_list, form_list, list_in}
use Rattle.removal.proofs.Peeling.{list_room_lem, list_form}
use Rattle.removal.proofs.Tables.{part_snoc}
use Rattle.loops.specs.Walk.{live_in, lower_live, lowest_live, vertices_of, next_in, Told}

-- ---- the lowest of a list

-- r is the lowest live one of a list, or best where none is lower
record LowestOf (W : List ℕ) (best : ℕ) (vs : List ℕ) (r : ℕ) : Type 0 where
  few : r ≤ best
  either : (r ≡ best) ⊎ (In r vs × T (live_in W r))
  least : (x : ℕ) → In x vs → T (live_in W x) → r ≤ x

lowest_of : (W : List ℕ) (best : ℕ) (vs : List ℕ) → LowestOf W best vs (lowest_live W best vs)
unfolding lowest_live lower_live
lowest_of W best [] = record { few = le_refl best; either = inl refl; least = λ x m t. absurd (Memᴰ.not-nil m) }
lowest_of W best (v ∷ vs) = go (ltb v best) (live_in W v) refl refl (lowest_of W (cond (ltb v best && live_in W v) v best) vs)
  where
    tail : (r : ℕ) → In r vs × T (live_in W r) → In r (v ∷ vs) × T (live_in W r)
    tail r h = (Memᴰ.tail h.0, h.1)

    taken : (r : ℕ) → live_in W v ≡ true → (r ≡ v) ⊎ (In r vs × T (live_in W r)) → In r (v ∷ vs) × T (live_in W r)
    taken r e (inl q) = (Memᴰ.head q, subst T (sym (ap (live_in W) q ∙ e)) tt)
    taken r e (inr h) = tail r h

    kept : (r : ℕ) → (r ≡ best) ⊎ (In r vs × T (live_in W r)) → (r ≡ best) ⊎ (In r (v ∷ vs) × T (live_in W r))
    kept r (inl q) = inl q
    kept r (inr h) = inr (tail r h)

    at : (r x : ℕ) → ((x ≡ v) → r ≤ v) → (In x vs → r ≤ x) → (x ≡ v) ⊎ In x vs → r ≤ x
    at r x f g (inl q) = omega (arith, f q)
    at r x f g (inr m) = g m

    go : (a b : Bool) → ltb v best ≡ a → live_in W v ≡ b → LowestOf W (cond (a && b) v best) vs (lowest_live W (cond (a && b) v best) vs)
        → LowestOf W best (v ∷ vs) (lowest_live W (cond (a && b) v best) vs)
    go true true e f h = record {
      few = omega (arith, ltb-true v best e, h.few);
      either = inr (taken _ f h.either);
      least = λ x m t. at _ x (λ q. h.few) (λ k. h.least x k t) (Memᴰ.cases_cons m);
    }
    go true false e f h = record {
      few = h.few;
      either = kept _ h.either;
      least = λ x m t. at _ x (λ q. absurd (subst T (ap (live_in W) q ∙ f) t)) (λ k. h.least x k t) (Memᴰ.cases_cons m);
    }
    go false b e f h = record {
      few = h.few;
      either = kept _ h.either;
      least = λ x m t. at _ x (λ q. omega (arith, h.few, ltb-false v best e)) (λ k. h.least x k t) (Memᴰ.cases_cons m);
    }

pub lowest_few : (W : List ℕ) (best : ℕ) (vs : List ℕ) → lowest_live W best vs ≤ best
lowest_few W best vs = (lowest_of W best vs).few

-- one more of a list
pub lowest_snoc : (W : List ℕ) (best : ℕ) (vs : List ℕ) (v : ℕ) → lowest_live W best (vs ++ (v ∷ [])) ≡ lower_live W (lowest_live W best vs) v
unfolding lowest_live
lowest_snoc W best [] v = refl
lowest_snoc W best (x ∷ vs) v = lowest_snoc W (lower_live W best x) vs v

-- v is not lower, has gone, or is taken
pub lower_kept : (W : List ℕ) (best v : ℕ) → best ≤ v → best ≡ lower_live W best v
unfolding lower_live
lower_kept W best v l = rw (le-ltb v best l)

pub lower_gone : (W : List ℕ) (best v : ℕ) → get_or W (2 * v) 0 ≡ 0 → best ≡ lower_live W best v
unfolding lower_live
lower_gone W best v z = rw (eq-eqb (get_or W (2 * v) 0) 0 z) (go (ltb v best))
  where
    go : (b : Bool) → best ≡ cond (b && false) v best
    go true = refl
    go false = refl

pub lower_taken : (W : List ℕ) (best v : ℕ) → v < best → get_or W (2 * v) 0 ≢ 0 → v ≡ lower_live W best v
unfolding lower_live
lower_taken W best v l n = rw (lt-ltb v best l, ne_eqb (get_or W (2 * v) 0) 0 n)

-- one more has gone
pub all_before : (W : List ℕ) (v : ℕ) → ((u : ℕ) → u < v → get_or W (2 * u) 0 ≡ 0) → get_or W (2 * v) 0 ≡ 0 → (u : ℕ) → u < v + 1 → get_or W (2 * u) 0 ≡ 0
all_before W v h z u l = go (ℕ_discrete u v)
  where
    go : Dec (u ≡ v) → get_or W (2 * u) 0 ≡ 0
    go (yes e) = ap (λ (x : ℕ). get_or W (2 * x) 0) e ∙ z
    go (no n) = h u (omega arith)

-- ---- a list in the room, and one in the form, one entry after the other

vertices_snoc : (ys : List ℕ) (y : ℕ) → vertices_of (ys ++ (y ∷ [])) ≡ vertices_of ys ++ (vertex y ∷ [])
vertices_snoc [] y = refl
vertices_snoc (x ∷ ys) y = ap (◌∷◌ (vertex x)) (vertices_snoc ys y)

pub listed_none : (W : List ℕ) (start : ℕ) → most_vertices ≡ lowest_live W most_vertices (vertices_of (room_list W start 0))
unfolding room_list part lowest_live
listed_none W start = refl

pub listed_more : (W : List ℕ) (start j : ℕ) → entries_at + start + j < length W
    → lower_live W (lowest_live W most_vertices (vertices_of (room_list W start j))) (vertex (get_or W (entries_at + start + j) 0)) ≡ lowest_live W most_vertices (vertices_of (room_list W start (j + 1)))
unfolding room_list
listed_more W start j l =
    sym (ap (λ (ys : List ℕ). lowest_live W most_vertices (vertices_of ys)) (part_snoc W (entries_at + start) j l)
    ∙ ap (lowest_live W most_vertices) (vertices_snoc (part W (entries_at + start) j) (get_or W (entries_at + start + j) 0))
    ∙ lowest_snoc W most_vertices (vertices_of (part W (entries_at + start) j)) (vertex (get_or W (entries_at + start + j) 0)))

pub formed_none : (W b : List ℕ) (r : Row) (start : ℕ) → most_vertices ≡ lowest_live W most_vertices (span b r start 0)
unfolding span lowest_live
formed_none W b r start = refl

pub formed_more : (W b : List ℕ) (r : Row) (start j : ℕ)
    → lower_live W (lowest_live W most_vertices (span b r start j)) (entry b r (start + j)) ≡ lowest_live W most_vertices (span b r start (j + 1))
formed_more W b r start j =
    sym (ap (lowest_live W most_vertices) (span_next b r start j) ∙ lowest_snoc W most_vertices (span b r start j) (entry b r (start + j)))

-- ---- the list of a vertex's half

module _ (arcs : List Arc) (n : ℕ) (lists : ℕ → List ℕ) (listed : Listed arcs n lists) (v : ℕ) (low : v < n) where
  joins_out : (t : ℕ) → times t (lists (2 * v)) ≡ cond (eqb 0 (t % 2)) (between arcs v (vertex t)) 0
  unfolding joins
  joins_out t =
      let even : (2 * v) % 2 ≡ 0 = omega arith in
      let own : (2 * v) / 2 ≡ v = omega arith in
      listed.right (2 * v) t (omega arith) ∙ rw (even, own)

  leads_of_between : (x : ℕ) → 0 < between arcs v x → Leads arcs v x
  unfolding between
  leads_of_between x h =
      let w = how_many_some (λ a. eqb a.to x && eqb a.from v) arcs h in
      let a : Arc = w.0 in
      let e : a.to ≡ x = eqb→eq a.to x (and_left (eqb a.to x) (eqb a.from v) w.2) in
      let f : a.from ≡ v = eqb→eq a.from v (and_right (eqb a.to x) (eqb a.from v) w.2) in
      Memᴰ.cast (λ i. arc (sym f i) (sym e i)) w.1

  between_of_leads : (x : ℕ) → Leads arcs v x → 0 < between arcs v x
  unfolding between
  between_of_leads x j = how_many_in (λ a. eqb a.to x && eqb a.from v) j (both (eqb x x) (eqb v v) (eqb_refl x) (eqb_refl v))

  -- each vertex in it is one that v leads to
  pub listed_leads : (x : ℕ) → In x (vertices_of (lists (2 * v))) → Leads arcs v x × (x < n)
  listed_leads x m = (
    leads_of_between x (subst (λ (y : ℕ). 0 < between arcs v y) w.2 (go (eqb 0 (w.0 % 2)) (subst (λ (k : ℕ). 0 < k) (joins_out w.0) often))),
    omega (arith, w.2, listed.low (2 * v) w.0 (omega arith) w.1),
  )
    where
      w : (t : ℕ) × In t (lists (2 * v)) × (vertex t ≡ x)
      w = Memᴰ.of_map vertex (lists (2 * v)) m

      often : 0 < times w.0 (lists (2 * v))
      often = how_many_in (λ t. eqb t w.0) w.1 (eqb_refl w.0)

      go : (b : Bool) → 0 < cond b (between arcs v (vertex w.0)) 0 → 0 < between arcs v (vertex w.0)
      go true h = h
      go false h = absurd (omega arith)

  -- and all that v leads to are in it
  pub leads_listed : (x : ℕ) → Leads arcs v x → In x (vertices_of (lists (2 * v)))
  leads_listed x j =
      let even : (2 * x) % 2 ≡ 0 = omega arith in
      let own : (2 * x) / 2 ≡ x = omega arith in
      let often : times (2 * x) (lists (2 * v)) ≡ between arcs v x = joins_out (2 * x) ∙ rw (even, own) in
      let w = how_many_some (λ t. eqb t (2 * x)) (lists (2 * v)) (omega (arith, often, between_of_leads x j)) in
      Memᴰ.cast (sym own ∙ ap vertex (sym (eqb→eq w.0 (2 * x) w.2))) (Memᴰ.map vertex w.1)

-- ---- in a room that tells a core

module _ (s : Source) (W : List ℕ) (nodes n : ℕ) (arcs : List Arc) (C : Set) (told : Told s W nodes n arcs C) where
  pub core_low : (v : ℕ) → T (has C v) → v < n
  core_low v t = omega (arith, has_lt C v t, told.long)

  -- the walk goes to the lowest vertex of the core that v leads to
  pub next_lowest : (v : ℕ) → T (has C v) → Lowest C (Leads arcs v) (next_in s W nodes v)
  unfolding next_in
  next_lowest v t = go h.either
    where
      vs : List ℕ
      vs = vertices_of (list_in s W nodes (2 * v))

      r : ℕ
      r = lowest_live W most_vertices vs

      h : LowestOf W most_vertices vs r
      h = lowest_of W most_vertices vs

      low : v < n
      low = core_low v t

      least : (u : ℕ) → T (has C u) → Leads arcs v u → r ≤ u
      least u i j = h.least u (leads_listed arcs n (list_in s W nodes) told.listed v low u j) (subst T (told.live u (core_low u i)) i)

      go : (r ≡ most_vertices) ⊎ (In r vs × T (live_in W r)) → Lowest C (Leads arcs v) r
      go (inl e) =
          let o = out_some arcs C v (told.stable v t).1 in
          absurd (omega (arith, least o.0 o.1 o.2, e, core_low o.0 o.1, told.few))
      go (inr m) =
          let l = listed_leads arcs n (list_in s W nodes) told.listed v low r m.0 in
          record { inside = subst T (sym (told.live r l.1)) m.1; passes = l.0; least = least }

  -- as the definition does
  pub next_onward : (v : ℕ) → T (has C v) → next_in s W nodes v ≡ onward arcs C v
  next_onward v t = lowest_only C (Leads arcs v) (next_in s W nodes v) (onward arcs C v) (next_lowest v t) (onward_lowest arcs C told.stable v t)

-- ---- by the kinds of lists

pub next_of_node : (s : Source) (W : List ℕ) (nodes v : ℕ) → v < nodes
    → next_in s W nodes v ≡ lowest_live W most_vertices (vertices_of (room_list W (start_of W (2 * v)) (count_of W (2 * v))))
unfolding next_in
next_of_node s W nodes v l = ap (λ (ys : List ℕ). lowest_live W most_vertices (vertices_of ys)) (list_room_lem s W nodes (2 * v) (omega arith))

halved : (side : ℕ) (ids : List ℕ) → side ≡ 0 → map vertex (map (λ id. 2 * id + side) ids) ≡ ids
halved side [] e = refl
halved side (x ∷ ids) e =
    let own : (2 * x + side) / 2 ≡ x = omega arith in
    (λ i. own i ∷ halved side ids e i)

pub next_of_edge : (s : Source) (W : List ℕ) (nodes v : ℕ) → nodes ≤ v
    → next_in s W nodes v ≡ lowest_live W most_vertices (span s.bytes s.row (start_of W (2 * v)) (count_of W (2 * v)))
unfolding next_in form_list
next_of_edge s W nodes v l =
    ap (lowest_live W most_vertices)
    (ap vertices_of (list_form s W nodes (2 * v) (omega arith)) ∙ halved ((2 * v) % 2) (span s.bytes s.row (start_of W (2 * v)) (count_of W (2 * v))) (omega arith))
