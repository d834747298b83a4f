-- The first free removal: what was built is seeded and peeled, as the model does; what is left is the core, and all have gone exactly if there is no loop.
-- Assumes nothing.
use mathlib.Core.Path.{◌≡◌, refl, sym, ap, ◌∙◌, subst}
use mathlib.Core.Bool.{Bool, true, false, ◌&&◌, cond}
use mathlib.Core.List.Memᴰ
use mathlib.Core.List.{List, [], ◌∷◌}
use mathlib.Core.Logic.{◌≢◌, ◌⊎◌, inl, inr, ⊎_elim}
use Prim.Native.Nat.{ℕ, ◌+◌, ◌-◌, ◌*◌, ◌%◌, ◌≤◌, ◌<◌}
use native.Mathlib.Nat.{sub-zero, eq-zero-or-pos}
use native.Mathlib.Decide.{ℕ_discrete}
use native.Mathlib.Omega.{arith}
use lib.Dec.{T, eqb}
use lib.ListN.{length, get_or, take}
use lib.Seq.{get_or-take, length-take-le}
use borrow.Author.Tests.{eqb-true, eqb-false, eq-eqb, ne_eqb}
use Rattle.queue.specs.Keys.{radix}
use Rattle.graph.specs.Graph.{Graph, Proper, ports}
use Rattle.choice.specs.Arcs.{Arc, In, bump, Set, Stable, has, vertices, size, into, out}
use Rattle.choice.specs.Choice.{core}
use Rattle.choice.specs.Degrees.{Frees}
use Rattle.choice.specs.Drawing.{arcs, vertex_count, no_loop}
use Rattle.choice.specs.Promises.{Bounded}
use Rattle.choice.proofs.Degrees.{both_degrees}
use Rattle.choice.proofs.Fits.{fits_apart, proper_fits, proper_bounded}
use Rattle.choice.proofs.Scores.{length_arcs}
use Rattle.choice.proofs.Sets.{size_vertices, size_some, has_lt, and_left}
use Rattle.choice.proofs.Sofar.{frees_size, frees_core}
use Rattle.halves.specs.Halves.{vertex, mate, waits, within, Halves, Listed, Between, Ready, Seeding, seed_to, peel_from}
use Rattle.halves.proofs.Leaving.{bump_true, nil_times, all_stable}
use Rattle.halves.proofs.Lists.{count_cons, pos_of}
use Rattle.halves.proofs.Sums.{bump_plus}
use Rattle.halves.proofs.Start.{seeding_start, seeded, seeding_done}
use Rattle.halves.proofs.Whole.{Peeled, first_peeled, still}
use Rattle.form.specs.Drawn.{graph_in}
use Rattle.form.specs.declared.Drawing.{Drawing}
use Rattle.form.proofs.Drawn.{stored_in}
use Rattle.tables.specs.Tables.{most_nodes, most_vertices, most_ports, waiting_at, picked_at}
use Rattle.removal.specs.Room.{Source, part, halves_in, list_in, Roomy, Went, Lists}
use Rattle.removal.proofs.Tables.{part_length, list_steady}
use Rattle.removal.proofs.Peeling.{lists_steady}
use Rattle.removal.proofs.Picking.{roomy_peel}
use Rattle.incidence.specs.Incidence.{neighbours, Built}
use Rattle.incidence.proofs.Facts.{facts}
use Rattle.incidence.proofs.Whole.{listed, degrees_within}
use Rattle.cycle.specs.Next.{degrees_in}
use Rattle.cycle.specs.Stage.{AllSmall}
use Rattle.cycle.specs.Begin.{First}

in_waits : (y : ℕ) (q : List ℕ) → In y q → 0 < waits (vertex y) q
in_waits y [] m = absurd (Memᴰ.not-nil m)
in_waits y (x ∷ q) m =
    let p : ℕ → Bool = λ z. eqb (vertex z) (vertex y) in
    ⊎_elim (λ e. omega (arith, count_cons p x q, ap (λ (t : Bool). bump t (waits (vertex y) q)) (eq-eqb (vertex x) (vertex y) (ap vertex (sym e)))))
    (λ k. omega (arith, count_cons p x q, in_waits y q k, bump_plus (p x) (waits (vertex y) q))) (Memᴰ.cases_cons m)

-- the two halves of a vertex are its arcs in and its arcs out
within_both : (arcs : List Arc) (S : Set) (y : ℕ) → within arcs S y + within arcs S (mate y) ≡ into arcs S (vertex y) + out arcs S (vertex y)
unfolding within
within_both arcs S y = go (eqb (y % 2) 0) refl
  where
    go : (t : Bool) → eqb (y % 2) 0 ≡ t
        → cond (eqb (y % 2) 0) (into arcs S (vertex y)) (out arcs S (vertex y)) + cond (eqb (mate y % 2) 0) (into arcs S (vertex (mate y))) (out arcs S (vertex (mate y)))
        ≡ into arcs S (vertex y) + out arcs S (vertex y)
    go true e =
        let even = eqb-true (y % 2) 0 e in
        let same : vertex (mate y) ≡ vertex y = omega arith in
        rw (e, ne_eqb (mate y % 2) 0 (λ q. omega arith), same)
    go false e =
        let odd = eqb-false (y % 2) 0 e in
        let one : y % 2 ≡ 1 = omega arith in
        let same : vertex (mate y) ≡ vertex y = omega arith in
        rw (e, eq-eqb (mate y % 2) 0 (omega arith), same) (omega arith)

-- there is room for all vertices to wait
pub all_roomy : (arcs : List Arc) (n : ℕ) (h : Halves) (ts : List ℕ) → Between arcs n (vertices n) h.degrees h.waiting ts → Roomy n h
all_roomy arcs n h ts b = record {
  long = b.long;
  paired = b.paired;
  room = omega (arith, b.number, size_vertices n);
  low = λ y m.
      let t = bump_true (has (vertices n) (vertex y) && eqb (get_or h.degrees (2 * vertex y) 0) 0) (omega (arith, b.once (vertex y), in_waits y h.waiting m)) in
      omega (arith, has_lt (vertices n) (vertex y) (and_left (has (vertices n) (vertex y)) (eqb (get_or h.degrees (2 * vertex y) 0) 0) t), b.set_long);
}

-- how large a graph is: it has so many nodes, and n vertices in all
pub record Drawn (g : Graph) (nodes n : ℕ) : Type 0 where
  pub proper : Proper g
  pub nodes_is : nodes ≡ length g.labels
  pub n_is : n ≡ vertex_count g
  pub few_nodes : nodes ≤ most_nodes
  pub few : n ≤ most_vertices
  pub few_ports : ports g ≤ most_ports

-- a stored one
pub drawn : (d : Drawing) → Drawn (graph_in d) d.sizes.nodes (d.sizes.nodes + d.sizes.edges)
drawn d =
    let f = facts d in
    record {
      proper = (stored_in d).formed.proper;
      nodes_is = f.nodes;
      n_is = λ i. f.nodes i + f.edges i;
      few_nodes = omega (arith, f.nodes, f.few_nodes);
      few = omega (arith, f.few, f.nodes, f.edges);
      few_ports = f.few_ports;
    }

module _ (s : Source) (g : Graph) (nodes n : ℕ) (is_drawn : Drawn g nodes n) where
  proper : Proper g
  proper = is_drawn.proper

  nodes_is : nodes ≡ length g.labels
  nodes_is = is_drawn.nodes_is

  n_is : n ≡ vertex_count g
  n_is = is_drawn.n_is

  few : n ≤ most_vertices
  few = is_drawn.few

  pub bounded : Bounded (arcs g) n
  bounded = subst (Bounded (arcs g)) (sym is_drawn.n_is) (proper_bounded g is_drawn.proper)

  -- both halves of a vertex have no more arcs than there are ports
  few_within : (S : Set) (y : ℕ) → within (arcs g) S y + within (arcs g) S (mate y) ≤ most_ports
  few_within S y =
      let own = both_degrees (arcs g) S (vertex y) (fits_apart (length g.labels) (length g.edges) (arcs g) (proper_fits g proper)) in
      let many : length (arcs g) ≡ ports g = unfold arcs in length_arcs (length g.labels) g.edges in
      omega (arith, within_both (arcs g) S y, own, many, is_drawn.few_ports)

  -- where nothing waits, every degree is small: a live half has the arcs within what is left, and so has its mate
  pub small_still : (S : Set) (d : List ℕ) → Between (arcs g) n S d [] [] → AllSmall d
  small_still S d b y = go (eq-zero-or-pos (get_or d y 0))
    where
      right : (z : ℕ) → 0 < get_or d z 0 → get_or d z 0 ≡ within (arcs g) S z
      right z p = omega (arith, b.right z p, nil_times z)

      beside : 0 < get_or d y 0 → (get_or d (mate y) 0 ≡ 0) ⊎ (0 < get_or d (mate y) 0) → get_or d y 0 < radix
      beside p (inl z) =
          let twice : mate (mate y) ≡ y = omega arith in
          let none : get_or d y 0 ≡ 0 = subst (λ (x : ℕ). get_or d x 0 ≡ 0) twice (b.paired (mate y) z) in
          absurd (omega (arith, p, none))
      beside p (inr q) = omega (arith, right y p, right (mate y) q, few_within S y, q)

      go : (get_or d y 0 ≡ 0) ⊎ (0 < get_or d y 0) → get_or d y 0 < radix
      go (inl z) = omega arith
      go (inr p) = beside p (eq-zero-or-pos (get_or d (mate y) 0))

  module _ (W X Y : List ℕ) (long : picked_at ≤ length W) (built : Built s g W) (mid end : ℕ) (seeds : Went W X n mid (seed_to n (halves_in W n 0))) where
    lists_W : (y : ℕ) → y < 2 * n → list_in s W nodes y ≡ neighbours (arcs g) y
    lists_W y l = ap (λ (k : ℕ). list_in s W k y) nodes_is ∙ built.lists y (omega arith)

    inside_W : Lists s W nodes n
    inside_W = subst (λ (k : ℕ). Lists s W k n) (sym nodes_is) (subst (Lists s W (length g.labels)) (sym n_is) built.inside)

    less : nodes ≤ n
    less = omega arith

    abbrev h : Halves
    h = halves_in W n 0

    start : Seeding (arcs g) n [] 0 (halves_in W n 0).degrees (halves_in W n 0).waiting
    unfolding halves_in part
    start = seeding_start (arcs g) n [] (take (2 * n) W) (length-take-le (2 * n) W (omega arith))
        (λ y l. get_or-take (2 * n) W y 0 l ∙ built.degrees y (omega arith) ∙ omega (arith, degrees_within (arcs g) n bounded y, nil_times y))

    seeding : Seeding (arcs g) n [] n (seed_to n h).degrees (seed_to n h).waiting
    seeding = seeded (arcs g) n [] n h (omega arith) start

    state : Between (arcs g) n (vertices n) (seed_to n h).degrees (seed_to n h).waiting []
    state = seeding_done (arcs g) n [] (seed_to n h).degrees (seed_to n h).waiting seeding

    roomy : Roomy n (seed_to n h)
    roomy = all_roomy (arcs g) n (seed_to n h) [] state

    pub seeded_roomy : Roomy n (halves_in X n mid)
    seeded_roomy = subst (Roomy n) (sym seeds.is) roomy

    pub seeded_lists : Lists s X nodes n
    seeded_lists = lists_steady s W X nodes n few less long seeds.frame inside_W

    same_X : (y : ℕ) → y < 2 * n → list_in s X nodes y ≡ neighbours (arcs g) y
    same_X y l = list_steady s W X nodes y (omega arith) seeds.frame (omega arith) (inside_W.room_inside y) ∙ lists_W y l

    listed_X : Listed (arcs g) n (list_in s X nodes)
    listed_X = listed (arcs g) n bounded (list_in s X nodes) same_X

    pub first : Went X Y n end (peel_from (n - 0) (list_in s X nodes) 0 (halves_in X n mid)) → First s g Y nodes n end
    first w = record {
      few = w.few;
      roomy = subst (Roomy n) (sym w.is) (roomy_peel (n - 0) n (list_in s X nodes) 0 (halves_in X n mid) seeded_lists.low seeded_roomy);
      lists = lists_steady s X Y nodes n few less (omega (arith, seeds.frame.long)) w.frame seeded_lists;
      listed =
          listed (arcs g) n bounded (list_in s Y nodes) (λ y l. list_steady s X Y nodes y (omega (arith, few)) w.frame (omega (arith, seeds.frame.long)) (seeded_lists.room_inside y) ∙ same_X y l);
      small = small_still k.rest (take (2 * n) Y) now_still;
      left = k.rest;
      frees = subst (Frees (arcs g) (vertices n) k.rest) number k.frees;
      ready = ready;
    }
      where
        k : Peeled (arcs g) n (vertices n) 0 (peel_from n (list_in s X nodes) 0 (seed_to n h))
        k = first_peeled (arcs g) n (list_in s X nodes) listed_X (seed_to n h).degrees (seed_to n h).waiting seeding

        is : peel_from n (list_in s X nodes) 0 (seed_to n h) ≡ halves_in Y n end
        is = (λ i. peel_from (sym (sub-zero n) i) (list_in s X nodes) 0 (sym seeds.is i)) ∙ sym w.is

        waits : length (halves_in Y n end).waiting ≡ end
        waits = unfold halves_in in part_length Y waiting_at end (omega (arith, w.few, w.frame.long, seeds.frame.long, few))

        number : k.many ≡ end
        number = omega (arith, k.number, ap (λ (z : Halves). length z.waiting) is, waits)

        ready : Ready (arcs g) n k.rest (halves_in Y n end) end []
        ready =
            subst (λ (f : ℕ). Ready (arcs g) n k.rest (halves_in Y n end) f []) waits
            (subst (λ (z : Halves). Ready (arcs g) n k.rest z (length z.waiting) []) is k.ready)

        now_still : Between (arcs g) n k.rest (take (2 * n) Y) [] []
        now_still = unfold halves_in in still (arcs g) n k.rest (halves_in Y n end) (subst (λ (f : ℕ). Ready (arcs g) n k.rest (halves_in Y n end) f []) (sym waits) ready)

  -- ---- what is left

  module _ (Y : List ℕ) (long : picked_at ≤ length Y) (end : ℕ) (f : First s g Y nodes n end) where
    pub waits_long : length (halves_in Y n end).waiting ≡ end
    waits_long = unfold halves_in in part_length Y waiting_at end (omega (arith, f.few, few))

    pub first_still : Between (arcs g) n f.left (degrees_in Y n) [] []
    first_still = unfold halves_in in still (arcs g) n f.left (halves_in Y n end) (subst (λ (e : ℕ). Ready (arcs g) n f.left (halves_in Y n end) e []) (sym waits_long) f.ready)

    pub first_stable : Stable (arcs g) f.left
    first_stable = all_stable (arcs g) n f.left (degrees_in Y n) first_still

    -- it is the core of all vertices
    pub first_core_lem : f.left ≡ core (arcs g) (vertices n)
    first_core_lem = frees_core (arcs g) f.frees first_stable

    left_number : end + size f.left ≡ n
    left_number = frees_size (arcs g) f.frees ∙ size_vertices n

    -- not all have gone
    pub some_left_lem : end ≢ n → (x : ℕ) × T (has f.left x)
    some_left_lem ne = size_some f.left (pos_of (size f.left) (λ z. ne (omega (arith, left_number))))

    pub no_loop_is : eqb end n ≡ no_loop g
    unfolding no_loop
    no_loop_is = go (ℕ_discrete end n) ∙ (λ i. eqb (size (first_core_lem i)) 0) ∙ (λ i. eqb (size (core (arcs g) (vertices (n_is i)))) 0)
      where
        go : Dec (end ≡ n) → eqb end n ≡ eqb (size f.left) 0
        go (yes e) = eq-eqb end n e ∙ sym (eq-eqb (size f.left) 0 (omega (arith, left_number)))
        go (no ne) = ne_eqb end n ne ∙ sym (ne_eqb (size f.left) 0 (λ z. ne (omega (arith, left_number))))
