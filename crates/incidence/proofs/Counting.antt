-- The edges are counted one after the other: start, turn and done.
-- Assumes nothing.
use mathlib.Core.Path.{◌≡◌, refl, sym, ap, ◌∙◌, subst}
use mathlib.Core.Bool.{Bool, true, false, cond}
use mathlib.Core.List.{List, [], ◌∷◌, ◌++◌, map, append-nil, append_assoc}
use mathlib.Core.Logic.{◌≢◌}
use Prim.Native.Nat.{ℕ, zero, suc, ◌+◌, ◌*◌, ◌/◌, ◌%◌, ◌≤◌, ◌<◌}
use native.Mathlib.Decide.{ℕ_discrete}
use native.Mathlib.Nat.{add-zero}
use native.Mathlib.Numerals.{add-one}
use native.Mathlib.Omega.{arith}
use lib.Dec.{eqb}
use lib.ListN.{length, get_or, set, take, replicate, length-set, length-map, length-append, length-replicate, length-take}
use lib.Seq.{get_or-set_same, get_or-set_other, take-suc}
use borrow.Author.Tests.{eq-eqb, ne_eqb}
use Rattle.le.specs.Rows.{Holds}
use Rattle.le.proofs.Rows.{holds_less}
use Rattle.graph.specs.Graph.{Edge, Graph}
use Rattle.graph.specs.Form.{no_edge}
use Rattle.choice.specs.Arcs.{Arc, bump, how_many}
use Rattle.choice.specs.Degrees.{ends_at}
use Rattle.choice.specs.Drawing.{edge_arcs, arcs_from}
use Rattle.choice.proofs.Degrees.{how_many_length}
use Rattle.form.specs.declared.EdgeAt.{EdgeAt}
use Rattle.halves.specs.Halves.{mate, times}
use Rattle.tables.specs.Tables.{most_vertices, lists_at, picked_at}
use Rattle.removal.specs.Room.{Source, start_of, count_of, form_list}
use Rattle.incidence.specs.Incidence.{neighbours, arcs_to, ports_of, bump_all, noted, edge_counted, Known, ReadAs, CountedTo}
use Rattle.incidence.proofs.Ends.{neighbours_append, ports_at_lem, ports_own, ports_low, ports_mate}

-- ---- one more at each place

pub bump_long : (ys W : List ℕ) → length (bump_all ys W) ≡ length W
unfolding bump_all
bump_long [] W = refl
bump_long (y ∷ ys) W = bump_long ys (set W y (get_or W y 0 + 1)) ∙ length-set W y (get_or W y 0 + 1)

pub bump_at : (ys W : List ℕ) (y : ℕ) → y < length W → get_or (bump_all ys W) y 0 ≡ get_or W y 0 + times y ys
unfolding bump_all how_many
bump_at [] W y l = sym (add-zero (get_or W y 0))
bump_at (t ∷ ys) W y l = bump_at ys (set W t (get_or W t 0 + 1)) y (rw length-set l) ∙ go (ℕ_discrete t y)
  where
    go : Dec (t ≡ y) → get_or (set W t (get_or W t 0 + 1)) y 0 + times y ys ≡ get_or W y 0 + bump (eqb t y) (times y ys)
    go (yes e) = rw (e, eq-eqb y y refl, get_or-set_same W y (get_or W y 0 + 1) 0 l) (omega arith)
    go (no n) = rw (ne_eqb t y n, get_or-set_other W t y (get_or W t 0 + 1) 0 (λ e. n (sym e)))

pub bump_snoc : (ys : List ℕ) (y : ℕ) (W : List ℕ) → bump_all (ys ++ (y ∷ [])) W ≡ set (bump_all ys W) y (get_or (bump_all ys W) y 0 + 1)
unfolding bump_all
bump_snoc [] y W = refl
bump_snoc (t ∷ ys) y W = bump_snoc ys y (set W t (get_or W t 0 + 1))

-- the j before have added no more than j
pub bump_few : (ys W : List ℕ) (j : ℕ) → get_or ys j 0 < length W → get_or (bump_all (take j ys) W) (get_or ys j 0) 0 ≤ get_or W (get_or ys j 0) 0 + j
bump_few ys W j l = omega (arith, bump_at (take j ys) W (get_or ys j 0) l, how_many_length (λ t. eqb t (get_or ys j 0)) (take j ys), length-take j ys)

-- ---- a half is noted

module _ (W : List ℕ) (y degree start count : ℕ) (low : y < lists_at) (long : picked_at ≤ length W) where
  pub noted_long : length (noted y degree start count W) ≡ length W
  unfolding noted
  noted_long = simp length-set

  noted_degree : get_or (noted y degree start count W) y 0 ≡ degree
  unfolding noted
  noted_degree =
      get_or-set_other (set (set W y degree) (lists_at + 2 * y) start) (lists_at + 2 * y + 1) y count 0 (λ e. omega arith)
      ∙ get_or-set_other (set W y degree) (lists_at + 2 * y) y start 0 (λ e. omega arith) ∙ get_or-set_same W y degree 0 (omega arith)

  noted_start : start_of (noted y degree start count W) y ≡ start
  unfolding noted
  noted_start =
      get_or-set_other (set (set W y degree) (lists_at + 2 * y) start) (lists_at + 2 * y + 1) (lists_at + 2 * y) count 0 (λ e. omega arith)
      ∙ get_or-set_same (set W y degree) (lists_at + 2 * y) start 0 (rw length-set (omega arith))

  noted_count : count_of (noted y degree start count W) y ≡ count
  unfolding noted
  noted_count = get_or-set_same (set (set W y degree) (lists_at + 2 * y) start) (lists_at + 2 * y + 1) count 0 (simp length-set (omega arith))

  noted_other : (i : ℕ) → i ≢ y → i ≢ lists_at + 2 * y → i ≢ lists_at + 2 * y + 1 → get_or (noted y degree start count W) i 0 ≡ get_or W i 0
  unfolding noted
  noted_other i a b c =
      get_or-set_other (set (set W y degree) (lists_at + 2 * y) start) (lists_at + 2 * y + 1) i count 0 c
      ∙ get_or-set_other (set W y degree) (lists_at + 2 * y) i start 0 b ∙ get_or-set_other W y i degree 0 a

-- ---- the arcs of one edge more

from_snoc : (e : ℕ) (es : List Edge) (d : Edge) → arcs_from e (es ++ (d ∷ [])) ≡ arcs_from e es ++ edge_arcs (e + length es) d
unfolding arcs_from
from_snoc e [] d = append-nil (edge_arcs e d) ∙ ap (λ (n : ℕ). edge_arcs n d) (sym (add-zero e))
from_snoc e (b ∷ es) d =
    let s : suc e + length es ≡ e + suc (length es) = omega arith in
    ap (λ (l : List Arc). edge_arcs e b ++ l) (from_snoc (suc e) es d ∙ ap (λ (n : ℕ). arcs_from (suc e) es ++ edge_arcs n d) s)
    ∙ sym (append_assoc (edge_arcs e b) (arcs_from (suc e) es) (edge_arcs (e + suc (length es)) d))

pub arcs_next : (g : Graph) (i : ℕ) → i < length g.edges → arcs_to g (i + 1) ≡ arcs_to g i ++ edge_arcs (length g.labels + i) (get_or g.edges i no_edge)
arcs_next g i l =
    let many : length (take i g.edges) ≡ i = simp length-take (omega arith) in
    ap (arcs_from (length g.labels)) (rw add-one (take-suc g.edges i no_edge l))
    ∙ from_snoc (length g.labels) (take i g.edges) (get_or g.edges i no_edge)
    ∙ ap (λ (k : ℕ). arcs_to g i ++ edge_arcs (length g.labels + k) (get_or g.edges i no_edge)) many

pub nothing : (g : Graph) (y : ℕ) → neighbours (arcs_to g 0) y ≡ []
unfolding neighbours arcs_from ends_at
nothing g y = go (eqb (y % 2) 0)
  where
    go : (t : Bool) → map (λ (x : ℕ). 2 * x + y % 2) (cond t [] []) ≡ []
    go true = refl
    go false = refl

module _ (g : Graph) (known : Known g) where
  -- a half of another vertex than edge i
  pub next_at_lem : (i : ℕ) → i < length g.edges → (y : ℕ) → y / 2 ≢ length g.labels + i
      → neighbours (arcs_to g (i + 1)) y ≡ neighbours (arcs_to g i) y ++ replicate (times y (ports_of (get_or g.edges i no_edge))) (2 * (length g.labels + i) + y % 2)
  next_at_lem i l y ne =
      let x = length g.labels + i in
      let d = get_or g.edges i no_edge in
      ap (λ (P : List Arc). neighbours P y) (arcs_next g i l) ∙ neighbours_append (arcs_to g i) (edge_arcs x d) y ∙ ap (λ (l : List ℕ). neighbours (arcs_to g i) y ++ l) (ports_at_lem x d y ne)

  -- edges to come have nothing yet
  none_later : (i : ℕ) → i ≤ length g.edges → (y : ℕ) → length g.labels + i ≤ y / 2 → neighbours (arcs_to g i) y ≡ []
  none_later zero l y k = nothing g y
  none_later (suc i) l y k =
      let e : suc i ≡ i + 1 = omega arith in
      let b = known i (omega arith) in
      ap (λ (j : ℕ). neighbours (arcs_to g j) y) e ∙ next_at_lem i (omega arith) y (λ q. omega arith)
      ∙ (λ j. none_later i (omega arith) y (omega arith) j ++ replicate (ports_low (length g.labels + i) (get_or g.edges i no_edge) (length g.labels) (omega arith) b.0 b.1 y (omega arith) j) (2 * (length g.labels + i) + y % 2))

  -- the halves of edge i itself
  next_own : (i : ℕ) → i < length g.edges → (y : ℕ) → y / 2 ≡ length g.labels + i
      → neighbours (arcs_to g (i + 1)) y ≡ map (λ id. 2 * id + y % 2) (cond (eqb (y % 2) 0) (get_or g.edges i no_edge).targets (get_or g.edges i no_edge).sources)
  next_own i l y e =
      let x = length g.labels + i in
      let d = get_or g.edges i no_edge in
      let b = known i l in
      ap (λ (P : List Arc). neighbours P y) (arcs_next g i l) ∙ neighbours_append (arcs_to g i) (edge_arcs x d) y
      ∙ (λ j. none_later i (omega arith) y (omega arith) j ++ ports_own x d (length g.labels) (omega arith) b.0 b.1 y e j)

  pub counts_start : (s : Source) (X : List ℕ) → ((y : ℕ) → y < 2 * length g.labels → get_or X y 0 ≡ 0) → CountedTo s g X 0
  counts_start s X z = record {
    degrees = λ y l. z y (omega arith) ∙ ap length (sym (nothing g (mate y)));
    held = λ y a l. absurd (omega arith);
    lists = λ y a l. absurd (omega arith);
  }

  module _ (s : Source) (X : List ℕ) (i : ℕ) (inside : i < length g.edges) (c : CountedTo s g X i) (fits : length g.labels + length g.edges ≤ most_vertices) (long : picked_at ≤ length X)
      (e : EdgeAt) (r : ReadAs s g i e) where
    abbrev d : Edge
    d = get_or g.edges i no_edge

    abbrev x : ℕ
    x = length g.labels + i

    -- with its two halves noted, and then with its ports counted
    abbrev M : List ℕ
    M = noted (2 * x) e.sources (e.first + e.sources) e.targets X

    abbrev N : List ℕ
    N = noted (2 * x + 1) e.targets e.first e.sources M

    abbrev Y : List ℕ
    Y = edge_counted s x e X

    M_long : length M ≡ length X
    M_long = noted_long X (2 * x) e.sources (e.first + e.sources) e.targets (omega arith) long

    N_long : length N ≡ length X
    N_long = noted_long M (2 * x + 1) e.targets e.first e.sources (omega arith) (omega (arith, M_long)) ∙ M_long

    Y_at : (k : ℕ) → k < picked_at → get_or Y k 0 ≡ get_or N k 0 + times (mate k) (ports_of d)
    unfolding edge_counted
    Y_at k l =
        let A = form_list s e.first e.sources 1 in
        let B = form_list s (e.first + e.sources) e.targets 0 in
        bump_at B (bump_all A N) k (omega (arith, bump_long A N, N_long))
        ∙ omega (arith, bump_at A N k (omega (arith, N_long)), ap (times k) (r.source_ids 1), ap (times k) (r.target_ids 0), ports_mate d k)

    none_of : (y : ℕ) → 2 * length g.labels ≤ y → times y (ports_of d) ≡ 0
    none_of y l = ports_low x d (length g.labels) (omega arith) (known i inside).0 (known i inside).1 y l

    -- past the nodes' degrees nothing is counted
    Y_rest : (k : ℕ) → 2 * length g.labels ≤ k → k < picked_at → get_or Y k 0 ≡ get_or N k 0
    Y_rest k a l =
        let h : length g.labels ≤ k / 2 = omega arith in
        let m : mate k / 2 ≡ k / 2 = omega arith in
        let b : 2 * length g.labels ≤ mate k = omega arith in
        omega (arith, Y_at k l, none_of (mate k) b)

    -- what was noted of the two halves, and what stays of the others
    M_at : (k : ℕ) → k ≢ 2 * x + 1 → k ≢ lists_at + 2 * (2 * x + 1) → k ≢ lists_at + 2 * (2 * x + 1) + 1 → get_or N k 0 ≡ get_or M k 0
    M_at = noted_other M (2 * x + 1) e.targets e.first e.sources (omega arith) (omega (arith, M_long))

    X_at : (k : ℕ) → k ≢ 2 * x → k ≢ lists_at + 2 * (2 * x) → k ≢ lists_at + 2 * (2 * x) + 1 → get_or M k 0 ≡ get_or X k 0
    X_at = noted_other X (2 * x) e.sources (e.first + e.sources) e.targets (omega arith) long

    abbrev Noted : ℕ → ℕ → ℕ → ℕ → Type 0
    Noted y degree start count = (get_or N y 0 ≡ degree) × (start_of N y ≡ start) × (count_of N y ≡ count)

    own_in : Noted (2 * x) e.sources (e.first + e.sources) e.targets
    own_in =
        let l : 2 * x < lists_at = omega arith in (
          M_at (2 * x) (λ q. omega arith) (λ q. omega arith) (λ q. omega arith) ∙ noted_degree X (2 * x) e.sources (e.first + e.sources) e.targets l long,
          M_at (lists_at + 2 * (2 * x)) (λ q. omega arith) (λ q. omega arith) (λ q. omega arith) ∙ noted_start X (2 * x) e.sources (e.first + e.sources) e.targets l long,
          M_at (lists_at + 2 * (2 * x) + 1) (λ q. omega arith) (λ q. omega arith) (λ q. omega arith) ∙ noted_count X (2 * x) e.sources (e.first + e.sources) e.targets l long,
        )

    own_out : Noted (2 * x + 1) e.targets e.first e.sources
    own_out =
        let l : 2 * x + 1 < lists_at = omega arith in
        let k : picked_at ≤ length M = omega (arith, M_long) in
        (noted_degree M (2 * x + 1) e.targets e.first e.sources l k, noted_start M (2 * x + 1) e.targets e.first e.sources l k, noted_count M (2 * x + 1) e.targets e.first e.sources l k)

    other : (y : ℕ) → y / 2 ≢ x → y < lists_at → Noted y (get_or X y 0) (start_of X y) (count_of X y)
    other y ne l = (
      M_at y (λ q. ne (omega arith)) (λ q. omega arith) (λ q. omega arith) ∙ X_at y (λ q. ne (omega arith)) (λ q. omega arith) (λ q. omega arith),
      M_at (lists_at + 2 * y) (λ q. omega arith) (λ q. ne (omega arith)) (λ q. omega arith) ∙ X_at (lists_at + 2 * y) (λ q. omega arith) (λ q. ne (omega arith)) (λ q. omega arith),
      M_at (lists_at + 2 * y + 1) (λ q. omega arith) (λ q. omega arith) (λ q. ne (omega arith)) ∙ X_at (lists_at + 2 * y + 1) (λ q. omega arith) (λ q. omega arith) (λ q. ne (omega arith)),
    )

    pub node_same : (y : ℕ) → y < 2 * length g.labels
        → get_or (noted (2 * (length g.labels + i) + 1) e.targets e.first e.sources (noted (2 * (length g.labels + i)) e.sources (e.first + e.sources) e.targets X)) y 0 ≡ get_or X y 0
    node_same y l = (other y (λ q. omega arith) (omega arith)).0

    -- each half of the vertices so far
    degree_now : (y : ℕ) → y < 2 * (length g.labels + (i + 1)) → Dec (y / 2 ≡ x) → get_or Y y 0 ≡ length (neighbours (arcs_to g (i + 1)) (mate y))
    degree_now y l (no ne) = omega (
      arith,
      Y_at y (omega arith),
      (other y ne (omega arith)).0,
      c.degrees y (omega arith),
      ap length (next_at_lem i inside (mate y) (λ q. ne (omega arith))),
      length-append (neighbours (arcs_to g i) (mate y)) (replicate (times (mate y) (ports_of d)) (2 * x + mate y % 2)),
      length-replicate (times (mate y) (ports_of d)) (2 * x + mate y % 2),
    )
    degree_now y l (yes q) =
        Y_rest y (omega arith) (omega arith) ∙ half (ℕ_discrete y (2 * x))
        ∙ sym (length-map (cond (eqb (mate y % 2) 0) d.targets d.sources) (λ id. 2 * id + mate y % 2)) ∙ ap length (sym (next_own i inside (mate y) (omega arith)))
      where
        half : Dec (y ≡ 2 * x) → get_or N y 0 ≡ length (cond (eqb (mate y % 2) 0) d.targets d.sources)
        half (yes p) = ap (λ (k : ℕ). get_or N k 0) p ∙ own_in.0 ∙ r.source_count ∙ sym (rw (ne_eqb (mate y % 2) 0 (λ f. omega arith)) refl)
        half (no p) = let o : y ≡ 2 * x + 1 = omega arith in ap (λ (k : ℕ). get_or N k 0) o ∙ own_out.0 ∙ r.target_count ∙ sym (rw (eq-eqb (mate y % 2) 0 (omega arith)) refl)

    list_now : (y : ℕ) → 2 * length g.labels ≤ y → y < 2 * (length g.labels + (i + 1)) → Dec (y / 2 ≡ x)
        → Holds s.bytes s.row (start_of Y y + count_of Y y) × (form_list s (start_of Y y) (count_of Y y) (y % 2) ≡ neighbours (arcs_to g (i + 1)) y)
    list_now y a l w = go w
      where
        start : start_of Y y ≡ start_of N y
        start = Y_rest (lists_at + 2 * y) (omega arith) (omega arith)

        count : count_of Y y ≡ count_of N y
        count = Y_rest (lists_at + 2 * y + 1) (omega arith) (omega arith)

        go : Dec (y / 2 ≡ x) → Holds s.bytes s.row (start_of Y y + count_of Y y) × (form_list s (start_of Y y) (count_of Y y) (y % 2) ≡ neighbours (arcs_to g (i + 1)) y)
        go (no ne) =
            let o = other y ne (omega arith) in
            let same : neighbours (arcs_to g (i + 1)) y ≡ neighbours (arcs_to g i) y =
            next_at_lem i inside y ne ∙ ap (λ (k : ℕ). neighbours (arcs_to g i) y ++ replicate k (2 * x + y % 2)) (none_of y a) ∙ append-nil (neighbours (arcs_to g i) y) in (
              subst (Holds s.bytes s.row) (λ j. sym (start ∙ o.1) j + sym (count ∙ o.2) j) (c.held y a (omega arith)),
              (λ j. form_list s ((start ∙ o.1) j) ((count ∙ o.2) j) (y % 2)) ∙ c.lists y a (omega arith) ∙ sym same,
            )
        go (yes q) = half (ℕ_discrete y (2 * x))
          where
            half : Dec (y ≡ 2 * x) → Holds s.bytes s.row (start_of Y y + count_of Y y) × (form_list s (start_of Y y) (count_of Y y) (y % 2) ≡ neighbours (arcs_to g (i + 1)) y)
            half (yes p) =
                let st : start_of Y y ≡ e.first + e.sources = start ∙ ap (start_of N) p ∙ own_in.1 in
                let ct : count_of Y y ≡ e.targets = count ∙ ap (count_of N) p ∙ own_in.2 in (
                  subst (Holds s.bytes s.row) (λ j. sym st j + sym ct j) r.ids_held,
                  (λ j. form_list s (st j) (ct j) (y % 2)) ∙ r.target_ids (y % 2) ∙ sym (next_own i inside y q ∙ rw (eq-eqb (y % 2) 0 (omega arith)) refl),
                )
            half (no p) =
                let o : y ≡ 2 * x + 1 = omega arith in
                let st : start_of Y y ≡ e.first = start ∙ ap (start_of N) o ∙ own_out.1 in
                let ct : count_of Y y ≡ e.sources = count ∙ ap (count_of N) o ∙ own_out.2 in (
                  subst (Holds s.bytes s.row) (λ j. sym st j + sym ct j) (holds_less r.ids_held (e.first + e.sources) (omega arith)),
                  (λ j. form_list s (st j) (ct j) (y % 2)) ∙ r.source_ids (y % 2) ∙ sym (next_own i inside y q ∙ rw (ne_eqb (y % 2) 0 (λ f. omega arith)) refl),
                )

    pub counts_turn : CountedTo s g (edge_counted s (length g.labels + i) e X) (i + 1)
    counts_turn = record {
      degrees = λ y l. degree_now y l (ℕ_discrete (y / 2) x);
      held = λ y a l. (list_now y a l (ℕ_discrete (y / 2) x)).0;
      lists = λ y a l. (list_now y a l (ℕ_discrete (y / 2) x)).1;
    }
