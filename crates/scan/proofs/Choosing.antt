-- The best node that may be chosen: found in one pass, it is the best of the definition; it is picked; and where there is none the choice is refused.
-- Assumes nothing.
use mathlib.Core.Path.{◌≡◌, refl, sym, ap, ◌∙◌, subst}
use mathlib.Core.Bool.{Bool, true, false, not, cond}
use mathlib.Core.List.Memᴰ
use mathlib.Core.List.{List, ◌∷◌}
use mathlib.Core.Logic.{⊎_elim, ◌↔◌}
use Prim.Native.Nat.{ℕ, suc, ◌+◌, ◌*◌, ◌/◌, ◌%◌, ◌≤◌, ◌<◌}
use native.Mathlib.Decide.{ℕ_discrete, dec_lt}
use native.Mathlib.Nat.{not-suc-le-zero, mul-pos}
use native.Mathlib.Omega.{arith}
use lib.Dec.{T, eqb, ltb, ltb→lt, lt→ltb}
use lib.ListN.{length, get_or, set}
use lib.Seq.{get_or-set_same, get_or-set_other}
use borrow.Author.Tests.{eqb-true, eq-eqb, ltb-true, ltb-false}
use Rattle.graph.specs.Answer.{refused, refusal}
use Rattle.graph.specs.Graph.{Graph}
use Rattle.graph.specs.Lists.{among}
use Rattle.choice.specs.Arcs.{In, Set, has, size, into, out, Stable}
use Rattle.choice.specs.Calls.{room_cycle_breaking_nodes_scanning}
use Rattle.choice.specs.Choice as choice
use Rattle.choice.specs.Choice.{score}
use Rattle.choice.specs.Degrees.{Sofar}
use Rattle.choice.specs.Drawing.{arcs, vertex_count, selectable}
use Rattle.choice.specs.Keeping.{unkept, chosen_keeping}
use Rattle.choice.proofs.Fits.{proper_bounded}
use Rattle.choice.proofs.Keeping.{stuck_refuses}
use Rattle.choice.proofs.Sets.{and_left, and_right, both, size_some, size_without}
use Rattle.choice.proofs.Sofar.{sofar_best}
use Rattle.marks.specs.Tables.{remains, left, degrees, loose, worth_in}
use Rattle.sweeps.specs.Sweeps.{State}
use Rattle.scan.specs.Stages.{Top, better_of}
use Rattle.scan.specs.declared.Best.{Best}
use Rattle.marks.proofs.Tables.{tight_nought, degrees_set, loose_gone, loose_same}
use Rattle.sweeps.proofs.Going.{Drawn, few_degrees, nought_neither, is_left, set_left, set_right, set_marks}

-- ---- one pass

pub top_start : (room : List ℕ) → Top room 0 (record { node = 0; score = 0 })
top_start room = record { most = λ u l. absurd (not-suc-le-zero l); is = λ f. absurd (f refl); lowest = λ f u l. absurd (not-suc-le-zero l) }

-- what holds of those before v and of v
earlier : (P : ℕ → Type 0) (v : ℕ) → ((u : ℕ) → u < v → P u) → P v → (u : ℕ) → u < v + 1 → P u
earlier P v f p u l = at (dec_lt u v)
  where
    at : Dec (u < v) → P u
    at (yes h) = f u h
    at (no h) = let q : v ≡ u = omega arith in subst P q p

pub top_turn : (room : List ℕ) (v w : ℕ) (b new : Best) → w ≡ worth_in room v → new ≡ better_of b v w (ltb b.score w) → Top room v b → Top room (v + 1) new
top_turn room v w b new e is t = go (ltb b.score w) refl
  where
    go : (c : Bool) → ltb b.score w ≡ c → Top room (v + 1) new
    go true q =
        let more = ltb-true b.score w q in
        subst (Top room (v + 1)) (sym (is ∙ ap (better_of b v w) q)) (record {
          most = earlier (λ u. worth_in room u ≤ w) v (λ u l. omega (arith, t.most u l, more)) (omega (arith, e));
          is = λ f. (omega arith, sym e);
          lowest = λ f. earlier (λ u. worth_in room u ≡ w → v ≤ u) v (λ u l h. absurd (omega (arith, t.most u l, more, h))) (λ h. omega arith);
        })
    go false q =
        let less = ltb-false b.score w q in
        subst (Top room (v + 1)) (sym (is ∙ ap (better_of b v w) q)) (record {
          most = earlier (λ u. worth_in room u ≤ b.score) v t.most (omega (arith, e, less));
          is = λ f. let h = t.is f in (omega (arith, h.0), h.1);
          lowest = λ f. earlier (λ u. worth_in room u ≡ b.score → b.node ≤ u) v (t.lowest f) (λ h. omega (arith, (t.is f).0));
        })

-- ---- the best of the definition

pub worth_mark : (room : List ℕ) (v : ℕ) → (worth_in room v ≡ 0 → ⊥) → get_or room v 0 ≡ 1
unfolding worth_in
worth_mark room v f = go (eqb (get_or room v 0) 1) refl f
  where
    go : (b : Bool) → eqb (get_or room v 0) 1 ≡ b → (cond b (degrees room v % 65536 * (degrees room v / 65536)) 0 ≡ 0 → ⊥) → get_or room v 0 ≡ 1
    go true e h = eqb-true (get_or room v 0) 1 e
    go false e h = absurd (h refl)

-- it is one of those that remain
pub pick_size : (g : Graph) (d : Drawn g) (room : List ℕ) → room_cycle_breaking_nodes_scanning ≤ length room → (b : Best) → Top room (length g.labels) b → (b.score ≡ 0 → ⊥)
    → suc (size (left (vertex_count g) (set room b.node 2))) ≡ size (left (vertex_count g) room)
pick_size g d room long b top f =
    let low = (top.is f).0 in
    let mark = worth_mark room b.node (λ z. f (sym (top.is f).1 ∙ z)) in
    ap (λ (U : Set). suc (size U)) (set_left g d room long b.node 2 low (ap remains mark) refl) ∙ size_without b.node (left (vertex_count g) room) (is_left g d room long b.node (omega (arith, low)) (ap remains mark))

module _ (g : Graph) (d : Drawn g) (room : List ℕ) (long : room_cycle_breaking_nodes_scanning ≤ length room) (kept picked : List ℕ) (free : ℕ) (s : State kept g room picked free) where
  abbrev nodes : ℕ
  nodes = length g.labels

  abbrev n : ℕ
  n = vertex_count g

  abbrev S : Set
  S = left n room

  -- a node that remains and is not kept
  one_inside : (u : ℕ) → u < nodes → get_or room u 0 ≡ 1 → T (has S u)
  one_inside u l e = is_left g d room long u (omega arith) (ap remains e)

  one_worth : (u : ℕ) → u < nodes → get_or room u 0 ≡ 1 → (worth_in room u ≡ score (arcs g) S u) × (0 < worth_in room u)
  unfolding worth_in score
  one_worth u l e =
      let a = into (arcs g) S u in
      let b = out (arcs g) S u in
      let w = nought_neither (degrees room u) a b (s.telling.right u l) (few_degrees g d S u) (tight_nought room u (ap remains e) (s.tight u l)) in
      let is : cond (eqb (get_or room u 0) 1) (degrees room u % 65536 * (degrees room u / 65536)) 0 ≡ a * b =
      ap (λ (t : Bool). cond t (degrees room u % 65536 * (degrees room u / 65536)) 0) (eq-eqb (get_or room u 0) 1 e) ∙ (λ i. w.2 i * w.3 i) in
      (is, omega (arith, is, mul-pos w.0 w.1))

  one_may : (u : ℕ) → u < nodes → get_or room u 0 ≡ 1 → T (unkept kept g u)
  one_may u l e = both (selectable g u) (not (among kept u)) (lt→ltb u nodes l) (go (among kept u) (sym (s.telling.marks u l (one_inside u l e)) ∙ e))
    where
      go : (b : Bool) → ◌≡◌ {A = ℕ} (cond b 3 1) 1 → T (not b)
      go true h = absurd (omega (arith, h))
      go false h = tt

  may_one : (u : ℕ) → T (unkept kept g u) → T (has S u) → (u < nodes) × (get_or room u 0 ≡ 1)
  may_one u m t =
      let l = ltb→lt u nodes (and_left (selectable g u) (not (among kept u)) m) in
      (l, s.telling.marks u l t ∙ go (among kept u) (and_right (selectable g u) (not (among kept u)) m))
    where
      go : (b : Bool) → T (not b) → ◌≡◌ {A = ℕ} (cond b 3 1) 1
      go true h = absurd h
      go false h = refl

  module _ (b : Best) (top : Top room nodes b) where
    -- nothing is worth anything: nothing that remains may be chosen
    pub none_may : b.score ≡ 0 → (v : ℕ) → T (has S v) → unkept kept g v ≡ false
    none_may z v t = go (unkept kept g v) refl
      where
        go : (c : Bool) → unkept kept g v ≡ c → unkept kept g v ≡ false
        go false e = e
        go true e =
            let w = may_one v (subst T (sym e) tt) t in
            absurd (omega (arith, top.most v w.0, (one_worth v w.0 w.1).1, z))

    pub stuck : b.score ≡ 0 → Stable (arcs g) S → 0 < size S → chosen_keeping kept g ≡ refused (refusal 16)
    unfolding chosen_keeping
    stuck z stable some = let w = size_some S some in stuck_refuses (arcs g) (unkept kept g) n (proper_bounded g d.proper) S stable (none_may z) w.0 w.1

    module _ (f : b.score ≡ 0 → ⊥) where
      low : b.node < nodes
      low = (top.is f).0

      mark : get_or room b.node 0 ≡ 1
      mark = worth_mark room b.node (λ z. f (sym (top.is f).1 ∙ z))

      best_is : choice.Best (arcs g) (unkept kept g) S b.node
      best_is =
          let own = (one_worth b.node low mark).0 in
          record {
            allowed = one_may b.node low mark;
            inside = one_inside b.node low mark;
            most = λ u m t. let w = may_one u m t in omega (arith, top.most u w.0, (one_worth u w.0 w.1).0, own, (top.is f).1);
            lowest = λ u m t e. let w = may_one u m t in top.lowest f u w.0 ((one_worth u w.0 w.1).0 ∙ e ∙ sym own ∙ (top.is f).1);
          }

      -- it is picked
      pub pick_state : Stable (arcs g) S → State kept g (set room b.node 2) (b.node ∷ picked) free
      pick_state stable = record {
        telling = record {
          told = subst (λ (U : Set). Sofar (arcs g) (unkept kept g) n U (b.node ∷ picked) free) (sym (set_left g d room long b.node 2 low (ap remains mark) refl))
              (sofar_best (arcs g) (unkept kept g) n S picked free s.telling.told b.node stable best_is);
          marks = set_marks g d room long b.node 2 low (ap remains mark) refl kept s.telling.marks;
          chosen = λ u l. picks u l (ℕ_discrete u b.node);
          right = set_right g d room long b.node 2 low (ap remains mark) refl s.telling.right;
        };
        tight = λ u l. shut u l (ℕ_discrete u b.node);
      }
        where
          there : get_or (set room b.node 2) b.node 0 ≡ 2
          there = get_or-set_same room b.node 2 0 (omega (arith, low, d.few_nodes))

          picks : (u : ℕ) → u < nodes → Dec (u ≡ b.node) → (get_or (set room b.node 2) u 0 ≡ 2) ↔ In u (b.node ∷ picked)
          picks u l (yes q) = ((λ e. Memᴰ.head q), (λ i. ap (λ (x : ℕ). get_or (set room b.node 2) x 0) q ∙ there))
          picks u l (no q) =
              let same = get_or-set_other room b.node u 2 0 q in (
                (λ e. Memᴰ.tail ((s.telling.chosen u l).0 (sym same ∙ e))),
                (λ i. same ∙ (s.telling.chosen u l).1 (⊎_elim (λ e. absurd (q e)) (λ h. h) (Memᴰ.cases_cons i))),
              )

          shut : (u : ℕ) → u < nodes → Dec (u ≡ b.node) → loose (set room b.node 2) u ≡ false
          shut u l (yes q) = loose_gone (set room b.node 2) u (ap (λ (x : ℕ). remains (get_or (set room b.node 2) x 0)) q ∙ ap remains there)
          shut u l (no q) = loose_same room (set room b.node 2) u (get_or-set_other room b.node u 2 0 q) (degrees_set room long b.node 2 u (omega (arith, low, d.few_nodes)) (omega (arith, d.few_nodes))) ∙ s.tight u l
