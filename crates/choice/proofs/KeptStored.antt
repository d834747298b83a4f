-- T-10, of stored bytes: what the call answers, when it gives 16, and that an empty list is the call without one.
-- Assumes nothing.
use mathlib.Core.Path.{◌≡◌, refl, sym, ap, ◌∙◌, subst}
use mathlib.Core.Bool.{Bool, true, false, false≢true}
use mathlib.Core.List.{List, [], ◌∷◌, append-nil}
use mathlib.Core.Logic.{◌↔◌}
use Prim.Native.Nat.{ℕ, zero, ◌^◌, ◌≤◌}
use native.Mathlib.Nat.{zero-mod, zero-div}
use native.Mathlib.Omega.{arith}
use lib.Dec.{leb, eqb}
use lib.ListN.{length}
use borrow.Author.Tests.{leb-true, eqb-true, eq-eqb}
use Rattle.le.specs.Le.{Below, numbers, row}
use Rattle.le.proofs.Numbers.{below_widen, numbers_row}
use Rattle.graph.specs.Graph.{Graph, Format, Proper}
use Rattle.graph.specs.Answer.{Refusal, Answer, refused, answered, Result, refusal, ◌else◌, ◌>>=◌, ◌>>◌}
use Rattle.graph.specs.Lists.{member}
use Rattle.graph.specs.Versions.{StoredGraph, read}
use Rattle.graph.specs.Calls.{id_list, unpaired, fit, in_work_room}
use Rattle.graph.proofs.Steps.{same_answer, same_refusal, passed, came, stops, goes}
use Rattle.graph.proofs.Refuses.{RefusedBy, answer_by, step_by}
use Rattle.graph.proofs.RefusedBy.{reads_by, id_list_by, unpaired_by, fit_by}
use Rattle.graph.proofs.Reading.{read_refusals}
use Rattle.graph.proofs.Answers.{worked}
use Rattle.graph.proofs.Verdicts.{in_room}
use Rattle.graph.proofs.Versions.{read_sound}
use Rattle.choice.specs.Choice.{Chosen}
use Rattle.choice.specs.Drawing.{chosen}
use Rattle.choice.specs.Keeping.{chosen_keeping, KeptCycle}
use Rattle.choice.specs.Calls.{listing, cycle_broken, cycle_broken_keeping, room_cycle_breaking_nodes, cycle_breaking_nodes_call, cycle_breaking_nodes_keeping_call}
use Rattle.choice.specs.Promises.{Admitted, KeepingOf}
use Rattle.choice.proofs.Kept.{keeping_by, keeping_none, refused_iff_kept_cycle, answered_spares}

unpaired_goes : {A : Type 0} (g : Graph) (next : Graph → Answer A) → length g.pairs ≡ zero → (unpaired g >>= next) ≡ next g
unfolding unpaired ◌else◌ ◌>>◌ ◌>>=◌
unpaired_goes g next e = rw (eq-eqb (length g.pairs) zero e)

unpaired_same : (g h : Graph) → unpaired g ≡ answered h → (length g.pairs ≡ zero) × (g ≡ h)
unfolding unpaired
unpaired_same g h e =
    let p = passed (eqb (length g.pairs) zero) _ (answered g) e in (eqb-true _ _ p.0, same_answer p.1)

-- ---- where a refusal by 16 comes from

-- a step that never refuses by 16 has answered
past : {A B : Type 0} (ns : List ℕ) (m : Answer A) (next : A → Answer B) (r : Refusal) → r.no ≡ 16 → RefusedBy ns m → member 16 ns ≡ false
    → (m >>= next) ≡ refused r → (x : A) × (m ≡ answered x) × (next x ≡ refused r)
unfolding ◌>>=◌
past ns (refused q) next r n h k e =
    absurd (false≢true (sym k ∙ ap (λ (i : ℕ). member i ns) (sym n) ∙ h.each r (ap refused (same_refusal e))))
past ns (answered x) next r n h k e = (x, refl, e)

-- so there was room
enough : (needed lent : ℕ) (a : Answer Result) (r : Refusal) → r.no ≡ 16 → in_work_room needed lent a ≡ refused r → (needed ≤ lent) × (a ≡ refused r)
unfolding in_work_room ◌else◌ ◌>>◌
enough needed lent a r n = go (leb needed lent) refl
  where
    go : (c : Bool) → leb needed lent ≡ c → ((c else refusal 10) >> a) ≡ refused r → (needed ≤ lent) × (a ≡ refused r)
    go true e p = (leb-true needed lent e, p)
    go false e p = absurd (omega (arith, n, ap (λ (q : Refusal). q.no) (same_refusal p)))

-- the answer's list refuses by 10 alone
listing_by : (f : Format) (room : ℕ) (x : Chosen) → RefusedBy (10 ∷ []) (listing f room x)
unfolding listing
listing_by f room x = step_by _ _ (fit_by (10 ∷ []) refl room (row f.width x.ids)) (λ l. answer_by _)

-- so it is the stages' own
keeping_refusal : (kept : List ℕ) (g : Graph) (next : Chosen → Answer Result) → ((x : Chosen) → RefusedBy (10 ∷ []) (next x)) → (r : Refusal) → r.no ≡ 16
    → (chosen_keeping kept g >>= next) ≡ refused r → r ≡ refusal 16
keeping_refusal kept g next by r n = go (chosen_keeping kept g) refl
  where
    go : (a : Answer Chosen) → chosen_keeping kept g ≡ a → (chosen_keeping kept g >>= next) ≡ refused r → r ≡ refusal 16
    go (refused q) e p = (keeping_by kept g).each r (e ∙ ap refused (same_refusal (sym (stops next e) ∙ p)))
    go (answered x) e p = absurd (false≢true (ap (λ (i : ℕ). member i (10 ∷ [])) (sym n) ∙ (by x).each r (sym (goes next e) ∙ p)))

module _ (b list : List ℕ) where
  -- past 1 to 8 the call is the choice, 16 and 10
  pub admitted_call : (room : ℕ) (s : StoredGraph) (kept : List ℕ) → Admitted b list s kept
      → cycle_broken_keeping b list room ≡ (chosen_keeping kept s.graph >>= listing s.format room)
  unfolding cycle_broken_keeping
  admitted_call room s kept t = goes _ t.stored ∙ goes _ t.listed ∙ unpaired_goes s.graph _ t.pairless

  module _ (clean : Below 256 b) where
    list_of : (room : ℕ) (s : StoredGraph) (kept : List ℕ) → Admitted b list s kept → (x : Chosen) → chosen_keeping kept s.graph ≡ answered x → (c : Result)
        → listing s.format room x ≡ answered c → KeepingOf b list room s kept c
    unfolding listing fit
    list_of room s kept t x is c p =
        let g = s.graph in
        let w = s.format.width in
        let l = came (fit room (row w x.ids)) _ p in
        let q = passed (leb (length (row w x.ids)) room) _ (answered (row w x.ids)) l.1 in
        let e : row w x.ids ≡ l.0 = same_answer q.1 in
        let made : ◌≡◌ {A = Result} (record { a = length x.ids; b = x.free; bytes = l.0; map = [] }) c = same_answer l.2 in
        let sound = read_sound b s clean t.stored in
        let spares = answered_spares g sound.formed.proper kept x is in
        let small : Below (256 ^ w) x.ids = below_widen x.ids (omega (arith, sound.formed.counts.nodes, sound.version.usable.nodes)) spares.breaks.nodes in
        let back : numbers w (length x.ids) l.0 ≡ x.ids =
        subst (λ (k : List ℕ). numbers w (length x.ids) k ≡ x.ids) (append-nil (row w x.ids) ∙ e) (numbers_row w x.ids [] small) in
        subst (KeepingOf b list room s kept) made (record {
          admitted = t;
          picked = x;
          is = is;
          written = sym e;
          count = refl;
          free = refl;
          fits = subst (λ (k : List ℕ). length k ≤ room) e (leb-true _ _ q.0);
          back = back;
          spares = spares;
        })

    -- the call's answer is the choice of the stored graph among the nodes that are not listed
    pub keeping_answer : (room work_room : ℕ) (c : Result) → cycle_breaking_nodes_keeping_call b list room work_room ≡ answered c
        → (s : StoredGraph) × (kept : List ℕ) × KeepingOf b list room s kept c
    unfolding cycle_broken_keeping
    keeping_answer room work_room c p =
        let p₁ = came (read b) _ (worked room_cycle_breaking_nodes work_room (cycle_broken_keeping b list room) p) in
        let s = p₁.0 in
        let g = s.graph in
        let p₂ = came (id_list s.format (length g.labels) list) _ p₁.2 in
        let kept = p₂.0 in
        let p₃ = came (unpaired g) _ p₂.2 in
        let p₄ = came (chosen_keeping kept p₃.0) (listing s.format room) p₃.2 in
        let same = unpaired_same g p₃.0 p₃.1 in
        let t : Admitted b list s kept = record { stored = p₁.1; listed = p₂.1; pairless = same.0 } in
        let is : chosen_keeping kept g ≡ answered p₄.0 = subst (λ (h : Graph). chosen_keeping kept h ≡ answered p₄.0) (sym same.1) p₄.1 in
        (s, kept, list_of room s kept t p₄.0 is c p₄.2)

    -- 16 "for such a cycle, after 8 and before 10": past 1 to 8 the call gives 16 exactly if some cycle has only kept nodes, however little room the list has
    pub sixteen_iff_kept_cycle : (room work_room : ℕ) → room_cycle_breaking_nodes ≤ work_room → (s : StoredGraph) (kept : List ℕ) → Admitted b list s kept
        → (cycle_breaking_nodes_keeping_call b list room work_room ≡ refused (refusal 16)) ↔ KeptCycle kept s.graph
    sixteen_iff_kept_cycle room work_room lent s kept t = (λ e. go (chosen_keeping kept g) refl (sym call ∙ e), λ c. call ∙ stops _ (iff.1 c))
      where
        g : Graph
        g = s.graph

        call : cycle_breaking_nodes_keeping_call b list room work_room ≡ (chosen_keeping kept g >>= listing s.format room)
        call = in_room room_cycle_breaking_nodes work_room (cycle_broken_keeping b list room) lent ∙ admitted_call room s kept t

        iff : (chosen_keeping kept g ≡ refused (refusal 16)) ↔ KeptCycle kept g
        iff = refused_iff_kept_cycle g (read_sound b s clean t.stored).formed.proper kept

        small : (x : Chosen) → listing s.format room x ≡ refused (refusal 16) → ⊥
        small x e = false≢true ((listing_by s.format room x).each (refusal 16) e)

        go : (a : Answer Chosen) → chosen_keeping kept g ≡ a → (chosen_keeping kept g >>= listing s.format room) ≡ refused (refusal 16) → KeptCycle kept g
        go (refused r) q e = iff.0 (q ∙ ap refused (same_refusal (sym (stops (listing s.format room) q) ∙ e)))
        go (answered x) q e = absurd (small x (sym (goes (listing s.format room) q) ∙ e))

    -- and a call that gives 16 is past 1 to 8, and its graph has such a cycle
    pub sixteen_means : (room work_room : ℕ) (r : Refusal) → r.no ≡ 16 → cycle_breaking_nodes_keeping_call b list room work_room ≡ refused r
        → (s : StoredGraph) × (kept : List ℕ) × Admitted b list s kept × KeptCycle kept s.graph × (r ≡ refusal 16)
    unfolding cycle_broken_keeping
    sixteen_means room work_room r n p =
        let lent = enough room_cycle_breaking_nodes work_room (cycle_broken_keeping b list room) r n p in
        let p₁ = past read_refusals (read b) _ r n (reads_by read_refusals refl b) refl lent.1 in
        let s = p₁.0 in
        let g = s.graph in
        let p₂ = past (7 ∷ []) (id_list s.format (length g.labels) list) _ r n (id_list_by (7 ∷ []) refl s.format (length g.labels) list) refl p₁.2 in
        let kept = p₂.0 in
        let p₃ = past (8 ∷ []) (unpaired g) _ r n (unpaired_by (8 ∷ []) refl g) refl p₂.2 in
        let t : Admitted b list s kept = record { stored = p₁.1; listed = p₂.1; pairless = (unpaired_same g p₃.0 p₃.1).0 } in
        let is : r ≡ refusal 16 = keeping_refusal kept p₃.0 (listing s.format room) (λ x. listing_by s.format room x) r n p₃.2 in
        (s, kept, t, (sixteen_iff_kept_cycle room work_room lent.0 s kept t).0 (p ∙ ap refused is), is)

-- ---- an empty list

no_ids : (f : Format) (count : ℕ) → id_list f count [] ≡ answered []
unfolding id_list ◌else◌ ◌>>◌
no_ids f count = rw (zero-mod f.width, zero-div f.width)

-- "With no kept nodes all is as before."
pub keeping_none_call : (b : List ℕ) → Below 256 b → (room : ℕ) → cycle_broken_keeping b [] room ≡ cycle_broken b room
unfolding cycle_broken_keeping cycle_broken
keeping_none_call b clean room = go (read b) refl
  where
    proceed : (s : StoredGraph) → read b ≡ answered s → (p : Answer Graph) → unpaired s.graph ≡ p
        → (p >>= (λ g. chosen_keeping [] g >>= listing s.format room)) ≡ (p >>= (λ g. listing s.format room (chosen g)))
    proceed s e (refused r) q = stops _ refl ∙ sym (stops (λ g. listing s.format room (chosen g)) refl)
    proceed s e (answered g) q =
        let same : s.graph ≡ g = (unpaired_same s.graph g q).1 in
        goes _ refl ∙ goes (listing s.format room) (keeping_none g (subst Proper same (read_sound b s clean e).formed.proper)) ∙ sym (goes (λ g. listing s.format room (chosen g)) refl)

    go : (a : Answer StoredGraph) → read b ≡ a → cycle_broken_keeping b [] room ≡ cycle_broken b room
    go (refused r) e = stops _ e ∙ sym (stops _ e)
    go (answered s) e = goes _ e ∙ goes _ (no_ids s.format (length s.graph.labels)) ∙ proceed s e (unpaired s.graph) refl ∙ sym (goes _ e)

-- and so are the whole calls, with the same work room
pub keeping_none_whole_call : (b : List ℕ) → Below 256 b → (room work_room : ℕ) → cycle_breaking_nodes_keeping_call b [] room work_room ≡ cycle_breaking_nodes_call b room work_room
keeping_none_whole_call b clean room work_room = ap (in_work_room room_cycle_breaking_nodes work_room) (keeping_none_call b clean room)
