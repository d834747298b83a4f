-- T-04 of stored bytes: what the call answers.
-- Assumes nothing.
use mathlib.Core.Path.{◌≡◌, refl, sym, ap, ◌∙◌, subst}
use mathlib.Core.Bool.{Bool, true, false, cond}
use mathlib.Core.List.{List, [], ◌∷◌, map, append-nil}
use Prim.Native.Nat.{ℕ, zero, suc, ◌+◌, ◌*◌, ◌^◌, ◌≤◌, ◌<◌}
use native.Mathlib.Omega.{arith}
use lib.Dec.{eqb, leb}
use lib.ListN.{length, length-append}
use borrow.Author.Tests.{leb-true}
use Rattle.le.specs.Le.{Below, numbers, row}
use Rattle.le.proofs.Numbers.{below_append, numbers_row}
use Rattle.graph.specs.Lists.{joined, range}
use Rattle.graph.specs.Graph.{Graph, ports}
use Rattle.graph.specs.Answer.{answered, Result}
use Rattle.graph.specs.Versions.{StoredGraph}
use Rattle.graph.specs.Calls.{fit}
use Rattle.graph.proofs.Steps.{same_answer, passed, came}
use Rattle.graph.proofs.Answers.{worked}
use Rattle.graph.proofs.Versions.{read_sound}
use Rattle.choice.specs.Arcs.{Arc, Set, has, vertices, without, into, out}
use Rattle.choice.specs.Choice.{core, best}
use Rattle.choice.specs.Drawing.{arcs, vertex_count, selectable, chosen}
use Rattle.choice.proofs.Degrees.{how_many_length}
use Rattle.choice.proofs.Scores.{length_arcs}
use Rattle.choice.proofs.Stored.{read_unpaired}
use Rattle.choice.specs.Promises.{ReasonsOf}
use Rattle.choice.specs.Reasons.{Reason, picked, not_led_to, leads_to_none, numbers_of, led, why, reason, reasons}
use Rattle.choice.specs.Calls.{room_reasons, reasoned, reasons_call}
use Rattle.choice.proofs.ReasonsGraphs.{reasons_length}

-- ---- the numbers are small

into_few : (arcs : List Arc) (S : Set) (v : ℕ) → into arcs S v ≤ length arcs
unfolding into
into_few arcs S v = how_many_length _ arcs

out_few : (arcs : List Arc) (S : Set) (v : ℕ) → out arcs S v ≤ length arcs
unfolding out
out_few arcs S v = how_many_length _ arcs

-- kinds are 0 to 2, a stage at most one more than there are vertices, and arcs in and out no more than arcs
why_below : (arcs : List Arc) (may : ℕ → Bool) (m : ℕ) → 2 < m → length arcs < m → (k stage : ℕ) → stage + k < m → (S : Set) (v : ℕ)
    → Below m (numbers_of (why k stage arcs may S v))
unfolding why
why_below arcs may m two few zero stage l S v = (omega arith, (omega arith, (omega arith, (omega arith, tt))))
why_below arcs may m two few (suc k) stage l S v =
    go (has C v) (eqb v b) (has (led arcs S) v) (why_below arcs may m two few k (suc stage) (omega arith) (without b C) v)
  where
    C : Set
    C = core arcs S

    b : ℕ
    b = best arcs may C (length C)

    go : (c d e : Bool) → Below m (numbers_of (why k (suc stage) arcs may (without b C) v))
        → Below m (numbers_of (cond c (cond d (picked stage (into arcs C v) (out arcs C v)) (why k (suc stage) arcs may (without b C) v)) (cond e (leads_to_none stage) (not_led_to stage))))
    go true true e r = (omega arith, (omega arith, (omega (arith, into_few arcs C v), (omega (arith, out_few arcs C v), tt))))
    go true false e r = r
    go false d true r = (omega arith, (omega arith, (omega arith, (omega arith, tt))))
    go false d false r = (omega arith, (omega arith, (omega arith, (omega arith, tt))))

numbers_below : (m : ℕ) (f : ℕ → Reason) (vs : List ℕ) → ((v : ℕ) → Below m (numbers_of (f v))) → Below m (joined numbers_of (map f vs))
numbers_below m f [] h = tt
numbers_below m f (v ∷ vs) h = below_append m (numbers_of (f v)) (joined numbers_of (map f vs)) (h v) (numbers_below m f vs h)

reasons_below : (g : Graph) (m : ℕ) → 2 < m → ports g < m → 1 + vertex_count g < m → Below m (joined numbers_of (reasons g))
unfolding reasons reason arcs
reasons_below g m two few l =
    numbers_below m (reason g) (range 0 (length g.labels))
    (λ v. why_below (arcs g) (selectable g) m two (subst (λ (n : ℕ). n < m) (sym (length_arcs (length g.labels) g.edges)) few) (vertex_count g) 1 l (vertices (vertex_count g)) v)

four : (r : Reason) → length (numbers_of r) ≡ 4
four (picked stage ins outs) = refl
four (not_led_to stage) = refl
four (leads_to_none stage) = refl

length_numbers_of : (rs : List Reason) → length (joined numbers_of rs) ≡ 4 * length rs
length_numbers_of [] = refl
length_numbers_of (r ∷ rs) = omega (arith, length-append (numbers_of r) (joined numbers_of rs), four r, length_numbers_of rs)

-- ---- the call

module _ (b : List ℕ) (clean : Below 256 b) where
  pub reasons_answer : (room work_room : ℕ) (c : Result) → reasons_call b room work_room ≡ answered c → (s : StoredGraph) × ReasonsOf b room s c
  unfolding reasoned fit
  reasons_answer room work_room c p =
      let q = read_unpaired b _ c (worked room_reasons work_room (reasoned b room) p) in
      let s = q.0 in
      let g = s.graph in
      let xs = joined numbers_of (reasons g) in
      let l = came (fit room (row 4 xs)) _ q.3 in
      let t = passed (leb (length (row 4 xs)) room) _ (answered (row 4 xs)) l.1 in
      let e : row 4 xs ≡ l.0 = same_answer t.1 in
      let made : ◌≡◌ {A = Result} (record { a = length g.labels; b = length (chosen g).ids; bytes = l.0; map = [] }) c = same_answer l.2 in
      let sound = read_sound b s clean q.1 in
      let formed = sound.version.grows g sound.formed in
      let low : Below (256 ^ 4) xs = reasons_below g (256 ^ 4) (omega arith) (omega (arith, formed.ports)) (omega (arith, formed.counts.nodes, formed.counts.edges)) in
      let n : length xs ≡ 4 * length g.labels = length_numbers_of (reasons g) ∙ ap (λ (k : ℕ). 4 * k) (reasons_length g) in
      let back : numbers 4 (length xs) l.0 ≡ xs =
      subst (λ (k : List ℕ). numbers 4 (length xs) k ≡ xs) (append-nil (row 4 xs) ∙ e) (numbers_row 4 xs [] low) in (
        s,
        subst (ReasonsOf b room s) made (record {
          stored = q.1;
          pairless = q.2;
          written = sym e;
          count = refl;
          cuts = refl;
          fits = subst (λ (k : List ℕ). length k ≤ room) e (leb-true _ _ t.0);
          back = subst (λ (k : ℕ). numbers 4 k l.0 ≡ xs) n back;
        }),
      )
