-- What the report says, by what reading and the choice answered. The list has room for every choice, so the choice is refused for a pending pair alone.
-- Assumes nothing.
use mathlib.Core.Bool.{Bool, true, false}
use mathlib.Core.List.{List, []}
use mathlib.Core.Path.{◌≡◌, refl, sym, ap, subst, ◌∙◌}
use Prim.Native.Nat.{ℕ, ◌+◌, ◌*◌, ◌^◌, ◌≤◌}
use native.Mathlib.Nat.{zero-mul}
use native.Mathlib.Omega.{arith}
use lib.Dec.{eqb}
use mir.Syntax.{w8}
use mir.Val.{Fits}
use lib.ListN.{length, get_or, drop, length-append}
use borrow.Author.Tests.{le-leb, eqb-true, eqb-false}
use Rattle.choice.specs.Calls.{listing, cycle_broken, cycle_breaking_nodes_call, room_cycle_breaking_nodes}
use Rattle.choice.specs.Drawing.{chosen}
use Rattle.form.specs.Form.{Gives, outcome, meant_by, meant, reading}
use Rattle.form.specs.Stored.{graph_of, format_of, Stored}
use Rattle.form.specs.declared.Done.{Done}
use Rattle.form.specs.declared.Format.{Format}
use Rattle.form.proofs.Answers.{refused_so, answered_so}
use Rattle.std.specs.Prelude.{Ok, Err}
use Rattle.std.specs.Prelude.{Result as Returned}
use Rattle.form.specs.declared.Refusal.{Refusal}
use Rattle.form.specs.declared.Sizes.{Sizes}
use Rattle.graph.specs.Answer as answer
use Rattle.graph.specs.Answer.{Answer, refused, answered, refusal, Result, lay, laid, ◌else◌, ◌>>=◌, ◌>>◌}
use Rattle.graph.specs.Calls.{unpaired, fit}
use Rattle.graph.specs.Graph as graph
use Rattle.graph.specs.Graph.{Graph, form1}
use Rattle.graph.specs.Read.{read_as}
use Rattle.graph.specs.Versions.{StoredGraph}
use Rattle.le.specs.Le.{Below, row}
use Rattle.le.specs.Rows.{row_at, Holds, span}
use Rattle.cycle.proofs.Few.{ascending_few}
use Rattle.choice.proofs.Graphs.{chosen_breaks}
use Rattle.graph.proofs.Verdicts.{in_room, unpaired_0, unpaired_8}
use Rattle.form.proofs.Stored.{stored}
use Rattle.graph.proofs.Steps.{same_answer}
use Rattle.graph.proofs.Versions.{first_alone}
use Rattle.le.proofs.Numbers.{below_each, below_widen, length_row, numbers_row}
use Rattle.read.specs.Steps.{measured}
use Rattle.text.specs.Text.{refused_line}
use Rattle.report.specs.Report.{drawing_text, told, report_text, list_room}

-- the bytes were read, by one that knows version 1 alone, as a graph of these sizes
pub record Alone (b : List ℕ) (z : Sizes) : Type 0 where
  pub stored : Stored b z
  pub alone : read_as form1 b ≡ answered (graph_of b)
  pub first : format_of b ≡ form1

-- what reading answered
module _ (b : List ℕ) {f : Format} (first : meant f ≡ form1) where
  as_first : measured f.width (read_as (meant f) b) ≡ measured form1.width (read_as form1 b)
  as_first = ap (λ (k : graph.Format). measured k.width (read_as k b)) first

  pub unread_alone : (r : answer.Refusal) → refused r ≡ measured f.width (read_as (meant f) b) → read_as form1 b ≡ refused r
  unread_alone r e = refused_so _ (read_as form1 b) r (e ∙ as_first)

  pub read_alone : ((i : ℕ) → Fits w8 (get_or b i 0)) → (z : Sizes) → answered z ≡ measured f.width (read_as (meant f) b) → Alone b z
  read_alone known z e =
      let t : Below 256 b = below_each 256 b (λ i l. omega (arith, known i)) in
      let p = answered_so _ (read_as form1 b) z (e ∙ as_first) in
      let whole = first_alone b p.0 t p.1 in
      let s = stored b t z (ap answered p.2 ∙ sym (ap reading whole)) in
      let same = same_answer (sym whole ∙ s.read_as) in
      record {
        stored = s;
        alone = p.1 ∙ ap (λ (k : StoredGraph). answered k.graph) same;
        first = sym (ap (λ (k : StoredGraph). k.format) same);
      }

-- what is told of a drawing of these sizes whose choice was answered with these counts and this list
pub record Drawing (b : List ℕ) (z : Sizes) (count free : ℕ) (new : List ℕ) : Type 0 where
  pub few : count ≤ form1.most.nodes
  pub held : Holds new (row_at 0 z.width) count
  pub text : drawing_text z.nodes z.edges z.ports free (span new (row_at 0 z.width) 0 count) ≡ report_text b

-- a row of ids at the front of bytes
span_laid : (w : ℕ) (ids old : List ℕ) → Below (256 ^ w) ids → span (lay (row w ids) old) (row_at 0 w) 0 (length ids) ≡ ids
unfolding span
span_laid w ids old h = rw zero-mul (numbers_row w ids _ h)

pub text_unread : (b : List ℕ) (r : answer.Refusal) → read_as form1 b ≡ refused r → refused_line r.no ≡ report_text b
unfolding report_text ◌>>=◌
text_unread b r e = rw e

module _ (b : List ℕ) (z : Sizes) (h : Alone b z) where
  abbrev s : Stored b z
  s = h.stored

  abbrev g : Graph
  g = graph_of b

  abbrev w : ℕ
  w = (format_of b).width

  abbrev cut : Result
  cut = record { a = length (chosen g).ids; b = (chosen g).free; bytes = row w (chosen g).ids; map = [] }

  -- what is told, and what the choice answers, by whether there is a pending pair
  text_paired : unpaired g ≡ refused (refusal 8) → refused_line 8 ≡ report_text b
  unfolding report_text ◌>>=◌
  text_paired p = rw (h.alone, p)

  text_pairless : unpaired g ≡ answered g → told (answered g) ≡ report_text b
  unfolding report_text ◌>>=◌
  text_pairless p = rw (h.alone, p)

  cut_paired : (room : ℕ) → unpaired g ≡ refused (refusal 8) → cycle_broken b room ≡ refused (refusal 8)
  unfolding cycle_broken ◌>>=◌
  cut_paired room p = rw (s.read_as, p)

  cut_pairless : (room : ℕ) → unpaired g ≡ answered g → length (row w (chosen g).ids) ≤ room → cycle_broken b room ≡ answered cut
  unfolding cycle_broken listing fit ◌>>=◌ ◌else◌ ◌>>◌
  cut_pairless room p fits = rw (s.read_as, p, le-leb (length (row w (chosen g).ids)) room fits)

  -- the chosen ids are few, and small enough for their width
  chosen_few : length (chosen g).ids ≤ form1.most.nodes
  chosen_few =
      let k = chosen_breaks g s.formed.proper in
      let most = subst (λ (f : graph.Format). length g.labels ≤ f.most.nodes) h.first s.formed.counts.nodes in
      omega (arith, ascending_few (length g.labels) (chosen g).ids k.ascends k.nodes, most)

  chosen_small : Below (256 ^ w) (chosen g).ids
  chosen_small = below_widen (chosen g).ids (omega (arith, s.formed.counts.nodes, s.usable.nodes)) (chosen_breaks g s.formed.proper).nodes

  module _ (old : List ℕ) (lent : ℕ) (list_room_lem : list_room ≤ length old) (work_room : room_cycle_breaking_nodes ≤ lent) where
    -- the two ways
    data Ways : Type 0 where
      paired : cycle_breaking_nodes_call b (length old) lent ≡ refused (refusal 8) → refused_line 8 ≡ report_text b → Ways
      pairless : cycle_breaking_nodes_call b (length old) lent ≡ answered cut → told (answered g) ≡ report_text b → Ways

    ways : Ways
    ways = go (eqb (length g.pairs) 0) refl
      where
        inside : cycle_breaking_nodes_call b (length old) lent ≡ cycle_broken b (length old)
        inside = in_room room_cycle_breaking_nodes lent (cycle_broken b (length old)) work_room

        fits : length (row w (chosen g).ids) ≤ length old
        fits = omega (arith, length_row w (chosen g).ids, chosen_few, ap (λ (f : graph.Format). length (chosen g).ids * f.width) h.first)

        go : (t : Bool) → eqb (length g.pairs) 0 ≡ t → Ways
        go false q = let p = unpaired_8 g (eqb-false _ _ q) in paired (inside ∙ cut_paired (length old) p) (text_paired p)
        go true q = let p = unpaired_0 g (eqb-true _ _ q) in pairless (inside ∙ cut_pairless (length old) p fits) (text_pairless p)

    module _ (new : List ℕ) where
      abbrev Given : Returned Done Refusal → Type 0
      Given r = Gives (cycle_breaking_nodes_call b (length old) lent) r old new

      -- the choice is refused for a pending pair, and then that is told
      pub text_refused : (x : Refusal) → Given (Err x) → refused_line (meant_by x).no ≡ report_text b
      text_refused x given = go ways
        where
          go : Ways → refused_line (meant_by x).no ≡ report_text b
          go (paired a t) =
              let q : refused (meant_by x) ≡ outcome (refused (refusal 8)) = given.result ∙ ap outcome a in
              let same : meant_by x ≡ refusal 8 = cc in
              ap (λ (y : answer.Refusal). refused_line y.no) same ∙ t
          go (pairless a t) =
              let q : refused (meant_by x) ≡ outcome (answered cut) = given.result ∙ ap outcome a in
              let o : ◌≡◌ {A = ℕ} 0 1 = cc in absurd (omega arith)

      -- otherwise it is told
      pub text_done : (d : Done) → Given (Ok d) → Drawing b z d.a d.b new
      text_done d given = go ways
        where
          go : Ways → Drawing b z d.a d.b new
          go (paired a t) =
              let q : answered d ≡ outcome (refused (refusal 8)) = given.result ∙ ap outcome a in
              let o : ◌≡◌ {A = ℕ} 0 1 = cc in absurd (omega arith)
          go (pairless a t) =
              let q : answered d ≡ outcome (answered cut) = given.result ∙ ap outcome a in
              let same : d ≡ record { a = cut.a; b = cut.b } = cc in
              let many = ap (λ (k : Done). k.a) same in
              let frees = ap (λ (k : Done). k.b) same in
              let holds : new ≡ lay cut.bytes old = given.buffer ∙ ap (λ (m : Answer Result). laid m old) a in
              let width : z.width ≡ w = ap (λ (y : Sizes). y.width) s.sizes in
              let back : span new (row_at 0 z.width) 0 d.a ≡ (chosen g).ids =
              (λ i. span (holds i) (row_at 0 (width i)) 0 (many i)) ∙ span_laid w (chosen g).ids old chosen_small in
              let long : length new ≡ length cut.bytes + length (drop (length cut.bytes) old) = ap length holds ∙ length-append cut.bytes _ in
              record {
                few = omega (arith, chosen_few);
                held = rw (width, many) (record { wide = s.usable.width; inside = omega (arith, length_row w (chosen g).ids) });
                text = (λ i. drawing_text (s.sizes i).nodes (s.sizes i).edges (s.sizes i).ports (frees i) (back i)) ∙ t;
              }
