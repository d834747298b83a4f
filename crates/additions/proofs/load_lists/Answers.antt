-- `additions::load_lists` meets its contract.
-- Assumes nothing.
use mathlib.Core.List.{List}
use mathlib.Core.Path.{◌≡◌, sym, ap, ◌∙◌, subst}
use Prim.Native.Nat.{ℕ, ◌+◌, ◌*◌}
use lib.Seq.{sets}
use Rattle.le.specs.Le.{words}
use Rattle.le.specs.Rows.{span}
use Rattle.le.proofs.Places.{length_words}
use Rattle.le.proofs.Rows.{at_row, at_span, holds_less}
use Rattle.graph.specs.Lists.{flat}
use Rattle.form.specs.Form.{lists_from}
use Rattle.form.specs.Stored.{graph_of}
use Rattle.form.specs.declared.Sizes.{Sizes}
use Rattle.form.proofs.Stored.{stored_rows, stored_known}
use Rattle.ledger.specs.Tables.{labels_at, sources_at, targets_at, pairs_at}
use Rattle.ledger.specs.Ledger.{Draws}
use Rattle.additions.specs.Loaded.{without_edges, loaded_to}
use Rattle.additions.proofs.Loads.{lists_loaded}
use native.Mathlib.Omega.{arith}
use Rattle.form.proofs.Drawn.{stored_in}
use Rattle.additions.proofs.load_lists.Goals as goal

pub put_words-requires : goal.put_words-requires
put_words-requires c =
    let r = stored_rows (stored_in c.args.drawing) in
    let q = c.requires in
    let n = (stored_in c.args.drawing).within.counts.nodes in
    let z = ap (λ (y : Sizes). y.nodes) (stored_in c.args.drawing).sizes in
    (at_row c.labels.ensures (holds_less r.labels_held _ (omega arith)), omega arith)

pub put_words-requires-2 : goal.put_words-requires-2
put_words-requires-2 c =
    let r = stored_rows (stored_in c.args.drawing) in
    let q = c.requires in
    let n = (stored_in c.args.drawing).within.counts.sources in
    let z = ap (λ (y : Sizes). y.sources) (stored_in c.args.drawing).sizes in
    (at_row c.body-body.ensures (holds_less r.body_held _ (omega arith)), omega arith)

pub put_words-requires-3 : goal.put_words-requires-3
put_words-requires-3 c =
    let r = stored_rows (stored_in c.args.drawing) in
    let q = c.requires in
    let n = (stored_in c.args.drawing).within.counts.targets in
    let z = ap (λ (y : Sizes). y.targets) (stored_in c.args.drawing).sizes in
    (at_row c.body-body.ensures (holds_less r.body_held _ (omega arith)), omega arith)

pub put_words-requires-4 : goal.put_words-requires-4
put_words-requires-4 c =
    let r = stored_rows (stored_in c.args.drawing) in
    let q = c.requires in
    let n = (stored_in c.args.drawing).within.counts.pairs in
    let z = ap (λ (y : Sizes). y.pairs) (stored_in c.args.drawing).sizes in
    (at_row c.body-body.ensures (holds_less r.body_held _ (omega arith)), omega arith)

pub returns : goal.returns
returns c =
    let a = c.args in
    let S = stored_in c.args.drawing in
    let W = words a.room.now in
    let b = a.drawing.src.now in
    let z = a.drawing.sizes in
    let g = graph_of b in
    let r = stored_rows S in
    let k = stored_known S in
    let is : z ≡ _ = S.sizes in
    let body = c.body-body.ensures in
    let l₁ = at_span b 0 z.nodes c.labels.ensures r.labels in
    let at = c.lists-lists.ensures.0 in
    let l₂ = (λ i. span b c.body-body.result (at i) z.sources) ∙ at_span b (lists_from z) z.sources body r.sources in
    let l₃ = (λ i. span b c.body-body.result (at i + z.sources) z.targets) ∙ at_span b (lists_from z + z.sources) z.targets body r.targets in
    let l₄ = (λ i. span b c.body-body.result (at i + z.sources + z.targets) (2 * z.pairs)) ∙ at_span b (lists_from z + z.sources + z.targets) (2 * z.pairs) body r.pairs in
    let e : words c.put_words-4.new.room ≡ sets (sets (sets (sets W labels_at g.labels) sources_at g.sources) targets_at g.targets) pairs_at (flat g.pairs) =
    c.put_words-4.ensures ∙ (λ i. sets ((c.put_words-3.ensures ∙ (λ i. sets ((c.put_words-2.ensures ∙ (λ i. sets ((c.put_words.ensures ∙ ap (sets W labels_at) l₁) i) sources_at (l₂ i))) i) targets_at (l₃ i))) i) pairs_at (l₄ i)) in
    let w = S.within.counts in
    subst (λ (X : List ℕ). Draws X (without_edges z 0 0) (loaded_to g 0)) (sym e)
    (lists_loaded W z g (omega (arith, c.requires, length_words a.room.now)) (rw is w) (sym (ap (λ (y : Sizes). y.nodes) is)) (sym (ap (λ (y : Sizes). y.sources) is)) (sym (ap (λ (y : Sizes). y.targets) is))
    (sym (ap (λ (y : Sizes). y.pairs) is)) k.sources k.targets k.pairs)
