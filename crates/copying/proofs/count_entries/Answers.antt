-- `copying::count_entries` meets its contract.
-- Assumes nothing.
use mathlib.Core.List.{List}
use mathlib.Core.Path.{ap, ◌∙◌}
use Prim.Native.Nat.{ℕ, ◌+◌}
use lib.ListN.{length}
use Rattle.form.proofs.Drawn.{stored_in}
use Rattle.graph.specs.Lists.{keep}
use Rattle.graph.specs.Merge.{looked}
use Rattle.links.specs.Links.{cells, is_listed}
use Rattle.rewriting.specs.Rewriting.{ids_at}
use Rattle.rewriting.proofs.Parts.{lists_are, lists_read}
use native.Mathlib.Omega.{arith}
use Rattle.copying.proofs.count_entries.Goals as goal

pub count_part-requires-clause-ids : goal.count_part-requires-clause-ids
count_part-requires-clause-ids g c = rw c.lists-lists.ensures.0 (lists_read (stored_in c.args.drawing))

pub returns : goal.returns
returns g c = (
  omega (arith, c.count_edges.ensures.0, c.count_part.ensures.0),
  λ nodes map looks.
      let d = c.args.drawing in
      let z = d.sizes in
      let kept : List ℕ → ℕ = λ xs. length (keep (is_listed nodes (cells c.args.table.now)) (looked map xs)) in
      let edges = c.count_edges.ensures.1 nodes map looks in
      let lists = c.count_part.ensures.1 nodes map looks
      ∙ ap (λ (j : ℕ). kept (ids_at d.src.now z j (z.sources + z.targets))) c.lists-lists.ensures.0 ∙ ap kept (lists_are (stored_in d)) in
      λ i. edges i + lists i,
)
