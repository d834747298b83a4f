-- The ways out of reading and rewriting.
-- Assumes nothing.
use mathlib.Core.List.{List, [], ◌∷◌}
use mathlib.Core.Path.{◌≡◌, refl, ap, ◌∙◌}
use Prim.Native.Nat.{ℕ, ◌≤◌, ◌<◌}
use lib.ListN.{length}
use borrow.Author.Tests.{le-leb, lt-leb}
use Rattle.le.specs.Le.{row}
use Rattle.le.specs.Rows.{row_at, puts}
use Rattle.graph.specs.Answer.{answered, writing, lay, ◌else◌, ◌>>=◌, ◌>>◌}
use Rattle.graph.specs.Calls.{rewrite_step, sizes, fit, read_call}
use Rattle.graph.specs.Versions.{fitting}
use Rattle.graph.proofs.Places.{sets_lay}
use Rattle.form.specs.Form.{sizes_of, counts_of, Gives}
use Rattle.form.specs.Stored.{graph_of, Stored}
use Rattle.form.specs.declared.Refusal.TheVariants as why
use Rattle.std.specs.Prelude.{Ok, Err}
use Rattle.form.specs.declared.Sizes.{Sizes}
use Rattle.form.proofs.Answers.{gives_refused, gives_done}
use Rattle.write.specs.Write.{counted_as, fitted}

-- rewriting makes the graph that was read, of the same sizes in the version that it fits
pub read_again : {b : List ℕ} {z y : Sizes} → Stored b z → y ≡ fitted (counted_as z.nodes z.edges z.sources z.targets z.pairs) z.ports
    → (rewrite_step (graph_of b) ≡ answered (record { graph = graph_of b; id = 0 })) × (y ≡ sizes_of (fitting (graph_of b)) (graph_of b))
unfolding rewrite_step
read_again {b} {z} {y} s e = (refl, e ∙ ap (λ (x : Sizes). fitted (counts_of x) x.ports) s.sizes)

-- ---- the sizes

module _ {b : List ℕ} {z : Sizes} (s : Stored b z) (old : List ℕ) where
  six : List ℕ
  six = z.nodes ∷ z.edges ∷ z.ports ∷ z.sources ∷ z.targets ∷ z.pairs ∷ []

  six_are : six ≡ sizes (graph_of b)
  unfolding six
  six_are = ap (λ (y : Sizes). y.nodes ∷ y.edges ∷ y.ports ∷ y.sources ∷ y.targets ∷ y.pairs ∷ []) s.sizes

  pub sizes_10 : length old < 24 → Gives (read_call b (length old)) (Err why.NoRoom) old old
  unfolding fit ◌else◌ ◌>>◌ ◌>>=◌
  sizes_10 h = gives_refused why.NoRoom old (rw (s.read_as, lt-leb 24 (length old) h))

  pub sizes_0 : 24 ≤ length old → (new : List ℕ) → new ≡ puts old (row_at 0 4) 0 (z.nodes ∷ z.edges ∷ z.ports ∷ z.sources ∷ z.targets ∷ z.pairs ∷ [])
      → Gives (read_call b (length old)) (Ok (record { a = 24; b = 0 })) old new
  unfolding fit ◌else◌ ◌>>◌ ◌>>=◌ puts six
  sizes_0 h new e =
      gives_done (writing (row 4 (sizes (graph_of b))) 0) old new (rw (s.read_as, le-leb 24 (length old) h))
      (e ∙ sets_lay (row 4 six) old h ∙ ap (λ (ns : List ℕ). lay (row 4 ns) old) six_are)
