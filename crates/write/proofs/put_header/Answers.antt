-- `write::put_header` meets its contract.
-- Assumes nothing.
use mathlib.Core.Path.{◌≡◌, ap, ◌∙◌}
use mathlib.Core.List.{[], ◌∷◌, ◌++◌}
use Prim.Native.Nat.{ℕ, ◌+◌, ◌*◌}
use native.Mathlib.Omega.{arith}
use lib.Seq.{sets}
use Rattle.le.specs.Le.{bytes, row}
use Rattle.le.specs.Rows.{puts}
use Rattle.graph.specs.Form.{mark}
use Rattle.graph.proofs.Versions.{sizes_version}
use Rattle.form.specs.Form.{counts_of}
use Rattle.form.specs.declared.Sizes.{Sizes}
use Rattle.write.specs.Write.{headed}
use Rattle.write.proofs.put_header.Goals as goal

pub put_mark-requires : goal.put_mark-requires
put_mark-requires c =
    let y = c.args.y in
    (omega arith, omega (arith, c.version_of.ensures, (sizes_version (counts_of y) y.ports).usable.version))

pub returns : goal.returns
unfolding headed puts
returns c =
    let a = c.args in
    let y = a.y in
    let wide = ap (λ (z : Sizes). z.width) c.requires.1 in
    let version = c.version_of.ensures in
    let marked = c.put_mark.ensures ∙ ap (λ (v : ℕ). sets a.out.now 0 (mark ++ bytes 2 v)) version in
    let start : 5 + 0 * y.width ≡ 5 = omega arith in
    c.put_counts.ensures ∙ (λ i. sets (marked i) (start i) (row (wide i) (y.nodes ∷ y.edges ∷ y.sources ∷ y.targets ∷ y.pairs ∷ [])))
