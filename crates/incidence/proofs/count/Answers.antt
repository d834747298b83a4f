-- `incidence::count` meets its contract.
-- Assumes nothing.
use mathlib.Core.List.{List}
use mathlib.Core.Path.{refl, sym, ap, ◌∙◌, subst}
use Prim.Native.Nat.{ℕ, ◌*◌, ◌<◌}
use native.Mathlib.Omega.{arith}
use lib.ListN.{get_or, replicate}
use Rattle.le.specs.Le.{words}
use Rattle.le.proofs.Places.{length_words}
use lib.Seq.{sets}
use native.Mathlib.Nat.{zero-add}
use lib.ListN.{get_or-replicate, length-replicate}
use Rattle.le.proofs.Tables.{get_d_sets}
use Rattle.incidence.specs.Incidence.{source_in, CountedTo}
use Rattle.incidence.proofs.Counting.{counts_start}
use Rattle.incidence.proofs.Facts.{facts}
use Rattle.form.specs.Drawn.{graph_in}
use Rattle.incidence.proofs.count.Goals as goal

pub clear_words-requires : goal.clear_words-requires
clear_words-requires c = let f = facts c.args.drawing in omega (arith, f.nodes, f.few_nodes, c.requires)

pub loop-i-init : goal.loop-i-init
loop-i-init c =
    let a = c.args in
    let f = facts c.args.drawing in
    let o = c.clear_words in
    let n = 2 * a.drawing.sizes.nodes in (
      omega arith,
      refl,
      counts_start (graph_in a.drawing) f.known (source_in a.drawing) (words o.new.room)
          (λ y l.
          let h : y < n = omega (arith, f.nodes) in
          let k = length-replicate {A = ℕ} n 0 in
          ap (λ (W : List ℕ). get_or W y 0) o.ensures ∙ ap (λ (u : ℕ). get_or (sets (words a.room.now) 0 (replicate n 0)) u 0) (sym (zero-add y))
          ∙ get_d_sets (words a.room.now) 0 (replicate n 0) y (omega arith) (omega (arith, f.nodes, f.few_nodes, length_words a.room.now)) ∙ get_or-replicate n y 0 0 h),
      refl,
    )

pub returns : goal.returns
returns c =
    let a = c.args in
    let l = c.loop-i in
    subst (λ (n : ℕ). CountedTo (source_in a.drawing) (graph_in a.drawing) (words l.room) n) (omega arith) l.invariant.2
