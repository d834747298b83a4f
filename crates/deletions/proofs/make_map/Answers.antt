-- `deletions::make_map` meets its contract.
-- Assumes nothing.
use mathlib.Core.List.{List, []}
use mathlib.Core.Path.{sym, subst}
use Prim.Native.Nat.{ℕ, ◌+◌}
use lib.ListN.{replicate, length-replicate}
use Rattle.le.specs.Le.{Outside, words}
use Rattle.le.specs.Rows.{span}
use Rattle.le.proofs.Frames.{outside_sets, outside_trans}
use Rattle.le.proofs.Places.{length_words}
use Rattle.ledger.specs.Tables.{map_at}
use Rattle.deletions.specs.Sifts.{Marked}
use Rattle.deletions.proofs.Maps.{none_marked, mapped_by}
use native.Mathlib.Omega.{arith}
use Rattle.deletions.proofs.make_map.Goals as goal

pub mark-requires : goal.mark-requires
mark-requires c =
    let a = c.args in
    let W = words a.room.now in (
      c.requires.0,
      c.requires.1,
      c.requires.2,
      omega (arith, c.requires.3, c.clear_words.auto.room),
      subst (λ (X : List ℕ). Marked X a.n []) (sym c.clear_words.ensures) (none_marked W a.n (omega (arith, c.requires.2, c.requires.3, length_words a.room.now))),
    )

pub returns : goal.returns
returns c =
    let a = c.args in
    let W = words a.room.now in
    let n = a.n in
    let o₁ : Outside map_at (map_at + n) W (words c.clear_words.new.room) =
    subst (λ (X : List ℕ). Outside map_at (map_at + n) W X) (sym c.clear_words.ensures) (outside_sets map_at (map_at + n) W map_at (replicate n 0) (omega arith) (omega (arith, length-replicate {A = ℕ} n 0))) in (
      mapped_by (words c.mark.new.room) (words c.number_left.new.room) n (span a.s.now a.r 0 a.listed) c.mark.ensures.0 c.number_left.ensures.0,
      outside_trans o₁ (outside_trans c.mark.ensures.1 c.number_left.ensures.1),
    )
