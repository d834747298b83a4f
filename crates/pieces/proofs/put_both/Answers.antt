-- `pieces::put_both` meets its contract.
-- Assumes nothing.
use native.Mathlib.Omega.{arith}
use Rattle.le.proofs.Rows.{holds_less, holds_same, holds_index, length_span, puts_append}
use Rattle.pieces.specs.Lent.{lent}
use Rattle.pieces.proofs.put_both.Goals as goal

pub copy_numbers-requires : goal.copy_numbers-requires
copy_numbers-requires c = (holds_less c.requires.0 _ (omega arith), holds_less c.requires.1 _ (omega arith))

pub overflow_add-k : goal.overflow_add-k
overflow_add-k c = omega (arith, holds_index c.requires.0)

pub copy_numbers-requires-2 : goal.copy_numbers-requires-2
copy_numbers-requires-2 c = (holds_less (holds_same c.requires.0 _ c.copy_numbers.auto.d) _ (omega arith), holds_less c.requires.2 _ (omega arith))

pub returns : goal.returns
returns c =
    let a = c.args in
    let first = lent a.a.now a.width a.m in
    cc (
      c.copy_numbers.ensures,
      c.copy_numbers-2.ensures,
      puts_append a.out.now a.r a.k first (lent a.b.now a.width a.n),
      length_span a.a.now _ 0 a.m,
    )
