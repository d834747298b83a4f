-- `pieces::put_head` meets its contract.
-- Assumes nothing.
use mathlib.Core.List.{[]}
use mathlib.Core.Path.{refl, sym, ◌∙◌}
use native.Mathlib.Omega.{arith}
use Rattle.le.specs.Rows.{span}
use Rattle.le.proofs.Rows.{holds_less}
use Rattle.write.proofs.Results.{drawn_start}
use Rattle.pieces.proofs.Drawn.{more_labels}
use Rattle.pieces.proofs.Held.{held}
use Rattle.pieces.proofs.put_head.Goals as goal

pub label_row-requires : goal.label_row-requires
label_row-requires c = c.requires.0.low

pub copy_numbers-requires : goal.copy_numbers-requires
copy_numbers-requires c = (held c.requires.0.labels _ c.label_row.ensures _ c.put_header.auto.out _ (omega arith), holds_less c.requires.1 _ (omega arith))

pub returns : goal.returns
returns c =
    let a = c.args in
    let old = a.out.now in
    more_labels old a.y [] (span a.src.now a.labels 0 a.n) (c.put_header.ensures ∙ sym (drawn_start old a.y))
    c.copy_numbers.ensures c.label_row.ensures refl refl
