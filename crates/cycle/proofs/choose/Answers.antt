-- `cycle::choose` meets its contract.
-- Assumes nothing.
use mathlib.Core.Path.{sym, ap, subst}
use native.Mathlib.Omega.{arith}
use lib.ListN.{length}
use Rattle.form.specs.Form.{Gives}
use Rattle.form.specs.Stored.{format_of}
use Rattle.form.specs.declared.Sizes.{Sizes}
use Rattle.graph.specs.Answer.{Answer, Result}
use Rattle.form.proofs.Answers.{gives_passed}
use Rattle.form.proofs.Stored.{stored_rows}
use Rattle.cycle.proofs.Begin.{drawn}
use Rattle.cycle.proofs.Calls.{keeping_refused, keeping_counted, keeping_listed_lem}
use Rattle.form.proofs.Drawn.{stored_in}
use Rattle.cycle.proofs.choose.Goals as goal

pub returns-in_err-free : goal.returns-in_err-free
returns-in_err-free c =
    let a = c.args in
    gives_passed _ _ c.from_residual.ensures.1 (keeping_refused (drawn c.args.drawing) c.in_err-free.ensures (format_of a.drawing.src.now) (length a.list.now))

pub put_answer-requires : goal.put_answer-requires
put_answer-requires c =
    let d = drawn c.args.drawing in
    record {
      room_choice_in_bounds = (omega (arith, c.requires.room_choice_in_bounds, c.flag_nodes.auto.room), (stored_rows (stored_in c.args.drawing)).low.width, d.few_nodes, d.few);
      free_len = keeping_counted d c.in_ok-free.ensures;
    }

pub returns : goal.returns
returns c =
    let a = c.args in
    let f = format_of a.drawing.src.now in
    subst (λ (x : Answer Result). Gives x c.put_answer.result a.list.now c.put_answer.new.list)
    (sym (keeping_listed_lem (drawn c.args.drawing) c.in_ok-free.ensures f (length a.list.now)))
    (c.put_answer.ensures f (ap (λ (y : Sizes). y.width) (sym (stored_in c.args.drawing).sizes)))
