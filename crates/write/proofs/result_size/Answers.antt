-- `write::result_size` meets its contract.
-- Assumes nothing.
use mathlib.Core.Path.{sym, ◌∙◌}
use borrow.Author.Tests.{not-true, not-false, le-leb, lt-leb}
use Rattle.graph.specs.Answer.{◌else◌, ◌>>◌}
use Rattle.write.specs.Write.{result_size}
use Rattle.write.proofs.Results.{fitted_low, form_long}
use Rattle.write.proofs.result_size.Goals as goal

pub returns-then-not-within_limits : goal.returns-then-not-within_limits
unfolding result_size ◌else◌ ◌>>◌
returns-then-not-within_limits c = rw (sym c.within_limits.ensures ∙ not-true _ c.if-not-within_limits.true-raw)

pub form_bytes-bytes-requires : goal.form_bytes-bytes-requires
form_bytes-bytes-requires c = fitted_low _ c.requires (sym c.within_limits.ensures ∙ not-false _ c.if-not-within_limits.false-raw)

pub returns-then-room-bytes : goal.returns-then-room-bytes
unfolding result_size ◌else◌ ◌>>◌
returns-then-room-bytes c =
    let within = sym c.within_limits.ensures ∙ not-false _ c.if-not-within_limits.false-raw in
    let long = c.form_bytes-bytes.ensures ∙ form_long _ c.requires in
    rw (within, ← long, lt-leb _ _ c.if-room-bytes.true)

pub returns : goal.returns
unfolding result_size ◌else◌ ◌>>◌
returns c =
    let within = sym c.within_limits.ensures ∙ not-false _ c.if-not-within_limits.false-raw in
    let long = c.form_bytes-bytes.ensures ∙ form_long _ c.requires in
    rw (within, ← long, le-leb _ _ c.if-room-bytes.false)
