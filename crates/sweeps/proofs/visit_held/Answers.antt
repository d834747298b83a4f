-- `sweeps::visit_held` meets its contract.
-- Assumes nothing.
use mathlib.Core.Path.{sym, ◌∙◌, subst}
use mathlib.Core.List.{List}
use Prim.Native.Nat.{ℕ, ◌+◌}
use Rattle.le.specs.Rows.{span}
use Rattle.marks.specs.Tables.{Alike}
use Rattle.marks.proofs.Tables.{visit_none}
use Rattle.sweeps.proofs.Hints.{alike_is}
use Rattle.sweeps.proofs.visit_held.Goals as goal

pub returns-then-is_held : goal.returns-then-is_held
returns-then-is_held c =
    let a = c.args in
    let s = span a.src.now a.r a.e.first a.e.sources in
    let t = span a.src.now a.r (a.e.first + a.e.sources) a.e.targets in
    let w = visit_none s t a.v a.room.now (c.is_held.ensures c.if-is_held.true) in
    record { value = sym w.1; alike = alike_is (sym w.0) }

pub returns : goal.returns
returns c =
    let o = c.visit-k in
    let h = c.hold in
    record { value = sym c.if-k-ne0.false ∙ o.ensures.value; alike = subst (λ (q : List ℕ). Alike q h.new.room) o.ensures.room_after h.ensures }
