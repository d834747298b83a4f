-- `marks::visit` meets its contract.
-- Assumes nothing.
use Rattle.std.proofs.Common.{◌≡◌, ℕ, suc, ◌+◌, Bool, true, cond, List, ◌++◌, sym, ap, ◌∙◌, arith}
use borrow.Author.Tests.{not-true, not-false}
use Rattle.le.specs.Rows.{span}
use Rattle.le.proofs.Rows.{span_append}
use Rattle.marks.specs.Tables.{lowered, must_go, visited, visited_of, tested_all, went_of}
use Rattle.marks.proofs.Tables.{visit_none}
use Rattle.marks.proofs.visit.Goals as goal

pub returns-then-stays : goal.returns-then-stays
returns-then-stays c =
    let a = c.args in
    let s = span a.src.now a.r a.e.first a.e.sources in
    let t = span a.src.now a.r (a.e.first + a.e.sources) a.e.targets in
    let w = visit_none s t a.v a.room.now (not-true _ (sym c.stays.ensures ∙ c.if-stays.true)) in
    record { value = sym w.1; room_after = sym w.0 }

pub returns : goal.returns
unfolding visited visited_of
returns c =
    let a = c.args in
    let o = c.take_edge in
    let s = span a.src.now a.r a.e.first a.e.sources in
    let t = span a.src.now a.r (a.e.first + a.e.sources) a.e.targets in
    let low = lowered s t a.v a.room.now in
    let all = span_append a.src.now a.r a.e.first a.e.sources a.e.targets in
    let e : must_go s t a.v a.room.now ≡ true = not-false _ (sym c.stays.ensures ∙ c.if-stays.false) in
    let one : 1 + went_of (s ++ t) low ≡ suc (went_of (s ++ t) low) = omega arith in record { value = o.ensures.value ∙ ap (λ (l : List ℕ). 1 + went_of l low) all ∙ one ∙ sym (ap (λ (b : Bool). cond b (suc (went_of (s ++ t) low)) 0) e); room_after = o.ensures.room_after ∙ ap (λ (l : List ℕ). tested_all l low) all ∙ sym (ap (λ (b : Bool). cond b (tested_all (s ++ t) low) a.room.now) e) }
