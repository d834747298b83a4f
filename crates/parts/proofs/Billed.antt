-- What pricing answered, in code, and the call that writes it.
-- Assumes nothing.
use mathlib.Core.List.{List}
use mathlib.Core.Path.{◌≡◌, refl, ap, ◌∙◌, subst}
use Prim.Native.Nat.{ℕ, ◌≤◌}
use native.Mathlib.Omega.{arith}
use lib.ListN.{length}
use lib.Seq.{sets}
use Rattle.le.specs.Le.{Below}
use Rattle.graph.specs.Answer.{Answer, refused, answered, writing}
use Rattle.graph.specs.Calls.{in_work_room}
use Rattle.graph.specs.Graph.{Graph}
use Rattle.graph.proofs.Answers.{worked}
use Rattle.graph.proofs.Places.{sets_lay}
use Rattle.choice.specs.Drawing.{chosen}
use Rattle.form.specs.Form.{meant_by, told, Gives}
use Rattle.form.specs.declared.Refusal.{Refusal}
use Rattle.std.specs.Prelude.{Ok}
use Rattle.std.specs.Prelude.{Result as Returned}
use Rattle.std.specs.Result.{IsErrAnd}
use Rattle.form.proofs.Answers.{passed_on, gives_done}
use Rattle.catalogue.specs.Price.{Priced, priced_graph, price, price_bytes, room_price, price_call}
use Rattle.catalogue.proofs.Calls.{long, call_written}
use Rattle.catalogue.proofs.Stored.{price_answer_lem, price_small}
use Rattle.parts.specs.Parts.{parts_of, billed, bill_of, Countable, bytes_of}
use Rattle.parts.specs.declared.Bill.{Bill}

-- the parts of a graph with its buffers are its parts list
pub billed_priced : (g : Graph) → billed (parts_of g.edges) (length (chosen g).ids) ≡ bill_of (priced_graph g)
unfolding priced_graph
billed_priced g = refl

-- at the exit of a `?`
pub told_passed : {T : Type 0} (r : Returned T Refusal) {a : Answer T} (x : Refusal) → IsErrAnd r (λ e. e ≡ x) → refused (meant_by x) ≡ a → told r ≡ a
told_passed r x h e = ap told (passed_on x h) ∙ e

-- ---- the call

-- its counters are those of a priced graph
pub countable : (b : List ℕ) (lent : ℕ) (p : Priced) → in_work_room room_price lent (price b) ≡ answered p → Below 256 b → Countable p.counts
countable b lent p e clean =
    let q = worked room_price lent (price b) e in
    record { twelve = (price_answer_lem b p q).1.twelve; few = (price_small b p clean q).counts }

pub call_done : (b old new : List ℕ) (lent : ℕ) (p : Priced) → in_work_room room_price lent (price b) ≡ answered p → 60 ≤ length old → (bill : Bill) → bill ≡ bill_of p → new ≡ sets old 0 (bytes_of bill)
    → Gives (price_call b (length old) lent) (Ok (record { a = 60; b = 0 })) old new
call_done b old new lent p e l bill is h =
    let n = long b (length old) lent p e in
    let form = price_bytes p in
    subst (λ (k : ℕ). Gives (price_call b (length old) lent) (Ok (record { a = k; b = 0 })) old new) n
    (gives_done (writing form 0) old new (call_written b (length old) lent p e l) (h ∙ ap (λ (y : Bill). sets old 0 (bytes_of y)) is ∙ sets_lay form old (omega (arith, n))))
