-- The numbers of the call's answer fit their bits, and no refusal is 0.
-- Assumes nothing.
use mathlib.Core.List.{List}
use mathlib.Core.Path.{ap}
use Prim.Native.Nat.{ℕ}
use native.Mathlib.Omega.{arith}
use Rattle.graph.specs.Answer.{Result}
use Rattle.packing.specs.Packed.{Ranged}
use Rattle.catalogue.specs.Price.{price_call}
use Rattle.catalogue.proofs.RefusedBy.{price_by, price_refused_in}
use Rattle.catalogue.proofs.Stored.{price_call_answer}

pub price_ranged : (b : List ℕ) (room work_room : ℕ) → Ranged (price_call b room work_room)
price_ranged b room work_room = record {
  no = λ r e. price_refused_in (price_by b room work_room) e;
  numbers = λ m e.
      let h = price_call_answer b room work_room m e in
      (omega (arith, ap (λ (x : Result). x.a) h.4, h.5), omega (arith, ap (λ (x : Result). x.b) h.4));
}
