-- `additions::log_ports` meets its contract.
-- Assumes nothing.
use mathlib.Core.List.{List, [], ◌∷◌, ◌++◌}
use mathlib.Core.Path.{◌≡◌, sym, ap, ◌∙◌}
use Prim.Native.Nat.{ℕ, suc, ◌+◌, ◌*◌}
use lib.ListN.{length, get_or, take}
use lib.Seq.{sets}
use Rattle.std.proofs.Math.Seq.{take-suc}
use Rattle.std.proofs.lemmas.List.{get_or-take, length-take-le, take_all}
use Rattle.le.specs.Le.{words}
use Rattle.graph.specs.Lists.{flat}
use Rattle.ledger.specs.Tables.{log_at}
use Rattle.ledger.specs.Ledger.{ports_of}
use Rattle.ledger.proofs.Rooms.{port_next}
use native.Mathlib.Omega.{arith}
use Rattle.additions.proofs.log_ports.Goals as goal

-- a list without its last number, and that number
last : (ids : List ℕ) (k : ℕ) → length ids ≡ k + 1 → take k ids ++ (get_or ids k 0 ∷ []) ≡ ids
last ids k e = sym (take-suc ids k 0 (omega arith)) ∙ take_all (suc k) ids (omega arith)

pub loop-k-preserved : goal.loop-k-preserved
loop-k-preserved g c =
    let a = c.args in
    let l = c.loop-k in
    let W = words a.room.now in (
      omega arith,
      c.put_pair.auto.room ∙ l.invariant.1,
      λ ids long each.
          let front = take l.k ids in
          let shorter : length front ≡ l.k = length-take-le l.k ids (omega arith) in
          let at : log_at + 2 * (a.ports + l.k) ≡ log_at + 2 * a.ports + 2 * length front = omega arith in
          let sofar = l.invariant.2 front shorter (λ i id less of. each i id (omega arith) of ∙ sym (get_or-take l.k ids i 0 less)) in
          let is : c.node.result ≡ get_or ids l.k 0 = each l.k c.node.result (omega arith) c.node.ensures in
          c.put_pair.ensures ∙ (λ i. sets (sofar i) (at i) (a.half ∷ is i ∷ []))
          ∙ port_next W (log_at + 2 * a.ports) a.half front (get_or ids l.k 0)
          ∙ ap (λ (ns : List ℕ). sets W (log_at + 2 * a.ports) (flat (ports_of a.half ns))) (last ids l.k long),
    )
