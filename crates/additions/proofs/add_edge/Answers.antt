-- `additions::add_edge` meets its contract.
-- Assumes nothing.
use mathlib.Core.List.{List}
use mathlib.Core.Path.{◌≡◌, refl, sym, ap, ◌∙◌, subst}
use Prim.Native.Nat.{ℕ, ◌+◌, ◌*◌, ◌≤◌}
use lib.ListN.{length, set}
use lib.Seq.{sets}
use Rattle.le.specs.Le.{words}
use Rattle.le.specs.Rows.{entry, span}
use Rattle.le.proofs.Rows.{length_span, span_at}
use Rattle.graph.specs.Build.{new_edge}
use Rattle.graph.specs.Graph.{largest}
use Rattle.graph.specs.Lists.{flat}
use Rattle.ledger.specs.Tables.{log_at, edge_labels_at}
use Rattle.ledger.specs.Ledger.{drawing, Draws, more, ports_of, edge_ports}
use Rattle.ledger.proofs.Added.{edge_added, draws_as}
use Rattle.ledger.proofs.Rooms.{ports_then}
use native.Mathlib.Omega.{arith}
use Rattle.std.proofs.Common.{rules}
use Rattle.additions.proofs.add_edge.Goals as goal

pub returns : goal.returns
returns c =
    let a = c.args in
    let W = words a.room.now in
    let z = a.z in
    let s = span a.s.now a.r a.j a.sources in
    let t = span a.s.now a.r (a.j + a.sources) a.targets in
    let ls : length s ≡ a.sources = length_span a.s.now a.r a.j a.sources in
    let lt : length t ≡ a.targets = length_span a.s.now a.r (a.j + a.sources) a.targets in
    let Y = set W (edge_labels_at + z.edges) a.label in
    let at : log_at + 2 * (z.ports + a.sources) ≡ log_at + 2 * z.ports + 2 * a.sources = omega arith in
    let row = entry a.s.now a.r in
    let firsts = c.log_ports.ensures s ls
    (λ k id l p. let is : id ≡ row (a.j + k) = search rules in is ∙ sym (span_at a.s.now a.r a.j a.sources k l)) in
    let seconds = c.log_ports-2.ensures t lt
    (λ k id l p. let is : id ≡ row (a.j + a.sources + k) = search rules in is ∙ sym (span_at a.s.now a.r (a.j + a.sources) a.targets k l)) in
    let e : words c.log_ports-2.new.room ≡ sets Y (log_at + 2 * z.ports) (flat (edge_ports z.edges s t)) =
    seconds
    ∙ (λ i. sets (firsts i) (at i) (flat (ports_of (2 * z.edges + 1) t)))
    ∙ ap (λ (X : List ℕ). sets (sets X (log_at + 2 * z.ports) (flat (ports_of (2 * z.edges) s))) (log_at + 2 * z.ports + 2 * a.sources) (flat (ports_of (2 * z.edges + 1) t))) c.set_word.ensures
    ∙ ports_then Y (log_at + 2 * z.ports) (2 * z.edges) (2 * z.edges + 1) s t a.sources ls in
    let P = c.requires in
    let hp : z.ports + (length s + length t) ≤ largest.most_ports = omega (arith, P.sound.2, ls, lt) in
    subst (λ (X : List ℕ). Draws X (more z 0 1 (a.sources + a.targets) 0) (new_edge a.label s t (drawing W z))) (sym e)
    (draws_as (λ k. more z 0 1 (ls k + lt k) 0) refl (edge_added W z P.sound.0 a.label s t P.sound.1 hp P.holds.1 P.holds.2))
