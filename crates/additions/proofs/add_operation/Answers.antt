-- `additions::add_operation` meets its contract.
-- Assumes nothing.
use mathlib.Core.List.{List, ◌++◌}
use mathlib.Core.Path.{◌≡◌, refl, sym, ap, ◌∙◌, subst}
use Prim.Native.Nat.{ℕ, ◌+◌, ◌*◌, ◌≤◌}
use lib.ListN.{length, set, length-append}
use lib.Seq.{sets}
use Rattle.le.specs.Le.{words}
use Rattle.le.specs.Rows.{span}
use Rattle.le.proofs.Rows.{length_span, span_append}
use Rattle.graph.specs.Graph.{largest}
use Rattle.graph.specs.Build.{new_operation}
use Rattle.graph.specs.Lists.{flat, range}
use Rattle.graph.proofs.Lists.{length_range, get_d_range}
use Rattle.ledger.specs.Tables.{log_at, labels_at, edge_labels_at}
use Rattle.ledger.specs.Ledger.{drawing, Draws, more, ports_of, edge_ports}
use Rattle.ledger.proofs.Added.{operation_added, draws_as}
use Rattle.ledger.proofs.Rooms.{ports_then}
use native.Mathlib.Omega.{arith}
use Rattle.std.proofs.Common.{rules}
use Rattle.additions.proofs.add_operation.Goals as goal

pub returns : goal.returns
returns c =
    let a = c.args in
    let P = c.requires in
    let W = words a.room.now in
    let z = a.z in
    let s = span a.s.now a.r 0 a.sources in
    let t = span a.s.now a.r a.sources a.targets in
    let ls : length s ≡ a.sources = length_span a.s.now a.r 0 a.sources in
    let lt : length t ≡ a.targets = length_span a.s.now a.r a.sources a.targets in
    let z₀ : 0 + a.sources ≡ a.sources = omega arith in
    let both : span a.s.now a.r 0 (a.sources + a.targets) ≡ s ++ t =
    span_append a.s.now a.r 0 a.sources a.targets ∙ ap (λ (k : ℕ). s ++ span a.s.now a.r k a.targets) z₀ in
    let lb : length (s ++ t) ≡ a.sources + a.targets = length-append s t ∙ (λ k. ls k + lt k) in
    let Y = set (sets W (labels_at + z.nodes) (s ++ t)) (edge_labels_at + z.edges) a.label in
    let log = log_at + 2 * z.ports in
    let x = range z.nodes a.sources in
    let y = range (z.nodes + a.sources) a.targets in
    let at : log_at + 2 * (z.ports + a.sources) ≡ log + 2 * a.sources = omega arith in
    let first : words c.set_word.new.room ≡ Y =
    c.set_word.ensures ∙ ap (λ (X : List ℕ). set X (edge_labels_at + z.edges) a.label) (c.put_words.ensures ∙ ap (sets W (labels_at + z.nodes)) both) in
    let firsts = c.log_ports.ensures x (length_range z.nodes a.sources)
    (λ k id l p. let is : id ≡ z.nodes + k = search rules in is ∙ sym (get_d_range z.nodes a.sources k l)) in
    let seconds = c.log_ports-2.ensures y (length_range (z.nodes + a.sources) a.targets)
    (λ k id l p. let is : id ≡ z.nodes + a.sources + k = search rules in is ∙ sym (get_d_range (z.nodes + a.sources) a.targets k l)) in
    let e : words c.log_ports-2.new.room ≡ sets Y log (flat (edge_ports z.edges x y)) =
    seconds ∙ (λ i. sets (firsts i) (at i) (flat (ports_of (2 * z.edges + 1) y)))
    ∙ ap (λ (X : List ℕ). sets (sets X log (flat (ports_of (2 * z.edges) x))) (log + 2 * a.sources) (flat (ports_of (2 * z.edges + 1) y))) first
    ∙ ports_then Y log (2 * z.edges) (2 * z.edges + 1) x y a.sources (length_range z.nodes a.sources) in
    let f : sets Y log (flat (edge_ports z.edges (range z.nodes (length s)) (range (z.nodes + length s) (length t)))) ≡ sets Y log (flat (edge_ports z.edges x y)) =
    λ k. sets Y log (flat (edge_ports z.edges (range z.nodes (ls k)) (range (z.nodes + ls k) (lt k)))) in
    let hn : z.nodes + length (s ++ t) ≤ largest.most.nodes = omega (arith, P.sound.1, lb) in
    let hp : z.ports + (length s + length t) ≤ largest.most_ports = omega (arith, P.sound.3, ls, lt) in
    subst (λ (X : List ℕ). Draws X (more z (a.sources + a.targets) 1 (a.sources + a.targets) 0) (new_operation a.label s t (drawing W z))) (f ∙ sym e)
    (draws_as (λ k. more z (lb k) 1 (ls k + lt k) 0) refl (operation_added W z P.sound.0 a.label s t hn P.sound.2 hp))
