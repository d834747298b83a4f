-- `grouping::put_edge` meets its contract.
-- Assumes nothing.
use mathlib.Core.List.{[], ◌∷◌, ◌++◌}
use mathlib.Core.Path.{◌≡◌, ◌∙◌}
use Prim.Native.Nat.{ℕ, ◌+◌, ◌-◌, ◌*◌, ◌^◌, ◌<◌}
use lib.ListN.{length, length-append}
use Rattle.le.specs.Le.{words}
use Rattle.le.specs.Rows.{puts}
use Rattle.le.proofs.Rows.{holds_less, holds_same, holds_index}
use Rattle.write.proofs.Grows.{put_length}
use Rattle.write.proofs.Results.{put_then}
use Rattle.write.proofs.Parts.{counts_last}
use Rattle.ledger.specs.Tables.{log_at}
use Rattle.ledger.specs.Ledger.{nodes_at, log_in}
use Rattle.ledger.proofs.Words.{length_pairs_in}
use Rattle.grouping.proofs.Walks.{nodes_few}
use native.Mathlib.Omega.{arith}
use Rattle.grouping.proofs.put_edge.Goals as goal
use Rattle.grouping.proofs.put_edge.Goals.{After-put_half-arg-1, After-put_half-arg-2-1, After-put_two-arg-1}

-- how many numbers the edge has
long : (c : After-put_half-arg-1) → let log = log_in (words c.args.room.now) c.args.z in
    length (nodes_at (2 * c.args.edge) log ++ nodes_at (2 * c.args.edge + 1) log) ≡ length (nodes_at (2 * c.args.edge) log) + length (nodes_at (2 * c.args.edge + 1) log)
long c = let log = log_in (words c.args.room.now) c.args.z in length-append (nodes_at (2 * c.args.edge) log) (nodes_at (2 * c.args.edge + 1) log)

-- how many numbers the edge has
long_2 : (c : After-put_half-arg-2-1) → let log = log_in (words c.args.room.now) c.args.z in
    length (nodes_at (2 * c.args.edge) log ++ nodes_at (2 * c.args.edge + 1) log) ≡ length (nodes_at (2 * c.args.edge) log) + length (nodes_at (2 * c.args.edge + 1) log)
long_2 c = let log = log_in (words c.args.room.now) c.args.z in length-append (nodes_at (2 * c.args.edge) log) (nodes_at (2 * c.args.edge + 1) log)

-- few enough for a count
few : (c : After-put_two-arg-1) (half : ℕ) → length (nodes_at half (log_in (words c.args.room.now) c.args.z)) < 2 ^ 32
few c half = let W = words c.args.room.now in
    omega (arith, nodes_few half (log_in W c.args.z), length_pairs_in W log_at c.args.z.ports, c.requires.0.sound.few)

pub overflow_add-first : goal.overflow_add-first
overflow_add-first c = omega (arith, holds_index c.requires.2)

pub overflow_mul-edge : goal.overflow_mul-edge
overflow_mul-edge c = let w = c.requires.0.sound.within in let e = c.requires.1 in omega arith

pub put_half-middle-requires : goal.put_half-middle-requires
put_half-middle-requires c = let e = c.requires.1 in (c.requires.0, omega arith, holds_less c.requires.2 _ (omega (arith, long c)), c.requires.3)

pub overflow_mul-edge-2 : goal.overflow_mul-edge-2
overflow_mul-edge-2 c = let w = c.requires.0.sound.within in let e = c.requires.1 in omega arith

pub overflow_add-edge : goal.overflow_add-edge
overflow_add-edge c = let w = c.requires.0.sound.within in let e = c.requires.1 in omega arith

pub put_half-end-requires : goal.put_half-end-requires
put_half-end-requires c =
    let e = c.requires.1 in
    let p = c.put_half-middle.ensures in
    (c.requires.0, omega arith, holds_same (holds_less c.requires.2 _ (omega (arith, long_2 c, p.next))) _ (put_length p), c.requires.3)

pub overflow_sub-middle : goal.overflow_sub-middle
overflow_sub-middle c = omega (arith, c.put_half-middle.ensures.next)

pub overflow_sub-end : goal.overflow_sub-end
overflow_sub-end c = omega (arith, c.put_half-end.ensures.next)

pub put_two-requires : goal.put_two-requires
put_two-requires c =
    let p = c.put_half-middle.ensures in
    let q = c.put_half-end.ensures in
    let k = few c in
    let a = c.args in
    (holds_same (holds_less c.requires.2 _ (omega arith)) _ (put_length q ∙ put_length p), omega (arith, p.next, k (2 * a.edge)), omega (arith, q.next, k (2 * a.edge + 1)))

pub returns : goal.returns
returns c =
    let a = c.args in
    let log = log_in (words a.room.now) a.z in
    let s = nodes_at (2 * a.edge) log in
    let t = nodes_at (2 * a.edge + 1) log in
    let p = c.put_half-middle.ensures in
    let q = c.put_half-end.ensures in
    let both = put_then p q in
    let first : c.put_half-middle.result - (a.at + 2) ≡ length s = omega (arith, p.next) in
    let second : c.put_half-end.result - c.put_half-middle.result ≡ length t = omega (arith, q.next) in
    record {
      stored = c.put_two.ensures ∙ (λ i. puts (both.stored i) a.r a.at (first i ∷ second i ∷ [])) ∙ counts_last a.out.now a.r a.at (length s) (length t) (s ++ t);
      next = omega (arith, p.next, q.next, length-append s t);
    }
