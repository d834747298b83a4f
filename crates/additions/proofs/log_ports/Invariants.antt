-- What the loops of `additions::log_ports` keep.
-- Assumes nothing.
use mathlib.Core.List.{List}
use mathlib.Core.Path.{◌≡◌}
use Prim.Native.Nat.{ℕ, ◌+◌, ◌-◌, ◌*◌, ◌≤◌, ◌<◌}
use lib.ListN.{length, get_or}
use lib.Seq.{sets}
use Rattle.le.specs.Le.{words}
use Rattle.graph.specs.Lists.{flat}
use Rattle.ledger.specs.Tables.{log_at}
use Rattle.ledger.specs.Ledger.{ports_of}
use Rattle.additions.proofs.log_ports.Given as goal

abbrev pub invariant-loop-k : goal.invariant-loop-k
invariant-loop-k g l = (l.k ≤ l.n) × (length l.room ≡ length l.initial.room)
    × ((ids : List ℕ) → length ids ≡ l.k → ((i id : ℕ) → i < l.k → goal.F-post g l.node i id → id ≡ get_or ids i 0)
    → words l.room ≡ sets (words l.initial.room) (log_at + 2 * l.ports) (flat (ports_of l.half ids)))

abbrev pub decreases-loop-k : goal.decreases-loop-k
decreases-loop-k g l = l.n - l.k
