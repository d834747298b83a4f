-- `deletions::keep_pair` meets its contract.
-- Assumes nothing.
use mathlib.Core.Path.{ap, ◌∙◌}
use Prim.Native.Nat.{◌+◌, ◌*◌}
use lib.ListN.{length}
use lib.Seq.{sets}
use Rattle.le.specs.Le.{words}
use Rattle.graph.specs.Lists.{flat}
use Rattle.ledger.specs.Left.{first_left, second_left, kept_pair}
use Rattle.deletions.specs.Sifts.{both_stay}
use Rattle.deletions.proofs.keep_pair.Goals as goal

pub returns : goal.returns
unfolding kept_pair both_stay
returns c =
    let a = c.args in
    let W = words a.room.now in
    let x = c.first_left-a.ensures ∙ ap (first_left W a.how) c.word.ensures in
    let y = c.second_left-b.ensures ∙ ap (second_left W a.how) c.word-2.ensures in
    record {
      words = c.put_kept.ensures.0 ∙ (λ i. sets W (a.off + 2 * a.to) (flat (both_stay (x i) (y i))));
      next = c.put_kept.ensures.1 ∙ (λ i. a.to + length (both_stay (x i) (y i)));
    }
