-- `reasons::choose` meets its contract.
-- Assumes nothing.
use mathlib.Core.Path.{◌≡◌, ap, ◌∙◌}
use mathlib.Core.List.{List}
use Prim.Native.Nat.{ℕ, ◌+◌, ◌*◌}
use native.Mathlib.Omega.{arith}
use lib.ListN.{set}
use Rattle.le.specs.Le.{words}
use Rattle.le.proofs.Places.{length_words}
use Rattle.removal.specs.Room.{source}
use Rattle.choice.specs.Reasons.{not_led_to, leads_to_none}
use Rattle.reasons.specs.Told.{freed_all, waited_from}
use Rattle.reasons.proofs.Choosing.{zero_roomy, zero_lists, walked_one, one_roomy, one_lists}
use Rattle.reasons.proofs.choose.Goals as goal
use Rattle.reasons.proofs.choose.Goals.{After-set_word-2}

-- both halves are set to 0
zero_is : (c : After-set_word-2) → let a = c.args in
    words c.set_word-2.new.room ≡ set (set (words a.room.now) (2 * a.best) 0) (2 * a.best + 1) 0
zero_is c = let a = c.args in c.set_word-2.ensures ∙ ap (λ (X : List ℕ). set X (2 * a.best + 1) 0) c.set_word.ensures

pub walk-mid-requires : goal.walk-mid-requires
walk-mid-requires c =
    let a = c.args in
    let q = source a.s.now a.r in
    let W = words a.room.now in
    let Z = words c.set_word-2.new.room in record {
      nodes_in_bounds = (omega (arith, c.put_chosen.auto.out), omega arith, omega arith, omega arith, omega arith, omega (arith, c.set_word-2.auto.room, c.set_word.auto.room));
      roomy = (
        zero_roomy q W a.nodes a.n a.best a.end (omega arith) (omega arith) (omega arith) (omega arith) (omega (arith, length_words a.room.now)) c.requires.roomy.0 c.requires.roomy.1 Z (zero_is (goal.at.walk-mid-requires c).After-set_word-2),
        zero_lists q W a.nodes a.n a.best a.end (omega arith) (omega arith) (omega arith) (omega arith) (omega (arith, length_words a.room.now)) c.requires.roomy.0 c.requires.roomy.1 Z (zero_is (goal.at.walk-mid-requires c).After-set_word-2),
      );
    }

pub walk-requires : goal.walk-requires
walk-requires c =
    let a = c.args in
    let q = source a.s.now a.r in
    let W = words a.room.now in
    let Z = words c.set_word-2.new.room in
    let t = c.walk-mid in
    let M = words t.new.room in record {
      nodes_in_bounds = (omega (arith, c.put_chosen.auto.out, t.auto.out), omega arith, omega arith, omega arith, t.ensures.0.went.few, omega (arith, c.set_word-2.auto.room, c.set_word.auto.room, t.auto.room));
      roomy = (
        one_roomy q W a.nodes a.n a.best a.end (omega arith) (omega arith) (omega arith) (omega arith) (omega (arith, length_words a.room.now)) c.requires.roomy.0 c.requires.roomy.1 Z (zero_is (goal.at.walk-requires c).After-set_word-2) M t.result t.ensures.0,
        one_lists q W a.nodes a.n a.best a.end (omega arith) (omega arith) (omega arith) (omega arith) (omega (arith, length_words a.room.now)) c.requires.roomy.0 c.requires.roomy.1 Z (zero_is (goal.at.walk-requires c).After-set_word-2) M t.result t.ensures.0,
      );
    }

pub returns : goal.returns
returns c =
    let a = c.args in
    let q = source a.s.now a.r in
    let W = words a.room.now in
    let Z = words c.set_word-2.new.room in
    let t = c.walk-mid in
    let u = c.walk in
    let M = words t.new.room in
    let X = words u.new.room in
    record {
      middle = M;
      mid = t.result;
      one = walked_one q W a.nodes a.n a.best a.end (omega arith) (omega arith) (omega arith) (omega arith) (omega (arith, length_words a.room.now)) c.requires.roomy.0 c.requires.roomy.1 Z (zero_is (goal.at.returns c).After-set_word-2) M t.result t.ensures.0;
      two = u.ensures.0;
      is = u.ensures.1
          ∙ ap (freed_all a.nodes (leads_to_none (a.stage + 1)) (waited_from X a.n t.result u.result))
          (t.ensures.1 ∙ ap (freed_all a.nodes (not_led_to (a.stage + 1)) (waited_from M a.n a.end t.result)) c.put_chosen.ensures);
    }
