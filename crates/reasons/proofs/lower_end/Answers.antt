-- `reasons::lower_end` meets its contract.
-- Assumes nothing.
use mathlib.Core.Path.{◌≡◌, sym, ap, ◌∙◌, subst}
use Prim.Native.Nat.{ℕ, ◌+◌, ◌*◌}
use native.Mathlib.Omega.{arith}
use lib.ListN.{get_or}
use Rattle.le.specs.Le.{words}
use Rattle.tables.specs.Tables.{lists_at}
use Rattle.removal.specs.Room.{halves_in, count_of, Went}
use Rattle.removal.proofs.Tables.{steady_none}
use Rattle.reasons.proofs.Ends.{end_none, end_one}
use Rattle.reasons.proofs.lower_end.Goals as goal
use Rattle.reasons.proofs.lower_end.Goals.{After-word}

-- what was read is the length of the list
count : (c : After-word) → c.word.result ≡ count_of (words c.args.room.now) (2 * c.args.x)
count c =
    let a = c.args in
    let e : lists_at + 4 * a.x + 1 ≡ lists_at + 2 * (2 * a.x) + 1 = omega arith in
    c.word.ensures ∙ ap (λ (i : ℕ). get_or (words a.room.now) i 0) e

pub returns-then-word-ne0 : goal.returns-then-word-ne0
returns-then-word-ne0 c =
    let a = c.args in
    let W = words a.room.now in
    record { few = omega arith; is = end_none W a.x (halves_in W a.n a.end) (λ e. c.if-word-ne0.true (count (goal.at.returns-then-word-ne0 c).After-word ∙ e)); frame = steady_none W }

pub lower-requires : goal.lower-requires
lower-requires c = record { y_bound = (omega arith, omega arith, omega arith, omega arith); roomy = c.requires.roomy }

pub returns : goal.returns
returns c =
    let a = c.args in
    let W = words a.room.now in
    let o = c.lower in
    subst (Went W (words o.new.room) a.n o.result) (end_one W a.x (halves_in W a.n a.end) (sym (count (goal.at.returns c).After-word) ∙ c.if-word-ne0.false)) o.ensures
