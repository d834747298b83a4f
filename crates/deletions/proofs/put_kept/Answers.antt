-- `deletions::put_kept` meets its contract.
-- Assumes nothing.
use mathlib.Core.List.{List}
use mathlib.Core.Logic.{⊎_elim}
use mathlib.Core.Path.{sym, ap, ◌∙◌}
use Prim.Native.Nat.{ℕ, ◌+◌}
use native.Mathlib.Numerals.{add-one}
use lib.ListN.{length, set}
use lib.Seq.{sets}
use Rattle.le.specs.Le.{words}
use Rattle.graph.specs.Lists.{flat}
use Rattle.deletions.proofs.Turns.{first_goes, second_goes, both_stay_lem, next_none}
use Rattle.deletions.proofs.put_kept.Goals as goal

pub returns-then-a-eq-GONE : goal.returns-then-a-eq-GONE
returns-then-a-eq-GONE c =
    let a = c.args in
    let none = ⊎_elim (λ e. first_goes a.a a.b e) (λ p. second_goes a.a a.b p.1) c.then-a-eq-GONE.either in
    (ap (λ (l : List (ℕ × ℕ)). sets (words a.room.now) a.at (flat l)) (sym none), next_none a.to _ none)

pub returns : goal.returns
returns c =
    let a = c.args in
    let one = both_stay_lem a.a a.b c.if-a-eq-GONE.false c.if-b-eq-GONE.false in
    let W = words a.room.now in (
      c.set_word-2.ensures ∙ ap (λ (X : List ℕ). set X (a.at + 1) a.b) c.set_word.ensures ∙ ap (λ (i : ℕ). set (set W a.at a.a) i a.b) (add-one a.at)
          ∙ ap (λ (l : List (ℕ × ℕ)). sets W a.at (flat l)) (sym one),
      ap (λ (l : List (ℕ × ℕ)). a.to + length l) (sym one),
    )
