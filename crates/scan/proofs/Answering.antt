-- What the choice comes to once its nodes are marked: the list does not fit, or it is written.
-- Assumes nothing.
use mathlib.Core.List.{List, []}
use mathlib.Core.Path.{◌≡◌, sym, ap, ◌∙◌}
use Prim.Native.Nat.{ℕ, ◌+◌, ◌*◌, ◌≤◌, ◌<◌}
use native.Mathlib.Omega.{arith}
use lib.ListN.{length, get_or}
use lib.Seq.{sets}
use borrow.Author.Tests.{le-leb, lt-leb, eqb-true, eq-eqb}
use Rattle.choice.specs.Calls.{listing}
use Rattle.choice.specs.Choice.{Chosen}
use Rattle.choice.specs.Drawing.{vertex_count}
use Rattle.choice.specs.Keeping.{chosen_keeping}
use Rattle.choice.specs.Passing.{shown, shown_below}
use Rattle.choice.specs.Promises.{Spares}
use Rattle.choice.proofs.Fits.{below_in}
use Rattle.choice.proofs.Kept.{answered_spares}
use Rattle.choice.proofs.Passing.{shown_are, shown_next}
use Rattle.form.specs.Form.{meant_by, Gives}
use Rattle.form.specs.declared.Refusal.{Refusal}
use Rattle.form.specs.declared.Refusal.TheVariants as why
use Rattle.std.specs.Prelude.{Ok, Err}
use Rattle.form.proofs.Answers.{refused_so, answered_so, gives_refused, gives_done}
use Rattle.graph.specs.Answer.{refused, answered, ◌else◌, ◌>>=◌, ◌>>◌}
use Rattle.graph.specs.Calls.{fit}
use Rattle.graph.specs.Graph.{Graph, Format}
use Rattle.graph.proofs.Places.{sets_lay}
use Rattle.graph.proofs.Steps.{stops, goes}
use Rattle.le.specs.Le.{row}
use Rattle.le.specs.Rows.{row_at, place_in, puts}
use Rattle.le.specs.declared.Row.{Row}
use Rattle.le.proofs.Numbers.{length_row}
use Rattle.le.proofs.Rows.{puts_append}
use Rattle.scan.specs.Stages.{ChosenIn, chosen_as, is_chosen}
use Rattle.sweeps.proofs.Going.{Drawn}

-- one id more in the row
pub shown_turn : (room list₀ list next : List ℕ) (r : Row) (v k : ℕ) → k ≡ length (shown_below (is_chosen room) v) → list ≡ puts list₀ r 0 (shown_below (is_chosen room) v)
    → next ≡ puts list r k (shown (is_chosen room) v) → next ≡ puts list₀ r 0 (shown_below (is_chosen room) (v + 1))
shown_turn room list₀ list next r v k e l n =
    let p = is_chosen room in
    let place : k ≡ 0 + length (shown_below p v) = omega arith in
    n ∙ (λ i. puts (l i) r (place i) (shown p v)) ∙ puts_append list₀ r 0 (shown_below p v) (shown p v) ∙ ap (puts list₀ r 0) (sym (shown_next p v))

-- a list of these ids, as many as `count`, in this width
module _ (f : Format) (w : ℕ) (width : f.width ≡ w) (ids : List ℕ) (free count : ℕ) (many : length ids ≡ count) where
  long : length (row f.width ids) ≡ count * w
  long = length_row f.width ids ∙ (λ i. many i * width i)

  pub listing_10 : (old : List ℕ) → length old < count * w → Gives (listing f (length old) (chosen_as ids free)) (Err why.NoRoom) old old
  unfolding listing fit ◌else◌ ◌>>◌ ◌>>=◌
  listing_10 old h =
      let l : length old < length (row f.width ids) = omega (arith, long) in
      gives_refused why.NoRoom old (rw (lt-leb (length (row f.width ids)) (length old) l))

  pub listing_0 : (old new : List ℕ) → count * w ≤ length old → new ≡ puts old (row_at 0 w) 0 ids → Gives (listing f (length old) (chosen_as ids free)) (Ok (record { a = count; b = free })) old new
  unfolding listing puts fit ◌else◌ ◌>>◌ ◌>>=◌
  listing_0 old new h e =
      let list = row f.width ids in
      let l : length list ≤ length old = omega (arith, long) in
      let front : place_in (row_at 0 w) 0 ≡ 0 = omega arith in
      rw (sym many)
      (gives_done (record { a = length ids; b = free; bytes = list; map = [] }) old new (rw (le-leb (length list) (length old) l))
      (e ∙ (λ i. sets old (front i) (row (sym width i) ids)) ∙ sets_lay list old l))

-- the engine's answer in the call
module _ (kept : List ℕ) (g : Graph) (d : Drawn g) (nodes n : ℕ) (nodes_is : nodes ≡ length g.labels) (n_is : n ≡ vertex_count g) (room : List ℕ) where
  pub keeping_refused : (x : Refusal) → ChosenIn kept g room (Err x) → (f : Format) (lent : ℕ) → (chosen_keeping kept g >>= listing f lent) ≡ refused (meant_by x)
  keeping_refused x is f lent = stops (listing f lent) (refused_so (λ (c : Chosen). c.free) (chosen_keeping kept g) (meant_by x) is.is)

  module _ (free : ℕ) (is : ChosenIn kept g room (Ok free)) where
    answer : (c : Chosen) × (chosen_keeping kept g ≡ answered c) × (free ≡ c.free)
    answer = answered_so (λ (c : Chosen). c.free) (chosen_keeping kept g) free is.is

    spares : Spares kept g answer.0
    spares = answered_spares g d.proper kept answer.0 answer.1

    -- what is marked are its ids
    ids : shown_below (is_chosen room) nodes ≡ answer.0.ids
    ids =
        shown_are (is_chosen room) nodes answer.0.ids spares.breaks.ascends (λ x i. omega (arith, nodes_is, below_in (length g.labels) answer.0.ids spares.breaks.nodes x i))
        (λ x l. let m = is.marked answer.0 answer.1 x (omega (arith, nodes_is)) in ((λ t. m.0 (eqb-true (get_or room x 0) 2 t)), (λ i. eq-eqb (get_or room x 0) 2 (m.1 i))))

    pub keeping_counted : length (shown_below (is_chosen room) nodes) + free ≡ n
    keeping_counted = (λ i. length (ids i) + answer.2 i) ∙ spares.all_counted ∙ sym n_is

    pub keeping_listed_lem : (f : Format) (lent : ℕ) → (chosen_keeping kept g >>= listing f lent) ≡ listing f lent (chosen_as (shown_below (is_chosen room) nodes) free)
    keeping_listed_lem f lent = goes (listing f lent) answer.1 ∙ (λ i. listing f lent (chosen_as (sym ids i) (sym answer.2 i)))
