-- What the choice comes to once the engine has flagged its nodes: the list does not fit, or it is written.
-- Assumes nothing.
use mathlib.Core.List.{List, []}
use mathlib.Core.Path.{◌≡◌, sym, ◌∙◌}
use Prim.Native.Nat.{ℕ, ◌+◌, ◌*◌, ◌≤◌, ◌<◌}
use native.Mathlib.Omega.{arith}
use lib.ListN.{length}
use lib.Seq.{sets}
use borrow.Author.Tests.{le-leb, lt-leb}
use Rattle.choice.specs.Calls.{listing}
use Rattle.choice.specs.Choice.{Chosen}
use Rattle.choice.specs.Drawing.{chosen}
use Rattle.choice.specs.Keeping.{chosen_keeping}
use Rattle.choice.specs.Promises.{Spares}
use Rattle.choice.proofs.Fits.{below_in}
use Rattle.choice.proofs.Kept.{keeping_none, answered_spares}
use Rattle.cycle.specs.Begin.{ChosenIn, chosen_as, keeping_listed, is_flagged}
use Rattle.choice.specs.Passing.{shown_below}
use Rattle.form.specs.Form.{meant_by, Gives}
use Rattle.form.specs.declared.Refusal.{Refusal}
use Rattle.form.specs.declared.Refusal.TheVariants as why
use Rattle.std.specs.Prelude.{Ok, Err}
use Rattle.graph.specs.Answer.{refused, answered, ◌else◌, ◌>>=◌, ◌>>◌}
use Rattle.graph.specs.Calls.{fit}
use Rattle.graph.specs.Graph.{Graph, Format}
use Rattle.le.specs.Le.{row}
use Rattle.le.specs.Rows.{row_at, place_in, span, puts}
use Rattle.le.specs.declared.Row.{Row}
use Rattle.form.proofs.Answers.{refused_so, answered_so, gives_refused, gives_done}
use Rattle.graph.proofs.Steps.{stops, goes}
use Rattle.graph.proofs.Places.{sets_lay}
use Rattle.le.proofs.Numbers.{length_row}
use Rattle.cycle.proofs.Begin.{Drawn}
use Rattle.cycle.proofs.Flags.{flagged_are}

-- a list of these ids, as many as `count`, in this width
module _ (f : Format) (w : ℕ) (width : f.width ≡ w) (ids : List ℕ) (free count : ℕ) (many : length ids ≡ count) where
  long : length (row f.width ids) ≡ count * w
  long = length_row f.width ids ∙ (λ i. many i * width i)

  pub listing_10 : (old : List ℕ) → length old < count * w → Gives (listing f (length old) (chosen_as ids free)) (Err why.NoRoom) old old
  unfolding listing fit ◌else◌ ◌>>◌ ◌>>=◌
  listing_10 old h =
      let l : length old < length (row f.width ids) = omega (arith, long) in
      gives_refused why.NoRoom old (rw (lt-leb (length (row f.width ids)) (length old) l))

  pub listing_0 : (old new : List ℕ) → count * w ≤ length old → new ≡ puts old (row_at 0 w) 0 ids → Gives (listing f (length old) (chosen_as ids free)) (Ok (record { a = count; b = free })) old new
  unfolding listing puts fit ◌else◌ ◌>>◌ ◌>>=◌
  listing_0 old new h e =
      let list = row f.width ids in
      let l : length list ≤ length old = omega (arith, long) in
      let front : place_in (row_at 0 w) 0 ≡ 0 = omega arith in
      rw (sym many)
      (gives_done (record { a = length ids; b = free; bytes = list; map = [] }) old new (rw (le-leb (length list) (length old) l))
      (e ∙ (λ i. sets old (front i) (row (sym width i) ids)) ∙ sets_lay list old l))

-- the engine's answer in the call
module _ {kept : List ℕ} {g : Graph} {nodes n : ℕ} (d : Drawn g nodes n) {X : List ℕ} where
  pub keeping_refused : {x : Refusal} → ChosenIn kept g X nodes (Err x) → (f : Format) (room : ℕ) → (chosen_keeping kept g >>= listing f room) ≡ refused (meant_by x)
  keeping_refused {x} is f room = stops (listing f room) (refused_so (λ (c : Chosen). c.free) (chosen_keeping kept g) (meant_by x) is.is)

  module _ {free : ℕ} (is : ChosenIn kept g X nodes (Ok free)) where
    answer : (c : Chosen) × (chosen_keeping kept g ≡ answered c) × (free ≡ c.free)
    answer = answered_so (λ (c : Chosen). c.free) (chosen_keeping kept g) free is.is

    spares : Spares kept g answer.0
    spares = answered_spares g d.proper kept answer.0 answer.1

    -- the flags are its ids
    ids : shown_below (is_flagged X) nodes ≡ answer.0.ids
    ids =
        flagged_are X nodes answer.0.ids spares.breaks.ascends (λ x i. omega (arith, d.nodes_is, below_in (length g.labels) answer.0.ids spares.breaks.nodes x i))
        (is.flags answer.0 answer.1)

    pub keeping_counted : length (shown_below (is_flagged X) nodes) + free ≡ n
    keeping_counted = (λ i. length (ids i) + answer.2 i) ∙ spares.all_counted ∙ sym d.n_is

    pub keeping_listed_lem : (f : Format) (room : ℕ) → (chosen_keeping kept g >>= listing f room) ≡ listing f room (chosen_as (shown_below (is_flagged X) nodes) free)
    keeping_listed_lem f room = goes (listing f room) answer.1 ∙ (λ i. listing f room (chosen_as (sym ids i) (sym answer.2 i)))

-- a list without entries keeps nothing
pub keeping_nothing : {g : Graph} {nodes n : ℕ} → Drawn g nodes n → (b : List ℕ) (r : Row) (f : Format) (room : ℕ) → keeping_listed (span b r 0 0) g f room ≡ listing f room (chosen g)
unfolding span
keeping_nothing {g} d b r f room = goes (listing f room) (keeping_none g d.proper)
