-- The call as pricing and the answer's bytes: where it refuses, and what it answers.
-- Assumes nothing.
use mathlib.Core.Bool.{Bool, true, false}
use mathlib.Core.List.{List}
use mathlib.Core.Path.{◌≡◌, refl, ◌∙◌}
use Prim.Native.Nat.{ℕ, ◌≤◌, ◌<◌}
use native.Mathlib.Omega.{arith}
use lib.Dec.{leb}
use lib.ListN.{length}
use borrow.Author.Tests.{le-leb, lt-leb}
use Rattle.graph.specs.Answer.{Answer, refused, answered, Result, refusal, writing, ◌else◌, ◌>>=◌, ◌>>◌}
use Rattle.graph.specs.Answer as answer
use Rattle.graph.specs.Calls.{fit, in_work_room}
use Rattle.graph.proofs.Answers.{worked}
use Rattle.graph.proofs.Steps.{stops, goes}
use Rattle.catalogue.specs.Price.{Priced, price, price_bytes, price_answer, room_price, price_call}
use Rattle.catalogue.proofs.Stored.{price_length}

-- its answer after pricing
abbrev pub written : ℕ → Priced → Answer Result
written room p = fit room (price_bytes p) >>= λ list. answered (writing list 0)

pub in_room : {A B : Type 0} (needed lent : ℕ) (a : Answer A) (next : A → Answer B) → in_work_room needed lent (a >>= next) ≡ (in_work_room needed lent a >>= next)
unfolding in_work_room ◌else◌ ◌>>◌ ◌>>=◌
in_room needed lent a next = go (leb needed lent)
  where
    go : (c : Bool) → ((c else refusal 10) >> (a >>= next)) ≡ (((c else refusal 10) >> a) >>= next)
    go true = refl
    go false = refl

module _ (b : List ℕ) (room lent : ℕ) where
  pub whole : price_call b room lent ≡ (in_work_room room_price lent (price b) >>= written room)
  unfolding price_answer
  whole = in_room room_price lent (price b) (written room)

  pub call_refused : (r : answer.Refusal) → in_work_room room_price lent (price b) ≡ refused r → price_call b room lent ≡ refused r
  call_refused r e = whole ∙ stops (written room) e

  module _ (p : Priced) (e : in_work_room room_price lent (price b) ≡ answered p) where
    pub long : length (price_bytes p) ≡ 60
    long = price_length b p (worked room_price lent (price b) e)

    pub call_short : room < 60 → price_call b room lent ≡ refused (refusal 10)
    unfolding fit ◌else◌ ◌>>◌ ◌>>=◌
    call_short l =
        let m : room < length (price_bytes p) = omega (arith, long) in
        whole ∙ goes (written room) e ∙ rw (lt-leb (length (price_bytes p)) room m)

    pub call_written : 60 ≤ room → price_call b room lent ≡ answered (writing (price_bytes p) 0)
    unfolding fit ◌else◌ ◌>>◌ ◌>>=◌
    call_written l =
        let m : length (price_bytes p) ≤ room = omega (arith, long) in
        whole ∙ goes (written room) e ∙ rw (le-leb (length (price_bytes p)) room m)
