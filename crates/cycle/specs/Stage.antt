-- A stage in the room: the best node is flagged and goes, and then all that may go freely, as the model does.
-- Assumes nothing.
use Rattle.std.specs.Prelude.{◌≡◌, List, [], true, false, ◌↔◌, ℕ, ◌+◌, ◌-◌, ◌*◌, ◌≤◌, ◌<◌, Result, length, get_or, set}
use Rattle.tables.specs.Tables.{picked_at, queue_at}
use Rattle.choice.specs.Arcs.{Arc, In, Set}
use Rattle.choice.specs.Choice.{Chosen}
use Rattle.choice.specs.Keeping.{keeping_choice}
use Rattle.choice.specs.Promises.{Bounded}
use Rattle.form.specs.Form.{told, telling}
use Rattle.form.specs.declared.Refusal.{Refusal}
use Rattle.graph.specs.Answer.{answered}
use Rattle.halves.specs.Halves.{peel_from, pick, Listed, Going}
use Rattle.le.specs.Le.{Outside}
use Rattle.queue.specs.Keys.{radix, key, Queued, Filling}
use Rattle.queue.specs.Places.{keys_in, Added}
use Rattle.removal.specs.Room.{Source, halves_in, list_in, Roomy, Lists}
use Rattle.cycle.specs.Next.{may, degrees_in}

-- what holds between stages, besides what the model says
pub record Standing (s : Source) (W : List ℕ) (nodes n m end : ℕ) : Type 0 where
  pub roomy : Roomy n (halves_in W n end)
  pub lists : Lists s W nodes n
  pub queued : Queued (may W nodes) (degrees_in W n) (keys_in W queue_at m)

-- one stage, in which node `best` is chosen, leads from W to X
pub record Staged (s : Source) (W X : List ℕ) (nodes n m best end r : ℕ) : Type 0 where
  pub few : r ≤ n
  pub later : end ≤ r
  pub is : halves_in X n r ≡ peel_from (n - end) (list_in s W nodes) end (pick (list_in s W nodes) best (halves_in W n end))
  pub standing : Standing s X nodes n m r
  pub same_lists : (y : ℕ) → y < 2 * n → list_in s X nodes y ≡ list_in s W nodes y
  pub flags : (x : ℕ) → x < nodes → get_or X (picked_at + x) 0 ≡ get_or (set W (picked_at + best) 1) (picked_at + x) 0
  pub same_may : may X nodes ≡ may W nodes
  pub long : length X ≡ length W

-- ---- the stages

-- nothing waits, nothing is chosen yet; what is left of which arcs
pub record Underway (s : Source) (W : List ℕ) (nodes n end : ℕ) : Type 0 where
  pub arcs : List Arc
  pub left : Set
  pub bounded : Bounded arcs n
  pub listed : Listed arcs n (list_in s W nodes)
  pub going : Going arcs (may W nodes) n left (halves_in W n end) [] end
  pub unflagged : (x : ℕ) → x < nodes → get_or W (picked_at + x) 0 ≡ 1 → ⊥

-- the flags of the nodes that were picked
abbrev pub Flagged : ℕ → List ℕ → List ℕ → Type 0
Flagged nodes X picked = (x : ℕ) → x < nodes → In x picked ↔ (get_or X (picked_at + x) 0 ≡ 1)

-- whatever the arcs are: q is the free count of the choice among what may be chosen, or 16; and the flags are those of what it answers
pub record Answered (s : Source) (W X : List ℕ) (nodes n end : ℕ) (q : Result ℕ Refusal) : Type 0 where
  pub is : (u : Underway s W nodes n end) → told q ≡ telling (λ (c : Chosen). c.free) (keeping_choice u.arcs (may W nodes) n)
  pub flags : (u : Underway s W nodes n end) (c : Chosen) → keeping_choice u.arcs (may W nodes) n ≡ answered c → Flagged nodes X c.ids

-- ---- making the queue

-- of the first k nodes those that are live and may be chosen are queued, r in all; X is W otherwise
pub record Offered (W X : List ℕ) (nodes n k r : ℕ) : Type 0 where
  pub filling : Filling (may W nodes) (degrees_in X n) (keys_in X queue_at r) k
  pub few : r ≤ k
  pub frame : Outside queue_at (queue_at + 2 * nodes) W X

-- every degree is small
abbrev pub AllSmall : List ℕ → Type 0
AllSmall d = (y : ℕ) → get_or d y 0 < radix

pub record Made (W X : List ℕ) (nodes n r : ℕ) : Type 0 where
  pub queued : Queued (may W nodes) (degrees_in X n) (keys_in X queue_at r)
  pub few : r ≤ nodes
  pub frame : Outside queue_at (queue_at + 2 * nodes) W X

-- vertex v got an entry if it may be chosen and is live
pub record Entered (W X : List ℕ) (nodes v m r : ℕ) : Type 0 where
  pub barred : may W nodes v ≡ false → (X ≡ W) × (r ≡ m)
  pub gone : get_or W (2 * v) 0 ≡ 0 → (X ≡ W) × (r ≡ m)
  pub alive : may W nodes v ≡ true → 0 < get_or W (2 * v) 0 → Added W X queue_at m (key v (get_or W (2 * v) 0) (get_or W (2 * v + 1) 0)) × (r ≡ m + 1)
