-- The first free removal, and what the calls make of the room: the chosen nodes, flagged.
-- Assumes nothing.
use Rattle.std.specs.Prelude.{◌≡◌, Bool, List, [], ◌∷◌, ℕ, ◌+◌, ◌≤◌, eqb, get_or, set}
use Rattle.std.specs.Prelude.{Result as Returned}
use Rattle.graph.specs.Answer.{Answer, answered, Result, ◌>>=◌}
use Rattle.graph.specs.Graph.{Graph, Format}
use Rattle.choice.specs.Arcs.{Set, vertices}
use Rattle.choice.specs.Calls.{listing}
use Rattle.choice.specs.Choice.{Chosen}
use Rattle.choice.specs.Degrees.{Frees}
use Rattle.choice.specs.Drawing.{arcs}
use Rattle.choice.specs.Keeping.{chosen_keeping}
use Rattle.form.specs.Form.{told, telling}
use Rattle.form.specs.declared.Refusal.{Refusal}
use Rattle.halves.specs.Halves.{Listed, Ready}
use Rattle.tables.specs.Tables.{picked_at}
use Rattle.removal.specs.Room.{Source, halves_in, list_in, Roomy, Lists}
use Rattle.cycle.specs.Next.{degrees_in}
use Rattle.cycle.specs.Stage.{Flagged, AllSmall}

-- all that may go freely at first has gone, `end` vertices of n; `left` is left
pub record First (s : Source) (g : Graph) (X : List ℕ) (nodes n end : ℕ) : Type 0 where
  pub few : end ≤ n
  pub roomy : Roomy n (halves_in X n end)
  pub lists : Lists s X nodes n
  pub listed : Listed (arcs g) n (list_in s X nodes)
  pub small : AllSmall (degrees_in X n)
  pub left : Set
  pub frees : Frees (arcs g) (vertices n) left end
  pub ready : Ready (arcs g) n left (halves_in X n end) end []

-- W with flags that say that the listed nodes are kept
abbrev pub kept_marked : List ℕ → List ℕ → List ℕ
kept_marked W [] = W
kept_marked W (v ∷ vs) = kept_marked (set W (picked_at + v) 2) vs

-- q is the free count of the choice that keeps these nodes, or its refusal; and the flags are those of what it answers
pub record ChosenIn (kept : List ℕ) (g : Graph) (X : List ℕ) (nodes : ℕ) (q : Returned ℕ Refusal) : Type 0 where
  pub is : told q ≡ telling (λ (c : Chosen). c.free) (chosen_keeping kept g)
  pub flags : (c : Chosen) → chosen_keeping kept g ≡ answered c → Flagged nodes X c.ids

-- the choice of these ids and this free count
abbrev pub chosen_as : List ℕ → ℕ → Chosen
chosen_as ids free = record { ids = ids; free = free }

-- the choice that keeps these nodes, as a call answers it
abbrev pub keeping_listed : List ℕ → Graph → Format → ℕ → Answer Result
keeping_listed kept g f room = chosen_keeping kept g >>= listing f room

-- v is flagged
abbrev pub is_flagged : List ℕ → ℕ → Bool
is_flagged W v = eqb (get_or W (picked_at + v) 0) 1
