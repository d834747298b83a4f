-- Reasons as they are written: the entry of each node that has gone, and what holds between the stages.
-- Assumes nothing.
use Rattle.std.specs.Prelude.{◌≡◌, cond, List, [], ◌∷◌, ◌++◌, ℕ, zero, suc, ◌+◌, ◌-◌, ◌*◌, ◌/◌, ◌≤◌, ◌<◌, T, eqb, ltb, length, get_or, set, drop}
use Rattle.std.proofs.lemmas.List.Edits.{sets}
use Rattle.le.specs.Le.{row, Outside}
use Rattle.graph.specs.Graph.{Graph}
use Rattle.choice.specs.Arcs.{Set, has, vertices}
use Rattle.choice.specs.Choice.{core}
use Rattle.choice.specs.Drawing.{arcs, selectable, chosen}
use Rattle.choice.specs.Reasons.{Reason, picked, not_led_to, leads_to_none, numbers_of, reason, Known}
use Rattle.halves.specs.Halves.{within, Halves, lower_all, peel_from, drop_both, seed_to, raise_to, Going}
use Rattle.incidence.specs.Incidence.{neighbours}
use Rattle.reasons.specs.declared.Reason as code
use Rattle.reasons.specs.declared.Reason.TheVariants as coded
use Rattle.removal.specs.Room.{Source, halves_in, count_of, list_in, Roomy, Lists, Went}

-- ---- entries

-- the reason that is meant
abbrev pub meant : code.Reason → Reason
meant (coded.Chosen stage ins outs) = picked stage ins outs
meant (coded.NotLedTo stage) = not_led_to stage
meant (coded.LeadsToNone stage) = leads_to_none stage

-- where the entry of node v stands
abbrev pub place_of : ℕ → ℕ
place_of v = 16 * v

-- four numbers as the entry of node v
unfoldable pub entered : List ℕ → ℕ → List ℕ → List ℕ
entered out v numbers = sets out (place_of v) (row 4 numbers)

-- half y has gone: if its vertex is a node, its entry says why
unfoldable pub freed_half : ℕ → Reason → ℕ → List ℕ → List ℕ
freed_half nodes why y out = cond (ltb (y / 2) nodes) (entered out (y / 2) (numbers_of why)) out

-- the same for each half of a list
unfoldable pub freed_all : ℕ → Reason → List ℕ → List ℕ → List ℕ
freed_all nodes why [] out = out
freed_all nodes why (y ∷ ys) out = freed_all nodes why ys (freed_half nodes why y out)

-- the entry of node v is that of its reason
abbrev pub Says : Graph → List ℕ → ℕ → Type 0
Says g out v = (j : ℕ) → j < 16 → get_or out (place_of v + j) 0 ≡ get_or (row 4 (numbers_of (reason g v))) j 0

-- that of each node that is no more in S
pub record Told (g : Graph) (S : Set) (out : List ℕ) : Type 0 where
  pub says : (v : ℕ) → v < length g.labels → (T (has S v) → ⊥) → Says g out v

-- ---- the room

-- what waited from place `from` on was walked until none waited, and its nodes were told freed
pub record Settled (s : Source) (W X : List ℕ) (nodes n from last : ℕ) (h : Halves) : Type 0 where
  pub went : Went W X n last (peel_from (n - from) (list_in s W nodes) from h)
  pub later : from ≤ last

-- the halves that then have waited from there on
abbrev pub waited_from : List ℕ → ℕ → ℕ → ℕ → List ℕ
waited_from X n from last = drop from (halves_in X n last).waiting

-- a vertex without an arc out is given one
unfoldable pub raised : ℕ → List ℕ → List ℕ
raised x W = cond (eqb (get_or W (2 * x + 1) 0) 0) (set W (2 * x + 1) 1) W

-- the out-half of vertex x, if its in-half has an empty list
abbrev pub end_at : List ℕ → ℕ → List ℕ
end_at W x = cond (eqb (count_of W (2 * x)) 0) ((2 * x + 1) ∷ []) []

-- those of the first k vertices
abbrev pub ends_in : List ℕ → ℕ → List ℕ
ends_in W zero = []
ends_in W (suc k) = ends_in W k ++ end_at W k

-- the lists of the drawing's halves stand in the room
pub record Tabled (s : Source) (g : Graph) (X : List ℕ) (nodes n : ℕ) : Type 0 where
  pub lists : Lists s X nodes n
  pub are : (y : ℕ) → y < 2 * n → list_in s X nodes y ≡ neighbours (arcs g) y

-- what has no arc in has gone, of all n vertices: those without an arc out were given one before
pub record Begun (s : Source) (g : Graph) (X : List ℕ) (nodes n mid : ℕ) : Type 0 where
  pub few : mid ≤ n
  pub roomy : Roomy n (halves_in X n mid)
  pub tabled : Tabled s g X nodes n
  pub degrees : List ℕ
  pub long : length degrees ≡ 2 * n
  pub right : (y : ℕ) → y < 2 * n → get_or degrees y 0 ≡ within (arcs g) (vertices n) y
  pub outs : (x : ℕ) → x < n → get_or degrees (2 * x + 1) 0 ≡ length (neighbours (arcs g) (2 * x))
  pub is : halves_in X n mid ≡ peel_from (n - 0) (neighbours (arcs g)) 0 (seed_to n (record { degrees = raise_to n degrees; waiting = [] }))

-- between stages: `end` vertices were freed so far, what remained when this stage began is known, and its core is left
pub record Explaining (s : Source) (g : Graph) (X out : List ℕ) (nodes n end stage : ℕ) : Type 0 where
  pub few : end ≤ n
  pub roomy : Roomy n (halves_in X n end)
  pub tabled : Tabled s g X nodes n
  pub begun : Set
  pub known : Known (arcs g) (selectable g) n stage begun
  pub picked : List ℕ
  pub going : Going (arcs g) (selectable g) n (core (arcs g) begun) (halves_in X n end) picked end
  pub count : stage ≡ suc (length picked)
  pub told : Told g (core (arcs g) begun) out

-- a stage: node `best` is chosen and told, and the next stage's removal is done in its two parts
pub record Chose (s : Source) (W X out new : List ℕ) (nodes n best end stage last : ℕ) : Type 0 where
  pub middle : List ℕ
  pub mid : ℕ
  pub one : Settled s W middle nodes n end mid (lower_all (list_in s W nodes (2 * best)) (record { degrees = drop_both best (halves_in W n end).degrees; waiting = (halves_in W n end).waiting }))
  pub two : Settled s middle X nodes n mid last (lower_all (list_in s middle nodes (2 * best + 1)) (halves_in middle n mid))
  pub is : new ≡ freed_all nodes (leads_to_none (stage + 1)) (waited_from X n mid last)
      (freed_all nodes (not_led_to (stage + 1)) (waited_from middle n end mid) (entered out best (0 ∷ stage ∷ get_or W (2 * best) 0 ∷ get_or W (2 * best + 1) 0 ∷ [])))

-- all is told: so many nodes are chosen, every node's entry is that of its reason, and what stands behind the entries is as it was
pub record Explained (g : Graph) (old new : List ℕ) (nodes ids : ℕ) : Type 0 where
  pub cuts : ids ≡ length (chosen g).ids
  pub told : Told g [] new
  pub frame : Outside 0 (16 * nodes) old new
