-- What the types of this crate stand for: for each of their values the definition's answer.
-- Assumes nothing.
use Rattle.std.specs.Prelude.{ℕ, ◌+◌, ◌*◌, ◌≤◌, ◌<◌, ◌^◌, List, ◌≡◌, Ok, Err, length}
use Rattle.std.specs.Prelude.{Result as Returned}
use Rattle.le.specs.Le.{Wide}
use Rattle.le.specs.Rows.{row_at, entry}
use Rattle.le.specs.declared.Row.{Row}
use Rattle.graph.specs.Graph as graph
use Rattle.graph.specs.Graph.{Graph, Counts, ports}
use Rattle.graph.specs.Answer as answer
use Rattle.graph.specs.Answer.{Answer, refused, answered, ◌carrying◌, refusal, Result, laid, laid_map}
use Rattle.graph.specs.Versions.{StoredGraph}
use Rattle.form.specs.declared.Refusal.{Refusal}
use Rattle.form.specs.declared.Refusal.TheVariants as why
use Rattle.form.specs.declared.Format.{Format}
use Rattle.form.specs.declared.Sizes.{Sizes}
use Rattle.form.specs.declared.EdgeAt.{EdgeAt}
use Rattle.form.specs.declared.Done.{Done}

-- ---- answers

-- what a refusal stands for: its number, and its place
abbrev pub meant_by : Refusal → answer.Refusal
meant_by (why.TooShort place) = 1 carrying place
meant_by why.NoMark = refusal 2
meant_by why.UnknownVersion = 3 carrying 3
meant_by (why.AboveLimit place) = 4 carrying place
meant_by (why.WrongLength place) = 5 carrying place
meant_by (why.UnknownNode place) = 6 carrying place
meant_by (why.BadEntry place) = 7 carrying place
meant_by why.PairPending = refusal 8
meant_by why.ResultAboveLimit = refusal 9
meant_by why.NoRoom = refusal 10
meant_by why.LabelsDiffer = refusal 11
meant_by why.BrokenStep = refusal 12
meant_by why.UnfitVersion = refusal 13
meant_by why.UnknownKind = refusal 14
meant_by why.WrongPorts = refusal 15
meant_by why.NothingToChoose = refusal 16
meant_by why.BrokenRange = refusal 17

-- what the answer of a step or a call in code stands for
abbrev pub told : {A : Type 0} → Returned A Refusal → Answer A
told (Ok x) = answered x
told (Err e) = refused (meant_by e)

-- of an answer what code answers of it
abbrev pub telling : {A B : Type 0} → (A → B) → Answer A → Answer B
telling part (refused r) = refused r
telling part (answered x) = answered (part x)

-- a step that answers a list: how long it is
abbrev pub counted : {A : Type 0} → Answer (List A) → Answer ℕ
counted = telling length

-- a step that only tests
abbrev pub tested : {A : Type 0} → Answer A → Answer (Unit {0})
tested = telling (λ x. tt)

-- a call: its two numbers
abbrev pub outcome : Answer Result → Answer Done
outcome = telling (λ x. record { a = x.a; b = x.b })

-- what a call with this answer returns, and the answer buffer before and after it
pub record Gives (a : Answer Result) (r : Returned Done Refusal) (old new : List ℕ) : Type 0 where
  pub result : told r ≡ outcome a
  pub buffer : new ≡ laid a old

-- the same of a call that answers a map as well
pub record GivesMap (a : Answer Result) (r : Returned Done Refusal) (old new old_map new_map : List ℕ) : Type 0 where
  pub result : told r ≡ outcome a
  pub buffer : new ≡ laid a old
  pub map : new_map ≡ laid_map a old_map

-- ---- versions and sizes

-- the version that is meant
abbrev pub meant : Format → graph.Format
meant f = record {
  version = f.version;
  width = f.width;
  most_ports = f.ports;
  most = record { nodes = f.nodes; edges = f.edges; sources = f.sources; targets = f.targets; pairs = f.pairs };
}

-- counts with a port sum, in a width
abbrev pub sized : ℕ → Counts → ℕ → Sizes
sized width c sum = record {
  width = width;
  nodes = c.nodes;
  edges = c.edges;
  ports = sum;
  sources = c.sources;
  targets = c.targets;
  pairs = c.pairs;
}

-- the counts that sizes hold
abbrev pub counts_of : Sizes → Counts
counts_of z = record { nodes = z.nodes; edges = z.edges; sources = z.sources; targets = z.targets; pairs = z.pairs }

-- the sizes of a graph in a version
abbrev pub sizes_of : graph.Format → Graph → Sizes
sizes_of f g = sized f.width (graph.counts g) (ports g)

-- a graph read: its sizes
abbrev pub reading : Answer StoredGraph → Answer Sizes
reading = telling (λ s. sizes_of s.format s.graph)

-- sizes that a form can have: 32 bits each
pub record Low (z : Sizes) : Type 0 where
  pub width : Wide z.width
  pub narrow : z.width ≤ 4
  pub nodes : z.nodes < 2 ^ 32
  pub edges : z.edges < 2 ^ 32
  pub ports : z.ports < 2 ^ 32
  pub sources : z.sources < 2 ^ 32
  pub targets : z.targets < 2 ^ 32
  pub pairs : z.pairs < 2 ^ 32

-- ---- the rows of a form

-- the row of all labels, and that of all counts and ids
abbrev pub labels_of : Sizes → Row
labels_of z = row_at (5 + 5 * z.width) 4

abbrev pub body_of : Sizes → Row
body_of z = row_at (5 + 5 * z.width + (z.nodes + z.edges) * 4) z.width

-- where the global lists and the pairs begin in the second
abbrev pub lists_from : Sizes → ℕ
lists_from z = 2 * z.edges + z.ports

-- how many numbers it has
abbrev pub body_size : Sizes → ℕ
body_size z = lists_from z + (z.sources + (z.targets + 2 * z.pairs))

-- the edge at index k of a row
unfoldable pub edge_in : List ℕ → Row → ℕ → EdgeAt
edge_in b r k = record {
  sources = entry b r k;
  targets = entry b r (k + 1);
  first = k + 2;
  end = k + 2 + entry b r k + entry b r (k + 1);
}
