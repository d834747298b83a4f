-- The sizes of a result, and a buffer into which a form is written from left to right: its header, its labels, and all counts and ids.
-- Assumes nothing.
use Rattle.std.specs.Prelude.{ℕ, ◌+◌, ◌*◌, ◌≤◌, List, ◌≡◌, leb, length}
use Rattle.std.proofs.lemmas.List.Edits.{sets}
use Rattle.le.specs.Rows.{Holds, puts}
use Rattle.le.specs.declared.Row.{Row}
use Rattle.graph.specs.Graph.{Counts, Format, largest, sizes_fit}
use Rattle.graph.specs.Form.{header, form_bytes}
use Rattle.graph.specs.Answer.{Answer, answered, ◌else◌, ◌>>◌, refusal}
use Rattle.graph.specs.Versions.{fitting_sizes}
use Rattle.form.specs.Form.{sized, counts_of, Low, labels_of, body_of, body_size}
use Rattle.form.specs.declared.Sizes.{Sizes}

-- five counts, in the header's order
abbrev pub counted_as : ℕ → ℕ → ℕ → ℕ → ℕ → Counts
counted_as n e s t p = record { nodes = n; edges = e; sources = s; targets = t; pairs = p }

-- the version in which a graph of these sizes is stored
abbrev pub format_for : Sizes → Format
format_for y = fitting_sizes (counts_of y) y.ports

-- the sizes of a graph with these counts and ports, in that version
abbrev pub fitted : Counts → ℕ → Sizes
fitted c ports = sized (fitting_sizes c ports).width c ports

-- a result of these sizes: 9 it passes a limit, 10 its form is longer than the room; else the bytes of its form
unfoldable pub result_size : Sizes → ℕ → Answer ℕ
result_size y room = do
  sizes_fit largest (counts_of y) y.ports else refusal 9
  leb (form_bytes (format_for y) (counts_of y) y.ports) room else refusal 10
  answered (form_bytes (format_for y) (counts_of y) y.ports)

-- a buffer with the header of a graph of these sizes at its front
unfoldable pub headed : List ℕ → Sizes → List ℕ
headed old y = sets old 0 (header (format_for y) (counts_of y))

-- the same with these labels after it, and after all labels these counts and ids
unfoldable pub drawn : List ℕ → Sizes → List ℕ → List ℕ → List ℕ
drawn old y labels numbers = puts (puts (headed old y) (labels_of y) 0 labels) (body_of y) 0 numbers

-- numbers were put into a row of a buffer, from one index to another
pub record Put (old : List ℕ) (r : Row) (k : ℕ) (ns new : List ℕ) (end : ℕ) : Type 0 where
  pub stored : new ≡ puts old r k ns
  pub next : end ≡ k + length ns

-- a buffer with room for a form of these sizes, which are those of a graph in the version that it fits
pub record Room (out : List ℕ) (y : Sizes) : Type 0 where
  pub low : Low y
  pub fits : y ≡ fitted (counts_of y) y.ports
  pub header : 5 + 5 * y.width ≤ length out
  pub labels : Holds out (labels_of y) (y.nodes + y.edges)
  pub body : Holds out (body_of y) (body_size y)
