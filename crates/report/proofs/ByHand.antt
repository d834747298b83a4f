-- Drawings of document 01 and what is printed for them, by computation.
-- Assumes nothing.
use mathlib.Core.Path.{◌≡◌, refl}
use mathlib.Core.List.{List, [], ◌∷◌}
use Prim.Native.Nat.{ℕ}
use lib.ListN.{replicate}
use Rattle.choice.specs.Arcs.{how_many, size, passing, outside, into, out}
use Rattle.choice.specs.ByHand.{p6}
use Rattle.choice.specs.Choice.{held, shave, core, score, worth, best, insert, stages, choice}
use Rattle.choice.specs.Drawing.{edge_arcs, arcs_from, arcs, chosen}
use Rattle.graph.specs.Answer.{◌else◌, ◌>>=◌, ◌>>◌}
use Rattle.graph.specs.Build.{empty, with_pairs}
use Rattle.graph.specs.Calls.{unpaired}
use Rattle.graph.specs.Form.{encode}
use Rattle.graph.specs.Read.{read_version, read_counts, read_edge, read_lists, read_body, read_in, read_as}
use Rattle.graph.specs.Versions.{fitting_sizes, fitting}
use Rattle.report.specs.Report.{report_text}
use Rattle.text.specs.Text.{ascii, decimal}

-- the 59 bytes that document 01 shows
abbrev pub p7_form_lem : List ℕ
p7_form_lem =
    0x4F ∷ 0x48 ∷ 0x47 ∷ 0x01 ∷ 0x00 ∷ 0x03 ∷ 0x00 ∷ 0x02 ∷ 0x00 ∷ 0x00 ∷ 0x00 ∷ 0x00 ∷ 0x00 ∷ 0x00 ∷ 0x00 ∷
    0x07 ∷ 0x00 ∷ 0x00 ∷ 0x00 ∷ 0x07 ∷ 0x00 ∷ 0x00 ∷ 0x00 ∷ 0x07 ∷ 0x00 ∷ 0x00 ∷ 0x00 ∷ 0x09 ∷ 0x00 ∷ 0x00 ∷ 0x00 ∷ 0x0A ∷ 0x00 ∷ 0x00 ∷ 0x00 ∷
    0x01 ∷ 0x00 ∷ 0x03 ∷ 0x00 ∷ 0x00 ∷ 0x00 ∷ 0x00 ∷ 0x00 ∷ 0x01 ∷ 0x00 ∷ 0x01 ∷ 0x00 ∷
    0x03 ∷ 0x00 ∷ 0x01 ∷ 0x00 ∷ 0x01 ∷ 0x00 ∷ 0x01 ∷ 0x00 ∷ 0x02 ∷ 0x00 ∷ 0x02 ∷ 0x00 ∷ []

-- and what it says is printed for them
pub p7_printed : report_text p7_form_lem ≡ ascii "OHG 1\nnodes 3 edges 2 ports 8\ncut 3 free 2\n0\n1\n2\n"
unfolding ◌else◌ ◌>>=◌ ◌>>◌ read_version read_counts read_edge read_lists read_body read_in read_as unpaired how_many size passing outside into out held shave core score worth best insert stages choice edge_arcs arcs_from arcs chosen decimal report_text
p7_printed = refl

-- P1, the empty graph
pub p1_printed : report_text (encode (fitting empty) empty) ≡ ascii "OHG 1\nnodes 0 edges 0 ports 0\ncut 0 free 0\n"
unfolding ◌else◌ ◌>>=◌ ◌>>◌ encode fitting_sizes read_version read_counts read_edge read_lists read_body read_in read_as unpaired how_many size passing outside into out held shave core score worth best insert stages choice edge_arcs arcs_from arcs chosen decimal report_text
p1_printed = refl

-- P9, P6 with one pair
pub p9_printed : report_text (encode (fitting p6) (with_pairs ((0, 1) ∷ []) p6)) ≡ ascii "refused 8\n"
unfolding ◌else◌ ◌>>=◌ ◌>>◌ encode fitting_sizes read_version read_counts read_edge read_lists read_body read_in read_as unpaired decimal report_text
p9_printed = refl

-- no bytes at all
pub nothing_printed : report_text [] ≡ ascii "refused 1\n"
unfolding ◌else◌ ◌>>=◌ ◌>>◌ read_version read_as decimal report_text
nothing_printed = refl

-- version 2, of which 15 bytes are enough
pub larger_printed : report_text (0x4F ∷ 0x48 ∷ 0x47 ∷ 0x02 ∷ 0x00 ∷ replicate 10 0) ≡ ascii "refused 3\n"
unfolding ◌else◌ ◌>>=◌ ◌>>◌ read_version read_as decimal report_text
larger_printed = refl
