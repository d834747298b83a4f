-- 01, the report program: what it prints for any bytes.
-- Assumes nothing.
use Rattle.std.specs.Prelude.{List, ◌++◌, ℕ, ◌*◌, length}
use Rattle.graph.specs.Lists.{joined}
use Rattle.graph.specs.Graph.{Graph, Format, form1, ports}
use Rattle.graph.specs.Form.{mark}
use Rattle.graph.specs.Answer.{Answer, refused, answered, ◌>>=◌}
use Rattle.graph.specs.Read.{read_as}
use Rattle.graph.specs.Calls.{unpaired}
use Rattle.choice.specs.Drawing.{chosen}
use Rattle.text.specs.Text.{ascii, decimal, field, refused_line}

-- "mark and version"
abbrev pub mark_line : Format → List ℕ
mark_line f = mark ++ field " " f.version ++ ascii "\n"

-- "the sizes"
abbrev pub sizes_line : ℕ → ℕ → ℕ → List ℕ
sizes_line nodes edges ports =
    field "nodes " nodes ++ field " edges " edges ++ field " ports " ports ++ ascii "\n"

-- "how many were cut and how many removed freely"
abbrev pub counts_line : ℕ → ℕ → List ℕ
counts_line cut free = field "cut " cut ++ field " free " free ++ ascii "\n"

-- "then one cut id a line"
abbrev pub id_line : ℕ → List ℕ
id_line id = decimal id ++ ascii "\n"

-- a drawing of version 1, of these sizes and with these cut ids
abbrev pub drawing_text : ℕ → ℕ → ℕ → ℕ → List ℕ → List ℕ
drawing_text nodes edges ports free ids =
    mark_line form1 ++ sizes_line nodes edges ports ++ counts_line (length ids) free ++ joined id_line ids

-- what is printed of a graph that was read and has no pairs, or of a refusal
abbrev pub told : Answer Graph → List ℕ
told (refused r) = refused_line r.no
told (answered g) = drawing_text (length g.labels) (length g.edges) (ports g) (chosen g).free (chosen g).ids

-- what is printed for any bytes; the program knows version 1 alone
unfoldable pub report_text : List ℕ → List ℕ
report_text b = told (read_as form1 b >>= unpaired)

-- the bytes of the buffer into which a report is put: more than the longest one has
abbrev pub report_room : ℕ
report_room = 65536

-- the bytes of a list of all nodes
abbrev pub list_room : ℕ
list_room = form1.most.nodes * form1.width
