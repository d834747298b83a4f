-- Reasons worked by hand: P2, P4, P6, P7 and P9 of 01, a loop with a node before it and one behind it, and the packet path of examples/.
-- Assumes nothing.
use Rattle.std.specs.Prelude.{List, [], ◌∷◌, ℕ, ◌*◌}
use Rattle.le.specs.Le.{numbers}
use Rattle.graph.specs.Answer.{Answer, refused, answered, Result}
use Rattle.graph.specs.Form.{encode}
use Rattle.graph.specs.Graph.{Graph}
use Rattle.graph.specs.Lists.{joined}
use Rattle.graph.specs.Versions.{fitting}
use Rattle.choice.specs.ByHand.{p2, p4, p6, p7, p9, ◌⟶◌, none, drawing}
use Rattle.choice.specs.Calls.{room_reasons, reasons_call}

-- what the call says: the numbers of the answer, how many entries there are and how many nodes are chosen; or a refusal
pub data Said : Type 0 where
  explains : List ℕ → ℕ → ℕ → Said
  no : ℕ → Said

-- a line of the table
pub record Row : Type 0 where
  pub drawing : Graph
  pub says : Said

-- the four numbers of an entry, as 02 has them: 0 chosen at a stage, with so many arcs in and out; 1 freed, no core vertex leads to it; 2 freed, it leads to none
abbrev pub cut : ℕ → ℕ → ℕ → List ℕ
cut stage ins outs = 0 ∷ stage ∷ ins ∷ outs ∷ []

abbrev pub unled : ℕ → List ℕ
unled stage = 1 ∷ stage ∷ 0 ∷ 0 ∷ []

abbrev pub nowhere : ℕ → List ℕ
nowhere stage = 2 ∷ stage ∷ 0 ∷ 0 ∷ []

-- these entries, for so many nodes, of which so many are chosen
abbrev pub because : List (List ℕ) → ℕ → ℕ → Said
because entries count cuts = explains (joined (λ e. e) entries) count cuts

-- four nodes; 0>1, 1>1, 1>3; node 2 stands alone
abbrev pub tailed : Graph
tailed = drawing (5 ∷ 6 ∷ 7 ∷ 8 ∷ []) ((0 ∷ []) ⟶ (1 ∷ []) ∷ (1 ∷ []) ⟶ (1 ∷ []) ∷ (1 ∷ []) ⟶ (3 ∷ []) ∷ []) none none

-- arrived, merged, body, key, server, health, ready, leaving, retry; and its blocks in the order of the table there
abbrev pub packet_path : Graph
packet_path =
    drawing (512 ∷ 512 ∷ 512 ∷ 104 ∷ 16 ∷ 1 ∷ 512 ∷ 512 ∷ 512 ∷ [])
    (none ⟶ (0 ∷ []) ∷ (0 ∷ 8 ∷ []) ⟶ (1 ∷ []) ∷ (1 ∷ []) ⟶ (2 ∷ 3 ∷ []) ∷ (3 ∷ 5 ∷ []) ⟶ (4 ∷ []) ∷ (4 ∷ []) ⟶ (5 ∷ []) ∷ (2 ∷ 4 ∷ []) ⟶ (6 ∷ []) ∷ (6 ∷ []) ⟶ (7 ∷ 8 ∷ []) ∷ (7 ∷ []) ⟶ none ∷ [])
    none none

-- of P6, node 0 is chosen in stage 1, and of what remains then no cycle is left: node 1 is freed in stage 2. Of the packet path, the first stage frees arrived, which
-- nothing leads to, and leaving, which leads to nothing, and chooses server, with one arc in and two out; the second frees health, which only probe led to, and key,
-- which the retry loop leads to, and chooses merged; and the third frees all that is left.
abbrev pub rows : List Row
rows =
    record { drawing = p2; says = because (cut 1 1 1 ∷ []) 1 1 }
    ∷ record { drawing = p4; says = because (unled 1 ∷ []) 1 0 }
    ∷ record { drawing = p6; says = because (cut 1 1 1 ∷ unled 2 ∷ []) 2 1 }
    ∷ record { drawing = p7; says = because (cut 2 1 1 ∷ cut 1 2 2 ∷ cut 3 1 1 ∷ []) 3 3 }
    ∷ record { drawing = p9 (5 ∷ 6 ∷ []); says = no 8 }
    ∷ record { drawing = tailed; says = because (unled 1 ∷ cut 1 1 1 ∷ unled 1 ∷ nowhere 1 ∷ []) 4 1 }
    ∷ record { drawing = packet_path; says = because (unled 1 ∷ cut 2 1 1 ∷ unled 3 ∷ nowhere 2 ∷ cut 1 1 2 ∷ unled 2 ∷ unled 3 ∷ nowhere 1 ∷ unled 3 ∷ []) 9 2 }
    ∷ []

-- what an answer says
unfoldable pub told : Answer Result → Said
told (refused r) = no r.no
told (answered c) = explains (numbers 4 (4 * c.a) c.bytes) c.a c.b

-- by the exported call on the drawing's stored form, with room for the longest answer
unfoldable pub given : Row → Said
given line = told (reasons_call (encode (fitting line.drawing) line.drawing) 262144 room_reasons)
