-- Prices worked by hand. Assumes nothing.
use Rattle.std.specs.Prelude.{List, [], ◌∷◌, map, ℕ}
use Rattle.graph.specs.Answer.{Answer, refused, answered, refusal, reply}
use Rattle.graph.specs.Build.{with_pairs}
use Rattle.graph.specs.Form.{encode}
use Rattle.graph.specs.Graph.{Edge, Graph, spider}
use Rattle.graph.specs.Versions.{fitting}
use Rattle.choice.specs.ByHand.{drawing, none, p4}
use Rattle.graph.specs.Lists.{joined}
use Rattle.catalogue.specs.Price.{Priced, price}
use Rattle.catalogue.specs.Range.{Report, drawings_in, most_drawings, report_of}
use Rattle.catalogue.specs.Slices.{prefixed}

-- an edge of a kind
abbrev pub part : ℕ → List ℕ → List ℕ → Edge
part label s t = record { label = label; sources = s; targets = t }

-- these edges between three nodes
abbrev pub edges_of : List Edge → Graph
edges_of es = drawing (5 ∷ 6 ∷ 7 ∷ []) es none none

-- receive > 0, 0 > counter > 1, 1 > transmit: 4200 + 120 + 4200, no loop
abbrev pub straight : Graph
straight = edges_of (part 1 none (0 ∷ []) ∷ part 9 (0 ∷ []) (1 ∷ []) ∷ part 2 (1 ∷ []) none ∷ [])

-- a probe from 0 to 0 and a spider beside it: 510 + 260
abbrev pub looped : Graph
looped = edges_of (part 8 (0 ∷ []) (0 ∷ []) ∷ part spider (1 ∷ 1 ∷ []) none ∷ [])

-- one of each kind, all loops through node 0: the sum of the twelve prices, and one buffer
abbrev pub one_of_each : Graph
one_of_each = edges_of (
    part 1 none (0 ∷ []) ∷ part 2 (0 ∷ []) none ∷ part 3 (0 ∷ []) (1 ∷ 2 ∷ []) ∷ part 4 (0 ∷ 1 ∷ []) (2 ∷ []) ∷ part 5 (0 ∷ []) (1 ∷ [])
    ∷ part 6 (0 ∷ 1 ∷ []) (2 ∷ []) ∷ part 7 (0 ∷ 1 ∷ []) (2 ∷ []) ∷ part 8 (0 ∷ []) (1 ∷ []) ∷ part 9 (0 ∷ []) (1 ∷ []) ∷ part 10 (0 ∷ []) (1 ∷ 2 ∷ [])
    ∷ part 11 (0 ∷ 1 ∷ []) (2 ∷ []) ∷ part 12 (0 ∷ 1 ∷ []) (0 ∷ 2 ∷ []) ∷ []
    )

-- the first at fault decides: 15 before 14, and 14 before 15; a pair before both
abbrev pub misfit : Graph
misfit = edges_of (part 1 none (0 ∷ []) ∷ part 9 (0 ∷ []) none ∷ part 13 none none ∷ [])

abbrev pub unknown : Graph
unknown = edges_of (part 0 none none ∷ part 9 (0 ∷ []) none ∷ [])

abbrev pub drawings : List Graph
drawings = straight ∷ looped ∷ one_of_each ∷ misfit ∷ unknown ∷ with_pairs ((0, 1) ∷ []) misfit ∷ p4 ∷ []

abbrev pub priced : List ℕ → ℕ → ℕ → Answer Priced
priced counts buffers total = answered (record { counts = counts; buffers = buffers; total = total })

abbrev pub prices : List (Answer Priced)
prices =
    priced (1 ∷ 1 ∷ 0 ∷ 0 ∷ 0 ∷ 0 ∷ 0 ∷ 0 ∷ 1 ∷ 0 ∷ 0 ∷ 0 ∷ []) 0 8520
    ∷ priced (0 ∷ 0 ∷ 0 ∷ 0 ∷ 0 ∷ 0 ∷ 0 ∷ 1 ∷ 0 ∷ 0 ∷ 0 ∷ 0 ∷ []) 1 770
    ∷ priced (1 ∷ 1 ∷ 1 ∷ 1 ∷ 1 ∷ 1 ∷ 1 ∷ 1 ∷ 1 ∷ 1 ∷ 1 ∷ 1 ∷ []) 1 17930
    ∷ refused (refusal 15)
    ∷ refused (refusal 14)
    ∷ refused (refusal 8)
    ∷ priced (0 ∷ 0 ∷ 0 ∷ 0 ∷ 0 ∷ 0 ∷ 0 ∷ 0 ∷ 0 ∷ 0 ∷ 0 ∷ 0 ∷ []) 0 0
    ∷ []

-- by the drawing's stored form
unfoldable pub given : Graph → Answer Priced
given g = price (encode (fitting g) g)

-- the same drawings as one range, each with its length before it
unfoldable pub slice : List Graph → List ℕ
slice gs = joined (λ g. prefixed (encode (fitting g) g)) gs

-- the report over the drawings of any bytes
unfoldable pub glance : List ℕ → Answer Report
glance b = reply (refused (refusal 17)) (λ forms. answered (report_of (map price forms))) (drawings_in most_drawings b)

-- four priced, 8 and 14 and 15 once each; 27,220 in all, so 6,805 each; drawing 2 is the dearest
abbrev pub at_one_glance : Answer Report
at_one_glance = answered (record {
  priced = 4;
  refusals = 0 ∷ 0 ∷ 0 ∷ 0 ∷ 0 ∷ 0 ∷ 0 ∷ 1 ∷ 0 ∷ 0 ∷ 0 ∷ 0 ∷ 0 ∷ 1 ∷ 1 ∷ 0 ∷ 0 ∷ [];
  parts = 2 ∷ 2 ∷ 1 ∷ 1 ∷ 1 ∷ 1 ∷ 1 ∷ 2 ∷ 2 ∷ 1 ∷ 1 ∷ 1 ∷ [];
  buffers = 2;
  sum = 27220;
  dearest = 2;
  mean = 6805;
  remainder = 0;
})

-- one refused, and then two that cost the same with one that costs nothing: the index counts the refused one, and the first of the two is named; 1,540 in all, so 513 each and 1 left
abbrev pub tied : List Graph
tied = unknown ∷ looped ∷ p4 ∷ looped ∷ []

abbrev pub of_tied : Answer Report
of_tied = answered (record {
  priced = 3;
  refusals = 0 ∷ 0 ∷ 0 ∷ 0 ∷ 0 ∷ 0 ∷ 0 ∷ 0 ∷ 0 ∷ 0 ∷ 0 ∷ 0 ∷ 0 ∷ 1 ∷ 0 ∷ 0 ∷ 0 ∷ [];
  parts = 0 ∷ 0 ∷ 0 ∷ 0 ∷ 0 ∷ 0 ∷ 0 ∷ 2 ∷ 0 ∷ 0 ∷ 0 ∷ 0 ∷ [];
  buffers = 2;
  sum = 1540;
  dearest = 1;
  mean = 513;
  remainder = 1;
})

-- nothing at all
abbrev pub of_none : Answer Report
of_none = answered (record {
  priced = 0;
  refusals = 0 ∷ 0 ∷ 0 ∷ 0 ∷ 0 ∷ 0 ∷ 0 ∷ 0 ∷ 0 ∷ 0 ∷ 0 ∷ 0 ∷ 0 ∷ 0 ∷ 0 ∷ 0 ∷ 0 ∷ [];
  parts = 0 ∷ 0 ∷ 0 ∷ 0 ∷ 0 ∷ 0 ∷ 0 ∷ 0 ∷ 0 ∷ 0 ∷ 0 ∷ 0 ∷ [];
  buffers = 0;
  sum = 0;
  dearest = 4294967295;
  mean = 0;
  remainder = 0;
})
