-- How large a score can be: 01 and 02 name the largest product of arcs in and arcs out in each version.
-- Assumes nothing.
use mathlib.Core.Path.{◌≡◌, refl, ap}
use mathlib.Core.Bool.{Bool, true, false}
use mathlib.Core.List.{List, [], ◌∷◌}
use Prim.Native.Nat.{ℕ, suc, ◌+◌, ◌-◌, ◌*◌, ◌≤◌}
use native.Mathlib.Nat.{mul_comm, mul-add, add-mul, mul-le-mul_left, mul-le-mul_right}
use native.Mathlib.Omega.{arith}
use lib.Dec.{leb}
use lib.ListN.{length, length-append, length-map}
use borrow.Author.Tests.{leb-true, leb-false}
use Rattle.graph.specs.Graph.{Edge, Graph, edge_entries, ports, Format, form1, form2, WellFormed}
use Rattle.choice.specs.Arcs.{Set, into, out}
use Rattle.choice.specs.Choice.{score}
use Rattle.choice.specs.Drawing.{edge_arcs, arcs_from, arcs}
use Rattle.choice.proofs.Degrees.{both_degrees}
use Rattle.choice.proofs.Fits.{fits_apart, proper_fits}

-- there is an arc for each port
pub length_arcs : (e : ℕ) (es : List Edge) → length (arcs_from e es) ≡ length (edge_entries es)
unfolding arcs_from edge_arcs
length_arcs e [] = refl
length_arcs e (d ∷ es) = simp (length-append, length-map, length_arcs (suc e) es)

-- the product of two numbers is largest where they are equal: here the first is no more than the half
under_half : (half x y : ℕ) → x ≤ half → x + y ≤ half + half → x * y ≤ half * half
under_half half x y l h =
    let d : ℕ = half - x in
    let same : x + d ≡ half = omega arith in
    let up : x * y ≤ x * (half + d) = mul-le-mul_left x (omega arith) in
    let more : x * d ≤ half * d = mul-le-mul_right d l in
    omega (arith, mul-add x half d, add-mul x d half, mul_comm half d, ap (λ k. k * half) same)

product_most : (half x y : ℕ) → x + y ≤ half + half → x * y ≤ half * half
product_most half x y h = go (leb x half) refl
  where
    go : (c : Bool) → leb x half ≡ c → x * y ≤ half * half
    go true e = under_half half x y (leb-true x half e) h
    go false e = let l = leb-false x half e in omega (arith, mul_comm x y, under_half half y x (omega arith) (omega arith))

-- of a graph within the limits of a version: half the ports times half the ports
score_half : (f : Format) (half : ℕ) → f.most_ports ≤ half + half → (g : Graph) → WellFormed f g → (S : Set) (v : ℕ) → score (arcs g) S v ≤ half * half
unfolding score
score_half f half e g h S v =
    let own = both_degrees (arcs g) S v (fits_apart (length g.labels) (length g.edges) (arcs g) (proper_fits g h.proper)) in
    let many : length (arcs g) ≡ ports g = unfold arcs in length_arcs (length g.labels) g.edges in
    product_most half (into (arcs g) S v) (out (arcs g) S v) (omega (arith, own, many, h.ports))

-- a score is at most 4,096 times 4,096 in version 1, and 32,768 times 32,768 in version 2
pub score_most : (g : Graph) (S : Set) (v : ℕ) → (WellFormed form1 g → score (arcs g) S v ≤ 4096 * 4096) × (WellFormed form2 g → score (arcs g) S v ≤ 32768 * 32768)
score_most g S v = (λ h. score_half form1 4096 (omega arith) g h S v, λ h. score_half form2 32768 (omega arith) g h S v)
