-- `read::read_lists` meets its contract.
-- Assumes nothing.
use mathlib.Core.Path.{ap, ◌∙◌, subst}
use Prim.Native.Nat.{ℕ, ◌+◌, ◌*◌, ◌<◌, ◌^◌}
use native.Mathlib.Nat.{mul-le-mul_left}
use native.Mathlib.Omega.{arith}
use Rattle.form.specs.Form.{meant}
use Rattle.edges.specs.Walk.{StandAt, bad_place}
use Rattle.edges.proofs.Small.{small}
use Rattle.read.proofs.Whole.{other_length, foreign_id, all_read}
use Rattle.read.proofs.read_lists.Goals as goal
use Rattle.read.proofs.read_lists.Goals.{After-struct_known-3-1}

-- the lists take few bytes
few : (c : After-struct_known-3-1) → (c.args.z.sources + (c.args.z.targets + 2 * c.args.z.pairs)) * c.args.f.width < 2 ^ 40
few c = let z = c.args.z in
    let l = small c.requires.2 in
    omega (arith, mul-le-mul_left (z.sources + (z.targets + 2 * z.pairs)) l.narrow)

pub overflow_mul-ids : goal.overflow_mul-ids
overflow_mul-ids c = let l = small c.requires.2 in omega arith

pub overflow_add-ids : goal.overflow_add-ids
overflow_add-ids c = let l = small c.requires.2 in omega arith

pub overflow_add-ids-2 : goal.overflow_add-ids-2
overflow_add-ids-2 c = let l = small c.requires.2 in omega arith

pub overflow_mul-bytes : goal.overflow_mul-bytes
overflow_mul-bytes c = let l = few c in omega arith

pub overflow_add-at : goal.overflow_add-at
overflow_add-at c =
    let z = c.args.z in
    let l = small c.requires.2 in
    omega (arith, mul-le-mul_left (z.sources + (z.targets + 2 * z.pairs)) l.narrow)

pub returns-then-s-at : goal.returns-then-s-at
returns-then-s-at c body edges e p q start at =
    let a = c.args in
    other_length (meant a.f) a.s.now a.at a.z a.ports a.bound body edges e p q (λ h. c.if-s-at.true h) (omega arith) c.min.result c.min.ensures

pub bad_place-place-requires : goal.bad_place-place-requires
bad_place-place-requires c =
    (record { wide = c.requires.2.width; inside = omega arith }, c.requires.3)

pub returns-then-z-reach_of : goal.returns-then-z-reach_of
returns-then-z-reach_of c body edges e p q start at =
    let a = c.args in
    let n = a.z.sources + (a.z.targets + 2 * a.z.pairs) in
    foreign_id (meant a.f) a.s.now a.at a.z a.ports a.bound body edges e p q c.if-s-at.false c.reach_of.result c.reach_of.ensures
    (subst (λ (k : ℕ). StandAt a.f.width a.s.now k edges a.at) start at) (omega arith) c.bad_place-place.result
    (c.bad_place-place.ensures ∙ ap (λ (k : ℕ). bad_place a.f.width a.z.nodes a.s.now k a.z.edges n) start)

pub returns : goal.returns
returns c body edges e p q start at =
    let a = c.args in
    all_read (meant a.f) a.s.now a.at a.z a.ports a.bound body edges e p q c.if-s-at.false c.reach_of.result c.reach_of.ensures (omega arith)
