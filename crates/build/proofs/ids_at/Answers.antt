-- `build::ids_at` meets its contract.
-- Assumes nothing.
use mathlib.Core.Logic.{inr}
use mathlib.Core.Path.{◌≡◌, refl, ap, ◌∙◌}
use Prim.Native.Nat.{ℕ, ◌+◌, ◌*◌, ◌-◌}
use lib.ListN.{take, drop, length-drop}
use Rattle.graph.specs.Calls.{id_list}
use Rattle.graph.specs.Graph.{largest}
use Rattle.form.specs.Form.{counted}
use Rattle.build.proofs.Lists.{ids_part}
use native.Mathlib.Omega.{arith}
use Rattle.build.proofs.ids_at.Goals as goal

pub id_list-requires : goal.id_list-requires
id_list-requires c = inr refl

pub returns : goal.returns
returns c =
    let a = c.args in
    let b = a.steps.now in
    let e : (a.at + 4 * a.n) - a.at ≡ 4 * a.n = omega arith in
    c.id_list.ensures largest refl ∙ ap counted (ap (λ (k : ℕ). id_list largest a.count (take k (drop a.at b))) e ∙ ids_part largest refl a.count a.n (drop a.at b) (omega (arith, length-drop a.at b, c.requires)))
