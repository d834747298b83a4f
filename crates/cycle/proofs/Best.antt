-- What `next_candidate` answers, when nothing waits: the best of what is left and may be chosen; or one that has gone, and then nothing that is left may be chosen.
-- Assumes nothing.
use mathlib.Core.Path.{◌≡◌, refl, sym, ap, ◌∙◌, subst}
use mathlib.Core.Bool.{Bool, true, false}
use mathlib.Core.List.{List, []}
use Prim.Native.Nat.{ℕ, ◌*◌, ◌<◌}
use native.Mathlib.Omega.{arith}
use lib.Dec.{T}
use lib.ListN.{length, get_or}
use Rattle.tables.specs.Tables.{queue_at}
use Rattle.choice.specs.Arcs.{Arc, Set, has}
use Rattle.choice.specs.Choice.{Best}
use Rattle.halves.specs.Halves.{Between}
use Rattle.halves.proofs.Leaving.{all_live, all_live_out}
use Rattle.queue.specs.Keys.{id_of, key_now}
use Rattle.queue.specs.Places.{keys_in}
use Rattle.queue.proofs.Stored.{keys_length}
use Rattle.queue.proofs.Nodes.{top_best, top_alive}
use Rattle.cycle.specs.Next.{may, degrees_in, Agreed}

module _ (arcs : List Arc) (S : Set) (W X : List ℕ) (nodes n m v : ℕ) (l : 0 < m) (x : Agreed W X nodes n m v) (b : Between arcs n S (degrees_in X n) [] []) where
  some : 0 < length (keys_in X queue_at m)
  some = omega (arith, keys_length X queue_at m)

  agrees : key_now (degrees_in X n) (id_of (get_or (keys_in X queue_at m) 0 0)) ≡ get_or (keys_in X queue_at m) 0 0
  agrees = ap (key_now (degrees_in X n)) (sym x.is) ∙ x.agrees

  -- it is live
  pub next_best : 0 < get_or (degrees_in X n) (2 * v) 0 → Best arcs (may W nodes) S v
  next_best alive =
      subst (Best arcs (may W nodes) S) (sym x.is)
      (top_best (may W nodes) (degrees_in X n) (keys_in X queue_at m) x.queued some arcs n S b (subst (λ (u : ℕ). 0 < get_or (degrees_in X n) (2 * u) 0) x.is alive) agrees)

  -- it has gone
  pub next_stuck : get_or (degrees_in X n) (2 * v) 0 ≡ 0 → (u : ℕ) → T (has S u) → may W nodes u ≡ false
  next_stuck gone u t = go (may W nodes u) refl
    where
      top : T (may W nodes u) → 0 < get_or (degrees_in X n) (2 * id_of (get_or (keys_in X queue_at m) 0 0)) 0
      top a = top_alive (may W nodes) (degrees_in X n) (keys_in X queue_at m) x.queued some u a (all_live arcs n S (degrees_in X n) b u t) (all_live_out arcs n S (degrees_in X n) b u t) agrees

      go : (c : Bool) → may W nodes u ≡ c → c ≡ false
      go false e = refl
      go true e =
          let a : 0 < get_or (degrees_in X n) (2 * v) 0 = subst (λ (k : ℕ). 0 < get_or (degrees_in X n) (2 * k) 0) (sym x.is) (top (subst T (sym e) tt)) in
          absurd (omega (arith, a, gone))
