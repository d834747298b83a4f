-- The queue is made, node by node: start, turn and done.
-- Assumes nothing.
use mathlib.Core.Path.{◌≡◌, refl, sym, ap, ◌∙◌, subst}
use mathlib.Core.List.{List, []}
use mathlib.Core.Logic.{◌⊎◌, inl, inr}
use Prim.Native.Nat.{ℕ, ◌+◌, ◌*◌, ◌≤◌, ◌<◌}
use native.Mathlib.Nat.{le_refl, eq-zero-or-pos}
use native.Mathlib.Omega.{arith}
use mathlib.Core.Bool.{Bool, true, false, ◌&&◌, not}
use lib.Dec.{T, eqb}
use borrow.Author.Tests.{eq-eqb}
use lib.ListN.{length, get_or, take}
use lib.Seq.{ext_get_or, get_or-take, length-take-le}
use Rattle.tables.specs.Tables.{most_nodes, most_vertices, queue_at}
use Rattle.le.specs.Le.{Outside}
use Rattle.le.proofs.Frames.{outside_none, outside_trans, outside_wider}
use Rattle.queue.specs.Keys.{radix, key, Heap, Pushed, Filling}
use Rattle.queue.specs.Places.{list_of, keys_in, Added}
use Rattle.queue.proofs.Stored.{keys_length}
use Rattle.queue.proofs.Nodes.{filling_start, filling_gone, filling_push, filling_done}
use Rattle.cycle.specs.Next.{may, degrees_in}
use Rattle.cycle.specs.Stage.{Offered, AllSmall, Entered, Made}
use Rattle.cycle.proofs.May.{may_low, may_outside}

pub degrees_outside : (W X : List ℕ) (n hi : ℕ) → n ≤ most_vertices → queue_at ≤ length W → Outside queue_at hi W X → degrees_in X n ≡ degrees_in W n
degrees_outside W X n hi few long o =
    ext_get_or 0 (take (2 * n) X) (take (2 * n) W) (length-take-le (2 * n) X (omega (arith, o.long)) ∙ sym (length-take-le (2 * n) W (omega arith)))
    (λ i l. let j : i < 2 * n = omega (arith, length-take-le (2 * n) X (omega (arith, o.long))) in get_or-take (2 * n) X i 0 j ∙ o.same i (inl (omega arith)) ∙ sym (get_or-take (2 * n) W i 0 j))

module _ (W : List ℕ) (nodes n : ℕ) (less : nodes ≤ n) (few_nodes : nodes ≤ most_nodes) (few : n ≤ most_vertices) (long : queue_at + 2 * nodes ≤ length W) (small : AllSmall (degrees_in W n)) where
  ids : (v : ℕ) → T (may W nodes v) → v < radix
  ids v t = omega (arith, may_low W nodes v t)

  pub making_start : Offered W W nodes n 0 0
  making_start = record {
    filling = subst (λ (K : List ℕ). Filling (may W nodes) (degrees_in W n) K 0) none (filling_start (may W nodes) (degrees_in W n) ids small);
    few = le_refl 0;
    frame = outside_none queue_at (queue_at + 2 * nodes) W;
  }
    where
      none : [] ≡ keys_in W queue_at 0
      none = unfold keys_in in unfold list_of in refl

  module _ (X : List ℕ) (k m : ℕ) (low : k < nodes) (o : Offered W X nodes n k m) where
    same : degrees_in X n ≡ degrees_in W n
    same = degrees_outside W X n (queue_at + 2 * nodes) few (omega arith) o.frame

    pub making_small : AllSmall (degrees_in X n)
    making_small = subst AllSmall (sym same) small

    -- it may not be chosen, or has gone
    making_passed : may W nodes k && not (eqb (get_or X (2 * k) 0) 0) ≡ false → Offered W X nodes n (k + 1) m
    making_passed z = record {
      filling = filling_gone (may W nodes) (degrees_in X n) ids making_small (keys_in X queue_at m) k o.filling
          (ap (λ (y : ℕ). may W nodes k && not (eqb y 0)) (get_or-take (2 * n) X (2 * k) 0 (omega arith)) ∙ z);
      few = omega (arith, o.few);
      frame = o.frame;
    }

    pub making_heap : Heap (keys_in X queue_at m) m
    making_heap = subst (Heap (keys_in X queue_at m)) (keys_length X queue_at m) o.filling.heap

    making_push : T (may W nodes k) → 0 < get_or X (2 * k) 0 → (Y : List ℕ) → Added X Y queue_at m (key k (get_or X (2 * k) 0) (get_or X (2 * k + 1) 0)) → Offered W Y nodes n (k + 1) (m + 1)
    making_push t p Y a = record {
      filling = subst (λ (d : List ℕ). Filling (may W nodes) d (keys_in Y queue_at (m + 1)) (k + 1)) (sym (degrees_outside X Y n (queue_at + 2 * (m + 1)) few (omega (arith, o.frame.long)) a.frame))
          (filling_push (may W nodes) (degrees_in X n) ids making_small (keys_in X queue_at m) k o.filling (keys_in Y queue_at (m + 1)) t (omega (arith, at (2 * k) (omega arith)))
          (subst (λ (x : ℕ). Pushed (keys_in X queue_at m) (keys_in Y queue_at (m + 1)) x) (λ i. key k (sym (at (2 * k) (omega arith)) i) (sym (at (2 * k + 1) (omega arith)) i)) a.pushed));
      few = omega (arith, o.few);
      frame = outside_trans o.frame (outside_wider (le_refl queue_at) (omega (arith, o.few)) a.frame);
    }
      where
        at : (y : ℕ) → y < 2 * n → get_or (degrees_in X n) y 0 ≡ get_or X y 0
        at y l = get_or-take (2 * n) X y 0 l

    pub making_turn : (Y : List ℕ) (r : ℕ) → Entered X Y nodes k m r → Offered W Y nodes n (k + 1) r
    making_turn Y r e = go (may W nodes k) refl (eq-zero-or-pos (get_or X (2 * k) 0))
      where
        test : may X nodes k ≡ may W nodes k
        test = λ i. may_outside W X nodes (queue_at + 2 * nodes) few_nodes o.frame i k

        stays : (Y ≡ X) × (r ≡ m) → may W nodes k && not (eqb (get_or X (2 * k) 0) 0) ≡ false → Offered W Y nodes n (k + 1) r
        stays w z = subst (λ (f : ℕ). Offered W Y nodes n (k + 1) f) (sym w.1) (subst (λ (Z : List ℕ). Offered W Z nodes n (k + 1) m) (sym w.0) (making_passed z))

        go : (b : Bool) → may W nodes k ≡ b → (get_or X (2 * k) 0 ≡ 0) ⊎ (0 < get_or X (2 * k) 0) → Offered W Y nodes n (k + 1) r
        go false q z = stays (e.barred (test ∙ q)) (λ i. q i && not (eqb (get_or X (2 * k) 0) 0))
        go true q (inl z) = stays (e.gone z) (λ i. q i && not (eq-eqb (get_or X (2 * k) 0) 0 z i))
        go true q (inr p) = let w = e.alive (test ∙ q) p in subst (λ (f : ℕ). Offered W Y nodes n (k + 1) f) (sym w.1) (making_push (subst T (sym q) tt) p Y w.0)

  pub making_done : (X : List ℕ) (m : ℕ) → Offered W X nodes n nodes m → Made W X nodes n m
  making_done X m o = record {
    queued = filling_done (may W nodes) (degrees_in X n) ids (subst AllSmall (sym (degrees_outside W X n (queue_at + 2 * nodes) few (omega arith) o.frame)) small) (keys_in X queue_at m) nodes (λ v t. may_low W nodes v t) o.filling;
    few = o.few;
    frame = o.frame;
  }
