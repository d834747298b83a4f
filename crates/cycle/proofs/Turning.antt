-- The loop that brings the best node to the top: start, turn and done; each turn the keys' sum falls.
-- Assumes nothing.
use mathlib.Core.Path.{◌≡◌, sym, ap, ◌∙◌, subst}
use mathlib.Core.List.{List}
use mathlib.Core.Logic.{◌≢◌, inl, ◌⊎◌, inr}
use Prim.Native.Nat.{ℕ, ◌+◌, ◌*◌, ◌≤◌, ◌<◌}
use native.Mathlib.Nat.{eq-or-lt_of_le}
use native.Mathlib.Omega.{arith}
use lib.ListN.{length, get_or, take}
use lib.Seq.{ext_get_or, get_or-take, length-take-le}
use Rattle.tables.specs.Tables.{most_vertices, queue_at}
use Rattle.le.specs.Le.{Outside}
use Rattle.queue.specs.Keys.{radix, key, id_of, key_now, total, Heap, Sunk, Queued}
use Rattle.queue.specs.Places.{key_at, keys_in, Replaced}
use Rattle.queue.proofs.Stored.{keys_length, keys_at}
use Rattle.queue.proofs.Nodes.{top_allowed, now_not_above, queue_replaced}
use Rattle.cycle.specs.Next.{may, degrees_in, Agreed}
use Rattle.cycle.proofs.May.{may_low}

-- the sum of all keys
abbrev pub sum : List ℕ → ℕ
sum K = total (λ k. k) K

pub record Turning (W X : List ℕ) (nodes n m top id present : ℕ) : Type 0 where
  pub queued : Queued (may W nodes) (degrees_in X n) (keys_in X queue_at m)
  pub frame : Outside queue_at (queue_at + 2 * m) W X
  pub is_top : top ≡ get_or (keys_in X queue_at m) 0 0
  pub is_id : id ≡ id_of top
  pub is_present : present ≡ key_now (degrees_in X n) id

module _ (W : List ℕ) (nodes n m : ℕ) (less : nodes ≤ n) (few : n ≤ most_vertices) (some : 0 < m) (fits : queue_at + 2 * m ≤ length W) where
  -- the degrees stand before the queue
  degrees_same : (X Y : List ℕ) → length X ≡ length W → Outside queue_at (queue_at + 2 * m) X Y → degrees_in Y n ≡ degrees_in X n
  degrees_same X Y l o =
      ext_get_or 0 (take (2 * n) Y) (take (2 * n) X) (long Y (o.long ∙ l) ∙ sym (long X l))
      (λ i k. let j : i < 2 * n = omega (arith, long Y (o.long ∙ l)) in get_or-take (2 * n) Y i 0 j ∙ o.same i (inl (omega arith)) ∙ sym (get_or-take (2 * n) X i 0 j))
    where
      long : (Z : List ℕ) → length Z ≡ length W → length (take (2 * n) Z) ≡ 2 * n
      long Z e = length-take-le (2 * n) Z (omega arith)

  module _ (X : List ℕ) (l : length X ≡ length W) (q : Queued (may W nodes) (degrees_in X n) (keys_in X queue_at m)) where
    some_keys : 0 < length (keys_in X queue_at m)
    some_keys = omega (arith, keys_length X queue_at m)

    pub top_read : key_at X queue_at 0 ≡ get_or (keys_in X queue_at m) 0 0
    top_read = sym (keys_at X queue_at m 0 some)

    -- the node of the top, and its degrees
    pub top_node : (top id : ℕ) → top ≡ get_or (keys_in X queue_at m) 0 0 → id ≡ id_of top → id < nodes
    top_node top id e f = subst (λ (v : ℕ). v < nodes) (sym (f ∙ ap id_of e)) (may_low W nodes (id_of (get_or (keys_in X queue_at m) 0 0)) (top_allowed (may W nodes) (degrees_in X n) (keys_in X queue_at m) q some_keys))

    pub degree_small : (y : ℕ) → y < 2 * n → get_or X y 0 < radix
    degree_small y k = subst (λ (v : ℕ). v < radix) (get_or-take (2 * n) X y 0 k) (q.small y)

    pub key_read : (v : ℕ) → v < nodes → key v (get_or X (2 * v) 0) (get_or X (2 * v + 1) 0) ≡ key_now (degrees_in X n) v
    key_read v k = λ i. key v (sym (get_or-take (2 * n) X (2 * v) 0 (omega arith)) i) (sym (get_or-take (2 * n) X (2 * v + 1) 0 (omega arith)) i)

  module _ (X : List ℕ) (top id present : ℕ) (t : Turning W X nodes n m top id present) where
    -- a stale top is above the present key
    stale : present ≢ top → present < get_or (keys_in X queue_at m) 0 0
    stale f = go (eq-or-lt_of_le under)
      where
        above : key_now (degrees_in X n) (id_of (get_or (keys_in X queue_at m) 0 0)) ≤ get_or (keys_in X queue_at m) 0 0
        above = now_not_above (may W nodes) (degrees_in X n) (keys_in X queue_at m) t.queued (some_keys X t.frame.long t.queued)

        same : present ≡ key_now (degrees_in X n) (id_of (get_or (keys_in X queue_at m) 0 0))
        same = t.is_present ∙ ap (key_now (degrees_in X n)) (t.is_id ∙ ap id_of t.is_top)

        ne : present ≡ get_or (keys_in X queue_at m) 0 0 → ⊥
        ne e = f (e ∙ sym t.is_top)

        under : present ≤ get_or (keys_in X queue_at m) 0 0
        under = omega (arith, above, same)

        go : (present ≡ get_or (keys_in X queue_at m) 0 0) ⊎ (present < get_or (keys_in X queue_at m) 0 0) → present < get_or (keys_in X queue_at m) 0 0
        go (inl e) = absurd (ne e)
        go (inr k) = k

    pub heap_here : Heap (keys_in X queue_at m) m
    heap_here = subst (Heap (keys_in X queue_at m)) (keys_length X queue_at m) t.queued.heap

    module _ (Y : List ℕ) (r : Replaced X Y queue_at m present) where
      pub turn_queued : Queued (may W nodes) (degrees_in Y n) (keys_in Y queue_at m)
      turn_queued =
          subst (λ (d : List ℕ). Queued (may W nodes) d (keys_in Y queue_at m)) (sym (degrees_same X Y t.frame.long r.frame))
          (queue_replaced (may W nodes) (degrees_in X n) (keys_in X queue_at m) t.queued (some_keys X t.frame.long t.queued) (keys_in Y queue_at m)
          (subst (Sunk (keys_in X queue_at m) (keys_in Y queue_at m)) (t.is_present ∙ ap (key_now (degrees_in X n)) (t.is_id ∙ ap id_of t.is_top)) r.sunk))

      pub turn_less : present ≢ top → sum (keys_in Y queue_at m) < sum (keys_in X queue_at m)
      turn_less f = omega (arith, r.sunk.moved (λ k. k), stale f)

    pub turned : present ≡ top → Agreed W X nodes n m id
    turned e = record {
      queued = t.queued;
      is = t.is_id ∙ ap id_of t.is_top;
      agrees = sym t.is_present ∙ e ∙ t.is_top;
      frame = t.frame;
    }
