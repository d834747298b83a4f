-- A stage in words: what the flag, the pick and the peeling leave alone fits together; and what the queue's loop before it leaves alone.
-- Assumes nothing.
use mathlib.Core.Path.{◌≡◌, refl, sym, ap, ◌∙◌, subst}
use mathlib.Core.Bool.{Bool, true, false, cond}
use mathlib.Core.List.{List}
use mathlib.Core.Logic.{inl, inr}
use Prim.Native.Nat.{ℕ, zero, suc, ◌+◌, ◌-◌, ◌*◌, ◌≤◌, ◌<◌}
use native.Mathlib.Nat.{le_refl}
use native.Mathlib.Omega.{arith}
use lib.Dec.{T, ltb}
use lib.ListN.{length, get_or, set, take, length-set}
use lib.Seq.{get_or-set_other, ext_get_or, get_or-take, length-take-le}
use borrow.Author.Tests.{ltb-true}
use Rattle.tables.specs.Tables.{most_nodes, most_vertices, waiting_at, picked_at, queue_at}
use Rattle.halves.specs.Halves.{Halves, lower_all, peel_from, drop_both, pick}
use Rattle.halves.proofs.Less.{peel_less, pick_less}
use Rattle.queue.specs.Keys.{Queued}
use Rattle.queue.specs.Places.{key_at, keys_in}
use Rattle.queue.proofs.Stored.{keys_length, keys_at}
use Rattle.queue.proofs.Nodes.{queue_lowered, top_allowed}
use Rattle.removal.specs.Room.{Source, part, halves_in, list_in, AllLow, Roomy, Went, Lists}
use Rattle.removal.proofs.Rooms.{roomy_all}
use Rattle.removal.proofs.Tables.{part_length, part_ext, list_same, list_steady}
use Rattle.removal.proofs.Walks.{in_get_d}
use Rattle.removal.proofs.Peeling.{lists_same, lists_steady, lower_all_grows}
use Rattle.removal.proofs.Picking.{roomy_pick, roomy_peel}
use Rattle.cycle.specs.Next.{may, degrees_in, Agreed}
use Rattle.cycle.specs.Stage.{Standing, Staged}
use Rattle.cycle.proofs.May.{may_low, may_outside, may_chosen}

-- keys in words that are the same
pub keys_same : (W X : List ℕ) (base n : ℕ) → ((i : ℕ) → base ≤ i → get_or X i 0 ≡ get_or W i 0) → keys_in X base n ≡ keys_in W base n
keys_same W X base n t =
    ext_get_or 0 (keys_in X base n) (keys_in W base n) (keys_length X base n ∙ sym (keys_length W base n))
    (λ i l. let k : i < n = omega (arith, keys_length X base n) in keys_at X base n i k ∙ key i ∙ sym (keys_at W base n i k))
  where
    key : (i : ℕ) → key_at X base i ≡ key_at W base i
    key i = unfold key_at in omega (arith, t (base + 2 * i) (omega arith), t (base + 2 * i + 1) (omega arith))

-- the model in words that are the same up to the flags
pub halves_same : (W X : List ℕ) (n end : ℕ) → n ≤ most_vertices → end ≤ n → picked_at ≤ length W → length X ≡ length W → ((i : ℕ) → i < picked_at → get_or X i 0 ≡ get_or W i 0) → halves_in X n end ≡ halves_in W n end
unfolding halves_in
halves_same W X n end few fits long e t = λ i. record { degrees = degrees i; waiting = waiting i }
  where
    degrees : take (2 * n) X ≡ take (2 * n) W
    degrees =
        ext_get_or 0 (take (2 * n) X) (take (2 * n) W) (length-take-le (2 * n) X (omega arith) ∙ sym (length-take-le (2 * n) W (omega arith)))
        (λ i l. let k : i < 2 * n = omega (arith, length-take-le (2 * n) X (omega arith)) in get_or-take (2 * n) X i 0 k ∙ t i (omega arith) ∙ sym (get_or-take (2 * n) W i 0 k))

    waiting : part X waiting_at end ≡ part W waiting_at end
    waiting = part_ext W X waiting_at end e (omega arith) (λ i l. t (waiting_at + i) (omega arith))

-- ---- lists that are the same where they are walked

pick_same : (L M : ℕ → List ℕ) (x : ℕ) (h : Halves) → L (2 * x) ≡ M (2 * x) → L (2 * x + 1) ≡ M (2 * x + 1) → pick L x h ≡ pick M x h
unfolding pick
pick_same L M x h e f = λ i. lower_all (f i) (lower_all (e i) (record { degrees = drop_both x h.degrees; waiting = h.waiting }))

pub peel_same : (k n : ℕ) (L M : ℕ → List ℕ) (first : ℕ) (h : Halves) → ((y : ℕ) → y < 2 * n → L y ≡ M y) → ((y : ℕ) → y < 2 * n → AllLow n (M y)) → Roomy n h
    → peel_from k L first h ≡ peel_from k M first h
unfolding peel_from
peel_same zero n L M first h same low r = refl
peel_same (suc k) n L M first h same low r = go (ltb first (length h.waiting)) refl (peel_same k n L M (suc first) l same low)
  where
    y : ℕ
    y = get_or h.waiting first 0

    l : Halves
    l = lower_all (M y) h

    go : (t : Bool) → ltb first (length h.waiting) ≡ t → (Roomy n l → peel_from k L (suc first) l ≡ peel_from k M (suc first) l)
        → cond t (peel_from k L (suc first) (lower_all (L y) h)) h ≡ cond t (peel_from k M (suc first) l) h
    go true e s =
        let m : y < 2 * n = r.low y (in_get_d h.waiting first (ltb-true first (length h.waiting) e)) in
        ap (λ (ts : List ℕ). peel_from k L (suc first) (lower_all ts h)) (same y m) ∙ s (roomy_all n (M y) h (low y m) r)
    go false e s = refl

pick_grows : (L : ℕ → List ℕ) (x : ℕ) (h : Halves) → length h.waiting ≤ length (pick L x h).waiting
unfolding pick
pick_grows L x h = omega (arith, lower_all_grows (L (2 * x)) k, lower_all_grows (L (2 * x + 1)) (lower_all (L (2 * x)) k))
  where
    k : Halves
    k = record { degrees = drop_both x h.degrees; waiting = h.waiting }

peel_grows : (k : ℕ) (L : ℕ → List ℕ) (first : ℕ) (h : Halves) → length h.waiting ≤ length (peel_from k L first h).waiting
unfolding peel_from
peel_grows zero L first h = le_refl (length h.waiting)
peel_grows (suc k) L first h = go (ltb first (length h.waiting)) (peel_grows k L (suc first) l)
  where
    l : Halves
    l = lower_all (L (get_or h.waiting first 0)) h

    go : (t : Bool) → length l.waiting ≤ length (peel_from k L (suc first) l).waiting → length h.waiting ≤ length (cond {A = Halves} t (peel_from k L (suc first) l) h).waiting
    go true r = omega (arith, lower_all_grows (L (get_or h.waiting first 0)) h)
    go false r = le_refl (length h.waiting)

module _ (s : Source) (W : List ℕ) (nodes n m best end : ℕ) (less : nodes ≤ n) (few_nodes : nodes ≤ most_nodes) (few : n ≤ most_vertices) (fits : end ≤ n) (long : queue_at + 2 * m ≤ length W)
    (st : Standing s W nodes n m end) (allowed : T (may W nodes best)) where
  best_low : best < nodes
  best_low = may_low W nodes best allowed

  -- ---- with the flag F

  module _ (F : List ℕ) (f : F ≡ set W (picked_at + best) 1) where
    F_long : length F ≡ length W
    F_long = ap length f ∙ length-set W (picked_at + best) 1

    front : (i : ℕ) → i < picked_at → get_or F i 0 ≡ get_or W i 0
    front i l = ap (λ (Z : List ℕ). get_or Z i 0) f ∙ get_or-set_other W (picked_at + best) i 1 0 (λ e. omega arith)

    F_lists : (y : ℕ) → y < 2 * n → list_in s F nodes y ≡ list_in s W nodes y
    F_lists y l = list_same s W F nodes y (omega arith) F_long (λ i a b. front i (omega arith)) (omega arith) (st.lists.room_inside y)

    F_halves : halves_in F n end ≡ halves_in W n end
    F_halves = halves_same W F n end few fits (omega arith) F_long front

    pub flag_roomy : Roomy n (halves_in F n end)
    flag_roomy = subst (Roomy n) (sym F_halves) st.roomy

    pub flag_lists : Lists s F nodes n
    flag_lists = lists_same s W F nodes n few less (omega arith) F_long (λ i a b. front i (omega arith)) st.lists

    -- ---- after the pick P

    module _ (P : List ℕ) (e : ℕ) (p : Went F P n e (pick (list_in s F nodes) best (halves_in F n end))) where
      P_is : halves_in P n e ≡ pick (list_in s W nodes) best (halves_in W n end)
      P_is =
          p.is ∙ pick_same (list_in s F nodes) (list_in s W nodes) best (halves_in F n end) (F_lists (2 * best) (omega (arith, best_low))) (F_lists (2 * best + 1) (omega (arith, best_low)))
          ∙ ap (pick (list_in s W nodes) best) F_halves

      pub pick_roomy : Roomy n (halves_in P n e)
      pick_roomy = subst (Roomy n) (sym P_is) (roomy_pick n (list_in s W nodes) (halves_in W n end) best (omega (arith, best_low)) st.lists.low st.roomy)

      pub pick_lists : Lists s P nodes n
      pick_lists = lists_steady s F P nodes n few less (omega (arith, F_long)) p.frame flag_lists

      waiting_long : (Z : List ℕ) (k : ℕ) → length Z ≡ length W → k ≤ n → length (halves_in Z n k).waiting ≡ k
      waiting_long Z k q l = unfold halves_in in part_length Z waiting_at k (omega arith)

      pub pick_later : end ≤ e
      pick_later =
          omega (
            arith,
            pick_grows (list_in s W nodes) best (halves_in W n end),
            ap (λ (h : Halves). length h.waiting) P_is,
            waiting_long P e (p.frame.long ∙ F_long) p.few,
            waiting_long W end refl fits,
          )

      -- ---- after the peeling X

      module _ (X : List ℕ) (r : ℕ) (w : Went P X n r (peel_from (n - end) (list_in s P nodes) end (halves_in P n e))) where
        P_lists : (y : ℕ) → y < 2 * n → list_in s P nodes y ≡ list_in s W nodes y
        P_lists y l = list_steady s F P nodes y (omega arith) p.frame (omega (arith, F_long)) (flag_lists.room_inside y) ∙ F_lists y l

        X_is : halves_in X n r ≡ peel_from (n - end) (list_in s W nodes) end (pick (list_in s W nodes) best (halves_in W n end))
        X_is =
            w.is ∙ peel_same (n - end) n (list_in s P nodes) (list_in s W nodes) end (halves_in P n e) P_lists st.lists.low pick_roomy
            ∙ ap (peel_from (n - end) (list_in s W nodes) end) P_is

        -- behind the waiting list all is as it was, but for the flag
        rest : (i : ℕ) → picked_at ≤ i → get_or X i 0 ≡ get_or (set W (picked_at + best) 1) i 0
        rest i l =
            w.frame.same i (omega arith) (inr (omega arith)) ∙ p.frame.same i (omega arith) (inr (omega arith)) ∙ ap (λ (Z : List ℕ). get_or Z i 0) f

        X_keys : keys_in X queue_at m ≡ keys_in W queue_at m
        X_keys = keys_same W X queue_at m (λ i l. rest i (omega arith) ∙ get_or-set_other W (picked_at + best) i 1 0 (λ q. omega (arith, best_low)))

        -- the degrees only fell
        X_less : (y : ℕ) → get_or (degrees_in X n) y 0 ≤ get_or (degrees_in W n) y 0
        X_less y =
            omega (
              arith,
              ap (λ (h : Halves). get_or h.degrees y 0) X_is,
              peel_less (n - end) (list_in s W nodes) end (pick (list_in s W nodes) best (halves_in W n end)) y,
              pick_less (list_in s W nodes) best (halves_in W n end) y,
              degrees_here X r,
              degrees_here W end,
            )
          where
            degrees_here : (Z : List ℕ) (k : ℕ) → get_or (halves_in Z n k).degrees y 0 ≡ get_or (degrees_in Z n) y 0
            degrees_here Z k = unfold halves_in in refl

        X_may : may X nodes ≡ may W nodes
        X_may = may_chosen W X nodes best allowed (omega arith) (λ v l. rest (picked_at + v) (omega arith))

        pub staged : Staged s W X nodes n m best end r
        staged = record {
          few = w.few;
          later = omega (
            arith,
            waiting_long X r (w.frame.long ∙ p.frame.long ∙ F_long) w.few,
            waiting_long W end refl fits,
            ap (λ (h : Halves). length h.waiting) X_is,
            peel_grows (n - end) (list_in s W nodes) end (pick (list_in s W nodes) best (halves_in W n end)),
            pick_grows (list_in s W nodes) best (halves_in W n end),
          );
          is = X_is;
          standing = record {
            roomy = subst (Roomy n) (sym X_is) (roomy_peel (n - end) n (list_in s W nodes) end (pick (list_in s W nodes) best (halves_in W n end)) st.lists.low
                (roomy_pick n (list_in s W nodes) (halves_in W n end) best (omega (arith, best_low)) st.lists.low st.roomy));
            lists = lists_steady s P X nodes n few less (omega (arith, F_long, p.frame.long)) w.frame pick_lists;
            queued = subst (λ (t : ℕ → Bool). Queued t (degrees_in X n) (keys_in X queue_at m)) (sym X_may)
                (subst (Queued (may W nodes) (degrees_in X n)) (sym X_keys) (queue_lowered (may W nodes) (degrees_in W n) (degrees_in X n) (keys_in W queue_at m) X_less st.queued));
          };
          same_lists = λ y l. list_steady s P X nodes y (omega arith) w.frame (omega (arith, F_long, p.frame.long)) (pick_lists.room_inside y) ∙ P_lists y l;
          flags = λ v l. rest (picked_at + v) (omega arith);
          same_may = X_may;
          long = w.frame.long ∙ p.frame.long ∙ F_long;
        }

-- ---- the queue's loop touches the queue alone

module _ (s : Source) (W : List ℕ) (nodes n m end : ℕ) (less : nodes ≤ n) (few_nodes : nodes ≤ most_nodes) (few : n ≤ most_vertices) (some : 0 < m) (fits : end ≤ n) (long : queue_at + 2 * m ≤ length W)
    (st : Standing s W nodes n m end) (M : List ℕ) (best : ℕ) (x : Agreed W M nodes n m best) where
  pub next_allowed : T (may M nodes best)
  next_allowed =
      subst (λ (t : ℕ → Bool). T (t best)) (sym (may_outside W M nodes (queue_at + 2 * m) few_nodes x.frame))
      (subst (λ (v : ℕ). T (may W nodes v)) (sym x.is) (top_allowed (may W nodes) (degrees_in M n) (keys_in M queue_at m) x.queued (omega (arith, keys_length M queue_at m))))

  M_front : (i : ℕ) → i < picked_at → get_or M i 0 ≡ get_or W i 0
  M_front i l = x.frame.same i (inl (omega arith))

  pub next_halves : halves_in M n end ≡ halves_in W n end
  next_halves = halves_same W M n end few fits (omega arith) x.frame.long M_front

  pub next_lists : (y : ℕ) → y < 2 * n → list_in s M nodes y ≡ list_in s W nodes y
  next_lists y l = list_same s W M nodes y (omega arith) x.frame.long (λ i a b. M_front i (omega arith)) (omega arith) (st.lists.room_inside y)

  pub next_standing : Standing s M nodes n m end
  next_standing = record {
    roomy = subst (Roomy n) (sym next_halves) st.roomy;
    lists = lists_same s W M nodes n few less (omega arith) x.frame.long (λ i a b. M_front i (omega arith)) st.lists;
    queued = subst (λ (t : ℕ → Bool). Queued t (degrees_in M n) (keys_in M queue_at m)) (sym (may_outside W M nodes (queue_at + 2 * m) few_nodes x.frame)) x.queued;
  }
