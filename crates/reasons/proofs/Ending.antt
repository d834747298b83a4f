-- What the call comes to: the queue is made of what the first removal left; and when all is told, the buffer is that of the definition, or 10.
-- Assumes nothing.
use mathlib.Core.Path.{◌≡◌, refl, sym, ap, ◌∙◌, subst}
use mathlib.Core.List.{List, [], ◌∷◌, ◌++◌, map}
use mathlib.Core.Logic.{inl, inr}
use Prim.Native.Nat.{ℕ, zero, suc, ◌+◌, ◌-◌, ◌*◌, ◌/◌, ◌%◌, ◌≤◌, ◌<◌}
use native.Mathlib.Decide.{dec_lt}
use native.Mathlib.Nat.{zero-add}
use native.Mathlib.Omega.{arith}
use lib.ListN.{length, get_or, drop, replicate, length-replicate, get_or-replicate, length-append, length-drop, get_or-append}
use lib.Seq.{sets, length-sets, ext_get_or, get_or-drop, get_or-append-add}
use borrow.Author.Tests.{le-leb, lt-leb}
use Rattle.le.specs.Le.{row, Outside}
use Rattle.le.proofs.Numbers.{row_append}
use Rattle.le.proofs.Tables.{get_d_sets, get_d_sets_before}
use Rattle.choice.specs.Drawing.{chosen}
use Rattle.choice.specs.Reasons.{Reason, picked, not_led_to, leads_to_none, numbers_of, reason, reasons}
use Rattle.choice.proofs.ReasonsGraphs.{reasons_length}
use Rattle.form.specs.Form.{Gives}
use Rattle.form.specs.declared.Refusal.TheVariants as why
use Rattle.std.specs.Prelude.{Ok, Err}
use Rattle.form.proofs.Answers.{gives_refused, gives_done}
use Rattle.graph.specs.Answer.{Answer, answered, Result, lay, ◌else◌, ◌>>=◌, ◌>>◌}
use Rattle.graph.specs.Calls.{fit}
use Rattle.graph.specs.Graph.{Graph}
use Rattle.graph.specs.Lists.{joined, range}
use Rattle.tables.specs.Tables.{picked_at, queue_at}
use Rattle.removal.specs.Room.{Source}
use Rattle.cycle.specs.Next.{may, NoneKept, degrees_in}
use Rattle.cycle.specs.Stage.{AllSmall, Made}
use Rattle.cycle.proofs.Begin.{Drawn, small_still}
use Rattle.cycle.proofs.May.{may_outside, none_outside}
use Rattle.queue.specs.Keys.{Queued}
use Rattle.queue.specs.Places.{keys_in}
use Rattle.reasons.specs.Told.{place_of, Told, Explaining, Explained}
use Rattle.reasons.proofs.Choosing.{explaining_same, settled_state}

-- ---- the queue

module _ {s : Source} {g : Graph} {W buffer : List ℕ} {nodes n end : ℕ} (d : Drawn g nodes n) (long : queue_at + 2 * nodes ≤ length W) (x : Explaining s g W buffer nodes n end 1)
    {X : List ℕ} (is : X ≡ sets W picked_at (replicate nodes 0)) where
  X_long : length X ≡ length W
  X_long = ap length is ∙ length-sets W picked_at (replicate nodes 0)

  pub cleared : Explaining s g X buffer nodes n end 1
  cleared = explaining_same s g W X buffer nodes n end 1 d (omega arith) X_long (λ i l. ap (λ (Z : List ℕ). get_or Z i 0) is ∙ get_d_sets_before W picked_at (replicate nodes 0) i l) x

  pub cleared_small : AllSmall (degrees_in X n)
  cleared_small = small_still s g nodes n d _ (degrees_in X n) (settled_state s g X buffer nodes n end 1 d (omega (arith, X_long)) cleared)

  pub cleared_none : NoneKept X nodes
  cleared_none v l e =
      let k = length-replicate {A = ℕ} nodes 0 in
      absurd (omega (arith, ap (λ (Z : List ℕ). get_or Z (picked_at + v) 0) is ∙ get_d_sets W picked_at (replicate nodes 0) v (omega arith) (omega (arith, d.few_nodes)) ∙ get_or-replicate nodes v 0 0 l, e))

  module _ {Y : List ℕ} {m : ℕ} (made : Made X Y nodes n m) where
    pub queue_explaining : Explaining s g Y buffer nodes n end 1
    queue_explaining = explaining_same s g X Y buffer nodes n end 1 d (omega (arith, X_long)) made.frame.long (λ i l. made.frame.same i (inl (omega arith))) cleared

    pub queue_queued : Queued (may Y nodes) (degrees_in Y n) (keys_in Y queue_at m)
    queue_queued = subst (λ (t : ℕ → _). Queued t (degrees_in Y n) (keys_in Y queue_at m)) (sym (may_outside X Y nodes (queue_at + 2 * nodes) d.few_nodes made.frame)) made.queued

    pub queue_none : NoneKept Y nodes
    queue_none = none_outside X Y nodes (queue_at + 2 * nodes) d.few_nodes made.frame cleared_none

-- ---- the buffer

four : (r : Reason) → length (row 4 (numbers_of r)) ≡ 16
four (picked stage ins outs) = refl
four (not_led_to stage) = refl
four (leads_to_none stage) = refl

entries_long : (rs : List Reason) → length (row 4 (joined numbers_of rs)) ≡ 16 * length rs
entries_long [] = refl
entries_long (r ∷ rs) =
    ap length (row_append 4 (numbers_of r) (joined numbers_of rs))
    ∙ omega (arith, length-append (row 4 (numbers_of r)) (row 4 (joined numbers_of rs)), four r, entries_long rs)

-- entry v of the row stands at place 16 v
entry_at : (f : ℕ → Reason) (from k v j : ℕ) → v < k → j < 16 → get_or (row 4 (joined numbers_of (map f (range from k)))) (place_of v + j) 0 ≡ get_or (row 4 (numbers_of (f (from + v)))) j 0
entry_at f from zero v j l h = absurd (omega arith)
entry_at f from (suc k) zero j l h =
    let more = joined numbers_of (map f (range (suc from) k)) in
    let e : from + 0 ≡ from = omega arith in
    let p : place_of 0 + j ≡ j = omega arith in
    ap (λ (bs : List ℕ). get_or bs (place_of 0 + j) 0) (row_append 4 (numbers_of (f from)) more) ∙ ap (λ (q : ℕ). get_or (row 4 (numbers_of (f from)) ++ row 4 more) q 0) p
    ∙ get_or-append (row 4 (numbers_of (f from))) (row 4 more) 0 j (omega (arith, four (f from))) ∙ ap (λ (v : ℕ). get_or (row 4 (numbers_of (f v))) j 0) (sym e)
entry_at f from (suc k) (suc v) j l h =
    let more = joined numbers_of (map f (range (suc from) k)) in
    let p : place_of (suc v) + j ≡ length (row 4 (numbers_of (f from))) + (place_of v + j) = omega (arith, four (f from)) in
    let e : suc from + v ≡ from + suc v = omega arith in
    ap (λ (bs : List ℕ). get_or bs (place_of (suc v) + j) 0) (row_append 4 (numbers_of (f from)) more)
    ∙ ap (λ (q : ℕ). get_or (row 4 (numbers_of (f from)) ++ row 4 more) q 0) p ∙ get_or-append-add (row 4 (numbers_of (f from))) (row 4 more) (place_of v + j) 0
    ∙ entry_at f (suc from) k v j (omega arith) h ∙ ap (λ (u : ℕ). get_or (row 4 (numbers_of (f u))) j 0) e

-- what follows 8
abbrev pub answer_of : Graph → ℕ → Answer Result
answer_of g room = fit room (row 4 (joined numbers_of (reasons g))) >>= λ list. answered (record { a = length g.labels; b = length (chosen g).ids; bytes = list; map = [] })

module _ (g : Graph) (nodes : ℕ) (same : nodes ≡ length g.labels) where
  abbrev pub all_of : List ℕ
  all_of = row 4 (joined numbers_of (reasons g))

  pub all_long : length (row 4 (joined numbers_of (reasons g))) ≡ 16 * nodes
  all_long = omega (arith, entries_long (reasons g), reasons_length g)

  reason_at : (v j : ℕ) → v < length g.labels → j < 16 → get_or (row 4 (joined numbers_of (reasons g))) (place_of v + j) 0 ≡ get_or (row 4 (numbers_of (reason g v))) j 0
  unfolding reasons
  reason_at v j l h = entry_at (reason g) 0 (length g.labels) v j l h ∙ ap (λ (u : ℕ). get_or (row 4 (numbers_of (reason g u))) j 0) (zero-add v)

  -- the buffer is the definition's
  all_laid : (old new : List ℕ) → 16 * nodes ≤ length old → Told g [] new → Outside 0 (16 * nodes) old new → new ≡ lay (row 4 (joined numbers_of (reasons g))) old
  all_laid old new room t o =
      ext_get_or 0 new (all_of ++ drop (length all_of) old)
      (o.long ∙ omega (arith, length-append all_of (drop (length all_of) old), length-drop (length all_of) old, all_long))
      (λ i l. at i l (dec_lt i (16 * nodes)))
    where
      at : (i : ℕ) → i < length new → Dec (i < 16 * nodes) → get_or new i 0 ≡ get_or (all_of ++ drop (length all_of) old) i 0
      at i l (yes h) =
          let p : i ≡ place_of (i / 16) + i % 16 = omega arith in
          let v : i / 16 < length g.labels = omega arith in
          ap (λ (q : ℕ). get_or new q 0) p ∙ t.says (i / 16) v (λ k. k) (i % 16) (omega arith)
          ∙ sym (get_or-append all_of (drop (length all_of) old) 0 i (omega (arith, all_long)) ∙ ap (λ (q : ℕ). get_or all_of q 0) p
          ∙ reason_at (i / 16) (i % 16) v (omega arith))
      at i l (no h) =
          let p : i ≡ length all_of + (i - length all_of) = omega (arith, all_long) in
          o.same i (inr (omega arith)) ∙ ap (λ (q : ℕ). get_or old q 0) p
          ∙ sym (ap (λ (q : ℕ). get_or (all_of ++ drop (length all_of) old) q 0) p ∙ get_or-append-add all_of (drop (length all_of) old) (i - length all_of) 0 ∙ get_or-drop (length all_of) old (i - length all_of) 0)

  pub answer_10 : (old : List ℕ) → length old < 16 * nodes → Gives (answer_of g (length old)) (Err why.NoRoom) old old
  unfolding fit ◌else◌ ◌>>◌ ◌>>=◌
  answer_10 old h =
      let l : length old < length all_of = omega (arith, all_long) in
      gives_refused why.NoRoom old (rw (lt-leb (length all_of) (length old) l))

  pub answer_0 : (old new : List ℕ) (ids : ℕ) → 16 * nodes ≤ length old → Explained g old new nodes ids → Gives (answer_of g (length old)) (Ok (record { a = nodes; b = ids })) old new
  unfolding fit ◌else◌ ◌>>◌ ◌>>=◌
  answer_0 old new ids h x =
      let l : length all_of ≤ length old = omega (arith, all_long) in
      rw (same, x.cuts)
      (gives_done (record { a = length g.labels; b = length (chosen g).ids; bytes = all_of; map = [] }) old new (rw (le-leb (length all_of) (length old) l)) (all_laid old new h x.told x.frame))
