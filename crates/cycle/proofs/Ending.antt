-- After the first free removal: the flags are cleared; if some vertex is left, the kept nodes are marked, the queue is made and the stages run. What is answered is
-- then the choice that keeps them, and the flags are its ids.
-- Assumes nothing.
use mathlib.Core.Path.{◌≡◌, refl, sym, ap, ◌∙◌, subst}
use mathlib.Core.Bool.{Bool, true, false, ◌&&◌, cond, not}
use mathlib.Core.List.Memᴰ
use mathlib.Core.List.{List, []}
use mathlib.Core.Logic.{◌≢◌, inl}
use Prim.Native.Nat.{ℕ, ◌+◌, ◌*◌, ◌≤◌, ◌<◌}
use native.Mathlib.Omega.{arith}
use lib.Dec.{T, eqb, ltb}
use lib.ListN.{length, get_or, replicate, length-replicate, get_or-replicate}
use lib.Seq.{sets, length-sets}
use borrow.Author.Tests.{ltb-true}
use Rattle.le.proofs.Tables.{get_d_sets, get_d_sets_before}
use Rattle.form.specs.Form.{telling}
use Rattle.form.specs.declared.Refusal.{Refusal}
use Rattle.form.specs.declared.Refusal.TheVariants as why
use Rattle.std.specs.Prelude.{Result, Ok, Err}
use Rattle.graph.specs.Answer.{refused, answered, refusal}
use Rattle.graph.specs.Graph.{Graph}
use Rattle.graph.specs.Lists.{among}
use Rattle.graph.proofs.Steps.{never, same_answer}
use Rattle.choice.specs.Arcs.{In, has}
use Rattle.choice.specs.Choice.{Chosen}
use Rattle.choice.specs.Drawing.{arcs}
use Rattle.choice.specs.Keeping.{keeping_choice, unkept, chosen_keeping}
use Rattle.choice.proofs.Keeping.{stuck_refuses}
use Rattle.halves.specs.Halves.{Halves, Going, times}
use Rattle.halves.proofs.Leaving.{all_live}
use Rattle.halves.proofs.Whole.{first_going, going_done}
use Rattle.queue.specs.Keys.{Queued}
use Rattle.queue.specs.Places.{keys_in}
use Rattle.queue.proofs.Stored.{keys_length}
use Rattle.queue.proofs.Nodes.{queue_some}
use Rattle.tables.specs.Tables.{most_nodes, most_vertices, picked_at, queue_at}
use Rattle.removal.specs.Room.{Source, halves_in, list_in, Roomy}
use Rattle.removal.proofs.Tables.{list_same}
use Rattle.removal.proofs.Peeling.{lists_same}
use Rattle.cycle.specs.Next.{may, NoneKept, degrees_in}
use Rattle.cycle.specs.Stage.{Standing, Underway, Flagged, Answered, AllSmall, Made}
use Rattle.cycle.specs.Begin.{First, kept_marked, ChosenIn}
use Rattle.cycle.proofs.Begin.{Drawn, bounded, waits_long, first_still, first_stable, some_left_lem}
use Rattle.cycle.proofs.Marks.{marked_long, marked_before, marked_flag}
use Rattle.cycle.proofs.May.{may_outside}
use Rattle.cycle.proofs.Staging.{halves_same}

-- the choice is answered, and this is its free count and these are its flags
chosen_answered : (kept : List ℕ) (g : Graph) (X : List ℕ) (nodes free : ℕ) (c : Chosen) → chosen_keeping kept g ≡ answered c → c.free ≡ free → Flagged nodes X c.ids
    → ChosenIn kept g X nodes (Ok free)
chosen_answered kept g X nodes free c e f flags = record {
  is = sym (ap (telling (λ (c : Chosen). c.free)) e ∙ ap answered f);
  flags = λ d q. subst (λ (k : Chosen). Flagged nodes X k.ids) (same_answer (sym e ∙ q)) flags;
}

-- it is refused
chosen_refused : (kept : List ℕ) (g : Graph) (X : List ℕ) (nodes : ℕ) → chosen_keeping kept g ≡ refused (refusal 16) → ChosenIn kept g X nodes (Err why.NothingToChoose)
chosen_refused kept g X nodes e = record {
  is = sym (ap (telling (λ (c : Chosen). c.free)) e);
  flags = λ c q. absurd (never (sym e ∙ q));
}

module _ {s : Source} {g : Graph} {nodes n : ℕ} (d : Drawn g nodes n) {W : List ℕ} {end : ℕ} (long : queue_at + 2 * nodes ≤ length W) (f : First s g W nodes n end)
    {X : List ℕ} (is : X ≡ sets W picked_at (replicate nodes 0)) (kept : List ℕ) where
  few_nodes : nodes ≤ most_nodes
  few_nodes = d.few_nodes

  few : n ≤ most_vertices
  few = d.few

  less : nodes ≤ n
  less = omega (arith, d.nodes_is, d.n_is)

  X_long : length X ≡ length W
  X_long = ap length is ∙ length-sets W picked_at (replicate nodes 0)

  cleared : (x : ℕ) → x < nodes → get_or X (picked_at + x) 0 ≡ 0
  cleared x l =
      let k = length-replicate {A = ℕ} nodes 0 in
      ap (λ (Z : List ℕ). get_or Z (picked_at + x) 0) is ∙ get_d_sets W picked_at (replicate nodes 0) x (omega arith) (omega arith) ∙ get_or-replicate nodes x 0 0 l

  before : (i : ℕ) → i < picked_at → get_or X i 0 ≡ get_or W i 0
  before i l = ap (λ (Z : List ℕ). get_or Z i 0) is ∙ get_d_sets_before W picked_at (replicate nodes 0) i l

  -- the choice, with the numbers of the room
  chosen_is : chosen_keeping kept g ≡ keeping_choice (arcs g) (unkept kept g) n
  unfolding chosen_keeping
  chosen_is = λ i. keeping_choice (arcs g) (unkept kept g) (sym d.n_is i)

  -- all have gone: none is chosen
  pub all_gone : end ≡ n → ChosenIn kept g X nodes (Ok end)
  all_gone e =
      let w = waits_long s g nodes n d W (omega arith) end f in
      let going = subst (Going (arcs g) (unkept kept g) n f.left (halves_in W n end) []) (sym w) (first_going (arcs g) (unkept kept g) n f.left (halves_in W n end) end f.frees f.ready) in
      let told = going_done (arcs g) (unkept kept g) n (list_in s W nodes) f.listed f.left (halves_in W n end) [] going (bounded s g nodes n d) (omega (arith, w)) in
      chosen_answered kept g X nodes end told.0 (chosen_is ∙ told.1) (told.4 ∙ w)
      (λ x l. (λ m. absurd (Memᴰ.not-nil ((told.3 x).0 m)), λ q. absurd (omega (arith, cleared x l))))

  -- the kept nodes are marked
  module _ {M : List ℕ} (marks : M ≡ kept_marked X kept) where
    M_long : length M ≡ length W
    M_long = ap length marks ∙ marked_long X kept ∙ X_long

    M_front : (i : ℕ) → i < picked_at → get_or M i 0 ≡ get_or W i 0
    M_front i l = ap (λ (Z : List ℕ). get_or Z i 0) marks ∙ marked_before X kept i l ∙ before i l

    M_flags : (v : ℕ) → v < nodes → get_or M (picked_at + v) 0 ≡ cond (among kept v) 2 0
    M_flags v l = ap (λ (Z : List ℕ). get_or Z (picked_at + v) 0) marks ∙ marked_flag X kept v (omega (arith, few_nodes, X_long)) ∙ ap (cond (among kept v) 2) (cleared v l)

    -- none is marked where none is listed
    pub none_marked : kept ≡ [] → NoneKept M nodes
    none_marked e v l q = absurd (omega (arith, M_flags v l, ap (λ (vs : List ℕ). cond {A = ℕ} (among vs v) 2 0) e, q))

    M_halves : halves_in M n end ≡ halves_in W n end
    M_halves = halves_same W M n end few f.few (omega arith) M_long M_front

    pub still_small : AllSmall (degrees_in M n)
    still_small = subst AllSmall (sym same) f.small
      where
        same : degrees_in M n ≡ degrees_in W n
        same = unfold halves_in in ap (λ (h : Halves). h.degrees) M_halves

    -- who may be chosen
    test : may M nodes ≡ unkept kept g
    test = (λ i v. at v i) ∙ (λ i v. ltb v (d.nodes_is i) && not (among kept v))
      where
        marked : (b : Bool) → eqb (cond b 2 0) 2 ≡ b
        marked true = refl
        marked false = refl

        at : (v : ℕ) → may M nodes v ≡ ltb v nodes && not (among kept v)
        at v = go (ltb v nodes) refl
          where
            go : (b : Bool) → ltb v nodes ≡ b → b && not (eqb (get_or M (picked_at + v) 0) 2) ≡ b && not (among kept v)
            go true e = ap not (ap (λ (x : ℕ). eqb x 2) (M_flags v (ltb-true v nodes e)) ∙ marked (among kept v))
            go false e = refl

    -- the queue is made
    module _ {Y : List ℕ} {m : ℕ} (made : Made M Y nodes n m) where
      Y_long : length Y ≡ length W
      Y_long = made.frame.long ∙ M_long

      front : (i : ℕ) → i < picked_at → get_or Y i 0 ≡ get_or W i 0
      front i l = made.frame.same i (inl (omega arith)) ∙ M_front i l

      same : halves_in Y n end ≡ halves_in W n end
      same = halves_same W Y n end few f.few (omega arith) Y_long front

      same_may : may Y nodes ≡ may M nodes
      same_may = may_outside M Y nodes (queue_at + 2 * nodes) few_nodes made.frame

      same_degrees : degrees_in Y n ≡ degrees_in W n
      same_degrees = unfold halves_in in ap (λ (h : Halves). h.degrees) same

      -- nobody is queued: nothing that is left may be chosen
      pub none_queued : end ≢ n → m ≡ 0 → ChosenIn kept g Y nodes (Err why.NothingToChoose)
      none_queued ne z =
          let x = some_left_lem s g nodes n d W (omega arith) end f ne in
          chosen_refused kept g Y nodes
          (chosen_is ∙ stuck_refuses (arcs g) (unkept kept g) n (bounded s g nodes n d) f.left (first_stable s g nodes n d W (omega arith) end f) (λ u t. (λ i. sym test i u) ∙ none u t) x.0 x.1)
        where
          none : (u : ℕ) → T (has f.left u) → may M nodes u ≡ false
          none u t = go (may M nodes u) refl
            where
              live : 0 < get_or (degrees_in Y n) (2 * u) 0
              live = subst (λ (e : List ℕ). 0 < get_or e (2 * u) 0) (sym same_degrees) (all_live (arcs g) n f.left (degrees_in W n) (first_still s g nodes n d W (omega arith) end f) u t)

              go : (b : Bool) → may M nodes u ≡ b → b ≡ false
              go false e = refl
              go true e =
                  let some = queue_some (may M nodes) (degrees_in Y n) (keys_in Y queue_at m) made.queued u (subst T (sym e) tt) live in
                  absurd (omega (arith, some, keys_length Y queue_at m))

      pub standing : Standing s Y nodes n m end
      standing = record {
        roomy = subst (Roomy n) (sym same) f.roomy;
        lists = lists_same s W Y nodes n few less (omega arith) Y_long (λ i a b. front i (omega arith)) f.lists;
        queued = subst (λ (t : ℕ → Bool). Queued t (degrees_in Y n) (keys_in Y queue_at m)) (sym same_may) made.queued;
      }

      same_list : (y : ℕ) → y < 2 * n → list_in s Y nodes y ≡ list_in s W nodes y
      same_list y l = list_same s W Y nodes y (omega (arith, few)) Y_long (λ i a b. front i (omega arith)) (omega arith) (f.lists.room_inside y)

      pub underway : Underway s Y nodes n end
      underway = record {
        arcs = arcs g;
        left = f.left;
        bounded = bounded s g nodes n d;
        listed = record {
          right = λ y z l. ap (times z) (same_list y l) ∙ f.listed.right y z l;
          low = λ y t l j. f.listed.low y t l (subst (In t) (same_list y l) j);
        };
        going = subst (λ (h : Halves). Going (arcs g) (may Y nodes) n f.left h [] end) (sym same) (first_going (arcs g) (may Y nodes) n f.left (halves_in W n end) end f.frees f.ready);
        unflagged = λ x l e. unmarked (among kept x) (sym (made.frame.same (picked_at + x) (inl (omega (arith, few_nodes))) ∙ M_flags x l) ∙ e);
      }
        where
          unmarked : (b : Bool) → ◌≡◌ {A = ℕ} (cond b 2 0) 1 → ⊥
          unmarked true e = omega (arith, e)
          unmarked false e = omega (arith, e)

      -- and the stages have run
      pub all_flagged : {Z : List ℕ} {q : Result ℕ Refusal} → Answered s Y Z nodes n end q → ChosenIn kept g Z nodes q
      unfolding underway
      all_flagged a = record {
        is = a.is underway ∙ ap (telling (λ (c : Chosen). c.free)) same_choice;
        flags = λ c e. a.flags underway c (same_choice ∙ e);
      }
        where
          same_choice : keeping_choice (arcs g) (may Y nodes) n ≡ chosen_keeping kept g
          same_choice = (λ i. keeping_choice (arcs g) ((same_may ∙ test) i) n) ∙ sym chosen_is
