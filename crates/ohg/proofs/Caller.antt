-- Demand 3 from what the caller holds: the returned number and the bytes of the lent buffers.
-- Assumes nothing.
use mathlib.Core.Path.{◌≡◌, refl, sym, ap, ◌∙◌, subst}
use mathlib.Core.Bool.{Bool, true, false, cond, true≢false}
use mathlib.Core.List.{List, [], ◌++◌}
use mathlib.Core.Logic.{◌⊎◌, inl, inr, ◌↔◌}
use Prim.Native.Nat.{ℕ, ◌*◌, ◌^◌, ◌/◌, ◌%◌, ◌≤◌, min}
use native.Mathlib.Omega.{arith}
use lib.Dec.{eqb}
use lib.ListN.{length, take, drop}
use borrow.Author.Tests.{eqb-true, eq-eqb}
use Rattle.le.specs.Le.{Below, numbers, row}
use Rattle.le.proofs.Numbers.{below_widen, numbers_row, length_row}
use Rattle.graph.specs.Answer.{Refusal, Answer, refused, answered, Result, refusal, laid, ◌else◌, ◌>>◌}
use Rattle.graph.specs.Calls.{id_list, spiderize_nodes_call}
use Rattle.graph.specs.Graph.{Graph, Format, form1, form2}
use Rattle.graph.specs.Read.{read_version}
use Rattle.graph.specs.Spider.{spiderize}
use Rattle.graph.specs.Versions.{StoredGraph, format_numbered, read_fitting, fitting, read}
use Rattle.graph.proofs.Answers.{FormOf, ids_below}
use Rattle.graph.proofs.Lists.{true_below}
use Rattle.graph.proofs.Steps.{same_answer, passed, came}
use Rattle.graph.proofs.Versions.{version_known, fitting_formed, read_sound}
use Rattle.choice.specs.Arcs.{In, vertices, NoCycle}
use Rattle.choice.specs.Choice.{Chooses}
use Rattle.choice.specs.Calls.{room_cycle_breaking_nodes, cycle_breaking_nodes_call, cycle_breaking_nodes_keeping_call, no_loop_call, find_loop_call}
use Rattle.choice.specs.Drawing.{arcs, vertex_count, selectable, chosen, no_loop}
use Rattle.choice.specs.Keeping.{unkept, chosen_keeping, KeptCycle}
use Rattle.choice.specs.Loop.{Loop, first_core, loop}
use Rattle.choice.specs.Promises.{Breaks, CutOf, Spares, Admitted, KeepingOf, NoneOrShown}
use Rattle.choice.specs.Simple.{SimpleCycle}
use Rattle.choice.proofs.Demand3.{same_runs}
use Rattle.choice.proofs.Graphs.{every_run_gives_chosen, some_run_gives_chosen, chosen_breaks, chosen_and_free_are_all}
use Rattle.choice.proofs.Kept.{answer_iff_run, answered_spares}
use Rattle.choice.proofs.KeptStored.{keeping_answer, sixteen_iff_kept_cycle, sixteen_means}
use Rattle.choice.proofs.Fits.{all_below_lem}
use Rattle.choice.proofs.Loops.{no_loop_iff_cycle}
use Rattle.choice.proofs.Shown.{none_or_shown, shown_empty_iff_no_cycle, steps_bounds, every_walk_gives_loop, shown_below_lem}
use Rattle.choice.proofs.ShownStored.{shown_fits, find_loop_answer}
use Rattle.choice.proofs.Spiderized.{chosen_spiderized_no_cycle, keeping_spiderized_no_cycle, spiderized_choice_answer, spiderized_keeping_answer}
use Rattle.choice.proofs.Stored.{cycle_breaking_nodes_answer, no_loop_answer}
use Rattle.packing.specs.Packed.{packed, Returns, Ranged}
use Rattle.packing.specs.Unpacked.{code_in, a_in, b_in}
use Rattle.packing.specs.Caller.{Draws}
use Rattle.ohg.specs.Caller.{width_in, list_bytes, listed, ToldChoice, ids_given, Keepable, ToldKeeping, ToldKeptCycle, ToldSpiderized, ToldNoLoop, ToldLoop}
use Rattle.ohg.proofs.Ranges.{cycle_breaking_nodes_keeping_ranged, spiderize_nodes_ranged, no_loop_ranged, find_loop_ranged}
use Rattle.packing.proofs.Ranges.{cycle_breaking_nodes_ranged}
use Rattle.packing.proofs.Unpacked.{code_of_packed, b_of_packed}
use Rattle.packing.proofs.Caller.{answer_of_lem, draws, front, kept}

-- ---- the caller knows the width of a graph's lists

-- the width that goes with a version's number
abbrev width_numbered : ℕ → ℕ
width_numbered v = cond (eqb v 2) 4 2

width_of : (v : ℕ) (f : Format) → format_numbered v ≡ answered f → width_numbered v ≡ f.width
width_of v f p = let known = version_known v f p in go known.0.one known.1
  where
    go : (f ≡ form1) ⊎ (f ≡ form2) → f.version ≡ v → width_numbered v ≡ f.width
    go (inl e) n = ap width_numbered (sym n ∙ ap (λ (k : Format). k.version) e) ∙ ap (λ (k : Format). k.width) (sym e)
    go (inr e) n = ap width_numbered (sym n ∙ ap (λ (k : Format). k.version) e) ∙ ap (λ (k : Format). k.width) (sym e)

width_read : (b : List ℕ) (s : StoredGraph) → read b ≡ answered s → width_in b ≡ s.format.width
unfolding read read_version
width_read b s p =
    let p₁ = came (read_version b) _ p in
    let q₁ = passed _ _ _ p₁.1 in
    let q₂ = passed _ _ _ q₁.1 in
    let p₂ = came (format_numbered p₁.0) _ p₁.2 in
    let p₃ = came (read_fitting p₂.0 b) _ p₂.2 in
    ap width_numbered (same_answer q₂.1) ∙ width_of p₁.0 p₂.0 p₂.1 ∙ ap (λ (k : StoredGraph). k.format.width) (same_answer p₃.2)

-- ---- spiderizing at a list that the choice gave, which every directed cycle meets

told_spiderized : (b : List ℕ) → Below 256 b → (r : ℕ) (list : List ℕ) (s : StoredGraph) → read b ≡ answered s → (ids : List ℕ) → listed b r list ≡ ids
    → (old new : List ℕ) (n : ℕ) (m : Result) → a_in n ≡ length m.bytes → new ≡ m.bytes ++ drop (length m.bytes) old
    → (k : Graph) → FormOf (length old) k m.bytes → k ≡ spiderize ids s.graph → NoCycle (arcs (spiderize ids s.graph)) → ToldSpiderized b r list n old new s.graph k
told_spiderized b t r list s stored ids is old new n m long buffer k form made none = record {
  drawing = draws b t s stored;
  answer = subst (λ (l : List ℕ). Draws l k) (sym (front m.bytes old new (a_in n) buffer (sym long))) (record {
    stored = form.back;
    written = form.written;
    formed = fitting_formed k form.formed;
  });
  spiderized = made ∙ ap (λ (l : List ℕ). spiderize l s.graph) (sym is);
  none = subst (λ (z : Graph). NoCycle (arcs z)) (sym made) none;
  fits = subst (λ (i : ℕ). i ≤ length old) (sym long) form.fits;
  stays = kept m.bytes old new (a_in n) buffer (sym long);
}

-- ---- the choice

-- what the list buffer holds: the answer's bytes, of which the ids are read, and what was there
record Held (b : List ℕ) (r : ℕ) (old new : List ℕ) (s : StoredGraph) (c : Result) : Type 0 where
  buffer : new ≡ c.bytes ++ drop (length c.bytes) old
  cut : CutOf b (length old) s c
  ids : listed b r new ≡ (chosen s.graph).ids
  count : a_in r ≡ length (chosen s.graph).ids
  free : b_in r ≡ (chosen s.graph).free
  long : length c.bytes ≡ list_bytes b r

module _ (b : List ℕ) (t : Below 256 b) (old new : List ℕ) (lent r : ℕ) (h : Returns (cycle_breaking_nodes_call b (length old) lent) r old new) (code : code_in r ≡ 0) where
  held : (s : StoredGraph) × (c : Result) × Held b r old new s c × (cycle_breaking_nodes_call b (length old) lent ≡ answered c)
  held =
      let p = answer_of_lem (cycle_breaking_nodes_call b (length old) lent) (cycle_breaking_nodes_ranged b t (length old) lent) h.number code in
      let c = p.0 in
      let found = cycle_breaking_nodes_answer b t (length old) lent c p.1 in
      let s = found.0 in
      let cut = found.1 in
      let g = s.graph in
      let w = s.format.width in
      let list = (chosen g).ids in
      let rest = drop (length c.bytes) old in
      let sound = read_sound b s t cut.stored in
      let small : Below (256 ^ w) list =
      below_widen list (omega (arith, sound.formed.counts.nodes, sound.version.usable.nodes)) (chosen_breaks g sound.formed.proper).nodes in
      let wide : width_in b ≡ w = width_read b s cut.stored in
      let many : a_in r ≡ length list = p.2 ∙ cut.count in
      let buffer : new ≡ c.bytes ++ rest = h.buffer ∙ ap (λ a. laid a old) p.1 in
      let bytes : new ≡ row w list ++ rest = buffer ∙ ap (λ k. k ++ rest) cut.written in (
        s,
        c,
        record {
          buffer = buffer;
          cut = cut;
          ids = (λ i. numbers (wide i) (many i) (bytes i)) ∙ numbers_row w list rest small;
          count = many;
          free = p.3 ∙ cut.free;
          long = ap length cut.written ∙ length_row w list ∙ (λ i. sym many i * sym wide i);
        },
        p.1,
      )

  -- the choice, from what the caller holds
  pub choice_for_the_caller : (g : Graph) × ToldChoice b r old new g
  choice_for_the_caller =
      let x = held in
      let s = x.0 in
      let c = x.1 in
      let k = x.2 in
      let g = s.graph in
      let proper = (read_sound b s t k.cut.stored).formed.proper in
      let is : (chosen g).ids ≡ listed b r new = sym k.ids in
      let breaks : Breaks g (listed b r new) = subst (Breaks g) is (chosen_breaks g proper) in
      let Runs : List ℕ → ℕ → Type 0 = Chooses (arcs g) (selectable g) (vertices (vertex_count g)) in (
        g,
        record {
          drawing = draws b t s k.cut.stored;
          pairless = k.cut.pairless;
          ascends = breaks.ascends;
          nodes = breaks.nodes;
          none = breaks.none;
          meets = breaks.meets;
          every_run = λ ids n run. let e = every_run_gives_chosen g proper ids n run in (e.0 ∙ is, e.1 ∙ sym k.free);
          some_run = subst (λ (l : List ℕ). Runs l (b_in r)) is (subst (λ (n : ℕ). Runs (chosen g).ids n) (sym k.free) (some_run_gives_chosen g proper));
          all = omega (arith, chosen_and_free_are_all g proper, k.count, k.free);
          fits = subst (λ (n : ℕ). n ≤ length old) k.long k.cut.fits;
          stays = kept c.bytes old new (list_bytes b r) k.buffer k.long;
        },
      )

  -- spiderizing at its list
  pub spiderized_choice_for_the_caller : (old' new' : List ℕ) (lent' r' : ℕ) → Returns (spiderize_nodes_call b (take (list_bytes b r) new) (length old') lent') r' old' new' → code_in r' ≡ 0
      → (g : Graph) × (k : Graph) × ToldSpiderized b r new r' old' new' g k
  spiderized_choice_for_the_caller old' new' lent' r' h' code' =
      let x = held in
      let c = x.1 in
      let list = take (list_bytes b r) new in
      let is : list ≡ c.bytes = front c.bytes old new (list_bytes b r) x.2.buffer x.2.long in
      let p = answer_of_lem (spiderize_nodes_call b list (length old') lent') (spiderize_nodes_ranged b t (length old') list lent') h'.number code' in
      let m = p.0 in
      let q : spiderize_nodes_call b c.bytes (length old') lent' ≡ answered m = ap (λ l. spiderize_nodes_call b l (length old') lent') (sym is) ∙ p.1 in
      let made = spiderized_choice_answer b t (length old) (length old') lent lent' c m x.3 q in
      let s = made.0 in
      let g = s.graph in
      let same : x.0 ≡ s = same_answer (sym x.2.cut.stored ∙ made.2.stored) in
      let ids : listed b r new ≡ (chosen g).ids = subst (λ (z : StoredGraph). listed b r new ≡ (chosen z.graph).ids) same x.2.ids in
      let free = chosen_spiderized_no_cycle g (read_sound b s t made.2.stored).formed.proper in
      (g, made.1, told_spiderized b t r new s made.2.stored (chosen g).ids ids old' new' r' m (p.2 ∙ made.5) (h'.buffer ∙ ap (λ a. laid a old') p.1) made.1 made.3 made.4 free)

-- ---- the choice that keeps nodes

-- what a list of a call is, and which bytes are such a list
list_given : (f : Format) (count : ℕ) (list is : List ℕ) → id_list f count list ≡ answered is
    → (length list % f.width ≡ 0) × (is ≡ numbers f.width (length list / f.width) list)
unfolding id_list
list_given f count list is p =
    let p₁ = passed _ _ _ p in
    let p₂ = passed _ _ _ p₁.1 in
    (eqb-true _ _ p₁.0, sym (same_answer p₂.1))

list_taken : (f : Format) (count : ℕ) (list : List ℕ) → length list % f.width ≡ 0 → Below count (numbers f.width (length list / f.width) list)
    → id_list f count list ≡ answered (numbers f.width (length list / f.width) list)
unfolding id_list ◌else◌ ◌>>◌
list_taken f count list e h = rw (eq-eqb (length list % f.width) 0 e, true_below count (numbers f.width (length list / f.width) list) h)

module _ (b list : List ℕ) where
  -- what a call is past 1 to 8 with, from what the caller holds; and the other way
  keepable : Below 256 b → (s : StoredGraph) (kept : List ℕ) → Admitted b list s kept → Keepable b list s.graph × (kept ≡ ids_given b list)
  keepable t s kept a =
      let n = length s.graph.labels in
      let wide : s.format.width ≡ width_in b = sym (width_read b s a.stored) in
      let l = list_given s.format n list kept a.listed in
      let is : kept ≡ ids_given b list = l.1 ∙ (λ i. numbers (wide i) (length list / wide i) list) in (
        record {
          drawing = draws b t s a.stored;
          pairless = a.pairless;
          whole = subst (λ (w : ℕ). length list % w ≡ 0) wide l.0;
          known = subst (λ (k : List ℕ). Below n k) is (ids_below s.format n list kept a.listed);
        },
        is,
      )

  admitted : (g : Graph) → Keepable b list g → Admitted b list (record { format = fitting g; graph = g }) (ids_given b list)
  admitted g k =
      let s : StoredGraph = record { format = fitting g; graph = g } in
      let n = length g.labels in
      let wide : width_in b ≡ (fitting g).width = width_read b s k.drawing.stored in
      let is : ids_given b list ≡ numbers (fitting g).width (length list / (fitting g).width) list = λ i. numbers (wide i) (length list / wide i) list in
      let taken = list_taken (fitting g) n list (subst (λ (w : ℕ). length list % w ≡ 0) wide k.whole) (subst (λ (l : List ℕ). Below n l) is k.known) in
      record {
        stored = k.drawing.stored;
        listed = taken ∙ ap answered (sym is);
        pairless = k.pairless;
      }

-- the ids in the list buffer, and the bytes that they take
module _ (b : List ℕ) (t : Below 256 b) (list old new : List ℕ) (r : ℕ) (s : StoredGraph) (ids : List ℕ) (c : Result) (k : KeepingOf b list (length old) s ids c)
    (count : a_in r ≡ c.a) (buffer : new ≡ c.bytes ++ drop (length c.bytes) old) where
  keeping_wide : width_in b ≡ s.format.width
  keeping_wide = width_read b s k.admitted.stored

  keeping_many : a_in r ≡ length k.picked.ids
  keeping_many = count ∙ k.count

  keeping_long : length c.bytes ≡ list_bytes b r
  keeping_long = ap length k.written ∙ length_row s.format.width k.picked.ids ∙ (λ i. sym keeping_many i * sym keeping_wide i)

  keeping_listed_lem : listed b r new ≡ k.picked.ids
  keeping_listed_lem =
      let w = s.format.width in
      let x = k.picked in
      let rest = drop (length c.bytes) old in
      let sound = read_sound b s t k.admitted.stored in
      let small : Below (256 ^ w) x.ids = below_widen x.ids (omega (arith, sound.formed.counts.nodes, sound.version.usable.nodes)) k.spares.breaks.nodes in
      let bytes : new ≡ row w x.ids ++ rest = buffer ∙ ap (λ l. l ++ rest) k.written in
      (λ i. numbers (keeping_wide i) (keeping_many i) (bytes i)) ∙ numbers_row w x.ids rest small

module _ (b : List ℕ) (t : Below 256 b) (list old new : List ℕ) (lent r : ℕ) (h : Returns (cycle_breaking_nodes_keeping_call b list (length old) lent) r old new) where
  -- where the code is 0 the call answered, and these are its numbers and its bytes
  keeping_held : code_in r ≡ 0
      → (c : Result) × (cycle_breaking_nodes_keeping_call b list (length old) lent ≡ answered c) × (a_in r ≡ c.a) × (b_in r ≡ c.b) × (new ≡ c.bytes ++ drop (length c.bytes) old)
  keeping_held code =
      let p = answer_of_lem (cycle_breaking_nodes_keeping_call b list (length old) lent) (cycle_breaking_nodes_keeping_ranged b t (length old) list lent) h.number code in
      (p.0, p.1, p.2, p.3, h.buffer ∙ ap (λ a. laid a old) p.1)

  -- the choice, from what the caller holds
  pub keeping_for_the_caller : code_in r ≡ 0 → (g : Graph) × ToldKeeping b list r old new g
  keeping_for_the_caller code =
      let p = keeping_held code in
      let c = p.0 in
      let found = keeping_answer b list t (length old) lent c p.1 in
      let s = found.0 in
      let k = found.2 in
      let x = k.picked in
      let g = s.graph in
      let proper = (read_sound b s t k.admitted.stored).formed.proper in
      let free : b_in r ≡ x.free = p.3 ∙ k.free in
      let ids : listed b r new ≡ x.ids = keeping_listed_lem b t list old new r s found.1 c k p.2 p.4 in
      let long : length c.bytes ≡ list_bytes b r = keeping_long b t list old new r s found.1 c k p.2 p.4 in
      let had = keepable b list t s found.1 k.admitted in
      let is : chosen_keeping (ids_given b list) g ≡ answered x = subst (λ (l : List ℕ). chosen_keeping l g ≡ answered x) had.1 k.is in
      let spares : Spares (ids_given b list) g x = answered_spares g proper (ids_given b list) x is in
      let breaks : Breaks g (listed b r new) = subst (Breaks g) (sym ids) spares.breaks in
      let Runs : List ℕ → ℕ → Type 0 = Chooses (arcs g) (unkept (ids_given b list) g) (vertices (vertex_count g)) in
      let run : Runs x.ids x.free = (answer_iff_run g proper (ids_given b list) x).0 is in (
        g,
        record {
          given = had.0;
          ascends = breaks.ascends;
          nodes = breaks.nodes;
          spared = subst (λ (l : List ℕ). (v : ℕ) → In v l → In v (ids_given b list) → ⊥) (sym ids) spares.spared;
          none = breaks.none;
          meets = breaks.meets;
          every_run = λ l n other. let e = same_runs (arcs g) (unkept (ids_given b list) g) (vertices (vertex_count g)) l x.ids n x.free other run in (e.0 ∙ sym ids, e.1 ∙ sym free);
          some_run = subst (λ (l : List ℕ). Runs l (b_in r)) (sym ids) (subst (λ (n : ℕ). Runs x.ids n) (sym free) run);
          all = omega (arith, spares.all_counted, p.2, k.count, free);
          fits = subst (λ (n : ℕ). n ≤ length old) long k.fits;
          stays = kept c.bytes old new (list_bytes b r) p.4 long;
        },
      )

  -- spiderizing at its list
  pub spiderized_keeping_for_the_caller : code_in r ≡ 0 → (old' new' : List ℕ) (lent' r' : ℕ)
      → Returns (spiderize_nodes_call b (take (list_bytes b r) new) (length old') lent') r' old' new' → code_in r' ≡ 0 → (g : Graph) × (k : Graph) × ToldSpiderized b r new r' old' new' g k
  spiderized_keeping_for_the_caller code old' new' lent' r' h' code' =
      let p = keeping_held code in
      let c = p.0 in
      let found = keeping_answer b list t (length old) lent c p.1 in
      let is : take (list_bytes b r) new ≡ c.bytes = front c.bytes old new (list_bytes b r) p.4 (keeping_long b t list old new r found.0 found.1 c found.2 p.2 p.4) in
      let returned : Returns (spiderize_nodes_call b c.bytes (length old') lent') r' old' new' =
      subst (λ (l : List ℕ). Returns (spiderize_nodes_call b l (length old') lent') r' old' new') is h' in
      let q = answer_of_lem (spiderize_nodes_call b c.bytes (length old') lent') (spiderize_nodes_ranged b t (length old') c.bytes lent') returned.number code' in
      let made = spiderized_keeping_answer b t list (length old) (length old') lent lent' c q.0 p.1 q.1 in
      let s = made.0 in
      let k = made.3 in
      let ids : listed b r new ≡ k.picked.ids = keeping_listed_lem b t list old new r s made.1 c k p.2 p.4 in
      let free = keeping_spiderized_no_cycle s.graph (read_sound b s t k.admitted.stored).formed.proper made.1 k.picked k.is in (
        s.graph,
        made.2,
        told_spiderized b t r new s k.admitted.stored k.picked.ids ids old' new' r' q.0 (q.2 ∙ made.6) (returned.buffer ∙ ap (λ a. laid a old') q.1) made.2 made.4 made.5 free,
      )

  -- what 16 means
  pub kept_cycle_for_the_caller : code_in r ≡ 16 → (g : Graph) × ToldKeptCycle b list r old new g
  kept_cycle_for_the_caller code = go (cycle_breaking_nodes_keeping_call b list (length old) lent) refl
    where
      ranged : Ranged (cycle_breaking_nodes_keeping_call b list (length old) lent)
      ranged = cycle_breaking_nodes_keeping_ranged b t (length old) list lent

      go : (x : Answer Result) → cycle_breaking_nodes_keeping_call b list (length old) lent ≡ x → (g : Graph) × ToldKeptCycle b list r old new g
      go (answered y) e =
          absurd (omega (arith, code, code_of_packed (answered y) (subst Ranged e ranged) (h.number ∙ ap packed e)))
      go (refused q) e =
          let ranged' = subst Ranged e ranged in
          let number = h.number ∙ ap packed e in
          let no : q.no ≡ 16 = sym (code_of_packed (refused q) ranged' number) ∙ code in
          let m = sixteen_means b list t (length old) lent q no e in
          let had = keepable b list t m.0 m.1 m.2 in (
            m.0.graph,
            record {
              given = had.0;
              cycle = subst (λ (l : List ℕ). KeptCycle l m.0.graph) had.1 m.3;
              place = b_of_packed (refused q) ranged' number ∙ ap (λ (z : Refusal). min z.place 4294967295) m.4;
              stays = h.buffer ∙ ap (λ a. laid a old) e;
            },
          )

  -- so of a graph and a list of its nodes, with enough work room, the code is 16 exactly if some directed cycle has only kept nodes, however little room
  -- the list has
  pub sixteen_iff_for_the_caller : room_cycle_breaking_nodes ≤ lent → (g : Graph) → Keepable b list g → (code_in r ≡ 16) ↔ KeptCycle (ids_given b list) g
  sixteen_iff_for_the_caller room g k = (there, back)
    where
      call : Answer Result
      call = cycle_breaking_nodes_keeping_call b list (length old) lent

      iff : (call ≡ refused (refusal 16)) ↔ KeptCycle (ids_given b list) g
      iff = sixteen_iff_kept_cycle b list t (length old) lent room (record { format = fitting g; graph = g }) (ids_given b list) (admitted b list g k)

      there : code_in r ≡ 16 → KeptCycle (ids_given b list) g
      there code =
          let m = kept_cycle_for_the_caller code in
          let same : ◌≡◌ {A = StoredGraph} (record { format = fitting m.0; graph = m.0 }) (record { format = fitting g; graph = g }) =
          same_answer (sym m.1.given.drawing.stored ∙ k.drawing.stored) in
          subst (λ (s : StoredGraph). KeptCycle (ids_given b list) s.graph) same m.1.cycle

      back : KeptCycle (ids_given b list) g → code_in r ≡ 16
      back c = let e = iff.1 c in code_of_packed (refused (refusal 16)) (subst Ranged e (cycle_breaking_nodes_keeping_ranged b t (length old) list lent)) (h.number ∙ ap packed e)

-- ---- the no-loop check

-- a no is 0
says_no : (c : Bool) → (◌≡◌ {A = ℕ} (cond c 1 0) 0) ↔ (c ≡ false)
says_no true = (λ e. absurd (omega arith), λ e. absurd (true≢false e))
says_no false = (λ e. refl, λ e. refl)

-- its yes and its no, from what the caller holds
pub no_loop_for_the_caller : (b : List ℕ) → Below 256 b → (lent r : ℕ) → r ≡ packed (no_loop_call b lent) → code_in r ≡ 0 → (g : Graph) × ToldNoLoop b r g
no_loop_for_the_caller b t lent r e code =
    let p = answer_of_lem (no_loop_call b lent) (no_loop_ranged b t lent) e code in
    let x = no_loop_answer b t lent p.0 p.1 in
    let s = x.0 in
    let g = s.graph in
    let a : a_in r ≡ p.0.a = p.2 in
    let said : a_in r ≡ cond (no_loop g) 1 0 = a ∙ ap (λ (k : Result). k.a) x.2 in
    let loops = no_loop_iff_cycle g (read_sound b s t x.1).formed.proper in
    let no = says_no (no_loop g) in (
      g,
      record {
        drawing = draws b t s x.1;
        says_yes = (λ q. x.3.0 (sym a ∙ q), λ n. a ∙ x.3.1 n);
        says_no = (λ q. loops.0 (no.0 (sym said ∙ q)), λ c. said ∙ no.1 (loops.1 c));
      },
    )

-- ---- the loop that is shown

-- nothing is shown, or a directed cycle that passes no vertex twice
shown_cycle : (g : Graph) → NoneOrShown (arcs g) (selectable g) (first_core g) (loop g) → ((loop g).list ≡ []) ⊎ SimpleCycle (arcs g) (loop g).list
shown_cycle g (inl m) = inl (ap (λ (l : Loop). l.list) m.1)
shown_cycle g (inr s) = inr s.simple

-- it, from what the caller holds
pub loop_for_the_caller : (b : List ℕ) → Below 256 b → (old new : List ℕ) (lent r : ℕ) → Returns (find_loop_call b (length old) lent) r old new → code_in r ≡ 0
    → (g : Graph) × ToldLoop b r old new g
loop_for_the_caller b t old new lent r h code =
    let p = answer_of_lem (find_loop_call b (length old) lent) (find_loop_ranged b t (length old) lent) h.number code in
    let c = p.0 in
    let found = find_loop_answer b t (length old) lent c p.1 in
    let s = found.0 in
    let k = found.1 in
    let g = s.graph in
    let w = s.format.width in
    let list = (loop g).list in
    let rest = drop (length c.bytes) old in
    let proper = (read_sound b s t k.stored).formed.proper in
    let wide : width_in b ≡ w = width_read b s k.stored in
    let many : a_in r ≡ length list = p.2 ∙ k.count in
    let steps : b_in r ≡ (loop g).steps = p.3 ∙ k.steps in
    let buffer : new ≡ c.bytes ++ rest = h.buffer ∙ ap (λ a. laid a old) p.1 in
    let bytes : new ≡ row w list ++ rest = buffer ∙ ap (λ l. l ++ rest) k.written in
    let ids : listed b r new ≡ list = (λ i. numbers (wide i) (many i) (bytes i)) ∙ numbers_row w list rest (shown_fits b t s k.stored) in
    let long : length c.bytes ≡ list_bytes b r = ap length k.written ∙ length_row w list ∙ (λ i. sym many i * sym wide i) in
    let few = steps_bounds g proper in (
      g,
      record {
        drawing = draws b t s k.stored;
        pairless = k.pairless;
        none = subst (λ (l : List ℕ). (l ≡ []) ↔ NoCycle (arcs g)) (sym ids) (shown_empty_iff_no_cycle g proper);
        cycle = subst (λ (l : List ℕ). (l ≡ []) ⊎ SimpleCycle (arcs g) l) (sym ids) (shown_cycle g (none_or_shown g proper));
        vertices = subst (Below (vertex_count g)) (sym ids) (all_below_lem (vertex_count g) list (shown_below_lem g proper));
        every_walk = λ start visits again l v. let e = every_walk_gives_loop g proper start visits again l v in (ids ∙ e.0, steps ∙ e.1);
        some_walk = subst (NoneOrShown (arcs g) (selectable g) (first_core g)) (λ i. record { list = sym ids i; steps = sym steps i }) (none_or_shown g proper);
        few = (omega (arith, many, steps, few.0), omega (arith, steps, few.1));
        fits = subst (λ (n : ℕ). n ≤ length old) long k.fits;
        stays = kept c.bytes old new (list_bytes b r) buffer long;
      },
    )
