-- T-04 from what the caller holds: the returned number and the bytes of the lent buffer.
-- Assumes nothing.
use mathlib.Core.Path.{◌≡◌, refl, sym, ap, ◌∙◌, subst}
use mathlib.Core.List.{List, [], ◌∷◌, ◌++◌}
use mathlib.Core.Logic.{◌↔◌}
use Prim.Native.Nat.{ℕ, zero, suc, ◌+◌, ◌*◌, ◌≤◌, ◌<◌}
use native.Mathlib.Nat.{suc-mul}
use native.Mathlib.Omega.{arith}
use lib.Dec.{T}
use lib.ListN.{length, get_or, take, drop, length-drop, length-append}
use lib.Seq.{take-append-le, take-append_seam, drop-append-le, drop-append-add}
use Rattle.le.specs.Le.{Below, number, numbers, row}
use Rattle.le.proofs.Numbers.{length_row}
use Rattle.graph.specs.Answer.{Result, laid}
use Rattle.graph.specs.Graph.{Graph}
use Rattle.graph.specs.Lists.{joined}
use Rattle.graph.specs.Versions.{StoredGraph}
use Rattle.graph.proofs.Versions.{read_sound}
use Rattle.choice.specs.Arcs.{In, vertices}
use Rattle.choice.specs.Calls.{reasons_call}
use Rattle.choice.specs.Choice.{Chooses}
use Rattle.choice.specs.Drawing.{arcs, vertex_count, selectable, chosen}
use Rattle.choice.specs.Reasons.{Reason, picked, not_led_to, leads_to_none, numbers_of, is_picked, reason, reasons}
use Rattle.choice.proofs.Graphs.{every_run_gives_chosen}
use Rattle.choice.proofs.ReasonsGraphs.{reasons_length, reasons_at, reason_true, reason_only, picked_iff_chosen}
use Rattle.choice.proofs.ReasonsStored.{reasons_answer}
use Rattle.packing.specs.Packed.{Returns}
use Rattle.packing.specs.Unpacked.{code_in, a_in}
use Rattle.ohg.specs.Reasons.{entry_in, kind_in, ToldReasons}
use Rattle.packing.proofs.Caller.{answer_of_lem, draws, kept}
use Rattle.ohg.proofs.Ranges.{reasons_ranged}

-- numbers that end before what follows
numbers_front : (w n : ℕ) (b more : List ℕ) → n * w ≤ length b → numbers w n (b ++ more) ≡ numbers w n b
numbers_front w zero b more l = refl
numbers_front w (suc n) b more l =
    let m : w + n * w ≤ length b = omega (arith, suc-mul n w) in
    (λ i. number (take-append-le w b more (omega arith) i) ∷ numbers w n (drop-append-le w b more (omega arith) i))
    ∙ ap (λ (ns : List ℕ). number (take w b) ∷ ns) (numbers_front w n (drop w b) more (omega (arith, length-drop w b)))

four : (x : Reason) → length (numbers_of x) ≡ 4
four (picked stage ins outs) = refl
four (not_led_to stage) = refl
four (leads_to_none stage) = refl

-- the four numbers of reason v
four_at : (rs : List Reason) (d : Reason) (v : ℕ) → v < length rs → take 4 (drop (4 * v) (joined numbers_of rs)) ≡ numbers_of (get_or rs v d)
four_at [] d v l = absurd (omega arith)
four_at (x ∷ rs) d zero l =
    ap (λ (k : ℕ). take k (numbers_of x ++ joined numbers_of rs)) (sym (four x)) ∙ take-append_seam (numbers_of x) (joined numbers_of rs)
four_at (x ∷ rs) d (suc v) l =
    let e : 4 * suc v ≡ length (numbers_of x) + 4 * v = omega (arith, four x) in
    ap (λ (k : ℕ). take 4 (drop k (numbers_of x ++ joined numbers_of rs))) e ∙ ap (take 4) (drop-append-add (numbers_of x) (joined numbers_of rs) (4 * v)) ∙ four_at rs d v (omega arith)

-- kind 0 is that of a chosen node
kind_zero : (x : Reason) → T (is_picked x) ↔ (get_or (numbers_of x) 0 0 ≡ 0)
kind_zero (picked stage ins outs) = (λ t. refl, λ e. tt)
kind_zero (not_led_to stage) = (λ t. absurd t, λ e. absurd (omega arith))
kind_zero (leads_to_none stage) = (λ t. absurd t, λ e. absurd (omega arith))

module _ (b : List ℕ) (t : Below 256 b) (old new : List ℕ) (lent r : ℕ) (h : Returns (reasons_call b (length old) lent) r old new) (code : code_in r ≡ 0) where
  -- the reasons, from what the caller holds
  pub reasons_for_the_caller : (g : Graph) × ToldReasons b r old new g
  reasons_for_the_caller =
      let p = answer_of_lem (reasons_call b (length old) lent) (reasons_ranged b t (length old) lent) h.number code in
      let c = p.0 in
      let found = reasons_answer b t (length old) lent c p.1 in
      let s = found.0 in
      let k = found.1 in
      let g = s.graph in
      let proper = (read_sound b s t k.stored).formed.proper in
      let rest = drop (length c.bytes) old in
      let buffer : new ≡ c.bytes ++ rest = h.buffer ∙ ap (λ a. laid a old) p.1 in
      let many : a_in r ≡ c.a = p.2 in
      let long : length c.bytes ≡ 16 * a_in r = bytes_long s c k.written k.count many in
      let said : numbers 4 (4 * a_in r) new ≡ joined numbers_of (reasons g) =
      (λ i. numbers 4 (4 * many i) (buffer i)) ∙ numbers_front 4 (4 * c.a) c.bytes rest (omega (arith, long, many)) ∙ k.back in
      let entry : (v : ℕ) → v < length g.labels → entry_in r new v ≡ numbers_of (reason g v) =
      λ v l. ap (λ (ns : List ℕ). take 4 (drop (4 * v) ns)) said ∙ four_at (reasons g) (not_led_to 0) v (omega (arith, reasons_length g)) ∙ ap numbers_of (reasons_at g v l (not_led_to 0)) in
      let same : (ids : List ℕ) (free : ℕ) → Chooses (arcs g) (selectable g) (vertices (vertex_count g)) ids free → ids ≡ (chosen g).ids = λ ids free run. (every_run_gives_chosen g proper ids free run).0 in (
        g,
        record {
          drawing = draws b t s k.stored;
          pairless = k.pairless;
          entries = many ∙ k.count;
          each = λ v l. record { why = reason g v; told = entry v l; true_of = reason_true g proper v (omega arith); only = λ x y. reason_only g proper v (omega arith) x y };
          chosen = λ ids free run v l.
              let iff = picked_iff_chosen g proper v (omega arith) in
              let zero_is = kind_zero (reason g v) in
              let kind : kind_in r new v ≡ get_or (numbers_of (reason g v)) 0 0 = ap (λ (ns : List ℕ). get_or ns 0 0) (entry v l) in
              (λ m. kind ∙ zero_is.0 (iff.0 (subst (In v) (same ids free run) m)), λ e. subst (In v) (sym (same ids free run)) (iff.1 (zero_is.1 (sym kind ∙ e))));
          number = λ ids free run. ap length (same ids free run) ∙ sym (p.3 ∙ k.cuts);
          fits = omega (arith, long, k.fits);
          stays = kept c.bytes old new (16 * a_in r) buffer long;
        },
      )
    where
      joined_long : (rs : List Reason) → length (joined numbers_of rs) ≡ 4 * length rs
      joined_long [] = refl
      joined_long (x ∷ rs) = omega (arith, length-append (numbers_of x) (joined numbers_of rs), four x, joined_long rs)

      bytes_long : (s : StoredGraph) (c : Result) → c.bytes ≡ row 4 (joined numbers_of (reasons s.graph)) → c.a ≡ length s.graph.labels → a_in r ≡ c.a → length c.bytes ≡ 16 * a_in r
      bytes_long s c written count many = ap length written ∙ omega (arith, length_row 4 (joined numbers_of (reasons s.graph)), joined_long (reasons s.graph), reasons_length s.graph, count, many)
