-- The priced parts list from what the caller holds: the returned number and the bytes of the lent buffers.
-- Assumes nothing.
use mathlib.Core.Path.{◌≡◌, refl, sym, ap, ◌∙◌, subst}
use mathlib.Core.Bool.{Bool, true, false, false≢true}
use mathlib.Core.List.Memᴰ
use mathlib.Core.List.{List, [], ◌∷◌, ◌++◌, append_assoc}
use mathlib.Core.Logic.{◌⊎◌, inl, inr, ⊎_elim}
use Prim.Native.Nat.{ℕ, zero, ◌+◌, ◌*◌, ◌<◌, min}
use native.Mathlib.Omega.{arith}
use lib.Dec.{leb}
use lib.ListN.{length, take, drop, length-append}
use lib.Seq.{drop_at}
use Rattle.le.specs.Le.{Below, bytes, row, number, numbers}
use Rattle.le.proofs.Numbers.{below_widen, number_bytes, numbers_row, length_row}
use Rattle.graph.specs.Answer.{Refusal, Answer, refused, answered, Result, refusal, laid, ◌else◌, ◌>>=◌, ◌>>◌}
use Rattle.graph.specs.Calls.{unpaired, in_work_room}
use Rattle.graph.specs.Graph.{Edge, Graph}
use Rattle.graph.specs.Lists.{member}
use Rattle.graph.specs.Versions.{StoredGraph, read}
use Rattle.graph.proofs.Refuses.{RefusedBy, answer_by, refusal_by, step_by}
use Rattle.graph.proofs.RefusedBy.{reads_by, unpaired_by, fit_by}
use Rattle.graph.proofs.Steps.{never, same_answer, same_refusal, stops, goes}
use Rattle.choice.specs.Arcs.{In, how_many}
use Rattle.choice.specs.Calls.{cycle_breaking_nodes_call}
use Rattle.choice.specs.Drawing.{chosen}
use Rattle.choice.proofs.Stored.{cycle_breaking_nodes_answer}
use Rattle.packing.specs.Packed.{packed, Returns, Ranged}
use Rattle.packing.specs.Unpacked.{code_in, a_in}
use Rattle.packing.proofs.Caller.{answer_of_lem, draws, kept}
use Rattle.packing.proofs.Ranges.{cycle_breaking_nodes_ranged}
use Rattle.packing.proofs.Unpacked.{code_of_packed, b_of_packed}
use Rattle.catalogue.specs.Caller.{counts_in, buffers_in, total_in, ToldPrice, ToldFault}
use Rattle.catalogue.specs.Price.{catalogue, buffer_price, is_spider, part_check, parts_check, Priced, priced_graph, price, price_bytes, room_price, price_call}
use Rattle.catalogue.specs.Promises.{OfKind, FirstFault, cost, sum, Small}
use Rattle.catalogue.proofs.Calls.{whole, written}
use Rattle.catalogue.proofs.Faults.{checked, then_goes, then_stops, one, refused_iff_first_fault, part_in_order}
use Rattle.catalogue.proofs.Ranges.{price_ranged}
use Rattle.catalogue.proofs.RefusedBy.{fault_place}
use Rattle.catalogue.proofs.Stored.{price_small, price_call_answer, unpaired_same}

-- ---- the bytes are read back as the numbers

module _ (p : Priced) (twelve : length p.counts ≡ 12) (small : Small p) (rest : List ℕ) where
  long : length (row 4 p.counts) ≡ 48
  long = length_row 4 p.counts ∙ ap (λ (n : ℕ). n * 4) twelve

  regroup : price_bytes p ++ rest ≡ row 4 p.counts ++ (bytes 4 p.buffers ++ (bytes 8 p.total ++ rest))
  regroup = append_assoc (row 4 p.counts) (bytes 4 p.buffers ++ bytes 8 p.total) rest

  pub counts_back : counts_in (price_bytes p ++ rest) ≡ p.counts
  counts_back =
      (λ i. numbers 4 (sym twelve i) (regroup i)) ∙ numbers_row 4 p.counts _ (below_widen p.counts (omega arith) small.counts)

  behind : drop 48 (price_bytes p ++ rest) ≡ bytes 4 p.buffers ++ (bytes 8 p.total ++ rest)
  behind = ap (drop 48) regroup ∙ drop_at (row 4 p.counts) _ 48 long

  pub buffers_back : buffers_in (price_bytes p ++ rest) ≡ p.buffers
  buffers_back = ap (λ (l : List ℕ). number (take 4 l)) behind ∙ number_bytes 4 p.buffers (omega (arith, small.buffers))

  last : drop 52 (price_bytes p ++ rest) ≡ bytes 8 p.total ++ rest
  last =
      let l : length (row 4 p.counts ++ bytes 4 p.buffers) ≡ 52 = length-append (row 4 p.counts) (bytes 4 p.buffers) ∙ ap (λ (n : ℕ). n + 4) long in
      ap (drop 52) (regroup ∙ sym (append_assoc (row 4 p.counts) (bytes 4 p.buffers) (bytes 8 p.total ++ rest)))
      ∙ drop_at (row 4 p.counts ++ bytes 4 p.buffers) _ 52 l

  pub total_back : total_in (price_bytes p ++ rest) ≡ p.total
  total_back = ap (λ (l : List ℕ). number (take 8 l)) last ∙ number_bytes 8 p.total (omega (arith, small.total))

-- ---- each edge is in order

each_in_order : (es : List Edge) → parts_check es ≡ answered tt → (e : Edge) → In e es → (is_spider e ≡ true) ⊎ OfKind e
unfolding parts_check
each_in_order [] p e m = absurd (Memᴰ.not-nil m)
each_in_order (x ∷ es) p e m =
    let q = checked (part_check x) (parts_check es) p in
    ⊎_elim (λ (h : e ≡ x). part_in_order e (ap part_check h ∙ q.0)) (λ h. each_in_order es q.1 e h) (Memᴰ.cases_cons m)

-- ---- where the code is 0

module _ (b : List ℕ) (clean : Below 256 b) (old new : List ℕ) (lent r : ℕ) (h : Returns (price_call b (length old) lent) r old new) where
  pub price_for_the_caller : code_in r ≡ 0 → (g : Graph) × ToldPrice b r old new g
  unfolding priced_graph
  price_for_the_caller code =
      let a = answer_of_lem (price_call b (length old) lent) (price_ranged b (length old) lent) h.number code in
      let f = price_call_answer b (length old) lent a.0 a.1 in
      let s = f.0 in
      let g = s.graph in
      let p = f.1 in
      let o = f.3 in
      let form = price_bytes p in
      let rest = drop (length form) old in
      let buffer : new ≡ form ++ rest = h.buffer ∙ ap (λ (x : Answer Result). laid x old) a.1 ∙ ap (λ (x : Result). x.bytes ++ drop (length x.bytes) old) f.4 in
      let small = price_small b p clean f.2 in
      let counts : counts_in new ≡ p.counts = ap counts_in buffer ∙ counts_back p o.twelve small rest in
      let buffers : buffers_in new ≡ p.buffers = ap buffers_in buffer ∙ buffers_back p o.twelve small rest in
      let total : total_in new ≡ p.total = ap total_in buffer ∙ total_back p o.twelve small rest in (
        g,
        record {
          drawing = draws b clean s o.stored;
          pairless = o.pairless;
          in_order = each_in_order g.edges o.in_order;
          counts = counts ∙ ap (λ (x : Priced). x.counts) o.is;
          all_counted = subst (λ (l : List ℕ). sum l + how_many is_spider g.edges ≡ length g.edges) (sym counts) o.all_counted;
          buffers = buffers ∙ o.buffered;
          total = total ∙ o.billed ∙ (λ i. cost (sym counts i) catalogue + buffer_price * sym buffers i);
          written = a.2 ∙ ap (λ (x : Result). x.a) f.4 ∙ f.5;
          fits = f.6;
          stays = kept form old new 60 buffer f.5;
        },
      )

  -- the buffers are the length of the list that ohg_cycle_breaking_nodes answers on the same bytes
  pub buffers_are_the_list : code_in r ≡ 0 → (old' new' : List ℕ) (lent' r' : ℕ) → Returns (cycle_breaking_nodes_call b (length old') lent') r' old' new' → code_in r' ≡ 0
      → buffers_in new ≡ a_in r'
  buffers_are_the_list code old' new' lent' r' h' code' =
      let t = price_for_the_caller code in
      let a = answer_of_lem (cycle_breaking_nodes_call b (length old') lent') (cycle_breaking_nodes_ranged b clean (length old') lent') h'.number code' in
      let c = cycle_breaking_nodes_answer b clean (length old') lent' a.0 a.1 in
      let same = same_answer (sym t.1.drawing.stored ∙ c.1.stored) in
      t.1.buffers ∙ ap (λ (s : StoredGraph). length (chosen s.graph).ids) same ∙ sym c.1.count ∙ sym a.2

-- ---- where the code is 14 or 15

-- the refusals of all steps but the check of the parts
abbrev others : List ℕ
others = 1 ∷ 2 ∷ 3 ∷ 4 ∷ 5 ∷ 6 ∷ 13 ∷ 8 ∷ 10 ∷ []

module _ (n : ℕ) (away : member n others ≡ false) where
  -- a step that never refuses by n has answered
  past : {A B : Type 0} (m : Answer A) (next : A → Answer B) (r : Refusal) → r.no ≡ n → RefusedBy others m → (m >>= next) ≡ refused r → (x : A) × (m ≡ answered x) × (next x ≡ refused r)
  unfolding ◌>>=◌
  past (refused q) next r is by e =
      absurd (false≢true (sym away ∙ ap (λ (k : ℕ). member k others) (sym is) ∙ by.each r (ap refused (same_refusal e))))
  past (answered x) next r is by e = (x, refl, e)

  not_by : {A : Type 0} (m : Answer A) (r : Refusal) → r.no ≡ n → RefusedBy others m → m ≡ refused r → ⊥
  not_by m r is by e = false≢true (sym away ∙ ap (λ (k : ℕ). member k others) (sym is) ∙ by.each r e)

  -- so it was pricing that refused,
  priced_so : (b : List ℕ) (room lent : ℕ) (r : Refusal) → r.no ≡ n → price_call b room lent ≡ refused r → price b ≡ refused r
  unfolding in_work_room ◌else◌ ◌>>◌
  priced_so b room lent r is e = enough (leb room_price lent) (before (in_work_room room_price lent (price b)) refl)
    where
      before : (a : Answer Priced) → in_work_room room_price lent (price b) ≡ a → in_work_room room_price lent (price b) ≡ refused r
      before (refused q) p = p ∙ ap refused (same_refusal (sym (stops (written room) p) ∙ sym (whole b room lent) ∙ e))
      before (answered p) q =
          absurd (not_by (written room p) r is (step_by _ _ (fit_by others refl room (price_bytes p)) (λ list. answer_by _)) (sym (goes (written room) q) ∙ sym (whole b room lent) ∙ e))

      enough : (c : Bool) → ((c else refusal 10) >> price b) ≡ refused r → price b ≡ refused r
      enough true p = p
      enough false p = absurd (not_by {A = Priced} (refused (refusal 10)) r is (refusal_by (refusal 10) refl) p)

  -- and of a stored graph without pairs the check of its parts
  parts_so : (b : List ℕ) (r : Refusal) → r.no ≡ n → price b ≡ refused r → (s : StoredGraph) × (read b ≡ answered s) × (length s.graph.pairs ≡ zero) × (parts_check s.graph.edges ≡ refused r)
  unfolding price
  parts_so b r is e =
      let p₁ = past (read b) _ r is (reads_by others refl b) e in
      let g = p₁.0.graph in
      let p₂ = past (unpaired g) _ r is (unpaired_by others refl g) p₁.2 in
      let q = unpaired_same g p₂.0 p₂.1 in
      let rest : (parts_check g.edges >> answered (priced_graph g)) ≡ refused r =
      ap (λ (h : Graph). parts_check h.edges >> answered (priced_graph h)) q.1 ∙ p₂.2 in (
        p₁.0,
        p₁.1,
        q.0,
        ⊎_elim
            (λ (h : parts_check g.edges ≡ answered tt). absurd (never (sym rest ∙ then_goes (parts_check g.edges) (answered (priced_graph g)) h)))
            (λ (h : (x : Refusal) × (parts_check g.edges ≡ refused x)). h.1 ∙ ap refused (same_refusal (sym (then_stops (parts_check g.edges) (answered (priced_graph g)) h.0 h.1) ∙ rest)))
            (one (parts_check g.edges)),
      )

  told_fault : (b : List ℕ) → Below 256 b → (old new : List ℕ) (lent r : ℕ) → Returns (price_call b (length old) lent) r old new → code_in r ≡ n → 0 < n → (g : Graph) × ToldFault b r old new g
  told_fault b clean old new lent r h code some = go (price_call b (length old) lent) refl
    where
      ranged : Ranged (price_call b (length old) lent)
      ranged = price_ranged b (length old) lent

      go : (x : Answer Result) → price_call b (length old) lent ≡ x → (g : Graph) × ToldFault b r old new g
      go (answered y) e = absurd (omega (arith, code, code_of_packed (answered y) (subst Ranged e ranged) (h.number ∙ ap packed e)))
      go (refused q) e =
          let ranged' = subst Ranged e ranged in
          let number = h.number ∙ ap packed e in
          let no : code_in r ≡ q.no = code_of_packed (refused q) ranged' number in
          let t = parts_so b q (sym no ∙ code) (priced_so b (length old) lent q (sym no ∙ code) e) in
          let g = t.0.graph in
          let place : q.place ≡ 0 = fault_place g.edges q t.3 in
          let is : q ≡ refusal (code_in r) = λ i. record { no = sym no i; place = place i } in (
            g,
            record {
              drawing = draws b clean t.0 t.1;
              pairless = t.2;
              fault = subst (FirstFault g.edges) is ((refused_iff_first_fault g.edges q).0 t.3);
              place = b_of_packed (refused q) ranged' number ∙ ap (λ (k : ℕ). min k 4294967295) place;
              stays = h.buffer ∙ ap (λ a. laid a old) e;
            },
          )

pub fault_for_the_caller : (b : List ℕ) → Below 256 b → (old new : List ℕ) (lent r : ℕ) → Returns (price_call b (length old) lent) r old new → (code_in r ≡ 14) ⊎ (code_in r ≡ 15)
    → (g : Graph) × ToldFault b r old new g
fault_for_the_caller b clean old new lent r h (inl code) = told_fault 14 refl b clean old new lent r h code (omega arith)
fault_for_the_caller b clean old new lent r h (inr code) = told_fault 15 refl b clean old new lent r h code (omega arith)
