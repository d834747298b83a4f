-- The range from what the caller holds: the returned number and the bytes of the lent buffers, beside those of single calls.
-- Assumes nothing.
use mathlib.Core.Path.{◌≡◌, refl, sym, ap, ◌∙◌, subst}
use mathlib.Core.Bool.{Bool, true, false}
use mathlib.Core.List.{List, [], ◌∷◌, ◌++◌, map}
use mathlib.Core.Logic.{◌↔◌}
use Prim.Native.Nat.{ℕ, suc, ◌+◌, ◌*◌, ◌/◌, ◌%◌, ◌≤◌, ◌<◌}
use native.Mathlib.Omega.{arith}
use lib.Dec.{leb}
use lib.ListN.{length, drop, length-map}
use borrow.Author.Tests.{eq-eqb, ne_eqb, leb-true, leb-false}
use Rattle.le.specs.Le.{Below}
use Rattle.graph.specs.Answer.{Refusal, Answer, refused, answered, Result, refusal, writing, laid}
use Rattle.graph.specs.Calls.{in_work_room}
use Rattle.graph.specs.Lists.{range}
use Rattle.graph.proofs.Steps.{never, same_refusal}
use Rattle.graph.proofs.Verdicts.{in_room, no_room}
use Rattle.choice.specs.Arcs.{bump, how_many}
use Rattle.packing.specs.Packed.{packed, Returns, Ranged}
use Rattle.packing.specs.Unpacked.{code_in}
use Rattle.packing.proofs.Caller.{answer_of_lem, kept}
use Rattle.packing.proofs.Unpacked.{code_of_packed}
use Rattle.catalogue.specs.Caller.{counts_in, buffers_in, total_in}
use Rattle.catalogue.specs.Dearests.{FirstDearest}
use Rattle.catalogue.specs.Price.{catalogue, buffer_price, Priced, price, price_bytes, room_price, price_call}
use Rattle.catalogue.specs.Promises.{cost, sum}
use Rattle.catalogue.specs.Range.{most_drawings, drawings_in, sum_of, is_priced, refused_by, Dearest, none, dearer_of, dearest_of, index_of, nth_count, refusal_numbers, Report, report_of, report_bytes, range_answer, price_range_call}
use Rattle.catalogue.specs.Slices.{SliceOf}
use Rattle.catalogue.specs.ToldRange.{report_in, Single, told_by, Singles, told, ToldRange}
use Rattle.price.proofs.Adding.{prices_good, price_number}
use Rattle.price.proofs.Called.{report_long, range_call_answer, range_ranged, range_refused, range_short, range_written}
use Rattle.catalogue.proofs.Caller.{counts_back, buffers_back, total_back}
use Rattle.catalogue.proofs.Calls.{call_refused, call_written}
use Rattle.catalogue.proofs.Ranges.{price_ranged}
use Rattle.price.proofs.Reports.{all_counted, sum_is_cost, none_priced, mean_and_remainder, remainder_below, dearest_named, report_back}
use Rattle.catalogue.proofs.Slices.{Clean, forms_clean, drawings_back, drawings_iff, drawings_17}
use Rattle.catalogue.proofs.Stored.{price_answer_lem, price_small}

-- ---- a single answer without the place of its refusal, which no total has

abbrev plain : Answer Priced → Answer Priced
plain (refused r) = refused (refusal r.no)
plain (answered p) = answered p

how_plain : (test : Answer Priced → Bool) → ((a : Answer Priced) → test (plain a) ≡ test a) → (answers : List (Answer Priced)) → how_many test (map plain answers) ≡ how_many test answers
unfolding how_many
how_plain test h [] = refl
how_plain test h (a ∷ more) = λ i. bump (h a i) (how_plain test h more i)

priced_plain : (a : Answer Priced) → is_priced (plain a) ≡ is_priced a
priced_plain (refused r) = refl
priced_plain (answered p) = refl

refused_plain : (n : ℕ) (a : Answer Priced) → refused_by n (plain a) ≡ refused_by n a
refused_plain n (refused r) = refl
refused_plain n (answered p) = refl

sum_plain : (part : Priced → ℕ) (answers : List (Answer Priced)) → sum_of part (map plain answers) ≡ sum_of part answers
unfolding sum_of
sum_plain part [] = refl
sum_plain part (refused r ∷ more) = ap (λ (n : ℕ). 0 + n) (sum_plain part more)
sum_plain part (answered p ∷ more) = ap (λ (n : ℕ). part p + n) (sum_plain part more)

dearest_plain : (d : Dearest) (i : ℕ) (answers : List (Answer Priced)) → dearest_of d i (map plain answers) ≡ dearest_of d i answers
unfolding dearest_of
dearest_plain d i [] = refl
dearest_plain d i (refused r ∷ more) = dearest_plain d (suc i) more
dearest_plain d i (answered p ∷ more) = dearest_plain (dearer_of d i (answered p)) (suc i) more

report_plain : (answers : List (Answer Priced)) → report_of (map plain answers) ≡ report_of answers
unfolding report_of
report_plain answers = λ i. record {
  priced = priced i;
  refusals = map (λ n. how_plain (refused_by n) (refused_plain n) answers i) refusal_numbers;
  parts = map (λ k. sum_plain (nth_count k) answers i) (range 0 12);
  buffers = sum_plain (λ p. p.buffers) answers i;
  sum = total i;
  dearest = index_of (dearest_plain none 0 answers i);
  mean = total i / priced i;
  remainder = total i % priced i;
}
  where
    priced : how_many is_priced (map plain answers) ≡ how_many is_priced answers
    priced = how_plain is_priced priced_plain answers

    total : sum_of (λ p. p.total) (map plain answers) ≡ sum_of (λ p. p.total) answers
    total = sum_plain (λ p. p.total) answers

-- ---- what a single call told is what pricing answers

told_plain : (form : List ℕ) → Below 256 form → (s : Single form) → told_by s ≡ plain (price form)
told_plain form clean s = go (price form) refl
  where
    lent : in_work_room room_price s.lent (price form) ≡ price form
    lent = in_room room_price s.lent (price form) s.enough

    ranged : Ranged (price_call form (length s.old) s.lent)
    ranged = price_ranged form (length s.old) s.lent

    go : (a : Answer Priced) → price form ≡ a → told_by s ≡ plain a
    go (refused q) e =
        let c = call_refused form (length s.old) s.lent q (lent ∙ e) in
        let code : code_in s.number ≡ q.no = code_of_packed (refused q) (subst Ranged c ranged) (s.returned.number ∙ ap packed c) in
        let some : code_in s.number ≡ 0 → ⊥ = λ z. omega (arith, price_number form q e) in
        rw (ne_eqb (code_in s.number) 0 some) (ap (λ (n : ℕ). refused (refusal n)) code)
    go (answered p) e =
        let form' = price_bytes p in
        let c = call_written form (length s.old) s.lent p (lent ∙ e) s.fits in
        let code : code_in s.number ≡ 0 = code_of_packed (answered (writing form' 0)) (subst Ranged c ranged) (s.returned.number ∙ ap packed c) in
        let rest = drop (length form') s.old in
        let buffer : s.new ≡ form' ++ rest = s.returned.buffer ∙ ap (λ (x : Answer Result). laid x s.old) c in
        let twelve = (price_answer_lem form p e).1.twelve in
        let small = price_small form p clean e in
        rw (eq-eqb (code_in s.number) 0 code) (λ i. answered (record {
          counts = (ap counts_in buffer ∙ counts_back p twelve small rest) i;
          buffers = (ap buffers_in buffer ∙ buffers_back p twelve small rest) i;
          total = (ap total_in buffer ∙ total_back p twelve small rest) i;
        }))

all_told : (forms : List (List ℕ)) → Clean forms → (calls : Singles forms) → told forms calls ≡ map plain (map price forms)
all_told [] c s = refl
all_told (form ∷ forms) c s = λ i. told_plain form c.0 s.0 i ∷ all_told forms c.1 s.1 i

-- ---- where the code is 0

pub range_for_the_caller : (b : List ℕ) → Below 256 b → (old new : List ℕ) (lent r : ℕ) → Returns (price_range_call b (length old) lent) r old new → code_in r ≡ 0
    → (forms : List (List ℕ)) × ToldRange b r old new forms
range_for_the_caller b clean old new lent r h code =
    let a = answer_of_lem (price_range_call b (length old) lent) (range_ranged b (length old) lent) h.number code in
    let f = range_call_answer b (length old) lent a.0 a.1 in
    let forms = f.0 in
    let answers = map price forms in
    let slice = drawings_back most_drawings b forms clean f.1 in
    let all_clean = forms_clean forms (subst (Below 256) (sym slice.whole) clean) in
    let good = prices_good forms all_clean in
    let list = report_bytes (report_of answers) in
    let rest = drop (length list) old in
    let buffer : new ≡ list ++ rest = h.buffer ∙ ap (λ (x : Answer Result). laid x old) a.1 ∙ ap (λ (x : Result). x.bytes ++ drop (length x.bytes) old) f.2 in
    let few : length answers ≤ 1000 = omega (arith, slice.few, length-map forms price) in
    let report : report_in new ≡ report_of answers = ap report_in buffer ∙ report_back answers good few rest in
    let back : report_of answers ≡ report_in new = sym report in (
      forms,
      record {
        slice = slice;
        singles = λ calls. report ∙ sym (report_plain answers) ∙ sym (ap report_of (all_told forms all_clean calls));
        report = report;
        all_counted = subst (λ (x : Report). x.priced + sum x.refusals ≡ length forms) back (all_counted answers good ∙ length-map forms price);
        billed = subst (λ (x : Report). x.sum ≡ cost x.parts catalogue + buffer_price * x.buffers) back (sum_is_cost answers good);
        mean = subst (λ (x : Report). x.mean * x.priced + x.remainder ≡ x.sum) back (mean_and_remainder answers);
        below = subst (λ (x : Report). 0 < x.priced → x.remainder < x.priced) back (remainder_below answers);
        none_priced = subst (λ (x : Report). x.priced ≡ 0 → (x.sum ≡ 0) × (x.mean ≡ 0) × (x.remainder ≡ 0) × (x.dearest ≡ 4294967295)) back (none_priced answers);
        dearest = subst (λ (x : Report). 0 < x.priced → (m : ℕ) × FirstDearest answers x.dearest m) back (dearest_named answers);
        written = a.2 ∙ ap (λ (x : Result). x.a) f.2 ∙ report_long answers;
        fits = f.3;
        stays = kept list old new 148 buffer (report_long answers);
      },
    )

-- ---- refused exactly: 10 for the work room first, then 17, and 10 for the answer last

module _ (b : List ℕ) (room lent : ℕ) where
  pub room_first : lent < room_price → price_range_call b room lent ≡ refused (refusal 10)
  room_first l = no_room room_price lent (range_answer b room) l

  module _ (l : room_price ≤ lent) where
    worked_so : in_work_room room_price lent (drawings_in most_drawings b) ≡ drawings_in most_drawings b
    worked_so = in_room room_price lent (drawings_in most_drawings b) l

    -- where the slice is not drawings, and only there
    pub seventeen_iff : Below 256 b → (price_range_call b room lent ≡ refused (refusal 17)) ↔ ((forms : List (List ℕ)) → SliceOf most_drawings b forms → ⊥)
    seventeen_iff clean = (forth, λ none_such. back (drawings_in most_drawings b) refl none_such)
      where
        forth : price_range_call b room lent ≡ refused (refusal 17) → (forms : List (List ℕ)) → SliceOf most_drawings b forms → ⊥
        forth e forms s = last (leb 148 room) refl
          where
            d : drawings_in most_drawings b ≡ answered forms
            d = (drawings_iff most_drawings b forms clean).1 s

            last : (c : Bool) → leb 148 room ≡ c → ⊥
            last true q = never (sym e ∙ range_written b room lent forms (worked_so ∙ d) (leb-true 148 room q))
            last false q =
                let ten : refusal 10 ≡ refusal 17 = same_refusal {A = Result} (sym (range_short b room lent forms (worked_so ∙ d) (leb-false 148 room q)) ∙ e) in
                let z : ◌≡◌ {A = ℕ} 10 17 = ap (λ (x : Refusal). x.no) ten in omega arith

        back : (a : Answer (List (List ℕ))) → drawings_in most_drawings b ≡ a → ((forms : List (List ℕ)) → SliceOf most_drawings b forms → ⊥) → price_range_call b room lent ≡ refused (refusal 17)
        back (refused r) e n = range_refused b room lent r (worked_so ∙ e) ∙ ap refused (drawings_17 most_drawings b r e)
        back (answered forms) e n = absurd (n forms (drawings_back most_drawings b forms clean e))

    -- and of drawings only where the answer has no room
    pub ten_last : (forms : List (List ℕ)) → Below 256 b → SliceOf most_drawings b forms → (price_range_call b room lent ≡ refused (refusal 10)) ↔ (room < 148)
    ten_last forms clean s = (λ e. forth (leb 148 room) refl e, λ m. range_short b room lent forms (worked_so ∙ d) m)
      where
        d : drawings_in most_drawings b ≡ answered forms
        d = (drawings_iff most_drawings b forms clean).1 s

        forth : (c : Bool) → leb 148 room ≡ c → price_range_call b room lent ≡ refused (refusal 10) → room < 148
        forth true q e = absurd (never (sym e ∙ range_written b room lent forms (worked_so ∙ d) (leb-true 148 room q)))
        forth false q e = leb-false 148 room q
