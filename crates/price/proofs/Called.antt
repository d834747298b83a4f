-- The range's call as the walk and the report's bytes: where it refuses, and what it writes.
-- Assumes nothing.
use mathlib.Core.Bool.{true}
use mathlib.Core.List.{List, ◌++◌, map}
use mathlib.Core.Path.{◌≡◌, refl, sym, ap, ◌∙◌, subst}
use Prim.Native.Nat.{ℕ, ◌/◌, ◌%◌, ◌≤◌, ◌<◌}
use native.Mathlib.Omega.{arith}
use lib.Dec.{leb, ltb}
use lib.ListN.{length, length-map}
use lib.Seq.{sets}
use borrow.Author.Tests.{le-leb, lt-leb, leb-true, ltb-true}
use Rattle.le.specs.Le.{Below, bytes}
use Rattle.graph.specs.Answer.{Answer, refused, answered, Result, refusal, writing, ◌else◌, ◌>>=◌, ◌>>◌}
use Rattle.graph.specs.Answer as answer
use Rattle.graph.specs.Calls.{fit, in_work_room}
use Rattle.graph.specs.Lists.{member}
use Rattle.graph.proofs.Answers.{worked}
use Rattle.graph.proofs.Places.{sets_lay}
use Rattle.graph.proofs.Refuses.{RefusedBy, answer_by, step_by, member_passes}
use Rattle.graph.proofs.RefusedBy.{fit_by, work_by}
use Rattle.graph.proofs.Steps.{stops, goes, came, passed, same_answer}
use Rattle.choice.specs.Arcs.{how_many}
use Rattle.form.specs.Form.{Gives}
use Rattle.std.specs.Prelude.{Ok}
use Rattle.form.proofs.Answers.{gives_done}
use Rattle.packing.specs.Packed.{Ranged}
use Rattle.catalogue.specs.Price.{Priced, price, room_price}
use Rattle.catalogue.specs.Range.{drawings_in, most_drawings, sum_of, is_priced, none, dearest_of, index_of, report_of, report_bytes, range_answer, price_range_call}
use Rattle.catalogue.specs.RefusedBy.{price_range_refusals}
use Rattle.price.specs.Totals.{forms_of, totals_of, Upto, front_of, amounts_of}
use Rattle.price.specs.declared.range.Totals.{Totals}
use Rattle.price.proofs.Adding.{prices_good, totals_upto, meant_back}
use Rattle.price.proofs.Along.{forms_of_lem}
use Rattle.catalogue.proofs.Calls.{in_room}
use Rattle.catalogue.proofs.Slices.{forms_clean, drawings_back, drawings_17}

-- a slice in order
pub sliced : (b : List ℕ) (forms : List (List ℕ)) → drawings_in most_drawings b ≡ answered forms → drawings_in most_drawings b ≡ answered (forms_of b)
sliced b forms e = e ∙ ap answered (sym (forms_of_lem b forms e))

-- ---- the report's bytes

pub report_long : (answers : List (Answer Priced)) → length (report_bytes (report_of answers)) ≡ 148
unfolding report_of
report_long answers = refl

pub report_bytes_lem : (answers : List (Answer Priced)) → front_of (totals_of answers) ++ amounts_of (totals_of answers) ≡ report_bytes (report_of answers)
unfolding report_of
report_bytes_lem answers =
    let s = sum_of (λ p. p.total) answers in
    let n = how_many is_priced answers in
    λ i. front_of (totals_of answers) ++ (bytes 8 s ++ (bytes 4 (index_of (meant_back (dearest_of none 0 answers) i)) ++ (bytes 8 (s / n) ++ bytes 4 (s % n))))

pub range_upto : (b : List ℕ) → Below 256 b → (forms : List (List ℕ)) → drawings_in most_drawings b ≡ answered forms → Upto 1000 (totals_of (map price forms))
range_upto b clean forms e =
    let slice = drawings_back most_drawings b forms clean e in
    totals_upto (map price forms) (prices_good forms (forms_clean forms (subst (Below 256) (sym slice.whole) clean))) 1000 (omega (arith, slice.few, length-map forms price))

-- ---- the call

-- its answer after the walk
abbrev pub reported : ℕ → List (List ℕ) → Answer Result
reported room forms = fit room (report_bytes (report_of (map price forms))) >>= λ list. answered (writing list 0)

module _ (b : List ℕ) (room lent : ℕ) where
  whole : price_range_call b room lent ≡ (in_work_room room_price lent (drawings_in most_drawings b) >>= reported room)
  unfolding range_answer
  whole = in_room room_price lent (drawings_in most_drawings b) (reported room)

  pub range_refused : (r : answer.Refusal) → in_work_room room_price lent (drawings_in most_drawings b) ≡ refused r → price_range_call b room lent ≡ refused r
  range_refused r e = whole ∙ stops (reported room) e

  module _ (forms : List (List ℕ)) (e : in_work_room room_price lent (drawings_in most_drawings b) ≡ answered forms) where
    pub range_short : room < 148 → price_range_call b room lent ≡ refused (refusal 10)
    unfolding fit ◌else◌ ◌>>◌ ◌>>=◌
    range_short l =
        let m : room < length (report_bytes (report_of (map price forms))) = omega (arith, report_long (map price forms)) in
        whole ∙ goes (reported room) e ∙ rw (lt-leb (length (report_bytes (report_of (map price forms)))) room m)

    pub range_written : 148 ≤ room → price_range_call b room lent ≡ answered (writing (report_bytes (report_of (map price forms))) 0)
    unfolding fit ◌else◌ ◌>>◌ ◌>>=◌
    range_written l =
        let m : length (report_bytes (report_of (map price forms))) ≤ room = omega (arith, report_long (map price forms)) in
        whole ∙ goes (reported room) e ∙ rw (le-leb (length (report_bytes (report_of (map price forms)))) room m)

pub range_done : (b old new : List ℕ) (lent : ℕ) (forms : List (List ℕ)) → in_work_room room_price lent (drawings_in most_drawings b) ≡ answered forms → 148 ≤ length old
    → (t : Totals) → t ≡ totals_of (map price forms) → new ≡ sets old 0 (front_of t ++ amounts_of t) → Gives (price_range_call b (length old) lent) (Ok (record { a = 148; b = 0 })) old new
range_done b old new lent forms e l t is h =
    let answers = map price forms in
    let list = report_bytes (report_of answers) in
    let n = report_long answers in
    subst (λ (k : ℕ). Gives (price_range_call b (length old) lent) (Ok (record { a = k; b = 0 })) old new) n
    (gives_done (writing list 0) old new (range_written b (length old) lent forms e l)
    (h ∙ ap (λ (y : Totals). sets old 0 (front_of y ++ amounts_of y)) is ∙ ap (sets old 0) (report_bytes_lem answers) ∙ sets_lay list old (omega (arith, n))))

-- what the call answers
pub range_call_answer : (b : List ℕ) (room lent : ℕ) (m : Result) → price_range_call b room lent ≡ answered m
    → (forms : List (List ℕ)) × (drawings_in most_drawings b ≡ answered forms) × (m ≡ writing (report_bytes (report_of (map price forms))) 0) × (148 ≤ room)
unfolding range_answer fit
range_call_answer b room lent m e =
    let p₁ = came (drawings_in most_drawings b) _ (worked room_price lent (range_answer b room) e) in
    let list = report_bytes (report_of (map price p₁.0)) in
    let p₂ = came (fit room list) _ p₁.2 in
    let q = passed (leb (length list) room) _ (answered list) p₂.1 in
    (p₁.0, p₁.1, sym (same_answer p₂.2) ∙ ap (λ (l : List ℕ). writing l 0) (sym (same_answer q.1)), subst (λ (k : ℕ). k ≤ room) (report_long (map price p₁.0)) (leb-true _ _ q.0))

-- ---- its refusals: 17 and 10 alone

pub range_by : (b : List ℕ) (room lent : ℕ) → RefusedBy price_range_refusals (price_range_call b room lent)
unfolding range_answer
range_by b room lent =
    work_by price_range_refusals refl _ lent _
    (step_by _ _ (record { each = λ r e. subst (λ (q : answer.Refusal). member q.no price_range_refusals ≡ true) (sym (drawings_17 most_drawings b r e)) refl }) (λ forms. step_by _ _ (fit_by price_range_refusals refl room _) (λ list. answer_by _)))

-- the numbers of its answer fit their bits, and no refusal is 0
pub range_ranged : (b : List ℕ) (room lent : ℕ) → Ranged (price_range_call b room lent)
range_ranged b room lent = record {
  no = λ r e.
      let h = (range_by b room lent).each r e in
      (leb-true _ _ (member_passes (leb 1) price_range_refusals r.no refl h), ltb-true _ _ (member_passes (λ n. ltb n 256) price_range_refusals r.no refl h));
  numbers = λ m e.
      let h = range_call_answer b room lent m e in
      let n = report_long (map price h.0) in
      (omega (arith, ap (λ (x : Result). x.a) h.2, n), omega (arith, ap (λ (x : Result). x.b) h.2));
}
