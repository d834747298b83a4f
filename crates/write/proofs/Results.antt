-- A result: its sizes, whether it can be written, and its form written from left to right.
-- Assumes nothing.
use mathlib.Core.Bool.{Bool, true, false, and-eq-true_iff}
use mathlib.Core.List.{List, [], ◌++◌}
use mathlib.Core.Logic.{◌⊎◌, inl, inr}
use mathlib.Core.Path.{◌≡◌, refl, sym, ap, ◌∙◌, subst}
use Prim.Native.Nat.{ℕ, ◌+◌, ◌*◌, ◌≤◌}
use native.Mathlib.Nat.{zero-add, add-zero}
use native.Mathlib.Omega.{arith}
use lib.Dec.{leb}
use lib.ListN.{length, length-append}
use lib.Seq.{sets, length-sets}
use borrow.Author.Tests.{leb-true, leb-false}
use Rattle.le.specs.Le.{Wide, row}
use Rattle.le.specs.Rows.{Holds, place_in, puts}
use Rattle.le.specs.declared.Row.{Row}
use Rattle.le.proofs.Numbers.{length_row}
use Rattle.le.proofs.Rows.{wide_some, holds_same, length_puts, puts_none, puts_append}
use Rattle.le.proofs.Stores.{sets_append}
use Rattle.graph.specs.Answer as answer
use Rattle.graph.specs.Answer.{refused, answered, writing, lay, ◌else◌, ◌>>◌, refusal}
use Rattle.graph.specs.Calls.{Next, made}
use Rattle.graph.specs.Form.{header, encode, form_bytes, label_row, body}
use Rattle.graph.specs.Graph as graph
use Rattle.graph.specs.Graph.{Graph, Format, counts, form1, form2, largest, counts_fit, sizes_fit, Within}
use Rattle.graph.specs.Versions.{fitting}
use Rattle.graph.proofs.Laws.{length_encode}
use Rattle.graph.proofs.Places.{sets_lay}
use Rattle.graph.proofs.ReadWrite.{fits_within}
use Rattle.graph.proofs.Rows.{encode_rows, length_label_row}
use Rattle.graph.proofs.Steps.{same_answer, same_refusal, never, passed}
use Rattle.graph.proofs.Versions.{version1, same_width, sizes_version, first_within}
use Rattle.graph.proofs.Verdicts.{made_9, made_10, made_0}
use Rattle.graph.proofs.WriteRead.{length_header}
use Rattle.form.specs.Form.{sizes_of, counts_of, Low, labels_of, body_of, body_size}
use Rattle.form.specs.declared.Sizes.{Sizes}
use Rattle.write.specs.Write.{format_for, fitted, result_size, headed, drawn, Put, Room}

-- ---- sizes of a result

-- no limit is passed: each number has 32 bits
pub fitted_low : (y : Sizes) → y ≡ fitted (counts_of y) y.ports → sizes_fit largest (counts_of y) y.ports ≡ true → Low y
fitted_low y is e =
    let l = (and-eq-true_iff (counts_fit largest (counts_of y)) (leb y.ports largest.most_ports)).0 e in
    let c = fits_within largest (counts_of y) l.0 in
    let p = leb-true y.ports largest.most_ports l.1 in
    let w : Wide y.width = subst (λ (z : Sizes). Wide z.width) (sym is) (sizes_version (counts_of y) y.ports).usable.width in
    record {
      width = w;
      narrow = (wide_some w).1;
      nodes = omega (arith, c.nodes);
      edges = omega (arith, c.edges);
      ports = omega arith;
      sources = omega (arith, c.sources);
      targets = omega (arith, c.targets);
      pairs = omega (arith, c.pairs);
    }

-- the width tells the version
pub narrow_first : (y : Sizes) → y ≡ fitted (counts_of y) y.ports → y.width ≡ form1.width → format_for y ≡ form1
narrow_first y is w = same_width (sizes_version (counts_of y) y.ports) version1 (sym (ap (λ (z : Sizes). z.width) is) ∙ w)

pub wide_second : (y : Sizes) → y ≡ fitted (counts_of y) y.ports → (y.width ≡ form1.width → ⊥) → format_for y ≡ form2
wide_second y is n = go (sizes_version (counts_of y) y.ports).one
  where
    go : (format_for y ≡ form1) ⊎ (format_for y ≡ form2) → format_for y ≡ form2
    go (inl e) = absurd (n (ap (λ (z : Sizes). z.width) is ∙ ap (λ (f : Format). f.width) e))
    go (inr e) = e

-- a result that fits version 1 is within all limits
pub narrow_fits : (y : Sizes) → y ≡ fitted (counts_of y) y.ports → y.width ≡ form1.width → sizes_fit largest (counts_of y) y.ports ≡ true
narrow_fits y is w = first_within (counts_of y) y.ports (narrow_first y is w)

-- the bytes of its form
pub form_long : (y : Sizes) → y ≡ fitted (counts_of y) y.ports
    → 5 + 5 * y.width + (y.nodes + y.edges) * 4 + body_size y * y.width ≡ form_bytes (format_for y) (counts_of y) y.ports
form_long y is =
    let e : (format_for y).width ≡ y.width = sym (ap (λ (z : Sizes). z.width) is) in
    rw e (omega arith)

-- ---- a form written from left to right

-- numbers after the first ones of a row
puts_more : (b : List ℕ) (r : Row) (ns ms : List ℕ) (k : ℕ) → k ≡ length ns → puts (puts b r 0 ns) r k ms ≡ puts b r 0 (ns ++ ms)
puts_more b r ns ms k e =
    ap (λ (i : ℕ). puts (puts b r 0 ns) r i ms) (e ∙ sym (zero-add (length ns))) ∙ puts_append b r 0 ns ms

module _ (old : List ℕ) (y : Sizes) where
  pub drawn_start : drawn old y [] [] ≡ headed old y
  unfolding drawn
  drawn_start = puts_none _ (body_of y) 0 ∙ puts_none (headed old y) (labels_of y) 0

  pub drawn_labels : (ls ms : List ℕ) (k : ℕ) → k ≡ length ls → puts (drawn old y ls []) (labels_of y) k ms ≡ drawn old y (ls ++ ms) []
  unfolding drawn
  drawn_labels ls ms k e =
      let head = headed old y in
      ap (λ (b : List ℕ). puts b (labels_of y) k ms) (puts_none (puts head (labels_of y) 0 ls) (body_of y) 0)
      ∙ puts_more head (labels_of y) ls ms k e ∙ sym (puts_none (puts head (labels_of y) 0 (ls ++ ms)) (body_of y) 0)

  pub drawn_numbers : (ls ns ms : List ℕ) (k : ℕ) → k ≡ length ns → puts (drawn old y ls ns) (body_of y) k ms ≡ drawn old y ls (ns ++ ms)
  unfolding drawn
  drawn_numbers ls ns ms k e = puts_more (puts (headed old y) (labels_of y) 0 ls) (body_of y) ns ms k e

  pub length_headed : length (headed old y) ≡ length old
  unfolding headed
  length_headed = length-sets old 0 (header (format_for y) (counts_of y))

  pub length_drawn : (ls ns : List ℕ) → length (drawn old y ls ns) ≡ length old
  unfolding drawn
  length_drawn ls ns = length_puts _ (body_of y) 0 ns ∙ length_puts (headed old y) (labels_of y) 0 ls ∙ length_headed

-- what was written is the form of the graph
pub drawn_whole : (old : List ℕ) (g : Graph) (y : Sizes) → y ≡ sizes_of (fitting g) g → length (encode (fitting g) g) ≤ length old
    → drawn old y (label_row g) (body g) ≡ lay (encode (fitting g) g) old
unfolding drawn headed puts
drawn_whole old g y is fits =
    let f = fitting g in
    let head = header f (counts g) in
    let labels = row 4 (label_row g) in
    let numbers = row f.width (body g) in
    let z = sizes_of f g in
    let h = length_header f (counts g) in
    let l = length_row 4 (label_row g) ∙ ap (λ (n : ℕ). n * 4) (length_label_row g) in
    let first : place_in (labels_of z) 0 ≡ 0 + length head = omega arith in
    let second : place_in (body_of z) 0 ≡ 0 + length head + length labels = omega arith in
    ap (λ (y : Sizes). drawn old y (label_row g) (body g)) is
    ∙ (λ i. sets (sets (sets old 0 head) (first i) labels) (second i) numbers)
    ∙ sym (sets_append (sets old 0 head) (0 + length head) labels numbers) ∙ sym (sets_append old 0 head (labels ++ numbers))
    ∙ ap (sets old 0) (sym (encode_rows f g)) ∙ sets_lay (encode f g) old fits

-- ---- numbers put into a row, and more after them

pub put_none : {old : List ℕ} {r : Row} {k : ℕ} → Put old r k [] old k
put_none {old} {r} {k} = record { stored = sym (puts_none old r k); next = sym (add-zero k) }

pub put_then : {old : List ℕ} {r : Row} {k : ℕ} {ms mid : List ℕ} {j : ℕ} {ns new : List ℕ} {end : ℕ} → Put old r k ms mid j → Put mid r j ns new end
    → Put old r k (ms ++ ns) new end
put_then {old} {r} {k} {ms} {mid} {j} {ns} p q = record {
  stored = q.stored ∙ (λ i. puts (p.stored i) r (p.next i) ns) ∙ puts_append old r k ms ns;
  next = rw (length-append ms ns) (omega (arith, p.next, q.next));
}

-- ---- whether a result can be written

-- a result that can: what is made of it, its bytes, and room for its parts
pub record Fits (x : Next) (y : Sizes) (room n : ℕ) : Type 0 where
  pub makes : made room x ≡ answered (writing (encode (fitting x.graph) x.graph) x.id)
  pub long : n ≡ length (encode (fitting x.graph) x.graph)
  pub enough : n ≤ room
  pub low : Low y
  pub fits : y ≡ fitted (counts_of y) y.ports
  pub counts : Within largest (counts_of y)
  pub ports : y.ports ≤ largest.most_ports
  pub header_held : 5 + 5 * y.width ≤ room
  pub labels_held : (out : List ℕ) → length out ≡ room → Holds out (labels_of y) (y.nodes + y.edges)
  pub body_held : (out : List ℕ) → length out ≡ room → Holds out (body_of y) (body_size y)

module _ (x : Next) (y : Sizes) (is : y ≡ sizes_of (fitting x.graph) x.graph) (room : ℕ) where
  bytes_are : length (encode (fitting x.graph) x.graph) ≡ form_bytes (format_for y) (counts_of y) y.ports
  bytes_are = length_encode (fitting x.graph) x.graph ∙ ap (λ (z : Sizes). form_bytes (format_for z) (counts_of z) z.ports) (sym is)

  limits_are : graph.within_limits largest x.graph ≡ sizes_fit largest (counts_of y) y.ports
  limits_are = sym (ap (λ (z : Sizes). sizes_fit largest (counts_of z) z.ports) is)

  pub result_refused : (r : answer.Refusal) → result_size y room ≡ refused r → made room x ≡ refused r
  unfolding result_size ◌else◌ ◌>>◌
  result_refused r e = look (sizes_fit largest (counts_of y) y.ports) (leb (form_bytes (format_for y) (counts_of y) y.ports) room) refl refl e
    where
      look : (a c : Bool) → sizes_fit largest (counts_of y) y.ports ≡ a → leb (form_bytes (format_for y) (counts_of y) y.ports) room ≡ c
          → ((a else refusal 9) >> ((c else refusal 10) >> answered (form_bytes (format_for y) (counts_of y) y.ports))) ≡ refused r → made room x ≡ refused r
      look true true p q h = absurd (never (sym h))
      look true false p q h = made_10 room x (limits_are ∙ p) (rw bytes_are (leb-false _ _ q)) ∙ ap refused (same_refusal h)
      look false c p q h = made_9 room x (limits_are ∙ p) ∙ ap refused (same_refusal h)

  pub result_fits : (n : ℕ) → result_size y room ≡ answered n → Fits x y room n
  unfolding result_size
  result_fits n e =
      let p = passed (sizes_fit largest (counts_of y) y.ports) _ _ e in
      let q = passed (leb (form_bytes (format_for y) (counts_of y) y.ports) room) _ _ p.1 in
      let long = sym (same_answer q.1) in
      let enough = leb-true _ _ q.0 in
      let fits = is ∙ ap (λ (z : Sizes). fitted (counts_of z) z.ports) (sym is) in
      let size = form_long y fits in
      let limits = (and-eq-true_iff (counts_fit largest (counts_of y)) (leb y.ports largest.most_ports)).0 p.0 in
      let low = fitted_low y fits p.0 in
      record {
        makes = made_0 room x (limits_are ∙ p.0) (rw bytes_are enough);
        long = long ∙ sym bytes_are;
        enough = rw long enough;
        low = low;
        fits = fits;
        counts = fits_within largest (counts_of y) limits.0;
        ports = leb-true _ _ limits.1;
        header_held = omega arith;
        labels_held = λ out l. record { wide = inr refl; inside = omega arith };
        body_held = λ out l. record { wide = low.width; inside = omega arith };
      }

-- ---- room for a result

pub fits_room : {x : Next} {y : Sizes} {room n : ℕ} → Fits x y room n → (out : List ℕ) → length out ≡ room → Room out y
fits_room f out e = record { low = f.low; fits = f.fits; header = omega (arith, f.header_held); labels = f.labels_held out e; body = f.body_held out e }

pub room_same : {out : List ℕ} {y : Sizes} → Room out y → (new : List ℕ) → length new ≡ length out → Room new y
room_same r new e = record {
  low = r.low;
  fits = r.fits;
  header = omega (arith, r.header);
  labels = holds_same r.labels new e;
  body = holds_same r.body new e;
}
