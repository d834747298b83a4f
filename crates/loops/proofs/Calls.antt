-- What the loop comes to once it is laid: the list does not fit, or it is written.
-- Assumes nothing.
use mathlib.Core.List.{List, []}
use mathlib.Core.Path.{◌≡◌, sym, ap, ◌∙◌}
use Prim.Native.Nat.{ℕ, ◌+◌, ◌*◌, ◌≤◌, ◌<◌}
use native.Mathlib.Omega.{arith}
use lib.ListN.{length}
use lib.Seq.{sets, ext_get_or}
use borrow.Author.Tests.{le-leb, lt-leb}
use Rattle.choice.specs.Calls.{showing}
use Rattle.form.specs.Form.{Gives}
use Rattle.form.specs.declared.Refusal.TheVariants as why
use Rattle.std.specs.Prelude.{Ok, Err}
use Rattle.form.proofs.Answers.{gives_refused, gives_done}
use Rattle.graph.specs.Answer.{◌else◌, ◌>>=◌, ◌>>◌}
use Rattle.graph.specs.Calls.{fit}
use Rattle.graph.specs.Graph.{Format}
use Rattle.graph.proofs.Places.{sets_lay}
use Rattle.le.specs.Le.{words, row, number_at}
use Rattle.le.specs.Rows.{row_at, place_in, entry, span, puts}
use Rattle.le.proofs.Numbers.{length_row}
use Rattle.le.proofs.Places.{length_words, get_d_words}
use Rattle.le.proofs.Rows.{length_span, span_at}
use Rattle.removal.specs.Room.{part}
use Rattle.removal.proofs.Tables.{part_length, part_at}
use Rattle.loops.specs.Walk.{loop_as}

-- words of the room are a row of numbers in its bytes
pub span_part : (room : List ℕ) (off n : ℕ) → 4 * (off + n) ≤ length room → span room (row_at (4 * off) 4) 0 n ≡ part (words room) off n
unfolding entry
span_part room off n h =
    ext_get_or 0 (span room (row_at (4 * off) 4) 0 n) (part (words room) off n)
    (length_span room (row_at (4 * off) 4) 0 n ∙ sym (part_length (words room) off n (omega (arith, length_words room))))
    (λ i l.
    let low : i < n = omega (arith, length_span room (row_at (4 * off) 4) 0 n) in
    let place : place_in (row_at (4 * off) 4) (0 + i) ≡ 4 * (off + i) = omega arith in
    span_at room (row_at (4 * off) 4) 0 n i low ∙ ap (number_at 4 room) place ∙ sym (part_at (words room) off n i low ∙ get_d_words room (off + i) (omega arith)))

-- a list of these vertices, as many as `count`, in this width
module _ (f : Format) (w : ℕ) (width : f.width ≡ w) (list : List ℕ) (steps count : ℕ) (many : length list ≡ count) where
  long : length (row f.width list) ≡ count * w
  long = length_row f.width list ∙ (λ i. many i * width i)

  pub showing_10 : (old : List ℕ) → length old < count * w → Gives (showing f (length old) (loop_as list steps)) (Err why.NoRoom) old old
  unfolding showing fit ◌else◌ ◌>>◌ ◌>>=◌
  showing_10 old h =
      let l : length old < length (row f.width list) = omega (arith, long) in
      gives_refused why.NoRoom old (rw (lt-leb (length (row f.width list)) (length old) l))

  pub showing_0 : (old new : List ℕ) → count * w ≤ length old → new ≡ puts old (row_at 0 w) 0 list → Gives (showing f (length old) (loop_as list steps)) (Ok (record { a = count; b = steps })) old new
  unfolding showing puts fit ◌else◌ ◌>>◌ ◌>>=◌
  showing_0 old new h e =
      let put = row f.width list in
      let l : length put ≤ length old = omega (arith, long) in
      let front : place_in (row_at 0 w) 0 ≡ 0 = omega arith in
      rw (sym many)
      (gives_done (record { a = length list; b = steps; bytes = put; map = [] }) old new (rw (le-leb (length put) (length old) l))
      (e ∙ (λ i. sets old (front i) (row (sym width i) list)) ∙ sets_lay put old l))
