-- Rows of numbers: parts of a row, one number more, a row written from left to right, and a row read after a number was put into it.
-- Assumes nothing.
use mathlib.Core.List.{List, [], ◌∷◌, ◌++◌, append-nil}
use mathlib.Core.Logic.{inl, inr}
use mathlib.Core.Path.{◌≡◌, refl, sym, ap, ◌∙◌, subst}
use Prim.Native.Nat.{ℕ, zero, suc, ◌+◌, ◌-◌, ◌*◌, ◌^◌, ◌≤◌, ◌<◌}
use native.Mathlib.Nat.{mul-le-mul_left, mul-le-mul_right, suc-mul, zero-mul, zero-add, suc-add, add_comm}
use native.Mathlib.Omega.{arith}
use lib.ListN.{length, get_or, set, take, drop, length-drop}
use lib.Seq.{sets, length-sets, drop-drop, take_at, drop_at}
use Rattle.le.specs.Le.{Below, Wide, bytes, number, number_at, numbers, row}
use Rattle.le.specs.Rows.{place_in, Holds, entry, span, puts}
use Rattle.le.specs.declared.Row.{Row}
use Rattle.le.proofs.Numbers.{below_drop, length_bytes, number_bytes, length_row, length_numbers, row_append, numbers_below, rejoin}
use Rattle.le.proofs.Places.{number_drop, get_d_numbers, set_numbers}
use Rattle.le.proofs.Stores.{sets_append, drop_sets_add}

-- ---- widths

pub four : {w : ℕ} → Wide w → (w ≡ 2 → ⊥) → w ≡ 4
four (inl e) n = absurd (n e)
four (inr e) n = e

-- what two widths have in common
pub by_width : (P : ℕ → Type 0) → P 2 → P 4 → {w : ℕ} → Wide w → P w
by_width P two four (inl e) = subst P (sym e) two
by_width P two four (inr e) = subst P (sym e) four

pub wide_some : {w : ℕ} → Wide w → (2 ≤ w) × (w ≤ 4)
wide_some (inl e) = (omega arith, omega arith)
wide_some (inr e) = (omega arith, omega arith)

-- a number of such a width is one of 32 bits
pub wide_low : {w : ℕ} → Wide w → 256 ^ w ≤ 2 ^ 32
wide_low h = by_width (λ (w : ℕ). 256 ^ w ≤ 2 ^ 32) (omega arith) (omega arith) h

-- ---- room for a row

pub holds_less : {b : List ℕ} {r : Row} {n : ℕ} → Holds b r n → (m : ℕ) → m ≤ n → Holds b r m
holds_less {b} {r} h m l = record { wide = h.wide; inside = omega (arith, h.inside, mul-le-mul_right r.width l) }

pub holds_same : {b : List ℕ} {r : Row} {n : ℕ} → Holds b r n → (c : List ℕ) → length c ≡ length b → Holds c r n
holds_same h c e = record { wide = h.wide; inside = omega (arith, h.inside) }

-- the same of a row that is known
pub at_row : {b : List ℕ} {r s : Row} {n : ℕ} → r ≡ s → Holds b s n → Holds b r n
at_row {b} {n = n} e h = subst (λ (r : Row). Holds b r n) (sym e) h

-- there are at most half as many numbers as bytes
pub holds_index : {b : List ℕ} {r : Row} {n : ℕ} → Holds b r n → 2 * n ≤ length b
holds_index {b} {r} {n} h =
    let l = (wide_some h.wide).0 in
    omega (arith, h.inside, mul-le-mul_left n l)

-- ---- reading a row

-- rows of numbers one after the other
pub numbers_append : (w m n : ℕ) (b : List ℕ) → numbers w (m + n) b ≡ numbers w m b ++ numbers w n (drop (m * w) b)
numbers_append w zero n b = rw (zero-mul, zero-add)
numbers_append w (suc m) n b =
    rw (suc-add, suc-mul, add_comm (m * w) w, ← drop-drop (m * w) w b) (ap (λ (r : List ℕ). number (take w b) ∷ r) (numbers_append w m n (drop w b)))

-- what stands in a part of a row that is known
pub at_span : {r row : Row} (b : List ℕ) (k n : ℕ) {xs : List ℕ} → r ≡ row → span b row k n ≡ xs → span b r k n ≡ xs
at_span b k n e is = ap (λ (r : Row). span b r k n) e ∙ is

module _ (b : List ℕ) (r : Row) where
  pub length_span : (k n : ℕ) → length (span b r k n) ≡ n
  unfolding span
  length_span k n = length_numbers r.width n (drop (place_in r k) b)

  further : (k m : ℕ) → drop (m * r.width) (drop (place_in r k) b) ≡ drop (place_in r (k + m)) b
  further k m =
      let e : place_in r k + m * r.width ≡ place_in r (k + m) = omega arith in
      drop-drop (m * r.width) (place_in r k) b ∙ ap (λ (n : ℕ). drop n b) e

  pub span_append : (k m n : ℕ) → span b r k (m + n) ≡ span b r k m ++ span b r (k + m) n
  unfolding span
  span_append k m n =
      numbers_append r.width m n (drop (place_in r k) b) ∙ ap (λ (l : List ℕ). numbers r.width m (drop (place_in r k) b) ++ numbers r.width n l) (further k m)

  -- one number
  pub span_one : (k : ℕ) → span b r k 1 ≡ entry b r k ∷ []
  unfolding span entry
  span_one k = refl

  -- one number more
  pub span_next : (k n : ℕ) → span b r k (n + 1) ≡ span b r k n ++ (entry b r (k + n) ∷ [])
  span_next k n = span_append k n 1 ∙ ap (λ (l : List ℕ). span b r k n ++ l) (span_one (k + n))

  -- a number, and a part, of a part
  pub span_at : (k n j : ℕ) → j < n → get_or (span b r k n) j 0 ≡ entry b r (k + j)
  unfolding span entry
  span_at k n j h =
      let e : place_in r k + j * r.width ≡ place_in r (k + j) = omega arith in
      get_d_numbers r.width n (drop (place_in r k) b) j h ∙ number_drop r.width b (place_in r k) (j * r.width) ∙ ap (number_at r.width b) e

  pub span_part : (k n j m : ℕ) → j + m ≤ n → take m (drop j (span b r k n)) ≡ span b r (k + j) m
  span_part k n j m h =
      let e : n ≡ j + (m + (n - (j + m))) = omega arith in
      let rest = span b r (k + j + m) (n - (j + m)) in
      ap (λ (i : ℕ). take m (drop j (span b r k i))) e
      ∙ ap (λ (l : List ℕ). take m (drop j l)) (span_append k j (m + (n - (j + m))))
      ∙ ap (take m) (drop_at (span b r k j) (span b r (k + j) (m + (n - (j + m)))) j (length_span k j))
      ∙ ap (take m) (span_append (k + j) m (n - (j + m))) ∙ take_at (span b r (k + j) m) rest m (length_span (k + j) m)

  pub span_below : (k n : ℕ) → Below 256 b → Below (256 ^ r.width) (span b r k n)
  unfolding span
  span_below k n t = numbers_below r.width n (drop (place_in r k) b) (below_drop 256 (place_in r k) b t)

-- ---- writing a row

module _ (b : List ℕ) (r : Row) where
  pub length_puts : (k : ℕ) (ns : List ℕ) → length (puts b r k ns) ≡ length b
  unfolding puts
  length_puts k ns = length-sets b (place_in r k) (row r.width ns)

  pub puts_none : (k : ℕ) → puts b r k [] ≡ b
  unfolding puts
  puts_none k = refl

  -- numbers after numbers
  pub puts_append : (k : ℕ) (ms ns : List ℕ) → puts (puts b r k ms) r (k + length ms) ns ≡ puts b r k (ms ++ ns)
  unfolding puts
  puts_append k ms ns =
      let w = r.width in
      let e : place_in r (k + length ms) ≡ place_in r k + length (row w ms) = omega (arith, length_row w ms) in
      ap (λ (i : ℕ). sets (sets b (place_in r k) (row w ms)) i (row w ns)) e
      ∙ sym (sets_append b (place_in r k) (row w ms) (row w ns)) ∙ ap (sets b (place_in r k)) (sym (row_append w ms ns))

  -- one number put is its bytes stored
  pub puts_one : (k v : ℕ) → puts b r k (v ∷ []) ≡ sets b (place_in r k) (bytes r.width v)
  unfolding puts
  puts_one k v = ap (sets b (place_in r k)) (append-nil (bytes r.width v))

-- a row copied number by number is its bytes copied in one run
pub puts_run : (d s : List ℕ) (to from : Row) (k j n : ℕ) → Below 256 s → to.width ≡ from.width → Holds s from (j + n)
    → puts d to k (span s from j n) ≡ sets d (place_in to k) (take (n * to.width) (drop (place_in from j) s))
unfolding puts span
puts_run d s to from k j n t e h =
    let w = from.width in
    let rest = drop (place_in from j) s in
    let long : n * w ≤ length rest = simp length-drop (omega (arith, h.inside)) in
    let same : row w (numbers w n rest) ≡ take (n * w) rest =
    sym (take_at (row w (numbers w n rest)) (drop (n * w) rest) (n * w) (length_row w (numbers w n rest) ∙ ap (λ (i : ℕ). i * w) (length_numbers w n rest)))
    ∙ ap (take (n * w)) (rejoin w n rest (below_drop 256 (place_in from j) s t) long) in
    ap (sets d (place_in to k)) (ap (λ (v : ℕ). row v (numbers w n rest)) e ∙ same ∙ ap (λ (v : ℕ). take (n * v) rest) (sym e))

-- a number put into a row, seen in the row
pub span_set : (b : List ℕ) (r : Row) (n k v : ℕ) → Holds b r n → k < n → v < 256 ^ r.width → span (puts b r k (v ∷ [])) r 0 n ≡ set (span b r 0 n) k v
unfolding span
span_set b r n k v h l t =
    let w = r.width in
    let at = place_in r 0 in
    let zero_at : at ≡ r.at = omega arith in
    let place : place_in r k ≡ at + k * w = omega arith in
    let long : n * w ≤ length (drop at b) = simp length-drop (omega (arith, h.inside)) in
    let put : drop at (puts b r k (v ∷ [])) ≡ sets (drop at b) (k * w) (bytes w v) =
    ap (drop at) (puts_one b r k v ∙ ap (λ (i : ℕ). sets b i (bytes w v)) place) ∙ drop_sets_add at (bytes w v) b (k * w) in
    ap (numbers w n) put ∙ set_numbers w n (drop at b) k (bytes w v) l (length_bytes w v) long ∙ ap (set (numbers w n (drop at b)) k) (number_bytes w v t)
