-- A row that is rewritten where it stands: what is read apart from what was put, and numbers put back where they stand.
-- Assumes nothing.
use mathlib.Core.List.{List, [], ◌∷◌, ◌++◌, append_assoc}
use mathlib.Core.Path.{◌≡◌, refl, sym, ap, ◌∙◌}
use Prim.Native.Nat.{ℕ, zero, suc, ◌+◌, ◌-◌, ◌*◌, ◌^◌, ◌≤◌}
use native.Mathlib.Nat.{suc-mul, mul-le-mul_right}
use native.Mathlib.Omega.{arith}
use lib.ListN.{length, take, drop, set, length-drop, take-append-drop}
use lib.Seq.{sets, sets-eq, length-sets, drop-set-lt, drop-drop, length-take-le}
use Rattle.le.specs.Le.{Below, number, numbers, row}
use Rattle.le.specs.Rows.{Holds, place_in, span, puts}
use Rattle.le.specs.declared.Row.{Row}
use Rattle.le.proofs.Numbers.{length_row, numbers_row}
use Rattle.le.proofs.Rows.{puts_run}
use Rattle.le.proofs.Stores.{take_sets_le, drop_sets_add, sets_front}

drop_sets_past : (n : ℕ) (vs s : List ℕ) (i : ℕ) → i + length vs ≤ n → drop n (sets s i vs) ≡ drop n s
drop_sets_past n [] s i h = refl
drop_sets_past n (v ∷ vs) s i h = drop_sets_past n vs (set s i v) (suc i) (omega arith) ∙ drop-set-lt n s i v (omega arith)

numbers_before : (w m : ℕ) (d vs : List ℕ) (i : ℕ) → m * w ≤ i → numbers w m (sets d i vs) ≡ numbers w m d
numbers_before w zero d vs i h = refl
numbers_before w (suc m) d vs i h =
    let l : w + m * w ≤ i = omega (arith, suc-mul m w) in
    let e : i ≡ w + (i - w) = omega arith in
    let front : take w (sets d i vs) ≡ take w d = take_sets_le w vs d i (omega arith) in
    let rest : drop w (sets d i vs) ≡ sets (drop w d) (i - w) vs = ap (λ (j : ℕ). drop w (sets d j vs)) e ∙ drop_sets_add w vs d (i - w) in
    (λ x. number (front x) ∷ numbers w m (rest x)) ∙ ap (λ (ns : List ℕ). number (take w d) ∷ ns) (numbers_before w m (drop w d) vs (i - w) (omega arith))

-- what stands behind the numbers that were put, and before them
pub span_behind : (b : List ℕ) (r q : Row) (k j m : ℕ) (ns : List ℕ) → place_in r (k + length ns) ≤ place_in q j → span (puts b r k ns) q j m ≡ span b q j m
unfolding span puts
span_behind b r q k j m ns h = ap (numbers q.width m) (drop_sets_past (place_in q j) (row r.width ns) b (place_in r k) (omega (arith, length_row r.width ns)))

pub span_ahead : (b : List ℕ) (r q : Row) (k j m : ℕ) (ns : List ℕ) → place_in q (j + m) ≤ place_in r k → span (puts b r k ns) q j m ≡ span b q j m
unfolding span puts
span_ahead b r q k j m ns h =
    let at = place_in q j in
    let e : place_in r k ≡ at + (place_in r k - at) = omega arith in
    ap (λ (i : ℕ). numbers q.width m (drop at (sets b i (row r.width ns)))) e ∙ ap (numbers q.width m) (drop_sets_add at (row r.width ns) b (place_in r k - at))
    ∙ numbers_before q.width m (drop at b) (row r.width ns) (place_in r k - at) (omega arith)

sets_there : (b : List ℕ) (i n : ℕ) → i + n ≤ length b → sets b i (take n (drop i b)) ≡ b
sets_there b i n h =
    let long : length (take n (drop i b)) ≡ n = length-take-le n (drop i b) (omega (arith, length-drop i b)) in
    sets-eq (take n (drop i b)) b i (omega arith) ∙ append_assoc (take i b) (take n (drop i b)) _ ∙ ap (λ (m : ℕ). take i b ++ (take n (drop i b) ++ drop (i + m) b)) long
    ∙ ap (λ (l : List ℕ). take i b ++ (take n (drop i b) ++ l)) (sym (drop-drop n i b)) ∙ ap (λ (l : List ℕ). take i b ++ l) (take-append-drop n (drop i b)) ∙ take-append-drop i b

-- numbers put where they stand already
pub puts_there : (b : List ℕ) (r : Row) (k n : ℕ) → Below 256 b → Holds b r (k + n) → puts b r k (span b r k n) ≡ b
puts_there b r k n t h = puts_run b b r r k k n t refl h ∙ sets_there b (place_in r k) (n * r.width) (omega (arith, h.inside))

-- numbers read where they were put
pub span_puts : (b : List ℕ) (r : Row) (k : ℕ) (ns : List ℕ) → Below (256 ^ r.width) ns → Holds b r (k + length ns) → span (puts b r k ns) r k (length ns) ≡ ns
unfolding span puts
span_puts b r k ns t h =
    let at = place_in r k in
    let bs = row r.width ns in
    let n = length_row r.width ns in
    let e : at ≡ at + 0 = omega arith in
    ap (λ (i : ℕ). numbers r.width (length ns) (drop at (sets b i bs))) e ∙ ap (numbers r.width (length ns)) (drop_sets_add at bs b 0 ∙ sets_front (drop at b) bs (omega (arith, h.inside, length-drop at b)))
    ∙ numbers_row r.width ns _ t

sets_over : (b : List ℕ) (i j : ℕ) (A B : List ℕ) → j ≤ i → i + length A ≤ j + length B → j + length B ≤ length b → sets (sets b i A) j B ≡ sets b j B
sets_over b i j A B l m h =
    sets-eq B (sets b i A) j (omega (arith, length-sets b i A)) ∙ (λ x. take_sets_le j A b i l x ++ B ++ drop_sets_past (j + length B) A b i m x) ∙ sym (sets-eq B b j h)

-- numbers put over others, which are all written over
pub puts_over : (b : List ℕ) (r : Row) (k j : ℕ) (ns ms : List ℕ) → j ≤ k → k + length ns ≤ j + length ms → Holds b r (j + length ms) → puts (puts b r k ns) r j ms ≡ puts b r j ms
unfolding puts
puts_over b r k j ns ms l m h =
    let w = r.width in
    sets_over b (place_in r k) (place_in r j) (row w ns) (row w ms) (omega (arith, mul-le-mul_right w l)) (omega (arith, mul-le-mul_right w m, length_row w ns, length_row w ms)) (omega (arith, h.inside, length_row w ms))
