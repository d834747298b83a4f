-- 02, T-02: the layout is read back; and what code needs that reads the steps one after the other.
-- Assumes nothing.
use mathlib.Core.Bool.{Bool, true, false, cond, ◌||◌}
use mathlib.Core.List.{List, [], ◌∷◌, ◌++◌, map, append_assoc}
use mathlib.Core.Path.{◌≡◌, refl, sym, ap, ◌∙◌, subst}
use Prim.Native.Nat.{ℕ, zero, suc, ◌+◌, ◌*◌, ◌-◌, ◌^◌, ◌≤◌, ◌<◌}
use native.Mathlib.Omega.{arith}
use lib.Dec.{leb, ltb, eqb, lit<}
use lib.ListN.{length, get_or, take, drop, take-append-drop, length-append, length-take, length-drop}
use lib.Seq.{take-append_seam, drop-append_seam, drop-drop}
use borrow.Author.Tests.{le-leb, lt-ltb, leb-true}
use Rattle.le.specs.Le.{Below, row, numbers}
use Rattle.le.proofs.Numbers.{below_drop, length_row, length_numbers, numbers_below, numbers_row, drop_row}
use Rattle.graph.specs.Answer.{Refusal, Answer, refused, answered, ◌else◌, ◌>>◌}
use Rattle.graph.proofs.Steps.{same_answer, passed}
use Rattle.steps.specs.Steps.{Step, node_step, edge_step, operation_step, pair_step, source_step, target_step, without_edges_step, without_nodes_step, kind_of, head_of, lists_of, steps_bytes, head_numbers, list_numbers, step_of, read_step, steps_within, steps_in}
use Rattle.steps.specs.Singly.{Writable, AllWritable}

-- a step that passes every test
read_step_lem : (kind n m : ℕ) (b head body lists rest : List ℕ) → head_numbers kind ≡ n → 0 < n → n * 4 ≤ length b → numbers 4 n b ≡ head
    → drop (n * 4) b ≡ body → list_numbers kind head ≡ m → m * 4 ≤ length body → numbers 4 m body ≡ lists → drop (m * 4) body ≡ rest
    → read_step kind b ≡ answered (step_of kind head lists, rest)
unfolding read_step ◌else◌ ◌>>◌
read_step_lem kind n m b head body lists rest e₁ p l₁ e₂ e₃ e₄ l₂ e₅ e₆ =
    rw (e₁, lt-ltb 0 n p, le-leb (n * 4) (length b) l₁, e₂, e₃, e₄, le-leb (m * 4) (length body) l₂, e₅, e₆)

-- by its numbers
step_rows : (kind : ℕ) (head lists rest : List ℕ) → head_numbers kind ≡ length head → 0 < length head → list_numbers kind head ≡ length lists
    → Below (256 ^ 4) head → Below (256 ^ 4) lists → read_step kind ((row 4 head ++ row 4 lists) ++ rest) ≡ answered (step_of kind head lists, rest)
step_rows kind head lists rest e p k h l =
    let body = row 4 lists ++ rest in
    let b = row 4 head ++ body in
    rw append_assoc
    (read_step_lem kind (length head) (length lists) b head body lists rest e p
    (simp (length-append, length_row) (omega arith)) (numbers_row 4 head body h) (drop_row 4 head body) k
    (simp (length-append, length_row) (omega arith)) (numbers_row 4 lists rest l) (drop_row 4 lists rest))

-- a step's bytes are read as the step, whatever follows
pub step_back : (step : Step) → Writable step → (rest : List ℕ) → read_step (kind_of step) ((row 4 (head_of step) ++ row 4 (lists_of step)) ++ rest) ≡ answered (step, rest)
step_back (node_step label) h rest = step_rows 1 (label ∷ []) [] rest refl (lit< tt) refl h.head h.lists
step_back (edge_step label s t) h rest =
    step_rows 2 (label ∷ length s ∷ length t ∷ []) (s ++ t) rest refl (lit< tt) (sym (length-append s t)) h.head h.lists
    ∙ rw (take-append_seam s t, drop-append_seam s t)
step_back (operation_step label s t) h rest =
    step_rows 3 (label ∷ length s ∷ length t ∷ []) (s ++ t) rest refl (lit< tt) (sym (length-append s t)) h.head h.lists
    ∙ rw (take-append_seam s t, drop-append_seam s t)
step_back (pair_step v w) h rest = step_rows 4 (v ∷ w ∷ []) [] rest refl (lit< tt) refl h.head h.lists
step_back (source_step edge label) h rest = step_rows 5 (edge ∷ label ∷ []) [] rest refl (lit< tt) refl h.head h.lists
step_back (target_step edge label) h rest = step_rows 6 (edge ∷ label ∷ []) [] rest refl (lit< tt) refl h.head h.lists
step_back (without_edges_step ids) h rest = step_rows 7 (length ids ∷ []) ids rest refl (lit< tt) refl h.head h.lists
step_back (without_nodes_step ids) h rest = step_rows 8 (length ids ∷ []) ids rest refl (lit< tt) refl h.head h.lists

-- and so are steps one after the other
steps_back : (most : ℕ) (steps : List Step) → AllWritable (map answered steps) → length (steps_bytes steps) ≤ most
    → steps_within most (steps_bytes steps) ≡ map answered steps
steps_back zero [] h l = refl
steps_back (suc most) [] h l = refl
steps_back zero (x ∷ xs) h l = absurd (omega arith)
steps_back (suc most) (x ∷ xs) h l =
    let rows = row 4 (head_of x) ++ row 4 (lists_of x) in
    let k : length (steps_bytes xs) ≤ most = omega (arith, length-append rows (steps_bytes xs)) in
    rw (step_back x h.0 (steps_bytes xs), steps_within) (ap (λ (r : List (Answer Step)). answered x ∷ r) (steps_back most xs h.1 k))

pub steps_in_lem : (steps : List Step) → AllWritable (map answered steps) → steps_in (steps_bytes steps) ≡ map answered steps
steps_in_lem steps h = steps_back (length (steps_bytes steps)) steps h (omega arith)

-- ---- for code that reads the steps one after the other

-- what follows a step is a later part of the bytes
pub record StepRest (b rest : List ℕ) : Type 0 where
  pub place : ℕ
  pub is : rest ≡ drop place b
  pub inside : place ≤ length b

pub step_rest : (kind : ℕ) (b : List ℕ) (x : Step) (rest : List ℕ) → read_step kind b ≡ answered (x, rest) → StepRest b rest
unfolding read_step
step_rest kind b x rest p =
    let n = head_numbers kind in
    let body = drop (n * 4) b in
    let m = list_numbers kind (numbers 4 n b) in
    let p₁ = passed (ltb 0 n) _ _ p in
    let p₂ = passed (leb (n * 4) (length b)) _ _ p₁.1 in
    let p₃ = passed (leb (m * 4) (length body)) _ _ p₂.1 in
    let l₁ : n * 4 ≤ length b = leb-true _ _ p₂.0 in
    let l₂ : m * 4 ≤ length b - n * 4 = rw (length-drop (n * 4) b) at (leb-true (m * 4) (length body) p₃.0) in
    subst (λ (r : Step × List ℕ). StepRest b r.1) (same_answer p₃.1)
    (record { place = n * 4 + m * 4; is = drop-drop (m * 4) (n * 4) b; inside = omega arith })

-- how many steps are allowed for is nothing, if they are enough
steps_any : (most more : ℕ) (b : List ℕ) → length b ≤ most → length b ≤ more → steps_within most b ≡ steps_within more b
steps_any zero zero b l m = refl
steps_any zero (suc more) [] l m = refl
steps_any (suc most) zero [] l m = refl
steps_any (suc most) (suc more) [] l m = refl
steps_any zero (suc more) (kind ∷ b) l m = absurd (omega arith)
steps_any (suc most) zero (kind ∷ b) l m = absurd (omega arith)
steps_any (suc most) (suc more) (kind ∷ b) l m = go (read_step kind b) refl (λ r l m. steps_any most more r l m)
  where
    go : (a : Answer (Step × List ℕ)) → read_step kind b ≡ a
        → ((r : List ℕ) → length r ≤ most → length r ≤ more → steps_within most r ≡ steps_within more r)
        → ◌≡◌ {A = List (Answer Step)} (elim a [ refused r ↦ refused r ∷ [] | answered x ↦ answered x.0 ∷ steps_within most x.1 ])
        (elim a [ refused r ↦ refused r ∷ [] | answered x ↦ answered x.0 ∷ steps_within more x.1 ])
    go (refused r) e ih = refl
    go (answered x) e ih =
        let h = step_rest kind b x.0 x.1 e in
        let long : length x.1 ≡ length b - h.place = ap length h.is ∙ length-drop h.place b in
        ap (λ (r : List (Answer Step)). answered x.0 ∷ r) (ih x.1 (omega arith) (omega arith))

-- the next step, and those of the bytes after it; or the last, which is refused
pub steps_next : (kind : ℕ) (b : List ℕ) (x : Step) (rest : List ℕ) → read_step kind b ≡ answered (x, rest) → steps_in (kind ∷ b) ≡ answered x ∷ steps_in rest
steps_next kind b x rest p =
    let h = step_rest kind b x rest p in
    let long : length rest ≡ length b - h.place = ap length h.is ∙ length-drop h.place b in
    rw (p, steps_within) (ap (λ (r : List (Answer Step)). answered x ∷ r) (steps_any (length b) (length rest) rest (omega arith) (omega arith)))

pub steps_stop : (kind : ℕ) (b : List ℕ) (r : Refusal) → read_step kind b ≡ refused r → steps_in (kind ∷ b) ≡ refused r ∷ []
steps_stop kind b r p = rw (p, steps_within)

-- ---- the numbers of steps in a list of bytes have 4 bytes

below_any : (n : ℕ) → 0 < n → (xs : List ℕ) (i : ℕ) → Below n xs → get_or xs i 0 < n
below_any n p [] zero h = p
below_any n p [] (suc i) h = p
below_any n p (x ∷ xs) zero h = h.0
below_any n p (x ∷ xs) (suc i) h = below_any n p xs i h.1

-- whatever its kind
module _ (head lists : List ℕ) (h : Below (256 ^ 4) head) (l : Below (256 ^ 4) lists) where
  in_head : (i : ℕ) → get_or head i 0 < 256 ^ 4
  in_head i = below_any (256 ^ 4) (lit< tt) head i h

  -- both lists of a step
  first_few : length (take (get_or head 1 0) lists) < 256 ^ 4
  first_few = simp length-take (omega (arith, in_head 1))

  second_few : length lists ≡ get_or head 1 0 + get_or head 2 0 → length (drop (get_or head 1 0) lists) < 256 ^ 4
  second_few e = simp length-drop (omega (arith, in_head 2, e))

  both : Below (256 ^ 4) (take (get_or head 1 0) lists ++ drop (get_or head 1 0) lists)
  both = subst (λ (x : List ℕ). Below (256 ^ 4) x) (sym (take-append-drop (get_or head 1 0) lists)) l

  step_writable : (kind : ℕ) → length lists ≡ list_numbers kind head → Writable (step_of kind head lists)
  step_writable kind e = go (eqb kind 1) (eqb kind 2) (eqb kind 3) (eqb kind 4) (eqb kind 5) (eqb kind 6) (eqb kind 7) (eqb kind 8) e
    where
      go : (c₁ c₂ c₃ c₄ c₅ c₆ c₇ c₈ : Bool)
          → length lists ≡ cond (c₂ || c₃) (get_or head 1 0 + get_or head 2 0) (cond (c₇ || c₈) (get_or head 0 0) 0)
          → Writable (cond c₁ (node_step (get_or head 0 0)) (cond c₂ (edge_step (get_or head 0 0) (take (get_or head 1 0) lists) (drop (get_or head 1 0) lists))
          (cond c₃ (operation_step (get_or head 0 0) (take (get_or head 1 0) lists) (drop (get_or head 1 0) lists)) (cond c₄ (pair_step (get_or head 0 0) (get_or head 1 0))
          (cond c₅ (source_step (get_or head 0 0) (get_or head 1 0)) (cond c₆ (target_step (get_or head 0 0) (get_or head 1 0)) (cond c₇ (without_edges_step lists) (without_nodes_step lists))))))))
      go true c₂ c₃ c₄ c₅ c₆ c₇ c₈ e = record { head = (in_head 0, tt); lists = tt }
      go false true c₃ c₄ c₅ c₆ c₇ c₈ e = record { head = (in_head 0, (first_few, (second_few e, tt))); lists = both }
      go false false true c₄ c₅ c₆ c₇ c₈ e = record { head = (in_head 0, (first_few, (second_few e, tt))); lists = both }
      go false false false true c₅ c₆ c₇ c₈ e = record { head = (in_head 0, (in_head 1, tt)); lists = tt }
      go false false false false true c₆ c₇ c₈ e = record { head = (in_head 0, (in_head 1, tt)); lists = tt }
      go false false false false false true c₇ c₈ e = record { head = (in_head 0, (in_head 1, tt)); lists = tt }
      go false false false false false false true c₈ e = record { head = (omega (arith, in_head 0, e), tt); lists = l }
      go false false false false false false false true e = record { head = (omega (arith, in_head 0, e), tt); lists = l }
      go false false false false false false false false e = record { head = (omega (arith, e), tt); lists = l }

-- the step that is read, and what follows it
read_writable : (kind : ℕ) (b : List ℕ) (x : Step) (rest : List ℕ) → Below 256 b → read_step kind b ≡ answered (x, rest) → Writable x × Below 256 rest
unfolding read_step
read_writable kind b x rest t p =
    let n = head_numbers kind in
    let body = drop (n * 4) b in
    let head = numbers 4 n b in
    let m = list_numbers kind head in
    let p₁ = passed (ltb 0 n) _ _ p in
    let p₂ = passed (leb (n * 4) (length b)) _ _ p₁.1 in
    let p₃ = passed (leb (m * 4) (length body)) _ _ p₂.1 in
    let u = below_drop 256 (n * 4) b t in
    subst (λ (r : Step × List ℕ). Writable r.0 × Below 256 r.1) (same_answer p₃.1)
    (step_writable head (numbers 4 m body) (numbers_below 4 n b t) (numbers_below 4 m body u) kind (length_numbers 4 m body), below_drop 256 (m * 4) body u)

within_writable : (most : ℕ) (b : List ℕ) → Below 256 b → AllWritable (steps_within most b)
within_writable zero b t = tt
within_writable (suc most) [] t = tt
within_writable (suc most) (kind ∷ b) t = go (read_step kind b) refl (λ rest u. within_writable most rest u)
  where
    go : (a : Answer (Step × List ℕ)) → read_step kind b ≡ a → ((rest : List ℕ) → Below 256 rest → AllWritable (steps_within most rest))
        → AllWritable (elim a [
          | refused r ↦ refused r ∷ []
          | answered x ↦ answered x.0 ∷ steps_within most x.1
        ])
    go (refused r) e others = tt
    go (answered x) e others = let w = read_writable kind b x.0 x.1 t.1 e in (w.0, others x.1 w.1)

-- of any list of bytes
pub all_writable : (b : List ℕ) → Below 256 b → AllWritable (steps_in b)
all_writable b t = within_writable (length b) b t
