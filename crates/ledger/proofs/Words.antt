-- Words and pairs of words in a room: how many, one after the other, at an index, after a store, and what a frame leaves alone.
-- Assumes nothing.
use mathlib.Core.List.{List, [], ◌∷◌, ◌++◌}
use mathlib.Core.Logic.{inl, inr}
use mathlib.Core.Path.{◌≡◌, refl, ap, ◌∙◌}
use Prim.Native.Nat.{ℕ, zero, suc, ◌+◌, ◌*◌, ◌≤◌, ◌<◌}
use native.Mathlib.Omega.{arith}
use lib.ListN.{length, get_or, set, length-set}
use lib.Seq.{sets, get_or-set_same, get_or-set_other}
use Rattle.le.specs.Le.{Outside}
use Rattle.le.proofs.Frames.{outside_sets}
use Rattle.le.proofs.Tables.{get_d_sets_before}
use Rattle.graph.specs.Lists.{flat}
use Rattle.ledger.specs.Ledger.{words_in, pairs_in}

module _ (W : List ℕ) where
  pub length_words_in : (off n : ℕ) → length (words_in W off n) ≡ n
  length_words_in off zero = refl
  length_words_in off (suc n) = ap suc (length_words_in (suc off) n)

  pub words_append : (off m n : ℕ) → words_in W off (m + n) ≡ words_in W off m ++ words_in W (off + m) n
  words_append off zero n = let e : 0 + n ≡ n = omega arith in let f : off + 0 ≡ off = omega arith in rw (e, f) refl
  words_append off (suc m) n =
      let e : suc m + n ≡ suc (m + n) = omega arith in
      let f : off + suc m ≡ suc off + m = omega arith in
      rw (e, f) (ap (λ (l : List ℕ). get_or W off 0 ∷ l) (words_append (suc off) m n))

  pub words_next : (off n : ℕ) → words_in W off (n + 1) ≡ words_in W off n ++ (get_or W (off + n) 0 ∷ [])
  words_next off n = words_append off n 1

  pub words_at : (off n j : ℕ) → j < n → get_or (words_in W off n) j 0 ≡ get_or W (off + j) 0
  words_at off zero j h = absurd (omega arith)
  words_at off (suc n) zero h = let e : off + 0 ≡ off = omega arith in rw e refl
  words_at off (suc n) (suc j) h =
      let e : off + suc j ≡ suc off + j = omega arith in
      rw e (words_at (suc off) n j (omega arith))

  pub length_pairs_in : (off n : ℕ) → length (pairs_in W off n) ≡ n
  length_pairs_in off zero = refl
  length_pairs_in off (suc n) = ap suc (length_pairs_in (suc (suc off)) n)

  pub pairs_append : (off m n : ℕ) → pairs_in W off (m + n) ≡ pairs_in W off m ++ pairs_in W (off + 2 * m) n
  pairs_append off zero n = let e : 0 + n ≡ n = omega arith in let f : off + 2 * 0 ≡ off = omega arith in rw (e, f) refl
  pairs_append off (suc m) n =
      let e : suc m + n ≡ suc (m + n) = omega arith in
      let f : off + 2 * suc m ≡ suc (suc off) + 2 * m = omega arith in
      rw (e, f) (ap (λ (l : List (ℕ × ℕ)). (get_or W off 0, get_or W (suc off) 0) ∷ l) (pairs_append (suc (suc off)) m n))

  pub pairs_next : (off n : ℕ) → pairs_in W off (n + 1) ≡ pairs_in W off n ++ ((get_or W (off + 2 * n) 0, get_or W (suc (off + 2 * n)) 0) ∷ [])
  pairs_next off n = pairs_append off n 1

  pub pairs_at_lem : (off n j : ℕ) → j < n → get_or (pairs_in W off n) j (0, 0) ≡ (get_or W (off + 2 * j) 0, get_or W (off + 2 * j + 1) 0)
  pairs_at_lem off zero j h = absurd (omega arith)
  pairs_at_lem off (suc n) zero h =
      let e : off + 2 * 0 ≡ off = omega arith in
      let f : off + 1 ≡ suc off = omega arith in
      rw (e, f) refl
  pairs_at_lem off (suc n) (suc j) h =
      let e : off + 2 * suc j ≡ suc (suc off) + 2 * j = omega arith in
      rw e (pairs_at_lem (suc (suc off)) n j (omega arith))

  -- pairs as a row of words
  pub flat_pairs : (off n : ℕ) → flat (pairs_in W off n) ≡ words_in W off (2 * n)
  flat_pairs off zero = refl
  flat_pairs off (suc n) =
      let e : 2 * suc n ≡ suc (suc (2 * n)) = omega arith in
      rw e (ap (λ (l : List ℕ). get_or W off 0 ∷ get_or W (suc off) 0 ∷ l) (flat_pairs (suc (suc off)) n))

-- ---- rooms that agree

pub words_same : (W X : List ℕ) (off n : ℕ) → ((i : ℕ) → off ≤ i → i < off + n → get_or X i 0 ≡ get_or W i 0) → words_in X off n ≡ words_in W off n
words_same W X off zero h = refl
words_same W X off (suc n) h =
    let one = h off (omega arith) (omega arith) in
    let more = words_same W X (suc off) n (λ i a b. h i (omega arith) (omega arith)) in
    λ k. one k ∷ more k

pub pairs_same : (W X : List ℕ) (off n : ℕ) → ((i : ℕ) → off ≤ i → i < off + 2 * n → get_or X i 0 ≡ get_or W i 0) → pairs_in X off n ≡ pairs_in W off n
pairs_same W X off zero h = refl
pairs_same W X off (suc n) h =
    let one = h off (omega arith) (omega arith) in
    let two = h (suc off) (omega arith) (omega arith) in
    let more = pairs_same W X (suc (suc off)) n (λ i a b. h i (omega arith) (omega arith)) in
    λ k. (one k, two k) ∷ more k

-- what lies before a frame, and behind it
module _ {lo hi : ℕ} {W X : List ℕ} (o : Outside lo hi W X) where
  pub words_before : (off n : ℕ) → off + n ≤ lo → words_in X off n ≡ words_in W off n
  words_before off n h = words_same W X off n (λ i a b. o.same i (inl (omega arith)))

  pub words_behind : (off n : ℕ) → hi ≤ off → words_in X off n ≡ words_in W off n
  words_behind off n h = words_same W X off n (λ i a b. o.same i (inr (omega arith)))

  pub pairs_before : (off n : ℕ) → off + 2 * n ≤ lo → pairs_in X off n ≡ pairs_in W off n
  pairs_before off n h = pairs_same W X off n (λ i a b. o.same i (inl (omega arith)))

  pub pairs_behind : (off n : ℕ) → hi ≤ off → pairs_in X off n ≡ pairs_in W off n
  pairs_behind off n h = pairs_same W X off n (λ i a b. o.same i (inr (omega arith)))

-- ---- after a run of stores

-- the words that were stored
pub words_stored : (W : List ℕ) (off : ℕ) (l : List ℕ) → off + length l ≤ length W → words_in (sets W off l) off (length l) ≡ l
words_stored W off [] h = refl
words_stored W off (x ∷ l) h =
    let Y = set W off x in
    let one : get_or (sets Y (suc off) l) off 0 ≡ x = get_d_sets_before Y (suc off) l off (omega arith) ∙ get_or-set_same W off x 0 (omega arith) in
    let more : words_in (sets Y (suc off) l) (suc off) (length l) ≡ l = words_stored Y (suc off) l (simp length-set (omega arith)) in
    λ k. one k ∷ more k

-- a table to which they were appended
pub words_more : (W : List ℕ) (off n : ℕ) (l : List ℕ) → off + n + length l ≤ length W → words_in (sets W (off + n) l) off (n + length l) ≡ words_in W off n ++ l
words_more W off n l h =
    words_append (sets W (off + n) l) off n (length l)
    ∙ (λ k. words_before (outside_sets (off + n) (off + n + length l) W (off + n) l (omega arith) (omega arith)) off n (omega arith) k ++ words_stored W (off + n) l h k)

pub pairs_stored : (W : List ℕ) (off : ℕ) (ps : List (ℕ × ℕ)) → off + length (flat ps) ≤ length W → pairs_in (sets W off (flat ps)) off (length ps) ≡ ps
pairs_stored W off [] h = refl
pairs_stored W off (p ∷ ps) h =
    let Y = set (set W off p.0) (suc off) p.1 in
    let X = sets Y (suc (suc off)) (flat ps) in
    let before : (i : ℕ) → i < suc (suc off) → get_or X i 0 ≡ get_or Y i 0 = λ i b. get_d_sets_before Y (suc (suc off)) (flat ps) i b in
    let one : get_or X off 0 ≡ p.0 = before off (omega arith) ∙ get_or-set_other (set W off p.0) (suc off) off p.1 0 (λ e. omega arith) ∙ get_or-set_same W off p.0 0 (omega arith) in
    let two : get_or X (suc off) 0 ≡ p.1 = before (suc off) (omega arith) ∙ get_or-set_same (set W off p.0) (suc off) p.1 0 (simp length-set (omega arith)) in
    let more : pairs_in X (suc (suc off)) (length ps) ≡ ps = pairs_stored Y (suc (suc off)) ps (simp length-set (omega arith)) in
    λ k. (one k, two k) ∷ more k

pub pairs_more : (W : List ℕ) (off n : ℕ) (ps : List (ℕ × ℕ)) → off + 2 * n + length (flat ps) ≤ length W
    → pairs_in (sets W (off + 2 * n) (flat ps)) off (n + length ps) ≡ pairs_in W off n ++ ps
pairs_more W off n ps h =
    pairs_append (sets W (off + 2 * n) (flat ps)) off n (length ps)
    ∙ (λ k. pairs_before (outside_sets (off + 2 * n) (off + 2 * n + length (flat ps)) W (off + 2 * n) (flat ps) (omega arith) (omega arith)) off n (omega arith) k ++ pairs_stored W (off + 2 * n) ps h k)
