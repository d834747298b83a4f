-- A table sifted where it stands, one entry after the other: what is written never overtakes what is still to be read.
-- Assumes nothing.
use mathlib.Core.Bool.{Bool, true, false, cond, ◌||◌}
use mathlib.Core.Logic.{inr}
use mathlib.Core.List.{List, [], ◌∷◌, ◌++◌, append_assoc, append-nil}
use mathlib.Core.Path.{◌≡◌, refl, sym, ap, ◌∙◌, subst}
use Prim.Native.Nat.{ℕ, suc, ◌+◌, ◌*◌, ◌/◌, ◌%◌, ◌≤◌, ◌<◌}
use native.Mathlib.Omega.{arith}
use lib.Dec.{leb, eqb}
use lib.ListN.{length, get_or}
use lib.Seq.{sets}
use Rattle.le.specs.Le.{Outside}
use Rattle.le.proofs.Frames.{outside_trans, outside_sets, outside_wider}
use Rattle.graph.specs.Lists.{joined, flat}
use Rattle.graph.proofs.Laws.{joined_append}
use Rattle.graph.proofs.WriteRead.{length_flat}
use Rattle.ledger.specs.declared.Renaming.{Renaming}
use Rattle.ledger.specs.declared.Renaming.TheVariants.{NodeOfPort, EdgeOfPort, BothEnds}
use Rattle.ledger.specs.Tables.{map_at, map_size, gone}
use Rattle.ledger.specs.Ledger.{words_in, pairs_in}
use Rattle.ledger.specs.Left.{mapped, kept_word, kept_words, WordsLeft, first_left, second_left, kept_pair, PairsLeft}
use Rattle.ledger.proofs.Words.{length_words_in, words_next, words_more, pairs_next, pairs_more}

-- ---- words

kept_snoc : (W : List ℕ) (ids : Bool) (i : ℕ) (xs : List ℕ) (x : ℕ) → kept_words W ids i (xs ++ (x ∷ [])) ≡ kept_words W ids i xs ++ kept_word W ids (i + length xs) x
kept_snoc W ids i [] x = let e : i + 0 ≡ i = omega arith in rw e (append-nil (kept_word W ids i x))
kept_snoc W ids i (y ∷ xs) x =
    let e : i + suc (length xs) ≡ suc i + length xs = omega arith in
    rw e (ap (λ (l : List ℕ). kept_word W ids i y ++ l) (kept_snoc W ids (suc i) xs x) ∙ sym (append_assoc (kept_word W ids i y) (kept_words W ids (suc i) xs) _))

-- an entry stays or goes
pub kept_few : (W : List ℕ) (ids : Bool) (i x : ℕ) → length (kept_word W ids i x) ≤ 1
unfolding kept_word
kept_few W ids i x = go (eqb (mapped W (cond ids x i)) gone) (cond ids (mapped W x) x)
  where
    go : (c : Bool) (v : ℕ) → length (cond {A = List ℕ} c [] (v ∷ [])) ≤ 1
    go true v = omega arith
    go false v = omega arith

-- by the map in a room that has the same map
pub kept_same : (W X : List ℕ) (ids : Bool) (i x : ℕ) → ((j : ℕ) → mapped X j ≡ mapped W j) → kept_word X ids i x ≡ kept_word W ids i x
unfolding kept_word
kept_same W X ids i x h = λ k. cond (eqb (h (cond ids x i) k) gone) [] (cond ids (h x k) x ∷ [])

pub words_turned : (W X Y : List ℕ) (ids : Bool) (off k to r : ℕ) → WordsLeft W X ids off k to → off + k < length W → off + k < map_at
    → Y ≡ sets X (off + to) (kept_word X ids k (get_or X (off + k) 0)) → r ≡ to + length (kept_word X ids k (get_or X (off + k) 0)) → WordsLeft W Y ids off (k + 1) r
words_turned W X Y ids off k to r L h hm e er =
    let x : get_or X (off + k) 0 ≡ get_or W (off + k) 0 = L.frame.same (off + k) (inr (omega arith)) in
    let v = kept_word W ids k (get_or W (off + k) 0) in
    let same : kept_word X ids k (get_or X (off + k) 0) ≡ v =
    ap (kept_word X ids k) x ∙ kept_same W X ids k (get_or W (off + k) 0) (λ j. L.frame.same (map_at + j) (inr (omega arith))) in
    let few = L.few in
    let one : length v ≤ 1 = kept_few W ids k (get_or W (off + k) 0) in
    let is : Y ≡ sets X (off + to) v = e ∙ ap (sets X (off + to)) same in
    let rr : r ≡ to + length v = er ∙ ap (λ (l : List ℕ). to + length l) same in
    let long : length X ≡ length W = L.frame.long in
    let n : 0 + length (words_in W off k) ≡ k = omega (arith, length_words_in W off k) in
    record {
      left = (λ i. words_in (is i) off (rr i)) ∙ words_more X off to v (omega arith)
          ∙ ap (λ (l : List ℕ). l ++ v) L.left
          ∙ ap (λ (j : ℕ). kept_words W ids 0 (words_in W off k) ++ kept_word W ids j (get_or W (off + k) 0)) (sym n)
          ∙ sym (kept_snoc W ids 0 (words_in W off k) (get_or W (off + k) 0)) ∙ ap (kept_words W ids 0) (sym (words_next W off k));
      few = omega arith;
      frame = outside_trans (outside_wider (omega arith) (omega arith) L.frame)
          (subst (λ (l : List ℕ). Outside off (off + (k + 1)) X l) (sym is) (outside_sets off (off + (k + 1)) X (off + to) v (omega arith) (omega arith)));
    }

-- ---- pairs

pub pair_few : (W : List ℕ) (how : Renaming) (p : ℕ × ℕ) → length (kept_pair W how p) ≤ 1
unfolding kept_pair
pair_few W how p = go (eqb (first_left W how p.0) gone || eqb (second_left W how p.1) gone) (first_left W how p.0, second_left W how p.1)
  where
    go : (c : Bool) (v : ℕ × ℕ) → length (cond {A = List (ℕ × ℕ)} c [] (v ∷ [])) ≤ 1
    go true v = omega arith
    go false v = omega arith

pub pair_same : (W X : List ℕ) (how : Renaming) (p : ℕ × ℕ) → ((j : ℕ) → mapped X j ≡ mapped W j) → kept_pair X how p ≡ kept_pair W how p
unfolding kept_pair first_left second_left
pair_same W X how p h = λ k. cond (eqb (first how k) gone || eqb (second how k) gone) [] ((first how k, second how k) ∷ [])
  where
    first : (how : Renaming) → first_left X how p.0 ≡ first_left W how p.0
    first NodeOfPort = refl
    first EdgeOfPort = λ k. cond (leb map_size (h (p.0 / 2) k)) gone (2 * h (p.0 / 2) k + p.0 % 2)
    first BothEnds = h p.0

    second : (how : Renaming) → second_left X how p.1 ≡ second_left W how p.1
    second NodeOfPort = h p.1
    second EdgeOfPort = refl
    second BothEnds = h p.1

pub pairs_turned : (W X Y : List ℕ) (how : Renaming) (off k to r : ℕ) → PairsLeft W X how off k to → off + 2 * k + 2 ≤ length W → off + 2 * k + 2 ≤ map_at
    → Y ≡ sets X (off + 2 * to) (flat (kept_pair X how (get_or X (off + 2 * k) 0, get_or X (off + 2 * k + 1) 0))) → r ≡ to + length (kept_pair X how (get_or X (off + 2 * k) 0, get_or X (off + 2 * k + 1) 0))
    → PairsLeft W Y how off (k + 1) r
pairs_turned W X Y how off k to r L h hm e er =
    let a : get_or X (off + 2 * k) 0 ≡ get_or W (off + 2 * k) 0 = L.frame.same (off + 2 * k) (inr (omega arith)) in
    let b : get_or X (off + 2 * k + 1) 0 ≡ get_or W (off + 2 * k + 1) 0 = L.frame.same (off + 2 * k + 1) (inr (omega arith)) in
    let p : ℕ × ℕ = (get_or W (off + 2 * k) 0, get_or W (off + 2 * k + 1) 0) in
    let v = kept_pair W how p in
    let same : kept_pair X how (get_or X (off + 2 * k) 0, get_or X (off + 2 * k + 1) 0) ≡ v =
    (λ i. kept_pair X how (a i, b i)) ∙ pair_same W X how p (λ j. L.frame.same (map_at + j) (inr (omega arith))) in
    let few = L.few in
    let one : length v ≤ 1 = pair_few W how p in
    let two : length (flat v) ≡ 2 * length v = length_flat v in
    let is : Y ≡ sets X (off + 2 * to) (flat v) = e ∙ ap (λ (l : List (ℕ × ℕ)). sets X (off + 2 * to) (flat l)) same in
    let rr : r ≡ to + length v = er ∙ ap (λ (l : List (ℕ × ℕ)). to + length l) same in
    let long : length X ≡ length W = L.frame.long in
    let s : off + 2 * k + 1 ≡ suc (off + 2 * k) = omega arith in
    record {
      left = (λ i. pairs_in (is i) off (rr i)) ∙ pairs_more X off to v (omega arith)
          ∙ ap (λ (l : List (ℕ × ℕ)). l ++ v) L.left
          ∙ ap (λ (l : List (ℕ × ℕ)). joined (kept_pair W how) (pairs_in W off k) ++ l) (sym (append-nil v))
          ∙ sym (joined_append (kept_pair W how) (pairs_in W off k) (p ∷ []))
          ∙ ap (λ (j : ℕ). joined (kept_pair W how) (pairs_in W off k ++ ((get_or W (off + 2 * k) 0, get_or W j 0) ∷ []))) s
          ∙ ap (joined (kept_pair W how)) (sym (pairs_next W off k));
      few = omega arith;
      frame = outside_trans (outside_wider (omega arith) (omega arith) L.frame)
          (subst (λ (l : List ℕ). Outside off (off + 2 * (k + 1)) X l) (sym is) (outside_sets off (off + 2 * (k + 1)) X (off + 2 * to) (flat v) (omega arith) (omega arith)));
    }
