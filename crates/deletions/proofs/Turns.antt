-- One turn of sifting, from what was met in code: an entry goes, or stays with its new id.
-- Assumes nothing.
use mathlib.Core.Bool.{Bool, true, false, cond, ◌||◌}
use mathlib.Core.List.{List, [], ◌∷◌}
use mathlib.Core.Path.{◌≡◌, refl, sym, ap, ◌∙◌, subst}
use Prim.Native.Nat.{ℕ, ◌+◌, ◌*◌, ◌/◌, ◌%◌, ◌≤◌, ◌<◌}
use native.Mathlib.Omega.{arith}
use lib.Dec.{leb, eqb}
use lib.ListN.{length, get_or, set}
use lib.Seq.{sets}
use borrow.Author.Tests.{eq-eqb, le-leb, ne_eqb, lt-leb}
use Rattle.le.specs.Le.{Below}
use Rattle.le.proofs.Numbers.{below_widen}
use Rattle.graph.specs.Lists.{flat}
use Rattle.form.specs.declared.Sizes.{Sizes}
use Rattle.ledger.specs.declared.Renaming.TheVariants.{EdgeOfPort}
use Rattle.ledger.specs.Tables.{log_at, map_size, gone}
use Rattle.ledger.specs.Ledger.{words_in, pairs_in, log_in, Logged, Sound}
use Rattle.ledger.specs.Left.{mapped, kept_word, first_left}
use Rattle.ledger.proofs.Words.{flat_pairs}
use Rattle.deletions.specs.Sifts.{WordTurn, both_stay}

-- ---- words

pub word_goes : (W : List ℕ) (ids : Bool) (off k to m : ℕ) → m ≡ mapped W (cond ids (get_or W (off + k) 0) k) → m ≡ gone → WordTurn W W ids off k to to
unfolding kept_word
word_goes W ids off k to m e g =
    let x = get_or W (off + k) 0 in
    let none : kept_word W ids k x ≡ [] = ap (λ (c : Bool). cond c [] (cond ids (mapped W x) x ∷ [])) (eq-eqb (mapped W (cond ids x k)) gone (sym e ∙ g)) in
    let o : to ≡ to + 0 = omega arith in
    record { words = ap (sets W (off + to)) (sym none); next = o ∙ ap (λ (l : List ℕ). to + length l) (sym none) }

pub word_stays : (W X : List ℕ) (ids : Bool) (off k to m v : ℕ) → m ≡ mapped W (cond ids (get_or W (off + k) 0) k) → (m ≡ gone → ⊥) → v ≡ cond ids (mapped W (get_or W (off + k) 0)) (get_or W (off + k) 0)
    → X ≡ set W (off + to) v → WordTurn W X ids off k to (to + 1)
unfolding kept_word
word_stays W X ids off k to m v e g ev x =
    let y = get_or W (off + k) 0 in
    let one : kept_word W ids k y ≡ v ∷ [] =
    ap (λ (c : Bool). cond c [] (cond ids (mapped W y) y ∷ [])) (ne_eqb (mapped W (cond ids y k)) gone (λ p. g (e ∙ p))) ∙ ap (λ (n : ℕ). n ∷ []) (sym ev) in
    record { words = x ∙ ap (sets W (off + to)) (sym one); next = ap (λ (l : List ℕ). to + length l) (sym one) }

-- ---- pairs

pub edge_gone : (W : List ℕ) (a v : ℕ) → v ≡ mapped W (a / 2) → map_size ≤ v → gone ≡ first_left W EdgeOfPort a
unfolding first_left
edge_gone W a v x h =
    let l : leb map_size (mapped W (a / 2)) ≡ true = le-leb map_size (mapped W (a / 2)) (subst (λ (k : ℕ). map_size ≤ k) x h) in
    sym (rw l)

pub edge_stays : (W : List ℕ) (a v : ℕ) → v ≡ mapped W (a / 2) → v < map_size → 2 * v + a % 2 ≡ first_left W EdgeOfPort a
unfolding first_left
edge_stays W a v x h =
    let l : leb map_size (mapped W (a / 2)) ≡ false = lt-leb map_size (mapped W (a / 2)) (subst (λ (k : ℕ). k < map_size) x h) in
    ap (λ (k : ℕ). 2 * k + a % 2) x ∙ sym (rw l)

pub first_goes : (a b : ℕ) → a ≡ gone → both_stay a b ≡ []
unfolding both_stay
first_goes a b e = rw (eq-eqb a gone e)

pub second_goes : (a b : ℕ) → b ≡ gone → both_stay a b ≡ []
unfolding both_stay
second_goes a b e = go (eqb a gone) (eq-eqb b gone e)
  where
    go : (c : Bool) → eqb b gone ≡ true → cond {A = List (ℕ × ℕ)} (c || eqb b gone) [] ((a, b) ∷ []) ≡ []
    go true q = refl
    go false q = rw q

pub both_stay_lem : (a b : ℕ) → (a ≡ gone → ⊥) → (b ≡ gone → ⊥) → both_stay a b ≡ (a, b) ∷ []
unfolding both_stay
both_stay_lem a b n m = rw (ne_eqb a gone n, ne_eqb b gone m)

-- what both turns leave of the next place
pub next_none : (to : ℕ) (l : List (ℕ × ℕ)) → l ≡ [] → to ≡ to + length l
next_none to l e = let o : to ≡ to + 0 = omega arith in o ∙ ap (λ (l : List (ℕ × ℕ)). to + length l) (sym e)

-- ---- every entry has its place in the map

logged_below : (halves nodes n : ℕ) (log : List (ℕ × ℕ)) → halves ≤ n → nodes ≤ n → Logged halves nodes log → Below n (flat log)
logged_below halves nodes n [] h k l = tt
logged_below halves nodes n (p ∷ log) h k l = (omega (arith, l.0), (omega (arith, l.1), logged_below halves nodes n log h k l.2))

pub log_mapped : (W X : List ℕ) (z : Sizes) → Sound W z → pairs_in X log_at z.ports ≡ log_in W z → Below map_size (words_in X log_at (2 * z.ports))
log_mapped W X z S e =
    let w = S.within in
    subst (Below map_size) (ap flat (sym e) ∙ flat_pairs X log_at z.ports) (logged_below (2 * z.edges) z.nodes map_size (log_in W z) (omega arith) (omega arith) S.log)

pub ids_mapped : (n : ℕ) (xs ys : List ℕ) → n ≤ map_size → Below n xs → ys ≡ xs → Below map_size ys
ids_mapped n xs ys h b e = subst (Below map_size) (sym e) (below_widen xs h b)
