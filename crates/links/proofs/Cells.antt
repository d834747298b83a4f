-- Laws of the cells: a number put into the room is a store among the cells, and which nodes a table lists.
-- Assumes nothing.
use mathlib.Core.Bool.{Bool, true, false, cond, not, ◌&&◌, ◌||◌}
use mathlib.Core.List.{List, [], ◌∷◌, ◌++◌}
use mathlib.Core.Logic.{inl, inr}
use mathlib.Core.Path.{◌≡◌, refl, sym, ap, ◌∙◌}
use Prim.Native.Nat.{ℕ, ◌+◌, ◌*◌, ◌^◌, ◌≤◌, ◌<◌}
use native.Mathlib.Nat.{zero-add, add-zero}
use native.Mathlib.Omega.{arith}
use lib.Dec.{ltb, eqb, lit<}
use lib.ListN.{length, get_or, set, replicate, length-replicate, get_or-replicate, length-append}
use lib.Seq.{sets}
use borrow.Author.Tests.{eqb-true, eqb-false, lt-ltb, ltb-true, ltb-false}
use Rattle.graph.specs.Lists.{among, keep, range}
use Rattle.le.specs.Le.{Below, Apart}
use Rattle.le.specs.Rows.{Holds, entry, puts}
use Rattle.links.specs.Links.{cell_row, cell_count, cells, unlisted, is_listed, Heads}
use Rattle.graph.proofs.Spiders.{keep_append}
use Rattle.le.proofs.Frames.{outside_sets}
use Rattle.le.proofs.Numbers.{below_at}
use Rattle.le.proofs.Rows.{length_span, span_at, span_below, span_set, length_puts}
use Rattle.le.proofs.Tables.{get_d_sets}
use Rattle.graph.proofs.Lists.{range_add}

-- ---- cells

module _ (room : List ℕ) where
  pub cells_held : (n : ℕ) → n ≤ cell_count room → Holds room cell_row n
  cells_held n l = record { wide = inl refl; inside = omega arith }

  pub length_cells : length (cells room) ≡ cell_count room
  unfolding cells
  length_cells = length_span room cell_row 0 (cell_count room)

  module _ (i : ℕ) (l : i < cell_count room) where
    pub get_d_cells : get_or (cells room) i 0 ≡ entry room cell_row i
    unfolding cells
    get_d_cells = span_at room cell_row 0 (cell_count room) i l ∙ ap (entry room cell_row) (zero-add i)

    pub cell_low : Below 256 room → get_or (cells room) i 0 ≤ unlisted
    unfolding cells
    cell_low t = omega (arith, below_at (256 ^ 2) (cells room) i (span_below room cell_row 0 (cell_count room) t) (rw length_cells l))

    pub set_cells : (v : ℕ) → v ≤ unlisted → cells (puts room cell_row i (v ∷ [])) ≡ set (cells room) i v
    unfolding cells
    set_cells v t = rw (length_puts room cell_row i (v ∷ [])) (span_set room cell_row (cell_count room) i v (cells_held (cell_count room) (omega arith)) l (omega arith))

-- ---- which nodes are listed

filled_at : (W : List ℕ) (from n v j : ℕ) → from + n ≤ length W → j < n → get_or (sets W from (replicate n v)) (from + j) 0 ≡ v
filled_at W from n v j h l =
    let m = length-replicate {A = ℕ} n v in
    get_d_sets W from (replicate n v) j (omega arith) (omega arith) ∙ get_or-replicate n j v 0 l

-- all nodes, or none
pub all_filled : (W : List ℕ) (nodes : ℕ) (c : Bool) → nodes * 4 ≤ length W → Heads nodes (sets W 0 (replicate (nodes * 4) (cond c 0 unlisted))) (λ x. c)
all_filled W nodes c l = record {
  each = λ x k h h'. ap (λ (i : ℕ). get_or (sets W 0 (replicate (nodes * 4) (cond c 0 unlisted))) i 0) (sym (zero-add (x * 4 + k))) ∙ filled_at W 0 (nodes * 4) (cond c 0 unlisted) (x * 4 + k) (omega arith) (omega arith);
}

-- one node more
pub one_listed : (W : List ℕ) (nodes id : ℕ) (was : ℕ → Bool) → id < nodes → nodes * 4 ≤ length W → Heads nodes W was
    → Heads nodes (sets W (id * 4) (replicate 4 0)) (λ x. eqb x id || was x)
one_listed W nodes id was known fits h = record { each = λ x k l l'. pick x k l l' (eqb x id) refl }
  where
    pick : (x k : ℕ) → x < nodes → k < 4 → (c : Bool) → eqb x id ≡ c → get_or (sets W (id * 4) (replicate 4 0)) (x * 4 + k) 0 ≡ cond (c || was x) 0 unlisted
    pick x k l l' true e = rw (eqb-true x id e) (filled_at W (id * 4) 4 0 k (omega arith) l')
    pick x k l l' false e = (outside_sets (id * 4) (id * 4 + 4) W (id * 4) (replicate 4 0) (omega arith) (omega arith)).same (x * 4 + k) (side (ltb x id) refl) ∙ h.each x k l l'
      where
        side : (c : Bool) → ltb x id ≡ c → Apart (id * 4) (id * 4 + 4) (x * 4 + k)
        side true q = let less = ltb-true x id q in inl (omega arith)
        side false q =
            let more = ltb-false x id q in
            let other = eqb-false x id e in
            inr (after (λ p. other p) more)
          where
            after : (x ≡ id → ⊥) → id ≤ x → id * 4 + 4 ≤ x * 4 + k
            after n m = omega arith

-- a list of ids, one id more
among_snoc : (ids : List ℕ) (id x : ℕ) → among (ids ++ (id ∷ [])) x ≡ (eqb x id || among ids x)
among_snoc [] id x = refl
among_snoc (y ∷ ids) id x = rw (among_snoc ids id x) (swap (eqb x y) (eqb x id) (among ids x))
  where
    swap : (a b c : Bool) → (a || (b || c)) ≡ (b || (a || c))
    swap true true c = refl
    swap true false c = refl
    swap false b c = refl

pub list_more : (nodes : ℕ) (W W' ids : List ℕ) (id : ℕ) → id < nodes → nodes * 4 ≤ length W → W' ≡ sets W (id * 4) (replicate 4 0)
    → Heads nodes W (among ids) → Heads nodes W' (among (ids ++ (id ∷ [])))
list_more nodes W W' ids id known fits is h = record {
  each = λ x k l l'.
      ap (λ (u : List ℕ). get_or u (x * 4 + k) 0) is ∙ (one_listed W nodes id (among ids) known fits h).each x k l l'
      ∙ ap (λ (c : Bool). cond c 0 unlisted) (sym (among_snoc ids id x));
}

-- the test that a table makes is the listing that it was made for
pub listing : (nodes : ℕ) (W : List ℕ) (a : ℕ → Bool) → Heads nodes W a → ((x : ℕ) → nodes ≤ x → a x ≡ false) → (x : ℕ) → is_listed nodes W x ≡ a x
unfolding is_listed
listing nodes W a h out x = go (ltb x nodes) refl
  where
    go : (c : Bool) → ltb x nodes ≡ c → (c && not (eqb (get_or W (x * 4) 0) unlisted)) ≡ a x
    go false e = sym (out x (ltb-false x nodes e))
    go true e = rw (ap (λ (i : ℕ). get_or W i 0) (sym (add-zero (x * 4))) ∙ h.each x 0 (ltb-true x nodes e) (lit< tt)) (last (a x))
      where
        last : (c : Bool) → not (eqb (cond c 0 unlisted) unlisted) ≡ c
        last true = refl
        last false = refl

pub listed_at : (nodes : ℕ) (W : List ℕ) (x : ℕ) → x < nodes → not (eqb (get_or W (x * 4) 0) unlisted) ≡ is_listed nodes W x
unfolding is_listed
listed_at nodes W x l = rw (lt-ltb x nodes l)

-- ---- counting

-- the entries that pass a test, some entries more
pub keep_more : (test : ℕ → Bool) (xs ys : List ℕ) → length (keep test (xs ++ ys)) ≡ length (keep test xs) + length (keep test ys)
keep_more test xs ys = ap length (keep_append test xs ys) ∙ length-append (keep test xs) (keep test ys)

pub range_more : (n : ℕ) → range 0 (n + 1) ≡ range 0 n ++ (n ∷ [])
range_more n = range_add 0 n 1 ∙ ap (λ (k : ℕ). range 0 n ++ (k ∷ [])) (zero-add n)
