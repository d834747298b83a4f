-- Laws of the chains: a fresh node in front, what a store elsewhere leaves, that a cell has one chain, and the walk along a chain.
-- Assumes nothing.
use mathlib.Core.Bool.{Bool, true, false, cond, not, ◌&&◌}
use mathlib.Core.List.{List, [], ◌∷◌, ◌++◌, append-nil, append_assoc}
use mathlib.Core.Path.{◌≡◌, refl, sym, ap, ◌∙◌, subst}
use Prim.Native.Nat.{ℕ, suc, ◌+◌, ◌*◌, ◌≤◌, ◌<◌}
use native.Mathlib.Omega.{arith}
use lib.Dec.{ltb, eqb}
use lib.ListN.{length, get_or, set, length-set, length-append}
use lib.Seq.{get_or-set_same, get_or-set_other, sets}
use borrow.Author.Tests.{eqb-true, eqb-false, ne_eqb, ltb-true, lt-ltb}
use Rattle.le.specs.Le.{row}
use Rattle.le.specs.Rows.{place_in, puts}
use Rattle.le.specs.declared.Row.{Row}
use Rattle.links.specs.Links.{cell_count, cells, unlisted, is_listed, Heads, Links, back, Chained, Linked, linked_to, Table, Run, Chain}
use Rattle.le.proofs.Numbers.{length_row}
use Rattle.le.proofs.Rows.{puts_append}
use Rattle.le.proofs.Tables.{set_sets_before}

-- ---- numbers put before others

sets_swap : (d : List ℕ) (i j : ℕ) (A B : List ℕ) → i + length B ≤ j → sets (sets d j A) i B ≡ sets (sets d i B) j A
sets_swap d i j A [] h = refl
sets_swap d i j A (b ∷ B) h =
    ap (λ (u : List ℕ). sets u (suc i) B) (set_sets_before d j A i b (omega arith)) ∙ sets_swap (set d i b) (suc i) j A B (omega arith)

-- where one row ends before the other begins, either can be written first
pub puts_swap : (b : List ℕ) (l r : Row) (j k : ℕ) (ms ns : List ℕ) → place_in l (j + length ms) ≤ place_in r k → puts (puts b r k ns) l j ms ≡ puts (puts b l j ms) r k ns
unfolding puts
puts_swap b l r j k ms ns h = sets_swap b (place_in l j) (place_in r k) (row r.width ns) (row l.width ms) (omega (arith, length_row l.width ms))

pub puts_before : (b : List ℕ) (r : Row) (k j : ℕ) (ms ns : List ℕ) → k + length ms ≡ j → puts (puts b r j ns) r k ms ≡ puts b r k (ms ++ ns)
puts_before b r k j ms ns h = rw (← h) (puts_swap b r r k (k + length ms) ms ns (omega arith) ∙ puts_append b r k ms ns)

-- ---- chains

length_back : (l : List ℕ) → length (back l) ≡ length l
length_back [] = refl
length_back (x ∷ l) = rw (length-append (back l) (x ∷ [])) (omega (arith, length_back l))

pub links_widen : (nodes : ℕ) (W : List ℕ) (b b' first : ℕ) (l : List ℕ) → b ≤ b' → Links nodes W b first l → Links nodes W b' first l
links_widen nodes W b b' first [] h k = k
links_widen nodes W b b' first (f ∷ fs) h k = (k.0, k.1, omega (arith, k.2), k.3, k.4)

links_kept : (nodes : ℕ) (W W' : List ℕ) (b first : ℕ) (l : List ℕ) → ((f : ℕ) → nodes ≤ f → f < b → get_or W' (nodes * 3 + f) 0 ≡ get_or W (nodes * 3 + f) 0)
    → Links nodes W b first l → Links nodes W' b first l
links_kept nodes W W' b first [] e k = k
links_kept nodes W W' b first (f ∷ fs) e k =
    let same = e f k.1 k.2 in
    let less = k.2 in
    (k.0, k.1, k.2, k.3, rw same (links_kept nodes W W' f (get_or W (nodes * 3 + f) 0) fs (λ g h h'. e g h (omega arith)) k.4))

links_one : (nodes : ℕ) (W : List ℕ) (b c first : ℕ) (l m : List ℕ) → Links nodes W b first l → Links nodes W c first m → l ≡ m
links_one nodes W b c first [] [] h k = refl
links_one nodes W b c first [] (g ∷ gs) h k = absurd (omega (arith, h, k.0, k.3))
links_one nodes W b c first (f ∷ fs) [] h k = absurd (omega (arith, k, h.0, h.3))
links_one nodes W b c first (f ∷ fs) (g ∷ gs) h k =
    let e : f ≡ g = sym h.0 ∙ k.0 in
    let k₄ : Links nodes W g (get_or W (nodes * 3 + f) 0) gs = subst (λ (x : ℕ). Links nodes W g (get_or W (nodes * 3 + x) 0) gs) (sym e) k.4 in
    (λ i. e i ∷ links_one nodes W f g (get_or W (nodes * 3 + f) 0) fs gs h.4 k₄ i)

-- no fresh node yet
pub heads_linked : (nodes : ℕ) (W : List ℕ) (listed : ℕ → Bool) (next : ℕ) → Heads nodes W listed → ((x : ℕ) → x < nodes → is_listed nodes W x ≡ listed x) → Linked nodes W next (λ k x. [])
heads_linked nodes W listed next h same = record {
  chains = λ x k l l' m.
      let t : listed x ≡ true = sym (same x l) ∙ m in
      ([], h.each x k l l' ∙ rw t, refl);
}

-- ---- a fresh node in front of a chain

module _ (nodes : ℕ) (W : List ℕ) (id kind fresh : ℕ) (known : id < nodes) (is_kind : kind < 4) (high : nodes ≤ fresh) (small : fresh < unlisted) (inside : nodes * 3 + fresh < length W)
    (is_listed_lem : is_listed nodes W id ≡ true) where
  -- what the cells hold then
  at_head : get_or (linked_to nodes id kind fresh W) (id * 4 + kind) 0 ≡ fresh
  unfolding linked_to
  at_head = get_or-set_same (set W (nodes * 3 + fresh) (get_or W (id * 4 + kind) 0)) (id * 4 + kind) fresh 0 (rw length-set (omega arith))

  at_fresh : get_or (linked_to nodes id kind fresh W) (nodes * 3 + fresh) 0 ≡ get_or W (id * 4 + kind) 0
  unfolding linked_to
  at_fresh =
      get_or-set_other (set W (nodes * 3 + fresh) (get_or W (id * 4 + kind) 0)) (id * 4 + kind) (nodes * 3 + fresh) fresh 0 (λ e. omega arith)
      ∙ get_or-set_same W (nodes * 3 + fresh) (get_or W (id * 4 + kind) 0) 0 inside

  elsewhere : (i : ℕ) → (i ≡ id * 4 + kind → ⊥) → (i ≡ nodes * 3 + fresh → ⊥) → get_or (linked_to nodes id kind fresh W) i 0 ≡ get_or W i 0
  unfolding linked_to
  elsewhere i h k =
      get_or-set_other (set W (nodes * 3 + fresh) (get_or W (id * 4 + kind) 0)) (id * 4 + kind) i fresh 0 h
      ∙ get_or-set_other W (nodes * 3 + fresh) i (get_or W (id * 4 + kind) 0) 0 k

  pub still_listed : (x : ℕ) → is_listed nodes (linked_to nodes id kind fresh W) x ≡ is_listed nodes W x
  unfolding is_listed
  still_listed x = go (ltb x nodes) refl
    where
      go : (c : Bool) → ltb x nodes ≡ c → (c && not (eqb (get_or (linked_to nodes id kind fresh W) (x * 4) 0) unlisted)) ≡ (c && not (eqb (get_or W (x * 4) 0) unlisted))
      go false e = refl
      go true e = same (eqb (x * 4) (id * 4 + kind)) refl
        where
          less : x < nodes
          less = ltb-true x nodes e

          same : (c : Bool) → eqb (x * 4) (id * 4 + kind) ≡ c → not (eqb (get_or (linked_to nodes id kind fresh W) (x * 4) 0) unlisted) ≡ not (eqb (get_or W (x * 4) 0) unlisted)
          same false q =
              let ne : x * 4 ≡ id * 4 + kind → ⊥ = eqb-false (x * 4) (id * 4 + kind) q in
              rw (elsewhere (x * 4) ne (λ r. omega (arith, less)))
          same true q =
              let p : x * 4 ≡ id * 4 + kind = eqb-true (x * 4) (id * 4 + kind) q in
              let i : x ≡ id = omega arith in
              let v : get_or (linked_to nodes id kind fresh W) (x * 4) 0 ≡ fresh = ap (λ (j : ℕ). get_or (linked_to nodes id kind fresh W) j 0) p ∙ at_head in
              let m : not (eqb (get_or W (x * 4) 0) unlisted) ≡ true = ap (λ (j : ℕ). not (eqb (get_or W (j * 4) 0) unlisted)) i ∙ was in
              ap (λ (n : ℕ). not (eqb n unlisted)) v ∙ ap not (ne_eqb fresh unlisted (λ r. omega arith)) ∙ sym m
            where
              was : not (eqb (get_or W (id * 4) 0) unlisted) ≡ true
              was = rw (lt-ltb id nodes known) at is_listed_lem

  pub linked_more : (E : ℕ → ℕ → List ℕ) → Linked nodes W fresh E → Linked nodes (linked_to nodes id kind fresh W) (fresh + 1) (λ k x. E k x ++ cond (eqb k kind && eqb x id) (fresh ∷ []) [])
  linked_more E h = record { chains = λ x k l l' m. pick x k l l' (sym (still_listed x) ∙ m) (eqb k kind) (eqb x id) refl refl }
    where
      kept : (first : ℕ) (l : List ℕ) → Links nodes W fresh first l → Links nodes (linked_to nodes id kind fresh W) fresh first l
      kept first l k = links_kept nodes W (linked_to nodes id kind fresh W) fresh first l (λ f q q'. elsewhere (nodes * 3 + f) (λ r. omega arith) (λ r. omega arith)) k

      other : (x k : ℕ) → x < nodes → k < 4 → is_listed nodes W x ≡ true → (x * 4 + k ≡ id * 4 + kind → ⊥)
          → Chained nodes (linked_to nodes id kind fresh W) (fresh + 1) (get_or (linked_to nodes id kind fresh W) (x * 4 + k) 0) (E k x ++ [])
      other x k l l' m ne =
          let old = h.chains x k l l' m in
          let same = elsewhere (x * 4 + k) ne (λ r. omega arith) in
          (old.0, rw same (links_widen nodes _ fresh (fresh + 1) (get_or W (x * 4 + k) 0) old.0 (omega arith) (kept (get_or W (x * 4 + k) 0) old.0 old.1)), old.2 ∙ sym (append-nil (E k x)))

      pick : (x k : ℕ) → x < nodes → k < 4 → is_listed nodes W x ≡ true → (a b : Bool) → eqb k kind ≡ a → eqb x id ≡ b
          → Chained nodes (linked_to nodes id kind fresh W) (fresh + 1) (get_or (linked_to nodes id kind fresh W) (x * 4 + k) 0) (E k x ++ cond (a && b) (fresh ∷ []) [])
      pick x k l l' m true true p q =
          let k_is : k ≡ kind = eqb-true k kind p in
          let x_is : x ≡ id = eqb-true x id q in
          let old = h.chains x k l l' m in
          let place : x * 4 + k ≡ id * 4 + kind = omega arith in
          let now : get_or (linked_to nodes id kind fresh W) (x * 4 + k) 0 ≡ fresh = ap (λ (i : ℕ). get_or (linked_to nodes id kind fresh W) i 0) place ∙ at_head in
          let next : get_or (linked_to nodes id kind fresh W) (nodes * 3 + fresh) 0 ≡ get_or W (x * 4 + k) 0 = at_fresh ∙ ap (λ (i : ℕ). get_or W i 0) (sym place) in
          (fresh ∷ old.0, (now, high, omega arith, omega arith, rw next (kept (get_or W (x * 4 + k) 0) old.0 old.1)), ap (λ (r : List ℕ). r ++ (fresh ∷ [])) old.2)
      pick x k l l' m true false p q = let ne = eqb-false x id q in other x k l l' m (λ r. ne (omega arith))
      pick x k l l' m false b p q = let ne = eqb-false k kind p in other x k l l' m (λ r. ne (omega arith))

-- ---- the walk along a chain: these fresh nodes are passed, f is the next

pub record Going (nodes : ℕ) (room : List ℕ) (first f : ℕ) (passed : List ℕ) : Type 0 where
  pub rest : List ℕ
  pub run : Run nodes room f rest
  pub few : length passed + f ≤ first
  pub all : (l : List ℕ) → Run nodes room first l → back l ≡ back rest ++ passed

-- a turn
pub record Turned (nodes : ℕ) (room : List ℕ) (first f g : ℕ) (passed : List ℕ) : Type 0 where
  pub going : Going nodes room first g (f ∷ passed)
  pub inside : nodes * 3 + f < cell_count room
  pub falls : g < f

module _ (nodes : ℕ) (room : List ℕ) (first : ℕ) where
  pub going_start : (l : List ℕ) → Run nodes room first l → Going nodes room first first []
  going_start l h = record {
    rest = l;
    run = h;
    few = omega arith;
    all = λ m k. ap back (links_one nodes (cells room) k.bound h.bound first m l k.links h.links) ∙ sym (append-nil (back l));
  }

  module _ (f : ℕ) (passed : List ℕ) (going : Going nodes room first f passed) where
    pub going_turn : (f ≡ 0 → ⊥) → (g : ℕ) → g ≡ get_or (cells room) (nodes * 3 + f) 0 → Turned nodes room first f g passed
    going_turn ne g e = look going.rest refl going.run.links
      where
        W : List ℕ
        W = cells room

        low : (g : ℕ) (xs : List ℕ) → Links nodes W f g xs → 0 < f → g < f
        low g [] k p = omega (arith, k)
        low g (y ∷ ys) k p = omega (arith, k.0, k.2)

        look : (l : List ℕ) → going.rest ≡ l → Links nodes W going.run.bound f l → Turned nodes room first f g passed
        look [] is h = absurd (ne h)
        look (x ∷ xs) is h =
            let held = going.run.held in
            let k : Links nodes W f g xs = subst (λ (i : ℕ). Links nodes W i g xs) (sym h.0) (subst (λ (v : ℕ). Links nodes W x v xs) (sym (e ∙ ap (λ (i : ℕ). get_or W (nodes * 3 + i) 0) h.0)) h.4) in
            let falls : g < f = low g xs k (omega (arith, h.0, h.3)) in
            record {
              going = record {
                rest = xs;
                run = record { bound = going.run.bound; links = links_widen nodes W f going.run.bound g xs (omega (arith, h.0, h.2)) k; held = held };
                few = omega (arith, going.few);
                all = λ m q. going.all m q ∙ ap (λ (l : List ℕ). back l ++ passed) is ∙ append_assoc (back xs) (x ∷ []) passed ∙ ap (λ (y : ℕ). back xs ++ (y ∷ passed)) (sym h.0);
              };
              inside = omega (arith, h.0, h.2);
              falls = falls;
            }

    -- what is passed is a part of the chain
    pub going_within : (l : List ℕ) → Run nodes room first l → length passed ≤ length (back l)
    going_within l q = omega (arith, ap length (going.all l q) ∙ length-append (back going.rest) passed)

    pub going_done : f ≡ 0 → (l : List ℕ) → Run nodes room first l → back l ≡ passed
    going_done z l q = going.all l q ∙ ap (λ (m : List ℕ). m ++ passed) (ended going.rest going.run.links)
      where
        ended : (m : List ℕ) → Links nodes (cells room) going.run.bound f m → back m ≡ []
        ended [] k = refl
        ended (x ∷ m) k = absurd (omega (arith, k.0, k.3, z))

-- the number that the chain of a cell starts at
pub starts_at : {nodes : ℕ} {room : List ℕ} {head : ℕ} {es : List ℕ} (h : Chain nodes room head es) (f : ℕ) → f ≡ get_or (cells room) head 0 → Run nodes room f h.backwards
starts_at {nodes} {room} h f e = subst (λ (v : ℕ). Run nodes room v h.backwards) (sym e) h.run

-- a chain of a table
pub chain_of : {nodes : ℕ} {room : List ℕ} {fresh : ℕ → ℕ → List ℕ} → Table nodes room fresh → (x k : ℕ) → x < nodes → k < 4 → is_listed nodes (cells room) x ≡ true
    → Chain nodes room (x * 4 + k) (fresh k x)
chain_of t x k l l' m =
    let c = t.linked.chains x k l l' m in
    record {
      backwards = c.0;
      run = record { bound = t.bound; links = c.1; held = t.links_held };
      order = c.2;
      head_held = let h = t.heads_held in omega arith;
    }
