-- The rows of the spiders: one side after the other, one node after the other.
-- Assumes nothing.
use mathlib.Core.Bool.{Bool, true, false, not}
use mathlib.Core.List.{List, [], ◌∷◌, ◌++◌, append_assoc, append-nil}
use mathlib.Core.Path.{◌≡◌, refl, ap, ◌∙◌, subst}
use Prim.Native.Nat.{ℕ, zero, suc, ◌+◌, ◌*◌, ◌-◌, ◌≤◌, ◌<◌, ◌^◌}
use native.Mathlib.Omega.{arith}
use lib.Dec.{eqb}
use lib.ListN.{length, length-append}
use mir.Val.{bool_byte}
use Rattle.std.specs.Bool.{then_some}
use Rattle.std.specs.Prelude.{Option, IfSome, option_to_list}
use Rattle.graph.specs.Lists.{keep, joined, range}
use Rattle.le.specs.Rows.{puts}
use Rattle.le.specs.declared.Row.{Row}
use Rattle.write.specs.Write.{Put}
use Rattle.links.specs.Links.{is_listed, Chain, itself, spider_row, both_rows, spiders_of, spiders}
use Rattle.graph.proofs.Laws.{joined_append}
use Rattle.graph.proofs.Lists.{range_add}
use Rattle.graph.proofs.Spiders.{keep_append}
use Rattle.write.proofs.Results.{put_then}
use Rattle.links.proofs.Cells.{range_more}

-- ---- one spider

-- the node itself is one entry more
pub with_itself : (here : Bool) (id : ℕ) (es : List ℕ) → length es + bool_byte here ≡ length (itself here id ++ es)
with_itself true id es = omega arith
with_itself false id es = omega arith

-- the node itself on a side, where it is wanted there: nothing or one number
pub with_node : (here there : Bool) (id : ℕ) (given : Option ℕ) → given ≡ then_some here id → here ≡ there → option_to_list given ≡ itself there id
with_node here there id given e same = ap option_to_list e ∙ each here ∙ ap (λ (h : Bool). itself h id) same
  where
    each : (h : Bool) → option_to_list (then_some h id) ≡ itself h id
    each true = refl
    each false = refl

pub node_low : (here : Bool) (id : ℕ) (given : Option ℕ) → given ≡ then_some here id → id < 2 ^ 32 → IfSome given (λ v. v < 2 ^ 32)
node_low here id given e low = rw e (each here)
  where
    each : (h : Bool) → IfSome (then_some h id) (λ v. v < 2 ^ 32)
    each true = low
    each false = tt

-- the one thing on the first side, the other on the second
abbrev pub on_side : {T : Type 0} → ℕ → T → T → T
on_side zero x y = x
on_side (suc half) x y = y

-- what stands on one side, and what stands on the sides before it
abbrev pub one_side : Bool → ℕ → List ℕ → List ℕ → ℕ → List ℕ
one_side first id a b half = itself (on_side half first (not first)) id ++ on_side half a b

abbrev pub sides_before : Bool → ℕ → List ℕ → List ℕ → ℕ → List ℕ
sides_before first id a b zero = []
sides_before first id a b (suc half) = sides_before first id a b half ++ one_side first id a b half

pub side_room : (first : Bool) (id : ℕ) (a b : List ℕ) (half : ℕ) → half < 2
    → length (sides_before first id a b half) + length (one_side first id a b half) ≤ length (sides_before first id a b 2)
side_room first id a b zero l = omega (arith, length-append (one_side first id a b 0) (one_side first id a b 1))
side_room first id a b (suc zero) l = omega (arith, length-append (one_side first id a b 0) (one_side first id a b 1))
side_room first id a b (suc (suc half)) l = absurd (omega arith)

pub side_length : (half : ℕ) {n m : ℕ} (a b : List ℕ) → n ≡ length a → m ≡ length b → on_side half n m ≡ length (on_side half a b)
side_length zero a b e f = e
side_length (suc half) a b e f = f

pub side_chain : {nodes : ℕ} {room : List ℕ} {head tail : ℕ} {a b : List ℕ} (half : ℕ) → half < 2 → tail ≡ head + 1 → Chain nodes room head a → Chain nodes room tail b
    → Chain nodes room (head + half) (on_side half a b)
side_chain {nodes} {room} {head} {tail} {a} {b} zero l e h k = subst (λ (i : ℕ). Chain nodes room i a) (omega arith) h
side_chain {nodes} {room} {head} {tail} {a} {b} (suc zero) l e h k = subst (λ (i : ℕ). Chain nodes room i b) e k
side_chain (suc (suc half)) l e h k = absurd (omega arith)

-- the two counts, and the two sides
pub row_done : {old mid new : List ℕ} {r : Row} {k m : ℕ} (X Y : List ℕ) (c d : ℕ) → c ≡ length X → d ≡ length Y → mid ≡ puts old r k (c ∷ d ∷ []) → Put mid r (k + 2) (X ++ Y) new m
    → Put old r k (length X ∷ length Y ∷ (X ++ Y)) new m
row_done {old} {mid} {new} {r} {k} {m} X Y c d e f h p =
    subst (λ (c : ℕ). Put old r k (c ∷ length Y ∷ (X ++ Y)) new m) e
    (subst (λ (d : ℕ). Put old r k (c ∷ d ∷ (X ++ Y)) new m) f (put_then (record { stored = h; next = refl }) p))

-- ---- one side more, and one node more

-- a list made of the parts of each number, over the numbers below a bound
module _ (part : List ℕ → List ℕ) (parts : (xs ys : List ℕ) → part (xs ++ ys) ≡ part xs ++ part ys) where
  range_next : (i : ℕ) → part (range 0 (i + 1)) ≡ part (range 0 i) ++ part (i ∷ [])
  range_next i = ap part (range_more i) ∙ parts (range 0 i) (i ∷ [])

  range_room_lem : (n i : ℕ) → i < n → length (part (range 0 i)) + length (part (i ∷ [])) ≤ length (part (range 0 n))
  range_room_lem n i l =
      let m = n - (i + 1) in
      let e : n ≡ i + 1 + m = omega arith in
      let all : part (range 0 n) ≡ part (range 0 (i + 1)) ++ part (range (0 + (i + 1)) m) =
      ap (λ (k : ℕ). part (range 0 k)) e ∙ ap part (range_add 0 (i + 1) m) ∙ parts (range 0 (i + 1)) (range (0 + (i + 1)) m) in
      omega (
        arith,
        ap length all ∙ length-append (part (range 0 (i + 1))) (part (range (0 + (i + 1)) m)),
        ap length (range_next i) ∙ length-append (part (range 0 i)) (part (i ∷ [])),
      )

-- the two spiders of a node as one list over the sides: side 0 from its global sources, side 1 to its global targets
abbrev pub side_row : (ℕ → ℕ → List ℕ) → ℕ → ℕ → List ℕ
side_row fresh id side = spider_row (eqb side 1) id (fresh (2 * side) id) (fresh (2 * side + 1) id)

abbrev pub side_rows : (ℕ → ℕ → List ℕ) → ℕ → ℕ → List ℕ
side_rows fresh id sides = joined (side_row fresh id) (range 0 sides)

module _ (fresh : ℕ → ℕ → List ℕ) (id side : ℕ) where
  pub sides_more : side_rows fresh id (side + 1) ≡ side_rows fresh id side ++ side_row fresh id side
  sides_more = range_next (joined (side_row fresh id)) (joined_append (side_row fresh id)) side ∙ ap (λ (l : List ℕ). side_rows fresh id side ++ l) (append-nil (side_row fresh id side))

  pub sides_room : side < 2 → length (side_rows fresh id side) + length (side_row fresh id side) ≤ length (side_rows fresh id 2)
  sides_room l = omega (arith, range_room_lem (joined (side_row fresh id)) (joined_append (side_row fresh id)) 2 side l, length-append (side_row fresh id side) [])

module _ (nodes : ℕ) (W : List ℕ) (fresh : ℕ → ℕ → List ℕ) where
  pub none_of : (id : ℕ) → is_listed nodes W id ≡ false → spiders_of nodes W fresh (id ∷ []) ≡ []
  none_of id e = rw e

  pub both_of : (id : ℕ) → is_listed nodes W id ≡ true → spiders_of nodes W fresh (id ∷ []) ≡ side_rows fresh id 2
  both_of id e = rw e (append_assoc (spider_row false id (fresh 0 id) (fresh 1 id)) (spider_row true id (fresh 2 id) (fresh 3 id)) [])

  spiders_append : (xs ys : List ℕ) → spiders_of nodes W fresh (xs ++ ys) ≡ spiders_of nodes W fresh xs ++ spiders_of nodes W fresh ys
  spiders_append xs ys = ap (joined (both_rows fresh)) (keep_append (is_listed nodes W) xs ys) ∙ joined_append (both_rows fresh) (keep (is_listed nodes W) xs) (keep (is_listed nodes W) ys)

  pub spiders_more : (id : ℕ) → spiders nodes W fresh (id + 1) ≡ spiders nodes W fresh id ++ spiders_of nodes W fresh (id ∷ [])
  spiders_more id = range_next (spiders_of nodes W fresh) spiders_append id

  pub spiders_room : (id : ℕ) → id < nodes → length (spiders nodes W fresh id) + length (spiders_of nodes W fresh (id ∷ [])) ≤ length (spiders nodes W fresh nodes)
  spiders_room id l = range_room_lem (spiders_of nodes W fresh) spiders_append nodes id l
