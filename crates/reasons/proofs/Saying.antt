-- What the entries say: those of the nodes that were told, one part of a removal after the other.
-- Assumes nothing.
use mathlib.Core.Path.{◌≡◌, refl, sym, ap, ◌∙◌, subst}
use mathlib.Core.List.Memᴰ
use mathlib.Core.List.{List, [], ◌∷◌}
use mathlib.Core.Logic.{◌≢◌, ◌⊎◌, inl, inr}
use Prim.Native.Nat.{ℕ, ◌+◌, ◌*◌, ◌/◌, ◌≤◌, ◌<◌}
use native.Mathlib.Decide.{ℕ_discrete, dec_lt}
use native.Mathlib.Omega.{arith}
use lib.Dec.{T}
use lib.ListN.{length, get_or}
use Rattle.le.specs.Le.{row, Outside}
use Rattle.le.proofs.Frames.{outside_none, outside_trans, outside_sets, outside_wider}
use Rattle.le.proofs.Numbers.{length_row}
use Rattle.le.proofs.Tables.{get_d_sets}
use Rattle.choice.specs.Arcs.{Arc, In, Set, has}
use Rattle.choice.proofs.Sets.{test}
use Rattle.choice.specs.Reasons.{Reason, picked, not_led_to, leads_to_none, numbers_of, reason}
use Rattle.graph.specs.Graph.{Graph}
use Rattle.halves.specs.Halves.{vertex, Leaves}
use Rattle.halves.proofs.Phases.{leaves_in, leaves_all}
use Rattle.reasons.specs.Told.{place_of, entered, freed_half, freed_all, Says, Told}
use Rattle.reasons.proofs.Entries.{freed_node, freed_edge}

-- the entry of node v is these four numbers
abbrev pub Shows : List ℕ → ℕ → List ℕ → Type 0
Shows out v ns = (j : ℕ) → j < 16 → get_or out (place_of v + j) 0 ≡ get_or (row 4 ns) j 0

module _ (out : List ℕ) (v : ℕ) (ns : List ℕ) (four : length ns ≡ 4) where
  -- only the entry itself changes
  entered_frame : Outside (place_of v) (place_of v + 16) out (entered out v ns)
  entered_frame = unfold entered in outside_sets (place_of v) (place_of v + 16) out (place_of v) (row 4 ns) (omega arith) (omega (arith, length_row 4 ns))

  pub entered_outside : (nodes : ℕ) → v < nodes → Outside 0 (16 * nodes) out (entered out v ns)
  entered_outside nodes l = outside_wider (omega arith) (omega arith) entered_frame

  pub entered_shows : place_of v + 16 ≤ length out → Shows (entered out v ns) v ns
  entered_shows l j k = unfold entered in get_d_sets out (place_of v) (row 4 ns) j (omega (arith, length_row 4 ns)) (omega (arith, length_row 4 ns))

  pub entered_other : (u : ℕ) → u ≢ v → (j : ℕ) → j < 16 → get_or (entered out v ns) (place_of u + j) 0 ≡ get_or out (place_of u + j) 0
  entered_other u n j k = entered_frame.same (place_of u + j) (go (dec_lt u v))
    where
      go : Dec (u < v) → (place_of u + j < place_of v) ⊎ (place_of v + 16 ≤ place_of u + j)
      go (yes l) = inl (omega arith)
      go (no l) = inr (omega arith)

four_numbers : (why : Reason) → length (numbers_of why) ≡ 4
four_numbers (picked stage ins outs) = refl
four_numbers (not_led_to stage) = refl
four_numbers (leads_to_none stage) = refl

module _ (nodes : ℕ) (why : Reason) where
  abbrev ns : List ℕ
  ns = numbers_of why

  half_outside : (y : ℕ) (out : List ℕ) → Outside 0 (16 * nodes) out (freed_half nodes why y out)
  half_outside y out = go (dec_lt (y / 2) nodes)
    where
      go : Dec (y / 2 < nodes) → Outside 0 (16 * nodes) out (freed_half nodes why y out)
      go (yes l) = subst (Outside 0 (16 * nodes) out) (sym (freed_node nodes why y out l)) (entered_outside out (y / 2) ns (four_numbers why) nodes l)
      go (no l) = subst (Outside 0 (16 * nodes) out) (sym (freed_edge nodes why y out (omega arith))) (outside_none 0 (16 * nodes) out)

  pub freed_outside : (ys out : List ℕ) → Outside 0 (16 * nodes) out (freed_all nodes why ys out)
  unfolding freed_all
  freed_outside [] out = outside_none 0 (16 * nodes) out
  freed_outside (y ∷ ys) out = outside_trans (half_outside y out) (freed_outside ys (freed_half nodes why y out))

  -- node v's own half, and another
  half_shows : (y v : ℕ) (out : List ℕ) → vertex y ≡ v → v < nodes → 16 * nodes ≤ length out → Shows (freed_half nodes why y out) v ns
  half_shows y v out e l long =
      subst (λ (o : List ℕ). Shows o v ns) (sym (freed_node nodes why y out (omega arith) ∙ ap (λ (u : ℕ). entered out u ns) e)) (entered_shows out v ns (four_numbers why) (omega arith))

  half_other : (y v : ℕ) (out : List ℕ) → vertex y ≢ v → (j : ℕ) → j < 16 → get_or (freed_half nodes why y out) (place_of v + j) 0 ≡ get_or out (place_of v + j) 0
  half_other y v out n j k = go (dec_lt (y / 2) nodes)
    where
      go : Dec (y / 2 < nodes) → get_or (freed_half nodes why y out) (place_of v + j) 0 ≡ get_or out (place_of v + j) 0
      go (yes l) = ap (λ (o : List ℕ). get_or o (place_of v + j) 0) (freed_node nodes why y out l) ∙ entered_other out (y / 2) ns (four_numbers why) v (λ e. n (sym e)) j k
      go (no l) = ap (λ (o : List ℕ). get_or o (place_of v + j) 0) (freed_edge nodes why y out (omega arith))

  -- an entry of this kind stays
  freed_stays : (ys out : List ℕ) (v : ℕ) → v < nodes → 16 * nodes ≤ length out → Shows out v ns → Shows (freed_all nodes why ys out) v ns
  unfolding freed_all
  freed_stays [] out v l long s = s
  freed_stays (y ∷ ys) out v l long s = freed_stays ys (freed_half nodes why y out) v l (omega (arith, (half_outside y out).long)) (go (ℕ_discrete (vertex y) v))
    where
      go : Dec (vertex y ≡ v) → Shows (freed_half nodes why y out) v ns
      go (yes e) = half_shows y v out e l long
      go (no n) = λ j k. half_other y v out n j k ∙ s j k

  freed_here : (ys out : List ℕ) (y v : ℕ) → In y ys → vertex y ≡ v → v < nodes → 16 * nodes ≤ length out → Shows (freed_all nodes why ys out) v ns
  unfolding freed_all
  freed_here [] out y v m e l long = absurd (Memᴰ.not-nil m)
  freed_here (x ∷ ys) out y v m e l long = go (Memᴰ.cases_cons m) (λ k. freed_here ys (freed_half nodes why x out) y v k e l (omega (arith, (half_outside x out).long)))
    where
      go : (y ≡ x) ⊎ In y ys → (In y ys → Shows (freed_all nodes why ys (freed_half nodes why x out)) v ns) → Shows (freed_all nodes why ys (freed_half nodes why x out)) v ns
      go (inl q) r = freed_stays ys (freed_half nodes why x out) v l (omega (arith, (half_outside x out).long)) (half_shows x v out (ap vertex (sym q) ∙ e) l long)
      go (inr k) r = r k

  freed_away : (ys out : List ℕ) (v : ℕ) → ((y : ℕ) → In y ys → vertex y ≢ v) → (j : ℕ) → j < 16 → get_or (freed_all nodes why ys out) (place_of v + j) 0 ≡ get_or out (place_of v + j) 0
  unfolding freed_all
  freed_away [] out v n j k = refl
  freed_away (y ∷ ys) out v n j k = freed_away ys (freed_half nodes why y out) v (λ x m. n x (Memᴰ.tail m)) j k ∙ half_other y v out (n y (Memᴰ.head refl)) j k

  -- a part of a removal: what leaves S is told by its reason
  pub told_part : (g : Graph) (arcs : List Arc) (S U : Set) (ys out : List ℕ) → nodes ≡ length g.labels → 16 * nodes ≤ length out → Leaves arcs S ys U
      → ((v : ℕ) → T (has S v) → (T (has U v) → ⊥) → numbers_of (reason g v) ≡ ns) → Told g S out → Told g U (freed_all nodes why ys out)
  told_part g arcs S U ys out same long l because t = record { says = λ v low n. go v low n (test (has S v)) }
    where
      go : (v : ℕ) → v < length g.labels → (T (has U v) → ⊥) → Dec (T (has S v)) → Says g (freed_all nodes why ys out) v
      go v low n (yes i) j k =
          let w = leaves_all arcs l v i n in
          freed_here ys out w.0 v w.1 w.2 (omega arith) long j k ∙ ap (λ (xs : List ℕ). get_or (row 4 xs) j 0) (sym (because v i n))
      go v low n (no i) j k =
          freed_away ys out v (λ y m e. i (subst (λ (u : ℕ). T (has S u)) e (leaves_in arcs l y m).0)) j k ∙ t.says v low i j k
