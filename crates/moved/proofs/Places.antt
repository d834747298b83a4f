-- The places in the map: the highest number, of one of the nodes. And the map, as it is written and read back.
-- Assumes nothing.
use mathlib.Core.Bool.{Bool, true, false, cond}
use mathlib.Core.List.{List, [], ◌∷◌, ◌++◌, map, map-append}
use mathlib.Core.Path.{◌≡◌, refl, sym, ap, ◌∙◌, subst}
use Prim.Native.Nat.{ℕ, ◌+◌, ◌-◌, ◌^◌, ◌≤◌, ◌<◌, zero, suc}
use native.Mathlib.Nat.{zero-add, add-zero, not-suc-le-zero, le_of_suc-le-suc}
use native.Mathlib.Omega.{arith}
use lib.Dec.{ltb}
use lib.ListN.{length, get_or, drop, length-map}
use lib.Seq.{sets}
use borrow.Author.Tests.{lt-ltb, ltb-true, eq-eqb, ne_eqb, ltb-false}
use Rattle.le.specs.Rows.{entry, place_in, puts, Holds}
use Rattle.form.specs.declared.Sizes.{Sizes}
use Rattle.moved.specs.Places.{map_of, gone_in, places_of, Mapped}
use Rattle.graph.specs.Lists.{range}
use Rattle.le.specs.Le.{row, Below, number_at}
use Rattle.le.proofs.Numbers.{length_row, below_each, number_at_lem}
use Rattle.le.proofs.Rows.{holds_same, length_puts}
use Rattle.graph.specs.Delete.{new_id}
use Rattle.graph.proofs.Lists.{range_add, length_range}
use Rattle.write.proofs.Grows.{Grows}
use Rattle.form.specs.Form.{Low}
use Rattle.graph.proofs.Kept.{new_id_le}
use Rattle.le.proofs.Stores.{sets_front}

module _ (z : Sizes) (table : List ℕ) (id : ℕ) (less : id < z.nodes) where
  pub placed : (entry table (map_of z) id ≡ 256 ^ z.width - 1 → ⊥) → gone_in z table id ≡ false
  unfolding gone_in
  placed h = rw (lt-ltb id z.nodes less, ne_eqb (entry table (map_of z) id) (256 ^ z.width - 1) h)

  pub unplaced : entry table (map_of z) id ≡ 256 ^ z.width - 1 → gone_in z table id ≡ true
  unfolding gone_in
  unplaced e = rw (lt-ltb id z.nodes less, eq-eqb (entry table (map_of z) id) (256 ^ z.width - 1) e)

-- ---- the map as it is written

module _ (goes : ℕ → Bool) where
  pub places_grow : (w n : ℕ) → Grows (places_of w goes) (λ i. cond (goes i) (256 ^ w - 1) (new_id goes i) ∷ []) n
  places_grow w n = record {
    more = λ i l.
        let at : ℕ → ℕ = λ id. cond (goes id) (256 ^ w - 1) (new_id goes id) in
        ap (map at) (range_add 0 i 1) ∙ map-append at (range 0 i) (range (0 + i) 1) ∙ ap (λ (n : ℕ). map at (range 0 i) ++ (at n ∷ [])) (zero-add i);
  }

-- ---- the map, read back

places_at : (at : ℕ → ℕ) (from n i : ℕ) → i < n → get_or (map at (range from n)) i 0 ≡ at (from + i)
places_at at from zero i h = absurd (not-suc-le-zero h)
places_at at from (suc n) zero h = ap at (sym (add-zero from))
places_at at from (suc n) (suc i) h =
    let q : suc from + i ≡ from + suc i = omega arith in
    places_at at (suc from) n i (le_of_suc-le-suc h) ∙ ap at q

module _ (z : Sizes) (goes : ℕ → Bool) (old : List ℕ) (room : Holds old (map_of z) z.nodes) (small : z.nodes < 256 ^ z.width) where
  abbrev place : ℕ → ℕ
  place id = cond (goes id) (256 ^ z.width - 1) (new_id goes id)

  abbrev table : List ℕ
  table = puts old (map_of z) 0 (places_of z.width goes z.nodes)

  new_low : (i : ℕ) → i < z.nodes → new_id goes i < 256 ^ z.width - 1
  new_low i l = omega (arith, new_id_le goes i)

  place_there : (i : ℕ) → i < z.nodes → entry table (map_of z) i ≡ place i
  unfolding entry puts
  place_there i l =
      let w = z.width in
      let ns = places_of w goes z.nodes in
      let many : length ns ≡ z.nodes = length-map (range 0 z.nodes) place ∙ length_range 0 z.nodes in
      let rest = drop (length (row w ns)) old in
      let start : place_in (map_of z) 0 ≡ 0 = omega arith in
      let front : sets old (place_in (map_of z) 0) (row w ns) ≡ row w ns ++ rest =
      ap (λ (k : ℕ). sets old k (row w ns)) start ∙ sets_front old (row w ns) (rw (length_row w ns, many) (omega (arith, room.inside))) in
      let each : (k : ℕ) → k < z.nodes → get_or ns k 0 ≡ place k = λ k m. places_at place 0 z.nodes k m ∙ ap place (zero-add k) in
      let below : Below (256 ^ w) ns = below_each (256 ^ w) ns (λ k m. rw (each k (omega arith)) (fits k (goes k) (omega arith))) in
      ap (λ (b : List ℕ). number_at w b (place_in (map_of z) i)) front ∙ number_at_lem w i [] ns rest below (omega arith) ∙ each i l
    where
      fits : (k : ℕ) (c : Bool) → k < z.nodes → cond c (256 ^ z.width - 1) (new_id goes k) < 256 ^ z.width
      fits k true m = omega arith
      fits k false m = omega (arith, new_low k m)

  -- new ids are below the highest number: so the map tells which nodes go
  tells : ((i : ℕ) → z.nodes ≤ i → goes i ≡ false) → goes ≡ gone_in z table
  unfolding gone_in
  tells outside = λ k i. pick i (ltb i z.nodes) refl (goes i) refl k
    where
      pick : (i : ℕ) (c : Bool) → ltb i z.nodes ≡ c → (d : Bool) → goes i ≡ d → goes i ≡ gone_in z table i
      pick i false e d g = outside i (ltb-false i z.nodes e) ∙ rw e
      pick i true e true g =
          let l = ltb-true i z.nodes e in
          g ∙ sym (unplaced z table i l (place_there i l ∙ ap (λ (c : Bool). cond c (256 ^ z.width - 1) (new_id goes i)) g))
      pick i true e false g =
          let l = ltb-true i z.nodes e in
          let at = place_there i l ∙ ap (λ (c : Bool). cond c (256 ^ z.width - 1) (new_id goes i)) g in
          g ∙ sym (placed z table i l (λ h. omega (arith, at, h, new_low i l)))

  pub map_made : Low z → ((i : ℕ) → z.nodes ≤ i → goes i ≡ false) → {new : List ℕ} → new ≡ table → Mapped z new × (goes ≡ gone_in z new)
  map_made low outside {new} is =
      let same = tells outside in
      subst (λ (t : List ℕ). Mapped z t × (goes ≡ gone_in z t)) (sym is) (
        record {
          low = low;
          held = holds_same room table (length_puts old (map_of z) 0 (places_of z.width goes z.nodes));
          new = subst (λ (gone : ℕ → Bool). (i : ℕ) → i < z.nodes → gone i ≡ false → entry table (map_of z) i ≡ new_id gone i) same
              (λ i l g. place_there i l ∙ ap (λ (c : Bool). cond c (256 ^ z.width - 1) (new_id goes i)) g);
        },
        same,
      )
