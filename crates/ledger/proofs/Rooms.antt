-- Rows of a room, 4 bytes a number, are its words; and ports stored one after the other.
-- Assumes nothing.
use mathlib.Core.List.{List, [], ◌∷◌, ◌++◌}
use mathlib.Core.Path.{◌≡◌, refl, sym, ap, ◌∙◌}
use Prim.Native.Nat.{ℕ, suc, ◌+◌, ◌*◌, ◌^◌, ◌≤◌, ◌<◌}
use native.Mathlib.Omega.{arith}
use lib.ListN.{length, get_or, length-map}
use lib.Seq.{sets, length-sets, ext_get_or}
use Rattle.le.specs.Le.{Below, bytes, row, number_at, words}
use Rattle.le.specs.Rows.{row_at, entry, span, puts}
use Rattle.le.proofs.Numbers.{length_bytes}
use Rattle.le.proofs.Places.{get_d_words, set_words}
use Rattle.le.proofs.Rows.{length_span, span_at}
use Rattle.le.proofs.Stores.{sets_append}
use Rattle.graph.specs.Lists.{flat}
use Rattle.graph.proofs.Lists.{flat_append}
use Rattle.graph.proofs.WriteRead.{length_flat}
use Rattle.ledger.specs.Ledger.{words_in, ports_of}
use Rattle.ledger.proofs.Words.{length_words_in, words_at}

words_row : (b : List ℕ) (off : ℕ) (ns : List ℕ) → 4 * (off + length ns) ≤ length b → Below (2 ^ 32) ns → words (sets b (4 * off) (row 4 ns)) ≡ sets (words b) off ns
words_row b off [] h t = refl
words_row b off (x ∷ ns) h t =
    let c = sets b (4 * off) (bytes 4 x) in
    let at : 4 * off + length (bytes 4 x) ≡ 4 * suc off = omega (arith, length_bytes 4 x) in
    ap words (sets_append b (4 * off) (bytes 4 x) (row 4 ns) ∙ ap (λ (i : ℕ). sets c i (row 4 ns)) at)
    ∙ words_row c (suc off) ns (omega (arith, length-sets b (4 * off) (bytes 4 x))) t.1
    ∙ ap (λ (W : List ℕ). sets W (suc off) ns) (set_words b off x (omega arith) t.0)

-- numbers put into such a row
pub words_puts : (b : List ℕ) (off : ℕ) (ns : List ℕ) → 4 * (off + length ns) ≤ length b → Below (2 ^ 32) ns → words (puts b (row_at (4 * off) 4) 0 ns) ≡ sets (words b) off ns
unfolding puts
words_puts b off ns h t =
    let e : 4 * off + 0 * 4 ≡ 4 * off = omega arith in
    ap (λ (i : ℕ). words (sets b i (row 4 ns))) e ∙ words_row b off ns h t

-- and numbers read from it
pub words_span : (b : List ℕ) (off n : ℕ) → 4 * (off + n) ≤ length b → span b (row_at (4 * off) 4) 0 n ≡ words_in (words b) off n
words_span b off n h =
    ext_get_or 0 (span b (row_at (4 * off) 4) 0 n) (words_in (words b) off n) (length_span b (row_at (4 * off) 4) 0 n ∙ sym (length_words_in (words b) off n))
    (λ i l.
    let k : i < n = omega (arith, length_span b (row_at (4 * off) 4) 0 n) in
    span_at b (row_at (4 * off) 4) 0 n i k ∙ at i k ∙ sym (words_at (words b) off n i k))
  where
    at : (i : ℕ) → i < n → entry b (row_at (4 * off) 4) (0 + i) ≡ get_or (words b) (off + i) 0
    at i k = unfold entry in
        let e : 4 * off + (0 + i) * 4 ≡ 4 * (off + i) = omega arith in
        ap (number_at 4 b) e ∙ sym (get_d_words b (off + i) (omega arith))

-- one port more of a half
pub port_next : (W : List ℕ) (at half : ℕ) (ids : List ℕ) (x : ℕ) → sets (sets W at (flat (ports_of half ids))) (at + 2 * length ids) (half ∷ x ∷ []) ≡ sets W at (flat (ports_of half (ids ++ (x ∷ []))))
port_next W at half ids x =
    let long : at + 2 * length ids ≡ at + length (flat (ports_of half ids)) = omega (arith, length_flat (ports_of half ids), length-map {B = ℕ × ℕ} ids (λ id. (half, id))) in
    ap (λ (i : ℕ). sets (sets W at (flat (ports_of half ids))) i (half ∷ x ∷ [])) long ∙ sym (sets_append W at (flat (ports_of half ids)) (half ∷ x ∷ []))
    ∙ ap (sets W at) (sym (ap flat (map_append ids) ∙ flat_append (ports_of half ids) ((half, x) ∷ [])))
  where
    map_append : (l : List ℕ) → ports_of half (l ++ (x ∷ [])) ≡ ports_of half l ++ ((half, x) ∷ [])
    map_append [] = refl
    map_append (y ∷ l) = ap (λ (r : List (ℕ × ℕ)). (half, y) ∷ r) (map_append l)

-- ports of another half behind those of one
pub ports_then : (W : List ℕ) (at half other : ℕ) (a b : List ℕ) (n : ℕ) → length a ≡ n
    → sets (sets W at (flat (ports_of half a))) (at + 2 * n) (flat (ports_of other b)) ≡ sets W at (flat (ports_of half a ++ ports_of other b))
ports_then W at half other a b n e =
    let long : at + 2 * n ≡ at + length (flat (ports_of half a)) = omega (arith, e, length_flat (ports_of half a), length-map {B = ℕ × ℕ} a (λ id. (half, id))) in
    ap (λ (i : ℕ). sets (sets W at (flat (ports_of half a))) i (flat (ports_of other b))) long
    ∙ sym (sets_append W at (flat (ports_of half a)) (flat (ports_of other b))) ∙ ap (sets W at) (sym (flat_append (ports_of half a) (ports_of other b)))
