-- The table stands behind the map in one room: what is left of both when the table, lent by itself, comes back.
-- Assumes nothing.
use mathlib.Core.Bool.{Bool}
use mathlib.Core.List.{List, ◌++◌}
use mathlib.Core.Path.{◌≡◌, sym, ap, ◌∙◌}
use Prim.Native.Nat.{ℕ, ◌+◌, ◌-◌, ◌*◌, ◌≤◌, ◌<◌}
use native.Mathlib.Omega.{arith}
use lib.ListN.{length, get_or, take, drop, length-drop, take-append-drop}
use lib.Seq.{take_at, drop_at, take-append-le, drop-append-le, length-take-le}
use borrow.Rule.Slice.PartMut.{put_mid, same_len_mid, take_put, post_of}
use Rattle.graph.specs.Calls.{room_spiderize}
use Rattle.graph.specs.Graph.{largest}
use Rattle.le.specs.Le.{number, number_at, words}
use Rattle.le.proofs.Places.{get_d_words}
use Rattle.links.specs.Links.{cells, cell_count, Heads}
use Rattle.copying.specs.Merged.{table_at, table_of, Lists}

-- the room when the table is back
abbrev pub back : List ℕ → List ℕ → List ℕ
back room table = put_mid table_at (length room - table_at) room table

-- a number that stands in front
ahead : (xs ys : List ℕ) (p : ℕ) → p + 4 ≤ length xs → number_at 4 (xs ++ ys) p ≡ number_at 4 xs p
ahead xs ys p h =
    let l : 4 ≤ length (drop p xs) = omega (arith, length-drop p xs) in
    let m : p ≤ length xs = omega arith in
    ap (λ (l : List ℕ). number (take 4 l)) (drop-append-le p xs ys m) ∙ ap number (take-append-le 4 (drop p xs) ys l)

-- words before the table
pub words_same : (room new : List ℕ) → length new ≡ length room → table_at ≤ length room → take table_at new ≡ take table_at room → (v : ℕ) → v < largest.most.nodes
    → get_or (words new) v 0 ≡ get_or (words room) v 0
words_same room new long enough same v l =
    let short : (xs : List ℕ) → table_at ≤ length xs → number_at 4 xs (4 * v) ≡ number_at 4 (take table_at xs) (4 * v) =
    λ xs h. ap (λ (s : List ℕ). number_at 4 s (4 * v)) (sym (take-append-drop table_at xs)) ∙ ahead (take table_at xs) (drop table_at xs) (4 * v) (omega (arith, length-take-le table_at xs h)) in
    get_d_words new v (omega arith) ∙ short new (omega arith) ∙ ap (λ (s : List ℕ). number_at 4 s (4 * v)) same ∙ sym (short room enough) ∙ sym (get_d_words room v (omega arith))

module _ (room table : List ℕ) (enough : table_at ≤ length room) (long : length table ≡ length (table_of room)) where
  pub back_long : length (back room table) ≡ length room
  back_long = same_len_mid table_at (length room - table_at) room table long

  pub back_table : table_of (back room table) ≡ table
  back_table =
      let k = length room - table_at in
      let front = length-take-le table_at room enough in
      let rest = post_of table_at k room in
      let n : length table ≡ k = long ∙ length-take-le k (drop table_at room) (omega (arith, length-drop table_at room)) in
      ap (λ (m : ℕ). take (m - table_at) (drop table_at (back room table))) back_long
      ∙ ap (take k) (drop_at (take table_at room) (table ++ rest) table_at front) ∙ take_at table rest k n

  pub back_map : (v : ℕ) → v < largest.most.nodes → get_or (words (back room table)) v 0 ≡ get_or (words room) v 0
  back_map = words_same room (back room table) back_long enough (take_put table_at (length room - table_at) room table enough)

  pub listed_behind : (nodes : ℕ) (listed : ℕ → Bool) → Heads nodes (cells table) listed → Lists nodes room listed (back room table)
  listed_behind nodes listed h = record { heads = rw back_table h; map = back_map }

pub heads_behind : (room : List ℕ) → room_spiderize ≤ length room → (nodes : ℕ) → nodes ≤ largest.most.nodes → nodes * 4 ≤ cell_count (table_of room)
heads_behind room h nodes few = omega (arith, length-take-le (length room - table_at) (drop table_at room) (omega (arith, length-drop table_at room)))
