-- `rewriting::rewrite_entry` meets its contract.
-- Assumes nothing.
use mathlib.Core.Bool.{true, false}
use mathlib.Core.List.{[], ◌∷◌}
use mathlib.Core.Path.{◌≡◌, sym, ap, ◌∙◌, subst}
use Prim.Native.Nat.{ℕ, ◌+◌, ◌<◌}
use native.Mathlib.Nat.{zero-add}
use lib.ListN.{get_or}
use Rattle.form.specs.Form.{labels_of, body_of}
use Rattle.graph.specs.Spider.{after}
use Rattle.le.specs.Le.{Below}
use Rattle.le.specs.Rows.{entry, puts}
use Rattle.le.proofs.Numbers.{below_each}
use Rattle.le.proofs.Rows.{span_at}
use Rattle.links.specs.Links.{cells, is_listed, cell_of}
use Rattle.links.proofs.Cells.{length_cells}
use Rattle.rewriting.specs.Rewriting.{ids_at, labels_in, Numbered}
use Rattle.le.proofs.InPlace.{puts_there}
use Rattle.rewriting.proofs.Lists.{entry_is, entry_known}
use Rattle.rewriting.proofs.Passes.{kind_low, pass_plain, pass_fresh}
use native.Mathlib.Omega.{arith}
use Rattle.rewriting.proofs.rewrite_entry.Goals as goal
use Rattle.rewriting.proofs.rewrite_entry.Goals.{After-listed}

known : (c : After-listed) → c.number-id.result < c.args.nodes
known c = let a = c.args in entry_known a.out.now a.y a.k _ c.body_row-row.ensures c.number-id.result c.number-id.ensures.0 c.requires.ids

-- the entry that was read
read : (c : After-listed) → ids_at c.args.out.now c.args.y c.args.k 1 ≡ c.number-id.result ∷ []
read c = let a = c.args in entry_is a.out.now a.y a.k _ c.body_row-row.ensures c.number-id.result c.number-id.ensures.0

is_listed_lem : (c : After-listed) → c.listed.result ≡ true → is_listed c.args.nodes (cells c.args.room.now) c.number-id.result ≡ true
is_listed_lem c e = sym (c.listed.ensures c.args.nodes (known c)) ∙ e

-- room for one fresh node
numbered : (c : After-listed) → c.listed.result ≡ true → Numbered c.args.nodes c.args.y.nodes c.args.next (c.args.next + 1) c.args.room.now
numbered c e = let a = c.args in
    let m = is_listed a.nodes (cells a.room.now) in
    let one : after m a.next (ids_at a.out.now a.y a.k 1) ≡ a.next + 1 = ap (after m a.next) (read c) ∙ rw (is_listed_lem c e) in
    subst (λ (n : ℕ). Numbered a.nodes a.y.nodes a.next n a.room.now) one c.requires.numbered

pub listed-requires : goal.listed-requires
listed-requires c =
    let a = c.args in
    let k = entry_known a.out.now a.y a.k _ c.body_row-row.ensures c.number-id.result c.number-id.ensures.0 c.requires.ids in
    let h = c.requires.numbered.heads in omega arith

-- it is not listed: what stands there stays
pub returns-then-not-listed : goal.returns-then-not-listed
returns-then-not-listed c =
    let a = c.args in
    let x = c.number-id.result in
    let W = cells a.room.now in
    let e : is_listed a.nodes W x ≡ false = sym (c.listed.ensures a.nodes (known (goal.at.returns-then-not-listed c).After-listed)) ∙ c.if-not-listed.true in
    let bytes : Below 256 a.out.now = below_each 256 a.out.now (λ i l. omega (arith, c.slice_known-2-1.given i)) in
    let there : puts a.out.now (body_of a.y) a.k (x ∷ []) ≡ a.out.now = ap (puts a.out.now (body_of a.y) a.k) (sym (read (goal.at.returns-then-not-listed c).After-listed)) ∙ puts_there a.out.now (body_of a.y) a.k 1 bytes c.requires.ids.held in
    rw (read (goal.at.returns-then-not-listed c).After-listed)
    (pass_plain a.nodes (cell_of a.kind) a.next x W (labels_in a.out.now a.y a.nodes) a.y (omega (arith, c.requires.numbered.labels)) a.out.now _ a.k e (sym there))

pub link-requires : goal.link-requires
link-requires c = let n = numbered (goal.at.link-requires c).After-listed c.if-not-listed.false in (known (goal.at.link-requires c).After-listed, n.from, omega (arith, n.few), omega (arith, n.links))

pub put_label-requires : goal.put_label-requires
put_label-requires c = let n = numbered (goal.at.put_label-requires c).After-listed c.if-not-listed.false in (c.requires.buffer, omega (arith, known (goal.at.put_label-requires c).After-listed, n.from, n.labels), omega (arith, n.labels))

pub returns : goal.returns
returns c =
    let a = c.args in
    let n = numbered (goal.at.returns c).After-listed c.if-not-listed.false in
    let x = c.number-id.result in
    let o = a.out.now in
    let label : entry o (labels_of a.y) x ≡ get_or (labels_in o a.y a.nodes) x 0 = sym (span_at o (labels_of a.y) 0 a.nodes x (known (goal.at.returns c).After-listed) ∙ ap (entry o (labels_of a.y)) (zero-add x)) in
    rw (read (goal.at.returns c).After-listed)
    (pass_fresh a.nodes (cell_of a.kind) a.next x (cells a.room.now) (labels_in o a.y a.nodes) a.y (omega (arith, n.labels)) o _ a.k (is_listed_lem (goal.at.returns c).After-listed c.if-not-listed.false) (known (goal.at.returns c).After-listed) (kind_low a.kind) n.from
    (omega (arith, n.few)) (omega (arith, n.links, length_cells a.room.now)) (omega (arith, n.labels)) _ c.link.ensures
    (c.put_number.ensures ∙ (λ i. puts ((c.put_label.ensures ∙ ap (λ (l : ℕ). puts o (labels_of a.y) a.next (l ∷ [])) label) i) (c.body_row-row.ensures i) a.k (a.next ∷ []))))
