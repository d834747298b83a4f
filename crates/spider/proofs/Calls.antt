-- The two calls: what is known once their checks are passed, and that the table lists what the call lists.
-- Assumes nothing.
use mathlib.Core.Bool.{Bool, true, false, cond}
use mathlib.Core.List.{List, [], ◌∷◌}
use mathlib.Core.Path.{◌≡◌, refl, sym, ap, ◌∙◌}
use Prim.Native.Nat.{ℕ, zero, suc, ◌+◌, ◌*◌, ◌≤◌, ◌<◌}
use native.Mathlib.Omega.{arith}
use lib.Dec.{eqb}
use lib.ListN.{length}
use borrow.Author.Tests.{eqb-false, ne_eqb}
use Rattle.std.specs.Borrow.{Bor}
use Rattle.std.specs.Prelude.{Result as Returned}
use Rattle.form.specs.Form.{Gives}
use Rattle.form.specs.Drawn.{graph_in}
use Rattle.form.specs.Stored.{format_of}
use Rattle.form.specs.declared.Done.{Done}
use Rattle.form.specs.declared.Drawing.{Drawing}
use Rattle.form.specs.declared.Refusal.{Refusal}
use Rattle.form.specs.declared.Sizes.{Sizes}
use Rattle.form.proofs.Drawn.{stored_in, at_source}
use Rattle.graph.specs.Answer as answer
use Rattle.graph.specs.Answer.{Answer, refused}
use Rattle.graph.specs.Calls.{Next, on_graph, room_spiderize}
use Rattle.graph.specs.Graph.{Graph, Format}
use Rattle.write.proofs.Calls.{graph_stopped}
use Rattle.graph.specs.Lists.{among, member, range}
use Rattle.graph.proofs.Kept.{below_range}
use Rattle.le.specs.Le.{Below}
use Rattle.links.specs.Links.{unlisted, is_listed, Heads, Linked}
use Rattle.links.proofs.Cells.{listing}
use Rattle.links.proofs.Chains.{heads_linked}

-- the room has a word for each node
pub words_enough : (d : Drawing) {lent : ℕ} → room_spiderize ≤ lent → 4 * d.sizes.nodes ≤ lent
words_enough d h = let s = stored_in d in omega (arith, s.within.counts.nodes, ap (λ (y : Sizes). y.nodes) s.sizes)

-- what is told of the bytes that were read is told of those that were lent
module _ (d : Drawing) {s : Bor (List ℕ)} (is : d.src ≡ s) (next : Format → Graph → Answer Next) where
  pub stopped : (n : ℕ) {r : answer.Refusal} → next (format_of d.src.now) (graph_in d) ≡ refused r → on_graph s.now n next ≡ refused r
  stopped n {r} e = at_source (λ b. on_graph b n next ≡ refused r) is (graph_stopped d.src.now next n (stored_in d) e)

  pub given : {r : Returned Done Refusal} {old new : List ℕ} → Gives (on_graph d.src.now (length old) next) r old new → Gives (on_graph s.now (length old) next) r old new
  given {r} {old} {new} h = at_source (λ b. Gives (on_graph b (length old) next) r old new) is h

-- ---- the table lists what the call lists

among_out : (n : ℕ) (xs : List ℕ) → Below n xs → (x : ℕ) → n ≤ x → among xs x ≡ false
among_out n [] h x l = refl
among_out n (y ∷ ys) h x l = rw (ne_eqb x y (λ e. omega (arith, h.0))) (among_out n ys h.1 x l)

pub listed_ids : (nodes : ℕ) (W xs : List ℕ) → Below nodes xs → Heads nodes W (among xs) → (is_listed nodes W ≡ among xs) × Linked nodes W nodes (λ k x. [])
listed_ids nodes W xs below h =
    let same : (x : ℕ) → is_listed nodes W x ≡ among xs x = listing nodes W (among xs) h (among_out nodes xs below) in
    (λ i x. same x i, heads_linked nodes W (among xs) nodes h (λ x l. same x))

in_range : (x from n : ℕ) → from ≤ x → x < from + n → member x (range from n) ≡ true
in_range x from zero l h = absurd (omega arith)
in_range x from (suc n) l h = go (eqb x from) refl (λ q. in_range x (suc from) n q (omega arith))
  where
    go : (c : Bool) → eqb x from ≡ c → (suc from ≤ x → member x (range (suc from) n) ≡ true) → member x (range from (suc n)) ≡ true
    go true e ih = rw e
    go false e ih = let p = eqb-false x from e in rw e (ih (omega arith))

pub listed_all : (nodes : ℕ) (W : List ℕ) → Heads nodes W (λ x. true) → (is_listed nodes W ≡ among (range 0 nodes)) × Linked nodes W nodes (λ k x. [])
listed_all nodes W h =
    listed_ids nodes W (range 0 nodes) (below_range nodes 0 nodes (omega arith))
    (record { each = λ x k l l'. h.each x k l l' ∙ ap (λ (c : Bool). cond c 0 unlisted) (sym (in_range x 0 nodes (omega arith) (omega arith))) })
