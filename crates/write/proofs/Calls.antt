-- The ways out of a call that writes a graph: from the value met in code to the call's outcome and buffer.
-- Assumes nothing.
use mathlib.Core.List.{List}
use mathlib.Core.Path.{◌≡◌, refl, sym, ◌∙◌, subst}
use Prim.Native.Nat.{ℕ, ◌≤◌}
use lib.ListN.{length}
use Rattle.graph.specs.Answer as answer
use Rattle.graph.specs.Answer.{Answer, refused, answered, Result, writing}
use Rattle.graph.specs.Calls.{Next, made, on_nothing, on_graph}
use Rattle.graph.specs.Form.{encode, label_row, body}
use Rattle.graph.specs.Graph.{Graph, Format}
use Rattle.graph.specs.Versions.{fitting, read}
use Rattle.graph.proofs.Verdicts.{call_unread, call_stopped, call_made, nothing_stopped, nothing_made}
use Rattle.form.specs.Form.{meant_by, sizes_of, Gives}
use Rattle.form.specs.Stored.{stored_of, graph_of, format_of, Stored}
use Rattle.form.specs.declared.Done.{Done}
use Rattle.form.specs.declared.Refusal.{Refusal}
use Rattle.form.specs.declared.Sizes.{Sizes}
use Rattle.form.proofs.Answers.{gives_refused, gives_done, gives_passed}
use Rattle.std.specs.Prelude.{Ok, Err}
use Rattle.std.specs.Prelude.{Result as Returned}
use Rattle.std.specs.Result.{IsErrAnd}
use Rattle.write.specs.Write.{result_size, drawn, Room}
use Rattle.write.proofs.Results.{Fits, result_refused, result_fits, fits_room, drawn_whole}

pub gives_by : {a b : Answer Result} {r : Returned Done Refusal} {old new : List ℕ} → a ≡ b → Gives b r old new → Gives a r old new
gives_by {r = r} {old = old} {new = new} e h = subst (λ (k : Answer Result). Gives k r old new) (sym e) h

-- ---- what is made of a step's graph, in any call that makes it

module _ (old : List ℕ) (a : Answer Result) (x : Next) (is : a ≡ made (length old) x) (y : Sizes) (sizes : y ≡ sizes_of (fitting x.graph) x.graph) where
  made_refused : {r : answer.Refusal} → refused r ≡ result_size y (length old) → a ≡ refused r
  made_refused {r} e = is ∙ result_refused x y sizes (length old) r (sym e)

  made_fits : (n : ℕ) → answered n ≡ result_size y (length old) → Fits x y (length old) n
  made_fits n e = result_fits x y sizes (length old) n (sym e)

  made_done : (n : ℕ) → answered n ≡ result_size y (length old) → (new : List ℕ) → new ≡ drawn old y (label_row x.graph) (body x.graph)
      → Gives a (Ok (record { a = n; b = x.id })) old new
  made_done n e new h =
      let f = made_fits n e in
      let form = encode (fitting x.graph) x.graph in
      subst (λ (k : ℕ). Gives a (Ok (record { a = k; b = x.id })) old new) (sym f.long)
      (gives_done (writing form x.id) old new (is ∙ f.makes) (h ∙ drawn_whole old x.graph y sizes (subst (λ (k : ℕ). k ≤ length old) f.long f.enough)))

-- ---- a call on a stored graph

module _ (b : List ℕ) (next : Format → Graph → Answer Next) (n : ℕ) where
  pub graph_unread : {r : answer.Refusal} → read b ≡ refused r → on_graph b n next ≡ refused r
  graph_unread {r} e = call_unread b n next r e

  pub graph_stopped : {z : Sizes} → Stored b z → {r : answer.Refusal} → next (format_of b) (graph_of b) ≡ refused r → on_graph b n next ≡ refused r
  graph_stopped s {r} e = call_stopped b n next (stored_of b) s.read_as r e

-- ---- a call without a graph

pub nothing_refused : (start : Answer Next) (n : ℕ) {r : answer.Refusal} → start ≡ refused r → on_nothing n start ≡ refused r
nothing_refused start n {r} e = nothing_stopped n start r e

-- ---- the end of a call

-- a step's graph and its id
abbrev pub next : Graph → ℕ → Next
next g id = record { graph = g; id = id }

-- after the answer to the size of its result h, of sizes y: refused, which is passed on; or there is room, and what was written is the result
pub record Ends (a : Answer Result) (old : List ℕ) (y : Sizes) (h : Graph) (id : ℕ) : Type 0 where
  pub refuses : (x : Refusal) {r : Returned Done Refusal} → refused (meant_by x) ≡ result_size y (length old) → IsErrAnd r (λ e. e ≡ x) → Gives a r old old
  pub room : {n : ℕ} → answered n ≡ result_size y (length old) → Room old y
  pub done : {n : ℕ} {new : List ℕ} → answered n ≡ result_size y (length old) → new ≡ drawn old y (label_row h) (body h) → Gives a (Ok (record { a = n; b = id })) old new

module _ (old : List ℕ) (h : Graph) (id : ℕ) {y : Sizes} (sizes : y ≡ sizes_of (fitting h) h) where
  pub ends : (a : Answer Result) → a ≡ made (length old) (next h id) → Ends a old y h id
  ends a is = record {
    refuses = λ x {r} e p. gives_passed x old p (made_refused old a (next h id) is y sizes e);
    room = λ {n} e. fits_room (made_fits old a (next h id) is y sizes n e) old refl;
    done = λ {n} {new} e w. made_done old a (next h id) is y sizes n e new w;
  }

  pub graph_ends : (b : List ℕ) (step : Format → Graph → Answer Next) {z : Sizes} → Stored b z → step (format_of b) (graph_of b) ≡ answered (next h id)
      → Ends (on_graph b (length old) step) old y h id
  graph_ends b step s is = ends (on_graph b (length old) step) (call_made b (length old) step (stored_of b) s.read_as (next h id) is)

  pub nothing_ends : (start : Answer Next) → start ≡ answered (next h id) → Ends (on_nothing (length old) start) old y h id
  nothing_ends start is = ends (on_nothing (length old) start) (nothing_made (length old) start (next h id) is)
