-- Rewriting: what is accepted comes back byte for byte, of the call's definition and for one who calls `ohg_rewrite`.
-- Assumes nothing.
use mathlib.Core.List.{List}
use mathlib.Core.Path.{◌≡◌, refl, sym, ap, ◌∙◌}
use Prim.Native.Nat.{ℕ, ◌≤◌}
use native.Mathlib.Omega.{arith}
use lib.ListN.{length, take, drop}
use lib.Seq.{take_at}
use borrow.Author.Tests.{le-leb}
use Rattle.le.specs.Le.{Below}
use Rattle.graph.specs.Answer.{Answer, refused, answered, Result, writing, laid, ◌else◌, ◌>>◌}
use Rattle.graph.specs.Calls.{Next, fit, made, on_graph, rewrite_step, rewrite_call}
use Rattle.graph.specs.Versions.{StoredGraph, read, store}
use Rattle.graph.proofs.Steps.{goes, came, passed, same_answer}
use Rattle.graph.proofs.Versions.{read_store}
use Rattle.packing.specs.Packed.{packed, Returns, Ranged}
use Rattle.packing.specs.Unpacked.{code_in, a_in}
use Rattle.ohg.proofs.Ranges.{rewrite_ranged}
use Rattle.packing.proofs.Unpacked.{code_of_packed, a_of_packed}

fits : (room : ℕ) (b : List ℕ) → length b ≤ room → fit room b ≡ answered b
unfolding fit ◌else◌ ◌>>◌
fits room b l = rw (le-leb (length b) room l)

-- accepted bytes, with room for them, are the answer
pub rewrite_same : (b : List ℕ) (s : StoredGraph) → Below 256 b → read b ≡ answered s → (room : ℕ) → length b ≤ room → rewrite_call b room ≡ answered (writing b 0)
unfolding on_graph rewrite_step made
rewrite_same b s t e room l = goes _ e ∙ goes _ refl ∙ goes _ (read_store b s t e) ∙ goes _ (fits room b l)

-- an answer is those bytes
same_bytes : (b : List ℕ) → Below 256 b → (room : ℕ) (x : Result) → rewrite_call b room ≡ answered x → (x.a ≡ length b) × (x.bytes ≡ b)
unfolding on_graph rewrite_step made fit
same_bytes b t room x e =
    let p = came (read b) _ e in
    let next : Next = record { graph = p.0.graph; id = 0 } in
    let q : made room next ≡ answered x = sym (goes (made room) refl) ∙ p.2 in
    let form = came (store p.0.graph) _ q in
    let held = came (fit room form.0) _ form.2 in
    let whole : held.0 ≡ b = sym (same_answer (passed _ _ _ held.1).1) ∙ same_answer (sym form.1 ∙ read_store b p.0 t p.1) in
    let is : writing held.0 0 ≡ x = same_answer held.2 in
    (sym (ap (λ (y : Result). y.a) is) ∙ ap length whole, sym (ap (λ (y : Result). y.bytes) is) ∙ whole)

pub rewritten_for_the_caller : (b : List ℕ) → Below 256 b → (r : ℕ) (old new : List ℕ) → Returns (rewrite_call b (length old)) r old new → code_in r ≡ 0 → (a_in r ≡ length b) × (take (a_in r) new ≡ b)
rewritten_for_the_caller b t r old new h z = go (rewrite_call b (length old)) refl (rewrite_ranged b t (length old)) h.number h.buffer
  where
    go : (a : Answer Result) → rewrite_call b (length old) ≡ a → Ranged a → r ≡ packed a → new ≡ laid a old → (a_in r ≡ length b) × (take (a_in r) new ≡ b)
    go (refused q) e k n f = absurd (omega (arith, code_of_packed (refused q) k n, (k.no q refl).0))
    go (answered x) e k n f =
        let s = same_bytes b t (length old) x e in
        let long : length x.bytes ≡ a_in r = ap length s.1 ∙ sym s.0 ∙ sym (a_of_packed (answered x) k n) in
        (sym long ∙ ap length s.1, ap (take (a_in r)) f ∙ take_at x.bytes (drop (length x.bytes) old) (a_in r) long ∙ s.1)
