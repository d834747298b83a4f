-- What a caller knows where the code is 0: the call's answer, its numbers and the bytes in the buffer; and which graph bytes are that are read.
-- Assumes nothing.
use mathlib.Core.Path.{◌≡◌, refl, sym, ap, ◌∙◌, subst}
use mathlib.Core.List.{List, ◌++◌}
use Prim.Native.Nat.{ℕ}
use native.Mathlib.Omega.{arith}
use lib.ListN.{length, take, drop}
use lib.Seq.{take_at, drop_at}
use Rattle.le.specs.Le.{Below}
use Rattle.graph.specs.Answer.{Answer, refused, answered, Result}
use Rattle.graph.specs.Form.{encode}
use Rattle.graph.specs.Graph.{Format, WellFormed}
use Rattle.graph.specs.Versions.{StoredGraph, fitting, read}
use Rattle.graph.proofs.Versions.{read_sound}
use Rattle.packing.specs.Packed.{packed, Ranged}
use Rattle.packing.specs.Unpacked.{code_in, a_in, b_in}
use Rattle.packing.specs.Caller.{Draws}
use Rattle.packing.proofs.Unpacked.{code_of_packed, a_of_packed, b_of_packed}

-- a code of 0 is an answer, and a and b are its numbers
pub answer_of_lem : (x : Answer Result) {r : ℕ} → Ranged x → r ≡ packed x → code_in r ≡ 0 → (y : Result) × (x ≡ answered y) × (a_in r ≡ y.a) × (b_in r ≡ y.b)
answer_of_lem (refused q) h e code = absurd (omega (arith, code_of_packed (refused q) h e, (h.no q refl).0))
answer_of_lem (answered y) h e code = (y, refl, a_of_packed (answered y) h e, b_of_packed (answered y) h e)

-- bytes that are read are a graph
pub draws : (b : List ℕ) → Below 256 b → (s : StoredGraph) → read b ≡ answered s → Draws b s.graph
draws b t s p =
    let h = read_sound b s t p in
    let f : s.format ≡ fitting s.graph = sym h.fits in
    record {
      stored = p ∙ (λ i. answered (record { format = f i; graph = s.graph }));
      written = ap (λ (k : Format). encode k s.graph) h.fits ∙ h.whole;
      formed = subst (λ (k : Format). WellFormed k s.graph) f h.formed;
    }

-- an answer buffer: its front is the answer, and what is behind it stays
module _ (bytes old new : List ℕ) (n : ℕ) (buffer : new ≡ bytes ++ drop (length bytes) old) (long : length bytes ≡ n) where
  pub front : take n new ≡ bytes
  front = ap (take n) buffer ∙ take_at bytes (drop (length bytes) old) n long

  pub kept : drop n new ≡ drop n old
  kept = ap (drop n) buffer ∙ drop_at bytes (drop (length bytes) old) n long ∙ ap (λ k. drop k old) long
