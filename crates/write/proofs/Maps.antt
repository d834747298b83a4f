-- The ways out of a call that writes a graph and then a map.
-- Assumes nothing.
use mathlib.Core.List.{List}
use mathlib.Core.Path.{◌≡◌, sym, ap, ◌∙◌}
use Prim.Native.Nat.{ℕ}
use lib.Dec.{leb}
use lib.ListN.{length}
use Rattle.graph.specs.Answer as answer
use Rattle.graph.specs.Answer.{Answer, refused, answered, Result, writing, ◌else◌, ◌>>=◌, ◌>>◌, refusal}
use Rattle.graph.specs.Calls.{fit, made}
use Rattle.graph.specs.Form.{encode}
use Rattle.graph.specs.Graph.{Graph}
use Rattle.graph.specs.Versions.{store, fitting}
use Rattle.graph.proofs.Steps.{never, same_answer, same_refusal, came, stops, goes}
use Rattle.form.specs.Form.{tested}
use Rattle.form.proofs.Answers.{refused_so, answered_so}
use Rattle.write.proofs.Calls.{next}

-- two steps that are also another call's
module _ {A B C D : Type 0} (m : Answer A) (next : A → Answer B) (f : B → C) (then : B → Answer D) where
  two_stop : (r : answer.Refusal) → (m >>= λ a. next a >>= λ b. answered (f b)) ≡ refused r → (m >>= λ a. next a >>= then) ≡ refused r
  unfolding ◌>>=◌
  two_stop r e = outer m e
    where
      inner : (k : Answer B) → (k >>= λ b. answered (f b)) ≡ refused r → (k >>= then) ≡ refused r
      inner (refused x) e = ap refused (same_refusal e)
      inner (answered b) e = absurd (never (sym e))

      outer : (k : Answer A) → (k >>= λ a. next a >>= λ b. answered (f b)) ≡ refused r → (k >>= λ a. next a >>= then) ≡ refused r
      outer (refused x) e = ap refused (same_refusal e)
      outer (answered a) e = inner (next a) e

  two_go : (c : C) → (m >>= λ a. next a >>= λ b. answered (f b)) ≡ answered c → (b : B) × (f b ≡ c) × ((m >>= λ a. next a >>= then) ≡ then b)
  two_go c e =
      let p = came m (λ a. next a >>= λ b. answered (f b)) e in
      let q = came (next p.0) (λ b. answered (f b)) p.2 in
      (q.0, same_answer q.2, goes (λ a. next a >>= then) p.1 ∙ goes then q.1)

fit_stop : (room : ℕ) (bytes : List ℕ) (r : answer.Refusal) → (leb (length bytes) room else refusal 10) ≡ refused r → fit room bytes ≡ refused r
unfolding fit ◌>>◌
fit_stop room bytes r e = rw e

fit_go : (room : ℕ) (bytes : List ℕ) (x : Unit {0}) → (leb (length bytes) room else refusal 10) ≡ answered x → fit room bytes ≡ answered bytes
unfolding fit ◌>>◌
fit_go room bytes x e = rw e

-- the graph within its room, and the map within its own
module _ (room map_room : ℕ) (graph : Graph) (map : List ℕ) (count : ℕ) where
  -- after the form, the map
  abbrev onward : List ℕ → Answer Result
  onward form = fit map_room map >>= λ map. answered (record { a = length form; b = count; bytes = form; map = map })

  abbrev pub with_map : Answer Result
  with_map = store graph >>= λ form. fit room form >>= onward

  pub map_refused : (r : answer.Refusal) → made room (next graph 0) ≡ refused r → with_map ≡ refused r
  unfolding made
  map_refused r e = two_stop (store graph) (fit room) (λ (form : List ℕ). writing form 0) onward r e

  abbrev form : List ℕ
  form = encode (fitting graph) graph

  module _ (makes : made room (next graph 0) ≡ answered (writing form 0)) {n : ℕ} (long : length map ≡ n) where
    formed : with_map ≡ onward form
    unfolding made
    formed =
        let t = two_go (store graph) (fit room) (λ (form : List ℕ). writing form 0) onward (writing form 0) makes in
        t.2 ∙ ap onward (ap (λ (m : Result). m.bytes) t.1)

    pub map_short : (r : answer.Refusal) → refused r ≡ tested (leb n map_room else refusal 10) → with_map ≡ refused r
    map_short r e = formed ∙ stops _ (fit_stop map_room map r (ap (λ (n : ℕ). leb n map_room else refusal 10) long ∙ refused_so _ (leb n map_room else refusal 10) r e))

    pub map_fits : answered tt ≡ tested (leb n map_room else refusal 10) → with_map ≡ answered (record { a = length form; b = count; bytes = form; map = map })
    map_fits e =
        let t = answered_so _ (leb n map_room else refusal 10) tt e in
        formed ∙ goes _ (fit_go map_room map t.0 (ap (λ (n : ℕ). leb n map_room else refusal 10) long ∙ t.1))
