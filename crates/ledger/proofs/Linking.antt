-- The ports of each half linked, from the last of the log to the first; and walked, from the first to the last.
-- Assumes nothing.
use mathlib.Core.Bool.{Bool, true, false, cond}
use mathlib.Core.Logic.{inl}
use mathlib.Core.List.{List, [], ◌∷◌}
use mathlib.Core.Path.{◌≡◌, refl, sym, ap, ◌∙◌}
use Prim.Native.Nat.{ℕ, suc, ◌+◌, ◌*◌, ◌-◌, ◌≤◌, ◌<◌}
use native.Mathlib.Omega.{arith}
use lib.Dec.{eqb}
use lib.ListN.{length, get_or, set, drop, length-set}
use lib.Seq.{drop-cons, drop-length, get_or-set_same, get_or-set_other}
use borrow.Author.Tests.{eqb-true, eqb-false}
use Rattle.le.specs.Le.{Outside}
use Rattle.le.proofs.Frames.{outside_set, outside_trans}
use Rattle.graph.specs.Graph.{largest}
use Rattle.form.specs.declared.Sizes.{Sizes}
use Rattle.ledger.specs.Tables.{log_at, next_at, first_at, labels_at, room_words}
use Rattle.ledger.specs.Ledger.{log_in, nodes_at, port_from, linked_at, LinkedFrom}
use Rattle.ledger.proofs.Words.{length_pairs_in, pairs_before, pairs_at_lem}

-- ---- walking

-- no port of the half is left
pub walk_ends : (half i : ℕ) (log : List (ℕ × ℕ)) → 0 < i → port_from half i log ≡ 0 → nodes_at half log ≡ []
walk_ends half i [] h e = refl
walk_ends half i (p ∷ log) h e = go (eqb p.0 half) e (walk_ends half (suc i) log (omega arith))
  where
    go : (c : Bool) → cond c i (port_from half (suc i) log) ≡ 0 → (port_from half (suc i) log ≡ 0 → nodes_at half log ≡ []) → cond c (p.1 ∷ nodes_at half log) (nodes_at half log) ≡ []
    go true e ih = absurd (omega arith)
    go false e ih = ih e

-- port number q is the next: it is one of the half, and the others follow it
pub record Next (half i q : ℕ) (log : List (ℕ × ℕ)) : Type 0 where
  pub from : i ≤ q
  pub inside : q < i + length log
  pub half_there : (get_or log (q - i) (0, 0)).0 ≡ half
  pub nodes : nodes_at half log ≡ (get_or log (q - i) (0, 0)).1 ∷ nodes_at half (drop (suc (q - i)) log)

pub walk_on : (half i : ℕ) (log : List (ℕ × ℕ)) → (port_from half i log ≡ 0 → ⊥) → Next half i (port_from half i log) log
walk_on half i [] h = absurd (h refl)
walk_on half i (p ∷ log) h = go (eqb p.0 half) refl h (λ k. walk_on half (suc i) log k)
  where
    go : (c : Bool) → eqb p.0 half ≡ c → (cond c i (port_from half (suc i) log) ≡ 0 → ⊥) → ((port_from half (suc i) log ≡ 0 → ⊥) → Next half (suc i) (port_from half (suc i) log) log)
        → Next half i (cond c i (port_from half (suc i) log)) (p ∷ log)
    go true e h ih =
        let z : i - i ≡ 0 = omega arith in
        record {
          from = omega arith;
          inside = omega arith;
          half_there = rw z (eqb-true p.0 half e);
          nodes = rw (z, e);
        }
    go false e h ih =
        let q = port_from half (suc i) log in
        let n = ih h in
        let z : q - i ≡ suc (q - suc i) = omega (arith, n.from) in
        record {
          from = omega (arith, n.from);
          inside = omega (arith, n.inside);
          half_there = rw z n.half_there;
          nodes = rw (z, e) n.nodes;
        }

-- ---- linking

module _ (z : Sizes) where
  -- nothing is linked yet, and no half has a first port
  pub linked_none : (W : List ℕ) → ((half : ℕ) → half < 2 * z.edges → get_or W (first_at + half) 0 ≡ 0) → LinkedFrom W z z.ports
  linked_none W h =
      let e : drop z.ports (log_in W z) ≡ [] = ap (λ (n : ℕ). drop n (log_in W z)) (sym (length_pairs_in W log_at z.ports)) ∙ drop-length (log_in W z) in
      record {
        first = λ half l. h half l ∙ sym (ap (port_from half (suc z.ports)) e);
        next = λ j a b. absurd (omega arith);
      }

  module _ (W : List ℕ) (k : ℕ) (long : room_words ≤ length W) (few : k < z.ports) (ports : z.ports ≤ largest.most_ports) (edges : z.edges ≤ largest.most.edges)
      (low : get_or W (log_at + 2 * k) 0 < 2 * z.edges) where
    -- the log is as it was
    pub linked_frame : Outside next_at labels_at W (linked_at k W)
    linked_frame =
        let h = get_or W (log_at + 2 * k) 0 in
        outside_trans (outside_set next_at labels_at W (next_at + k) (get_or W (first_at + h) 0) (omega arith) (omega arith))
        (outside_set next_at labels_at (set W (next_at + k) (get_or W (first_at + h) 0)) (first_at + h) (k + 1) (omega arith) (omega arith))

    same_log : log_in (linked_at k W) z ≡ log_in W z
    same_log = pairs_before linked_frame log_at z.ports (omega arith)

    rest : drop k (log_in W z) ≡ get_or (log_in W z) k (0, 0) ∷ drop (suc k) (log_in W z)
    rest = drop-cons (log_in W z) k (0, 0) (omega (arith, length_pairs_in W log_at z.ports))

    is_half : (get_or (log_in W z) k (0, 0)).0 ≡ get_or W (log_at + 2 * k) 0
    is_half = ap (λ (p : ℕ × ℕ). p.0) (pairs_at_lem W log_at z.ports k few)

    pub linked_turn : LinkedFrom W z (k + 1) → LinkedFrom (linked_at k W) z k
    linked_turn L = record { first = λ h l. first h l (eqb (get_or W (log_at + 2 * k) 0) h) refl; next = λ j a b. next j a b (eqb j k) refl }
      where
        n : k + 1 ≡ suc k
        n = omega arith

        first : (h : ℕ) → h < 2 * z.edges → (c : Bool) → eqb (get_or W (log_at + 2 * k) 0) h ≡ c → get_or (linked_at k W) (first_at + h) 0 ≡ port_from h (suc k) (drop k (log_in (linked_at k W) z))
        first h l true e =
            let q : get_or W (log_at + 2 * k) 0 ≡ h = eqb-true (get_or W (log_at + 2 * k) 0) h e in
            let one : eqb (get_or (log_in W z) k (0, 0)).0 h ≡ true = ap (λ (x : ℕ). eqb x h) is_half ∙ e in
            let at : first_at + h ≡ first_at + get_or W (log_at + 2 * k) 0 = ap (λ (x : ℕ). first_at + x) (sym q) in
            ap (λ (x : ℕ). get_or (linked_at k W) x 0) at
            ∙ get_or-set_same (set W (next_at + k) (get_or W (first_at + get_or W (log_at + 2 * k) 0) 0)) (first_at + get_or W (log_at + 2 * k) 0) (k + 1) 0 (simp length-set (omega arith)) ∙ n
            ∙ sym (ap (λ (l : List (ℕ × ℕ)). port_from h (suc k) (drop k l)) same_log ∙ ap (port_from h (suc k)) rest ∙ rw one)
        first h l false e =
            let q = eqb-false (get_or W (log_at + 2 * k) 0) h e in
            let one : eqb (get_or (log_in W z) k (0, 0)).0 h ≡ false = ap (λ (x : ℕ). eqb x h) is_half ∙ e in
            let r : first_at + h ≡ first_at + get_or W (log_at + 2 * k) 0 → ⊥ = λ p. q (omega arith) in
            get_or-set_other (set W (next_at + k) (get_or W (first_at + get_or W (log_at + 2 * k) 0) 0)) (first_at + get_or W (log_at + 2 * k) 0) (first_at + h) (k + 1) 0 r
            ∙ get_or-set_other W (next_at + k) (first_at + h) (get_or W (first_at + get_or W (log_at + 2 * k) 0) 0) 0 (λ p. omega arith)
            ∙ L.first h l ∙ (λ i. port_from h (suc (n i)) (drop (n i) (log_in W z)))
            ∙ sym (ap (λ (l : List (ℕ × ℕ)). port_from h (suc k) (drop k l)) same_log ∙ ap (port_from h (suc k)) rest ∙ rw one)

        next : (j : ℕ) → k ≤ j → j < z.ports → (c : Bool) → eqb j k ≡ c
            → get_or (linked_at k W) (next_at + j) 0 ≡ port_from (get_or (linked_at k W) (log_at + 2 * j) 0) (suc (suc j)) (drop (suc j) (log_in (linked_at k W) z))
        next j a b true e =
            let q : j ≡ k = eqb-true j k e in
            let h = get_or W (log_at + 2 * k) 0 in
            let at : get_or (linked_at k W) (log_at + 2 * k) 0 ≡ h = linked_frame.same (log_at + 2 * k) (inl (omega arith)) in
            ap (λ (x : ℕ). get_or (linked_at k W) (next_at + x) 0) q
            ∙ get_or-set_other (set W (next_at + k) (get_or W (first_at + h) 0)) (first_at + h) (next_at + k) (k + 1) 0 (λ p. omega arith)
            ∙ get_or-set_same W (next_at + k) (get_or W (first_at + h) 0) 0 (omega arith)
            ∙ L.first h low ∙ (λ i. port_from h (suc (n i)) (drop (n i) (log_in W z)))
            ∙ sym (ap (λ (x : ℕ). port_from (get_or (linked_at k W) (log_at + 2 * x) 0) (suc (suc x)) (drop (suc x) (log_in (linked_at k W) z))) q
            ∙ (λ i. port_from (at i) (suc (suc k)) (drop (suc k) (same_log i))))
        next j a b false e =
            let q = eqb-false j k e in
            let h = get_or W (log_at + 2 * k) 0 in
            let at : get_or (linked_at k W) (log_at + 2 * j) 0 ≡ get_or W (log_at + 2 * j) 0 = linked_frame.same (log_at + 2 * j) (inl (omega arith)) in
            let r : next_at + j ≡ next_at + k → ⊥ = λ p. q (omega arith) in
            get_or-set_other (set W (next_at + k) (get_or W (first_at + h) 0)) (first_at + h) (next_at + j) (k + 1) 0 (λ p. omega arith)
            ∙ get_or-set_other W (next_at + k) (next_at + j) (get_or W (first_at + h) 0) 0 r
            ∙ L.next j (omega (arith, q)) b ∙ sym (λ i. port_from (at i) (suc (suc j)) (drop (suc j) (same_log i)))
