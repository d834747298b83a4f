-- `cycle::push_candidate` meets its contract.
-- Assumes nothing.
use mathlib.Core.Path.{◌≡◌, refl, sym, ◌∙◌, subst}
use mathlib.Core.Bool.{true, false}
use Prim.Native.Nat.{ℕ, ◌+◌, ◌*◌}
use native.Mathlib.Omega.{arith}
use lib.Seq.{get_or-take}
use Rattle.tables.specs.Tables.{queue_at}
use Rattle.le.specs.Le.{words}
use borrow.Author.Tests.{not-true, not-false}
use Rattle.queue.specs.Places.{Added}
use Rattle.cycle.specs.Next.{may}
use Rattle.cycle.proofs.push_candidate.Goals as goal

pub may_be_chosen-requires : goal.may_be_chosen-requires
may_be_chosen-requires c = record { nodes_le_most_nodes = (omega arith, omega arith); none_kept = c.requires.heap.2 }

pub returns-then-not-may_be_chosen : goal.returns-then-not-may_be_chosen
returns-then-not-may_be_chosen c =
    let a = c.args in
    let no : may (words a.room.now) a.nodes a.v ≡ false = sym c.may_be_chosen.ensures ∙ not-true _ c.if-not-may_be_chosen.true-raw in
    record {
      barred = λ _. (refl, refl);
      gone = λ _. (refl, refl);
      alive = λ t p. let z : ◌≡◌ {A = ℕ} 0 1 = cc (sym no ∙ t) in absurd (omega arith);
    }

pub returns-then-word-eq0 : goal.returns-then-word-eq0
returns-then-word-eq0 c =
    record {
      barred = λ _. (refl, refl);
      gone = λ _. (refl, refl);
      alive = λ t p. absurd (omega arith);
    }

pub key_now-k-requires : goal.key_now-k-requires
key_now-k-requires c =
    let a = c.args in
    let W = words a.room.now in
    let q = c.requires.heap.1 in
    record { v_lt_radix = (omega arith, omega arith); v_bound = (omega (arith, q (2 * a.v), get_or-take (2 * a.n) W (2 * a.v) 0 (omega arith)), omega (arith, q (2 * a.v + 1), get_or-take (2 * a.n) W (2 * a.v + 1) 0 (omega arith))) }

pub returns : goal.returns
returns c =
    let a = c.args in
    let W = words a.room.now in
    let o = c.push in
    let yes : may (words a.room.now) a.nodes a.v ≡ true = sym c.may_be_chosen.ensures ∙ not-false _ c.if-not-may_be_chosen.false-raw in
    record {
      barred = λ f. let z : ◌≡◌ {A = ℕ} 0 1 = cc (sym yes ∙ f) in absurd (omega arith);
      gone = λ z. absurd (c.if-word-eq0.false (c.word.ensures ∙ z));
      alive = λ t p. (subst (Added W (words o.new.room) queue_at a.m) c.key_now-k.ensures o.ensures, refl);
    }
