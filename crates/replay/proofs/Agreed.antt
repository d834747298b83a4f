-- A call that returned the number that is due agrees.
-- Assumes nothing.
use mathlib.Core.Bool.{true, false}
use mathlib.Core.List.{List}
use mathlib.Core.Path.{◌≡◌, sym, ap, ◌∙◌}
use Prim.Native.Nat.{ℕ, ◌+◌, ◌<◌}
use native.Mathlib.Omega.{arith}
use lib.Dec.{eqb}
use lib.ListN.{length, get_or, set, length-replicate, get_or-replicate}
use lib.Seq.{ext_get_or, get_or-set_same, get_or-set_other}
use borrow.Author.Count.{below_more}
use borrow.Author.Tests.{eqb-true}
use Rattle.graph.specs.Answer.{Answer, Result, laid, laid_map}
use Rattle.packing.specs.Packed.{packed, Returns, ReturnsMap}
use Rattle.replay.specs.declared.list.Record.{Record}
use Rattle.replay.specs.Due.{part_of, Handed, answer_to, out_after, map_after, Agreed, handed_by, filled, Due}

pub not_so : {A : Type 0} → false ≡ true → A
not_so e = let z : ◌≡◌ {A = ℕ} 0 1 = cc in absurd (omega arith)

-- a is the definition's answer to the call of this number; what the number says of the two buffers
module _ {a : Answer Result} {r due : ℕ} where
  pub agreed : {old new : List ℕ} → Returns a r old new → eqb r due ≡ true → (n : ℕ) (h : Handed) → answer_to n h ≡ a → out_after n ≡ laid → map_after n ≡ (λ x m. m) → (m : List ℕ) → Agreed n h due old new m m
  agreed {old} c e n h is o k m = record {
    number = sym (eqb-true r due e) ∙ c.number ∙ ap packed (sym is);
    buffer = c.buffer ∙ (λ i. sym o i (sym is i) old);
    map = λ i. sym k i (answer_to n h) m;
  }

  pub agreed_map : {old new old_map new_map : List ℕ} → ReturnsMap a r old new old_map new_map → eqb r due ≡ true → (n : ℕ) (h : Handed) → answer_to n h ≡ a → out_after n ≡ laid → map_after n ≡ laid_map → Agreed n h due old new old_map new_map
  agreed_map {old} {new} {old_map} c e n h is o k = record {
    number = sym (eqb-true r due e) ∙ c.number ∙ ap packed (sym is);
    buffer = c.buffer ∙ (λ i. sym o i (sym is i) old);
    map = c.map ∙ (λ i. sym k i (sym is i) old_map);
  }

  pub agreed_yes : r ≡ packed a → eqb r due ≡ true → (n : ℕ) (h : Handed) → answer_to n h ≡ a → out_after n ≡ (λ x m. m) → map_after n ≡ (λ x m. m) → (o m : List ℕ) → Agreed n h due o o m m
  agreed_yes c e n h is p k o m = record {
    number = sym (eqb-true r due e) ∙ c ∙ ap packed (sym is);
    buffer = λ i. sym p i (answer_to n h) o;
    map = λ i. sym k i (answer_to n h) m;
  }

-- ---- with the buffers that were filled

long : (o : List ℕ) (n : ℕ) → o ≡ filled n → o ≡ filled (length o)
long o n e = e ∙ ap filled (sym (ap length e ∙ length-replicate n 165))

pub due_from : {list : List ℕ} {q : Record} {o o' m m' : List ℕ} (n k : ℕ) → o ≡ filled n → m ≡ filled k → Agreed q.operation (handed_by list q (length o) (length m) q.room) q.due o o' m m'
    → o' ≡ part_of list q.answers.one.from q.answers.one.to → m' ≡ part_of list q.answers.two.from q.answers.two.to → Due list q
due_from {list} {q} {o} {o'} {m} {m'} n k e f a one two =
    let h = handed_by list q (length o) (length m) q.room in
    record {
      out = length o;
      map = length m;
      agreed = record {
        number = a.number;
        buffer = sym one ∙ a.buffer ∙ ap (out_after q.operation (answer_to q.operation h)) (long o n e);
        map = sym two ∙ a.map ∙ ap (map_after q.operation (answer_to q.operation h)) (long m k f);
      };
    }

-- one byte more is filled
pub filled_more : (xs : List ℕ) (i : ℕ) → i < length xs → ((k : ℕ) → k < i → get_or xs k 0 ≡ 165) → (k : ℕ) → k < i + 1 → get_or (set xs i 165) k 0 ≡ 165
filled_more xs i l h =
    below_more (λ (k : ℕ). get_or (set xs i 165) k 0 ≡ 165) i (λ k q. get_or-set_other xs i k 165 0 (λ e. omega arith) ∙ h k q) (get_or-set_same xs i 165 0 l)

pub all_filled : (xs : List ℕ) (n : ℕ) → length xs ≡ n → ((k : ℕ) → k < n → get_or xs k 0 ≡ 165) → xs ≡ filled n
all_filled xs n e h = ext_get_or 0 xs (filled n) (e ∙ sym (length-replicate n 165)) (λ k l. h k (omega arith) ∙ sym (get_or-replicate n k 165 0 (omega arith)))
