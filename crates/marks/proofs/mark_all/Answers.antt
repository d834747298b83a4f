-- `marks::mark_all` meets its contract.
-- Assumes nothing.
use Rattle.std.proofs.Common.{◌≡◌, ℕ, ◌≤◌, List, ◌++◌, length, drop, replicate, sym, subst, arith, rules}
use Rattle.std.proofs.lemmas.List.{length-replicate}
use lib.Seq.{sets}
use Rattle.le.proofs.Stores.{sets_front}
use Rattle.marks.proofs.mark_all.Goals as goal

-- a front of one number
front : (d xs : List ℕ) (n v : ℕ) → n ≤ length d → xs ≡ replicate n v → xs ++ drop n d ≡ sets d 0 (replicate n v)
front d xs n v l e =
    let many = length-replicate {A = ℕ} n v in
    rw e (sym (subst (λ (k : ℕ). sets d 0 (replicate n v) ≡ replicate n v ++ drop k d) many (sets_front d (replicate n v) (omega arith))))

pub returns : goal.returns
returns c = front c.args.room.now c.fill.new.self c.args.n 1 c.requires (search rules)
