-- What a drawing in code stands for: bytes that were read as a graph of its sizes.
-- Assumes nothing.
use mathlib.Core.List.{List}
use mathlib.Core.Path.{◌≡◌, subst}
use Prim.Native.Nat.{ℕ}
use Rattle.le.proofs.Numbers.{below_each}
use Rattle.form.specs.Stored.{Stored}
use Rattle.form.specs.declared.Drawing.{Drawing}
use Rattle.form.proofs.Stored.{stored}
use Rattle.std.specs.Borrow.{Bor}

pub stored_in : (d : Drawing) → Stored d.src.now d.sizes
stored_in d = stored d.src.now (below_each 256 d.src.now (λ i l. d.are_bytes i)) d.sizes d.is_read

-- what holds of a drawing's bytes holds of those that it was read from
pub at_source : {d s : Bor (List ℕ)} (P : List ℕ → Type 0) → d ≡ s → P d.now → P s.now
at_source P e h = subst (λ (x : Bor (List ℕ)). P x.now) e h
