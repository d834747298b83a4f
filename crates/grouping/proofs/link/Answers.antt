-- `grouping::link` meets its contract.
-- Assumes nothing.
use mathlib.Core.List.{List}
use mathlib.Core.Path.{◌≡◌, refl, sym, ◌∙◌, subst}
use Prim.Native.Nat.{ℕ, ◌+◌, ◌-◌, ◌*◌}
use lib.ListN.{replicate, length-replicate}
use Rattle.le.specs.Le.{Outside, words}
use Rattle.le.proofs.Frames.{outside_none, outside_sets, outside_trans}
use Rattle.ledger.specs.Tables.{next_at, first_at, labels_at}
use Rattle.ledger.specs.Ledger.{LinkedFrom}
use Rattle.ledger.proofs.Linking.{linked_frame, linked_turn}
use Rattle.grouping.proofs.Walks.{same_drawing, same_sound, half_low, linked_start}
use native.Mathlib.Omega.{arith}
use Rattle.grouping.proofs.link.Goals as goal
use Rattle.grouping.proofs.link.Goals.{After-clear_words}

-- clearing leaves all but the links alone
cleared : (c : After-clear_words) → Outside next_at labels_at (words c.args.room.now) (words c.clear_words.new.room)
cleared c = let a = c.args in
    let W = words a.room.now in
    let w = c.requires.0.within in
    subst (λ (X : List ℕ). Outside next_at labels_at W X) (sym c.clear_words.ensures) (outside_sets next_at labels_at W first_at (replicate (2 * a.z.edges) 0) (omega arith) (omega (arith, length-replicate {A = ℕ} (2 * a.z.edges) 0)))

pub overflow_mul-z : goal.overflow_mul-z
overflow_mul-z c = let w = c.requires.0.within in omega arith

pub clear_words-requires : goal.clear_words-requires
clear_words-requires c = let w = c.requires.0.within in omega (arith, c.requires.1)

pub loop-k-init : goal.loop-k-init
loop-k-init c =
    let a = c.args in
    let S = c.requires.0 in (
      omega arith,
      subst (λ (X : List ℕ). LinkedFrom X a.z a.z.ports) (sym c.clear_words.ensures) (linked_start (words a.room.now) a.z S),
      outside_none next_at labels_at (words c.clear_words.new.room),
      same_sound a.z (cleared (goal.at.loop-k-init c).After-clear_words) S,
      refl,
    )

pub link_one-requires : goal.link_one-requires
link_one-requires c =
    let a = c.args in
    let l = c.loop-k in
    let S = l.invariant.3 in
    (S, omega arith, omega (arith, c.requires.1, l.invariant.4, c.clear_words.auto.room))

pub loop-k-preserved : goal.loop-k-preserved
loop-k-preserved c =
    let a = c.args in
    let l = c.loop-k in
    let S = l.invariant.3 in
    let W = words l.room in
    let k = l.k - 1 in
    let o = c.link_one in
    let low = half_low W a.z S k (omega arith) in
    let one : k + 1 ≡ l.k = omega arith in
    let frame : Outside next_at labels_at W (words o.new.room) =
    subst (λ (X : List ℕ). Outside next_at labels_at W X) (sym o.ensures) (linked_frame a.z W k S.long (omega arith) S.few S.within.edges low) in (
      omega arith,
      subst (λ (X : List ℕ). LinkedFrom X a.z k) (sym o.ensures)
          (linked_turn a.z W k S.long (omega arith) S.few S.within.edges low (subst (LinkedFrom W a.z) (sym one) l.invariant.1)),
      outside_trans l.invariant.2 frame,
      same_sound a.z frame S,
      o.auto.room ∙ l.invariant.4,
    )

pub returns : goal.returns
returns c =
    let a = c.args in
    let l = c.loop-k in
    let none : l.k ≡ 0 = omega arith in
    (record { sound = l.invariant.3; links = subst (LinkedFrom (words l.room) a.z) none l.invariant.1 }, same_drawing a.z (outside_trans (cleared (goal.at.returns c).After-clear_words) l.invariant.2) c.requires.0)
