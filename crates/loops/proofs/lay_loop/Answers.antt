-- `loops::lay_loop` meets its contract.
-- Assumes nothing.
use mathlib.Core.List.{List, ◌∷◌}
use mathlib.Core.Logic.{inl}
use mathlib.Core.Path.{◌≡◌, refl, sym, ◌∙◌, subst}
use Prim.Native.Nat.{ℕ, ◌+◌, ◌*◌, ◌<◌}
use native.Mathlib.Omega.{arith}
use Rattle.le.specs.Le.{words}
use Rattle.le.proofs.Frames.{outside_none, outside_trans, outside_set}
use Rattle.le.proofs.Places.{length_words}
use Rattle.tables.specs.Tables.{most_vertices, waiting_at}
use Rattle.removal.specs.Room.{source}
use Rattle.removal.proofs.Peeling.{lists_same}
use Rattle.loops.specs.Walk.{next_in, Looping, LaidTo, LaidIn}
use Rattle.loops.proofs.Laying.{Beside, next_same, laid_start, laid_low, laid_few, laid_next, laid_done}
use Rattle.loops.proofs.lay_loop.Goals as goal
use Rattle.loops.proofs.lay_loop.Goals.{After-onward-v, After-set_word, At-loop-v}

low : (c : At-loop-v) → c.loop-v.v < c.requires.looping.n
low c =
    let a = c.args in
    let u = c.requires.looping in
    laid_low (source a.s.now a.r) (words a.room.now) a.nodes a.again u (words c.loop-v.room) c.loop-v.v c.loop-v.count (omega (arith, length_words c.loop-v.room, c.loop-v.invariant.2)) (c.loop-v.invariant.1 u)

few : (c : At-loop-v) → c.loop-v.count < most_vertices
few c =
    let a = c.args in
    let u = c.requires.looping in
    laid_few (source a.s.now a.r) (words a.room.now) a.nodes a.again u (words c.loop-v.room) c.loop-v.v c.loop-v.count (omega (arith, length_words c.loop-v.room, c.loop-v.invariant.2)) (c.loop-v.invariant.1 u)

-- a vertex was put where halves have waited
stays : (c : After-set_word) → c.loop-v.count < most_vertices → Beside (words c.args.room.now) (words c.set_word.new.room)
stays c few =
    let X = words c.loop-v.room in
    outside_trans c.loop-v.invariant.0
    (subst (Beside X) (sym c.set_word.ensures) (outside_set waiting_at (waiting_at + most_vertices) X (waiting_at + c.loop-v.count) c.loop-v.v (omega arith) (omega (arith, few))))

-- where the walk then goes is where it would have gone before
goes : (c : After-onward-v) → Beside (words c.args.room.now) (words c.set_word.new.room) → let a = c.args in
    (u : Looping (source a.s.now a.r) (words a.room.now) a.nodes a.again) → c.onward-v.result ≡ next_in (source a.s.now a.r) (words a.room.now) a.nodes c.loop-v.v
goes c stays u =
    let a = c.args in
    let s = source a.s.now a.r in
    let W = words a.room.now in
    c.onward-v.ensures
    ∙ next_same s W (words c.set_word.new.room) a.nodes u.n c.loop-v.v stays (omega (arith, length_words a.room.now)) u.few
    (laid_low s W a.nodes a.again u (words c.loop-v.room) c.loop-v.v c.loop-v.count (omega (arith, length_words c.loop-v.room, c.loop-v.invariant.2)) (c.loop-v.invariant.1 u)) u.lists

pub loop-v-init : goal.loop-v-init
loop-v-init c =
    let a = c.args in
    let W = words a.room.now in
    (outside_none waiting_at (waiting_at + most_vertices) W, λ u. laid_start (source a.s.now a.r) W a.nodes a.again u W, refl)

pub onward-v-requires : goal.onward-v-requires
onward-v-requires c =
    let a = c.args in
    let u = c.requires.looping in
    let at = goal.at.onward-v-requires c in
    let l = low at.At-loop-v in
    let f = stays at.After-set_word (few at.At-loop-v) in
    let t = lists_same (source a.s.now a.r) (words a.room.now) (words c.set_word.new.room) a.nodes u.n u.few u.less (omega (arith, length_words a.room.now)) f.long (λ i m n. f.same i (inl n)) u.lists in
    record {
      v_lt_most_vertices = (omega (arith, l, u.few), omega (arith, c.set_word.auto.room, c.loop-v.invariant.2));
      v_bound = ((λ h. t.room_inside (2 * c.loop-v.v) (omega arith)), (λ h. t.form_inside (2 * c.loop-v.v) (omega arith) (omega (arith, l))));
    }

pub loop-v-preserved : goal.loop-v-preserved
loop-v-preserved c =
    let a = c.args in
    let x = c.onward-v.result in
    let at = goal.at.loop-v-preserved c in
    let beside = stays at.After-set_word (few at.At-loop-v) in (
      beside,
      (λ u. subst (λ (Z : List ℕ). LaidTo Z (a.again ∷ u.others) x (c.loop-v.count + 1)) (sym c.set_word.ensures)
          (laid_next (source a.s.now a.r) (words a.room.now) a.nodes a.again u (words c.loop-v.room) c.loop-v.v c.loop-v.count (omega (arith, length_words c.loop-v.room, c.loop-v.invariant.2)) (c.loop-v.invariant.1 u) x (goes at.After-onward-v beside u) c.if-v-again.false)),
      c.set_word.auto.room ∙ c.loop-v.invariant.2,
    )

pub returns : goal.returns
returns c =
    let a = c.args in
    let at = goal.at.returns c in
    let beside = stays at.After-set_word (few at.At-loop-v) in
    λ u.
    subst (λ (Z : List ℕ). LaidIn Z (a.again ∷ u.others) (c.loop-v.count + 1)) (sym c.set_word.ensures)
    (laid_done (source a.s.now a.r) (words a.room.now) a.nodes a.again u (words c.loop-v.room) c.loop-v.v c.loop-v.count (omega (arith, length_words c.loop-v.room, c.loop-v.invariant.2)) (c.loop-v.invariant.1 u) c.onward-v.result (goes at.After-onward-v beside u) c.if-v-again.true)

pub overflow_add-count : goal.overflow_add-count
overflow_add-count c = omega (arith, few (goal.at.overflow_add-count c).At-loop-v)

pub overflow_cast-v : goal.overflow_cast-v
overflow_cast-v c = omega (arith, low (goal.at.overflow_cast-v c).At-loop-v, c.requires.looping.few)

pub set_word-requires : goal.set_word-requires
set_word-requires c = omega (arith, few (goal.at.set_word-requires c).At-loop-v, c.loop-v.invariant.2)

pub overflow_add-count-in-loop-v : goal.overflow_add-count-in-loop-v
overflow_add-count-in-loop-v c = omega (arith, few (goal.at.overflow_add-count-in-loop-v c).At-loop-v)

pub loop-v-smaller : goal.loop-v-smaller
loop-v-smaller c = omega (arith, few (goal.at.loop-v-smaller c).At-loop-v)
