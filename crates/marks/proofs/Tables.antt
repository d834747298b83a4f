-- Laws of the two tables: which vertices remain, the word of a node, and both after each small step.
-- Assumes nothing.
use Rattle.std.proofs.Common.{◌≡◌, ℕ, zero, suc, ◌+◌, ◌*◌, ◌%◌, ◌^◌, ◌<◌, ◌≤◌, Bool, true, false, cond, ◌&&◌, ◌||◌, T, eqb, ◌≢◌, List, [], ◌∷◌, ◌++◌, map, length, get_or, take, set, sym, refl, ap, ◌∙◌, subst, ⊎_elim, le_of_suc-le-suc, not-suc-le-zero, mul-zero, mul-suc, arith, length-set, length-take-le, get_or-set_other, get_or-take, get_or-set_same, take-take, drop-set-lt, eq-eqb, ne_eqb}
use mathlib.Core.Bool.{false≢true}
use mathlib.Core.List.Memᴰ
use native.Mathlib.Decide.{ℕ_discrete}
use lib.ListN.{length-map}
use lib.Seq.{length-sets, take-set-le}
use Rattle.le.specs.Le.{Below, bytes, words, number}
use Rattle.le.proofs.Places.{length_words, get_d_words, set_words, number_four}
use Rattle.le.proofs.Stores.{take_sets_le}
use Rattle.choice.specs.Arcs.{In, bump, how_many, Set, has, without, size}
use Rattle.choice.specs.Calls.{room_cycle_breaking_nodes_scanning}
use Rattle.choice.proofs.Sets.{size_without}
use Rattle.marks.specs.Tables.{most_nodes, most_vertices, degrees_at, hints_at, Alike, remains, left, some_left, degrees, nought, shifted, shifted_all, loose, tested, tested_all, went_of, lowered, must_go, visited, visited_of}

-- ---- what remains

pub has_left : (n : ℕ) (room : List ℕ) (v : ℕ) → v < n → n ≤ length room → has (left n room) v ≡ remains (get_or room v 0)
unfolding left
has_left zero room v l h = absurd (not-suc-le-zero l)
has_left (suc n) [] v l h = absurd (not-suc-le-zero h)
has_left (suc n) (x ∷ room) zero l h = refl
has_left (suc n) (x ∷ room) (suc v) l h = has_left n room v (le_of_suc-le-suc l) (le_of_suc-le-suc h)

pub length_left : (n : ℕ) (room : List ℕ) → n ≤ length room → length (left n room) ≡ n
unfolding left
length_left n room h = length-map (take n room) remains ∙ length-take-le n room h

-- a vertex goes
pub left_set : (n : ℕ) (room : List ℕ) (v m : ℕ) → remains m ≡ false → left n (set room v m) ≡ without v (left n room)
unfolding left
left_set zero room v m e = refl
left_set (suc n) [] v m e = refl
left_set (suc n) (x ∷ room) zero m e = λ i. e i ∷ left n room
left_set (suc n) (x ∷ room) (suc v) m e = ap (λ (S : Set). remains x ∷ S) (left_set n room v m e)

-- one that is not among these n
pub left_beyond : (n : ℕ) (room : List ℕ) (v m : ℕ) → n ≤ v → left n (set room v m) ≡ left n room
unfolding left
left_beyond n room v m h = ap (map remains) (take-set-le n room v m h)

-- where the marks are the same, the same remain
pub left_same : (n : ℕ) (old new : List ℕ) → n ≤ most_vertices → take most_vertices new ≡ take most_vertices old → left n new ≡ left n old
unfolding left
left_same n old new h e = ap (map remains) (sym (take-take n most_vertices new h) ∙ ap (take n) e ∙ take-take n most_vertices old h)

pub mark_same : (old new : List ℕ) (v : ℕ) → v < most_vertices → take most_vertices new ≡ take most_vertices old → get_or new v 0 ≡ get_or old v 0
mark_same old new v h e = sym (get_or-take most_vertices new v 0 h) ∙ ap (λ (l : List ℕ). get_or l v 0) e ∙ get_or-take most_vertices old v 0 h

-- ---- the word of a node

-- byte by byte
pub word_is : (room : List ℕ) → room_cycle_breaking_nodes_scanning ≤ length room → (u : ℕ) → u < most_nodes → let i = 4 * (degrees_at + u) in
    degrees room u ≡ get_or room i 0 + 256 * (get_or room (i + 1) 0 + 256 * (get_or room (i + 2) 0 + 256 * get_or room (i + 3) 0))
word_is room long u l = get_d_words room (degrees_at + u) (omega arith) ∙ number_four room (4 * (degrees_at + u)) (omega arith)

module _ (room : List ℕ) (long : room_cycle_breaking_nodes_scanning ≤ length room) where
  -- a mark changes none
  pub degrees_set : (v m u : ℕ) → v < most_vertices → u < most_nodes → degrees (set room v m) u ≡ degrees room u
  degrees_set v m u h l =
      get_d_words (set room v m) (degrees_at + u) (omega (arith, length-set room v m))
      ∙ ap (λ (b : List ℕ). number (take 4 b)) (drop-set-lt (4 * (degrees_at + u)) room v m (omega arith)) ∙ sym (get_d_words room (degrees_at + u) (omega arith))

  -- a number added to one
  shifted_words : (delta v : ℕ) → v < most_nodes → words (shifted delta v room) ≡ set (words room) (degrees_at + v) ((degrees room v + delta) % 2 ^ 32)
  unfolding shifted
  shifted_words delta v h = set_words room (degrees_at + v) ((degrees room v + delta) % 2 ^ 32) (omega arith) (omega arith)

  pub shifted_same : (delta v : ℕ) → v < most_nodes → degrees (shifted delta v room) v ≡ (degrees room v + delta) % 2 ^ 32
  shifted_same delta v h =
      ap (λ (W : List ℕ). get_or W (degrees_at + v) 0) (shifted_words delta v h) ∙ get_or-set_same (words room) (degrees_at + v) ((degrees room v + delta) % 2 ^ 32) 0 (omega (arith, length_words room))

  pub shifted_other : (delta v u : ℕ) → v < most_nodes → u ≢ v → degrees (shifted delta v room) u ≡ degrees room u
  shifted_other delta v u h n =
      ap (λ (W : List ℕ). get_or W (degrees_at + u) 0) (shifted_words delta v h) ∙ get_or-set_other (words room) (degrees_at + v) (degrees_at + u) ((degrees room v + delta) % 2 ^ 32) 0 (λ e. n (omega arith))

pub shifted_long : (delta v : ℕ) (room : List ℕ) → length (shifted delta v room) ≡ length room
unfolding shifted
shifted_long delta v room = length-sets room (4 * (degrees_at + v)) (bytes 4 ((degrees room v + delta) % 2 ^ 32))

pub shifted_marks : (delta v : ℕ) (room : List ℕ) → take most_vertices (shifted delta v room) ≡ take most_vertices room
unfolding shifted
shifted_marks delta v room = take_sets_le most_vertices (bytes 4 ((degrees room v + delta) % 2 ^ 32)) room (4 * (degrees_at + v)) (omega arith)

-- ---- a hint: no mark and no word depends on one

pub alike_set : (room : List ℕ) (i m : ℕ) → Alike room (set room (hints_at + i) m)
alike_set room i m = record { long = length-set room (hints_at + i) m; tables = take-set-le hints_at room (hints_at + i) m (omega arith) }

module _ {old new : List ℕ} (a : Alike old new) where
  pub alike_marks : take most_vertices new ≡ take most_vertices old
  alike_marks = sym (take-take most_vertices hints_at new (omega arith)) ∙ ap (take most_vertices) a.tables ∙ take-take most_vertices hints_at old (omega arith)

  alike_at : (i : ℕ) → i < hints_at → get_or new i 0 ≡ get_or old i 0
  alike_at i h = sym (get_or-take hints_at new i 0 h) ∙ ap (λ (l : List ℕ). get_or l i 0) a.tables ∙ get_or-take hints_at old i 0 h

  pub alike_degrees : room_cycle_breaking_nodes_scanning ≤ length new → (u : ℕ) → u < most_nodes → degrees new u ≡ degrees old u
  alike_degrees long u l =
      let i = 4 * (degrees_at + u) in
      word_is new long u l
      ∙ (λ j. alike_at i (omega arith) j + 256 * (alike_at (i + 1) (omega arith) j + 256 * (alike_at (i + 2) (omega arith) j + 256 * alike_at (i + 3) (omega arith) j)))
      ∙ sym (word_is old (omega (arith, a.long)) u l)

-- ---- a number added to those of a list

pub shifts_next : (delta : ℕ) (xs : List ℕ) (x : ℕ) (room : List ℕ) → shifted_all delta (xs ++ (x ∷ [])) room ≡ shifted delta x (shifted_all delta xs room)
shifts_next delta [] x room = refl
shifts_next delta (y ∷ xs) x room = shifts_next delta xs x (shifted delta y room)

pub shifts_long : (delta : ℕ) (xs room : List ℕ) → length (shifted_all delta xs room) ≡ length room
shifts_long delta [] room = refl
shifts_long delta (x ∷ xs) room = shifts_long delta xs (shifted delta x room) ∙ shifted_long delta x room

pub shifts_marks : (delta : ℕ) (xs room : List ℕ) → take most_vertices (shifted_all delta xs room) ≡ take most_vertices room
shifts_marks delta [] room = refl
shifts_marks delta (x ∷ xs) room = shifts_marks delta xs (shifted delta x room) ∙ shifted_marks delta x room

-- as often as the node stands there
pub shifts_degrees : (delta u : ℕ) (xs room : List ℕ) → room_cycle_breaking_nodes_scanning ≤ length room → Below most_nodes xs → degrees room u < 2 ^ 32
    → degrees (shifted_all delta xs room) u ≡ (degrees room u + delta * how_many (λ x. eqb x u) xs) % 2 ^ 32
unfolding how_many
shifts_degrees delta u [] room long low small = omega (arith, mul-zero delta)
shifts_degrees delta u (x ∷ xs) room long low small =
    go (shifts_degrees delta u xs (shifted delta x room) (omega (arith, shifted_long delta x room)) low.1) (ℕ_discrete x u)
  where
    k : ℕ
    k = how_many (λ y. eqb y u) xs

    go : (degrees (shifted delta x room) u < 2 ^ 32 → degrees (shifted_all delta xs (shifted delta x room)) u ≡ (degrees (shifted delta x room) u + delta * k) % 2 ^ 32)
        → Dec (x ≡ u) → degrees (shifted_all delta xs (shifted delta x room)) u ≡ (degrees room u + delta * bump (eqb x u) k) % 2 ^ 32
    go rest (yes e) =
        let here : degrees (shifted delta x room) u ≡ (degrees room u + delta) % 2 ^ 32 =
        subst (λ (y : ℕ). degrees (shifted delta x room) y ≡ (degrees room y + delta) % 2 ^ 32) e (shifted_same room long delta x low.0) in
        rw (eq-eqb x u e) (omega (arith, here, rest (omega (arith, here)), mul-suc delta k))
    go rest (no n) =
        let here : degrees (shifted delta x room) u ≡ degrees room u = shifted_other room long delta x u low.0 (λ e. n (sym e)) in
        rw (ne_eqb x u n) (rest (omega (arith, here)) ∙ ap (λ (d : ℕ). (d + delta * k) % 2 ^ 32) here)

-- ---- a node goes if it is loose

pub loose_remains : (room : List ℕ) (v : ℕ) → loose room v ≡ true → remains (get_or room v 0) ≡ true
unfolding loose
loose_remains room v e = go (remains (get_or room v 0)) e
  where
    go : (b : Bool) → (b && nought (degrees room v)) ≡ true → b ≡ true
    go true h = refl
    go false h = h

pub loose_nought : (room : List ℕ) (v : ℕ) → loose room v ≡ true → nought (degrees room v) ≡ true
unfolding loose
loose_nought room v e = go (remains (get_or room v 0)) e
  where
    go : (b : Bool) → (b && nought (degrees room v)) ≡ true → nought (degrees room v) ≡ true
    go true h = h
    go false h = absurd (false≢true h)

-- one that remains and is not loose
pub tight_nought : (room : List ℕ) (v : ℕ) → remains (get_or room v 0) ≡ true → loose room v ≡ false → nought (degrees room v) ≡ false
unfolding loose
tight_nought room v r e = sym (ap (λ (b : Bool). b && nought (degrees room v)) r) ∙ e

pub loose_gone : (room : List ℕ) (v : ℕ) → remains (get_or room v 0) ≡ false → loose room v ≡ false
unfolding loose
loose_gone room v e = ap (λ (b : Bool). b && nought (degrees room v)) e

pub loose_same : (old new : List ℕ) (v : ℕ) → get_or new v 0 ≡ get_or old v 0 → degrees new v ≡ degrees old v → loose new v ≡ loose old v
unfolding loose
loose_same old new v e f = λ i. remains (e i) && nought (f i)

pub tested_yes : (v : ℕ) (room : List ℕ) → loose room v ≡ true → tested v room ≡ set room v 0
unfolding tested
tested_yes v room e = ap (λ (b : Bool). cond b (set room v 0) room) e

pub tested_no : (v : ℕ) (room : List ℕ) → loose room v ≡ false → tested v room ≡ room
unfolding tested
tested_no v room e = ap (λ (b : Bool). cond b (set room v 0) room) e

pub tested_long : (v : ℕ) (room : List ℕ) → length (tested v room) ≡ length room
unfolding tested
tested_long v room = go (loose room v)
  where
    go : (b : Bool) → length (cond b (set room v 0) room) ≡ length room
    go true = length-set room v 0
    go false = refl

-- it is loose no more, and the others are as before
pub tested_loose : (room : List ℕ) → room_cycle_breaking_nodes_scanning ≤ length room → (v u : ℕ) → v < most_nodes → u < most_nodes → loose (tested v room) u ≡ true → (loose room u ≡ true) × (u ≢ v)
unfolding loose
tested_loose room long v u low less t = go (loose room v) refl
  where
    go : (b : Bool) → loose room v ≡ b → (loose room u ≡ true) × (u ≢ v)
    go false e =
        let same : loose room u ≡ true = sym (ap (λ (r : List ℕ). loose r u) (tested_no v room e)) ∙ t in
        (same, λ q. false≢true (sym e ∙ ap (loose room) (sym q) ∙ same))
    go true e =
        let here : loose (set room v 0) u ≡ true = sym (ap (λ (r : List ℕ). loose r u) (tested_yes v room e)) ∙ t in
        other here (ℕ_discrete u v)
      where
        other : loose (set room v 0) u ≡ true → Dec (u ≡ v) → (loose room u ≡ true) × (u ≢ v)
        other here (yes q) =
            let zero_there : get_or (set room v 0) u 0 ≡ 0 = ap (λ (k : ℕ). get_or (set room v 0) k 0) q ∙ get_or-set_same room v 0 0 (omega arith) in
            absurd (false≢true (sym (ap remains zero_there) ∙ loose_remains (set room v 0) u here))
        other here (no q) =
            (sym (λ i. remains (get_or-set_other room v u 0 0 q i) && nought (degrees_set room long v 0 u (omega arith) less i)) ∙ here, q)

-- ---- those of a list

pub tests_next : (xs : List ℕ) (x : ℕ) (room : List ℕ) → tested_all (xs ++ (x ∷ [])) room ≡ tested x (tested_all xs room)
tests_next [] x room = refl
tests_next (y ∷ xs) x room = tests_next xs x (tested y room)

pub went_next : (xs : List ℕ) (x : ℕ) (room : List ℕ) → went_of (xs ++ (x ∷ [])) room ≡ went_of xs room + bump (loose (tested_all xs room) x) 0
went_next [] x room = omega arith
went_next (y ∷ xs) x room = omega (arith, went_next xs x (tested y room))

pub tests_long : (xs room : List ℕ) → length (tested_all xs room) ≡ length room
tests_long [] room = refl
tests_long (x ∷ xs) room = tests_long xs (tested x room) ∙ tested_long x room

pub went_few : (xs room : List ℕ) → went_of xs room ≤ length xs
went_few [] room = omega arith
went_few (x ∷ xs) room = omega (arith, went_few xs (tested x room), small (loose room x))
  where
    small : (b : Bool) → bump b 0 ≤ 1
    small true = omega arith
    small false = omega arith

-- none goes: the room is the same
pub went_none : (xs room : List ℕ) → went_of xs room ≡ 0 → tested_all xs room ≡ room
went_none [] room e = refl
went_none (x ∷ xs) room e = go (went_none xs room) (loose room x) refl
  where
    go : (went_of xs room ≡ 0 → tested_all xs room ≡ room) → (b : Bool) → loose room x ≡ b → tested_all xs (tested x room) ≡ room
    go rest true q = absurd (omega (arith, ap (λ (b : Bool). bump b 0) q, e))
    go rest false q =
        let same = tested_no x room q in
        let none : went_of xs (tested x room) ≡ 0 = omega (arith, e) in
        ap (tested_all xs) same ∙ rest (sym (ap (went_of xs) same) ∙ none)

-- if those that were loose stand in the list, none is loose then
pub tests_tight : (nodes : ℕ) → nodes ≤ most_nodes → (xs room : List ℕ) → room_cycle_breaking_nodes_scanning ≤ length room → Below nodes xs → ((u : ℕ) → u < nodes → loose room u ≡ true → In u xs)
    → (u : ℕ) → u < nodes → loose (tested_all xs room) u ≡ false
tests_tight nodes few [] room long low h u l = go (loose room u) refl
  where
    go : (b : Bool) → loose room u ≡ b → loose room u ≡ false
    go true e = absurd (Memᴰ.not-nil (h u l e))
    go false e = e
tests_tight nodes few (x ∷ xs) room long low h u l =
    tests_tight nodes few xs (tested x room) (omega (arith, tested_long x room)) low.1 (λ w m t.
    let k = tested_loose room long x w (omega (arith, low.0)) (omega arith) t in
    ⊎_elim (λ e. absurd (k.1 e)) (λ i. i) (Memᴰ.cases_cons (h w m k.0))) u l

-- each that goes was one of those that remain
pub went_size : (n : ℕ) (xs room : List ℕ) → Below n xs → n ≤ length room → went_of xs room + size (left n (tested_all xs room)) ≡ size (left n room)
went_size n [] room low long = omega arith
went_size n (x ∷ xs) room low long = go (went_size n xs (tested x room) low.1 (omega (arith, tested_long x room))) (loose room x) refl
  where
    go : went_of xs (tested x room) + size (left n (tested_all xs (tested x room))) ≡ size (left n (tested x room)) → (b : Bool) → loose room x ≡ b → bump (loose room x) 0 + went_of xs (tested x room) + size (left n (tested_all xs (tested x room))) ≡ size (left n room)
    go rest true e =
        let there : T (has (left n room) x) = subst T (sym (has_left n room x low.0 long ∙ loose_remains room x e)) tt in
        let now : size (left n (tested x room)) ≡ size (without x (left n room)) = ap size (ap (left n) (tested_yes x room e) ∙ left_set n room x 0 refl) in
        omega (arith, rest, now, size_without x (left n room) there, ap (λ (b : Bool). bump b 0) e)
    go rest false e = omega (arith, rest, ap (λ (r : List ℕ). size (left n r)) (tested_no x room e), ap (λ (b : Bool). bump b 0) e)

-- ---- whether one remains

pub some_next : (room xs : List ℕ) (x : ℕ) → some_left room (xs ++ (x ∷ [])) ≡ (some_left room xs || remains (get_or room x 0))
some_next room [] x = go (remains (get_or room x 0))
  where
    go : (b : Bool) → (b || false) ≡ (false || b)
    go true = refl
    go false = refl
some_next room (y ∷ xs) x = ap (λ (b : Bool). remains (get_or room y 0) || b) (some_next room xs x) ∙ go (remains (get_or room y 0)) (some_left room xs) (remains (get_or room x 0))
  where
    go : (a b c : Bool) → (a || (b || c)) ≡ ((a || b) || c)
    go true b c = refl
    go false b c = refl

pub some_append : (room xs ys : List ℕ) → some_left room xs ≡ true → some_left room (xs ++ ys) ≡ true
some_append room [] ys e = absurd (false≢true e)
some_append room (x ∷ xs) ys e = go (some_append room xs ys) (remains (get_or room x 0)) e
  where
    go : (some_left room xs ≡ true → some_left room (xs ++ ys) ≡ true) → (b : Bool) → (b || some_left room xs) ≡ true → (b || some_left room (xs ++ ys)) ≡ true
    go rest true h = refl
    go rest false h = rest h

pub some_behind : (room xs ys : List ℕ) → some_left room ys ≡ true → some_left room (xs ++ ys) ≡ true
some_behind room [] ys e = e
some_behind room (x ∷ xs) ys e = ap (λ (t : Bool). remains (get_or room x 0) || t) (some_behind room xs ys e) ∙ last (remains (get_or room x 0))
  where
    last : (t : Bool) → (t || true) ≡ true
    last true = refl
    last false = refl

pub some_same : (n : ℕ) (old new xs : List ℕ) → Below n xs → ((v : ℕ) → v < n → get_or new v 0 ≡ get_or old v 0) → some_left new xs ≡ some_left old xs
some_same n old new [] low h = refl
some_same n old new (x ∷ xs) low h = λ i. remains (h x low.0 i) || some_same n old new xs low.1 h i

-- as a count of those that remain
pub some_count : (n : ℕ) (room xs : List ℕ) (k : ℕ) → Below k xs → k ≤ n → n ≤ length room
    → (some_left room xs ≡ false → how_many (has (left n room)) xs ≡ 0) × (some_left room xs ≡ true → 0 < how_many (has (left n room)) xs)
unfolding how_many
some_count n room [] k low h long = (λ e. refl, λ e. absurd (false≢true e))
some_count n room (x ∷ xs) k low h long = go (remains (get_or room x 0)) (has_left n room x (omega (arith, low.0)) long) (some_count n room xs k low.1 h long)
  where
    go : (b : Bool) → has (left n room) x ≡ b
        → ((some_left room xs ≡ false → how_many (has (left n room)) xs ≡ 0) × (some_left room xs ≡ true → 0 < how_many (has (left n room)) xs))
        → ((b || some_left room xs) ≡ false → bump (has (left n room) x) (how_many (has (left n room)) xs) ≡ 0) × ((b || some_left room xs) ≡ true → 0 < bump (has (left n room) x) (how_many (has (left n room)) xs))
    go true e r = (λ f. absurd (false≢true (sym f)), λ f. rw e (omega arith))
    go false e r = (λ f. rw e (r.0 f), λ f. rw e (r.1 f))

-- ---- an edge that stays when it is visited

pub visit_none : (sources targets : List ℕ) (v : ℕ) (room : List ℕ) → must_go sources targets v room ≡ false → (visited sources targets v room ≡ room) × (visited_of sources targets v room ≡ 0)
unfolding visited visited_of
visit_none sources targets v room e =
    let after = lowered sources targets v room in
    (ap (λ (b : Bool). cond b (tested_all (sources ++ targets) after) room) e, ap (λ (b : Bool). cond b (suc (went_of (sources ++ targets) after)) 0) e)
