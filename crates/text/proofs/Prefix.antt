-- More bytes than the longest form has make no difference to a refusal's number: of bytes p that are more and any bytes q after them, the refusal has the number of that of p.
-- The header lies in p, and so do all labels and edges that the limits allow; whatever is left then is longer than the longest lists.
-- Assumes nothing.
use mathlib.Core.Bool.{Bool, true, false}
use mathlib.Core.List.{List, [], ◌∷◌, ◌++◌}
use mathlib.Core.Logic.{◌⊎◌, inl, inr}
use mathlib.Core.Path.{◌≡◌, refl, sym, ap, subst, ◌∙◌}
use Prim.Native.Nat.{ℕ, zero, suc, ◌+◌, ◌*◌, ◌≤◌, ◌<◌}
use native.Mathlib.Nat.{suc-mul, mul-le-mul_right}
use native.Mathlib.Omega.{arith}
use lib.Dec.{leb}
use lib.ListN.{length, take, drop, length-append, length-drop}
use lib.Seq.{take-append-le, drop-append-le}
use borrow.Author.Tests.{le-leb, leb-true}
use Rattle.le.specs.Le.{number, numbers, number_at}
use Rattle.le.proofs.Numbers.{length_numbers}
use Rattle.graph.specs.Answer.{Refusal, Answer, refused, answered, ◌else◌, ◌>>=◌, ◌>>◌}
use Rattle.graph.specs.Form.{header_bytes, form_bytes}
use Rattle.graph.specs.Graph.{Edge, Counts, Format, form1, form2, Within}
use Rattle.graph.specs.Read.{read_version, read_counts, read_edge, read_edges, read_body, read_in, counts_at}
use Rattle.graph.specs.Versions.{format_numbered, in_version, read_fitting, read}
use Rattle.graph.proofs.Reading.{Edges}
use Rattle.graph.proofs.Verdicts.{lists_5}
use Rattle.graph.proofs.Versions.{version_known}

-- ---- two answers alike: both refused with one number, or both answered, the second what the first calls for

pub data Alike {A : Type 0} (P : A → Type 0) (second : A → A) : Answer A → Answer A → Type 0 where
  stopped : (r s : Refusal) → s.no ≡ r.no → Alike P second (refused r) (refused s)
  went : (a b : A) → b ≡ second a → P a → Alike P second (answered a) (answered b)

-- the second is the first
abbrev pub Same : {A : Type 0} → (A → Type 0) → Answer A → Answer A → Type 0
Same P = Alike P (λ a. a)

module _ {B : Type 0} {Q : B → Type 0} {next : B → B} where
  -- after answers alike
  pub alike_then : {A : Type 0} {P : A → Type 0} {second : A → A} {x y : Answer A} (k l : A → Answer B) → Alike P second x y
      → ((a : A) → P a → Alike Q next (k a) (l (second a))) → Alike Q next (x >>= k) (y >>= l)
  unfolding ◌>>=◌
  alike_then k l (stopped r s e) f = stopped r s e
  alike_then k l (went a b e p) f = subst (λ c. Alike Q next (k a) (l c)) (sym e) (f a p)

  -- after one test
  pub alike_test : {x y : Answer B} (c d : Bool) (r s : Refusal) → s.no ≡ r.no → d ≡ c → (c ≡ true → Alike Q next x y)
      → Alike Q next ((c else r) >> x) ((d else s) >> y)
  unfolding ◌else◌ ◌>>◌
  alike_test {x} {y} c d r s n e f = go c e f
    where
      go : (t : Bool) → d ≡ t → (t ≡ true → Alike Q next x y) → Alike Q next ((t else r) >> x) ((d else s) >> y)
      go true e f = rw e (f refl)
      go false e f = rw e (stopped r s n)

-- ---- what lies in the front

module _ (p q : List ℕ) where
  number_front : (w place : ℕ) → place + w ≤ length p → number_at w (p ++ q) place ≡ number_at w p place
  number_front w place h =
      let in_p : place ≤ length p = omega arith in
      let in_rest : w ≤ length (drop place p) = omega (arith, length-drop place p) in
      ap number (ap (take w) (drop-append-le place p q in_p) ∙ take-append-le w (drop place p) q in_rest)

  -- both are long enough
  long_front : (n : ℕ) → n ≤ length p → leb n (length (p ++ q)) ≡ leb n (length p)
  long_front n h = le-leb n (length (p ++ q)) (omega (arith, length-append p q)) ∙ sym (le-leb n (length p) h)

numbers_front : (w n : ℕ) (p q : List ℕ) → n * w ≤ length p → numbers w n (p ++ q) ≡ numbers w n p
numbers_front w zero p q h = refl
numbers_front w (suc n) p q h =
    let more : suc n * w ≡ n * w + w = suc-mul n w in
    let in_p : w ≤ length p = omega arith in
    let in_rest : n * w ≤ length (drop w p) = omega (arith, length-drop w p) in
    (λ i. number (take-append-le w p q in_p i) ∷ numbers w n (drop-append-le w p q in_p i))
    ∙ ap (λ (l : List ℕ). number (take w p) ∷ l) (numbers_front w n (drop w p) q in_rest)

-- ---- the edges

abbrev ports_of_lem : Edge → ℕ
ports_of_lem e = length e.sources + length e.targets

-- what was read, and q after what is left
abbrev onto : {A : Type 0} → List ℕ → A × List ℕ → A × List ℕ
onto q x = (x.0, x.1 ++ q)

module _ (f : Format) where
  -- the bytes of the longest lists
  abbrev lists : ℕ
  lists = (f.most.sources + (f.most.targets + 2 * f.most.pairs)) * f.width

  -- after an edge of p the port sum is within its limit, and so much was read
  abbrev AfterEdge : ℕ → List ℕ → Edge × List ℕ → Type 0
  AfterEdge sum p x = (sum + ports_of_lem x.0 ≤ f.most_ports) × (length p ≡ (2 + ports_of_lem x.0) * f.width + length x.1)

  edge_more : (long longer sum label : ℕ) (p q : List ℕ) → (2 + f.most_ports) * f.width ≤ length p + sum * f.width → sum ≤ f.most_ports
      → Alike (AfterEdge sum p) (onto q) (read_edge f long sum label p) (read_edge f longer sum label (p ++ q))
  unfolding read_edge
  edge_more long longer sum label p q enough within =
      let w = f.width in
      let s = number_at w p 0 in
      let t = number_at w p w in
      let entries = drop (2 * w) p in
      let room : sum * w ≤ f.most_ports * w = mul-le-mul_right w within in
      let counted : 2 * w ≤ length p = omega arith in
      rw (number_front p q w 0 (omega arith), number_front p q w w (omega arith), drop-append-le (2 * w) p q counted)
      (alike_test _ _ _ _ refl (long_front p q (2 * w) (omega arith)) (λ _.
      alike_test _ _ _ _ refl refl (λ _.
      alike_test _ _ _ _ refl refl (λ few.
      let all : (sum + (s + t)) * w ≤ f.most_ports * w = mul-le-mul_right w (leb-true _ _ few) in
      let there : (s + t) * w ≤ length entries = omega (arith, length-drop (2 * w) p) in
      let ports : length (numbers w s entries) + length (numbers w t (drop (s * w) entries)) ≡ s + t =
      λ i. length_numbers w s entries i + length_numbers w t (drop (s * w) entries) i in
      alike_test _ _ _ _ refl (long_front entries q ((s + t) * w) (omega arith)) (λ _.
      went _ _ (λ i. (
        record {
          label = label;
          sources = numbers_front w s entries q (omega arith) i;
          targets = (ap (numbers w t) (drop-append-le (s * w) entries q (omega arith))
              ∙ numbers_front w t (drop (s * w) entries) q (omega (arith, length-drop (s * w) entries))) i;
        },
        drop-append-le ((s + t) * w) entries q there i,
      ))
      (rw ports (leb-true _ _ few), rw ports (omega (arith, length-drop ((s + t) * w) entries, length-drop (2 * w) p))))))))

  -- after the edges, what is left is longer than the longest lists
  abbrev AfterEdges : Edges → Type 0
  AfterEdges x = lists < length x.1

  edges_more : (long longer : ℕ) (labels : List ℕ) (sum : ℕ) (p q : List ℕ) → (2 * length labels + f.most_ports) * f.width + lists < length p + sum * f.width
      → sum ≤ f.most_ports → Alike AfterEdges (onto q) (read_edges f long sum labels p) (read_edges f longer sum labels (p ++ q))
  edges_more long longer [] sum p q enough within =
      went ([], p) _ refl (omega (arith, mul-le-mul_right f.width within))
  edges_more long longer (label ∷ labels) sum p q enough within =
      alike_then _ _ (edge_more long longer sum label p q (omega arith) within) (λ x h.
      alike_then _ _ (edges_more long longer labels (sum + ports_of_lem x.0) x.1 q (omega (arith, h.1)) h.0) (λ y l.
      went (x.0 ∷ y.0, y.1) _ refl l))

  -- ---- the body and the header

  body_more : (long longer : ℕ) (c : Counts) (p q : List ℕ) → Within f c → form_bytes f f.most f.most_ports < header_bytes f + length p
      → Same (λ g. Unit {0}) (read_body f long c p) (read_body f longer c (p ++ q))
  unfolding read_body
  body_more long longer c p q h l =
      let w = f.width in
      let k = (c.nodes + c.edges) * 4 in
      let labels = numbers 4 c.edges (drop (c.nodes * 4) p) in
      let nodes = h.nodes in
      let edges = h.edges in
      let edge_room = mul-le-mul_right w edges in
      let list_room_lem : (c.sources + (c.targets + 2 * c.pairs)) * w ≤ lists = mul-le-mul_right w (omega (arith, h.sources, h.targets, h.pairs)) in
      let labels_front : numbers 4 c.edges (drop (c.nodes * 4) (p ++ q)) ≡ labels =
      ap (numbers 4 c.edges) (drop-append-le (c.nodes * 4) p q (omega arith))
      ∙ numbers_front 4 c.edges (drop (c.nodes * 4) p) q (omega (arith, length-drop (c.nodes * 4) p)) in
      rw (labels_front, drop-append-le k p q (omega arith))
      (alike_test _ _ _ _ refl (long_front p q k (omega arith)) (λ _.
      alike_then _ _ (edges_more long longer labels 0 (drop k p) q (rw (length_numbers 4 c.edges) (omega (arith, length-drop k p))) (omega arith)) (λ x left.
      rw (
        lists_5 f long c p x.0 x.1 (λ e. omega (arith, e)),
        lists_5 f longer c (p ++ q) x.0 (x.1 ++ q) (λ e. omega (arith, e, length-append x.1 q)),
      ) (stopped _ _ refl))))

  counts_more : (p q : List ℕ) → header_bytes f ≤ length p → Same (Within f) (read_counts f p) (read_counts f (p ++ q))
  unfolding read_counts
  counts_more p q l =
      alike_test _ _ _ _ refl (long_front p q (header_bytes f) (omega arith)) (λ _.
      alike_test _ _ _ _ refl (ap (λ (c : Counts). leb c.nodes f.most.nodes) counts_front) (λ n.
      alike_test _ _ _ _ refl (ap (λ (c : Counts). leb c.edges f.most.edges) counts_front) (λ e.
      alike_test _ _ _ _ refl (ap (λ (c : Counts). leb c.sources f.most.sources) counts_front) (λ s.
      alike_test _ _ _ _ refl (ap (λ (c : Counts). leb c.targets f.most.targets) counts_front) (λ t.
      alike_test _ _ _ _ refl (ap (λ (c : Counts). leb c.pairs f.most.pairs) counts_front) (λ u.
      went _ _ counts_front
      (record { nodes = leb-true _ _ n; edges = leb-true _ _ e; sources = leb-true _ _ s; targets = leb-true _ _ t; pairs = leb-true _ _ u })))))))
    where
      counts_front : counts_at f (p ++ q) ≡ counts_at f p
      counts_front = λ i. record {
        nodes = number_front p q f.width 5 (omega arith) i;
        edges = number_front p q f.width (5 + f.width) (omega arith) i;
        sources = number_front p q f.width (5 + 2 * f.width) (omega arith) i;
        targets = number_front p q f.width (5 + 3 * f.width) (omega arith) i;
        pairs = number_front p q f.width (5 + 4 * f.width) (omega arith) i;
      }

  pub in_more : (p q : List ℕ) → form_bytes f f.most f.most_ports < length p → Same (λ g. Unit {0}) (read_in f p) (read_in f (p ++ q))
  unfolding read_in
  in_more p q l =
      let whole : header_bytes f ≤ length p = omega arith in
      rw (drop-append-le (header_bytes f) p q whole)
      (alike_then _ _ (counts_more p q whole) (λ c h. body_more (length p) (length (p ++ q)) c (drop (header_bytes f) p) q h (omega (arith, length-drop (header_bytes f) p))))

-- ---- the whole

pub version_more : (p q : List ℕ) → 15 ≤ length p → Same (λ v. Unit {0}) (read_version p) (read_version (p ++ q))
unfolding read_version
version_more p q l =
    rw (take-append-le 3 p q (omega arith), number_front p q 2 3 (omega arith))
    (alike_test _ _ _ _ refl (long_front p q 15 (omega arith)) (λ _. alike_test _ _ _ _ refl refl (λ _. went _ _ refl tt)))

-- an answer is like itself
alike_self : {A : Type 0} {P : A → Type 0} (a : Answer A) → ((x : A) → a ≡ answered x → P x) → Same P a a
alike_self (refused r) h = stopped r r refl
alike_self (answered x) h = went x x refl (h x refl)

fitting_more : (f : Format) (p q : List ℕ) → form_bytes f f.most f.most_ports < length p → Same (λ g. Unit {0}) (read_fitting f p) (read_fitting f (p ++ q))
unfolding read_fitting
fitting_more f p q l = alike_then _ _ (in_more f p q l) (λ g _. alike_self (in_version f g) (λ x _. tt))

-- read in either version
pub read_more : (p q : List ℕ) → form_bytes form2 form2.most form2.most_ports < length p → Same (λ s. Unit {0}) (read p) (read (p ++ q))
unfolding read
read_more p q l = alike_then _ _ (version_more p q (omega arith)) (λ v _. alike_then _ _ (known v) (λ f h. alike_then _ _ (fitting_more f p q h) (λ g _. went _ _ refl tt)))
  where
    short : (f : Format) → (f ≡ form1) ⊎ (f ≡ form2) → form_bytes f f.most f.most_ports < length p
    short f (inl e) = rw e (omega arith)
    short f (inr e) = rw e (omega arith)

    known : (v : ℕ) → Same (λ f. form_bytes f f.most f.most_ports < length p) (format_numbered v) (format_numbered v)
    known v = alike_self (format_numbered v) (λ f e. short f (version_known v f e).0.one)
