-- The drawing without some nodes or some edges: what is left of each table, by the map, is what deleting gives.
-- Assumes nothing.
use mathlib.Core.Bool.{Bool, true, false, not, cond, ◌||◌, ◌&&◌}
use mathlib.Core.List.{List, [], ◌∷◌, ◌++◌, map}
use mathlib.Core.Path.{◌≡◌, refl, sym, ap, ◌∙◌}
use Prim.Native.Nat.{ℕ, suc, ◌+◌, ◌*◌, ◌/◌, ◌%◌, ◌≤◌, ◌<◌}
use native.Mathlib.Omega.{arith}
use lib.Dec.{leb, eqb}
use lib.ListN.{length}
use borrow.Author.Tests.{eqb-true, eqb-false, eq-eqb, ne_eqb, lt-leb}
use Rattle.le.specs.Le.{Below}
use Rattle.graph.specs.Delete.{remaining, new_id, renamed, renamed_edge, renamed_pairs}
use Rattle.graph.specs.Lists.{keep, joined, flat}
use Rattle.graph.proofs.Kept.{new_id_le, new_id_below}
use Rattle.ledger.specs.declared.Renaming.TheVariants.{NodeOfPort, EdgeOfPort, BothEnds}
use Rattle.ledger.specs.Tables.{map_size, gone}
use Rattle.ledger.specs.Ledger.{nodes_at, edge_at, edges_from, Logged}
use Rattle.ledger.specs.Left.{Mapped, mapped, kept_word, kept_words, first_left, second_left, kept_pair}

module _ (goes : ℕ → Bool) where
  -- ---- logs

  -- the log without the nodes that go
  abbrev pub logged_nodes : List (ℕ × ℕ) → List (ℕ × ℕ)
  logged_nodes [] = []
  logged_nodes (p ∷ log) = cond (goes p.1) (logged_nodes log) ((p.0, new_id goes p.1) ∷ logged_nodes log)

  -- a half with the new id of its edge
  abbrev pub new_half : ℕ → ℕ
  new_half half = 2 * new_id goes (half / 2) + half % 2

  -- the log without the edges that go
  abbrev pub logged_edges : List (ℕ × ℕ) → List (ℕ × ℕ)
  logged_edges [] = []
  logged_edges (p ∷ log) = cond (goes (p.0 / 2)) (logged_edges log) ((new_half p.0, p.1) ∷ logged_edges log)

  nodes_renamed : (half : ℕ) (log : List (ℕ × ℕ)) → nodes_at half (logged_nodes log) ≡ renamed goes (nodes_at half log)
  nodes_renamed half [] = refl
  nodes_renamed half (p ∷ log) = go (goes p.1) refl (eqb p.0 half) refl (nodes_renamed half log)
    where
      go : (c : Bool) → goes p.1 ≡ c → (d : Bool) → eqb p.0 half ≡ d → nodes_at half (logged_nodes log) ≡ renamed goes (nodes_at half log)
          → nodes_at half (cond c (logged_nodes log) ((p.0, new_id goes p.1) ∷ logged_nodes log)) ≡ renamed goes (cond d (p.1 ∷ nodes_at half log) (nodes_at half log))
      go true e true f ih = rw e ih
      go true e false f ih = ih
      go false e true f ih = rw (f, e) (ap (λ (l : List ℕ). new_id goes p.1 ∷ l) ih)
      go false e false f ih = rw f ih

  pub edges_renamed : (i : ℕ) (labels : List ℕ) (log : List (ℕ × ℕ)) → edges_from i labels (logged_nodes log) ≡ map (renamed_edge goes) (edges_from i labels log)
  edges_renamed i [] log = refl
  edges_renamed i (l ∷ labels) log =
      let a = nodes_renamed (2 * i) log in
      let b = nodes_renamed (2 * i + 1) log in
      let rest = edges_renamed (suc i) labels log in
      λ k. record { label = l; sources = a k; targets = b k } ∷ rest k

  -- two ids that stay and have one new id are one
  new_id_one : (a b : ℕ) → goes a ≡ false → goes b ≡ false → new_id goes a ≡ new_id goes b → (a < b → ⊥)
  new_id_one a b ea eb e l = omega (arith, new_id_below goes a b l ea)

  same_half : (half other : ℕ) → goes (half / 2) ≡ false → goes (other / 2) ≡ false → new_half half ≡ new_half other → half ≡ other
  same_half half other ea eb e =
      let n : new_id goes (half / 2) ≡ new_id goes (other / 2) = omega arith in
      omega (arith, less, more)
    where
      less : half / 2 < other / 2 → ⊥
      less l = let n : new_id goes (half / 2) ≡ new_id goes (other / 2) = omega arith in new_id_one (half / 2) (other / 2) ea eb n l

      more : other / 2 < half / 2 → ⊥
      more l = let n : new_id goes (other / 2) ≡ new_id goes (half / 2) = omega arith in new_id_one (other / 2) (half / 2) eb ea n l

  nodes_left : (half : ℕ) (log : List (ℕ × ℕ)) → goes (half / 2) ≡ false → nodes_at (new_half half) (logged_edges log) ≡ nodes_at half log
  nodes_left half [] h = refl
  nodes_left half (p ∷ log) h = go (goes (p.0 / 2)) refl (eqb p.0 half) refl (nodes_left half log h)
    where
      go : (c : Bool) → goes (p.0 / 2) ≡ c → (d : Bool) → eqb p.0 half ≡ d → nodes_at (new_half half) (logged_edges log) ≡ nodes_at half log
          → nodes_at (new_half half) (cond c (logged_edges log) ((new_half p.0, p.1) ∷ logged_edges log)) ≡ cond d (p.1 ∷ nodes_at half log) (nodes_at half log)
      go true e true f ih = absurd (differ (sym h ∙ ap (λ (x : ℕ). goes (x / 2)) (sym (eqb-true p.0 half f)) ∙ e))
        where
          differ : false ≡ true → ⊥
          differ q = let z : ◌≡◌ {A = ℕ} 0 1 = cc in omega arith
      go true e false f ih = ih
      go false e true f ih =
          let one : eqb (new_half p.0) (new_half half) ≡ true = ap (λ (x : ℕ). eqb (new_half x) (new_half half)) (eqb-true p.0 half f) ∙ eq-eqb (new_half half) (new_half half) refl in
          rw one (ap (λ (l : List ℕ). p.1 ∷ l) ih)
      go false e false f ih =
          let one : eqb (new_half p.0) (new_half half) ≡ false = ne_eqb (new_half p.0) (new_half half) (λ q. eqb-false p.0 half f (same_half p.0 half e h q)) in
          rw one ih

  pub edges_left : (i : ℕ) (labels : List ℕ) (log : List (ℕ × ℕ)) → edges_from (new_id goes i) (remaining goes i labels) (logged_edges log) ≡ remaining goes i (edges_from i labels log)
  edges_left i [] log = refl
  edges_left i (l ∷ labels) log = go (goes i) refl (edges_left (suc i) labels log)
    where
      go : (c : Bool) → goes i ≡ c → edges_from (new_id goes (suc i)) (remaining goes (suc i) labels) (logged_edges log) ≡ remaining goes (suc i) (edges_from (suc i) labels log)
          → edges_from (new_id goes i) (cond c (remaining goes (suc i) labels) (l ∷ remaining goes (suc i) labels)) (logged_edges log)
          ≡ cond c (remaining goes (suc i) (edges_from (suc i) labels log)) (edge_at i l log ∷ remaining goes (suc i) (edges_from (suc i) labels log))
      go true e ih =
          let n : new_id goes i + 0 ≡ new_id goes i = omega arith in
          let m : new_id goes (suc i) ≡ new_id goes i = rw e n in
          ap (λ (j : ℕ). edges_from j (remaining goes (suc i) labels) (logged_edges log)) (sym m) ∙ ih
      go false e ih =
          let n : new_id goes i + 1 ≡ suc (new_id goes i) = omega arith in
          let m : new_id goes (suc i) ≡ suc (new_id goes i) = rw e n in
          let ha : 2 * i / 2 ≡ i = omega arith in
          let hb : (2 * i + 1) / 2 ≡ i = omega arith in
          let a : nodes_at (2 * new_id goes i) (logged_edges log) ≡ nodes_at (2 * i) log =
          ap (λ (x : ℕ). nodes_at x (logged_edges log)) (evens i) ∙ nodes_left (2 * i) log (ap goes ha ∙ e) in
          let b : nodes_at (2 * new_id goes i + 1) (logged_edges log) ≡ nodes_at (2 * i + 1) log =
          ap (λ (x : ℕ). nodes_at x (logged_edges log)) (odds i) ∙ nodes_left (2 * i + 1) log (ap goes hb ∙ e) in
          let rest = ap (λ (j : ℕ). edges_from j (remaining goes (suc i) labels) (logged_edges log)) (sym m) ∙ ih in
          λ k. record { label = l; sources = a k; targets = b k } ∷ rest k
        where
          evens : (i : ℕ) → 2 * new_id goes i ≡ new_half (2 * i)
          evens i = let h : 2 * i / 2 ≡ i = omega arith in let r : 2 * i % 2 ≡ 0 = omega arith in rw (h, r) (omega arith)

          odds : (i : ℕ) → 2 * new_id goes i + 1 ≡ new_half (2 * i + 1)
          odds i = let h : (2 * i + 1) / 2 ≡ i = omega arith in let r : (2 * i + 1) % 2 ≡ 1 = omega arith in rw (h, r)

  -- ---- below the new counts

  pub logged_nodes_lem : (halves nodes : ℕ) (log : List (ℕ × ℕ)) → Logged halves nodes log → Logged halves (new_id goes nodes) (logged_nodes log)
  logged_nodes_lem halves nodes [] h = tt
  logged_nodes_lem halves nodes (p ∷ log) h = go (goes p.1) refl (logged_nodes_lem halves nodes log h.2)
    where
      go : (c : Bool) → goes p.1 ≡ c → Logged halves (new_id goes nodes) (logged_nodes log)
          → Logged halves (new_id goes nodes) (cond c (logged_nodes log) ((p.0, new_id goes p.1) ∷ logged_nodes log))
      go true e ih = ih
      go false e ih = (h.0, new_id_below goes p.1 nodes h.1 e, ih)

  pub logged_edges_lem : (edges nodes : ℕ) (log : List (ℕ × ℕ)) → Logged (2 * edges) nodes log → Logged (2 * new_id goes edges) nodes (logged_edges log)
  logged_edges_lem edges nodes [] h = tt
  logged_edges_lem edges nodes (p ∷ log) h = go (goes (p.0 / 2)) refl (logged_edges_lem edges nodes log h.2)
    where
      go : (c : Bool) → goes (p.0 / 2) ≡ c → Logged (2 * new_id goes edges) nodes (logged_edges log)
          → Logged (2 * new_id goes edges) nodes (cond c (logged_edges log) ((new_half p.0, p.1) ∷ logged_edges log))
      go true e ih = ih
      go false e ih = (omega (arith, new_id_below goes (p.0 / 2) edges (omega (arith, h.0)) e), h.1, ih)

  -- ---- by the map

  module _ (W : List ℕ) (n : ℕ) (m : Mapped W goes n) (few : n ≤ gone) where
    gone_goes : (i : ℕ) → i < n → eqb (mapped W i) gone ≡ goes i
    gone_goes i h = ap (λ (x : ℕ). eqb x gone) (m.each i h) ∙ go (goes i)
      where
        go : (c : Bool) → eqb (cond c gone (new_id goes i)) gone ≡ c
        go true = eq-eqb gone gone refl
        go false = ne_eqb (new_id goes i) gone (λ e. omega (arith, new_id_le goes i))

    stays : (i : ℕ) → i < n → goes i ≡ false → mapped W i ≡ new_id goes i
    stays i h e = m.each i h ∙ rw e

    pub labels_left : (i : ℕ) (xs : List ℕ) → i + length xs ≤ n → kept_words W false i xs ≡ remaining goes i xs
    unfolding kept_word
    labels_left i [] h = refl
    labels_left i (x ∷ xs) h = go (goes i) refl (labels_left (suc i) xs (omega arith))
      where
        go : (c : Bool) → goes i ≡ c → kept_words W false (suc i) xs ≡ remaining goes (suc i) xs
            → cond (eqb (mapped W i) gone) [] (x ∷ []) ++ kept_words W false (suc i) xs ≡ cond c (remaining goes (suc i) xs) (x ∷ remaining goes (suc i) xs)
        go true e ih = rw (gone_goes i (omega arith), e) ih
        go false e ih = rw (gone_goes i (omega arith), e) (ap (λ (l : List ℕ). x ∷ l) ih)

    pub ids_left : (i : ℕ) (xs : List ℕ) → Below n xs → kept_words W true i xs ≡ renamed goes xs
    unfolding kept_word
    ids_left i [] h = refl
    ids_left i (x ∷ xs) h = go (goes x) refl (ids_left (suc i) xs h.1)
      where
        go : (c : Bool) → goes x ≡ c → kept_words W true (suc i) xs ≡ renamed goes xs
            → cond (eqb (mapped W x) gone) [] (mapped W x ∷ []) ++ kept_words W true (suc i) xs ≡ map (new_id goes) (cond (not c) (x ∷ keep (λ id. not (goes id)) xs) (keep (λ id. not (goes id)) xs))
        go true e ih = rw (gone_goes x h.0, e) ih
        go false e ih = rw (gone_goes x h.0, e) (λ k. stays x h.0 e k ∷ ih k)

    pub pairs_left : (ps : List (ℕ × ℕ)) → Below n (flat ps) → joined (kept_pair W BothEnds) ps ≡ renamed_pairs goes ps
    unfolding kept_pair first_left second_left
    pairs_left [] h = refl
    pairs_left (p ∷ ps) h = go (goes p.0) refl (goes p.1) refl (pairs_left ps h.1.1)
      where
        go : (c : Bool) → goes p.0 ≡ c → (d : Bool) → goes p.1 ≡ d → joined (kept_pair W BothEnds) ps ≡ renamed_pairs goes ps
            → cond (eqb (mapped W p.0) gone || eqb (mapped W p.1) gone) [] ((mapped W p.0, mapped W p.1) ∷ []) ++ joined (kept_pair W BothEnds) ps
            ≡ map (λ p. (new_id goes p.0, new_id goes p.1)) (cond (not c && not d) (p ∷ keep (λ p. not (goes p.0) && not (goes p.1)) ps) (keep (λ p. not (goes p.0) && not (goes p.1)) ps))
        go true e d f ih = rw (gone_goes p.0 h.0, e) ih
        go false e true f ih = rw (gone_goes p.0 h.0, e, gone_goes p.1 h.1.0, f) ih
        go false e false f ih =
            rw (gone_goes p.0 h.0, e, gone_goes p.1 h.1.0, f) (λ k. (stays p.0 h.0 e k, stays p.1 h.1.0 f k) ∷ ih k)

    pub nodes_logged : (halves : ℕ) (log : List (ℕ × ℕ)) → halves ≤ gone → Logged halves n log → joined (kept_pair W NodeOfPort) log ≡ logged_nodes log
    unfolding kept_pair first_left second_left
    nodes_logged halves [] l h = refl
    nodes_logged halves (p ∷ log) l h = go (goes p.1) refl (nodes_logged halves log l h.2)
      where
        go : (c : Bool) → goes p.1 ≡ c → joined (kept_pair W NodeOfPort) log ≡ logged_nodes log
            → cond (eqb p.0 gone || eqb (mapped W p.1) gone) [] ((p.0, mapped W p.1) ∷ []) ++ joined (kept_pair W NodeOfPort) log
            ≡ cond c (logged_nodes log) ((p.0, new_id goes p.1) ∷ logged_nodes log)
        go true e ih = rw (ne_eqb p.0 gone (λ q. omega arith), gone_goes p.1 h.1, e) ih
        go false e ih = rw (ne_eqb p.0 gone (λ q. omega arith), gone_goes p.1 h.1, e) (λ k. (p.0, stays p.1 h.1 e k) ∷ ih k)

    pub edges_logged : (nodes : ℕ) (log : List (ℕ × ℕ)) → nodes ≤ gone → n ≤ map_size → Logged (2 * n) nodes log → joined (kept_pair W EdgeOfPort) log ≡ logged_edges log
    unfolding kept_pair first_left second_left
    edges_logged nodes [] l k h = refl
    edges_logged nodes (p ∷ log) l k h = go (goes (p.0 / 2)) refl (edges_logged nodes log l k h.2)
      where
        edge : p.0 / 2 < n
        edge = omega (arith, h.0)

        go : (c : Bool) → goes (p.0 / 2) ≡ c → joined (kept_pair W EdgeOfPort) log ≡ logged_edges log
            → cond (eqb (cond (leb map_size (mapped W (p.0 / 2))) gone (2 * mapped W (p.0 / 2) + p.0 % 2)) gone || eqb p.1 gone) []
            ((cond (leb map_size (mapped W (p.0 / 2))) gone (2 * mapped W (p.0 / 2) + p.0 % 2), p.1) ∷ []) ++ joined (kept_pair W EdgeOfPort) log
            ≡ cond c (logged_edges log) ((new_half p.0, p.1) ∷ logged_edges log)
        go true e ih =
            let new : mapped W (p.0 / 2) ≡ gone = m.each (p.0 / 2) edge ∙ rw e in
            rw new ih
        go false e ih =
            let new = stays (p.0 / 2) edge e in
            let few : leb map_size (new_id goes (p.0 / 2)) ≡ false = lt-leb map_size (new_id goes (p.0 / 2)) (omega (arith, new_id_le goes (p.0 / 2))) in
            let low : new_half p.0 ≡ gone → ⊥ = λ q. omega (arith, new_id_le goes (p.0 / 2), h.0) in
            rw (new, few, ne_eqb (new_half p.0) gone low, ne_eqb p.1 gone (λ q. omega (arith, h.1))) (ap (λ (r : List (ℕ × ℕ)). (new_half p.0, p.1) ∷ r) ih)
