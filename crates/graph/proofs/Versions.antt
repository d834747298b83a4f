-- One form for one graph: what is read is stored as the same bytes, and what is stored is read as the same graph.
-- All is from the laws of any one version (ReadWrite, WriteRead); which versions there are is seen only where `format_numbered` or `fitting_sizes` is unfolded.
-- Assumes nothing.
use mathlib.Core.Bool.{Bool, true, false, cond, and-eq-true_iff}
use mathlib.Core.List.{List}
use mathlib.Core.Logic.{◌⊎◌, inl, inr, ◌≢◌}
use mathlib.Core.Path.{◌≡◌, refl, sym, ap, ◌∙◌, subst}
use Prim.Native.Nat.{ℕ, ◌≤◌}
use native.Mathlib.Omega.{arith}
use lib.Dec.{eqb, leb}
use lib.ListN.{length}
use borrow.Author.Tests.{leb-true, eqb-true, eq-eqb, ne_eqb, le-leb}
use Rattle.graph.specs.Answer.{◌carrying◌, Answer, refused, answered, refusal, ◌else◌, ◌>>=◌, ◌>>◌}
use Rattle.graph.specs.Form.{encode, form_bytes}
use Rattle.graph.specs.Graph.{Graph, Counts, counts, ports, Format, form1, form2, largest, counts_fit, sizes_fit, within_limits, Proper, Within, WellFormed, Usable}
use Rattle.graph.specs.Read.{read_version, read_in, read_as}
use Rattle.graph.specs.Versions.{StoredGraph, format_numbered, fitting_sizes, fitting, in_version, read_fitting, read, store}
use Rattle.le.specs.Le.{Below}
use Rattle.graph.proofs.Laws.{form1_usable, form2_usable, length_encode}
use Rattle.graph.proofs.Reading.{read_refusals, version_by, in_by}
use Rattle.graph.proofs.Refuses.{RefusedBy, answer_by, refusal_by, test_by, step_by}
use Rattle.graph.proofs.ReadWrite.{fits_within, in_sound}
use Rattle.graph.proofs.Steps.{same_answer, passed, came, never}
use Rattle.graph.proofs.WriteRead.{within_true, in_encode, version_encode}

-- ---- the versions there are

-- what fits version 1 fits version 2
within_grows : {c : Counts} → Within form1 c → Within form2 c
within_grows w = record {
  nodes = omega (arith, w.nodes);
  edges = omega (arith, w.edges);
  sources = omega (arith, w.sources);
  targets = omega (arith, w.targets);
  pairs = omega (arith, w.pairs);
}

formed_grows : (g : Graph) → WellFormed form1 g → WellFormed form2 g
formed_grows g h = record { proper = h.proper; ports = omega (arith, h.ports); counts = within_grows h.counts }

-- a version that is there: it is found by its number, and what it holds is within the largest limits
pub record Version (f : Format) : Type 0 where
  pub one : (f ≡ form1) ⊎ (f ≡ form2)
  pub found : format_numbered f.version ≡ answered f
  pub usable : Usable f
  pub grows : (g : Graph) → WellFormed f g → WellFormed largest g

pub version1 : Version form1
unfolding format_numbered
version1 = record { one = inl refl; found = refl; usable = form1_usable; grows = formed_grows }

pub version2 : Version form2
unfolding format_numbered
version2 = record { one = inr refl; found = refl; usable = form2_usable; grows = λ g h. h }

-- a number's version is there, and has that number
pub version_known : (v : ℕ) (f : Format) → format_numbered v ≡ answered f → Version f × (f.version ≡ v)
unfolding format_numbered
version_known v f p = first (eqb v 1) refl p
  where
    second : (c : Bool) → eqb v 2 ≡ c → cond c (answered form2) (refused (3 carrying 3)) ≡ answered f → Version f × (f.version ≡ v)
    second true e q = subst (λ (k : Format). Version k × (k.version ≡ v)) (same_answer q) (version2, sym (eqb-true v 2 e))
    second false e q = absurd (never q)

    first : (c : Bool) → eqb v 1 ≡ c → cond c (answered form1) (cond (eqb v 2) (answered form2) (refused (3 carrying 3))) ≡ answered f → Version f × (f.version ≡ v)
    first true e q = subst (λ (k : Format). Version k × (k.version ≡ v)) (same_answer q) (version1, sym (eqb-true v 1 e))
    first false e q = second (eqb v 2) refl q

-- versions of one number are one, and so are versions of one width
same_version : {f k : Format} → Version f → Version k → f.version ≡ k.version → f ≡ k
same_version {f} {k} a b e = same_answer (sym a.found ∙ ap format_numbered e ∙ b.found)

pub same_width : {f k : Format} → Version f → Version k → f.width ≡ k.width → f ≡ k
same_width {f} {k} a b e = go a.one b.one
  where
    go : (f ≡ form1) ⊎ (f ≡ form2) → (k ≡ form1) ⊎ (k ≡ form2) → f ≡ k
    go (inl p) (inl q) = p ∙ sym q
    go (inr p) (inr q) = p ∙ sym q
    go (inl p) (inr q) = absurd (omega (arith, e, ap (λ (x : Format). x.width) p, ap (λ (x : Format). x.width) q))
    go (inr p) (inl q) = absurd (omega (arith, e, ap (λ (x : Format). x.width) p, ap (λ (x : Format). x.width) q))

-- ---- the version of a graph

-- the sizes that fit version 1 are those stored in it
pub fitting_first : (c : Counts) (sum : ℕ) → sizes_fit form1 c sum ≡ true → fitting_sizes c sum ≡ form1
unfolding fitting_sizes
fitting_first c sum e = rw e

pub fitting_second : (c : Counts) (sum : ℕ) → sizes_fit form1 c sum ≡ false → fitting_sizes c sum ≡ form2
unfolding fitting_sizes
fitting_second c sum e = rw e

-- so they are within all limits
pub first_within : (c : Counts) (sum : ℕ) → fitting_sizes c sum ≡ form1 → sizes_fit largest c sum ≡ true
first_within c sum e = go (sizes_fit form1 c sum) refl
  where
    go : (t : Bool) → sizes_fit form1 c sum ≡ t → sizes_fit largest c sum ≡ true
    go true q =
        let l = (and-eq-true_iff (counts_fit form1 c) (leb sum form1.most_ports)).0 q in
        rw (within_true (within_grows (fits_within form1 c l.0)), le-leb sum form2.most_ports (omega (arith, leb-true sum form1.most_ports l.1)))
    go false q = absurd (omega (arith, ap (λ (f : Format). f.version) (sym e ∙ fitting_second c sum q)))

pub sizes_version : (c : Counts) (sum : ℕ) → Version (fitting_sizes c sum)
unfolding fitting_sizes
sizes_version c sum = go (sizes_fit form1 c sum)
  where
    go : (t : Bool) → Version (cond t form1 form2)
    go true = version1
    go false = version2

pub fitting_version : (g : Graph) → Version (fitting g)
fitting_version g = sizes_version (counts g) (ports g)

-- 13: a graph that passes is in the version that it fits
version_passed : {f : Format} {h : Graph} (g : Graph) → Version f → in_version f g ≡ answered h → (fitting g ≡ f) × (g ≡ h)
unfolding in_version
version_passed {f} g v p =
    let q = passed (eqb (fitting g).version f.version) _ (answered g) p in
    (same_version (fitting_version g) v (eqb-true _ _ q.0), same_answer q.1)

-- and one that is in it passes
pub version_passes : {f : Format} (g : Graph) → fitting g ≡ f → in_version f g ≡ answered g
unfolding in_version ◌else◌ ◌>>◌
version_passes {f} g e = rw (eq-eqb (fitting g).version f.version (ap (λ (k : Format). k.version) e))

pub version_13 : {f : Format} (g : Graph) → Version f → (fitting g).width ≢ f.width → in_version f g ≡ refused (refusal 13)
unfolding in_version ◌else◌ ◌>>◌
version_13 {f} g v n =
    rw (ne_eqb (fitting g).version f.version (λ e. n (ap (λ (k : Format). k.width) (same_version (fitting_version g) v e))))

-- ---- limits

-- within the limits, as a statement and as a test
pub limits_formed : (f : Format) (g : Graph) → Proper g → within_limits f g ≡ true → WellFormed f g
limits_formed f g h e =
    let l = (and-eq-true_iff (counts_fit f (counts g)) (leb (ports g) f.most_ports)).0 e in
    record { proper = h; counts = fits_within f (counts g) l.0; ports = leb-true _ _ l.1 }

pub formed_limits : (f : Format) (g : Graph) → WellFormed f g → within_limits f g ≡ true
formed_limits f g h = rw (within_true h.counts, le-leb _ _ h.ports)

-- a graph within the largest limits is well-formed in the version that it fits
pub fitting_formed : (g : Graph) → WellFormed largest g → WellFormed (fitting g) g
unfolding fitting_sizes
fitting_formed g h = go (within_limits form1 g) refl
  where
    go : (c : Bool) → within_limits form1 g ≡ c → WellFormed (cond c form1 form2) g
    go true e = limits_formed form1 g h.proper e
    go false e = h

-- ---- what is read

-- bytes that are read: they are the form of a well-formed graph, in the version that it fits
pub record StoredAs (b : List ℕ) (s : StoredGraph) : Type 0 where
  pub version : Version s.format
  pub fits : fitting s.graph ≡ s.format
  pub whole : encode s.format s.graph ≡ b
  pub formed : WellFormed s.format s.graph

pub read_sound : (b : List ℕ) (s : StoredGraph) → Below 256 b → read b ≡ answered s → StoredAs b s
unfolding read read_fitting
read_sound b s t p =
    let p₁ = came (read_version b) _ p in
    let p₂ = came (format_numbered p₁.0) _ p₁.2 in
    let f = p₂.0 in
    let known = version_known p₁.0 f p₂.1 in
    let p₃ = came (read_fitting f b) _ p₂.2 in
    let p₄ = came (read_in f b) (in_version f) p₃.1 in
    let fits = version_passed p₄.0 known.0 p₄.2 in
    let g = p₃.0 in
    let r = in_sound f b g t (p₁.1 ∙ ap answered (sym known.1)) (p₄.1 ∙ ap answered fits.1) in
    subst (λ (s : StoredGraph). StoredAs b s) (same_answer p₃.2)
    (record {
      version = known.0;
      fits = ap fitting (sym fits.1) ∙ fits.0;
      whole = r.whole;
      formed = r.formed;
    })

-- ---- what is stored

-- a graph within the largest limits is stored, in the version that it fits
pub store_formed : (g : Graph) → WellFormed largest g → store g ≡ answered (encode (fitting g) g)
unfolding store ◌else◌ ◌>>◌
store_formed g h = rw (formed_limits largest g h)

-- a proper graph that is stored is within the largest limits
pub store_sound : (g : Graph) (b : List ℕ) → Proper g → store g ≡ answered b → WellFormed largest g × (encode (fitting g) g ≡ b)
unfolding store
store_sound g b h p =
    let q = passed (within_limits largest g) _ (answered (encode (fitting g) g)) p in
    (limits_formed largest g h q.0, same_answer q.1)

-- the longest form, and the longest of version 1
pub longest : (g : Graph) → WellFormed largest g → length (encode (fitting g) g) ≤ 655385
unfolding fitting_sizes
longest g h = rw length_encode (go (within_limits form1 g) h.counts)
  where
    go : (c : Bool) → Within form2 (counts g) → form_bytes (cond c form1 form2) (counts g) (ports g) ≤ 655385
    go true w = omega (arith, h.ports, w.nodes, w.edges, w.sources, w.targets, w.pairs)
    go false w = omega (arith, h.ports, w.nodes, w.edges, w.sources, w.targets, w.pairs)

pub longest_first : (g : Graph) → WellFormed form1 g → length (encode form1 g) ≤ 49167
longest_first g h =
    let w = h.counts in
    rw length_encode (omega (arith, h.ports, w.nodes, w.edges, w.sources, w.targets, w.pairs))

-- ---- the round trips

-- reading an accepted form and storing it gives the same bytes
pub read_store : (b : List ℕ) (s : StoredGraph) → Below 256 b → read b ≡ answered s → store s.graph ≡ answered b
read_store b s t p =
    let r = read_sound b s t p in
    store_formed s.graph (r.version.grows s.graph r.formed) ∙ ap answered (ap (λ (f : Format). encode f s.graph) r.fits ∙ r.whole)

-- a graph within the largest limits, in the version that it fits, is read as that graph
pub read_encode : (g : Graph) → WellFormed largest g → read (encode (fitting g) g) ≡ answered (record { format = fitting g; graph = g })
unfolding read read_fitting ◌>>=◌
read_encode g h =
    let v = fitting_version g in
    let k = fitting_formed g h in
    rw (version_encode (fitting g) v.usable g k, v.found, in_encode (fitting g) v.usable g k, version_passes g refl)

-- storing a proper graph and reading gives the same graph
pub store_read : (g : Graph) (b : List ℕ) → Proper g → store g ≡ answered b → read b ≡ answered (record { format = fitting g; graph = g })
store_read g b h p =
    let q = store_sound g b h p in
    subst (λ (k : List ℕ). read k ≡ answered (record { format = fitting g; graph = g })) q.1 (read_encode g q.0)

-- two accepted forms of one graph are equal
pub one_form_lem : (a b : List ℕ) (s t : StoredGraph) → Below 256 a → Below 256 b → read a ≡ answered s → read b ≡ answered t → s.graph ≡ t.graph → a ≡ b
one_form_lem a b s t ha hb p q e = same_answer (sym (read_store a s ha p) ∙ ap store e ∙ read_store b t hb q)

-- two graphs of one stored form are equal
pub one_graph : (g h : Graph) (b : List ℕ) → Proper g → Proper h → store g ≡ answered b → store h ≡ answered b → g ≡ h
one_graph g h b pg ph p q = ap (λ (s : StoredGraph). s.graph) (same_answer (sym (store_read g b pg p) ∙ store_read h b ph q))

-- ---- one version alone

-- a graph, in a version
abbrev pub as_stored : Format → Graph → Answer StoredGraph
as_stored f g = answered (record { format = f; graph = g })

-- 13 is asked of version 2 alone: what is read in version 1 fits it
pub first_fits : (b : List ℕ) → Below 256 b → read_version b ≡ answered 1 → read_fitting form1 b ≡ read_in form1 b
unfolding read_fitting ◌>>=◌
first_fits b t v = look (read_in form1 b) refl
  where
    look : (m : Answer Graph) → read_in form1 b ≡ m → (m >>= in_version form1) ≡ m
    look (refused r) e = refl
    look (answered g) e =
        let h = (in_sound form1 b g t v e).formed in
        version_passes g (fitting_first (counts g) (ports g) (formed_limits form1 g h))

read_in_version : (b : List ℕ) (v : ℕ) (f : Format) → read_version b ≡ answered v → format_numbered v ≡ answered f → read b ≡ (read_fitting f b >>= as_stored f)
unfolding read ◌>>=◌
read_in_version b v f p e = rw (p, e)

-- what one that knows version 1 alone reads, all read
pub first_alone : (b : List ℕ) (g : Graph) → Below 256 b → read_as form1 b ≡ answered g → read b ≡ answered (record { format = form1; graph = g })
unfolding read_as ◌>>=◌
first_alone b g t p =
    let p₁ = came (read_version b) _ p in
    let p₂ = passed (eqb p₁.0 form1.version) _ (read_in form1 b) p₁.2 in
    let v : read_version b ≡ answered 1 = p₁.1 ∙ ap answered (eqb-true p₁.0 1 p₂.0) in
    read_in_version b 1 form1 v version1.found ∙ ap (λ (m : Answer Graph). m >>= as_stored form1) (first_fits b t v ∙ p₂.1)

-- ---- the refusals of a read are 1 to 6 and 13

format_by : (v : ℕ) → RefusedBy read_refusals (format_numbered v)
unfolding format_numbered
format_by v = first (eqb v 1)
  where
    second : (c : Bool) → RefusedBy read_refusals (cond c (answered form2) (refused (3 carrying 3)))
    second true = answer_by form2
    second false = refusal_by (3 carrying 3) refl

    first : (c : Bool) → RefusedBy read_refusals (cond c (answered form1) (cond (eqb v 2) (answered form2) (refused (3 carrying 3))))
    first true = answer_by form1
    first false = second (eqb v 2)

fitting_by : (f : Format) (b : List ℕ) → RefusedBy read_refusals (read_fitting f b)
unfolding read_fitting in_version
fitting_by f b = step_by (read_in f b) _ (in_by f b) (λ g. test_by _ _ _ refl (answer_by g))

pub read_by : (b : List ℕ) → RefusedBy read_refusals (read b)
unfolding read
read_by b =
    step_by (read_version b) _ (version_by b)
    (λ v. step_by (format_numbered v) _ (format_by v) (λ f. step_by (read_fitting f b) _ (fitting_by f b) (λ g. answer_by _)))
