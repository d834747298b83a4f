-- The first removal: what is built, with the arcs out that are put in, seeded and settled, begins as the model does; and both its parts tell the first stage.
-- Assumes nothing.
use mathlib.Core.Path.{◌≡◌, refl, sym, ap, ◌∙◌, subst}
use mathlib.Core.Bool.{true, false}
use mathlib.Core.List.{List, []}
use Prim.Native.Nat.{ℕ, ◌+◌, ◌-◌, ◌*◌, ◌≤◌, ◌<◌}
use native.Mathlib.Omega.{arith}
use lib.Dec.{T}
use lib.ListN.{length, get_or, get_or-replicate}
use lib.Seq.{get_or-take, length-take-le}
use Rattle.le.specs.Le.{Outside}
use Rattle.le.proofs.Frames.{outside_trans}
use Rattle.choice.specs.Arcs.{vertices}
use Rattle.choice.specs.Drawing.{arcs, selectable}
use Rattle.choice.proofs.Reasons.{known_start}
use Rattle.choice.proofs.Sets.{size_vertices}
use Rattle.choice.proofs.Sofar.{sofar_start}
use Rattle.graph.specs.Graph.{Graph}
use Rattle.halves.specs.Halves.{mate, within, lower_all, peel_from, seed_to, raise_to, ends_to, Ready}
use Rattle.halves.proofs.Parting.{start_ready, start_in, ends_out}
use Rattle.incidence.specs.Incidence.{neighbours, Built}
use Rattle.incidence.proofs.Whole.{degrees_within}
use Rattle.tables.specs.Tables.{picked_at}
use Rattle.removal.specs.Room.{Source, halves_in, list_in, Roomy, Lists, Went}
use Rattle.removal.proofs.Rooms.{roomy_all}
use Rattle.removal.proofs.Tables.{steady_trans}
use Rattle.cycle.proofs.Begin.{Drawn, bounded, all_roomy}
use Rattle.choice.specs.Reasons.{not_led_to, leads_to_none}
use Rattle.reasons.specs.Told.{freed_all, waited_from, Settled, Told, ends_in, Tabled, Begun, Explaining}
use Rattle.reasons.proofs.Ends.{raised_by, ends_low, ends_are}
use Rattle.reasons.proofs.Parts.{explained}
use Rattle.reasons.proofs.Rooms.{after_roomy, after_lists, after_settled, settled_roomy, tabled_steady, settled_is}
use Rattle.reasons.proofs.Saying.{freed_outside}

module _ {g : Graph} {nodes n : ℕ} (d : Drawn g nodes n) where
  abbrev lists : ℕ → List ℕ
  lists = neighbours (arcs g)

  less : nodes ≤ n
  less = omega (arith, d.nodes_is, d.n_is)

  -- ---- the first part

  module _ {s : Source} {W R X : List ℕ} (long : picked_at ≤ length W) (built : Built s g W) {a : ℕ} (raises : Went W R n 0 (raised_by W n n)) (seeds : Went R X n a (seed_to n (halves_in R n 0))) where
    tabled : Tabled s g W nodes n
    tabled = record {
      lists = subst (λ (k : ℕ). Lists s W k n) (sym d.nodes_is) (subst (Lists s W (length g.labels)) (sym d.n_is) built.inside);
      are = λ y l. ap (λ (k : ℕ). list_in s W k y) d.nodes_is ∙ built.lists y (omega (arith, d.n_is));
    }

    degree : (y : ℕ) → y < 2 * n → get_or (halves_in W n 0).degrees y 0 ≡ length (neighbours (arcs g) (mate y))
    unfolding halves_in
    degree y l = get_or-take (2 * n) W y 0 l ∙ built.degrees y (omega (arith, d.n_is))

    degrees_long : length (halves_in W n 0).degrees ≡ 2 * n
    unfolding halves_in
    degrees_long = length-take-le (2 * n) W (omega (arith, d.few))

    right : (y : ℕ) → y < 2 * n → get_or (halves_in W n 0).degrees y 0 ≡ within (arcs g) (vertices n) y
    right y l = degree y l ∙ degrees_within (arcs g) n (bounded s g nodes n d) y

    outs : (x : ℕ) → x < n → get_or (halves_in W n 0).degrees (2 * x + 1) 0 ≡ length (neighbours (arcs g) (2 * x))
    outs x l = let e : mate (2 * x + 1) ≡ 2 * x = omega arith in degree (2 * x + 1) (omega arith) ∙ ap (λ (y : ℕ). length (neighbours (arcs g) y)) e

    went : Went W X n a (seed_to n (raised_by W n n))
    went = record { few = seeds.few; is = seeds.is ∙ ap (seed_to n) raises.is; frame = steady_trans raises.frame seeds.frame }

    ready : Ready (arcs g) n (vertices n) (seed_to n (raised_by W n n)) 0 (ends_to lists n)
    ready = start_ready n lists (halves_in W n 0).degrees degrees_long outs (arcs g) right

    roomy : Roomy n (seed_to n (raised_by W n n))
    roomy = all_roomy (arcs g) n (seed_to n (raised_by W n n)) (ends_to lists n) ready.state

    pub seeded_roomy : Roomy n (halves_in X n a)
    seeded_roomy = after_roomy s W X X nodes n less d.few long tabled.lists (seed_to n (raised_by W n n)) roomy a went

    pub seeded_lists : Lists s X nodes n
    seeded_lists = after_lists s W X X nodes n less d.few long tabled.lists (seed_to n (raised_by W n n)) roomy a went

    module _ {Y : List ℕ} {mid : ℕ} (t : Settled s X Y nodes n 0 mid (halves_in X n a)) where
      u : Settled s W Y nodes n 0 mid (seed_to n (raised_by W n n))
      u = after_settled s W X Y nodes n less d.few long tabled.lists (seed_to n (raised_by W n n)) roomy a went 0 mid t

      pub begins : Begun s g Y nodes n mid
      begins = record {
        few = u.went.few;
        roomy = settled_roomy s W Y nodes n 0 mid (seed_to n (raised_by W n n)) tabled.lists roomy u;
        tabled = tabled_steady s g W Y nodes n less d.few long u.went.frame tabled;
        degrees = (halves_in W n 0).degrees;
        long = degrees_long;
        right = right;
        outs = outs;
        is = settled_is s g W Y nodes n 0 mid (seed_to n (raised_by W n n)) tabled roomy u;
      }

  -- ---- both parts

  module _ {s : Source} {X M : List ℕ} {mid : ℕ} (b : Begun s g X nodes n mid) (long : picked_at ≤ length X) {a : ℕ} (ends : Went X M n a (lower_all (ends_in X n) (halves_in X n mid))) where
    ends_roomy : Roomy n (lower_all (ends_in X n) (halves_in X n mid))
    ends_roomy = roomy_all n (ends_in X n) (halves_in X n mid) (ends_low X n n (omega arith)) b.roomy

    pub lowered_roomy : Roomy n (halves_in M n a)
    lowered_roomy = after_roomy s X M M nodes n less d.few long b.tabled.lists (lower_all (ends_in X n) (halves_in X n mid)) ends_roomy a ends

    pub lowered_lists : Lists s M nodes n
    lowered_lists = after_lists s X M M nodes n less d.few long b.tabled.lists (lower_all (ends_in X n) (halves_in X n mid)) ends_roomy a ends

    module _ {Y : List ℕ} {end : ℕ} (t : Settled s M Y nodes n mid end (halves_in M n a)) (out : List ℕ) (room : 16 * nodes ≤ length out) where
      v : Settled s X Y nodes n mid end (lower_all (ends_in X n) (halves_in X n mid))
      v = after_settled s X M Y nodes n less d.few long b.tabled.lists (lower_all (ends_in X n) (halves_in X n mid)) ends_roomy a ends mid end t

      two : halves_in Y n end ≡ peel_from (n - mid) lists mid (lower_all (ends_to lists n) (halves_in X n mid))
      two =
          settled_is s g X Y nodes n mid end (lower_all (ends_in X n) (halves_in X n mid)) b.tabled ends_roomy v
          ∙ ap (λ (ts : List ℕ). peel_from (n - mid) lists mid (lower_all ts (halves_in X n mid))) (ends_are s g X nodes n d.few long b.tabled)

      -- nothing is told before
      unsaid : Told g (vertices n) out
      unsaid = record { says = λ v l k. absurd (k (subst T (sym (get_or-replicate n v true false (omega (arith, d.n_is)))) tt)) }

      pub first_explained : Explaining s g Y (freed_all nodes (leads_to_none 1) (waited_from Y n mid end) (freed_all nodes (not_led_to 1) (waited_from X n 0 mid) out)) nodes n end 1
      first_explained =
          explained s g nodes n d (vertices n) (seed_to n (record { degrees = raise_to n b.degrees; waiting = [] })) 0 (ends_to lists n) []
          (start_ready n lists b.degrees b.long b.outs (arcs g) b.right) (start_in n lists b.degrees b.long b.outs (arcs g) b.right) (ends_out n lists)
          (sofar_start (arcs g) (selectable g) n) (omega (arith, size_vertices n)) 1 (known_start (arcs g) (selectable g) n) refl
          X Y mid end b.few v.went.few long (omega (arith, v.went.frame.long)) b.is two
          (settled_roomy s X Y nodes n mid end (lower_all (ends_in X n) (halves_in X n mid)) b.tabled.lists ends_roomy v)
          (tabled_steady s g X Y nodes n less d.few long v.went.frame b.tabled) out room unsaid

      pub first_outside : Outside 0 (16 * nodes) out (freed_all nodes (leads_to_none 1) (waited_from Y n mid end) (freed_all nodes (not_led_to 1) (waited_from X n 0 mid) out))
      first_outside = outside_trans (freed_outside nodes (not_led_to 1) (waited_from X n 0 mid) out) (freed_outside nodes (leads_to_none 1) (waited_from Y n mid end) (freed_all nodes (not_led_to 1) (waited_from X n 0 mid) out))
