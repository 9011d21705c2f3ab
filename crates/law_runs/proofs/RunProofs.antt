-- Identities are left for all that is still to be made, from the beginning of a dispatch on.
use Rattle.std.proofs.Common.{◌≡◌, refl, subst, sym, ℕ, zero, suc, ◌+◌, ◌<◌, ◌≤◌, Bool, true, false, cond, not, List, [], ◌∷◌, ◌++◌, length, Option, None, Some, ◌&&◌, ◌||◌, arith}
use Rattle.std.specs.Option.{IfSome}
use Rattle.std.specs.Prelude.{is_some, nat_lt}
use Rattle.std.proofs.lemmas.Bool.Decides.{nat_tests}
use Rattle.ui_machine.specs.Definition.{Definition}
use Rattle.ui_machine.specs.Definition.Places.{Place}
use Rattle.ui_machine.specs.Instructions.Objects.{has_room_for_object}
use Rattle.ui_machine.specs.Rules.Build.{adopts_if, build_items, connected_items, is_making, made_items, numbered, to_make}
use Rattle.ui_machine.specs.Rules.Construction.{has_shape, peer_left}
use Rattle.ui_machine.specs.Runs.{Reaches}
use Rattle.ui_machine.specs.Seq.{total}
use Rattle.ui_machine.specs.State.Config.{Config, World}
use Rattle.ui_machine.specs.State.Objects.{Object, live, living, most_identities}
use Rattle.ui_machine.specs.State.Peers.{Reply}
use Rattle.ui_machine.specs.State.Tasks.{Task, connects, makes}
use Rattle.law_runs.specs.Identities.{BuildsHaveIdentities, RequestsHaveIdentities, SourcesHaveIdentities}
use Rattle.law_runs.specs.Kin.{BuildsHaveKinMade, HasKinMade, IdentitiesLastWithKin, KinLast, KinMade}
use Rattle.law_runs.proofs.BuildProofs.{numbered_none, parts_taken}
use Rattle.law_runs.proofs.Counting.{Counting, both_true}
use Rattle.law_runs.proofs.KinProofs.{AllMade, Made, changed_made, disposed_kin, family_made, left_made, one_more_made, put_made, was_made}
use Rattle.law_runs.proofs.NumberStepProofs.{steps_within}
use Rattle.law_runs.proofs.NumberStartProofs.{Within, total_append}

-- ** the count of identities

-- an object without kin
without_kin : (n : ℕ) (o : Object) → o.children ≡ [] → o.parent ≡ None → KinMade n o
without_kin n o none alone = record { children = subst (AllMade n) (sym none) tt; parent = subst (λ x. IfSome x (λ above. above ≤ n)) (sym alone) tt }

-- an identity is left where a program may make an object
one_left : (most : ℕ) → most_identities ≤ most → (d : Definition) (w : World) (n : ℕ) (rest : List Task) (p : Place) → length w.objects ≡ n → has_room_for_object d w (to_make rest) p ≡ true
    → suc n + to_make rest ≤ most
one_left most enough d w n rest p all room =
    let parts = both_true (nat_lt (live w.objects + to_make rest) d.most_objects) (nat_lt (length w.objects + to_make rest) most_identities && (not (has_shape d p.class) || is_some (peer_left w p))) room in
    let left = both_true (nat_lt (length w.objects + to_make rest) most_identities) (not (has_shape d p.class) || is_some (peer_left w p)) parts.1 in
    let below : length w.objects + to_make rest < most_identities = let lt = left.0 in grind (arith, nat_tests) in
    omega (arith, all, below, enough)

-- identities are counted: an object that is made takes one
abbrev identities_counted : (most : ℕ) → most_identities ≤ most → Counting
identities_counted most enough = record {
  takes = is_making;
  Holds = λ n os last. Made n os;
  IsAmong = λ n id. id ≤ n;
  most = most;
  lives = λ n last os id o made is. subst (λ m. id ≤ m) made.all (was_made os id o is);
  changes = λ n last os id change made same. changed_made n os made id change same;
  adopts = λ n last os parent child made high low. family_made n os made parent child high low;
  leaves = λ n last os id o parent made is at.
      left_made n os made parent id (subst (λ x. IfSome x (λ above. above ≤ n)) at (made.kin id o is).parent) (subst (λ m. id ≤ m) made.all (was_made os id o is));
  disposes = λ d n last os id made low. disposed_kin n d os made id low;
  removes = λ n last os id made low. put_made n os made id None low tt;
  makes_object = λ n last os place o none alone made.
      (let same : suc n ≡ is_making (makes place) + n = omega arith in subst (λ m. Made m (os ++ Some o ∷ [])) same (one_more_made n os made o (without_kin n o none alone)));
  connects_handler = λ n last os place number made. (let same : n ≡ is_making (connects place number) + n = omega arith in subst (λ m. Made m os) same made);
  object_room = λ d w n rest p place made few room. (let left = one_left most enough d w n rest p made.all room in omega (arith, left));
  handler_room = λ d w n rest id signal place number made few room. omega (arith, few);
}

-- ** steps

module _ (most : ℕ) (enough : most_identities ≤ most) (d : Definition) (replies : List Reply) (c e : Config) (reached : Reaches d replies c e) where
  -- where the kin were made, and so many identities are enough, both stay so
  within_last : HasKinMade c.world → length c.world.objects + to_make c.agenda ≤ most → Within (identities_counted most enough) most e.world e.agenda
  within_last kin few = steps_within (identities_counted most enough) d reached.count replies c e reached.steps
      (record { count = length c.world.objects; taken = record { all = refl; kin = kin }; few = few })

pub kin_last : KinLast
kin_last d replies c e reached kin =
    let last = within_last (most_identities + (length c.world.objects + to_make c.agenda)) (omega arith) d replies c e reached kin (omega arith) in
    subst (λ (k : ℕ). (id : ℕ) (o : Object) → living e.world.objects id ≡ Some o → KinMade k o) (sym last.taken.all) last.taken.kin

pub identities_last : IdentitiesLastWithKin
identities_last d replies c e reached kin few =
    let last = within_last most_identities (omega arith) d replies c e reached kin (omega (arith, few)) in
    let all = last.taken.all in
    let few = last.few in
    omega (arith, all, few)

-- ** beginnings

-- one object is made for a place at most
made_few : (place : ℕ) (ps : List Place) → total is_making (made_items place ps) ≤ length ps
made_few place [] = omega arith
made_few place (p ∷ ps) =
    let all = total_append is_making (cond p.is_prototype [] (makes place ∷ adopts_if place p.parent)) (made_items (suc place) ps) in
    let one = by p.is_prototype p.parent in
    let rest = made_few (suc place) ps in
    omega (arith, all, one, rest)
  where
    by : (b : Bool) (parent : Option ℕ) → total is_making (cond b [] (makes place ∷ adopts_if place parent)) ≤ 1
    by true parent = omega arith
    by false None = omega arith
    by false (Some parent) = omega arith

connected_none : (place : ℕ) (ps : List Place) → total is_making (connected_items place ps) ≡ 0
connected_none place [] = refl
connected_none place (p ∷ ps) =
    let all = total_append is_making (numbered (connects place) 0 p.signals) (connected_items (suc place) ps) in
    let one = numbered_none is_making (connects place) (λ n. refl) 0 p.signals in
    let rest = connected_none (suc place) ps in
    omega (arith, all, one, rest)

-- the build makes one object for a place at most
build_few : (d : Definition) → total is_making (build_items d) ≤ length d.places
build_few d =
    let parts = parts_taken is_making (λ place slot to. refl) (λ number. refl) d in
    let made = made_few 0 d.places in
    let connected = connected_none 0 d.places in
    omega (arith, parts, made, connected)

pub builds_have_identities : BuildsHaveIdentities
builds_have_identities d peers few = let items = build_few d in omega (arith, few, items)

pub requests_have_identities : RequestsHaveIdentities
requests_have_identities d w r few = omega (arith, few)

pub sources_have_identities : SourcesHaveIdentities
sources_have_identities w number few = omega (arith, few)

pub builds_have_kin_made : BuildsHaveKinMade
builds_have_kin_made d peers zero o is = absurd (cc is)
builds_have_kin_made d peers (suc i) o is = absurd (cc is)
