-- A due emission begins: it takes its turns.
use Rattle.std.proofs.Common.{◌≡◌, refl, sym, ap, subst, ◌∙◌, ℕ, zero, suc, ◌+◌, ◌<◌, ◌≤◌, true, List, [], ◌∷◌, ◌++◌, length, Some, slice_get, arith, lt-ltb}
use Rattle.std.specs.Prelude.{option_map}
use Rattle.ui_machine.specs.Seq.{total}
use Rattle.ui_machine.specs.Definition.{Definition}
use Rattle.ui_machine.specs.Definition.Lookups.{class_of}
use Rattle.ui_machine.specs.Definition.Places.{Place}
use Rattle.ui_machine.specs.Definition.Signals.{Signal}
use Rattle.ui_machine.specs.Output.Lines as lines
use Rattle.ui_machine.specs.Output.Text.{text_of_line}
use Rattle.ui_machine.specs.Rules.Build.{is_making}
use Rattle.ui_machine.specs.Rules.EmissionPlan.{signal_of, signal_at, class_handler_of, fits_detail, runs_for, emission_plan, beginning_emission}
use Rattle.ui_machine.specs.Rules.Programs.{all_fit}
use Rattle.ui_machine.specs.Rules.Transform.{kind_fits}
use Rattle.ui_machine.specs.State.Config.{World, said, starts}
use Rattle.ui_machine.specs.State.Handlers.{Handler}
use Rattle.ui_machine.specs.State.Objects.{Object, living, class_in}
use Rattle.ui_machine.specs.State.Tasks.{PlanEntry, Emission, Task, Beginning, Emitting}
use Rattle.ui_machine.specs.Steps.{uncounted}
use Rattle.law_typing.specs.Rules.RegisterKinds.{class_at}
use Rattle.law_typing.specs.Graph.{Raised, listed_if, stages_of}
use Rattle.law_typing.specs.Graph.Channels.{signal, is_channel}
use Rattle.law_typing.specs.Graph.Depths.{depth_within}
use Rattle.law_typing.specs.Verdict.Accepted.{Each}
use Rattle.law_typing.specs.Laws.WellRead.{WellRead}
use Rattle.law_typing.specs.Laws.StepsKeepGood.{IsGood}
use Rattle.law_typing.specs.Good.Standing.{standing, view}
use Rattle.law_typing.specs.Good.Objects.{ObjectsGood, ObjectGood}
use Rattle.law_typing.specs.Good.DueCosts.{turn_cost, turn_depth}
use Rattle.law_typing.specs.Good.Emissions.{TurnGood}
use Rattle.law_typing.specs.Good.Handlers.{runs_at}
use Rattle.law_typing.proofs.Lists.{both_parts}
use Rattle.law_static.specs.Raises.{raised_there}
use Rattle.law_static.proofs.FitsProofs.{classes_agree}
use Rattle.law_static.proofs.PlanCostProofs.{plan_costs}
use Rattle.law_static.proofs.RaisesProofs.{channels_known}
use Rattle.law_steps.specs.Kept.Alike.{Alike}
use Rattle.law_steps.proofs.Kept.NewProofs.{at_place}
use Rattle.law_steps.proofs.Tasked.Changed.{AsFrozen, no_sets, queue_moved, changed_well, fine_counted}
use Rattle.law_steps.proofs.Tasked.First.{First, StepIsFine, fine_of, whole_told, pool_alike, build_alike, costs, depths, most}
use Rattle.law_steps.proofs.Tasked.Lowest.{lowest_above}
use Rattle.law_steps.proofs.Tasked.Planned.{Emitted, plan_good}
use Rattle.law_steps.specs.Tasked.Beginning.{BeginningsAreFine}

-- the object at a place, and its class
pub record Placed (d : Definition) (w : World) (id place : ℕ) : Type 0 where
  pub o : Object
  pub lives : living w.objects id ≡ Some o
  pub at : o.place ≡ place
  pub in_class : class_at d place ≡ Some o.class
  pub known : o.class < length d.types
  pub good : ObjectGood d w (standing w.objects) id o

pub placed : (d : Definition) → WellRead d → (w : World) → ObjectsGood d w → (id place : ℕ) → standing w.objects id ≡ Some place → Placed d w id place
placed d well w objects id place is =
    let x = at_place w.objects id place is in
    let o = objects id x.0 x.1 in
    let class : class_at d place ≡ Some x.0.class = ap (class_at d) (sym x.2) ∙ (ap (option_map (λ (p : Place). p.class)) o.is ∙ ap (λ (c : ℕ). Some c) (sym o.class)) in
    let known = (well.places x.0.place o.place o.is).known in
    record { o = x.0; lives = x.1; at = x.2; in_class = class; known = subst (λ c. c < length d.types) (sym o.class) known; good = o }

within_length : {A : Type 0} (xs : List A) (i : ℕ) (x : A) → slice_get xs i ≡ Some x → i < length xs
within_length [] i x e = absurd (cc)
within_length (y ∷ ys) zero x e = omega arith
within_length (y ∷ ys) (suc i) x e = let h = within_length ys i x e in omega (arith, h)

-- a signal of a place's class, other than `notify`, is a channel
pub signal_is_channel : (d : Definition) (place class number : ℕ) (sig : Signal) → class_at d place ≡ Some class → signal_of d class number ≡ Some sig → 0 < number → is_channel d (signal place number) ≡ true
signal_is_channel d place class number sig in_class has some =
    let low = within_length (class_of d class).signals number sig has in
    rw (in_class, lt-ltb 0 number some, lt-ltb number (length (class_of d class).signals) low) refl

-- what runs for a signal runs at its channel
runs_for_signal : (d : Definition) (place : ℕ) (e : Emission) (h : Handler) → runs_for e.object e.signal e.detail h ≡ true → runs_at d h (signal place e.signal) ≡ true
runs_for_signal d place e h runs = (both_parts _ _ (both_parts _ (fits_detail h.detail e.detail) runs).0).1

begins : (d : Definition) (w : World) (e : Emission) (o : Object) (sig : Signal) → living w.objects e.object ≡ Some o → signal_of d o.class e.signal ≡ Some sig →
    all_fit (kind_fits (class_in w.objects) d.types) e.args sig.params ≡ true →
    beginning_emission d w e ≡ starts (said d w (lines.emit e.object sig.name e.detail e.args)) (Emitting e (emission_plan d w sig o.class e) ∷ [])
unfolding beginning_emission signal_at
begins d w e o sig lives has fit = rw (lives, has, fit) refl

module _ {d : Definition} (e : Emission) (t : First d (Beginning e)) where
  open t use {well, a, w, rest, n, g}

  abbrev task : Task
  task = Beginning e

  abbrev place : ℕ
  place = g.agenda.3.1.fits.place

  p : Placed d w e.object place
  p = placed d well w g.objects e.object place g.agenda.3.1.fits.is

  abbrev sig : Signal
  sig = g.agenda.3.1.fits.sig

  has : signal_of d p.o.class e.signal ≡ Some sig
  has =
      let fits = g.agenda.3.1.fits in
      let same : fits.class ≡ p.o.class = (let f = sym fits.of_class ∙ p.in_class in cc) in
      ap (λ c. signal_of d c e.signal) (sym same) ∙ fits.has

  abbrev r : Raised
  r = raised_there d (signal place e.signal)

  there : is_channel d (signal place e.signal) ≡ true
  there = signal_is_channel d place p.o.class e.signal sig p.in_class has g.agenda.3.1.not_notify

  by_class : r.class_handler ≡ listed_if (class_handler_of d p.o.class sig.name)
  by_class = rw (p.in_class, has) refl

  staged : r.stages ≡ stages_of (Some sig)
  staged = rw (p.in_class, has) refl

  abbrev emitted : Emitted d a w (task ∷ rest) e
  emitted = record {
    types = well.types;
    handlers = g.handlers;
    place = place;
    class = p.o.class;
    sig = sig;
    stands = g.agenda.3.1.fits.is;
    of_class = p.in_class;
    has = has;
    known = p.known;
    r = r;
    there = (channels_known d a (signal place e.signal) there).known;
    at = refl;
    by_class = by_class;
    runs = λ h. runs_for_signal d place e h;
  }

  abbrev turns : List PlanEntry
  turns = emission_plan d w sig p.o.class e

  abbrev later : List Task
  later = Emitting e turns ∷ rest

  cheap : 1 + total (turn_cost d (costs t) (view w) rest) turns ≤ g.agenda.0
  cheap =
      let known = channels_known d a (signal place e.signal) there in
      let plan = plan_costs d (costs t) (depths t) w (task ∷ rest) rest r e.object place e.signal p.o.class sig e.detail g.handlers g.agenda.3.1.fits.is known.known refl by_class staged in
      let is = known.costs in
      let due = g.agenda.3.1.cheap in
      omega (arith, plan, is, due)

  deep : 1 + depth_within (depths t) r ≤ g.agenda.1
  deep = let known = (channels_known d a (signal place e.signal) there).deep in let due = g.agenda.3.1.shallow in omega (arith, known, due)

  Turn : PlanEntry → Type 0
  Turn turn = TurnGood d (view w) e turn × (1 + turn_depth d (depths t) (view w) rest turn ≤ g.agenda.1)

  turns_good : Each Turn turns
  unfolding Turn
  turns_good =
      plan_good d a w (task ∷ rest) rest e emitted Turn
      (λ turn good. (good.0, (let low = good.1 in let deep = deep in omega (arith, low, deep)))) sig.flags [] tt

  fits_all : (xs : List PlanEntry) → Each Turn xs → Each (TurnGood d (view w) e) xs × Each (λ turn. 1 + turn_depth d (depths t) (view w) rest turn ≤ g.agenda.1) xs
  unfolding Turn
  fits_all [] all = (tt, tt)
  fits_all (x ∷ xs) all = let more = fits_all xs all.1 in ((all.0.0, more.0), (all.0.1, more.1))

  now_alike : Alike (task ∷ rest) later
  now_alike = record { items = λ f. omega arith; unset = λ number. omega arith; request_step = omega arith; makes = omega arith }

  as_later : AsFrozen d (task ∷ rest) later
  as_later = record {
    frozen = λ id. omega arith;
    lowest = λ id some. (
        let above = lowest_above d id (Emitting e turns) rest (omega (arith, some)) in
        let was = lowest_above d id task rest (omega (arith, some)) in
        omega (arith, above, was));
  }

  begun_good : (lines : List (List ℕ)) → IsGood d a t.most_counted (record { world = record w { transcript = lines; result = w.result }; agenda = later; counted = suc n })
  begun_good lines =
      let fits = g.agenda.3.1.fits in
      let all = fits_all turns turns_good in
      changed_well t (record w { transcript = lines; result = w.result }) later (suc n)
      (record {
        whole = whole_told t later lines w.result now_alike;
        pool = pool_alike t later now_alike;
        build = build_alike t later now_alike;
        sets = no_sets d (record { world = record w { transcript = lines; result = w.result }; agenda = later; counted = suc n }) (let unset = g.sets.first in omega (arith, unset)) g.sets.alone;
        queues = λ id o is. queue_moved d (depths t) (most t) (task ∷ rest) later n (suc n) id o as_later (omega arith) (g.queues id o is);
        alive = refl;
        to_make = now_alike.items is_making;
        makes = (let same = now_alike.makes in omega (arith, same));
        budget = total (turn_cost d (costs t) (view w) rest) turns + g.agenda.2;
        good = (
          total (turn_cost d (costs t) (view w) rest) turns,
          g.agenda.1,
          g.agenda.2,
          record { fits = fits; suits = tt; turns_fit = all.0; cheap = omega arith; shallow = all.1; one = (let deep = deep in omega (arith, deep)) },
          g.agenda.4,
          omega arith,
          g.agenda.6,
        );
        spent = (let cheap = cheap in omega (arith, cheap));
      })

  begin_fine : StepIsFine t
  begin_fine =
      let fits = g.agenda.3.1.fits in
      let args = ap (λ c. all_fit (kind_fits c d.types) e.args sig.params) (classes_agree d w g.objects) ∙ fits.args in
      let line = w.transcript ++ text_of_line d.types (lines.emit e.object sig.name e.detail e.args) ∷ [] in
      fine_counted t (beginning_emission d w e) (record { world = record w { transcript = line; result = w.result }; agenda = later; counted = suc n }) refl (let cheap = cheap in omega (arith, cheap))
      (ap (uncounted rest (suc n)) (begins d w e p.o sig p.lives has args))
      (begun_good line)

pub beginnings_are_fine : BeginningsAreFine
beginnings_are_fine e = fine_of (λ d t. begin_fine e t)
