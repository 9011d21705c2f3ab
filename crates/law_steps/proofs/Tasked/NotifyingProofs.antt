-- A due notification begins: it takes its turns, with the transfers of the bindings that listen to the property.
use Rattle.std.proofs.Common.{◌≡◌, refl, sym, ap, ◌∙◌, ℕ, suc, ◌+◌, ◌≤◌, Bool, true, List, [], ◌∷◌, ◌++◌, Option, None, Some, arith}
use Rattle.std.specs.Prelude.{nat_eq, ◌&&◌}
use Rattle.ui_machine.specs.Seq.{total}
use Rattle.ui_machine.specs.Definition.{Definition}
use Rattle.ui_machine.specs.Definition.Kinds.{Kind}
use Rattle.ui_machine.specs.Definition.Lookups.{spec_of, type_of}
use Rattle.ui_machine.specs.Definition.Properties.{Spec}
use Rattle.ui_machine.specs.Definition.Signals.{Signal}
use Rattle.ui_machine.specs.Definition.Values.{Value}
use Rattle.ui_machine.specs.Output.Lines as lines
use Rattle.ui_machine.specs.Output.Text.{text_of_line}
use Rattle.ui_machine.specs.Rules.Build.{is_making}
use Rattle.ui_machine.specs.Rules.EmissionPlan.{signal_of, signal_at, class_handler_of, fits_detail, runs_for, notification, notify_plan, notifying}
use Rattle.ui_machine.specs.Rules.Programs.{all_fit}
use Rattle.ui_machine.specs.Rules.Transform.{kind_fits}
use Rattle.ui_machine.specs.State.Bindings.{transfers}
use Rattle.ui_machine.specs.State.Config.{World, said, starts}
use Rattle.ui_machine.specs.State.Handlers.{Handler}
use Rattle.ui_machine.specs.State.Objects.{Object, living}
use Rattle.ui_machine.specs.State.Tasks.{PlanEntry, Emission, Frame, Task, Setting, Notifying, Beginning, Emitting, Transferring, Unsetting, Thawing, Running, Answering, Calling, Constructing, Building, Handling, Due}
use Rattle.ui_machine.specs.Steps.{uncounted}
use Rattle.law_typing.specs.Graph.{Raised, class_handler_for, listed_if}
use Rattle.law_typing.specs.Graph.Channels.{property, of_class, is_channel, is_readable_one}
use Rattle.law_typing.specs.Graph.Channels as channels
use Rattle.law_typing.specs.Graph.Tables.{Tables}
use Rattle.law_typing.specs.Verdict.Accepted.{Each}
use Rattle.law_typing.specs.Verdict.Report.{property_name}
use Rattle.law_typing.specs.Laws.WellRead.{HasNotify}
use Rattle.law_typing.specs.Laws.StepsKeepGood.{IsGood}
use Rattle.law_typing.specs.Good.Standing.{Standing, standing, view, View, class_by}
use Rattle.law_typing.specs.Good.ComingDown.{none, results, result_of_emission, awaited, Comes}
use Rattle.law_typing.specs.Good.Agenda.{AgendaGood}
use Rattle.law_typing.specs.Good.DueCosts.{turn_cost, turn_depth}
use Rattle.law_typing.specs.Good.Emissions.{TurnGood, EmissionFits}
use Rattle.law_typing.specs.Good.Handlers.{runs_at}
use Rattle.law_typing.specs.Good.Programs.{RunningGood}
use Rattle.law_typing.proofs.Lists.{both_parts}
use Rattle.law_static.specs.Raises.{raised_there, ChannelKnown}
use Rattle.law_static.proofs.NotifyCostProofs.{notify_costs}
use Rattle.law_static.proofs.RaisesProofs.{channels_known}
use Rattle.law_steps.specs.Kept.Alike.{Alike}
use Rattle.law_steps.proofs.Tasked.BeginningProofs.{Placed, placed}
use Rattle.law_steps.proofs.Tasked.Changed.{AsFrozen, no_sets, queue_moved, changed_well, fine_counted}
use Rattle.law_steps.proofs.Tasked.First.{First, StepIsFine, fine_of, whole_told, pool_alike, build_alike, costs, depths, most}
use Rattle.law_steps.proofs.Tasked.Lowest.{lowest_above}
use Rattle.law_steps.proofs.Tasked.Over.{own_deep, transfers_good}
use Rattle.law_steps.proofs.Tasked.Planned.{Emitted, plan_good}
use Rattle.law_steps.specs.Tasked.Notifying.{DueNotificationsAreFine}

-- ** where nothing was to come down an emission's result may

running_further : (d : Definition) (costs depths : Tables) (s : Standing) (k : Option Kind) (f : Frame) (steps frames : ℕ) → RunningGood d costs depths s none f steps frames →
    RunningGood d costs depths s (results k) f steps frames
running_further d costs depths s k f steps frames g = record {
  p = g.p;
  is = g.is;
  b = g.b;
  in_block = g.in_block;
  inside = g.inside;
  few = g.few;
  counted = g.counted;
  ks = g.ks;
  fit = g.fit;
  comes = (same f.into g.comes).0;
  kept = g.kept;
  at_site = (same f.into g.comes).1 ∙ g.at_site;
  typed = rw ((same f.into g.comes).1) g.typed;
  bracketed = g.bracketed;
  cheap = rw ((same f.into g.comes).1) g.cheap;
  shallow = g.shallow;
}
  where
    same : (into : Option ℕ) → Comes into none → Comes into (results k) × (awaited g.ks into (results k) ≡ awaited g.ks into none)
    same None c = (tt, refl)
    same (Some to) c = absurd (let e = c.1 in cc)

pub may_come : (d : Definition) (costs depths : Tables) (v : View) (most : ℕ) (k : Option Kind) (rest : List Task) (budget : ℕ) → AgendaGood d costs depths v most none rest budget →
    AgendaGood d costs depths v most (results k) rest budget
may_come d costs depths v most k (Running f ∷ rest) budget g = (g.0, g.1, g.2, (tt, running_further d costs depths v.stands k f g.0 g.1 g.3.1), g.4, g.5, g.6)
may_come d costs depths v most k (Emitting x turns ∷ rest) budget g =
    let old = g.3 in
    (g.0, g.1, g.2, record { fits = old.fits; suits = tt; turns_fit = old.turns_fit; cheap = old.cheap; shallow = old.shallow; one = old.one }, g.4, g.5, g.6)
may_come d costs depths v most k [] budget g = tt
may_come d costs depths v most k (Setting id slot x ∷ rest) budget g = g
may_come d costs depths v most k (Notifying id slot ∷ rest) budget g = g
may_come d costs depths v most k (Beginning x ∷ rest) budget g = g
may_come d costs depths v most k (Transferring number back ∷ rest) budget g = g
may_come d costs depths v most k (Unsetting number ∷ rest) budget g = g
may_come d costs depths v most k (Thawing id slots ∷ rest) budget g = g
may_come d costs depths v most k (Answering source ∷ rest) budget g = g
may_come d costs depths v most k (Calling call ∷ rest) budget g = g
may_come d costs depths v most k (Constructing id todo held ∷ rest) budget g = g
may_come d costs depths v most k (Building items ∷ rest) budget g = g
may_come d costs depths v most k (Handling request ∷ rest) budget g = g
may_come d costs depths v most k (Due source ∷ rest) budget g = g

-- ** the step

notifies : (d : Definition) (w : World) (id slot : ℕ) (o : Object) (p : Spec) (s : Signal) → living w.objects id ≡ Some o → spec_of d o.class slot ≡ Some p → signal_of d o.class 0 ≡ Some s →
    notifying d w id slot ≡ starts (said d w (lines.notify id p.name)) (Emitting (notification id p.name) (notify_plan d w s o.class id slot p.name) ∷ [])
unfolding notifying signal_at
notifies d w id slot o p s lives has is = rw (lives, has, is) refl

no_args : (f : Value → Kind → Bool) (params : List Kind) → params ≡ [] → all_fit f [] params ≡ true
no_args f params e = rw e refl

module _ {d : Definition} (id slot : ℕ) (t : First d (Notifying id slot)) where
  open t use {well, a, w, rest, n, g}

  abbrev task : Task
  task = Notifying id slot

  abbrev place : ℕ
  place = g.agenda.3.1.due.place

  abbrev spec : Spec
  spec = g.agenda.3.1.due.spec

  p : Placed d w id place
  p = placed d well w g.objects id place g.agenda.3.1.due.is

  notify : HasNotify d p.o.class
  notify =
      let sort = (well.places p.o.place p.good.place p.good.is).class in
      well.types.notify p.o.class p.known (ap (λ c. (type_of d c).sort) p.good.class ∙ sort)

  there : is_channel d (property place slot) ≡ true
  there = ap is_readable_one g.agenda.3.1.due.has ∙ g.agenda.3.1.readable

  abbrev r : Raised
  r = raised_there d (property place slot)

  known : ChannelKnown d a (property place slot)
  known = channels_known d a (property place slot) there

  spec_is : spec_of d p.o.class slot ≡ Some spec
  spec_is = sym (ap (channels.spec_if d slot) p.in_class) ∙ g.agenda.3.1.due.has

  abbrev e : Emission
  e = notification id spec.name

  by_class : r.class_handler ≡ listed_if (class_handler_of d p.o.class notify.signal.name)
  by_class = ap (of_class (class_handler_for d (property place slot))) p.in_class ∙ ap (λ name. listed_if (class_handler_of d p.o.class name)) (sym notify.name)

  -- what runs for the notification runs at the property
  runs_there : (h : Handler) → runs_for id 0 (Some spec.name) h ≡ true → runs_at d h (property place slot) ≡ true
  runs_there h runs =
      let parts = both_parts (nat_eq h.object id && nat_eq h.signal 0) (fits_detail h.detail (Some spec.name)) runs in
      let first = both_parts (nat_eq h.object id) (nat_eq h.signal 0) parts.0 in
      ap (λ o. nat_eq h.signal 0 && fits_detail h.detail (Some (property_name o))) g.agenda.3.1.due.has ∙ (ap (λ b. b && fits_detail h.detail (Some spec.name)) first.1 ∙ parts.1)

  abbrev emitted : Emitted d a w (task ∷ rest) e
  emitted = record {
    types = well.types;
    handlers = g.handlers;
    place = place;
    class = p.o.class;
    sig = notify.signal;
    stands = g.agenda.3.1.due.is;
    of_class = p.in_class;
    has = notify.is;
    known = p.known;
    r = r;
    there = known.known;
    at = refl;
    by_class = by_class;
    runs = runs_there;
  }

  abbrev turns : List PlanEntry
  turns = notify_plan d w notify.signal p.o.class id slot spec.name

  abbrev later : List Task
  later = Emitting e turns ∷ rest

  cheap : 1 + total (turn_cost d (costs t) (view w) rest) turns ≤ g.agenda.0
  cheap =
      let plan = notify_costs d a w (task ∷ rest) rest id place slot p.o.class notify.signal
      (record { stands = g.agenda.3.1.due.is; of_class = p.in_class; readable = there; called = notify.name; flags = notify.flags }) g.handlers g.bindings in
      let named = ap (λ o. total (turn_cost d (costs t) (view w) rest) (notify_plan d w notify.signal p.o.class id slot (property_name o))) g.agenda.3.1.due.has in
      let due = g.agenda.3.1.due.cheap in
      omega (arith, plan, named, due)

  Turn : PlanEntry → Type 0
  Turn turn = TurnGood d (view w) e turn × (1 + turn_depth d (depths t) (view w) rest turn ≤ g.agenda.1)

  turns_good : Each Turn turns
  unfolding Turn
  turns_good =
      let own = own_deep d a w (task ∷ rest) rest id place slot g.agenda.3.1.due.is g.bindings known g.agenda.1 g.agenda.3.1.due.shallow in
      plan_good d a w (task ∷ rest) rest e emitted Turn (λ turn good. (good.0, (let low = good.1 in omega (arith, low, own)))) notify.signal.flags (transfers id slot w.bindings)
      (transfers_good d a w (task ∷ rest) rest id place slot g.agenda.3.1.due.is g.bindings known g.agenda.1 g.agenda.3.1.due.shallow e refl)

  fits_all : (xs : List PlanEntry) → Each Turn xs → Each (TurnGood d (view w) e) xs × Each (λ turn. 1 + turn_depth d (depths t) (view w) rest turn ≤ g.agenda.1) xs
  unfolding Turn
  fits_all [] all = (tt, tt)
  fits_all (x ∷ xs) all = let more = fits_all xs all.1 in ((all.0.0, more.0), (all.0.1, more.1))

  fits : EmissionFits d (standing w.objects) e
  fits = record {
    place = place;
    class = p.o.class;
    sig = notify.signal;
    is = g.agenda.3.1.due.is;
    of_class = p.in_class;
    has = notify.is;
    args = no_args (kind_fits (class_by d (standing w.objects)) d.types) notify.signal.params notify.params;
    value = λ v some. absurd (cc);
  }

  now_alike : Alike (task ∷ rest) later
  now_alike = record { items = λ f. omega arith; unset = λ number. omega arith; request_step = omega arith; makes = omega arith }

  as_later : AsFrozen d (task ∷ rest) later
  as_later = record {
    frozen = λ id. omega arith;
    lowest = λ x some. (
        let above = lowest_above d x (Emitting e turns) rest (omega (arith, some)) in
        let was = lowest_above d x task rest (omega (arith, some)) in
        omega (arith, above, was));
  }

  begun_good : (lines : List (List ℕ)) → IsGood d a t.most_counted (record { world = record w { transcript = lines; result = w.result }; agenda = later; counted = suc n })
  begun_good lines =
      let all = fits_all turns turns_good in
      let own = own_deep d a w (task ∷ rest) rest id place slot g.agenda.3.1.due.is g.bindings known g.agenda.1 g.agenda.3.1.due.shallow in
      changed_well t (record w { transcript = lines; result = w.result }) later (suc n)
      (record {
        whole = whole_told t later lines w.result now_alike;
        pool = pool_alike t later now_alike;
        build = build_alike t later now_alike;
        sets = no_sets d (record { world = record w { transcript = lines; result = w.result }; agenda = later; counted = suc n }) (let unset = g.sets.first in omega (arith, unset)) g.sets.alone;
        queues = λ id o is. queue_moved d (depths t) (most t) (task ∷ rest) later n (suc n) id o as_later (omega arith) (g.queues id o is);
        alive = refl;
        to_make = now_alike.items is_making;
        makes = (let same = now_alike.makes in omega (arith, same));
        budget = total (turn_cost d (costs t) (view w) rest) turns + g.agenda.2;
        good = (
          total (turn_cost d (costs t) (view w) rest) turns,
          g.agenda.1,
          g.agenda.2,
          record { fits = fits; suits = tt; turns_fit = all.0; cheap = omega arith; shallow = all.1; one = omega (arith, own) },
          g.agenda.4,
          omega arith,
          may_come d (costs t) (depths t) (view w) (most t) (result_of_emission d (standing w.objects) e) rest g.agenda.2 g.agenda.6,
        );
        spent = (let cheap = cheap in omega (arith, cheap));
      })

  notify_fine : StepIsFine t
  notify_fine =
      let line = w.transcript ++ text_of_line d.types (lines.notify id spec.name) ∷ [] in
      fine_counted t (notifying d w id slot) (record { world = record w { transcript = line; result = w.result }; agenda = later; counted = suc n }) refl (let cheap = cheap in omega (arith, cheap))
      (ap (uncounted rest (suc n)) (notifies d w id slot p.o spec notify.signal p.lives spec_is notify.is))
      (begun_good line)

pub due_notifications_are_fine : DueNotificationsAreFine
due_notifications_are_fine id slot = fine_of (λ d t. notify_fine id slot t)
