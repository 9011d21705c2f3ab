-- A construction sets a property: the set is due at once, above the rest of the construction.
use Rattle.std.proofs.Common.{◌≡◌, refl, ap, ℕ, ◌+◌, Bool, true, List, [], ◌∷◌, Ok, arith}
use Rattle.ui_machine.specs.Seq.{total}
use Rattle.ui_machine.specs.Definition.{Definition}
use Rattle.ui_machine.specs.Definition.Properties.{Spec, is_writable}
use Rattle.ui_machine.specs.Definition.Values.{Value}
use Rattle.ui_machine.specs.Rules.Build.{is_making}
use Rattle.ui_machine.specs.Rules.Construction.{apply_construct_property}
use Rattle.ui_machine.specs.Rules.Sets.{spec_at}
use Rattle.ui_machine.specs.State.Config.{World, starts}
use Rattle.ui_machine.specs.State.References.{mentions}
use Rattle.ui_machine.specs.State.Tasks.{ConstructStep, sets, Task, Setting, Constructing}
use Rattle.ui_machine.specs.Steps.{uncounted}
use Rattle.law_typing.specs.Laws.StepsKeepGood.{IsGood}
use Rattle.law_typing.specs.Graph.Channels.{property}
use Rattle.law_typing.specs.Graph.Tables.{entry}
use Rattle.law_typing.specs.Good.Builds.{step_cost}
use Rattle.law_typing.specs.Good.DueCosts.{due_cost}
use Rattle.law_steps.specs.Kept.Alike.{Alike}
use Rattle.law_static.proofs.StartProofs.{due_within}
use Rattle.law_steps.proofs.Instructed.ReadProofs.{spec_is}
use Rattle.law_steps.proofs.Instructed.SetProofs.{held_from}
use Rattle.law_steps.proofs.Tasked.Changed.{AsFrozen, queue_moved, changed_well}
use Rattle.law_steps.proofs.Tasked.First.{First, StepIsFine, fine_where, fine_of, whole_told, pool_alike, build_alike, costs, depths, most}
use Rattle.law_steps.proofs.Tasked.Lowest.{lowest_above}
use Rattle.law_steps.proofs.Tasked.SettingProofs.{owns}
use Rattle.law_steps.specs.Tasked.Starting.{ConstructionsSet}

set_leads : (d : Definition) (w : World) (id slot : ℕ) (v : Value) (tasks : List Task) (s : Spec) → spec_at d w.objects id slot ≡ Ok s → is_writable s ≡ true →
    apply_construct_property d w id slot v tasks ≡ starts w (Setting id slot v ∷ tasks)
unfolding apply_construct_property
set_leads d w id slot v tasks s at writable = rw (at, writable) refl

module _ {d : Definition} (id slot : ℕ) (v : Value) (todo : List ConstructStep) (held : Bool) (t : First d (Constructing id (sets slot v ∷ todo) held)) where
  open t use {a, w, rest, n, g}

  abbrev task : Task
  task = Constructing id (sets slot v ∷ todo) held

  abbrev below : List Task
  below = Constructing id todo held ∷ rest

  abbrev later : List Task
  later = Setting id slot v ∷ below

  now_alike : Alike (task ∷ rest) later
  now_alike = record { items = λ f. omega arith; unset = λ number. omega arith; request_step = omega arith; makes = omega arith }

  as_later : AsFrozen d (task ∷ rest) later
  as_later = record {
    frozen = λ id. omega arith;
    lowest = λ x some. (let above = lowest_above d x (Setting id slot v) below (omega (arith, some)) in omega (arith, above));
  }

  set_good : IsGood d a t.most_counted (record { world = w; agenda = later; counted = n })
  set_good =
      let c = g.agenda.3.1 in
      let first = c.fits.0 in
      let due = due_within d a below c.place slot in
      let cost = due_cost d (costs t) below (property c.place slot) in
      let deep = entry (depths t).channels (property c.place slot) in
      let left = total (step_cost d (costs t) c.place) todo in
      let cheap = c.cheap in
      let shallow = c.shallow.0 in
      let low = g.agenda.4 in
      changed_well t w later n
      (record {
        whole = whole_told t later w.transcript w.result now_alike;
        pool = pool_alike t later now_alike;
        build = build_alike t later now_alike;
        sets = record {
          alone = (let alone = g.sets.alone in omega (arith, alone));
          first = (let unset = g.sets.first in omega (arith, unset));
          held = λ some. held_from (mentions d (record { world = w; agenda = task ∷ rest; counted = n })) _ (λ o. omega arith) 1 w.objects t.settled;
        };
        queues = λ id o is. queue_moved d (depths t) (most t) (task ∷ rest) later n n id o as_later (omega arith) (g.queues id o is);
        alive = refl;
        to_make = now_alike.items is_making;
        makes = (let same = now_alike.makes in omega (arith, same));
        budget = cost + (left + g.agenda.2);
        good = (
          cost,
          deep,
          left + g.agenda.2,
          (
            tt,
            record {
              due = record { place = c.place; is = c.is; spec = first.0; has = first.1; cheap = omega arith; shallow = due.1 };
              kind = first.2;
              lives = first.3;
            },
          ),
          omega (arith, low, shallow),
          omega arith,
          (
            left,
            g.agenda.1,
            g.agenda.2,
            (tt, record { place = c.place; is = c.is; for_builder = c.for_builder; for_program = c.for_program; fits = c.fits.1; cheap = omega arith; shallow = c.shallow.1; one = c.one }, g.agenda.3.2),
            g.agenda.4,
            omega arith,
            g.agenda.6,
          ),
        );
        spent = (let node = due.0 in omega (arith, node, cheap));
      })

  set_fine : StepIsFine t
  set_fine =
      let c = g.agenda.3.1 in
      let first = c.fits.0 in
      let p = owns d w g.objects id c.place slot first.0 c.is first.1 in
      fine_where t (record { world = w; agenda = later; counted = n })
      (ap (uncounted rest n) (set_leads d w id slot v (Constructing id todo held ∷ []) first.0 (spec_is d w id slot p.o first.0 p.lives p.has) first.5))
      set_good

pub constructions_set : ConstructionsSet
constructions_set id slot v todo held = fine_of (λ d t. set_fine id slot v todo held t)
