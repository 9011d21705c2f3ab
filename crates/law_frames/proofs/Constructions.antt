-- What falls still falls where a construction goes on, and where an object is made.
use Rattle.std.proofs.Common.{◌≡◌, inl, inr, refl, ap, ◌∙◌, ℕ, ◌<◌, Bool, true, false, List, [], ◌∷◌, ◌++◌, Some, Ok, arith}
use native.Mathlib.Omega.{arith}
use Rattle.std.specs.Prelude.{IfOk, option_map}
use Rattle.ui_machine.specs.declared.arm.Arm.TheVariants as arms
use Rattle.ui_machine.specs.Seq.{total}
use Rattle.ui_machine.specs.Definition.{Definition}
use Rattle.ui_machine.specs.Definition.Lookups.{program_at}
use Rattle.ui_machine.specs.Definition.Programs.{Program}
use Rattle.ui_machine.specs.Definition.Values.{Value}
use Rattle.ui_machine.specs.Outcome.{known}
use Rattle.ui_machine.specs.Output.Lines as lines
use Rattle.ui_machine.specs.Rules.Programs.{all_fit, beginning_program, first_frame, fits_register, program_before}
use Rattle.ui_machine.specs.Outcome.{After}
use Rattle.ui_machine.specs.Definition.Properties.{is_writable}
use Rattle.ui_machine.specs.Rules.Sets.{spec_at}
use Rattle.ui_machine.specs.Rules.NotifyQueue.{frozen_less}
use Rattle.ui_machine.specs.Rules.Construction.{apply_construct_property, constructed, constructing, thawing_made}
use Rattle.ui_machine.specs.State.Config.{World, Started, builder_entry, is_unbuilt, said, starts, with_objects}
use Rattle.ui_machine.specs.State.Objects.{Object, Objects, changed, living, object_at}
use Rattle.ui_machine.specs.State.Tasks.{ConstructStep, Constructing, sets, runs, thaws, Setting, Thawing, Running, Task}
use Rattle.machine_laws.proofs.KeptProofs.{bind_keeps, kept_at, only_keeps}
use Rattle.law_typing.specs.Good.Freezes.{frozen_by}
use Rattle.law_typing.specs.Good.Standing.{standing}
use Rattle.law_typing.specs.Graph.{graph}
use Rattle.law_typing.specs.Graph.Channels.{property}
use Rattle.law_typing.specs.Graph.Depths.{depth}
use Rattle.law_typing.specs.Graph.Tables.{Tables, entry, of_program}
use Rattle.law_typing.specs.Laws.{IsIn}
use Rattle.law_typing.specs.Laws.StepsKeepGood.{IsGood}
use Rattle.law_typing.specs.Laws.WellRead.{WellRead}
use Rattle.law_typing.specs.Verdict.Accepted.{Accepted}
use Rattle.law_typing.proofs.Lists.{each_in}
use Rattle.law_frames.specs.Frames.{IsHeld, making_height, waited_height, FallsAt, TaskFalls}
use Rattle.law_frames.proofs.Going.{GoesOn}
use Rattle.law_frames.proofs.Leading.{all_each, framed}
use Rattle.law_frames.proofs.Staying.{SameAt, good_from, same_place, under_stays}
use Rattle.law_frames.proofs.Emissions.{first_free, known_is}
use Rattle.law_frames.proofs.Thaws.{none_held, thaw_answer}
use Rattle.law_frames.proofs.Tasks.{LeadsStarted, Nothing, none_left}

module _ (d : Definition) (well : WellRead d) (a : Accepted d) (most_counted : ℕ) (w : World) (id : ℕ) (first : ConstructStep) (steps : List ConstructStep) (held : Bool) (rest : List Task) (n : ℕ)
    (g : IsGood d a most_counted (record { world = w; agenda = Constructing id (first ∷ steps) held ∷ rest; counted = n }))
    (f : FallsAt d a.weighed.depths (record { world = w; agenda = Constructing id (first ∷ steps) held ∷ rest; counted = n })) where
  abbrev table : Tables
  table = a.weighed.depths

  abbrev pub LedMaking : Started → Type 0
  LedMaking = LeadsStarted d a most_counted w (Constructing id (first ∷ steps) held) rest n g f Nothing n

  module _ (v : World) (new : List Task) (good : IsGood d a most_counted (record { world = v; agenda = new ++ Constructing id steps held ∷ rest; counted = n })) (goes : GoesOn Nothing w v)
      (same : SameAt (standing w.objects) (standing v.objects) rest) where
    id_same : standing v.objects id ≡ standing w.objects id
    id_same =
        let from = good_from d a.weighed.costs table (depth (graph d) table) v new (Constructing id steps held ∷ rest) _ good.budget good.agenda in
        same_place w.objects v.objects goes.places id g.agenda.3.1.place from.2.3.1.place g.agenda.3.1.is from.2.3.1.is

    own_making : TaskFalls d table (standing v.objects) v.handlers rest (Constructing id steps held)
    own_making = record {
      place = f.agenda.0.place;
      is = id_same ∙ f.agenda.0.is;
      under = under_stays d table (standing w.objects) (standing v.objects) (making_height d table (Some f.agenda.0.place)) rest same f.agenda.0.under;
      steps_fall = f.agenda.0.steps_fall.1;
    }

    under_making : (m : ℕ) → m < making_height d table (standing w.objects id) → m < making_height d table (standing v.objects id)
    under_making m low = let is = ap (making_height d table) id_same in omega (arith, low, is)

    here_making : (m : ℕ) → m < making_height d table (Some f.agenda.0.place) → m < making_height d table (standing v.objects id)
    here_making m low = let is = ap (making_height d table) (id_same ∙ f.agenda.0.is) in omega (arith, low, is)

  -- the construction goes on below a task
  on_making : (v : World) (task : Task) → ((i slot : ℕ) (o : Object) → living v.objects i ≡ Some o → IsIn slot o.queue → frozen_by d i task ≡ 0) →
      (IsGood d a most_counted (record { world = v; agenda = task ∷ Constructing id steps held ∷ rest; counted = n }) → GoesOn Nothing w v → SameAt (standing w.objects) (standing v.objects) rest →
      TaskFalls d table (standing v.objects) v.handlers (Constructing id steps held ∷ rest) task) → LedMaking (record { world = v; tasks = task ∷ Constructing id steps held ∷ [] })
  on_making v task free own =
      framed d a most_counted w (Constructing id (first ∷ steps) held) rest n g f Nothing v (task ∷ []) (Constructing id steps held) n
      (λ good goes same falls. own_making v (task ∷ []) good goes same)
      (λ good goes same falls. (own good goes same, falls))
      (λ good goes same m u. under_making v (task ∷ []) good goes same m u)
      (λ i slot o is there. (let none = free i slot o is there in omega (arith, none)))
      (λ good goes falls i slot o is there none. absurd none)

  pub makes_run : (number : ℕ) (args : List Value) → of_program table number < making_height d table (Some f.agenda.0.place) → IfOk (program_before d w number args (Constructing id steps held ∷ [])) LedMaking
  unfolding program_before beginning_program
  makes_run number args low =
      bind_keeps (beginning_program d w number args) _ _ (λ s is. kept_at (λ (s : Started). LedMaking (record { world = s.world; tasks = s.tasks ++ Constructing id steps held ∷ [] })) (beginning_program d w number args) s
      (bind_keeps (known arms.Code (program_at d number)) _ _ (λ p at.
      only_keeps (all_fit (fits_register d w.objects) args p.params) arms.Parameters (starts (said d w (lines.run p.name)) (Running (first_frame number p args) ∷ [])) _
      (led p (known_is arms.Code (program_at d number) p at) (said d w (lines.run p.name))))) is)
    where
      led : (p : Program) → program_at d number ≡ Some p → (v : World) → LedMaking (record { world = v; tasks = Running (first_frame number p args) ∷ Constructing id steps held ∷ [] })
      led p at v =
          on_making v (Running (first_frame number p args)) (λ i slot o is there. first_free d well a number p args at i)
          (λ good goes same. here_making v (Running (first_frame number p args) ∷ []) good goes same (of_program table number) low)

  pub makes_set : (slot : ℕ) (x : Value) → entry table.channels (property f.agenda.0.place slot) < making_height d table (Some f.agenda.0.place) →
      IfOk (apply_construct_property d w id slot x (Constructing id steps held ∷ [])) LedMaking
  unfolding apply_construct_property
  makes_set slot x low = bind_keeps (spec_at d w.objects id slot) _ _ (λ s _.
      only_keeps (is_writable s) arms.Flags (starts w (Setting id slot x ∷ Constructing id steps held ∷ [])) _
      (on_making w (Setting id slot x) (λ i slot o is there. refl)
      (λ good goes same. record {
        place = f.agenda.0.place;
        is = f.agenda.0.is;
        under = here_making w (Setting id slot x ∷ []) good goes same (entry table.channels (property f.agenda.0.place slot)) low;
        apart = tt;
      })))

  pub makes_thaw : IfOk (thawing_made w id steps held) LedMaking
  unfolding thawing_made
  makes_thaw = bind_keeps (changed w.objects id frozen_less) _ _ (λ x is.
      on_making (with_objects w x.state) (Thawing id x.answer) (λ i slot o is there. refl)
      (λ good goes same. all_each _ x.answer (λ slot there. low x is good goes same slot there)))
    where
      low : (x : After Objects (List ℕ)) → changed w.objects id frozen_less ≡ Ok x →
          (good : IsGood d a most_counted (record { world = with_objects w x.state; agenda = Thawing id x.answer ∷ Constructing id steps held ∷ rest; counted = n })) → (goes : GoesOn Nothing w (with_objects w x.state)) →
          SameAt (standing w.objects) (standing x.state) rest → (slot : ℕ) → IsIn slot x.answer → waited_height d table slot (standing x.state id) < making_height d table (standing x.state id)
      low x is good goes same slot there =
          let y = thaw_answer w.objects id x is slot there in
          let m = entry table.channels (property y.0.place slot) in
          let held_there = each_in (λ slot. IsHeld d table (standing w.objects) id (entry table.channels (property y.0.place slot)) (Constructing id (first ∷ steps) held ∷ rest)) y.0.queue (f.queues id y.0 y.1) slot y.2 in
          let count = (good.queues id y.3 y.4).count in
          let none = y.6 in
          let height : waited_height d table slot (standing x.state id) ≡ m =
          ap (waited_height d table slot) (ap (option_map (λ (o : Object). o.place)) y.4) ∙ ap (λ p. entry table.channels (property p slot)) y.5 in
          by m held_there (omega (arith, count, none)) height
        where
          by : (m : ℕ) → IsHeld d table (standing w.objects) id m (Constructing id (first ∷ steps) held ∷ rest) → total (frozen_by d id) rest ≡ 0 → waited_height d table slot (standing x.state id) ≡ m →
              waited_height d table slot (standing x.state id) < making_height d table (standing x.state id)
          by m (inl h) none at = under_making (with_objects w x.state) (Thawing id x.answer ∷ []) good goes same _ (let l = h.1 in omega (arith, l, at))
          by m (inr h) none at = absurd (let some = none_held d table (standing w.objects) id m rest h in omega (arith, some, none))

module _ (d : Definition) (well : WellRead d) (a : Accepted d) (most_counted : ℕ) (w : World) (id : ℕ) (held : Bool) (rest : List Task) (n : ℕ) where
  pub constructs : (steps : List ConstructStep) (g : IsGood d a most_counted (record { world = w; agenda = Constructing id steps held ∷ rest; counted = n }))
      (f : FallsAt d a.weighed.depths (record { world = w; agenda = Constructing id steps held ∷ rest; counted = n })) →
      IfOk (constructing d w id steps held) (LeadsStarted d a most_counted w (Constructing id steps held) rest n g f Nothing n)
  unfolding constructed
  constructs [] g f = by held g f
    where
      by : (held : Bool) (g : IsGood d a most_counted (record { world = w; agenda = Constructing id [] held ∷ rest; counted = n })) (f : FallsAt d a.weighed.depths (record { world = w; agenda = Constructing id [] held ∷ rest; counted = n })) →
          IfOk (constructed w id held) (LeadsStarted d a most_counted w (Constructing id [] held) rest n g f Nothing n)
      by false g f = none_left d a most_counted w (Constructing id [] false) rest n g f Nothing w n (λ id slot none. none)
      by true g f = bind_keeps (object_at w.objects id) _ _ (λ o _.
          only_keeps (is_unbuilt (builder_entry w o.place)) arms.Code _ _ (none_left d a most_counted w (Constructing id [] true) rest n g f Nothing _ n (λ id slot none. none)))
  constructs (sets slot x ∷ steps) g f = makes_set d well a most_counted w id (sets slot x) steps held rest n g f slot x f.agenda.0.steps_fall.0
  constructs (runs program ∷ steps) g f = makes_run d well a most_counted w id (runs program) steps held rest n g f program _ f.agenda.0.steps_fall.0
  constructs (thaws ∷ steps) g f = makes_thaw d well a most_counted w id thaws steps held rest n g f
