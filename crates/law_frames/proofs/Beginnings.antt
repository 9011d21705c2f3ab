-- What falls still falls where the build, a request and a source begin something.
use Rattle.std.proofs.Common.{◌≡◌, refl, ap, subst, ◌∙◌, ℕ, suc, Bool, true, false, cond, List, [], ◌∷◌, ◌++◌, Option, Some, slice_get, arith}
use native.Mathlib.Omega.{arith}
use Rattle.std.specs.List.{list_all}
use Rattle.std.specs.Prelude.{IfOk, length, not, ◌||◌}
use Rattle.ui_machine.specs.declared.arm.Arm.TheVariants as arms
use Rattle.ui_machine.specs.Definition.{Definition}
use Rattle.ui_machine.specs.Definition.Lookups.{program_at}
use Rattle.ui_machine.specs.Definition.Programs.{Program}
use Rattle.ui_machine.specs.Definition.Values.{Value}
use Rattle.ui_machine.specs.Definition.Values as values
use Rattle.ui_machine.specs.Outcome.{known}
use Rattle.ui_machine.specs.Rules.Programs.{all_fit, beginning_program, first_frame, fits_register, program_before}
use Rattle.ui_machine.specs.Definition.Properties.{is_writable}
use Rattle.ui_machine.specs.Rules.Sets.{spec_at}
use Rattle.ui_machine.specs.Definition.Lookups.{place_at, specs_of, type_of}
use Rattle.ui_machine.specs.Definition.Places.{Place}
use Rattle.ui_machine.specs.Rules.Construction.{construction, has_valid_default, making, new_object}
use Rattle.ui_machine.specs.State.Config.{World, Started}
use Rattle.ui_machine.specs.State.Objects.{Object, living}
use Rattle.ui_machine.specs.State.Tasks.{ConstructStep, Constructing, sets, runs, thaws, Setting, Thawing, Emission, Emitting, Frame, PlanEntry, Running, Task, Transferring, Unsetting, class_handler, handler}
use Rattle.ui_machine.specs.State.Tasks as config
use Rattle.machine_laws.proofs.KeptProofs.{bind_keeps, cond_keeps, kept_at, only_keeps}
use Rattle.law_typing.specs.Good.Freezes.{frozen_by}
use Rattle.law_typing.specs.Good.Standing.{standing}
use Rattle.law_typing.specs.Laws.{IsIn}
use Rattle.law_typing.specs.Laws.StepsKeepGood.{IsGood}
use Rattle.law_typing.specs.Laws.WellRead.{WellRead}
use Rattle.law_typing.specs.Verdict.Accepted.{Accepted}
use Rattle.ui_machine.specs.Definition.Places.{Given}
use Rattle.ui_machine.specs.Rules.Build.{building, building_binding, building_child, building_forward, building_handler, building_object, connection, held_data, held_object, new_binding, peer_for, set_forward, with_binding, with_signal}
use Rattle.ui_machine.specs.Rules.Children.{adopted}
use Rattle.ui_machine.specs.Rules.Connections.{detail_at, detail_in, signal_number}
use Rattle.ui_machine.specs.Rules.Construction.{given_value}
use Rattle.ui_machine.specs.Rules.EmissionPlan.{new_emission}
use Rattle.ui_machine.specs.Rules.Events.{emit_from_event, get_from_event, given_values, release_from_event, request_step, set_from_event, set_given}
use Rattle.ui_machine.specs.Rules.MainLoop.{source_data, sourcing}
use Rattle.ui_machine.specs.Rules.Sets.{is_disposed}
use Rattle.ui_machine.specs.Definition.Properties.{has_flags, is_construct_only, is_readable}
use Rattle.ui_machine.specs.State.Objects.{asked, value_at}
use Rattle.ui_machine.specs.State.Sources as sources
use Rattle.ui_machine.specs.State.Tasks.{Answering, Beginning, Building, Due, Handling, Item, Request, adopts, binds, connects, forwards, makes}
use Rattle.law_steps.proofs.Kept.NewProofs.{new_stands}
use Rattle.law_frames.specs.Frames.{FallsAt, TaskFalls}
use Rattle.law_frames.proofs.Leading.{framed, plain}
use Rattle.law_frames.proofs.Emissions.{first_free, known_is}
use Rattle.law_frames.proofs.Makings.{others_free, steps_low}
use Rattle.law_frames.proofs.Tasks.{LeadsStarted, Nothing, none_left}

module _ (d : Definition) (well : WellRead d) (a : Accepted d) (most_counted : ℕ) (w : World) (n : ℕ) where
  -- ** the build

  module _ (first : Item) (items : List Item) (g : IsGood d a most_counted (record { world = w; agenda = Building (first ∷ items) ∷ []; counted = n }))
      (f : FallsAt d a.weighed.depths (record { world = w; agenda = Building (first ∷ items) ∷ []; counted = n })) where
    abbrev LedBuild : Started → Type 0
    LedBuild = LeadsStarted d a most_counted w (Building (first ∷ items)) [] n g f Nothing n

    builds_on : (v : World) → LedBuild (record { world = v; tasks = Building items ∷ [] })
    builds_on v =
        framed d a most_counted w (Building (first ∷ items)) [] n g f Nothing v [] (Building items) n (λ good goes same falls. tt) (λ good goes same falls. falls) (λ good goes same m u. tt)
        (λ id slot o is there. refl) (λ good goes falls id slot o is there none. absurd none)

    builds_below : (v : World) (task : Task) → ((i slot : ℕ) (o : Object) → living v.objects i ≡ Some o → IsIn slot o.queue → frozen_by d i task ≡ 0) →
        (IsGood d a most_counted (record { world = v; agenda = task ∷ Building items ∷ []; counted = n }) → TaskFalls d a.weighed.depths (standing v.objects) v.handlers (Building items ∷ []) task) →
        LedBuild (record { world = v; tasks = task ∷ Building items ∷ [] })
    builds_below v task free own =
        framed d a most_counted w (Building (first ∷ items)) [] n g f Nothing v (task ∷ []) (Building items) n (λ good goes same falls. tt) (λ good goes same falls. (own good, falls)) (λ good goes same m u. tt)
        (λ i slot o is there. (let none = free i slot o is there in omega (arith, none))) (λ good goes falls id slot o is there none. absurd none)

    builds_object : (place : ℕ) → IfOk (building_object d w place items) LedBuild
    unfolding building_object making
    builds_object place = bind_keeps (known arms.Code (place_at d place)) _ _ (λ p _. bind_keeps (peer_for d w p) _ _ (λ peer _. bind_keeps (making d w place peer true) _ _ (λ m is.
        kept_at (λ (s : Started). LedBuild (record { world = s.world; tasks = s.tasks ++ Building items ∷ [] })) (making d w place peer true) m
        (bind_keeps (known arms.Code (place_at d place)) _ _ (λ q found. only_keeps (not (type_of d q.class).is_abstract) arms.Abstract _ _ (only_keeps (list_all (has_valid_default d) (specs_of d q.class)) arms.Value _ _
        (made place q peer (known_is arms.Code (place_at d place) q found) _ refl)))) is)))
      where
        made : (place : ℕ) (p : Place) (peer : Option ℕ) → place_at d place ≡ Some p → (v : World) → v.objects ≡ w.objects ++ Some (new_object d place p peer) ∷ [] →
            LedBuild (record { world = v; tasks = Constructing (suc (length w.objects)) (construction d w place p) true ∷ Building items ∷ [] })
        made place p peer at v objects =
            builds_below v (Constructing (suc (length w.objects)) (construction d w place p) true)
            (λ i slot o is there. others_free d w.objects (new_object d place p peer) refl (construction d w place p) true i slot o (subst (λ os. living os i ≡ Some o) objects is) there)
            (λ good. record {
              place = place;
              is = ap (λ os. standing os (suc (length w.objects))) objects ∙ (new_stands d w (new_object d place p peer)).0.here;
              under = tt;
              steps_fall = steps_low d well a w place p at;
            })

    builds_child : (place : ℕ) → IfOk (building_child d w place items) LedBuild
    unfolding building_child
    builds_child place = bind_keeps (known arms.Code (place_at d place)) _ _ (λ p _. bind_keeps (known arms.Code p.parent) _ _ (λ above _. bind_keeps (held_object w above) _ _ (λ parent _.
        bind_keeps (held_object w place) _ _ (λ child _. bind_keeps (adopted d w parent child) _ _ (λ family is. builds_on family.state)))))

    builds_forward : (place slot to : ℕ) → IfOk (building_forward d w place slot to items) LedBuild
    unfolding building_forward set_forward
    builds_forward place slot to = bind_keeps (held_object w place) _ _ (λ id _. bind_keeps (spec_at d w.objects id slot) _ _ (λ s _.
        only_keeps (is_writable s) arms.Flags _ _ (only_keeps (not (is_construct_only s)) arms.ConstructOnly _ _ (bind_keeps (held_object w to) _ _ (λ target _.
        builds_below w (Setting id slot (values.object (Some target))) (λ i slot o is there. refl) (λ good. record { place = good.agenda.3.1.due.place; is = good.agenda.3.1.due.is; under = tt; apart = tt }))))))

    builds_binding : (number : ℕ) → IfOk (building_binding d w number items) LedBuild
    unfolding building_binding
    builds_binding number = bind_keeps (known arms.Code (slice_get d.bindings number)) _ _ (λ b _. bind_keeps (held_object w b.source) _ _ (λ source _. bind_keeps (held_object w b.target) _ _ (λ target _.
        cond_keeps (is_disposed (living w.objects source) || is_disposed (living w.objects target)) _ _ _ (builds_on w) (by (with_binding w (new_binding number b source target)) (has_flags 2 b.flags)))))
      where
        by : (v : World) (x : Bool) → LedBuild (record { world = v; tasks = cond x (Transferring number false ∷ []) [] ++ Building items ∷ [] })
        by v true = builds_below v (Transferring number false) (λ i slot o is there. refl) (λ good. (tt, (λ b is pair. tt), λ b is. tt))
        by v false = builds_on v

    builds_handler : (place number : ℕ) → IfOk (building_handler d w place number items) LedBuild
    unfolding building_handler
    builds_handler place number = bind_keeps (known arms.Code (place_at d place)) _ _ (λ p _. bind_keeps (known arms.Code (slice_get p.signals number)) _ _ (λ x _. bind_keeps (held_object w place) _ _ (λ id _.
        bind_keeps (held_data w x.with) _ _ (λ arg _. bind_keeps (known arms.Code (signal_number d p.class x.signal)) _ _ (λ signal _. bind_keeps (detail_at d p.class signal x.detail) _ _ (λ detail _.
        builds_on (with_signal w (connection id signal detail x arg))))))))

  pub builds : (items : List Item) (g : IsGood d a most_counted (record { world = w; agenda = Building items ∷ []; counted = n })) (f : FallsAt d a.weighed.depths (record { world = w; agenda = Building items ∷ []; counted = n })) →
      IfOk (building d w items) (LeadsStarted d a most_counted w (Building items) [] n g f Nothing n)
  builds [] g f = none_left d a most_counted w (Building []) [] n g f Nothing w n (λ id slot none. none)
  builds (makes place ∷ items) g f = builds_object (makes place) items g f place
  builds (adopts place ∷ items) g f = builds_child (adopts place) items g f place
  builds (forwards place slot to ∷ items) g f = builds_forward (forwards place slot to) items g f place slot to
  builds (binds number ∷ items) g f = builds_binding (binds number) items g f number
  builds (connects place number ∷ items) g f = builds_handler (connects place number) items g f place number

  -- ** requests

  module _ (request : Request) (g : IsGood d a most_counted (record { world = w; agenda = Handling request ∷ []; counted = n })) (f : FallsAt d a.weighed.depths (record { world = w; agenda = Handling request ∷ []; counted = n })) where
    abbrev LedRequest : Started → Type 0
    LedRequest = LeadsStarted d a most_counted w (Handling request) [] n g f Nothing n

    nothing : (v : World) → LedRequest (record { world = v; tasks = [] })
    nothing v = none_left d a most_counted w (Handling request) [] n g f Nothing v n (λ id slot none. none)

    one : (v : World) (task : Task) → ((i : ℕ) → frozen_by d i task ≡ 0) →
        (IsGood d a most_counted (record { world = v; agenda = task ∷ []; counted = n }) → TaskFalls d a.weighed.depths (standing v.objects) v.handlers [] task) → LedRequest (record { world = v; tasks = task ∷ [] })
    one v task free own =
        plain d a most_counted w (Handling request) [] n g f Nothing v (task ∷ []) n (λ good goes same falls. (own good, tt)) (λ i. (let none = free i in omega (arith, none))) (λ good goes falls id slot o is there none. absurd none)

    sets_given : (id slot : ℕ) (given : Given) → IfOk (set_given w id slot given) LedRequest
    unfolding set_given
    sets_given id slot given = bind_keeps (known arms.Operand (given_value w given)) _ _ (λ v _.
        one w (Setting id slot v) (λ i. refl) (λ good. record { place = good.agenda.3.1.due.place; is = good.agenda.3.1.due.is; under = tt; apart = tt }))

    carries_set : (place slot : ℕ) (given : Given) → IfOk (set_from_event d w place slot given) LedRequest
    unfolding set_from_event
    carries_set place slot given = bind_keeps (held_object w place) _ _ (λ id _. bind_keeps (spec_at d w.objects id slot) _ _ (λ s _.
        only_keeps (is_writable s) arms.Flags _ _ (only_keeps (not (is_construct_only s)) arms.ConstructOnly _ _ (sets_given id slot given))))

    carries_get : (place slot : ℕ) → IfOk (get_from_event d w place slot) LedRequest
    unfolding get_from_event
    carries_get place slot = bind_keeps (held_object w place) _ _ (λ id _. bind_keeps (spec_at d w.objects id slot) _ _ (λ s _. bind_keeps (asked w.objects id (value_at slot)) _ _ (λ v _.
        only_keeps (is_readable s) arms.Flags _ _ (nothing _))))

    carries_emit : (place signal : ℕ) (args : List Given) (detail : Option (List ℕ)) → IfOk (emit_from_event d w place signal args detail) LedRequest
    unfolding emit_from_event
    carries_emit place signal args detail = bind_keeps (held_object w place) _ _ (λ id _. bind_keeps (detail_in d w id signal detail) _ _ (λ stands _. bind_keeps (given_values w args) _ _ (λ given _.
        one w (Beginning (new_emission id signal stands given true)) (λ i. refl) (λ good. (tt, λ c is. tt)))))

    carries_release : (place : ℕ) → IfOk (release_from_event d w place) LedRequest
    unfolding release_from_event
    carries_release place = bind_keeps (known arms.Code (place_at d place)) _ _ (λ p _. bind_keeps (held_object w place) _ _ (λ id _. nothing _))

  pub requests : (request : Request) (g : IsGood d a most_counted (record { world = w; agenda = Handling request ∷ []; counted = n })) (f : FallsAt d a.weighed.depths (record { world = w; agenda = Handling request ∷ []; counted = n })) →
      IfOk (request_step d w request) (LeadsStarted d a most_counted w (Handling request) [] n g f Nothing n)
  requests (config.set place slot given) g f = carries_set (config.set place slot given) g f place slot given
  requests (config.get place slot) g f = carries_get (config.get place slot) g f place slot
  requests (config.emit place signal args detail) g f = carries_emit (config.emit place signal args detail) g f place signal args detail
  requests (config.release place) g f = carries_release (config.release place) g f place

  -- ** sources

  pub runs_source : (source : ℕ) (g : IsGood d a most_counted (record { world = w; agenda = Due source ∷ []; counted = n })) (f : FallsAt d a.weighed.depths (record { world = w; agenda = Due source ∷ []; counted = n })) →
      IfOk (sourcing d w source) (LeadsStarted d a most_counted w (Due source) [] n g f Nothing n)
  unfolding sourcing program_before beginning_program
  runs_source source g f = bind_keeps (known arms.Code (sources.source_of source w.sources)) _ _ (λ s _.
      bind_keeps (beginning_program d w s.program (source_data s.arg)) _ _ (λ x is. kept_at (λ (x : Started). LeadsStarted d a most_counted w (Due source) [] n g f Nothing n (record { world = x.world; tasks = x.tasks ++ Answering source ∷ [] }))
      (beginning_program d w s.program (source_data s.arg)) x
      (bind_keeps (known arms.Code (program_at d s.program)) _ _ (λ p at.
      only_keeps (all_fit (fits_register d w.objects) (source_data s.arg) p.params) arms.Parameters _ _
      (led s.program (source_data s.arg) p (known_is arms.Code (program_at d s.program) p at) _))) is))
    where
      led : (number : ℕ) (args : List Value) (p : Program) → program_at d number ≡ Some p → (v : World) → LeadsStarted d a most_counted w (Due source) [] n g f Nothing n (record { world = v; tasks = Running (first_frame number p args) ∷ Answering source ∷ [] })
      led number args p at v =
          plain d a most_counted w (Due source) [] n g f Nothing v (Running (first_frame number p args) ∷ Answering source ∷ []) n (λ good goes same falls. (tt, (tt, tt)))
          (λ i. (let free = first_free d well a number p args at i in omega (arith, free))) (λ good goes falls id slot o is there none. absurd none)
