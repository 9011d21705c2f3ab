-- How an object is disposed.
use Rattle.std.proofs.Common.{◌≡◌, ◌∙◌, refl, sym, ap, subst, ℕ, false, List, [], ◌∷◌, map, Option, Result, Ok, Err, arith}
use Rattle.std.specs.Prelude.{OnOk}
use Rattle.std.specs.declared.alloc.AllocError.{AllocError}
use Rattle.ui_machine.specs.declared.arm.Halt.TheVariants as halts
use Rattle.ui_machine.specs.Definition.{Definition}
use Rattle.ui_machine.specs.Instructions.{in_front}
use Rattle.ui_machine.specs.Instructions.Objects.{disposing}
use Rattle.ui_machine.specs.Instructions.Registers.{operand_in}
use Rattle.ui_machine.specs.Rules.Disposal.{closing, disposed}
use Rattle.ui_machine.specs.Rules.Sets.{is_disposed}
use Rattle.ui_machine.specs.Seq.{total}
use Rattle.ui_machine.specs.State.Config.{World}
use Rattle.ui_machine.specs.State.Objects.{living}
use Rattle.ui_machine.specs.State.References.{in_task}
use Rattle.ui_machine.specs.State.Tasks.{Frame, Running, Task}
use Rattle.ui_machine.specs.Steps.{left}
use Rattle.bindings.specs.Made.{Made}
use Rattle.instance_tables.specs.Release.{Disposes}
use Rattle.instance_tables.specs.Store.{Store}
use Rattle.instance_tables.specs.Weak.{Knows}
use Rattle.instance_tables.proofs.Disposed.{dispose_exact}
use Rattle.signal_core.specs.Connected.{Connected}
use Rattle.machine_laws.specs.GoneLaws.{Gone, pruned}
use Rattle.machine_laws.proofs.GoneProofs.{hold_as}
use Rattle.engine_world.specs.PeerPlaces.{AreAlike}
use Rattle.engine_world.specs.Able.{Able, Leads, LeadsWithoutGone}
use Rattle.engine_world.specs.Counting.{KeepsCounts}
use Rattle.engine_world.specs.EngineView.{config_of}
use Rattle.engine_world.specs.Standing.{gone_handlers}
use Rattle.engine_world.specs.FirstPrograms.{rest_of}
use Rattle.engine_world.specs.TaskView.{agenda_of}
use Rattle.engine_stack.specs.TaskView.{tasks_of}
use Rattle.engine_world.specs.View.{held_of, world_of}
use Rattle.engine_world.specs.declared.engine.Engine.{Engine}
use Rattle.engine_world.specs.declared.world.World as code
use Rattle.engine_world.proofs.Ableness.{no_arm, none_stops}
use Rattle.engine_world.proofs.Counts.{Exact, beside_of, closed_passes, from_counted, handled, keeps_by, to_counted}
use Rattle.engine_instructions.proofs.ObjectSteps.{dispose_stuck, disposes}
use Rattle.engine_instructions.proofs.Pushed.{count_pushed, world_pushed}
use Rattle.engine_instructions.proofs.Starting.{started_left}
use Rattle.engine_world.proofs.Registers.{stops_left}

-- what is disposed held what it let go of; its handlers hold nothing
pub keeps_disposed : (d : Definition) (e : Engine) (t : Store) (hs : Connected) (bs : Made) (w : code.World) (gone : Gone) (id : ℕ) (closing : Option ℕ) → (Knows d e.world.weak → Disposes d id e.world.table t)
    → AreAlike e.world.seats w.seats → hs ≡ record e.world.handlers { handlers = hs.handlers }
    → w ≡ record (record e.world { table = t; handlers = hs; bindings = bs }) { seats = w.seats; transcript = w.transcript } → tasks_of d hs.handlers e.stack ≡ map (pruned gone) (agenda_of d e)
    → KeepsCounts d e (record e { world = w; closing = closing })
keeps_disposed d e t hs bs w gone id closing disposes closes only is left =
    keeps_by d e (record e { world = w; closing = closing }) (ap (λ (v : code.World). v.weak) is) refl (closed_passes d e.world w closes (ap (λ (v : code.World). v.got_peers) is) (ap (λ (v : code.World). v.peer_numbers) is)) (ap (λ (v : code.World). v.context) is)
    (λ h. handled d e (record e { world = w; closing = closing }) hs (ap (λ (v : code.World). v.handlers) is) only refl h) (λ taken knows h.
    let b = map held_of e.world.builder.items in
    let a = agenda_of d e in
    let after = from_counted d taken t b a (dispose_exact d (beside_of taken b a) e.world.table t id (disposes knows) (to_counted d taken e.world.table b a h)) in
    let alike : (o : ℕ) → total (in_task o) (tasks_of d hs.handlers e.stack) ≡ total (in_task o) a = λ o. ap (total (in_task o)) left ∙ hold_as gone d o a in
    subst (λ (v : code.World). Exact d taken v.table (map held_of v.builder.items) (tasks_of d v.handlers.handlers e.stack)) (sym is)
    (λ o. omega (arith, after o, alike o)))

-- ** by a program

module _ (d : Definition) (e b new : Engine) (f : Frame) (object id : ℕ) (is : operand_in (world_of e.world) f object ≡ Ok id) (first : is_disposed (living e.world.table.objects id) ≡ false)
    (beside : b ≡ record e { stack = b.stack }) (agenda : agenda_of d b ≡ Running f ∷ rest_of d e) where
  -- its part is not stuck where the instruction is not
  pub disposes_able : Able (left e.counted (in_front (rest_of d e) (disposing d (world_of e.world) f object))) → Able (disposed d (world_of b.world) id)
  disposes_able able =
      subst (λ (w : World). Able (disposed d w id)) (sym (world_pushed d e b f beside))
      (none_stops (disposed d (world_of e.world) id) (λ arm stuck. no_arm _ arm able
      (stops_left e.counted (rest_of d e) (disposing d (world_of e.world) f object) (halts.Stuck arm) (dispose_stuck d (world_of e.world) f object id is first arm stuck))))

  pub disposes_behind : {X : Type 0} (result : Result X AllocError) → Leads result (disposed d (world_of b.world) id) (world_of new.world)
      → OnOk result (agenda_of d new ≡ map (pruned (gone_handlers (world_of new.world))) (agenda_of d b)) → OnOk result (new.counted ≡ b.counted)
      → LeadsWithoutGone result (left e.counted (in_front (rest_of d e) (disposing d (world_of e.world) f object))) (config_of d new)
  disposes_behind {X} result leads tasks count = by result (subst (λ (w : World). Leads result (disposed d w id) (world_of new.world)) (world_pushed d e b f beside) leads) tasks count
    where
      by : (result : Result X AllocError) → Leads result (disposed d (world_of e.world) id) (world_of new.world)
          → OnOk result (agenda_of d new ≡ map (pruned (gone_handlers (world_of new.world))) (agenda_of d b)) → OnOk result (new.counted ≡ b.counted)
          → LeadsWithoutGone result (left e.counted (in_front (rest_of d e) (disposing d (world_of e.world) f object))) (config_of d new)
      by (Ok x) done tasks count = (
        record { world = world_of new.world; agenda = Running f ∷ rest_of d e; counted = e.counted },
        started_left e.counted (rest_of d e) (disposing d (world_of e.world) f object) (world_of new.world) [] f _ _ _
            (disposes d (world_of e.world) f object id is first (world_of new.world) done) refl refl refl,
        (let left_so = tasks ∙ ap (λ (ts : List Task). map (pruned (gone_handlers (world_of new.world))) ts) agenda in
            let counted_so = count ∙ count_pushed d e b f beside in
            rw (left_so, counted_so) refl),
      )
      by (Err error) leads tasks count = tt
