-- How the emission that is the first task goes on in its place.
use Rattle.std.proofs.Common.{◌≡◌, ◌∙◌, refl, sym, ap, subst, ℕ, true, false, List, [], ◌∷◌, drop, None, arith}
use Rattle.ui_machine.specs.Definition.{Definition}
use Rattle.ui_machine.specs.Outcome.{Answer}
use Rattle.ui_machine.specs.Rules.Accumulation.{ending}
use Rattle.ui_machine.specs.Rules.Programs.{beginning_program}
use Rattle.ui_machine.specs.Seq.{total}
use Rattle.ui_machine.specs.State.Config.{Config, World}
use Rattle.ui_machine.specs.State.Handlers.{Handler}
use Rattle.ui_machine.specs.State.References.{in_task}
use Rattle.ui_machine.specs.State.Tasks.{Emitting, Task}
use Rattle.ui_machine.specs.Steps.{act, left, uncounted}
use Rattle.bindings.specs.Due.{entry_of, from_ready}
use Rattle.bindings.specs.declared.due.DueTransfer.{DueTransfer}
use Rattle.signal_core.specs.Connected.{Numbered}
use Rattle.signal_core.specs.Emission.{Due, is_over, is_transfers, next_step, stage_after, to_come}
use Rattle.signal_core.specs.declared.stage.Stage.{Stage}
use Rattle.signal_core.specs.declared.stage.Stage.TheVariants as stages
use Rattle.signal_core.specs.declared.turn.Turn.{Turn}
use Rattle.engine_world.specs.Counting.{Counts, nothing}
use Rattle.engine_world.specs.FirstEmissions.{IsEmission, first_emitted, first_emitting}
use Rattle.engine_stack.specs.FirstEmissions.{EmitsKnown, Emitted, IsReemitted, emission_view, emitting, entries_left, stack_emission}
use Rattle.engine_world.specs.FirstPrograms.{rest_of}
use Rattle.engine_stack.specs.KnownHandlers.{EndsWithoutTransfers}
use Rattle.engine_world.specs.Standing.{past_turns}
use Rattle.engine_world.specs.TaskView.{agenda_of}
use Rattle.engine_stack.specs.TransferView.{due_later, due_now}
use Rattle.engine_world.specs.View.{world_of}
use Rattle.engine_world.specs.declared.engine.Engine.{Engine}
use Rattle.engine_stack.specs.declared.stacks.Frames.{Frames}
use Rattle.engine_stack.specs.declared.task.Transfers.TheVariants as at
use Rattle.engine_world.proofs.FirstEmissions.{begins}
use Rattle.engine_stack.proofs.FirstEmissions.{first_begun}
use Rattle.engine_world.proofs.Registers.{stack_same_held}
use Rattle.engine_tasks.specs.TurnView.{given_by, program_of_turn}
use Rattle.engine_tasks.proofs.EmissionTurns.{IsNext, free_first}
use Rattle.engine_tasks.proofs.EmissionSteps.{at_before, bindings_with, ends_with, transfer_first, turns_with}

-- the emission as it is once the next turn is taken
abbrev pub turned : Emitted → List Handler → Emitted
turned e hs = record e { walk = record e.walk { stage = stage_after (next_step e.walk hs) } }

-- the engine with another stack
abbrev pub with_stack : Engine → Frames → Engine
with_stack e s = record e { stack = s }

module _ (d : Definition) (e : Engine) (first : IsEmission e) where
  abbrev w : World
  w = world_of e.world

  abbrev hs : List Handler
  hs = e.world.handlers.handlers

  abbrev own : Emitted
  own = first_emitted e

  abbrev before : Answer Config
  before = act d w None (past_turns w (first_emitting e) ∷ rest_of d e) e.counted

  -- an emission in its place that holds what the first one held
  stands : (s : Frames) (x : Emitted) → IsReemitted e.stack s → stack_emission s ≡ x → ((o : ℕ) → in_task o (emitting x hs) ≡ in_task o (emitting own hs))
      → ((last : ℕ) → EmitsKnown last own → EmitsKnown last x) → Counts d nothing e → Counts d nothing (with_stack e s)
  stands s x emits now alike known h =
      stack_same_held d e s
      (λ o.
      let was = ap (λ (ts : List Task). total (in_task o) ts) (begins d e first) in
      let is = ap (λ (ts : List Task). total (in_task o) ts) (emits.tasks d hs) in
      let same = ap (λ (y : Emitted). in_task o (emitting y hs)) now in
      omega (arith, was, is, same, alike o))
      (λ last all. emits.begun last (subst (λ (y : Emitted). EmitsKnown last y) (sym now) (known last (first_begun last e.stack first all))) all) nothing h

  -- ** a transfer is taken, or none is due

  module _ (s : Frames) (emits : IsReemitted e.stack s) (now : stack_emission s ≡ record (first_emitted e) { transfers = (stack_emission s).transfers })
      (later : due_later (stack_emission s).transfers ≡ due_later (first_emitted e).transfers) where
    abbrev past : Emitted
    past = stack_emission s

    abbrev kept : Emitted
    kept = record own { transfers = past.transfers }

    rest_past : rest_of d (with_stack e s) ≡ rest_of d e
    rest_past = ap (λ (ts : List Task). drop 1 ts) (emits.tasks d hs)

    pub walk_past : past.walk ≡ own.walk
    walk_past = ap (λ (x : Emitted). x.walk) now

    -- one is taken

    module _ (t : DueTransfer) (next : from_ready w.bindings (due_now own.transfers) ≡ t ∷ due_now past.transfers) where
      pub transfer_due : before ≡ act d w None (Emitting (emission_view past) (entry_of t ∷ entries_left past hs) ∷ rest_of d (with_stack e s)) e.counted
      transfer_due =
          ap (λ es. act d w None (Emitting (emission_view own) es ∷ rest_of d e) e.counted) (transfer_first w own.walk own.transfers past.transfers later t next)
          ∙ ap (λ (x : Emitted). act d w None (Emitting (emission_view x) (entry_of t ∷ entries_left x hs) ∷ rest_of d e) e.counted) (sym now)
          ∙ ap (λ (ts : List Task). act d w None (Emitting (emission_view past) (entry_of t ∷ entries_left past hs) ∷ ts) e.counted) (sym rest_past)

      -- it was not at its end then
      ends_due : EndsWithoutTransfers own.walk own.transfers → EndsWithoutTransfers own.walk past.transfers
      ends_due ends over =
          let none : from_ready w.bindings [] ≡ t ∷ due_now past.transfers = sym (ap (λ (l : List DueTransfer). from_ready w.bindings l) (ends over)) ∙ next in
          absurd (cc none)

      pub counts_due : Counts d nothing e → Counts d nothing (with_stack e s)
      counts_due h = stands s kept emits now (λ o. refl) (λ last known. (known.0, ends_due known.1)) h

    -- none is due
    module _ (none : from_ready w.bindings (due_now own.transfers) ≡ []) (empty : due_now past.transfers ≡ []) (u : Frames) (again : IsReemitted s u)
        (moved : stack_emission u ≡ turned (stack_emission s) e.world.handlers.handlers) where
      abbrev on : Emitted
      on = stack_emission u

      abbrev on_kept : Emitted
      on_kept = turned kept hs

      on_is : on ≡ on_kept
      on_is = moved ∙ ap (λ (x : Emitted). turned x hs) now

      emits_on : IsReemitted e.stack u
      emits_on = record {
        first = again.first;
        tasks = λ d hs. again.tasks d hs ∙ ap (λ (ts : List Task). emitting on hs ∷ drop 1 ts) (emits.tasks d hs);
        begun = λ last known all. again.begun last known (emits.begun last (subst (λ (x : Emitted). EmitsKnown last x) (sym now) ((first_begun last e.stack first all).0, λ over. empty)) all);
      }

      rest_on : rest_of d (with_stack e u) ≡ rest_of d e
      rest_on = ap (λ (ts : List Task). drop 1 ts) (emits_on.tasks d hs)

      pub counts_on : Counts d nothing e → Counts d nothing (with_stack e u)
      counts_on h = stands u on_kept emits_on on_is (λ o. refl) (λ last known. (known.0, λ over. empty)) h

      -- it ends
      pub ends_on : (last : ℕ) → Numbered 0 w.handlers last → free_first (to_come own.walk w.handlers) ≡ None
          → before ≡ left e.counted (ending d w (emission_view on) (rest_of d (with_stack e u)))
      ends_on last rises stops =
          ends_with w own.walk own.transfers past.transfers later none empty d (rest_of d e) e.counted last rises own.args own.by_event on_kept.walk refl stops
          ∙ ap (λ (x : Emitted). left e.counted (ending d w (emission_view x) (rest_of d e))) (sym on_is)
          ∙ ap (λ (ts : List Task). left e.counted (ending d w (emission_view on) ts)) (sym rest_on)

      -- a program's turn
      pub turns_on : (last : ℕ) (rises : Numbered 0 w.handlers last) (t : Due) → IsNext w last rises own.walk t → is_transfers t.step.turn ≡ false → (turn : Turn) → t.step.turn ≡ turn
          → before ≡ uncounted (agenda_of d (with_stack e u)) e.counted (beginning_program d w (program_of_turn turn) (given_by (emission_view on) turn))
      turns_on last rises t next plain turn is =
          turns_with w own.walk own.transfers past.transfers later none empty d (rest_of d e) e.counted last rises own.args own.by_event on_kept.walk refl t next plain turn is
          ∙ ap (λ (x : Emitted). uncounted (emitting x hs ∷ rest_of d e) e.counted (beginning_program d w (program_of_turn turn) (given_by (emission_view x) turn))) (sym on_is)
          ∙ ap (λ (ts : List Task). uncounted ts e.counted (beginning_program d w (program_of_turn turn) (given_by (emission_view on) turn))) (sym (emits_on.tasks d hs))

      -- the bindings' turn
      module _ (v : Frames) (third : IsReemitted u v) (begun : stack_emission v ≡ record (stack_emission u) { transfers = at.Due (due_later (stack_emission u).transfers) }) where
        abbrev at_them : Emitted
        at_them = stack_emission v

        abbrev at_kept : Emitted
        at_kept = record on_kept { transfers = at.Due (due_later past.transfers) }

        at_is : at_them ≡ at_kept
        at_is = begun ∙ ap (λ (x : Emitted). record x { transfers = at.Due (due_later x.transfers) }) on_is

        module _ (last : ℕ) (rises : Numbered 0 w.handlers last) (t : Due) (next : IsNext w last rises own.walk t) (so : is_transfers t.step.turn ≡ true) where
          stage_at : on_kept.walk.stage ≡ stages.Before 0
          stage_at = at_before w own.walk own.transfers past.transfers later none empty last rises on_kept.walk refl t next so

          pub stage_is : at_them.walk.stage ≡ stages.Before 0
          stage_is = ap (λ (x : Emitted). x.walk.stage) at_is ∙ stage_at

          -- none comes behind them
          pub none_later : due_later at_them.transfers ≡ []
          none_later = ap (λ (x : Emitted). due_later x.transfers) at_is

          emits_at : IsReemitted e.stack v
          emits_at = record {
            first = third.first;
            tasks = λ d hs. third.tasks d hs ∙ ap (λ (ts : List Task). emitting at_them hs ∷ drop 1 ts) (emits_on.tasks d hs);
            begun = λ last known all. third.begun last known (emits_on.begun last (subst (λ (x : Emitted). EmitsKnown last x) (sym on_is) ((first_begun last e.stack first all).0, λ over. empty)) all);
          }

          not_over : is_over on_kept.walk.stage ≡ true → due_now at_kept.transfers ≡ []
          not_over over = let never : is_over (stages.Before 0) ≡ true = sym (ap (λ (x : Stage). is_over x) stage_at) ∙ over in absurd (cc never)

          pub counts_at : Counts d nothing e → Counts d nothing (with_stack e v)
          counts_at h = stands v at_kept emits_at at_is (λ o. refl) (λ last known. (known.0, not_over)) h

          pub transfers_on : before ≡ act d w None (past_turns w (first_emitting (with_stack e v)) ∷ rest_of d (with_stack e v)) e.counted
          transfers_on =
              bindings_with w own.walk own.transfers past.transfers later none empty d (rest_of d e) e.counted last rises own.args own.by_event on_kept.walk refl t next so at_kept.transfers refl
              ∙ ap (λ (x : Emitted). act d w None (past_turns w (emitting x hs) ∷ rest_of d e) e.counted) (sym at_is)
              ∙ ap (λ (ts : List Task). act d w None (past_turns w (emitting at_them hs) ∷ ts) e.counted) (sym (ap (λ (ts : List Task). drop 1 ts) (emits_at.tasks d hs)))
