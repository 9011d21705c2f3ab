-- What instructions on handlers lead to, by the handlers that they mean.
use Rattle.std.proofs.Common.{◌≡◌, ◌∙◌, refl, sym, ap, subst, ℕ, Bool, cond, not, List, [], ◌∷◌, map, Option, Some, None, Ok, Err, arith}
use Rattle.ui_machine.specs.declared.arm.Arm.TheVariants as arms
use Rattle.ui_machine.specs.Definition.{Definition}
use Rattle.ui_machine.specs.Definition.Lookups.{program_of}
use Rattle.ui_machine.specs.Instructions.{in_front}
use Rattle.ui_machine.specs.Instructions.Registers.{goes_on, operand_in}
use Rattle.ui_machine.specs.Instructions.Signals.{on_handlers}
use Rattle.ui_machine.specs.Outcome.{Answer, known, ◌>>=◌}
use Rattle.ui_machine.specs.State.Config.{Config, Started, World}
use Rattle.ui_machine.specs.State.Tasks.{Frame, Running, Task}
use Rattle.ui_machine.specs.Steps.{left}
use Rattle.ui_machine.specs.Rules.Connections.{is_on}
use Rattle.ui_machine.specs.Seq.{total}
use Rattle.ui_machine.specs.State.Handlers.{Handler}
use Rattle.ui_machine.specs.State.References.{in_task}
use Rattle.machine_laws.specs.GoneLaws.{pruned}
use Rattle.machine_laws.proofs.GoneProofs.{hold_as}
use Rattle.signal_core.specs.Connected.{Connected, Numbered, without_matched}
use Rattle.engine_world.specs.Counting.{KeepsCounts}
use Rattle.engine_instructions.specs.HandlersView.{Matched, matched_in}
use Rattle.engine_world.specs.Standing.{gone_handlers, without_gone}
use Rattle.engine_world.specs.TaskView.{agenda_of}
use Rattle.engine_stack.specs.TaskView.{tasks_of}
use Rattle.engine_world.specs.View.{world_of}
use Rattle.engine_world.specs.declared.engine.Engine.{Engine}
use Rattle.engine_world.specs.Able.{Able}
use Rattle.engine_world.proofs.Ableness.{able_as, first, instructed, past}
use Rattle.engine_world.proofs.HandlerAdded.{with_handlers}
use Rattle.engine_world.proofs.Counts.{keeps_by, handled, only_list}
use Rattle.engine_world.proofs.Gone.{kept_left, tasks_alike}
use Rattle.engine_world.proofs.SameTurns.{OnlyBlocks, blocks_same, some_blocks}

module _ (d : Definition) (w : World) (f : Frame) (object : ℕ) (program : List ℕ) where
  -- the handlers of the program of a name, on the object that is found
  of_named : ℕ → Answer Matched
  of_named id = known arms.Code (program_of d program) >>= λ number. Ok (record { object = id; program = number })

  pub named_able : Able (matched_in d w f object program) → (id : ℕ) → operand_in w f object ≡ Ok id → Able (known arms.Code (program_of d program))
  unfolding of_named
  named_able able id is = first (known arms.Code (program_of d program)) (λ number. Ok (record { object = id; program = number })) (past (operand_in w f object) of_named id is able)

  pub matched_so : (id number : ℕ) → operand_in w f object ≡ Ok id → program_of d program ≡ Some number → matched_in d w f object program ≡ Ok (record { object = id; program = number })
  unfolding of_named
  matched_so id number at is =
      ap (λ (a : Answer ℕ). a >>= of_named) at ∙ ap (λ (o : Option ℕ). known arms.Code o >>= λ number. Ok (record { object = id; program = number })) is

module _ (d : Definition) (w : World) (f : Frame) (object : ℕ) (program : List ℕ) (change : World → ℕ → ℕ → World) where
  changes : Matched → Answer Started
  changes m = goes_on (change w m.object m.program) [] f

  named : (id : ℕ) (found : Option ℕ)
      → (known arms.Code found >>= λ number. goes_on (change w id number) [] f) ≡ ((known arms.Code found >>= λ number. Ok (record { object = id; program = number })) >>= changes)
  unfolding changes
  named id None = refl
  named id (Some number) = refl

  by_matched : on_handlers d w f object program change ≡ (matched_in d w f object program >>= changes)
  unfolding on_handlers
  by_matched = by (operand_in w f object)
    where
      by : (a : Answer ℕ) → (a >>= λ id. known arms.Code (program_of d program) >>= λ number. goes_on (change w id number) [] f)
          ≡ ((a >>= λ id. known arms.Code (program_of d program) >>= λ number. Ok (record { object = id; program = number })) >>= changes)
      by (Err arm) = refl
      by (Ok id) = named id (program_of d program)

  -- no arm stops it where none stops the program
  pub matched_able : (n : ℕ) (rest : List Task) → Able (left n (in_front rest (on_handlers d w f object program change))) → Able (matched_in d w f object program)
  matched_able n rest able = first (matched_in d w f object program) changes (able_as by_matched (instructed n rest (on_handlers d w f object program change) able))

  -- the handlers change, and the program goes on
  pub matched_goes : (m : Matched) → matched_in d w f object program ≡ Ok m → on_handlers d w f object program change ≡ goes_on (change w m.object m.program) [] f
  unfolding changes
  matched_goes m is = by_matched ∙ ap (λ (a : Answer Matched). a >>= changes) is

-- ** the engine

-- handlers that are blocked once more or less
module _ (d : Definition) (e : Engine) (hs : Connected) (change : Handler → Handler) (meant : Handler → Bool) (only : OnlyBlocks change)
    (is : hs ≡ record e.world.handlers { handlers = map (λ h. cond (meant h) (change h) h) e.world.handlers.handlers }) where
  pub same_blocks : agenda_of d (with_handlers e hs) ≡ agenda_of d e
  same_blocks =
      ap (λ (c : Connected). tasks_of d c.handlers e.stack) is
      ∙ blocks_same d (λ h. cond (meant h) (change h) h) (some_blocks change meant only) e.world.handlers.handlers e.stack

  pub keeps_blocks : KeepsCounts d e (with_handlers e hs)
  keeps_blocks = keeps_by d e (with_handlers e hs) refl refl (λ g. g) refl (handled d e (with_handlers e hs) hs refl (only_list hs e.world.handlers _ is) refl) (λ taken _ h o. omega (arith, h o, ap (λ (ts : List Task). total (in_task o) ts) same_blocks))

-- handlers that are disconnected
module _ (d : Definition) (e : Engine) (hs : Connected) (object program : ℕ) (is : hs ≡ record e.world.handlers { handlers = without_matched object program e.world.handlers.handlers })
    (rises : Numbered 0 e.world.handlers.handlers e.world.handlers.last) where
  own : hs.handlers ≡ without_matched object program e.world.handlers.handlers
  own = ap (λ (c : Connected). c.handlers) is

  pub disconnect_leaves : agenda_of d (with_handlers e hs) ≡ map (pruned (gone_handlers (world_of (with_handlers e hs).world))) (agenda_of d e)
  disconnect_leaves =
      let keeps = λ (h : Handler). not (is_on object program h) in
      let numbered : Numbered 0 e.world.handlers.handlers hs.last = subst (λ (c : Connected). Numbered 0 e.world.handlers.handlers c.last) (sym is) rises in
      ap (λ (l : List Handler). tasks_of d l e.stack) own
      ∙ sym (tasks_alike (gone_handlers (world_of (with_handlers e hs).world)) (λ n. refl) keeps d e.world.handlers.handlers
      (kept_left keeps (world_of (with_handlers e hs).world) e.world.handlers.handlers own numbered) e.stack)

  pub keeps_disconnected : KeepsCounts d e (with_handlers e hs)
  keeps_disconnected = keeps_by d e (with_handlers e hs) refl refl (λ g. g) refl (handled d e (with_handlers e hs) hs refl (only_list hs e.world.handlers _ is) refl) (λ taken _ h o.
      omega (arith, h o, ap (λ (ts : List Task). total (in_task o) ts) disconnect_leaves, hold_as (gone_handlers (world_of (with_handlers e hs).world)) d o (agenda_of d e)))

-- a program that goes on in a world where handlers are gone is all that is put in front
pub pruned_left : (n : ℕ) (rest : List Task) (a : Answer Started) (w : World) (f : Frame) (world' : World) (agenda' : List Task) (counted' : ℕ) → a ≡ goes_on w [] f
    → world' ≡ w → agenda' ≡ Running f ∷ map (pruned (gone_handlers w)) rest → counted' ≡ n
    → (x : Config) × (left n (in_front rest a) ≡ Ok x) × (without_gone x ≡ record { world = world'; agenda = agenda'; counted = counted' })
unfolding left in_front
pruned_left n rest a w f world' agenda' counted' is world agenda count = (
  record { world = w; agenda = Running f ∷ rest; counted = n },
  ap (λ (x : Answer Started). left n (in_front rest x)) is,
  rw (world, agenda, count) refl,
)
