-- What the engine's configuration denotes. An emission of the engine has no turns of handlers that are gone, and passes over handlers that
-- are blocked, and bindings that set or have ended, as it takes the next one; the machine passes over all of them by steps of its own.
use Rattle.std.specs.Prelude.{◌≡◌, ℕ, Bool, true, false, cond, List, [], ◌∷◌, Option, None, Some, Result, Ok, Err}
use Rattle.ui_machine.specs.declared.arm.Halt.{Halt}
use Rattle.ui_machine.specs.Definition.{Definition}
use Rattle.ui_machine.specs.Outcome.{Answer, Stops}
use Rattle.ui_machine.specs.Runs.{Halts, Reaches}
use Rattle.ui_machine.specs.State.Bindings.{Binding, binding_of}
use Rattle.ui_machine.specs.State.Config.{Config, World}
use Rattle.ui_machine.specs.State.Handlers.{handler_of}
use Rattle.ui_machine.specs.State.Tasks.{Emitting, PlanEntry, Task, class_handler, handler, transfer}
use Rattle.machine_laws.specs.GoneLaws.{Gone, gone_in, pruned_at}
use Rattle.signal_core.specs.Laws.{is_passed_over}

-- the handlers that are gone; transfers of bindings that have ended are not left out
abbrev pub gone_handlers : World → Gone
gone_handlers w = record { handlers = (gone_in w).handlers; bindings = λ number. false }

-- a configuration without the turns of handlers that are gone
abbrev pub without_gone : Config → Config
without_gone c = pruned_at (gone_handlers c.world) c

-- from a configuration of the machine steps lead to one that the engine's denotes
pub record Arrives (d : Definition) (c view : Config) : Type 0 where
  pub at : Config
  pub reached : Reaches d [] c at
  pub stands : without_gone at ≡ view

-- they do from each configuration that the engine's denoted
pub record Follows (d : Definition) (old new : Config) : Type 0 where
  pub arrives : (c : Config) → without_gone c ≡ old → Arrives d c new

-- from each of these the machine halts, and has shown these lines
pub record Breaks (d : Definition) (old : Config) (halt : Halt) (shown : List (List ℕ)) : Type 0 where
  pub halts : (c : Config) → without_gone c ≡ old → Halts d [] c halt shown

-- ** what code leads to

-- the machine's configuration, without the turns of those that are gone by then; or code stops where the machine is stuck
abbrev pub GoesWithoutGone : {X : Type 0} → Result X Halt → Answer Config → Config → Type 0
GoesWithoutGone (Ok x) answer new = (e : Config) × (answer ≡ Ok e) × (without_gone e ≡ new)
GoesWithoutGone (Err halt) answer new = Stops halt answer

-- ** turns that are passed over

-- whether the transfer of a binding is passed over: the binding sets already, or it is gone
abbrev pub makes_no_transfer : Option Binding → Bool
makes_no_transfer None = true
makes_no_transfer (Some b) = b.busy

-- the entries from the first one on that the machine does not pass over
abbrev pub entries_due : World → List PlanEntry → List PlanEntry
entries_due w [] = []
entries_due w (class_handler program cleanup ∷ entries) = class_handler program cleanup ∷ entries
entries_due w (handler number ∷ entries) =
    cond (is_passed_over (handler_of number w.handlers)) (entries_due w entries) (handler number ∷ entries)
entries_due w (transfer number back ∷ entries) =
    cond (makes_no_transfer (binding_of number w.bindings)) (entries_due w entries) (transfer number back ∷ entries)

-- a task as it comes first
abbrev pub past_turns : World → Task → Task
past_turns w (Emitting e entries) = Emitting e (entries_due w entries)
past_turns w task = task

abbrev pub with_first : World → List Task → List Task
with_first w [] = []
with_first w (task ∷ rest) = past_turns w task ∷ rest
