-- How handlers are connected: by the builder, for the signals of a definition's objects, and by a program.
use Rattle.std.specs.Prelude.{◌≡◌, ℕ, ◌+◌, nat_lt, Bool, true, false, codes, slice_get, Ok}
use Rattle.ui_machine.specs.declared.arm.Arm.TheVariants as arms
use Rattle.ui_machine.specs.Definition.{Definition}
use Rattle.ui_machine.specs.Definition.Lookups.{place_at, program_of}
use Rattle.ui_machine.specs.Definition.Places.{Attached, Place}
use Rattle.ui_machine.specs.Definition.Programs as machine
use Rattle.ui_machine.specs.Instructions.Registers.{data_in, operand_in}
use Rattle.ui_machine.specs.Instructions.Signals.{connection_by_code, signal_in}
use Rattle.ui_machine.specs.Outcome.{After, Answer, known, ◌>>=◌}
use Rattle.ui_machine.specs.Output.Lines as lines
use Rattle.ui_machine.specs.Rules.Build.{connection, held_data, held_object}
use Rattle.ui_machine.specs.Rules.Connections.{Connection, detail_at, detail_in, greatest_handler, signal_number, with_handler}
use Rattle.ui_machine.specs.State.Config.{World, said}
use Rattle.ui_machine.specs.State.Tasks.{Frame}
use Rattle.engine_world.specs.declared.connections.Outcome.{Outcome}
use Rattle.engine_world.specs.declared.connections.Outcome.TheVariants as outcomes

-- ** the signals of a definition's objects

-- what such a signal is connected with
abbrev pub attached_at : Definition → World → (place number : ℕ) → Answer Connection
attached_at d w place number =
    known arms.Code (place_at d place) >>= λ (p : Place). known arms.Code (slice_get p.signals number) >>= λ (a : Attached). held_object w place >>= λ id.
    held_data w a.with >>= λ arg. known arms.Code (signal_number d p.class a.signal) >>= λ signal. detail_at d p.class signal a.detail >>= λ detail.
    Ok (connection id signal detail a arg)

-- ** a connection by a program

-- what comes of it, without the line of a limit
abbrev pub left_by : Outcome → World → Connection → World
left_by outcomes.Connected w c = with_handler w c
left_by outcomes.TooLate w c = w
left_by outcomes.Full w c = w

-- the same with the line
abbrev pub told_by : Definition → Outcome → World → Connection → After World Bool
told_by d outcomes.Connected w c = record { state = with_handler w c; answer = true }
told_by d outcomes.TooLate w c = record { state = w; answer = false }
told_by d outcomes.Full w c = record { state = said d w (lines.limit (codes "connect")); answer = false }

-- whether the handler is connected
abbrev pub is_connected : Outcome → Bool
is_connected outcomes.Connected = true
is_connected outcomes.TooLate = false
is_connected outcomes.Full = false

-- whether a limit's line reports it
abbrev pub is_full : Outcome → Bool
is_full outcomes.Connected = false
is_full outcomes.TooLate = false
is_full outcomes.Full = true

-- what a program connects an object with
abbrev pub connection_in : Definition → World → Frame → ℕ → machine.Connect → Answer Connection
connection_in d w f object c =
    operand_in w f object >>= λ id. signal_in d w id c.signal >>= λ signal. detail_in d w id signal c.detail >>= λ detail.
    known arms.Code (program_of d c.program) >>= λ program. data_in w f c.with >>= λ arg. Ok (connection_by_code id signal detail program arg c)

-- ** numbers of handlers

-- so many numbers more are as many for whether some are left
abbrev pub Takes : (before count after : ℕ) → Type 0
Takes before count after = (more : ℕ) → nat_lt (after + more) greatest_handler ≡ nat_lt (before + count + more) greatest_handler
