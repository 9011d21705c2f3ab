-- `idle`, `timeout` and `remove` (GLib manual, g_idle_source_new, g_timeout_source_new, g_source_destroy).
use Rattle.std.specs.Prelude.{Bool, List, Option, [], cond, false, suc, true, ℕ, ℤ}
use Rattle.ui_machine.specs.declared.arm.Arm.TheVariants as arms
use Rattle.ui_machine.specs.Definition.{Definition}
use Rattle.ui_machine.specs.Definition.Lookups.{program_of}
use Rattle.ui_machine.specs.Instructions.Registers.{data_in, goes_on, tells}
use Rattle.ui_machine.specs.Outcome.{After, Answer, known, ◌>>=◌}
use Rattle.ui_machine.specs.Output.Lines as lines
use Rattle.ui_machine.specs.State.Config.{Started, World, said}
use Rattle.ui_machine.specs.State.Sources as sources
use Rattle.ui_machine.specs.State.Tasks.{Frame}

-- what `idle` and `timeout` say beside the register that they write; an idle has no interval
pub record Attach : Type 0 where
  pub word : List ℕ  -- of the line where there is no room
  pub program : List ℕ
  pub priority : ℤ
  pub interval : Option ℕ
  pub with : Option ℕ

-- the world with one more source
abbrev pub with_source : World → Attach → (program : ℕ) → Option ℕ → World
with_source w a program arg = record w {
  sources = sources.attached w.sources (sources.new_source (suc w.last_source) w.moment program a.priority a.interval arg);
  last_source = suc w.last_source;
}

-- a source is attached, or past the limit its line said
abbrev pub attached_to : Definition → World → Attach → (program : ℕ) → Option ℕ → After World Bool
attached_to d w a program arg =
    cond (sources.has_room w.sources w.last_source) (record { state = with_source w a program arg; answer = true })
    (record { state = said d w (lines.limit a.word); answer = false })

-- `idle d p n z`, `timeout d p n i z`
unfoldable pub attaching : Definition → World → Frame → ℕ → Attach → Answer Started
attaching d w f to a = do
  program ← known arms.Code (program_of d a.program)
  arg ← data_in w f a.with
  tells (attached_to d w a program arg) to f

-- `remove p`
unfoldable pub removing : Definition → World → Frame → List ℕ → Answer Started
removing d w f program = do
  number ← known arms.Code (program_of d program)
  goes_on (record w { sources = sources.without_program number w.sources }) [] f
