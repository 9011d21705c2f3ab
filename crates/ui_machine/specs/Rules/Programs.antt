-- How a program begins: what fits its parameters, and its first registers (GObject manual, closures: g_closure_invoke).
use Rattle.std.specs.Prelude.{ℕ, ◌-◌, Bool, true, false, ◌&&◌, nat_eq, List, [], ◌∷◌, ◌++◌, length, map, replicate, Option, None, Some, option_map, slice_get}
use Rattle.ui_machine.specs.declared.arm.Arm.TheVariants as arms
use Rattle.ui_machine.specs.Definition.Kinds.{Kind, RegisterKind}
use Rattle.ui_machine.specs.Definition.Kinds as kinds
use Rattle.ui_machine.specs.Definition.Values.{Value}
use Rattle.ui_machine.specs.Definition.Values as values
use Rattle.ui_machine.specs.Rules.Transform.{kind_fits, is_one}
use Rattle.ui_machine.specs.Definition.{Definition}
use Rattle.ui_machine.specs.Definition.Programs.{Program, Block, passes_in}
use Rattle.ui_machine.specs.Definition.Lookups.{program_at}
use Rattle.ui_machine.specs.Output.Lines as lines
use Rattle.ui_machine.specs.State.Objects.{Object, Objects, living, class_in}
use Rattle.ui_machine.specs.State.Tasks.{Registers, Frame, Running, Task}
use Rattle.ui_machine.specs.State.Config.{World, Started, starts, said}
use Rattle.ui_machine.specs.Outcome.{Answer, ◌>>=◌, known, only_if}

-- ** what fits a parameter

-- the place of a living object
abbrev pub place_in : Objects → ℕ → Option ℕ
place_in os id = option_map (λ (o : Object). o.place) (living os id)

-- whether it is there and is n
abbrev pub is_number : ℕ → Option ℕ → Bool
is_number n None = false
is_number n (Some m) = nat_eq m n

-- whether a value names a living object that passes, or is null where null is allowed
abbrev pub names_one : Bool → (ℕ → Bool) → Value → Bool
names_one null test (values.object None) = null
names_one null test (values.object (Some id)) = test id
names_one null test _ = false

-- whether a value fits a register of the kind
abbrev pub fits_register : Definition → Objects → Value → RegisterKind → Bool
fits_register d os v kinds.unset = false
fits_register d os v (kinds.plain kind) = kind_fits (class_in os) d.types v kind
fits_register d os v (kinds.some type) = names_one false (λ id. is_one d.types type (class_in os id)) v
fits_register d os v (kinds.at place) = names_one false (λ id. is_number place (place_in os id)) v
fits_register d os v (kinds.at_or_null place) = names_one true (λ id. is_number place (place_in os id)) v

-- each value fits the parameter in its place, and there are as many
abbrev pub all_fit : {K : Type 0} → (Value → K → Bool) → List Value → List K → Bool
all_fit fits [] [] = true
all_fit fits [] (k ∷ ks) = false
all_fit fits (v ∷ vs) [] = false
all_fit fits (v ∷ vs) (k ∷ ks) = fits v k && all_fit fits vs ks

-- ** beginning

-- the parameters are the first registers, and the others are unset
abbrev pub first_registers : Program → List Value → Registers
first_registers p args = map (λ v. Some v) args ++ replicate (p.registers - length args) None

-- how often a block is passed; what a program has no block for is passed once
abbrev pub passes_of : Option Block → ℕ
passes_of None = 1
passes_of (Some b) = passes_in b

-- a program at its first instruction
abbrev pub first_frame : ℕ → Program → List Value → Frame
first_frame number p args = record {
  program = number;
  block = 0;
  at = 0;
  passes = passes_of (slice_get p.blocks 0);
  into = None;
  registers = first_registers p args;
}

-- a program begins
unfoldable pub beginning_program : Definition → World → ℕ → List Value → Answer Started
beginning_program d w number args = do
  p ← known arms.Code (program_at d number)
  only_if (all_fit (fits_register d w.objects) args p.params) arms.Parameters
      (starts (said d w (lines.run p.name)) (Running (first_frame number p args) ∷ []))

-- a program begins in front of other tasks
unfoldable pub program_before : Definition → World → ℕ → List Value → List Task → Answer Started
program_before d w number args tasks = do
  begun ← beginning_program d w number args
  starts begun.world (begun.tasks ++ tasks)
