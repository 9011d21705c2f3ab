-- What the format refuses in a program's value, and where.
use Rattle.std.specs.Prelude.{◌≡◌, ℕ, List, Option, None, Some, option_map, Result, Ok, Err}
use Rattle.std.specs.Borrow.{Bor}
use Rattle.bytecode.specs.declared.outline_faults.ProgramPart as code_part
use Rattle.bytecode.specs.declared.outline_faults.OutlineFault as code
use Rattle.bytecode.specs.declared.outline_faults.OutlineFault.TheVariants as faults
use Rattle.bytecode.specs.declared.outline_faults.OutlineError.{OutlineError}
use Rattle.bytecode.specs.declared.outline_faults.OutlineError.TheVariants as errors
use Rattle.bytecode.specs.Reading.KindWords.{KindFault, no_kind, unknown}

-- A part of the value: of one of its blocks or of the whole, a member or all, and an entry of the member's list or all of it.
pub record Part : Type 0 where
  pub block : Option ℕ
  pub member : Option (List ℕ)
  pub index : Option ℕ

pub data OutlineFault : Type 0 where
  bad_shape : Part → OutlineFault
  unknown_name : Part → (name : List ℕ) → OutlineFault

-- ** parts

abbrev pub all_of : Option ℕ → Part
all_of block = record { block = block; member = None; index = None }

abbrev pub member_of : Option ℕ → List ℕ → Part
member_of block key = record { block = block; member = Some key; index = None }

-- an entry of the list that a part is
abbrev pub entry_of : Part → ℕ → Part
entry_of part i = record { block = part.block; member = part.member; index = Some i }

-- ** what code answers

abbrev pub part_view : code_part.ProgramPart → Part
part_view p = record { block = p.block; member = option_map (λ (s : Bor (List ℕ)). s.now) p.member; index = p.index }

abbrev pub fault_view : code.OutlineFault → OutlineFault
fault_view (faults.Shape part) = bad_shape (part_view part)
fault_view (faults.Unknown part name) = unknown_name (part_view part) name.now

-- What a function returned, seen by view, is what the format says, unless memory ran out.
abbrev pub Fails : {Y : Type 0} → OutlineError → Result Y OutlineFault → Type 0
Fails errors.OutOfMemory read = Unit {0}
Fails (errors.Refused fault) read = read ≡ Err (fault_view fault)

abbrev pub Gives : {X Y : Type 0} → (X → Y) → Result X OutlineError → Result Y OutlineFault → Type 0
Gives view (Ok x) read = read ≡ Ok (view x)
Gives view (Err e) read = Fails e read

-- what is there, or a fault of shape
abbrev pub shaped : {A : Type 0} → Part → Option A → Result A OutlineFault
shaped part None = Err (bad_shape part)
shaped part (Some x) = Ok x

-- the fault of a word at a part that names no kind
abbrev pub kind_refusal : Part → KindFault → OutlineFault
kind_refusal part no_kind = bad_shape part
kind_refusal part (unknown name) = unknown_name part name

abbrev pub kind_there : {A : Type 0} → Part → Result A KindFault → Result A OutlineFault
kind_there part (Ok kind) = Ok kind
kind_there part (Err fault) = Err (kind_refusal part fault)
