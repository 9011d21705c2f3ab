-- Which definition a value denotes where the first format is the only one. What does not come from this file is the same in all formats.
use Rattle.std.specs.Prelude.{ℕ, List, [], ◌∷◌, ◌++◌, codes, ◌==◌, if◌then◌else◌, Option, None, Some, option_map, option_and_then, false, Result, Ok, Err}
use Rattle.serde_json.specs.Data.{Data}
use Rattle.serde_json.specs.Find.{as_array, as_object, as_str, get}
use Rattle.ui_machine.specs.Outcome.{◌>>=◌}
use Rattle.ui_machine.specs.Definition.{Definition}
use Rattle.ui_machine.specs.Definition.Kinds.{RegisterKind}
use Rattle.ui_machine.specs.Definition.Programs.{Program}
use Rattle.ui_machine.specs.Definition.Types.{GType}
use Rattle.bytecode.specs.declared.faults.ProgramFault.{ProgramFault}
use Rattle.bytecode.specs.declared.faults.ProgramFault.TheVariants as faults
use Rattle.bytecode.specs.declared.formats.Format.TheVariants as formats
use Rattle.bytecode.specs.Reading.Each as lists
use Rattle.bytecode.specs.Reading.Each.{entries_of}
use Rattle.bytecode.specs.Reading.Operands.{named}
use Rattle.bytecode.specs.Reading.Outline.{BlockOutline, Outline, entry_at, keys_of_program, kinds_at, only_at, registers_of, result_at, some_entries_at}
use Rattle.bytecode.specs.Reading.OutlineFaults.{OutlineFault, all_of, member_of, shaped}
use Rattle.bytecode.specs.Reading.Programs.{blocks_in, program_with, scope_of, unless_fault}
use Rattle.bytecode.specs.Reading.RegisterKinds.{Names}
use Rattle.bytecode.specs.Shape.{at_block, first_backward, first_limit, first_open, or_next}
use Rattle.definition_format.specs.Document as document
use Rattle.definition_format.specs.Document.{at_entry, each, entries_at, members_at, text_at, under}
use Rattle.definition_format.specs.Refusals.{Refusal, shape}
use Rattle.definition_format.specs.Denoted.Programs.{code_names, new_program, or_bad_program, room_for_program, unless_refused}
use Rattle.definition_format.specs.Denoted.Properties.{specs_by}
use Rattle.definition_format.specs.Denoted.Prototypes.{prototypes_in}
use Rattle.definition_format.specs.Denoted.SessionLimits.{limits_in}
use Rattle.definition_format.specs.Denoted.Shapes.{is_shaped_by}
use Rattle.definition_format.specs.Denoted.{definition_with, draft_in, format_number, keys_of_definition, objects_in}

-- ** blocks

-- a block, which has kinds and instructions and is passed once
unfoldable pub block_at : Names → List RegisterKind → ℕ → ℕ → Data → Result BlockOutline OutlineFault
block_at names params registers block d = do
  members ← shaped (all_of (Some block)) (as_object d)
  entry ← entry_at names params registers block d
  code ← shaped (member_of (Some block) (codes "code")) (option_map entries_of (option_and_then as_array (get (codes "code") d)))
  only ← only_at (Some block) members (codes "in" ∷ codes "code" ∷ [])
  Ok (record { entry = entry; repeat = None; code = code })

abbrev pub block_step : Names → List RegisterKind → ℕ → ℕ → List BlockOutline → Data → Result (List BlockOutline) OutlineFault
block_step names params registers i blocks d = do
  block ← block_at names params registers i d
  Ok (blocks ++ block ∷ [])

unfoldable pub blocks_at : Names → List RegisterKind → ℕ → Data → Result (List BlockOutline) OutlineFault
blocks_at names params registers d = do
  ds ← some_entries_at d (codes "blocks")
  lists.each (block_step names params registers) 0 [] ds

-- ** programs

unfoldable pub outline_in : Names → Data → Result Outline OutlineFault
outline_in names d = do
  members ← shaped (all_of None) (as_object d)
  name ← shaped (member_of None (codes "name")) (named (option_and_then as_str (get (codes "name") d)))
  params ← kinds_at names false (member_of None (codes "params")) (registers_of d) (get (codes "params") d)
  registers ← shaped (member_of None (codes "registers")) (registers_of d)
  result ← result_at names.types d
  blocks ← blocks_at names params registers d
  only ← only_at None members keys_of_program
  Ok (record { name = name; params = params; registers = registers; result = result; blocks = blocks })

-- a jump back, then a block that leads nowhere, then a limit
abbrev pub shape_fault : Program → Option ProgramFault
shape_fault p =
    or_next (option_map (λ b. faults.BackwardJump (at_block b)) (first_backward p.blocks))
    (or_next (option_map (λ b. faults.NoReturn (at_block b)) (first_open p.blocks))
    (option_map faults.Limit (first_limit p)))

unfoldable pub program_of : Names → Outline → Result Program ProgramFault
program_of names o = do
  blocks ← blocks_in (scope_of names o) o.blocks
  unless_fault (program_with o blocks) (shape_fault (program_with o blocks))

abbrev pub read_ahead : List ℕ → Names → Result Outline OutlineFault → Result (Result Program OutlineFault) Refusal
read_ahead path names (Ok o) = or_bad_program path (program_of names o) >>= λ p. Ok (Ok p)
read_ahead path names (Err fault) = Ok (Err fault)

unfoldable pub program_in : List ℕ → Names → List Program → Data → Result Program Refusal
program_in path names programs d = do
  members ← members_at path d
  ahead ← read_ahead path names (outline_in names d)
  room ← room_for_program programs
  name ← text_at path d (codes "name")
  new ← new_program (under path (codes "name")) programs name
  unless_refused path ahead

unfoldable pub program_at : List ℕ → Names → List Program → Data → Result (List Program) Refusal
program_at path names programs d = do
  program ← program_in path names programs d
  Ok (programs ++ program ∷ [])

unfoldable pub programs_in : List GType → Data → Result (List Program) Refusal
programs_in types d = do
  list ← entries_at [] d (codes "programs")
  each (at_entry (λ path. program_at path (code_names formats.First types d)) (under [] (codes "programs"))) 0 [] list

-- ** the whole

-- the member `format`, which is 1
abbrev pub format_of : Option ℕ → Result (Unit {0}) Refusal
format_of None = Err (shape (codes "/format"))
format_of (Some n) = if n == 1 then Ok tt else Err (shape (codes "/format"))

unfoldable pub definition_in : Data → Result Definition Refusal
definition_in d = do
  members ← members_at [] d
  format ← format_of (format_number d)
  limits ← limits_in d
  draft ← draft_in d
  programs ← programs_in draft.types d
  prototypes ← prototypes_in draft.types (specs_by draft.types draft.own) (is_shaped_by draft.types draft.answers.shaped) d
  objects ← objects_in draft.types (specs_by draft.types draft.own) (is_shaped_by draft.types draft.answers.shaped) programs prototypes limits.objects d
  only ← document.only_at [] members keys_of_definition
  Ok (definition_with draft programs (objects.places ++ prototypes) objects.bindings limits)
