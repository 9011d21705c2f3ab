-- What each instruction that was read is like, so are those of each program that was read: their constants are short.
use Rattle.std.proofs.Common.{ℕ, List, [], ◌∷◌, codes, Option, None, Some, Result, Ok, Err}
use Rattle.std.specs.Prelude.{IfOk}
use Rattle.serde_json.specs.Data.{Data}
use Rattle.ui_machine.specs.Definition.Programs.{Block, Instruction, Program}
use Rattle.ui_machine.specs.Definition.Types.{GType}
use Rattle.bytecode.specs.declared.faults.ProgramFault.{ProgramFault}
use Rattle.bytecode.specs.declared.faults.ProgramFault.TheVariants as faults
use Rattle.bytecode.specs.declared.formats.Format.{Format}
use Rattle.bytecode.specs.Reading.Operands as operands
use Rattle.bytecode.specs.Reading.Outline.{BlockOutline, Outline, outline_in}
use Rattle.bytecode.specs.Reading.OutlineFaults.{OutlineFault}
use Rattle.bytecode.specs.Reading.Programs.{blocks_in, code_in, code_step, filled, good_at, instruction_behind, program_of, program_with, scope_of, unless_fault, with_next_instruction}
use Rattle.bytecode.specs.Reading.RegisterKinds.{Names}
use Rattle.bytecode.specs.Reading.Scopes.{Scope}
use Rattle.bytecode.specs.Reading.Words.{instruction_at}
use Rattle.bytecode.specs.Shape.{at_block, is_ended, shape_fault}
use Rattle.definition_format.specs.Document.{at_entry, entries_at, members_at, nth, text_at, under}
use Rattle.definition_format.specs.Denoted.Programs.{code_names, new_program, or_bad_program, program_at, program_in, programs_in, read_ahead, room_for_program, unless_refused}
use Rattle.law_typing.specs.Verdict.Accepted.{Each}
use Rattle.law_typing.proofs.Lists.{each_append}
use Rattle.law_steps.proofs.Served.IfOkProofs.{after_each, after_such, either_such}
use Rattle.law_short_texts.specs.ShortValues.{HasShortConstant}
use Rattle.law_short_readings.proofs.InstructionProofs.{instruction_short}
use Rattle.law_short_readings.proofs.ListProofs.{code_keeps, entries_keep}

-- what is so of each instruction of a program
abbrev pub Instructs : (Instruction → Type 0) → Program → Type 0
Instructs P p = Each (λ (b : Block). Each P b.code) p.blocks

abbrev pub HasShortConstants : Program → Type 0
HasShortConstants p = Instructs HasShortConstant p

-- ** a program

module _ (P : Instruction → Type 0) (reads : (s : Scope) (x : Data) → IfOk (instruction_at s x) P) (s : Scope) where
  abbrev AreIn : Block → Type 0
  AreIn b = Each P b.code

  where_read : (block at : ℕ) (r : Result Instruction operands.Refusal) → IfOk r P → IfOk (good_at block at r) P
  where_read block at (Ok i) short = short
  where_read block at (Err refusal) short = tt

  one_behind : (block at : ℕ) (code : List Instruction) (x : Data) → IfOk (instruction_behind s block at code x) P
  one_behind block at code x =
      either_such (is_ended code) (Err (faults.BadInstruction (at_block block) at)) (good_at block at (instruction_at s x)) P tt
      (where_read block at (instruction_at s x) (reads s x))

  with_next : (block at : ℕ) (code : List Instruction) (x : Data) → Each P code → IfOk (with_next_instruction s block at code x) (Each P)
  with_next block at code x all =
      after_such (instruction_behind s block at code x) _ P (Each P) (one_behind block at code x) λ i short.
      each_append P code (i ∷ []) all (short, tt)

  code_short : (block : ℕ) (xs : List Data) → IfOk (code_in s block xs) (Each P)
  unfolding code_in
  code_short block xs = code_keeps (Each P) (with_next_instruction s block) (λ at code x all. with_next block at code x all) 0 [] xs tt

  block_short : (i : ℕ) (blocks : List Block) (b : BlockOutline) → Each AreIn blocks → IfOk (code_step s i blocks b) (Each AreIn)
  block_short i blocks b all =
      after_such (code_in s i b.code) _ (Each P) (Each AreIn) (code_short i b.code) λ code short.
      each_append AreIn blocks (record { entry = filled s.registers b.entry; repeat = b.repeat; code = code } ∷ []) all (short, tt)

  blocks_short : (bs : List BlockOutline) → IfOk (blocks_in s bs) (Each AreIn)
  unfolding blocks_in
  blocks_short bs = code_keeps (Each AreIn) (code_step s) (λ i blocks b all. block_short i blocks b all) 0 [] bs tt

-- ** the programs of a document

module _ (P : Instruction → Type 0) (reads : (s : Scope) (x : Data) → IfOk (instruction_at s x) P) where
  unless_at_fault : (p : Program) (fault : Option ProgramFault) → Instructs P p → IfOk (unless_fault p fault) (Instructs P)
  unless_at_fault p None short = short
  unless_at_fault p (Some fault) short = tt

  outlined_short : (names : Names) (o : Outline) → IfOk (program_of names o) (Instructs P)
  unfolding program_of
  outlined_short names o =
      after_such (blocks_in (scope_of names o) o.blocks) _ (Each (λ (b : Block). Each P b.code)) (Instructs P) (blocks_short P reads (scope_of names o) o.blocks) λ blocks short.
      unless_at_fault (program_with o blocks) (shape_fault (program_with o blocks)) short

  module _ (names : Names) where
    -- what the whole of a program's value gives, if it gives one
    abbrev IsShortAhead : Result Program OutlineFault → Type 0
    IsShortAhead ahead = IfOk ahead (Instructs P)

    or_bad : (path : List ℕ) (r : Result Program ProgramFault) → IfOk r (Instructs P) → IfOk (or_bad_program path r) (Instructs P)
    or_bad path (Ok p) short = short
    or_bad path (Err fault) short = tt

    ahead_short : (path : List ℕ) (r : Result Outline OutlineFault) → IfOk (read_ahead path names r) IsShortAhead
    ahead_short path (Ok o) =
        after_such (or_bad_program path (program_of names o)) _ (Instructs P) IsShortAhead (or_bad path (program_of names o) (outlined_short names o)) λ p short. short
    ahead_short path (Err fault) = tt

    unless : (path : List ℕ) (ahead : Result Program OutlineFault) → IsShortAhead ahead → IfOk (unless_refused path ahead) (Instructs P)
    unless path (Ok p) short = short
    unless path (Err fault) short = tt

    one_short : (path : List ℕ) (programs : List Program) (x : Data) → IfOk (program_in path names programs x) (Instructs P)
    unfolding program_in
    one_short path programs x =
        after_each (members_at path x) _ (Instructs P) λ members.
        after_such (read_ahead path names (outline_in names x)) _ IsShortAhead (Instructs P) (ahead_short path (outline_in names x)) λ ahead short.
        after_each (room_for_program programs) _ (Instructs P) λ room.
        after_each (text_at path x (codes "name")) _ (Instructs P) λ name.
        after_each (new_program (under path (codes "name")) programs name) _ (Instructs P) λ new.
        unless path ahead short

    one_more : (path : List ℕ) (programs : List Program) (x : Data) → Each (Instructs P) programs
        → IfOk (program_at path names programs x) (Each (Instructs P))
    unfolding program_at
    one_more path programs x all =
        after_such (program_in path names programs x) _ (Instructs P) (Each (Instructs P)) (one_short path programs x) λ p short.
        each_append (Instructs P) programs (p ∷ []) all (short, tt)

  pub programs_have : (format : Format) (types : List GType) (d : Data) → IfOk (programs_in format types d) (Each (Instructs P))
  unfolding programs_in
  programs_have format types d =
      after_each (entries_at [] d (codes "programs")) _ (Each (Instructs P)) λ list.
      entries_keep (Each (Instructs P)) (at_entry (λ path. program_at path (code_names format types d)) (under [] (codes "programs")))
      (λ i programs x all. one_more (code_names format types d) (nth (under [] (codes "programs")) i) programs x all) 0 [] list tt

pub programs_short : (format : Format) (types : List GType) (d : Data) → IfOk (programs_in format types d) (Each HasShortConstants)
programs_short format types d = programs_have HasShortConstant (λ s x. instruction_short s x) format types d
