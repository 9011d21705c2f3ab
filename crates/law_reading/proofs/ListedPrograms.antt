-- The programs of a definition that was read are as the laws of runs want them.
use Rattle.std.proofs.Common.{◌≡◌, ℕ, List, [], ◌∷◌, codes, Result, Ok, Err, refl}
use Rattle.std.specs.Prelude.{IfOk}
use Rattle.serde_json.specs.Data.{Data}
use Rattle.ui_machine.specs.Outcome.{◌>>=◌}
use Rattle.ui_machine.specs.Seq.{read}
use Rattle.ui_machine.specs.Output.Text.{no_type}
use Rattle.ui_machine.specs.Definition.{Definition}
use Rattle.ui_machine.specs.Definition.Programs.{Program}
use Rattle.bytecode.specs.declared.faults.ProgramFault.{ProgramFault}
use Rattle.bytecode.specs.declared.formats.Format.{Format}
use Rattle.bytecode.specs.Reading.Outline.{Outline, outline_in}
use Rattle.bytecode.specs.Reading.OutlineFaults.{OutlineFault}
use Rattle.bytecode.specs.Reading.Programs.{program_of}
use Rattle.definition_format.specs.Document.{at_entry, entries_at, members_at, text_at, under}
use Rattle.definition_format.specs.Denoted.Entries.{place_with_id}
use Rattle.definition_format.specs.Denoted.Programs.{code_names, new_program, or_bad_program, program_at, program_in, programs_in, read_ahead, room_for_program, unless_refused}
use Rattle.definition_format.proofs.Soundness.{OnRead, on_all, on_bind, on_each}
use Rattle.law_typing.specs.Laws.WellRead.{ProgramRead}
use Rattle.law_typing.specs.Verdict.Accepted.{Each}
use Rattle.law_typing.proofs.Lists.{each_append}
use Rattle.law_reading.proofs.MemberProofs.{HasMembers}
use Rattle.law_reading.proofs.ProgramProofs.{program_read}

module _ (d : Definition) (members : (t : ℕ) → HasMembers (read no_type d.types t)) (format : Format) (v : Data) where
  -- what the whole of a program's value gives, if it gives one
  abbrev IsWell : Result Program OutlineFault → Type 0
  IsWell ahead = IfOk ahead (ProgramRead d)

  ahead_well : (path : List ℕ) (x : Data) → OnRead IsWell (read_ahead path (code_names format d.types v) (outline_in (code_names format d.types v) x))
  ahead_well path x = of (outline_in (code_names format d.types v) x) refl
    where
      read_so : (o : Outline) → outline_in (code_names format d.types v) x ≡ Ok o → (r : Result Program ProgramFault) → program_of (code_names format d.types v) o ≡ r
          → OnRead IsWell (or_bad_program path r >>= λ p. Ok (Ok p))
      read_so o outlined (Ok p) e = program_read d members format (place_with_id v) x o outlined p e
      read_so o outlined (Err fault) e = tt

      of : (r : Result Outline OutlineFault) → outline_in (code_names format d.types v) x ≡ r → OnRead IsWell (read_ahead path (code_names format d.types v) r)
      of (Ok o) e = read_so o e (program_of (code_names format d.types v) o) refl
      of (Err fault) e = tt

  unless : (path : List ℕ) (ahead : Result Program OutlineFault) → IsWell ahead → OnRead (ProgramRead d) (unless_refused path ahead)
  unless path (Ok p) h = h
  unless path (Err fault) h = tt

  one_read : (path : List ℕ) (programs : List Program) (x : Data) → OnRead (ProgramRead d) (program_in path (code_names format d.types v) programs x)
  unfolding program_in
  one_read path programs x =
      on_bind (λ u. Unit {0}) (ProgramRead d) (members_at path x) _ (on_all _) λ ms u.
      on_bind IsWell (ProgramRead d) (read_ahead path (code_names format d.types v) (outline_in (code_names format d.types v) x)) _ (ahead_well path x) λ ahead h.
      on_bind (λ u. Unit {0}) (ProgramRead d) (room_for_program programs) _ (on_all _) λ room u.
      on_bind (λ u. Unit {0}) (ProgramRead d) (text_at path x (codes "name")) _ (on_all _) λ name u.
      on_bind (λ u. Unit {0}) (ProgramRead d) (new_program (under path (codes "name")) programs name) _ (on_all _) λ new u.
      unless path ahead h

  one_more : (path : List ℕ) (programs : List Program) (x : Data) → Each (ProgramRead d) programs
      → OnRead (Each (ProgramRead d)) (program_at path (code_names format d.types v) programs x)
  unfolding program_at
  one_more path programs x old =
      on_bind (ProgramRead d) (Each (ProgramRead d)) (program_in path (code_names format d.types v) programs x) _ (one_read path programs x) λ p h.
      each_append (ProgramRead d) programs (p ∷ []) old (h, tt)

  pub programs_read : OnRead (Each (ProgramRead d)) (programs_in format d.types v)
  unfolding programs_in
  programs_read =
      on_bind (λ u. Unit {0}) (Each (ProgramRead d)) (entries_at [] v (codes "programs")) _ (on_all _) λ list u.
      on_each (Each (ProgramRead d)) (at_entry (λ path. program_at path (code_names format d.types v)) (under [] (codes "programs")))
      (λ i programs x old. one_more _ programs x old) 0 [] list tt
