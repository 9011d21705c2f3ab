-- A program more.
use Rattle.std.proofs.Common.{◌≡◌, ℕ, List, [], ◌∷◌, ◌++◌, map, Result, Ok, sym, ap, ◌∙◌}
use Rattle.std.proofs.lemmas.List.{map_push}
use Rattle.serde_json.specs.Data.{Data}
use Rattle.ui_machine.specs.Definition.Programs.{Program}
use Rattle.ui_machine.specs.Outcome.{◌>>=◌}
use Rattle.bytecode.specs.Reading.RegisterKinds.{Names}
use Rattle.definition_format.specs.declared.faults.ReadError.{ReadError}
use Rattle.definition_format.specs.Meaning.{NamedProgram, plain_program}
use Rattle.definition_format.specs.Refusals.{Refusal, Fails}
use Rattle.definition_format.specs.Denoted.Programs.{program_in, program_at}
use Rattle.read_parts.proofs.Chains.{fails_first}

module _ (path : List ℕ) (names : Names) (es : List NamedProgram) (d : Data) where
  added : Program → Result (List Program) Refusal
  added program = Ok (map plain_program es ++ program ∷ [])

  pub program_fails : (e : ReadError) → Fails e (program_in path names (map plain_program es) d) → Fails e (program_at path names (map plain_program es) d)
  unfolding program_at added
  program_fails e h = fails_first e (program_in path names (map plain_program es) d) added h

  pub program_pushed : (o : NamedProgram) → program_in path names (map plain_program es) d ≡ Ok (plain_program o)
      → program_at path names (map plain_program es) d ≡ Ok (map plain_program (es ++ o ∷ []))
  unfolding program_at added
  program_pushed o h = ap (λ (r : Result Program Refusal). r >>= added) h ∙ ap (λ (ps : List Program). Ok ps) (sym (map_push plain_program es o))
