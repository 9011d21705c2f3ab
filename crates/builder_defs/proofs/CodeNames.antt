-- The programs of a definition, read with the names of the document.
use Rattle.std.proofs.Common.{◌≡◌, ℕ, List, [], codes, Option, Result, Ok, sym, ap, ◌∙◌}
use Rattle.std.proofs.Math.Path.{fun_ext}
use Rattle.serde_json.specs.Data.{Data, Items}
use Rattle.ui_machine.specs.Definition.Programs.{Program}
use Rattle.ui_machine.specs.Definition.Types.{GType}
use Rattle.ui_machine.specs.Outcome.{◌>>=◌}
use Rattle.bytecode.specs.declared.formats.Format.{Format}
use Rattle.bytecode.specs.Reading.RegisterKinds.{Names}
use Rattle.definition_format.specs.declared.faults.ReadError.{ReadError}
use Rattle.definition_format.specs.Refusals.{Refusal, Fails}
use Rattle.definition_format.specs.Document.{entries_at, each, at_entry}
use Rattle.definition_format.specs.Denoted.Entries.{place_with_id}
use Rattle.definition_format.specs.Denoted.Programs.{code_names, program_at, programs_in}
use Rattle.read_parts.proofs.Chains.{fails_as}

with_places : Format → List GType → (List ℕ → Option ℕ) → Names
with_places format types place = record { format = format; types = types; place = place }

module _ (format : Format) (types : List GType) (d : Data) (list : Items) (listed : entries_at [] d (codes "programs") ≡ Ok list)
    (place : List ℕ → Option ℕ) (places : (id : List ℕ) → place id ≡ place_with_id d id) where
  read_with : Names → Result (List Program) Refusal
  read_with names = each (at_entry (λ path. program_at path names) (codes "/programs")) 0 [] list

  programs_are : programs_in format types d ≡ read_with (record { format = format; types = types; place = place })
  unfolding programs_in read_with with_places
  programs_are =
      ap (λ (r : Result Items Refusal). r >>= λ list. each (at_entry (λ path. program_at path (code_names format types d)) (codes "/programs")) 0 [] list) listed
      ∙ ap (λ (f : List ℕ → Option ℕ). read_with (with_places format types f)) (sym (fun_ext places))

  pub programs_fail : (e : ReadError) → Fails e (each (at_entry (λ path. program_at path (record { format = format; types = types; place = place })) (codes "/programs")) 0 [] list) → Fails e (programs_in format types d)
  unfolding read_with
  programs_fail e fails = fails_as e _ _ programs_are fails

  pub programs_done : (ps : List Program) → each (at_entry (λ path. program_at path (record { format = format; types = types; place = place })) (codes "/programs")) 0 [] list ≡ Ok ps → programs_in format types d ≡ Ok ps
  unfolding read_with
  programs_done ps done = programs_are ∙ done
