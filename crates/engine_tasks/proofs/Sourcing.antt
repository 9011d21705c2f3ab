-- How a due source runs, as the engine does it.
use Rattle.std.proofs.Common.{◌≡◌, ◌∷◌, [], ℕ, Option, None, Some, Err, option_map, refl, ap}
use Rattle.ui_machine.specs.declared.arm.Arm.TheVariants as arms
use Rattle.ui_machine.specs.Definition.{Definition}
use Rattle.ui_machine.specs.Outcome.{known, ◌>>=◌}
use Rattle.ui_machine.specs.Rules.MainLoop.{source_data, sourcing}
use Rattle.ui_machine.specs.Rules.Programs.{program_before}
use Rattle.ui_machine.specs.State.Config.{World}
use Rattle.ui_machine.specs.State.Sources.{Source, source_of}
use Rattle.ui_machine.specs.State.Tasks.{Answering}
use Rattle.instance_tables.specs.Store.{id_of}
use Rattle.main_context.specs.Dues.{due_of}
use Rattle.main_context.specs.declared.source.Due.{Due}

module _ (d : Definition) (w : World) (source : ℕ) where
  -- one that is not there can't run
  pub source_absent : source_of source w.sources ≡ None → sourcing d w source ≡ Err arms.Code
  unfolding sourcing
  source_absent none =
      ap (λ (s : Option Source). known arms.Code s >>= λ s. program_before d w s.program (source_data s.arg) (Answering source ∷ [])) none

  same_data : (s : Source) → id_of (due_of s).arg ≡ s.arg
  same_data s = by s.arg
    where
      by : (arg : Option ℕ) → id_of (option_map (λ id. record { 0 = id }) arg) ≡ arg
      by None = refl
      by (Some id) = refl

  -- else its program begins with its data
  pub source_begins : (due : Due) → Some due ≡ option_map due_of (source_of source w.sources)
      → sourcing d w source ≡ program_before d w due.program (source_data (id_of due.arg)) (Answering source ∷ [])
  unfolding sourcing
  source_begins due found = by (source_of source w.sources) found
    where
      by : (s : Option Source) → Some due ≡ option_map due_of s
          → (known arms.Code s >>= λ s. program_before d w s.program (source_data s.arg) (Answering source ∷ []))
          ≡ program_before d w due.program (source_data (id_of due.arg)) (Answering source ∷ [])
      by None e = absurd (cc e)
      by (Some s) e =
          let same : due ≡ due_of s = cc e in
          rw (same, same_data s) refl
