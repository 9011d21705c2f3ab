-- Which check a judgement of the code is.
use Rattle.std.specs.Prelude.{◌≡◌, ◌⊎◌, ℕ, List, None, Some, Ok, Err, string_bytes}
use Rattle.ui_machine.specs.Definition.{Definition}
use Rattle.law_typing.specs.Rules.Faults.{Fault}
use Rattle.law_typing.specs.Verdict.FaultText.{fault_text}
use Rattle.law_typing.specs.Verdict.Judges.{Judges}
use Rattle.builder_defs.specs.Refusals.{Refusal}
use Rattle.builder_defs.specs.Denoted.{denoted}
use Rattle.builder_defs.specs.FaultText.{refusal_text}
use Rattle.event_lines.specs.declared.definition_checks.Judgement.{Judgement}
use Rattle.event_lines.specs.declared.definition_checks.Judgement.TheVariants as code

-- reading refuses the bytes with this text
abbrev pub IsUnread : List ℕ → List ℕ → Type 0
IsUnread bytes text = (refusal : Refusal) × (denoted bytes ≡ Err refusal) × (text ≡ refusal_text refusal)

-- the verdict refuses what they denote with this text
abbrev pub IsRejected : List ℕ → List ℕ → Type 0
IsRejected bytes text = (d : Definition) × (fault : Fault) × (denoted bytes ≡ Ok d) × Judges d (Some fault) × (text ≡ fault_text d fault)

-- the code's judgement is one that the bytes may come to
abbrev pub IsJudged : List ℕ → Judgement → Type 0
IsJudged bytes (code.Refused text) = IsUnread bytes (string_bytes text) ⊎ IsRejected bytes (string_bytes text)
IsJudged bytes code.Unjudged = Unit {0}
IsJudged bytes (code.Accepted d) = (denoted bytes ≡ Ok d) × Judges d None
