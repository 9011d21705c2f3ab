-- Verdicts of the code as those of the law.
use Rattle.std.specs.Prelude.{◌≡◌, map, None, Some, Ok, Err, Result, string_bytes}
use Rattle.ui_machine.specs.Definition.{Definition}
use Rattle.law_typing.specs.Graph.Channels.{Link}
use Rattle.law_typing.specs.Rules.Faults.{Fault}
use Rattle.law_typing.specs.Rules.Faults as faults
use Rattle.law_typing.specs.Verdict.FaultText.{fault_text}
use Rattle.law_typing.specs.Verdict.Judges.{Judges}
use Rattle.verify_graph.specs.ChannelView.{channel_of}
use Rattle.verify_numbers.specs.Links.{cause_of}
use Rattle.verify_rules.specs.RuleFaults as rules
use Rattle.verified.specs.Entries.{entry_of}
use Rattle.law_typing.specs.Verdict.Accepted.{Accepted}
use Rattle.verified.specs.Told.{AreNumbersOf}
use Rattle.verified.specs.declared.numbers.Numbers.{Numbers}
use Rattle.ui_verifier.specs.declared.faults.CycleLink.{CycleLink}
use Rattle.ui_verifier.specs.declared.faults.Refusal.{Refusal}
use Rattle.ui_verifier.specs.declared.verdicts.Judgement.{Judgement}
use Rattle.ui_verifier.specs.declared.verdicts.Judgement.TheVariants as judgement
use Rattle.ui_verifier.specs.declared.faults.VerifyError.{VerifyError}
use Rattle.ui_verifier.specs.declared.faults.VerifyError.TheVariants as errors
use Rattle.ui_verifier.specs.declared.faults.VerifyFault.{VerifyFault}
use Rattle.ui_verifier.specs.declared.faults.VerifyFault.TheVariants as of_fault

abbrev pub link_view : CycleLink → Link
link_view l = record { from = channel_of l.from; by = cause_of l.by }

-- a fault of the code as that of the law
abbrev pub fault_view : VerifyFault → Fault
fault_view (of_fault.Rule f) = rules.fault_view f
fault_view (of_fault.Cycle links) = faults.cycle (map link_view links.items)
fault_view (of_fault.BoundTooLarge e) = faults.bound_too_large (entry_of e)

-- a refusal is right: the definition is judged so, and the text is that of the fault
abbrev pub IsRefusal : Definition → Refusal → Type 0
IsRefusal d r = Judges d (Some (fault_view r.fault)) × (string_bytes r.text ≡ fault_text d (fault_view r.fault))

-- why a definition is not verified
abbrev pub IsRefused : Definition → VerifyError → Type 0
IsRefused d (errors.Refused r) = IsRefusal d r
IsRefused d errors.OutOfMemory = Unit {0}

-- what a verification answers: the definition itself, which is judged to be accepted, or why it is not
abbrev pub Verifies : Definition → Result Definition VerifyError → Type 0
Verifies d (Ok v) = (v ≡ d) × Judges d None
Verifies d (Err e) = IsRefused d e

-- numbers of a definition that is accepted, and judged so
abbrev pub AreAccepted : Definition → Numbers → Type 0
AreAccepted d numbers = ((a : Accepted d) × AreNumbersOf d numbers a) × Judges d None

-- a judgement is right
abbrev pub IsJudged : Definition → Judgement → Type 0
IsJudged d (judgement.Accepted numbers) = AreAccepted d numbers
IsJudged d (judgement.Refused r) = IsRefusal d r
