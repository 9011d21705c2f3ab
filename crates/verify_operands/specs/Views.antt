-- What the answers of the code say in the words of the rules.
use Rattle.std.specs.Prelude.{◌≡◌, List, map, Option, None, Some, Result, Ok, Err}
use Rattle.ui_machine.specs.Definition.Kinds.{Kind}
use Rattle.ui_machine.specs.Definition.Kinds as kinds
use Rattle.bytecode.specs.declared.programs.RegisterKind.{RegisterKind}
use Rattle.bytecode.specs.View.{register_kind_view}
use Rattle.law_typing.specs.Rules.Answers as rules
use Rattle.law_typing.specs.Rules.RegisterKinds.{Kinds}
use Rattle.law_typing.specs.Rules.Typing.{gives}
use Rattle.verify_operands.specs.declared.rules.Rule.{Rule}
use Rattle.verify_operands.specs.declared.rules.Rule.TheVariants as of_rule
use Rattle.verify_operands.specs.declared.rules.TypingError.{TypingError}
use Rattle.verify_operands.specs.declared.rules.TypingError.TheVariants as errors
use Rattle.verify_operands.specs.declared.rules.Written.{Written}

abbrev pub rule_view : Rule → rules.Rule
rule_view of_rule.Unset = rules.unset
rule_view of_rule.Kind = rules.kind
rule_view of_rule.Null = rules.null
rule_view of_rule.Unknown = rules.unknown
rule_view of_rule.Flags = rules.flags
rule_view of_rule.ConstructOnly = rules.construct_only
rule_view of_rule.Detail = rules.detail
rule_view of_rule.Signature = rules.signature
rule_view of_rule.Result = rules.result
rule_view of_rule.Block = rules.block

-- the kinds of registers
abbrev pub kinds_of : List RegisterKind → Kinds
kinds_of ks = map register_kind_view ks

-- the code's answer, seen by view, is that of a rule's test
abbrev pub Tests : {X Y : Type 0} → (X → Y) → Result X Rule → rules.Typing Y → Type 0
Tests view (Ok x) answer = answer ≡ Ok (view x)
Tests view (Err rule) answer = answer ≡ Err (rule_view rule)

-- the same of a test that leaves the kinds of registers as they are
abbrev pub Passes : {X : Type 0} → Kinds → Result X Rule → rules.Typing Kinds → Type 0
Passes ks (Ok x) answer = answer ≡ Ok ks
Passes ks (Err rule) answer = answer ≡ Err (rule_view rule)

-- The kinds of registers that an instruction leaves: those before, but for the register that it writes, if it writes one. Or the rule that
-- it breaks. Where no memory was found nothing is said.
abbrev pub Leaves : Kinds → Result (Option Written) TypingError → rules.Typing Kinds → Type 0
Leaves ks (Ok None) answer = answer ≡ Ok ks
Leaves ks (Ok (Some written)) answer = answer ≡ gives written.to.0 (register_kind_view written.kind) ks
Leaves ks (Err (errors.Broken rule)) answer = answer ≡ Err (rule_view rule)
Leaves ks (Err errors.OutOfMemory) answer = Unit {0}

-- why a register of a kind of values is no object operand: its object may be null, or it has none
abbrev pub rule_of_value : Kind → rules.Rule
rule_of_value (kinds.object type) = rules.null
rule_of_value kind = rules.kind
