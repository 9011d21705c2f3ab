-- Steps through the code of a block.
use Rattle.std.specs.Prelude.{◌≡◌, Bool, true, false, not, ◌&&◌, Option, None, Some, Ok, Err}
use Rattle.ui_machine.specs.Definition.{Definition}
use Rattle.ui_machine.specs.Definition.Programs.{Instruction}
use Rattle.ui_machine.specs.Definition.Programs as words
use Rattle.law_typing.specs.Rules.Answers.{Typing}
use Rattle.law_typing.specs.Rules.RegisterKinds.{Kinds, kinds_fit}
use Rattle.verify_operands.specs.declared.rules.Rule.{Rule}
use Rattle.verify_operands.specs.Views.{rule_view}

-- whether an instruction is a jump
abbrev pub is_jump : Instruction → Bool
is_jump (words.jump to) = true
is_jump _ = false

-- whether it is the jump of a block that is passed again with these kinds, if it is, and the registers do not fit them
abbrev pub is_unfit : Definition → Option Kinds → Kinds → Instruction → Bool
is_unfit d None ks i = false
is_unfit d (Some entry) ks i = is_jump i && not (kinds_fit d ks entry)

-- the rule that an instruction breaks, or the kinds of registers after it
abbrev pub Goes : Option Rule → Kinds → Typing Kinds → Type 0
Goes None after answer = answer ≡ Ok after
Goes (Some rule) after answer = answer ≡ Err (rule_view rule)
