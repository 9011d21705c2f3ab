-- What the faults of the code are in the words of the rules.
use Rattle.std.specs.Prelude.{ℕ}
use Rattle.law_typing.specs.Rules.Answers as rules
use Rattle.law_typing.specs.Rules.Faults.{Fault, ill_typed}
use Rattle.verify_instructions.specs.declared.blocks.BrokenRule.{BrokenRule}
use Rattle.verify_instructions.specs.declared.blocks.IllTyped.{IllTyped}
use Rattle.verify_operands.specs.Views.{rule_view}

-- where in a block a rule is broken, and which
abbrev pub broken_view : BrokenRule → ℕ × rules.Rule
broken_view b = (b.at, rule_view b.rule)

abbrev pub fault_view : IllTyped → Fault
fault_view f = ill_typed f.program f.block.0 f.at (rule_view f.rule)
