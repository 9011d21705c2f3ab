use Rattle.std.proofs.Common.{◌-◌, drop, length, map}
use Rattle.bytecode.specs.View.{instruction_view}
use Rattle.verify_rules.proofs.BlockBrackets.{IsRead}
use Rattle.verify_rules.proofs.brackets.is_balanced.Given as goal

abbrev pub invariant-loop-behind : goal.invariant-loop-behind
invariant-loop-behind l =
    IsRead l.open.items (drop (length l.block.code.items - l.behind) (map instruction_view l.block.code.items))
