use Rattle.std.proofs.Common.{sym, subst}
use Rattle.bytecode.specs.View.{instruction_view}
use Rattle.bytecode.specs.declared.instructions.Instruction.{Instruction}
use Rattle.law_typing.specs.Graph.{connection_of, listed_if}
use Rattle.verify_operands.specs.Views.{kinds_of}
use Rattle.verify_channels.specs.Connected.{ConnectsMore}
use Rattle.verify_channels.proofs.connections.Connects.add_instruction.Goals as goal

pub returns-in_ok-add_signal-in-Signal-clause-more : goal.returns-in_ok-add_signal-in-Signal-clause-more
returns-in_ok-add_signal-in-Signal-clause-more c =
    let d = c.args.lookups.now in
    let ks = kinds_of c.args.kinds.now in
    subst (λ (i : Instruction). ConnectsMore d c.args.self.now c.add_signal.new.self (listed_if (connection_of d ks (instruction_view i)))) (sym c.in-Signal.is)
    c.in_ok-add_signal-in-Signal.ensures.more
