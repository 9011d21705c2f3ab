use Rattle.std.proofs.Common.{sym, subst}
use Rattle.bytecode.specs.View.{instruction_view, program_view}
use Rattle.law_typing.specs.Rules.Typing.{typed}
use Rattle.verify_operands.specs.Views.{Leaves, kinds_of}
use Rattle.verify_instructions.proofs.instructions.typed.Goals as goal

pub returns-in-Peer : goal.returns-in-Peer
returns-in-Peer c =
    subst (λ i. Leaves (kinds_of c.args.kinds.now) c.typed-in-Peer.result (typed c.args.lookups.now (program_view c.args.program.now) (kinds_of c.args.kinds.now) (instruction_view i)))
    (sym c.in-Peer.is) (c.typed-in-Peer.ensures (program_view c.args.program.now))
