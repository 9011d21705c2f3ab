use Rattle.std.proofs.Common.{refl}
use Rattle.ui_machine.specs.Rules.Connections.{blocked, is_on}
use Rattle.engine_instructions.proofs.Connections.{keeps_blocks, same_blocks}
use Rattle.engine_instructions.proofs.matched_handlers.block.Goals as goal

pub returns-clause-world : goal.returns-clause-world
returns-clause-world c = rw c.block_matched.ensures.blocked refl

pub returns-clause-agenda : goal.returns-clause-agenda
returns-clause-agenda c =
    same_blocks c.args.definition.now c.args.engine.now c.block_matched.new.self blocked (is_on c.args.matched.object.0 c.args.matched.program) (λ h. refl) c.block_matched.ensures.blocked

pub returns-clause-counted : goal.returns-clause-counted
returns-clause-counted c =
    keeps_blocks c.args.definition.now c.args.engine.now c.block_matched.new.self blocked (is_on c.args.matched.object.0 c.args.matched.program) (λ h. refl) c.block_matched.ensures.blocked
