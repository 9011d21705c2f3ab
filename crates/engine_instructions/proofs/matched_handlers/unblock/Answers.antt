use Rattle.std.proofs.Common.{refl}
use Rattle.ui_machine.specs.Rules.Connections.{unblocked, is_on}
use Rattle.engine_instructions.proofs.Connections.{keeps_blocks, same_blocks}
use Rattle.engine_instructions.proofs.matched_handlers.unblock.Goals as goal

pub returns-clause-world : goal.returns-clause-world
returns-clause-world c = rw c.unblock_matched.ensures.unblocked refl

pub returns-clause-agenda : goal.returns-clause-agenda
returns-clause-agenda c =
    same_blocks c.args.definition.now c.args.engine.now c.unblock_matched.new.self unblocked (is_on c.args.matched.object.0 c.args.matched.program) (λ h. refl) c.unblock_matched.ensures.unblocked

pub returns-clause-counted : goal.returns-clause-counted
returns-clause-counted c =
    keeps_blocks c.args.definition.now c.args.engine.now c.unblock_matched.new.self unblocked (is_on c.args.matched.object.0 c.args.matched.program) (λ h. refl) c.unblock_matched.ensures.unblocked
