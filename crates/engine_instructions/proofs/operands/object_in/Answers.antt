use Rattle.std.proofs.Common.{◌≡◌, true, is_some, Ok, ap, sym, ◌∙◌}
use Rattle.ui_machine.specs.declared.arm.Arm.TheVariants as arms
use Rattle.ui_machine.specs.Outcome.{only_if}
use Rattle.ui_machine.specs.State.Objects.{living}
use Rattle.frames.specs.Operand.{identity_in}
use Rattle.engine_world.specs.View.{world_of}
use Rattle.engine_world.proofs.Ableness.{able_as, is_ok, no_arm, tested}
use Rattle.engine_instructions.proofs.ObjectSteps.{operand_by}
use Rattle.engine_world.specs.FirstPrograms.{first_frame}
use Rattle.ui_machine.specs.State.Tasks.{Registers}
use Rattle.engine_instructions.proofs.operands.object_in.Goals as goal

pub identity_at-requires : goal.identity_at-requires
identity_at-requires c =
    let same = ap (λ (rs : Registers). identity_in rs c.args.from.0) c.first_registers.ensures in
    rw same (is_ok _ (λ arm is. no_arm _ arm c.requires.able (operand_by (world_of c.args.engine.now.world) (first_frame c.args.engine.now) c.args.from.0 _ is)))

pub returns : goal.returns
returns c =
    let w = world_of c.args.engine.now.world in
    let id = c.identity_at.result.0 in
    let read = ap (λ (rs : Registers). identity_in rs c.args.from.0) (sym c.first_registers.ensures) ∙ c.identity_at.ensures in
    let by = operand_by w (first_frame c.args.engine.now) c.args.from.0 (Ok id) read in
    let live : is_some (living w.objects id) ≡ true = tested _ arms.Operand (Ok id) (able_as by c.requires.able) in
    by ∙ ap (λ b. only_if b arms.Operand (Ok id)) live
