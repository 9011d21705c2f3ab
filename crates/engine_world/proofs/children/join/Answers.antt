use Rattle.std.proofs.Common.{◌≡◌, Some, Ok, sym, ap, ◌∙◌}
use Rattle.instance_tables.specs.declared.error.AdoptError.TheVariants.{NotLiving, HasParent, ChildLimit}
use Rattle.engine_world.specs.View.{world_of}
use Rattle.ui_machine.specs.State.Objects.{living}
use Rattle.engine_world.proofs.Ableness.{no_arm}
use Rattle.engine_world.proofs.Kin.{never_memory, not_joined, limit_told, family_told}
use Rattle.engine_world.proofs.children.join.Goals as goal

pub unreachable-requires : goal.unreachable-requires
unreachable-requires c =
    no_arm _ _ c.requires.able
    (not_joined c.args.definition.now (world_of c.args.engine.now.world) c.args.kin.parent.0 c.args.kin.child.0
    (sym c.refusal.ensures ∙ c.in-Some-NotLiving.is ∙ ap Some c.in-Some-NotLiving.field-0-is))

pub unreachable-requires-in-Some-OutOfMemory : goal.unreachable-requires-in-Some-OutOfMemory
unreachable-requires-in-Some-OutOfMemory c =
    never_memory c.args.kin.parent.0 c.args.kin.child.0 (living (world_of c.args.engine.now.world).objects c.args.kin.parent.0) (living (world_of c.args.engine.now.world).objects c.args.kin.child.0)
    (sym c.refusal.ensures ∙ c.in-Some-OutOfMemory.is ∙ ap Some c.in-Some-OutOfMemory.field-0-is)

pub returns-in_ok-adopt-in-None-clause-joins : goal.returns-in_ok-adopt-in-None-clause-joins
returns-in_ok-adopt-in-None-clause-joins c =
    family_told c.args.definition.now (world_of c.args.engine.now.world) c.args.kin.parent.0 c.args.kin.child.0 (sym c.refusal.ensures ∙ c.in-None.is)
    ∙ ap Ok (sym c.in_ok-adopt-in-None.ensures.ok)

pub returns-in_ok-say_limit-in-Some-HasParent-clause-joins : goal.returns-in_ok-say_limit-in-Some-HasParent-clause-joins
returns-in_ok-say_limit-in-Some-HasParent-clause-joins c =
    limit_told c.args.definition.now (world_of c.args.engine.now.world) c.args.kin.parent.0 c.args.kin.child.0 c.in-Some-HasParent.field-0
    (sym c.refusal.ensures ∙ c.in-Some-HasParent.is) (λ same. let never : NotLiving ≡ HasParent = same ∙ c.in-Some-HasParent.field-0-is in cc never)
    ∙ ap Ok (sym c.in_ok-say_limit-in-Some-HasParent.ensures.ok)

pub returns-in_ok-say_limit-in-Some-ChildLimit-clause-joins : goal.returns-in_ok-say_limit-in-Some-ChildLimit-clause-joins
returns-in_ok-say_limit-in-Some-ChildLimit-clause-joins c =
    limit_told c.args.definition.now (world_of c.args.engine.now.world) c.args.kin.parent.0 c.args.kin.child.0 c.in-Some-ChildLimit.field-0
    (sym c.refusal.ensures ∙ c.in-Some-ChildLimit.is) (λ same. let never : NotLiving ≡ ChildLimit = same ∙ c.in-Some-ChildLimit.field-0-is in cc never)
    ∙ ap Ok (sym c.in_ok-say_limit-in-Some-ChildLimit.ensures.ok)
