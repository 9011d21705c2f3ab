use Rattle.engine_world.proofs.NewObjects.{adds, adds_floating}
use Rattle.engine_world.proofs.objects.add.Goals as goal

pub returns-then-floats-clause-added : goal.returns-then-floats-clause-added
returns-then-floats-clause-added c =
    adds_floating c.make_floating.result c.args.object c.args.floats c.args.table.now c.make_floating.new.self c.if-floats.true c.make_floating.ensures.made

pub returns-else-floats-clause-added : goal.returns-else-floats-clause-added
returns-else-floats-clause-added c = adds c.make.result c.args.object c.args.floats c.args.table.now c.make.new.self c.if-floats.false c.make.ensures.made
