use Rattle.std.proofs.Common.{arith}
use Rattle.ui_engine.proofs.Widths.{all_held}
use Rattle.ui_engine.proofs.rooms.most_params.Goals as goal

pub returns : goal.returns
returns c = all_held c.args.definition.now c.classes.class c.classes.most (omega (arith, c.class_count-class-end.ensures.count, c.classes-test.false)) c.classes.invariant
