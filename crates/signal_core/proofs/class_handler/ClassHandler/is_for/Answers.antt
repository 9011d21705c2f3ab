use Rattle.std.proofs.Common.{refl}
use Rattle.ui_machine.proofs.Names.{pointwise_same_name}
use Rattle.signal_core.proofs.class_handler.ClassHandler.is_for.Goals as goal

pub returns : goal.returns
returns c =
    let same = pointwise_same_name c.as_str.result.now c.args.name.now in
    rw (c.eq.ensures, same, c.as_str.ensures.value, ← c.self.view_is) refl
