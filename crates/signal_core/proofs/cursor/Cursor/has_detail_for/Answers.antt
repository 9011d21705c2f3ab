use Rattle.std.proofs.Common.{refl}
use Rattle.ui_machine.proofs.Names.{pointwise_same_name}
use Rattle.signal_core.proofs.cursor.Cursor.has_detail_for.Goals as goal

pub returns-in-Some-detail : goal.returns-in-Some-detail
returns-in-Some-detail c =
    let same = pointwise_same_name c.as_str.result.now c.as_str-in-Some-detail.result.now in
    rw (c.eq.ensures, same, c.as_str.ensures.value, c.as_str-in-Some-detail.ensures.value, ← c.self.view_is, c.in-Some.is, c.in-Some-detail.is) refl
