use Rattle.std.proofs.Common.{sym, ◌∙◌}
use Rattle.ui_machine.specs.State.Sources.{is_numbered}
use Rattle.main_context.proofs.First.{absent, first}
use Rattle.main_context.proofs.sources.take.Goals as goal

pub returns-in_err-index-clause-given : goal.returns-in_err-index-clause-given
returns-in_err-index-clause-given c =
    let none = absent (is_numbered c.args.number) c.args.sources.now.items (rw c.deref.ensures.value at (sym c.in_err-index.ensures)) in
    c.from_residual.ensures ∙ sym none.found

pub returns-in_err-index-clause-left : goal.returns-in_err-index-clause-left
returns-in_err-index-clause-left c =
    let none = absent (is_numbered c.args.number) c.args.sources.now.items (rw c.deref.ensures.value at (sym c.in_err-index.ensures)) in
    sym none.left

pub returns-clause-given : goal.returns-clause-given
returns-clause-given c =
    let here = first (is_numbered c.args.number) c.args.sources.now.items c.in_ok-index.index c.remove.result (rw c.deref.ensures.value at (sym c.in_ok-index.ensures)) c.remove.ensures.value in
    sym here.found

pub returns-clause-left : goal.returns-clause-left
returns-clause-left c =
    let here = first (is_numbered c.args.number) c.args.sources.now.items c.in_ok-index.index c.remove.result (rw c.deref.ensures.value at (sym c.in_ok-index.ensures)) c.remove.ensures.value in
    c.remove.ensures.items ∙ sym here.left
