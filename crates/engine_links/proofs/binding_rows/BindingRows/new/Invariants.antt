use Rattle.std.proofs.Common.{◌-◌, length}
use Rattle.engine_links.proofs.Naming.{HasBindings}
use Rattle.engine_links.proofs.binding_rows.BindingRows.new.Given as goal

abbrev pub invariant-loop-binding : goal.invariant-loop-binding
invariant-loop-binding l = HasBindings l.definition l.number l.bindings

abbrev pub decreases-loop-binding : goal.decreases-loop-binding
decreases-loop-binding l = length l.definition.bindings - l.number
