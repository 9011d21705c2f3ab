use Rattle.std.proofs.Common.{◌≡◌, ◌++◌, map, take, drop}
use Rattle.signal_core.specs.Table.{with_program}
use Rattle.signal_core.proofs.table.give_program.Given as goal

abbrev pub invariant-loop-handler : goal.invariant-loop-handler
invariant-loop-handler l =
    l.handlers ≡ map (with_program l.name l.program) (take l.handler-index l.fn.handlers) ++ drop l.handler-index l.fn.handlers
