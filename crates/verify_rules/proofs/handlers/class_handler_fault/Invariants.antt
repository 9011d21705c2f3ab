use Rattle.std.proofs.Common.{◌≡◌, drop, slice_get}
use Rattle.ui_machine.specs.Definition.Lookups.{class_of}
use Rattle.law_typing.specs.Rules.Handlers.{class_handler_faults}
use Rattle.verify_rules.proofs.handlers.class_handler_fault.Given as goal

abbrev pub invariant-loop-number : goal.invariant-loop-number
invariant-loop-number l =
    slice_get (class_handler_faults l.lookups l.class 0 (class_of l.lookups l.class).handlers) 0
    ≡ slice_get (class_handler_faults l.lookups l.class l.number (drop l.number (class_of l.lookups l.class).handlers)) 0
