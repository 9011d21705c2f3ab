use Rattle.std.proofs.Common.{◌≡◌, drop, slice_get}
use Rattle.law_typing.specs.Rules.Handlers.{place_faults}
use Rattle.verify_rules.proofs.handlers.place_fault.Given as goal

abbrev pub invariant-loop-number : goal.invariant-loop-number
invariant-loop-number l =
    slice_get (place_faults l.lookups 0 l.lookups.places) 0
    ≡ slice_get (place_faults l.lookups l.number (drop l.number l.lookups.places)) 0
