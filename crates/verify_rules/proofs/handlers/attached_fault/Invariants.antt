use Rattle.std.proofs.Common.{◌≡◌, drop, slice_get}
use Rattle.law_typing.specs.Rules.Handlers.{attached_faults}
use Rattle.definitions.specs.EntryView.{entry_view}
use Rattle.verify_rules.proofs.handlers.attached_fault.Given as goal

abbrev pub invariant-loop-number : goal.invariant-loop-number
invariant-loop-number l =
    slice_get (attached_faults l.lookups l.place.0 (entry_view l.entry) 0 (entry_view l.entry).signals) 0
    ≡ slice_get (attached_faults l.lookups l.place.0 (entry_view l.entry) l.number (drop l.number (entry_view l.entry).signals)) 0
