use Rattle.std.proofs.Common.{◌≡◌, ◌≤◌}
use Rattle.law_typing.specs.Verdict.FaultText.{before_in_list}
use Rattle.definitions.specs.EntryView.{entry_view}
use Rattle.verify_rules.proofs.paths.before_in_list.Given as goal

abbrev pub invariant-loop-number : goal.invariant-loop-number
invariant-loop-number l = record { few : l.count ≤ l.number; is : l.count ≡ before_in_list l.definition l.number (entry_view l.entry) }
