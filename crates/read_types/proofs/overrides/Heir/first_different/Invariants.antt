use Rattle.std.proofs.Common.{map}
use Rattle.param_specs.proofs.First.{NoneBefore}
use Rattle.param_specs.specs.Table.{own_of, specs_of}
use Rattle.definition_format.specs.Denoted.Overrides.{override_of, is_different}
use Rattle.read_types.specs.OverrideView.{own_view}
use Rattle.read_types.proofs.overrides.Heir.first_different.Given as goal

abbrev pub invariant-loop-slot : goal.invariant-loop-slot
invariant-loop-slot l =
    NoneBefore (λ w. is_different (override_of (specs_of l.self.types.now l.self.specs.now l.self.parent) (map own_view l.self.own.now.entries) w))
    (own_of l.self.specs.now l.interface) l.slot
