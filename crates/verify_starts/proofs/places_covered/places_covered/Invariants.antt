use Rattle.std.proofs.Common.{◌≡◌}
use Rattle.std.specs.List.{filter}
use Rattle.ui_machine.specs.Seq.{listed}
use Rattle.bytecode.specs.View.{register_kind_view}
use Rattle.law_typing.specs.Rules.RegisterKinds.{covers}
use Rattle.verify_starts.proofs.places_covered.places_covered.Given as goal

abbrev pub invariant-loop-place : goal.invariant-loop-place
invariant-loop-place l = l.covered.items ≡ filter (covers l.lookups (register_kind_view l.kind)) (listed (λ place. place) l.place)
