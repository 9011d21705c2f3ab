use Rattle.std.proofs.Common.{◌≡◌, ◌++◌, drop}
use Rattle.ui_verifier.specs.NamedSources.{named_in_programs}
use Rattle.ui_verifier.proofs.sources.named_sources.Given as goal

abbrev pub invariant-loop-number : goal.invariant-loop-number
invariant-loop-number l = l.named.items ++ named_in_programs l.lookups (drop l.number l.lookups.programs) ≡ named_in_programs l.lookups l.lookups.programs
