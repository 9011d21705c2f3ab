use Rattle.std.proofs.Common.{◌≡◌, ◌++◌, drop}
use Rattle.law_typing.specs.Graph.{sources_of}
use Rattle.law_typing.specs.Rules.Sites.{sites}
use Rattle.ui_verifier.proofs.sources.source_programs.Given as goal

abbrev pub invariant-loop-number : goal.invariant-loop-number
invariant-loop-number l =
    l.programs.items ++ sources_of l.lookups (sites l.lookups) l.number (drop l.number l.lookups.programs)
    ≡ sources_of l.lookups (sites l.lookups) 0 l.lookups.programs
