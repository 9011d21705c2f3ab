use Rattle.std.proofs.Common.{◌≡◌, ◌++◌, drop, map}
use Rattle.bytecode.specs.View.{instruction_view}
use Rattle.ui_verifier.specs.NamedSources.{named_in}
use Rattle.ui_verifier.proofs.sources.add_code.Given as goal

abbrev pub invariant-loop-number : goal.invariant-loop-number
invariant-loop-number l =
    l.named.items ++ named_in l.lookups (drop l.number (map instruction_view l.code)) ≡ l.initial.named.items ++ named_in l.lookups (map instruction_view l.code)
