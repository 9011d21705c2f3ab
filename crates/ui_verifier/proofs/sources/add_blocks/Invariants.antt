use Rattle.std.proofs.Common.{◌≡◌, ◌++◌, drop, map}
use Rattle.bytecode.specs.View.{block_view}
use Rattle.ui_verifier.specs.NamedSources.{named_in_blocks}
use Rattle.ui_verifier.proofs.sources.add_blocks.Given as goal

abbrev pub invariant-loop-number : goal.invariant-loop-number
invariant-loop-number l =
    l.named.items ++ named_in_blocks l.lookups (drop l.number (map block_view l.blocks)) ≡ l.initial.named.items ++ named_in_blocks l.lookups (map block_view l.blocks)
