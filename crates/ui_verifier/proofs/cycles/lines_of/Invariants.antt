use Rattle.std.proofs.Common.{◌≡◌, take}
use Rattle.ui_verifier.specs.Cycles.{lines}
use Rattle.ui_verifier.proofs.cycles.lines_of.Given as goal

abbrev pub invariant-loop-link : goal.invariant-loop-link
invariant-loop-link l = l.all.items ≡ lines l.channels (take l.link-index l.links)
