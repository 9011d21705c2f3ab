use Rattle.std.proofs.Common.{◌≡◌, ℕ, ◌+◌, map, take}
use Rattle.law_typing.specs.Laws.Capped.{capped}
use Rattle.verify_order.specs.Numbers.{of_node}
use Rattle.verify_sketches.specs.Numbered.{program}
use Rattle.verify_numbers.specs.Counts.{at}
use Rattle.verified.specs.Told.{source_view}
use Rattle.ui_verifier.proofs.bounds.source_bounds.Given as goal

abbrev pub invariant-loop-program : goal.invariant-loop-program
invariant-loop-program l =
    map source_view l.bounds.items ≡ map (λ (p : ℕ). (p, capped (of_node l.costs (at l.layout (program p)) + l.objects))) (take l.program-index l.programs)
