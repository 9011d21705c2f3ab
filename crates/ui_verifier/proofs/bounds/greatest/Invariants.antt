use Rattle.std.proofs.Common.{◌≡◌, ℕ, max, drop}
use Rattle.law_typing.specs.Graph.Tables.{greatest}
use Rattle.ui_verifier.proofs.bounds.greatest.Given as goal

abbrev pub invariant-loop-value : goal.invariant-loop-value
invariant-loop-value l = max l.most (greatest (λ (n : ℕ). n) (drop l.value-index l.values)) ≡ greatest (λ (n : ℕ). n) l.values
