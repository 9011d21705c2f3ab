use Rattle.std.proofs.Common.{◌≡◌, ◌≤◌, ℕ, ◌+◌, max, drop}
use Rattle.law_typing.specs.Graph.{makings_from}
use Rattle.law_typing.specs.Graph.Channels.{Channel}
use Rattle.law_typing.specs.Graph.Tables.{greatest}
use Rattle.ui_verifier.specs.ByChannel.{Gives, makings_depth}
use Rattle.ui_verifier.proofs.builds.makings_depth.Given as goal

abbrev pub invariant-loop-number : goal.invariant-loop-number
invariant-loop-number l = record {
  few : l.most ≤ 2_147_483_649;
  so_far : (f : Channel → ℕ) → Gives l.channels l.values f →
      max l.most (greatest (λ cs. 1 + greatest f cs) (makings_from l.lookups l.number (drop l.number l.lookups.places))) ≡ makings_depth l.lookups f;
}
