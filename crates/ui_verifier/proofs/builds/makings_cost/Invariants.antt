use Rattle.std.proofs.Common.{◌≡◌, ℕ, ◌+◌, drop}
use Rattle.ui_machine.specs.Seq.{total}
use Rattle.law_typing.specs.Graph.{built_objects}
use Rattle.law_typing.specs.Graph.Channels.{Channel}
use Rattle.law_typing.specs.Laws.Capped.{capped}
use Rattle.ui_verifier.specs.ByChannel.{GivesCapped, makings_cost}
use Rattle.ui_verifier.proofs.builds.makings_cost.Given as goal

abbrev pub invariant-loop-number : goal.invariant-loop-number
invariant-loop-number l = record {
  within : capped l.sum ≡ l.sum;
  so_far : (f : Channel → ℕ) → GivesCapped l.channels l.values f →
      capped (l.sum + total (total f) (built_objects l.lookups l.number (drop l.number l.lookups.places))) ≡ capped (makings_cost l.lookups f);
}
