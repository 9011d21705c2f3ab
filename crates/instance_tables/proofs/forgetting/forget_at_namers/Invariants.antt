use Rattle.std.proofs.Common.{◌≡◌, ℕ, ◌-◌, ◌^◌, ◌<◌, ◌≤◌, false}
use Rattle.std.specs.Option.{option_map}
use Rattle.instance_tables.specs.Names.{forgotten_in, NamersKnow}
use Rattle.instance_tables.specs.View.{instances_at}
use Rattle.instance_tables.proofs.forgetting.forget_at_namers.Given as goal

-- those up to one have forgotten, and the others are as they were
abbrev pub invariant-holders : goal.invariant-holders
invariant-holders l = record {
  done : (q : ℕ) → q ≤ l.at → instances_at l.instances q ≡ option_map (forgotten_in l.weak l.id.0) (instances_at l.fn.instances q);
  left : (q : ℕ) → l.at < q → instances_at l.instances q ≡ instances_at l.fn.instances q;
  known : NamersKnow l.namers (instances_at l.instances);
  kept : l.namers.is_given_up ≡ false;
}

abbrev pub decreases-holders : goal.decreases-holders
decreases-holders l = 2 ^ 64 - l.at
