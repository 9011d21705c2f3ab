use Rattle.std.proofs.Common.{sym, ap, ◌∙◌}
use Rattle.slab.specs.Slab as slab
use Rattle.instance_tables.specs.Index.{in_order}
use Rattle.instance_tables.proofs.Slabs.{has_entry, less_seen, less_sound, none_at, some_at, still_seen}
use Rattle.instance_tables.proofs.instances.Instances.remove.Goals as goal

pub returns-in_err-key-clause-value : goal.returns-in_err-key-clause-value
returns-in_err-key-clause-value c =
    c.from_residual.ensures ∙ sym (none_at c.self.inside.entries c.self.inside.keys _ c.self.invariant c.self.view_is c.args.id.0 (sym c.in_err-key.ensures.value))

pub returns-in_err-key-clause-gone : goal.returns-in_err-key-clause-gone
returns-in_err-key-clause-gone c =
    still_seen c.self.inside.entries c.self.inside.keys _ c.self.invariant c.self.view_is c.self.inside.entries c.remove.new.self c.args.id.0 (sym c.in_err-key.ensures.value)
    (ap (in_order (slab.get c.self.inside.entries)) c.in_err-key.ensures.unchanged ∙ c.self.view_is)

pub remove-instance-requires : goal.remove-instance-requires
remove-instance-requires c = has_entry c.self.inside.entries c.self.inside.keys _ c.self.invariant c.self.view_is c.args.id.0 _ (sym c.in_ok-key.ensures.value)

pub invariant_of-self-2 : goal.invariant_of-self-2
invariant_of-self-2 c =
    less_sound c.self.inside.entries c.self.inside.keys _ c.self.invariant c.self.view_is c.remove-instance.new.self c.remove.new.self c.args.id.0 _ (sym c.in_ok-key.ensures.value)
    c.remove.ensures.updates c.remove-instance.ensures.updates c.remove.ensures.ordered

pub returns-clause-value : goal.returns-clause-value
returns-clause-value c =
    sym (some_at c.self.inside.entries c.self.inside.keys _ c.self.invariant c.self.view_is c.args.id.0 _ _ (sym c.in_ok-key.ensures.value) c.remove-instance.ensures.value)

pub returns-clause-gone : goal.returns-clause-gone
returns-clause-gone c =
    less_seen c.self.inside.entries c.self.inside.keys _ c.self.invariant c.self.view_is c.remove-instance.new.self c.remove.new.self c.args.id.0 _ (sym c.in_ok-key.ensures.value)
    c.remove.ensures.updates c.remove-instance.ensures.updates c.remove.ensures.ordered
