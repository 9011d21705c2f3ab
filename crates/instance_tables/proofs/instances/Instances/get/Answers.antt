use Rattle.std.proofs.Common.{sym, ap, ◌∙◌}
use Rattle.std.specs.Option.{option_copied}
use Rattle.instance_tables.proofs.Slabs.{has_entry, none_at, some_at}
use Rattle.instance_tables.proofs.instances.Instances.get.Goals as goal

pub returns-in_err-key : goal.returns-in_err-key
returns-in_err-key c = record {
  value = ap option_copied c.from_residual.ensures ∙ sym (none_at c.self.inside.entries c.self.inside.keys _ c.self.invariant c.self.view_is c.args.id.0 (sym c.in_err-key.ensures));
}

pub index-requires : goal.index-requires
index-requires c = has_entry c.self.inside.entries c.self.inside.keys _ c.self.invariant c.self.view_is c.args.id.0 _ (sym c.in_ok-key.ensures)

pub returns : goal.returns
returns c = record {
  value = sym (some_at c.self.inside.entries c.self.inside.keys _ c.self.invariant c.self.view_is c.args.id.0 _ _ (sym c.in_ok-key.ensures) c.index.ensures);
}
