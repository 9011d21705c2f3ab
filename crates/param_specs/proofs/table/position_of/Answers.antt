use Rattle.std.proofs.Common.{◌∙◌, sym}
use Rattle.param_specs.proofs.Named.{spelled_slot, indexed_slot}
use Rattle.param_specs.proofs.table.position_of.Goals as goal

pub returns-then-has_canonical_bytes-clause-place : goal.returns-then-has_canonical_bytes-clause-place
returns-then-has_canonical_bytes-clause-place c = indexed_slot c.args.name.now c.args.own.now.entries c.get_index_of.result c.requires (sym c.has_canonical_bytes.ensures ∙ c.if-has_canonical_bytes.true) c.get_index_of.ensures.index

pub returns-else-has_canonical_bytes-clause-place : goal.returns-else-has_canonical_bytes-clause-place
returns-else-has_canonical_bytes-clause-place c = spelled_slot c.args.name.now c.args.own.now.entries c.spelled_position.result c.requires c.spelled_position.ensures.place
