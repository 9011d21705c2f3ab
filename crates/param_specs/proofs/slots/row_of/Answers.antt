use Rattle.std.proofs.Common.{map, arith}
use Rattle.std.proofs.lemmas.List.{length-map}
use Rattle.param_specs.proofs.SlotRows.{row_few, row_is}
use Rattle.param_specs.proofs.slots.row_of.Goals as goal

pub returns : goal.returns
returns c = record {
  row =
      row_is c.args.tree.now c.parent-parent.ensures.tree c.args.specs.now (map (λ r. r.items) c.args.rows.now) c.args.t c.own_count.result c.add_own.new.row.items c.in_ok-row.row.items
      (omega (arith, c.requires.before, length-map c.args.rows.now (λ r. r.items))) c.requires.rows c.in_ok-row.ensures c.own_count.ensures.count c.in_ok-add_own.ensures;
  few =
      row_few (map (λ r. r.items) c.args.rows.now) c.requires.few c.args.tree.now c.parent-parent.ensures.tree c.args.t c.own_count.result c.add_own.new.row.items c.in_ok-row.row.items
      c.in_ok-row.ensures c.own_count.ensures.few c.in_ok-add_own.ensures;
}
