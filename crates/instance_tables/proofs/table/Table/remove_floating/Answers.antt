use Rattle.std.proofs.Common.{ℕ, length, List, ap, arith}
use Rattle.ui_machine.specs.Seq.{total}
use Rattle.ui_machine.specs.State.References.{same}
use Rattle.instance_tables.specs.Store.{Store, ids_of}
use Rattle.instance_tables.proofs.Without.{gone_of, length_ids}
use Rattle.instance_tables.proofs.table.Table.remove_floating.Goals as goal

pub returns-clause-count : goal.returns-clause-count
returns-clause-count c =
    let id : ℕ = c.args.id.0 in
    let was = length_ids c.self.inside.floating.items in
    let now = length_ids c.remove_id.new.ids.items in
    let rest = ap (λ (is : List ℕ). length is) c.remove_id.ensures.rest in
    let here = ap (λ (s : Store). total (same id) s.floating) c.self.view_is in
    omega (arith, was, now, rest, here, c.remove_id.ensures.count, gone_of id (ids_of c.self.inside.floating.items))
