use Rattle.std.proofs.Common.{ℕ, ap, ◌∙◌}
use Rattle.instance_tables.specs.Store.{Store, has_room}
use Rattle.instance_tables.proofs.table.Table.has_room.Goals as goal

pub returns : goal.returns
returns c =
    c.has_room_below.ensures
    ∙ ap (λ (n : ℕ). has_room c.args.to_come (record c.args.self.now { limit = n })) (ap (λ (t : Store). t.limit) c.self.view_is)
