use Rattle.std.proofs.Common.{ℕ, Option, ◌+◌, refl, sym, ap, ◌∙◌}
use Rattle.ui_machine.specs.State.References.{in_option}
use Rattle.ui_machine.specs.declared.ids.ObjectId.{ObjectId}
use Rattle.instance_tables.specs.Store.{Store, id_of, count_of}
use Rattle.instance_tables.proofs.Families.{held_lives, was_made}
use Rattle.instance_tables.proofs.Moves.{more_at}
use Rattle.instance_tables.proofs.table.Table.hold_any.Goals as goal

pub returns-clause-counts : goal.returns-clause-counts
returns-clause-counts c room o =
    let old = c.args.self.now in
    let id : ℕ = c.in-Some.id.0 in
    let lives = held_lives old id (sym c.can_hold.ensures ∙ c.if-not-can_hold.false) in
    ap (λ (s : Store). count_of s.counts o) c.hold.ensures
    ∙ more_at old.counts id (count_of old.counts id + 1) 1 (was_made old.objects id lives).0 refl o
    ∙ ap (λ (i : Option ObjectId). count_of old.counts o + in_option o (id_of i)) (sym c.in-Some.is)
