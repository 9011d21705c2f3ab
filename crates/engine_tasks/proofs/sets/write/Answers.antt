use Rattle.std.proofs.Common.{◌≡◌, ◌∙◌, refl, sym, map}
use Rattle.g_values.specs.View.{value_view}
use Rattle.engine_world.specs.View.{held_of}
use Rattle.engine_world.specs.TaskView.{agenda_of}
use Rattle.engine_world.proofs.Counts.{keeps_by, written_exact, stays}
use Rattle.instance_tables.proofs.Written.{was_read}
use Rattle.engine_tasks.proofs.Asking.{slot_there}
use Rattle.engine_tasks.proofs.WrittenValues.{named_held}
use Rattle.engine_tasks.proofs.sets.write.Goals as goal

pub write-requires : goal.write-requires
write-requires c = record { slot = slot_there c.args.engine.now.world.table.objects c.args.object.0 c.args.slot (value_view c.args.value) c.requires.able }

pub returns-clause-counted : goal.returns-clause-counted
returns-clause-counted c =
    let d = c.args.definition.now in
    let e = c.args.engine.now in
    let room = named_held e.world.table (value_view c.args.value) (c.never_full.ensures.may d c.requires.counted) c.requires.lives in
    keeps_by d e _ refl refl (λ g. g) refl (stays d e _ refl refl) (λ taken knows h.
    written_exact d e.world.weak e.world.table c.write.new.self c.args.object.0 c.args.slot (value_view c.args.value) taken (map held_of e.world.builder.items) (agenda_of d e) _ knows
    c.write.ensures.changes c.write.ensures.beside
    (λ was is. let same : value_view c.write.result ≡ was = cc (sym (was_read _ _ _ _ _ _ c.write.ensures.changes) ∙ is) in rw (← same) (c.write.ensures.moves room)) h)
