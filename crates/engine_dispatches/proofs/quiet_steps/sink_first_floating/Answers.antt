use Rattle.std.proofs.Common.{refl, ap, map, sym, ◌∙◌}
use Rattle.instance_tables.specs.Store.{Store, id_of}
use Rattle.engine_world.specs.View.{held_of}
use Rattle.engine_world.specs.TaskView.{agenda_of}
use Rattle.engine_world.specs.EngineView.{config_of}
use Rattle.engine_world.specs.Counting.{nothing}
use Rattle.engine_world.proofs.Counts.{keeps_by, sunk_exact, with_table, stays}
use Rattle.engine_world.proofs.Floats.{floats_first}
use Rattle.engine_dispatches.proofs.Stepping.{settle_stepped}
use Rattle.engine_world.specs.View.{world_of}
use Rattle.engine_dispatches.proofs.LeftClosings.{still_known}
use Rattle.engine_dispatches.proofs.quiet_steps.sink_first_floating.Goals as goal

pub returns-clause-counted : goal.returns-clause-counted
returns-clause-counted c =
    let d = c.args.definition.now in
    let e = c.args.engine.now in
    (keeps_by d e (with_table e c.sink.new.self) refl refl (λ g. g) refl (stays d e (with_table e c.sink.new.self) refl refl) (λ taken _ h.
    sunk_exact d taken e.world.table c.sink.new.self (map held_of e.world.builder.items) (agenda_of d e) c.in-Some.object.0 c.sink.ensures h)).at nothing c.requires.counted

pub returns-clause-stepped : goal.returns-clause-stepped
returns-clause-stepped c =
    let d = c.args.definition.now in
    let e = c.args.engine.now in
    let id = c.in-Some.object.0 in
    let first = floats_first e.world.table.floating id (sym c.first_floating.ensures ∙ ap id_of c.in-Some.is) in
    settle_stepped d (config_of d e) (config_of d (with_table e c.sink.new.self)) c.requires.none c.requires.idle id first.0 first.1
    (ap (λ (s : Store). config_of d (with_table e s)) c.sink.ensures.beside)

pub returns-clause-known : goal.returns-clause-known
returns-clause-known c = still_known (world_of c.args.engine.now.world) (world_of (with_table c.args.engine.now c.sink.new.self).world) c.args.engine.now.closing refl

pub returns-in_default-clause-known : goal.returns-in_default-clause-known
returns-in_default-clause-known c = still_known (world_of c.args.engine.now.world) (world_of c.args.engine.now.world) c.args.engine.now.closing refl
