use Rattle.std.proofs.Common.{◌∙◌, length}
use Rattle.ui_machine.specs.Rules.Build.{to_make}
use Rattle.ui_machine.specs.State.Objects.{live}
use Rattle.engine_world.specs.TaskView.{agenda_of}
use Rattle.engine_instructions.proofs.Creating.{room_as}
use Rattle.engine_instructions.proofs.new_objects.has_room.Goals as goal

pub returns : goal.returns
returns c =
    let d = c.args.definition.now in
    let e = c.args.engine.now in
    let os = e.world.table.objects in
    c.has_room_below.ensures
    ∙ room_as (live os) (length os) (to_make (agenda_of d e)) c.objects_to_make-to_come.result c.limits.result.objects d.most_objects c.objects_to_make-to_come.ensures c.limits.ensures.objects
    c.limits.ensures.checked.most_objects
