use Rattle.std.proofs.Common.{◌≡◌, ◌-◌, suc, map, vec_len}
use Rattle.ui_machine.specs.Seq.{write}
use Rattle.ui_machine.specs.State.Config.{unbuilt}
use Rattle.engine_world.specs.View.{held_of}
use Rattle.engine_world.proofs.builder.put_at.Given as goal

abbrev pub invariant-growing : goal.invariant-growing
invariant-growing l = write unbuilt (map held_of l.builder.items) l.place (held_of l.held) ≡ write unbuilt (map held_of l.initial.builder.items) l.place (held_of l.held)

abbrev pub decreases-growing : goal.decreases-growing
decreases-growing l = suc l.place - vec_len l.builder
