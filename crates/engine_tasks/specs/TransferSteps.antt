-- What a transfer sets, and where.
use Rattle.std.specs.Prelude.{Ok, Option, not}
use Rattle.ui_machine.specs.declared.arm.Arm.TheVariants as arms
use Rattle.ui_machine.specs.Definition.{Definition}
use Rattle.ui_machine.specs.Definition.Properties.{is_construct_only, is_readable, is_writable}
use Rattle.ui_machine.specs.Definition.Values.{Value}
use Rattle.ui_machine.specs.Outcome.{Answer, only_if, ◌>>=◌}
use Rattle.ui_machine.specs.Rules.Sets.{spec_at}
use Rattle.ui_machine.specs.Rules.Transform.{transformed}
use Rattle.ui_machine.specs.Rules.Transfers.{End, inverted}
use Rattle.ui_machine.specs.State.Config.{World}
use Rattle.ui_machine.specs.State.Objects.{asked, value_at}
use Rattle.bindings.specs.declared.binding.Transfer.{Transfer}

-- where it goes
abbrev pub to_end : Transfer → End
to_end t = record { object = t.target.0; slot = t.target_slot }

-- the value of its source, transformed and inverted, if both properties may be used so
abbrev pub carried_value : Definition → World → Transfer → Answer (Option Value)
carried_value d w t =
    spec_at d w.objects t.source.0 t.source_slot >>= λ from. spec_at d w.objects t.target.0 t.target_slot >>= λ to.
    asked w.objects t.source.0 (value_at t.source_slot) >>= λ v.
    only_if (is_readable from) arms.Flags
    (only_if (is_writable to) arms.Flags
    (only_if (not (is_construct_only to)) arms.ConstructOnly (Ok (inverted t.invert (transformed d.types from.kind to.kind v)))))
