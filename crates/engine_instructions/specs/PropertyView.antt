-- What an instruction finds of a property that it names.
use Rattle.std.specs.Prelude.{ℕ, List, Ok}
use Rattle.ui_machine.specs.declared.arm.Arm.TheVariants as arms
use Rattle.ui_machine.specs.Definition.{Definition}
use Rattle.ui_machine.specs.Definition.Properties.{is_readable}
use Rattle.ui_machine.specs.Definition.Values.{Value}
use Rattle.ui_machine.specs.Instructions.Properties.{slot_at}
use Rattle.ui_machine.specs.Outcome.{Answer, only_if, ◌>>=◌}
use Rattle.ui_machine.specs.Rules.Sets.{if_settable, spec_at}
use Rattle.ui_machine.specs.State.Config.{World}
use Rattle.ui_machine.specs.State.Objects.{asked, value_at}

-- the value of an object's property, which may be read
abbrev pub readable_value : Definition → World → ℕ → List ℕ → Answer Value
readable_value d w id name =
    slot_at d w id name >>= λ slot. spec_at d w.objects id slot >>= λ s. asked w.objects id (value_at slot) >>= λ v.
    only_if (is_readable s) arms.Flags (Ok v)

-- the slot of an object's property, which may be set
abbrev pub settable_slot : Definition → World → ℕ → List ℕ → Answer ℕ
settable_slot d w id name = slot_at d w id name >>= λ slot. spec_at d w.objects id slot >>= λ s. if_settable s (Ok slot)
