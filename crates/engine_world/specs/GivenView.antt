-- What is given, as an operand of the engine.
use Rattle.std.specs.Prelude.{ℕ, List, Option, Some, option_map, Ok, String, string_bytes, is_some}
use Rattle.std.specs.Global.{Global}
use Rattle.std.specs.Rc.{rc_str_bytes}
use Rattle.std.specs.declared.rc.RcStr.{RcStr}
use Rattle.ui_machine.specs.declared.arm.Arm.TheVariants as arms
use Rattle.ui_machine.specs.Definition.Lookups.{slot_of}
use Rattle.ui_machine.specs.Definition.Names.{canonical}
use Rattle.ui_machine.specs.Definition.{Definition}
use Rattle.ui_machine.specs.Definition.Values as values
use Rattle.ui_machine.specs.Outcome.{Answer, only_if, ◌>>=◌}
use Rattle.ui_machine.specs.State.Config.{World}
use Rattle.ui_machine.specs.Definition.Signals.{Signal}
use Rattle.ui_machine.specs.Rules.Build.{held_object}
use Rattle.ui_machine.specs.Rules.Connections.{detail_for, may_stand}

-- the object that the builder has of a place, as a value
abbrev pub held_value : World → ℕ → Answer values.Value
held_value w place = held_object w place >>= λ id. Ok (values.object (Some id))

-- a detail as the machine has it
abbrev pub detail_of : Option (String Global) → Option (List ℕ)
detail_of detail = option_map (λ text. string_bytes text) detail

-- the same of one that is shared
abbrev pub shared_detail_of : Option (RcStr Global) → Option (List ℕ)
shared_detail_of detail = option_map (λ text. rc_str_bytes text) detail

-- a detail as it is at a signal of a class, if it may
abbrev pub standing : Definition → (class number : ℕ) → Signal → Option (List ℕ) → Answer (Option (List ℕ))
standing d class number s detail = only_if (may_stand d class number s detail) arms.Code (Ok (detail_for number detail))

-- the canonical name of the property that a name names
abbrev pub detail_named : Definition → (class : ℕ) → List ℕ → Answer (List ℕ)
detail_named d class name = only_if (is_some (slot_of d class name)) arms.Code (Ok (canonical name))
