-- What holds an object strongly (GObject manual, g_object_ref). No count is stored: it is a sum over a configuration.
use Rattle.std.specs.Prelude.{List, None, Option, Some, [], cond, nat_eq, suc, ℕ, ◌+◌, ◌∷◌}
use Rattle.ui_machine.specs.Definition.{Definition}
use Rattle.ui_machine.specs.Definition.Lookups.{specs_of}
use Rattle.ui_machine.specs.Definition.Properties.{Spec}
use Rattle.ui_machine.specs.Definition.Values.{Value}
use Rattle.ui_machine.specs.Definition.Values as values
use Rattle.ui_machine.specs.Seq.{total}
use Rattle.ui_machine.specs.State.Config.{Config, BuilderEntry, built, released, unbuilt}
use Rattle.ui_machine.specs.State.Objects.{Object, Objects}
use Rattle.ui_machine.specs.State.Sources.{Source}
use Rattle.ui_machine.specs.State.Tasks.{Answering, Beginning, Building, Calling, Handling, Constructing, Due, Emission, Emitting, Notifying, Running, Setting, Task, Thawing, Transferring, Unsetting}

-- ** objects without a mention

-- the lowest live identity from i on without a mention
abbrev pub unheld_from : (ℕ → ℕ) → ℕ → Objects → Option ℕ
unheld_from mentions i [] = None
unheld_from mentions i (None ∷ os) = unheld_from mentions (suc i) os
unheld_from mentions i (Some o ∷ os) = cond (nat_eq (mentions i) 0) (Some i) (unheld_from mentions (suc i) os)

-- the lowest live identity without a mention
abbrev pub next_unheld : (ℕ → ℕ) → Objects → Option ℕ
next_unheld mentions os = unheld_from mentions 1 os

-- ** how often an object is held

-- 1 where the identity is o
abbrev pub same : ℕ → ℕ → ℕ
same o i = cond (nat_eq i o) 1 0

-- 1 where it is there and is o
abbrev pub in_option : ℕ → Option ℕ → ℕ
in_option o None = 0
in_option o (Some i) = same o i

-- 1 where a value names o
abbrev pub in_value : ℕ → Value → ℕ
in_value o (values.bool b) = 0
in_value o (values.whole kind n) = 0
in_value o (values.text s) = 0
in_value o (values.enum type n) = 0
in_value o (values.flags type bits) = 0
in_value o (values.object i) = in_option o i

-- 1 where a register holds a value that names o
abbrev pub in_register : ℕ → Option Value → ℕ
in_register o None = 0
in_register o (Some v) = in_value o v

-- the properties that are not weak
abbrev pub in_values : ℕ → List Spec → List Value → ℕ
in_values o [] vs = 0
in_values o (s ∷ specs) [] = 0
in_values o (s ∷ specs) (v ∷ vs) = cond s.weak 0 (in_value o v) + in_values o specs vs

-- an object's properties and children
abbrev pub in_object : Definition → ℕ → Option Object → ℕ
in_object d o None = 0
in_object d o (Some x) = in_values o (specs_of d x.class) x.values + total (same o) x.children

-- an emission holds its object, its arguments and its value
abbrev pub in_emission : ℕ → Emission → ℕ
in_emission o e = same o e.object + (total (in_value o) e.args + in_register o e.value)

-- what a task holds
abbrev pub in_task : ℕ → Task → ℕ
in_task o (Setting object slot v) = same o object
in_task o (Notifying object slot) = same o object
in_task o (Beginning emission) = in_emission o emission
in_task o (Emitting emission entries) = in_emission o emission
in_task o (Transferring number back) = 0
in_task o (Unsetting number) = 0
in_task o (Thawing object slots) = same o object
in_task o (Running frame) = total (in_register o) frame.registers
in_task o (Answering source) = 0
in_task o (Calling call) = same o call.object + total (in_value o) call.args
in_task o (Constructing object steps held) = same o object
in_task o (Building items) = 0
in_task o (Handling request) = 0
in_task o (Due source) = 0

-- a source holds its data
abbrev pub in_source : ℕ → Source → ℕ
in_source o s = in_option o s.arg

-- what the builder has built
abbrev pub in_held : ℕ → BuilderEntry → ℕ
in_held o unbuilt = 0
in_held o (built i) = same o i
in_held o released = 0

-- how often an object is held by a strong reference (GObject manual, references)
abbrev pub mentions : Definition → Config → ℕ → ℕ
mentions d c o =
    total (in_object d o) c.world.objects
    + (total (in_held o) c.world.builder
    + (total (same o) c.world.floating
    + (total (in_source o) c.world.sources
    + total (in_task o) c.agenda)))
