-- How much may be done before a counted step is due: it falls with each uncounted step.
use Rattle.std.specs.Prelude.{ℕ, suc, ◌+◌, ◌*◌, length, Option, Some, None}
use Rattle.ui_machine.specs.Seq.{total}
use Rattle.ui_machine.specs.Definition.{Definition}
use Rattle.ui_machine.specs.Definition.Places.{Place}
use Rattle.ui_machine.specs.Definition.Lookups.{place_at, specs_of}
use Rattle.ui_machine.specs.Rules.Construction.{constructed_runs}
use Rattle.ui_machine.specs.State.Objects.{Object, Objects}
use Rattle.ui_machine.specs.State.Tasks.{Item, makes, adopts, forwards, binds, connects, Task, Setting, Notifying, Beginning, Emitting, Transferring, Unsetting, Thawing, Running, Answering, Calling, Constructing, Building, Handling, Due}
use Rattle.ui_machine.specs.State.Config.{Config}

-- the properties of an object of the build, the programs of its construction, and the values that it is given
abbrev pub sets_of_place : Definition → Option Place → ℕ
sets_of_place d None = 0
sets_of_place d (Some p) = length (specs_of d p.class) + length (constructed_runs d p.class) + length p.given

abbrev pub item_weight : Definition → Item → ℕ
item_weight d (makes place) = 4 * suc (sets_of_place d (place_at d place)) + 3
item_weight d (adopts place) = 1
item_weight d (forwards place slot to) = 4
item_weight d (binds number) = 2
item_weight d (connects place number) = 1

abbrev pub weight : Definition → Task → ℕ
weight d (Setting id slot v) = 3
weight d (Notifying id slot) = 1
weight d (Beginning emission) = 1
weight d (Emitting emission entries) = 2 * length entries + 1
weight d (Transferring number back) = 1
weight d (Unsetting number) = 1
weight d (Thawing id slots) = 2 * length slots + 1
weight d (Running frame) = 1
weight d (Answering source) = 1
weight d (Calling call) = 1
weight d (Constructing id steps held) = 4 * length steps + 1
weight d (Building items) = total (item_weight d) items + 1
weight d (Handling request) = 4
weight d (Due source) = 3

-- a notification that waits
abbrev pub waiting_in : Option Object → ℕ
waiting_in None = 0
waiting_in (Some o) = 2 * length o.queue

abbrev pub waiting : Objects → ℕ
waiting os = total waiting_in os

abbrev pub work : Definition → Config → ℕ
work d c = total (weight d) c.agenda + waiting c.world.objects + length c.world.floating
