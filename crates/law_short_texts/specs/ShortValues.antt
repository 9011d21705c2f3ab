-- What is short. A value is short if it is no text, or null, or a text of at most 4,096 bytes; `IsShort` of the machine's runs says so. Here
-- is what a definition gives, what an event brings and what a configuration holds, where each value of it is short.
use Rattle.std.specs.Prelude.{IfSome, ⊤}
use Rattle.ui_machine.specs.Definition.{Class, Definition}
use Rattle.ui_machine.specs.Definition.Places.{Given, GivenProperty, Place, named, value}
use Rattle.ui_machine.specs.Definition.Programs.{Block, Instruction, Program}
use Rattle.ui_machine.specs.Definition.Programs as words
use Rattle.ui_machine.specs.Definition.Properties.{Spec}
use Rattle.ui_machine.specs.Runs.{IsShort}
use Rattle.ui_machine.specs.State.Config.{Config, World}
use Rattle.ui_machine.specs.State.Objects.{Object}
use Rattle.ui_machine.specs.State.Peers.{Reply}
use Rattle.ui_machine.specs.State.Tasks.{Beginning, Calling, ConstructStep, Constructing, Emission, Emitting, Event, Handling, Request, Running, Setting, Task}
use Rattle.ui_machine.specs.State.Tasks as config
use Rattle.law_typing.specs.Verdict.Accepted.{Each}

-- ** what is given

-- a value that is given is short, or it names an object
abbrev pub IsShortGiven : Given → Type 0
IsShortGiven (value v) = IsShort v
IsShortGiven (named place) = ⊤

-- an instruction's constant, if it has one, is short
abbrev pub HasShortConstant : Instruction → Type 0
HasShortConstant (words.const to kind v) = IsShort v
HasShortConstant _ = ⊤

-- a definition's texts are short: defaults of properties, values that are given to objects, and constants of programs
pub record HasShortTexts (d : Definition) : Type 0 where
  pub defaults : Each (λ (c : Class). Each (λ (s : Spec). IsShort s.default) c.specs) d.classes
  pub given : Each (λ (p : Place). Each (λ (g : GivenProperty). IsShortGiven g.given) p.given) d.places
  pub constants : Each (λ (p : Program). Each (λ (b : Block). Each HasShortConstant b.code) p.blocks) d.programs

-- the values that a request brings are short
abbrev pub IsShortRequest : Request → Type 0
IsShortRequest (config.set place slot given) = IsShortGiven given
IsShortRequest (config.get place slot) = ⊤
IsShortRequest (config.emit place signal args detail) = Each IsShortGiven args
IsShortRequest (config.release place) = ⊤

-- and so are those of an event
abbrev pub IsShortEvent : Event → Type 0
IsShortEvent (config.request r) = IsShortRequest r
IsShortEvent (config.turn moment) = ⊤

-- a peer's answer is short, or a fault
abbrev pub HasShortAnswer : Reply → Type 0
HasShortAnswer r = IfSome r.answer IsShort

-- ** what a configuration holds

-- the properties of an object
abbrev pub IsShortObject : Object → Type 0
IsShortObject o = Each IsShort o.values

-- the arguments of an emission, and the value that it has accumulated
abbrev pub IsShortEmission : Emission → Type 0
IsShortEmission e = Each IsShort e.args × IfSome e.value IsShort

-- the value that a step of a construction sets
abbrev pub IsShortStep : ConstructStep → Type 0
IsShortStep (config.sets slot v) = IsShort v
IsShortStep (config.runs program) = ⊤
IsShortStep config.thaws = ⊤

-- the values of a task: what it sets, its emission's, its registers, its arguments, its steps' or its request's
abbrev pub IsShortTask : Task → Type 0
IsShortTask (Setting id slot v) = IsShort v
IsShortTask (Beginning e) = IsShortEmission e
IsShortTask (Emitting e entries) = IsShortEmission e
IsShortTask (Running frame) = Each (λ r. IfSome r IsShort) frame.registers
IsShortTask (Calling call) = Each IsShort call.args
IsShortTask (Constructing id steps held) = Each IsShortStep steps
IsShortTask (Handling request) = IsShortRequest request
IsShortTask _ = ⊤

-- the properties of each object that lives, and the value that an event reports
abbrev pub IsShortWorld : World → Type 0
IsShortWorld w = Each (λ o. IfSome o IsShortObject) w.objects × IfSome w.result IsShort

-- each value that a configuration holds is short; what a peer keeps for itself is no value of it
abbrev pub AllShort : Config → Type 0
AllShort c = IsShortWorld c.world × Each IsShortTask c.agenda
