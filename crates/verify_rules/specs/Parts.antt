-- Parts of a definition, one by one.
use Rattle.std.specs.Prelude.{ℕ, List, ◌++◌}
use Rattle.ui_machine.specs.Definition.{Definition, Class}
use Rattle.law_typing.specs.Rules.Faults.{Fault}
use Rattle.law_typing.specs.Rules.Handlers.{class_handler_faults, constructed_faults}

-- of the programs that a class names
abbrev pub faults_of_class : Definition → ℕ → Class → List Fault
faults_of_class d class c = class_handler_faults d class 0 c.handlers ++ constructed_faults d class c.constructed
