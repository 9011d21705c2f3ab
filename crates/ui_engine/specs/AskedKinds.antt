-- Which kind of value an event asks for (GObject manual, g_object_get_property and g_signal_emit).
use Rattle.std.specs.Prelude.{Option, None, option_and_then, option_map}
use Rattle.ui_machine.specs.Definition.{Definition}
use Rattle.ui_machine.specs.Definition.Kinds.{Kind}
use Rattle.ui_machine.specs.Definition.Lookups.{spec_of}
use Rattle.ui_machine.specs.Definition.Properties.{Spec}
use Rattle.ui_machine.specs.Definition.Signals.{Signal}
use Rattle.ui_machine.specs.Rules.EmissionPlan.{signal_of}
use Rattle.ui_machine.specs.State.Tasks.{Event, Request}
use Rattle.ui_machine.specs.State.Tasks as config
use Rattle.definition_format.specs.Meaning.{class_at}

-- the kind of the value that a request asks for: of the property that it reads, or of the result of the signal that it emits
abbrev pub kind_of_request : Definition → Request → Option Kind
kind_of_request d (config.set place slot given) = None
kind_of_request d (config.get place slot) = option_map (λ (s : Spec). s.kind) (spec_of d (class_at d place) slot)
kind_of_request d (config.emit place number args detail) = option_and_then (λ (s : Signal). s.result) (signal_of d (class_at d place) number)
kind_of_request d (config.release place) = None

-- the same of an event
abbrev pub kind_asked : Definition → Event → Option Kind
kind_asked d (config.request r) = kind_of_request d r
kind_asked d (config.turn moment) = None
