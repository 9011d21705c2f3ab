-- What a step of the machine computes.
use Rattle.ui_machine.specs.Rules.Construction.{making, apply_construct_property, constructed, thawing_made}
use Rattle.ui_machine.specs.Rules.Build.{set_forward, held_data, building_child, building_forward, building_binding, building_handler, building_object}
use Rattle.ui_machine.specs.Instructions.Peers.{with_method, left_with, called, uncalled, calling}
use Rattle.ui_machine.specs.Rules.Connections.{detail_at, detail_in}
use Rattle.ui_machine.specs.Rules.Disposal.{closing, finalised}
use Rattle.ui_machine.specs.Rules.EmissionPlan.{notifying, signal_at, beginning_emission}
use Rattle.ui_machine.specs.Rules.Children.{adopted}
use Rattle.ui_machine.specs.Instructions.Registers.{moving, values_in, truth_in, text_in, whole_in, operand_in, data_in, written_to}
use Rattle.ui_machine.specs.Instructions.Arithmetic.{reckoning, comparing, sameness, negating, conjunction, disjunction, joining, converting}
use Rattle.ui_machine.specs.Instructions.Properties.{slot_at, get_property, set_from, set_property, then_goes_on, notify_from_program}
use Rattle.ui_machine.specs.Instructions.Objects.{look_up_object, made_new, creating, sinking, orphaning, disposing, adopting, freezing, thaw_notify}
use Rattle.ui_machine.specs.Instructions.Signals.{signal_in, signal_to_emit, emitting, connecting, on_handlers}
use Rattle.ui_machine.specs.Instructions.Sources.{attaching, removing}
use Rattle.ui_machine.specs.Instructions.Jumps.{jumping, branching, branching_null, block_in, given_by, returned, returning}
use Rattle.ui_machine.specs.State.Objects.{asked, changed, with_value}
use Rattle.ui_machine.specs.Rules.Programs.{beginning_program, program_before}
use Rattle.ui_machine.specs.Rules.Accumulation.{down_to_emission, down_to_source, received_by, ending, collecting, resulting}
use Rattle.ui_machine.specs.Instructions.{in_front, running}
use Rattle.ui_machine.specs.Rules.Sets.{spec_at, raising, written, setting}
use Rattle.ui_machine.specs.Rules.Events.{set_given, set_from_event, get_from_event, given_values, emit_from_event, release_from_event}
use Rattle.ui_machine.specs.Steps.{finalising, left}
use Rattle.ui_machine.specs.Rules.MainLoop.{sourcing}
use Rattle.ui_machine.specs.Rules.Transfers.{carried}
use Rattle.std.specs.Fmt.{digits}
use Rattle.std.specs.Prelude.{⊤}

unfoldable pub machine : ⊤
unfolding digits making apply_construct_property set_forward closing finalised detail_at detail_in set_given finalising constructed thawing_made held_data building_child building_forward building_binding building_handler with_method left_with called uncalled notifying signal_at beginning_emission adopted moving reckoning comparing sameness negating conjunction disjunction joining converting slot_at get_property set_from set_property then_goes_on notify_from_program look_up_object made_new creating sinking orphaning disposing adopting freezing thaw_notify signal_in signal_to_emit emitting connecting on_handlers attaching removing calling jumping branching branching_null asked changed with_value beginning_program program_before values_in truth_in text_in whole_in operand_in data_in written_to down_to_emission down_to_source received_by ending block_in given_by returned returning in_front running spec_at raising written setting building_object set_from_event get_from_event given_values emit_from_event release_from_event sourcing left carried collecting resulting
machine = tt
