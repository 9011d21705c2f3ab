-- The runs compute.
use Rattle.std.specs.Fmt.{digits}
use Rattle.std.proofs.Common.{refl}
use Rattle.ui_machine.specs.Rules.Construction.{making, apply_construct_property, constructed, thawing_made}
use Rattle.ui_machine.specs.Rules.Build.{set_forward, held_data, building_child, building_forward, building_binding, building_handler, building_object}
use Rattle.ui_machine.specs.Instructions.Peers.{with_method, left_with, called, uncalled, calling}
use Rattle.ui_machine.specs.Rules.Connections.{detail_at, detail_in}
use Rattle.ui_machine.specs.Rules.Disposal.{closing, finalised}
use Rattle.ui_machine.specs.Rules.EmissionPlan.{notifying, signal_at, beginning_emission}
use Rattle.ui_machine.specs.Rules.Children.{adopted}
use Rattle.ui_machine.specs.Instructions.Registers.{moving, values_in, truth_in, text_in, whole_in, operand_in, data_in, written_to}
use Rattle.ui_machine.specs.Instructions.Arithmetic.{reckoning, comparing, sameness, negating, conjunction, disjunction, joining, converting}
use Rattle.ui_machine.specs.Instructions.Properties.{slot_at, get_property, set_from, set_property, then_goes_on, notify_from_program}
use Rattle.ui_machine.specs.Instructions.Objects.{look_up_object, made_new, creating, sinking, orphaning, disposing, adopting, freezing, thaw_notify}
use Rattle.ui_machine.specs.Instructions.Signals.{signal_in, signal_to_emit, emitting, connecting, on_handlers}
use Rattle.ui_machine.specs.Instructions.Sources.{attaching, removing}
use Rattle.ui_machine.specs.Instructions.Jumps.{jumping, branching, branching_null, block_in, given_by, returned, returning}
use Rattle.ui_machine.specs.State.Objects.{asked, changed, with_value}
use Rattle.ui_machine.specs.Rules.Programs.{beginning_program, program_before}
use Rattle.ui_machine.specs.Rules.Accumulation.{down_to_emission, down_to_source, received_by, ending, collecting, resulting}
use Rattle.ui_machine.specs.Instructions.{in_front, running}
use Rattle.ui_machine.specs.Rules.Sets.{spec_at, raising, written, setting}
use Rattle.ui_machine.specs.Rules.Events.{set_given, set_from_event, get_from_event, given_values, emit_from_event, release_from_event}
use Rattle.ui_machine.specs.Steps.{finalising, left}
use Rattle.ui_machine.specs.Rules.MainLoop.{sourcing}
use Rattle.ui_machine.specs.Rules.Transfers.{carried}
use Rattle.machine_rows.specs.Runs.FirstRun as firstrun_run
use Rattle.machine_rows.specs.Runs.NothingToDo as nothingtodo_run
use Rattle.machine_rows.specs.Runs.Range as range_run
use Rattle.machine_rows.specs.Runs.LaxRange as laxrange_run
use Rattle.machine_rows.specs.Runs.ConstructOnly as constructonly_run
use Rattle.machine_rows.specs.Runs.ForwardReference as forwardreference_run
use Rattle.machine_rows.specs.Runs.Freezes as freezes_run
use Rattle.machine_rows.specs.Runs.Stages as stages_run
use Rattle.machine_rows.specs.Runs.TrueHandled as truehandled_run
use Rattle.machine_rows.specs.Runs.NoHandlers as nohandlers_run
use Rattle.machine_rows.specs.Runs.Connections as connections_run
use Rattle.machine_rows.specs.Runs.Pair as pair_run
use Rattle.machine_rows.specs.Runs.Labels as labels_run
use Rattle.machine_rows.specs.Runs.LastReference as lastreference_run
use Rattle.machine_rows.specs.Runs.MainLoop as mainloop_run
use Rattle.machine_rows.specs.Runs.Floating as floating_run
use Rattle.machine_rows.specs.Runs.FaultingPeer as faultingpeer_run
use Rattle.machine_rows.specs.Runs.Release as release_run
use Rattle.machine_rows.specs.Runs.TextAndTruth as textandtruth_run
use Rattle.machine_rows.specs.Runs.Construction as construction_run
use Rattle.machine_rows.specs.Runs.ExplicitNotify as explicitnotify_run
use Rattle.machine_rows.specs.Runs.Links as links_run
use Rattle.machine_rows.specs.Runs.Children as children_run
use Rattle.machine_rows.specs.Runs.Detail as detail_run
use Rattle.machine_rows.specs.Runs.EnumBinding as enumbinding_run
use Rattle.machine_rows.specs.Runs.DueNotification as duenotification_run
use Rattle.machine_rows.specs.Runs.ScreenPeer as screenpeer_run
use Rattle.machine_rows.specs.Runs.RepeatedBlock as repeatedblock_run
use Rattle.machine_rows.specs.Runs.FrozenPair as frozenpair_run

pub firstrun_holds : firstrun_run.Holds
unfolding digits making apply_construct_property set_forward closing finalised detail_at detail_in set_given finalising constructed thawing_made held_data building_child building_forward building_binding building_handler with_method left_with called uncalled notifying signal_at beginning_emission adopted moving reckoning comparing sameness negating conjunction disjunction joining converting slot_at get_property set_from set_property then_goes_on notify_from_program look_up_object made_new creating sinking orphaning disposing adopting freezing thaw_notify signal_in signal_to_emit emitting connecting on_handlers attaching removing calling jumping branching branching_null asked changed with_value beginning_program program_before values_in truth_in text_in whole_in operand_in data_in written_to down_to_emission down_to_source received_by ending block_in given_by returned returning in_front running spec_at raising written setting building_object set_from_event get_from_event given_values emit_from_event release_from_event sourcing left carried collecting resulting
firstrun_holds = refl

pub nothingtodo_holds : nothingtodo_run.Holds
unfolding digits making apply_construct_property set_forward closing finalised detail_at detail_in set_given finalising constructed thawing_made held_data building_child building_forward building_binding building_handler with_method left_with called uncalled notifying signal_at beginning_emission adopted moving reckoning comparing sameness negating conjunction disjunction joining converting slot_at get_property set_from set_property then_goes_on notify_from_program look_up_object made_new creating sinking orphaning disposing adopting freezing thaw_notify signal_in signal_to_emit emitting connecting on_handlers attaching removing calling jumping branching branching_null asked changed with_value beginning_program program_before values_in truth_in text_in whole_in operand_in data_in written_to down_to_emission down_to_source received_by ending block_in given_by returned returning in_front running spec_at raising written setting building_object set_from_event get_from_event given_values emit_from_event release_from_event sourcing left carried collecting resulting
nothingtodo_holds = refl

pub range_holds : range_run.Holds
unfolding digits making apply_construct_property set_forward closing finalised detail_at detail_in set_given finalising constructed thawing_made held_data building_child building_forward building_binding building_handler with_method left_with called uncalled notifying signal_at beginning_emission adopted moving reckoning comparing sameness negating conjunction disjunction joining converting slot_at get_property set_from set_property then_goes_on notify_from_program look_up_object made_new creating sinking orphaning disposing adopting freezing thaw_notify signal_in signal_to_emit emitting connecting on_handlers attaching removing calling jumping branching branching_null asked changed with_value beginning_program program_before values_in truth_in text_in whole_in operand_in data_in written_to down_to_emission down_to_source received_by ending block_in given_by returned returning in_front running spec_at raising written setting building_object set_from_event get_from_event given_values emit_from_event release_from_event sourcing left carried collecting resulting
range_holds = refl

pub laxrange_holds : laxrange_run.Holds
unfolding digits making apply_construct_property set_forward closing finalised detail_at detail_in set_given finalising constructed thawing_made held_data building_child building_forward building_binding building_handler with_method left_with called uncalled notifying signal_at beginning_emission adopted moving reckoning comparing sameness negating conjunction disjunction joining converting slot_at get_property set_from set_property then_goes_on notify_from_program look_up_object made_new creating sinking orphaning disposing adopting freezing thaw_notify signal_in signal_to_emit emitting connecting on_handlers attaching removing calling jumping branching branching_null asked changed with_value beginning_program program_before values_in truth_in text_in whole_in operand_in data_in written_to down_to_emission down_to_source received_by ending block_in given_by returned returning in_front running spec_at raising written setting building_object set_from_event get_from_event given_values emit_from_event release_from_event sourcing left carried collecting resulting
laxrange_holds = refl

pub constructonly_holds : constructonly_run.Holds
unfolding digits making apply_construct_property set_forward closing finalised detail_at detail_in set_given finalising constructed thawing_made held_data building_child building_forward building_binding building_handler with_method left_with called uncalled notifying signal_at beginning_emission adopted moving reckoning comparing sameness negating conjunction disjunction joining converting slot_at get_property set_from set_property then_goes_on notify_from_program look_up_object made_new creating sinking orphaning disposing adopting freezing thaw_notify signal_in signal_to_emit emitting connecting on_handlers attaching removing calling jumping branching branching_null asked changed with_value beginning_program program_before values_in truth_in text_in whole_in operand_in data_in written_to down_to_emission down_to_source received_by ending block_in given_by returned returning in_front running spec_at raising written setting building_object set_from_event get_from_event given_values emit_from_event release_from_event sourcing left carried collecting resulting
constructonly_holds = refl

pub forwardreference_holds : forwardreference_run.Holds
unfolding digits making apply_construct_property set_forward closing finalised detail_at detail_in set_given finalising constructed thawing_made held_data building_child building_forward building_binding building_handler with_method left_with called uncalled notifying signal_at beginning_emission adopted moving reckoning comparing sameness negating conjunction disjunction joining converting slot_at get_property set_from set_property then_goes_on notify_from_program look_up_object made_new creating sinking orphaning disposing adopting freezing thaw_notify signal_in signal_to_emit emitting connecting on_handlers attaching removing calling jumping branching branching_null asked changed with_value beginning_program program_before values_in truth_in text_in whole_in operand_in data_in written_to down_to_emission down_to_source received_by ending block_in given_by returned returning in_front running spec_at raising written setting building_object set_from_event get_from_event given_values emit_from_event release_from_event sourcing left carried collecting resulting
forwardreference_holds = refl

pub freezes_holds : freezes_run.Holds
unfolding digits making apply_construct_property set_forward closing finalised detail_at detail_in set_given finalising constructed thawing_made held_data building_child building_forward building_binding building_handler with_method left_with called uncalled notifying signal_at beginning_emission adopted moving reckoning comparing sameness negating conjunction disjunction joining converting slot_at get_property set_from set_property then_goes_on notify_from_program look_up_object made_new creating sinking orphaning disposing adopting freezing thaw_notify signal_in signal_to_emit emitting connecting on_handlers attaching removing calling jumping branching branching_null asked changed with_value beginning_program program_before values_in truth_in text_in whole_in operand_in data_in written_to down_to_emission down_to_source received_by ending block_in given_by returned returning in_front running spec_at raising written setting building_object set_from_event get_from_event given_values emit_from_event release_from_event sourcing left carried collecting resulting
freezes_holds = refl

pub stages_holds : stages_run.Holds
unfolding digits making apply_construct_property set_forward closing finalised detail_at detail_in set_given finalising constructed thawing_made held_data building_child building_forward building_binding building_handler with_method left_with called uncalled notifying signal_at beginning_emission adopted moving reckoning comparing sameness negating conjunction disjunction joining converting slot_at get_property set_from set_property then_goes_on notify_from_program look_up_object made_new creating sinking orphaning disposing adopting freezing thaw_notify signal_in signal_to_emit emitting connecting on_handlers attaching removing calling jumping branching branching_null asked changed with_value beginning_program program_before values_in truth_in text_in whole_in operand_in data_in written_to down_to_emission down_to_source received_by ending block_in given_by returned returning in_front running spec_at raising written setting building_object set_from_event get_from_event given_values emit_from_event release_from_event sourcing left carried collecting resulting
stages_holds = refl

pub truehandled_holds : truehandled_run.Holds
unfolding digits making apply_construct_property set_forward closing finalised detail_at detail_in set_given finalising constructed thawing_made held_data building_child building_forward building_binding building_handler with_method left_with called uncalled notifying signal_at beginning_emission adopted moving reckoning comparing sameness negating conjunction disjunction joining converting slot_at get_property set_from set_property then_goes_on notify_from_program look_up_object made_new creating sinking orphaning disposing adopting freezing thaw_notify signal_in signal_to_emit emitting connecting on_handlers attaching removing calling jumping branching branching_null asked changed with_value beginning_program program_before values_in truth_in text_in whole_in operand_in data_in written_to down_to_emission down_to_source received_by ending block_in given_by returned returning in_front running spec_at raising written setting building_object set_from_event get_from_event given_values emit_from_event release_from_event sourcing left carried collecting resulting
truehandled_holds = refl

pub nohandlers_holds : nohandlers_run.Holds
unfolding digits making apply_construct_property set_forward closing finalised detail_at detail_in set_given finalising constructed thawing_made held_data building_child building_forward building_binding building_handler with_method left_with called uncalled notifying signal_at beginning_emission adopted moving reckoning comparing sameness negating conjunction disjunction joining converting slot_at get_property set_from set_property then_goes_on notify_from_program look_up_object made_new creating sinking orphaning disposing adopting freezing thaw_notify signal_in signal_to_emit emitting connecting on_handlers attaching removing calling jumping branching branching_null asked changed with_value beginning_program program_before values_in truth_in text_in whole_in operand_in data_in written_to down_to_emission down_to_source received_by ending block_in given_by returned returning in_front running spec_at raising written setting building_object set_from_event get_from_event given_values emit_from_event release_from_event sourcing left carried collecting resulting
nohandlers_holds = refl

pub connections_holds : connections_run.Holds
unfolding digits making apply_construct_property set_forward closing finalised detail_at detail_in set_given finalising constructed thawing_made held_data building_child building_forward building_binding building_handler with_method left_with called uncalled notifying signal_at beginning_emission adopted moving reckoning comparing sameness negating conjunction disjunction joining converting slot_at get_property set_from set_property then_goes_on notify_from_program look_up_object made_new creating sinking orphaning disposing adopting freezing thaw_notify signal_in signal_to_emit emitting connecting on_handlers attaching removing calling jumping branching branching_null asked changed with_value beginning_program program_before values_in truth_in text_in whole_in operand_in data_in written_to down_to_emission down_to_source received_by ending block_in given_by returned returning in_front running spec_at raising written setting building_object set_from_event get_from_event given_values emit_from_event release_from_event sourcing left carried collecting resulting
connections_holds = refl

pub pair_holds : pair_run.Holds
unfolding digits making apply_construct_property set_forward closing finalised detail_at detail_in set_given finalising constructed thawing_made held_data building_child building_forward building_binding building_handler with_method left_with called uncalled notifying signal_at beginning_emission adopted moving reckoning comparing sameness negating conjunction disjunction joining converting slot_at get_property set_from set_property then_goes_on notify_from_program look_up_object made_new creating sinking orphaning disposing adopting freezing thaw_notify signal_in signal_to_emit emitting connecting on_handlers attaching removing calling jumping branching branching_null asked changed with_value beginning_program program_before values_in truth_in text_in whole_in operand_in data_in written_to down_to_emission down_to_source received_by ending block_in given_by returned returning in_front running spec_at raising written setting building_object set_from_event get_from_event given_values emit_from_event release_from_event sourcing left carried collecting resulting
pair_holds = refl

pub labels_holds : labels_run.Holds
unfolding digits making apply_construct_property set_forward closing finalised detail_at detail_in set_given finalising constructed thawing_made held_data building_child building_forward building_binding building_handler with_method left_with called uncalled notifying signal_at beginning_emission adopted moving reckoning comparing sameness negating conjunction disjunction joining converting slot_at get_property set_from set_property then_goes_on notify_from_program look_up_object made_new creating sinking orphaning disposing adopting freezing thaw_notify signal_in signal_to_emit emitting connecting on_handlers attaching removing calling jumping branching branching_null asked changed with_value beginning_program program_before values_in truth_in text_in whole_in operand_in data_in written_to down_to_emission down_to_source received_by ending block_in given_by returned returning in_front running spec_at raising written setting building_object set_from_event get_from_event given_values emit_from_event release_from_event sourcing left carried collecting resulting
labels_holds = refl

pub lastreference_holds : lastreference_run.Holds
unfolding digits making apply_construct_property set_forward closing finalised detail_at detail_in set_given finalising constructed thawing_made held_data building_child building_forward building_binding building_handler with_method left_with called uncalled notifying signal_at beginning_emission adopted moving reckoning comparing sameness negating conjunction disjunction joining converting slot_at get_property set_from set_property then_goes_on notify_from_program look_up_object made_new creating sinking orphaning disposing adopting freezing thaw_notify signal_in signal_to_emit emitting connecting on_handlers attaching removing calling jumping branching branching_null asked changed with_value beginning_program program_before values_in truth_in text_in whole_in operand_in data_in written_to down_to_emission down_to_source received_by ending block_in given_by returned returning in_front running spec_at raising written setting building_object set_from_event get_from_event given_values emit_from_event release_from_event sourcing left carried collecting resulting
lastreference_holds = refl

pub mainloop_holds : mainloop_run.Holds
unfolding digits making apply_construct_property set_forward closing finalised detail_at detail_in set_given finalising constructed thawing_made held_data building_child building_forward building_binding building_handler with_method left_with called uncalled notifying signal_at beginning_emission adopted moving reckoning comparing sameness negating conjunction disjunction joining converting slot_at get_property set_from set_property then_goes_on notify_from_program look_up_object made_new creating sinking orphaning disposing adopting freezing thaw_notify signal_in signal_to_emit emitting connecting on_handlers attaching removing calling jumping branching branching_null asked changed with_value beginning_program program_before values_in truth_in text_in whole_in operand_in data_in written_to down_to_emission down_to_source received_by ending block_in given_by returned returning in_front running spec_at raising written setting building_object set_from_event get_from_event given_values emit_from_event release_from_event sourcing left carried collecting resulting
mainloop_holds = refl

pub floating_holds : floating_run.Holds
unfolding digits making apply_construct_property set_forward closing finalised detail_at detail_in set_given finalising constructed thawing_made held_data building_child building_forward building_binding building_handler with_method left_with called uncalled notifying signal_at beginning_emission adopted moving reckoning comparing sameness negating conjunction disjunction joining converting slot_at get_property set_from set_property then_goes_on notify_from_program look_up_object made_new creating sinking orphaning disposing adopting freezing thaw_notify signal_in signal_to_emit emitting connecting on_handlers attaching removing calling jumping branching branching_null asked changed with_value beginning_program program_before values_in truth_in text_in whole_in operand_in data_in written_to down_to_emission down_to_source received_by ending block_in given_by returned returning in_front running spec_at raising written setting building_object set_from_event get_from_event given_values emit_from_event release_from_event sourcing left carried collecting resulting
floating_holds = refl

pub faultingpeer_holds : faultingpeer_run.Holds
unfolding digits making apply_construct_property set_forward closing finalised detail_at detail_in set_given finalising constructed thawing_made held_data building_child building_forward building_binding building_handler with_method left_with called uncalled notifying signal_at beginning_emission adopted moving reckoning comparing sameness negating conjunction disjunction joining converting slot_at get_property set_from set_property then_goes_on notify_from_program look_up_object made_new creating sinking orphaning disposing adopting freezing thaw_notify signal_in signal_to_emit emitting connecting on_handlers attaching removing calling jumping branching branching_null asked changed with_value beginning_program program_before values_in truth_in text_in whole_in operand_in data_in written_to down_to_emission down_to_source received_by ending block_in given_by returned returning in_front running spec_at raising written setting building_object set_from_event get_from_event given_values emit_from_event release_from_event sourcing left carried collecting resulting
faultingpeer_holds = refl

pub release_holds : release_run.Holds
unfolding digits making apply_construct_property set_forward closing finalised detail_at detail_in set_given finalising constructed thawing_made held_data building_child building_forward building_binding building_handler with_method left_with called uncalled notifying signal_at beginning_emission adopted moving reckoning comparing sameness negating conjunction disjunction joining converting slot_at get_property set_from set_property then_goes_on notify_from_program look_up_object made_new creating sinking orphaning disposing adopting freezing thaw_notify signal_in signal_to_emit emitting connecting on_handlers attaching removing calling jumping branching branching_null asked changed with_value beginning_program program_before values_in truth_in text_in whole_in operand_in data_in written_to down_to_emission down_to_source received_by ending block_in given_by returned returning in_front running spec_at raising written setting building_object set_from_event get_from_event given_values emit_from_event release_from_event sourcing left carried collecting resulting
release_holds = refl

pub textandtruth_holds : textandtruth_run.Holds
unfolding digits making apply_construct_property set_forward closing finalised detail_at detail_in set_given finalising constructed thawing_made held_data building_child building_forward building_binding building_handler with_method left_with called uncalled notifying signal_at beginning_emission adopted moving reckoning comparing sameness negating conjunction disjunction joining converting slot_at get_property set_from set_property then_goes_on notify_from_program look_up_object made_new creating sinking orphaning disposing adopting freezing thaw_notify signal_in signal_to_emit emitting connecting on_handlers attaching removing calling jumping branching branching_null asked changed with_value beginning_program program_before values_in truth_in text_in whole_in operand_in data_in written_to down_to_emission down_to_source received_by ending block_in given_by returned returning in_front running spec_at raising written setting building_object set_from_event get_from_event given_values emit_from_event release_from_event sourcing left carried collecting resulting
textandtruth_holds = refl

pub construction_holds : construction_run.Holds
unfolding digits making apply_construct_property set_forward closing finalised detail_at detail_in set_given finalising constructed thawing_made held_data building_child building_forward building_binding building_handler with_method left_with called uncalled notifying signal_at beginning_emission adopted moving reckoning comparing sameness negating conjunction disjunction joining converting slot_at get_property set_from set_property then_goes_on notify_from_program look_up_object made_new creating sinking orphaning disposing adopting freezing thaw_notify signal_in signal_to_emit emitting connecting on_handlers attaching removing calling jumping branching branching_null asked changed with_value beginning_program program_before values_in truth_in text_in whole_in operand_in data_in written_to down_to_emission down_to_source received_by ending block_in given_by returned returning in_front running spec_at raising written setting building_object set_from_event get_from_event given_values emit_from_event release_from_event sourcing left carried collecting resulting
construction_holds = refl

pub explicitnotify_holds : explicitnotify_run.Holds
unfolding digits making apply_construct_property set_forward closing finalised detail_at detail_in set_given finalising constructed thawing_made held_data building_child building_forward building_binding building_handler with_method left_with called uncalled notifying signal_at beginning_emission adopted moving reckoning comparing sameness negating conjunction disjunction joining converting slot_at get_property set_from set_property then_goes_on notify_from_program look_up_object made_new creating sinking orphaning disposing adopting freezing thaw_notify signal_in signal_to_emit emitting connecting on_handlers attaching removing calling jumping branching branching_null asked changed with_value beginning_program program_before values_in truth_in text_in whole_in operand_in data_in written_to down_to_emission down_to_source received_by ending block_in given_by returned returning in_front running spec_at raising written setting building_object set_from_event get_from_event given_values emit_from_event release_from_event sourcing left carried collecting resulting
explicitnotify_holds = refl

pub links_holds : links_run.Holds
unfolding digits making apply_construct_property set_forward closing finalised detail_at detail_in set_given finalising constructed thawing_made held_data building_child building_forward building_binding building_handler with_method left_with called uncalled notifying signal_at beginning_emission adopted moving reckoning comparing sameness negating conjunction disjunction joining converting slot_at get_property set_from set_property then_goes_on notify_from_program look_up_object made_new creating sinking orphaning disposing adopting freezing thaw_notify signal_in signal_to_emit emitting connecting on_handlers attaching removing calling jumping branching branching_null asked changed with_value beginning_program program_before values_in truth_in text_in whole_in operand_in data_in written_to down_to_emission down_to_source received_by ending block_in given_by returned returning in_front running spec_at raising written setting building_object set_from_event get_from_event given_values emit_from_event release_from_event sourcing left carried collecting resulting
links_holds = refl

pub children_holds : children_run.Holds
unfolding digits making apply_construct_property set_forward closing finalised detail_at detail_in set_given finalising constructed thawing_made held_data building_child building_forward building_binding building_handler with_method left_with called uncalled notifying signal_at beginning_emission adopted moving reckoning comparing sameness negating conjunction disjunction joining converting slot_at get_property set_from set_property then_goes_on notify_from_program look_up_object made_new creating sinking orphaning disposing adopting freezing thaw_notify signal_in signal_to_emit emitting connecting on_handlers attaching removing calling jumping branching branching_null asked changed with_value beginning_program program_before values_in truth_in text_in whole_in operand_in data_in written_to down_to_emission down_to_source received_by ending block_in given_by returned returning in_front running spec_at raising written setting building_object set_from_event get_from_event given_values emit_from_event release_from_event sourcing left carried collecting resulting
children_holds = refl

pub detail_holds : detail_run.Holds
unfolding digits making apply_construct_property set_forward closing finalised detail_at detail_in set_given finalising constructed thawing_made held_data building_child building_forward building_binding building_handler with_method left_with called uncalled notifying signal_at beginning_emission adopted moving reckoning comparing sameness negating conjunction disjunction joining converting slot_at get_property set_from set_property then_goes_on notify_from_program look_up_object made_new creating sinking orphaning disposing adopting freezing thaw_notify signal_in signal_to_emit emitting connecting on_handlers attaching removing calling jumping branching branching_null asked changed with_value beginning_program program_before values_in truth_in text_in whole_in operand_in data_in written_to down_to_emission down_to_source received_by ending block_in given_by returned returning in_front running spec_at raising written setting building_object set_from_event get_from_event given_values emit_from_event release_from_event sourcing left carried collecting resulting
detail_holds = refl

pub enumbinding_holds : enumbinding_run.Holds
unfolding digits making apply_construct_property set_forward closing finalised detail_at detail_in set_given finalising constructed thawing_made held_data building_child building_forward building_binding building_handler with_method left_with called uncalled notifying signal_at beginning_emission adopted moving reckoning comparing sameness negating conjunction disjunction joining converting slot_at get_property set_from set_property then_goes_on notify_from_program look_up_object made_new creating sinking orphaning disposing adopting freezing thaw_notify signal_in signal_to_emit emitting connecting on_handlers attaching removing calling jumping branching branching_null asked changed with_value beginning_program program_before values_in truth_in text_in whole_in operand_in data_in written_to down_to_emission down_to_source received_by ending block_in given_by returned returning in_front running spec_at raising written setting building_object set_from_event get_from_event given_values emit_from_event release_from_event sourcing left carried collecting resulting
enumbinding_holds = refl

pub duenotification_holds : duenotification_run.Holds
unfolding digits making apply_construct_property set_forward closing finalised detail_at detail_in set_given finalising constructed thawing_made held_data building_child building_forward building_binding building_handler with_method left_with called uncalled notifying signal_at beginning_emission adopted moving reckoning comparing sameness negating conjunction disjunction joining converting slot_at get_property set_from set_property then_goes_on notify_from_program look_up_object made_new creating sinking orphaning disposing adopting freezing thaw_notify signal_in signal_to_emit emitting connecting on_handlers attaching removing calling jumping branching branching_null asked changed with_value beginning_program program_before values_in truth_in text_in whole_in operand_in data_in written_to down_to_emission down_to_source received_by ending block_in given_by returned returning in_front running spec_at raising written setting building_object set_from_event get_from_event given_values emit_from_event release_from_event sourcing left carried collecting resulting
duenotification_holds = refl

pub screenpeer_holds : screenpeer_run.Holds
unfolding digits making apply_construct_property set_forward closing finalised detail_at detail_in set_given finalising constructed thawing_made held_data building_child building_forward building_binding building_handler with_method left_with called uncalled notifying signal_at beginning_emission adopted moving reckoning comparing sameness negating conjunction disjunction joining converting slot_at get_property set_from set_property then_goes_on notify_from_program look_up_object made_new creating sinking orphaning disposing adopting freezing thaw_notify signal_in signal_to_emit emitting connecting on_handlers attaching removing calling jumping branching branching_null asked changed with_value beginning_program program_before values_in truth_in text_in whole_in operand_in data_in written_to down_to_emission down_to_source received_by ending block_in given_by returned returning in_front running spec_at raising written setting building_object set_from_event get_from_event given_values emit_from_event release_from_event sourcing left carried collecting resulting
screenpeer_holds = refl

pub repeatedblock_holds : repeatedblock_run.Holds
unfolding digits making apply_construct_property set_forward closing finalised detail_at detail_in set_given finalising constructed thawing_made held_data building_child building_forward building_binding building_handler with_method left_with called uncalled notifying signal_at beginning_emission adopted moving reckoning comparing sameness negating conjunction disjunction joining converting slot_at get_property set_from set_property then_goes_on notify_from_program look_up_object made_new creating sinking orphaning disposing adopting freezing thaw_notify signal_in signal_to_emit emitting connecting on_handlers attaching removing calling jumping branching branching_null asked changed with_value beginning_program program_before values_in truth_in text_in whole_in operand_in data_in written_to down_to_emission down_to_source received_by ending block_in given_by returned returning in_front running spec_at raising written setting building_object set_from_event get_from_event given_values emit_from_event release_from_event sourcing left carried collecting resulting
repeatedblock_holds = refl

pub frozenpair_holds : frozenpair_run.Holds
unfolding digits making apply_construct_property set_forward closing finalised detail_at detail_in set_given finalising constructed thawing_made held_data building_child building_forward building_binding building_handler with_method left_with called uncalled notifying signal_at beginning_emission adopted moving reckoning comparing sameness negating conjunction disjunction joining converting slot_at get_property set_from set_property then_goes_on notify_from_program look_up_object made_new creating sinking orphaning disposing adopting freezing thaw_notify signal_in signal_to_emit emitting connecting on_handlers attaching removing calling jumping branching branching_null asked changed with_value beginning_program program_before values_in truth_in text_in whole_in operand_in data_in written_to down_to_emission down_to_source received_by ending block_in given_by returned returning in_front running spec_at raising written setting building_object set_from_event get_from_event given_values emit_from_event release_from_event sourcing left carried collecting resulting
frozenpair_holds = refl
