-- What the reading of a text computes.
use Rattle.std.specs.Prelude.{⊤}
use Rattle.std.specs.Str.{is_utf8, chars}
use Rattle.serde_json.proofs.OnLiterals.{serde_json_on_literals}
use Rattle.definition_format.specs.Document.{each, document}
use Rattle.definition_format.specs.Denoted.{enums_in, flags_in, interfaces_in, classes_in, draft_in, objects_in}
use Rattle.definition_format.specs.Denoted.Classes.{named_parent, flags_at, declared_at, answers_at, answering_at}
use Rattle.definition_format.specs.Denoted.ClassHandlers.{class_handlers_at}
use Rattle.definition_format.specs.Denoted.Constructed.{constructed_at}
use Rattle.definition_format.specs.Denoted.Drafts.{properties_at, type_at}
use Rattle.definition_format.specs.Denoted.Drafts as drafts
use Rattle.definition_format.specs.Denoted.Signals.{param_at, params_at, signal_of_entry, signal_at, signals_at}
use Rattle.signal_core.specs.Sources.{sources_of}
use Rattle.definition_format.specs.Denoted.Implements.{implements_at}
use Rattle.definition_format.specs.Denoted.Attached.{all_attached}
use Rattle.definition_format.specs.Denoted.Programs.{programs_in}
use Rattle.definition_format.specs.Denoted.Prototypes.{plain_at, all_plain_at, prototype_in, prototype_at, prototypes_in}
use Rattle.definition_format.specs.Denoted.Binds.{bind_at, bind_flag_at, bind_flags_at, slot_called, some_bind_name, source_at}
use Rattle.definition_format.specs.Denoted.Filled.{all_filled, bound_at, filled_at}
use Rattle.definition_format.specs.Denoted.Given.{property_named}
use Rattle.definition_format.specs.Denoted.Objects.{place_at, added_at, object_at}
use Rattle.definition_format.specs.Denoted.Properties.{valued_at, spec_at, property_at}
use Rattle.definition_format.specs.Denoted.Ranges.{range_at}
use Rattle.definition_format.specs.Denoted.Shapes.{shapes_in, shape_at, shape_in, methods_at, method_at, method_in, plain_params_at, plain_param_at, shaped_at, named_shape}
use Rattle.definition_format.specs.Denoted.Peers.{peer_at, listed_peers, next_peer_at, one_peer}
use Rattle.definition_format.specs.Denoted.SessionLimits.{given_limits, given_limit}
use Rattle.definition_format.specs.EventMeaning.{line_value, target, signal_target, object_of, each_of, id_known, argument, set_event, get_event, release_event, emit_event, event_meant, event_denoted}
use Rattle.bytecode.specs.Reading.Each as code
use Rattle.bytecode.specs.Reading.JumpRows.{branch_null_row, jump_row, return_row}
use Rattle.bytecode.specs.Reading.ObjectRows.{get_row, new_row, set_row}
use Rattle.bytecode.specs.Reading.OperandShapes.{connect_at, one_register, two_registers, three_registers, register_and_blocks, register_and_name, one_name}
use Rattle.bytecode.specs.Reading.Outline.{kinds_at, block_at, blocks_at, outline_in}
use Rattle.bytecode.specs.Reading.Programs.{code_in, blocks_in, program_of}
use Rattle.bytecode.specs.Reading.RegisterRows.{arithmetic_row, const_row}
use Rattle.bytecode.specs.Reading.SignalRows.{connect_row, emit_row}
use Rattle.bytecode.specs.Reading.SourceRows.{call_row, idle_row, timeout_row}
use Rattle.bytecode.specs.Reading.Words.{jump_word, source_word, signal_word, object_word, register_word, instruction_at}
use Rattle.definition_format.specs.Denoted.Programs.{program_in, program_at}
use Rattle.definition_format.specs.Denoted.Attached.{program_under, some_detail, some_data, some_truth, attached_in, attached_at}
use Rattle.definition_format.specs.EventMeaning.{turn_event}

-- the bytes, and the types
unfoldable pub text_on_literals : ⊤
unfolding is_utf8 chars serde_json_on_literals document each
text_on_literals = tt

unfoldable pub types_on_literals : ⊤
unfolding enums_in flags_in interfaces_in shapes_in classes_in draft_in type_at declared_at flags_at named_parent implements_at properties_at answers_at answering_at class_handlers_at constructed_at shaped_at drafts.given_at signals_at signal_at signal_of_entry params_at param_at sources_of property_at spec_at valued_at range_at
types_on_literals = tt

-- shapes and peers
unfoldable pub peers_on_literals : ⊤
unfolding shape_at shape_in methods_at method_at method_in plain_params_at plain_param_at named_shape peer_at listed_peers next_peer_at one_peer
peers_on_literals = tt

-- the instructions on peers, signals and null, and the limits
unfoldable pub calls_on_literals : ⊤
unfolding call_row get_row emit_row connect_row connect_at branch_null_row register_and_blocks given_limits given_limit
calls_on_literals = tt

-- the programs
unfoldable pub programs_on_literals : ⊤
unfolding programs_in program_in program_at outline_in blocks_at block_at kinds_at program_of blocks_in code_in code.each instruction_at jump_word source_word signal_word object_word register_word return_row jump_row set_row arithmetic_row new_row const_row idle_row timeout_row one_register two_registers three_registers register_and_name one_name
programs_on_literals = tt

-- the objects, and the lines of events
unfoldable pub objects_on_literals : ⊤
unfolding prototypes_in prototype_at prototype_in all_plain_at plain_at objects_in object_at added_at place_at all_filled filled_at bound_at bind_at source_at slot_called bind_flags_at bind_flag_at some_bind_name property_named all_attached attached_at attached_in program_under some_detail some_data some_truth
objects_on_literals = tt

unfoldable pub lines_on_literals : ⊤
unfolding event_denoted event_meant set_event get_event release_event emit_event turn_event target signal_target each_of id_known argument object_of line_value
lines_on_literals = tt
