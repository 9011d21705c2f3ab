-- What readers of programs are given and keep, as specs see it.
use Rattle.std.specs.Prelude.{map, option_map}
use Rattle.std.specs.BTreeMap.{get_by_text}
use Rattle.json_trees.specs.View.{view}
use Rattle.g_values.specs.View.{kind_view}
use Rattle.bytecode.specs.View.{register_kind_view}
use Rattle.bytecode.specs.Reading.KindWords.{KindFault, no_kind, unknown}
use Rattle.bytecode.specs.Reading.Operands.{Options}
use Rattle.bytecode.specs.Reading.Outline.{BlockOutline, Outline}
use Rattle.bytecode.specs.Reading.RegisterKinds.{Names, number_of_place}
use Rattle.bytecode.specs.Reading.Scopes.{Scope}
use Rattle.handler_code.specs.declared.reading.kind_words.KindFault as code_fault
use Rattle.handler_code.specs.declared.reading.kind_words.KindFault.TheVariants as faults
use Rattle.handler_code.specs.declared.reading.names.Names as code_names
use Rattle.handler_code.specs.declared.reading.operand_lists.ConnectOptions.{ConnectOptions}
use Rattle.handler_code.specs.declared.reading.outline.BlockOutline as code_block
use Rattle.handler_code.specs.declared.reading.outline.Outline as code
use Rattle.handler_code.specs.declared.reading.scope.Scope as code_scope

abbrev pub names_view : code_names.Names → Names
names_view n = record { format = n.format; types = n.types.now; place = λ id. number_of_place (get_by_text n.places.now id) }

abbrev pub scope_view : code_scope.Scope → Scope
scope_view s = record { types = s.types.now; registers = s.registers; blocks = s.blocks }

-- a fault without where its text lies in memory
abbrev pub kind_fault : code_fault.KindFault → KindFault
kind_fault faults.NoKind = no_kind
kind_fault (faults.Unknown name) = unknown name.now

abbrev pub options_view : ConnectOptions → Options
options_view o = record { after = o.after; swapped = o.swapped }

abbrev pub block_outline_view : code_block.BlockOutline → BlockOutline
block_outline_view b = record { entry = map register_kind_view b.entry.items; repeat = b.repeat; code = map view b.code.now }

abbrev pub outline_view : code.Outline → Outline
outline_view o = record {
  name = o.name.now;
  params = map register_kind_view o.params.items;
  registers = o.registers;
  result = option_map kind_view o.result;
  blocks = map block_outline_view o.blocks.items;
}
