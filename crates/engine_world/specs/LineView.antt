-- Which line of the machine a line of the engine denotes.
use Rattle.std.specs.Prelude.{map, option_map}
use Rattle.ui_machine.specs.Output.Lines as lines
use Rattle.g_values.specs.View.{value_view}
use Rattle.engine_world.specs.declared.lines.Line.{Line}
use Rattle.engine_world.specs.declared.lines.Line.TheVariants as code

abbrev pub line_view : Line → lines.Line
line_view code.Build = lines.build
line_view (code.Construct object class) = lines.construct object.0 class.now
line_view (code.Set object property value) = lines.set object.0 property.now (value_view value.now)
line_view (code.Refused object property value) = lines.refused object.0 property.now (value_view value.now)
line_view (code.Notify object property) = lines.notify object.0 property.now
line_view (code.Emit object signal detail args) = lines.emit object.0 signal.now (option_map (λ d. d.now) detail) (map value_view args.now)
line_view (code.Run program) = lines.run program.now
line_view (code.Get object property value) = lines.get object.0 property.now (value_view value.now)
line_view (code.Call peer method args answer) = lines.call peer.now method.now (map value_view args.now) (value_view answer.now)
line_view (code.Fault peer method args) = lines.fault peer.now method.now (map value_view args.now)
line_view (code.Closed peer method args) = lines.closed peer.now method.now (map value_view args.now)
line_view (code.Limit word) = lines.limit word.now
line_view (code.Adopt parent child) = lines.adopt parent.0 child.0
line_view (code.Orphan child) = lines.orphan child.0
line_view (code.Release id) = lines.release id.now
line_view (code.Turn moment) = lines.turn moment
line_view (code.Dispose object) = lines.dispose object.0
line_view (code.Close peer) = lines.close peer.now
line_view (code.Final object) = lines.final object.0
line_view (code.Result value) = lines.result (value_view value.now)
line_view (code.End steps) = lines.end steps
