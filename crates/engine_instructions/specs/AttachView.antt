-- What an `idle` or `timeout` of a program denotes in the machine.
use Rattle.std.specs.Prelude.{option_map}
use Rattle.ui_machine.specs.Instructions.Sources as machine
use Rattle.bytecode.specs.View.{number_of}
use Rattle.engine_instructions.specs.declared.sources.Attach as code

abbrev pub attach_of : code.Attach → machine.Attach
attach_of a = record {
  word = a.word.now;
  program = a.program.now;
  priority = a.priority;
  interval = a.interval;
  with = option_map number_of a.with;
}
