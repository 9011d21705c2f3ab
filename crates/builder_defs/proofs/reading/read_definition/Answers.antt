use Rattle.json_trees.specs.View.{view}
use Rattle.definition_format.specs.Meaning.{meaning}
use Rattle.definition_format.proofs.Origins.{by_document}
use Rattle.definitions.specs.PartsView.{parts_of}
use Rattle.builder_defs.proofs.reading.read_definition.Goals as goal

pub new-requires : goal.new-requires
new-requires c = record {
  sound = c.in_ok-parts.ensures.sound;
  denoted = by_document c.args.bytes.now (view c.in_ok-value.value) (meaning (parts_of c.in_ok-parts.parts)) c.in_ok-value.ensures c.in_ok-parts.ensures.read;
}
