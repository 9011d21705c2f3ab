use Rattle.std.proofs.Common.{◌≡◌, [], map}
use Rattle.serde_json.specs.View.{items_view}
use Rattle.g_values.specs.View.{kind_view}
use Rattle.definition_format.specs.Meaning.{given_view}
use Rattle.definition_format.specs.EventMeaning.{argument, each_of}
use Rattle.builder_defs.proofs.EachOf.{left}
use Rattle.builder_defs.proofs.emit_reading.arguments_of.Given as goal

abbrev pub invariant-values : goal.invariant-values
invariant-values l = left (argument l.definition) l.params l.args l.index (map given_view l.given.items) ≡ each_of (argument l.definition) [] (map kind_view l.params) (items_view l.args)
