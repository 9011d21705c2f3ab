use Rattle.std.proofs.Common.{◌≡◌, map}
use Rattle.serde_json.specs.View.{items_view}
use Rattle.g_values.specs.View.{kind_view}
use Rattle.definition_format.specs.EventMeaning.{id_known, each_of}
use Rattle.builder_defs.proofs.EachOf.{left}
use Rattle.builder_defs.proofs.emit_reading.check_ids.Given as goal

abbrev pub invariant-values : goal.invariant-values
invariant-values l = left (id_known l.definition) l.params l.args l.index tt ≡ each_of (id_known l.definition) tt (map kind_view l.params) (items_view l.args)
