-- The place of an object or a prototype, as it is looked up.
use Rattle.std.specs.Prelude.{map}
use Rattle.ui_machine.specs.Definition.Places.{Place}
use Rattle.definition_format.specs.Meaning.{attached_view, given_property, name_bytes, place_number, place_with}
use Rattle.definitions.specs.declared.object_entries.ObjectEntry.{ObjectEntry}

abbrev pub entry_view : ObjectEntry → Place
entry_view o =
    place_with o.id.now o.class o.is_prototype (place_number o.parent) (name_bytes o.peers.now) (map given_property o.given.now) (map attached_view o.signals.now)
