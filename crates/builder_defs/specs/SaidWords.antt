-- What the words of a line ask for, once they are taken out of it.
use Rattle.std.specs.Prelude.{ℕ, List, [], Result, Ok}
use Rattle.serde_json.specs.Data.{Data}
use Rattle.serde_json.specs.Find.{as_str}
use Rattle.ui_machine.specs.Definition as machine
use Rattle.ui_machine.specs.State.Tasks as config
use Rattle.ui_machine.specs.Outcome.{◌>>=◌}
use Rattle.definition_format.specs.Meaning.{object_place}
use Rattle.definition_format.specs.Denoted.Given.{reference}
use Rattle.definition_format.specs.EventMeaning.{EventRefusal, unknown, or_refused, target, object_named, writable, readable, given_by, signal_target, check_count, check_detail, each_of, id_known, argument, Emitted}

-- the set of a property of the object of an id
abbrev pub set_of : machine.Definition → List ℕ → List ℕ → Data → Result config.Event EventRefusal
set_of d id name v = do
  found ← target d id name
  named ← object_named d (reference found.spec.kind (as_str v))
  may ← writable found.spec
  given ← given_by d found.spec.kind v named
  Ok (config.request (config.set found.place found.slot given))

-- the get of a property of the object of an id
abbrev pub get_of : machine.Definition → List ℕ → List ℕ → Result config.Event EventRefusal
get_of d id name = do
  found ← target d id name
  may ← readable found.spec
  Ok (config.request (config.get found.place found.slot))

-- the release of the object of an id
abbrev pub release_of : machine.Definition → List ℕ → Result config.Event EventRefusal
release_of d id = do
  place ← or_refused (unknown id) (object_place d id)
  Ok (config.request (config.release place))

-- the emission of a signal of the object of an id
abbrev pub emit_of : machine.Definition → Emitted → Result config.Event EventRefusal
emit_of d said = do
  found ← signal_target d said.id said.name
  many ← check_count found.signal said.args
  ids ← each_of (id_known d) tt found.signal.params said.args
  may ← check_detail found.signal said.detail
  given ← each_of (argument d) [] found.signal.params said.args
  Ok (config.request (config.emit found.place found.which given said.detail))
