-- An event that a line denotes brings short values.
use Rattle.std.proofs.Common.{ℕ, List, [], ◌∷◌, Option, None, Some, option_and_then, Result, Ok, Err, subst}
use Rattle.std.specs.Prelude.{IfOk, codes}
use Rattle.serde_json.specs.Data.{Data, Items, no_items, item}
use Rattle.serde_json.specs.Find.{get, as_array, as_number, as_str, as_u64}
use Rattle.g_values.specs.Reading.{json_value}
use Rattle.g_values.specs.declared.error.JsonFault.{JsonFault}
use Rattle.ui_machine.specs.Definition.{Definition}
use Rattle.ui_machine.specs.Definition.Kinds.{Kind}
use Rattle.ui_machine.specs.Definition.Places.{Given, named}
use Rattle.ui_machine.specs.Definition.Values.{Value}
use Rattle.ui_machine.specs.Runs.{IsShort}
use Rattle.definition_format.specs.Meaning.{class_at, object_place}
use Rattle.definition_format.specs.Denoted.Given.{reference}
use Rattle.definition_format.specs.EventMeaning.{argument, check_count, check_detail, each_of, emit_by, emit_event, event_by, event_denoted, event_meant, get_event, given_by, has_one_member, id_known, is_of_kind, itself, line_value, moment_if, object_named, or_refused, or_value_fault, readable, release_by, release_event, set_event, shape, signal_target, target, turn_by, turn_event, unknown, value_fault, words_of_emit, words_of_get, words_of_set, writable}
use Rattle.law_typing.specs.Verdict.Accepted.{Each}
use Rattle.law_typing.proofs.Lists.{each_append}
use Rattle.law_steps.proofs.Served.IfOkProofs.{after_each, after_such, either_such}
use Rattle.law_short_texts.specs.ShortValues.{IsShortEvent, IsShortGiven}
use Rattle.law_short_readings.specs.ShortReadings.{EventsAreShort}
use Rattle.law_short_readings.proofs.ValueProofs.{value_short}

-- a value itself
value_itself : (r : Result Value JsonFault) → IfOk r IsShort → IfOk (itself (or_value_fault r)) IsShortGiven
value_itself (Ok v) short = short
value_itself (Err cause) short = tt

module _ (d : Definition) where
  given_short : (kind : Kind) (words : Data) (o : Option ℕ) → IfOk (given_by d kind words o) IsShortGiven
  given_short kind words None = value_itself (json_value d.types kind words) (value_short d.types kind words)
  given_short kind words (Some place) = either_such (is_of_kind d.types kind (class_at d place)) (Ok (named place)) (Err value_fault) IsShortGiven tt tt

  set_short : (words : Data) → IfOk (set_event d words) IsShortEvent
  unfolding set_event
  set_short words =
      after_each (or_refused shape (option_and_then words_of_set (as_array words))) _ IsShortEvent λ said.
      after_each (target d said.0 said.1) _ IsShortEvent λ found.
      after_each (object_named d (reference found.spec.kind (as_str said.2))) _ IsShortEvent λ o.
      after_each (writable found.spec) _ IsShortEvent λ may.
      after_such (given_by d found.spec.kind said.2 o) _ IsShortGiven IsShortEvent (given_short found.spec.kind said.2 o) λ g short. short

  get_short : (words : Data) → IfOk (get_event d words) IsShortEvent
  unfolding get_event
  get_short words =
      after_each (or_refused shape (option_and_then words_of_get (as_array words))) _ IsShortEvent λ said.
      after_each (target d said.0 said.1) _ IsShortEvent λ found.
      after_each (readable found.spec) _ IsShortEvent λ may. tt

  release_short : (word : Data) → IfOk (release_event d word) IsShortEvent
  unfolding release_event
  release_short word =
      after_each (or_refused shape (as_str word)) _ IsShortEvent λ id.
      after_each (or_refused (unknown id) (object_place d id)) _ IsShortEvent λ place. tt

  -- ** emissions

  -- the arguments so far, with one more
  argument_short : (so_far : List Given) → Each IsShortGiven so_far → (kind : Kind) (words : Data) → IfOk (argument d so_far kind words) (Each IsShortGiven)
  unfolding argument
  argument_short so_far all kind words =
      after_each (object_named d (reference kind (as_str words))) _ (Each IsShortGiven) λ o.
      after_such (given_by d kind words o) _ IsShortGiven (Each IsShortGiven) (given_short kind words o) λ g short.
      each_append IsShortGiven so_far (g ∷ []) all (short, tt)

  arguments_short : (so_far : List Given) → Each IsShortGiven so_far → (ks : List Kind) (vs : Items) → IfOk (each_of (argument d) so_far ks vs) (Each IsShortGiven)
  unfolding each_of
  arguments_short so_far all [] vs = all
  arguments_short so_far all (k ∷ ks) no_items = all
  arguments_short so_far all (k ∷ ks) (item v vs) =
      after_such (argument d so_far k v) _ (Each IsShortGiven) (Each IsShortGiven) (argument_short so_far all k v) λ more short. arguments_short more short ks vs

  emit_short : (words : Data) → IfOk (emit_event d words) IsShortEvent
  unfolding emit_event
  emit_short words =
      after_each (or_refused shape (option_and_then words_of_emit (as_array words))) _ IsShortEvent λ said.
      after_each (signal_target d said.id said.name) _ IsShortEvent λ found.
      after_each (check_count found.signal said.args) _ IsShortEvent λ many.
      after_each (each_of (id_known d) tt found.signal.params said.args) _ IsShortEvent λ ids.
      after_each (check_detail found.signal said.detail) _ IsShortEvent λ may.
      after_such (each_of (argument d) [] found.signal.params said.args) _ (Each IsShortGiven) IsShortEvent (arguments_short [] tt found.signal.params said.args)
      λ args short. short

  -- ** events

  turn_short : (word : Data) → IfOk (turn_event word) IsShortEvent
  unfolding turn_event
  turn_short word =
      after_each (or_refused shape (as_number word)) _ IsShortEvent λ said.
      after_each (moment_if (as_u64 said)) _ IsShortEvent λ moment. tt

  by_turn : (turn : Option Data) → IfOk (turn_by turn) IsShortEvent
  by_turn None = tt
  by_turn (Some word) = turn_short word

  by_emit : (emit turn : Option Data) → IfOk (emit_by d emit turn) IsShortEvent
  by_emit None turn = by_turn turn
  by_emit (Some words) turn = emit_short words

  by_release : (release emit turn : Option Data) → IfOk (release_by d release emit turn) IsShortEvent
  by_release None emit turn = by_emit emit turn
  by_release (Some word) emit turn = release_short word

  by_member : (set get release emit turn : Option Data) → IfOk (event_by d set get release emit turn) IsShortEvent
  by_member None None release emit turn = by_release release emit turn
  by_member None (Some words) release emit turn = get_short words
  by_member (Some words) get release emit turn = set_short words

  meant_short : (value : Data) → IfOk (event_meant d value) IsShortEvent
  unfolding event_meant
  meant_short value =
      either_such (has_one_member value)
      (event_by d (get (codes "set") value) (get (codes "get") value) (get (codes "release") value) (get (codes "emit") value) (get (codes "turn") value))
      (Err shape) IsShortEvent
      (by_member (get (codes "set") value) (get (codes "get") value) (get (codes "release") value) (get (codes "emit") value) (get (codes "turn") value)) tt

  pub event_short : (line : List ℕ) → IfOk (event_denoted d line) IsShortEvent
  unfolding event_denoted
  event_short line = after_each (line_value line) _ IsShortEvent meant_short

pub events_are_short : EventsAreShort
events_are_short d line event e = subst (λ r. IfOk r IsShortEvent) e (event_short d line)
