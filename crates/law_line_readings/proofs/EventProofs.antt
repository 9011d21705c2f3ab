-- An event that a line denotes brings a short detail, if it brings one.
use Rattle.std.proofs.Common.{◌≡◌, refl, ℕ, Bool, true, false, List, [], Option, None, Some, option_and_then, Err, subst}
use Rattle.std.specs.Prelude.{IfOk, IfSome, codes, if◌then◌else◌}
use Rattle.serde_json.specs.Data.{Data, Items, no_items, item}
use Rattle.serde_json.specs.Find.{get, as_array, as_number, as_str, as_u64}
use Rattle.ui_machine.specs.Definition.{Definition}
use Rattle.ui_machine.specs.State.Tasks.{Event}
use Rattle.ui_machine.specs.State.Tasks as config
use Rattle.definition_format.specs.Meaning.{object_place}
use Rattle.definition_format.specs.Denoted.Given.{reference}
use Rattle.definition_format.specs.Denoted.Names.{is_name}
use Rattle.definition_format.specs.EventMeaning.{Emitted, argument, check_count, check_detail, detail_word, each_of, emit_by, emit_event, emitted, event_by, event_denoted, event_meant, get_event, given_by, has_one_member, id_known, line_value, moment_if, object_named, or_refused, readable, release_by, release_event, set_event, shape, signal_target, target, turn_by, turn_event, unknown, words_of_emit, words_of_get, words_of_set, writable}
use Rattle.law_steps.proofs.Served.IfOkProofs.{after_each, after_such, either_such}
use Rattle.law_short_texts.specs.ShortValues.{IsShortEvent}
use Rattle.law_short_readings.proofs.EventProofs.{event_short}
use Rattle.law_short_lines.specs.ShortParts.{HasShortDetail, IsShortAll, IsShortDetail}
use Rattle.law_line_readings.specs.LineReadings.{EventsAreAllShort}
use Rattle.law_line_readings.proofs.DetailProofs.{name_short}

-- the request of an event has a short detail
abbrev BringsShort : Event → Type 0
BringsShort (config.request r) = HasShortDetail r
BringsShort (config.turn moment) = Unit {0}

-- ** the words of an emission

abbrev AreShortWords : Option Emitted → Type 0
AreShortWords o = IfSome o (λ (e : Emitted). IsShortDetail e.detail)

detail_words : (o : Option (List ℕ)) → IfSome (detail_word o) IsShortDetail
detail_words None = tt
detail_words (Some s) = by (is_name s) refl
  where
    by : (b : Bool) → is_name s ≡ b → IfSome (if b then Some (Some s) else None) IsShortDetail
    by true e = name_short s e
    by false e = tt

words_short : (id name : Option (List ℕ)) (args : Option Items) (detail : Option (Option (List ℕ))) → IfSome detail IsShortDetail → AreShortWords (emitted id name args detail)
words_short None name args detail short = tt
words_short (Some id) None args detail short = tt
words_short (Some id) (Some name) None detail short = tt
words_short (Some id) (Some name) (Some args) None short = tt
words_short (Some id) (Some name) (Some args) (Some detail) short = short

said_short : (ds : Items) → AreShortWords (words_of_emit ds)
said_short no_items = tt
said_short (item id no_items) = tt
said_short (item id (item name no_items)) = tt
said_short (item id (item name (item args no_items))) = words_short (as_str id) (as_str name) (as_array args) (Some None) tt
said_short (item id (item name (item args (item detail no_items)))) = words_short (as_str id) (as_str name) (as_array args) (detail_word (as_str detail)) (detail_words (as_str detail))
said_short (item id (item name (item args (item detail (item more ds))))) = tt

array_short : (o : Option Items) → IfOk (or_refused shape (option_and_then words_of_emit o)) (λ (e : Emitted). IsShortDetail e.detail)
array_short None = tt
array_short (Some ds) = by (words_of_emit ds) (said_short ds)
  where
    by : (o : Option Emitted) → AreShortWords o → IfOk (or_refused shape o) (λ (e : Emitted). IsShortDetail e.detail)
    by None short = tt
    by (Some e) short = short

-- ** events

module _ (d : Definition) where
  set_brings : (words : Data) → IfOk (set_event d words) BringsShort
  unfolding set_event
  set_brings words =
      after_each (or_refused shape (option_and_then words_of_set (as_array words))) _ BringsShort λ said.
      after_each (target d said.0 said.1) _ BringsShort λ found.
      after_each (object_named d (reference found.spec.kind (as_str said.2))) _ BringsShort λ o.
      after_each (writable found.spec) _ BringsShort λ may.
      after_each (given_by d found.spec.kind said.2 o) _ BringsShort λ g. tt

  get_brings : (words : Data) → IfOk (get_event d words) BringsShort
  unfolding get_event
  get_brings words =
      after_each (or_refused shape (option_and_then words_of_get (as_array words))) _ BringsShort λ said.
      after_each (target d said.0 said.1) _ BringsShort λ found.
      after_each (readable found.spec) _ BringsShort λ may. tt

  release_brings : (word : Data) → IfOk (release_event d word) BringsShort
  unfolding release_event
  release_brings word =
      after_each (or_refused shape (as_str word)) _ BringsShort λ id.
      after_each (or_refused (unknown id) (object_place d id)) _ BringsShort λ place. tt

  emit_brings : (words : Data) → IfOk (emit_event d words) BringsShort
  unfolding emit_event
  emit_brings words =
      after_such (or_refused shape (option_and_then words_of_emit (as_array words))) _ (λ (e : Emitted). IsShortDetail e.detail) BringsShort (array_short (as_array words)) λ said short.
      after_each (signal_target d said.id said.name) _ BringsShort λ found.
      after_each (check_count found.signal said.args) _ BringsShort λ many.
      after_each (each_of (id_known d) tt found.signal.params said.args) _ BringsShort λ ids.
      after_each (check_detail found.signal said.detail) _ BringsShort λ may.
      after_each (each_of (argument d) [] found.signal.params said.args) _ BringsShort λ args. short

  turn_brings : (word : Data) → IfOk (turn_event word) BringsShort
  unfolding turn_event
  turn_brings word =
      after_each (or_refused shape (as_number word)) _ BringsShort λ said.
      after_each (moment_if (as_u64 said)) _ BringsShort λ moment. tt

  by_turn : (turn : Option Data) → IfOk (turn_by turn) BringsShort
  by_turn None = tt
  by_turn (Some word) = turn_brings word

  by_emit : (emit turn : Option Data) → IfOk (emit_by d emit turn) BringsShort
  by_emit None turn = by_turn turn
  by_emit (Some words) turn = emit_brings words

  by_release : (release emit turn : Option Data) → IfOk (release_by d release emit turn) BringsShort
  by_release None emit turn = by_emit emit turn
  by_release (Some word) emit turn = release_brings word

  by_member : (set get release emit turn : Option Data) → IfOk (event_by d set get release emit turn) BringsShort
  by_member None None release emit turn = by_release release emit turn
  by_member None (Some words) release emit turn = get_brings words
  by_member (Some words) get release emit turn = set_brings words

  meant_brings : (value : Data) → IfOk (event_meant d value) BringsShort
  unfolding event_meant
  meant_brings value =
      either_such (has_one_member value)
      (event_by d (get (codes "set") value) (get (codes "get") value) (get (codes "release") value) (get (codes "emit") value) (get (codes "turn") value))
      (Err shape) BringsShort
      (by_member (get (codes "set") value) (get (codes "get") value) (get (codes "release") value) (get (codes "emit") value) (get (codes "turn") value)) tt

  brings_short : (line : List ℕ) → IfOk (event_denoted d line) BringsShort
  unfolding event_denoted
  brings_short line = after_each (line_value line) _ BringsShort meant_brings

both : (event : Event) → IsShortEvent event → BringsShort event → IsShortAll event
both (config.request r) values detail = (values, detail)
both (config.turn moment) values detail = tt

pub events_are_all_short : EventsAreAllShort
events_are_all_short d line event e =
    both event (subst (λ r. IfOk r IsShortEvent) e (event_short d line)) (subst (λ r. IfOk r BringsShort) e (brings_short d line))
