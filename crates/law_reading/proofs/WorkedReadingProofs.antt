-- The premises of the promise, as it is made of bytes, are met.
use Rattle.std.proofs.Common.{◌≡◌, ℕ, zero, suc, List, [], Option, None, Some, codes, slice_get, refl, subst}
use Rattle.std.specs.Prelude.{⊤}
use Rattle.std.specs.Fmt.{digits}
use Rattle.std.specs.Str.{is_utf8, chars}
use Rattle.serde_json.proofs.OnLiterals.{serde_json_on_literals}
use Rattle.ui_machine.specs.Definition.Places.{Place}
use Rattle.ui_machine.specs.Rules.Construction.{nearest_shape}
use Rattle.ui_machine.specs.State.Peers.{peer_number}
use Rattle.ui_machine.specs.Words.{peer, shape}
use Rattle.definition_format.specs.Document.{each, document}
use Rattle.definition_format.specs.Denoted.{enums_in, flags_in, interfaces_in, classes_in, draft_in, objects_in, definition_in, denoted}
use Rattle.definition_format.specs.Denoted.Classes.{named_parent, flags_at, declared_at, answers_at, answering_at}
use Rattle.definition_format.specs.Denoted.ClassHandlers.{class_handlers_at}
use Rattle.definition_format.specs.Denoted.Constructed.{constructed_at}
use Rattle.definition_format.specs.Denoted.Drafts.{properties_at, type_at}
use Rattle.definition_format.specs.Denoted.Drafts as drafts
use Rattle.definition_format.specs.Denoted.Signals.{param_at, params_at, signal_of_entry, signal_at, signals_at}
use Rattle.signal_core.specs.Sources.{sources_of}
use Rattle.definition_format.specs.Denoted.Implements.{implements_at}
use Rattle.definition_format.specs.Denoted.Attached.{all_attached}
use Rattle.definition_format.specs.Denoted.Programs.{programs_in}
use Rattle.definition_format.specs.Denoted.Prototypes.{plain_at, all_plain_at, prototype_in, prototype_at, prototypes_in}
use Rattle.definition_format.specs.Denoted.Filled.{all_filled}
use Rattle.definition_format.specs.Denoted.Given.{property_named}
use Rattle.definition_format.specs.Denoted.Objects.{place_at, added_at, object_at}
use Rattle.definition_format.specs.Denoted.Peers.{peer_at, listed_peers, next_peer_at, one_peer}
use Rattle.definition_format.specs.Denoted.Shapes.{shapes_in, shape_at, shape_in, methods_at, method_at, method_in, plain_params_at, plain_param_at, shaped_at, named_shape}
use Rattle.definition_format.specs.Denoted.Properties.{valued_at, spec_at, property_at}
use Rattle.definition_format.specs.Denoted.Ranges.{range_at}
use Rattle.definition_format.specs.EventMeaning.{line_value, target, signal_target, object_of, each_of, id_known, argument, set_event, get_event, release_event, emit_event, event_meant, event_denoted}
use Rattle.law_typing.specs.Laws.StepsKeepGood.{PeerReady, PoolReady}
use Rattle.law_typing.specs.Verdict.{verdict, accepted}
use Rattle.law_typing.specs.Verdict.Accepted.{Each}
use Rattle.law_typing.proofs.JudgedProofs.{judged_is_accepted}
use Rattle.law_reading.specs.WorkedReading.{definition, pool, tally, told, PremisesMet}

-- what the reading of a text unfolds
unfoldable text_on_literals : ⊤
unfolding is_utf8 chars serde_json_on_literals document each
text_on_literals = tt

unfoldable types_on_literals : ⊤
unfolding enums_in flags_in interfaces_in classes_in draft_in type_at declared_at flags_at named_parent implements_at properties_at answers_at answering_at class_handlers_at constructed_at shaped_at named_shape drafts.given_at
types_on_literals = tt

unfoldable signals_on_literals : ⊤
unfolding signals_at signal_at signal_of_entry params_at param_at sources_of
signals_on_literals = tt

unfoldable shapes_on_literals : ⊤
unfolding shapes_in shape_at shape_in methods_at method_at method_in plain_params_at plain_param_at
shapes_on_literals = tt

unfoldable properties_on_literals : ⊤
unfolding property_at spec_at valued_at range_at
properties_on_literals = tt

unfoldable objects_on_literals : ⊤
unfolding programs_in prototypes_in prototype_at prototype_in all_plain_at plain_at objects_in object_at added_at place_at all_filled property_named all_attached peer_at listed_peers next_peer_at one_peer
objects_on_literals = tt

unfoldable lines_on_literals : ⊤
unfolding event_denoted event_meant set_event get_event release_event emit_event target signal_target each_of id_known argument object_of line_value
lines_on_literals = tt

-- the peers of a place, if there is one, are ready
abbrev AreReady : Option Place → Type 0
AreReady None = ⊤
AreReady (Some p) = Each (PeerReady definition pool p) p.peers

-- a peer of the pool is, for a place of a class with the shape
peer_ready : (p : Place) (name : List ℕ) (number : ℕ) → peer_number pool name ≡ Some number → slice_get pool number ≡ Some (peer name tally [])
    → nearest_shape definition p.class ≡ Some 0 → PeerReady definition pool p name
peer_ready p name number is has of_class = record {
  number = number;
  peer = peer name tally [];
  shape = 0;
  methods = shape (codes "Tally") tally;
  is = is;
  has = has;
  of_class = of_class;
  shaped = (refl, refl);
  is_open = refl;
  free = refl;
}

ready : PoolReady definition pool
ready zero p e = subst AreReady e (peer_ready _ (codes "o") 0 refl refl refl, tt)
ready (suc zero) p e = subst AreReady e (peer_ready _ (codes "u") 3 refl refl refl, tt)
ready (suc (suc zero)) p e = subst AreReady e (peer_ready _ (codes "s") 1 refl refl refl, (peer_ready _ (codes "t") 2 refl refl refl, tt))
ready (suc (suc (suc n))) p e = absurd (cc)

is_judged : verdict definition ≡ accepted told
unfolding digits
is_judged = refl

pub premises_met : PremisesMet
unfolding denoted definition_in text_on_literals types_on_literals signals_on_literals shapes_on_literals properties_on_literals objects_on_literals lines_on_literals
premises_met = record {
  read = refl;
  judged = is_judged;
  accepted = (judged_is_accepted definition told refl is_judged).0;
  ready = ready;
  events = refl;
}
