-- What the values of plain lines ask for.
use Rattle.std.proofs.Common.{◌≡◌, ℕ, ◌≤◌, List, codes, length, Option, None, Some, Ok, refl}
use Rattle.std.specs.Prelude.{IfSome}
use Rattle.std.specs.Str.{IsUtf8}
use Rattle.serde_json.specs.Data.{Data, Items, array, item, no_items, string}
use Rattle.serde_json.specs.Read.{read}
use Rattle.ui_machine.specs.Definition as machine
use Rattle.ui_machine.specs.Limits.{most_line_bytes}
use Rattle.definition_format.specs.EventMeaning.{event_meant, set_event, get_event, release_event, emit_event, turn_event, line_value}
use Rattle.read_parts.proofs.Values.{line_value-text}
use Rattle.read_lines.specs.LineData.{line_data, one_member, words_data}
use Rattle.read_lines.specs.declared.lines.PlainLine.{PlainLine}
use Rattle.builder_defs.specs.SaidWords.{set_of, get_of, release_of, emit_of}

pub plain_set : (d : machine.Definition) (id name : List ℕ) (v : Data) → event_meant d (one_member (codes "set") (words_data id name (item v no_items))) ≡ set_of d id name v
unfolding event_meant set_event
plain_set d id name v = refl

pub plain_get : (d : machine.Definition) (id name : List ℕ) → event_meant d (one_member (codes "get") (words_data id name no_items)) ≡ get_of d id name
unfolding event_meant get_event
plain_get d id name = refl

pub plain_release : (d : machine.Definition) (id : List ℕ) → event_meant d (one_member (codes "release") (string id)) ≡ release_of d id
unfolding event_meant release_event
plain_release d id = refl

pub plain_emit : (d : machine.Definition) (id name : List ℕ) (args : Items) → event_meant d (one_member (codes "emit") (words_data id name (item (array args) no_items))) ≡ emit_of d (record { id = id; name = name; args = args; detail = None })
unfolding event_meant emit_event
plain_emit d id name args = refl

pub plain_turn : (d : machine.Definition) (moment : Data) → event_meant d (one_member (codes "turn") moment) ≡ turn_event moment
unfolding event_meant
plain_turn d moment = refl

-- a text that is a plain line, in the bytes that are that text
pub plain_value : (bs text : List ℕ) (line : Option PlainLine) → length bs ≤ most_line_bytes → IsUtf8 bs → text ≡ bs → IfSome line (λ p. read text ≡ Some (line_data p)) → IfSome line (λ p. line_value bs ≡ Ok (line_data p))
plain_value bs text None short good same is = tt
plain_value bs text (Some p) short good same is = line_value-text bs text (Some (line_data p)) short good same is
