-- The parts of a JSON document, by their paths: JSON pointers (RFC 6901).
use Rattle.std.specs.Prelude.{ℕ, ◌+◌, List, [], ◌∷◌, ◌++◌, codes, decimal, Bool, true, false, cond, not, nat_eq, nat_lt, length, if◌then◌else◌, Option, None, Some, is_some, option_and_then, Result, Ok, Err}
use Rattle.std.specs.List.{find, flat_map, list_any}
use Rattle.std.specs.Str.{bytes_eq, is_utf8}
use Rattle.serde_json.specs.Data.{Data, Items, no_items, item, Members, no_members, member}
use Rattle.serde_json.specs.Find.{get, as_bool, as_str, as_array, as_object}
use Rattle.serde_json.specs.Read.{read}
use Rattle.ui_machine.specs.Outcome.{◌>>=◌}
use Rattle.definition_format.specs.Refusals.{Refusal, shape, too_long, not_utf8, not_json, or_refused, refused_if}
use Rattle.ui_machine.specs.Limits.{most_definition_bytes}
use Rattle.definition_format.specs.declared.paths.Path.{Path}

-- the path of a member
abbrev pub under : List ℕ → List ℕ → List ℕ
under path key = path ++ (codes "/" ++ key)

-- the path of an entry of a list
abbrev pub nth : List ℕ → ℕ → List ℕ
nth path i = path ++ (codes "/" ++ decimal i)

-- the path of an entry, where the path of its list is given, or the path itself
abbrev pub located : List ℕ → Option ℕ → List ℕ
located base None = base
located base (Some i) = nth base i

-- the path of a member, or the path itself
abbrev pub at_key : List ℕ → Option (List ℕ) → List ℕ
at_key path None = path
at_key path (Some key) = under path key

abbrev pub path_of : Path → List ℕ
path_of path = located path.base.now path.index

-- the members of an object
abbrev pub members_at : List ℕ → Data → Result Members Refusal
members_at path d = or_refused (shape path) (as_object d)

-- a member that must be a text
abbrev pub text_at : List ℕ → Data → List ℕ → Result (List ℕ) Refusal
text_at path d key = or_refused (shape (under path key)) (option_and_then as_str (get key d))

-- a truth value, which is false where it is absent
abbrev pub truth_or : List ℕ → Option Data → Result Bool Refusal
truth_or path None = Ok false
truth_or path (Some d) = or_refused (shape path) (as_bool d)

abbrev pub truth_at : List ℕ → Data → List ℕ → Result Bool Refusal
truth_at path d key = truth_or (under path key) (get key d)

-- the entries of a list, which may be absent
abbrev pub entries : List ℕ → Option Data → Result Items Refusal
entries path None = Ok no_items
entries path (Some d) = or_refused (shape path) (as_array d)

abbrev pub entries_at : List ℕ → Data → List ℕ → Result Items Refusal
entries_at path d key = entries (under path key) (get key d)

-- the entries of a member that is a list, read ahead; none where it is no list
abbrev pub items_or_none : Option Items → Items
items_or_none None = no_items
items_or_none (Some items) = items

abbrev pub listed_ahead : List ℕ → Data → Items
listed_ahead key d = items_or_none (option_and_then as_array (get key d))

abbrev pub is_empty_list : Option Items → Bool
is_empty_list None = false
is_empty_list (Some no_items) = true
is_empty_list (Some (item d ds)) = false

-- whether a member is absent or an empty list
abbrev pub is_absent_or_empty : Option Data → Bool
is_absent_or_empty None = true
is_absent_or_empty (Some d) = is_empty_list (as_array d)

-- these lists, of which there is nothing so far, are absent or empty
abbrev pub nothing_at : List ℕ → Data → List (List ℕ) → Result (Unit {0}) Refusal
nothing_at path d keys = refused_if (λ key. shape (under path key)) (find (λ key. not (is_absent_or_empty (get key d))) keys)

-- these members, which are no lists, are absent so far
abbrev pub absent_at : List ℕ → Data → List (List ℕ) → Result (Unit {0}) Refusal
absent_at path d keys = refused_if (λ key. shape (under path key)) (find (λ key. is_some (get key d)) keys)

-- ** unknown members

-- a byte of a key as a path writes it
abbrev pub escaped_byte : ℕ → List ℕ
escaped_byte x = cond (nat_eq x 126) (codes "~0") (cond (nat_eq x 47) (codes "~1") (x ∷ []))

abbrev pub escaped : List ℕ → List ℕ
escaped key = flat_map escaped_byte key

abbrev pub is_among : List (List ℕ) → List ℕ → Bool
is_among keys key = list_any (λ k. bytes_eq k key) keys

-- the least key that is none of these
abbrev pub first_other : List (List ℕ) → Members → Option (List ℕ)
first_other keys no_members = None
first_other keys (member key d ms) = if is_among keys key then first_other keys ms else Some key

-- all members have these keys
abbrev pub only_at : List ℕ → Members → List (List ℕ) → Result (Unit {0}) Refusal
only_at path ms keys = refused_if (λ key. shape (under path (escaped key))) (first_other keys ms)

-- ** lists

-- what comes of a state by the entries of a list, one after the other, from the one numbered i on
unfoldable pub each : {S : Type 0} → (ℕ → S → Data → Result S Refusal) → ℕ → S → Items → Result S Refusal
each step i s no_items = Ok s
each step i s (item d ds) = do
  t ← step i s d
  each step (i + 1) t ds

-- what comes of a state by an entry, of which the path of the list and the number are given
abbrev pub at_entry : {S : Type 0} → (List ℕ → S → Data → Result S Refusal) → List ℕ → ℕ → S → Data → Result S Refusal
at_entry step path i s d = step (nth path i) s d

-- ** from bytes

-- the JSON value that bytes hold
unfoldable pub document : List ℕ → Result Data Refusal
document bytes = if nat_lt most_definition_bytes (length bytes) then Err too_long else (if is_utf8 bytes then or_refused not_json (read bytes) else Err not_utf8)
