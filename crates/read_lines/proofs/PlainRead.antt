-- What a plain line reads as.
use Rattle.std.proofs.Common.{◌≡◌, ◌<◌, ℕ, zero, suc, List, [], ◌∷◌, ◌++◌, length, codes, Option, Some, None, option_map, option_and_then, refl, ap, ◌∙◌, arith}
use Rattle.json.specs.Token.{Token, end_array}
use Rattle.json.specs.Lex.{tokens}
use Rattle.json.specs.Json as json
use Rattle.json.specs.Json.{value, items, items_step, members, parse_map, after_end_array, if_last}
use Rattle.serde_json.specs.Data as json_data
use Rattle.serde_json.specs.Data.{Data, Num, Items, no_items, item}
use Rattle.serde_json.specs.Read.{of_json, of_items, read, number_of}
use Rattle.serde_json.specs.View.{view, items_view}
use Rattle.read_lines.specs.Tokens.{scalar_data, scalars_data}
use Rattle.read_lines.specs.LineData.{line_data, words_data, one_member, words_tokens, closing, Says}
use Rattle.read_lines.specs.declared.lines.PlainLine.{PlainLine}
use Rattle.read_lines.specs.declared.lines.PlainLine.TheVariants as lines

-- what tokens are, read to their end
abbrev whole : List Token → Option Data
whole ts = option_and_then of_json (option_and_then (λ p. if_last p.0 p.1) (value 127 ts))

-- ** a set

abbrev set_data : List ℕ → List ℕ → Data → Data
set_data id name d = one_member (codes "set") (words_data id name (item d no_items))

set_of_number : (id name s : List ℕ) (o : Option Num) → number_of s ≡ o
    → whole (words_tokens (codes "set") id name (Token.number s ∷ closing)) ≡ option_map (set_data id name) (option_map json_data.number o)
unfolding value items members
set_of_number id name s None e = rw e
set_of_number id name s (Some n) e = rw e

whole-set : (id name : List ℕ) (t : Token) (d : Data) → scalar_data t ≡ Some d → whole (words_tokens (codes "set") id name (t ∷ closing)) ≡ Some (set_data id name d)
unfolding value items members
whole-set id name Token.begin_object d e = absurd (cc)
whole-set id name Token.end_object d e = absurd (cc)
whole-set id name Token.begin_array d e = absurd (cc)
whole-set id name Token.end_array d e = absurd (cc)
whole-set id name (Token.key s) d e = absurd (cc)
whole-set id name (Token.string s) d e = ap (option_map (set_data id name)) e
whole-set id name (Token.number s) d e = set_of_number id name s (number_of s) refl ∙ ap (option_map (set_data id name)) e
whole-set id name (Token.boolean b) d e = ap (option_map (set_data id name)) e
whole-set id name Token.null d e = ap (option_map (set_data id name)) e
whole-set id name Token.bad d e = absurd (cc)

-- ** a turn

abbrev turn_data : Data → Data
turn_data d = one_member (codes "turn") d

abbrev turn_tokens : Token → List Token
turn_tokens t = Token.begin_object ∷ Token.key (codes "turn") ∷ t ∷ Token.end_object ∷ []

turn_of_number : (s : List ℕ) (o : Option Num) → number_of s ≡ o → whole (turn_tokens (Token.number s)) ≡ option_map turn_data (option_map json_data.number o)
unfolding value items members
turn_of_number s None e = rw e
turn_of_number s (Some n) e = rw e

whole-turn : (t : Token) (d : Data) → scalar_data t ≡ Some d → whole (turn_tokens t) ≡ Some (turn_data d)
unfolding value items members
whole-turn Token.begin_object d e = absurd (cc)
whole-turn Token.end_object d e = absurd (cc)
whole-turn Token.begin_array d e = absurd (cc)
whole-turn Token.end_array d e = absurd (cc)
whole-turn (Token.key s) d e = absurd (cc)
whole-turn (Token.string s) d e = ap (option_map turn_data) e
whole-turn (Token.number s) d e = turn_of_number s (number_of s) refl ∙ ap (option_map turn_data) e
whole-turn (Token.boolean b) d e = ap (option_map turn_data) e
whole-turn Token.null d e = ap (option_map turn_data) e
whole-turn Token.bad d e = absurd (cc)

-- ** the values of an emission

-- what a token that is a value by itself reads as, in the list of values of a line
record ReadsAlone (t : Token) (rest : List Token) (d : Data) : Type 0 where
  j : json.Json
  read_as : value 124 (t ∷ rest) ≡ Some (j, rest)
  is : of_json j ≡ Some d
  goes_on : after_end_array (t ∷ rest) ≡ None

alone : (t : Token) (rest : List Token) (d : Data) → scalar_data t ≡ Some d → ReadsAlone t rest d
unfolding value
alone Token.begin_object rest d e = absurd (cc)
alone Token.end_object rest d e = absurd (cc)
alone Token.begin_array rest d e = absurd (cc)
alone Token.end_array rest d e = absurd (cc)
alone (Token.key s) rest d e = absurd (cc)
alone (Token.string s) rest d e = record { j = json.string s; read_as = refl; is = e; goes_on = refl }
alone (Token.number s) rest d e = record { j = json.number s; read_as = refl; is = e; goes_on = refl }
alone (Token.boolean b) rest d e = record { j = json.boolean b; read_as = refl; is = e; goes_on = refl }
alone Token.null rest d e = record { j = json.null; read_as = refl; is = e; goes_on = refl }
alone Token.bad rest d e = absurd (cc)

-- what the tokens of a list of such values read as
record ReadsAll (n : ℕ) (ts rest : List Token) (ds : Items) : Type 0 where
  js : json.Items
  read_as : items (value 124) n (ts ++ end_array ∷ rest) ≡ Some (js, rest)
  are : of_items js ≡ Some ds

all_more : (n : ℕ) (t : Token) (ts rest : List Token) (d : Data) (ds : Items) → ReadsAlone t (ts ++ end_array ∷ rest) d → ReadsAll n ts rest ds → ReadsAll (suc n) (t ∷ ts) rest (item d ds)
unfolding items
all_more n t ts rest d ds one more =
    let step : items_step (value 124) (items (value 124) n) (t ∷ ts ++ end_array ∷ rest) (after_end_array (t ∷ ts ++ end_array ∷ rest)) ≡ Some (json.item one.j more.js, rest) = rw (one.goes_on, one.read_as, more.read_as) refl in
    let are : of_items (json.item one.j more.js) ≡ Some (item d ds) = rw (one.is, more.are) refl in
    record { js = json.item one.j more.js; read_as = step; are = are }

-- what there is, part by part
record FirstAndMore (o : Option Data) (os : Option Items) (ds : Items) : Type 0 where
  first : Data
  more : Items
  is_first : o ≡ Some first
  is_more : os ≡ Some more
  whole : ds ≡ item first more

first_and_more : (o : Option Data) (os : Option Items) (ds : Items) → option_and_then (λ d. option_map (item d) os) o ≡ Some ds → FirstAndMore o os ds
first_and_more None os ds e = absurd (cc)
first_and_more (Some d) None ds e = absurd (cc)
first_and_more (Some d) (Some es) ds e = record { first = d; more = es; is_first = refl; is_more = refl; whole = cc }

all : (n : ℕ) (ts rest : List Token) (ds : Items) → length ts < n → scalars_data ts ≡ Some ds → ReadsAll n ts rest ds
unfolding items scalars_data
all zero ts rest ds lt e = absurd (omega (arith, lt))
all (suc n) [] rest ds lt e = record { js = json.no_items; read_as = refl; are = e }
all (suc n) (t ∷ ts) rest ds lt e =
    let h = first_and_more (scalar_data t) (scalars_data ts) ds e in
    rw (h.whole) (all_more n t ts rest h.first h.more (alone t (ts ++ end_array ∷ rest) h.first h.is_first) (all n ts rest h.more (omega (arith, lt)) h.is_more))

-- how many tokens there are in such a list, and behind it
some_left : (ts : List Token) → length ts < length (ts ++ end_array ∷ closing)
some_left [] = omega (arith)
some_left (t ∷ ts) = let more = some_left ts in omega (arith, more)

record Above (n : ℕ) : Type 0 where
  below : ℕ
  is : n ≡ suc below

above : (m n : ℕ) → m < n → Above n
above m zero lt = absurd (omega (arith, lt))
above m (suc n) lt = record { below = n; is = refl }

abbrev emit_data : List ℕ → List ℕ → Items → Data
emit_data id name ds = one_member (codes "emit") (words_data id name (item (json_data.array ds) no_items))

module _ (id name : List ℕ) where
  -- an emission, by what its values are read as
  abbrev emit_by : ℕ → Option (json.Items × List Token) → Option Data
  emit_by n read_values =
      option_and_then of_json (option_and_then (λ p. if_last p.0 p.1) (parse_map json.object
      (option_and_then (λ p. parse_map (json.member (codes "emit") p.0) (members (value 126) (suc (suc (suc (suc n)))) p.1))
      (parse_map json.array (parse_map (json.item (json.string id)) (parse_map (json.item (json.string name))
      (option_and_then (λ p. parse_map (json.item p.0) (items (value 125) n p.1)) (parse_map json.array read_values))))))))

  values_apart : (ts : List Token) → whole (words_tokens (codes "emit") id name (Token.begin_array ∷ (ts ++ end_array ∷ closing))) ≡ emit_by (length (ts ++ end_array ∷ closing)) (items (value 124) (length (ts ++ end_array ∷ closing)) (ts ++ end_array ∷ closing))
  unfolding value items members
  values_apart ts = refl

  emit_is : (n : ℕ) (js : json.Items) (ds : Items) → of_items js ≡ Some ds → emit_by (suc n) (Some (js, closing)) ≡ Some (emit_data id name ds)
  unfolding value items members
  emit_is n js ds are = rw are refl

  whole-emit : (ts : List Token) (ds : Items) → scalars_data ts ≡ Some ds → whole (words_tokens (codes "emit") id name (Token.begin_array ∷ (ts ++ end_array ∷ closing))) ≡ Some (emit_data id name ds)
  whole-emit ts ds e =
      let n = length (ts ++ end_array ∷ closing) in
      let values = all n ts closing ds (some_left ts) e in
      let one = above (length ts) n (some_left ts) in
      values_apart ts ∙ ap (emit_by n) values.read_as ∙ ap (λ m. emit_by m (Some (values.js, closing))) one.is ∙ emit_is one.below values.js ds values.are

-- ** any plain line

whole-line : (p : PlainLine) (ts : List Token) → Says ts p → whole ts ≡ Some (line_data p)
unfolding value items members
whole-line (lines.Set id name v) ts says = ap whole says.1 ∙ whole-set id.now name.now says.0 (view v) says.2
whole-line (lines.Get id name) ts says = ap whole says
whole-line (lines.Release id) ts says = ap whole says
whole-line (lines.Turn moment) ts says = ap whole says.1 ∙ whole-turn says.0 (view moment) says.2
whole-line (lines.Emit id name args) ts says = ap whole says.1 ∙ whole-emit id.now name.now says.0 (items_view args.items) says.2

pub read_plain : (text : List ℕ) (p : PlainLine) → Says (tokens text) p → read text ≡ Some (line_data p)
read_plain text p says = whole-line p (tokens text) says
