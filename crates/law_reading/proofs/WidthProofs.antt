-- A value that was read has no longer list than its text has bytes.
use Rattle.std.proofs.Common.{◌≡◌, ℕ, zero, suc, ◌+◌, ◌<◌, ◌≤◌, max, List, [], ◌∷◌, length, Option, Some, None, option_map, option_and_then, Ordering, Less, Equal, Greater, refl, ap, subst, arith}
use Rattle.std.specs.Prelude.{⊤}
use Rattle.std.specs.Ordering.{match_ordering}
use Rattle.json.specs.Token.{Token}
use Rattle.json.specs.Lex.{tokens}
use Rattle.json.specs.Json.{Parse, parse_map, after_end_array, read_key, items_step, members_step, items, members, value_with, value, if_last}
use Rattle.json.specs.Json as json
use Rattle.json.proofs.Grammar.{Takes, after_end_array-shorter, read_key-shorter, skip_value-shorter}
use Rattle.serde_json.specs.Data.{Data, null, boolean, number, string, array, object, Items, no_items, item, Members, no_members, member, put}
use Rattle.serde_json.specs.Read.{number_of, of_json, of_items, of_members, max_depth, read}
use Rattle.law_reading.proofs.TextProofs.{tokens_few}

-- ** how long lists are

abbrev pub count : Items → ℕ
count no_items = 0
count (item d ds) = suc (count ds)

-- the most tokens that a list within takes at least: one for each entry, and one where it ends
abbrev mutual
  pub width : Data → ℕ
  width null = 0
  width (boolean b) = 0
  width (number n) = 0
  width (string s) = 0
  width (array ds) = max (suc (count ds)) (items_width ds)
  width (object ms) = members_width ms

  pub items_width : Items → ℕ
  items_width no_items = 0
  items_width (item d ds) = max (width d) (items_width ds)

  pub members_width : Members → ℕ
  members_width no_members = 0
  members_width (member k d ms) = max (width d) (members_width ms)

abbrev json_count : json.Items → ℕ
json_count json.no_items = 0
json_count (json.item j js) = suc (json_count js)

abbrev mutual
  json_width : json.Json → ℕ
  json_width json.null = 0
  json_width (json.boolean b) = 0
  json_width (json.number s) = 0
  json_width (json.string s) = 0
  json_width (json.array js) = max (suc (json_count js)) (json_items_width js)
  json_width (json.object ms) = json_members_width ms

  json_items_width : json.Items → ℕ
  json_items_width json.no_items = 0
  json_items_width (json.item j js) = max (json_width j) (json_items_width js)

  json_members_width : json.Members → ℕ
  json_members_width json.no_members = 0
  json_members_width (json.member k j ms) = max (json_width j) (json_members_width ms)

-- ** what is parsed of so many tokens

abbrev AtMost : {A : Type 0} → (A → ℕ) → ℕ → Option A → Type 0
AtMost f n None = ⊤
AtMost f n (Some a) = f a ≤ n

-- what is parsed of at most so many tokens is no wider
abbrev Within : {A : Type 0} → (A → ℕ) → ℕ → Parse A → Type 0
Within f n p = (ts : List Token) → length ts ≤ n → AtMost (λ q. f q.0) n (p ts)

-- each entry takes a token at least, and none is wider
abbrev Fits : ℕ → List Token → Option (json.Items × List Token) → Type 0
Fits n ts None = ⊤
Fits n ts (Some q) = (json_count q.0 + length q.1 ≤ length ts) × (json_items_width q.0 ≤ n)

abbrev Enters : ℕ → Parse json.Items → Type 0
Enters n p = (ts : List Token) → length ts ≤ n → Fits n ts (p ts)

takes_so : {A : Type 0} (p : Parse A) → Takes p → (ts : List Token) (q : A × List Token) → p ts ≡ Some q → length q.1 < length ts
takes_so p takes ts q is = takes ts q.1 (ap (λ o. option_map (λ x. x.1) o) is)

module _ (n : ℕ) (p : Parse json.Json) (takes : Takes p) (within : Within json_width n p) where
  item_turn : (more : Parse json.Items) → Enters n more → (ts : List Token) → length ts ≤ n → (o : Option (List Token)) → after_end_array ts ≡ o → Fits n ts (items_step p more ts o)
  item_turn more again ts few (Some r) is = (let shorter = after_end_array-shorter ts r is in omega (arith, shorter), omega arith)
  item_turn more again ts few None is = by (p ts) refl (within ts few)
    where
      behind : (q : json.Json × List Token) → length q.1 < length ts → json_width q.0 ≤ n → (o : Option (json.Items × List Token)) → Fits n q.1 o → Fits n ts (parse_map (json.item q.0) o)
      behind q shorter narrow None fits = tt
      behind q shorter narrow (Some r) fits = (let all = fits.0 in omega (arith, shorter, all), let rest = fits.1 in omega (arith, narrow, rest))

      by : (o : Option (json.Json × List Token)) → p ts ≡ o → AtMost (λ q. json_width q.0) n o → Fits n ts (option_and_then (λ q. parse_map (json.item q.0) (more q.1)) o)
      by None e narrow = tt
      by (Some q) e narrow =
          let shorter = takes_so p takes ts q e in
          behind q shorter narrow (more q.1) (again q.1 (omega (arith, shorter, few)))

  enters : (k : ℕ) → Enters n (items p k)
  unfolding items
  enters zero ts few = tt
  enters (suc k) ts few = item_turn (items p k) (enters k) ts few (after_end_array ts) refl

  member_turn : (more : Parse json.Members) → Within json_members_width n more → (ts : List Token) → length ts ≤ n → (o : Option (Option (List ℕ) × List Token)) → read_key ts ≡ o
      → AtMost (λ q. json_members_width q.0) n (option_and_then (λ q. members_step p more q.0 q.1) o)
  member_turn more again ts few None is = tt
  member_turn more again ts few (Some (None, s)) is = omega arith
  member_turn more again ts few (Some (Some k, s)) is =
      let shorter = read_key-shorter ts (Some k) s is in
      by (omega (arith, shorter, few)) (p s) refl (within s (omega (arith, shorter, few)))
    where
      behind : (j : json.Json) → json_width j ≤ n → (o : Option (json.Members × List Token)) → AtMost (λ q. json_members_width q.0) n o
          → AtMost (λ q. json_members_width q.0) n (parse_map (json.member k j) o)
      behind j narrow None rest = tt
      behind j narrow (Some r) rest = omega (arith, narrow, rest)

      by : length s ≤ n → (o : Option (json.Json × List Token)) → p s ≡ o → AtMost (λ q. json_width q.0) n o
          → AtMost (λ q. json_members_width q.0) n (option_and_then (λ q. parse_map (json.member k q.0) (more q.1)) o)
      by left None e narrow = tt
      by left (Some q) e narrow =
          let shorter = takes_so p takes s q e in
          behind q.0 narrow (more q.1) (again q.1 (omega (arith, shorter, left)))

  members_within : (k : ℕ) → Within json_members_width n (members p k)
  unfolding members
  members_within zero ts few = tt
  members_within (suc k) ts few = member_turn (members p k) (members_within k) ts few (read_key ts) refl

one_level : (n : ℕ) (a : Parse json.Items) (o : Parse json.Members) → Enters n a → Within json_members_width n o → Within json_width n (value_with a o)
one_level n a o enters within [] few = tt
one_level n a o enters within (Token.begin_object ∷ ts) few = by (o ts) (within ts (omega (arith, few)))
  where
    by : (r : Option (json.Members × List Token)) → AtMost (λ q. json_members_width q.0) n r → AtMost (λ q. json_width q.0) n (parse_map json.object r)
    by None x = tt
    by (Some q) x = x
one_level n a o enters within (Token.end_object ∷ ts) few = tt
one_level n a o enters within (Token.begin_array ∷ ts) few = by (a ts) (enters ts (omega (arith, few)))
  where
    by : (r : Option (json.Items × List Token)) → Fits n ts r → AtMost (λ q. json_width q.0) n (parse_map json.array r)
    by None x = tt
    by (Some q) x = let all = x.0 in let narrow = x.1 in omega (arith, few, all, narrow)
one_level n a o enters within (Token.end_array ∷ ts) few = tt
one_level n a o enters within (Token.key s ∷ ts) few = tt
one_level n a o enters within (Token.string s ∷ ts) few = omega arith
one_level n a o enters within (Token.number s ∷ ts) few = omega arith
one_level n a o enters within (Token.boolean b ∷ ts) few = omega arith
one_level n a o enters within (Token.null ∷ ts) few = omega arith
one_level n a o enters within (Token.bad ∷ ts) few = tt

value_within : (n d : ℕ) → Within json_width n (value d)
unfolding value
value_within n zero = one_level n (λ ts. None) (λ ts. None) (λ ts few. tt) (λ ts few. tt)
value_within n (suc d) =
    one_level n (λ ts. items (value d) (length ts) ts) (λ ts. members (value d) (length ts) ts)
    (λ ts. enters n (value d) (skip_value-shorter d) (value_within n d) (length ts) ts)
    (λ ts. members_within n (value d) (skip_value-shorter d) (value_within n d) (length ts) ts)

-- ** what it is read as

AtMost-map : {A B : Type 0} (f : A → ℕ) (g : B → ℕ) (m n : ℕ) (h : A → B) → ((a : A) → f a ≤ m → g (h a) ≤ n) → (o : Option A) → AtMost f m o → AtMost g n (option_map h o)
AtMost-map f g m n h k None x = tt
AtMost-map f g m n h k (Some a) x = k a x

AtMost-and_then : {A B : Type 0} (f : A → ℕ) (g : B → ℕ) (m n : ℕ) (h : A → Option B) → ((a : A) → f a ≤ m → AtMost g n (h a)) → (o : Option A) → AtMost f m o → AtMost g n (option_and_then h o)
AtMost-and_then f g m n h k None x = tt
AtMost-and_then f g m n h k (Some a) x = k a x

flat : {A : Type 0} (o : Option A) → AtMost (λ _. 0) 0 o
flat None = tt
flat (Some a) = omega arith

one_of_three : (o : Ordering) (a b c : Members) (n : ℕ) → members_width a ≤ n → members_width b ≤ n → members_width c ≤ n → members_width (match_ordering o a b c) ≤ n
one_of_three Less a b c n p q r = p
one_of_three Equal a b c n p q r = q
one_of_three Greater a b c n p q r = r

put_within : (k : List ℕ) (d : Data) (ms : Members) (n : ℕ) → width d ≤ n → members_width ms ≤ n → members_width (put k d ms) ≤ n
put_within k d no_members n p q = omega arith
put_within k d (member l e ms) n p q =
    one_of_three _ (member k d (member l e ms)) (member l d ms) (member l e (put k d ms)) n (omega arith) (omega arith) (omega (arith, put_within k d ms n p (omega arith)))

as_many : (js : json.Items) → AtMost (λ ds. suc (count ds)) (suc (json_count js)) (of_items js)
as_many json.no_items = omega arith
as_many (json.item j js) = by (as_many js) (of_json j)
  where
    by : AtMost (λ ds. suc (count ds)) (suc (json_count js)) (of_items js) → (o : Option Data)
        → AtMost (λ ds. suc (count ds)) (suc (suc (json_count js))) (option_and_then (λ d. option_map (item d) (of_items js)) o)
    by rest None = tt
    by rest (Some d) = AtMost-map (λ ds. suc (count ds)) (λ ds. suc (count ds)) (suc (json_count js)) (suc (suc (json_count js))) (item d) (λ ds x. omega (arith, x)) (of_items js) rest

-- what is at most so much in two ways
both_within : {A : Type 0} (f g : A → ℕ) (n : ℕ) (o : Option A) → AtMost f n o → AtMost g n o → AtMost (λ a. max (f a) (g a)) n o
both_within f g n None x y = tt
both_within f g n (Some a) x y = omega (arith, x, y)

fewer : {A : Type 0} (f : A → ℕ) (m n : ℕ) (o : Option A) → m ≤ n → AtMost f m o → AtMost f n o
fewer f m n None le x = tt
fewer f m n (Some a) le x = omega (arith, le, x)

mutual
  of_json_within : (j : json.Json) (n : ℕ) → json_width j ≤ n → AtMost width n (of_json j)
  of_json_within json.null n h = omega arith
  of_json_within (json.boolean b) n h = omega arith
  of_json_within (json.number s) n h = AtMost-map (λ _. 0) width 0 n number (λ a x. omega arith) (number_of s) (flat _)
  of_json_within (json.string s) n h = omega arith
  of_json_within (json.array js) n h =
      AtMost-map (λ ds. max (suc (count ds)) (items_width ds)) width n n array (λ a x. x) (of_items js)
      (both_within (λ ds. suc (count ds)) items_width n (of_items js) (fewer (λ ds. suc (count ds)) (suc (json_count js)) n (of_items js) (omega (arith, h)) (as_many js))
      (of_items_within js n (omega (arith, h))))
  of_json_within (json.object ms) n h = AtMost-map members_width width n n object (λ a x. x) _ (of_members_within ms no_members n h (omega arith))

  of_items_within : (js : json.Items) (n : ℕ) → json_items_width js ≤ n → AtMost items_width n (of_items js)
  of_items_within json.no_items n h = omega arith
  of_items_within (json.item j js) n h =
      AtMost-and_then width items_width n n _ (λ d x. AtMost-map items_width items_width n n (item d) (λ ds y. omega (arith, x, y)) _ (of_items_within js n (omega (arith, h)))) _ (of_json_within j n (omega (arith, h)))

  of_members_within : (ms : json.Members) (found : Members) (n : ℕ) → json_members_width ms ≤ n → members_width found ≤ n → AtMost members_width n (of_members ms found)
  of_members_within json.no_members found n h k = k
  of_members_within (json.member name j ms) found n h k =
      AtMost-and_then width members_width n n _ (λ d x. of_members_within ms (put name d found) n (omega (arith, h)) (put_within name d found n x k)) _ (of_json_within j n (omega (arith, h)))

last_within : (n : ℕ) (o : Option (json.Json × List Token)) → AtMost (λ q. json_width q.0) n o → AtMost json_width n (option_and_then (λ p. if_last p.0 p.1) o)
last_within n None x = tt
last_within n (Some (j, [])) x = x
last_within n (Some (j, t ∷ r)) x = tt

-- no list within has more entries than the text has bytes
pub read_within : (text : List ℕ) (d : Data) → read text ≡ Some d → width d ≤ suc (length text)
read_within text d is =
    let few = tokens_few text in
    subst (AtMost width (suc (length text))) is
    (AtMost-and_then json_width width (suc (length text)) (suc (length text)) of_json (λ j x. of_json_within j (suc (length text)) x) _
    (last_within (suc (length text)) _ (value_within (suc (length text)) max_depth (tokens text) (omega (arith, few)))))
