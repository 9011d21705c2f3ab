-- A value that JSON denotes is of its kind.
use Rattle.std.proofs.Common.{◌≡◌, ℕ, ◌<◌, ◌^◌, ℤ, pos, negsuc, ◌≤ℤ◌, Bool, true, false, not, ◌&&◌, nat_eq, nat_lt, int_lt, length, List, [], ◌∷◌, Option, None, Some, option_map, option_and_then, Result, Ok, Err, refl, ap, subst, ◌∙◌, arith}
use Rattle.std.specs.Prelude.{unsigned_abs, ◌==◌, bit_or, if◌then◌else◌, IfOk, IfSome}
use Rattle.std.specs.Option.{option_or}
use Rattle.std.specs.List.{find, list_all, slice_split}
use Rattle.std.specs.Str.{bytes_eq}
use Rattle.std.specs.Ordering.{int_eq}
use Rattle.std.proofs.lemmas.Bool.{eq-eqb, lt-ltb, ltb-true}
use Rattle.std.proofs.lemmas.Bool.Decides.{Decides-int_eq}
use Rattle.std.proofs.lemmas.Int.{ints}
use Rattle.std.proofs.lemmas.Nat.{or_lt}
use Rattle.serde_json.specs.Data.{Data}
use Rattle.serde_json.specs.Find.{as_null, as_bool, as_str}
use Rattle.ui_machine.specs.Definition.Kinds.{Whole, int, uint, int64, uint64, Kind}
use Rattle.ui_machine.specs.Definition.Kinds as kinds
use Rattle.ui_machine.specs.Definition.Values.{Value}
use Rattle.ui_machine.specs.Definition.Values as values
use Rattle.ui_machine.specs.Definition.Types.{GType, Member}
use Rattle.ui_machine.specs.Output.Text.{members_of}
use Rattle.ui_machine.specs.Rules.Transform.{least, greatest, is_between, has_number, kind_fits, same_whole}
use Rattle.type_tree.specs.Naming.{number_by, number_called}
use Rattle.g_values.specs.Naming.{bits_called, bits_with, is_bar, trimmed}
use Rattle.g_values.specs.Reading.{whole_number, number_between, called, member_numbered, enum_number, bits_of, flags_bits, text_or_null, expected, value_of, json_value}
use Rattle.g_values.specs.declared.error.JsonFault.{JsonFault}
use Rattle.g_values.specs.declared.error.JsonFault.TheVariants.{OutOfRange, UnknownMember}
use Rattle.law_typing.specs.Laws.WellRead.{has_few_bits}
use Rattle.law_typing.proofs.Lists.{both_parts, any_in, any_true, each_in}
use Rattle.law_typing.proofs.OneSolutionProofs.{find_in}
use Rattle.law_typing.proofs.BuildBegins.{each_all}

pub both_true : (a b : Bool) → a ≡ true → b ≡ true → (a && b) ≡ true
both_true a b p q = ap (λ x. x && b) p ∙ q

is_false : (b : Bool) → not b ≡ true → b ≡ false
is_false true e = absurd (cc)
is_false false e = refl

pub int_itself : (n : ℤ) → int_eq n n ≡ true
int_itself n = (Decides-int_eq n n).1 refl

pub whole_itself : (k : Whole) → same_whole k k ≡ true
whole_itself int = refl
whole_itself uint = refl
whole_itself int64 = refl
whole_itself uint64 = refl

-- ** numbers

-- bits of 32
abbrev pub AreBits : ℕ → Type 0
AreBits bits = bits < 2 ^ 32

-- a number between two others of 32 bits has as few
pub few_between : (low high n : ℤ) → is_between low high n ≡ true → negsuc 4294967294 ≤ℤ low → high ≤ℤ pos 4294967295
    → AreBits (unsigned_abs n)
few_between low high n within bottom top = by n (is_false _ parts.0) (is_false _ parts.1)
  where
    parts : (not (int_lt n low) ≡ true) × (not (int_lt high n) ≡ true)
    parts = both_parts (not (int_lt n low)) (not (int_lt high n)) within

    by : (n : ℤ) → int_lt n low ≡ false → int_lt high n ≡ false → AreBits (unsigned_abs n)
    by (pos k) p q = omega (arith, ints, q, top)
    by (negsuc k) p q = omega (arith, ints, p, bottom)

number_within : (low high : ℤ) (n : Option ℤ) → IfOk (number_between low high n) (λ k. is_between low high k ≡ true)
number_within low high None = tt
number_within low high (Some n) = by (is_between low high n) refl
  where
    by : (b : Bool) → is_between low high n ≡ b → IfOk (if b then Ok n else Err OutOfRange) (λ k. is_between low high k ≡ true)
    by true e = e
    by false e = tt

-- ** members

abbrev pub HaveFewBits : List Member → Type 0
HaveFewBits members = list_all has_few_bits members ≡ true

few_number : (members : List Member) (n : ℤ) → HaveFewBits members → has_number members n ≡ true → AreBits (unsigned_abs n)
few_number members n few has =
    let found = any_in (λ (m : Member). int_eq m.number n) members has in
    let same : found.0.number ≡ n = (Decides-int_eq found.0.number n).0 found.2 in
    let all = each_all has_few_bits (λ (m : Member). has_few_bits m ≡ true) (λ m e. e) members few in
    let one : has_few_bits found.0 ≡ true = each_in (λ (m : Member). has_few_bits m ≡ true) members all found.0 found.1 in
    ltb-true (unsigned_abs n) (2 ^ 32) (subst (λ k. nat_lt (unsigned_abs k) (2 ^ 32) ≡ true) same one)

found_number : (test : Member → Bool) (members : List Member) (found : Option Member) → find test members ≡ found
    → IfSome (option_map (λ (m : Member). m.number) found) (λ n. has_number members n ≡ true)
found_number test members None e = tt
found_number test members (Some m) e =
    any_true (λ (x : Member). int_eq x.number m.number) members m (find_in test members m e).0 (int_itself m.number)

one_of_two : {A : Type 0} (P : A → Type 0) (first second : Option A) → IfSome first P → IfSome second P → IfSome (option_or first second) P
one_of_two P None second p q = q
one_of_two P (Some x) second p q = p

called_number : (members : List Member) (word : List ℕ) → IfSome (number_called members word) (λ n. has_number members n ≡ true)
called_number members word =
    one_of_two (λ n. has_number members n ≡ true) (number_by (λ m. m.name) members word) (number_by (λ m. m.nick) members word)
    (found_number (λ (m : Member). bytes_eq m.name word) members (find (λ (m : Member). bytes_eq m.name word) members) refl)
    (found_number (λ (m : Member). bytes_eq m.nick word) members (find (λ (m : Member). bytes_eq m.nick word) members) refl)

called_bits : (members : List Member) → HaveFewBits members → (word : List ℕ) → IfSome (bits_called members word) AreBits
called_bits members few word = by (length word == 0) (number_called members word) (called_number members word)
  where
    by : (b : Bool) (n : Option ℤ) → IfSome n (λ k. has_number members k ≡ true)
        → IfSome (if b then Some 0 else option_map unsigned_abs n) AreBits
    by true n h = omega arith
    by false None h = tt
    by false (Some n) h = few_number members n few h

joined_bits : (members : List Member) → HaveFewBits members → (bits : ℕ) (words : List (List ℕ)) → AreBits bits
    → IfSome (bits_with members bits words) AreBits
joined_bits members few bits [] h = h
joined_bits members few bits (word ∷ words) h =
    by (bits_called members (trimmed word)) (called_bits members few (trimmed word))
    (λ more g. joined_bits members few (bit_or bits more) words (or_lt 32 bits more h g))
  where
    by : (more : Option ℕ) → IfSome more AreBits → ((m : ℕ) → AreBits m → IfSome (bits_with members (bit_or bits m) words) AreBits)
        → IfSome (option_and_then (λ m. bits_with members (bit_or bits m) words) more) AreBits
    by None g rest = tt
    by (Some m) g rest = rest m g

-- ** values

said : {A : Type 0} (P : A → Type 0) (found : Option A) → IfSome found P → IfOk (called found) P
said P None h = tt
said P (Some x) h = h

any : {A : Type 0} (r : Result A JsonFault) → IfOk r (λ x. Unit {0})
any (Ok x) = tt
any (Err cause) = tt

made : {A : Type 0} (make : A → Value) (P : A → Type 0) (Q : Value → Type 0) (r : Result A JsonFault) → IfOk r P
    → ((x : A) → P x → Q (make x))
    → IfOk (value_of make r) Q
made make P Q (Ok x) p all = all x p
made make P Q (Err cause) p all = tt

enum_found : (members : List Member) (word : Option (List ℕ)) (n : Option ℤ)
    → IfOk (enum_number members word n) (λ k. has_number members k ≡ true)
enum_found members (Some word) n = said (λ k. has_number members k ≡ true) (number_called members word) (called_number members word)
enum_found members None n = numbered (number_between (least int) (greatest int) n)
  where
    by : (k : ℤ) (b : Bool) → has_number members k ≡ b → IfOk (if b then Ok k else Err UnknownMember) (λ k. has_number members k ≡ true)
    by k true e = e
    by k false e = tt

    numbered : (r : Result ℤ JsonFault) → IfOk (member_numbered members r) (λ k. has_number members k ≡ true)
    numbered (Ok k) = by k (has_number members k) refl
    numbered (Err cause) = tt

flags_found : (members : List Member) → HaveFewBits members → (word : Option (List ℕ)) (n : Option ℤ)
    → IfOk (flags_bits members word n) AreBits
flags_found members few (Some word) n =
    said AreBits (bits_with members 0 (slice_split is_bar word)) (joined_bits members few 0 (slice_split is_bar word) (omega arith))
flags_found members few None n = numbered (number_between (pos 0) (greatest uint) n) (number_within (pos 0) (greatest uint) n)
  where
    numbered : (r : Result ℤ JsonFault) → IfOk r (λ k. is_between (pos 0) (greatest uint) k ≡ true) → IfOk (bits_of r) AreBits
    numbered (Ok k) h = few_between (pos 0) (greatest uint) k h (omega (arith, ints)) (omega (arith, ints))
    numbered (Err cause) h = tt

-- whatever lives, the value is one of the kind
pub value_fits : (living_class : ℕ → Option ℕ) (types : List GType) → ((t : ℕ) → HaveFewBits (members_of types t))
    → (kind : Kind) (d : Data)
    → IfOk (json_value types kind d) (λ v. kind_fits living_class types v kind ≡ true)
value_fits f types few kinds.bool d =
    made values.bool (λ b. Unit {0}) (λ v. kind_fits f types v kinds.bool ≡ true) (expected (as_bool d)) (any _) λ b u. refl
value_fits f types few (kinds.whole k) d =
    made (values.whole k) (λ n. is_between (least k) (greatest k) n ≡ true) (λ v. kind_fits f types v (kinds.whole k) ≡ true)
    (number_between (least k) (greatest k) (whole_number d)) (number_within (least k) (greatest k) (whole_number d))
    λ n h. both_true (same_whole k k) (is_between (least k) (greatest k) n) (whole_itself k) h
value_fits f types few kinds.text d =
    made values.text (λ s. Unit {0}) (λ v. kind_fits f types v kinds.text ≡ true) (text_or_null d) (any _) λ s u. refl
value_fits f types few (kinds.enum t) d =
    made (values.enum t) (λ n. has_number (members_of types t) n ≡ true) (λ v. kind_fits f types v (kinds.enum t) ≡ true)
    (enum_number (members_of types t) (as_str d) (whole_number d)) (enum_found (members_of types t) (as_str d) (whole_number d))
    λ n h. both_true (nat_eq t t) (has_number (members_of types t) n) (eq-eqb t t refl) h
value_fits f types few (kinds.flags t) d =
    made (values.flags t) AreBits (λ v. kind_fits f types v (kinds.flags t) ≡ true)
    (flags_bits (members_of types t) (as_str d) (whole_number d))
    (flags_found (members_of types t) (few t) (as_str d) (whole_number d))
    λ bits h. both_true (nat_eq t t) (nat_lt bits (2 ^ 32)) (eq-eqb t t refl) (lt-ltb bits (2 ^ 32) h)
value_fits f types few (kinds.object t) d =
    made (λ u. values.object None) (λ u. Unit {0}) (λ v. kind_fits f types v (kinds.object t) ≡ true) (expected (as_null d)) (any _)
    λ u w. refl
