-- What the machine makes of short values is short.
use Rattle.std.proofs.Common.{ℕ, zero, suc, ◌+◌, ◌≤◌, ◌/◌, ◌%◌, Bool, true, false, cond, length, List, [], ◌∷◌, Option, None, Some, ℤ, pos, negsuc, arith}
use Rattle.std.specs.Fmt.{decimal, digit_glyph, digits, digits_onto, signed_decimal}
use Rattle.std.specs.Prelude.{IfSome, nat_eq, if◌then◌else◌}
use Rattle.ui_machine.specs.Definition.{Definition}
use Rattle.ui_machine.specs.Definition.Kinds.{Kind}
use Rattle.ui_machine.specs.Definition.Kinds as kinds
use Rattle.ui_machine.specs.Definition.Properties.{Spec}
use Rattle.ui_machine.specs.Definition.Types.{GType}
use Rattle.ui_machine.specs.Definition.Values.{Value}
use Rattle.ui_machine.specs.Definition.Values as values
use Rattle.ui_machine.specs.Instructions.Arithmetic.{most_bytes}
use Rattle.ui_machine.specs.Output.Text.{members_of}
use Rattle.ui_machine.specs.Rules.Accumulation.{or_zero}
use Rattle.ui_machine.specs.Rules.Disposal.{nulled}
use Rattle.ui_machine.specs.Rules.Sets.{unless_disposed, without_disposed}
use Rattle.ui_machine.specs.Rules.Transfers.{inverted, opposite}
use Rattle.ui_machine.specs.Rules.Transform.{converted, has_number, if_so, is_known, is_transformable, kind_fits, text_of_bool, transformed, zero_value}
use Rattle.ui_machine.specs.Rules.Validation.{clamp}
use Rattle.ui_machine.specs.Runs.{IsShort}
use Rattle.ui_machine.specs.State.Objects.{Objects}
use Rattle.law_typing.specs.Verdict.Accepted.{Each}
use Rattle.law_short_texts.proofs.Entries.{either_is}

-- ** numbers as texts

-- so many digits are added at most
digits_few : (k n : ℕ) (acc : List ℕ) → length (digits_onto k 10 false n acc) ≤ k + length acc
digits_few zero n acc = omega arith
digits_few (suc k) n acc = by (nat_eq (n / 10) 0) (digits_few k (n / 10) (digit_glyph false (n % 10) ∷ acc))
  where
    more : List ℕ
    more = digit_glyph false (n % 10) ∷ acc

    by : (b : Bool) → length (digits_onto k 10 false (n / 10) more) ≤ k + length more → length (if b then more else digits_onto k 10 false (n / 10) more) ≤ suc k + length acc
    by true few = omega arith
    by false few = omega (arith, few)

decimal_few : (n : ℕ) → length (decimal n) ≤ 64
unfolding digits
decimal_few n = let few = digits_few 64 n [] in omega (arith, few)

decimal_short : (z : ℤ) → length (signed_decimal z) ≤ most_bytes
decimal_short (pos n) = let few = decimal_few n in omega (arith, few)
decimal_short (negsuc n) = let few = decimal_few (suc n) in omega (arith, few)

-- ** kinds

pub zero_short : (types : List GType) (kind : Kind) → IsShort (zero_value types kind)
zero_short types kinds.bool = tt
zero_short types (kinds.whole k) = tt
zero_short types kinds.text = tt
zero_short types (kinds.enum t) = tt
zero_short types (kinds.flags t) = tt
zero_short types (kinds.object t) = tt

pub or_zero_short : (d : Definition) (kind : Kind) (o : Option Value) → IfSome o IsShort → IsShort (or_zero d kind o)
or_zero_short d kind None short = zero_short d.types kind
or_zero_short d kind (Some v) short = short

so_short : (b : Bool) (v : Value) → IsShort v → IfSome (if_so b v) IsShort
so_short true v short = short
so_short false v short = tt

bool_short : (b : Bool) → length (text_of_bool b) ≤ most_bytes
bool_short true = omega arith
bool_short false = omega arith

converted_short : (types : List GType) (kind : Kind) (v : Value) → IsShort v → IfSome (converted types kind v) IsShort
converted_short types kinds.bool (values.bool b) short = tt
converted_short types (kinds.whole k) (values.bool b) short = tt
converted_short types kinds.text (values.bool b) short = bool_short b
converted_short types kinds.bool (values.whole l n) short = tt
converted_short types (kinds.whole k) (values.whole l n) short = tt
converted_short types kinds.text (values.whole l n) short = decimal_short n
converted_short types (kinds.enum t) (values.whole l n) short = so_short (has_number (members_of types t) n) _ tt
converted_short types (kinds.flags t) (values.whole l n) short = so_short (is_known (members_of types t) n) _ tt
converted_short types kinds.text (values.text s) short = short
converted_short types (kinds.whole k) (values.enum t n) short = tt
converted_short types (kinds.enum t) (values.enum u n) short = tt
converted_short types (kinds.whole k) (values.flags t bits) short = tt
converted_short types (kinds.flags t) (values.flags u bits) short = tt
converted_short types (kinds.object t) (values.object o) short = tt
converted_short types _ _ short = tt

pub transformed_short : (types : List GType) (from to : Kind) (v : Value) → IsShort v → IfSome (transformed types from to v) IsShort
transformed_short types from to v short = by (is_transformable types from to)
  where
    by : (b : Bool) → IfSome (cond b (converted types to v) None) IsShort
    by true = converted_short types to v short
    by false = tt

opposite_short : (v : Value) → IfSome (opposite v) IsShort
opposite_short (values.bool b) = tt
opposite_short _ = tt

pub inverted_short : (b : Bool) (o : Option Value) → IfSome o IsShort → IfSome (inverted b o) IsShort
inverted_short false o short = short
inverted_short true None short = tt
inverted_short true (Some v) short = opposite_short v

-- ** properties

pub clamped_short : (living_class : ℕ → Option ℕ) (types : List GType) (s : Spec) (v : Value) → IsShort s.default → IsShort v → IsShort (clamp living_class types s v)
clamped_short living_class types s (values.bool b) default short = tt
clamped_short living_class types s (values.whole k n) default short = tt
clamped_short living_class types s (values.text t) default short = short
clamped_short living_class types s (values.enum t n) default short = by (has_number (members_of types t) n)
  where
    by : (b : Bool) → IsShort (cond b (values.enum t n) s.default)
    by true = tt
    by false = default
clamped_short living_class types s (values.flags t bits) default short = tt
clamped_short living_class types s (values.object o) default short = by (kind_fits living_class types (values.object o) s.kind)
  where
    by : (b : Bool) → IsShort (cond b (values.object o) (values.object None))
    by true = tt
    by false = tt

unless_short : (os : Objects) (v : Value) → IsShort v → IsShort (unless_disposed os v)
unless_short os (values.bool b) short = tt
unless_short os (values.whole k n) short = tt
unless_short os (values.text t) short = short
unless_short os (values.enum t n) short = tt
unless_short os (values.flags t bits) short = tt
unless_short os (values.object None) short = tt
unless_short os (values.object (Some i)) short = tt

pub without_short : (os : Objects) (s : Spec) (v : Value) → IsShort v → IsShort (without_disposed os s v)
without_short os s v short = by s.weak
  where
    by : (b : Bool) → IsShort (cond b (unless_disposed os v) v)
    by true = unless_short os v short
    by false = short

pub nulled_short : (test : Spec → Value → Bool) (specs : List Spec) (vs : List Value) → Each IsShort vs → Each IsShort (nulled test specs vs)
nulled_short test [] vs short = short
nulled_short test (s ∷ specs) [] short = tt
nulled_short test (s ∷ specs) (v ∷ vs) short = (either_is IsShort (test s v) (values.object None) v tt short.0, nulled_short test specs vs short.1)
