-- A name of the format has 64 bytes at most.
use Rattle.std.proofs.Common.{◌≡◌, refl, ℕ, ◌≤◌, length, Bool, true, false, List, Option, None, Some, arith}
use Rattle.std.specs.List.{list_all}
use Rattle.std.specs.Prelude.{IfOk, IfSome, if◌then◌else◌, is_some, nat_le, option_map}
use Rattle.std.proofs.lemmas.Bool.Decides.{nat_tests}
use Rattle.serde_json.specs.Data.{Data}
use Rattle.serde_json.specs.Find.{as_null, as_str}
use Rattle.bytecode.specs.Reading.Operands.{detail_at, expected, is_name, is_name_byte, named, operand}
use Rattle.law_typing.proofs.Lists.{both_parts}
use Rattle.law_reading.proofs.InstructionProofs.{beside}
use Rattle.law_line_lengths.specs.LineLengths.{detail_length}
use Rattle.law_short_lines.specs.ShortParts.{IsShortDetail}

pub name_short : (s : List ℕ) → is_name s ≡ true → length s ≤ detail_length
name_short s e =
    let within = (both_parts _ (list_all is_name_byte s) e).0 in
    let low = (both_parts (nat_le 1 (length s)) (nat_le (length s) 64) within).1 in grind (arith, nat_tests)

named_short : (o : Option (List ℕ)) → IfSome (named o) (λ (s : List ℕ). length s ≤ detail_length)
named_short None = tt
named_short (Some s) = by (is_name s) refl
  where
    by : (b : Bool) → is_name s ≡ b → IfSome (if b then Some s else None) (λ (t : List ℕ). length t ≤ detail_length)
    by true e = name_short s e
    by false e = tt

-- the detail of an operand
pub detail_read : (x : Data) (n : ℕ) → IfOk (detail_at x n) IsShortDetail
detail_read x n = beside IsShortDetail (operand x n) _ λ v. either v (is_some (as_null v))
  where
    one : (o : Option (List ℕ)) → IfSome o (λ (s : List ℕ). length s ≤ detail_length) → IfOk (expected (option_map (λ (s : List ℕ). Some s) o)) IsShortDetail
    one None short = tt
    one (Some s) short = short

    either : (v : Data) (b : Bool) → IfOk (expected (if b then Some None else option_map (λ (s : List ℕ). Some s) (named (as_str v)))) IsShortDetail
    either v true = tt
    either v false = one (named (as_str v)) (named_short (as_str v))
