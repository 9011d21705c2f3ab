-- Sums, differences, products and comparisons of two numbers of one kind.
use Rattle.std.specs.Prelude.{ℤ, pos, Bool, if◌then◌else◌, Option, None, Some, option_map}
use Rattle.ui_machine.specs.Definition.Kinds.{Whole, int, uint, int64, uint64}
use Rattle.ui_machine.specs.Definition.Values.{Value}
use Rattle.ui_machine.specs.Definition.Values as values
use Rattle.ui_machine.specs.Rules.Transform.{same_whole, wrapped}
use Rattle.ui_machine.specs.Definition.Programs.{Arithmetic, Comparison}
use Rattle.ui_machine.specs.Instructions.Arithmetic.{reckoned, holds}
use Rattle.g_values.specs.declared.arithmetic.Numbers.{Numbers}
use Rattle.g_values.specs.declared.arithmetic.Numbers.TheVariants.{Int, UInt, Int64, UInt64}

-- two numbers of one kind
pub record Pair : Type 0 where
  pub kind : Whole
  pub left : ℤ
  pub right : ℤ

abbrev pub pair_view : Numbers → Pair
pair_view (Int m n) = record { kind = int; left = m; right = n }
pair_view (UInt m n) = record { kind = uint; left = pos m; right = pos n }
pair_view (Int64 m n) = record { kind = int64; left = m; right = n }
pair_view (UInt64 m n) = record { kind = uint64; left = pos m; right = pos n }

-- the numbers of two values, where they are of one kind of whole numbers
abbrev pub pair_of : Value → Value → Option Pair
pair_of (values.whole k m) (values.whole l n) = if same_whole k l then Some (record { kind = k; left = m; right = n }) else None
pair_of _ _ = None

-- the number of the kind that has the same low bits as the sum, the difference or the product
abbrev pub calculated : Arithmetic → Value → Value → Option Value
calculated operation v w = option_map (λ p. values.whole p.kind (wrapped p.kind (reckoned operation p.left p.right))) (pair_of v w)

-- whether the comparison holds
abbrev pub compared : Comparison → Value → Value → Option Bool
compared comparison v w = option_map (λ p. holds comparison p.left p.right) (pair_of v w)
