-- The range of a property: its least and greatest number.
use Rattle.std.specs.Prelude.{ℕ, ℤ, int_lt, List, codes, if◌then◌else◌, Option, None, Some, Result, Ok, Err}
use Rattle.serde_json.specs.Data.{Data}
use Rattle.serde_json.specs.Find.{get}
use Rattle.ui_machine.specs.Outcome.{◌>>=◌}
use Rattle.ui_machine.specs.Definition.Kinds.{Kind}
use Rattle.g_values.specs.Reading.{whole_number, number_between}
use Rattle.g_values.specs.View.{is_whole_kind}
use Rattle.param_specs.specs.declared.error.SpecFault.TheVariants.{RangeEmpty}
use Rattle.definition_format.specs.Refusals.{Refusal, shape, not_installed, or_value_fault}
use Rattle.definition_format.specs.Document.{under}
use Rattle.definition_format.specs.Denoted.Kinds.{lowest, highest}

pub record Range : Type 0 where
  pub low : ℤ
  pub high : ℤ

-- the range of a kind: all of its numbers
abbrev pub whole_range : Kind → Range
whole_range kind = record { low = lowest kind; high = highest kind }

-- the number that an end is given as, at a kind of whole numbers
abbrev pub end_given : List ℕ → Kind → Data → Result ℤ Refusal
end_given path kind d =
    if is_whole_kind kind then or_value_fault path (number_between (lowest kind) (highest kind) (whole_number d)) else Err (shape path)

-- an end of a range, or the kind's own
abbrev pub end_or : List ℕ → Kind → ℤ → Option Data → Result ℤ Refusal
end_or path kind own None = Ok own
end_or path kind own (Some d) = end_given path kind d

-- some number lies between the ends
abbrev pub check_filled : List ℕ → ℤ → ℤ → Result (Unit {0}) Refusal
check_filled path low high = if int_lt high low then Err (not_installed path RangeEmpty) else Ok tt

-- The range of a property of this kind. It is reported at `min` that the range is empty; where `max` itself is at fault, that is reported.
unfoldable pub range_at : List ℕ → Kind → Data → Result Range Refusal
range_at path kind d = do
  low ← end_or (under path (codes "min")) kind (lowest kind) (get (codes "min") d)
  high ← end_or (under path (codes "max")) kind (highest kind) (get (codes "max") d)
  filled ← check_filled (under path (codes "min")) low high
  Ok (record { low = low; high = high })
