-- Tables of what is what.
use Rattle.std.proofs.Common.{◌≡◌, inl, inr, ◌⊎◌, sym, ap, ◌∙◌, subst, ℕ, List, [], ◌∷◌, ◌++◌, length, Bool, Some, slice_get}
use Rattle.std.specs.Prelude.{Vec}
use Rattle.std.specs.Global.{Global}
use Rattle.ui_machine.specs.Definition.Types.{GType}
use Rattle.ui_machine.specs.Rules.Ancestry.{is_a}
use Rattle.verify_operands.specs.Ancestry.{AreRows, IsRow}
use Rattle.verify_operands.proofs.MappedLists.{stood}

-- one entry more
pub longer_row : (types : List GType) (t : ℕ) (row : List Bool) (answer : Bool) → IsRow types t row → answer ≡ is_a types t (length row) →
    IsRow types t (row ++ answer ∷ [])
longer_row types t row answer is next b other at = by (stood row b answer other at)
  where
    by : (slice_get row b ≡ Some other) ⊎ ((b ≡ length row) × (answer ≡ other)) → other ≡ is_a types t b
    by (inl was) = is b other was
    by (inr l) = sym l.1 ∙ (next ∙ ap (λ n. is_a types t n) (sym l.0))

-- one row more
pub more_rows : (types : List GType) (rows : List (Vec Bool Global)) (row : Vec Bool Global) → AreRows types rows → IsRow types (length rows) row.items →
    AreRows types (rows ++ row ∷ [])
more_rows types rows row are next t other at = by (stood rows t row other at)
  where
    by : (slice_get rows t ≡ Some other) ⊎ ((t ≡ length rows) × (row ≡ other)) → IsRow types t other.items
    by (inl was) = are t other was
    by (inr l) = subst (λ n. IsRow types n other.items) (sym l.0) (subst (λ (r : Vec Bool Global). IsRow types (length rows) r.items) l.1 next)
