-- Which properties the types of a tree have.
use Rattle.std.specs.Prelude.{◌≡◌, ℕ, ◌≤◌, int_lt, Bool, not, nat_eq, nat_le, List, [], ◌∷◌, ◌++◌, length, reverse, if◌then◌else◌, Option, None, Some, is_some, Result, Ok, Err}
use Rattle.std.specs.List.{flat_map}
use Rattle.ui_machine.specs.Seq.{read}
use Rattle.ui_machine.specs.Definition.Names.{canonical, place_named}
use Rattle.ui_machine.specs.Definition.Types.{GType}
use Rattle.ui_machine.specs.Rules.Ancestry.{lineage}
use Rattle.ui_machine.specs.Rules.Validation.{is_valid}
use Rattle.ui_machine.specs.Definition.Properties.{Spec}
use Rattle.param_specs.specs.declared.error.SpecFault.{SpecFault}
use Rattle.param_specs.specs.declared.error.SpecFault.TheVariants.{BadName, Duplicate, FlagsClash, RangeEmpty, DefaultInvalid, Limit}
use Rattle.param_specs.specs.declared.error.SpecError.{SpecError}
use Rattle.param_specs.specs.declared.error.SpecError.TheVariants.{OutOfMemory, Refused}
use Rattle.param_specs.specs.Flags.{is_clash}
use Rattle.type_tree.specs.PropertyName.{is_property_name}

-- the specs that were installed for a type itself
abbrev pub own_of : List (List Spec) → ℕ → List Spec
own_of table t = read [] table t

-- the specs of a type: those of the root, then down to its own
unfoldable pub specs_of : List GType → List (List Spec) → ℕ → List Spec
specs_of types table t = flat_map (own_of table) (reverse (lineage types t))

-- the slot of a name, in any spelling
abbrev pub slot_named : List Spec → List ℕ → Option ℕ
slot_named specs name = place_named (λ s. s.name) specs (canonical name)

-- no type has more than 64 specs of its own
abbrev pub IsTable : List (List Spec) → Type 0
IsTable table = (t : ℕ) → length (own_of table t) ≤ 64

-- the spec as a table keeps it
abbrev pub canonical_spec : Spec → Spec
canonical_spec s =
    record { name = canonical s.name; kind = s.kind; flags = s.flags; default = s.default; low = s.low; high = s.high; weak = s.weak }

-- ** faults

abbrev pub fault_if : Bool → SpecFault → Option SpecFault
fault_if b fault = if b then Some fault else None

infixr 20 ◌or_else◌
-- the first fault of two
abbrev pub ◌or_else◌ : {A : Type 0} → Option A → Option A → Option A
(Some fault) or_else next = Some fault
None or_else next = next

-- what forbids a further spec, where these are there
abbrev pub install_fault : List GType → List Spec → Spec → Option SpecFault
install_fault types specs spec =
    fault_if (not (is_property_name spec.name)) BadName
    or_else fault_if (is_some (slot_named specs spec.name)) Duplicate
    or_else fault_if (is_clash spec.flags) FlagsClash
    or_else fault_if (int_lt spec.high spec.low) RangeEmpty
    or_else fault_if (not (is_valid (λ id. None) types spec spec.default)) DefaultInvalid
    or_else fault_if (nat_le 64 (length specs)) Limit

-- ** what installing does

-- the type has one more spec of its own, and the others have theirs
abbrev pub AddsSpec : List (List Spec) → List (List Spec) → ℕ → Spec → Type 0
AddsSpec old new t spec = (u : ℕ) → own_of new u ≡ (if nat_eq u t then own_of old u ++ spec ∷ [] else own_of old u)

-- all types have their specs
abbrev pub SameSpecs : List (List Spec) → List (List Spec) → Type 0
SameSpecs old new = (u : ℕ) → own_of new u ≡ own_of old u

-- An installed spec comes last and its slot is answered. Without memory nothing is installed, though nothing forbids it; a fault is answered
-- and nothing is installed.
abbrev pub Installs : Result ℕ SpecError → Option SpecFault → List Spec → ℕ → Spec → List (List Spec) → List (List Spec) → Type 0
Installs (Ok slot) fault specs t spec old new = (fault ≡ None) × (slot ≡ length specs) × AddsSpec old new t (canonical_spec spec)
Installs (Err OutOfMemory) fault specs t spec old new = (fault ≡ None) × SameSpecs old new
Installs (Err (Refused cause)) fault specs t spec old new = (fault ≡ Some cause) × SameSpecs old new
