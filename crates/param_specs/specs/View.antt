-- What a spec denotes.
use Rattle.std.specs.Prelude.{◌≡◌, List, [], ◌∷◌, map, Option, None, Some, String, string_bytes}
use Rattle.std.specs.Global.{Global}
use Rattle.std.specs.Rc.{rc_str_bytes}
use Rattle.ui_machine.specs.Definition.Properties as properties
use Rattle.g_values.specs.View.{kind_view, value_view}
use Rattle.param_specs.specs.declared.spec.Spec.{Spec}

-- the pure spec
abbrev pub spec_view : Spec → properties.Spec
spec_view s = record {
  name = rc_str_bytes s.name;
  kind = kind_view s.kind;
  flags = s.flags.0;
  default = value_view s.default;
  low = s.min;
  high = s.max;
  weak = s.weak;
}

-- lists of specs
abbrev pub lists_of : {A : Type 0} → (A → List Spec) → List A → List (List properties.Spec)
lists_of items vs = map (λ v. map spec_view (items v)) vs

-- a spec by its name, as a table keeps it
abbrev pub Entry : Type 0
Entry = String Global × Spec

abbrev pub specs_in : List Entry → List Spec
specs_in es = map (λ e. e.1) es

abbrev pub entries_or_none : Option (List Entry) → List Entry
entries_or_none None = []
entries_or_none (Some es) = es

-- each spec is under its own name
abbrev pub AreNamed : List Entry → Type 0
AreNamed [] = Unit {0}
AreNamed (e ∷ es) = (string_bytes e.0 ≡ rc_str_bytes (e.1).name) × AreNamed es

abbrev pub AllNamed : {A : Type 0} → (A → List Entry) → List A → Type 0
AllNamed entries [] = Unit {0}
AllNamed entries (v ∷ vs) = AreNamed (entries v) × AllNamed entries vs
