-- The kind of a property that a definition has is known.
use Rattle.std.proofs.Common.{◌≡◌, ℕ, List, Option, None, Some, Bor, IfSome, option_map, sym}
use Rattle.ui_machine.specs.Definition.{Definition}
use Rattle.ui_machine.specs.Definition.Kinds.{Kind}
use Rattle.ui_machine.specs.Definition.Kinds as kinds
use Rattle.ui_machine.specs.Definition.Lookups.{spec_of}
use Rattle.ui_machine.specs.Definition.Properties.{Spec}
use Rattle.ui_machine.specs.Definition.Types.{GType}
use Rattle.g_values.specs.View.{kind_view}
use Rattle.param_specs.specs.View.{spec_view}
use Rattle.param_specs.specs.declared.spec.Spec as code
use Rattle.definition_format.specs.Meaning.{IsBasic, IsKnownKind, IsPlainKind}

known_if_plain : (types : List GType) (kind : Kind) (s : Spec) → IsPlainKind types kind s → IsKnownKind types kind
known_if_plain types kinds.bool s plain = tt
known_if_plain types (kinds.whole k) s plain = tt
known_if_plain types kinds.text s plain = tt
known_if_plain types (kinds.enum t) s plain = plain
known_if_plain types (kinds.flags t) s plain = plain
known_if_plain types (kinds.object t) s plain = tt

pub known_if_found : (d : Definition) (class slot : ℕ) (found : Option (Bor code.Spec)) → IsBasic d → option_map (λ s. spec_view s.now) found ≡ spec_of d class slot
    → IfSome found (λ s. IsKnownKind d.types (kind_view s.now.kind))
known_if_found d class slot None basic is = tt
known_if_found d class slot (Some s) basic is =
    known_if_plain d.types (kind_view s.now.kind) (spec_view s.now) (basic.plain class slot (spec_view s.now) (sym is)).kind
