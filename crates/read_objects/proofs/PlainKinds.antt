-- The kinds of plain properties are known: an enum's kind names an enum, and a flags kind a flags type.
use Rattle.std.proofs.Common.{List}
use Rattle.ui_machine.specs.Definition.Types.{GType}
use Rattle.ui_machine.specs.Definition.Properties.{Spec}
use Rattle.g_values.specs.declared.kind.Kind.{Kind}
use Rattle.g_values.specs.declared.kind.Kind.TheVariants as code
use Rattle.g_values.specs.View.{kind_view, IsKnown}
use Rattle.definition_format.specs.Meaning.{IsPlainKind}

pub plain_known : (types : List GType) (kind : Kind) (s : Spec) → IsPlainKind types (kind_view kind) s → IsKnown types kind
plain_known types code.Bool s plain = tt
plain_known types code.Int s plain = tt
plain_known types code.UInt s plain = tt
plain_known types code.Int64 s plain = tt
plain_known types code.UInt64 s plain = tt
plain_known types code.Text s plain = tt
plain_known types (code.Enum t) s plain = plain
plain_known types (code.Flags t) s plain = plain
plain_known types (code.Object t) s plain = tt
