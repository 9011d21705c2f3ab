-- Plain kinds are known whatever the types are.
use Rattle.std.proofs.Common.{◌≡◌, ℕ, zero, suc, Bool, true, false, ◌&&◌, List, [], ◌∷◌, map, Option, None, Some, slice_get, refl, sym, subst}
use Rattle.std.specs.Prelude.{IfSome, IsTrue}
use Rattle.std.proofs.lemmas.Bool.{false≢true}
use Rattle.std.specs.Option.{option_map}
use Rattle.std.specs.List.{AllByRecursion, list_all}
use Rattle.ui_machine.specs.Definition.Kinds as kinds
use Rattle.ui_machine.specs.Definition.Signals.{Method}
use Rattle.ui_machine.specs.Definition.Types.{GType}
use Rattle.g_values.specs.View.{IsKnown, kind_view}
use Rattle.g_values.specs.declared.kind.Kind.{Kind}
use Rattle.g_values.specs.declared.kind.Kind.TheVariants as of_kind
use Rattle.definition_format.specs.Meaning.{IsKnownKind}
use Rattle.peer_shapes.specs.MethodViews.{is_plain, is_plain_method, is_plain_shape, lent_view}
use Rattle.peer_shapes.specs.declared.methods.MethodRef.{MethodRef}
use Rattle.engine_world.specs.SeatView.{HasKnownKinds}

both : (a b : Bool) → IsTrue (a && b) → IsTrue a × IsTrue b
both true b h = (refl, h)
both false b h = absurd (false≢true h)

known_kind : (types : List GType) (k : kinds.Kind) → IsTrue (is_plain k) → IsKnownKind types k
known_kind types kinds.bool h = tt
known_kind types (kinds.whole w) h = tt
known_kind types kinds.text h = tt
known_kind types (kinds.enum t) h = absurd (false≢true h)
known_kind types (kinds.flags t) h = absurd (false≢true h)
known_kind types (kinds.object t) h = tt

known : (types : List GType) (k : Kind) → IsTrue (is_plain (kind_view k)) → IsKnown types k
known types of_kind.Bool h = tt
known types of_kind.Int h = tt
known types of_kind.UInt h = tt
known types of_kind.Int64 h = tt
known types of_kind.UInt64 h = tt
known types of_kind.Text h = tt
known types (of_kind.Enum t) h = absurd (false≢true h)
known types (of_kind.Flags t) h = absurd (false≢true h)
known types (of_kind.Object t) h = tt

known_kinds : (types : List GType) (ks : List kinds.Kind) → IsTrue (list_all is_plain ks) → AllByRecursion (IsKnownKind types) ks
known_kinds types [] h = tt
known_kinds types (k ∷ ks) h = let two = both (is_plain k) (list_all is_plain ks) h in (known_kind types k two.0, known_kinds types ks two.1)

-- a method of a plain shape
plain_at : (ms : List Method) (n : ℕ) (m : Method) → IsTrue (is_plain_shape ms) → slice_get ms n ≡ Some m → IsTrue (is_plain_method m)
plain_at [] n m h at = cc at
plain_at (x ∷ ms) zero m h at = let here : x ≡ m = cc at in subst (λ (y : Method). IsTrue (is_plain_method y)) here (both (is_plain_method x) (is_plain_shape ms) h).0
plain_at (x ∷ ms) (suc n) m h at = plain_at ms n m (both (is_plain_method x) (is_plain_shape ms) h).1 at

has_known_kinds : (types : List GType) (ms : List Method) (n : ℕ) (m : MethodRef) → IsTrue (is_plain_shape ms) → slice_get ms n ≡ Some (lent_view m) → HasKnownKinds types m
has_known_kinds types ms n m h at =
    let two = both (list_all is_plain (map kind_view m.params.now)) (is_plain (kind_view m.result)) (plain_at ms n (lent_view m) h at) in
    (known_kinds types (map kind_view m.params.now) two.0, known types m.result two.1)

pub if_known : (types : List GType) (ms : List Method) (n : ℕ) (r : Option MethodRef) → IsTrue (is_plain_shape ms) → option_map lent_view r ≡ slice_get ms n → IfSome r (HasKnownKinds types)
if_known types ms n None h is = tt
if_known types ms n (Some m) h is = has_known_kinds types ms n m h (sym is)
