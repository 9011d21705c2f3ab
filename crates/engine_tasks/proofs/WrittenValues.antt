-- What a set writes names nothing, or an object that lives.
use Rattle.std.proofs.Common.{◌≡◌, ℕ, Bool, true, false, cond, ◌&&◌, List, None, Some, IsSome, refl}
use Rattle.ui_machine.specs.Definition.Kinds as kinds
use Rattle.ui_machine.specs.Definition.Properties.{Spec}
use Rattle.ui_machine.specs.Definition.Types.{GType}
use Rattle.ui_machine.specs.Definition.Values as values
use Rattle.ui_machine.specs.Rules.Sets.{is_disposed, lives, unless_disposed, without_disposed}
use Rattle.ui_machine.specs.Rules.Transform.{has_number, kind_fits, same_value}
use Rattle.ui_machine.specs.Rules.Validation.{clamp}
use Rattle.ui_machine.specs.Output.Text.{members_of}
use Rattle.ui_machine.specs.State.Objects.{Objects, class_in, living}
use Rattle.definition_format.specs.Meaning.{IsPlain}
use Rattle.instance_tables.specs.Store.{Store, may_hold, may_hold_any, named_by}

-- ** what is written

-- a default names no object
default_lives : (os : Objects) (types : List GType) (v : values.Value) (k : kinds.Kind) → kind_fits (λ id. None) types v k ≡ true → lives os v ≡ true
default_lives os types (values.bool b) k h = refl
default_lives os types (values.whole w n) k h = refl
default_lives os types (values.text s) k h = refl
default_lives os types (values.enum t n) k h = refl
default_lives os types (values.flags t n) k h = refl
default_lives os types (values.object None) k h = refl
default_lives os types (values.object (Some i)) kinds.bool h = absurd (cc h)
default_lives os types (values.object (Some i)) (kinds.whole w) h = absurd (cc h)
default_lives os types (values.object (Some i)) kinds.text h = absurd (cc h)
default_lives os types (values.object (Some i)) (kinds.enum t) h = absurd (cc h)
default_lives os types (values.object (Some i)) (kinds.flags t) h = absurd (cc h)
default_lives os types (values.object (Some i)) (kinds.object t) h = absurd (cc h)

fits_first : (a b : Bool) → (a && b) ≡ true → a ≡ true
fits_first true b h = refl
fits_first false b h = absurd (cc h)

module _ (os : Objects) (types : List GType) (s : Spec) (plain : IsPlain types s) where
  -- where validation changes a value
  clamped_lives : (v : values.Value) → lives os v ≡ true → lives os (clamp (class_in os) types s v) ≡ true
  clamped_lives (values.bool b) h = refl
  clamped_lives (values.whole w n) h = refl
  clamped_lives (values.text t) h = refl
  clamped_lives (values.flags t n) h = refl
  clamped_lives (values.enum t n) h = by (has_number (members_of types t) n)
    where
      by : (b : Bool) → lives os (cond b (values.enum t n) s.default) ≡ true
      by true = refl
      by false =
          default_lives os types s.default s.kind
          (fits_first (kind_fits (λ id. None) types s.default s.kind) (same_value (clamp (λ id. None) types s s.default) s.default) plain.default)
  clamped_lives (values.object o) h = by (kind_fits (class_in os) types (values.object o) s.kind)
    where
      by : (b : Bool) → lives os (cond b (values.object o) (values.object None)) ≡ true
      by true = h
      by false = refl

  -- and where a weak property takes no disposed object
  undisposed_lives : (v : values.Value) → lives os v ≡ true → lives os (unless_disposed os v) ≡ true
  undisposed_lives (values.bool b) h = refl
  undisposed_lives (values.whole w n) h = refl
  undisposed_lives (values.text t) h = refl
  undisposed_lives (values.enum t n) h = refl
  undisposed_lives (values.flags t n) h = refl
  undisposed_lives (values.object None) h = refl
  undisposed_lives (values.object (Some i)) h = by (is_disposed (living os i))
    where
      by : (b : Bool) → lives os (values.object (cond b None (Some i))) ≡ true
      by true = refl
      by false = h

  pub written_lives : (v : values.Value) → lives os v ≡ true → lives os (without_disposed os s (clamp (class_in os) types s v)) ≡ true
  written_lives v h = by s.weak
    where
      by : (weak : Bool) → lives os (cond weak (unless_disposed os (clamp (class_in os) types s v)) (clamp (class_in os) types s v)) ≡ true
      by true = undisposed_lives (clamp (class_in os) types s v) (clamped_lives v h)
      by false = clamped_lives v h

-- ** what may be held

-- where each object that lives may be held once more, so may the one that a value names
pub named_held : (t : Store) (v : values.Value) → ((o : ℕ) → IsSome (living t.objects o) → may_hold t o ≡ true) → lives t.objects v ≡ true
    → may_hold_any t (named_by v) ≡ true
named_held t (values.bool b) held h = refl
named_held t (values.whole w n) held h = refl
named_held t (values.text s) held h = refl
named_held t (values.enum u n) held h = refl
named_held t (values.flags u n) held h = refl
named_held t (values.object None) held h = refl
named_held t (values.object (Some i)) held h = held i h
