-- A set of a plain property, by what validation says of the value and the property's flags.
use Rattle.std.proofs.Common.{◌≡◌, ℕ, Bool, true, false, cond, ◌&&◌, ◌||◌, not, List, [], None, Some, Ok, Err, nat_eq, arith, refl, sym, ap, subst, ◌∙◌, ℤ, pos}
use Rattle.std.proofs.lemmas.Bool.Decides.{nat_tests}
use Rattle.ui_machine.specs.declared.arm.Arm.{Arm}
use Rattle.ui_machine.specs.declared.arm.Arm.TheVariants as arms
use Rattle.ui_machine.specs.Definition.Kinds as kinds
use Rattle.ui_machine.specs.Definition.Values.{Value}
use Rattle.ui_machine.specs.Definition.Values as values
use Rattle.ui_machine.specs.Definition.Types.{GType}
use Rattle.ui_machine.specs.Definition.Types as sorts
use Rattle.ui_machine.specs.Output.Text.{members_of}
use Rattle.type_tree.specs.Adding.{sort_of}
use Rattle.ui_machine.specs.Rules.Transform.{kind_fits, has_number, same_value, same_whole}
use Rattle.ui_machine.specs.Rules.Validation.{clamp}
use Rattle.ui_machine.specs.Definition.Properties.{Spec, is_lax}
use Rattle.ui_machine.specs.Definition.{Definition}
use Rattle.ui_machine.specs.Output.Lines as lines
use Rattle.ui_machine.specs.State.Objects.{class_in}
use Rattle.ui_machine.specs.State.Config.{World, starts, said}
use Rattle.ui_machine.specs.Outcome.{Answer, ◌>>=◌, only_if}
use Rattle.ui_machine.specs.Rules.Sets.{spec_at, has_kind, lives, without_disposed, written, settled, setting}
use Rattle.g_values.specs.declared.value.Value as coded
use Rattle.g_values.specs.declared.value.Value.TheVariants as of_value
use Rattle.g_values.specs.View.{kind_view, value_view, value_kind}
use Rattle.param_specs.specs.declared.spec.Spec as specs
use Rattle.param_specs.specs.View.{spec_view}
use Rattle.param_specs.specs.Validation.{IsWithin, Takes}
use Rattle.engine_world.specs.Able.{Able}
use Rattle.engine_world.proofs.Ableness.{able_as, tested}
use Rattle.definition_format.specs.Meaning.{IsPlainKind, IsPlain}

-- ** a value of a plain kind

whole_same : (w k : kinds.Whole) → same_whole w k ≡ true → w ≡ k
whole_same kinds.int kinds.int h = refl
whole_same kinds.int kinds.uint h = cc
whole_same kinds.int kinds.int64 h = cc
whole_same kinds.int kinds.uint64 h = cc
whole_same kinds.uint kinds.int h = cc
whole_same kinds.uint kinds.uint h = refl
whole_same kinds.uint kinds.int64 h = cc
whole_same kinds.uint kinds.uint64 h = cc
whole_same kinds.int64 kinds.int h = cc
whole_same kinds.int64 kinds.uint h = cc
whole_same kinds.int64 kinds.int64 h = refl
whole_same kinds.int64 kinds.uint64 h = cc
whole_same kinds.uint64 kinds.int h = cc
whole_same kinds.uint64 kinds.uint h = cc
whole_same kinds.uint64 kinds.int64 h = cc
whole_same kinds.uint64 kinds.uint64 h = refl

takes_whole : (types : List GType) (w : kinds.Whole) (k : kinds.Kind) (s : specs.Spec) (n : ℤ) → IsPlainKind types k (spec_view s)
    → has_kind (values.whole w n) k ≡ true → IsWithin w s
takes_whole types w kinds.bool s n p h = cc
takes_whole types w (kinds.whole k) s n p h =
    subst (λ v. IsWithin v s) (sym (whole_same w k h)) (record { min_low = p.0; min_high = p.1; max_low = p.2; max_high = p.3 })
takes_whole types w kinds.text s n p h = cc
takes_whole types w (kinds.enum u) s n p h = cc
takes_whole types w (kinds.flags u) s n p h = cc
takes_whole types w (kinds.object u) s n p h = cc

fits_first : (a b : Bool) → (a && b) ≡ true → a ≡ true
fits_first true b h = refl
fits_first false b h = cc

fits_both : (a b : Bool) → (a && b) ≡ true → (a ≡ true) × (b ≡ true)
fits_both true b h = (refl, h)
fits_both false b h = cc h

-- the default of an enum's property is of the enum
default_kind : (types : List GType) (t : ℕ) (v : coded.Value) → kind_fits (λ id. None) types (value_view v) (kinds.enum t) ≡ true
    → value_kind v ≡ kinds.enum t
default_kind types t (of_value.Bool b) h = cc
default_kind types t (of_value.Int n) h = cc
default_kind types t (of_value.UInt n) h = cc
default_kind types t (of_value.Int64 n) h = cc
default_kind types t (of_value.UInt64 n) h = cc
default_kind types t (of_value.Text s) h = cc
default_kind types t (of_value.Enum u n) h =
    let same : nat_eq u t ≡ true = fits_first (nat_eq u t) (has_number (members_of types t) n) h in
    let is : u ≡ t = grind (arith, nat_tests) in
    ap kinds.enum is
default_kind types t (of_value.Flags u bits) h = cc
default_kind types t (of_value.Object u None) h = cc
default_kind types t (of_value.Object u (Some o)) h = cc

takes_enum : (types : List GType) (t : ℕ) (n : ℤ) (k : kinds.Kind) (s : specs.Spec) → IsPlainKind types k (spec_view s)
    → kind_fits (λ id. None) types (value_view s.default) k ≡ true
    → has_kind (values.enum t n) k ≡ true → (sort_of types t ≡ sorts.enum) × (value_kind s.default ≡ kinds.enum t)
takes_enum types t n kinds.bool s p fits h = cc
takes_enum types t n (kinds.whole w) s p fits h = cc
takes_enum types t n kinds.text s p fits h = cc
takes_enum types t n (kinds.enum u) s p fits h =
    let is : u ≡ t = grind (arith, nat_tests) in
    (subst (λ x. sort_of types x ≡ sorts.enum) is p, default_kind types u s.default fits ∙ ap kinds.enum is)
takes_enum types t n (kinds.flags u) s p fits h = cc
takes_enum types t n (kinds.object u) s p fits h = cc

takes_flags : (types : List GType) (t bits : ℕ) (k : kinds.Kind) (s : Spec) → IsPlainKind types k s → has_kind (values.flags t bits) k ≡ true
    → sort_of types t ≡ sorts.flags
takes_flags types t bits kinds.bool s p h = cc
takes_flags types t bits (kinds.whole w) s p h = cc
takes_flags types t bits kinds.text s p h = cc
takes_flags types t bits (kinds.enum u) s p h = cc
takes_flags types t bits (kinds.flags u) s p h =
    let is : u ≡ t = grind (arith, nat_tests) in
    subst (λ x. sort_of types x ≡ sorts.flags) is p
takes_flags types t bits (kinds.object u) s p h = cc

-- what validation asks for holds
pub takes : (types : List GType) (s : specs.Spec) (v : coded.Value) → IsPlain types (spec_view s)
    → has_kind (value_view v) (kind_view s.kind) ≡ true → Takes types s v
takes types s (of_value.Bool b) p h = tt
takes types s (of_value.Int n) p h = takes_whole types kinds.int (kind_view s.kind) s n p.kind h
takes types s (of_value.Text t) p h = tt
takes types s (of_value.UInt n) p h = takes_whole types kinds.uint (kind_view s.kind) s (pos n) p.kind h
takes types s (of_value.Int64 n) p h = takes_whole types kinds.int64 (kind_view s.kind) s n p.kind h
takes types s (of_value.UInt64 n) p h = takes_whole types kinds.uint64 (kind_view s.kind) s (pos n) p.kind h
takes types s (of_value.Enum t n) p h =
    takes_enum types t n (kind_view s.kind) s p.kind
    (fits_first (kind_fits (λ id. None) types (value_view s.default) (kind_view s.kind))
    (same_value (clamp (λ id. None) types (spec_view s) (value_view s.default)) (value_view s.default)) p.default) h
takes types s (of_value.Flags t n) p h = takes_flags types t n (kind_view s.kind) (spec_view s) p.kind h
takes types s (of_value.Object t o) p h = tt

-- ** flags that code finds

flag_off : (b : Bool) → not b ≡ true → b ≡ false
flag_off false h = refl
flag_off true h = cc

flag_on : (b : Bool) → not b ≡ false → b ≡ true
flag_on true h = refl
flag_on false h = cc

refuses_is : (refuses is_changed same lax : Bool) → refuses ≡ (is_changed && not lax) → is_changed ≡ not same → refuses ≡ not (same || lax)
refuses_is refuses is_changed true lax e f = e ∙ ap (λ x. x && not lax) f
refuses_is refuses is_changed false lax e f = e ∙ ap (λ x. x && not lax) f

-- ** the set

module _ (d : Definition) (w : World) (id slot : ℕ) (v : Value) where
  pub no_spec_set : (arm : Arm) → spec_at d w.objects id slot ≡ Err arm → setting d w id slot v ≡ Err arm
  unfolding setting
  no_spec_set arm h = ap (λ (a : Answer Spec). a >>= λ s. only_if (has_kind v s.kind && lives w.objects v) arms.Value (settled d w id slot s v (clamp (class_in w.objects) d.types s v))) h

  module _ (s : Spec) (is : spec_at d w.objects id slot ≡ Ok s) where
    by_spec : setting d w id slot v ≡ only_if (has_kind v s.kind && lives w.objects v) arms.Value (settled d w id slot s v (clamp (class_in w.objects) d.types s v))
    unfolding setting
    by_spec = ap (λ (a : Answer Spec). a >>= λ s. only_if (has_kind v s.kind && lives w.objects v) arms.Value (settled d w id slot s v (clamp (class_in w.objects) d.types s v))) is

    -- where no arm stops it, the value is of the kind, and an object that it names lives
    pub set_fits : Able (setting d w id slot v) → (has_kind v s.kind ≡ true) × (lives w.objects v ≡ true)
    set_fits able =
        fits_both (has_kind v s.kind) (lives w.objects v)
        (tested (has_kind v s.kind && lives w.objects v) arms.Value (settled d w id slot s v (clamp (class_in w.objects) d.types s v)) (able_as by_spec able))

    module _ (plain : IsPlain d.types s) (kind : has_kind v s.kind ≡ true) (alive : lives w.objects v ≡ true) where
      by_value : setting d w id slot v ≡ settled d w id slot s v (clamp (class_in w.objects) d.types s v)
      by_value =
          by_spec ∙ ap (λ b. only_if (b && lives w.objects v) arms.Value (settled d w id slot s v (clamp (class_in w.objects) d.types s v))) kind
          ∙ ap (λ b. only_if b arms.Value (settled d w id slot s v (clamp (class_in w.objects) d.types s v))) alive

      refused_set : (same_value (clamp (class_in w.objects) d.types s v) v || is_lax s) ≡ false → setting d w id slot v ≡ starts (said d w (lines.refused id s.name v)) []
      refused_set bad =
          by_value ∙ ap (λ b. cond b (written d w id slot s (without_disposed w.objects s (clamp (class_in w.objects) d.types s v))) (starts (said d w (lines.refused id s.name v)) [])) bad

      written_set : (x : Value) → x ≡ without_disposed w.objects s (clamp (class_in w.objects) d.types s v) → (same_value (clamp (class_in w.objects) d.types s v) v || is_lax s) ≡ true
          → setting d w id slot v ≡ written d w id slot s x
      written_set x valid good =
          by_value ∙ ap (λ b. cond b (written d w id slot s (without_disposed w.objects s (clamp (class_in w.objects) d.types s v))) (starts (said d w (lines.refused id s.name v)) [])) good
          ∙ ap (written d w id slot s) (sym valid)

      -- as code finds it, with a flag for what was changed
      refused_by_flag : (refuses is_changed : Bool) (same_v : Value) → refuses ≡ true → refuses ≡ (is_changed && not (is_lax s))
          → is_changed ≡ not (same_value (clamp (class_in w.objects) d.types s v) v) → same_v ≡ v
          → setting d w id slot v ≡ starts (said d w (lines.refused id s.name same_v)) []
      refused_by_flag refuses is_changed same_v is e f same =
          refused_set (flag_off (same_value (clamp (class_in w.objects) d.types s v) v || is_lax s) (sym (refuses_is refuses is_changed (same_value (clamp (class_in w.objects) d.types s v) v) (is_lax s) e f) ∙ is))
          ∙ ap (λ x. starts (said d w (lines.refused id s.name x)) []) (sym same)

      written_by_flag : (refuses is_changed : Bool) (x : Value) → refuses ≡ false → refuses ≡ (is_changed && not (is_lax s))
          → is_changed ≡ not (same_value (clamp (class_in w.objects) d.types s v) v)
          → x ≡ without_disposed w.objects s (clamp (class_in w.objects) d.types s v) → setting d w id slot v ≡ written d w id slot s x
      written_by_flag refuses is_changed x is e f valid =
          written_set x valid (flag_on (same_value (clamp (class_in w.objects) d.types s v) v || is_lax s) (sym (refuses_is refuses is_changed (same_value (clamp (class_in w.objects) d.types s v) v) (is_lax s) e f) ∙ is))

-- ** a set that no arm stops, as code finds its value

module _ (d : Definition) (w : World) (id slot : ℕ) (s : specs.Spec) (is : spec_at d w.objects id slot ≡ Ok (spec_view s)) (plain : IsPlain d.types (spec_view s)) (x : coded.Value)
    (able : Able (setting d w id slot (value_view x))) where
  fits : (has_kind (value_view x) (kind_view s.kind) ≡ true) × (lives w.objects (value_view x) ≡ true)
  fits = set_fits d w id slot (value_view x) (spec_view s) is able

  pub taken_so : Takes d.types s x
  taken_so = takes d.types s x plain fits.0

  pub refused_so : (is_changed : Bool) (same_v : Value) → true ≡ (is_changed && not (is_lax (spec_view s)))
      → is_changed ≡ not (same_value (clamp (class_in w.objects) d.types (spec_view s) (value_view x)) (value_view x)) → same_v ≡ value_view x
      → setting d w id slot (value_view x) ≡ starts (said d w (lines.refused id (spec_view s).name same_v)) []
  refused_so is_changed same_v e f same = refused_by_flag d w id slot (value_view x) (spec_view s) is plain fits.0 fits.1 true is_changed same_v refl e f same

  pub written_so : (is_changed : Bool) (y : Value) → false ≡ (is_changed && not (is_lax (spec_view s)))
      → is_changed ≡ not (same_value (clamp (class_in w.objects) d.types (spec_view s) (value_view x)) (value_view x))
      → y ≡ without_disposed w.objects (spec_view s) (clamp (class_in w.objects) d.types (spec_view s) (value_view x)) → setting d w id slot (value_view x) ≡ written d w id slot (spec_view s) y
  written_so is_changed y e f valid = written_by_flag d w id slot (value_view x) (spec_view s) is plain fits.0 fits.1 false is_changed y refl e f valid
