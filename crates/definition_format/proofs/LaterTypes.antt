-- What is so of a property among some types stays so where a type is added behind them.
use Rattle.std.proofs.Common.{◌≡◌, ◌<◌, ◌^◌, nat_lt, ℕ, ℤ, zero, suc, Bool, true, false, cond, ◌&&◌, nat_eq, arith, List, [], ◌∷◌, ◌++◌, length, None, Some, refl, sym, ap, ◌∙◌, inl, inr}
use Rattle.std.proofs.lemmas.Bool.{cases_lt}
use Rattle.std.proofs.lemmas.Bool.Decides.{nat_tests}
use Rattle.ui_machine.specs.Seq.{read}
use Rattle.ui_machine.specs.Output.Text.{no_type, members_of}
use Rattle.ui_machine.specs.Definition.Types.{GType, Member}
use Rattle.ui_machine.specs.Definition.Types as sorts
use Rattle.ui_machine.specs.Definition.Kinds.{Kind}
use Rattle.ui_machine.specs.Definition.Kinds as kinds
use Rattle.ui_machine.specs.Definition.Values.{Value}
use Rattle.ui_machine.specs.Definition.Values as values
use Rattle.ui_machine.specs.Definition.Properties.{Spec}
use Rattle.ui_machine.specs.Rules.Transform.{has_number, kind_fits, same_value}
use Rattle.ui_machine.specs.Rules.Validation.{clamp}
use Rattle.type_tree.specs.Adding.{sort_of}
use Rattle.definition_format.specs.Meaning.{IsPlainKind, IsPlain, IsKnownKind}
use Rattle.definition_format.proofs.Tables.{type_past}

kept : (types : List GType) (g : GType) (t : ℕ) → t < length types → read no_type (types ++ g ∷ []) t ≡ read no_type types t
kept [] g t h = absurd (omega arith)
kept (x ∷ xs) g zero h = refl
kept (x ∷ xs) g (suc t) h = kept xs g t (omega arith)

-- a type that is no class is among the types
pub kept_but_class : (types : List GType) (g : GType) (t : ℕ) (s : sorts.Sort) → sort_of types t ≡ s → (s ≡ sorts.class → ⊥)
    → read no_type (types ++ g ∷ []) t ≡ read no_type types t
kept_but_class types g t s is other = elim (cases_lt t (length types)) [
  | inl known ↦ kept types g t known
  | inr past ↦ absurd (other (sym is ∙ ap (λ (x : GType). x.sort) (type_past types t past)))
]

-- the type that a plain kind names is the same among these types and those
abbrev pub IsKept : List GType → List GType → Kind → Type 0
IsKept types all kinds.bool = Unit {0}
IsKept types all (kinds.whole k) = Unit {0}
IsKept types all kinds.text = Unit {0}
IsKept types all (kinds.enum t) = read no_type all t ≡ read no_type types t
IsKept types all (kinds.flags t) = read no_type all t ≡ read no_type types t
IsKept types all (kinds.object t) = Unit {0}

-- a kind that is known stays known
pub known_later : (types : List GType) (g : GType) (k : Kind) → IsKnownKind types k → IsKnownKind (types ++ g ∷ []) k
known_later types g kinds.bool known = tt
known_later types g (kinds.whole k) known = tt
known_later types g kinds.text known = tt
known_later types g (kinds.enum t) known = ap (λ (x : GType). x.sort) (kept_but_class types g t sorts.enum known (λ e. cc)) ∙ known
known_later types g (kinds.flags t) known = ap (λ (x : GType). x.sort) (kept_but_class types g t sorts.flags known (λ e. cc)) ∙ known
known_later types g (kinds.object t) known = tt

plain_kept : (types : List GType) (g : GType) (k : Kind) (s : Spec) → IsPlainKind types k s → IsKept types (types ++ g ∷ []) k
plain_kept types g kinds.bool s p = tt
plain_kept types g (kinds.whole k) s p = tt
plain_kept types g kinds.text s p = tt
plain_kept types g (kinds.enum t) s p = kept_but_class types g t sorts.enum p (λ e. cc)
plain_kept types g (kinds.flags t) s p = kept_but_class types g t sorts.flags p (λ e. cc)
plain_kept types g (kinds.object t) s p = tt

kind_later : (types all : List GType) (k : Kind) (s : Spec) → IsKept types all k → IsPlainKind types k s → IsPlainKind all k s
kind_later types all kinds.bool s same p = tt
kind_later types all (kinds.whole k) s same p = p
kind_later types all kinds.text s same p = tt
kind_later types all (kinds.enum t) s same p = ap (λ (x : GType). x.sort) same ∙ p
kind_later types all (kinds.flags t) s same p = ap (λ (x : GType). x.sort) same ∙ p
kind_later types all (kinds.object t) s same p = tt

-- whether a value is valid by what it is of, by the members of the kind's type and by those of the value's
module _ (s : Spec) (n : ℤ) where
  abbrev enum_valid : (is_one : Bool) (t : ℕ) (of_kind of_value : List Member) → Bool
  enum_valid is_one t of_kind of_value =
      (is_one && has_number of_kind n) && same_value (cond (has_number of_value n) (values.enum t n) s.default) (values.enum t n)

  enum_same : (is_one : Bool) (t u : ℕ) → nat_eq t u ≡ is_one → (types all : List GType) → members_of all u ≡ members_of types u
      → enum_valid is_one t (members_of types u) (members_of types t) ≡ enum_valid is_one t (members_of all u) (members_of all t)
  enum_same true t u e types all same =
      let is : t ≡ u = grind (arith, nat_tests) in
      let other : members_of all t ≡ members_of types t = ap (members_of all) is ∙ same ∙ sym (ap (members_of types) is) in
      rw (same, other) refl
  enum_same false t u e types all same = refl

module _ (s : Spec) (bits : ℕ) where
  abbrev flags_valid : (is_one few : Bool) (t : ℕ) → List GType → Bool
  flags_valid is_one few t types =
      (is_one && few) && same_value (clamp (λ id. None) types s (values.flags t bits)) (values.flags t bits)

  flags_same : (is_one few : Bool) (t u : ℕ) → nat_eq t u ≡ is_one → (types all : List GType) → members_of all u ≡ members_of types u
      → flags_valid is_one few t types ≡ flags_valid is_one few t all
  flags_same true few t u e types all same =
      let is : t ≡ u = grind (arith, nat_tests) in
      let other : members_of all t ≡ members_of types t = ap (members_of all) is ∙ same ∙ sym (ap (members_of types) is) in
      rw other refl
  flags_same false few t u e types all same = refl

-- null stays null, whether or not it is of the kind
null_valid : (b : Bool) → same_value (cond b (values.object None) (values.object None)) (values.object None) ≡ true
null_valid true = refl
null_valid false = refl

abbrev pub valid_as : List GType → Kind → Value → Spec → Bool
valid_as types kind v s = kind_fits (λ id. None) types v kind && same_value (clamp (λ id. None) types s v) v

pub valid_later : (types all : List GType) (kind : Kind) (v : Value) (s : Spec) → IsKept types all kind
    → valid_as types kind v s ≡ valid_as all kind v s
valid_later types all kinds.bool (values.bool b) s same = refl
valid_later types all kinds.bool (values.whole w n) s same = refl
valid_later types all kinds.bool (values.text t) s same = refl
valid_later types all kinds.bool (values.enum t n) s same = refl
valid_later types all kinds.bool (values.flags t bits) s same = refl
valid_later types all kinds.bool (values.object None) s same = refl
valid_later types all kinds.bool (values.object (Some o)) s same = refl
valid_later types all (kinds.whole k) (values.bool b) s same = refl
valid_later types all (kinds.whole k) (values.whole w n) s same = refl
valid_later types all (kinds.whole k) (values.text t) s same = refl
valid_later types all (kinds.whole k) (values.enum t n) s same = refl
valid_later types all (kinds.whole k) (values.flags t bits) s same = refl
valid_later types all (kinds.whole k) (values.object None) s same = refl
valid_later types all (kinds.whole k) (values.object (Some o)) s same = refl
valid_later types all kinds.text (values.bool b) s same = refl
valid_later types all kinds.text (values.whole w n) s same = refl
valid_later types all kinds.text (values.text t) s same = refl
valid_later types all kinds.text (values.enum t n) s same = refl
valid_later types all kinds.text (values.flags t bits) s same = refl
valid_later types all kinds.text (values.object None) s same = refl
valid_later types all kinds.text (values.object (Some o)) s same = refl
valid_later types all (kinds.enum u) (values.bool b) s same = refl
valid_later types all (kinds.enum u) (values.whole w n) s same = refl
valid_later types all (kinds.enum u) (values.text t) s same = refl
valid_later types all (kinds.enum u) (values.enum t n) s same =
    enum_same s n (nat_eq t u) t u refl types all (ap (λ (x : GType). x.members) same)
valid_later types all (kinds.enum u) (values.flags t bits) s same = refl
valid_later types all (kinds.enum u) (values.object None) s same = refl
valid_later types all (kinds.enum u) (values.object (Some o)) s same = refl
valid_later types all (kinds.flags u) (values.bool b) s same = refl
valid_later types all (kinds.flags u) (values.whole w n) s same = refl
valid_later types all (kinds.flags u) (values.text t) s same = refl
valid_later types all (kinds.flags u) (values.enum t n) s same = refl
valid_later types all (kinds.flags u) (values.flags t bits) s same =
    flags_same s bits (nat_eq t u) (nat_lt bits (2 ^ 32)) t u refl types all (ap (λ (x : GType). x.members) same)
valid_later types all (kinds.flags u) (values.object None) s same = refl
valid_later types all (kinds.flags u) (values.object (Some o)) s same = refl
valid_later types all (kinds.object u) (values.bool b) s same = refl
valid_later types all (kinds.object u) (values.whole w n) s same = refl
valid_later types all (kinds.object u) (values.text t) s same = refl
valid_later types all (kinds.object u) (values.enum t n) s same = refl
valid_later types all (kinds.object u) (values.flags t bits) s same = refl
valid_later types all (kinds.object u) (values.object None) s same =
    null_valid (kind_fits (λ id. None) types (values.object None) s.kind) ∙ sym (null_valid (kind_fits (λ id. None) all (values.object None) s.kind))
valid_later types all (kinds.object u) (values.object (Some o)) s same = refl

pub plain_later : (types : List GType) (g : GType) (s : Spec) → IsPlain types s → IsPlain (types ++ g ∷ []) s
plain_later types g s p =
    let same = plain_kept types g s.kind s p.kind in
    record {
      kind = kind_later types (types ++ g ∷ []) s.kind s same p.kind;
      default = sym (valid_later types (types ++ g ∷ []) s.kind s.default s same) ∙ p.default;
    }
