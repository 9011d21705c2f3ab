-- The members of an enum, with their names and numbers.
use Rattle.std.proofs.Common.{◌≡◌, ◌∙◌, ℕ, ℤ, Bool, true, false, ◌||◌, if◌then◌else◌, List, [], ◌∷◌, ◌++◌, Ok, refl, sym, ap}
use Rattle.std.specs.List.{list_any}
use Rattle.std.specs.Ordering.{int_eq}
use Rattle.std.specs.Str.{bytes_eq}
use Rattle.std.proofs.Math.Path.{fun_ext}
use Rattle.std.proofs.lemmas.List.Folds.{list_any-append}
use Rattle.serde_json.specs.Data.{Data, Items}
use Rattle.ui_machine.specs.Definition.Kinds.{int}
use Rattle.ui_machine.specs.Definition.Types.{Member}
use Rattle.ui_machine.specs.Rules.Transform.{least, greatest, has_number}
use Rattle.definition_format.specs.Document.{nth, each, at_entry}
use Rattle.definition_format.specs.Denoted.Enums.{parts_at, name_at, number_at, unless_there, has_name, member_with, enum_member_at}
use Rattle.read_types.specs.EnumDrafts.{EnumParts, parts_of, with_member, enum_part_at}
use Rattle.read_types.specs.Drafted.{drafted}
use Rattle.read_types.proofs.Drafting.{through, each_drafted}

-- parts that are the same one by one
pub same_parts : (ms ns : List Member) (a b : List ℕ → Bool) (x y : ℤ → Bool) → ms ≡ ns → ((name : List ℕ) → a name ≡ b name) → ((n : ℤ) → x n ≡ y n) →
    record { members = ms; has_name = a; has_number = x } ≡ (let e : EnumParts = record { members = ns; has_name = b; has_number = y } in e)
same_parts ms ns a b x y p q r =
    ap (λ (l : List Member). record { members = l; has_name = a; has_number = x }) p
    ∙ ap (λ (f : List ℕ → Bool). record { members = ns; has_name = f; has_number = x }) (fun_ext q)
    ∙ ap (λ (f : ℤ → Bool). record { members = ns; has_name = b; has_number = f }) (fun_ext r)

any_more : (test : Member → Bool) (members : List Member) (m : Member) → (if test m then true else list_any test members) ≡ list_any test (members ++ m ∷ [])
any_more test members m = by (test m) (list_any test members) ∙ sym (list_any-append test members (m ∷ []))
  where
    by : (b rest : Bool) → (if b then true else rest) ≡ (rest || (b || false))
    by true true = refl
    by true false = refl
    by false true = refl
    by false false = refl

with_is : (members : List Member) (m : Member) → with_member (parts_of members) m ≡ parts_of (members ++ m ∷ [])
with_is members m =
    same_parts (members ++ m ∷ []) (members ++ m ∷ []) _ _ _ _ refl
    (λ name. any_more (λ (x : Member). bytes_eq x.name name) members m) (λ n. any_more (λ (x : Member). int_eq x.number n) members m)

part_is : (path : List ℕ) (members : List Member) (d : Data) → enum_part_at path (parts_of members) d ≡ drafted parts_of (enum_member_at path members d)
unfolding enum_part_at enum_member_at
part_is path members d =
    through parts_of (parts_at path d) _ _ (λ parts.
    through parts_of (name_at (nth path 0) parts.0) _ _ (λ name.
    through parts_of (unless_there (nth path 0) (has_name members name)) _ _ (λ unlike.
    through parts_of (name_at (nth path 1) parts.1) _ _ (λ nick.
    through parts_of (number_at (nth path 2) (least int) (greatest int) parts.2) _ _ (λ number.
    through parts_of (unless_there (nth path 2) (has_number members number)) _ _ (λ other.
    ap (λ (e : EnumParts). Ok e) (with_is members (member_with name nick number))))))))

-- reading from the first on
pub reads_are : (base : List ℕ) (e : EnumParts) (ds : Items) → e ≡ parts_of []
    → each (at_entry (λ path. enum_part_at path) base) 0 e ds ≡ drafted parts_of (each (at_entry enum_member_at base) 0 [] ds)
reads_are base e ds begun =
    ap (λ (x : EnumParts). each (at_entry (λ path. enum_part_at path) base) 0 x ds) begun ∙ each_drafted parts_of (λ path. enum_part_at path) enum_member_at part_is base 0 [] ds
