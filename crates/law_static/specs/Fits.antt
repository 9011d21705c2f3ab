-- What a register holds, by the kind that it has where it is read.
use Rattle.std.specs.Prelude.{⊤, ◌≡◌, ℕ, true, List, [], ◌∷◌, Option, Some, Ok}
use Rattle.std.specs.List.{list_all}
use Rattle.ui_machine.specs.Definition.Kinds.{Kind, RegisterKind}
use Rattle.ui_machine.specs.Definition.Kinds as kinds
use Rattle.ui_machine.specs.Definition.Values.{Value}
use Rattle.ui_machine.specs.Definition.Values as values
use Rattle.ui_machine.specs.Definition.{Definition}
use Rattle.ui_machine.specs.State.Objects.{class_in}
use Rattle.ui_machine.specs.State.Config.{World}
use Rattle.ui_machine.specs.Rules.Ancestry.{is_a}
use Rattle.ui_machine.specs.Rules.Transform.{kind_fits}
use Rattle.ui_machine.specs.Rules.Sets.{has_kind}
use Rattle.ui_machine.specs.Rules.Programs.{fits_register, all_fit}
use Rattle.law_typing.specs.Rules.RegisterKinds.{Kinds, kind_in, class_at, covers, fits}
use Rattle.law_typing.specs.Rules.Typing.{operand}
use Rattle.law_typing.specs.Rules.Signatures.{parameters_fit}
use Rattle.law_typing.specs.Laws.WellRead.{TypesRead, is_set}
use Rattle.law_typing.specs.Good.Standing.{Standing, standing, class_by, holds, lives_by}
use Rattle.law_typing.specs.Good.Objects.{ObjectsGood}

-- ** registers

-- what has one kind has each kind that it fits
abbrev pub HoldsFits : Type 0
HoldsFits =
    (d : Definition) → TypesRead d → (s : Standing) (a b : RegisterKind) (v : Option Value) → fits d a b ≡ true → holds d s a v ≡ true →
    holds d s b v ≡ true

-- a value in a register lives, if it is of an object
abbrev pub HoldsLive : Type 0
HoldsLive = (d : Definition) (s : Standing) (k : RegisterKind) (v : Value) → holds d s k (Some v) ≡ true → lives_by s v ≡ true

-- a value in a register that fits a kind of values is of that kind
abbrev pub HoldsKind : Type 0
HoldsKind =
    (d : Definition) → TypesRead d → (s : Standing) (k : RegisterKind) (kind : Kind) (v : Value) → fits d k (kinds.plain kind) ≡ true →
    holds d s k (Some v) ≡ true → (kind_fits (class_by d s) d.types v kind ≡ true) × (has_kind v kind ≡ true)

-- a register whose kind says that it is set has a value
abbrev pub HoldsSet : Type 0
HoldsSet = (d : Definition) (s : Standing) (k : RegisterKind) (v : Option Value) → is_set k ≡ true → holds d s k v ≡ true →
    (x : Value) × (v ≡ Some x)

-- ** operands

-- an object operand: the object that it names lives, at a place that the kind covers, of a class that is of the operand's
pub record OperandGood (d : Definition) (s : Standing) (k : RegisterKind) (class : ℕ) (v : Option Value) : Type 0 where
  pub id : ℕ
  pub place : ℕ
  pub own : ℕ
  pub names : v ≡ Some (values.object (Some id))
  pub stands : s id ≡ Some place
  pub covered : covers d k place ≡ true
  pub of_class : class_at d place ≡ Some own
  pub is : is_a d.types own class ≡ true

abbrev pub OperandsStand : Type 0
OperandsStand =
    (d : Definition) (s : Standing) (ks : Kinds) (register class : ℕ) (v : Option Value) → operand d ks register ≡ Ok class →
    holds d s (kind_in ks register) v ≡ true → OperandGood d s (kind_in ks register) class v

-- ** what programs are given

-- each living object is of its place's class
abbrev pub ClassesAgree : Type 0
ClassesAgree = (d : Definition) (w : World) → ObjectsGood d w → class_in w.objects ≡ class_by d (standing w.objects)

-- each value holds what its kind says, and there are as many
abbrev pub AllHold : Definition → Standing → List Value → Kinds → Type 0
AllHold d s [] [] = ⊤
AllHold d s [] (k ∷ ks) = ⊥
AllHold d s (v ∷ vs) [] = ⊥
AllHold d s (v ∷ vs) (k ∷ ks) = (holds d s k (Some v) ≡ true) × AllHold d s vs ks

-- what is given holds what the parameters say that it fits
abbrev pub GivenHold : Type 0
GivenHold =
    (d : Definition) → TypesRead d → (s : Standing) (vs : List Value) (given params : Kinds) → AllHold d s vs given →
    parameters_fit d given params ≡ true → AllHold d s vs params

-- and the machine finds that it fits them, where each of them is set
abbrev pub GivenFit : Type 0
GivenFit =
    (d : Definition) (w : World) → ObjectsGood d w → (vs : List Value) (params : Kinds) → AllHold d (standing w.objects) vs params →
    list_all is_set params ≡ true → all_fit (fits_register d w.objects) vs params ≡ true
