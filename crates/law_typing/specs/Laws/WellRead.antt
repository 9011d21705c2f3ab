-- What holds of each definition that was read, apart from what it is judged by. The laws of runs rest on it.
use Rattle.std.specs.Prelude.{◌≡◌, ℕ, ◌<◌, ◌≤◌, ◌^◌, ⊤, ℤ, Bool, true, false, cond, not, ◌&&◌, nat_eq, nat_lt, unsigned_abs, List, [], ◌∷◌, ◌++◌, length, map, codes, Option, None, Some, slice_get}
use Rattle.std.specs.List.{list_any, list_all, flat_map}
use Rattle.ui_machine.specs.Seq.{total}
use Rattle.ui_machine.specs.Definition.Names.{same_name}
use Rattle.ui_machine.specs.Output.Text.{members_of}
use Rattle.ui_machine.specs.Definition.Kinds.{Kind, RegisterKind}
use Rattle.ui_machine.specs.Definition.Kinds as kinds
use Rattle.ui_machine.specs.Definition.Types.{Member, GType}
use Rattle.ui_machine.specs.Definition.Types as sorts
use Rattle.ui_machine.specs.Rules.Ancestry.{is_a, parent_of}
use Rattle.ui_machine.specs.Rules.Transform.{least, greatest, is_between, kind_fits}
use Rattle.ui_machine.specs.Rules.Validation.{is_valid}
use Rattle.ui_machine.specs.Definition.Properties.{Spec, is_writable, is_construct, is_construct_only}
use Rattle.ui_machine.specs.Definition.{Definition, Class}
use Rattle.ui_machine.specs.Definition.Signals.{Signal, Shape, Method}
use Rattle.ui_machine.specs.Definition.Programs.{Instruction, Block, Program}
use Rattle.ui_machine.specs.Definition.Places.{Given, value, named, GivenProperty, Attached, Place, Bind}
use Rattle.ui_machine.specs.Definition.Programs as words
use Rattle.ui_machine.specs.Definition.Lookups.{type_of, spec_of, place_at, program_at}
use Rattle.ui_machine.specs.Rules.Connections.{signal_number}
use Rattle.ui_machine.specs.Rules.EmissionPlan.{signal_of}
use Rattle.ui_machine.specs.Rules.Construction.{is_forward, nearest_shape, has_shape}
use Rattle.law_typing.specs.Rules.RegisterKinds.{Kinds}
use Rattle.law_typing.specs.Rules.Brackets.{written}
use Rattle.law_typing.specs.Graph.Channels.{is_filled}
use Rattle.law_typing.specs.Graph.{next_of}
use Rattle.law_typing.specs.Verdict.Inherits.{inherits}
use Rattle.law_typing.specs.Verdict.Accepted.{Each}

-- ** lists

-- whether a test holds of no two entries
abbrev pub no_two : {A : Type 0} → (A → A → Bool) → List A → Bool
no_two same [] = true
no_two same (x ∷ xs) = not (list_any (same x) xs) && no_two same xs

-- ** types

-- nothing lives before anything is built
abbrev pub no_class_of : ℕ → Option ℕ
no_class_of id = None

-- whether both ends of a range are numbers of the kind
abbrev pub is_range : Kind → (low high : ℤ) → Bool
is_range (kinds.whole k) low high = is_between (least k) (greatest k) low && is_between (least k) (greatest k) high
is_range kind low high = true

-- whether a kind has a value: an enum has members
abbrev pub has_values : Definition → Kind → Bool
has_values d (kinds.enum type) = is_filled (members_of d.types type)
has_values d kind = true

-- what is said of a spec
pub record SpecRead (d : Definition) (s : Spec) : Type 0 where
  -- its default is valid
  pub default : is_valid no_class_of d.types s s.default ≡ true
  -- what is set at construction is writable
  pub construct : is_construct s ≡ true → is_writable s ≡ true
  pub construct_only : is_construct_only s ≡ true → is_writable s ≡ true
  -- its range is of numbers of its kind
  pub range : is_range s.kind s.low s.high ≡ true
  -- its flags are of 32 bits
  pub flags : nat_lt s.flags (2 ^ 32) ≡ true
  -- an enum has members
  pub values : has_values d s.kind ≡ true

-- whether the result of a signal, if it has one, has a value
abbrev pub result_has_values : Definition → Signal → Bool
result_has_values d s = of s.result
  where
    of : Option Kind → Bool
    of None = true
    of (Some kind) = has_values d kind

-- whether the number of a member has 32 bits
abbrev pub has_few_bits : Member → Bool
has_few_bits m = nat_lt (unsigned_abs m.number) (2 ^ 32)

-- `notify` is the first signal of a class: it runs first and is detailed, and has neither arguments nor a result
pub record HasNotify (d : Definition) (class : ℕ) : Type 0 where
  pub signal : Signal
  pub is : signal_of d class 0 ≡ Some signal
  pub name : signal.name ≡ codes "notify"
  pub flags : signal.flags ≡ 17
  pub params : signal.params ≡ []
  pub result : signal.result ≡ None

pub record TypesRead (d : Definition) : Type 0 where
  -- each type has its entry
  pub classes : length d.classes ≡ length d.types
  -- a parent comes before its children
  pub parents : (t parent : ℕ) → parent_of d.types t ≡ Some parent → parent < t
  -- what a type is, its ancestors and interfaces are; a class has what they have
  pub transitive : (a b c : ℕ) → is_a d.types a b ≡ true → is_a d.types b c ≡ true → is_a d.types a c ≡ true
  pub inherits : inherits d ≡ true
  -- a class has the shape of what it is: none is given to a class whose ancestor has one
  pub shapes : (class type shape : ℕ) → is_a d.types class type ≡ true → nearest_shape d type ≡ Some shape →
      nearest_shape d class ≡ Some shape
  -- each class among the types has `notify`
  pub notify : (class : ℕ) → class < length d.types → (type_of d class).sort ≡ sorts.class → HasNotify d class
  -- and so has each type that has signals, as an interface may
  pub first : (type number : ℕ) (s : Signal) → signal_of d type number ≡ Some s → HasNotify d type
  -- each property is as a property should be
  pub specs : (class slot : ℕ) (s : Spec) → spec_of d class slot ≡ Some s → SpecRead d s
  -- no class has two properties of one name
  pub names : list_all (λ (c : Class). no_two same_name (map (λ (s : Spec). s.name) c.specs)) d.classes ≡ true
  -- what each method answers has a value
  pub replies : list_all (λ (s : Shape). list_all (λ (m : Method). has_values d m.result) s.methods) d.shapes ≡ true
  -- and so has each result
  pub results : list_all (λ (c : Class). list_all (result_has_values d) c.signals) d.classes ≡ true
  -- a signal's own name finds it
  pub signals : (class number : ℕ) (s : Signal) → signal_of d class number ≡ Some s → signal_number d class s.name ≡ Some number
  -- the number of each member has 32 bits
  pub members : list_all (λ (t : GType). list_all has_few_bits t.members) d.types ≡ true

-- ** programs

-- whether an instruction ends a block
abbrev pub ends : Instruction → Bool
ends (words.jump to) = true
ends (words.branch on then_to else_to) = true
ends (words.branch_null on then_to else_to) = true
ends (words.return from) = true
ends _ = false

-- the last instruction of a block, and no other, ends it
abbrev pub Ends : List Instruction → Type 0
Ends [] = ⊥
Ends (i ∷ []) = ends i ≡ true
Ends (i ∷ j ∷ rest) = (ends i ≡ false) × Ends (j ∷ rest)

-- whether an instruction is a jump
abbrev pub is_jump : Instruction → Bool
is_jump (words.jump to) = true
is_jump _ = false

-- the last instruction of a block is a jump
abbrev pub EndsInJump : List Instruction → Type 0
EndsInJump [] = ⊥
EndsInJump (i ∷ []) = is_jump i ≡ true
EndsInJump (i ∷ j ∷ rest) = EndsInJump (j ∷ rest)

-- a block that says how often its instructions before the last are taken, says so often, and ends in a jump
abbrev pub RepeatRead : Option ℕ → List Instruction → Type 0
RepeatRead None code = ⊤
RepeatRead (Some n) code = (0 < n) × (n ≤ 65_535) × EndsInJump code

-- a register, if one is named, is one of the program's
abbrev pub Within : ℕ → Option ℕ → Type 0
Within registers None = ⊤
Within registers (Some r) = r < registers

-- a constant is of its kind, and what is converted to has values
abbrev pub ConstantFits : Definition → Instruction → Type 0
ConstantFits d (words.const to kind v) = kind_fits no_class_of d.types v kind ≡ true
ConstantFits d (words.convert to a kind) = has_values d kind ≡ true
ConstantFits d _ = ⊤

-- a block of a program, by its number
pub record BlockRead (d : Definition) (p : Program) (number : ℕ) (b : Block) : Type 0 where
  pub entry : length b.entry ≡ p.registers
  pub repeat : RepeatRead b.repeat b.code
  pub ends : Ends b.code
  pub constants : Each (ConstantFits d) b.code
  pub written : Each (λ i. Within p.registers (written i)) b.code
  -- it goes to later blocks that are there
  pub next : Each (λ i. Each (λ to. (number < to) × (to < length p.blocks)) (next_of i)) b.code

-- whether a register's kind says that it is set
abbrev pub is_set : RegisterKind → Bool
is_set kinds.unset = false
is_set k = true

pub record ProgramRead (d : Definition) (p : Program) : Type 0 where
  pub params : length p.params ≤ p.registers
  -- each parameter is set
  pub given : list_all is_set p.params ≡ true
  -- the first block begins with the parameters
  pub first : (b : Block) → slice_get p.blocks 0 ≡ Some b → (rest : Kinds) × (b.entry ≡ p.params ++ rest) × Each (λ k. k ≡ kinds.unset) rest
  pub some : (b : Block) × (slice_get p.blocks 0 ≡ Some b)
  pub blocks : (number : ℕ) (b : Block) → slice_get p.blocks number ≡ Some b → BlockRead d p number b

-- ** places

-- a value that a property of the kind may be given: an object is one of the document
abbrev pub GivenFits : Definition → Kind → Given → Type 0
GivenFits d kind (value v) = kind_fits no_class_of d.types v kind ≡ true
GivenFits d kind (named to) =
    (p : Place) × (type : ℕ) × (place_at d to ≡ Some p) × (p.is_prototype ≡ false) × (kind ≡ kinds.object type)
    × (is_a d.types p.class type ≡ true)

-- what is given to a property: it is there and writable, and a forward name is not for a construct-only one
pub record GivenRead (d : Definition) (place : ℕ) (p : Place) (g : GivenProperty) : Type 0 where
  pub spec : Spec
  pub is : spec_of d p.class g.slot ≡ Some spec
  pub writable : is_writable spec ≡ true
  pub fits : GivenFits d spec.kind g.given
  pub forward : is_forward place g.given ≡ true → is_construct_only spec ≡ false

-- an object of the document that a signal or a binding names
abbrev pub IsObject : Definition → ℕ → Type 0
IsObject d place = (p : Place) × (place_at d place ≡ Some p) × (p.is_prototype ≡ false)

abbrev pub IsObjectIf : Definition → Option ℕ → Type 0
IsObjectIf d None = ⊤
IsObjectIf d (Some place) = IsObject d place

-- whether a given value is itself, and names no object
abbrev pub is_plain : GivenProperty → Bool
is_plain g = of g.given
  where
    of : Given → Bool
    of (value v) = true
    of (named to) = false

pub record PlaceRead (d : Definition) (place : ℕ) (p : Place) : Type 0 where
  -- its class is one of the types, and not abstract
  pub known : p.class < length d.types
  pub class : (type_of d p.class).sort ≡ sorts.class
  pub concrete : (type_of d p.class).is_abstract ≡ false
  -- a parent is built before its children
  pub parent : (above : ℕ) → p.parent ≡ Some above → (above < place) × IsObject d above
  -- what is given fits, and no property is given twice
  pub given : Each (GivenRead d place p) p.given
  pub slots : no_two nat_eq (map (λ (g : GivenProperty). g.slot) p.given) ≡ true
  -- a prototype is given no object but null, and has no signals
  pub plain : p.is_prototype ≡ true → list_all is_plain p.given ≡ true
  pub silent : p.is_prototype ≡ true → p.signals ≡ []
  -- an object has a peer where its class has a shape, and no other has
  pub peers : p.is_prototype ≡ false → length p.peers ≡ cond (has_shape d p.class) 1 0
  -- data is an object of the document
  pub signals : Each (λ (a : Attached). IsObjectIf d a.with) p.signals

-- 1 where a place is of an object
abbrev pub is_object : Place → ℕ
is_object p = cond p.is_prototype 0 1

-- how many objects the document has
abbrev pub objects_of : Definition → ℕ
objects_of d = total is_object d.places

pub record WellRead (d : Definition) : Type 0 where
  -- types, programs and places are as they should be
  pub types : TypesRead d
  pub programs : (number : ℕ) (p : Program) → program_at d number ≡ Some p → ProgramRead d p
  pub places : (number : ℕ) (p : Place) → place_at d number ≡ Some p → PlaceRead d number p
  -- objects come before prototypes
  pub order : (a b : ℕ) (p q : Place) → place_at d a ≡ Some p → place_at d b ≡ Some q → p.is_prototype ≡ true → q.is_prototype ≡ false →
      b < a
  -- no peer is named twice
  pub peers : no_two same_name (flat_map (λ (p : Place). p.peers) d.places) ≡ true
  -- a binding is between two objects
  pub bindings : Each (λ (b : Bind). IsObject d b.source × IsObject d b.target) d.bindings
  -- there are no more objects than may live
  pub objects : objects_of d ≤ d.most_objects
  -- the limits are no more than these
  pub most_objects : d.most_objects ≤ 4096
  pub most_handlers : d.most_handlers ≤ 16
