-- Typing of instructions: the first rule that one breaks, or the kinds of the registers after it. The tests go in this order: the object
-- operands, the names, the other operands from left to right, the count of arguments, the signature, and the result or the next block.
use Rattle.std.specs.Prelude.{◌≡◌, ℕ, suc, Bool, true, false, cond, not, ◌&&◌, ◌||◌, nat_lt, List, [], ◌∷◌, Option, None, Some, Ok, Err, is_none, option_map, slice_get}
use Rattle.std.specs.List.{list_any}
use Rattle.ui_machine.specs.Seq.{write}
use Rattle.ui_machine.specs.Definition.Names.{same_name, place_named}
use Rattle.ui_machine.specs.Definition.Kinds.{Whole, Kind, RegisterKind}
use Rattle.ui_machine.specs.Definition.Kinds as kinds
use Rattle.ui_machine.specs.Rules.Transform.{same_kind}
use Rattle.ui_machine.specs.Definition.Properties.{Spec, is_readable, is_writable, is_construct_only}
use Rattle.ui_machine.specs.Definition.{Definition}
use Rattle.ui_machine.specs.Definition.Signals.{Signal, Method, Shape}
use Rattle.ui_machine.specs.Definition.Programs.{Connect, Instruction, Block, Program}
use Rattle.ui_machine.specs.Definition.Places.{Bind}
use Rattle.ui_machine.specs.Definition.Programs as words
use Rattle.ui_machine.specs.Definition.Lookups.{slot_of, spec_of, program_at, program_of, place_at, place_of}
use Rattle.ui_machine.specs.Rules.EmissionPlan.{signal_of}
use Rattle.ui_machine.specs.Rules.Connections.{signal_number}
use Rattle.ui_machine.specs.Rules.Construction.{nearest_shape}
use Rattle.ui_machine.specs.Instructions.Arithmetic.{is_convertible}
use Rattle.law_typing.specs.Rules.RegisterKinds.{Kinds, kind_in, class_at, holds_objects, never_null, fits, kinds_fit}
use Rattle.law_typing.specs.Rules.Answers.{Rule, Typing}
use Rattle.ui_machine.specs.Outcome.{◌>>=◌, known, only_if}
use Rattle.law_typing.specs.Rules.Answers as rules
use Rattle.law_typing.specs.Rules.Signatures.{takes, given_kinds, data_kinds, takes_detail}

-- ** operands

-- a kind that a register is read at
abbrev pub unless_unset : RegisterKind → Typing RegisterKind
unless_unset kinds.unset = Err rules.unset
unless_unset k = Ok k

-- the kind of a register that is set
abbrev pub set_in : Kinds → ℕ → Typing RegisterKind
set_in ks register = unless_unset (kind_in ks register)

-- the class that a kind names, where it is one of objects that are never null
abbrev pub class_of_operand : Definition → RegisterKind → Typing ℕ
class_of_operand d kinds.unset = Err rules.unset
class_of_operand d (kinds.plain (kinds.object type)) = Err rules.null
class_of_operand d (kinds.plain _) = Err rules.kind
class_of_operand d (kinds.some type) = Ok type
class_of_operand d (kinds.at place) = known rules.kind (class_at d place)
class_of_operand d (kinds.at_or_null place) = Err rules.null

-- the class of an object operand
abbrev pub operand : Definition → Kinds → ℕ → Typing ℕ
operand d ks register = class_of_operand d (kind_in ks register)

-- the kind of a data operand, which is an object operand that may be left out
unfoldable pub data_in : Definition → Kinds → Option ℕ → Typing (Option RegisterKind)
data_in d ks None = Ok None
data_in d ks (Some register) = do
  class ← operand d ks register
  Ok (Some (kind_in ks register))

-- a register that is set and passes a test
unfoldable pub passing : Kinds → ℕ → (RegisterKind → Bool) → Typing RegisterKind
passing ks register test = do
  k ← set_in ks register
  only_if (test k) rules.kind (Ok k)

-- whether it is a kind of truth values
abbrev pub is_bool : RegisterKind → Bool
is_bool (kinds.plain kinds.bool) = true
is_bool _ = false

-- whether it is the kind of texts
abbrev pub is_text : RegisterKind → Bool
is_text (kinds.plain kinds.text) = true
is_text _ = false

-- whether it is a kind of whole numbers
abbrev pub is_whole : RegisterKind → Bool
is_whole (kinds.plain (kinds.whole w)) = true
is_whole _ = false

-- whether both are one kind of values
abbrev pub is_same : RegisterKind → RegisterKind → Bool
is_same (kinds.plain k) (kinds.plain l) = same_kind k l
is_same _ _ = false

-- ** what is written

-- a register is written
abbrev pub gives : ℕ → RegisterKind → Kinds → Typing Kinds
gives to k ks = Ok (write kinds.unset ks to k)

-- a truth value is written
abbrev pub tells : ℕ → Kinds → Typing Kinds
tells to ks = gives to (kinds.plain kinds.bool) ks

-- ** arithmetic, logic and texts

-- two whole numbers of one kind
unfoldable pub two_numbers : Kinds → (a b : ℕ) → Typing RegisterKind
two_numbers ks a b = do
  k ← passing ks a is_whole
  l ← passing ks b (is_same k)
  Ok k

-- two registers that pass one test
unfoldable pub two_passing : Kinds → (a b : ℕ) → (RegisterKind → Bool) → Typing RegisterKind
two_passing ks a b test = do
  k ← passing ks a test
  passing ks b test

-- `move d s`
unfoldable pub moving : Kinds → (to from : ℕ) → Typing Kinds
moving ks to from = do
  k ← set_in ks from
  gives to k ks

-- `add`, `sub`, `mul d a b`
unfoldable pub reckoning : Kinds → (to a b : ℕ) → Typing Kinds
reckoning ks to a b = do
  k ← two_numbers ks a b
  gives to k ks

-- `cmp d op a b`
unfoldable pub comparing : Kinds → (to a b : ℕ) → Typing Kinds
comparing ks to a b = do
  k ← two_numbers ks a b
  tells to ks

-- whether two kinds can be compared for being the same: one kind, or objects
abbrev pub is_comparable : Definition → RegisterKind → RegisterKind → Bool
is_comparable d k l = is_same k l || (holds_objects d k && holds_objects d l)

-- `same d a b`
unfoldable pub sameness : Definition → Kinds → (to a b : ℕ) → Typing Kinds
sameness d ks to a b = do
  k ← set_in ks a
  l ← passing ks b (is_comparable d k)
  tells to ks

-- `not d a`
unfoldable pub negating : Kinds → (to a : ℕ) → Typing Kinds
negating ks to a = do
  k ← passing ks a is_bool
  tells to ks

-- `and d a b`, `or d a b`
unfoldable pub combining : Kinds → (to a b : ℕ) → Typing Kinds
combining ks to a b = do
  k ← two_passing ks a b is_bool
  tells to ks

-- `join d a b`
unfoldable pub joining : Kinds → (to a b : ℕ) → Typing Kinds
joining ks to a b = do
  k ← two_passing ks a b is_text
  gives to k ks

-- whether a register's kind has a transformation to a kind, none of them of objects
abbrev pub converts_to : Definition → Kind → RegisterKind → Bool
converts_to d kind (kinds.plain k) = is_convertible d k kind
converts_to d kind _ = false

-- `convert d a k`
unfoldable pub converting : Definition → Kinds → (to a : ℕ) → Kind → Typing Kinds
converting d ks to a kind = do
  k ← passing ks a (converts_to d kind)
  gives to (kinds.plain kind) ks

-- ** properties

-- the property of an object operand
unfoldable pub property_of : Definition → Kinds → ℕ → List ℕ → Typing Spec
property_of d ks object name = do
  class ← operand d ks object
  slot ← known rules.unknown (slot_of d class name)
  known rules.unknown (spec_of d class slot)

-- `get d o p`
unfoldable pub get_property : Definition → Kinds → (to object : ℕ) → List ℕ → Typing Kinds
get_property d ks to object name = do
  s ← property_of d ks object name
  only_if (is_readable s) rules.flags (gives to (kinds.plain s.kind) ks)

-- a property that programs may set
abbrev pub if_settable : {A : Type 0} → Spec → Typing A → Typing A
if_settable s answer = only_if (is_writable s) rules.flags (only_if (not (is_construct_only s)) rules.construct_only answer)

-- a register that fits a kind of values
abbrev pub fitting : Definition → Kinds → ℕ → Kind → Typing RegisterKind
fitting d ks register kind = passing ks register (λ k. fits d k (kinds.plain kind))

-- registers stay as they are
unfoldable pub changing_none : {A : Type 0} → Kinds → Typing A → Typing Kinds
changing_none ks tested = do
  x ← tested
  Ok ks

-- `set o p s`
unfoldable pub set_property : Definition → Kinds → ℕ → List ℕ → ℕ → Typing Kinds
set_property d ks object name from = do
  s ← property_of d ks object name
  if_settable s (changing_none ks (fitting d ks from s.kind))

-- ** objects

-- the place of an id, of a prototype or of an object
unfoldable pub place_for : Definition → List ℕ → Bool → Typing ℕ
place_for d id of_prototype = do
  place ← known rules.unknown (place_of d id)
  p ← known rules.unknown (place_at d place)
  only_if (cond of_prototype p.is_prototype (not p.is_prototype)) rules.unknown (Ok place)

-- `object d id`, `new d c`
unfoldable pub look_up_object : Definition → Kinds → ℕ → List ℕ → Bool → Typing Kinds
look_up_object d ks to id of_prototype = do
  place ← place_for d id of_prototype
  gives to (kinds.at_or_null place) ks

-- `adopt d o o`
unfoldable pub adopting : Definition → Kinds → (to parent child : ℕ) → Typing Kinds
adopting d ks to parent child = do
  p ← operand d ks parent
  c ← operand d ks child
  tells to ks

-- ** signals

-- each argument is set and fits its parameter, and there are as many
unfoldable pub arguments : Definition → Kinds → List ℕ → List Kind → Typing Kinds
arguments d ks [] [] = Ok ks
arguments d ks [] (p ∷ ps) = Err rules.kind
arguments d ks (a ∷ more) [] = do
  k ← set_in ks a
  rest ← arguments d ks more []
  Err rules.kind
arguments d ks (a ∷ more) (p ∷ ps) = do
  k ← fitting d ks a p
  arguments d ks more ps

-- the number of a signal of a class
abbrev pub signal_named : Definition → ℕ → List ℕ → Typing ℕ
signal_named d class name = known rules.unknown (signal_number d class name)

-- a signal of a class by its number
abbrev pub signal_at : Definition → (class number : ℕ) → Typing Signal
signal_at d class number = known rules.unknown (signal_of d class number)

-- where the result of an emission goes
abbrev pub takes_result : Option ℕ → Option Kind → Kinds → Typing Kinds
takes_result None result ks = Ok ks
takes_result (Some to) None ks = Err rules.result
takes_result (Some to) (Some kind) ks = gives to (kinds.plain kind) ks

-- `emit z o s D [a..]`; `notify` is not emitted by name
unfoldable pub emitting : Definition → Kinds → Option ℕ → ℕ → List ℕ → Option (List ℕ) → List ℕ → Typing Kinds
emitting d ks into object name detail args = do
  class ← operand d ks object
  number ← signal_named d class name
  s ← only_if (nat_lt 0 number) rules.unknown (signal_at d class number)
  given ← only_if (takes_detail d class number s detail) rules.detail (arguments d ks args s.params)
  takes_result into s.result ks

-- the program of a name
unfoldable pub program_named : Definition → List ℕ → Typing Program
program_named d name = do
  number ← known rules.unknown (program_of d name)
  known rules.unknown (program_at d number)

-- `connect d o s D p [options] z`
unfoldable pub connecting : Definition → Kinds → (to object : ℕ) → Connect → Typing Kinds
connecting d ks to object c = do
  class ← operand d ks object
  number ← signal_named d class c.signal
  s ← signal_at d class number
  p ← program_named d c.program
  data_kind ← only_if (takes_detail d class number s c.detail) rules.detail (data_in d ks c.with)
  only_if (takes d p (given_kinds c.swapped (kind_in ks object) s.params data_kind) s.result) rules.signature (tells to ks)

-- `disconnect`, `block`, `unblock o p`
unfoldable pub on_handlers : Definition → Kinds → ℕ → List ℕ → Typing Kinds
on_handlers d ks object program = do
  class ← operand d ks object
  changing_none ks (program_named d program)

-- whether a binding is called so
abbrev pub is_called : List ℕ → Option (List ℕ) → Bool
is_called name None = false
is_called name (Some own) = same_name own name

-- `unbind name`
abbrev pub unbinding : Definition → Kinds → List ℕ → Typing Kinds
unbinding d ks name = only_if (list_any (λ (b : Bind). is_called name b.name) d.bindings) rules.unknown (Ok ks)

-- ** sources and peers

-- `idle`, `timeout`: the program takes the data, if there is some, and gives whether the source is kept
unfoldable pub attaching : Definition → Kinds → ℕ → List ℕ → Option ℕ → Typing Kinds
attaching d ks to program with = do
  p ← program_named d program
  data_kind ← data_in d ks with
  only_if (takes d p (data_kinds data_kind) (Some kinds.bool)) rules.signature (tells to ks)

-- the methods of a shape
abbrev pub methods_of : Option Shape → List Method
methods_of None = []
methods_of (Some s) = s.methods

-- the methods that objects of a class are called with
unfoldable pub methods_for : Definition → ℕ → Typing (List Method)
methods_for d class = do
  shape ← known rules.unknown (nearest_shape d class)
  Ok (methods_of (slice_get d.shapes shape))

-- the method of a name among these
unfoldable pub method_named : List Method → List ℕ → Typing Method
method_named methods name = do
  number ← known rules.unknown (place_named (λ (m : Method). m.name) methods name)
  known rules.unknown (slice_get methods number)

-- `call d o m [a..]`
unfoldable pub calling : Definition → Kinds → (to object : ℕ) → List ℕ → List ℕ → Typing Kinds
calling d ks to object name args = do
  class ← operand d ks object
  methods ← methods_for d class
  m ← method_named methods name
  given ← arguments d ks args m.params
  gives to (kinds.plain m.result) ks

-- ** jumps and returns

-- the registers fit those of the block that is gone to
unfoldable pub entering : Definition → Program → Kinds → ℕ → Typing Kinds
entering d p ks to = do
  b ← known rules.block (slice_get p.blocks to)
  only_if (kinds_fit d ks b.entry) rules.block (Ok ks)

-- `if a b b`
unfoldable pub branching : Definition → Program → Kinds → (on then_to else_to : ℕ) → Typing Kinds
branching d p ks on then_to else_to = do
  k ← passing ks on is_bool
  entered ← entering d p ks then_to
  entering d p ks else_to

-- whether a register of the kind may be null
abbrev pub may_be_null : Definition → RegisterKind → Bool
may_be_null d k = is_text k || holds_objects d k

-- `ifnull a b b`: in its second block an object is not null
unfoldable pub branching_null : Definition → Program → Kinds → (on then_to else_to : ℕ) → Typing Kinds
branching_null d p ks on then_to else_to = do
  k ← passing ks on (may_be_null d)
  entered ← entering d p ks then_to
  entering d p (write kinds.unset ks on (never_null k)) else_to

-- whether a kind is what a program is to give
abbrev pub is_result : Definition → RegisterKind → Option Kind → Bool
is_result d k None = false
is_result d k (Some kind) = fits d k (kinds.plain kind)

-- `return z`
unfoldable pub returning : Definition → Program → Kinds → Option ℕ → Typing Kinds
returning d p ks None = only_if (is_none p.result) rules.result (Ok ks)
returning d p ks (Some from) = do
  k ← set_in ks from
  only_if (is_result d k p.result) rules.result (Ok ks)

-- ** all of them

-- the first rule that an instruction of a program breaks, or the kinds after it
abbrev pub typed : Definition → Program → Kinds → Instruction → Typing Kinds
typed d p ks (words.const to kind v) = gives to (kinds.plain kind) ks
typed d p ks (words.move to from) = moving ks to from
typed d p ks (words.clear to) = gives to kinds.unset ks
typed d p ks (words.arithmetic operation to a b) = reckoning ks to a b
typed d p ks (words.compare comparison to a b) = comparing ks to a b
typed d p ks (words.same to a b) = sameness d ks to a b
typed d p ks (words.negate to a) = negating ks to a
typed d p ks (words.both to a b) = combining ks to a b
typed d p ks (words.either to a b) = combining ks to a b
typed d p ks (words.join to a b) = joining ks to a b
typed d p ks (words.convert to a kind) = converting d ks to a kind
typed d p ks (words.get to object name) = get_property d ks to object name
typed d p ks (words.set object name from) = set_property d ks object name from
typed d p ks (words.object to id) = look_up_object d ks to id false
typed d p ks (words.new to id) = look_up_object d ks to id true
typed d p ks (words.sink object) = changing_none ks (operand d ks object)
typed d p ks (words.orphan object) = changing_none ks (operand d ks object)
typed d p ks (words.dispose object) = changing_none ks (operand d ks object)
typed d p ks (words.adopt to parent child) = adopting d ks to parent child
typed d p ks (words.freeze object) = changing_none ks (operand d ks object)
typed d p ks (words.thaw object) = changing_none ks (operand d ks object)
typed d p ks (words.emit into object name detail args) = emitting d ks into object name detail args
typed d p ks (words.notify object name) = changing_none ks (property_of d ks object name)
typed d p ks (words.connect to object c) = connecting d ks to object c
typed d p ks (words.disconnect object program) = on_handlers d ks object program
typed d p ks (words.block object program) = on_handlers d ks object program
typed d p ks (words.unblock object program) = on_handlers d ks object program
typed d p ks words.stop = Ok ks
typed d p ks (words.unbind name) = unbinding d ks name
typed d p ks (words.idle to program priority with) = attaching d ks to program with
typed d p ks (words.timeout to program priority interval with) = attaching d ks to program with
typed d p ks (words.remove program) = changing_none ks (program_named d program)
typed d p ks (words.call to object name args) = calling d ks to object name args
typed d p ks (words.jump to) = entering d p ks to
typed d p ks (words.branch on then_to else_to) = branching d p ks on then_to else_to
typed d p ks (words.branch_null on then_to else_to) = branching_null d p ks on then_to else_to
typed d p ks (words.return from) = returning d p ks from

-- the kinds that a typing leads to; after a broken rule they are as before
abbrev pub or_before : Kinds → Typing Kinds → Kinds
or_before ks (Ok after) = after
or_before ks (Err rule) = ks

-- the kinds after an instruction
abbrev pub after : Definition → Program → Kinds → Instruction → Kinds
after d p ks i = or_before ks (typed d p ks i)

-- ** blocks

-- the kinds that a block begins with again, where it says how often it is passed
abbrev pub again : Block → Option Kinds
again b = option_map (λ (n : ℕ). b.entry) b.repeat

-- The same as `typed` in a block that is passed again with these kinds, if it is: at its jump the registers fit them, which is looked at
-- before the next block.
abbrev pub typed_in : Definition → Program → Option Kinds → Kinds → Instruction → Typing Kinds
typed_in d p (Some entry) ks (words.jump to) = only_if (kinds_fit d ks entry) rules.block (typed d p ks (words.jump to))
typed_in d p own ks i = typed d p ks i

-- what follows an instruction that breaks no rule
abbrev pub unless_broken : {A : Type 0} → (Rule → A) → (Kinds → A) → Typing Kinds → A
unless_broken broken next (Err rule) = broken rule
unless_broken broken next (Ok ks) = next ks

-- the first instruction of these that breaks a rule, by its number, where the first has the number `at`, in a block that is passed again
-- with these kinds, if it is
abbrev pub first_broken : Definition → Program → Option Kinds → ℕ → Kinds → List Instruction → Option (ℕ × Rule)
first_broken d p own at ks [] = None
first_broken d p own at ks (i ∷ rest) =
    unless_broken (λ rule. Some (at, rule)) (λ after. first_broken d p own (suc at) after rest) (typed_in d p own ks i)

-- the first instruction of a whole block that breaks a rule, by its number
abbrev pub block_broken : Definition → Program → Block → Option (ℕ × Rule)
block_broken d p b = first_broken d p (again b) 0 b.entry b.code

-- each instruction of a block keeps its rule
abbrev pub WellTypedBlock : Definition → Program → Block → Type 0
WellTypedBlock d p b = block_broken d p b ≡ None
