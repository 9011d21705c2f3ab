-- What code computes of registers, beside what the machine's instructions do.
use Rattle.std.specs.Prelude.{◌≡◌, ℕ, Bool, true, false, not, cond, nat_lt, ◌&&◌, ◌||◌, ◌++◌, List, length, Option, None, Some, IsSome, codes, ⊤}
use Rattle.ui_machine.specs.Definition.Kinds.{Kind}
use Rattle.ui_machine.specs.Outcome.{Answer}
use Rattle.ui_machine.specs.Output.Lines as lines
use Rattle.ui_machine.specs.Definition.{Definition}
use Rattle.ui_machine.specs.Definition.Types.{GType}
use Rattle.ui_machine.specs.Definition.Values as values
use Rattle.ui_machine.specs.Definition.Programs.{Instruction}
use Rattle.ui_machine.specs.Seq.{read}
use Rattle.ui_machine.specs.State.Config.{Started, World, said}
use Rattle.ui_machine.specs.State.Tasks.{Frame, Registers, Task}
use Rattle.ui_machine.specs.Rules.Sets.{has_kind}
use Rattle.ui_machine.specs.Rules.Transform.{is_transformable, same_value, transformed, zero_value}
use Rattle.ui_machine.specs.Instructions.{in_front, instruction_step}
use Rattle.ui_machine.specs.Instructions.Arithmetic.{bytes_of, is_object_kind, kind_of}
use Rattle.ui_machine.specs.Instructions.Registers.{gives, written_to}
use Rattle.g_values.specs.Arithmetic.{calculated, compared}
use Rattle.g_values.specs.View.{kind_view, value_view}
use Rattle.bytecode.specs.Computing.{comparison_of, operation_of}
use Rattle.bytecode.specs.declared.computations.Computation.{Computation}
use Rattle.bytecode.specs.declared.computations.Computation.TheVariants as computations
use Rattle.bytecode.specs.declared.computations.Computed.{Computed}
use Rattle.bytecode.specs.declared.computations.Computed.TheVariants as computed

-- ** values of the kinds that instructions ask for

abbrev pub truth_of : values.Value → Option Bool
truth_of (values.bool b) = Some b
truth_of _ = None

-- the bytes of a text; null has none
abbrev pub text_of : values.Value → Option (List ℕ)
text_of (values.text s) = Some (bytes_of s)
text_of _ = None

-- whether two values of one kind are one
abbrev pub sameness_of : values.Value → values.Value → Option Bool
sameness_of u v = cond (has_kind v (kind_of u)) (Some (same_value u v)) None

-- what comes of one register, if it is set
abbrev pub of_one : {X Y : Type 0} → (X → Option Y) → Option X → Option Y
of_one g None = None
of_one g (Some u) = g u

-- what comes of two registers, if both are set
abbrev pub of_two : {X Y : Type 0} → (X → X → Option Y) → Option X → Option X → Option Y
of_two g None v = None
of_two g (Some u) None = None
of_two g (Some u) (Some v) = g u v

-- the truth value in a register
abbrev pub truth_in : Registers → ℕ → Option Bool
truth_in registers a = of_one truth_of (read None registers a)

-- the text in a register
abbrev pub text_in : Registers → ℕ → Option (List ℕ)
text_in registers a = of_one text_of (read None registers a)

-- the texts of two registers as one
abbrev pub joined_in : Registers → (a b : ℕ) → Option (List ℕ)
joined_in registers a b = of_two (λ s t. Some (s ++ t)) (text_in registers a) (text_in registers b)

-- whether a value may be converted to the kind
abbrev pub may_convert : List GType → values.Value → Kind → Bool
may_convert types v kind = not (is_object_kind (kind_of v)) && (not (is_object_kind kind) && is_transformable types (kind_of v) kind)

abbrev pub value_or : values.Value → Option values.Value → values.Value
value_or zero None = zero
value_or zero (Some v) = v

-- what it is then; a failure gives the kind's zero value
abbrev pub converted_or_zero : List GType → values.Value → Kind → values.Value
converted_or_zero types v kind = value_or (zero_value types kind) (transformed types (kind_of v) kind v)

-- the value that may be converted, of a register that is set
abbrev pub convertible_in : List GType → Kind → Option values.Value → Option values.Value
convertible_in types kind None = None
convertible_in types kind (Some v) = cond (may_convert types v kind) (Some (converted_or_zero types v kind)) None

-- ** when it computes, and what

-- The registers that it reads are set, with values of the kinds that it asks for.
abbrev pub Reads : List GType → Registers → Computation → Type 0
Reads types registers (computations.Const v) = ⊤
Reads types registers (computations.Move from) = IsSome (read None registers from.0)
Reads types registers computations.Clear = ⊤
Reads types registers (computations.Arithmetic operation a b) = IsSome (of_two (calculated (operation_of operation)) (read None registers a.0) (read None registers b.0))
Reads types registers (computations.Compare comparison a b) = IsSome (of_two (compared (comparison_of comparison)) (read None registers a.0) (read None registers b.0))
Reads types registers (computations.Same a b) = IsSome (of_two sameness_of (read None registers a.0) (read None registers b.0))
Reads types registers (computations.Not a) = IsSome (truth_in registers a.0)
Reads types registers (computations.And a b) = IsSome (of_two (λ p q. Some (p && q)) (truth_in registers a.0) (truth_in registers b.0))
Reads types registers (computations.Or a b) = IsSome (of_two (λ p q. Some (p || q)) (truth_in registers a.0) (truth_in registers b.0))
Reads types registers (computations.Join a b) = IsSome (joined_in registers a.0 b.0)
Reads types registers (computations.Convert a kind) = IsSome (convertible_in types (kind_view kind) (read None registers a.0))

-- whether it makes or shares a text, which may want memory
abbrev pub makes_text : Computation → Bool
makes_text (computations.Const v) = true
makes_text (computations.Move from) = true
makes_text computations.Clear = false
makes_text (computations.Arithmetic operation a b) = false
makes_text (computations.Compare comparison a b) = false
makes_text (computations.Same a b) = false
makes_text (computations.Not a) = false
makes_text (computations.And a b) = false
makes_text (computations.Or a b) = false
makes_text (computations.Join a b) = true
makes_text (computations.Convert a kind) = true

-- what was computed is written to the register
abbrev pub writes : Definition → World → Frame → (to : ℕ) → Computed → Answer Started
writes d w f to (computed.Value v) = gives w to (value_view v) f
writes d w f to computed.Unset = written_to w to None f
writes d w f to computed.TooLong = gives (said d w (lines.limit (codes "join"))) to (values.text None) f

-- the instruction leads to just what was computed, wherever a program has these types and registers
abbrev pub Computes : Computed → List GType → Registers → (ℕ → Instruction) → Type 0
Computes c types registers instruction = (d : Definition) (w : World) (rest : List Task) (f : Frame) (to : ℕ) → d.types ≡ types →
    f.registers ≡ registers → instruction_step d w rest f (instruction to) ≡ in_front rest (writes d w f to c)

-- it is this value
abbrev pub IsValue : Option values.Value → Computed → Type 0
IsValue value (computed.Value v) = value ≡ Some (value_view v)
IsValue value computed.Unset = ⊥
IsValue value computed.TooLong = ⊥

-- a text that was joined, unless it is too long
abbrev pub Joins : Computed → List ℕ → Type 0
Joins (computed.Value v) text = (nat_lt 4096 (length text) ≡ false) × (value_view v ≡ values.text (Some text))
Joins computed.Unset text = ⊥
Joins computed.TooLong text = nat_lt 4096 (length text) ≡ true
