-- Instructions on numbers, truth values and texts, and `convert` (GObject manual, g_value_transform).
use Rattle.std.specs.Ordering.{int_eq}
use Rattle.std.specs.Prelude.{Bool, List, None, Option, Some, [], codes, cond, false, int_le, int_lt, length, nat_lt, not, true, ℕ, ℤ, ◌&&◌, ◌*ℤ◌, ◌++◌, ◌+ℤ◌, ◌-ℤ◌, ◌||◌}
use Rattle.ui_machine.specs.declared.arm.Arm.TheVariants as arms
use Rattle.ui_machine.specs.Definition.{Definition}
use Rattle.ui_machine.specs.Definition.Kinds.{Kind, Whole}
use Rattle.ui_machine.specs.Definition.Kinds as kinds
use Rattle.ui_machine.specs.Definition.Programs.{Arithmetic, Comparison, add, eq, le, lt, mul, sub}
use Rattle.ui_machine.specs.Definition.Values.{Value}
use Rattle.ui_machine.specs.Definition.Values as values
use Rattle.ui_machine.specs.Instructions.Registers.{WholeNumber, gives, text_in, truth_in, value_in, whole_in}
use Rattle.ui_machine.specs.Outcome.{After, Answer, only_if, ◌>>=◌}
use Rattle.ui_machine.specs.Output.Lines as lines
use Rattle.ui_machine.specs.Rules.Accumulation.{or_zero}
use Rattle.ui_machine.specs.Rules.Sets.{has_kind}
use Rattle.ui_machine.specs.Rules.Transform.{is_transformable, same_value, same_whole, transformed, wrapped}
use Rattle.ui_machine.specs.State.Config.{Started, World, said}
use Rattle.ui_machine.specs.State.Tasks.{Frame}

-- ** arithmetic and logic

-- the number before it is wrapped
abbrev pub reckoned : Arithmetic → ℤ → ℤ → ℤ
reckoned add m n = m +ℤ n
reckoned sub m n = m -ℤ n
reckoned mul m n = m *ℤ n

-- whether the comparison holds
abbrev pub holds : Comparison → ℤ → ℤ → Bool
holds eq m n = int_eq m n
holds lt m n = int_lt m n
holds le m n = int_le m n

-- two numbers of one kind
abbrev pub of_one_kind : {X : Type 0} → WholeNumber → WholeNumber → (Whole → ℤ → ℤ → Answer X) → Answer X
of_one_kind m n f = only_if (same_whole m.kind n.kind) arms.Register (f m.kind m.number n.number)

-- `add`, `sub`, `mul d a b`: wrapping
unfoldable pub reckoning : World → Frame → Arithmetic → (to a b : ℕ) → Answer Started
reckoning w f operation to a b = do
  m ← whole_in f a
  n ← whole_in f b
  of_one_kind m n (λ kind x y. gives w to (values.whole kind (wrapped kind (reckoned operation x y))) f)

-- `cmp d op a b`
unfoldable pub comparing : World → Frame → Comparison → (to a b : ℕ) → Answer Started
comparing w f comparison to a b = do
  m ← whole_in f a
  n ← whole_in f b
  of_one_kind m n (λ kind x y. gives w to (values.bool (holds comparison x y)) f)

-- the kind of a value; that of objects has no class here
abbrev pub kind_of : Value → Kind
kind_of (values.bool b) = kinds.bool
kind_of (values.whole kind n) = kinds.whole kind
kind_of (values.text s) = kinds.text
kind_of (values.enum type n) = kinds.enum type
kind_of (values.flags type bits) = kinds.flags type
kind_of (values.object o) = kinds.object 0

-- `same d a b`
unfoldable pub sameness : World → Frame → (to a b : ℕ) → Answer Started
sameness w f to a b = do
  u ← value_in f a
  v ← value_in f b
  only_if (has_kind v (kind_of u)) arms.Register (gives w to (values.bool (same_value u v)) f)

-- `not d a`
unfoldable pub negating : World → Frame → (to a : ℕ) → Answer Started
negating w f to a = do
  p ← truth_in f a
  gives w to (values.bool (not p)) f

-- `and d a b`
unfoldable pub conjunction : World → Frame → (to a b : ℕ) → Answer Started
conjunction w f to a b = do
  p ← truth_in f a
  q ← truth_in f b
  gives w to (values.bool (p && q)) f

-- `or d a b`
unfoldable pub disjunction : World → Frame → (to a b : ℕ) → Answer Started
disjunction w f to a b = do
  p ← truth_in f a
  q ← truth_in f b
  gives w to (values.bool (p || q)) f

-- ** texts and conversions

-- the most bytes of a text
abbrev pub most_bytes : ℕ
most_bytes = 4096

-- the bytes of a text; null has none
abbrev pub bytes_of : Option (List ℕ) → List ℕ
bytes_of None = []
bytes_of (Some s) = s

-- a text that is not too long
abbrev pub within_bytes : Definition → World → List ℕ → After World Value
within_bytes d w s =
    cond (nat_lt most_bytes (length s)) (record { state = said d w (lines.limit (codes "join")); answer = values.text None })
    (record { state = w; answer = values.text (Some s) })

-- a register is written after a line was perhaps said
abbrev pub gives_from : After World Value → ℕ → Frame → Answer Started
gives_from made to f = gives made.state to made.answer f

-- `join d a b`: null is empty
unfoldable pub joining : Definition → World → Frame → (to a b : ℕ) → Answer Started
joining d w f to a b = do
  s ← text_in f a
  t ← text_in f b
  gives_from (within_bytes d w (bytes_of s ++ bytes_of t)) to f

-- whether a kind is of objects
abbrev pub is_object_kind : Kind → Bool
is_object_kind (kinds.object type) = true
is_object_kind _ = false

-- whether `convert` has something to do
abbrev pub is_convertible : Definition → Kind → Kind → Bool
is_convertible d from to = not (is_object_kind from) && (not (is_object_kind to) && is_transformable d.types from to)

-- `convert d a k`: a failure gives the zero value
unfoldable pub converting : Definition → World → Frame → (to a : ℕ) → Kind → Answer Started
converting d w f to a kind = do
  v ← value_in f a
  only_if (is_convertible d (kind_of v) kind) arms.Register (gives w to (or_zero d kind (transformed d.types (kind_of v) kind v)) f)
