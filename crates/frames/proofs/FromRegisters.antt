-- What code computed of registers is what the machine's instruction leads to.
use Rattle.std.proofs.Common.{◌≡◌, ℕ, Bool, cond, List, Option, None, Some, IfSome, IsSome, option_map, Result, IfOk, Ok, Err, refl, sym, ap, ◌∙◌, codes}
use Rattle.ui_machine.specs.Seq.{read}
use Rattle.ui_machine.specs.Outcome.{Answer}
use Rattle.ui_machine.specs.declared.arm.Arm.{Arm}
use Rattle.ui_machine.specs.declared.arm.Arm.TheVariants as arms
use Rattle.ui_machine.specs.Definition.{Definition}
use Rattle.ui_machine.specs.Definition.Types.{GType}
use Rattle.ui_machine.specs.Definition.Kinds.{Kind}
use Rattle.ui_machine.specs.Definition.Programs.{Instruction}
use Rattle.ui_machine.specs.Definition.Programs as words
use Rattle.ui_machine.specs.Definition.Values as values
use Rattle.ui_machine.specs.Output.Lines as lines
use Rattle.ui_machine.specs.State.Config.{Started, World, said}
use Rattle.ui_machine.specs.State.Tasks.{Frame, Registers, Task}
use Rattle.ui_machine.specs.Instructions.{in_front, instruction_step}
use Rattle.ui_machine.specs.Instructions.Arithmetic.{gives_from, within_bytes}
use Rattle.ui_machine.specs.Instructions.Registers.{gives}
use Rattle.g_values.specs.View.{kind_view}
use Rattle.bytecode.specs.declared.computations.Computation.{Computation}
use Rattle.bytecode.specs.declared.computations.Computation.TheVariants as computations
use Rattle.bytecode.specs.declared.computations.Computed.{Computed}
use Rattle.bytecode.specs.declared.computations.Computed.TheVariants as computed
use Rattle.bytecode.specs.Computing.{comparison_of, instruction_of, operation_of}
use Rattle.frames.specs.Computing.{Computes, IsValue, Joins, Reads, convertible_in, joined_in, writes}
use Rattle.frames.proofs.MachineSteps.{compares, converts, given, is_conjunction, is_disjunction, is_sameness, joins, moves, negates, reckons}

-- ** what leads to no arm

-- what an instruction gives is there
there : {X : Type 0} (rest : List Task) (gives_it : X → Answer Started) (o : Option X)
    → ((arm : Arm) → in_front rest (given gives_it o) ≡ Err arm → ⊥) → IsSome o
unfolding in_front
there rest gives_it None never = absurd (never arms.Register refl)
there rest gives_it (Some x) never = refl

-- what is made of something is there, so that is
made_of : {X Y : Type 0} (f : X → Y) (o : Option X) → IsSome (option_map f o) → IsSome o
made_of f None some = some
made_of f (Some x) some = refl

module _ (d : Definition) (w : World) (rest : List Task) (f : Frame) (to : ℕ) where
  -- an instruction that is not stuck reads what it asks for
  pub reads : (c : Computation) → ((arm : Arm) → instruction_step d w rest f (instruction_of c to) ≡ Err arm → ⊥) → Reads d.types f.registers c
  reads (computations.Const v) never = tt
  reads (computations.Move from) never = there rest _ _ (λ arm is. never arm (ap (in_front rest) (moves w f to from.0) ∙ is))
  reads computations.Clear never = tt
  reads (computations.Arithmetic operation a b) never =
      there rest _ _ (λ arm is. never arm (ap (in_front rest) (reckons w f to (operation_of operation) a.0 b.0) ∙ is))
  reads (computations.Compare comparison a b) never =
      made_of _ _ (there rest _ _ (λ arm is. never arm (ap (in_front rest) (compares w f to (comparison_of comparison) a.0 b.0) ∙ is)))
  reads (computations.Same a b) never =
      made_of _ _ (there rest _ _ (λ arm is. never arm (ap (in_front rest) (is_sameness w f to a.0 b.0) ∙ is)))
  reads (computations.Not a) never =
      made_of _ _ (made_of _ _ (there rest _ _ (λ arm is. never arm (ap (in_front rest) (negates w f to a.0) ∙ is))))
  reads (computations.And a b) never =
      made_of _ _ (there rest _ _ (λ arm is. never arm (ap (in_front rest) (is_conjunction w f to a.0 b.0) ∙ is)))
  reads (computations.Or a b) never =
      made_of _ _ (there rest _ _ (λ arm is. never arm (ap (in_front rest) (is_disjunction w f to a.0 b.0) ∙ is)))
  reads (computations.Join a b) never =
      there rest _ _ (λ arm is. never arm (ap (in_front rest) (joins w f to d a.0 b.0) ∙ is))
  reads (computations.Convert a kind) never =
      there rest _ _ (λ arm is. never arm (ap (in_front rest) (converts w f to d a.0 (kind_view kind)) ∙ is))

-- what is said of an answer, where something else is said of it
pub said_of : {A E : Type 0} {P Q : A → Type 0} (r : Result A E) → ((x : A) → P x → Q x) → IfOk r P → IfOk r Q
said_of (Ok x) so p = so x p
said_of (Err e) so p = p

module _ (types : List GType) (registers : Registers) where
  -- ** an instruction that gives a value

  pub from_value : (instruction : ℕ → Instruction) (answer : Registers → Option values.Value) (c : Computed) (o : Option values.Value)
      → IsValue o c → o ≡ answer registers
      → ((d : Definition) (w : World) (rest : List Task) (f : Frame) (to : ℕ)
      → instruction_step d w rest f (instruction to) ≡ in_front rest (given (λ v. gives w to v f) (answer f.registers)))
      → Computes c types registers instruction
  from_value instruction answer (computed.Value v) o is h machine = λ d w rest f to same_types same.
      machine d w rest f to
      ∙ ap (λ (a : Option values.Value). in_front rest (given (λ v. gives w to v f) a)) (ap answer same ∙ sym h ∙ is)
  from_value instruction answer computed.Unset o is h machine = absurd is
  from_value instruction answer computed.TooLong o is h machine = absurd is

  -- ** `join`

  abbrev bounded : Definition → World → Frame → (to : ℕ) → List ℕ → Bool → Answer Started
  bounded d w f to s long = gives_from (cond long (record { state = said d w (lines.limit (codes "join")); answer = values.text None })
      (record { state = w; answer = values.text (Some s) })) to f

  whole : (c : Computed) (text : List ℕ) (d : Definition) (w : World) (f : Frame) (to : ℕ) → Joins c text
      → gives_from (within_bytes d w text) to f ≡ writes d w f to c
  whole (computed.Value v) text d w f to h = ap (bounded d w f to text) h.0 ∙ ap (λ v. gives w to v f) (sym h.1)
  whole computed.Unset text d w f to h = absurd h
  whole computed.TooLong text d w f to h = ap (bounded d w f to text) h

  pub from_texts : (a b : ℕ) (c : Computed) (text : Option (List ℕ)) → joined_in registers a b ≡ text → IsSome text → IfSome text (Joins c)
      → Computes c types registers (λ to. words.join to a b)
  from_texts a b c None e some h = absurd (cc)
  from_texts a b c (Some text) e some h = λ d w rest f to same_types same.
      ap (in_front rest) (joins w f to d a b ∙ ap (given (λ s. gives_from (within_bytes d w s) to f)) (ap (λ rs. joined_in rs a b) same ∙ e)
      ∙ whole c text d w f to h)

  -- ** `convert`

  pub from_conversion : (a : ℕ) (kind : Kind) (c : Computed) → IsValue (convertible_in types kind (read None registers a)) c
      → Computes c types registers (λ to. words.convert to a kind)
  from_conversion a kind (computed.Value v) h = λ d w rest f to same_types same.
      ap (in_front rest) (converts w f to d a kind ∙ ap (given (λ v. gives w to v f))
      (ap (λ ts. convertible_in ts kind (read None f.registers a)) same_types ∙ ap (λ rs. convertible_in types kind (read None rs a)) same ∙ h))
  from_conversion a kind computed.Unset h = absurd h
  from_conversion a kind computed.TooLong h = absurd h
