-- Where a program goes on, by what its registers hold.
use Rattle.std.proofs.Common.{◌≡◌, ◌∙◌, sym, ap, refl, ℕ, Bool, true, false, cond, List, [], ◌∷◌, Option, None, Some, IsSome, option_map, slice_get, Ok, Err}
use Rattle.ui_machine.specs.declared.arm.Arm.{Arm}
use Rattle.ui_machine.specs.declared.arm.Arm.TheVariants as arms
use Rattle.ui_machine.specs.declared.arm.Halt.TheVariants as halts
use Rattle.ui_machine.specs.Definition.{Definition}
use Rattle.ui_machine.specs.Definition.Lookups.{program_at}
use Rattle.ui_machine.specs.Definition.Programs.{Block, Program}
use Rattle.ui_machine.specs.Definition.Values.{Value}
use Rattle.ui_machine.specs.Definition.Values as values
use Rattle.ui_machine.specs.Instructions.{in_front}
use Rattle.ui_machine.specs.Instructions.Jumps.{branching, branching_null, jumping, null_of}
use Rattle.ui_machine.specs.Instructions.Registers.{goes_on, truth_in, with_register, written_to}
use Rattle.ui_machine.specs.Instructions.Registers as machine
use Rattle.ui_machine.specs.Outcome.{Answer, known, ◌>>=◌}
use Rattle.ui_machine.specs.Seq.{read}
use Rattle.ui_machine.specs.State.Config.{Started, World}
use Rattle.ui_machine.specs.State.Tasks.{Frame, Running, Task}
use Rattle.ui_machine.specs.Steps.{left}
use Rattle.frames.specs.Computing.{of_one, truth_of}
use Rattle.frames.specs.FrameView.{at_block}
use Rattle.frames.proofs.FrameSteps.{jumping_there}
use Rattle.engine_world.specs.Able.{Able}
use Rattle.engine_world.specs.EngineView.{config_of}
use Rattle.engine_world.proofs.Ableness.{no_arm, none_stops}
use Rattle.engine_world.proofs.Registers.{stops_left, write_stops}
use Rattle.engine_instructions.specs.JumpView.{is_null}
use Rattle.engine_world.specs.FirstPrograms.{rest_of}
use Rattle.engine_world.specs.TaskView.{agenda_of}
use Rattle.engine_world.specs.View.{world_of}
use Rattle.engine_world.specs.declared.engine.Engine.{Engine}

-- a program that goes on is all that is put in front
pub goes_on_left : (d : Definition) (e new : Engine) (f : Frame) (a : Answer Started) → a ≡ goes_on (world_of e.world) [] f → new ≡ record e { stack = new.stack }
    → agenda_of d new ≡ Running f ∷ rest_of d e → left e.counted (in_front (rest_of d e) a) ≡ Ok (config_of d new)
unfolding left in_front
goes_on_left d e new f a is beside agenda =
    ap (λ (x : Answer Started). left e.counted (in_front (rest_of d e) x)) is
    ∙ ap (λ (ts : List Task). Ok (record { world = world_of e.world; agenda = ts; counted = e.counted })) (sym agenda)
    ∙ ap (λ (x : Engine). Ok (record { world = world_of x.world; agenda = agenda_of d new; counted = x.counted })) (sym beside)

-- a register is there where a write to it is not stuck
pub register_able : (n : ℕ) (rest : List Task) (w : World) (f : Frame) (to : ℕ) (v : Option Value) → Able (left n (in_front rest (written_to w to v f))) → Able (with_register to v f.registers)
register_able n rest w f to v able =
    none_stops _ (λ arm none. no_arm _ arm able (stops_left n rest (written_to w to v f) (halts.Stuck arm) (write_stops w f to v (halts.Stuck arm) none)))

-- what is stuck puts nothing there
pub stuck_left : (d : Definition) (e : Engine) (a : Answer Started) (arm : Arm) → a ≡ Err arm → left e.counted (in_front (rest_of d e) a) ≡ Err arm
unfolding left in_front
stuck_left d e a arm is = ap (λ (x : Answer Started). left e.counted (in_front (rest_of d e) x)) is

module _ (d : Definition) (w : World) (f : Frame) where
  module _ (p : Program) (is : program_at d f.program ≡ Some p) (to : ℕ) where
    pub jumps : (new : Frame) → option_map (at_block to f) (slice_get p.blocks to) ≡ Some new → jumping d w f to ≡ goes_on w [] new
    jumps new there = jumping_there d w f p is to ∙ ap (λ (o : Option Frame). known arms.Code o >>= goes_on w []) there

    pub no_block : slice_get p.blocks to ≡ None → jumping d w f to ≡ Err arms.Code
    no_block none = jumping_there d w f p is to ∙ ap (λ b. known arms.Code (option_map (at_block to f) b) >>= goes_on w []) none

  module _ (on then_to else_to : ℕ) where
    pub branches : (b : Bool) → of_one truth_of (read None f.registers on) ≡ Some b → branching d w f on then_to else_to ≡ jumping d w f (cond b then_to else_to)
    unfolding branching truth_in
    branches b is = by (read None f.registers on) is
      where
        by : (r : Option Value) → of_one truth_of r ≡ Some b
            → ((known arms.Register r >>= machine.truth_of) >>= λ p. jumping d w f (cond p then_to else_to)) ≡ jumping d w f (cond b then_to else_to)
        by None e = absurd (cc e)
        by (Some (values.bool p)) e = let same : p ≡ b = cc e in ap (λ p. jumping d w f (cond p then_to else_to)) same
        by (Some (values.whole kind n)) e = absurd (cc e)
        by (Some (values.text s)) e = absurd (cc e)
        by (Some (values.enum type n)) e = absurd (cc e)
        by (Some (values.flags type bits)) e = absurd (cc e)
        by (Some (values.object i)) e = absurd (cc e)

    pub no_truth : of_one truth_of (read None f.registers on) ≡ None → branching d w f on then_to else_to ≡ Err arms.Register
    unfolding branching truth_in
    no_truth is = by (read None f.registers on) is
      where
        by : (r : Option Value) → of_one truth_of r ≡ None
            → ((known arms.Register r >>= machine.truth_of) >>= λ p. jumping d w f (cond p then_to else_to)) ≡ Err arms.Register
        by None e = refl
        by (Some (values.bool p)) e = absurd (cc e)
        by (Some (values.whole kind n)) e = refl
        by (Some (values.text s)) e = refl
        by (Some (values.enum type n)) e = refl
        by (Some (values.flags type bits)) e = refl
        by (Some (values.object i)) e = refl

    pub branches_null : (b : Bool) → of_one is_null (read None f.registers on) ≡ Some b → branching_null d w f on then_to else_to ≡ jumping d w f (cond b then_to else_to)
    unfolding branching_null
    branches_null b is = by (read None f.registers on) is
      where
        by : (r : Option Value) → of_one is_null r ≡ Some b
            → (known arms.Register r >>= λ v. null_of v >>= λ p. jumping d w f (cond p then_to else_to)) ≡ jumping d w f (cond b then_to else_to)
        by None e = absurd (cc e)
        by (Some (values.bool p)) e = absurd (cc e)
        by (Some (values.whole kind n)) e = absurd (cc e)
        by (Some (values.text None)) e = let same : true ≡ b = cc e in ap (λ p. jumping d w f (cond p then_to else_to)) same
        by (Some (values.text (Some s))) e = let same : false ≡ b = cc e in ap (λ p. jumping d w f (cond p then_to else_to)) same
        by (Some (values.enum type n)) e = absurd (cc e)
        by (Some (values.flags type bits)) e = absurd (cc e)
        by (Some (values.object None)) e = let same : true ≡ b = cc e in ap (λ p. jumping d w f (cond p then_to else_to)) same
        by (Some (values.object (Some i))) e = let same : false ≡ b = cc e in ap (λ p. jumping d w f (cond p then_to else_to)) same

    pub no_null : of_one is_null (read None f.registers on) ≡ None → branching_null d w f on then_to else_to ≡ Err arms.Register
    unfolding branching_null
    no_null is = by (read None f.registers on) is
      where
        by : (r : Option Value) → of_one is_null r ≡ None
            → (known arms.Register r >>= λ v. null_of v >>= λ p. jumping d w f (cond p then_to else_to)) ≡ Err arms.Register
        by None e = refl
        by (Some (values.bool p)) e = refl
        by (Some (values.whole kind n)) e = refl
        by (Some (values.text s)) e = absurd (cc e)
        by (Some (values.enum type n)) e = refl
        by (Some (values.flags type bits)) e = refl
        by (Some (values.object i)) e = absurd (cc e)

-- what is not missing is there
pub is_there : {X : Type 0} (o : Option X) → (o ≡ None → ⊥) → IsSome o
is_there None never = absurd (never refl)
is_there (Some x) never = refl

-- a jump leaves the registers
pub jump_keeps : (to : ℕ) (f new : Frame) (b : Option Block) → option_map (at_block to f) b ≡ Some new → new.registers ≡ f.registers
jump_keeps to f new None is = absurd (cc is)
jump_keeps to f new (Some b) is = let same : at_block to f b ≡ new = cc is in sym (ap (λ (x : Frame). x.registers) same)
