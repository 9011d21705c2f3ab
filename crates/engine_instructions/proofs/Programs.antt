-- How a program takes its next instruction.
use Rattle.std.proofs.Common.{◌≡◌, ◌∙◌, refl, sym, subst, ap, ℕ, suc, ◌<◌, Bool, true, false, cond, nat_lt, List, [], Option, None, Some, option_map, option_and_then, slice_get, ◌-◌, Err, arith}
use Rattle.std.proofs.lemmas.Bool.Decides.{nat_tests}
use Rattle.ui_machine.specs.declared.arm.Arm.TheVariants as arms
use Rattle.ui_machine.specs.declared.arm.Halt.{Halt}
use Rattle.ui_machine.specs.declared.arm.Halt.TheVariants as halts
use Rattle.ui_machine.specs.Definition.{Definition}
use Rattle.ui_machine.specs.Definition.Lookups.{program_at}
use Rattle.ui_machine.specs.Definition.Programs.{Block, Instruction, Program}
use Rattle.ui_machine.specs.Instructions.{instruction_step, running}
use Rattle.ui_machine.specs.Instructions.Jumps.{block_in, in_pass, is_again, past}
use Rattle.ui_machine.specs.Outcome.{Answer, Stops, known, only_if, ◌>>=◌}
use Rattle.ui_machine.specs.State.Config.{Left, World}
use Rattle.ui_machine.specs.State.Tasks.{Frame, Task}
use Rattle.ui_machine.specs.Steps.{counted_left, left, most_steps}
use Rattle.engine_links.specs.Linked.{instruction_at}
use Rattle.frames.specs.FrameView.{Taken, taken_in, taken_of}
use Rattle.frames.proofs.FrameSteps.{running_taken}
pub use Rattle.engine_world.proofs.FirstPrograms.{taken_keeps}

-- a step that is counted
pub left_counted : (n : ℕ) (a : Answer Left) → n < most_steps → counted_left n a ≡ left (suc n) a
left_counted n a few = let yet : nat_lt n most_steps ≡ true = grind (arith, nat_tests) in ap (λ (b : Bool). only_if b arms.Steps (left (suc n) a)) yet

-- what stops a step stops it where it is not counted, too
pub left_stops : (n : ℕ) (a : Answer Left) (halt : Halt) → Stops halt a → Stops halt (left n a)
unfolding left
left_stops n a halts.OutOfMemory stops = tt
left_stops n a (halts.Stuck arm) stops = ap (left n) stops

-- where there are no programs none is found
pub none_there : (d : Definition) → d.programs ≡ [] → (number : ℕ) (p : Program) → program_at d number ≡ Some p → ⊥
none_there d none number p is = let gone : ◌≡◌ {A = Option Program} None (Some p) = sym (ap (λ (ps : List Program). slice_get ps number) none) ∙ is in cc gone

module _ (d : Definition) (w : World) (rest : List Task) (f : Frame) where
  pub unknown_program : program_at d f.program ≡ None → running d w rest f ≡ Err arms.Code
  unfolding running block_in
  unknown_program none =
      ap (λ (o : Option Program). (known arms.Code o >>= λ p. known arms.Code (slice_get p.blocks f.block)) >>= λ b. known arms.Code (slice_get b.code (in_pass b f).at) >>= λ i. instruction_step d w rest (past (in_pass b f)) i) none

  module _ (p : Program) (is : program_at d f.program ≡ Some p) where
    pub no_instruction : taken_in p f ≡ None → running d w rest f ≡ Err arms.Code
    no_instruction none = running_taken d w f p is rest ∙ ap (λ (o : Option Taken). known arms.Code o >>= λ t. instruction_step d w rest t.frame t.instruction) none

    pub takes_instruction : (t : Taken) → taken_in p f ≡ Some t → running d w rest f ≡ instruction_step d w rest t.frame t.instruction
    takes_instruction t some = running_taken d w f p is rest ∙ ap (λ (o : Option Taken). known arms.Code o >>= λ t. instruction_step d w rest t.frame t.instruction) some

-- what is taken is the instruction before the one to which the program has come
pub taken_there : (d : Definition) (p : Program) (f : Frame) (t : Taken) → program_at d f.program ≡ Some p → taken_in p f ≡ Some t
    → instruction_at d t.frame.program t.frame.block (t.frame.at - 1) ≡ Some t.instruction
taken_there d p f t at_number is = by_block (slice_get p.blocks f.block) refl is
  where
    code_at : Block → ℕ → Option Instruction
    code_at b at = slice_get b.code at

    of : ℕ → ℕ → ℕ → Option Instruction
    of program block at = option_and_then (λ (b : Block). code_at b at) (option_and_then (λ (q : Program). slice_get q.blocks block) (program_at d program))

    less : (n : ℕ) → suc n - 1 ≡ n
    less n = omega arith

    passed : (b : Bool) → ((cond b (record f { at = 0; passes = f.passes - 1 }) f).program ≡ f.program) × ((cond b (record f { at = 0; passes = f.passes - 1 }) f).block ≡ f.block)
    passed true = (refl, refl)
    passed false = (refl, refl)

    by_code : (b : Block) → slice_get p.blocks f.block ≡ Some b → (i : Option Instruction) → slice_get b.code (in_pass b f).at ≡ i
        → option_map (λ i. record { instruction = i; frame = past (in_pass b f) }) i ≡ Some t → of t.frame.program t.frame.block (t.frame.at - 1) ≡ Some t.instruction
    by_code b there None there_code e = absurd (cc e)
    by_code b there (Some i) there_code e =
        let same : record { instruction = i; frame = past (in_pass b f) } ≡ t = cc e in
        let kept = passed (is_again b f) in
        subst (λ (x : Taken). of x.frame.program x.frame.block (x.frame.at - 1) ≡ Some x.instruction) same
        (ap (λ (at : ℕ). of (in_pass b f).program (in_pass b f).block at) (less (in_pass b f).at)
        ∙ ap (λ (program : ℕ). of program (in_pass b f).block (in_pass b f).at) kept.0
        ∙ ap (λ (block : ℕ). of f.program block (in_pass b f).at) kept.1
        ∙ ap (λ (o : Option Program). option_and_then (λ (c : Block). code_at c (in_pass b f).at) (option_and_then (λ (q : Program). slice_get q.blocks f.block) o)) at_number
        ∙ ap (λ (o : Option Block). option_and_then (λ (c : Block). code_at c (in_pass b f).at) o) there
        ∙ there_code)

    by_block : (o : Option Block) → slice_get p.blocks f.block ≡ o → option_and_then (taken_of f) o ≡ Some t → of t.frame.program t.frame.block (t.frame.at - 1) ≡ Some t.instruction
    by_block None there e = absurd (cc e)
    by_block (Some b) there e = by_code b there (slice_get b.code (in_pass b f).at) refl e
