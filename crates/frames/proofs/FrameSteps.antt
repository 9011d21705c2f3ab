-- What a frame takes and where it goes on are the machine's steps of its program.
use Rattle.std.proofs.Common.{◌≡◌, ℕ, List, [], Option, None, Some, option_map, option_and_then, slice_get, refl, ap, ◌∙◌}
use Rattle.ui_machine.specs.declared.arm.Arm.TheVariants as arms
use Rattle.ui_machine.specs.Definition.{Definition}
use Rattle.ui_machine.specs.Definition.Lookups.{program_at}
use Rattle.ui_machine.specs.Definition.Programs.{Block, Instruction, Program}
use Rattle.ui_machine.specs.State.Config.{Left, World}
use Rattle.ui_machine.specs.State.Tasks.{Frame, Task}
use Rattle.ui_machine.specs.Instructions.{instruction_step, running}
use Rattle.ui_machine.specs.Instructions.Jumps.{block_in, in_pass, jumping, past}
use Rattle.ui_machine.specs.Instructions.Registers.{goes_on}
use Rattle.ui_machine.specs.Outcome.{Answer, known, ◌>>=◌}
use Rattle.frames.specs.FrameView.{Taken, at_block, taken_in, taken_of}

module _ (d : Definition) (w : World) (f : Frame) (p : Program) (is : program_at d f.program ≡ Some p) where
  -- a program takes the instruction that the frame takes
  pub running_taken : (rest : List Task) → running d w rest f ≡ (known arms.Code (taken_in p f) >>= λ t. instruction_step d w rest t.frame t.instruction)
  unfolding running block_in
  running_taken rest = in_program is ∙ in_block (slice_get p.blocks f.block)
    where
      of_block : Block → Answer Left
      of_block b = known arms.Code (slice_get b.code (in_pass b f).at) >>= λ i. instruction_step d w rest (past (in_pass b f)) i

      in_program : program_at d f.program ≡ Some p → (block_in d f >>= of_block) ≡ (known arms.Code (slice_get p.blocks f.block) >>= of_block)
      in_program e = ap (λ (o : Option Program). (known arms.Code o >>= λ p. known arms.Code (slice_get p.blocks f.block)) >>= of_block) e

      in_code : (b : Block) (i : Option Instruction)
          → (known arms.Code i >>= λ i. instruction_step d w rest (past (in_pass b f)) i)
          ≡ (known arms.Code (option_map (λ i. record { instruction = i; frame = past (in_pass b f) }) i) >>= λ (t : Taken). instruction_step d w rest t.frame t.instruction)
      in_code b None = refl
      in_code b (Some i) = refl

      in_block : (b : Option Block) → (known arms.Code b >>= of_block)
          ≡ (known arms.Code (option_and_then (taken_of f) b) >>= λ (t : Taken). instruction_step d w rest t.frame t.instruction)
      in_block None = refl
      in_block (Some b) = in_code b (slice_get b.code (in_pass b f).at)

  -- and goes on at the block at which the frame goes on
  pub jumping_there : (to : ℕ) → jumping d w f to ≡ (known arms.Code (option_map (at_block to f) (slice_get p.blocks to)) >>= goes_on w [])
  unfolding jumping
  jumping_there to = ap (λ (o : Option Program). known arms.Code o >>= λ p. known arms.Code (slice_get p.blocks to) >>= λ b. goes_on w [] (at_block to f b)) is ∙ by (slice_get p.blocks to)
    where
      by : (b : Option Block) → (known arms.Code b >>= λ b. goes_on w [] (at_block to f b)) ≡ (known arms.Code (option_map (at_block to f) b) >>= goes_on w [])
      by None = refl
      by (Some b) = refl
