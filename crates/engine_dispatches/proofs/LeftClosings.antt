-- What a step leaves as closed, so that a pool that was known is known again once the box there is closed.
use Rattle.std.proofs.Common.{◌≡◌, refl, ap, sym, ◌∙◌, subst, ℕ, suc, Bool, true, false, cond, List, [], ◌∷◌, map, Option, None, Some, Ok, Err}
use Rattle.std.specs.Prelude.{IfOk, nat_lt, option_and_then, option_map, slice_get}
use Rattle.ui_machine.specs.declared.arm.Arm.TheVariants as arms
use Rattle.ui_machine.specs.Definition.{Definition}
use Rattle.ui_machine.specs.Definition.Lookups.{program_at}
use Rattle.ui_machine.specs.Definition.Programs.{Block, Instruction, Program}
use Rattle.ui_machine.specs.Definition.Programs as words
use Rattle.ui_machine.specs.Instructions.{instruction_step, running}
use Rattle.ui_machine.specs.Instructions.Jumps.{block_in, in_pass, past}
use Rattle.ui_machine.specs.Instructions.Registers.{operand_in}
use Rattle.ui_machine.specs.Outcome.{Answer, known, only_if, ◌>>=◌}
use Rattle.ui_machine.specs.Rules.Disposal.{finalised, peer_of}
use Rattle.ui_machine.specs.Rules.Sets.{is_disposed}
use Rattle.ui_machine.specs.State.Config.{Config, Left, Started, World, starts}
use Rattle.ui_machine.specs.State.Objects.{living}
use Rattle.ui_machine.specs.State.Peers.{Peer}
use Rattle.ui_machine.specs.State.Tasks.{Frame, Running, Task}
use Rattle.ui_machine.specs.Steps.{act, counted, finalising, left, most_steps, uncounted}
use Rattle.law_peers.specs.PeerLaws.{peer_in}
use Rattle.frames.specs.FrameView.{Taken, taken_in, taken_of}
use Rattle.engine_instructions.specs.ClosedPeers.{closed_in}
use Rattle.engine_instructions.proofs.Programs.{takes_instruction}
use Rattle.engine_world.specs.ClosingView.{closed_with, or_number}
use Rattle.engine_world.specs.Standing.{past_turns}
use Rattle.engine_world.proofs.Floats.{if_ok_at}
use Rattle.engine_dispatches.specs.ClosingTasks.{after_closing, disposes_by, disposes_next}
use Rattle.engine_dispatches.specs.PoolView.{Knows, due, seen_of}
use Rattle.engine_dispatches.specs.PoolView as pools
use Rattle.engine_dispatches.specs.QuietSteps.{LeavesKnown}
use Rattle.engine_dispatches.specs.Safety.{NoneUnheld}
use Rattle.engine_dispatches.specs.TaskClosings.{ProgramLeaves, TakenLeaves, TaskLeaves}
use Rattle.engine_dispatches.proofs.Closings.{SeenStays, dispose_closes, finalises, step_stays}
use Rattle.engine_dispatches.proofs.Known.{known_due_closed, known_due_still, with_open}

-- where nothing is closed, whatever number is left
pub still_known : (w v : World) (number : Option ℕ) → SeenStays w v → LeavesKnown w v number
still_known w v number stays pool knows = known_due_still w v pool number knows stays

-- where the peer is closed whose number is left, if there is one
closed_known : (w v : World) (peer old number : Option ℕ) → ((k : ℕ) → peer ≡ Some k → (peer_in w.peers k).state.is_open ≡ true) → v.peers ≡ after_closing peer w.peers
    → number ≡ or_number peer old → LeavesKnown w v number
closed_known w v None old number opens is same pool knows = still_known w v number (ap (λ (l : List Peer). map seen_of l) is) pool knows
closed_known w v (Some k) old number opens is same pool knows =
    subst (λ (n : Option ℕ). Knows v (pools.closed_in (due v pool n) pool)) (sym same) (known_due_closed w v pool (Some k) opens knows is)

-- so it is with an object's
with_known : (w v : World) (id : ℕ) (old number : Option ℕ) → v.peers ≡ after_closing (closed_with w id) w.peers → number ≡ or_number (closed_with w id) old → LeavesKnown w v number
with_known w v id old number is same = closed_known w v (closed_with w id) old number (λ k. with_open w.peers (peer_of (living w.objects id)) k) is same

-- and with that of an object that is disposed, unless it was
disposed_known : (w v : World) (object : Answer ℕ) (old number : Option ℕ) → v.peers ≡ after_closing (closed_in w object) w.peers → number ≡ or_number (closed_in w object) old → LeavesKnown w v number
disposed_known w v (Err arm) old number is same = closed_known w v None old number (λ k none. cc none) is same
disposed_known w v (Ok id) old number is same = by (is_disposed (living w.objects id)) is same
  where
    by : (b : Bool) → v.peers ≡ after_closing (cond b None (closed_with w id)) w.peers → number ≡ or_number (cond b None (closed_with w id)) old → LeavesKnown w v number
    by true is same = closed_known w v None old number (λ k none. cc none) is same
    by false is same = with_known w v id old number is same

module _ (d : Definition) (w : World) where
  -- ** finalisation

  finalising_closes : (id : ℕ) → IfOk (finalising d w id) (λ s. s.world.peers ≡ after_closing (closed_with w id) w.peers)
  unfolding finalising
  finalising_closes id = by (finalised d w id) (finalises d w id)
    where
      by : (a : Answer World) → IfOk a (λ v. v.peers ≡ after_closing (closed_with w id) w.peers) → IfOk (a >>= λ v. starts v []) (λ s. s.world.peers ≡ after_closing (closed_with w id) w.peers)
      by (Ok v) h = h
      by (Err arm) h = tt

  counted_to : (P : World → Type 0) (rest : List Task) (n : ℕ) (a : Answer Started) → IfOk a (λ s. P s.world) → IfOk (counted rest n a) (λ x. P x.world)
  counted_to P rest n a h = by (nat_lt n most_steps) a h
    where
      by : (b : Bool) (a : Answer Started) → IfOk a (λ s. P s.world) → IfOk (only_if b arms.Steps (uncounted rest (suc n) a)) (λ x. P x.world)
      by true (Ok s) h = h
      by true (Err arm) h = tt
      by false a h = tt

  pub finalised_known : (id : ℕ) (rest : List Task) (n : ℕ) (x : Config) (old number : Option ℕ) → counted rest n (finalising d w id) ≡ Ok x → number ≡ or_number (closed_with w id) old
      → LeavesKnown w x.world number
  finalised_known id rest n x old number is same =
      with_known w x.world id old number
      (if_ok_at (λ (y : Config). y.world.peers ≡ after_closing (closed_with w id) w.peers) (counted rest n (finalising d w id)) x
      (counted_to (λ (v : World). v.peers ≡ after_closing (closed_with w id) w.peers) rest n (finalising d w id) (finalising_closes id)) is) same

  -- ** programs

  -- a program whose next instruction is `dispose`
  record Disposes (f : Frame) (o : Option Program) : Type 0 where
    program : Program
    object : ℕ
    frame : Frame
    is : o ≡ Some program
    takes : taken_in program f ≡ Some (record { instruction = words.dispose object; frame = frame })

  disposes_if : (f : Frame) → disposes_next f (block_in d f) ≡ true → Disposes f (program_at d f.program)
  unfolding block_in
  disposes_if f next = by_program (program_at d f.program) next
    where
      by_code : (p : Program) (b : Block) → slice_get p.blocks f.block ≡ Some b → (i : Option Instruction) → slice_get b.code (in_pass b f).at ≡ i → disposes_by i ≡ true → Disposes f (Some p)
      by_code p b there (Some (words.dispose object)) at next = record {
        program = p;
        object = object;
        frame = past (in_pass b f);
        is = refl;
        takes = ap (option_and_then (taken_of f)) there ∙ ap (option_map (λ i. record { instruction = i; frame = past (in_pass b f) })) at;
      }
      by_code p b there i at next = absurd (cc next)

      by_block : (p : Program) (o : Option Block) → slice_get p.blocks f.block ≡ o → disposes_next f (known arms.Code o) ≡ true → Disposes f (Some p)
      by_block p None there next = absurd (cc next)
      by_block p (Some b) there next = by_code p b there (slice_get b.code (in_pass b f).at) refl next

      by_program : (o : Option Program) → disposes_next f (known arms.Code o >>= λ (p : Program). known arms.Code (slice_get p.blocks f.block)) ≡ true → Disposes f o
      by_program None next = absurd (cc next)
      by_program (Some p) next = by_block p (slice_get p.blocks f.block) refl next

  module _ (rest : List Task) (n : ℕ) where
    -- what holds of where a program's step leads
    steps_to : (P : World → Type 0) (f : Frame) → IfOk (running d w rest f) (λ l. P l.world) → IfOk (act d w None (Running f ∷ rest) n) (λ x. P x.world)
    unfolding left
    steps_to P f h = only (nat_lt n most_steps) (running d w rest f) h
      where
        on : (a : Answer Left) → IfOk a (λ l. P l.world) → IfOk (left (suc n) a) (λ x. P x.world)
        on (Ok l) h = h
        on (Err arm) h = tt

        only : (b : Bool) (a : Answer Left) → IfOk a (λ l. P l.world) → IfOk (only_if b arms.Steps (left (suc n) a)) (λ x. P x.world)
        only true a h = on a h
        only false a h = tt

    program_known : (f : Frame) (x : Config) (old number : Option ℕ) → NoneUnheld d (record { world = w; agenda = Running f ∷ rest; counted = n }) → act d w None (Running f ∷ rest) n ≡ Ok x
        → ProgramLeaves w f (program_at d f.program) old number → LeavesKnown w x.world number
    program_known f x old number none is leaves = by (disposes_next f (block_in d f)) refl
      where
        disposing_known : Disposes f (program_at d f.program) → LeavesKnown w x.world number
        disposing_known t =
            let step : running d w rest f ≡ instruction_step d w rest t.frame (words.dispose t.object) = takes_instruction d w rest f t.program t.is (record { instruction = words.dispose t.object; frame = t.frame }) t.takes in
            let object = operand_in w t.frame t.object in
            let closes = steps_to (λ (v : World). v.peers ≡ after_closing (closed_in w object) w.peers) f
            (subst (λ (a : Answer Left). IfOk a (λ l. l.world.peers ≡ after_closing (closed_in w object) w.peers)) (sym step) (dispose_closes d w rest t.frame t.object)) in
            let leaves_so : TakenLeaves w (taken_in t.program f) old number = subst (λ (o : Option Program). ProgramLeaves w f o old number) t.is leaves in
            disposed_known w x.world object old number
            (if_ok_at (λ (y : Config). y.world.peers ≡ after_closing (closed_in w object) w.peers) (act d w None (Running f ∷ rest) n) x closes is)
            (subst (λ (o : Option Taken). TakenLeaves w o old number) t.takes leaves_so)

        by : (b : Bool) → disposes_next f (block_in d f) ≡ b → LeavesKnown w x.world number
        by true next = disposing_known (disposes_if f next)
        by false next = still_known w x.world number (step_stays d (record { world = w; agenda = Running f ∷ rest; counted = n }) x none is next)

    -- ** tasks

    pub task_known : (task : Task) (x : Config) (old number : Option ℕ) → NoneUnheld d (record { world = w; agenda = past_turns w task ∷ rest; counted = n })
        → act d w None (past_turns w task ∷ rest) n ≡ Ok x → TaskLeaves d w task old number → LeavesKnown w x.world number
    task_known (Running f) x old number none is leaves = program_known f x old number none is leaves
    task_known task x old number none is leaves =
        still_known w x.world number (step_stays d (record { world = w; agenda = past_turns w task ∷ rest; counted = n }) x none is refl)
