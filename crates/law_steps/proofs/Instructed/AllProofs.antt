-- All instructions, from the laws of each.
use Rattle.std.proofs.Common.{◌≡◌, refl, sym, ap, ◌∙◌, ℕ, zero, suc, ◌<◌, List, [], ◌∷◌, length, Option, None, Some, slice_get, arith}
use Rattle.ui_machine.specs.Definition.Programs.{Instruction}
use Rattle.ui_machine.specs.Definition.Programs as words
use Rattle.ui_machine.specs.State.References.{next_unheld, mentions}
use Rattle.ui_machine.specs.Steps.{first_of}
use Rattle.law_typing.specs.Graph.{graph}
use Rattle.law_typing.specs.Graph.Depths.{depth}
use Rattle.law_typing.specs.Laws.StepsKeepGood.{Fine}
use Rattle.law_typing.specs.Good.ComingDown.{none}
use Rattle.law_typing.specs.Good.Programs.{RunningGood, code_of, code_of_block}
use Rattle.law_typing.specs.Good.Standing.{standing}
use Rattle.law_steps.proofs.Kept.FinaliseProofs.{finalisation_is_fine}
use Rattle.law_steps.specs.Instructed.Running.{at_top, taking, instruction_at, IsFine}
use Rattle.law_steps.proofs.Instructed.Passes.{turned}
use Rattle.law_steps.specs.Instructed.Setting.{IsFineWhereHeld}
use Rattle.law_steps.specs.Instructed.All.{InstructionsAreFine, ProgramsKeepGood}
use Rattle.law_steps.proofs.Instructed.AttachProofs.{attachments_are_fine}
use Rattle.law_steps.proofs.Instructed.CallProofs.{calls_are_fine}
use Rattle.law_steps.proofs.Instructed.ConnectProofs.{connects_are_fine}
use Rattle.law_steps.proofs.Instructed.DisposeStep.{disposes_are_fine}
use Rattle.law_steps.proofs.Instructed.EmitProofs.{emits_are_fine}
use Rattle.law_steps.proofs.Instructed.FamilyProofs.{families_are_fine}
use Rattle.law_steps.proofs.Instructed.FreezeProofs.{freezes_are_fine}
use Rattle.law_steps.proofs.Instructed.JumpProofs.{jumps_are_fine}
use Rattle.law_steps.proofs.Instructed.MakeProofs.{makes_are_fine}
use Rattle.law_steps.proofs.Instructed.NotifyProofs.{notifies_are_fine}
use Rattle.law_steps.proofs.Instructed.ReadProofs.{reads_are_fine}
use Rattle.law_steps.proofs.Instructed.RegisterProofs.{registers_are_fine}
use Rattle.law_steps.proofs.Instructed.ReleaseProofs.{releases_are_fine}
use Rattle.law_steps.proofs.Instructed.ReturnProofs.{returns_are_fine}
use Rattle.law_steps.proofs.Instructed.SetProofs.{sets_are_fine}
use Rattle.law_steps.proofs.Instructed.StopProofs.{stops_are_fine}
use Rattle.law_steps.proofs.Instructed.ThawProofs.{thaws_are_fine}

anyway : {i : Instruction} → IsFine i → IsFineWhereHeld i
anyway fine d well a most_counted within w f rest n g is held = fine d well a most_counted within w f rest n g is

pub instructions_are_fine : InstructionsAreFine
instructions_are_fine (words.const to kind v) = anyway (registers_are_fine (words.const to kind v) refl)
instructions_are_fine (words.move to from) = anyway (registers_are_fine (words.move to from) refl)
instructions_are_fine (words.clear to) = anyway (registers_are_fine (words.clear to) refl)
instructions_are_fine (words.arithmetic operation to a b) = anyway (registers_are_fine (words.arithmetic operation to a b) refl)
instructions_are_fine (words.compare comparison to a b) = anyway (registers_are_fine (words.compare comparison to a b) refl)
instructions_are_fine (words.same to a b) = anyway (registers_are_fine (words.same to a b) refl)
instructions_are_fine (words.negate to a) = anyway (registers_are_fine (words.negate to a) refl)
instructions_are_fine (words.both to a b) = anyway (registers_are_fine (words.both to a b) refl)
instructions_are_fine (words.either to a b) = anyway (registers_are_fine (words.either to a b) refl)
instructions_are_fine (words.join to a b) = anyway (registers_are_fine (words.join to a b) refl)
instructions_are_fine (words.convert to a kind) = anyway (registers_are_fine (words.convert to a kind) refl)
instructions_are_fine (words.get to object name) = anyway (reads_are_fine (words.get to object name) refl)
instructions_are_fine (words.set object name from) = sets_are_fine object name from
instructions_are_fine (words.object to id) = anyway (reads_are_fine (words.object to id) refl)
instructions_are_fine (words.new to id) = anyway (makes_are_fine to id)
instructions_are_fine (words.sink object) = anyway (releases_are_fine (words.sink object) refl)
instructions_are_fine (words.orphan object) = anyway (families_are_fine (words.orphan object) refl)
instructions_are_fine (words.dispose object) = anyway (disposes_are_fine object)
instructions_are_fine (words.adopt to parent child) = anyway (families_are_fine (words.adopt to parent child) refl)
instructions_are_fine (words.freeze object) = anyway (freezes_are_fine object)
instructions_are_fine (words.thaw object) = anyway (thaws_are_fine object)
instructions_are_fine (words.emit into object name detail args) = anyway (emits_are_fine into object name detail args)
instructions_are_fine (words.notify object name) = anyway (notifies_are_fine object name)
instructions_are_fine (words.connect to object c) = anyway (connects_are_fine to object c)
instructions_are_fine (words.disconnect object program) = anyway (releases_are_fine (words.disconnect object program) refl)
instructions_are_fine (words.block object program) = anyway (releases_are_fine (words.block object program) refl)
instructions_are_fine (words.unblock object program) = anyway (releases_are_fine (words.unblock object program) refl)
instructions_are_fine words.stop = anyway stops_are_fine
instructions_are_fine (words.unbind name) = anyway (releases_are_fine (words.unbind name) refl)
instructions_are_fine (words.idle to program priority with) = anyway (attachments_are_fine (words.idle to program priority with) refl)
instructions_are_fine (words.timeout to program priority interval with) = anyway (attachments_are_fine (words.timeout to program priority interval with) refl)
instructions_are_fine (words.remove program) = anyway (releases_are_fine (words.remove program) refl)
instructions_are_fine (words.call to object name args) = anyway (calls_are_fine to object name args)
instructions_are_fine (words.jump to) = anyway (jumps_are_fine (words.jump to) refl)
instructions_are_fine (words.branch on then_to else_to) = anyway (jumps_are_fine (words.branch on then_to else_to) refl)
instructions_are_fine (words.branch_null on then_to else_to) = anyway (jumps_are_fine (words.branch_null on then_to else_to) refl)
instructions_are_fine (words.return from) = anyway (returns_are_fine from)

-- ** programs

-- there is an entry at each number within a list
there : {A : Type 0} (xs : List A) (i : ℕ) → i < length xs → (x : A) × (slice_get xs i ≡ Some x)
there [] i low = absurd (omega (arith, low))
there (x ∷ xs) zero low = (x, refl)
there (x ∷ xs) (suc i) low = there xs i (omega (arith, low))

pub programs_keep_good : ProgramsKeepGood
programs_keep_good d well a most_counted within w f rest n g reply = go (next_unheld (mentions d (at_top w f rest n)) w.objects) refl
  where
    -- the instruction that is taken lies within its block
    due : (i : Instruction) × (instruction_at d f ≡ Some i)
    due =
        let next = (turned d well a most_counted w f rest n g) in
        let again : RunningGood d a.weighed.costs a.weighed.depths (standing w.objects) none (taking d f) next.good.agenda.0 next.good.agenda.1 = next.good.agenda.3.1 in
        let i = there again.b.code (taking d f).at again.inside in (
          i.0,
          sym next.code ∙ (ap (λ code. slice_get code (taking d f).at) (ap (code_of (taking d f).block) again.is ∙ ap code_of_block again.in_block) ∙ i.1),
        )

    go : (o : Option ℕ) → next_unheld (mentions d (at_top w f rest n)) w.objects ≡ o →
        Fine d a.weighed.costs a.weighed.depths most_counted (depth (graph d) a.weighed.depths) (first_of d reply (at_top w f rest n) o)
    go None held = instructions_are_fine due.0 d well a most_counted within w f rest n g due.1 held
    go (Some id) unheld = finalisation_is_fine d a.weighed.costs a.weighed.depths most_counted (depth (graph d) a.weighed.depths) within (at_top w f rest n) g id unheld
