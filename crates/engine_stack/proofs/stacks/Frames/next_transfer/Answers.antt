use Rattle.engine_stack.specs.TaskFrames.{args_used, registers_used}
use Rattle.engine_stack.proofs.Vectors.{framed_set, stocked_set}
use Rattle.engine_stack.specs.Stocks.{is_usual}
use Rattle.std.proofs.Common.{◌≡◌, ◌∙◌, ◌-◌, List, [], ◌∷◌, Option, MatchOption, slice_set, vec_len, ap, refl, subst, sym}
use Rattle.engine_stack.specs.FirstEmissions.{Emitted, emitted_of, stack_emission}
use Rattle.engine_stack.specs.declared.task.Task.TheVariants as tasks
use Rattle.engine_stack.proofs.FirstPrograms.{Ending, ending}
use Rattle.engine_stack.proofs.FirstEmissions.{emitted_last, emitted_now, kept_so, reemitted}
use Rattle.engine_stack.specs.TransferView.{due_later, due_now}
use Rattle.ui_machine.specs.State.Bindings.{Binding}
use Rattle.bindings.specs.Due.{from_ready}
use Rattle.bindings.specs.declared.due.DueTransfer.{DueTransfer}
use Rattle.engine_stack.specs.declared.emission_frames.EmissionFrame.{EmissionFrame}
use Rattle.engine_stack.specs.declared.stacks.Frames.{Frames}
use Rattle.engine_stack.proofs.stacks.Frames.next_transfer.Goals as goal

pub invariant_of-self : goal.invariant_of-self
invariant_of-self c =
    let s = c.args.self.now in
    let was = c.in-Emitting.emission in
    let now = c.next_transfer.new.self in
    let e = ending (vec_len s.tasks) s.tasks.items (tasks.Emitting was) (tasks.Emitting was) s.tasks.ok.0 c.in-Some.ensures.item.3.0 (sym c.in-Emitting.is ∙ c.in-Some.ensures.item.3.1 (tasks.Emitting was)) in
    let k = kept_so s was now e in
    record {
      within = k.within;
      above = k.above;
      programs = stocked_set registers_used s.tasks s.registers s.programs _ refl (tasks.Emitting was) (tasks.Emitting now) e refl refl;
      emissions = stocked_set args_used s.tasks s.args s.emissions _ refl (tasks.Emitting was) (tasks.Emitting now) e refl (ap (λ (f : EmissionFrame). is_usual s.args.room f.args) c.next_transfer.ensures.beside);
    }

pub returns-clause-emits : goal.returns-clause-emits
returns-clause-emits c =
    let s = c.args.self.now in
    let was = c.in-Emitting.emission in
    let now = c.next_transfer.new.self in
    let e = ending (vec_len s.tasks) s.tasks.items (tasks.Emitting was) (tasks.Emitting was) s.tasks.ok.0 c.in-Some.ensures.item.3.0 (sym c.in-Emitting.is ∙ c.in-Some.ensures.item.3.1 (tasks.Emitting was)) in
    reemitted s _ was now e refl

pub returns-clause-emission : goal.returns-clause-emission
returns-clause-emission c =
    let s = c.args.self.now in
    let was = c.in-Emitting.emission in
    let now = c.next_transfer.new.self in
    let e = ending (vec_len s.tasks) s.tasks.items (tasks.Emitting was) (tasks.Emitting was) s.tasks.ok.0 c.in-Some.ensures.item.3.0 (sym c.in-Emitting.is ∙ c.in-Some.ensures.item.3.1 (tasks.Emitting was)) in
    let a = emitted_now s _ was now e refl in
    let b = emitted_last s was e in
    a ∙ ap (λ f. emitted_of f) c.next_transfer.ensures.beside
    ∙ ap (λ (x : Emitted). record x { transfers = now.transfers }) (sym b)
    ∙ ap (λ (x : Emitted). record (stack_emission s) { transfers = x.transfers }) (sym a)

pub returns-clause-later : goal.returns-clause-later
returns-clause-later c =
    let s = c.args.self.now in
    let was = c.in-Emitting.emission in
    let now = c.next_transfer.new.self in
    let e = ending (vec_len s.tasks) s.tasks.items (tasks.Emitting was) (tasks.Emitting was) s.tasks.ok.0 c.in-Some.ensures.item.3.0 (sym c.in-Emitting.is ∙ c.in-Some.ensures.item.3.1 (tasks.Emitting was)) in
    let a = emitted_now s _ was now e refl in
    let b = emitted_last s was e in
    ap (λ (x : Emitted). due_later x.transfers) a ∙ c.next_transfer.ensures.later ∙ ap (λ (x : Emitted). due_later x.transfers) (sym b)

-- the same of the stack's emissions
next_of_stack : (s new : Frames) (was now : EmissionFrame) (e : Ending (vec_len s.tasks) s.tasks.items (tasks.Emitting was))
    → new.tasks.items ≡ slice_set s.tasks.items (vec_len s.tasks - 1) (tasks.Emitting now) → (bs : List Binding) (r : Option DueTransfer)
    → MatchOption r ((from_ready bs (due_now was.transfers) ≡ []) × (due_now now.transfers ≡ [])) (λ due. from_ready bs (due_now was.transfers) ≡ due ∷ due_now now.transfers)
    → MatchOption r ((from_ready bs (due_now (stack_emission s).transfers) ≡ []) × (due_now (stack_emission new).transfers ≡ []))
    (λ due. from_ready bs (due_now (stack_emission s).transfers) ≡ due ∷ due_now (stack_emission new).transfers)
next_of_stack s new was now e is bs r next =
    subst (λ (x : Emitted). MatchOption r ((from_ready bs (due_now x.transfers) ≡ []) × (due_now (stack_emission new).transfers ≡ [])) (λ due. from_ready bs (due_now x.transfers) ≡ due ∷ due_now (stack_emission new).transfers)) (sym (emitted_last s was e))
    (subst (λ (x : Emitted). MatchOption r ((from_ready bs (due_now was.transfers) ≡ []) × (due_now x.transfers ≡ [])) (λ due. from_ready bs (due_now was.transfers) ≡ due ∷ due_now x.transfers)) (sym (emitted_now s new was now e is)) next)

pub returns-clause-next : goal.returns-clause-next
returns-clause-next c =
    let s = c.args.self.now in
    let was = c.in-Emitting.emission in
    let now = c.next_transfer.new.self in
    let e = ending (vec_len s.tasks) s.tasks.items (tasks.Emitting was) (tasks.Emitting was) s.tasks.ok.0 c.in-Some.ensures.item.3.0 (sym c.in-Emitting.is ∙ c.in-Some.ensures.item.3.1 (tasks.Emitting was)) in
    next_of_stack s _ was now e refl c.args.bindings.now.bindings c.next_transfer.result c.next_transfer.ensures.next

pub returns-clause-frames : goal.returns-clause-frames
returns-clause-frames c =
    let s = c.args.self.now in
    let was = c.in-Emitting.emission in
    let e = ending (vec_len s.tasks) s.tasks.items (tasks.Emitting was) (tasks.Emitting was) s.tasks.ok.0 c.in-Some.ensures.item.3.0 (sym c.in-Emitting.is ∙ c.in-Some.ensures.item.3.1 (tasks.Emitting was)) in
    framed_set s.tasks (slice_set s.tasks.items (vec_len s.tasks - 1) (tasks.Emitting c.next_transfer.new.self)) (tasks.Emitting was) (tasks.Emitting c.next_transfer.new.self) e refl refl
