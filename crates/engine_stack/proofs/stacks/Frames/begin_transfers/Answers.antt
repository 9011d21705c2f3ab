use Rattle.engine_stack.specs.declared.emission_frames.EmissionFrame.{EmissionFrame}
use Rattle.engine_stack.specs.TaskFrames.{args_used, registers_used}
use Rattle.engine_stack.proofs.Vectors.{framed_set, stocked_set}
use Rattle.engine_stack.specs.Stocks.{is_usual}
use Rattle.std.proofs.Common.{◌∙◌, vec_len, ap, refl, sym, ◌-◌, slice_set}
use Rattle.engine_stack.specs.FirstEmissions.{Emitted, emitted_of}
use Rattle.engine_stack.specs.declared.task.Task.TheVariants as tasks
use Rattle.engine_stack.proofs.FirstPrograms.{ending}
use Rattle.engine_stack.proofs.FirstEmissions.{emitted_last, emitted_now, kept_so, reemitted}
use Rattle.engine_stack.specs.TransferView.{due_later, due_now}
use Rattle.engine_stack.specs.declared.task.Transfers.TheVariants as at
use Rattle.engine_stack.proofs.stacks.Frames.begin_transfers.Goals as goal

pub invariant_of-self : goal.invariant_of-self
invariant_of-self c =
    let s = c.args.self.now in
    let was = c.in-Emitting.emission in
    let now = c.begin_transfers.new.self in
    let e = ending (vec_len s.tasks) s.tasks.items (tasks.Emitting was) (tasks.Emitting was) s.tasks.ok.0 c.in-Some.ensures.item.3.0 (sym c.in-Emitting.is ∙ c.in-Some.ensures.item.3.1 (tasks.Emitting was)) in
    let k = kept_so s was now e in
    record {
      within = k.within;
      above = k.above;
      programs = stocked_set registers_used s.tasks s.registers s.programs _ refl (tasks.Emitting was) (tasks.Emitting now) e refl refl;
      emissions = stocked_set args_used s.tasks s.args s.emissions _ refl (tasks.Emitting was) (tasks.Emitting now) e refl (ap (λ (f : EmissionFrame). is_usual s.args.room f.args) c.begin_transfers.ensures);
    }

pub returns-clause-emits : goal.returns-clause-emits
returns-clause-emits c =
    let s = c.args.self.now in
    let was = c.in-Emitting.emission in
    let now = c.begin_transfers.new.self in
    let e = ending (vec_len s.tasks) s.tasks.items (tasks.Emitting was) (tasks.Emitting was) s.tasks.ok.0 c.in-Some.ensures.item.3.0 (sym c.in-Emitting.is ∙ c.in-Some.ensures.item.3.1 (tasks.Emitting was)) in
    reemitted s _ was now e refl

pub begin_transfers-requires : goal.begin_transfers-requires
begin_transfers-requires c =
    let s = c.args.self.now in
    let was = c.in-Emitting.emission in
    let e = ending (vec_len s.tasks) s.tasks.items (tasks.Emitting was) (tasks.Emitting was) s.tasks.ok.0 c.in-Some.ensures.item.3.0 (sym c.in-Emitting.is ∙ c.in-Some.ensures.item.3.1 (tasks.Emitting was)) in
    ap (λ (x : Emitted). due_now x.transfers) (sym (emitted_last s was e)) ∙ c.requires.none

pub returns-clause-emission : goal.returns-clause-emission
returns-clause-emission c =
    let s = c.args.self.now in
    let was = c.in-Emitting.emission in
    let now = c.begin_transfers.new.self in
    let e = ending (vec_len s.tasks) s.tasks.items (tasks.Emitting was) (tasks.Emitting was) s.tasks.ok.0 c.in-Some.ensures.item.3.0 (sym c.in-Emitting.is ∙ c.in-Some.ensures.item.3.1 (tasks.Emitting was)) in
    let a = emitted_now s _ was now e refl in
    let b = emitted_last s was e in
    a ∙ ap (λ f. emitted_of f) c.begin_transfers.ensures
    ∙ ap (λ (x : Emitted). record x { transfers = at.Due (due_later x.transfers) }) (sym b)

pub returns-clause-frames : goal.returns-clause-frames
returns-clause-frames c =
    let s = c.args.self.now in
    let was = c.in-Emitting.emission in
    let e = ending (vec_len s.tasks) s.tasks.items (tasks.Emitting was) (tasks.Emitting was) s.tasks.ok.0 c.in-Some.ensures.item.3.0 (sym c.in-Emitting.is ∙ c.in-Some.ensures.item.3.1 (tasks.Emitting was)) in
    framed_set s.tasks (slice_set s.tasks.items (vec_len s.tasks - 1) (tasks.Emitting c.begin_transfers.new.self)) (tasks.Emitting was) (tasks.Emitting c.begin_transfers.new.self) e refl refl
