use Rattle.engine_stack.specs.declared.emission_frames.EmissionFrame.{EmissionFrame}
use Rattle.engine_stack.specs.TaskFrames.{args_used, registers_used}
use Rattle.engine_stack.proofs.Vectors.{framed_set, stocked_set}
use Rattle.engine_stack.specs.Stocks.{is_usual}
use Rattle.std.proofs.Common.{◌∙◌, [], cond, vec_len, ap, refl, sym, ◌-◌, slice_set}
use Rattle.engine_stack.specs.FirstEmissions.{Emitted, emitted_of}
use Rattle.engine_stack.specs.declared.task.Task.TheVariants as tasks
use Rattle.engine_stack.proofs.FirstPrograms.{ending}
use Rattle.engine_stack.proofs.FirstEmissions.{emitted_last, emitted_now, kept_so, reemitted}
use Rattle.g_values.specs.View.{value_view}
use Rattle.signal_core.specs.Emission.{Walk, collected}
use Rattle.engine_stack.specs.declared.task.Transfers.{Transfers}
use Rattle.engine_stack.specs.declared.task.Transfers.TheVariants as at
use Rattle.engine_stack.proofs.stacks.Frames.collect.Goals as goal

pub invariant_of-self : goal.invariant_of-self
invariant_of-self c =
    let s = c.args.self.now in
    let was = c.in-Emitting.emission in
    let now = c.collect.new.self in
    let e = ending (vec_len s.tasks) s.tasks.items (tasks.Emitting was) (tasks.Emitting was) s.tasks.ok.0 c.in-Some.ensures.item.3.0 (sym c.in-Emitting.is ∙ c.in-Some.ensures.item.3.1 (tasks.Emitting was)) in
    let k = kept_so s was now e in
    record {
      within = k.within;
      above = k.above;
      programs = stocked_set registers_used s.tasks s.registers s.programs _ refl (tasks.Emitting was) (tasks.Emitting now) e refl refl;
      emissions = stocked_set args_used s.tasks s.args s.emissions _ refl (tasks.Emitting was) (tasks.Emitting now) e refl (ap (λ (f : EmissionFrame). is_usual s.args.room f.args) c.collect.ensures.beside);
    }

pub returns-clause-emits : goal.returns-clause-emits
returns-clause-emits c =
    let s = c.args.self.now in
    let was = c.in-Emitting.emission in
    let now = c.collect.new.self in
    let e = ending (vec_len s.tasks) s.tasks.items (tasks.Emitting was) (tasks.Emitting was) s.tasks.ok.0 c.in-Some.ensures.item.3.0 (sym c.in-Emitting.is ∙ c.in-Some.ensures.item.3.1 (tasks.Emitting was)) in
    reemitted s _ was now e refl

pub returns-clause-emission : goal.returns-clause-emission
returns-clause-emission c =
    let s = c.args.self.now in
    let was = c.in-Emitting.emission in
    let now = c.collect.new.self in
    let e = ending (vec_len s.tasks) s.tasks.items (tasks.Emitting was) (tasks.Emitting was) s.tasks.ok.0 c.in-Some.ensures.item.3.0 (sym c.in-Emitting.is ∙ c.in-Some.ensures.item.3.1 (tasks.Emitting was)) in
    let a = emitted_now s _ was now e refl in
    let b = emitted_last s was e in
    let v = value_view c.args.value in
    let last = c.args.is_last in
    a ∙ ap (λ f. emitted_of f) c.collect.ensures.beside
    ∙ ap (λ (w : Walk). record (emitted_of was) { walk = w; transfers = now.transfers }) c.collect.ensures.cursor
    ∙ ap (λ (ts : Transfers). record (emitted_of was) { walk = collected v last was.cursor; transfers = ts }) c.collect.ensures.transfers
    ∙ ap (λ (x : Emitted). record x { walk = collected v last x.walk; transfers = cond last (at.Due []) x.transfers }) (sym b)

pub returns-clause-frames : goal.returns-clause-frames
returns-clause-frames c =
    let s = c.args.self.now in
    let was = c.in-Emitting.emission in
    let e = ending (vec_len s.tasks) s.tasks.items (tasks.Emitting was) (tasks.Emitting was) s.tasks.ok.0 c.in-Some.ensures.item.3.0 (sym c.in-Emitting.is ∙ c.in-Some.ensures.item.3.1 (tasks.Emitting was)) in
    framed_set s.tasks (slice_set s.tasks.items (vec_len s.tasks - 1) (tasks.Emitting c.collect.new.self)) (tasks.Emitting was) (tasks.Emitting c.collect.new.self) e refl refl
