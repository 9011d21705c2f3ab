use Rattle.engine_stack.specs.TaskFrames.{args_used, registers_used}
use Rattle.engine_stack.proofs.Vectors.{framed_set, stocked_set}
use Rattle.std.proofs.Common.{◌≡◌, ◌∙◌, ◌-◌, [], ◌∷◌, Option, MatchOption, slice_set, vec_len, ap, refl, subst, sym}
use Rattle.engine_stack.specs.FirstConstructions.{Constructed, constructed_of, stack_construction}
use Rattle.engine_stack.specs.MakingView.{making_of_code}
use Rattle.engine_stack.specs.declared.construction_frames.ConstructionFrame.{ConstructionFrame}
use Rattle.engine_stack.specs.declared.stacks.Frames.{Frames}
use Rattle.engine_stack.specs.declared.task.ConstructStep.{ConstructStep}
use Rattle.engine_stack.specs.declared.task.Task.TheVariants as tasks
use Rattle.engine_stack.proofs.FirstPrograms.{Ending, ending, kept_last}
use Rattle.engine_stack.proofs.FirstConstructions.{constructed_last, constructed_now, reconstructed}
use Rattle.engine_stack.proofs.stacks.Frames.next_construct_step.Goals as goal

pub invariant_of-self : goal.invariant_of-self
invariant_of-self c =
    let s = c.args.self.now in
    let was = c.in-Constructing.construction in
    let now = c.next_step.new.self in
    let e = ending (vec_len s.tasks) s.tasks.items (tasks.Constructing was) (tasks.Constructing was) s.tasks.ok.0 c.in-Some.ensures.item.3.0 (sym c.in-Constructing.is ∙ c.in-Some.ensures.item.3.1 (tasks.Constructing was)) in
    let k = kept_last s (tasks.Constructing was) (tasks.Constructing now) e refl in
    record {
      within = k.within;
      above = k.above;
      programs = stocked_set registers_used s.tasks s.registers s.programs _ refl (tasks.Constructing was) (tasks.Constructing now) e refl refl;
      emissions = stocked_set args_used s.tasks s.args s.emissions _ refl (tasks.Constructing was) (tasks.Constructing now) e refl refl;
    }

pub returns-clause-constructs : goal.returns-clause-constructs
returns-clause-constructs c =
    let s = c.args.self.now in
    let was = c.in-Constructing.construction in
    let now = c.next_step.new.self in
    let e = ending (vec_len s.tasks) s.tasks.items (tasks.Constructing was) (tasks.Constructing was) s.tasks.ok.0 c.in-Some.ensures.item.3.0 (sym c.in-Constructing.is ∙ c.in-Some.ensures.item.3.1 (tasks.Constructing was)) in
    reconstructed s _ was now e refl

pub returns-clause-construction : goal.returns-clause-construction
returns-clause-construction c =
    let s = c.args.self.now in
    let was = c.in-Constructing.construction in
    let now = c.next_step.new.self in
    let e = ending (vec_len s.tasks) s.tasks.items (tasks.Constructing was) (tasks.Constructing was) s.tasks.ok.0 c.in-Some.ensures.item.3.0 (sym c.in-Constructing.is ∙ c.in-Some.ensures.item.3.1 (tasks.Constructing was)) in
    let a = constructed_now s _ was now e refl in
    let b = constructed_last s was e in
    a
    ∙ ap (λ f. constructed_of f) c.next_step.ensures.beside
    ∙ ap (λ (x : Constructed). record x { steps = now.steps }) (sym b)
    ∙ ap (λ (x : Constructed). record (stack_construction s) { steps = x.steps }) (sym a)

-- the same of the stack's constructions
step_of_stack : (s new : Frames) (was now : ConstructionFrame) (e : Ending (vec_len s.tasks) s.tasks.items (tasks.Constructing was))
    → new.tasks.items ≡ slice_set s.tasks.items (vec_len s.tasks - 1) (tasks.Constructing now) → (r : Option ConstructStep)
    → MatchOption r ((was.steps ≡ []) × (now.steps ≡ [])) (λ step. was.steps ≡ making_of_code step ∷ now.steps)
    → MatchOption r (((stack_construction s).steps ≡ []) × ((stack_construction new).steps ≡ [])) (λ step. (stack_construction s).steps ≡ making_of_code step ∷ (stack_construction new).steps)
step_of_stack s new was now e is r step =
    subst (λ (x : Constructed). MatchOption r ((x.steps ≡ []) × ((stack_construction new).steps ≡ [])) (λ step. x.steps ≡ making_of_code step ∷ (stack_construction new).steps)) (sym (constructed_last s was e))
    (subst (λ (x : Constructed). MatchOption r ((was.steps ≡ []) × (x.steps ≡ [])) (λ step. was.steps ≡ making_of_code step ∷ x.steps)) (sym (constructed_now s new was now e is)) step)

pub returns-clause-step : goal.returns-clause-step
returns-clause-step c =
    let s = c.args.self.now in
    let was = c.in-Constructing.construction in
    let now = c.next_step.new.self in
    let e = ending (vec_len s.tasks) s.tasks.items (tasks.Constructing was) (tasks.Constructing was) s.tasks.ok.0 c.in-Some.ensures.item.3.0 (sym c.in-Constructing.is ∙ c.in-Some.ensures.item.3.1 (tasks.Constructing was)) in
    step_of_stack s _ was now e refl c.next_step.result c.next_step.ensures.step

pub returns-clause-frames : goal.returns-clause-frames
returns-clause-frames c =
    let s = c.args.self.now in
    let was = c.in-Constructing.construction in
    let e = ending (vec_len s.tasks) s.tasks.items (tasks.Constructing was) (tasks.Constructing was) s.tasks.ok.0 c.in-Some.ensures.item.3.0 (sym c.in-Constructing.is ∙ c.in-Some.ensures.item.3.1 (tasks.Constructing was)) in
    framed_set s.tasks (slice_set s.tasks.items (vec_len s.tasks - 1) (tasks.Constructing c.next_step.new.self)) (tasks.Constructing was) (tasks.Constructing c.next_step.new.self) e refl refl
