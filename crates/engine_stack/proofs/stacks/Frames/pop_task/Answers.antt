use Rattle.std.proofs.Common.{◌≡◌, ◌∙◌, List, ap, drop, false, min, subst}
use Rattle.std.specs.List.{list_any}
use Rattle.std.specs.Option.{option_to_list}
use Rattle.engine_stack.specs.BuildTasks.{is_of_build}
use Rattle.engine_stack.specs.declared.task.Task.{Task}
use Rattle.engine_stack.specs.FirstConstructions.{construction_in}
use Rattle.engine_stack.specs.TaskFrames.{args_used, registers_used}
use Rattle.engine_stack.proofs.Vectors.{any_least, framed_pop, frameless_at, no_args, no_registers, popped_frameless, popped_in, popped_known, stocked_pop}
use Rattle.engine_stack.proofs.stacks.Frames.pop_task.Goals as goal

pub invariant_of-self-clause-programs : goal.invariant_of-self-clause-programs
invariant_of-self-clause-programs c =
    let s = c.args.self.now in
    let p = c.pop-task in
    stocked_pop registers_used s.tasks p.new.self s.registers p.ensures.capacity s.programs p.result p.ensures.items
    (λ t is. no_registers s.registers.room t (frameless_at s.tasks.items p.new.self.items p.result p.ensures.items c.requires.program c.requires.emission t is).program)

pub invariant_of-self-clause-emissions : goal.invariant_of-self-clause-emissions
invariant_of-self-clause-emissions c =
    let s = c.args.self.now in
    let p = c.pop-task in
    stocked_pop args_used s.tasks p.new.self s.args p.ensures.capacity s.emissions p.result p.ensures.items
    (λ t is. no_args s.args.room t (frameless_at s.tasks.items p.new.self.items p.result p.ensures.items c.requires.program c.requires.emission t is).emission)

pub returns-clause-frameless : goal.returns-clause-frameless
returns-clause-frameless c =
    let s = c.args.self.now in
    let p = c.pop-task in
    popped_frameless s.tasks.items p.new.self.items p.result p.ensures.items c.requires.program c.requires.emission

pub returns-clause-first : goal.returns-clause-first
returns-clause-first c =
    let p = c.pop-task in
    popped_known c.args.self.now.tasks.items p.new.self.items p.result p.ensures.items

pub returns-clause-construction : goal.returns-clause-construction
returns-clause-construction c =
    let p = c.pop-task in
    popped_in construction_in c.args.self.now.tasks p.new.self p.result p.ensures.items p.ensures.cases

pub invariant_of-self-clause-above : goal.invariant_of-self-clause-above
invariant_of-self-clause-above c =
    let s = c.args.self.now in
    let p = c.pop-task in
    any_least s.lowest c.min-self.result p.new.self.items (option_to_list p.result) (c.min-self.ensures ∙ ap (λ k. min s.lowest k) (c.len.ensures ∙ p.new.self.ok.0))
    (subst (λ (l : List Task). list_any is_of_build (drop s.lowest l) ≡ false) p.ensures.items s.above)

pub returns-clause-frames : goal.returns-clause-frames
returns-clause-frames c =
    let s = c.args.self.now in
    let p = c.pop-task in
    framed_pop s.tasks p.new.self p.result p.ensures.items (frameless_at s.tasks.items p.new.self.items p.result p.ensures.items c.requires.program c.requires.emission)
