use Rattle.std.proofs.Common.{◌≡◌, ◌∙◌, ◌++◌, ◌∷◌, [], List, Option, ap, drop, false, min, subst}
use Rattle.std.specs.List.{list_any}
use Rattle.std.specs.Option.{option_to_list}
use Rattle.engine_stack.specs.BuildTasks.{is_of_build}
use Rattle.engine_stack.specs.TaskFrames.{args_used, registers_used}
use Rattle.engine_stack.specs.declared.task.Task.{Task}
use Rattle.engine_stack.proofs.Vectors.{any_least, framed_least, has_place, stocked_less}
use Rattle.engine_stack.proofs.stacks.Frames.take_off.Goals as goal

pub give_back-requires-clause-registers : goal.give_back-requires-clause-registers
give_back-requires-clause-registers c =
    let s = c.args.self.now in
    let items = c.pop.ensures.items ∙ ap (λ (o : Option Task). c.pop.new.self.items ++ option_to_list o) c.in-Some.is in
    has_place registers_used s.tasks c.pop.new.self s.registers c.pop.ensures.capacity s.programs c.in-Some.task items

pub give_back-requires-clause-args : goal.give_back-requires-clause-args
give_back-requires-clause-args c =
    let s = c.args.self.now in
    let items = c.pop.ensures.items ∙ ap (λ (o : Option Task). c.pop.new.self.items ++ option_to_list o) c.in-Some.is in
    has_place args_used s.tasks c.pop.new.self s.args c.pop.ensures.capacity s.emissions c.in-Some.task items

pub invariant_of-self-clause-programs : goal.invariant_of-self-clause-programs
invariant_of-self-clause-programs c =
    let s = c.args.self.now in
    let items = c.pop.ensures.items ∙ ap (λ (o : Option Task). c.pop.new.self.items ++ option_to_list o) c.in-Some.is in
    stocked_less registers_used s.tasks c.pop.new.self s.registers c.pop.ensures.capacity s.programs c.in-Some.task c.give_back.new.registers items c.give_back.ensures.registers

pub invariant_of-self-clause-emissions : goal.invariant_of-self-clause-emissions
invariant_of-self-clause-emissions c =
    let s = c.args.self.now in
    let items = c.pop.ensures.items ∙ ap (λ (o : Option Task). c.pop.new.self.items ++ option_to_list o) c.in-Some.is in
    stocked_less args_used s.tasks c.pop.new.self s.args c.pop.ensures.capacity s.emissions c.in-Some.task c.give_back.new.args items c.give_back.ensures.args

pub invariant_of-self-clause-above : goal.invariant_of-self-clause-above
invariant_of-self-clause-above c =
    let s = c.args.self.now in
    let items = c.pop.ensures.items ∙ ap (λ (o : Option Task). c.pop.new.self.items ++ option_to_list o) c.in-Some.is in
    any_least s.lowest c.min-self.result c.pop.new.self.items (c.in-Some.task ∷ []) (c.min-self.ensures ∙ ap (λ k. min s.lowest k) (c.len.ensures ∙ c.pop.new.self.ok.0))
    (subst (λ (l : List Task). list_any is_of_build (drop s.lowest l) ≡ false) items s.above)

pub returns-clause-off : goal.returns-clause-off
returns-clause-off c =
    record {
      task = c.in-Some.task;
      was = c.pop.ensures.items ∙ ap (λ (o : Option Task). c.pop.new.self.items ++ option_to_list o) c.in-Some.is;
      is = c.give_back.ensures.frame;
    }

pub returns-clause-frames : goal.returns-clause-frames
returns-clause-frames c =
    let items = c.pop.ensures.items ∙ ap (λ (o : Option Task). c.pop.new.self.items ++ option_to_list o) c.in-Some.is in
    framed_least c.pop.new.self c.args.self.now.tasks c.in-Some.task items
