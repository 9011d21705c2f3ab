use Rattle.std.proofs.Common.{◌∙◌, ◌∷◌, ◌++◌, [], List, Option, ap}
use Rattle.std.specs.Option.{option_to_list}
use Rattle.engine_stack.specs.declared.task.Task.{Task}
use Rattle.engine_stack.proofs.StopsBelow.{above_stays, args_stay, frames_stay, registers_stay, within_stays}
use Rattle.engine_stack.proofs.stacks.Frames.stop_below.Goals as goal

pub returns-clause-stops : goal.returns-clause-stops
returns-clause-stops c = record {
  below = c.pop.new.self.items;
  first = c.in-Some.first;
  was = c.pop.ensures.items ∙ ap (λ (o : Option Task). c.pop.new.self.items ++ option_to_list o) c.in-Some.is;
  now = c.push_reserved.ensures.items ∙ ap (λ (l : List Task). l ++ c.in-Some.first ∷ []) c.stop_last.ensures.stopped;
}

pub invariant_of-self : goal.invariant_of-self
invariant_of-self c =
    let s = c.args.self.now in
    let was = c.pop.ensures.items ∙ ap (λ (o : Option Task). c.pop.new.self.items ++ option_to_list o) c.in-Some.is in
    let now = c.push_reserved.ensures.items ∙ ap (λ (l : List Task). l ++ c.in-Some.first ∷ []) c.stop_last.ensures.stopped in
    let room = c.push_reserved.ensures.capacity ∙ c.stop_last.ensures.room.1 ∙ c.pop.ensures.capacity in
    record {
      within = within_stays s.tasks c.push_reserved.new.self c.pop.new.self.items c.in-Some.first was now s.lowest s.within;
      above = above_stays s.tasks c.push_reserved.new.self c.pop.new.self.items c.in-Some.first was now s.lowest s.above;
      programs = registers_stay s.tasks c.push_reserved.new.self s.registers s.programs room c.pop.new.self.items c.in-Some.first was now;
      emissions = args_stay s.tasks c.push_reserved.new.self s.args s.emissions room c.pop.new.self.items c.in-Some.first was now;
    }

pub returns-clause-frames : goal.returns-clause-frames
returns-clause-frames c =
    frames_stay c.args.self.now.tasks c.push_reserved.new.self c.pop.new.self.items c.in-Some.first
    (c.pop.ensures.items ∙ ap (λ (o : Option Task). c.pop.new.self.items ++ option_to_list o) c.in-Some.is)
    (c.push_reserved.ensures.items ∙ ap (λ (l : List Task). l ++ c.in-Some.first ∷ []) c.stop_last.ensures.stopped)
