use Rattle.std.specs.List.{list_any}
use Rattle.engine_stack.specs.BuildTasks.{is_of_build}
use Rattle.std.proofs.Common.{◌≡◌, ◌∙◌, drop, false, min, ◌∷◌, ◌++◌, [], List, Option, ap, refl, subst}
use Rattle.std.specs.Option.{option_to_list}
use Rattle.std.specs.Prelude.{All}
use Rattle.engine_stack.specs.KnownHandlers.{TakesKnownHandlers}
use Rattle.engine_stack.specs.TaskFrames.{args_used, registers_used}
use Rattle.engine_stack.specs.declared.task.Task.{Task}
use Rattle.engine_stack.specs.declared.task.Task.TheVariants as tasks
use Rattle.engine_stack.proofs.Vectors.{any_least, framed_more, front_known, has_place, stocked_gone, stocked_less, tasks_off}
use Rattle.engine_stack.proofs.stacks.Frames.drop_program.Goals as goal

pub give_back-requires : goal.give_back-requires
give_back-requires c =
    let s = c.args.self.now in
    let f = c.in-Running.frame in
    let items = c.pop.ensures.items ∙ ap (λ (o : Option Task). c.pop.new.self.items ++ option_to_list o) c.in-Some.is ∙ ap (λ (t : Task). c.pop.new.self.items ++ t ∷ []) c.in-Running.is in
    let place = has_place registers_used s.tasks c.pop.new.self s.registers c.pop.ensures.capacity s.programs (tasks.Running f) items in
    record { place = place }

pub invariant_of-self-clause-programs : goal.invariant_of-self-clause-programs
invariant_of-self-clause-programs c =
    let s = c.args.self.now in
    let f = c.in-Running.frame in
    let items = c.pop.ensures.items ∙ ap (λ (o : Option Task). c.pop.new.self.items ++ option_to_list o) c.in-Some.is ∙ ap (λ (t : Task). c.pop.new.self.items ++ t ∷ []) c.in-Running.is in
    stocked_less registers_used s.tasks c.pop.new.self s.registers c.pop.ensures.capacity s.programs (tasks.Running f) c.give_back.new.self items c.give_back.ensures.given

pub invariant_of-self-clause-emissions : goal.invariant_of-self-clause-emissions
invariant_of-self-clause-emissions c =
    let s = c.args.self.now in
    let items = c.pop.ensures.items ∙ ap (λ (o : Option Task). c.pop.new.self.items ++ option_to_list o) c.in-Some.is ∙ ap (λ (t : Task). c.pop.new.self.items ++ t ∷ []) c.in-Running.is in
    stocked_gone args_used s.tasks c.pop.new.self s.args c.pop.ensures.capacity s.emissions (tasks.Running c.in-Running.frame) items refl

pub returns-clause-tasks : goal.returns-clause-tasks
returns-clause-tasks c d hs =
    let items = c.pop.ensures.items ∙ ap (λ (o : Option Task). c.pop.new.self.items ++ option_to_list o) c.in-Some.is ∙ ap (λ (t : Task). c.pop.new.self.items ++ t ∷ []) c.in-Running.is in
    tasks_off d hs c.args.self.now.tasks.items c.pop.new.self.items (tasks.Running c.in-Running.frame) items

pub returns-clause-begun : goal.returns-clause-begun
returns-clause-begun c last all =
    let items = c.pop.ensures.items ∙ ap (λ (o : Option Task). c.pop.new.self.items ++ option_to_list o) c.in-Some.is ∙ ap (λ (t : Task). c.pop.new.self.items ++ t ∷ []) c.in-Running.is in
    front_known last c.pop.new.self.items (tasks.Running c.in-Running.frame) (subst (λ (l : List Task). All (TakesKnownHandlers last) l) items all)

pub invariant_of-self-clause-above : goal.invariant_of-self-clause-above
invariant_of-self-clause-above c =
    let s = c.args.self.now in
    let items = c.pop.ensures.items ∙ ap (λ (o : Option Task). c.pop.new.self.items ++ option_to_list o) c.in-Some.is ∙ ap (λ (t : Task). c.pop.new.self.items ++ t ∷ []) c.in-Running.is in
    any_least s.lowest c.min-self.result c.pop.new.self.items (tasks.Running c.in-Running.frame ∷ []) (c.min-self.ensures ∙ ap (λ k. min s.lowest k) (c.len.ensures ∙ c.pop.new.self.ok.0))
    (subst (λ (l : List Task). list_any is_of_build (drop s.lowest l) ≡ false) items s.above)

pub returns-clause-frames : goal.returns-clause-frames
returns-clause-frames c =
    let items = c.pop.ensures.items ∙ ap (λ (o : Option Task). c.pop.new.self.items ++ option_to_list o) c.in-Some.is ∙ ap (λ (t : Task). c.pop.new.self.items ++ t ∷ []) c.in-Running.is in
    framed_more c.pop.new.self c.args.self.now.tasks (tasks.Running c.in-Running.frame) refl items
