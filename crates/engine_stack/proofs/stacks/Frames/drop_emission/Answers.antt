use Rattle.std.specs.List.{list_any}
use Rattle.std.specs.Option.{option_to_list}
use Rattle.std.specs.Prelude.{All}
use Rattle.std.proofs.Common.{◌≡◌, ◌∙◌, ◌+◌, drop, false, min, ◌∷◌, ◌++◌, [], List, Option, Vec, ap, refl, sym, subst, arith}
use Rattle.std.specs.Global.{Global}
use Rattle.engine_stack.specs.Stocks.{is_usual}
use Rattle.g_values.specs.declared.value.Value.{Value}
use Rattle.engine_stack.specs.BuildTasks.{is_of_build}
use Rattle.engine_stack.specs.FirstEmissions.{Emitted, emission_in}
use Rattle.engine_stack.specs.KnownHandlers.{TakesKnownHandlers}
use Rattle.engine_stack.specs.TaskFrames.{args_used, registers_used}
use Rattle.engine_stack.specs.declared.task.Task.{Task}
use Rattle.engine_stack.specs.declared.task.Task.TheVariants as tasks
use Rattle.engine_stack.proofs.FirstEmissions.{emission_found}
use Rattle.engine_stack.proofs.FirstPrograms.{last_gives}
use Rattle.engine_stack.proofs.Vectors.{any_least, framed_more, front_known, has_place, stocked_gone, stocked_less, tasks_off}
use Rattle.engine_stack.proofs.stacks.Frames.drop_emission.Goals as goal

pub give_back-requires : goal.give_back-requires
give_back-requires c =
    let s = c.args.self.now in
    let items = c.pop.ensures.items ∙ ap (λ (o : Option Task). c.pop.new.self.items ++ option_to_list o) c.in-Some.is ∙ ap (λ (t : Task). c.pop.new.self.items ++ t ∷ []) c.in-Emitting.is in
    let place = has_place args_used s.tasks c.pop.new.self s.args c.pop.ensures.capacity s.emissions (tasks.Emitting c.in-Emitting.emission) items in
    let had = ap (λ (v : Vec Value Global). is_usual s.args.room v) c.replace-args.ensures.value in
    record { place = omega (arith, place, had) }

pub invariant_of-self-clause-programs : goal.invariant_of-self-clause-programs
invariant_of-self-clause-programs c =
    let s = c.args.self.now in
    let items = c.pop.ensures.items ∙ ap (λ (o : Option Task). c.pop.new.self.items ++ option_to_list o) c.in-Some.is ∙ ap (λ (t : Task). c.pop.new.self.items ++ t ∷ []) c.in-Emitting.is in
    stocked_gone registers_used s.tasks c.pop.new.self s.registers c.pop.ensures.capacity s.programs (tasks.Emitting c.in-Emitting.emission) items refl

pub invariant_of-self-clause-emissions : goal.invariant_of-self-clause-emissions
invariant_of-self-clause-emissions c =
    let s = c.args.self.now in
    let items = c.pop.ensures.items ∙ ap (λ (o : Option Task). c.pop.new.self.items ++ option_to_list o) c.in-Some.is ∙ ap (λ (t : Task). c.pop.new.self.items ++ t ∷ []) c.in-Emitting.is in
    stocked_less args_used s.tasks c.pop.new.self s.args c.pop.ensures.capacity s.emissions (tasks.Emitting c.in-Emitting.emission) c.give_back.new.self items
    (c.give_back.ensures.given ∙ ap (λ (v : Vec Value Global). record s.args { count = s.args.count + is_usual s.args.room v }) c.replace-args.ensures.value)

pub invariant_of-self-clause-above : goal.invariant_of-self-clause-above
invariant_of-self-clause-above c =
    let s = c.args.self.now in
    let items = c.pop.ensures.items ∙ ap (λ (o : Option Task). c.pop.new.self.items ++ option_to_list o) c.in-Some.is ∙ ap (λ (t : Task). c.pop.new.self.items ++ t ∷ []) c.in-Emitting.is in
    any_least s.lowest c.min-self.result c.pop.new.self.items (tasks.Emitting c.in-Emitting.emission ∷ []) (c.min-self.ensures ∙ ap (λ k. min s.lowest k) (c.len.ensures ∙ c.pop.new.self.ok.0))
    (subst (λ (l : List Task). list_any is_of_build (drop s.lowest l) ≡ false) items s.above)

pub returns-clause-ended : goal.returns-clause-ended
returns-clause-ended c =
    let s = c.args.self.now in
    let f = c.in-Emitting.emission in
    let items = c.pop.ensures.items ∙ ap (λ (o : Option Task). c.pop.new.self.items ++ option_to_list o) c.in-Some.is ∙ ap (λ (t : Task). c.pop.new.self.items ++ t ∷ []) c.in-Emitting.is in
    let own = emission_found s f (last_gives emission_in c.pop.new.self.items s.tasks.items (tasks.Emitting f) items) in
    ap (λ (vs : List Value). record { walk = f.cursor; args = vs; by_event = f.by_event; transfers = f.transfers }) c.give_back.ensures.emptied
    ∙ ap (λ (x : Emitted). record x { args = [] }) (sym own)

pub returns-clause-tasks : goal.returns-clause-tasks
returns-clause-tasks c d hs =
    let items = c.pop.ensures.items ∙ ap (λ (o : Option Task). c.pop.new.self.items ++ option_to_list o) c.in-Some.is ∙ ap (λ (t : Task). c.pop.new.self.items ++ t ∷ []) c.in-Emitting.is in
    tasks_off d hs c.args.self.now.tasks.items c.pop.new.self.items (tasks.Emitting c.in-Emitting.emission) items

pub returns-clause-begun : goal.returns-clause-begun
returns-clause-begun c last all =
    let items = c.pop.ensures.items ∙ ap (λ (o : Option Task). c.pop.new.self.items ++ option_to_list o) c.in-Some.is ∙ ap (λ (t : Task). c.pop.new.self.items ++ t ∷ []) c.in-Emitting.is in
    front_known last c.pop.new.self.items (tasks.Emitting c.in-Emitting.emission) (subst (λ (l : List Task). All (TakesKnownHandlers last) l) items all)

pub returns-clause-frames : goal.returns-clause-frames
returns-clause-frames c =
    let items = c.pop.ensures.items ∙ ap (λ (o : Option Task). c.pop.new.self.items ++ option_to_list o) c.in-Some.is ∙ ap (λ (t : Task). c.pop.new.self.items ++ t ∷ []) c.in-Emitting.is in
    framed_more c.pop.new.self c.args.self.now.tasks (tasks.Emitting c.in-Emitting.emission) refl items
