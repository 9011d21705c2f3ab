use Rattle.std.proofs.Common.{◌≡◌, ◌∙◌, ◌+◌, ◌<◌, suc, ℕ, append_assoc, ◌++◌, [], ◌∷◌, List, length, option_map, refl, sym, ap, arith, rules}
use Rattle.ui_machine.specs.Rules.Build.{building, first_transfer, new_binding, with_binding}
use Rattle.ui_machine.specs.State.Config.{World}
use Rattle.ui_machine.specs.State.Tasks.{Building, Item, Task}
use Rattle.ui_machine.specs.Steps.{uncounted}
use Rattle.definition_format.specs.Meaning.{bind_view}
use Rattle.engine_world.specs.TaskView.{agenda_of}
use Rattle.engine_stack.specs.TaskView.{binds_from}
use Rattle.engine_world.specs.View.{world_of}
use Rattle.engine_world.proofs.Counts.{keeps_on}
use Rattle.engine_world.proofs.Left.{same_agenda}
use Rattle.engine_tasks.specs.BindView.{ends_of, ends_at}
use Rattle.engine_tasks.proofs.Binding.{bound, next_there, too_late, by_found, between}
use Rattle.engine_world.proofs.Ableness.{able_as, first, in_uncounted}
use Rattle.engine_tasks.proofs.binds.bind_from_build.Goals as goal

pub ends_of-ends-requires : goal.ends_of-ends-requires
ends_of-ends-requires c =
    let d = c.args.definition.now in
    let e = c.args.engine.now in
    let w = world_of e.world in
    let number = c.args.number in
    let b = bind_view c.in-Some.meant.now in
    let items = binds_from d (suc number) in
    let within : number < length d.bindings = omega (arith, c.binding_count.ensures, c.if-number-binding_count.false) in
    let found = sym c.binding.ensures ∙ ap (option_map (λ b. bind_view b.now)) c.in-Some.is in
    let is = ap (λ (items : List Item). building d w items) (next_there d number within) ∙ by_found d w number items b found in
    record { able = first (ends_at w b) (between d w number items b) (able_as is (in_uncounted _ _ _ c.requires.able)) }

pub returns-then-is_late : goal.returns-then-is_late
returns-then-is_late c = record {
  step =
      let d = c.args.definition.now in
      let e = c.args.engine.now in
      let w = world_of e.world in
      let number = c.args.number in
      let items = binds_from d (suc number) in
      let within : number < length d.bindings = omega (arith, c.binding_count.ensures, c.if-number-binding_count.false) in
      let found = sym c.binding.ensures ∙ ap (option_map (λ b. bind_view b.now)) c.in-Some.is in
      let late = sym c.is_any_disposed-is_late.ensures ∙ c.if-is_late.true in
      let agenda = c.push_task.ensures.agenda d ∙ ap (λ (n : ℕ). Building (binds_from d n) ∷ agenda_of d e) (let more : number + 1 ≡ suc number = omega arith in more) in
      ap (λ (its : List Item). uncounted (agenda_of d e) e.counted (building d w its)) (next_there d number within)
      ∙ ap (uncounted (agenda_of d e) e.counted) (too_late d w number items (bind_view c.in-Some.meant.now) found (ends_of c.ends_of-ends.result) c.ends_of-ends.ensures late)
      ∙ rw (c.push_task.ensures.world, c.push_task.ensures.same, agenda) refl;
  quiet = search rules;
  counted = c.push_task.ensures.counted c.args.definition.now;
  room = search rules;
}

pub returns : goal.returns
returns c = record {
  step =
      let d = c.args.definition.now in
      let e = c.args.engine.now in
      let w = world_of e.world in
      let number = c.args.number in
      let b = bind_view c.in-Some.meant.now in
      let ends = c.ends_of-ends.result in
      let items = binds_from d (suc number) in
      let within : number < length d.bindings = omega (arith, c.binding_count.ensures, c.if-number-binding_count.false) in
      let found = sym c.binding.ensures ∙ ap (option_map (λ b. bind_view b.now)) c.in-Some.is in
      let early = sym c.is_any_disposed-is_late.ensures ∙ c.if-is_late.false in
      let pushed = c.push_task.ensures.agenda d ∙ ap (λ (n : ℕ). Building (binds_from d n) ∷ agenda_of d e) (let more : number + 1 ≡ suc number = omega arith in more) in
      let agenda = same_agenda d c.push_first_transfer.new.engine c.bind.new.engine c.bind.ensures.same.0 c.bind.ensures.handlers
      ∙ c.push_first_transfer.ensures.agenda d ∙ ap (λ (ts : List Task). first_transfer number b ++ ts) pushed in
      let world = c.in_ok-bind.ensures.world ∙ ap (λ (v : World). with_binding v (new_binding number b ends.source.0 ends.target.0)) (c.push_first_transfer.ensures.world ∙ c.push_task.ensures.world) in
      let count = c.bind.ensures.same.1 ∙ c.push_first_transfer.ensures.same ∙ c.push_task.ensures.same in
      ap (λ (its : List Item). uncounted (agenda_of d e) e.counted (building d w its)) (next_there d number within)
      ∙ ap (uncounted (agenda_of d e) e.counted) (bound d w number items b found (ends_of ends) c.ends_of-ends.ensures early)
      ∙ rw (world, count, agenda, append_assoc (first_transfer number b) (Building items ∷ []) (agenda_of d e)) refl;
  quiet = search rules;
  counted =
      let d = c.args.definition.now in
      keeps_on d _ _ _ (c.push_task.ensures.counted d) (keeps_on d _ _ _ (c.push_first_transfer.ensures.counted d) c.bind.ensures.counted);
  room = search rules;
}
