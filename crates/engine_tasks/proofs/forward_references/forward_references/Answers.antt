use Rattle.std.proofs.Common.{◌≡◌, ℕ, ◌++◌, ◌-◌, suc, map, drop, sym, ap, ◌∙◌, arith}
use Rattle.ui_machine.specs.Rules.Build.{forward_items}
use Rattle.engine_stack.specs.TaskView.{item_of, items_of, forwards_at}
use Rattle.engine_world.proofs.Building.{object_within, forwards_before}
use Rattle.engine_world.proofs.Prototypes.{forwards_past}
use Rattle.engine_tasks.proofs.forward_references.forward_references.Goals as goal

pub places-init : goal.places-init
places-init c =
    let d = c.args.definition.now in
    record {
      within = omega (arith, c.object_count-left.ensures.count);
      items =
          ap items_of c.new-forwards.ensures.items
          ∙ sym (forwards_past d c.types-types.ensures.basic c.object_count-left.result (omega (arith, c.object_count-left.ensures.count)));
    }

pub places-preserved : goal.places-preserved
places-preserved c =
    let i = c.places.invariant in
    let d = c.args.definition.now in
    let place = c.places.left - 1 in
    let there = object_within d c.types-types.ensures.basic place (omega (arith, c.places-test.true, i.within)) in
    let next : c.places.left ≡ suc place = omega (arith, c.places-test.true) in
    record {
      within = omega (arith, i.within);
      items =
          c.in_ok-add_forwards_of.ensures
          ∙ ap (λ (k : ℕ). forwards_at d k ++ items_of c.places.forwards.items) c.place_numbered.ensures
          ∙ ap (λ items. forwards_at d place ++ items) (i.items ∙ ap (λ n. forward_items n (drop n d.places)) next)
          ∙ sym (forwards_before d place there.0 there.1 there.2);
    }

pub returns : goal.returns
returns c =
    let d = c.args.definition.now in
    let zero : c.places.left ≡ 0 = omega (arith, c.places-test.false) in
    ap (map item_of) c.new.ensures ∙ c.places.invariant.items ∙ ap (λ n. forward_items n (drop n d.places)) zero
