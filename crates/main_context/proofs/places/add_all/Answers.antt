use Rattle.std.proofs.Common.{subst, sym, ap, ◌∙◌, arith}
use Rattle.main_context.specs.Places.{IsAscending, with_place}
use Rattle.main_context.proofs.PlaceOrder.{all_added_take, ascending_with}
use Rattle.main_context.proofs.places.add_all.Goals as goal

pub loop-place-preserved : goal.loop-place-preserved
loop-place-preserved c = record {
  added = c.add.ensures ∙ ap (with_place _) (c.reserve.ensures.items ∙ c.loop-place.invariant.added) ∙ sym (all_added_take c.args.more.now c.loop-place.place-index _ c.args.places.now.items (omega arith));
  ascending = subst IsAscending (sym (c.add.ensures ∙ ap (with_place _) c.reserve.ensures.items)) (ascending_with _ c.loop-place.places.items c.loop-place.invariant.ascending);
}
