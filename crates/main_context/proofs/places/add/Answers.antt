use Rattle.std.proofs.Common.{arith, ap, ◌∙◌}
use Rattle.std.specs.List.{insert}
use Rattle.main_context.specs.Places.{index_from}
use Rattle.main_context.proofs.PlaceOrder.{index_within, inserted}
use Rattle.main_context.proofs.places.add.Goals as goal

pub insert-requires : goal.insert-requires
insert-requires c = omega (arith, c.index_from-index.ensures, c.deref.ensures.len, index_within c.args.place c.deref.result.now)

pub returns : goal.returns
returns c =
    c.in-Ok.ensures.items
    ∙ ap (λ i. insert c.args.places.now.items i c.args.place) (c.index_from-index.ensures ∙ ap (index_from c.args.place) c.deref.ensures.value)
    ∙ inserted c.args.place c.args.places.now.items
