use Rattle.std.proofs.Common.{rules}
use Rattle.std.proofs.lemmas.List.Sorted.{IsPartitionPoint-from_clause}
use Rattle.main_context.specs.Places.{is_before}
use Rattle.main_context.specs.declared.places.Place.{Place}
use Rattle.main_context.proofs.PlaceOrder.{parted, searched}
use Rattle.main_context.proofs.places.index_from.Goals as goal

pub returns : goal.returns
returns c =
    let point = IsPartitionPoint-from_clause (λ (q : Place). is_before q c.args.place) c.args.places.now c.partition_point.result c.partition_point.ensures.partitioned (parted c.args.place c.args.places.now c.requires) (λ a r f called. search rules) in
    searched c.args.place c.args.places.now c.partition_point.result c.partition_point.ensures.bound point
