use Rattle.std.proofs.Common.{rules, FitsSigned}
use Rattle.std.specs.Int.{w128}
use Rattle.std.proofs.lemmas.Int.{to_z-of_z}
use Rattle.std.proofs.lemmas.List.Sorted.{IsPartitionPoint-from_clause}
use Rattle.main_context.specs.Places.{is_up_to}
use Rattle.main_context.proofs.PlaceOrder.{parted_by_rank, taken}
use Rattle.main_context.proofs.places.up_to.Goals as goal

pub returns : goal.returns
returns c =
    let fits : FitsSigned w128 c.args.rank = c.ranges.rank in
    let point = IsPartitionPoint-from_clause (is_up_to c.args.rank) c.args.places.now c.partition_point-count.result c.partition_point-count.ensures.partitioned (parted_by_rank c.args.rank c.args.places.now c.requires) (λ a r f called. search (rules, to_z-of_z)) in
    taken (is_up_to c.args.rank) c.args.places.now c.partition_point-count.result c.partition_point-count.ensures.bound point
