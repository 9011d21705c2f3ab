-- What a sort of a graph's nodes answers.
use Rattle.verify_order.specs.Graphs.{Graph, IsOrder, IsCycle}
use Rattle.verify_order.specs.declared.orders.Sorted.{Sorted}
use Rattle.verify_order.specs.declared.orders.Sorted.TheVariants as sorted

-- an order of the graph's nodes, or a cycle of it
abbrev pub Sorts : Graph → Sorted → Type 0
Sorts g (sorted.Order nodes) = IsOrder g nodes.items
Sorts g (sorted.Cycle nodes) = IsCycle g nodes.items
