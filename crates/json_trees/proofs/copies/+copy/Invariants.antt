use Rattle.std.proofs.Common.{◌≡◌, List, ◌++◌, take, map}
use Rattle.serde_json.specs.View as serde_json
use Rattle.serde_json.proofs.Views.{Entry}
use Rattle.json_trees.specs.View.{view, members_view}
use Rattle.json_trees.proofs.copies.+copy.Given as goal

abbrev pub invariant-copy_items-loop-item : goal.invariant-copy_items-loop-item
invariant-copy_items-loop-item l = map view l.copies.items ≡ map serde_json.view (take l.item-index l.item-items)

abbrev pub invariant-copy_members-loop-key : goal.invariant-copy_members-loop-key
invariant-copy_members-loop-key l =
    (done : List Entry) × (l.members.entries ≡ done ++ l.key-iterator) × (members_view l.copies.items ≡ serde_json.members_view done)
