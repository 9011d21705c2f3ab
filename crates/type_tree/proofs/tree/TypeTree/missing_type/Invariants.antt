use Rattle.std.proofs.Common.{◌≡◌, drop, not}
use Rattle.std.specs.List.{filter_map}
use Rattle.type_tree.specs.Adding.{interface_named, missing_type, would_be, required_by}
use Rattle.type_tree.proofs.Missing.{first_of}
use Rattle.type_tree.proofs.tree.TypeTree.missing_type.Given as goal

abbrev pub invariant-names : goal.invariant-names
invariant-names l =
    let all = filter_map (λ name. interface_named l.self name.now) l.interfaces in
    first_of (λ t. not (would_be l.self l.parent all t)) (λ name. interface_named l.self name.now) (required_by l.self) (drop l.name-index l.interfaces)
    ≡ missing_type l.self l.parent all
