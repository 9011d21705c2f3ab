use Rattle.std.proofs.Common.{◌≡◌, ◌++◌, List, ℕ, map, take}
use Rattle.ui_machine.specs.Rules.Construction.{nearest_shape}
use Rattle.definition_format.specs.Meaning.{name_bytes}
use Rattle.law_peers.specs.Needs.{methods_in}
use Rattle.native_peers.specs.Matching.{need_view}
use Rattle.needed_peers.proofs.needs.add_place.Given as goal

abbrev pub invariant-names : goal.invariant-names
invariant-names l =
    let d = l.definition in
    map need_view l.needs.items
    ≡ map need_view l.fn.needs.items
    ++ map (λ (name : List ℕ). record { name = name; methods = methods_in d (nearest_shape d l.entry.class) }) (name_bytes (take l.name-index l.entry.peers.now))
