use Rattle.std.proofs.Common.{◌≡◌, ◌∙◌, ℕ, Bool, not, List, Option, Bor, sym, refl, true, false, is_some, Some, None}
use Rattle.std.specs.List.{filter_map}
use Rattle.ui_machine.specs.Definition.Types.{GType}
use Rattle.type_tree.specs.Adding.{interface_named, would_be, required_by}
use Rattle.type_tree.proofs.Missing.{first_of-found, first_of-after}
use Rattle.type_tree.proofs.tree.TypeTree.missing_type.Goals as goal

abbrev named : List GType → Bor (List ℕ) → Option ℕ
named types name = interface_named types name.now

abbrev is_missing : List GType → ℕ → List (Bor (List ℕ)) → ℕ → Bool
is_missing types parent names t = not (would_be types parent (filter_map (named types) names) t)

some_of : (o : Option ℕ) → true ≡ is_some o → (m : ℕ) × (o ≡ Some m)
some_of None h = cc
some_of (Some m) h = (m, refl)

none_of : (o : Option ℕ) → false ≡ is_some o → o ≡ None
none_of None h = refl
none_of (Some m) h = cc

pub returns-then-is_some : goal.returns-then-is_some
returns-then-is_some c =
    let types = c.args.self.now in
    let names = c.args.interfaces.now in
    let found = some_of c.missing_of-missing.result c.if-is_some.ensures in
    found.1 ∙ sym (first_of-found (is_missing types c.args.parent names) (named types) (required_by types) names c.names.name-index found.0 _ c.names-test.true (sym c.missing_of-missing.ensures ∙ found.1))
    ∙ c.names.invariant

pub names-preserved : goal.names-preserved
names-preserved c =
    let types = c.args.self.now in
    let names = c.args.interfaces.now in
    first_of-after (is_missing types c.args.parent names) (named types) (required_by types) names c.names.name-index _ c.names-test.true (sym c.missing_of-missing.ensures ∙ none_of c.missing_of-missing.result c.if-is_some.ensures)
    ∙ c.names.invariant
