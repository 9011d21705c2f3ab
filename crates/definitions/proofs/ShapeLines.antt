-- The shape of a class that names none is that of its parent.
use Rattle.std.proofs.Common.{◌≡◌, ℕ, List, Option, None, Some, length, sym, ap, ◌∙◌}
use Rattle.ui_machine.specs.Definition.Types.{GType}
use Rattle.ui_machine.specs.Rules.Ancestry.{line_from, parent_of}
use Rattle.ui_machine.specs.Rules.EmissionPlan.{first_given, or_else}
use Rattle.type_tree.specs.Tree.{IsTree}
use Rattle.type_tree.proofs.Lines.{line_from-parent}
use Rattle.definition_format.specs.Denoted.Shapes.{shape_by}

pub shape_child : (types : List GType) (tree : IsTree types) (own : ℕ → Option ℕ) (t p : ℕ) → parent_of types t ≡ Some p → own t ≡ None → shape_by types own p ≡ shape_by types own t
shape_child types tree own t p h none =
    ap (first_given own) (sym (line_from-parent types tree t p h))
    ∙ ap (λ o. or_else o (first_given own (line_from (length types) types (parent_of types t)))) (sym none)
