-- The way from a class up to the one that declares something.
use Rattle.std.proofs.Common.{◌≡◌, ℕ, Bool, true, false, cond, List, length, None, Some, sym, ap, ◌∙◌}
use Rattle.ui_machine.specs.Definition.Types.{GType}
use Rattle.ui_machine.specs.Rules.Ancestry.{line_from, lineage, parent_of}
use Rattle.type_tree.specs.Tree.{IsTree}
use Rattle.type_tree.proofs.Lines.{line_from-parent, line_from-root}
use Rattle.class_texts.specs.Owners.{last_with}

module _ (types : List GType) (has : ℕ → Bool) where
  -- a class that has it not
  pub owner_below : (owner t : ℕ) → has t ≡ false → last_with has owner (lineage types t) ≡ owner
  owner_below owner t missing = ap (λ b. cond b (last_with has t (line_from (length types) types (parent_of types t))) owner) missing

  -- a class that has it, and its parent
  pub owner_child : (tree : IsTree types) (owner t p : ℕ) → parent_of types t ≡ Some p → has t ≡ true
      → last_with has t (lineage types p) ≡ last_with has owner (lineage types t)
  owner_child tree owner t p h it =
      ap (last_with has t) (sym (line_from-parent types tree t p h))
      ∙ sym (ap (λ b. cond b (last_with has t (line_from (length types) types (parent_of types t))) owner) it)

  -- a root that has it
  pub owner_root : (tree : IsTree types) (owner t : ℕ) → parent_of types t ≡ None → has t ≡ true → last_with has owner (lineage types t) ≡ t
  owner_root tree owner t h it =
      ap (λ b. cond b (last_with has t (line_from (length types) types (parent_of types t))) owner) it
      ∙ ap (last_with has t) (line_from-root types tree t h)
