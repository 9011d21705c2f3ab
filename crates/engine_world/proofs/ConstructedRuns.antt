-- The programs that a class and its ancestors name for their objects.
use Rattle.std.proofs.Common.{◌≡◌, ◌∙◌, ℕ, List, [], ◌∷◌, ◌++◌, reverse, None, Some, sym, ap, append_assoc, append-nil}
use Rattle.std.specs.List.{flat_map}
use Rattle.std.proofs.lemmas.Grind.{flat_map-append}
use Rattle.std.proofs.lemmas.List.{reverse-append}
use Rattle.ui_machine.specs.Definition.{Definition}
use Rattle.ui_machine.specs.Definition.Lookups.{class_of}
use Rattle.ui_machine.specs.Rules.Ancestry.{parent_of, lineage}
use Rattle.ui_machine.specs.Rules.Construction.{constructed_runs, run_of}
use Rattle.ui_machine.specs.State.Tasks.{ConstructStep}
use Rattle.type_tree.specs.Tree.{IsTree}
use Rattle.type_tree.proofs.Lines.{line_from-parent, line_from-root}

runs_last : (f : ℕ → List ConstructStep) (ts : List ℕ) (t : ℕ) → flat_map f (reverse (t ∷ ts)) ≡ flat_map f (reverse ts) ++ f t
runs_last f ts t =
    ap (flat_map f) (reverse-append (t ∷ []) ts) ∙ flat_map-append f (reverse ts) (t ∷ []) ∙ ap (λ l. flat_map f (reverse ts) ++ l) (append-nil (f t))

module _ (d : Definition) (tree : IsTree d.types) where
  -- what the class itself names runs behind what its parent leads to
  pub runs_of_child : (t p : ℕ) → parent_of d.types t ≡ Some p → constructed_runs d t ≡ constructed_runs d p ++ run_of (class_of d t).constructed
  runs_of_child t p is =
      ap (λ l. flat_map (λ c. run_of (class_of d c).constructed) (reverse (t ∷ l))) (line_from-parent d.types tree t p is)
      ∙ runs_last (λ c. run_of (class_of d c).constructed) (lineage d.types p) t

  -- the root has its own alone
  pub runs_of_root : (t : ℕ) → parent_of d.types t ≡ None → constructed_runs d t ≡ run_of (class_of d t).constructed
  runs_of_root t none =
      ap (λ l. flat_map (λ c. run_of (class_of d c).constructed) (reverse (t ∷ l))) (line_from-root d.types tree t none) ∙ append-nil (run_of (class_of d t).constructed)

  -- the runs before these steps
  pub runs_before_child : (t p : ℕ) (mid old new : List ConstructStep) → parent_of d.types t ≡ Some p → mid ≡ run_of (class_of d t).constructed ++ old
      → new ≡ constructed_runs d p ++ mid → new ≡ constructed_runs d t ++ old
  runs_before_child t p mid old new is one more =
      more
      ∙ ap (λ steps. constructed_runs d p ++ steps) one
      ∙ sym (append_assoc (constructed_runs d p) (run_of (class_of d t).constructed) old)
      ∙ sym (ap (λ runs. runs ++ old) (runs_of_child t p is))
