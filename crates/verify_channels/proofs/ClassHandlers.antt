-- What classes run at channels.
use Rattle.std.proofs.Common.{◌≡◌, ◌∙◌, refl, ap, ℕ, List, [], ◌∷◌, ◌++◌, reverse, Option, None, Some, append-nil}
use Rattle.std.specs.List.{flat_map}
use Rattle.std.proofs.lemmas.Grind.{flat_map-append}
use Rattle.std.proofs.lemmas.List.{reverse-append}
use Rattle.ui_machine.specs.Definition.{Definition}
use Rattle.ui_machine.specs.Definition.Lookups.{class_of}
use Rattle.ui_machine.specs.Rules.Ancestry.{lineage, parent_of}
use Rattle.ui_machine.specs.Rules.Construction.{constructed_runs, run_of}
use Rattle.ui_machine.specs.State.Tasks.{ConstructStep, runs, sets, thaws}
use Rattle.type_tree.specs.Tree.{IsTree}
use Rattle.type_tree.proofs.Lines.{line_from-parent, line_from-root}
use Rattle.law_typing.specs.Graph.{listed_if}
use Rattle.law_typing.specs.Graph.Channels.{programs_of}

-- ** constructions

programs_joined : (xs ys : List ConstructStep) → programs_of (xs ++ ys) ≡ programs_of xs ++ programs_of ys
programs_joined [] ys = refl
programs_joined (sets slot v ∷ xs) ys = programs_joined xs ys
programs_joined (runs p ∷ xs) ys = ap (λ ps. p ∷ ps) (programs_joined xs ys)
programs_joined (thaws ∷ xs) ys = programs_joined xs ys

own_run : (o : Option ℕ) → programs_of (run_of o) ≡ listed_if o
own_run None = refl
own_run (Some p) = refl

module _ (d : Definition) where
  own_last : (ts : List ℕ) (t : ℕ) →
      programs_of (flat_map (λ c. run_of (class_of d c).constructed) (reverse (t ∷ ts)))
      ≡ programs_of (flat_map (λ c. run_of (class_of d c).constructed) (reverse ts)) ++ listed_if (class_of d t).constructed
  own_last ts t =
      ap (λ xs. programs_of (flat_map (λ c. run_of (class_of d c).constructed) xs)) (reverse-append (t ∷ []) ts)
      ∙ (ap programs_of (flat_map-append (λ c. run_of (class_of d c).constructed) (reverse ts) (t ∷ [])
      ∙ ap (λ l. flat_map (λ c. run_of (class_of d c).constructed) (reverse ts) ++ l) (append-nil (run_of (class_of d t).constructed)))
      ∙ (programs_joined (flat_map (λ c. run_of (class_of d c).constructed) (reverse ts)) (run_of (class_of d t).constructed)
      ∙ ap (λ ps. programs_of (flat_map (λ c. run_of (class_of d c).constructed) (reverse ts)) ++ ps) (own_run (class_of d t).constructed)))

module _ (d : Definition) (tree : IsTree d.types) where
  -- those of the parent come first
  pub runs_below : (t p : ℕ) → parent_of d.types t ≡ Some p →
      programs_of (constructed_runs d t) ≡ programs_of (constructed_runs d p) ++ listed_if (class_of d t).constructed
  runs_below t p is =
      ap (λ l. programs_of (flat_map (λ c. run_of (class_of d c).constructed) (reverse (t ∷ l)))) (line_from-parent d.types tree t p is)
      ∙ own_last d (lineage d.types p) t

  pub runs_at_root : (t : ℕ) → parent_of d.types t ≡ None → programs_of (constructed_runs d t) ≡ listed_if (class_of d t).constructed
  runs_at_root t is =
      ap (λ l. programs_of (flat_map (λ c. run_of (class_of d c).constructed) (reverse (t ∷ l)))) (line_from-root d.types tree t is) ∙ own_last d [] t
