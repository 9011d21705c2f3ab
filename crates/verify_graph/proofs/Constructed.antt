-- Whether a construction runs a program.
use Rattle.std.proofs.Common.{◌≡◌, ◌∙◌, refl, ℕ, Bool, true, false, List, [], ◌∷◌, ◌++◌, length, reverse, Option, None, Some, is_some, sym, ap, append-nil}
use Rattle.std.specs.Prelude.{◌||◌}
use Rattle.std.specs.List.{flat_map}
use Rattle.std.proofs.lemmas.Grind.{flat_map-append}
use Rattle.std.proofs.lemmas.List.{reverse-append}
use Rattle.ui_machine.specs.Definition.{Definition}
use Rattle.ui_machine.specs.Definition.Lookups.{class_of}
use Rattle.ui_machine.specs.Rules.Ancestry.{line_from, lineage, parent_of}
use Rattle.ui_machine.specs.Rules.Construction.{constructed_runs, run_of}
use Rattle.ui_machine.specs.State.Tasks.{ConstructStep, sets, runs, thaws}
use Rattle.type_tree.specs.Tree.{IsTree}
use Rattle.type_tree.proofs.Lines.{line_from-parent, line_from-root}
use Rattle.law_typing.specs.Graph.Channels.{is_filled, programs_of}

programs_joined : (xs ys : List ConstructStep) → programs_of (xs ++ ys) ≡ programs_of xs ++ programs_of ys
programs_joined [] ys = refl
programs_joined (sets slot v ∷ xs) ys = programs_joined xs ys
programs_joined (runs p ∷ xs) ys = ap (λ ps. p ∷ ps) (programs_joined xs ys)
programs_joined (thaws ∷ xs) ys = programs_joined xs ys

filled_joined : {A : Type 0} → (xs ys : List A) → is_filled (xs ++ ys) ≡ (is_filled xs || is_filled ys)
filled_joined [] ys = refl
filled_joined (x ∷ xs) ys = refl

filled_run : (o : Option ℕ) → is_filled (programs_of (run_of o)) ≡ is_some o
filled_run None = refl
filled_run (Some p) = refl

runs_last : (f : ℕ → List ConstructStep) (ts : List ℕ) (t : ℕ) → flat_map f (reverse (t ∷ ts)) ≡ flat_map f (reverse ts) ++ f t
runs_last f ts t =
    ap (flat_map f) (reverse-append (t ∷ []) ts) ∙ flat_map-append f (reverse ts) (t ∷ []) ∙ ap (λ l. flat_map f (reverse ts) ++ l) (append-nil (f t))

or_true : (b : Bool) → (b || true) ≡ true
or_true true = refl
or_true false = refl

or_false : (b : Bool) → (b || false) ≡ b
or_false true = refl
or_false false = refl

module _ (d : Definition) where
  -- the ancestors of a class
  abbrev above : ℕ → List ℕ
  above t = line_from (length d.types) d.types (parent_of d.types t)

  own_last : (ts : List ℕ) (t : ℕ) →
      is_filled (programs_of (flat_map (λ c. run_of (class_of d c).constructed) (reverse (t ∷ ts))))
      ≡ (is_filled (programs_of (flat_map (λ c. run_of (class_of d c).constructed) (reverse ts))) || is_some (class_of d t).constructed)
  own_last ts t =
      ap (λ steps. is_filled (programs_of steps)) (runs_last (λ c. run_of (class_of d c).constructed) ts t)
      ∙ (ap is_filled (programs_joined (flat_map (λ c. run_of (class_of d c).constructed) (reverse ts)) (run_of (class_of d t).constructed))
      ∙ (filled_joined (programs_of (flat_map (λ c. run_of (class_of d c).constructed) (reverse ts))) (programs_of (run_of (class_of d t).constructed))
      ∙ ap (λ b. is_filled (programs_of (flat_map (λ c. run_of (class_of d c).constructed) (reverse ts))) || b) (filled_run (class_of d t).constructed)))

  -- where the class itself names one
  pub runs_own : (t : ℕ) → is_some (class_of d t).constructed ≡ true → true ≡ is_filled (programs_of (constructed_runs d t))
  runs_own t own =
      sym (own_last (above t) t ∙ (ap (λ b. is_filled (programs_of (flat_map (λ c. run_of (class_of d c).constructed) (reverse (above t)))) || b) own
      ∙ or_true (is_filled (programs_of (flat_map (λ c. run_of (class_of d c).constructed) (reverse (above t)))))))

module _ (d : Definition) (tree : IsTree d.types) where
  -- where it names none, its parent decides
  pub runs_of_parent : (t p : ℕ) → is_some (class_of d t).constructed ≡ false → parent_of d.types t ≡ Some p →
      is_filled (programs_of (constructed_runs d p)) ≡ is_filled (programs_of (constructed_runs d t))
  runs_of_parent t p none is =
      sym (ap (λ l. is_filled (programs_of (flat_map (λ c. run_of (class_of d c).constructed) (reverse (t ∷ l))))) (line_from-parent d.types tree t p is)
      ∙ (own_last d (lineage d.types p) t
      ∙ (ap (λ b. is_filled (programs_of (constructed_runs d p)) || b) none ∙ or_false (is_filled (programs_of (constructed_runs d p))))))

  -- and the root runs none
  pub runs_of_root : (t : ℕ) → is_some (class_of d t).constructed ≡ false → parent_of d.types t ≡ None →
      false ≡ is_filled (programs_of (constructed_runs d t))
  runs_of_root t none is =
      sym (ap (λ l. is_filled (programs_of (flat_map (λ c. run_of (class_of d c).constructed) (reverse (t ∷ l))))) (line_from-root d.types tree t is)
      ∙ (own_last d [] t ∙ none))
