-- The first fault of a definition, and what is judged by it.
use Rattle.std.proofs.Common.{◌≡◌, refl, sym, ap, ◌∙◌, subst, List, [], ◌∷◌, ◌++◌, None, Some}
use Rattle.ui_machine.specs.Definition.{Definition}
use Rattle.law_typing.specs.Rules.Faults.{Fault}
use Rattle.law_typing.specs.Rules.Sites.{typing_faults}
use Rattle.law_typing.specs.Rules.Handlers.{handler_faults}
use Rattle.law_typing.specs.Rules.BindingRules.{binding_faults, pair_faults}
use Rattle.law_typing.specs.Rules.Brackets.{bracket_faults}
use Rattle.law_typing.specs.Graph.{graph}
use Rattle.law_typing.specs.Verdict.{Verdict, by_faults, by_graph, local_faults, refused, verdict}
use Rattle.law_typing.specs.Verdict.Judges.{Answers}
use Rattle.law_judging.specs.FirstFaults.{FaultsInOrder, FirstIsTold, first_fault, first_of, or_else}

first_joined : (xs ys : List Fault) → first_of (xs ++ ys) ≡ or_else (first_of xs) (first_of ys)
first_joined [] ys = refl
first_joined (x ∷ xs) ys = refl

pub faults_in_order : FaultsInOrder
faults_in_order d =
    first_joined (typing_faults d) (handler_faults d ++ (binding_faults d ++ (pair_faults d ++ bracket_faults d)))
    ∙ ap (or_else (first_of (typing_faults d)))
    (first_joined (handler_faults d) (binding_faults d ++ (pair_faults d ++ bracket_faults d))
    ∙ ap (or_else (first_of (handler_faults d)))
    (first_joined (binding_faults d) (pair_faults d ++ bracket_faults d)
    ∙ ap (or_else (first_of (binding_faults d))) (first_joined (pair_faults d) (bracket_faults d))))

refused_by : (d : Definition) (faults : List Fault) (fault : Fault) → first_of faults ≡ Some fault → by_faults d faults ≡ refused fault
refused_by d [] fault e = absurd (cc)
refused_by d (x ∷ xs) fault e = let h : x ≡ fault = cc in ap refused h

pub first_is_told : FirstIsTold
first_is_told d fault e =
    let v = refused_by d (local_faults d) fault (faults_in_order d ∙ e) in
    told (verdict d) v
  where
    told : (v : Verdict) → v ≡ refused fault → Answers (graph d) v (Some fault)
    told v is = subst (λ w. Answers (graph d) w (Some fault)) (sym is) refl

-- a definition without faults
no_faults : (faults : List Fault) → first_of faults ≡ None → faults ≡ []
no_faults [] e = refl
no_faults (x ∷ xs) e = absurd (cc)

pub lawful : (d : Definition) → first_fault d ≡ None → local_faults d ≡ []
lawful d e = no_faults (local_faults d) (faults_in_order d ∙ e)

pub by_graph_alone : (d : Definition) → first_fault d ≡ None → verdict d ≡ by_graph d (graph d)
by_graph_alone d e = ap (by_faults d) (lawful d e)
