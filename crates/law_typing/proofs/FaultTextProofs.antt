-- The lines of refusals compute, and a verifier has one answer, apart from which cycle it reports.
use Rattle.std.specs.Fmt.{digits}
use Rattle.std.proofs.Common.{◌≡◌, inl, inr, ◌⊎◌, refl, sym, subst, ◌∙◌, Option}
use Rattle.law_typing.specs.Rules.Typing.{data_in, passing, two_numbers, two_passing, moving, reckoning, comparing, sameness, negating, combining, joining, converting, property_of, get_property, changing_none, set_property, place_for, look_up_object, adopting, arguments, emitting, program_named, connecting, on_handlers, attaching, methods_for, method_named, calling, entering, branching, branching_null, returning}
use Rattle.law_typing.specs.Rules.Faults.{Fault}
use Rattle.law_typing.specs.Graph.{graph}
use Rattle.law_typing.specs.Verdict.{Verdict, verdict, has_cycle}
use Rattle.law_typing.specs.Verdict as verdicts
use Rattle.law_typing.specs.Verdict.Judges.{Answers}
use Rattle.law_typing.specs.Laws.FaultTexts.{FaultTexts, JudgesOnce}

pub fault_texts : FaultTexts
unfolding digits data_in passing two_numbers two_passing moving reckoning comparing sameness negating combining joining converting property_of get_property changing_none set_property place_for look_up_object adopting arguments emitting program_named connecting on_handlers attaching methods_for method_named calling entering branching branching_null returning
fault_texts = record {
  set_construct_only = refl;
  unfit_pass = refl;
  unfit_handler = refl;
  unfit_child = refl;
  unfit_class_handler = refl;
  unfit_binding = refl;
  second_pair = refl;
  open_freeze = refl;
  cycle = refl;
  told = record { cycle = refl; first = refl; once = refl };
  too_large = refl;
}

pub judges_once : JudgesOnce
judges_once d a b x y = go (verdict d) refl x y
  where
    go : (v : Verdict) → verdict d ≡ v → Answers (graph d) (verdict d) a → Answers (graph d) (verdict d) b → (a ≡ b) ⊎ (verdict d ≡ has_cycle)
    go (verdicts.accepted lines) e x y =
        let p = subst (λ v. Answers (graph d) v a) e x in let q = subst (λ v. Answers (graph d) v b) e y in inl (p ∙ sym q)
    go (verdicts.refused fault) e x y =
        let p = subst (λ v. Answers (graph d) v a) e x in let q = subst (λ v. Answers (graph d) v b) e y in inl (p ∙ sym q)
    go verdicts.has_cycle e x y = inr e
