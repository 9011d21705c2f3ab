-- Which value a reply has, once an event has ended.
use Rattle.std.proofs.Common.{◌≡◌, Option, option_map, sym, subst}
use Rattle.ui_machine.specs.State.Config.{Config, World}
use Rattle.g_values.specs.View.{kind_view}
use Rattle.g_values.specs.declared.kind.Kind.{Kind}
use Rattle.g_values.specs.declared.value.Value.{Value}
use Rattle.engine_dispatches.specs.declared.courses.Course.{Course}
use Rattle.engine_dispatches.specs.declared.courses.Progress.{Progress}
use Rattle.engine_dispatches.specs.declared.courses.Progress.TheVariants as progress
use Rattle.engine_dispatches.specs.declared.dispatches.Reply.{Reply}
use Rattle.engine_dispatches.specs.Asked.{IsAnswerTo}
use Rattle.engine_dispatches.specs.Courses.{BeginsNext, IfGoesOn}

-- where no dispatch is left it has led to what the ones before led to
pub ended_with : {p : Progress} {reply : Reply} → p ≡ progress.Ended reply → (old : Course) (w : World) (view : Config) → BeginsNext p old w view → reply ≡ old.so_far
ended_with is old w view begins = (subst (λ (x : Progress). BeginsNext x old w view) is begins).0

-- the same value answers the same kind
pub answers_as : {asked other : Option Kind} → asked ≡ other → {value same : Option Value} → same ≡ value → IsAnswerTo (option_map kind_view asked) value → IsAnswerTo (option_map kind_view other) same
answers_as {asked} {other} is {value} {same} value_is answers =
    subst (λ (k : Option Kind). IsAnswerTo (option_map kind_view k) same) is (subst (λ (v : Option Value). IsAnswerTo (option_map kind_view asked) v) (sym value_is) answers)

-- the next dispatch is of the same event
pub asked_on : {x : Progress} {next : Course} → x ≡ progress.UnderWay next → {asked : Option Kind} → IfGoesOn x (λ c. c.asked ≡ asked) → next.asked ≡ asked
asked_on is {asked} h = subst (λ (z : Progress). IfGoesOn z (λ c. c.asked ≡ asked)) is h
