-- What an event that emits comes to, by what is given.
use Rattle.std.proofs.Common.{◌≡◌, ℕ, true, List, [], ◌∷◌, Option, Ok, Err, refl, sym, ap, subst, ◌∙◌}
use Rattle.ui_machine.specs.declared.arm.Arm.{Arm}
use Rattle.ui_machine.specs.declared.arm.Halt.{Halt}
use Rattle.ui_machine.specs.declared.arm.Halt.TheVariants as halts
use Rattle.ui_machine.specs.Definition.{Definition}
use Rattle.ui_machine.specs.Definition.Places.{Given}
use Rattle.ui_machine.specs.Definition.Values.{Value}
use Rattle.ui_machine.specs.Outcome.{Answer, Stops, ◌>>=◌}
use Rattle.ui_machine.specs.Rules.Build.{held_object}
use Rattle.ui_machine.specs.Rules.Connections.{detail_in}
use Rattle.ui_machine.specs.Rules.EmissionPlan.{new_emission}
use Rattle.ui_machine.specs.Rules.Events.{emit_from_event, given_values}
use Rattle.ui_machine.specs.State.Config.{Started, World, starts}
use Rattle.ui_machine.specs.State.Tasks.{Beginning, Task}
use Rattle.ui_machine.specs.Steps.{before, uncounted}

-- what stops, stops all that follows
pub stops_on : {A B : Type 0} (halt : Halt) (a : Answer A) (f : A → Answer B) → Stops halt a → Stops halt (a >>= f)
stops_on halts.OutOfMemory a f s = tt
stops_on (halts.Stuck arm) a f s = ap (λ x. x >>= f) s

module _ (d : Definition) (w : World) (place n : ℕ) (args : List Given) (detail : Option (List ℕ)) (rest : List Task) (count : ℕ) where
  begins : ℕ → Option (List ℕ) → List Value → Answer Started
  begins id stands given = starts w (Beginning (new_emission id n stands given true) ∷ [])

  with_args : ℕ → Option (List ℕ) → Answer Started
  with_args id stands = given_values w args >>= begins id stands

  with_detail : ℕ → Answer Started
  with_detail id = detail_in d w id n detail >>= with_args id

  is_emit : emit_from_event d w place n args detail ≡ (held_object w place >>= with_detail)
  unfolding emit_from_event with_detail with_args begins
  is_emit = refl

  pub not_held : (arm : Arm) → held_object w place ≡ Err arm → uncounted rest count (emit_from_event d w place n args detail) ≡ Err arm
  not_held arm h = ap (uncounted rest count) (is_emit ∙ ap (λ (a : Answer ℕ). a >>= with_detail) h)

  module _ (id : ℕ) (held : held_object w place ≡ Ok id) where
    by_detail : emit_from_event d w place n args detail ≡ with_detail id
    by_detail = is_emit ∙ ap (λ (a : Answer ℕ). a >>= with_detail) held

    pub detail_stops : (halt : Halt) → Stops halt (detail_in d w id n detail) → Stops halt (uncounted rest count (emit_from_event d w place n args detail))
    unfolding with_detail
    detail_stops halt s =
        subst (λ (a : Answer Started). Stops halt (uncounted rest count a)) (sym by_detail)
        (stops_on halt (with_detail id) (λ x. Ok (before rest count x)) (stops_on halt (detail_in d w id n detail) (with_args id) s))

    module _ (stands : Option (List ℕ)) (at : detail_in d w id n detail ≡ Ok stands) where
      by_args : emit_from_event d w place n args detail ≡ with_args id stands
      unfolding with_detail
      by_args = by_detail ∙ ap (λ (a : Answer (Option (List ℕ))). a >>= with_args id) at

      pub args_stop : (halt : Halt) → Stops halt (given_values w args) → Stops halt (uncounted rest count (emit_from_event d w place n args detail))
      unfolding with_args
      args_stop halt s =
          subst (λ (a : Answer Started). Stops halt (uncounted rest count a)) (sym by_args)
          (stops_on halt (with_args id stands) (λ x. Ok (before rest count x)) (stops_on halt (given_values w args) (begins id stands) s))

      pub emits : (given : List Value) → given_values w args ≡ Ok given → emit_from_event d w place n args detail ≡ starts w (Beginning (new_emission id n stands given true) ∷ [])
      unfolding with_args begins
      emits given are = by_args ∙ ap (λ (a : Answer (List Value)). a >>= begins id stands) are
