-- Configurations and steps.
use Rattle.std.proofs.Common.{◌≡◌, refl, ap, sym, ◌∙◌, ℕ, zero, suc, true, List, [], ◌∷◌, Option, None, Some, Ok, arith}
use Rattle.std.specs.Option.{option_map}
use Rattle.ui_machine.specs.Definition.Types.{GType}
use Rattle.ui_machine.specs.Rules.Ancestry.{is_a}
use Rattle.ui_machine.specs.Rules.Transform.{is_one}
use Rattle.ui_machine.specs.Seq.{read, write}
use Rattle.ui_machine.specs.State.Objects.{Object, Objects, living, put}
use Rattle.ui_machine.specs.State.Tasks.{Task}
use Rattle.ui_machine.specs.Steps.{sink_first_floating, act, first_of}
use Rattle.machine_laws.specs.StepLaws.{HeldAtRest, EndsStay, FittingLives, FinalisedFitsNothing}

pub held_at_rest : HeldAtRest
held_at_rest d w counted o = omega arith

pub ends_stay : EndsStay
ends_stay d reply c h =
    ap (first_of d reply c) h.held
    ∙ (ap (λ (ts : List Task). act d c.world reply ts c.counted) h.agenda
    ∙ (ap (λ (floating : List ℕ). Ok (record { world = sink_first_floating c.world floating; agenda = []; counted = c.counted })) h.floating
    ∙ ap (λ (ts : List Task). Ok (record { world = c.world; agenda = ts; counted = c.counted })) (sym h.agenda)))

fitting : (types : List GType) (t : ℕ) (o : Option Object) → is_one types t (option_map (λ (x : Object). x.class) o) ≡ true → (x : Object) × (o ≡ Some x) × (is_a types x.class t ≡ true)
fitting types t None e = absurd (cc)
fitting types t (Some x) e = (x, refl, e)

pub fitting_lives : FittingLives
fitting_lives os types id t e = fitting types t (living os id) e

-- what was taken out is not there
taken_out : (os : Objects) (i : ℕ) → read None (write None os i None) i ≡ None
taken_out [] zero = refl
taken_out [] (suc i) = taken_out [] i
taken_out (o ∷ os) zero = refl
taken_out (o ∷ os) (suc i) = taken_out os i

finalised : (os : Objects) (id : ℕ) → living (put os id None) id ≡ None
finalised os zero = refl
finalised os (suc i) = taken_out os i

pub finalised_fits_nothing : FinalisedFitsNothing
finalised_fits_nothing os types id t = ap (λ (o : Option Object). is_one types t (option_map (λ (x : Object). x.class) o)) (finalised os id)
