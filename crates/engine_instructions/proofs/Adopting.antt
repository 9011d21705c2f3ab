-- What an instruction comes to by which an object becomes another's child, or does not.
use Rattle.std.proofs.Common.{◌≡◌, ◌∙◌, ap, ℕ, Bool, true, false, cond, nat_eq, ◌||◌, Option, None, Some, IsSome, is_some, Ok, Err}
use Rattle.std.specs.Prelude.{codes, is_none}
use Rattle.ui_machine.specs.declared.arm.Arm.TheVariants as arms
use Rattle.ui_machine.specs.declared.arm.Halt.{Halt}
use Rattle.ui_machine.specs.declared.arm.Halt.TheVariants as halts
use Rattle.ui_machine.specs.Definition.{Definition}
use Rattle.ui_machine.specs.Definition.Values as values
use Rattle.ui_machine.specs.Instructions.Objects.{adopting}
use Rattle.ui_machine.specs.Instructions.Registers.{operand_in, tells, written_to}
use Rattle.ui_machine.specs.Outcome.{After, Answer, Stops, known, ◌>>=◌}
use Rattle.ui_machine.specs.Output.Lines as lines
use Rattle.ui_machine.specs.Rules.Children.{adopted, is_unadoptable, with_family}
use Rattle.ui_machine.specs.State.Config.{Started, World, said}
use Rattle.ui_machine.specs.State.Objects.{Object, living}
use Rattle.ui_machine.specs.State.Tasks.{Frame}
use Rattle.instance_tables.specs.Family.{refusal}
use Rattle.instance_tables.specs.declared.error.AdoptError.TheVariants.{ChildLimit, HasParent}
use Rattle.engine_world.specs.KinView.{joined}
use Rattle.engine_world.proofs.Emits.{stops_on}
use Rattle.engine_instructions.proofs.ObjectSteps.{operand_lives}
use Rattle.engine_instructions.proofs.Starting.{stops_as}

module _ (d : Definition) (w : World) (f : Frame) (to parent child : ℕ) where
  abbrev tells_family : After World Bool → Answer Started
  tells_family family = tells family to f

  abbrev adopts_of : ℕ → ℕ → Answer Started
  adopts_of p c = adopted d w p c >>= tells_family

  pub adopt_no_parent : (halt : Halt) → Stops halt (operand_in w f parent) → Stops halt (adopting d w f to parent child)
  unfolding adopting
  adopt_no_parent halt s = stops_on halt (operand_in w f parent) (λ p. operand_in w f child >>= adopts_of p) s

  module _ (p : ℕ) (above : operand_in w f parent ≡ Ok p) where
    by_parent : adopting d w f to parent child ≡ (operand_in w f child >>= adopts_of p)
    unfolding adopting
    by_parent = ap (λ (a : Answer ℕ). a >>= λ p. operand_in w f child >>= adopts_of p) above

    pub adopt_no_child : (halt : Halt) → Stops halt (operand_in w f child) → Stops halt (adopting d w f to parent child)
    adopt_no_child halt s = stops_as halt (adopting d w f to parent child) _ by_parent (stops_on halt (operand_in w f child) (adopts_of p) s)

    module _ (c : ℕ) (below : operand_in w f child ≡ Ok c) where
      -- what is left by whether it may not be
      abbrev left_by : Bool → After World Bool
      left_by forbids = cond forbids (record { state = said d w (lines.limit (codes "adopt")); answer = false }) (record { state = with_family d w p c; answer = true })

      by_both : adopting d w f to parent child ≡ adopts_of p c
      by_both = by_parent ∙ ap (λ (a : Answer ℕ). a >>= adopts_of p) below

      -- where none may become the other's child, for a reason that stops
      pub adopt_stops : (halt : Halt) → Stops halt (joined d w p c) → Stops halt (adopting d w f to parent child)
      adopt_stops halt s = stops_as halt (adopting d w f to parent child) _ by_both (by halt (adopted d w p c) s)
        where
          by : (halt : Halt) (family : Answer (After World Bool)) → Stops halt (family >>= λ (x : After World Bool). Ok x.state) → Stops halt (family >>= tells_family)
          by halts.OutOfMemory family s = tt
          by (halts.Stuck arm) (Ok x) s = absurd (cc s)
          by (halts.Stuck arm) (Err other) s = let same : other ≡ arm = cc s in ap Err same

      module _ (free : Bool) (may : is_none (refusal p (living w.objects p) c (living w.objects c)) ≡ free) where
        forbidden : (b r : Bool) → is_none (cond b (Some (cond r HasParent ChildLimit)) None) ≡ free → tells_family (left_by b) ≡ written_to (left_by b).state to (Some (values.bool free)) f
        forbidden true r so = ap (λ (b : Bool). written_to (left_by true).state to (Some (values.bool b)) f) so
        forbidden false r so = ap (λ (b : Bool). written_to (left_by false).state to (Some (values.bool b)) f) so

        of_both : Option Object → Option Object → Answer (After World Bool)
        of_both x y = known arms.Operand x >>= λ x. known arms.Operand y >>= λ y. Ok (left_by (is_unadoptable p x c y))

        is_of_both : adopting d w f to parent child ≡ (of_both (living w.objects p) (living w.objects c) >>= tells_family)
        unfolding adopted of_both
        is_of_both = by_both

        -- what is written does not hang on the world that is left
        pub adopts_somewhere : (u : World) × (adopting d w f to parent child ≡ written_to u to (Some (values.bool free)) f)
        unfolding of_both
        adopts_somewhere = by (living w.objects p) (living w.objects c) (operand_lives w f parent p above) (operand_lives w f child c below) may is_of_both
          where
            by : (x y : Option Object) → IsSome x → IsSome y → is_none (refusal p x c y) ≡ free → adopting d w f to parent child ≡ (of_both x y >>= tells_family)
                → (u : World) × (adopting d w f to parent child ≡ written_to u to (Some (values.bool free)) f)
            by None y none some so is = cc none
            by (Some x) None some none so is = cc none
            by (Some x) (Some y) one other so is = ((left_by (is_unadoptable p x c y)).state, is ∙ forbidden (is_unadoptable p x c y) (is_some y.parent || nat_eq p c) so)

        pub adopts : (new : World) → joined d w p c ≡ Ok new → adopting d w f to parent child ≡ written_to new to (Some (values.bool free)) f
        unfolding adopted of_both
        adopts new is = is_of_both ∙ by (living w.objects p) (living w.objects c) may is
          where
            by : (x y : Option Object) → is_none (refusal p x c y) ≡ free → (of_both x y >>= λ (r : After World Bool). Ok r.state) ≡ Ok new
                → (of_both x y >>= tells_family) ≡ written_to new to (Some (values.bool free)) f
            by None y so e = absurd (cc e)
            by (Some x) None so e = absurd (cc e)
            by (Some x) (Some y) so e =
                let forbids = is_unadoptable p x c y in
                let same : (left_by forbids).state ≡ new = cc e in
                forbidden forbids (is_some y.parent || nat_eq p c) so ∙ ap (λ (u : World). written_to u to (Some (values.bool free)) f) same
