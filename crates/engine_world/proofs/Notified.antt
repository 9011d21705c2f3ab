-- How notifications begin.
use Rattle.std.proofs.Common.{◌≡◌, ℕ, suc, ◌<◌, true, List, [], ◌∷◌, ◌++◌, map, reverse, Option, Some, None, Ok, Err, refl, sym, ap, ◌∙◌, nat_lt, arith}
use Rattle.std.proofs.lemmas.Bool.Decides.{nat_tests}
use Rattle.std.proofs.lemmas.List.{reverse-append, map-append}
use Rattle.ui_machine.specs.declared.arm.Arm.{Arm}
use Rattle.ui_machine.specs.declared.arm.Arm.TheVariants as arms
use Rattle.ui_machine.specs.Definition.Properties.{Spec}
use Rattle.ui_machine.specs.Definition.{Definition}
use Rattle.ui_machine.specs.Definition.Signals.{Signal}
use Rattle.ui_machine.specs.Definition.Lookups.{spec_of}
use Rattle.ui_machine.specs.Output.Lines as lines
use Rattle.ui_machine.specs.State.Objects.{Object, living, asked}
use Rattle.ui_machine.specs.State.Tasks.{Task, Emitting}
use Rattle.ui_machine.specs.State.Config.{World, Started, starts, said}
use Rattle.ui_machine.specs.Outcome.{Answer, ◌>>=◌, known}
use Rattle.ui_machine.specs.Steps.{counted, uncounted, most_steps}
use Rattle.ui_machine.specs.Rules.EmissionPlan.{notifying, notification, notify_plan, first_given, or_else, signal_at, signal_of}

-- ** counted steps

pub counted_on : (rest : List Task) (n : ℕ) (a : Answer Started) → n < most_steps → counted rest n a ≡ uncounted rest (suc n) a
counted_on rest n a h = let t : nat_lt n most_steps ≡ true = grind (arith, nat_tests) in rw t refl

-- ** what no class names

pub none_given : (f : ℕ → Option ℕ) → ((c : ℕ) → f c ≡ None) → (classes : List ℕ) → first_given f classes ≡ None
none_given f none [] = refl
none_given f none (c ∷ cs) = ap (λ (o : Option ℕ). or_else o (first_given f cs)) (none c) ∙ none_given f none cs

-- ** by the class of the object

module _ (d : Definition) (w : World) (id slot : ℕ) where
  begin : ℕ → Spec → Signal → Answer Started
  begin class p s = starts (said d w (lines.notify id p.name)) (Emitting (notification id p.name) (notify_plan d w s class id slot p.name) ∷ [])

  on_class : ℕ → Answer Started
  on_class class = known arms.Code (spec_of d class slot) >>= λ p. signal_at d class 0 >>= λ s. begin class p s

  by_class : (r : Answer ℕ) → asked w.objects id (λ o. Ok o.class) ≡ r → notifying d w id slot ≡ (r >>= on_class)
  unfolding asked notifying on_class begin
  by_class r h = by (living w.objects id) ∙ ap (λ (a : Answer ℕ). a >>= on_class) h
    where
      by : (o : Option Object) → (known arms.Operand o >>= λ x. on_class x.class) ≡ ((known arms.Operand o >>= λ x. Ok x.class) >>= on_class)
      by None = refl
      by (Some x) = refl

  pub unheard : (arm : Arm) → asked w.objects id (λ o. Ok o.class) ≡ Err arm → notifying d w id slot ≡ Err arm
  unheard arm h = by_class (Err arm) h

  module _ (class : ℕ) (of : asked w.objects id (λ o. Ok o.class) ≡ Ok class) where
    pub unnamed : spec_of d class slot ≡ None → notifying d w id slot ≡ Err arms.Code
    unfolding on_class
    unnamed none = by_class (Ok class) of ∙ ap (λ (p : Option Spec). known arms.Code p >>= λ p. signal_at d class 0 >>= λ s. begin class p s) none

    pub unknown : (p : Spec) → spec_of d class slot ≡ Some p → signal_of d class 0 ≡ None → notifying d w id slot ≡ Err arms.Code
    unfolding on_class signal_at
    unknown p some none =
        by_class (Ok class) of
        ∙ ap (λ (p : Option Spec). known arms.Code p >>= λ p. signal_at d class 0 >>= λ s. begin class p s) some
        ∙ ap (λ (s : Option Signal). known arms.Code s >>= λ s. begin class p s) none

    pub begun : (p : Spec) → spec_of d class slot ≡ Some p → (s : Signal) → signal_of d class 0 ≡ Some s
        → notifying d w id slot ≡ starts (said d w (lines.notify id p.name)) (Emitting (notification id p.name) (notify_plan d w s class id slot p.name) ∷ [])
    unfolding on_class begin signal_at
    begun p some s declared =
        by_class (Ok class) of
        ∙ ap (λ (p : Option Spec). known arms.Code p >>= λ p. signal_at d class 0 >>= λ s. begin class p s) some
        ∙ ap (λ (s : Option Signal). known arms.Code s >>= λ s. begin class p s) declared

pub reverse-map : {A B : Type 0} (f : A → B) (xs : List A) → reverse (map f xs) ≡ map f (reverse xs)
reverse-map f [] = refl
reverse-map f (x ∷ xs) =
    reverse-append (f x ∷ []) (map f xs) ∙ ap (λ ys. ys ++ f x ∷ []) (reverse-map f xs) ∙ sym (map-append f (reverse xs) (x ∷ []))
    ∙ ap (map f) (sym (reverse-append (x ∷ []) xs))
