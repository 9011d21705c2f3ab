-- What an `emit` of a program leads to, by the signal and the emission that it names.
use Rattle.std.proofs.Common.{◌≡◌, ◌∙◌, refl, sym, ap, ℕ, Bool, false, true, nat_lt, List, [], ◌∷◌, Option, None, Some, Result, Ok, Err}
use Rattle.ui_machine.specs.declared.arm.Arm.{Arm}
use Rattle.ui_machine.specs.declared.arm.Arm.TheVariants as arms
use Rattle.ui_machine.specs.Definition.{Definition}
use Rattle.ui_machine.specs.Definition.Values.{Value}
use Rattle.ui_machine.specs.Instructions.{in_front}
use Rattle.ui_machine.specs.Instructions.Registers.{goes_on, operand_in, values_in}
use Rattle.ui_machine.specs.Instructions.Signals.{Emit, emitting, signal_in, signal_to_emit}
use Rattle.ui_machine.specs.Outcome.{Answer, known, only_if, ◌>>=◌}
use Rattle.ui_machine.specs.Rules.Connections.{detail_in, signal_number}
use Rattle.ui_machine.specs.Rules.EmissionPlan.{new_emission}
use Rattle.ui_machine.specs.State.Config.{Started, World}
use Rattle.ui_machine.specs.State.Objects.{Object, asked, living}
use Rattle.ui_machine.specs.State.Tasks.{Beginning, Emission, Frame, Task}
use Rattle.ui_machine.specs.Steps.{left}
use Rattle.engine_instructions.specs.EmitView.{emission_by_code}
use Rattle.engine_world.specs.Able.{Able}
use Rattle.engine_world.proofs.Ableness.{able_as, first, instructed, past, tested}

-- one answer after the other
pub bind_bind : {A B C E : Type 0} (a : Result A E) (f : A → Result B E) (g : B → Result C E) → ((a >>= f) >>= g) ≡ (a >>= λ x. f x >>= g)
bind_bind (Ok x) f g = refl
bind_bind (Err e) f g = refl

-- the same behind the first
pub bind_same : {A B E : Type 0} (a : Result A E) (f g : A → Result B E) → ((x : A) → f x ≡ g x) → (a >>= f) ≡ (a >>= g)
bind_same (Ok x) f g same = same x
bind_same (Err e) f g same = refl

-- ** signals by name

module _ (d : Definition) (w : World) (id : ℕ) (name : List ℕ) where
  signal_by : (class : Answer ℕ) → asked w.objects id (λ o. Ok o.class) ≡ class → signal_in d w id name ≡ (class >>= λ class. known arms.Code (signal_number d class name))
  unfolding asked signal_in
  signal_by class is = by (living w.objects id) ∙ ap (λ (a : Answer ℕ). a >>= λ class. known arms.Code (signal_number d class name)) is
    where
      by : (o : Option Object) → (known arms.Operand o >>= λ x. known arms.Code (signal_number d x.class name)) ≡ ((known arms.Operand o >>= λ x. Ok x.class) >>= λ class. known arms.Code (signal_number d class name))
      by None = refl
      by (Some x) = refl

  pub no_class : (arm : Arm) → asked w.objects id (λ o. Ok o.class) ≡ Err arm → signal_in d w id name ≡ Err arm
  no_class arm is = signal_by (Err arm) is

  pub signal_is : (class : ℕ) (number : Option ℕ) → asked w.objects id (λ o. Ok o.class) ≡ Ok class → signal_number d class name ≡ number → signal_in d w id name ≡ known arms.Code number
  signal_is class number of is = signal_by (Ok class) of ∙ ap (λ (o : Option ℕ). known arms.Code o) is

  -- one that a program may emit
  if_emitted : ℕ → Answer ℕ
  if_emitted signal = only_if (nat_lt 0 signal) arms.Code (Ok signal)

  pub named_to_emit : Able (signal_to_emit d w id name) → Able (signal_in d w id name)
  unfolding signal_to_emit if_emitted
  named_to_emit able = first (signal_in d w id name) if_emitted able

  pub emits_if : (signal : ℕ) (b : Bool) → signal_in d w id name ≡ Ok signal → nat_lt 0 signal ≡ b → signal_to_emit d w id name ≡ only_if b arms.Code (Ok signal)
  unfolding signal_to_emit if_emitted
  emits_if signal b is so = ap (λ (a : Answer ℕ). a >>= if_emitted) is ∙ ap (λ b. only_if b arms.Code (Ok signal)) so

  pub emits_so : (signal : ℕ) → Able (signal_to_emit d w id name) → signal_in d w id name ≡ Ok signal → signal_to_emit d w id name ≡ Ok signal
  unfolding signal_to_emit if_emitted
  emits_so signal able is =
      emits_if signal true is (tested (nat_lt 0 signal) arms.Code (Ok signal) (past (signal_in d w id name) if_emitted signal is able))

-- ** emissions

module _ (d : Definition) (w : World) (f : Frame) (object : ℕ) (e : Emit) where
  begins : Emission → Answer Started
  begins m = goes_on w (Beginning m ∷ []) (record f { into = e.into })

  with_args : ℕ → ℕ → Option (List ℕ) → List Value → Answer Emission
  with_args id signal detail given = Ok (new_emission id signal detail given false)

  with_detail : ℕ → ℕ → Option (List ℕ) → Answer Emission
  with_detail id signal detail = values_in f e.args >>= with_args id signal detail

  with_signal : ℕ → ℕ → Answer Emission
  with_signal id signal = detail_in d w id signal e.detail >>= with_detail id signal

  with_object : ℕ → Answer Emission
  with_object id = signal_to_emit d w id e.signal >>= with_signal id

  by_emission : emitting d w f object e ≡ (emission_by_code d w f object e >>= begins)
  unfolding emitting begins with_args with_detail with_signal with_object
  by_emission = sym
      (bind_bind (operand_in w f object) with_object begins
      ∙ bind_same (operand_in w f object) (λ id. with_object id >>= begins) _ (λ id.
      bind_bind (signal_to_emit d w id e.signal) (with_signal id) begins
      ∙ bind_same (signal_to_emit d w id e.signal) (λ signal. with_signal id signal >>= begins) _ (λ signal.
      bind_bind (detail_in d w id signal e.detail) (with_detail id signal) begins
      ∙ bind_same (detail_in d w id signal e.detail) (λ detail. with_detail id signal detail >>= begins) _ (λ detail.
      bind_bind (values_in f e.args) (with_args id signal detail) begins))))

  -- no arm stops the emission where none stops the program
  pub emission_able : (n : ℕ) (rest : List Task) → Able (left n (in_front rest (emitting d w f object e))) → Able (emission_by_code d w f object e)
  emission_able n rest able = first (emission_by_code d w f object e) begins (able_as by_emission (instructed n rest (emitting d w f object e) able))

  pub emission_begins : (m : Emission) → emission_by_code d w f object e ≡ Ok m → emitting d w f object e ≡ goes_on w (Beginning m ∷ []) (record f { into = e.into })
  unfolding begins
  emission_begins m is = by_emission ∙ ap (λ (a : Answer Emission). a >>= begins) is

  past_object : Able (emission_by_code d w f object e) → (id : ℕ) → operand_in w f object ≡ Ok id → Able (with_object id)
  unfolding with_args with_detail with_signal with_object
  past_object able id is = past (operand_in w f object) with_object id is able

  pub signal_able : Able (emission_by_code d w f object e) → (id : ℕ) → operand_in w f object ≡ Ok id → Able (signal_in d w id e.signal)
  unfolding with_object
  signal_able able id is = named_to_emit d w id e.signal (first (signal_to_emit d w id e.signal) (with_signal id) (past_object able id is))

  module _ (able : Able (emission_by_code d w f object e)) (id signal : ℕ) (at : operand_in w f object ≡ Ok id) (named : signal_in d w id e.signal ≡ Ok signal) where
    emits_it : signal_to_emit d w id e.signal ≡ Ok signal
    unfolding with_object
    emits_it = emits_so d w id e.signal signal (first (signal_to_emit d w id e.signal) (with_signal id) (past_object able id at)) named

    past_signal : Able (with_signal id signal)
    unfolding with_object
    past_signal = past (signal_to_emit d w id e.signal) (with_signal id) signal emits_it (past_object able id at)

    pub detail_able : Able (detail_in d w id signal e.detail)
    unfolding with_signal
    detail_able = first (detail_in d w id signal e.detail) (with_detail id signal) past_signal

    module _ (detail : Option (List ℕ)) (told : detail_in d w id signal e.detail ≡ Ok detail) where
      pub args_able : Able (values_in f e.args)
      unfolding with_signal with_detail
      args_able = first (values_in f e.args) (with_args id signal detail) (past (detail_in d w id signal e.detail) (with_detail id signal) detail told past_signal)

      pub emission_so : (given : List Value) → values_in f e.args ≡ Ok given → emission_by_code d w f object e ≡ Ok (new_emission id signal detail given false)
      unfolding with_args with_detail with_signal with_object
      emission_so given read =
          ap (λ (a : Answer ℕ). a >>= with_object) at
          ∙ ap (λ (a : Answer ℕ). a >>= with_signal id) emits_it
          ∙ ap (λ (a : Answer (Option (List ℕ))). a >>= with_detail id signal) told
          ∙ ap (λ (a : Answer (List Value)). a >>= with_args id signal detail) read
