-- What an emission holds, and what it results in.
use Rattle.std.proofs.Common.{◌≡◌, ◌≤◌, ◌<◌, ℕ, None, Some, IfSome, List, [], ◌∷◌, Option, Ok, nat_lt, length, Bool, true, false, refl, arith}
use Rattle.std.proofs.lemmas.Bool.Decides.{nat_tests}
use Rattle.ui_machine.specs.declared.arm.Arm.TheVariants as arms
use Rattle.ui_machine.specs.Definition.{Definition}
use Rattle.ui_machine.specs.Definition.Kinds.{Kind}
use Rattle.ui_machine.specs.Definition.Kinds as kinds
use Rattle.ui_machine.specs.Definition.Values.{Value}
use Rattle.ui_machine.specs.Instructions.Peers.{left_with}
use Rattle.ui_machine.specs.Outcome.{Answer, only_if, ◌>>=◌}
use Rattle.ui_machine.specs.Rules.Accumulation.{received_by, result_of}
use Rattle.ui_machine.specs.Seq.{write}
use Rattle.ui_machine.specs.State.Config.{Config, Left, World}
use Rattle.ui_machine.specs.State.References.{in_register}
use Rattle.ui_machine.specs.State.Tasks.{Answering, Beginning, Building, Calling, Constructing, Due, Emitting, Frame, Handling, Notifying, Running, Setting, Task, Thawing, Transferring, Unsetting}
use Rattle.ui_machine.specs.Steps.{left}
use Rattle.law_typing.specs.Good.Living.{NamesLiving}
use Rattle.engine_world.specs.Able.{Able, LeadsToLiving}
use Rattle.engine_world.proofs.Named.{each_written}

-- what an emission results in names no more than what it has accumulated
pub result_held : (d : Definition) (o : ℕ) (kind : Option Kind) (v : Option Value) → in_register o (result_of d kind v) ≤ in_register o v
result_held d o None v = omega arith
result_held d o (Some k) (Some v) = omega arith
result_held d o (Some kinds.bool) None = omega arith
result_held d o (Some (kinds.whole k)) None = omega arith
result_held d o (Some kinds.text) None = omega arith
result_held d o (Some (kinds.enum t)) None = omega arith
result_held d o (Some (kinds.flags t)) None = omega arith
result_held d o (Some (kinds.object t)) None = omega arith

-- ** answers of peers

module _ (n : ℕ) (w : World) (to : ℕ) (v : Value) where
  -- a program that goes on with a value
  answered_names : (f : Frame) (rest : List Task) → Able (left n (left_with w (Running f ∷ rest) to v)) → LeadsToLiving (left n (left_with w (Running f ∷ rest) to v)) → NamesLiving w v
  unfolding left left_with received_by
  answered_names f rest able names = by (nat_lt to (length f.registers)) refl able names
    where
      after : Bool → Answer Left
      after inside =
          (only_if inside arms.Code (Ok (write None f.registers to (Some v))) >>= λ new. Ok (Running (record f { into = None; registers = new }) ∷ rest))
          >>= λ agenda. Ok (record { world = w; agenda = agenda })

      by : (inside : Bool) → nat_lt to (length f.registers) ≡ inside → Able {A = Config} (after inside >>= λ (l : Left). Ok (record { world = l.world; agenda = l.agenda; counted = n }))
          → LeadsToLiving (after inside >>= λ (l : Left). Ok (record { world = l.world; agenda = l.agenda; counted = n })) → NamesLiving w v
      by false outside able names = absurd able
      by true inside able names = each_written (λ r. IfSome r (NamesLiving w)) f.registers to (Some v) (let less : to < length f.registers = grind (arith, nat_tests) in less) names.0

  -- names what lives
  pub received_names : (rest : List Task) → Able (left n (left_with w rest to v)) → LeadsToLiving (left n (left_with w rest to v)) → NamesLiving w v
  unfolding left left_with
  received_names (Running f ∷ rest) able names = answered_names f rest able names
  received_names [] able names = absurd able
  received_names (Setting id slot x ∷ rest) able names = absurd able
  received_names (Notifying id slot ∷ rest) able names = absurd able
  received_names (Beginning e ∷ rest) able names = absurd able
  received_names (Emitting e turns ∷ rest) able names = absurd able
  received_names (Transferring number back ∷ rest) able names = absurd able
  received_names (Unsetting number ∷ rest) able names = absurd able
  received_names (Thawing id slots ∷ rest) able names = absurd able
  received_names (Answering source ∷ rest) able names = absurd able
  received_names (Calling call ∷ rest) able names = absurd able
  received_names (Constructing id steps held ∷ rest) able names = absurd able
  received_names (Building items ∷ rest) able names = absurd able
  received_names (Handling request ∷ rest) able names = absurd able
  received_names (Due source ∷ rest) able names = absurd able
