-- How a program ends.
use Rattle.std.proofs.Common.{◌≡◌, ◌∙◌, refl, ap, ℕ, ◌≤◌, Option, None, Some, Ok, List, arith}
use Rattle.ui_machine.specs.declared.arm.Arm.TheVariants as arms
use Rattle.ui_machine.specs.Definition.{Definition}
use Rattle.ui_machine.specs.Definition.Lookups.{program_at}
use Rattle.ui_machine.specs.Definition.Programs.{Program}
use Rattle.ui_machine.specs.Definition.Values.{Value}
use Rattle.ui_machine.specs.Instructions.Jumps.{given_by, returned, returning}
use Rattle.ui_machine.specs.Instructions.Registers.{value_in}
use Rattle.ui_machine.specs.Outcome.{Answer, known, only_if, ◌>>=◌}
use Rattle.ui_machine.specs.Rules.Accumulation.{given_down, suits}
use Rattle.ui_machine.specs.Rules.Transform.{kind_fits}
use Rattle.ui_machine.specs.Seq.{read}
use Rattle.ui_machine.specs.State.Config.{World}
use Rattle.ui_machine.specs.State.Objects.{class_in}
use Rattle.ui_machine.specs.State.References.{in_register}
use Rattle.ui_machine.specs.State.Tasks.{Frame, Task}
use Rattle.engine_world.specs.Able.{Able}
use Rattle.engine_stack.specs.HeldByTasks.{in_frame}
use Rattle.engine_world.proofs.Ableness.{able_as, first, past}
use Rattle.engine_stack.proofs.Lists.{read-within}
use Rattle.engine_instructions.proofs.Tested.{passes}

-- ** what it gives

pub gives_register : (f : Frame) (from : ℕ) (v : Value) → value_in f from ≡ Ok v → given_by f (Some from) ≡ Ok (Some v)
unfolding given_by
gives_register f from v is = ap (λ (a : Answer Value). a >>= λ v. Ok (Some v)) is

pub register_able : (f : Frame) (from : ℕ) → Able (given_by f (Some from)) → Able (value_in f from)
unfolding given_by
register_able f from able = first (value_in f from) (λ v. Ok (Some v)) able

pub gives_nothing : (f : Frame) → given_by f None ≡ Ok None
unfolding given_by
gives_nothing f = refl

-- it is what a register holds, or nothing
pub given_within : (f : Frame) (from : Option ℕ) (v : Option Value) (o : ℕ) → given_by f from ≡ Ok v → in_register o v ≤ in_frame o f
unfolding given_by
given_within f None v o is = let none : None ≡ v = cc is in omega (arith, ap (in_register o) none)
given_within f (Some from) v o is = by (read None f.registers from) refl is
  where
    by : (r : Option Value) → read None f.registers from ≡ r → (known arms.Register r >>= λ x. Ok (Some x)) ≡ Ok v → in_register o v ≤ in_frame o f
    by None there e = absurd (cc e)
    by (Some x) there e =
        let same : Some x ≡ v = cc e in
        omega (arith, read-within (in_register o) None f.registers from refl, ap (in_register o) there, ap (in_register o) same)

module _ (d : Definition) (w : World) (f : Frame) (from : Option ℕ) (p : Program) (is : program_at d f.program ≡ Some p) where
  abbrev fitting : Option Value → Answer (Option Value)
  fitting given = only_if (suits (kind_fits (class_in w.objects) d.types) given p.result) arms.Result (Ok given)

  returned_by : returned d w f from ≡ (given_by f from >>= fitting)
  unfolding returned
  returned_by =
      ap (λ (o : Option Program). known arms.Code o >>= λ q. given_by f from >>= λ given. only_if (suits (kind_fits (class_in w.objects) d.types) given q.result) arms.Result (Ok given)) is

  returning_able : (rest : List Task) → Able (returning d w f rest from) → Able (returned d w f from)
  unfolding returning
  returning_able rest able = first (returned d w f from) (λ given. given_down d w rest given) able

  -- no arm stops what the program gives where none stops its end
  pub given_able : (rest : List Task) → Able (returning d w f rest from) → Able (given_by f from)
  given_able rest able = first (given_by f from) fitting (able_as returned_by (returning_able rest able))

  -- and it goes to the task below
  pub returning_gives : (rest : List Task) (given : Option Value) → given_by f from ≡ Ok given → Able (returning d w f rest from) → returning d w f rest from ≡ given_down d w rest given
  unfolding returning
  returning_gives rest given gives able =
      let suited = suits (kind_fits (class_in w.objects) d.types) given p.result in
      let fits : Able (fitting given) = past (given_by f from) fitting given gives (able_as returned_by (returning_able rest able)) in
      let returns : returned d w f from ≡ Ok given = returned_by ∙ ap (λ (a : Answer (Option Value)). a >>= fitting) gives ∙ passes suited arms.Result (Ok given) fits in
      ap (λ (a : Answer (Option Value)). a >>= λ given. given_down d w rest given) returns
