-- What the tasks name that a step leaves.
use Rattle.std.proofs.Common.{◌≡◌, ◌<◌, ℕ, zero, suc, Bool, true, false, nat_lt, length, List, [], ◌∷◌, ◌++◌, map, replicate, Option, Some, None, IfSome, Ok, refl, subst, arith}
use Rattle.std.proofs.lemmas.Bool.Decides.{nat_tests}
use Rattle.ui_machine.specs.declared.arm.Arm.TheVariants as arms
use Rattle.ui_machine.specs.Definition.{Definition}
use Rattle.ui_machine.specs.Definition.Lookups.{program_at}
use Rattle.ui_machine.specs.Definition.Programs.{Program}
use Rattle.ui_machine.specs.Definition.Values.{Value}
use Rattle.ui_machine.specs.Instructions.{in_front}
use Rattle.ui_machine.specs.Instructions.Registers.{written_to}
use Rattle.ui_machine.specs.Outcome.{Answer, known, only_if, ◌>>=◌}
use Rattle.ui_machine.specs.Output.Lines as lines
use Rattle.ui_machine.specs.Rules.Programs.{all_fit, beginning_program, first_frame, first_registers, fits_register}
use Rattle.ui_machine.specs.Seq.{write}
use Rattle.ui_machine.specs.State.Config.{Config, World, said, starts}
use Rattle.ui_machine.specs.State.Tasks.{Frame, Registers, Running, Task}
use Rattle.ui_machine.specs.Steps.{left, uncounted}
use Rattle.law_typing.specs.Good.Living.{NamesLiving}
use Rattle.law_typing.specs.Verdict.Accepted.{Each}
use Rattle.engine_world.specs.Able.{Able, LeadsToLiving, TasksNameLiving}

-- the same part, named otherwise
pub names_as : {a b : Answer Config} → a ≡ b → LeadsToLiving a → LeadsToLiving b
names_as is = subst (λ (x : Answer Config). LeadsToLiving x) is

-- where it leads somewhere
pub names_there : (a : Answer Config) (c : Config) → a ≡ Ok c → LeadsToLiving a → TasksNameLiving c
names_there a c is = subst (λ (x : Answer Config). LeadsToLiving x) is

-- of two lists of tasks the first
pub each_first : {A : Type 0} (P : A → Type 0) (xs ys : List A) → Each P (xs ++ ys) → Each P xs
each_first P [] ys each = tt
each_first P (x ∷ xs) ys each = (each.0, each_first P xs ys each.1)

-- what is written is among the registers
pub each_written : (P : Option Value → Type 0) (rs : Registers) (to : ℕ) (v : Option Value) → to < length rs → Each P (write None rs to v) → P v
each_written P [] to v inside each = absurd (omega (arith, inside))
each_written P (r ∷ rs) zero v inside each = each.0
each_written P (r ∷ rs) (suc to) v inside each = each_written P rs to v (omega (arith, inside)) each.1

module _ (n : ℕ) (rest : List Task) (w : World) (to : ℕ) (v : Option Value) (f : Frame) where
  -- a register that is written
  pub written_names : Able (left n (in_front rest (written_to w to v f))) → LeadsToLiving (left n (in_front rest (written_to w to v f))) → IfSome v (NamesLiving w)
  unfolding left in_front written_to
  written_names able names = by (nat_lt to (length f.registers)) refl able names
    where
      by : (inside : Bool) → nat_lt to (length f.registers) ≡ inside
          → Able (left n (in_front rest (only_if inside arms.Code (Ok (write None f.registers to v)) >>= λ rs. starts w (Running (record f { registers = rs }) ∷ []))))
          → LeadsToLiving (left n (in_front rest (only_if inside arms.Code (Ok (write None f.registers to v)) >>= λ rs. starts w (Running (record f { registers = rs }) ∷ []))))
          → IfSome v (NamesLiving w)
      by false outside able names = absurd able
      by true inside able names = each_written (λ r. IfSome r (NamesLiving w)) f.registers to v (let less : to < length f.registers = grind (arith, nat_tests) in less) names.0

-- ** programs

module _ (w : World) where
  abbrev RegisterNames : Option Value → Type 0
  RegisterNames r = IfSome r (NamesLiving w)

  somes_name : (args : List Value) → Each RegisterNames (map (λ v. Some v) args) → Each (NamesLiving w) args
  somes_name [] each = tt
  somes_name (v ∷ vs) each = (each.0, somes_name vs each.1)

  some_names : (args : List Value) → Each (NamesLiving w) args → Each RegisterNames (map (λ v. Some v) args)
  some_names [] each = tt
  some_names (v ∷ vs) each = (each.0, some_names vs each.1)

  unset_name : (n : ℕ) → Each RegisterNames (replicate n None)
  unset_name zero = tt
  unset_name (suc n) = (tt, unset_name n)

  each_append : (xs ys : Registers) → Each RegisterNames xs → Each RegisterNames ys → Each RegisterNames (xs ++ ys)
  each_append [] ys first later = later
  each_append (x ∷ xs) ys first later = (first.0, each_append xs ys first.1 later)

  -- what a program is given is in its registers
  given_names : (p : Program) (args : List Value) → Each RegisterNames (first_registers p args) → Each (NamesLiving w) args
  given_names p args each = somes_name args (each_first RegisterNames (map (λ v. Some v) args) _ each)

  -- and nothing else
  pub first_names : (p : Program) (args : List Value) → Each (NamesLiving w) args → Each RegisterNames (first_registers p args)
  first_names p args each = each_append _ _ (some_names args each) (unset_name _)

module _ (n : ℕ) (rest : List Task) (d : Definition) (w : World) (number : ℕ) (args : List Value) where
  -- a program that begins
  pub begins_names : Able (uncounted rest n (beginning_program d w number args)) → LeadsToLiving (uncounted rest n (beginning_program d w number args)) → Each (NamesLiving w) args
  unfolding beginning_program
  begins_names able names = by (program_at d number) able names
    where
      tested : (p : Program) (fits : Bool)
          → Able (uncounted rest n (only_if fits arms.Parameters (starts (said d w (lines.run p.name)) (Running (first_frame number p args) ∷ []))))
          → LeadsToLiving (uncounted rest n (only_if fits arms.Parameters (starts (said d w (lines.run p.name)) (Running (first_frame number p args) ∷ []))))
          → Each (NamesLiving w) args
      tested p true able names = given_names w p args names.0
      tested p false able names = absurd able

      by : (found : Option Program)
          → Able (uncounted rest n (known arms.Code found >>= λ p. only_if (all_fit (fits_register d w.objects) args p.params) arms.Parameters (starts (said d w (lines.run p.name)) (Running (first_frame number p args) ∷ []))))
          → LeadsToLiving (uncounted rest n (known arms.Code found >>= λ p. only_if (all_fit (fits_register d w.objects) args p.params) arms.Parameters (starts (said d w (lines.run p.name)) (Running (first_frame number p args) ∷ []))))
          → Each (NamesLiving w) args
      by None able names = absurd able
      by (Some p) able names = tested p (all_fit (fits_register d w.objects) args p.params) able names
