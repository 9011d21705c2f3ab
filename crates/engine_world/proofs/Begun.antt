-- What programs that begin and end hold.
use Rattle.std.proofs.Common.{◌≡◌, ◌∙◌, ℕ, zero, suc, ◌+◌, ◌-◌, List, [], ◌∷◌, length, map, replicate, Option, None, Some, refl, ap, arith}
use Rattle.ui_machine.specs.Definition.Programs.{Program}
use Rattle.ui_machine.specs.Definition.Values.{Value}
use Rattle.ui_machine.specs.Rules.Programs.{first_registers}
use Rattle.ui_machine.specs.Seq.{total}
use Rattle.ui_machine.specs.State.References.{in_register, in_value}
use Rattle.ui_machine.specs.State.Tasks.{Registers}
use Rattle.frames.specs.FrameView.{AreSet, set_values}
use Rattle.engine_stack.proofs.Lists.{total-append}

-- registers that are set hold what their values name
total_set : (o : ℕ) (args : List Value) → total (in_register o) (map (λ v. Some v) args) ≡ total (in_value o) args
total_set o [] = refl
total_set o (v ∷ args) = ap (λ n. in_value o v + n) (total_set o args)

total_unset : (o n : ℕ) → total (in_register o) (replicate {A = Option Value} n None) ≡ 0
total_unset o zero = refl
total_unset o (suc n) = omega (arith, total_unset o n)

pub set_total : (o : ℕ) (rs : Registers) → AreSet rs → total (in_register o) rs ≡ total (in_value o) (set_values rs)
set_total o rs set = ap (total (in_register o)) set ∙ total_set o (set_values rs)

-- the others of a program that begins are unset
pub first_total : (o : ℕ) (p : Program) (args : List Value) → total (in_register o) (first_registers p args) ≡ total (in_value o) args
first_total o p args =
    let both : total (in_register o) (first_registers p args) ≡ total (in_register o) (map (λ v. Some v) args) + total (in_register o) (replicate {A = Option Value} (p.registers - length args) None) =
    total-append (in_register o) (map (λ v. Some v) args) (replicate (p.registers - length args) None) in
    omega (arith, both, total_set o args, total_unset o (p.registers - length args))
