-- How many registers programs have.
use Rattle.std.proofs.Common.{◌≡◌, ◌≤◌, Bool, true, false, nat_lt, length, Option, None, Some, option_map, if◌then◌else◌, refl, sym, ap, ◌∙◌, arith}
use Rattle.std.proofs.lemmas.Bool.Decides.{nat_tests}
use Rattle.std.proofs.lemmas.Option.{none-some}
use Rattle.ui_machine.specs.Definition.Programs.{Program}
use Rattle.bytecode.specs.declared.faults.ProgramFault.{ProgramFault}
use Rattle.bytecode.specs.declared.faults.ProgramFault.TheVariants as faults
use Rattle.bytecode.specs.declared.faults.ProgramLimit.{ProgramLimit}
use Rattle.bytecode.specs.declared.faults.ProgramLimit.TheVariants as limits
use Rattle.bytecode.specs.Shape.{at_block, first_backward, first_open, first_limit, first_bad_repeat, instructions_in, or_next, shape_fault}

third_none : (a b c d : Option ProgramFault) → or_next a (or_next b (or_next c d)) ≡ None → c ≡ None
third_none None None None d h = refl
third_none None None (Some f) d h = absurd (none-some f (sym h))
third_none None (Some f) c d h = absurd (none-some f (sym h))
third_none (Some f) b c d h = absurd (none-some f (sym h))

no_limit : (l : Option ProgramLimit) → option_map faults.Limit l ≡ None → l ≡ None
no_limit None h = refl
no_limit (Some l) h = absurd (none-some (faults.Limit l) (sym h))

within : (p : Program) → first_limit p ≡ None → p.registers ≤ 32
within p none = by (nat_lt 32 p.registers) refl
  where
    by : (b : Bool) → nat_lt 32 p.registers ≡ b → p.registers ≤ 32
    by true e =
        absurd (none-some limits.Registers (sym none ∙ ap (λ (b : Bool). if b then Some limits.Registers else
        (if nat_lt 64 (length p.blocks) then Some limits.Blocks else (if nat_lt 512 (instructions_in p.blocks) then Some limits.Instructions else None))) e))
    by false e = grind (arith, nat_tests)

-- a program whose blocks fit together has at most 32 registers
pub few_registers : (p : Program) → shape_fault p ≡ None → p.registers ≤ 32
few_registers p none =
    within p (no_limit (first_limit p) (third_none (option_map (λ b. faults.BackwardJump (at_block b)) (first_backward p.blocks))
    (option_map (λ b. faults.NoReturn (at_block b)) (first_open p.blocks)) (option_map faults.Limit (first_limit p))
    (option_map (λ b. faults.BadRepeat (at_block b)) (first_bad_repeat p.blocks)) none))
