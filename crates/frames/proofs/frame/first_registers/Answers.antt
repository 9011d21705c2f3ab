use Rattle.std.proofs.Common.{◌≡◌, ◌++◌, ◌-◌, ℕ, List, None, Option, Some, length, map, replicate, ap, ◌∙◌, arith}
use Rattle.bytecode.specs.Computing.{registers_of}
use Rattle.g_values.specs.declared.value.Value.{Value}
use Rattle.frames.proofs.FrameRegisters.{as_many, padded}
use Rattle.frames.proofs.frame.first_registers.Goals as goal

pub returns-clause-registers : goal.returns-clause-registers
returns-clause-registers c args same =
    let many = as_many args c.args.registers.items same in
    let added : c.filling._added ≡ c.args.program.now.registers - length args =
    omega (arith, many, c.filling-test.false, c.filling.auto._added-end, c.saturating_sub-unset.ensures, c.len.ensures, c.args.registers.ok.0) in
    ap (λ (rs : List (Option Value)). registers_of rs) c.filling.invariant.items
    ∙ padded args c.args.registers.items c.filling._added same
    ∙ ap (λ (n : ℕ). map (λ v. Some v) args ++ replicate n None) added
