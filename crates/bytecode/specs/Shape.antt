-- Whether the blocks of a program fit together, and how much of each thing a program may have.
use Rattle.std.specs.Prelude.{ℕ, Bool, true, false, not, nat_lt, ◌||◌, ◌&&◌, List, [], ◌∷◌, length, Option, None, Some, option_map, if◌then◌else◌}
use Rattle.std.specs.List.{list_any, enumerate_from, position_from}
use Rattle.ui_machine.specs.Seq.{total}
use Rattle.ui_machine.specs.Definition.Programs.{Instruction, Block, Program}
use Rattle.ui_machine.specs.Definition.Programs as words
use Rattle.type_tree.specs.TypeName.{is_within}
use Rattle.bytecode.specs.declared.instructions.BlockNumber.{BlockNumber}
use Rattle.bytecode.specs.declared.faults.ProgramLimit.{ProgramLimit}
use Rattle.bytecode.specs.declared.faults.ProgramLimit.TheVariants as limits
use Rattle.bytecode.specs.declared.faults.ProgramFault.{ProgramFault}
use Rattle.bytecode.specs.declared.faults.ProgramFault.TheVariants as faults

-- whether an instruction leads away from its block
abbrev pub ends_block : Instruction → Bool
ends_block (words.jump to) = true
ends_block (words.branch on then_to else_to) = true
ends_block (words.branch_null on then_to else_to) = true
ends_block (words.return from) = true
ends_block _ = false

-- whether an instruction of block n leads to this block or to an earlier one
abbrev pub leads_back : (n : ℕ) → Instruction → Bool
leads_back n (words.jump to) = not (nat_lt n to)
leads_back n (words.branch on then_to else_to) = not (nat_lt n then_to) || not (nat_lt n else_to)
leads_back n (words.branch_null on then_to else_to) = not (nat_lt n then_to) || not (nat_lt n else_to)
leads_back n _ = false

-- whether the last instruction leads away
abbrev pub is_ended : List Instruction → Bool
is_ended [] = false
is_ended (i ∷ []) = ends_block i
is_ended (i ∷ j ∷ is) = is_ended (j ∷ is)

-- the first block that leads to itself or to an earlier one
abbrev pub first_backward : List Block → Option ℕ
first_backward blocks = position_from (λ e. list_any (leads_back e.0) (e.1).code) 0 (enumerate_from 0 blocks)

-- the first block that leads nowhere
abbrev pub first_open : List Block → Option ℕ
first_open blocks = position_from (λ b. not (is_ended b.code)) 0 blocks

-- whether an instruction is a jump
abbrev pub is_jump : Instruction → Bool
is_jump (words.jump to) = true
is_jump _ = false

-- whether the last instruction is a jump
abbrev pub ends_in_jump : List Instruction → Bool
ends_in_jump [] = false
ends_in_jump (i ∷ []) = is_jump i
ends_in_jump (i ∷ j ∷ is) = ends_in_jump (j ∷ is)

-- whether a block with this code may be passed so often: 1 to 65,535 times, if it ends with a jump; any may be that does not say how often
abbrev pub may_repeat : Option ℕ → List Instruction → Bool
may_repeat None code = true
may_repeat (Some n) code = is_within 1 65535 n && ends_in_jump code

-- the first block that may not be passed as often as it says
abbrev pub first_bad_repeat : List Block → Option ℕ
first_bad_repeat blocks = position_from (λ b. not (may_repeat b.repeat b.code)) 0 blocks

-- all instructions of these blocks
abbrev pub instructions_in : List Block → ℕ
instructions_in blocks = total (λ b. length b.code) blocks

abbrev pub at_block : ℕ → BlockNumber
at_block n = record { 0 = n }

-- more than 32 registers, more than 64 blocks, or more than 512 instructions
abbrev pub first_limit : Program → Option ProgramLimit
first_limit p =
    if nat_lt 32 p.registers then Some limits.Registers else
    (if nat_lt 64 (length p.blocks) then Some limits.Blocks else
    (if nat_lt 512 (instructions_in p.blocks) then Some limits.Instructions else None))

-- the first of two that is there
abbrev pub or_next : {A : Type 0} → Option A → Option A → Option A
or_next None next = next
or_next (Some x) next = Some x

-- why the blocks do not fit together: a jump back, then a block that leads nowhere, then a limit, then a block that may not be repeated so
abbrev pub shape_fault : Program → Option ProgramFault
shape_fault p =
    or_next (option_map (λ b. faults.BackwardJump (at_block b)) (first_backward p.blocks))
    (or_next (option_map (λ b. faults.NoReturn (at_block b)) (first_open p.blocks))
    (or_next (option_map faults.Limit (first_limit p))
    (option_map (λ b. faults.BadRepeat (at_block b)) (first_bad_repeat p.blocks))))
