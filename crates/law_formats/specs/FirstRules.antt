-- The rules of the first format that are other ones now. There each block's instructions were taken once, and no program froze an object
-- with a paired property.
use Rattle.std.specs.Prelude.{◌≡◌, ℕ, suc, Bool, false, List, [], ◌∷◌, ◌++◌, Option, None, Some}
use Rattle.std.specs.List.{list_any, filter}
use Rattle.ui_machine.specs.Definition.{Definition}
use Rattle.ui_machine.specs.Definition.Programs.{Instruction, Block, Program}
use Rattle.ui_machine.specs.Definition.Programs as words
use Rattle.law_typing.specs.Rules.RegisterKinds.{Kinds, kind_in, places}
use Rattle.law_typing.specs.Rules.Answers.{Rule}
use Rattle.law_typing.specs.Rules.Typing.{typed, unless_broken}
use Rattle.law_typing.specs.Rules.Sites.{Site, sites, broken_at}
use Rattle.law_typing.specs.Rules.Brackets.{has_pair}
use Rattle.law_typing.specs.Rules.Faults.{Fault}
use Rattle.law_typing.specs.Verdict.Accepted.{Each}

-- no block says how often its instructions are taken
abbrev pub NoRepeats : Definition → Type 0
NoRepeats d = Each (λ (p : Program). Each (λ (b : Block). b.repeat ≡ None) p.blocks) d.programs

-- ** typing

-- the first instruction of these that breaks a rule, by its number, where the first has the number `at`
abbrev pub first_broken : Definition → Program → ℕ → Kinds → List Instruction → Option (ℕ × Rule)
first_broken d p at ks [] = None
first_broken d p at ks (i ∷ rest) =
    unless_broken (λ rule. Some (at, rule)) (λ after. first_broken d p (suc at) after rest) (typed d p ks i)

-- the first fault of each block, where the first block has this number
abbrev pub block_faults : Definition → Program → (program block : ℕ) → List Block → List Fault
block_faults d p program block [] = []
block_faults d p program block (b ∷ blocks) =
    broken_at program block (first_broken d p 0 b.entry b.code) ++ block_faults d p program (suc block) blocks

-- the first fault of each block of each program, where the first program has this number
abbrev pub program_faults : Definition → ℕ → List Program → List Fault
program_faults d program [] = []
program_faults d program (p ∷ programs) = block_faults d p program 0 p.blocks ++ program_faults d (suc program) programs

-- the blocks that are not well typed, in document order
abbrev pub typing_faults : Definition → List Fault
typing_faults d = program_faults d 0 d.programs

-- ** freezes over pairs

-- whether an instruction freezes an object that may be at a place with a property that is bound both ways
abbrev pub freezes_pair : Definition → Kinds → Instruction → Bool
freezes_pair d ks (words.freeze r) = list_any (has_pair d) (places d (kind_in ks r))
freezes_pair d ks _ = false

-- the freezes over paired properties, in document order; each was a fault
abbrev pub freezes_over_pairs : Definition → List Site
freezes_over_pairs d = filter (λ (s : Site). freezes_pair d s.kinds s.instruction) (sites d)
