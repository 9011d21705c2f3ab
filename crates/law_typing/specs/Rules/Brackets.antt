-- Freezes and thaws. What is frozen in a block is thawed in it, by the same register, which is not written between. Which brackets are
-- open at an instruction can be read from the code that follows it: those that are still to be closed.
use Rattle.std.specs.Prelude.{ℕ, suc, Bool, true, false, cond, not, ◌&&◌, nat_eq, List, [], ◌∷◌, ◌++◌, Option, None, Some}
use Rattle.std.specs.List.{list_any}
use Rattle.ui_machine.specs.Definition.{Definition}
use Rattle.ui_machine.specs.Definition.Programs.{Instruction, Block, Program}
use Rattle.ui_machine.specs.Definition.Places.{Bind}
use Rattle.ui_machine.specs.Definition.Programs as words
use Rattle.law_typing.specs.Graph.Channels.{is_pair}
use Rattle.law_typing.specs.Rules.Faults.{Fault, unbalanced}

-- the register that an instruction writes
abbrev pub written : Instruction → Option ℕ
written (words.const to kind v) = Some to
written (words.move to from) = Some to
written (words.clear to) = Some to
written (words.arithmetic operation to a b) = Some to
written (words.compare comparison to a b) = Some to
written (words.same to a b) = Some to
written (words.negate to a) = Some to
written (words.both to a b) = Some to
written (words.either to a b) = Some to
written (words.join to a b) = Some to
written (words.convert to a kind) = Some to
written (words.get to object name) = Some to
written (words.object to id) = Some to
written (words.new to id) = Some to
written (words.adopt to parent child) = Some to
written (words.emit into object name detail args) = into
written (words.connect to object c) = Some to
written (words.idle to program priority with) = Some to
written (words.timeout to program priority interval with) = Some to
written (words.call to object name args) = Some to
written _ = None

-- whether a register is among some
abbrev pub is_among : List ℕ → ℕ → Bool
is_among registers r = list_any (nat_eq r) registers

-- some registers with one entry of this one less
abbrev pub less_one : ℕ → List ℕ → List ℕ
less_one r [] = []
less_one r (x ∷ xs) = cond (nat_eq x r) xs (x ∷ less_one r xs)

-- the registers whose bracket is open before some code: those that it thaws and has not frozen before
abbrev pub opened : List Instruction → List ℕ
opened [] = []
opened (words.freeze r ∷ rest) = less_one r (opened rest)
opened (words.thaw r ∷ rest) = r ∷ opened rest
opened (i ∷ rest) = opened rest

-- whether no open bracket's register is written
abbrev pub keeps : List ℕ → Option ℕ → Bool
keeps open_after None = true
keeps open_after (Some register) = not (is_among open_after register)

-- what an instruction may do, where these brackets are open after it: a freeze opens one of them, and no open one's register is written
abbrev pub keeps_brackets : List ℕ → Instruction → Bool
keeps_brackets open_after (words.freeze r) = is_among open_after r
keeps_brackets open_after i = keeps open_after (written i)

-- each instruction does
abbrev pub is_bracketed : List Instruction → Bool
is_bracketed [] = true
is_bracketed (i ∷ rest) = keeps_brackets (opened rest) i && is_bracketed rest

-- whether a list is empty
abbrev pub is_empty : {A : Type 0} → List A → Bool
is_empty [] = true
is_empty (x ∷ xs) = false

-- whether the brackets of a block match: each instruction keeps them, and none is open as the block begins
abbrev pub is_balanced : List Instruction → Bool
is_balanced code = is_bracketed code && is_empty (opened code)

-- the fault of a block whose brackets do not match
abbrev pub balance_faults : (program block : ℕ) → List Block → List Fault
balance_faults program block [] = []
balance_faults program block (b ∷ blocks) =
    cond (is_balanced b.code) [] (unbalanced program block ∷ []) ++ balance_faults program (suc block) blocks

-- of the programs from this number on
abbrev pub unbalanced_from : ℕ → List Program → List Fault
unbalanced_from program [] = []
unbalanced_from program (p ∷ programs) = balance_faults program 0 p.blocks ++ unbalanced_from (suc program) programs

-- the blocks whose brackets do not match, in document order
abbrev pub bracket_faults : Definition → List Fault
bracket_faults d = unbalanced_from 0 d.programs

-- ** pairs

-- whether a place has a property that is bound both ways
abbrev pub has_pair : Definition → ℕ → Bool
has_pair d place = list_any (λ (b : Bind). is_pair b && is_among (b.source ∷ b.target ∷ []) place) d.bindings
