-- Instructions of a block, one after the other.
use Rattle.std.proofs.Common.{Bool, true, false, ◌≡◌, refl, sym, ap, ◌∙◌, ℕ, zero, suc, ◌+◌, ◌≤◌, List, [], ◌∷◌, ◌++◌, length, drop, Option, None, Some, Ok, Err, slice_get, arith}
use Rattle.std.proofs.lemmas.Option.{none-some, same_Some}
use Rattle.std.specs.Prelude.{not, ◌&&◌}
use Rattle.ui_machine.specs.Definition.{Definition}
use Rattle.ui_machine.specs.Definition.Programs.{Block, Instruction, Program}
use Rattle.ui_machine.specs.Definition.Programs as words
use Rattle.ui_machine.specs.Outcome.{only_if}
use Rattle.law_typing.specs.Rules.Answers.{Rule, Typing}
use Rattle.law_typing.specs.Rules.Answers as rules
use Rattle.law_typing.specs.Rules.RegisterKinds.{Kinds, kinds_fit}
use Rattle.law_typing.specs.Rules.Typing.{block_broken, first_broken, typed, typed_in, unless_broken}
use Rattle.law_typing.specs.Rules.Faults.{Fault, ill_typed}
use Rattle.law_typing.specs.Rules.Sites.{block_faults, broken_at, program_faults}
use Rattle.verify_instructions.specs.CodeSteps.{is_unfit}

fails : {A : Type 0} (b : Bool) (r : Rule) (answer : Typing A) → (true && not b) ≡ true → only_if b r answer ≡ Err r
fails true r answer e = absurd (cc)
fails false r answer e = refl

passes : {A : Type 0} (b : Bool) (r : Rule) (answer : Typing A) → (true && not b) ≡ false → only_if b r answer ≡ answer
passes true r answer e = refl
passes false r answer e = absurd (cc)

-- the registers do not fit those of the pass that is to come
pub unfit : (d : Definition) (p : Program) (own : Option Kinds) (ks : Kinds) (i : Instruction) → is_unfit d own ks i ≡ true →
    typed_in d p own ks i ≡ Err rules.block
unfit d p None ks i e = absurd (cc)
unfit d p (Some entry) ks (words.jump to) e = fails (kinds_fit d ks entry) rules.block (typed d p ks (words.jump to)) e
unfit d p (Some entry) ks i e = absurd (cc)

-- they do, or no pass is to come
pub fit : (d : Definition) (p : Program) (own : Option Kinds) (ks : Kinds) (i : Instruction) → is_unfit d own ks i ≡ false →
    typed_in d p own ks i ≡ typed d p ks i
fit d p None ks i e = refl
fit d p (Some entry) ks (words.jump to) e = passes (kinds_fit d ks entry) rules.block (typed d p ks (words.jump to)) e
fit d p (Some entry) ks i e = refl

-- ** the first broken rule of a block

-- an instruction that breaks a rule is the first that does
pub stops : (d : Definition) (p : Program) (own : Option Kinds) (at : ℕ) (ks : Kinds) (i : Instruction) (rest : List Instruction) (r : Rule)
    (first : Option (ℕ × Rule)) → first ≡ first_broken d p own at ks (i ∷ rest) → typed_in d p own ks i ≡ Err r → first ≡ Some (at, r)
stops d p own at ks i rest r first is fails =
    is ∙ ap (λ answer. unless_broken (λ rule. Some (at, rule)) (λ after. first_broken d p own (suc at) after rest) answer) fails

-- where it breaks none, the next one may
pub goes_on : (d : Definition) (p : Program) (own : Option Kinds) (at : ℕ) (ks after : Kinds) (i : Instruction) (rest : List Instruction)
    (first : Option (ℕ × Rule)) → first ≡ first_broken d p own at ks (i ∷ rest) → typed_in d p own ks i ≡ Ok after →
    first ≡ first_broken d p own (at + 1) after rest
goes_on d p own at ks after i rest first is passes =
    is ∙ (ap (λ answer. unless_broken (λ rule. Some (at, rule)) (λ later. first_broken d p own (suc at) later rest) answer) passes
    ∙ (let e : suc at ≡ at + 1 = omega arith in ap (λ n. first_broken d p own n after rest) e))

-- ** the first fault of a program

-- a block with a fault
pub block_stops : (d : Definition) (p : Program) (program n : ℕ) (b : Block) (blocks : List Block) (at : ℕ) (r : Rule) (first : Option Fault) →
    first ≡ slice_get (block_faults d p program n (b ∷ blocks)) 0 → block_broken d p b ≡ Some (at, r) → first ≡ Some (ill_typed program n at r)
block_stops d p program n b blocks at r first is fails =
    is ∙ ap (λ broken. slice_get (broken_at program n broken ++ block_faults d p program (suc n) blocks) 0) fails

-- one without
pub block_goes_on : (d : Definition) (p : Program) (program n : ℕ) (b : Block) (blocks : List Block) (first : Option Fault) →
    first ≡ slice_get (block_faults d p program n (b ∷ blocks)) 0 → block_broken d p b ≡ None →
    first ≡ slice_get (block_faults d p program (n + 1) blocks) 0
block_goes_on d p program n b blocks first is none =
    is ∙ (ap (λ broken. slice_get (broken_at program n broken ++ block_faults d p program (suc n) blocks) 0) none
    ∙ (let e : suc n ≡ n + 1 = omega arith in ap (λ m. slice_get (block_faults d p program m blocks) 0) e))

-- ** the first fault of all programs

first_of_both : (xs ys : List Fault) (x : Fault) → slice_get xs 0 ≡ Some x → slice_get (xs ++ ys) 0 ≡ Some x
first_of_both [] ys x is = absurd (none-some _ is)
first_of_both (y ∷ xs) ys x is = is

first_of_second : (xs ys : List Fault) → slice_get xs 0 ≡ None → slice_get (xs ++ ys) 0 ≡ slice_get ys 0
first_of_second [] ys none = refl
first_of_second (y ∷ xs) ys none = absurd (none-some _ (sym none))

-- a program with a fault
pub program_stops : (d : Definition) (n : ℕ) (p : Program) (programs : List Program) (fault : Fault) (first : Option Fault) →
    first ≡ slice_get (program_faults d n (p ∷ programs)) 0 → slice_get (block_faults d p n 0 p.blocks) 0 ≡ Some fault → first ≡ Some fault
program_stops d n p programs fault first is fails =
    is ∙ first_of_both (block_faults d p n 0 p.blocks) (program_faults d (suc n) programs) fault fails

-- one without
pub program_goes_on : (d : Definition) (n : ℕ) (p : Program) (programs : List Program) (first : Option Fault) →
    first ≡ slice_get (program_faults d n (p ∷ programs)) 0 → slice_get (block_faults d p n 0 p.blocks) 0 ≡ None →
    first ≡ slice_get (program_faults d (n + 1) programs) 0
program_goes_on d n p programs first is none =
    is ∙ (first_of_second (block_faults d p n 0 p.blocks) (program_faults d (suc n) programs) none
    ∙ (let e : suc n ≡ n + 1 = omega arith in ap (λ m. slice_get (program_faults d m programs) 0) e))

-- from a program on
pub from_program : (programs : List Program) (n : ℕ) (p : Program) → Some p ≡ slice_get programs n → drop n programs ≡ p ∷ drop (n + 1) programs
from_program [] n p is = absurd (none-some _ (sym is))
from_program (q ∷ programs) zero p is = ap (λ x. x ∷ programs) (same_Some _ _ (sym is))
from_program (q ∷ programs) (suc n) p is =
    from_program programs n p is ∙ (let e : suc (n + 1) ≡ suc n + 1 = omega arith in ap (λ m. p ∷ drop m (q ∷ programs)) e)

-- behind the last
pub no_program : (programs : List Program) (n : ℕ) → None ≡ slice_get programs n → drop n programs ≡ []
no_program [] zero is = refl
no_program [] (suc n) is = refl
no_program (q ∷ programs) zero is = absurd (none-some _ is)
no_program (q ∷ programs) (suc n) is = no_program programs n is

pub past_all : (programs : List Program) (n : ℕ) → length programs ≤ n → drop n programs ≡ []
past_all [] zero past = refl
past_all [] (suc n) past = refl
past_all (q ∷ programs) zero past = absurd (omega (arith, past))
past_all (q ∷ programs) (suc n) past = past_all programs n (omega (arith, past))
