-- How much the programs of a definition have.
use Rattle.std.proofs.Common.{◌≡◌, refl, sym, ap, ℕ, zero, suc, ◌+◌, ◌<◌, ◌≤◌, Bool, true, false, nat_lt, List, [], ◌∷◌, length, take, Option, None, Some, option_map, slice_get, if◌then◌else◌, arith}
use Rattle.std.specs.List.{AllByRecursion}
use Rattle.std.proofs.lemmas.Bool.Decides.{nat_tests}
use Rattle.std.proofs.lemmas.Option.{none-some, slice_get_within}
use Rattle.ui_machine.specs.Definition.{Definition}
use Rattle.ui_machine.specs.Definition.Programs.{Block, Instruction, Program}
use Rattle.law_typing.specs.Graph.Channels.{Channel}
use Rattle.law_typing.specs.Rules.RegisterKinds.{Kinds}
use Rattle.law_typing.specs.Rules.Typing.{after}
use Rattle.bytecode.specs.declared.faults.ProgramFault.{ProgramFault}
use Rattle.bytecode.specs.declared.faults.ProgramFault.TheVariants as faults
use Rattle.bytecode.specs.declared.faults.ProgramLimit.{ProgramLimit}
use Rattle.bytecode.specs.declared.faults.ProgramLimit.TheVariants as limits
use Rattle.bytecode.specs.Shape.{at_block, first_backward, first_bad_repeat, first_limit, first_open, instructions_in, or_next, shape_fault}
use Rattle.definition_format.specs.Meaning.{IsBasic}
use Rattle.verify_sketches.specs.Pointwise.{Pointwise}
use Rattle.verify_sketches.specs.Sketches.{SketchedBlock, SketchedStart}
use Rattle.verify_starts.specs.Sizes.{AreSmall, IsShortProgram}
use Rattle.verify_starts.specs.SketchedCode.{AreBlocks, ArePrograms, IsBlock, IsNumberOf, sketched_code}

-- ** programs

third_none : (a b c d : Option ProgramFault) → or_next a (or_next b (or_next c d)) ≡ None → c ≡ None
third_none None None None d h = refl
third_none None None (Some f) d h = absurd (none-some f (sym h))
third_none None (Some f) c d h = absurd (none-some f (sym h))
third_none (Some f) b c d h = absurd (none-some f (sym h))

no_limit : (l : Option ProgramLimit) → option_map faults.Limit l ≡ None → l ≡ None
no_limit None h = refl
no_limit (Some l) h = absurd (none-some (faults.Limit l) (sym h))

within : (p : Program) → first_limit p ≡ None → IsShortProgram p
within p none = by (nat_lt 32 p.registers) (nat_lt 64 (length p.blocks)) (nat_lt 512 (instructions_in p.blocks)) refl refl none
  where
    by : (a b c : Bool) → nat_lt 64 (length p.blocks) ≡ b → nat_lt 512 (instructions_in p.blocks) ≡ c →
        (if a then Some limits.Registers else (if b then Some limits.Blocks else (if c then Some limits.Instructions else None))) ≡ None → IsShortProgram p
    by true b c e f h = absurd (none-some limits.Registers (sym h))
    by false true c e f h = absurd (none-some limits.Blocks (sym h))
    by false false true e f h = absurd (none-some limits.Instructions (sym h))
    by false false false e f h = record { blocks = grind (arith, nat_tests); instructions = grind (arith, nat_tests) }

-- a program whose blocks fit together is short
pub short_program : (p : Program) → shape_fault p ≡ None → IsShortProgram p
short_program p none =
    within p (no_limit (first_limit p) (third_none (option_map (λ b. faults.BackwardJump (at_block b)) (first_backward p.blocks))
    (option_map (λ b. faults.NoReturn (at_block b)) (first_open p.blocks)) (option_map faults.Limit (first_limit p))
    (option_map (λ b. faults.BadRepeat (at_block b)) (first_bad_repeat p.blocks)) none))

-- those from a block on
pub next_instructions : (bs rest : List Block) (b : Block) → bs ≡ b ∷ rest → instructions_in bs ≡ length b.code + instructions_in rest
next_instructions bs rest b is = ap instructions_in is

all_short : (ps : List Program) → ((n : ℕ) (p : Program) → slice_get ps n ≡ Some p → IsShortProgram p) → AllByRecursion IsShortProgram ps
all_short [] each = tt
all_short (p ∷ ps) each = (each 0 p refl, all_short ps (λ n. each (suc n)))

first_short : (n : ℕ) (ps : List Program) → AllByRecursion IsShortProgram ps → AllByRecursion IsShortProgram (take n ps)
first_short zero [] all = tt
first_short zero (p ∷ ps) all = tt
first_short (suc n) [] all = tt
first_short (suc n) (p ∷ ps) all = (all.0, first_short n ps all.1)

-- each program of a definition is short, and they are few
pub each_short : (d : Definition) (number : ℕ) (p : Program) → IsBasic d → Some p ≡ slice_get d.programs number → IsShortProgram p
each_short d number p basic is = short_program p (basic.shaped number p (sym is))

pub each_below : (d : Definition) (number : ℕ) (p : Program) → IsBasic d → Some p ≡ slice_get d.programs number → number < 256
each_below d number p basic is = let low = slice_get_within d.programs number p (sym is) in let few = basic.few_programs in omega (arith, low, few)

-- ** what is sketched of them

same_length : {A B : Type 0} (R : A → B → Type 0) (xs : List A) (ys : List B) → Pointwise R xs ys → length xs ≡ length ys
same_length R [] [] all = refl
same_length R [] (y ∷ ys) all = absurd all
same_length R (x ∷ xs) [] all = absurd all
same_length R (x ∷ xs) (y ∷ ys) all = ap suc (same_length R xs ys all.1)

module _ (d : Definition) (all : List Channel) (starts : List SketchedStart) where
  code_length : (p : Program) (ks : Kinds) (code : List Instruction) → length (sketched_code d all p ks code) ≡ length code
  code_length p ks [] = refl
  code_length p ks (i ∷ rest) = ap suc (code_length p (after d p ks i) rest)

  few_instructions : (p : Program) (ss : List SketchedBlock) (bs : List Block) → instructions_in bs ≤ 512 → Pointwise (IsBlock d all starts p) ss bs →
      AllByRecursion (λ (b : SketchedBlock). length b.starts ≤ 512) ss
  few_instructions p [] [] few are = tt
  few_instructions p [] (b ∷ bs) few are = absurd are
  few_instructions p (s ∷ ss) [] few are = absurd are
  few_instructions p (s ∷ ss) (b ∷ bs) few are = (
    (let e = same_length (IsNumberOf starts) s.starts (sketched_code d all p b.entry b.code) are.0.starts_are in let f = code_length p b.entry b.code in
        omega (arith, e, f, few)),
    few_instructions p ss bs (omega (arith, few)) are.1,
  )

  few_blocks : (ss : List (List SketchedBlock)) (ps : List Program) → AllByRecursion IsShortProgram ps → ArePrograms d all starts ss ps →
      AllByRecursion (λ (bs : List SketchedBlock). length bs ≤ 64) ss
  few_blocks [] [] short are = tt
  few_blocks [] (p ∷ ps) short are = absurd are
  few_blocks (s ∷ ss) [] short are = absurd are
  few_blocks (s ∷ ss) (p ∷ ps) short are = (
    (let e = same_length (IsBlock d all starts p) s p.blocks are.0 in let f = short.0.blocks in omega (arith, e, f)),
    few_blocks ss ps short.1 are.1,
  )

  few_in_blocks : (ss : List (List SketchedBlock)) (ps : List Program) → AllByRecursion IsShortProgram ps → ArePrograms d all starts ss ps →
      AllByRecursion (λ (bs : List SketchedBlock). AllByRecursion (λ (b : SketchedBlock). length b.starts ≤ 512) bs) ss
  few_in_blocks [] [] short are = tt
  few_in_blocks [] (p ∷ ps) short are = absurd are
  few_in_blocks (s ∷ ss) [] short are = absurd are
  few_in_blocks (s ∷ ss) (p ∷ ps) short are = (few_instructions p s p.blocks short.0.instructions are.0, few_in_blocks ss ps short.1 are.1)

  -- the first so many of a definition's programs
  pub few_programs : (n : ℕ) (ss : List (List SketchedBlock)) → IsBasic d → length starts ≤ 131073 → ArePrograms d all starts ss (take n d.programs) → AreSmall starts ss
  few_programs n ss basic few are = record {
    starts = few;
    programs = (let e = same_length (AreBlocks d all starts) ss (take n d.programs) are in let f = few_first n d.programs in let g = basic.few_programs in omega (arith, e, f, g));
    blocks = few_blocks ss (take n d.programs) short are;
    instructions = few_in_blocks ss (take n d.programs) short are;
  }
    where
      short : AllByRecursion IsShortProgram (take n d.programs)
      short = first_short n d.programs (all_short d.programs (λ number p is. each_short d number p basic (sym is)))

      few_first : (k : ℕ) (ps : List Program) → length (take k ps) ≤ length ps
      few_first zero [] = omega arith
      few_first zero (p ∷ ps) = omega arith
      few_first (suc k) [] = omega arith
      few_first (suc k) (p ∷ ps) = let e = few_first k ps in omega (arith, e)
