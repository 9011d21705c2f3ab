-- Instructions of a block, one after the other.
use Rattle.std.proofs.Common.{◌≡◌, ◌∙◌, refl, sym, ap, subst, ℕ, List, [], ◌∷◌, ◌++◌, Some, slice_get, append_assoc, append-nil}
use Rattle.ui_machine.specs.Definition.{Definition}
use Rattle.ui_machine.specs.Definition.Programs.{Block, Instruction, Program}
use Rattle.law_typing.specs.Graph.Channels.{Channel}
use Rattle.law_typing.specs.Rules.RegisterKinds.{Kinds}
use Rattle.law_typing.specs.Rules.Typing.{after}
use Rattle.verify_sketches.specs.Pointwise.{Pointwise}
use Rattle.verify_sketches.specs.Sketches.{SketchedBlock, SketchedStart}
use Rattle.verify_starts.specs.SketchedCode.{AreBlocks, AreNumbersOf, ArePrograms, IsBlock, IsNumberOf, sketched_code}
use Rattle.verify_starts.specs.Tables.{Extends}
use Rattle.verify_starts.specs.Triggers.{start_for, trigger_of}
use Rattle.verify_starts.proofs.Pointwise.{pointwise_last, pointwise_to}
use Rattle.verify_starts.proofs.StartTables.{still}

-- the numbers of the instructions so far, where these kinds and instructions are left
pub record SoFar (d : Definition) (all : List Channel) (p : Program) (starts : List SketchedStart) (numbers : List ℕ) (ks : Kinds) (rest : List Instruction)
    (whole : List SketchedStart) : Type 0 where
  pub done : List SketchedStart
  pub are : AreNumbersOf starts numbers done
  pub is : done ++ sketched_code d all p ks rest ≡ whole

pub still_numbers : (old new : List SketchedStart) (numbers : List ℕ) (xs : List SketchedStart) → Extends old new → AreNumbersOf old numbers xs → AreNumbersOf new numbers xs
still_numbers old new numbers xs more are = pointwise_to (IsNumberOf old) (IsNumberOf new) numbers xs (λ n x is. still old new n x more is) are

pub none_so_far : (d : Definition) (all : List Channel) (p : Program) (starts : List SketchedStart) (ks : Kinds) (code : List Instruction) →
    SoFar d all p starts [] ks code (sketched_code d all p ks code)
none_so_far d all p starts ks code = record { done = []; are = tt; is = refl }

-- one more instruction
pub one_so_far : (d : Definition) (all : List Channel) (p : Program) (old new : List SketchedStart) (numbers more : List ℕ) (number : ℕ) (ks later : Kinds)
    (code rest : List Instruction) (i : Instruction) (whole : List SketchedStart) →
    SoFar d all p old numbers ks code whole → code ≡ i ∷ rest → Extends old new → slice_get new number ≡ Some (start_for d all (trigger_of d ks i)) →
    more ≡ numbers ++ number ∷ [] → later ≡ after d p ks i → SoFar d all p new more later rest whole
one_so_far d all p old new numbers more number ks later code rest i whole so_far code_is extends start more_is later_is = record {
  done = so_far.done ++ here ∷ [];
  are = rw more_is (pointwise_last (IsNumberOf new) numbers so_far.done number here (still_numbers old new numbers so_far.done extends so_far.are) start);
  is =
      append_assoc so_far.done (here ∷ []) (sketched_code d all p later rest)
      ∙ (ap (λ l. so_far.done ++ here ∷ sketched_code d all p l rest) later_is
      ∙ (sym (ap (λ c. so_far.done ++ sketched_code d all p ks c) code_is) ∙ so_far.is));
}
  where
    here : SketchedStart
    here = start_for d all (trigger_of d ks i)

-- all of them
pub all_so_far : (d : Definition) (all : List Channel) (p : Program) (starts : List SketchedStart) (numbers : List ℕ) (ks : Kinds) (code : List Instruction)
    (whole : List SketchedStart) → SoFar d all p starts numbers ks code whole → code ≡ [] → AreNumbersOf starts numbers whole
all_so_far d all p starts numbers ks code whole so_far none = by (sym (append-nil so_far.done) ∙ (sym (ap (λ c. so_far.done ++ sketched_code d all p ks c) none) ∙ so_far.is))
  where
    by : so_far.done ≡ whole → AreNumbersOf starts numbers whole
    by e = rw (← e) so_far.are

-- ** blocks and programs

still_block : (d : Definition) (all : List Channel) (p : Program) (old new : List SketchedStart) (s : SketchedBlock) (b : Block) → Extends old new → IsBlock d all old p s b →
    IsBlock d all new p s b
still_block d all p old new s b more is = record {
  starts_are = still_numbers old new s.starts (sketched_code d all p b.entry b.code) more is.starts_are;
  passes = is.passes;
  next = is.next;
}

still_blocks : (d : Definition) (all : List Channel) (old new : List SketchedStart) (ss : List SketchedBlock) (p : Program) → Extends old new → AreBlocks d all old ss p → AreBlocks d all new ss p
still_blocks d all old new ss p more are = pointwise_to (IsBlock d all old p) (IsBlock d all new p) ss p.blocks (λ s b is. still_block d all p old new s b more is) are

-- one more block
pub blocks_last : (d : Definition) (all : List Channel) (p : Program) (old new : List SketchedStart) (ss more : List SketchedBlock) (bs later : List Block) (s : SketchedBlock) (b : Block) →
    Extends old new → Pointwise (IsBlock d all old p) ss bs → IsBlock d all new p s b → more ≡ ss ++ s ∷ [] → later ≡ bs ++ b ∷ [] → Pointwise (IsBlock d all new p) more later
blocks_last d all p old new ss more bs later s b extends are is more_is later_is =
    subst (λ xs. Pointwise (IsBlock d all new p) xs later) (sym more_is)
    (subst (λ ys. Pointwise (IsBlock d all new p) (ss ++ s ∷ []) ys) (sym later_is)
    (pointwise_last (IsBlock d all new p) ss bs s b
    (pointwise_to (IsBlock d all old p) (IsBlock d all new p) ss bs (λ x y h. still_block d all p old new x y extends h) are) is))

-- one more program
pub programs_last : (d : Definition) (all : List Channel) (old new : List SketchedStart) (ss more : List (List SketchedBlock)) (ps later : List Program) (s : List SketchedBlock) (p : Program) →
    Extends old new → ArePrograms d all old ss ps → AreBlocks d all new s p → more ≡ ss ++ s ∷ [] → later ≡ ps ++ p ∷ [] → ArePrograms d all new more later
programs_last d all old new ss more ps later s p extends are is more_is later_is =
    subst (λ xs. ArePrograms d all new xs later) (sym more_is)
    (subst (λ ys. ArePrograms d all new (ss ++ s ∷ []) ys) (sym later_is)
    (pointwise_last (AreBlocks d all new) ss ps s p
    (pointwise_to (AreBlocks d all old) (AreBlocks d all new) ss ps (λ x y h. still_blocks d all old new x y extends h) are) is))
