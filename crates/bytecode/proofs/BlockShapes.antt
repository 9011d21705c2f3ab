-- The blocks that code keeps and those that the machine has are ended, lead back and count alike.
use Rattle.std.proofs.Common.{◌≡◌, ℕ, suc, ◌+◌, ◌||◌, not, cond, Bool, true, false, List, [], ◌∷◌, map, length, Some, refl, sym, ap, ◌∙◌, drop, get_or, ◌<◌, add-one, arith, zero, true≢false, is_some, unwrap_or, slice_get}
use Rattle.std.proofs.Math.Seq.{drop-cons}
use Rattle.ui_machine.specs.Seq.{total}
use Rattle.std.specs.List.{list_any, enumerate_from, position_from}
use Rattle.bytecode.specs.declared.computations.Computation.{Computation}
use Rattle.bytecode.specs.declared.computations.Computation.TheVariants as computations
use Rattle.bytecode.specs.declared.instructions.Instruction.{Instruction}
use Rattle.bytecode.specs.declared.instructions.ControlInstruction.{ControlInstruction}
use Rattle.bytecode.specs.declared.instructions.ControlInstruction.TheVariants as controls
use Rattle.bytecode.specs.declared.instructions.PropertyInstruction.{PropertyInstruction}
use Rattle.bytecode.specs.declared.instructions.PropertyInstruction.TheVariants as properties
use Rattle.bytecode.specs.declared.instructions.ObjectInstruction.{ObjectInstruction}
use Rattle.bytecode.specs.declared.instructions.ObjectInstruction.TheVariants as objects
use Rattle.bytecode.specs.declared.instructions.SignalInstruction.{SignalInstruction}
use Rattle.bytecode.specs.declared.instructions.SignalInstruction.TheVariants as signals
use Rattle.bytecode.specs.declared.instructions.SourceInstruction.{SourceInstruction}
use Rattle.bytecode.specs.declared.instructions.SourceInstruction.TheVariants as sources
use Rattle.bytecode.specs.declared.programs.Block.{Block}
use Rattle.bytecode.specs.Computing.{instruction_of}
use Rattle.bytecode.specs.View.{instruction_view, block_view, control_view, property_instruction_view, object_instruction_view, signal_instruction_view, source_instruction_view}
use Rattle.bytecode.specs.Shape.{ends_block, leads_back, is_ended, is_jump, ends_in_jump, may_repeat, first_backward, first_open, first_bad_repeat, instructions_in}

pub stays : (c : Computation) (to : ℕ) → ends_block (instruction_of c to) ≡ false
stays (computations.Const v) to = refl
stays (computations.Move from) to = refl
stays computations.Clear to = refl
stays (computations.Arithmetic operation a b) to = refl
stays (computations.Compare comparison a b) to = refl
stays (computations.Same a b) to = refl
stays (computations.Not a) to = refl
stays (computations.And a b) to = refl
stays (computations.Or a b) to = refl
stays (computations.Join a b) to = refl
stays (computations.Convert a kind) to = refl

pub leads_nowhere : (n : ℕ) (c : Computation) (to : ℕ) → leads_back n (instruction_of c to) ≡ false
leads_nowhere n (computations.Const v) to = refl
leads_nowhere n (computations.Move from) to = refl
leads_nowhere n computations.Clear to = refl
leads_nowhere n (computations.Arithmetic operation a b) to = refl
leads_nowhere n (computations.Compare comparison a b) to = refl
leads_nowhere n (computations.Same a b) to = refl
leads_nowhere n (computations.Not a) to = refl
leads_nowhere n (computations.And a b) to = refl
leads_nowhere n (computations.Or a b) to = refl
leads_nowhere n (computations.Join a b) to = refl
leads_nowhere n (computations.Convert a kind) to = refl

pub ends : (i : ControlInstruction) → ends_block (control_view i) ≡ true
ends (controls.Jump to) = refl
ends (controls.Branch on then_to else_to) = refl
ends (controls.BranchNull on then_to else_to) = refl
ends (controls.Return from) = refl

pub property_stays : (i : PropertyInstruction) → ends_block (property_instruction_view i) ≡ false
property_stays (properties.Get to object property) = refl
property_stays (properties.Set object property from) = refl
property_stays (properties.Notify object property) = refl
property_stays (properties.Freeze object) = refl
property_stays (properties.Thaw object) = refl

pub property_leads_nowhere : (n : ℕ) (i : PropertyInstruction) → leads_back n (property_instruction_view i) ≡ false
property_leads_nowhere n (properties.Get to object property) = refl
property_leads_nowhere n (properties.Set object property from) = refl
property_leads_nowhere n (properties.Notify object property) = refl
property_leads_nowhere n (properties.Freeze object) = refl
property_leads_nowhere n (properties.Thaw object) = refl

pub object_stays : (i : ObjectInstruction) → ends_block (object_instruction_view i) ≡ false
object_stays (objects.LookUp to id) = refl
object_stays (objects.New to id) = refl
object_stays (objects.Sink object) = refl
object_stays (objects.Orphan object) = refl
object_stays (objects.Dispose object) = refl
object_stays (objects.Adopt to parent child) = refl

pub object_leads_nowhere : (n : ℕ) (i : ObjectInstruction) → leads_back n (object_instruction_view i) ≡ false
object_leads_nowhere n (objects.LookUp to id) = refl
object_leads_nowhere n (objects.New to id) = refl
object_leads_nowhere n (objects.Sink object) = refl
object_leads_nowhere n (objects.Orphan object) = refl
object_leads_nowhere n (objects.Dispose object) = refl
object_leads_nowhere n (objects.Adopt to parent child) = refl

pub signal_stays : (i : SignalInstruction) → ends_block (signal_instruction_view i) ≡ false
signal_stays (signals.Emit into object signal detail args) = refl
signal_stays (signals.Connect to object connection) = refl
signal_stays (signals.Disconnect object program) = refl
signal_stays (signals.Block object program) = refl
signal_stays (signals.Unblock object program) = refl
signal_stays signals.Stop = refl

pub signal_leads_nowhere : (n : ℕ) (i : SignalInstruction) → leads_back n (signal_instruction_view i) ≡ false
signal_leads_nowhere n (signals.Emit into object signal detail args) = refl
signal_leads_nowhere n (signals.Connect to object connection) = refl
signal_leads_nowhere n (signals.Disconnect object program) = refl
signal_leads_nowhere n (signals.Block object program) = refl
signal_leads_nowhere n (signals.Unblock object program) = refl
signal_leads_nowhere n signals.Stop = refl

pub source_stays : (i : SourceInstruction) → ends_block (source_instruction_view i) ≡ false
source_stays (sources.Unbind name) = refl
source_stays (sources.Idle to program priority with) = refl
source_stays (sources.Timeout to program priority interval with) = refl
source_stays (sources.Remove program) = refl

pub source_leads_nowhere : (n : ℕ) (i : SourceInstruction) → leads_back n (source_instruction_view i) ≡ false
source_leads_nowhere n (sources.Unbind name) = refl
source_leads_nowhere n (sources.Idle to program priority with) = refl
source_leads_nowhere n (sources.Timeout to program priority interval with) = refl
source_leads_nowhere n (sources.Remove program) = refl

-- ** jumps

pub is_none : (c : Computation) (to : ℕ) → is_jump (instruction_of c to) ≡ false
is_none (computations.Const v) to = refl
is_none (computations.Move from) to = refl
is_none computations.Clear to = refl
is_none (computations.Arithmetic operation a b) to = refl
is_none (computations.Compare comparison a b) to = refl
is_none (computations.Same a b) to = refl
is_none (computations.Not a) to = refl
is_none (computations.And a b) to = refl
is_none (computations.Or a b) to = refl
is_none (computations.Join a b) to = refl
is_none (computations.Convert a kind) to = refl

pub property_is_none : (i : PropertyInstruction) → is_jump (property_instruction_view i) ≡ false
property_is_none (properties.Get to object property) = refl
property_is_none (properties.Set object property from) = refl
property_is_none (properties.Notify object property) = refl
property_is_none (properties.Freeze object) = refl
property_is_none (properties.Thaw object) = refl

pub object_is_none : (i : ObjectInstruction) → is_jump (object_instruction_view i) ≡ false
object_is_none (objects.LookUp to id) = refl
object_is_none (objects.New to id) = refl
object_is_none (objects.Sink object) = refl
object_is_none (objects.Orphan object) = refl
object_is_none (objects.Dispose object) = refl
object_is_none (objects.Adopt to parent child) = refl

pub signal_is_none : (i : SignalInstruction) → is_jump (signal_instruction_view i) ≡ false
signal_is_none (signals.Emit into object signal detail args) = refl
signal_is_none (signals.Connect to object connection) = refl
signal_is_none (signals.Disconnect object program) = refl
signal_is_none (signals.Block object program) = refl
signal_is_none (signals.Unblock object program) = refl
signal_is_none signals.Stop = refl

pub source_is_none : (i : SourceInstruction) → is_jump (source_instruction_view i) ≡ false
source_is_none (sources.Unbind name) = refl
source_is_none (sources.Idle to program priority with) = refl
source_is_none (sources.Timeout to program priority interval with) = refl
source_is_none (sources.Remove program) = refl

pub repeat_from : (i : ℕ) (bs : List Block) → position_from (λ b. not (may_repeat b.repeat b.code)) i (map block_view bs)
    ≡ position_from (λ b. not (may_repeat b.repeat (map instruction_view b.code.items))) i bs
repeat_from i [] = refl
repeat_from i (b ∷ bs) = ap (cond (not (may_repeat b.repeat (map instruction_view b.code.items))) (Some i)) (repeat_from (i + 1) bs)

pub repeat_viewed : (bs : List Block) → first_bad_repeat (map block_view bs)
    ≡ position_from (λ b. not (may_repeat b.repeat (map instruction_view b.code.items))) 0 bs
repeat_viewed bs = repeat_from 0 bs

-- ** mapped lists

pub any_mapped : {A B : Type 0} (test : B → Bool) (f : A → B) (xs : List A) → list_any test (map f xs) ≡ list_any (λ x. test (f x)) xs
any_mapped test f [] = refl
any_mapped test f (x ∷ xs) = ap (λ b. test (f x) || b) (any_mapped test f xs)

pub length_viewed : {A B : Type 0} (f : A → B) (xs : List A) → length (map f xs) ≡ length xs
length_viewed f [] = refl
length_viewed f (x ∷ xs) = ap suc (length_viewed f xs)

pub counted_viewed : (bs : List Block) → instructions_in (map block_view bs) ≡ total (λ b. length b.code.items) bs
counted_viewed [] = refl
counted_viewed (b ∷ bs) =
    ap (λ n. n + instructions_in (map block_view bs)) (length_viewed instruction_view b.code.items)
    ∙ ap (λ n. length b.code.items + n) (counted_viewed bs)

pub open_from : (i : ℕ) (bs : List Block) → position_from (λ b. not (is_ended b.code)) i (map block_view bs)
    ≡ position_from (λ b. not (is_ended (map instruction_view b.code.items))) i bs
open_from i [] = refl
open_from i (b ∷ bs) = ap (cond (not (is_ended (map instruction_view b.code.items))) (Some i)) (open_from (i + 1) bs)

pub open_viewed : (bs : List Block) → first_open (map block_view bs)
    ≡ position_from (λ b. not (is_ended (map instruction_view b.code.items))) 0 bs
open_viewed bs = open_from 0 bs

pub backward_from : (i j : ℕ) (bs : List Block)
    → position_from (λ e. list_any (leads_back e.0) (e.1).code) i (enumerate_from j (map block_view bs))
    ≡ position_from (λ e. list_any (λ i. leads_back e.0 (instruction_view i)) (e.1).code.items) i (enumerate_from j bs)
backward_from i j [] = refl
backward_from i j (b ∷ bs) =
    ap (λ t. cond t (Some i) (position_from (λ e. list_any (leads_back e.0) (e.1).code) (i + 1) (enumerate_from (j + 1) (map block_view bs))))
    (any_mapped (leads_back j) instruction_view b.code.items)
    ∙ ap (cond (list_any (λ i. leads_back j (instruction_view i)) b.code.items) (Some i)) (backward_from (i + 1) (j + 1) bs)

pub backward_viewed : (bs : List Block) → first_backward (map block_view bs)
    ≡ position_from (λ e. list_any (λ i. leads_back e.0 (instruction_view i)) (e.1).code.items) 0 (enumerate_from 0 bs)
backward_viewed bs = backward_from 0 0 bs

-- ** counting

pub one_more : (bs : List Block) (i : ℕ) (b : Block) → i < length bs → b ≡ get_or bs i b
    → total (λ b. length b.code.items) (drop i bs) ≡ length b.code.items + total (λ b. length b.code.items) (drop (i + 1) bs)
one_more bs i b lt is = let e : drop i bs ≡ get_or bs i b ∷ drop (suc i) bs = drop-cons bs i b lt in rw (add-one, e, ← is) refl

-- ** the last instruction

pub last_ends : (is : List Instruction) (k : ℕ) (x : Instruction) → length is ≡ k + 1 → slice_get is k ≡ Some x
    → is_ended (map instruction_view is) ≡ ends_block (instruction_view x)
last_ends [] k x e h = absurd (true≢false (ap is_some (sym h)))
last_ends (i ∷ []) zero x e h = ap (λ o. ends_block (instruction_view (unwrap_or o i))) h
last_ends (i ∷ []) (suc k) x e h = absurd (true≢false (ap is_some (sym h)))
last_ends (i ∷ j ∷ is) zero x e h = absurd (omega (arith, e))
last_ends (i ∷ j ∷ is) (suc k) x e h = last_ends (j ∷ is) k x (omega (arith, e)) h

pub last_jumps : (is : List Instruction) (k : ℕ) (x : Instruction) → length is ≡ k + 1 → slice_get is k ≡ Some x
    → ends_in_jump (map instruction_view is) ≡ is_jump (instruction_view x)
last_jumps [] k x e h = absurd (true≢false (ap is_some (sym h)))
last_jumps (i ∷ []) zero x e h = ap (λ o. is_jump (instruction_view (unwrap_or o i))) h
last_jumps (i ∷ []) (suc k) x e h = absurd (true≢false (ap is_some (sym h)))
last_jumps (i ∷ j ∷ is) zero x e h = absurd (omega (arith, e))
last_jumps (i ∷ j ∷ is) (suc k) x e h = last_jumps (j ∷ is) k x (omega (arith, e)) h
