-- What is so of lists that are read one entry after the other, and of blocks: where they are entered, that the last instruction and no other
-- ends one, and that they lead to later blocks.
use Rattle.std.proofs.Common.{◌≡◌, ℕ, zero, suc, ◌+◌, ◌<◌, Bool, true, false, not, cond, ◌||◌, ◌&&◌, nat_le, nat_lt, List, [], ◌∷◌, ◌++◌, length, Option, None, Some, slice_get, Result, refl, sym, ap, subst, ◌∙◌, arith}
use Rattle.std.specs.Prelude.{IfOk}
use Rattle.std.specs.List.{enumerate_from, list_any, position_from}
use Rattle.std.proofs.lemmas.Bool.{leb-true, ltb-true}
use Rattle.std.proofs.lemmas.Option.{none-some}
use Rattle.ui_machine.specs.Definition.Programs.{Block, Instruction}
use Rattle.ui_machine.specs.Definition.Programs as words
use Rattle.type_tree.specs.TypeName.{is_within}
use Rattle.bytecode.specs.Reading.Each.{each}
use Rattle.bytecode.specs.Shape.{ends_block, ends_in_jump, first_backward, first_bad_repeat, first_open, is_ended, is_jump, leads_back, may_repeat}
use Rattle.law_typing.specs.Graph.{next_of}
use Rattle.law_typing.specs.Laws.WellRead as laws
use Rattle.law_typing.specs.Laws.WellRead.{Ends, EndsInJump, RepeatRead, ends}
use Rattle.law_typing.specs.Verdict.Accepted.{Each}
use Rattle.law_reading.proofs.InstructionProofs.{on}

-- ** lists

-- what each entry keeps of what comes of those before it, is so of what comes of all
pub each_at : {S X E : Type 0} (P : ℕ → S → Type 0) (step : ℕ → S → X → Result S E) (all : List X)
    → ((i : ℕ) (s : S) (x : X) → slice_get all i ≡ Some x → P i s → IfOk (step i s x) (P (suc i)))
    → (i : ℕ) (s : S) (xs : List X) → ((j : ℕ) → slice_get xs j ≡ slice_get all (i + j)) → P i s
    → (n : ℕ) → n ≡ i + length xs → IfOk (each step i s xs) (P n)
unfolding each
each_at P step all keeps i s [] rest p n e =
    let same : i ≡ n = omega (arith, e) in
    subst (λ k. P k s) same p
each_at P step all keeps i s (x ∷ xs) rest p n e =
    let here : i + 0 ≡ i = omega arith in
    let one : i + 1 ≡ suc i = omega arith in
    on (P (suc i)) (P n) (step i s x) (λ t. each step (i + 1) t xs) (keeps i s x (sym (rest 0 ∙ ap (slice_get all) here)) p) λ t q.
    each_at P step all keeps (i + 1) t xs (λ j. let next : i + suc j ≡ (i + 1) + j = omega arith in rest (suc j) ∙ ap (slice_get all) next)
    (subst (λ k. P k t) (sym one) q) n (omega (arith, e))

-- no entry passes where none is found
pub none_passes : {X : Type 0} (test : X → Bool) (i : ℕ) (xs : List X) → position_from test i xs ≡ None → (n : ℕ) (x : X) → slice_get xs n ≡ Some x
    → test x ≡ false
none_passes test i [] e n x h = absurd (cc)
none_passes {X} test i (y ∷ ys) e n x h = by (test y) refl e (λ g k f. none_passes test (i + 1) ys g k x f)
  where
    by : (b : Bool) → test y ≡ b → cond b (Some i) (position_from test (i + 1) ys) ≡ None
        → (position_from test (i + 1) ys ≡ None → (k : ℕ) → slice_get ys k ≡ Some x → test x ≡ false) → test x ≡ false
    by true f g rest = absurd (none-some i (sym g))
    by false f g rest = at n h
      where
        at : (n : ℕ) → slice_get (y ∷ ys) n ≡ Some x → test x ≡ false
        at zero h = let same : y ≡ x = cc in subst (λ z. test z ≡ false) same f
        at (suc n) h = rest g n h

pub enumerated : {X : Type 0} (j : ℕ) (xs : List X) (n : ℕ) (x : X) → slice_get xs n ≡ Some x → slice_get (enumerate_from j xs) n ≡ Some (j + n, x)
enumerated j [] n x h = absurd (cc)
enumerated j (y ∷ ys) zero x h =
    let same : y ≡ x = cc in
    let here : j ≡ j + 0 = omega arith in
    ap (λ k. Some (k, y)) here ∙ ap (λ z. Some (j + 0, z)) same
enumerated j (y ∷ ys) (suc n) x h =
    let next : (j + 1) + n ≡ j + suc n = omega arith in
    enumerated (j + 1) ys n x h ∙ ap (λ k. Some (k, x)) next

-- where none of some passes, each fails
pub all_fail : {X : Type 0} (test : X → Bool) (xs : List X) → list_any test xs ≡ false → Each (λ x. test x ≡ false) xs
all_fail test [] e = tt
all_fail test (x ∷ xs) e = by (test x) refl e (λ g. all_fail test xs g)
  where
    by : (b : Bool) → test x ≡ b → (b || list_any test xs) ≡ false → (list_any test xs ≡ false → Each (λ x. test x ≡ false) xs)
        → (test x ≡ false) × Each (λ x. test x ≡ false) xs
    by true f g rest = absurd (cc)
    by false f g rest = (f, rest g)

-- ** what ends a block

pub ends_so : (i : Instruction) → ends i ≡ ends_block i
ends_so (words.const to kind v) = refl
ends_so (words.move to from) = refl
ends_so (words.clear to) = refl
ends_so (words.arithmetic operation to a b) = refl
ends_so (words.compare comparison to a b) = refl
ends_so (words.same to a b) = refl
ends_so (words.negate to a) = refl
ends_so (words.both to a b) = refl
ends_so (words.either to a b) = refl
ends_so (words.join to a b) = refl
ends_so (words.convert to a kind) = refl
ends_so (words.get to object name) = refl
ends_so (words.set object name from) = refl
ends_so (words.object to id) = refl
ends_so (words.new to id) = refl
ends_so (words.sink object) = refl
ends_so (words.orphan object) = refl
ends_so (words.dispose object) = refl
ends_so (words.adopt to parent child) = refl
ends_so (words.freeze object) = refl
ends_so (words.thaw object) = refl
ends_so (words.emit into object signal detail args) = refl
ends_so (words.notify object name) = refl
ends_so (words.connect to object c) = refl
ends_so (words.disconnect object program) = refl
ends_so (words.block object program) = refl
ends_so (words.unblock object program) = refl
ends_so words.stop = refl
ends_so (words.unbind name) = refl
ends_so (words.idle to program priority with) = refl
ends_so (words.timeout to program priority interval with) = refl
ends_so (words.remove program) = refl
ends_so (words.call to object name args) = refl
ends_so (words.jump to) = refl
ends_so (words.branch on then_to else_to) = refl
ends_so (words.branch_null on then_to else_to) = refl
ends_so (words.return from) = refl

-- instructions of which none but perhaps the last ends the block
abbrev pub Open : List Instruction → Type 0
Open [] = Unit {0}
Open (i ∷ []) = Unit {0}
Open (i ∷ j ∷ is) = (ends i ≡ false) × Open (j ∷ is)

pub open_more : (is : List Instruction) (i : Instruction) → Open is → is_ended is ≡ false → Open (is ++ i ∷ [])
open_more [] i open_so end = tt
open_more (x ∷ []) i open_so end = (ends_so x ∙ end, tt)
open_more (x ∷ y ∷ is) i open_so end = (open_so.0, open_more (y ∷ is) i open_so.1 end)

pub ended_so : (is : List Instruction) → Open is → is_ended is ≡ true → Ends is
ended_so [] open_so end = absurd (cc)
ended_so (x ∷ []) open_so end = ends_so x ∙ end
ended_so (x ∷ y ∷ is) open_so end = (open_so.0, ended_so (y ∷ is) open_so.1 end)

-- ** where blocks lead

neither : (a b : Bool) → (not a || not b) ≡ false → (a ≡ true) × (b ≡ true)
neither true true e = (refl, refl)
neither true false e = absurd (cc)
neither false b e = absurd (cc)

truly : (a : Bool) → not a ≡ false → a ≡ true
truly true e = refl
truly false e = absurd (cc)

-- what does not lead back leads to later blocks
pub leads_on : (n : ℕ) (i : Instruction) → leads_back n i ≡ false → Each (λ to. n < to) (next_of i)
leads_on n (words.const to kind v) e = tt
leads_on n (words.move to from) e = tt
leads_on n (words.clear to) e = tt
leads_on n (words.arithmetic operation to a b) e = tt
leads_on n (words.compare comparison to a b) e = tt
leads_on n (words.same to a b) e = tt
leads_on n (words.negate to a) e = tt
leads_on n (words.both to a b) e = tt
leads_on n (words.either to a b) e = tt
leads_on n (words.join to a b) e = tt
leads_on n (words.convert to a kind) e = tt
leads_on n (words.get to object name) e = tt
leads_on n (words.set object name from) e = tt
leads_on n (words.object to id) e = tt
leads_on n (words.new to id) e = tt
leads_on n (words.sink object) e = tt
leads_on n (words.orphan object) e = tt
leads_on n (words.dispose object) e = tt
leads_on n (words.adopt to parent child) e = tt
leads_on n (words.freeze object) e = tt
leads_on n (words.thaw object) e = tt
leads_on n (words.emit into object signal detail args) e = tt
leads_on n (words.notify object name) e = tt
leads_on n (words.connect to object c) e = tt
leads_on n (words.disconnect object program) e = tt
leads_on n (words.block object program) e = tt
leads_on n (words.unblock object program) e = tt
leads_on n words.stop e = tt
leads_on n (words.unbind name) e = tt
leads_on n (words.idle to program priority with) e = tt
leads_on n (words.timeout to program priority interval with) e = tt
leads_on n (words.remove program) e = tt
leads_on n (words.call to object name args) e = tt
leads_on n (words.jump to) e = (ltb-true n to (truly (nat_lt n to) e), tt)
leads_on n (words.branch on then_to else_to) e =
    let both = neither (nat_lt n then_to) (nat_lt n else_to) e in
    (ltb-true n then_to both.0, (ltb-true n else_to both.1, tt))
leads_on n (words.branch_null on then_to else_to) e =
    let both = neither (nat_lt n then_to) (nat_lt n else_to) e in
    (ltb-true n then_to both.0, (ltb-true n else_to both.1, tt))
leads_on n (words.return from) e = tt

-- ** how often blocks are passed

jumps_so : (i : Instruction) → laws.is_jump i ≡ is_jump i
jumps_so (words.const to kind v) = refl
jumps_so (words.move to from) = refl
jumps_so (words.clear to) = refl
jumps_so (words.arithmetic operation to a b) = refl
jumps_so (words.compare comparison to a b) = refl
jumps_so (words.same to a b) = refl
jumps_so (words.negate to a) = refl
jumps_so (words.both to a b) = refl
jumps_so (words.either to a b) = refl
jumps_so (words.join to a b) = refl
jumps_so (words.convert to a kind) = refl
jumps_so (words.get to object name) = refl
jumps_so (words.set object name from) = refl
jumps_so (words.object to id) = refl
jumps_so (words.new to id) = refl
jumps_so (words.sink object) = refl
jumps_so (words.orphan object) = refl
jumps_so (words.dispose object) = refl
jumps_so (words.adopt to parent child) = refl
jumps_so (words.freeze object) = refl
jumps_so (words.thaw object) = refl
jumps_so (words.emit into object signal detail args) = refl
jumps_so (words.notify object name) = refl
jumps_so (words.connect to object c) = refl
jumps_so (words.disconnect object program) = refl
jumps_so (words.block object program) = refl
jumps_so (words.unblock object program) = refl
jumps_so words.stop = refl
jumps_so (words.unbind name) = refl
jumps_so (words.idle to program priority with) = refl
jumps_so (words.timeout to program priority interval with) = refl
jumps_so (words.remove program) = refl
jumps_so (words.call to object name args) = refl
jumps_so (words.jump to) = refl
jumps_so (words.branch on then_to else_to) = refl
jumps_so (words.branch_null on then_to else_to) = refl
jumps_so (words.return from) = refl

jumps_at_end : (is : List Instruction) → ends_in_jump is ≡ true → EndsInJump is
jumps_at_end [] e = absurd (cc)
jumps_at_end (i ∷ []) e = jumps_so i ∙ e
jumps_at_end (i ∷ j ∷ is) e = jumps_at_end (j ∷ is) e

both_hold : (a b : Bool) → (a && b) ≡ true → (a ≡ true) × (b ≡ true)
both_hold true b e = (refl, e)
both_hold false b e = absurd (cc)

repeat_so : (repeat : Option ℕ) (is : List Instruction) → may_repeat repeat is ≡ true → RepeatRead repeat is
repeat_so None is e = tt
repeat_so (Some n) is e =
    let parts = both_hold (is_within 1 65535 n) (ends_in_jump is) e in
    let ends = both_hold (nat_le 1 n) (nat_le n 65535) parts.0 in
    (leb-true 1 n ends.0, leb-true n 65535 ends.1, jumps_at_end is parts.1)

module _ (blocks : List Block) where
  -- each block ends, where no open one is found
  pub all_ended : first_open blocks ≡ None → (n : ℕ) (b : Block) → slice_get blocks n ≡ Some b → is_ended b.code ≡ true
  all_ended e n b h = truly (is_ended b.code) (none_passes (λ (b : Block). not (is_ended b.code)) 0 blocks e n b h)

  -- and leads to later ones, where none is found that leads back
  pub all_lead_on : first_backward blocks ≡ None → (n : ℕ) (b : Block) → slice_get blocks n ≡ Some b → Each (λ i. leads_back n i ≡ false) b.code
  all_lead_on e n b h =
      let same : 0 + n ≡ n = omega arith in
      all_fail (leads_back n) b.code
      (none_passes (λ (x : ℕ × Block). list_any (leads_back x.0) (x.1).code) 0 (enumerate_from 0 blocks) e n (n, b)
      (enumerated 0 blocks n b h ∙ ap (λ k. Some (k, b)) same))

  -- and none that is repeated is so but as it may be
  pub all_repeat : first_bad_repeat blocks ≡ None → (n : ℕ) (b : Block) → slice_get blocks n ≡ Some b → RepeatRead b.repeat b.code
  all_repeat e n b h =
      repeat_so b.repeat b.code
      (truly (may_repeat b.repeat b.code) (none_passes (λ (b : Block). not (may_repeat b.repeat b.code)) 0 blocks e n b h))
