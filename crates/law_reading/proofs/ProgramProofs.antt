-- A program that was read is as the laws of runs want it.
use Rattle.std.proofs.Common.{◌≡◌, ℕ, zero, suc, ◌+◌, ◌-◌, ◌<◌, ◌≤◌, Bool, true, false, min, nat_eq, nat_lt, if◌then◌else◌, List, [], ◌∷◌, ◌++◌, length, replicate, Option, None, Some, option_map, option_and_then, slice_get, Result, Ok, Err, refl, sym, ap, subst, ◌∙◌, arith, codes, inl, inr, length-append}
use Rattle.std.specs.Prelude.{IfOk}
use Rattle.std.specs.List.{list_all}
use Rattle.std.specs.Str.{bytes_eq}
use Rattle.std.proofs.Math.Nat.{min-eq_left}
use Rattle.std.proofs.lemmas.Bool.{ltb-false}
use Rattle.std.proofs.lemmas.List.{length-replicate}
use Rattle.std.proofs.lemmas.List.Folds.{list_all-append}
use Rattle.std.proofs.lemmas.Option.{none-some}
use Rattle.std.proofs.lemmas.Result.{IfOk-at_ok, IfOk-weaker}
use Rattle.serde_json.specs.Data.{Data}
use Rattle.serde_json.specs.Find.{as_array, as_object, as_str, get}
use Rattle.ui_machine.specs.Seq.{read}
use Rattle.ui_machine.specs.Output.Text.{no_type}
use Rattle.ui_machine.specs.Definition.{Definition}
use Rattle.ui_machine.specs.Definition.Kinds.{Kind, RegisterKind}
use Rattle.ui_machine.specs.Definition.Kinds as kinds
use Rattle.ui_machine.specs.Definition.Programs.{Block, Instruction, Program}
use Rattle.type_tree.specs.Adding.{required_named}
use Rattle.bytecode.specs.declared.faults.ProgramFault.{ProgramFault}
use Rattle.bytecode.specs.declared.faults.ProgramFault.TheVariants as faults
use Rattle.bytecode.specs.declared.faults.ProgramLimit.TheVariants as limits
use Rattle.bytecode.specs.declared.formats.Format.{Format}
use Rattle.bytecode.specs.Reading.Each.{each, entries_of}
use Rattle.bytecode.specs.Reading.KindWords.{KindFault, kind_named, kind_of_type, or_no_kind, or_unknown, parted}
use Rattle.bytecode.specs.Reading.Operands.{Refusal, named}
use Rattle.bytecode.specs.Reading.RegisterKinds.{Names, place_in, plain, register_kind_by, register_kind_in, register_kind_of}
use Rattle.bytecode.specs.Reading.OutlineFaults.{Part, all_of, bad_shape, entry_of, kind_there, member_of, shaped}
use Rattle.bytecode.specs.Reading.Outline.{BlockOutline, Outline, block_at, block_step, blocks_at, entries_or_none, entry_at, first_entry, fit_registers, keys_of_block, keys_of_program, kind_step, kinds_at, only_at, outline_in, registers_of, repeat_at, result_at, some_entries, some_entries_at}
use Rattle.bytecode.specs.Reading.Programs.{blocks_in, code_in, code_step, filled, good_at, instruction_behind, with_next_instruction, program_of, program_with, scope_of, unless_fault}
use Rattle.bytecode.specs.Reading.Words.{instruction_at}
use Rattle.bytecode.specs.Shape.{at_block, first_backward, first_bad_repeat, first_limit, first_open, instructions_in, is_ended, leads_back, or_next, shape_fault}
use Rattle.law_typing.specs.Rules.Brackets.{written}
use Rattle.law_typing.specs.Graph.{next_of}
use Rattle.law_typing.specs.Laws.WellRead.{BlockRead, ConstantFits, ProgramRead, Within, is_set}
use Rattle.law_typing.specs.Verdict.Accepted.{Each}
use Rattle.law_typing.proofs.Lists.{each_append}
use Rattle.law_reading.proofs.BlockProofs.{Open, all_ended, all_lead_on, all_repeat, each_at, ended_so, leads_on, open_more}
use Rattle.law_reading.proofs.InstructionProofs.{InstructionRead, beside, chosen, instruction_read, on}
use Rattle.law_reading.proofs.ListProofs.{each_more, get_push, got_within}
use Rattle.law_reading.proofs.MemberProofs.{HasMembers}
use Rattle.law_reading.proofs.ValueProofs.{both_true}

-- what two laws say of what was read
both_of : {A E : Type 0} (P Q : A → Type 0) (r : Result A E) → IfOk r P → IfOk r Q → IfOk r (λ x. P x × Q x)
both_of P Q (Ok x) p q = (p, q)
both_of P Q (Err e) p q = tt

from_first : {X : Type 0} (xs : List X) (j : ℕ) → slice_get xs j ≡ slice_get xs (0 + j)
from_first xs j = let same : j ≡ 0 + j = omega arith in ap (slice_get xs) same

-- ** kinds of registers

-- no more kinds than registers, if it is known how many there are
abbrev FitIn : Option ℕ → List RegisterKind → Type 0
FitIn None ks = Unit {0}
FitIn (Some registers) ks = length ks ≤ registers

abbrev FewEntries : Option ℕ → List Data → Type 0
FewEntries None ds = Unit {0}
FewEntries (Some registers) ds = length ds ≤ registers

abbrev IsSet : RegisterKind → Type 0
IsSet k = is_set k ≡ true

abbrev AreSet : List RegisterKind → Type 0
AreSet ks = list_all is_set ks ≡ true

set_more : (ks : List RegisterKind) (k : RegisterKind) → AreSet ks → IsSet k → AreSet (ks ++ k ∷ [])
set_more ks k all one =
    list_all-append is_set ks (k ∷ []) ∙ both_true (list_all is_set ks) (list_all is_set (k ∷ [])) all (both_true (is_set k) true one refl)

there : (P : RegisterKind → Type 0) (part : Part) (r : Result RegisterKind KindFault) → IfOk r P → IfOk (kind_there part r) P
there P part (Ok k) p = p
there P part (Err e) p = tt

few_enough : (part : Part) (registers : Option ℕ) (ds : List Data) → IfOk (fit_registers part registers ds) (λ u. FewEntries registers ds)
few_enough part None ds = tt
few_enough part (Some registers) ds = by (nat_lt registers (length ds)) refl
  where
    by : (b : Bool) → nat_lt registers (length ds) ≡ b → IfOk {T = Unit {0}} (if b then Err (bad_shape part) else Ok tt) (λ u. length ds ≤ registers)
    by true e = tt
    by false e = ltb-false registers (length ds) e

module _ (names : Names) where
  plain_set : (r : Result Kind KindFault) → IfOk (plain r) IsSet
  plain_set (Ok k) = refl
  plain_set (Err e) = tt

  some_set : (name : List ℕ) (t : Option ℕ) → IfOk (or_unknown name (option_map kinds.some t)) IsSet
  some_set name None = tt
  some_set name (Some t) = refl

  parts_set : (sort name : List ℕ) → IfOk (register_kind_of names sort name) IsSet
  parts_set sort name =
      chosen IsSet (bytes_eq sort (codes "some")) _ _ (some_set name (required_named names.types name))
      (chosen IsSet (bytes_eq sort (codes "at")) _ _ (beside IsSet (place_in names name) _ λ place. refl)
      (chosen IsSet (bytes_eq sort (codes "at?")) _ _ (beside IsSet (place_in names name) _ λ place. refl)
      (plain_set (kind_of_type names.types sort name))))

  by_parts : (word : List ℕ) (parts : Option (List ℕ × List ℕ)) → IfOk (register_kind_by names word parts) IsSet
  by_parts word None = plain_set (or_no_kind (kind_named word))
  by_parts word (Some parts) = parts_set parts.0 parts.1

  word_set : (word : Option (List ℕ)) → IfOk (register_kind_in names false word) IsSet
  word_set None = tt
  word_set (Some word) = by_parts word (parted word)

  kinds_fit : (unset : Bool) (part : Part) (registers : Option ℕ) (d : Option Data) → IfOk (kinds_at names unset part registers d) (FitIn registers)
  unfolding kinds_at
  kinds_fit unset part registers d =
      beside (FitIn registers) (entries_or_none part d) _ λ ds.
      on (λ u. FewEntries registers ds) (FitIn registers) (fit_registers part registers ds) _ (few_enough part registers ds) λ u h.
      IfOk-weaker (each (kind_step names unset part) 0 [] ds) (λ ks. length ks ≡ length ds) (FitIn registers) (λ ks e. as_many registers ds h ks e)
      (each_at (λ i ks. length ks ≡ i) (kind_step names unset part) ds (λ i ks x there h. one_more i ks x h) 0 [] ds (from_first ds) refl (length ds)
      (omega arith))
    where
      as_many : (registers : Option ℕ) (ds : List Data) → FewEntries registers ds → (ks : List RegisterKind) → length ks ≡ length ds → FitIn registers ks
      as_many None ds h ks e = tt
      as_many (Some registers) ds h ks e = omega (arith, h, e)

      one_more : (i : ℕ) (ks : List RegisterKind) (x : Data) → length ks ≡ i → IfOk (kind_step names unset part i ks x) (λ ks. length ks ≡ suc i)
      one_more i ks x h =
          beside (λ ks. length ks ≡ suc i) (kind_there (entry_of part i) (register_kind_in names unset (as_str x))) _ λ k.
          omega (arith, h, length-append ks (k ∷ []))

  kinds_set : (part : Part) (registers : Option ℕ) (d : Option Data) → IfOk (kinds_at names false part registers d) AreSet
  unfolding kinds_at
  kinds_set part registers d =
      beside AreSet (entries_or_none part d) _ λ ds.
      beside AreSet (fit_registers part registers ds) _ λ u.
      each_at (λ i ks. AreSet ks) (kind_step names false part) ds (λ i ks x there h. one_more i ks x h) 0 [] ds (from_first ds) refl (length ds) (omega arith)
    where
      one_more : (i : ℕ) (ks : List RegisterKind) (x : Data) → AreSet ks → IfOk (kind_step names false part i ks x) AreSet
      one_more i ks x h =
          on IsSet AreSet (kind_there (entry_of part i) (register_kind_in names false (as_str x))) _
          (there IsSet (entry_of part i) (register_kind_in names false (as_str x)) (word_set (as_str x))) λ k g.
          set_more ks k h g

  -- ** what a program says beside its instructions

  -- the kinds with which a block begins: the parameters, in the first one
  record EntryRead (params : List RegisterKind) (registers n : ℕ) (entry : List RegisterKind) : Type 0 where
    fits : length entry ≤ registers
    first : n ≡ 0 → entry ≡ params

  record OutlineRead (o : Outline) : Type 0 where
    params : length o.params ≤ o.registers
    given : AreSet o.params
    some : 0 < length o.blocks
    blocks : (n : ℕ) (b : BlockOutline) → slice_get o.blocks n ≡ Some b → EntryRead o.params o.registers n b.entry

  module _ (params : List RegisterKind) (registers : ℕ) (fit : length params ≤ registers) where
    entry_read : (i : ℕ) (d : Data) → IfOk (entry_at names params registers i d) (EntryRead params registers i)
    entry_read i d = by (nat_eq i 0) refl
      where
        at_first : (o : Option Data) → IfOk (first_entry params o) (EntryRead params registers i)
        at_first None = record { fits = fit; first = λ e. refl }
        at_first (Some x) = tt

        not_first : nat_eq i 0 ≡ false → (e : List RegisterKind) → length e ≤ registers → EntryRead params registers i e
        not_first f e h = record { fits = h; first = λ z. let bad : true ≡ false = sym (ap (λ k. nat_eq k 0) z) ∙ f in absurd (cc) }

        by : (b : Bool) → nat_eq i 0 ≡ b
            → IfOk (if b then first_entry params (get (codes "in") d) else kinds_at names true (member_of (Some i) (codes "in")) (Some registers) (get (codes "in") d))
            (EntryRead params registers i)
        by true f = at_first (get (codes "in") d)
        by false f =
            IfOk-weaker (kinds_at names true (member_of (Some i) (codes "in")) (Some registers) (get (codes "in") d)) (FitIn (Some registers))
            (EntryRead params registers i) (not_first f) (kinds_fit true (member_of (Some i) (codes "in")) (Some registers) (get (codes "in") d))

    abbrev BlockSays : ℕ → BlockOutline → Type 0
    BlockSays n b = EntryRead params registers n b.entry

    block_read : (i : ℕ) (d : Data) → IfOk (block_at names params registers i d) (BlockSays i)
    unfolding block_at
    block_read i d =
        beside (BlockSays i) (shaped (all_of (Some i)) (as_object d)) _ λ ms.
        on (EntryRead params registers i) (BlockSays i) (entry_at names params registers i d) _ (entry_read i d) λ entry h.
        beside (BlockSays i) (repeat_at names.format i d) _ λ repeat.
        beside (BlockSays i) (shaped (member_of (Some i) (codes "code")) (option_map entries_of (option_and_then as_array (get (codes "code") d)))) _ λ code.
        beside (BlockSays i) (only_at (Some i) ms (keys_of_block names.format)) _ λ u. h

    record BlocksSay (i : ℕ) (bs : List BlockOutline) : Type 0 where
      many : length bs ≡ i
      at : (n : ℕ) (b : BlockOutline) → slice_get bs n ≡ Some b → BlockSays n b

    one_more : (i : ℕ) (bs : List BlockOutline) (d : Data) → BlocksSay i bs → IfOk (block_step names params registers i bs d) (BlocksSay (suc i))
    one_more i bs d old =
        on (BlockSays i) (BlocksSay (suc i)) (block_at names params registers i d) _ (block_read i d) λ b h. record {
          many = omega (arith, old.many, length-append bs (b ∷ []));
          at = λ n x e. elim (get_push bs b n x e) [
            | inl e ↦ old.at n x e
            | inr e ↦ let here : i ≡ n = sym (e.0 ∙ old.many) in subst (λ (y : BlockOutline). BlockSays n y) (sym e.1) (subst (λ k. BlockSays k b) here h)
          ];
        }

    some_there : (part : Part) (o : Option (List Data)) → IfOk (shaped part (option_and_then some_entries o)) (λ ds. 0 < length ds)
    some_there part None = tt
    some_there part (Some []) = tt
    some_there part (Some (d ∷ ds)) = omega arith

    blocks_read : (d : Data) → IfOk (blocks_at names params registers d) (λ bs. (0 < length bs) × BlocksSay (length bs) bs)
    unfolding blocks_at
    blocks_read d =
        on (λ ds. 0 < length ds) (λ bs. (0 < length bs) × BlocksSay (length bs) bs) (some_entries_at d (codes "blocks")) _
        (some_there (member_of None (codes "blocks")) (option_map entries_of (option_and_then as_array (get (codes "blocks") d)))) λ ds some.
        IfOk-weaker (each (block_step names params registers) 0 [] ds) (BlocksSay (length ds)) (λ bs. (0 < length bs) × BlocksSay (length bs) bs)
        (λ bs say. (omega (arith, some, say.many), subst (λ k. BlocksSay k bs) (sym say.many) say))
        (each_at BlocksSay (block_step names params registers) ds (λ i bs x there h. one_more i bs x h) 0 [] ds (from_first ds)
        (record { many = refl; at = λ n b e. absurd (cc) }) (length ds) (omega arith))

  found : {A : Type 0} (part : Part) (o : Option A) → IfOk (shaped part o) (λ x. o ≡ Some x)
  found part None = tt
  found part (Some x) = refl

  outline_read : (d : Data) → IfOk (outline_in names d) OutlineRead
  unfolding outline_in
  outline_read d =
      let part : Part = member_of None (codes "params") in
      beside OutlineRead (shaped (all_of None) (as_object d)) _ λ ms.
      beside OutlineRead (shaped (member_of None (codes "name")) (named (option_and_then as_str (get (codes "name") d)))) _ λ name.
      on (λ ks. FitIn (registers_of d) ks × AreSet ks) OutlineRead (kinds_at names false part (registers_of d) (get (codes "params") d)) _
      (both_of (FitIn (registers_of d)) AreSet (kinds_at names false part (registers_of d) (get (codes "params") d))
      (kinds_fit false part (registers_of d) (get (codes "params") d)) (kinds_set part (registers_of d) (get (codes "params") d))) λ params p.
      on (λ r. registers_of d ≡ Some r) OutlineRead (shaped (member_of None (codes "registers")) (registers_of d)) _
      (found (member_of None (codes "registers")) (registers_of d)) λ registers e.
      let fit : length params ≤ registers = subst (λ o. FitIn o params) e p.0 in
      beside OutlineRead (result_at names.types d) _ λ result.
      on (λ bs. (0 < length bs) × BlocksSay params registers fit (length bs) bs) OutlineRead (blocks_at names params registers d) _
      (blocks_read params registers fit d) λ blocks b.
      beside OutlineRead (only_at None ms keys_of_program) _ λ u. record { params = fit; given = p.1; some = b.0; blocks = b.1.at }

-- ** what the parts of a program are

none_of : {A : Type 0} (first next : Option A) → or_next first next ≡ None → (first ≡ None) × (next ≡ None)
none_of None next e = (refl, e)
none_of (Some x) next e = absurd (none-some x (sym e))

none_mapped : {A B : Type 0} (f : A → B) (o : Option A) → option_map f o ≡ None → o ≡ None
none_mapped f None e = refl
none_mapped f (Some x) e = absurd (none-some (f x) (sym e))

-- a program with whose shape nothing is wrong
record IsShaped (p : Program) : Type 0 where
  backward : first_backward p.blocks ≡ None
  ended : first_open p.blocks ≡ None
  few : p.registers ≤ 32
  repeated : first_bad_repeat p.blocks ≡ None

shaped_so : (p : Program) → shape_fault p ≡ None → IsShaped p
shaped_so p e =
    let first = none_of (option_map (λ b. faults.BackwardJump (at_block b)) (first_backward p.blocks)) _ e in
    let second = none_of (option_map (λ b. faults.NoReturn (at_block b)) (first_open p.blocks)) _ first.1 in
    let third = none_of (option_map faults.Limit (first_limit p)) _ second.1 in
    record {
      backward = none_mapped (λ b. faults.BackwardJump (at_block b)) (first_backward p.blocks) first.0;
      ended = none_mapped (λ b. faults.NoReturn (at_block b)) (first_open p.blocks) second.0;
      few = by (nat_lt 32 p.registers) refl (none_mapped faults.Limit (first_limit p) third.0);
      repeated = none_mapped (λ b. faults.BadRepeat (at_block b)) (first_bad_repeat p.blocks) third.1;
    }
  where
    by : (b : Bool) → nat_lt 32 p.registers ≡ b
        → (if b then Some limits.Registers else
        (if nat_lt 64 (length p.blocks) then Some limits.Blocks else (if nat_lt 512 (instructions_in p.blocks) then Some limits.Instructions else None)))
        ≡ None → p.registers ≤ 32
    by true f g = absurd (none-some limits.Registers (sym g))
    by false f g = ltb-false 32 p.registers f

length_filled : (registers : ℕ) (ks : List RegisterKind) → length ks ≤ registers → registers ≤ 32 → length (filled registers ks) ≡ registers
length_filled registers ks h few =
    let unset_so : min (registers - length ks) 32 ≡ registers - length ks = min-eq_left (omega (arith, few)) in
    omega (
      arith,
      h,
      unset_so,
      length-append ks (replicate (min (registers - length ks) 32) kinds.unset),
      length-replicate (min (registers - length ks) 32) kinds.unset,
    )

each_alike : {A : Type 0} (n : ℕ) (x : A) → Each (λ y. y ≡ x) (replicate n x)
each_alike zero x = tt
each_alike (suc n) x = (refl, each_alike n x)

each_both : {A : Type 0} (P Q R : A → Type 0) (xs : List A) → ((x : A) → P x → Q x → R x) → Each P xs → Each Q xs → Each R xs
each_both P Q R [] both p q = tt
each_both P Q R (x ∷ xs) both p q = (both x p.0 q.0, each_both P Q R xs both p.1 q.1)

-- ** a program

module _ (d : Definition) (members : (t : ℕ) → HasMembers (read no_type d.types t)) (format : Format) (place : List ℕ → Option ℕ) where
  -- with what its programs are read
  abbrev names : Names
  names = record { format = format; types = d.types; place = place }

  module _ (o : Outline) (said : OutlineRead names o) where
    abbrev IsRead : Instruction → Type 0
    IsRead i = InstructionRead d members o.registers (length o.blocks) i

    record CodeRead (code : List Instruction) : Type 0 where
      each : Each IsRead code
      last : Open code

    good : (block at : ℕ) (x : Data) → IfOk (good_at block at (instruction_at (scope_of names o) x)) IsRead
    good block at x = of (instruction_at (scope_of names o) x) (instruction_read d members o.registers (length o.blocks) x)
      where
        of : (r : Result Instruction Refusal) → IfOk r IsRead → IfOk (good_at block at r) IsRead
        of (Ok i) p = p
        of (Err e) p = tt

    behind : (block at : ℕ) (code : List Instruction) (x : Data)
        → IfOk (instruction_behind (scope_of names o) block at code x) (λ i. IsRead i × (is_ended code ≡ false))
    behind block at code x = by (is_ended code) refl
      where
        by : (b : Bool) → is_ended code ≡ b
            → IfOk (if b then Err (faults.BadInstruction (at_block block) at) else good_at block at (instruction_at (scope_of names o) x))
            (λ i. IsRead i × (is_ended code ≡ false))
        by true e = tt
        by false e =
            IfOk-weaker (good_at block at (instruction_at (scope_of names o) x)) IsRead (λ i. IsRead i × (is_ended code ≡ false)) (λ i h. (h, e))
            (good block at x)

    code_read : (block : ℕ) (xs : List Data) → IfOk (code_in (scope_of names o) block xs) CodeRead
    unfolding code_in
    code_read block xs =
        each_at (λ i code. CodeRead code) (with_next_instruction (scope_of names o) block) xs (λ i code x there h. one_more i code x h) 0 [] xs (from_first xs)
        (record { each = tt; last = tt }) (length xs) (omega arith)
      where
        one_more : (i : ℕ) (code : List Instruction) (x : Data) → CodeRead code → IfOk (with_next_instruction (scope_of names o) block i code x) CodeRead
        one_more i code x old =
            on (λ i. IsRead i × (is_ended code ≡ false)) CodeRead (instruction_behind (scope_of names o) block i code x) _ (behind block i code x) λ new h.
            record { each = each_append IsRead code (new ∷ []) old.each (h.0, tt); last = open_more code new old.last h.1 }

    -- a block that was read from what the program says of it
    record BlockMade (n : ℕ) (b : Block) : Type 0 where
      said_so : BlockOutline
      there : slice_get o.blocks n ≡ Some said_so
      entry : b.entry ≡ filled o.registers said_so.entry
      code : CodeRead b.code

    record BlocksMade (i : ℕ) (bs : List Block) : Type 0 where
      many : length bs ≡ i
      at : (n : ℕ) (b : Block) → slice_get bs n ≡ Some b → BlockMade n b

    blocks_made : IfOk (blocks_in (scope_of names o) o.blocks) (BlocksMade (length o.blocks))
    unfolding blocks_in
    blocks_made =
        each_at BlocksMade (code_step (scope_of names o)) o.blocks one_more 0 [] o.blocks (from_first o.blocks)
        (record { many = refl; at = λ n b e. absurd (cc) }) (length o.blocks) (omega arith)
      where
        one_more : (i : ℕ) (bs : List Block) (b : BlockOutline) → slice_get o.blocks i ≡ Some b → BlocksMade i bs
            → IfOk (code_step (scope_of names o) i bs b) (BlocksMade (suc i))
        one_more i bs b there old =
            on CodeRead (BlocksMade (suc i)) (code_in (scope_of names o) i b.code) _ (code_read i b.code) λ code h.
            let new : Block = record { entry = filled o.registers b.entry; repeat = b.repeat; code = code } in
            let made : BlockMade i new = record { said_so = b; there = there; entry = refl; code = h } in
            record {
              many = omega (arith, old.many, length-append bs (new ∷ []));
              at = λ n x e. elim (get_push bs new n x e) [
                | inl e ↦ old.at n x e
                | inr e ↦ let here : i ≡ n = sym (e.0 ∙ old.many) in subst (λ (y : Block). BlockMade n y) (sym e.1) (subst (λ k. BlockMade k new) here made)
              ];
            }

    module _ (blocks : List Block) (made : BlocksMade (length o.blocks) blocks) (shape : IsShaped (program_with o blocks)) where
      abbrev whole : Program
      whole = program_with o blocks

      next_of_code : (n : ℕ) (b : Block) → slice_get blocks n ≡ Some b → Each (λ i. Each (λ to. (n < to) × (to < length blocks)) (next_of i)) b.code
      next_of_code n b e =
          each_both IsRead (λ i. leads_back n i ≡ false) (λ i. Each (λ to. (n < to) × (to < length blocks)) (next_of i)) b.code
          (λ i read on. each_both (λ to. n < to) (λ to. to < length o.blocks) (λ to. (n < to) × (to < length blocks)) (next_of i)
          (λ to later within. (later, omega (arith, within, made.many))) (leads_on n i on) read.next)
          ((made.at n b e).code).each (all_lead_on blocks shape.backward n b e)

      block_so : (n : ℕ) (b : Block) → slice_get blocks n ≡ Some b → BlockRead d whole n b
      block_so n b e =
          let one = made.at n b e in
          let entered = said.blocks n one.said_so one.there in
          record {
            entry = ap (λ (ks : List RegisterKind). length ks) one.entry ∙ length_filled o.registers (one.said_so).entry entered.fits shape.few;
            repeat = all_repeat blocks shape.repeated n b e;
            ends = ended_so b.code (one.code).last (all_ended blocks shape.ended n b e);
            constants = each_more IsRead (ConstantFits d) b.code (λ i h. h.constant) (one.code).each;
            written = each_more IsRead (λ i. Within o.registers (written i)) b.code (λ i h. h.register) (one.code).each;
            next = next_of_code n b e;
          }

      program_so : ProgramRead d whole
      program_so = record {
        params = said.params;
        given = said.given;
        first = λ b e.
            let one = made.at 0 b e in
            let entered = (said.blocks 0 one.said_so one.there).first refl in
            let unset_so = min (o.registers - length o.params) 32 in
            (replicate unset_so kinds.unset, one.entry ∙ ap (filled o.registers) entered, each_alike unset_so kinds.unset);
        some = got_within blocks 0 (omega (arith, said.some, made.many));
        blocks = block_so;
      }

    program_of_outline : IfOk (program_of names o) (ProgramRead d)
    unfolding program_of
    program_of_outline =
        on (BlocksMade (length o.blocks)) (ProgramRead d) (blocks_in (scope_of names o) o.blocks) _ blocks_made λ blocks made.
        of blocks made (shape_fault (program_with o blocks)) refl
      where
        of : (blocks : List Block) → BlocksMade (length o.blocks) blocks → (f : Option ProgramFault) → shape_fault (program_with o blocks) ≡ f
            → IfOk (unless_fault (program_with o blocks) f) (ProgramRead d)
        of blocks made None e = program_so blocks made (shaped_so (program_with o blocks) e)
        of blocks made (Some fault) e = tt

  -- a program that was read is as it should be
  pub program_read : (x : Data) (o : Outline) → outline_in names x ≡ Ok o → (p : Program) → program_of names o ≡ Ok p → ProgramRead d p
  program_read x o outlined p e =
      let said : OutlineRead names o = IfOk-at_ok (OutlineRead names) outlined (outline_read names x) in
      IfOk-at_ok (ProgramRead d) e (program_of_outline o said)
