-- What is so of each instruction that was read: the register that it writes is one of the program's, it leads to blocks of the program, and
-- a constant is of its kind.
use Rattle.std.proofs.Common.{◌≡◌, ℕ, ◌<◌, Bool, true, false, nat_lt, if◌then◌else◌, List, Option, None, Some, is_some, option_map, option_and_then, Result, Ok, Err, refl, codes}
use Rattle.std.specs.Prelude.{IfOk}
use Rattle.std.specs.Str.{bytes_eq}
use Rattle.std.proofs.lemmas.Bool.{ltb-true}
use Rattle.serde_json.specs.Data.{Data}
use Rattle.serde_json.specs.Find.{as_null, as_number, as_u64}
use Rattle.ui_machine.specs.Outcome.{◌>>=◌}
use Rattle.ui_machine.specs.Seq.{read}
use Rattle.ui_machine.specs.Output.Text.{no_type}
use Rattle.ui_machine.specs.Definition.{Definition}
use Rattle.ui_machine.specs.Definition.Kinds.{Kind}
use Rattle.ui_machine.specs.Definition.Kinds as kinds
use Rattle.ui_machine.specs.Definition.Types.{Sort}
use Rattle.ui_machine.specs.Definition.Types as sorts
use Rattle.ui_machine.specs.Definition.Programs.{Arithmetic, Connect, Instruction}
use Rattle.ui_machine.specs.Definition.Programs as words
use Rattle.ui_machine.specs.Definition.Values.{Value}
use Rattle.ui_machine.specs.Rules.Transform.{kind_fits}
use Rattle.type_tree.specs.Adding.{find_type, of_sort, required_named, sort_of}
use Rattle.g_values.specs.Reading.{json_value}
use Rattle.bytecode.specs.Reading.KindWords.{enum_named, flags_named, is_enum, kind_by, kind_named, or_no_kind, or_unknown, parted}
use Rattle.bytecode.specs.Reading.Operands.{Refusal, below, detail_at, expected, interval_at, kind_at, name_at, no_operand, number_at, number_below, operand, priority_at, register_or_null, register_or_null_at, registers_at, taken, value_at}
use Rattle.bytecode.specs.Reading.OperandShapes.{comparison_at, connect_at, one_name, one_register, register_and_blocks, register_and_name, three_registers, two_registers}
use Rattle.bytecode.specs.Reading.Scopes.{Scope}
use Rattle.bytecode.specs.Reading.RegisterRows.{and_row, arithmetic_row, clear_row, compare_row, const_row, convert_row, join_row, move_row, not_row, or_row, same_row}
use Rattle.bytecode.specs.Reading.ObjectRows.{adopt_row, dispose_row, freeze_row, get_row, new_row, notify_row, object_row, orphan_row, set_row, sink_row, thaw_row}
use Rattle.bytecode.specs.Reading.SignalRows.{block_row, connect_row, disconnect_row, emit_row, stop_row, unbind_row, unblock_row}
use Rattle.bytecode.specs.Reading.SourceRows.{call_row, idle_row, remove_row, timeout_row}
use Rattle.bytecode.specs.Reading.JumpRows.{branch_null_row, branch_row, jump_row, return_row}
use Rattle.bytecode.specs.Reading.Words.{instruction_at, jump_word, object_word, register_word, signal_word, source_word}
use Rattle.law_typing.specs.Rules.Brackets.{written}
use Rattle.law_typing.specs.Graph.{next_of}
use Rattle.law_typing.specs.Verdict.Accepted.{Each}
use Rattle.law_typing.specs.Laws.WellRead.{ConstantFits, Within, has_values, no_class_of}
use Rattle.law_reading.proofs.MemberProofs.{HasMembers}
use Rattle.law_reading.proofs.ValueProofs.{value_fits}

-- what was read, where something is known of what was read before it
pub on : {A B E : Type 0} (P : A → Type 0) (Q : B → Type 0) (r : Result A E) (f : A → Result B E) → IfOk r P → ((x : A) → P x → IfOk (f x) Q)
    → IfOk (r >>= f) Q
on P Q (Ok x) f p all = all x p
on P Q (Err e) f p all = tt

-- and where nothing is
pub beside : {A B E : Type 0} (Q : B → Type 0) (r : Result A E) (f : A → Result B E) → ((x : A) → IfOk (f x) Q) → IfOk (r >>= f) Q
beside Q (Ok x) f all = all x
beside Q (Err e) f all = tt

-- one of two
pub chosen : {A E : Type 0} (Q : A → Type 0) (b : Bool) (x y : Result A E) → IfOk x Q → IfOk y Q → IfOk (if b then x else y) Q
chosen Q true x y p q = p
chosen Q false x y p q = q

-- ** registers and blocks

below_bound : (bound : ℕ) (v : Data) → IfOk (expected (number_below bound v)) (λ k. k < bound)
below_bound bound v = of (option_and_then as_u64 (as_number v))
  where
    by : (n : ℕ) (b : Bool) → nat_lt n bound ≡ b → IfOk (expected (if b then Some n else None)) (λ k. k < bound)
    by n true e = ltb-true n bound e
    by n false e = tt

    of : (n : Option ℕ) → IfOk (expected (below bound n)) (λ k. k < bound)
    of None = tt
    of (Some n) = by n (nat_lt n bound) refl

number_read : (bound : ℕ) (d : Data) (n : ℕ) → IfOk (number_at bound d n) (λ k. k < bound)
number_read bound d n = beside (λ k. k < bound) (operand d n) _ λ v. below_bound bound v

null_or_below : (bound : ℕ) (v : Data) → IfOk (expected (register_or_null bound v)) (Within bound)
null_or_below bound v = by (is_some (as_null v)) (number_below bound v) (below_bound bound v)
  where
    by : (b : Bool) (n : Option ℕ) → IfOk (expected n) (λ k. k < bound) → IfOk (expected (if b then Some None else option_map Some n)) (Within bound)
    by true n h = tt
    by false None h = tt
    by false (Some n) h = h

or_null_read : (bound : ℕ) (d : Data) (n : ℕ) → IfOk (register_or_null_at bound d n) (Within bound)
or_null_read bound d n = beside (Within bound) (operand d n) _ λ v. null_or_below bound v

module _ (d : Definition) (members : (t : ℕ) → HasMembers (read no_type d.types t)) where
  -- ** kinds and values

  abbrev Filled : Kind → Type 0
  Filled kind = has_values d kind ≡ true

  plain_filled : (word : List ℕ) → IfOk (or_no_kind (kind_named word)) Filled
  plain_filled word =
      pick (bytes_eq word (codes "bool")) _ _ refl (pick (bytes_eq word (codes "int")) _ _ refl (pick (bytes_eq word (codes "uint")) _ _ refl
      (pick (bytes_eq word (codes "int64")) _ _ refl (pick (bytes_eq word (codes "uint64")) _ _ refl (pick (bytes_eq word (codes "text")) _ _ refl tt)))))
    where
      pick : (b : Bool) (x y : Option Kind) → IfOk (or_no_kind x) Filled → IfOk (or_no_kind y) Filled → IfOk (or_no_kind (if b then x else y)) Filled
      pick true x y p q = p
      pick false x y p q = q

  enum_filled : (name : List ℕ) → IfOk (or_unknown name (option_map kinds.enum (enum_named d.types name))) Filled
  enum_filled name = of (find_type d.types name)
    where
      sorted : (s : Sort) → is_enum s ≡ true → s ≡ sorts.enum
      sorted sorts.class e = absurd (cc)
      sorted sorts.interface e = absurd (cc)
      sorted sorts.enum e = refl
      sorted sorts.flags e = absurd (cc)

      by : (t : ℕ) (b : Bool) → is_enum (sort_of d.types t) ≡ b → IfOk (or_unknown name (option_map kinds.enum (if b then Some t else None))) Filled
      by t true e = (members t).filled (sorted (sort_of d.types t) e)
      by t false e = tt

      of : (t : Option ℕ) → IfOk (or_unknown name (option_map kinds.enum (of_sort is_enum d.types t))) Filled
      of None = tt
      of (Some t) = by t (is_enum (sort_of d.types t)) refl

  named_filled : (make : ℕ → Kind) → ((t : ℕ) → Filled (make t)) → (name : List ℕ) (t : Option ℕ) → IfOk (or_unknown name (option_map make t)) Filled
  named_filled make all name None = tt
  named_filled make all name (Some t) = all t

  kind_filled : (word : List ℕ) (parts : Option (List ℕ × List ℕ)) → IfOk (kind_by d.types word parts) Filled
  kind_filled word None = plain_filled word
  kind_filled word (Some parts) =
      chosen Filled (bytes_eq parts.0 (codes "enum")) _ _ (enum_filled parts.1)
      (chosen Filled (bytes_eq parts.0 (codes "flags")) _ _ (named_filled kinds.flags (λ t. refl) parts.1 (flags_named d.types parts.1))
      (chosen Filled (bytes_eq parts.0 (codes "object")) _ _ (named_filled kinds.object (λ t. refl) parts.1 (required_named d.types parts.1)) tt))

  of_taken : {A E : Type 0} (P : A → Type 0) (r : Result A E) → IfOk r P → IfOk (taken r) P
  of_taken P (Ok x) p = p
  of_taken P (Err e) p = tt

  kind_read : (x : Data) (n : ℕ) → IfOk (kind_at d.types x n) Filled
  kind_read x n = beside Filled (name_at x n) _ λ word. of_taken Filled (kind_by d.types word (parted word)) (kind_filled word (parted word))

  abbrev OfKind : Kind → Value → Type 0
  OfKind kind v = kind_fits no_class_of d.types v kind ≡ true

  value_read : (kind : Kind) (x : Data) (n : ℕ) → IfOk (value_at d.types kind x n) (OfKind kind)
  value_read kind x n =
      beside (OfKind kind) (operand x n) _ λ v.
      of_taken (OfKind kind) (json_value d.types kind v) (value_fits no_class_of d.types (λ t. (members t).few) kind v)

  module _ (registers blocks : ℕ) where
    -- what is so of an instruction of a program with so many registers and blocks
    pub record InstructionRead (i : Instruction) : Type 0 where
      pub constant : ConstantFits d i
      pub register : Within registers (written i)
      pub next : Each (λ to. to < blocks) (next_of i)

    abbrev scope : Scope
    scope = record { types = d.types; registers = registers; blocks = blocks }

    abbrev Read : Result Instruction Refusal → Type 0
    Read r = IfOk r InstructionRead

    abbrev IsRegister : ℕ → Type 0
    IsRegister r = r < registers

    -- ** operands that many rows have

    one : (x : Data) → IfOk (one_register scope x) IsRegister
    unfolding one_register
    one x = beside IsRegister (no_operand x 2) _ λ u. number_read registers x 1

    two : (x : Data) → IfOk (two_registers scope x) (λ r. IsRegister r.0)
    unfolding two_registers
    two x =
        beside (λ r. IsRegister r.0) (no_operand x 3) _ λ u.
        on IsRegister (λ r. IsRegister r.0) (number_at registers x 1) _ (number_read registers x 1) λ a h.
        beside (λ r. IsRegister r.0) (number_at registers x 2) _ λ b. h

    three : (x : Data) → IfOk (three_registers scope x) (λ r. IsRegister r.0)
    unfolding three_registers
    three x =
        beside (λ r. IsRegister r.0) (no_operand x 4) _ λ u.
        on IsRegister (λ r. IsRegister r.0) (number_at registers x 1) _ (number_read registers x 1) λ a h.
        beside (λ r. IsRegister r.0) (number_at registers x 2) _ λ b.
        beside (λ r. IsRegister r.0) (number_at registers x 3) _ λ c. h

    and_name : (x : Data) → IfOk (register_and_name scope x) (λ r. IsRegister r.0)
    unfolding register_and_name
    and_name x =
        beside (λ r. IsRegister r.0) (no_operand x 3) _ λ u.
        on IsRegister (λ r. IsRegister r.0) (number_at registers x 1) _ (number_read registers x 1) λ r h.
        beside (λ r. IsRegister r.0) (name_at x 2) _ λ name. h

    and_blocks : (x : Data) → IfOk (register_and_blocks scope x) (λ r. (r.1 < blocks) × (r.2 < blocks))
    unfolding register_and_blocks
    and_blocks x =
        beside (λ r. (r.1 < blocks) × (r.2 < blocks)) (no_operand x 4) _ λ u.
        beside (λ r. (r.1 < blocks) × (r.2 < blocks)) (number_at registers x 1) _ λ r.
        on (λ b. b < blocks) (λ r. (r.1 < blocks) × (r.2 < blocks)) (number_at blocks x 2) _ (number_read blocks x 2) λ b h.
        on (λ c. c < blocks) (λ r. (r.1 < blocks) × (r.2 < blocks)) (number_at blocks x 3) _ (number_read blocks x 3) λ c g. (h, g)

    -- ** instructions on registers alone

    const_read : (x : Data) → Read (const_row scope x)
    unfolding const_row
    const_read x =
        beside InstructionRead (no_operand x 4) _ λ u.
        on IsRegister InstructionRead (number_at registers x 1) _ (number_read registers x 1) λ to h.
        beside InstructionRead (kind_at d.types x 2) _ λ kind.
        on (OfKind kind) InstructionRead (value_at d.types kind x 3) _ (value_read kind x 3) λ v g. record { constant = g; register = h; next = tt }

    move_read : (x : Data) → Read (move_row scope x)
    unfolding move_row
    move_read x = on (λ r. IsRegister r.0) InstructionRead (two_registers scope x) _ (two x) λ r h. record { constant = tt; register = h; next = tt }

    clear_read : (x : Data) → Read (clear_row scope x)
    unfolding clear_row
    clear_read x = on IsRegister InstructionRead (one_register scope x) _ (one x) λ r h. record { constant = tt; register = h; next = tt }

    arithmetic_read : (operation : Arithmetic) (x : Data) → Read (arithmetic_row operation scope x)
    unfolding arithmetic_row
    arithmetic_read operation x = on (λ r. IsRegister r.0) InstructionRead (three_registers scope x) _ (three x) λ r h. record { constant = tt; register = h; next = tt }

    compare_read : (x : Data) → Read (compare_row scope x)
    unfolding compare_row
    compare_read x =
        beside InstructionRead (no_operand x 5) _ λ u.
        on IsRegister InstructionRead (number_at registers x 1) _ (number_read registers x 1) λ to h.
        beside InstructionRead (comparison_at x 2) _ λ comparison.
        beside InstructionRead (number_at registers x 3) _ λ a.
        beside InstructionRead (number_at registers x 4) _ λ b. record { constant = tt; register = h; next = tt }

    same_read : (x : Data) → Read (same_row scope x)
    unfolding same_row
    same_read x = on (λ r. IsRegister r.0) InstructionRead (three_registers scope x) _ (three x) λ r h. record { constant = tt; register = h; next = tt }

    not_read : (x : Data) → Read (not_row scope x)
    unfolding not_row
    not_read x = on (λ r. IsRegister r.0) InstructionRead (two_registers scope x) _ (two x) λ r h. record { constant = tt; register = h; next = tt }

    and_read : (x : Data) → Read (and_row scope x)
    unfolding and_row
    and_read x = on (λ r. IsRegister r.0) InstructionRead (three_registers scope x) _ (three x) λ r h. record { constant = tt; register = h; next = tt }

    or_read : (x : Data) → Read (or_row scope x)
    unfolding or_row
    or_read x = on (λ r. IsRegister r.0) InstructionRead (three_registers scope x) _ (three x) λ r h. record { constant = tt; register = h; next = tt }

    join_read : (x : Data) → Read (join_row scope x)
    unfolding join_row
    join_read x = on (λ r. IsRegister r.0) InstructionRead (three_registers scope x) _ (three x) λ r h. record { constant = tt; register = h; next = tt }

    convert_read : (x : Data) → Read (convert_row scope x)
    unfolding convert_row
    convert_read x =
        beside InstructionRead (no_operand x 4) _ λ u.
        on IsRegister InstructionRead (number_at registers x 1) _ (number_read registers x 1) λ to h.
        beside InstructionRead (number_at registers x 2) _ λ a.
        on Filled InstructionRead (kind_at d.types x 3) _ (kind_read x 3) λ kind g. record { constant = g; register = h; next = tt }

    -- ** instructions on properties and objects

    get_read : (x : Data) → Read (get_row scope x)
    unfolding get_row
    get_read x =
        beside InstructionRead (no_operand x 4) _ λ u.
        on IsRegister InstructionRead (number_at registers x 1) _ (number_read registers x 1) λ to h.
        beside InstructionRead (number_at registers x 2) _ λ object.
        beside InstructionRead (name_at x 3) _ λ property. record { constant = tt; register = h; next = tt }

    set_read : (x : Data) → Read (set_row scope x)
    unfolding set_row
    set_read x =
        beside InstructionRead (no_operand x 4) _ λ u.
        beside InstructionRead (number_at registers x 1) _ λ object.
        beside InstructionRead (name_at x 2) _ λ property.
        beside InstructionRead (number_at registers x 3) _ λ from. record { constant = tt; register = tt; next = tt }

    object_read : (x : Data) → Read (object_row scope x)
    unfolding object_row
    object_read x = on (λ r. IsRegister r.0) InstructionRead (register_and_name scope x) _ (and_name x) λ r h. record { constant = tt; register = h; next = tt }

    new_read : (x : Data) → Read (new_row scope x)
    unfolding new_row
    new_read x = on (λ r. IsRegister r.0) InstructionRead (register_and_name scope x) _ (and_name x) λ r h. record { constant = tt; register = h; next = tt }

    sink_read : (x : Data) → Read (sink_row scope x)
    unfolding sink_row
    sink_read x = on IsRegister InstructionRead (one_register scope x) _ (one x) λ r h. record { constant = tt; register = tt; next = tt }

    orphan_read : (x : Data) → Read (orphan_row scope x)
    unfolding orphan_row
    orphan_read x = on IsRegister InstructionRead (one_register scope x) _ (one x) λ r h. record { constant = tt; register = tt; next = tt }

    dispose_read : (x : Data) → Read (dispose_row scope x)
    unfolding dispose_row
    dispose_read x = on IsRegister InstructionRead (one_register scope x) _ (one x) λ r h. record { constant = tt; register = tt; next = tt }

    freeze_read : (x : Data) → Read (freeze_row scope x)
    unfolding freeze_row
    freeze_read x = on IsRegister InstructionRead (one_register scope x) _ (one x) λ r h. record { constant = tt; register = tt; next = tt }

    thaw_read : (x : Data) → Read (thaw_row scope x)
    unfolding thaw_row
    thaw_read x = on IsRegister InstructionRead (one_register scope x) _ (one x) λ r h. record { constant = tt; register = tt; next = tt }

    adopt_read : (x : Data) → Read (adopt_row scope x)
    unfolding adopt_row
    adopt_read x = on (λ r. IsRegister r.0) InstructionRead (three_registers scope x) _ (three x) λ r h. record { constant = tt; register = h; next = tt }

    notify_read : (x : Data) → Read (notify_row scope x)
    unfolding notify_row
    notify_read x = on (λ r. IsRegister r.0) InstructionRead (register_and_name scope x) _ (and_name x) λ r h. record { constant = tt; register = tt; next = tt }

    -- ** instructions on signals, sources and peers

    emit_read : (x : Data) → Read (emit_row scope x)
    unfolding emit_row
    emit_read x =
        beside InstructionRead (no_operand x 6) _ λ u.
        on (Within registers) InstructionRead (register_or_null_at registers x 1) _ (or_null_read registers x 1) λ into h.
        beside InstructionRead (number_at registers x 2) _ λ object.
        beside InstructionRead (name_at x 3) _ λ signal.
        beside InstructionRead (detail_at x 4) _ λ detail.
        beside InstructionRead (registers_at registers x 5) _ λ args. record { constant = tt; register = h; next = tt }

    connect_read : (x : Data) → Read (connect_row scope x)
    unfolding connect_row
    connect_read x =
        beside InstructionRead (no_operand x 8) _ λ u.
        on IsRegister InstructionRead (number_at registers x 1) _ (number_read registers x 1) λ to h.
        beside InstructionRead (number_at registers x 2) _ λ object.
        beside InstructionRead (connect_at scope x) _ λ c. record { constant = tt; register = h; next = tt }

    disconnect_read : (x : Data) → Read (disconnect_row scope x)
    unfolding disconnect_row
    disconnect_read x = on (λ r. IsRegister r.0) InstructionRead (register_and_name scope x) _ (and_name x) λ r h. record { constant = tt; register = tt; next = tt }

    block_read : (x : Data) → Read (block_row scope x)
    unfolding block_row
    block_read x = on (λ r. IsRegister r.0) InstructionRead (register_and_name scope x) _ (and_name x) λ r h. record { constant = tt; register = tt; next = tt }

    unblock_read : (x : Data) → Read (unblock_row scope x)
    unfolding unblock_row
    unblock_read x = on (λ r. IsRegister r.0) InstructionRead (register_and_name scope x) _ (and_name x) λ r h. record { constant = tt; register = tt; next = tt }

    stop_read : (x : Data) → Read (stop_row scope x)
    unfolding stop_row
    stop_read x = beside InstructionRead (no_operand x 1) _ λ u. record { constant = tt; register = tt; next = tt }

    unbind_read : (x : Data) → Read (unbind_row scope x)
    unfolding unbind_row
    unbind_read x = beside InstructionRead (one_name x) _ λ name. record { constant = tt; register = tt; next = tt }

    idle_read : (x : Data) → Read (idle_row scope x)
    unfolding idle_row
    idle_read x =
        beside InstructionRead (no_operand x 5) _ λ u.
        on IsRegister InstructionRead (number_at registers x 1) _ (number_read registers x 1) λ to h.
        beside InstructionRead (name_at x 2) _ λ program.
        beside InstructionRead (priority_at x 3) _ λ priority.
        beside InstructionRead (register_or_null_at registers x 4) _ λ with. record { constant = tt; register = h; next = tt }

    timeout_read : (x : Data) → Read (timeout_row scope x)
    unfolding timeout_row
    timeout_read x =
        beside InstructionRead (no_operand x 6) _ λ u.
        on IsRegister InstructionRead (number_at registers x 1) _ (number_read registers x 1) λ to h.
        beside InstructionRead (name_at x 2) _ λ program.
        beside InstructionRead (priority_at x 3) _ λ priority.
        beside InstructionRead (interval_at x 4) _ λ interval.
        beside InstructionRead (register_or_null_at registers x 5) _ λ with. record { constant = tt; register = h; next = tt }

    remove_read : (x : Data) → Read (remove_row scope x)
    unfolding remove_row
    remove_read x = beside InstructionRead (one_name x) _ λ program. record { constant = tt; register = tt; next = tt }

    call_read : (x : Data) → Read (call_row scope x)
    unfolding call_row
    call_read x =
        beside InstructionRead (no_operand x 5) _ λ u.
        on IsRegister InstructionRead (number_at registers x 1) _ (number_read registers x 1) λ to h.
        beside InstructionRead (number_at registers x 2) _ λ object.
        beside InstructionRead (name_at x 3) _ λ method.
        beside InstructionRead (registers_at registers x 4) _ λ args. record { constant = tt; register = h; next = tt }

    -- ** instructions that end a block

    jump_read : (x : Data) → Read (jump_row scope x)
    unfolding jump_row
    jump_read x =
        beside InstructionRead (no_operand x 2) _ λ u.
        on (λ to. to < blocks) InstructionRead (number_at blocks x 1) _ (number_read blocks x 1) λ to h. record { constant = tt; register = tt; next = (h, tt) }

    branch_read : (x : Data) → Read (branch_row scope x)
    unfolding branch_row
    branch_read x =
        on (λ r. (r.1 < blocks) × (r.2 < blocks)) InstructionRead (register_and_blocks scope x) _ (and_blocks x) λ r h. record { constant = tt; register = tt; next = (h.0, (h.1, tt)) }

    branch_null_read : (x : Data) → Read (branch_null_row scope x)
    unfolding branch_null_row
    branch_null_read x =
        on (λ r. (r.1 < blocks) × (r.2 < blocks)) InstructionRead (register_and_blocks scope x) _ (and_blocks x) λ r h. record { constant = tt; register = tt; next = (h.0, (h.1, tt)) }

    return_read : (x : Data) → Read (return_row scope x)
    unfolding return_row
    return_read x =
        beside InstructionRead (no_operand x 2) _ λ u.
        beside InstructionRead (register_or_null_at registers x 1) _ λ from. record { constant = tt; register = tt; next = tt }

    -- ** by their words

    jump_word_read : (word : List ℕ) (x : Data) → Read (jump_word scope word x)
    unfolding jump_word
    jump_word_read word x =
        chosen InstructionRead (bytes_eq word (codes "jump")) _ _ (jump_read x) (
        chosen InstructionRead (bytes_eq word (codes "if")) _ _ (branch_read x) (
        chosen InstructionRead (bytes_eq word (codes "ifnull")) _ _ (branch_null_read x) (
        chosen InstructionRead (bytes_eq word (codes "return")) _ _ (return_read x) (tt))))

    source_word_read : (word : List ℕ) (x : Data) → Read (source_word scope word x)
    unfolding source_word
    source_word_read word x =
        chosen InstructionRead (bytes_eq word (codes "idle")) _ _ (idle_read x) (
        chosen InstructionRead (bytes_eq word (codes "timeout")) _ _ (timeout_read x) (
        chosen InstructionRead (bytes_eq word (codes "remove")) _ _ (remove_read x) (
        chosen InstructionRead (bytes_eq word (codes "call")) _ _ (call_read x) (jump_word_read word x))))

    signal_word_read : (word : List ℕ) (x : Data) → Read (signal_word scope word x)
    unfolding signal_word
    signal_word_read word x =
        chosen InstructionRead (bytes_eq word (codes "emit")) _ _ (emit_read x) (
        chosen InstructionRead (bytes_eq word (codes "connect")) _ _ (connect_read x) (
        chosen InstructionRead (bytes_eq word (codes "disconnect")) _ _ (disconnect_read x) (
        chosen InstructionRead (bytes_eq word (codes "block")) _ _ (block_read x) (
        chosen InstructionRead (bytes_eq word (codes "unblock")) _ _ (unblock_read x) (
        chosen InstructionRead (bytes_eq word (codes "stop")) _ _ (stop_read x) (
        chosen InstructionRead (bytes_eq word (codes "unbind")) _ _ (unbind_read x) (source_word_read word x)))))))

    object_word_read : (word : List ℕ) (x : Data) → Read (object_word scope word x)
    unfolding object_word
    object_word_read word x =
        chosen InstructionRead (bytes_eq word (codes "get")) _ _ (get_read x) (
        chosen InstructionRead (bytes_eq word (codes "set")) _ _ (set_read x) (
        chosen InstructionRead (bytes_eq word (codes "object")) _ _ (object_read x) (
        chosen InstructionRead (bytes_eq word (codes "new")) _ _ (new_read x) (
        chosen InstructionRead (bytes_eq word (codes "sink")) _ _ (sink_read x) (
        chosen InstructionRead (bytes_eq word (codes "orphan")) _ _ (orphan_read x) (
        chosen InstructionRead (bytes_eq word (codes "dispose")) _ _ (dispose_read x) (
        chosen InstructionRead (bytes_eq word (codes "adopt")) _ _ (adopt_read x) (
        chosen InstructionRead (bytes_eq word (codes "freeze")) _ _ (freeze_read x) (
        chosen InstructionRead (bytes_eq word (codes "thaw")) _ _ (thaw_read x) (
        chosen InstructionRead (bytes_eq word (codes "notify")) _ _ (notify_read x) (signal_word_read word x)))))))))))

    register_word_read : (word : List ℕ) (x : Data) → Read (register_word scope word x)
    unfolding register_word
    register_word_read word x =
        chosen InstructionRead (bytes_eq word (codes "const")) _ _ (const_read x) (
        chosen InstructionRead (bytes_eq word (codes "move")) _ _ (move_read x) (
        chosen InstructionRead (bytes_eq word (codes "clear")) _ _ (clear_read x) (
        chosen InstructionRead (bytes_eq word (codes "add")) _ _ (arithmetic_read words.add x) (
        chosen InstructionRead (bytes_eq word (codes "sub")) _ _ (arithmetic_read words.sub x) (
        chosen InstructionRead (bytes_eq word (codes "mul")) _ _ (arithmetic_read words.mul x) (
        chosen InstructionRead (bytes_eq word (codes "cmp")) _ _ (compare_read x) (
        chosen InstructionRead (bytes_eq word (codes "same")) _ _ (same_read x) (
        chosen InstructionRead (bytes_eq word (codes "not")) _ _ (not_read x) (
        chosen InstructionRead (bytes_eq word (codes "and")) _ _ (and_read x) (
        chosen InstructionRead (bytes_eq word (codes "or")) _ _ (or_read x) (
        chosen InstructionRead (bytes_eq word (codes "join")) _ _ (join_read x) (
        chosen InstructionRead (bytes_eq word (codes "convert")) _ _ (convert_read x) (object_word_read word x)))))))))))))

    -- an instruction that was read
    pub instruction_read : (x : Data) → Read (instruction_at scope x)
    unfolding instruction_at
    instruction_read x =
        beside InstructionRead (name_at x 0) _ λ word.
        register_word_read word x
