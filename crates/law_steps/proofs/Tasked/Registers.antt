-- An instruction that does not end its block writes one register, or none: so the kinds of a program's registers stay as many, and a
-- register that is not written keeps its kind.
use Rattle.std.proofs.Common.{◌≡◌, refl, sym, subst, ◌∙◌, ℕ, zero, suc, ◌<◌, Bool, true, false, List, [], ◌∷◌, length, Option, None, Some, Ok, Err, arith}
use Rattle.std.specs.Prelude.{⊤, nat_lt, not}
use Rattle.std.specs.List.{list_any}
use Rattle.ui_machine.specs.Seq.{write}
use Rattle.ui_machine.specs.Outcome.{only_if, ◌>>=◌}
use Rattle.ui_machine.specs.Definition.{Definition}
use Rattle.ui_machine.specs.Definition.Kinds.{Kind, RegisterKind}
use Rattle.ui_machine.specs.Definition.Kinds as kinds
use Rattle.ui_machine.specs.Definition.Programs.{Instruction, Program, Block}
use Rattle.ui_machine.specs.Definition.Programs as words
use Rattle.ui_machine.specs.Definition.Places.{Bind}
use Rattle.ui_machine.specs.Definition.Properties.{is_readable, is_writable, is_construct_only}
use Rattle.law_typing.specs.Rules.Answers.{Typing, Rule}
use Rattle.law_typing.specs.Rules.Answers as rules
use Rattle.law_typing.specs.Rules.RegisterKinds.{Kinds, kind_in}
use Rattle.law_typing.specs.Rules.Signatures.{takes, given_kinds, data_kinds, takes_detail}
use Rattle.law_typing.specs.Rules.Brackets.{written}
use Rattle.law_typing.specs.Rules.Typing as typing
use Rattle.law_typing.specs.Rules.Typing.{typed, after, or_before, takes_result}
use Rattle.law_typing.specs.Verdict.Accepted.{Each}
use Rattle.law_typing.specs.Laws.WellRead.{Within, Ends, ends}
use Rattle.law_typing.specs.Good.Programs.{kinds_before}
use Rattle.law_steps.proofs.Kept.WriteProofs.{read_apart}
use Rattle.law_steps.proofs.Instructed.Written.{length_write}

-- P holds of what a typing leads to
abbrev Keeps : (Kinds → Type 0) → Typing Kinds → Type 0
Keeps P (Ok ks) = P ks
Keeps P (Err rule) = ⊤

-- a register, if one is named, is one of these
abbrev pub Allowed : (ℕ → Type 0) → Option ℕ → Type 0
Allowed Q None = ⊤
Allowed Q (Some r) = Q r

bound_keeps : {A : Type 0} (P : Kinds → Type 0) (m : Typing A) (f : A → Typing Kinds) → ((x : A) → Keeps P (f x)) → Keeps P (m >>= f)
bound_keeps P (Ok x) f h = h x
bound_keeps P (Err rule) f h = tt

tested_keeps : (P : Kinds → Type 0) (b : Bool) (rule : Rule) (m : Typing Kinds) → Keeps P m → Keeps P (only_if b rule m)
tested_keeps P true rule m h = h
tested_keeps P false rule m h = tt

module _ (d : Definition) (p : Program) (ks : Kinds) (P : Kinds → Type 0) (Q : ℕ → Type 0) (same : P ks)
    (writes : (to : ℕ) (k : RegisterKind) → Q to → P (write kinds.unset ks to k)) where
  result_keeps : (into : Option ℕ) (result : Option Kind) → Allowed Q into → Keeps P (takes_result into result ks)
  result_keeps None result low = same
  result_keeps (Some to) None low = tt
  result_keeps (Some to) (Some kind) low = writes to (kinds.plain kind) low

  none_keeps : {A : Type 0} (m : Typing A) → Keeps P (typing.changing_none ks m)
  unfolding typing.changing_none
  none_keeps m = bound_keeps P m _ (λ x. same)

  -- a register is written last
  gives_keeps : {A : Type 0} (m : Typing A) (k : A → RegisterKind) (to : ℕ) → Q to → Keeps P (m >>= λ x. Ok (write kinds.unset ks to (k x)))
  gives_keeps m k to low = bound_keeps P m _ (λ x. writes to (k x) low)

  emit_keeps : (into : Option ℕ) (object : ℕ) (name : List ℕ) (detail : Option (List ℕ)) (args : List ℕ) → Allowed Q into → Keeps P (typing.emitting d ks into object name detail args)
  unfolding typing.emitting
  emit_keeps into object name detail args low =
      bound_keeps P (typing.operand d ks object) _
      (λ class. bound_keeps P (typing.signal_named d class name) _
      (λ number. bound_keeps P (only_if (nat_lt 0 number) rules.unknown (typing.signal_at d class number)) _
      (λ s. bound_keeps P (only_if (takes_detail d class number s detail) rules.detail (typing.arguments d ks args s.params)) _
      (λ given. result_keeps into s.result low))))

  connect_keeps : (to object : ℕ) (c : words.Connect) → Q to → Keeps P (typing.connecting d ks to object c)
  unfolding typing.connecting
  connect_keeps to object c low =
      bound_keeps P (typing.operand d ks object) _
      (λ class. bound_keeps P (typing.signal_named d class c.signal) _
      (λ number. bound_keeps P (typing.signal_at d class number) _
      (λ s. bound_keeps P (typing.program_named d c.program) _
      (λ p. bound_keeps P (only_if (takes_detail d class number s c.detail) rules.detail (typing.data_in d ks c.with)) _
      (λ kind_of_data. tested_keeps P (takes d p (given_kinds c.swapped (kind_in ks object) s.params kind_of_data) s.result) rules.signature _
      (writes to (kinds.plain kinds.bool) low))))))

  call_keeps : (to object : ℕ) (name : List ℕ) (args : List ℕ) → Q to → Keeps P (typing.calling d ks to object name args)
  unfolding typing.calling
  call_keeps to object name args low =
      bound_keeps P (typing.operand d ks object) _
      (λ class. bound_keeps P (typing.methods_for d class) _
      (λ methods. bound_keeps P (typing.method_named methods name) _
      (λ m. gives_keeps (typing.arguments d ks args m.params) (λ given. kinds.plain m.result) to low)))

  attach_keeps : (to : ℕ) (program : List ℕ) (with : Option ℕ) → Q to → Keeps P (typing.attaching d ks to program with)
  unfolding typing.attaching
  attach_keeps to program with low =
      bound_keeps P (typing.program_named d program) _
      (λ p. bound_keeps P (typing.data_in d ks with) _
      (λ kind_of_data. tested_keeps P (takes d p (data_kinds kind_of_data) (Some kinds.bool)) rules.signature _
      (writes to (kinds.plain kinds.bool) low)))

  handlers_keep : (object : ℕ) (program : List ℕ) → Keeps P (typing.on_handlers d ks object program)
  unfolding typing.on_handlers
  handlers_keep object program = bound_keeps P (typing.operand d ks object) _ (λ class. none_keeps (typing.program_named d program))

  set_keeps : (object : ℕ) (name : List ℕ) (from : ℕ) → Keeps P (typing.set_property d ks object name from)
  unfolding typing.set_property
  set_keeps object name from =
      bound_keeps P (typing.property_of d ks object name) _
      (λ s. tested_keeps P (is_writable s) rules.flags _
      (tested_keeps P (not (is_construct_only s)) rules.construct_only _ (none_keeps (typing.fitting d ks from s.kind))))

  get_keeps : (to object : ℕ) (name : List ℕ) → Q to → Keeps P (typing.get_property d ks to object name)
  unfolding typing.get_property
  get_keeps to object name low =
      bound_keeps P (typing.property_of d ks object name) _
      (λ s. tested_keeps P (is_readable s) rules.flags _ (writes to (kinds.plain s.kind) low))

  two_keep : (a b to : ℕ) (test : RegisterKind → Bool) (k : RegisterKind) → Q to → Keeps P (typing.two_passing ks a b test >>= λ x. Ok (write kinds.unset ks to k))
  two_keep a b to test k low = gives_keeps (typing.two_passing ks a b test) (λ x. k) to low

  -- an instruction that does not end its block writes one of the registers, or none
  typed_keeps : (i : Instruction) → ends i ≡ false → Allowed Q (written i) → Keeps P (typed d p ks i)
  unfolding typing.moving typing.reckoning typing.comparing typing.sameness typing.negating typing.combining typing.joining typing.converting typing.look_up_object typing.adopting
  typed_keeps (words.const to kind v) e low = writes to (kinds.plain kind) low
  typed_keeps (words.move to from) e low = gives_keeps (typing.set_in ks from) (λ k. k) to low
  typed_keeps (words.clear to) e low = writes to kinds.unset low
  typed_keeps (words.arithmetic operation to a b) e low = gives_keeps (typing.two_numbers ks a b) (λ k. k) to low
  typed_keeps (words.compare comparison to a b) e low = gives_keeps (typing.two_numbers ks a b) (λ k. kinds.plain kinds.bool) to low
  typed_keeps (words.same to a b) e low =
      bound_keeps P (typing.set_in ks a) _ (λ k. gives_keeps (typing.passing ks b (typing.is_comparable d k)) (λ l. kinds.plain kinds.bool) to low)
  typed_keeps (words.negate to a) e low = gives_keeps (typing.passing ks a typing.is_bool) (λ k. kinds.plain kinds.bool) to low
  typed_keeps (words.both to a b) e low = two_keep a b to typing.is_bool (kinds.plain kinds.bool) low
  typed_keeps (words.either to a b) e low = two_keep a b to typing.is_bool (kinds.plain kinds.bool) low
  typed_keeps (words.join to a b) e low = gives_keeps (typing.two_passing ks a b typing.is_text) (λ k. k) to low
  typed_keeps (words.convert to a kind) e low = gives_keeps (typing.passing ks a (typing.converts_to d kind)) (λ k. kinds.plain kind) to low
  typed_keeps (words.get to object name) e low = get_keeps to object name low
  typed_keeps (words.set object name from) e low = set_keeps object name from
  typed_keeps (words.object to id) e low = gives_keeps (typing.place_for d id false) kinds.at_or_null to low
  typed_keeps (words.new to id) e low = gives_keeps (typing.place_for d id true) kinds.at_or_null to low
  typed_keeps (words.sink object) e low = none_keeps (typing.operand d ks object)
  typed_keeps (words.orphan object) e low = none_keeps (typing.operand d ks object)
  typed_keeps (words.dispose object) e low = none_keeps (typing.operand d ks object)
  typed_keeps (words.adopt to parent child) e low =
      bound_keeps P (typing.operand d ks parent) _ (λ x. gives_keeps (typing.operand d ks child) (λ y. kinds.plain kinds.bool) to low)
  typed_keeps (words.freeze object) e low = none_keeps (typing.operand d ks object)
  typed_keeps (words.thaw object) e low = none_keeps (typing.operand d ks object)
  typed_keeps (words.emit into object name detail args) e low = emit_keeps into object name detail args low
  typed_keeps (words.notify object name) e low = none_keeps (typing.property_of d ks object name)
  typed_keeps (words.connect to object c) e low = connect_keeps to object c low
  typed_keeps (words.disconnect object program) e low = handlers_keep object program
  typed_keeps (words.block object program) e low = handlers_keep object program
  typed_keeps (words.unblock object program) e low = handlers_keep object program
  typed_keeps words.stop e low = same
  typed_keeps (words.unbind name) e low = tested_keeps P (list_any (λ (b : Bind). typing.is_called name b.name) d.bindings) rules.unknown _ same
  typed_keeps (words.idle to program priority with) e low = attach_keeps to program with low
  typed_keeps (words.timeout to program priority interval with) e low = attach_keeps to program with low
  typed_keeps (words.remove program) e low = none_keeps (typing.program_named d program)
  typed_keeps (words.call to object name args) e low = call_keeps to object name args low
  typed_keeps (words.jump to) e low = absurd (cc)
  typed_keeps (words.branch on then_to else_to) e low = absurd (cc)
  typed_keeps (words.branch_null on then_to else_to) e low = absurd (cc)
  typed_keeps (words.return from) e low = absurd (cc)

  pub after_keeps : (i : Instruction) → ends i ≡ false → Allowed Q (written i) → P (after d p ks i)
  after_keeps i e low = go (typed d p ks i) (typed_keeps i e low)
    where
      go : (m : Typing Kinds) → Keeps P m → P (or_before ks m)
      go (Ok next) h = h
      go (Err rule) h = same

allowed : (n : ℕ) (o : Option ℕ) → Within n o → Allowed (λ to. to < n) o
allowed n None low = tt
allowed n (Some to) low = low

-- in front of each instruction of a block
pub kinds_as_many : (d : Definition) (p : Program) (n : ℕ) (ks : Kinds) (at : ℕ) (code : List Instruction) → length ks ≡ n → at < length code → Ends code → Each (λ i. Within n (written i)) code →
    length (kinds_before d p ks at code) ≡ n
kinds_as_many d p n ks zero code many inside last within = many
kinds_as_many d p n ks (suc at) [] many inside last within = absurd (omega (arith, inside))
kinds_as_many d p n ks (suc at) (i ∷ []) many inside last within = absurd (omega (arith, inside))
kinds_as_many d p n ks (suc at) (i ∷ j ∷ code) many inside last within =
    kinds_as_many d p n (after d p ks i) at (j ∷ code)
    (after_keeps d p ks (λ kinds. length kinds ≡ n) (λ to. to < n) many (λ to k low. length_write kinds.unset ks to k (subst (λ m. to < m) (sym many) low) ∙ many) i last.0 (allowed n (written i) within.0))
    (omega (arith, inside)) last.1 within.1

-- a register whose writing leaves so many is one of them
pub written_within : {A : Type 0} (x : A) (xs : List A) (to : ℕ) (y : A) → to < length (write x xs to y)
written_within x [] zero y = omega arith
written_within x [] (suc to) y = let h = written_within x [] to y in omega (arith, h)
written_within x (z ∷ xs) zero y = omega arith
written_within x (z ∷ xs) (suc to) y = let h = written_within x xs to y in omega (arith, h)

-- a register that no instruction up to there writes
pub kind_apart : (d : Definition) (p : Program) (ks : Kinds) (i : Instruction) (r : ℕ) → ends i ≡ false → Allowed (λ to. to ≡ r → ⊥) (written i) → kind_in (after d p ks i) r ≡ kind_in ks r
kind_apart d p ks i r more apart =
    after_keeps d p ks (λ next. kind_in next r ≡ kind_in ks r) (λ to. to ≡ r → ⊥) refl (λ to k apart. read_apart kinds.unset ks to k r apart) i more apart
