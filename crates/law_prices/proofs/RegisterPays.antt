-- Instructions that write a register and start nothing.
use Rattle.std.proofs.Common.{◌≡◌, refl, ℕ, Bool, true, false, cond, List, ◌++◌, length, Option, None, Some, Ok}
use Rattle.std.specs.Prelude.{codes, nat_lt}
use Rattle.ui_machine.specs.Definition.{Definition}
use Rattle.ui_machine.specs.Definition.Kinds.{Kind}
use Rattle.ui_machine.specs.Definition.Programs.{Arithmetic, Comparison, Instruction}
use Rattle.ui_machine.specs.Definition.Programs as words
use Rattle.ui_machine.specs.Definition.Values.{Value}
use Rattle.ui_machine.specs.Definition.Values as values
use Rattle.ui_machine.specs.Instructions.{instruction_step}
use Rattle.ui_machine.specs.Instructions.Arithmetic.{bytes_of, comparing, conjunction, converting, disjunction, gives_from, joining, most_bytes, negating, reckoning, sameness}
use Rattle.ui_machine.specs.Instructions.Jumps.{past}
use Rattle.ui_machine.specs.Instructions.Objects.{look_up_object}
use Rattle.ui_machine.specs.Instructions.Properties.{get_property, slot_at}
use Rattle.ui_machine.specs.Instructions.Registers.{moving, operand_in, text_in, truth_in, value_in, whole_in, written_to}
use Rattle.ui_machine.specs.Outcome.{known}
use Rattle.ui_machine.specs.Output.Lines as lines
use Rattle.ui_machine.specs.Definition.Lookups.{place_at, place_of}
use Rattle.ui_machine.specs.Rules.Sets.{spec_at}
use Rattle.ui_machine.specs.State.Config.{Left, Started, said}
use Rattle.ui_machine.specs.State.Objects.{asked, value_at}
use Rattle.law_typing.specs.Graph.Tables.{Tables}
use Rattle.law_steps.proofs.Instructed.Around.{Due}
use Rattle.law_steps.proofs.Instructed.Inverse.{bound, only}
use Rattle.law_prices.specs.Deeds.{PriceList}
use Rattle.law_prices.proofs.Pays.{PaidThere, Pays, Told, told, written}

-- the instruction leads to what is paid
abbrev pub InstructionPays : (d : Definition) → PriceList → Tables → Instruction → Type 0
InstructionPays d P t i = (u : Due d i) → PaidThere u P t → (l : Left) → instruction_step d u.w u.rest (past u.f) i ≡ Ok l → Pays u P t l

module _ (d : Definition) (P : PriceList) (t : Tables) where
  silent : {i : Instruction} (u : Due d i) (to : ℕ) (x : Option Value) (s : Started) → written_to u.w to x (past u.f) ≡ Ok s → Told u P t s
  silent u to x s e = written u P t u.w.transcript to x s e

  pub const_pays : (to : ℕ) (kind : Kind) (v : Value) → InstructionPays d P t (words.const to kind v)
  const_pays to kind v u paid l e = told u P t _ (λ s e. silent u to (Some v) s e) refl paid l e

  pub clear_pays : (to : ℕ) → InstructionPays d P t (words.clear to)
  clear_pays to u paid l e = told u P t _ (λ s e. silent u to None s e) refl paid l e

  moved : {i : Instruction} (u : Due d i) (to from : ℕ) (s : Started) → moving u.w (past u.f) to from ≡ Ok s → Told u P t s
  unfolding moving
  moved u to from s e = let b = bound (value_in (past u.f) from) _ s e in silent u to (Some b.0) s b.2

  pub move_pays : (to from : ℕ) → InstructionPays d P t (words.move to from)
  move_pays to from u paid l e = told u P t _ (λ s e. moved u to from s e) refl paid l e

  reckoned : {i : Instruction} (u : Due d i) (o : Arithmetic) (to a b : ℕ) (s : Started) → reckoning u.w (past u.f) o to a b ≡ Ok s → Told u P t s
  unfolding reckoning
  reckoned u o to a b s e =
      let m = bound (whole_in (past u.f) a) _ s e in
      let n = bound (whole_in (past u.f) b) _ s m.2 in
      let k = only _ _ _ s n.2 in
      silent u to _ s k.1

  pub arithmetic_pays : (o : Arithmetic) (to a b : ℕ) → InstructionPays d P t (words.arithmetic o to a b)
  arithmetic_pays o to a b u paid l e = told u P t _ (λ s e. reckoned u o to a b s e) refl paid l e

  compared : {i : Instruction} (u : Due d i) (c : Comparison) (to a b : ℕ) (s : Started) → comparing u.w (past u.f) c to a b ≡ Ok s → Told u P t s
  unfolding comparing
  compared u c to a b s e =
      let m = bound (whole_in (past u.f) a) _ s e in
      let n = bound (whole_in (past u.f) b) _ s m.2 in
      let k = only _ _ _ s n.2 in
      silent u to _ s k.1

  pub compare_pays : (c : Comparison) (to a b : ℕ) → InstructionPays d P t (words.compare c to a b)
  compare_pays c to a b u paid l e = told u P t _ (λ s e. compared u c to a b s e) refl paid l e

  same_told : {i : Instruction} (u : Due d i) (to a b : ℕ) (s : Started) → sameness u.w (past u.f) to a b ≡ Ok s → Told u P t s
  unfolding sameness
  same_told u to a b s e =
      let m = bound (value_in (past u.f) a) _ s e in
      let n = bound (value_in (past u.f) b) _ s m.2 in
      let k = only _ _ _ s n.2 in
      silent u to _ s k.1

  pub same_pays : (to a b : ℕ) → InstructionPays d P t (words.same to a b)
  same_pays to a b u paid l e = told u P t _ (λ s e. same_told u to a b s e) refl paid l e

  negated : {i : Instruction} (u : Due d i) (to a : ℕ) (s : Started) → negating u.w (past u.f) to a ≡ Ok s → Told u P t s
  unfolding negating
  negated u to a s e = let m = bound (truth_in (past u.f) a) _ s e in silent u to _ s m.2

  pub negate_pays : (to a : ℕ) → InstructionPays d P t (words.negate to a)
  negate_pays to a u paid l e = told u P t _ (λ s e. negated u to a s e) refl paid l e

  both_told : {i : Instruction} (u : Due d i) (to a b : ℕ) (s : Started) → conjunction u.w (past u.f) to a b ≡ Ok s → Told u P t s
  unfolding conjunction
  both_told u to a b s e =
      let m = bound (truth_in (past u.f) a) _ s e in
      let n = bound (truth_in (past u.f) b) _ s m.2 in
      silent u to _ s n.2

  pub both_pays : (to a b : ℕ) → InstructionPays d P t (words.both to a b)
  both_pays to a b u paid l e = told u P t _ (λ s e. both_told u to a b s e) refl paid l e

  either_told : {i : Instruction} (u : Due d i) (to a b : ℕ) (s : Started) → disjunction u.w (past u.f) to a b ≡ Ok s → Told u P t s
  unfolding disjunction
  either_told u to a b s e =
      let m = bound (truth_in (past u.f) a) _ s e in
      let n = bound (truth_in (past u.f) b) _ s m.2 in
      silent u to _ s n.2

  pub either_pays : (to a b : ℕ) → InstructionPays d P t (words.either to a b)
  either_pays to a b u paid l e = told u P t _ (λ s e. either_told u to a b s e) refl paid l e

  joined : {i : Instruction} (u : Due d i) (to a b : ℕ) (s : Started) → joining d u.w (past u.f) to a b ≡ Ok s → Told u P t s
  unfolding joining
  joined u to a b s e =
      let m = bound (text_in (past u.f) a) _ s e in
      let n = bound (text_in (past u.f) b) _ s m.2 in
      go (bytes_of m.0 ++ bytes_of n.0) (nat_lt most_bytes (length (bytes_of m.0 ++ bytes_of n.0))) n.2
    where
      go : (text : List ℕ) (long : Bool) →
          gives_from (cond long (record { state = said d u.w (lines.limit (codes "join")); answer = values.text None }) (record { state = u.w; answer = values.text (Some text) })) to (past u.f) ≡ Ok s → Told u P t s
      go text true e = written u P t _ to _ s e
      go text false e = silent u to _ s e

  pub join_pays : (to a b : ℕ) → InstructionPays d P t (words.join to a b)
  join_pays to a b u paid l e = told u P t _ (λ s e. joined u to a b s e) refl paid l e

  converted : {i : Instruction} (u : Due d i) (to a : ℕ) (kind : Kind) (s : Started) → converting d u.w (past u.f) to a kind ≡ Ok s → Told u P t s
  unfolding converting
  converted u to a kind s e =
      let m = bound (value_in (past u.f) a) _ s e in
      let k = only _ _ _ s m.2 in
      silent u to _ s k.1

  pub convert_pays : (to a : ℕ) (kind : Kind) → InstructionPays d P t (words.convert to a kind)
  convert_pays to a kind u paid l e = told u P t _ (λ s e. converted u to a kind s e) refl paid l e

  got : {i : Instruction} (u : Due d i) (to object : ℕ) (name : List ℕ) (s : Started) → get_property d u.w (past u.f) to object name ≡ Ok s → Told u P t s
  unfolding get_property
  got u to object name s e =
      let o = bound (operand_in u.w (past u.f) object) _ s e in
      let slot = bound (slot_at d u.w o.0 name) _ s o.2 in
      let spec = bound (spec_at d u.w.objects o.0 slot.0) _ s slot.2 in
      let v = bound (asked u.w.objects o.0 (value_at slot.0)) _ s spec.2 in
      let k = only _ _ _ s v.2 in
      silent u to _ s k.1

  pub get_pays : (to object : ℕ) (name : List ℕ) → InstructionPays d P t (words.get to object name)
  get_pays to object name u paid l e = told u P t _ (λ s e. got u to object name s e) refl paid l e

  looked_up : {i : Instruction} (u : Due d i) (to : ℕ) (id : List ℕ) (s : Started) → look_up_object d u.w (past u.f) to id ≡ Ok s → Told u P t s
  unfolding look_up_object
  looked_up u to id s e =
      let place = bound (known _ (place_of d id)) _ s e in
      let p = bound (known _ (place_at d place.0)) _ s place.2 in
      let k = only _ _ _ s p.2 in
      silent u to _ s k.1

  pub object_pays : (to : ℕ) (id : List ℕ) → InstructionPays d P t (words.object to id)
  object_pays to id u paid l e = told u P t _ (λ s e. looked_up u to id s e) refl paid l e
