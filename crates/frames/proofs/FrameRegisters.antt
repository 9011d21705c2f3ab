-- The registers of a frame: as a program begins, as one is written, and as several are read.
use Rattle.std.proofs.Common.{◌≡◌, ℕ, zero, suc, ◌+◌, ◌<◌, ◌≤◌, ◌++◌, List, [], ◌∷◌, Option, None, Some, option_map, map, length, drop, get_or, slice_set, replicate, IsSome, Ok, Err, refl, sym, ap, ◌∙◌, arith}
use Rattle.std.proofs.Math.Seq.{drop-cons}
use Rattle.std.proofs.lemmas.List.{append-nil, append_assoc, drop_all, length-map}
use Rattle.ui_machine.specs.Definition.Values as values
use Rattle.ui_machine.specs.declared.arm.Arm.TheVariants as arms
use Rattle.ui_machine.specs.State.Tasks.{Frame, Registers}
use Rattle.ui_machine.specs.Seq.{read, write}
use Rattle.ui_machine.specs.Outcome.{Answer, known, ◌>>=◌}
use Rattle.ui_machine.specs.Instructions.Registers.{value_in, values_in}
use Rattle.g_values.specs.View.{value_view}
use Rattle.g_values.specs.declared.value.Value.{Value}
use Rattle.bytecode.specs.declared.computations.Register.{Register}
use Rattle.bytecode.specs.Computing.{registers_of}
use Rattle.bytecode.specs.View.{number_of}
use Rattle.frames.specs.FrameView.{AreSet, set_values}

-- registers of which the first are set, and the others are not
module _ (args : List values.Value) where
  pub padded : (rs : List (Option Value)) (n : ℕ) → registers_of rs ≡ map (λ v. Some v) args → registers_of (rs ++ replicate n None) ≡ map (λ v. Some v) args ++ replicate n None
  padded rs n same = both rs ∙ ap (λ (l : Registers). l ++ replicate n None) same
    where
      unset : (n : ℕ) → registers_of (replicate n None) ≡ replicate n None
      unset zero = refl
      unset (suc n) = ap (λ (l : Registers). None ∷ l) (unset n)

      both : (rs : List (Option Value)) → registers_of (rs ++ replicate n None) ≡ registers_of rs ++ replicate n None
      both [] = unset n
      both (r ∷ rs) = ap (λ (l : Registers). option_map value_view r ∷ l) (both rs)

  -- as many as are given
  pub as_many : (rs : List (Option Value)) → registers_of rs ≡ map (λ v. Some v) args → length rs ≡ length args
  as_many rs same = sym (length-map rs (option_map value_view)) ∙ ap (λ (l : Registers). length l) same ∙ length-map args (λ v. Some v)

-- registers that hold values alone
values_set : (args : List values.Value) → set_values (map (λ v. Some v) args) ≡ args
values_set [] = refl
values_set (v ∷ args) = ap (λ (vs : List values.Value). v ∷ vs) (values_set args)

pub given_values : (rs : Registers) (args : List values.Value) → rs ≡ map (λ v. Some v) args → set_values rs ≡ args
given_values rs args is = ap (λ (l : Registers). set_values l) is ∙ values_set args

pub given_set : (rs : Registers) (args : List values.Value) → rs ≡ map (λ v. Some v) args → AreSet rs
given_set rs args is = is ∙ ap (λ (vs : List values.Value). map (λ v. Some v) vs) (sym (given_values rs args is))

-- what a register holds
pub held_in : (rs : List (Option Value)) (i : ℕ) (r : Option Value) → i < length rs → r ≡ get_or rs i r → option_map value_view r ≡ read None (registers_of rs) i
held_in [] i r h e = absurd (omega (arith, h))
held_in (x ∷ rs) zero r h e = ap (option_map value_view) e
held_in (x ∷ rs) (suc i) r h e = held_in rs i r (omega (arith, h)) e

-- a register that is written
pub set_in : (rs : List (Option Value)) (i : ℕ) (r : Option Value) → i < length rs
    → write None (registers_of rs) i (option_map value_view r) ≡ registers_of (slice_set rs i r)
set_in [] i r h = absurd (omega (arith, h))
set_in (x ∷ rs) zero r h = refl
set_in (x ∷ rs) (suc i) r h = ap (λ l. option_map value_view x ∷ l) (set_in rs i r (omega (arith, h)))

-- what is set is not unset
pub is_set : {A : Type 0} (o : Option A) → IsSome o → o ≡ None → ⊥
is_set None some e = absurd (cc)
is_set (Some x) some e = absurd (cc)

module _ (f : Frame) where
  -- the values of the registers from one on
  abbrev from_on : List Register → ℕ → Answer (List values.Value)
  from_on from i = values_in f (map number_of (drop i from))

  -- the register of a number, of some
  abbrev at : List Register → ℕ → ℕ
  at from i = (get_or from i (record { 0 = 0 })).0

  taken : (from : List Register) (i : ℕ) → i < length from → from_on from i ≡ (value_in f (at from i) >>= λ v. from_on from (i + 1) >>= λ vs. Ok (v ∷ vs))
  unfolding values_in
  taken from i h =
      let none : Register = record { 0 = 0 } in
      let e : drop i from ≡ get_or from i none ∷ drop (suc i) from = drop-cons from i none h in
      let one : suc i ≡ i + 1 = omega arith in
      ap (λ l. values_in f (map number_of l)) e
      ∙ ap (λ n. value_in f (at from i) >>= λ v. from_on from n >>= λ vs. Ok (v ∷ vs)) one

  behind : (so_far : List values.Value) (v : values.Value) (rest : Answer (List values.Value))
      → ((rest >>= λ vs. Ok (v ∷ vs)) >>= λ vs. Ok (so_far ++ vs)) ≡ (rest >>= λ vs. Ok ((so_far ++ v ∷ []) ++ vs))
  behind so_far v (Ok vs) = ap (λ (l : List values.Value). Ok l) (sym (append_assoc so_far (v ∷ []) vs))
  behind so_far v (Err arm) = refl

  -- one more of them is read
  pub read_more : (from : List Register) (i : ℕ) (all : Answer (List values.Value)) (so_far : List values.Value) (v : values.Value) → i < length from
      → all ≡ (from_on from i >>= λ vs. Ok (so_far ++ vs)) → read None f.registers (at from i) ≡ Some v
      → all ≡ (from_on from (i + 1) >>= λ vs. Ok ((so_far ++ v ∷ []) ++ vs))
  read_more from i all so_far v h e held =
      e ∙ ap (λ (a : Answer (List values.Value)). a >>= λ vs. Ok (so_far ++ vs)) (taken from i h)
      ∙ ap (λ o. (known arms.Register o >>= λ v. from_on from (i + 1) >>= λ vs. Ok (v ∷ vs)) >>= λ vs. Ok (so_far ++ vs)) held
      ∙ behind so_far v (from_on from (i + 1))

  -- all are read
  pub read_all : (from : List Register) (i : ℕ) (all : Answer (List values.Value)) (so_far : List values.Value) → length from ≤ i
      → all ≡ (from_on from i >>= λ vs. Ok (so_far ++ vs)) → all ≡ Ok so_far
  unfolding values_in
  read_all from i all so_far h e =
      e ∙ ap (λ l. values_in f (map number_of l) >>= λ vs. Ok (so_far ++ vs)) (drop_all i from h)
      ∙ ap (λ (l : List values.Value). Ok l) (append-nil so_far)
