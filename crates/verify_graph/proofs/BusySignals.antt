-- Signals of a class that are marked one after the other.
use Rattle.std.proofs.Common.{◌≡◌, ◌∙◌, inl, inr, ◌⊎◌, refl, sym, ap, subst, ℕ, zero, suc, ◌+◌, ◌<◌, ◌≤◌, Bool, true, false, cond, nat_eq, nat_lt, List, [], ◌∷◌, ◌++◌, length, map, drop, take, Option, None, Some, slice_get, get_or, Vec, arith, append_assoc, append-nil}
use Rattle.std.specs.Prelude.{◌||◌, is_some, option_and_then}
use Rattle.std.specs.Global.{Global}
use Rattle.std.specs.List.{cons_option, filter, filter_map, flat_map, list_any}
use Rattle.std.proofs.lemmas.Bool.{ltb-false, ltb-true}
use Rattle.std.proofs.lemmas.Bool.Decides.{nat_tests}
use Rattle.std.proofs.lemmas.List.{length-map}
use Rattle.std.proofs.lemmas.List.Elements.{filter-append, filter_map-append}
use Rattle.std.proofs.lemmas.List.Folds.{list_any-append}
use Rattle.std.proofs.lemmas.Option.{none-some, same_Some}
use Rattle.ui_machine.specs.Seq.{listed, read, write}
use Rattle.ui_machine.specs.Definition.{Definition}
use Rattle.ui_machine.specs.Definition.Lookups.{class_of}
use Rattle.ui_machine.specs.Definition.Programs.{Instruction}
use Rattle.ui_machine.specs.Definition.Signals.{Signal}
use Rattle.ui_machine.specs.Rules.Connections.{signal_number}
use Rattle.ui_machine.specs.Rules.EmissionPlan.{class_handler_of, signal_of}
use Rattle.ui_machine.specs.Rules.Programs.{is_number}
use Rattle.law_typing.specs.Graph.{listed_if}
use Rattle.law_idle.specs.Idle.{is_handled, is_named, is_used, named_in, named_signals, signal_named}
use Rattle.verify_operands.proofs.MappedLists.{stood}
use Rattle.verify_graph.specs.Busy.{AreUsed, AreUsedOfTypes, Marks}
use Rattle.verify_graph.proofs.Prefixes.{listed_behind, listed_read}

or_false : (b : Bool) → (b || false) ≡ b
or_false true = refl
or_false false = refl

or_assoc : (a b c : Bool) → ((a || b) || c) ≡ (a || (b || c))
or_assoc true b c = refl
or_assoc false b c = refl

-- ** one after the other

module _ (d : Definition) (class : ℕ) where
  pub none_marked : (marks : List Bool) → Marks d class [] marks marks
  none_marked marks n = sym (or_false (read false marks n))

  pub one_marked : (name : List ℕ) (old new : List Bool) →
      ((n : ℕ) → read false new n ≡ (read false old n || is_number n (signal_number d class name))) → Marks d class (name ∷ []) old new
  one_marked name old new is n = is n ∙ ap (λ b. read false old n || b) (sym (or_false (is_number n (signal_number d class name))))

  pub more_marked : (names more all : List (List ℕ)) (old middle new : List Bool) → Marks d class names old middle → Marks d class more middle new → all ≡ names ++ more →
      Marks d class all old new
  more_marked names more all old middle new first second is n =
      second n
      ∙ (ap (λ b. b || is_named d more class n) (first n)
      ∙ (or_assoc (read false old n) (is_named d names class n) (is_named d more class n)
      ∙ (ap (λ b. read false old n || b) (sym (list_any-append (λ (name : List ℕ). is_number n (signal_number d class name)) names more))
      ∙ ap (λ xs. read false old n || is_named d xs class n) (sym is))))

  pub used_marks : (handled marks : List Bool) → ((n : ℕ) → read false handled n ≡ is_handled d class n) → Marks d class (named_signals d) handled marks → AreUsed d class marks
  used_marks handled marks known more n = more n ∙ ap (λ b. b || is_named d (named_signals d) class n) (known n)

cons_listed : {A : Type 0} → (o : Option A) (xs : List A) → cons_option o xs ≡ listed_if o ++ xs
cons_listed None xs = refl
cons_listed (Some x) xs = refl

-- the names of one instruction more
pub code_more : (before : List Instruction) (i : Instruction) (all : List Instruction) → all ≡ before ++ i ∷ [] → named_in all ≡ named_in before ++ listed_if (signal_named i)
code_more before i all is =
    ap named_in is
    ∙ (filter_map-append signal_named before (i ∷ [])
    ∙ ap (λ xs. named_in before ++ xs) (cons_listed (signal_named i) [] ∙ append-nil (listed_if (signal_named i))))

-- of one part more
pub parts_more : {A : Type 0} → (f : A → List (List ℕ)) (before : List A) (x : A) (all : List A) → all ≡ before ++ x ∷ [] → flat_map f all ≡ flat_map f before ++ f x
parts_more {A} f before x all is = ap (flat_map f) is ∙ by before
  where
    by : (xs : List A) → flat_map f (xs ++ x ∷ []) ≡ flat_map f xs ++ f x
    by [] = append-nil (f x)
    by (y ∷ ys) = ap (λ zs. f y ++ zs) (by ys) ∙ sym (append_assoc (f y) (flat_map f ys) (f x))

-- behind the last one all are taken
pub take_none : {A : Type 0} → (xs : List A) (n : ℕ) → slice_get xs n ≡ None → take n xs ≡ xs
take_none [] zero is = refl
take_none [] (suc n) is = refl
take_none (x ∷ xs) zero is = absurd (none-some x (sym is))
take_none (x ∷ xs) (suc n) is = ap (λ ys. x ∷ ys) (take_none xs n is)

-- ** one mark

zero_suc : (n : ℕ) → nat_eq 0 (suc n) ≡ false
zero_suc n = grind (arith, nat_tests)

suc_zero : (n : ℕ) → nat_eq (suc n) 0 ≡ false
suc_zero n = grind (arith, nat_tests)

suc_suc : (n m : ℕ) → nat_eq (suc n) (suc m) ≡ nat_eq n m
suc_suc n m = grind (arith, nat_tests)

written : (marks : List Bool) (at n : ℕ) → read false (write false marks at true) n ≡ (read false marks n || nat_eq at n)
written [] zero zero = refl
written [] zero (suc n) = sym (zero_suc n)
written [] (suc at) zero = sym (suc_zero at)
written [] (suc at) (suc n) = written [] at n ∙ sym (suc_suc at n)
written (x ∷ xs) zero zero = sym (or_true x)
  where
    or_true : (b : Bool) → (b || true) ≡ true
    or_true true = refl
    or_true false = refl
written (x ∷ xs) zero (suc n) = sym (or_false (read false xs n)) ∙ ap (λ b. read false xs n || b) (sym (zero_suc n))
written (x ∷ xs) (suc at) zero = sym (or_false x) ∙ ap (λ b. x || b) (sym (suc_zero at))
written (x ∷ xs) (suc at) (suc n) = written xs at n ∙ ap (λ b. read false xs n || b) (sym (suc_suc at n))

pub mark_written : (old new : List Bool) (at n : ℕ) → new ≡ write false old at true → read false new n ≡ (read false old n || nat_eq at n)
mark_written old new at n is = ap (λ xs. read false xs n) is ∙ written old at n

-- ** class handlers

pub handled_all : (d : Definition) (class count n : ℕ) (marks : List Bool) → marks ≡ listed (is_handled d class) count → length (class_of d class).signals ≤ count →
    read false marks n ≡ is_handled d class n
handled_all d class count n marks is long = by (nat_lt n count) refl
  where
    behind : (ss : List Signal) (m : ℕ) → length ss ≤ m → slice_get ss m ≡ None
    behind [] zero h = refl
    behind [] (suc m) h = refl
    behind (s ∷ ss) zero h = absurd (omega (arith, h))
    behind (s ∷ ss) (suc m) h = behind ss m (omega (arith, h))

    by : (b : Bool) → nat_lt n count ≡ b → read false marks n ≡ is_handled d class n
    by true low = ap (λ xs. read false xs n) is ∙ listed_read false (is_handled d class) count n (ltb-true n count low)
    by false high =
        let h = ltb-false n count high in
        ap (λ xs. read false xs n) is
        ∙ (listed_behind false (is_handled d class) count n h
        ∙ sym (ap (λ (o : Option Signal). is_some (option_and_then (λ (s : Signal). class_handler_of d class s.name) o))
        (behind (class_of d class).signals n (omega (arith, h, long)))))

-- ** types

pub one_type_more : (d : Definition) (lists new : List (Vec Bool Global)) (class : ℕ) (v : Vec Bool Global) → AreUsedOfTypes d lists → AreUsed d class v.items → length lists ≡ class →
    new ≡ lists ++ v ∷ [] → AreUsedOfTypes d new
one_type_more d lists new class v known used count is type w at = by (stood lists type v w (sym (ap (λ xs. slice_get xs type) is) ∙ at))
  where
    by : (slice_get lists type ≡ Some w) ⊎ ((type ≡ length lists) × (v ≡ w)) → AreUsed d type w.items
    by (inl was) = known type w was
    by (inr here) =
        let same : type ≡ class = here.0 ∙ count in
        subst (λ t. AreUsed d t w.items) (sym same) (subst (λ (x : Vec Bool Global). AreUsed d class x.items) here.1 used)

pub read_or : (marks : List Bool) (n : ℕ) → get_or marks n false ≡ read false marks n
read_or [] zero = refl
read_or [] (suc n) = refl
read_or (x ∷ xs) zero = refl
read_or (x ∷ xs) (suc n) = read_or xs n
