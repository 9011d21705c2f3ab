-- The links of a definition in which a pair is followed are its own.
use Rattle.std.proofs.Common.{◌≡◌, ℕ, zero, suc, ◌<◌, Bool, true, false, cond, is_eq, Greater, List, [], ◌∷◌, Option, None, Some, refl, sym, ap, ◌∙◌, arith}
use Rattle.std.specs.Cmp.{nat_cmp_is}
use Rattle.std.specs.Ordering.{nat_cmp}
use Rattle.std.specs.Prelude.{IfSome, codes}
use Rattle.ui_machine.specs.Definition.Lookups.{slot_of}
use Rattle.ui_machine.specs.Definition.Names.{canonical, same_name}
use Rattle.ui_machine.specs.Rules.Connections.{signal_number}
use Rattle.ui_machine.specs.Rules.EmissionPlan.{class_handler_of, signal_of}
use Rattle.worked.specs.Laws.Gathering.{definition}
use Rattle.law_typing.specs.Verdict.Accepted.{Each}
use Rattle.name_tables.specs.Names.{number_by, number_in, number_of}
use Rattle.engine_links.specs.Linked.{IsLink, IsProperty, handler_at, instruction_at, link_at}
use Rattle.worked.specs.Links.LinkedGathering.{GatheringLinked, linked}

-- ** numbers

-- numbers that differ are told apart
above : (c k : ℕ) → k < c → is_eq (nat_cmp c k) ≡ false
above c k more = ap is_eq (sym (nat_cmp_is c k Greater more))

-- a class above all that have a number has none
above_all : (numbers : List (ℕ × ℕ)) (c : ℕ) → Each (λ (n : ℕ × ℕ). n.0 < c) numbers → number_in numbers c ≡ None
above_all [] c all = refl
above_all (n ∷ numbers) c all = ap (λ b. cond b (Some n.1) (number_in numbers c)) (above c n.0 all.0) ∙ above_all numbers c all.1

-- ** names

-- where a name is among two, by whether it is the first and whether it is the second
abbrev of_two : Bool → Bool → Option ℕ
of_two first second = cond first (Some 0) (cond second (Some 1) None)

in_third : (first second : Bool) → number_by linked.slots 2 (of_two first second) ≡ of_two first second
in_third true second = refl
in_third false true = refl
in_third false false = refl

in_first : (first second : Bool) → number_by linked.slots 0 (of_two first second) ≡ None
in_first true second = refl
in_first false true = refl
in_first false false = refl

in_second : (first second : Bool) → number_by linked.slots 1 (of_two first second) ≡ None
in_second true second = refl
in_second false true = refl
in_second false false = refl

past_third : (class : ℕ) (first second : Bool) → number_by linked.slots (suc (suc (suc class))) (of_two first second) ≡ None
past_third class true second = above_all ((2, 0) ∷ []) (suc (suc (suc class))) (omega arith, tt)
past_third class false true = above_all ((2, 1) ∷ []) (suc (suc (suc class))) (omega arith, tt)
past_third class false false = refl

abbrev is_on : List ℕ → Bool
is_on name = same_name (codes "on") (canonical name)

abbrev is_amount : List ℕ → Bool
is_amount name = same_name (codes "amount") (canonical name)

pub slots : (class : ℕ) (name : List ℕ) → number_of linked.slots class (canonical name) ≡ slot_of definition class name
slots zero name = in_first (is_on name) (is_amount name)
slots (suc zero) name = in_second (is_on name) (is_amount name)
slots (suc (suc zero)) name = in_third (is_on name) (is_amount name)
slots (suc (suc (suc zero))) name = past_third 0 (is_on name) (is_amount name)
slots (suc (suc (suc (suc class)))) name = past_third (suc class) (is_on name) (is_amount name)

abbrev is_notify : List ℕ → Bool
is_notify name = same_name (codes "notify") (canonical name)

abbrev of_one : Bool → Option ℕ
of_one first = cond first (Some 0) None

notified_0 : (b : Bool) → number_by linked.signals 0 (of_one b) ≡ of_one b
notified_0 true = refl
notified_0 false = refl

notified_1 : (b : Bool) → number_by linked.signals 1 (of_one b) ≡ of_one b
notified_1 true = refl
notified_1 false = refl

notified_2 : (b : Bool) → number_by linked.signals 2 (of_one b) ≡ of_one b
notified_2 true = refl
notified_2 false = refl

notified_3 : (b : Bool) → number_by linked.signals 3 (of_one b) ≡ of_one b
notified_3 true = refl
notified_3 false = refl

past_fourth : (class : ℕ) (b : Bool) → number_by linked.signals (suc (suc (suc (suc class)))) (of_one b) ≡ None
past_fourth class true = above_all ((0, 0) ∷ (1, 0) ∷ (2, 0) ∷ (3, 0) ∷ []) (suc (suc (suc (suc class)))) (omega arith, (omega arith, (omega arith, (omega arith, tt))))
past_fourth class false = refl

pub signals : (class : ℕ) (name : List ℕ) → number_of linked.signals class (canonical name) ≡ signal_number definition class name
signals zero name = notified_0 (is_notify name)
signals (suc zero) name = notified_1 (is_notify name)
signals (suc (suc zero)) name = notified_2 (is_notify name)
signals (suc (suc (suc zero))) name = notified_3 (is_notify name)
signals (suc (suc (suc (suc class)))) name = past_fourth class (is_notify name)

-- ** class handlers

pub handlers : (class number : ℕ) → IfSome (signal_of definition class number) (λ s. handler_at linked.handlers class number ≡ class_handler_of definition class s.name)
handlers zero zero = refl
handlers zero (suc number) = tt
handlers (suc zero) zero = refl
handlers (suc zero) (suc number) = tt
handlers (suc (suc zero)) zero = refl
handlers (suc (suc zero)) (suc number) = tt
handlers (suc (suc (suc zero))) zero = refl
handlers (suc (suc (suc zero))) (suc number) = tt
handlers (suc (suc (suc (suc class)))) number = tt

-- ** instructions

sets_amount : IsProperty definition linked (codes "amount") (Some 1)
sets_amount zero = refl
sets_amount (suc zero) = refl
sets_amount (suc (suc zero)) = refl
sets_amount (suc (suc (suc zero))) = refl
sets_amount (suc (suc (suc (suc class)))) = above_all ((2, 1) ∷ []) (suc (suc (suc (suc class)))) (omega arith, tt)

at : (program block at : ℕ) → IfSome (instruction_at definition program block at) (λ i. IsLink definition linked i (link_at linked.programs program block at))
at zero zero zero = refl
at zero zero (suc zero) = tt
at zero zero (suc (suc n)) = tt
at zero (suc zero) zero = tt
at zero (suc zero) (suc n) = tt
at zero (suc (suc zero)) zero = tt
at zero (suc (suc zero)) (suc zero) = sets_amount
at zero (suc (suc zero)) (suc (suc zero)) = tt
at zero (suc (suc zero)) (suc (suc (suc n))) = tt
at zero (suc (suc (suc block))) n = tt
at (suc zero) zero zero = refl
at (suc zero) zero (suc zero) = tt
at (suc zero) zero (suc (suc n)) = tt
at (suc zero) (suc block) n = tt
at (suc (suc program)) block n = tt

pub met : GatheringLinked
met = record { slots = slots; signals = signals; handlers = handlers; at = at }
