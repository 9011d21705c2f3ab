-- A block that is read from its end.
use Rattle.std.proofs.Common.{Bool, true, false, ◌≡◌, refl, sym, ap, ◌∙◌, subst, ℕ, zero, suc, ◌<◌, ◌≤◌, ◌^◌, List, [], ◌∷◌, length, drop, cond, nat_eq, arith}
use Rattle.std.specs.Prelude.{◌&&◌}
use Rattle.ui_machine.specs.Definition.Programs.{Instruction}
use Rattle.law_typing.specs.Rules.Brackets.{is_balanced, is_bracketed, is_empty, keeps_brackets, less_one, opened}
use Rattle.verify_rules.specs.BracketSteps.{AreFew, Counts, Goes, Step, freezes, opened_by, step_of, thaws, writes}
use Rattle.verify_rules.proofs.InstructionSteps.{kept_by, opened_before}
use Rattle.verify_rules.proofs.OpenBrackets.{times_within}

-- what is known behind an instruction
pub record IsRead (counts : List ℕ) (code : List Instruction) : Type 0 where
  pub counted : Counts counts (opened code)
  pub kept : is_bracketed code ≡ true

-- ** how many are open

less_within : (r : ℕ) (xs : List ℕ) → length (less_one r xs) ≤ length xs
less_within r [] = omega arith
less_within r (x ∷ xs) = by (nat_eq x r) (less_within r xs)
  where
    by : (b : Bool) → length (less_one r xs) ≤ length xs → length (cond b xs (x ∷ less_one r xs)) ≤ suc (length xs)
    by true later = omega arith
    by false later = omega (arith, later)

one_more : (xs : List ℕ) (s : Step) → length (opened_by xs s) ≤ suc (length xs)
one_more xs (freezes r) = omega (arith, less_within r xs)
one_more xs (thaws r) = omega arith
one_more xs (writes r) = omega arith

opened_within : (code : List Instruction) → length (opened code) ≤ length code
opened_within [] = omega arith
opened_within (i ∷ rest) =
    let e : length (opened (i ∷ rest)) ≡ length (opened_by (opened rest) (step_of i)) = ap length (opened_before i rest) in
    omega (arith, e, one_more (opened rest) (step_of i), opened_within rest)

rest_within : {A : Type 0} → (n : ℕ) (xs : List A) → length (drop n xs) ≤ length xs
rest_within zero xs = omega arith
rest_within (suc n) [] = omega arith
rest_within (suc n) (x ∷ xs) = omega (arith, rest_within n xs)

pub few : (counts : List ℕ) (n : ℕ) (code : List Instruction) → IsRead counts (drop n code) → length code < 2 ^ 63 → AreFew counts
few counts n code known short r =
    let e = known.counted r in
    omega (arith, e, times_within r (opened (drop n code)), opened_within (drop n code), rest_within n code, short)

-- ** one instruction after the other

-- behind the last one
pub at_end : (code : List Instruction) → drop (length code) code ≡ []
at_end [] = refl
at_end (i ∷ rest) = at_end rest

pub nothing_read : IsRead [] []
nothing_read = record { counted = λ r. refl; kept = refl }

unkept : (n : ℕ) (code : List Instruction) → is_bracketed (drop n code) ≡ false → is_bracketed code ≡ false
unkept zero code fails = fails
unkept (suc n) [] fails = fails
unkept (suc n) (i ∷ rest) fails = by (keeps_brackets (opened rest) i) (unkept n rest fails)
  where
    by : (b : Bool) → is_bracketed rest ≡ false → (b && is_bracketed rest) ≡ false
    by true later = later
    by false later = refl

-- one that does not keep the brackets is enough
pub stops : (before after : List ℕ) (n : ℕ) (code rest : List Instruction) (i : Instruction) → drop n code ≡ i ∷ rest → IsRead after rest →
    Goes false before after (step_of i) → is_balanced code ≡ false
stops before after n code rest i begins known goes =
    ap (λ b. b && is_empty (opened code)) (unkept n code
    (ap is_bracketed begins ∙ ap (λ b. b && is_bracketed rest) (kept_by (opened rest) i ∙ sym (goes (opened rest) known.counted).0)))

-- where it does, the one before is next
pub goes_on : (before after : List ℕ) (rest : List Instruction) (i : Instruction) → IsRead after rest → Goes true before after (step_of i) →
    IsRead before (i ∷ rest)
goes_on before after rest i known goes = record {
  counted = subst (λ registers. Counts before registers) (sym (opened_before i rest)) ((goes (opened rest) known.counted).1 refl);
  kept = ap (λ b. b && is_bracketed rest) (kept_by (opened rest) i ∙ sym (goes (opened rest) known.counted).0) ∙ known.kept;
}

-- at the beginning none may be open
pub ends : (counts : List ℕ) (code : List Instruction) (b : Bool) → IsRead counts code →
    ((registers : List ℕ) → Counts counts registers → b ≡ is_empty registers) → b ≡ is_balanced code
ends counts code b known closed =
    closed (opened code) known.counted ∙ sym (ap (λ c. c && is_empty (opened code)) known.kept)
