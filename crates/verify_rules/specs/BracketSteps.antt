-- What instructions do to brackets, and how often the bracket of each register is open.
use Rattle.std.specs.Prelude.{◌≡◌, ◌<◌, ◌^◌, ℕ, suc, Bool, true, cond, nat_eq, List, [], ◌∷◌, Option, option_map}
use Rattle.ui_machine.specs.Seq.{read}
use Rattle.ui_machine.specs.Definition.Programs.{Instruction}
use Rattle.ui_machine.specs.Definition.Programs as words
use Rattle.bytecode.specs.View.{number_of}
use Rattle.law_typing.specs.Rules.Brackets.{is_among, keeps, less_one, written}
use Rattle.verify_rules.specs.declared.open_brackets.BracketStep.{BracketStep}
use Rattle.verify_rules.specs.declared.open_brackets.BracketStep.TheVariants as steps

-- an instruction opens a bracket, closes one, or writes a register, if it writes one
pub data Step : Type 0 where
  freezes : ℕ → Step
  thaws : ℕ → Step
  writes : Option ℕ → Step

-- what an instruction does
abbrev pub step_of : Instruction → Step
step_of (words.freeze r) = freezes r
step_of (words.thaw r) = thaws r
step_of i = writes (written i)

abbrev pub step_view : BracketStep → Step
step_view (steps.Freeze r) = freezes r.0
step_view (steps.Thaw r) = thaws r.0
step_view (steps.Write r) = writes (option_map number_of r)

-- whether it may be done where the brackets of these registers are open after it
abbrev pub is_kept : List ℕ → Step → Bool
is_kept after (freezes r) = is_among after r
is_kept after (thaws r) = true
is_kept after (writes r) = keeps after r

-- the registers whose brackets are open before it
abbrev pub opened_by : List ℕ → Step → List ℕ
opened_by after (freezes r) = less_one r after
opened_by after (thaws r) = r ∷ after
opened_by after (writes r) = after

-- ** counts

-- how often a register is among some
abbrev pub times : ℕ → List ℕ → ℕ
times r [] = 0
times r (x ∷ xs) = cond (nat_eq x r) (suc (times r xs)) (times r xs)

-- each register is counted as often as it is among these
abbrev pub Counts : List ℕ → List ℕ → Type 0
Counts counts registers = (r : ℕ) → read 0 counts r ≡ times r registers

-- no count is so high that one more is too many
abbrev pub AreFew : List ℕ → Type 0
AreFew counts = (r : ℕ) → read 0 counts r < 2 ^ 63

-- whether a step may be done, by counts of the open brackets after it; and if it may, counts of those before it
abbrev pub Goes : Bool → List ℕ → List ℕ → Step → Type 0
Goes kept before after step =
    (registers : List ℕ) → Counts after registers →
    (kept ≡ is_kept registers step) × (kept ≡ true → Counts before (opened_by registers step))
