-- What is so of a list that is read one entry after the other.
use Rattle.std.proofs.Common.{ℕ, zero, suc, ◌+◌, List, [], ◌∷◌, Result}
use Rattle.std.specs.Prelude.{IfOk}
use Rattle.serde_json.specs.Data.{Data, Items, no_items, item}
use Rattle.ui_machine.specs.Seq.{listed}
use Rattle.bytecode.specs.Reading.Each as code
use Rattle.definition_format.specs.Document as document
use Rattle.definition_format.specs.Refusals.{Refusal}
use Rattle.law_typing.specs.Verdict.Accepted.{Each}
use Rattle.law_steps.proofs.Served.IfOkProofs.{after_such}

-- what each entry of a document keeps is so of what comes of all
pub entries_keep : {S : Type 0} (P : S → Type 0) (step : ℕ → S → Data → Result S Refusal) → ((i : ℕ) (s : S) (d : Data) → P s → IfOk (step i s d) P)
    → (i : ℕ) (s : S) (ds : Items) → P s → IfOk (document.each step i s ds) P
unfolding document.each
entries_keep P step keeps i s no_items p = p
entries_keep P step keeps i s (item d ds) p = after_such (step i s d) _ P P (keeps i s d p) λ t q. entries_keep P step keeps (i + 1) t ds q

-- and so it is in code
pub code_keeps : {S X E : Type 0} (P : S → Type 0) (step : ℕ → S → X → Result S E) → ((i : ℕ) (s : S) (x : X) → P s → IfOk (step i s x) P)
    → (i : ℕ) (s : S) (xs : List X) → P s → IfOk (code.each step i s xs) P
unfolding code.each
code_keeps P step keeps i s [] p = p
code_keeps P step keeps i s (x ∷ xs) p = after_such (step i s x) _ P P (keeps i s x p) λ t q. code_keeps P step keeps (i + 1) t xs q

pub each_listed : {A : Type 0} (P : A → Type 0) (f : ℕ → A) (n : ℕ) → ((i : ℕ) → P (f i)) → Each P (listed f n)
each_listed P f zero all = tt
each_listed P f (suc n) all = (all 0, each_listed P (λ i. f (suc i)) n (λ i. all (suc i)))
