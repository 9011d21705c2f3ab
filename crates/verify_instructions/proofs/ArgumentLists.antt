-- The arguments of an emission or a call, one after the other.
use Rattle.std.proofs.Common.{◌≡◌, inl, inr, ◌⊎◌, refl, sym, ap, ◌∙◌, ℕ, zero, suc, ◌+◌, ◌<◌, ◌≤◌, true, false, List, [], ◌∷◌, length, map, Option, None, Some, slice_get, slice_index_or, Ok, Err, arith}
use Rattle.std.specs.Prelude.{eqb, ◌≢◌}
use Rattle.std.proofs.lemmas.Bool.Decides.{eqb_tells}
use Rattle.std.proofs.lemmas.Option.{none-some, same_Some, slice_get_within}
use Rattle.g_values.specs.declared.kind.Kind.{Kind as CodeKind}
use Rattle.g_values.specs.View.{kind_view}
use Rattle.bytecode.specs.declared.computations.Register.{Register}
use Rattle.bytecode.specs.View.{number_of}
use Rattle.ui_machine.specs.Definition.{Definition}
use Rattle.ui_machine.specs.Definition.Kinds.{Kind}
use Rattle.ui_machine.specs.Outcome.{◌>>=◌}
use Rattle.law_typing.specs.Rules.Answers.{Rule, Typing}
use Rattle.law_typing.specs.Rules.Answers as rules
use Rattle.law_typing.specs.Rules.RegisterKinds.{Kinds}
use Rattle.law_typing.specs.Rules.Typing.{arguments, fitting, set_in}
use Rattle.verify_instructions.specs.Arguments.{checked}

-- what fails, fails whatever comes after
broken : {A B C : Type 0} (s : Typing A) (x : B) (f : A → Typing C) (r : Rule) → (s >>= λ k. Ok x) ≡ Err r → (s >>= f) ≡ Err r
broken (Ok k) x f r e = absurd (cc)
broken (Err q) x f r e = cc

-- and what passes leads on
led : {A B C : Type 0} (s : Typing A) (x : B) (next : Typing C) → (s >>= λ k. Ok x) ≡ Ok x → (s >>= λ k. next) ≡ next
led (Ok k) x next e = refl
led (Err q) x next e = absurd (cc)

-- the first argument that fails decides
pub breaks : (d : Definition) (ks : Kinds) (args : List ℕ) (params : List Kind) (i a : ℕ) (r : Rule) →
    ((k b : ℕ) → k < i → slice_get args k ≡ Some b → checked d ks b (slice_get params k) ≡ Ok ks) → slice_get args i ≡ Some a →
    checked d ks a (slice_get params i) ≡ Err r → arguments d ks args params ≡ Err r
unfolding arguments
breaks d ks [] params i a r before at fails = absurd (none-some _ at)
breaks d ks (x ∷ xs) [] zero a r before at fails =
    broken (set_in ks x) ks (λ k. arguments d ks xs [] >>= λ rest. Err rules.kind) r
    (ap (λ z. checked d ks z None) (same_Some _ _ at) ∙ fails)
breaks d ks (x ∷ xs) [] (suc i) a r before at fails =
    led (set_in ks x) ks (arguments d ks xs [] >>= λ rest. Err rules.kind) (before 0 x (omega arith) refl)
    ∙ ap (λ (z : Typing Kinds). z >>= λ rest. Err rules.kind)
    (breaks d ks xs [] i a r (λ k b below. before (suc k) b (omega (arith, below))) at fails)
breaks d ks (x ∷ xs) (p ∷ ps) zero a r before at fails =
    broken (fitting d ks x p) ks (λ k. arguments d ks xs ps) r (ap (λ z. checked d ks z (Some p)) (same_Some _ _ at) ∙ fails)
breaks d ks (x ∷ xs) (p ∷ ps) (suc i) a r before at fails =
    led (fitting d ks x p) ks (arguments d ks xs ps) (before 0 x (omega arith) refl)
    ∙ breaks d ks xs ps i a r (λ k b below. before (suc k) b (omega (arith, below))) at fails

-- where all pass and there are as many, the registers stay
pub all_pass : (d : Definition) (ks : Kinds) (args : List ℕ) (params : List Kind) →
    ((k b : ℕ) → slice_get args k ≡ Some b → checked d ks b (slice_get params k) ≡ Ok ks) → length args ≡ length params →
    arguments d ks args params ≡ Ok ks
unfolding arguments
all_pass d ks [] [] each same = refl
all_pass d ks [] (p ∷ ps) each same = absurd (omega (arith, same))
all_pass d ks (x ∷ xs) [] each same = absurd (omega (arith, same))
all_pass d ks (x ∷ xs) (p ∷ ps) each same =
    led (fitting d ks x p) ks (arguments d ks xs ps) (each 0 x refl) ∙ all_pass d ks xs ps (λ k b at. each (suc k) b at) (omega (arith, same))

-- where all pass and there are more or fewer, the count decides
pub other_count : (d : Definition) (ks : Kinds) (args : List ℕ) (params : List Kind) →
    ((k b : ℕ) → slice_get args k ≡ Some b → checked d ks b (slice_get params k) ≡ Ok ks) → (length args ≡ length params → ⊥) →
    arguments d ks args params ≡ Err rules.kind
unfolding arguments
other_count d ks [] [] each other = absurd (other refl)
other_count d ks [] (p ∷ ps) each other = refl
other_count d ks (x ∷ []) [] each other =
    led (set_in ks x) ks (arguments d ks [] [] >>= λ rest. Err rules.kind) (each 0 x refl)
other_count d ks (x ∷ y ∷ more) [] each other =
    led (set_in ks x) ks (arguments d ks (y ∷ more) [] >>= λ rest. Err rules.kind) (each 0 x refl)
    ∙ ap (λ (z : Typing Kinds). z >>= λ rest. Err rules.kind)
    (other_count d ks (y ∷ more) [] (λ k b at. each (suc k) b at) (λ same. absurd (omega (arith, same))))
other_count d ks (x ∷ xs) (p ∷ ps) each other =
    led (fitting d ks x p) ks (arguments d ks xs ps) (each 0 x refl)
    ∙ other_count d ks xs ps (λ k b at. each (suc k) b at) (λ same. other (ap suc same))

-- ** as the code reads them

-- what is read behind the last argument
abbrev pub no_register : Register
no_register = record { 0 = 0 }

-- an argument is read
at_argument : (args : List Register) (i : ℕ) (none : Register) → i < length args → slice_get (map number_of args) i ≡ Some (slice_index_or args i none).0
at_argument [] i none within = absurd (omega (arith, within))
at_argument (x ∷ xs) zero none within = refl
at_argument (x ∷ xs) (suc i) none within = at_argument xs i none (omega (arith, within))

-- those before an argument pass
abbrev pub Pass : Definition → Kinds → List Register → List Kind → ℕ → Type 0
Pass d ks args params i =
    (k a : ℕ) → k < i → slice_get (map number_of args) k ≡ Some a → checked d ks a (slice_get params k) ≡ Ok ks

pub stops : (d : Definition) (ks : Kinds) (args : List Register) (params : List Kind) (i : ℕ) (none : Register) (param : Option Kind) (r : Rule) →
    Pass d ks args params i → i < length args → param ≡ slice_get params i → checked d ks (slice_index_or args i none).0 param ≡ Err r →
    arguments d ks (map number_of args) params ≡ Err r
stops d ks args params i none param r before within is fails =
    breaks d ks (map number_of args) params i (slice_index_or args i none).0 r before (at_argument args i none within)
    (ap (λ p. checked d ks (slice_index_or args i none).0 p) (sym is) ∙ fails)

pub goes_on : (d : Definition) (ks : Kinds) (args : List Register) (params : List Kind) (i : ℕ) (none : Register) (param : Option Kind) →
    Pass d ks args params i → i < length args → param ≡ slice_get params i → checked d ks (slice_index_or args i none).0 param ≡ Ok ks →
    Pass d ks args params (i + 1)
goes_on d ks args params i none param before within is passes k a below at = by (eqb_tells k i)
  where
    by : ((eqb k i ≡ true) × (k ≡ i)) ⊎ ((eqb k i ≡ false) × (k ≢ i)) → checked d ks a (slice_get params k) ≡ Ok ks
    by (inr e) = before k a (omega (arith, below, e.1)) at
    by (inl e) =
        let one = same_Some _ _ (sym (at_argument args i none within) ∙ (ap (λ n. slice_get (map number_of args) n) (sym e.1) ∙ at)) in
        ap (λ n. checked d ks a (slice_get params n)) e.1
        ∙ (ap (λ b. checked d ks b (slice_get params i)) (sym one)
        ∙ (ap (λ p. checked d ks (slice_index_or args i none).0 p) (sym is) ∙ passes))

map_length : {A B : Type 0} → (f : A → B) (xs : List A) → length (map f xs) ≡ length xs
map_length f [] = refl
map_length f (x ∷ xs) = ap suc (map_length f xs)

inside : {A : Type 0} → (xs : List A) (k : ℕ) (x : A) → slice_get xs k ≡ Some x → k < length xs
inside xs k x at = slice_get_within xs k x at

pub ends : (d : Definition) (ks : Kinds) (args : List Register) (params : List CodeKind) (i : ℕ) → Pass d ks args (map kind_view params) i →
    length args ≤ i → length args ≡ length params → arguments d ks (map number_of args) (map kind_view params) ≡ Ok ks
ends d ks args params i before behind same =
    all_pass d ks (map number_of args) (map kind_view params)
    (λ k a at. before k a (omega (arith, inside (map number_of args) k a at, map_length number_of args, behind)) at)
    (map_length number_of args ∙ (same ∙ sym (map_length kind_view params)))

pub ends_badly : (d : Definition) (ks : Kinds) (args : List Register) (params : List CodeKind) (i : ℕ) → Pass d ks args (map kind_view params) i →
    length args ≤ i → (length args ≡ length params → ⊥) → arguments d ks (map number_of args) (map kind_view params) ≡ Err rules.kind
ends_badly d ks args params i before behind other =
    other_count d ks (map number_of args) (map kind_view params)
    (λ k a at. before k a (omega (arith, inside (map number_of args) k a at, map_length number_of args, behind)) at)
    (λ same. other (sym (map_length number_of args) ∙ (same ∙ map_length kind_view params)))
