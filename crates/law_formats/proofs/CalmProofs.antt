-- A register whose bracket is open holds no object of a place with a paired property: it was frozen so, and is not written until its thaw.
use Rattle.std.proofs.Common.{◌≡◌, refl, sym, ap, subst, ◌∙◌, ℕ, Bool, true, false, cond, List, [], ◌∷◌, Option, None, Some, Ok, Err, slice_get}
use Rattle.std.specs.Prelude.{⊤, ◌||◌, nat_eq, is_none}
use Rattle.std.specs.List.{list_any, filter}
use Rattle.std.proofs.lemmas.Bool.{eqb-true, eqb-false, eq-eqb, or_left, or_right}
use Rattle.ui_machine.specs.Seq.{write}
use Rattle.ui_machine.specs.Outcome.{◌>>=◌, known, only_if}
use Rattle.ui_machine.specs.Definition.{Definition}
use Rattle.ui_machine.specs.Definition.Kinds.{Kind, RegisterKind}
use Rattle.ui_machine.specs.Definition.Kinds as kinds
use Rattle.ui_machine.specs.Definition.Programs.{Instruction, Program, Block}
use Rattle.ui_machine.specs.Definition.Programs as words
use Rattle.law_typing.specs.Rules.RegisterKinds.{Kinds, kind_in, places, place_numbers, covers, never_null, kinds_fit}
use Rattle.law_typing.specs.Rules.Answers.{Rule, Typing}
use Rattle.law_typing.specs.Rules.Answers as rules
use Rattle.law_typing.specs.Rules.Brackets.{written, opened, is_among, less_one, keeps, keeps_brackets, has_pair}
use Rattle.law_typing.specs.Rules.Typing as typing
use Rattle.law_typing.specs.Rules.Typing.{typed, after, or_before}
use Rattle.law_typing.specs.Laws.WellRead.{ends}
use Rattle.law_steps.proofs.Kept.WriteProofs.{read_here, read_apart}
use Rattle.law_steps.proofs.Instructed.Written.{not_among}
use Rattle.law_steps.proofs.Tasked.Registers.{Allowed, kind_apart}
use Rattle.law_formats.specs.FirstRules.{freezes_pair}

-- no place of a kind has a paired property
abbrev pub Calm : Definition → RegisterKind → Type 0
Calm d k = list_any (has_pair d) (places d k) ≡ false

-- ** kinds without null

covers_same : (d : Definition) (k : RegisterKind) (place : ℕ) → covers d (never_null k) place ≡ covers d k place
covers_same d kinds.unset place = refl
covers_same d (kinds.plain kinds.bool) place = refl
covers_same d (kinds.plain (kinds.object type)) place = refl
covers_same d (kinds.plain _) place = refl
covers_same d (kinds.some type) place = refl
covers_same d (kinds.at c) place = refl
covers_same d (kinds.at_or_null c) place = refl

pub filter_same : {A : Type 0} (f g : A → Bool) (xs : List A) → ((x : A) → f x ≡ g x) → filter f xs ≡ filter g xs
filter_same f g [] same = refl
filter_same f g (x ∷ xs) same =
    ap (λ b. cond b (x ∷ filter f xs) (filter f xs)) (same x) ∙ ap (λ ys. cond (g x) (x ∷ ys) ys) (filter_same f g xs same)

calm_never_null : (d : Definition) (k : RegisterKind) → Calm d k → Calm d (never_null k)
calm_never_null d k calm =
    ap (list_any (has_pair d)) (filter_same (covers d (never_null k)) (covers d k) (place_numbers d) (covers_same d k)) ∙ calm

-- ** instructions that end a block

abbrev Keeps : (Kinds → Type 0) → Typing Kinds → Type 0
Keeps P (Ok ks) = P ks
Keeps P (Err rule) = ⊤

bound_keeps : {A : Type 0} (P : Kinds → Type 0) (m : Typing A) (f : A → Typing Kinds) → ((x : A) → Keeps P (f x)) → Keeps P (m >>= f)
bound_keeps P (Ok x) f h = h x
bound_keeps P (Err rule) f h = tt

tested_keeps : (P : Kinds → Type 0) (b : Bool) (rule : Rule) (m : Typing Kinds) → Keeps P m → Keeps P (only_if b rule m)
tested_keeps P true rule m h = h
tested_keeps P false rule m h = tt

after_keeps : (P : Kinds → Type 0) (ks : Kinds) (m : Typing Kinds) → P ks → Keeps P m → P (or_before ks m)
after_keeps P ks (Ok next) same h = h
after_keeps P ks (Err rule) same h = same

module _ (d : Definition) (p : Program) (ks : Kinds) (P : Kinds → Type 0) (same : P ks) where
  entering_keeps : (next : Kinds) (to : ℕ) → P next → Keeps P (typing.entering d p next to)
  unfolding typing.entering
  entering_keeps next to h =
      bound_keeps P (known rules.block (slice_get p.blocks to)) _ (λ b. tested_keeps P (kinds_fit d next b.entry) rules.block _ h)

  branching_keeps : (on then_to else_to : ℕ) → Keeps P (typing.branching d p ks on then_to else_to)
  unfolding typing.branching
  branching_keeps on then_to else_to =
      bound_keeps P (typing.passing ks on typing.is_bool) _
      (λ k. bound_keeps P (typing.entering d p ks then_to) _ (λ entered. entering_keeps ks else_to same))

  -- a register that is read has its kind
  passing_keeps : (on : ℕ) (test : RegisterKind → Bool) (f : RegisterKind → Typing Kinds) → Keeps P (f (kind_in ks on)) → Keeps P (typing.passing ks on test >>= f)
  unfolding typing.passing
  passing_keeps on test f h = go (kind_in ks on) h
    where
      tested : (k : RegisterKind) (b : Bool) → Keeps P (f k) → Keeps P (only_if b rules.kind (Ok k) >>= f)
      tested k true h = h
      tested k false h = tt

      go : (k : RegisterKind) → Keeps P (f k) → Keeps P ((typing.unless_unset k >>= λ k. only_if (test k) rules.kind (Ok k)) >>= f)
      go kinds.unset h = tt
      go (kinds.plain kind) h = tested (kinds.plain kind) (test (kinds.plain kind)) h
      go (kinds.some type) h = tested (kinds.some type) (test (kinds.some type)) h
      go (kinds.at place) h = tested (kinds.at place) (test (kinds.at place)) h
      go (kinds.at_or_null place) h = tested (kinds.at_or_null place) (test (kinds.at_or_null place)) h

  branching_null_keeps : (on then_to else_to : ℕ) → P (write kinds.unset ks on (never_null (kind_in ks on))) → Keeps P (typing.branching_null d p ks on then_to else_to)
  unfolding typing.branching_null
  branching_null_keeps on then_to else_to h =
      passing_keeps on (typing.may_be_null d) _
      (bound_keeps P (typing.entering d p ks then_to) _ (λ entered. entering_keeps (write kinds.unset ks on (never_null (kind_in ks on))) else_to h))

  returning_keeps : (from : Option ℕ) → Keeps P (typing.returning d p ks from)
  unfolding typing.returning
  returning_keeps None = tested_keeps P (is_none p.result) rules.result _ same
  returning_keeps (Some from) =
      bound_keeps P (typing.set_in ks from) _ (λ k. tested_keeps P (typing.is_result d k p.result) rules.result _ same)

-- ** a register that is not written

module _ (d : Definition) (p : Program) (ks : Kinds) (r : ℕ) (calm : Calm d (kind_in ks r)) where
  narrowed : (on : ℕ) → Calm d (kind_in (write kinds.unset ks on (never_null (kind_in ks on))) r)
  narrowed on = go (nat_eq on r) refl
    where
      next : Kinds
      next = write kinds.unset ks on (never_null (kind_in ks on))

      go : (b : Bool) → nat_eq on r ≡ b → Calm d (kind_in next r)
      go true e =
          let is : on ≡ r = eqb-true on r e in
          let here : kind_in next r ≡ never_null (kind_in ks r) =
          ap (kind_in next) (sym is) ∙ (read_here kinds.unset ks on (never_null (kind_in ks on)) ∙ ap (λ r. never_null (kind_in ks r)) is) in
          subst (Calm d) (sym here) (calm_never_null d (kind_in ks r) calm)
      go false e = subst (Calm d) (sym (read_apart kinds.unset ks on (never_null (kind_in ks on)) r (eqb-false on r e))) calm

  plain_stays : (i : Instruction) → ends i ≡ false → Allowed (λ to. to ≡ r → ⊥) (written i) → Calm d (kind_in (after d p ks i) r)
  plain_stays i more apart = subst (Calm d) (sym (kind_apart d p ks i r more apart)) calm

  abbrev Next : Kinds → Type 0
  Next next = Calm d (kind_in next r)

  pub calm_stays : (i : Instruction) → Allowed (λ to. to ≡ r → ⊥) (written i) → Calm d (kind_in (after d p ks i) r)
  calm_stays (words.jump to) apart = after_keeps Next ks (typing.entering d p ks to) calm (entering_keeps d p ks Next calm ks to calm)
  calm_stays (words.branch on then_to else_to) apart =
      after_keeps Next ks (typing.branching d p ks on then_to else_to) calm (branching_keeps d p ks Next calm on then_to else_to)
  calm_stays (words.branch_null on then_to else_to) apart =
      after_keeps Next ks (typing.branching_null d p ks on then_to else_to) calm (branching_null_keeps d p ks Next calm on then_to else_to (narrowed on))
  calm_stays (words.return from) apart = after_keeps Next ks (typing.returning d p ks from) calm (returning_keeps d p ks Next calm from)
  calm_stays i apart = plain_stays i refl apart

-- ** open brackets

less_among : (x r : ℕ) (xs : List ℕ) → nat_eq r x ≡ false → is_among xs r ≡ true → is_among (less_one x xs) r ≡ true
less_among x r [] apart e = e
less_among x r (y ∷ ys) apart e = go (nat_eq y x) (nat_eq r y) refl refl e (less_among x r ys apart)
  where
    go : (a b : Bool) → nat_eq y x ≡ a → nat_eq r y ≡ b → (b || is_among ys r) ≡ true → (is_among ys r ≡ true → is_among (less_one x ys) r ≡ true) →
        is_among (cond a ys (y ∷ less_one x ys)) r ≡ true
    go true true f h e later = absurd (let s = eqb-true y x f in let t = eqb-true r y h in let u = eq-eqb r x (t ∙ s) in cc)
    go true false f h e later = e
    go false true f h e later = or_left (nat_eq r y) (is_among (less_one x ys) r) h
    go false false f h e later = or_right (nat_eq r y) (is_among (less_one x ys) r) (later e)

allowed_apart : (xs : List ℕ) (o : Option ℕ) (r : ℕ) → keeps xs o ≡ true → is_among xs r ≡ true → Allowed (λ to. to ≡ r → ⊥) o
allowed_apart xs None r kept among = tt
allowed_apart xs (Some to) r kept among = not_among xs to r kept among

-- each register whose bracket is open in front of some code is calm
abbrev pub OpenCalm : Definition → Kinds → List Instruction → Type 0
OpenCalm d ks code = (r : ℕ) → is_among (opened code) r ≡ true → Calm d (kind_in ks r)

-- so it is after an instruction
pub open_next : (d : Definition) (p : Program) (ks : Kinds) (i : Instruction) (rest : List Instruction) → keeps_brackets (opened rest) i ≡ true → freezes_pair d ks i ≡ false →
    OpenCalm d ks (i ∷ rest) → OpenCalm d (after d p ks i) rest
open_next d p ks (words.thaw x) rest kept frozen calm r among = calm_stays d p ks r (calm r (or_right (nat_eq r x) (is_among (opened rest) r) among)) (words.thaw x) tt
open_next d p ks (words.freeze x) rest kept frozen calm r among = calm_stays d p ks r (go (nat_eq r x) refl) (words.freeze x) tt
  where
    go : (b : Bool) → nat_eq r x ≡ b → Calm d (kind_in ks r)
    go true e = subst (λ x. Calm d (kind_in ks x)) (sym (eqb-true r x e)) frozen
    go false e = calm r (less_among x r (opened rest) e among)
open_next d p ks i rest kept frozen calm r among = calm_stays d p ks r (calm r among) i (allowed_apart (opened rest) (written i) r kept among)
