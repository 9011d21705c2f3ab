-- Steps that ask no peer.
use Rattle.std.proofs.Common.{◌≡◌, refl, ℕ, zero, suc, Bool, true, false, List, [], ◌∷◌, ◌++◌, Option, None, Some, Ok, Err}
use Rattle.std.specs.Prelude.{◌&&◌, is_none, map}
use Rattle.std.proofs.lemmas.Bool.{and_parts}
use Rattle.ui_machine.specs.Definition.{Definition}
use Rattle.ui_machine.specs.State.Config.{Config}
use Rattle.ui_machine.specs.State.Peers.{Question, Reply}
use Rattle.ui_machine.specs.Outcome.{Answer, ◌>>=◌}
use Rattle.ui_machine.specs.Steps.{step, question}
use Rattle.ui_machine.specs.Runs.{Fits, Steps}
use Rattle.law_typing.specs.Verdict.Accepted.{Each}
use Rattle.law_typing.specs.Laws.MidRun.{after}
use Rattle.machine_rows.specs.PlayLaw.{script_of}

-- the answer is none of an arm, and passes a test
abbrev pub passes : {A : Type 0} → (A → Bool) → Answer A → Bool
passes test (Ok x) = test x
passes test (Err arm) = false

-- none of so many steps asks a peer or is stuck
abbrev pub is_silent : ℕ → Definition → Config → Bool
is_silent zero d c = true
is_silent (suc n) d c = is_none (question d c) && passes (λ e. is_silent n d e) (step d None c)

asks_none : (q : Option Question) → is_none q ≡ true → q ≡ None
asks_none None e = refl
asks_none (Some q) e = absurd (cc)

-- they are steps of a dispatch in which no peer replies
pub steps_of : (n : ℕ) (d : Definition) (c e : Config) → is_silent n d c ≡ true → after n d c ≡ Ok e → Steps d n [] c e
steps_of zero d c e silent leads = (refl, (cc))
steps_of (suc n) d c e silent leads =
    let parts = and_parts _ _ silent in
    go (λ m quiet more. steps_of n d m e quiet more) (asks_none (question d c) parts.0) (step d None c) refl parts.1 leads
  where
    go : ((m : Config) → is_silent n d m ≡ true → after n d m ≡ Ok e → Steps d n [] m e) → question d c ≡ None →
        (x : Answer Config) → step d None c ≡ x → passes (λ m. is_silent n d m) x ≡ true → (x >>= (λ m. after n d m)) ≡ Ok e →
        Steps d (suc n) [] c e
    go on asks (Ok m) is silent leads = record {
      reply = None;
      later = [];
      mid = m;
      replied = refl;
      step = record { asks = asks; leads = is };
      follows = on m silent leads;
    }
    go on asks (Err arm) is silent leads = absurd (cc)

-- a run that is played without a script has no replies
pub none_replied : (d : Definition) (replies : List Reply) → map script_of replies ++ [] ≡ [] → Each (Fits d) replies
none_replied d [] e = tt
none_replied d (r ∷ rs) e = absurd (cc)
