-- Entries that are read into a draft, which has more than what the format gives of them.
use Rattle.std.proofs.Common.{◌≡◌, ◌∙◌, ℕ, ◌+◌, List, Result, Ok, Err, refl, sym, ap}
use Rattle.serde_json.specs.Data.{Data, Items, no_items, item}
use Rattle.ui_machine.specs.Outcome.{◌>>=◌}
use Rattle.definition_format.specs.declared.faults.ReadError.{ReadError}
use Rattle.definition_format.specs.declared.faults.ReadError.TheVariants as errors
use Rattle.definition_format.specs.Refusals.{Refusal, Fails, Leads, refusal}
use Rattle.definition_format.specs.Document.{nth, each, at_entry}
use Rattle.read_types.specs.Drafted.{drafted}

-- a part of a reading that is the same, and what follows it
pub through : {A S T : Type 0} (draft : S → T) (r : Result A Refusal) (f : A → Result T Refusal) (g : A → Result S Refusal)
    → ((x : A) → f x ≡ drafted draft (g x)) → (r >>= f) ≡ drafted draft (r >>= g)
through draft (Ok x) f g h = h x
through draft (Err e) f g h = refl

module _ {S T : Type 0} (draft : S → T) (part : List ℕ → T → Data → Result T Refusal) (step : List ℕ → S → Data → Result S Refusal)
    (agree : (path : List ℕ) (s : S) (d : Data) → part path (draft s) d ≡ drafted draft (step path s d)) where
  pub each_drafted : (base : List ℕ) (i : ℕ) (s : S) (ds : Items) → each (at_entry part base) i (draft s) ds ≡ drafted draft (each (at_entry step base) i s ds)
  unfolding each
  each_drafted base i s no_items = refl
  each_drafted base i s (item d ds) =
      ap (λ r. r >>= λ t. each (at_entry part base) (i + 1) t ds) (agree (nth base i) s d) ∙ next (step (nth base i) s d) (λ more. each_drafted base (i + 1) more ds)
    where
      next : (r : Result S Refusal) → ((more : S) → each (at_entry part base) (i + 1) (draft more) ds ≡ drafted draft (each (at_entry step base) (i + 1) more ds))
          → (drafted draft r >>= λ t. each (at_entry part base) (i + 1) t ds) ≡ drafted draft (r >>= λ more. each (at_entry step base) (i + 1) more ds)
      next (Ok more) later = later more
      next (Err e) later = refl

-- what a draft was read from
pub read_from : {S T : Type 0} (draft : S → T) (of : T → S) → ((s : S) → of (draft s) ≡ s) → (r : Result S Refusal) (t : T) → drafted draft r ≡ Ok t → r ≡ Ok (of t)
read_from draft of back (Ok s) t h = let same : draft s ≡ t = cc h in ap (λ x. Ok x) (sym (back s) ∙ ap of same)
read_from draft of back (Err e) t h = absurd (cc h)

refused_from : {S T : Type 0} (draft : S → T) (r : Result S Refusal) (x : Refusal) → drafted draft r ≡ Err x → r ≡ Err x
refused_from draft (Ok s) x h = absurd (cc h)
refused_from draft (Err y) x h = let same : y ≡ x = cc h in ap (λ (e : Refusal). Err e) same

pub fails_from : {S T : Type 0} (draft : S → T) (e : ReadError) (r : Result S Refusal) → Fails e (drafted draft r) → Fails e r
fails_from draft errors.OutOfMemory r h = tt
fails_from draft (errors.Refused x) r h = refused_from draft r (refusal x) h

pub leads_from : {S T : Type 0} (draft : S → T) (of : T → S) → ((s : S) → of (draft s) ≡ s) → (r : Result (Unit {0}) ReadError) (read : Result S Refusal) (t : T)
    → Leads r (drafted draft read) t → Leads r read (of t)
leads_from draft of back (Ok u) read t h = read_from draft of back read t h
leads_from draft of back (Err e) read t h = fails_from draft e read h

pub was_read : {S T : Type 0} (draft : S → T) (r : Result S Refusal) (t : T) → drafted draft r ≡ Ok t → (s : S) × (r ≡ Ok s) × (draft s ≡ t)
was_read draft (Ok s) t h = let same : draft s ≡ t = cc h in (s, refl, same)
was_read draft (Err e) t h = absurd (cc h)
