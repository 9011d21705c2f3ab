-- The bindings of a definition that was read: each is between two objects of the document.
use Rattle.std.proofs.Common.{◌≡◌, ℕ, ◌<◌, Bool, true, false, nat_lt, List, length, codes, Option, None, Some, option_and_then, refl, arith}
use Rattle.std.proofs.lemmas.Bool.Decides.{nat_tests}
use Rattle.std.specs.Prelude.{if◌then◌else◌}
use Rattle.serde_json.specs.Data.{Data}
use Rattle.serde_json.specs.Find.{get, as_str}
use Rattle.ui_machine.specs.Definition.Places.{Bind}
use Rattle.definition_format.specs.Refusals.{unknown, or_refused}
use Rattle.definition_format.specs.Document.{under, members_at, only_at}
use Rattle.definition_format.specs.Denoted.Attached.{name_of}
use Rattle.definition_format.specs.Denoted.Binds.{Target, bind_at, bind_flags_at, bind_name_or, keys_of_bind, slot_if_class, source_at, source_name_or}
use Rattle.definition_format.specs.Denoted.Entries.{ObjectNames, at_most, number_from}
use Rattle.definition_format.specs.Denoted.Given.{Property, class_ahead}
use Rattle.definition_format.proofs.Soundness.{OnRead, on_all, on_bind}
use Rattle.law_reading.proofs.AttachedProofs.{IsEntry}
use Rattle.law_reading.proofs.GivenProofs.{number_within}

-- both ends of a binding are objects of the document
pub record IsBetween (objects : ObjectNames) (b : Bind) : Type 0 where
  pub source : IsEntry objects b.source
  pub target : IsEntry objects b.target

-- a number that is small is not cut
pub small_is : (n : ℕ) → n < 512 → n ≡ at_most 512 n
small_is n h = by (nat_lt n 512) refl
  where
    by : (b : Bool) → nat_lt n 512 ≡ b → n ≡ (if b then n else 512)
    by true e = refl
    by false e = absurd (grind (arith, nat_tests))

source_there : (path : List ℕ) (objects : ObjectNames) (d : Data) → OnRead (λ n. n < length objects.ids) (source_at path objects d)
unfolding source_at
source_there path objects d =
    on_bind (λ u. Unit {0}) (λ n. n < length objects.ids) (name_of (under path (codes "source")) (option_and_then as_str (get (codes "source") d))) _ (on_all _)
    λ id u. by id (number_from 0 objects.ids id) refl
  where
    by : (id : List ℕ) (o : Option ℕ) → number_from 0 objects.ids id ≡ o
        → OnRead (λ n. n < length objects.ids) (or_refused (unknown (under path (codes "source")) id) o)
    by id None e = tt
    by id (Some n) e = let within = number_within 0 objects.ids id n e in omega (arith, within)

module _ (target : Target) (small : target.place < 512) (there : target.place < length target.objects.ids) where
  pub bind_read : (path : List ℕ) (property : Property) (at : ℕ) (bindings : List Bind) (d : Data)
      → OnRead (IsBetween target.objects) (bind_at path target property at bindings d)
  unfolding bind_at
  bind_read path property at bindings d =
      on_bind (λ u. Unit {0}) (IsBetween target.objects) (members_at path d) _ (on_all _) λ ms u.
      on_bind (λ n. n < length target.objects.ids) (IsBetween target.objects) (source_at path target.objects d) _ (source_there path target.objects d) λ source within.
      on_bind (λ u. Unit {0}) (IsBetween target.objects) (source_name_or (under path (codes "property")) property.spec.name (get (codes "property") d)) _ (on_all _) λ called u.
      on_bind (λ u. Unit {0}) (IsBetween target.objects) (slot_if_class (under path (codes "property")) target.specs (class_ahead target.types target.objects source) called) _ (on_all _)
      λ slot u.
      on_bind (λ u. Unit {0}) (IsBetween target.objects) (bind_flags_at path d) _ (on_all _) λ flags u.
      on_bind (λ u. Unit {0}) (IsBetween target.objects) (bind_name_or (under path (codes "name")) bindings (get (codes "name") d)) _ (on_all _) λ name u.
      on_bind (λ u. Unit {0}) (IsBetween target.objects) (only_at path ms keys_of_bind) _ (on_all _) λ only u.
      record {
        source = record { place = source; number = refl; there = within };
        target = record { place = target.place; number = small_is target.place small; there = there };
      }
