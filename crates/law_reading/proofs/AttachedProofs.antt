-- The signals of objects of a definition that was read: the data of each is an object of the document.
use Rattle.std.proofs.Common.{◌≡◌, ℕ, ◌<◌, List, [], ◌∷◌, length, codes, Option, None, Some, sym, arith}
use Rattle.serde_json.specs.Data.{Data}
use Rattle.serde_json.specs.Find.{get, as_str}
use Rattle.ui_machine.specs.Definition.Places.{Attached}
use Rattle.ui_machine.specs.Definition.Programs.{Program}
use Rattle.definition_format.specs.Refusals.{unknown, or_refused}
use Rattle.definition_format.specs.Document.{at_entry, entries_at, members_at, nth, only_at, text_at, truth_at, under}
use Rattle.definition_format.specs.Denoted.Attached.{all_attached, attached_at, attached_in, data_or, detail_or, keys_of_attached, name_of, program_under, some_data, truth_if}
use Rattle.definition_format.specs.Denoted.Entries.{ObjectNames, at_most, number_from}
use Rattle.definition_format.proofs.Soundness.{OnRead, on_all, on_bind, on_each}
use Rattle.law_typing.specs.Verdict.Accepted.{Each}
use Rattle.law_typing.proofs.Lists.{each_append}
use Rattle.law_reading.proofs.GivenProofs.{number_within}
use Rattle.law_reading.proofs.Parts.{on_read, taken}

-- what the data of a signal denotes, if it has one: the number of an object's entry
pub record IsEntry (objects : ObjectNames) (to : ℕ) : Type 0 where
  pub place : ℕ
  pub number : to ≡ at_most 512 place
  pub there : place < length objects.ids

-- the data of a signal is an object of the document, if it has data
pub record HasData (objects : ObjectNames) (a : Attached) : Type 0 where
  pub entry : (to : ℕ) → a.with ≡ Some to → IsEntry objects to

module _ (programs : List Program) (objects : ObjectNames) where
  abbrev IsData : Option ℕ → Type 0
  IsData with = (to : ℕ) → with ≡ Some to → IsEntry objects to

  data_read : (path : List ℕ) (d : Data) → OnRead IsData (some_data path objects d)
  unfolding some_data
  data_read path d =
      on_bind (λ u. Unit {0}) IsData (name_of path (as_str d)) _ (on_all _) λ id u.
      on_read IsData (or_refused (unknown path id) (number_from 0 objects.ids id)) _ λ place e.
      λ to same. record {
        place = place;
        number = let is : at_most 512 place ≡ to = cc in sym is;
        there = let within = number_within 0 objects.ids id place (taken (unknown path id) (number_from 0 objects.ids id) place e) in omega (arith, within);
      }

  data_if : (path : List ℕ) (given : Option Data) → OnRead IsData (data_or path objects given)
  data_if path None = λ to e. absurd (cc)
  data_if path (Some d) = data_read path d

  one_read : (path : List ℕ) (d : Data) → OnRead (HasData objects) (attached_in path programs objects d)
  unfolding attached_in
  one_read path d =
      on_bind (λ u. Unit {0}) (HasData objects) (members_at path d) _ (on_all _) λ ms u.
      on_bind (λ u. Unit {0}) (HasData objects) (text_at path d (codes "name")) _ (on_all _) λ signal u.
      on_bind (λ u. Unit {0}) (HasData objects) (program_under path programs (codes "handler") d) _ (on_all _) λ program u.
      on_bind (λ u. Unit {0}) (HasData objects) (detail_or (under path (codes "detail")) (get (codes "detail") d)) _ (on_all _) λ detail u.
      on_bind (λ u. Unit {0}) (HasData objects) (truth_at path d (codes "after")) _ (on_all _) λ after u.
      on_bind (λ u. Unit {0}) (HasData objects) (truth_if (under path (codes "swapped")) (get (codes "swapped") d)) _ (on_all _) λ swapped u.
      on_bind IsData (HasData objects) (data_or (under path (codes "object")) objects (get (codes "object") d)) _
      (data_if (under path (codes "object")) (get (codes "object") d)) λ with is.
      on_bind (λ u. Unit {0}) (HasData objects) (only_at path ms keys_of_attached) _ (on_all _) λ only u.
      record { entry = is }

  abbrev Have : List Attached → Type 0
  Have signals = Each (HasData objects) signals

  one_more : (path : List ℕ) (signals : List Attached) (d : Data) → Have signals → OnRead Have (attached_at path programs objects signals d)
  unfolding attached_at
  one_more path signals d old =
      on_bind (HasData objects) Have (attached_in path programs objects d) _ (one_read path d) λ a has.
      each_append (HasData objects) signals (a ∷ []) old (has, tt)

  -- the data of all signals of an object
  pub attached_read : (path : List ℕ) (d : Data) → OnRead (Each (HasData objects)) (all_attached path programs objects d)
  unfolding all_attached
  attached_read path d =
      on_bind (λ u. Unit {0}) Have (entries_at path d (codes "signals")) _ (on_all _) λ list u.
      on_each Have (at_entry (λ entry. attached_at entry programs objects) (under path (codes "signals")))
      (λ i signals d old. one_more (nth (under path (codes "signals")) i) signals d old) 0 [] list tt
