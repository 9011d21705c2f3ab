-- An object with its children behind it, part by part.
use Rattle.std.proofs.Common.{◌≡◌, ℕ, suc, List, length, codes, Option, Some, Result, Ok, sym, ap, ◌∙◌}
use Rattle.serde_json.specs.Data.{Data, Items, Members}
use Rattle.ui_machine.specs.Outcome.{◌>>=◌}
use Rattle.definition_format.specs.declared.faults.ReadError.{ReadError}
use Rattle.definition_format.specs.Refusals.{Refusal, Fails}
use Rattle.definition_format.specs.Document.{under, members_at, entries_at, only_at, each, at_entry}
use Rattle.definition_format.specs.Denoted.Objects.{Built, Scope, keys_of_object, added_at, object_at}
use Rattle.read_parts.proofs.Chains.{fails_first, fails_as}

module _ (levels k : ℕ) (level : levels ≡ suc k) (scope : Scope) (parent here : Option ℕ) (path base : List ℕ) (built : Built) (d : Data)
    (ms : Members) (more : Built) (list : Items) (place : here ≡ Some (length built.places)) (based : base ≡ under path (codes "children"))
    (members : members_at path d ≡ Ok ms) (added : added_at path scope parent built d ≡ Ok more) (entries : entries_at path d (codes "children") ≡ Ok list) where
  abbrev children : Option ℕ → List ℕ → Result Built Refusal
  children n path = each (at_entry (object_at k scope n) path) 0 more list

  ended : Built → Result Built Refusal
  ended all = only_at path ms keys_of_object >>= λ o. Ok all

  opened : object_at levels scope parent path built d ≡ (children here base >>= ended)
  unfolding object_at ended
  opened =
      ap (λ l. object_at l scope parent path built d) level
      ∙ ap (λ (r : Result Members Refusal). r >>= λ ms. added_at path scope parent built d >>= λ more. entries_at path d (codes "children") >>= λ list.
      each (at_entry (object_at k scope (Some (length built.places))) (under path (codes "children"))) 0 more list >>= λ all. only_at path ms keys_of_object >>= λ o. Ok all) members
      ∙ ap (λ (r : Result Built Refusal). r >>= λ more. entries_at path d (codes "children") >>= λ list.
      each (at_entry (object_at k scope (Some (length built.places))) (under path (codes "children"))) 0 more list >>= ended) added
      ∙ ap (λ (r : Result Items Refusal). r >>= λ list. each (at_entry (object_at k scope (Some (length built.places))) (under path (codes "children"))) 0 more list >>= ended) entries
      ∙ ap (λ n. children n (under path (codes "children")) >>= ended) (sym place)
      ∙ ap (λ b. children here b >>= ended) (sym based)

  pub children_fail : (e : ReadError) → Fails e (children here base) → Fails e (object_at levels scope parent path built d)
  children_fail e h = fails_as e _ _ opened (fails_first e (children here base) ended h)

  pub other_member : (all : Built) (e : ReadError) → children here base ≡ Ok all → Fails e (only_at path ms keys_of_object)
      → Fails e (object_at levels scope parent path built d)
  unfolding ended
  other_member all e read h =
      fails_as e _ _ (opened ∙ ap (λ (r : Result Built Refusal). r >>= ended) read) (fails_first e (only_at path ms keys_of_object) (λ o. Ok all) h)

  pub all_read : (all : Built) → children here base ≡ Ok all → only_at path ms keys_of_object ≡ Ok tt → object_at levels scope parent path built d ≡ Ok all
  unfolding ended
  all_read all read only =
      opened ∙ ap (λ (r : Result Built Refusal). r >>= ended) read ∙ ap (λ (r : Result (Unit {0}) Refusal). r >>= λ o. Ok all) only
