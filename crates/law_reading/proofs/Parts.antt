-- The parts of a definition that was read.
use Rattle.std.proofs.Common.{◌≡◌, ℕ, List, [], ◌++◌, Option, None, Some, Result, Ok, Err, codes, option_and_then, refl, ap, subst}
use Rattle.serde_json.specs.Find.{get, as_array, as_number, as_u64}
use Rattle.serde_json.specs.Data.{Data, Items}
use Rattle.ui_machine.specs.Outcome.{◌>>=◌}
use Rattle.ui_machine.specs.Definition.{Definition}
use Rattle.ui_machine.specs.Definition.Programs.{Program}
use Rattle.ui_machine.specs.Definition.Places.{Place}
use Rattle.ui_machine.specs.declared.limits.Limits.{Limits}
use Rattle.bytecode.specs.declared.formats.Format.{Format}
use Rattle.definition_format.specs.Refusals.{Refusal, shape, or_refused}
use Rattle.definition_format.specs.Document.{document, under, members_at, entries, entries_at, only_at}
use Rattle.definition_format.specs.Denoted.Entries.{listed, section}
use Rattle.definition_format.specs.Denoted.Properties.{specs_by}
use Rattle.definition_format.specs.Denoted.Drafts.{ClassDraft}
use Rattle.definition_format.specs.Denoted.Objects.{Built}
use Rattle.definition_format.specs.Denoted.Shapes.{is_shaped_by}
use Rattle.definition_format.specs.Denoted.SessionLimits.{limits_in}
use Rattle.definition_format.specs.Denoted.Programs.{programs_in}
use Rattle.definition_format.specs.Denoted.Prototypes.{prototypes_in}
use Rattle.definition_format.specs.Denoted.{keys_of_definition, format_of, draft_in, objects_in, definition_in, definition_with, denoted}
use Rattle.definition_format.proofs.Soundness.{OnRead}

-- what follows one reading, where it gives something
pub on_read : {A B : Type 0} (P : B → Type 0) (r : Result A Refusal) (f : A → Result B Refusal)
    → ((x : A) → r ≡ Ok x → OnRead P (f x)) → OnRead P (r >>= f)
on_read P (Ok x) f h = h x refl
on_read P (Err e) f h = tt

-- what follows from what is so of what was read is so of it too
pub more_on : {A : Type 0} (P Q : A → Type 0) (r : Result A Refusal) → ((x : A) → P x → Q x) → OnRead P r → OnRead Q r
more_on P Q (Ok x) more p = more x p
more_on P Q (Err e) more p = tt

-- what was taken is there
pub taken : {A : Type 0} (refusal : Refusal) (found : Option A) (x : A) → or_refused refusal found ≡ Ok x → found ≡ Some x
taken refusal None x e = absurd (cc)
taken refusal (Some y) x e = let same : y ≡ x = cc in ap Some same

-- the entries of a list that was read are those that are known ahead
pub section_is : (path key : List ℕ) (d : Data) (list : Items) → entries_at path d key ≡ Ok list → section key d ≡ list
section_is path key d list = by (get key d)
  where
    by : (o : Option Data) → entries (under path key) o ≡ Ok list → listed (option_and_then as_array o) ≡ list
    by None e = cc
    by (Some x) e = ap listed (taken (shape (under path key)) (as_array x) list e)

pub record IsRead (d : Definition) : Type 0 where
  pub value : Data
  pub format : Format
  pub draft : ClassDraft
  pub limits : Limits
  pub programs : List Program
  pub prototypes : List Place
  pub objects : Built
  pub drafted : draft_in value ≡ Ok draft
  pub limited : limits_in value ≡ Ok limits
  pub programmed : programs_in format draft.types value ≡ Ok programs
  pub made : prototypes_in draft.types (specs_by draft.types draft.own) (is_shaped_by draft.types draft.answers.shaped) value ≡ Ok prototypes
  pub placed : objects_in draft.types (specs_by draft.types draft.own) (is_shaped_by draft.types draft.answers.shaped) programs prototypes limits.objects value ≡ Ok objects
  pub is : definition_with draft programs (objects.places ++ prototypes) objects.bindings limits ≡ d

of_value : (v : Data) → OnRead IsRead (definition_in v)
unfolding definition_in
of_value v =
    on_read IsRead (members_at [] v) _ λ ms m.
    on_read IsRead (format_of (option_and_then as_u64 (option_and_then as_number (get (codes "format") v)))) _ λ format f.
    on_read IsRead (limits_in v) _ λ limits l.
    on_read IsRead (draft_in v) _ λ draft c.
    on_read IsRead (programs_in format draft.types v) _ λ programs p.
    on_read IsRead (prototypes_in draft.types (specs_by draft.types draft.own) (is_shaped_by draft.types draft.answers.shaped) v) _ λ prototypes q.
    on_read IsRead (objects_in draft.types (specs_by draft.types draft.own) (is_shaped_by draft.types draft.answers.shaped) programs prototypes limits.objects v) _ λ objects o.
    on_read IsRead (only_at [] ms keys_of_definition) _ λ u k.
    let read : IsRead (definition_with draft programs (objects.places ++ prototypes) objects.bindings limits) =
    record {
      value = v;
      format = format;
      draft = draft;
      limits = limits;
      programs = programs;
      prototypes = prototypes;
      objects = objects;
      drafted = c;
      limited = l;
      programmed = p;
      made = q;
      placed = o;
      is = refl;
    } in read

of_bytes : (bytes : List ℕ) → OnRead IsRead (denoted bytes)
unfolding denoted
of_bytes bytes = on_read IsRead (document bytes) _ λ v e. of_value v

pub parts : (bytes : List ℕ) (d : Definition) → denoted bytes ≡ Ok d → IsRead d
parts bytes d h = subst (OnRead IsRead) h (of_bytes bytes)
