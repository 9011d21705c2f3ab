-- What the properties of an object of a definition that was read are given: values that fit, and bindings, to no property twice.
use Rattle.std.proofs.Common.{◌≡◌, ℕ, ◌<◌, Bool, true, false, ◌||◌, nat_eq, List, [], ◌∷◌, ◌++◌, length, codes, Option, None, Some, Err, Ok, refl, sym, ◌∙◌}
use Rattle.std.specs.Prelude.{if◌then◌else◌}
use Rattle.std.proofs.lemmas.List.Folds.{list_any-append}
use Rattle.serde_json.specs.Data.{Data}
use Rattle.serde_json.specs.Find.{get, as_str}
use Rattle.ui_machine.specs.Definition.Places.{Bind, Given, GivenProperty}
use Rattle.ui_machine.specs.Definition.Properties.{Spec, is_writable}
use Rattle.ui_machine.specs.Output.Text.{members_of}
use Rattle.definition_format.specs.Refusals.{shape, duplicate}
use Rattle.definition_format.specs.Document.{at_entry, under, nth, members_at, text_at, entries_at, only_at}
use Rattle.definition_format.specs.Denoted.Binds.{Target, bind_at}
use Rattle.definition_format.specs.Denoted.Entries.{name_under}
use Rattle.definition_format.specs.Denoted.Filled.{Filled, all_filled, bound_at, filled_at, is_named, keys_of_given, unbound, unfilled, unless_named, value_or_bind, valued_at, with_bind, with_value}
use Rattle.definition_format.specs.Denoted.Given.{Property, given_by, in_time, is_given, is_too_late, property_named, reference, spec_ahead, takes_value}
use Rattle.definition_format.proofs.Soundness.{OnRead, on_all, on_bind, on_each}
use Rattle.law_typing.specs.Verdict.Accepted.{Each}
use Rattle.law_typing.proofs.Lists.{each_append}
use Rattle.law_reading.proofs.BindProofs.{IsBetween, bind_read}
use Rattle.law_reading.proofs.GivenProofs.{AreGiven, IsGiven, IsNamed, ahead_is, early, not_late, of_kind, one_more, property_is, takes}
use Rattle.law_reading.proofs.NameProofs.{neither, none_holds}
use Rattle.law_reading.proofs.Parts.{on_read, taken}
use Rattle.law_reading.proofs.ValueProofs.{HaveFewBits}

unnamed : (path : List ℕ) (slots : List ℕ) (slot : ℕ) → OnRead (λ u. is_named slots slot ≡ false) (unless_named path slots slot)
unnamed path slots slot = by (is_named slots slot) refl
  where
    by : (b : Bool) → is_named slots slot ≡ b
        → OnRead {A = Unit {0}} (λ u. is_named slots slot ≡ false) (if b then Err (duplicate path) else Ok tt)
    by true e = tt
    by false e = e

-- what a list does not name, neither a part of it nor the entry behind that part names
named_before : (slots : List ℕ) (last slot : ℕ) → is_named (slots ++ last ∷ []) slot ≡ false → (is_named slots slot ≡ false) × (nat_eq last slot ≡ false)
named_before slots last slot h =
    let parts = neither (is_named slots slot) (nat_eq last slot || false) (sym (list_any-append (λ other. nat_eq other slot) slots (last ∷ [])) ∙ h) in
    (parts.0, (neither (nat_eq last slot) false parts.1).0)

given_behind : (given : List GivenProperty) (g : GivenProperty) (slot : ℕ) → is_given given slot ≡ false → nat_eq g.slot slot ≡ false
    → is_given (given ++ g ∷ []) slot ≡ false
given_behind given g slot old new =
    list_any-append (λ (x : GivenProperty). nat_eq x.slot slot) given (g ∷ [])
    ∙ none_holds (is_given given slot) (nat_eq g.slot slot || false) old (none_holds (nat_eq g.slot slot) false new refl)

module _ (target : Target) (few : (t : ℕ) → HaveFewBits (members_of target.types t)) (small : target.place < 512)
    (there : target.place < length target.objects.ids) where
  abbrev specs : List Spec
  specs = target.specs target.class

  -- what is so of what entries gave
  pub record IsFilled (filled : Filled) : Type 0 where
    pub given : AreGiven target.types target.objects target.place specs filled.given
    pub named : (slot : ℕ) → is_named filled.slots slot ≡ false → is_given filled.given slot ≡ false
    pub bound : Each (IsBetween target.objects) filled.bindings

  value_more : (filled : Filled) (slot : ℕ) (g : Given) → IsFilled filled
      → AreGiven target.types target.objects target.place specs (filled.given ++ record { slot = slot; given = g } ∷ [])
      → IsFilled (with_value filled slot g)
  value_more filled slot g old more = record {
    given = more;
    named = λ other h.
        let parts = named_before filled.slots slot other h in
        given_behind filled.given (record { slot = slot; given = g }) other (old.named other parts.0) parts.1;
    bound = old.bound;
  }

  bind_more : (filled : Filled) (bind : Bind) → IsFilled filled → IsBetween target.objects bind → IsFilled (with_bind filled bind)
  bind_more filled bind old between = record {
    given = old.given;
    named = λ other h. old.named other (named_before filled.slots bind.target_slot other h).0;
    bound = each_append (IsBetween target.objects) filled.bindings (bind ∷ []) old.bound (between, tt);
  }

  -- what is known of an entry and of the property that it names
  record IsKnownEntry (d : Data) (property : Property) (filled : Filled) : Type 0 where
    called : (name : List ℕ) × ((name_under (codes "name") d ≡ Some name) × IsNamed specs name property.slot property.spec)
    new : is_named filled.slots property.slot ≡ false
    writable : (v : Data) → get (codes "value") d ≡ Some v → is_writable property.spec ≡ true
    early : is_too_late target.place target.objects d property.spec ≡ false

  value_read : (path : List ℕ) (property : Property) (filled : Filled) (d v : Data) (bind : Option Data) → IsFilled filled → IsKnownEntry d property filled
      → get (codes "value") d ≡ Some v → OnRead IsFilled (valued_at path target property filled v bind)
  unfolding valued_at
  value_read path property filled d v bind old known e =
      on_bind (IsGiven target.types few target.objects target.place small specs property.spec.kind v) IsFilled
      (given_by (under path (codes "value")) target.types target.objects property.spec.kind v (reference property.spec.kind (as_str v))) _
      (of_kind target.types few target.objects target.place small specs (under path (codes "value")) property.spec.kind v) λ g fits.
      on_bind (λ u. Unit {0}) IsFilled (unbound (under path (codes "bind")) bind) _ (on_all _) λ single u.
      value_more filled property.slot g old
      (one_more target.types few target.objects target.place small specs filled.given (record { slot = property.slot; given = g }) old.given
      (old.named property.slot known.new)
      (record {
        spec = property.spec;
        is = known.called.1.1.is;
        writable = known.writable v e;
        fits = fits.fits;
        forward = λ h. not_late target.types few target.objects target.place small specs d v property.spec e known.early (fits.late h);
      }))

  entry_read : (path : List ℕ) (property : Property) (filled : Filled) (d : Data) → IsFilled filled → IsKnownEntry d property filled
      → OnRead IsFilled (value_or_bind path target property filled (get (codes "value") d) (get (codes "bind") d))
  unfolding bound_at
  entry_read path property filled d old known = by (get (codes "value") d) (get (codes "bind") d) refl
    where
      by : (value bind : Option Data) → get (codes "value") d ≡ value → OnRead IsFilled (value_or_bind path target property filled value bind)
      by (Some v) bind e = value_read path property filled d v bind old known e
      by None None e = tt
      by None (Some b) e =
          on_bind (IsBetween target.objects) IsFilled (bind_at (under path (codes "bind")) target property (length filled.slots) filled.bindings b) _
          (bind_read target small there (under path (codes "bind")) property (length filled.slots) filled.bindings b) λ bind between.
          bind_more filled bind old between

  one_filled : (path : List ℕ) (filled : Filled) (d : Data) → IsFilled filled → OnRead IsFilled (filled_at path target filled d)
  unfolding filled_at
  one_filled path filled d old =
      on_bind (λ x. Unit {0}) IsFilled (members_at path d) _ (on_all _) λ ms u.
      on_bind (λ x. (spec : Spec) → spec_ahead specs d ≡ Some spec → is_too_late target.place target.objects d spec ≡ false) IsFilled
      (in_time path target.place target.objects d (spec_ahead specs d)) _
      (early target.types few target.objects target.place small specs path d (spec_ahead specs d)) λ x soon.
      on_read IsFilled (text_at path d (codes "name")) _ λ name said.
      on_bind (λ p. IsNamed specs name p.slot p.spec) IsFilled (property_named (under path (codes "name")) specs name) _
      (property_is specs (under path (codes "name")) name) λ property is.
      on_bind (λ x. is_named filled.slots property.slot ≡ false) IsFilled (unless_named (under path (codes "name")) filled.slots property.slot) _
      (unnamed (under path (codes "name")) filled.slots property.slot) λ once new.
      on_bind (λ x. (v : Data) → get (codes "value") d ≡ Some v → is_writable property.spec ≡ true) IsFilled
      (takes_value (under path (codes "name")) (get (codes "value") d) property.spec) _
      (takes target.types few target.objects target.place small specs (under path (codes "name")) (get (codes "value") d) property.spec) λ may writable.
      let called : name_under (codes "name") d ≡ Some name = taken (shape (under path (codes "name"))) (name_under (codes "name") d) name said in
      on_bind IsFilled IsFilled (value_or_bind path target property filled (get (codes "value") d) (get (codes "bind") d)) _
      (entry_read path property filled d old (record {
        called = (name, (called, is));
        new = new;
        writable = writable;
        early = soon property.spec (ahead_is target.types few target.objects target.place small specs d name property.slot property.spec called is);
      })) λ more fit.
      on_bind (λ x. Unit {0}) IsFilled (only_at path ms keys_of_given) _ (on_all _) λ only u. fit

  pub filled_read : (path : List ℕ) (bindings : List Bind) (d : Data) → Each (IsBetween target.objects) bindings → OnRead IsFilled (all_filled path target bindings d)
  unfolding all_filled
  filled_read path bindings d old =
      on_bind (λ x. Unit {0}) IsFilled (entries_at path d (codes "properties")) _ (on_all _) λ list u.
      on_each IsFilled (at_entry (λ entry. filled_at entry target) (under path (codes "properties")))
      (λ i filled d so. one_filled (nth (under path (codes "properties")) i) filled d so) 0 (unfilled bindings) list
      (record { given = record { fit = tt; apart = refl }; named = λ slot h. refl; bound = old })
