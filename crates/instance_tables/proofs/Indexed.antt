-- Entries under keys and keys under identities, as entries are written, added or taken out.
use Rattle.std.proofs.Common.{◌≡◌, ◌≢◌, ℕ, Option, Some, None, true, false, is_some, IsSome, option_and_then, inl, inr, refl, sym, ap, ◌∙◌}
use Rattle.std.proofs.lemmas.Bool.{cases_eq}
use Rattle.std.specs.Option.{option_map}
use Rattle.instance_tables.specs.Index.{identity_in, IsIndex}
use Rattle.instance_tables.specs.View.{Lookup, Replaces}
use Rattle.instance_tables.specs.declared.instance.Instance.{Instance}
use Rattle.instance_tables.specs.declared.instances.Entry.{Entry}

abbrev pub Entries : Type 0
Entries = ℕ → Option Entry

abbrev pub Keys : Type 0
Keys = ℕ → Option ℕ

-- the instance of an entry
abbrev pub instance_in : Option Entry → Option Instance
instance_in x = option_map (λ (e : Entry). e.instance) x

-- the instance of an identity is that of the entry under its key
abbrev pub joined : Entries → Keys → Lookup
joined entries keys id = instance_in (option_and_then entries (keys id))

-- ** one identity

identified : (x : Option Entry) (id : ℕ) → identity_in x ≡ Some id → is_some x ≡ true
identified None id e = let no : None ≡ Some id = e in absurd (cc)
identified (Some x) id e = refl

-- a key has an entry
pub is_filled : (entries : Entries) (keys : Keys) → IsIndex entries keys → (id key : ℕ) → keys id ≡ Some key → IsSome (entries key)
is_filled entries keys index id key here = identified (entries key) id (index.found id key here)

still_some : (x : Option Entry) → is_some (instance_in x) ≡ is_some x
still_some None = refl
still_some (Some x) = refl

-- whether an identity has a key, and whether it has an instance
pub is_joined : (entries : Entries) (keys : Keys) → IsIndex entries keys → (id : ℕ) → is_some (joined entries keys id) ≡ is_some (keys id)
is_joined entries keys index id = by (keys id) refl
  where
    by : (o : Option ℕ) → keys id ≡ o → is_some (instance_in (option_and_then entries o)) ≡ is_some o
    by None e = refl
    by (Some key) e = still_some (entries key) ∙ is_filled entries keys index id key e

none_of : (o : Option ℕ) → is_some o ≡ false → o ≡ None
none_of None e = refl
none_of (Some x) e = absurd (cc)

-- so one without an instance has no key
pub keyless : (entries : Entries) (keys : Keys) → IsIndex entries keys → (id : ℕ) → joined entries keys id ≡ None → keys id ≡ None
keyless entries keys index id none = none_of (keys id) (sym (is_joined entries keys index id) ∙ ap is_some none)

-- two identities with one key are one
pub one_identity : (entries : Entries) (keys : Keys) → IsIndex entries keys → (id other key : ℕ) → keys id ≡ Some key
    → keys other ≡ Some key → id ≡ other
one_identity entries keys index id other key here there =
    let both : Some id ≡ Some other = sym (index.found id key here) ∙ index.found other key there in cc

-- ** an identity's new instance, where those of the others stay

module _ (entries entries' : Entries) (keys keys' : Keys) (id : ℕ) (keys_stay : (q : ℕ) → q ≢ id → keys' q ≡ keys q)
    (entries_stay : (q key : ℕ) → q ≢ id → keys q ≡ Some key → entries' key ≡ entries key) where
  replaced : (y : Option Instance) → joined entries' keys' id ≡ y → Replaces (joined entries keys) (joined entries' keys') id y
  replaced y is = record {
    changed = is;
    others = λ q ne. ap (λ (o : Option ℕ). instance_in (option_and_then entries' o)) (keys_stay q ne) ∙ kept q ne (keys q) refl;
  }
    where
      kept : (q : ℕ) → q ≢ id → (o : Option ℕ) → keys q ≡ o
          → instance_in (option_and_then entries' o) ≡ instance_in (option_and_then entries o)
      kept q ne None e = refl
      kept q ne (Some key) e = ap instance_in (entries_stay q key ne e)

-- ** entries that change and stay whose they are

pub index_same : (entries entries' : Entries) (keys : Keys) → ((key : ℕ) → identity_in (entries' key) ≡ identity_in (entries key))
    → IsIndex entries keys → IsIndex entries' keys
index_same entries entries' keys same index = record {
  found = λ id key here. same key ∙ index.found id key here;
  listed = λ id key is. index.listed id key (sym (same key) ∙ is);
}

-- ** one more, under a key that is free

module _ (entries entries' : Entries) (keys keys' : Keys) (id key : ℕ) (y : Entry) (index : IsIndex entries keys) (absent : keys id ≡ None)
    (free : entries key ≡ None) (here : keys' id ≡ Some key) (stored : entries' key ≡ Some y) (its : y.id.0 ≡ id)
    (keys_stay : (q : ℕ) → q ≢ id → keys' q ≡ keys q) (same : (k : ℕ) → k ≢ key → entries' k ≡ entries k) where
  not_free : (q k : ℕ) → keys q ≡ Some k → k ≢ key
  not_free q k e is =
      let no : true ≡ false = sym (is_filled entries keys index q k e) ∙ ap is_some (ap entries is ∙ free) in absurd (cc)

  pub joined_more : Replaces (joined entries keys) (joined entries' keys') id (Some y.instance)
  joined_more =
      replaced entries entries' keys keys' id keys_stay (λ q k ne e. same k (not_free q k e)) (Some y.instance)
      (ap (λ (o : Option ℕ). instance_in (option_and_then entries' o)) here ∙ ap instance_in stored)

  stored_is : identity_in (entries' key) ≡ Some id
  stored_is = ap identity_in stored ∙ ap Some its

  pub index_more : IsIndex entries' keys'
  index_more = record {
    found = λ q k e.
        elim (cases_eq q id) [
          | inl is ↦
              let both : Some k ≡ Some key = sym e ∙ ap keys' is ∙ here in
              let at : k ≡ key = cc in
              ap (λ j. identity_in (entries' j)) at ∙ stored_is ∙ ap Some (sym is)
          | inr ne ↦
              let old : keys q ≡ Some k = sym (keys_stay q ne) ∙ e in
              ap identity_in (same k (not_free q k old)) ∙ index.found q k old
        ];
    listed = λ q k e.
        elim (cases_eq k key) [
          | inl is ↦
              let both : Some q ≡ Some id = sym e ∙ ap (λ j. identity_in (entries' j)) is ∙ stored_is in
              let at : q ≡ id = cc in
              ap keys' at ∙ here ∙ ap Some (sym is)
          | inr ne ↦
              let old : keys q ≡ Some k = index.listed q k (ap identity_in (sym (same k ne)) ∙ e) in
              keys_stay q (λ is. let no : Some k ≡ None = sym old ∙ ap keys is ∙ absent in absurd (cc)) ∙ old
        ];
  }

-- ** one less

module _ (entries entries' : Entries) (keys keys' : Keys) (id key : ℕ) (index : IsIndex entries keys) (here : keys id ≡ Some key)
    (gone : keys' id ≡ None) (empty : entries' key ≡ None) (keys_stay : (q : ℕ) → q ≢ id → keys' q ≡ keys q)
    (same : (k : ℕ) → k ≢ key → entries' k ≡ entries k) where
  other_key : (q k : ℕ) → q ≢ id → keys q ≡ Some k → k ≢ key
  other_key q k ne e is = ne (one_identity entries keys index q id key (e ∙ ap Some is) here)

  pub joined_less : Replaces (joined entries keys) (joined entries' keys') id None
  joined_less =
      replaced entries entries' keys keys' id keys_stay (λ q k ne e. same k (other_key q k ne e)) None
      (ap (λ (o : Option ℕ). instance_in (option_and_then entries' o)) gone)

  pub index_less : IsIndex entries' keys'
  index_less = record {
    found = λ q k e.
        elim (cases_eq q id) [
          | inl is ↦ let no : Some k ≡ None = sym e ∙ ap keys' is ∙ gone in absurd (cc)
          | inr ne ↦
              let old : keys q ≡ Some k = sym (keys_stay q ne) ∙ e in
              ap identity_in (same k (other_key q k ne old)) ∙ index.found q k old
        ];
    listed = λ q k e.
        elim (cases_eq k key) [
          | inl is ↦ let no : None ≡ Some q = sym (ap (λ j. identity_in (entries' j)) is ∙ ap identity_in empty) ∙ e in absurd (cc)
          | inr ne ↦
              let old : keys q ≡ Some k = index.listed q k (ap identity_in (sym (same k ne)) ∙ e) in
              keys_stay q (λ is. let both : Some k ≡ Some key = sym old ∙ ap keys is ∙ here in let at : k ≡ key = cc in ne at) ∙ old
        ];
  }

-- ** all that change

module _ (entries entries' : Entries) (keys : Keys) (change : Instance → Instance)
    (each : (key : ℕ) → entries' key ≡ option_map (λ (e : Entry). record e { instance = change e.instance }) (entries key)) where
  pub joined_changed : (q : ℕ) → joined entries' keys q ≡ option_map change (joined entries keys q)
  joined_changed q = by (keys q)
    where
      of : (x : Option Entry) → instance_in (option_map (λ (e : Entry). record e { instance = change e.instance }) x) ≡ option_map change (instance_in x)
      of None = refl
      of (Some x) = refl

      by : (o : Option ℕ) → instance_in (option_and_then entries' o) ≡ option_map change (instance_in (option_and_then entries o))
      by None = refl
      by (Some key) = ap instance_in (each key) ∙ of (entries key)

  pub index_changed : IsIndex entries keys → IsIndex entries' keys
  index_changed = index_same entries entries' keys (λ key. ap identity_in (each key) ∙ of (entries key))
    where
      of : (x : Option Entry) → identity_in (option_map (λ (e : Entry). record e { instance = change e.instance }) x) ≡ identity_in x
      of None = refl
      of (Some x) = refl
