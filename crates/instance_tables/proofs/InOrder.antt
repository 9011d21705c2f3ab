-- The instances under the keys of an index, in the order of their identities.
use Rattle.std.proofs.Common.{◌≡◌, ◌≢◌, ℕ, ◌<◌, List, [], ◌∷◌, Bool, true, false, cond, nat_eq, length, Option, Some, None, is_some, option_and_then, inl, inr, refl, sym, ap, ◌∙◌, arith}
use Rattle.std.proofs.lemmas.Bool.{cases_eq}
use Rattle.std.proofs.lemmas.Bool.Decides.{nat_tests}
use Rattle.std.proofs.lemmas.Map.Keys.{sorted_head, sorted_tail}
use Rattle.std.specs.BTreeMap.{is_at}
use Rattle.std.specs.BTreeMap.Range.{entries_between, range_contains}
use Rattle.std.specs.List.Sorted.{IsStrictlySortedBy}
use Rattle.std.specs.Map.{keys_of}
use Rattle.std.specs.Ordering.{nat_cmp}
use Rattle.std.specs.declared.ops.Bound.{Bound}
use Rattle.instance_tables.specs.Index.{in_order, put_first, identity_in}
use Rattle.instance_tables.specs.Lent.{with_instance}
use Rattle.instance_tables.specs.View.{first_unheld, instances_at, Lookup, Replaces}
use Rattle.instance_tables.specs.declared.instance.Instance.{Instance}
use Rattle.instance_tables.specs.declared.instances.Entry.{Entry}
use Rattle.instance_tables.proofs.Indexed.{Entries, instance_in, joined}
use Rattle.instance_tables.proofs.Scan.{above, is_at_other, is_at_self, look, look_other, look_self}

-- each of these keys has an entry of its identity
abbrev pub Found : Entries → List (ℕ × ℕ) → Type 0
Found entries [] = Unit {0}
Found entries (k ∷ ks) = (identity_in (entries k.1) ≡ Some k.0) × Found entries ks

-- the keys of a sorted index are found
pub all_found : (entries : Entries) (ks : List (ℕ × ℕ)) → IsStrictlySortedBy nat_cmp (keys_of ks)
    → ((id key : ℕ) → look ks id ≡ Some key → identity_in (entries key) ≡ Some id) → Found entries ks
all_found entries [] sorted found = tt
all_found entries (k ∷ ks) sorted found = (
  found k.0 k.1 (look_self k ks),
  all_found entries ks (sorted_tail nat_cmp k.0 (keys_of ks) sorted)
      (λ id key e.
      let later : k.0 < id = above k.0 ks (sorted_head nat_cmp k.0 (keys_of ks) sorted) id (ap is_some e) in
      found id key (look_other k ks id (λ same. omega (arith, later, same)) ∙ e)),
)

-- ** what is seen

there : (k : ℕ × ℕ) (rest : List (ℕ × Instance)) (o : Option Entry) → identity_in o ≡ Some k.0
    → (x : Entry) × (o ≡ Some x) × (put_first k.0 o rest ≡ (k.0, x.instance) ∷ rest)
there k rest None e = let no : None ≡ Some k.0 = e in absurd (cc)
there k rest (Some x) e = (x, refl, refl)

-- each identity has the instance of the entry under its key
pub seen : (entries : Entries) (ks : List (ℕ × ℕ)) → Found entries ks → (q : ℕ) → instances_at (in_order entries ks) q ≡ joined entries (look ks) q
seen entries [] found q = refl
seen entries (k ∷ ks) found q =
    let here = there k (in_order entries ks) (entries k.1) found.0 in
    ap (λ es. look es q) here.2
    ∙ elim (cases_eq q k.0) [
      | inl is ↦
          ap (look ((k.0, here.0.instance) ∷ in_order entries ks)) is ∙ look_self (k.0, here.0.instance) (in_order entries ks)
          ∙ ap instance_in (sym here.1)
          ∙ ap (λ (o : Option ℕ). instance_in (option_and_then entries o)) (sym (ap (look (k ∷ ks)) is ∙ look_self k ks))
      | inr ne ↦
          look_other (k.0, here.0.instance) (in_order entries ks) q ne ∙ seen entries ks found.1 q
          ∙ ap (λ (o : Option ℕ). instance_in (option_and_then entries o)) (sym (look_other k ks q ne))
    ]

pub keys_seen : (entries : Entries) (ks : List (ℕ × ℕ)) → Found entries ks → keys_of (in_order entries ks) ≡ keys_of ks
keys_seen entries [] found = refl
keys_seen entries (k ∷ ks) found =
    let here = there k (in_order entries ks) (entries k.1) found.0 in
    ap keys_of here.2 ∙ ap (λ (is : List ℕ). k.0 ∷ is) (keys_seen entries ks found.1)

pub length_seen : (entries : Entries) (ks : List (ℕ × ℕ)) → Found entries ks → length (in_order entries ks) ≡ length ks
length_seen entries [] found = refl
length_seen entries (k ∷ ks) found =
    let here = there k (in_order entries ks) (entries k.1) found.0 in
    let rest : length (in_order entries ks) ≡ length ks = length_seen entries ks found.1 in
    ap (λ es. length es) here.2 ∙ omega (arith, rest)

-- ** those between two bounds

between_first : (low high : Bound ℕ) (id : ℕ) (o : Option Entry) (rest : List (ℕ × Instance))
    → entries_between nat_cmp low high (put_first id o rest)
    ≡ cond (range_contains nat_cmp low high id) (put_first id o (entries_between nat_cmp low high rest)) (entries_between nat_cmp low high rest)
between_first low high id None rest = by (range_contains nat_cmp low high id)
  where
    by : (b : Bool) → entries_between nat_cmp low high rest ≡ cond b (entries_between nat_cmp low high rest) (entries_between nat_cmp low high rest)
    by true = refl
    by false = refl
between_first low high id (Some x) rest = refl

pub seen_between : (low high : Bound ℕ) (entries : Entries) (ks : List (ℕ × ℕ))
    → entries_between nat_cmp low high (in_order entries ks) ≡ in_order entries (entries_between nat_cmp low high ks)
seen_between low high entries [] = refl
seen_between low high entries (k ∷ ks) =
    between_first low high k.0 (entries k.1) (in_order entries ks)
    ∙ ap (λ es. cond (range_contains nat_cmp low high k.0) (put_first k.0 (entries k.1) es) es) (seen_between low high entries ks)
    ∙ by (range_contains nat_cmp low high k.0)
  where
    by : (b : Bool) → cond b (put_first k.0 (entries k.1) (in_order entries (entries_between nat_cmp low high ks))) (in_order entries (entries_between nat_cmp low high ks))
        ≡ in_order entries (cond b (k ∷ entries_between nat_cmp low high ks) (entries_between nat_cmp low high ks))
    by true = refl
    by false = refl

-- ** one that is written

module _ (entries entries' : Entries) (id key : ℕ) (y : Entry) (is : identity_in (entries key) ≡ Some id) (stored : entries' key ≡ Some y)
    (same : (k : ℕ) → k ≢ key → entries' k ≡ entries k) where
  other_key : (k : ℕ × ℕ) → identity_in (entries k.1) ≡ Some k.0 → id ≢ k.0 → k.1 ≢ key
  other_key k found ne at =
      let both : Some id ≡ Some k.0 = sym is ∙ ap (λ j. identity_in (entries j)) (sym at) ∙ found in
      let no : id ≡ k.0 = cc in
      ne no

  unmoved : (ks : List (ℕ × ℕ)) → Found entries ks → look ks id ≡ None → in_order entries' ks ≡ in_order entries ks
  unmoved [] found none = refl
  unmoved (k ∷ ks) found none =
      let ne : id ≢ k.0 = λ at. (let no : None ≡ Some k.1 = sym none ∙ ap (look (k ∷ ks)) at ∙ look_self k ks in absurd (cc)) in
      ap (λ o. put_first k.0 o (in_order entries' ks)) (same k.1 (other_key k found.0 ne))
      ∙ ap (put_first k.0 (entries k.1)) (unmoved ks found.1 (sym (look_other k ks id ne) ∙ none))

  not_later : (k : ℕ × ℕ) (ks : List (ℕ × ℕ)) → IsStrictlySortedBy nat_cmp (keys_of (k ∷ ks)) → look ks k.0 ≡ None
  not_later k ks sorted = by (look ks k.0) refl
    where
      by : (o : Option ℕ) → look ks k.0 ≡ o → look ks k.0 ≡ None
      by None e = e
      by (Some x) e =
          let no : k.0 < k.0 = above k.0 ks (sorted_head nat_cmp k.0 (keys_of ks) sorted) k.0 (ap is_some e) in
          absurd (omega (arith, no))

  pub seen_written : (ks : List (ℕ × ℕ)) → IsStrictlySortedBy nat_cmp (keys_of ks) → Found entries ks → look ks id ≡ Some key
      → in_order entries' ks ≡ with_instance (in_order entries ks) id y.instance
  seen_written [] sorted found here = let no : None ≡ Some key = here in absurd (cc)
  seen_written (k ∷ ks) sorted found here =
      let old = there k (in_order entries ks) (entries k.1) found.0 in
      elim (cases_eq id k.0) [
        | inl at ↦
            let both : Some k.1 ≡ Some key = sym (ap (look (k ∷ ks)) at ∙ look_self k ks) ∙ here in
            let its : k.1 ≡ key = cc in
            let later : look ks id ≡ None = ap (look ks) at ∙ not_later k ks sorted in
            let test : is_at (nat_cmp id) k.0 ≡ true = ap (λ j. is_at (nat_cmp j) k.0) at ∙ is_at_self k.0 in
            ap (λ j. put_first k.0 (entries' j) (in_order entries' ks)) its ∙ ap (λ o. put_first k.0 o (in_order entries' ks)) stored
            ∙ ap (λ (es : List (ℕ × Instance)). (k.0, y.instance) ∷ es) (unmoved ks found.1 later)
            ∙ sym (ap (λ es. with_instance es id y.instance) old.2 ∙ rw test refl)
        | inr ne ↦
            let test : is_at (nat_cmp id) k.0 ≡ false = is_at_other id k.0 ne in
            ap (λ o. put_first k.0 o (in_order entries' ks)) (same k.1 (other_key k found.0 ne) ∙ old.1)
            ∙ ap (λ (es : List (ℕ × Instance)). (k.0, old.0.instance) ∷ es)
            (seen_written ks (sorted_tail nat_cmp k.0 (keys_of ks) sorted) found.1 (sym (look_other k ks id ne) ∙ here))
            ∙ sym (ap (λ es. with_instance es id y.instance) old.2 ∙ rw test refl)
      ]

-- ** a change of look-ups

-- what is seen of look-ups that are the same
pub replaced_alike : (at at' new new' : Lookup) (id : ℕ) (y : Option Instance) → ((q : ℕ) → at' q ≡ at q) → ((q : ℕ) → new' q ≡ new q)
    → Replaces at new id y → Replaces at' new' id y
replaced_alike at at' new new' id y old now replaces = record {
  changed = now id ∙ replaces.changed;
  others = λ q ne. now q ∙ replaces.others q ne ∙ sym (old q);
}

-- ** walks

-- the first one of those between bounds that nothing holds is that under their keys
pub first_between : (low high : Bound ℕ) (entries : Entries) (ks : List (ℕ × ℕ)) (old : List (ℕ × Instance)) → in_order entries ks ≡ old
    → first_unheld (entries_between nat_cmp low high old) ≡ first_unheld (in_order entries (entries_between nat_cmp low high ks))
first_between low high entries ks old is =
    ap (λ es. first_unheld (entries_between nat_cmp low high es)) (sym is) ∙ ap first_unheld (seen_between low high entries ks)

module _ (entries : Entries) (all rest : List (ℕ × ℕ)) (k : ℕ × ℕ) (next : all ≡ k ∷ rest) where
  one_first : (o : Option Entry) → entries k.1 ≡ o → in_order entries all ≡ put_first k.0 o (in_order entries rest)
  one_first o is = ap (in_order entries) next ∙ ap (λ o. put_first k.0 o (in_order entries rest)) is

  -- a key without an entry is passed over
  pub passes_empty : entries k.1 ≡ None → in_order entries all ≡ in_order entries rest
  passes_empty none = one_first None none

  module _ (x : Entry) (here : entries k.1 ≡ Some x) where
    -- one that something holds is passed over
    pub passes_held : 0 < x.instance.mentions → first_unheld (in_order entries all) ≡ first_unheld (in_order entries rest)
    passes_held more =
        let test : nat_eq x.instance.mentions 0 ≡ false = grind (arith, nat_tests) in
        ap first_unheld (one_first (Some x) here) ∙ rw test refl

    -- and one that nothing holds is the first
    pub stops_unheld : x.instance.mentions ≡ 0 → first_unheld (in_order entries all) ≡ Some k.0
    stops_unheld none =
        let test : nat_eq x.instance.mentions 0 ≡ true = grind (arith, nat_tests) in
        ap first_unheld (one_first (Some x) here) ∙ rw test refl
