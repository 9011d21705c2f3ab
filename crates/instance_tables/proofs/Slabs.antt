-- A slab with an index, as instances in the order of their identities.
use Rattle.std.proofs.Common.{◌≡◌, ◌≢◌, ℕ, zero, suc, ◌+◌, if◌then◌else◌, ◌⊎◌, Bool, MutBor, List, [], ◌∷◌, length, map, true, Option, Some, None, is_some, IsSome, option_and_then, slice_index_or, inl, inr, refl, sym, ap, subst, ◌∙◌}
use Rattle.std.proofs.lemmas.Bool.{cases_eq}
use Rattle.std.specs.BTreeMap as tree
use Rattle.std.specs.BTreeMap.{BTreeMap}
use Rattle.std.specs.List.Sorted.{IsStrictlySortedBy}
use Rattle.std.specs.Map.{keys_of}
use Rattle.std.specs.Option.{option_map}
use Rattle.std.specs.Ordering.{nat_cmp}
use Rattle.slab.specs.Slab as slab
use Rattle.slab.specs.Slab.{Slab, CalledAt, RetainsFrom, with_value}
use Rattle.slab.proofs.SlabLemmas.{Updates-with_value}
use Rattle.instance_tables.specs.Index.{in_order, identity_in, IsIndex}
use Rattle.instance_tables.specs.Lent.{with_instance}
use Rattle.instance_tables.specs.View.{instances_at, Replaces}
use Rattle.instance_tables.specs.declared.instance.Instance.{Instance}
use Rattle.instance_tables.specs.declared.instances.Entry.{Entry}
use Rattle.instance_tables.proofs.Indexed.{index_changed, index_less, index_more, index_same, instance_in, is_filled, is_joined, joined, joined_changed, joined_less, joined_more, keyless}
use Rattle.instance_tables.proofs.InOrder.{all_found, Found, keys_seen, length_seen, replaced_alike, seen, seen_written}
use Rattle.instance_tables.proofs.Scan.{is_at_other}

-- the index is in order, and finds what is in the slab
abbrev pub IsSound : Slab Entry → BTreeMap ℕ ℕ → Type 0
IsSound entries keys = tree.IsOrdered nat_cmp keys × IsIndex (slab.get entries) (tree.get nat_cmp keys)

abbrev pub all_of : Slab Entry → BTreeMap ℕ ℕ → List (ℕ × Instance)
all_of entries keys = in_order (slab.get entries) keys.entries

found_in_order : (entries : Slab Entry) (keys : BTreeMap ℕ ℕ) → IsSound entries keys → Found (slab.get entries) keys.entries
found_in_order entries keys sound = all_found (slab.get entries) keys.entries sound.0 sound.1.found

at_all : (entries : Slab Entry) (keys : BTreeMap ℕ ℕ) → IsSound entries keys → (q : ℕ)
    → instances_at (all_of entries keys) q ≡ joined (slab.get entries) (tree.get nat_cmp keys) q
at_all entries keys sound q = seen (slab.get entries) keys.entries (found_in_order entries keys sound) q

module _ (entries : Slab Entry) (keys : BTreeMap ℕ ℕ) (old : List (ℕ × Instance)) (sound : IsSound entries keys)
    (is : all_of entries keys ≡ old) where
  at_old : (q : ℕ) → instances_at old q ≡ joined (slab.get entries) (tree.get nat_cmp keys) q
  at_old q = ap (λ es. instances_at es q) (sym is) ∙ at_all entries keys sound q

  pub in_rising_order : IsStrictlySortedBy nat_cmp (keys_of old)
  in_rising_order =
      subst (λ es. IsStrictlySortedBy nat_cmp (keys_of es)) is
      (subst (λ ks. IsStrictlySortedBy nat_cmp ks) (sym (keys_seen (slab.get entries) keys.entries (found_in_order entries keys sound))) sound.0)

  pub as_many : length keys.entries ≡ length old
  as_many = sym (length_seen (slab.get entries) keys.entries (found_in_order entries keys sound)) ∙ ap (λ es. length es) is

  pub has_key : (id : ℕ) → is_some (tree.get nat_cmp keys id) ≡ is_some (instances_at old id)
  has_key id = sym (ap is_some (at_old id) ∙ is_joined (slab.get entries) (tree.get nat_cmp keys) sound.1 id)

  pub none_at : (id : ℕ) → tree.get nat_cmp keys id ≡ None → instances_at old id ≡ None
  none_at id none = at_old id ∙ ap (λ (o : Option ℕ). instance_in (option_and_then (slab.get entries) o)) none

  pub has_entry : (id key : ℕ) → tree.get nat_cmp keys id ≡ Some key → IsSome (slab.get entries key)
  has_entry id key here = is_filled (slab.get entries) (tree.get nat_cmp keys) sound.1 id key here

  pub some_at : (id key : ℕ) (x : Entry) → tree.get nat_cmp keys id ≡ Some key → slab.get entries key ≡ Some x
      → instances_at old id ≡ Some x.instance
  some_at id key x here there =
      at_old id ∙ ap (λ (o : Option ℕ). instance_in (option_and_then (slab.get entries) o)) here ∙ ap instance_in there

  -- ** one that is written

  module _ (id key : ℕ) (x y : Entry) (here : tree.get nat_cmp keys id ≡ Some key) (there : slab.get entries key ≡ Some x) (its : y.id.0 ≡ x.id.0) where
    updates : slab.Updates entries (with_value entries key y) key (Some y)
    updates = Updates-with_value entries key y (ap is_some there)

    pub written_view : all_of (with_value entries key y) keys ≡ with_instance old id y.instance
    written_view =
        seen_written (slab.get entries) (slab.get (with_value entries key y)) id key y (sound.1.found id key here) updates.changed updates.others
        keys.entries sound.0 (found_in_order entries keys sound) here
        ∙ ap (λ es. with_instance es id y.instance) is

    same_identity : (k : ℕ) → identity_in (slab.get (with_value entries key y) k) ≡ identity_in (slab.get entries k)
    same_identity k =
        elim (cases_eq k key) [
          | inl at ↦
              ap (λ j. identity_in (slab.get (with_value entries key y) j)) at ∙ ap identity_in updates.changed ∙ ap Some its
              ∙ sym (ap (λ j. identity_in (slab.get entries j)) at ∙ ap identity_in there)
          | inr ne ↦ ap identity_in (updates.others k ne)
        ]

    pub written_sound : IsSound (with_value entries key y) keys
    written_sound =
        (sound.0, index_same (slab.get entries) (slab.get (with_value entries key y)) (tree.get nat_cmp keys) same_identity sound.1)

  -- ** one more, where room was made

  module _ (room entries' : Slab Entry) (keys' : BTreeMap ℕ ℕ) (id key put_at : ℕ) (y : Entry) (absent : instances_at old id ≡ None)
      (made : room ≡ record entries { capacity = room.capacity }) (vacant : slab.get room key ≡ None) (at : key ≡ put_at)
      (kept : tree.Updates nat_cmp keys keys' id (Some key)) (stored : slab.Updates room entries' put_at (Some y)) (its : y.id.0 ≡ id)
      (ordered : tree.IsOrdered nat_cmp keys') where
    no_key : tree.get nat_cmp keys id ≡ None
    no_key = keyless (slab.get entries) (tree.get nat_cmp keys) sound.1 id (sym (at_old id) ∙ absent)

    free : slab.get entries key ≡ None
    free = ap (λ s. slab.get s key) (sym made) ∙ vacant

    there : slab.get entries' key ≡ Some y
    there = ap (slab.get entries') at ∙ stored.changed

    same_others : (k : ℕ) → k ≢ key → slab.get entries' k ≡ slab.get entries k
    same_others k ne = stored.others k (λ is_it. ne (is_it ∙ sym at)) ∙ ap (λ s. slab.get s k) made

    pub more_sound : IsSound entries' keys'
    more_sound = (
      ordered,
      index_more (slab.get entries) (slab.get entries') (tree.get nat_cmp keys) (tree.get nat_cmp keys') id key y sound.1 no_key free kept.1
          there its (λ q ne. kept.2 q (is_at_other id q (λ e. ne (sym e)))) same_others,
    )

    pub more_seen : Replaces (instances_at old) (instances_at (all_of entries' keys')) id (Some y.instance)
    more_seen =
        replaced_alike (joined (slab.get entries) (tree.get nat_cmp keys)) (instances_at old)
        (joined (slab.get entries') (tree.get nat_cmp keys')) (instances_at (all_of entries' keys')) id (Some y.instance) at_old
        (at_all entries' keys' more_sound)
        (joined_more (slab.get entries) (slab.get entries') (tree.get nat_cmp keys) (tree.get nat_cmp keys') id key y sound.1 no_key free kept.1
        there its (λ q ne. kept.2 q (is_at_other id q (λ e. ne (sym e)))) same_others)

  -- ** one less

  module _ (entries' : Slab Entry) (keys' : BTreeMap ℕ ℕ) (id key : ℕ) (here : tree.get nat_cmp keys id ≡ Some key)
      (out : tree.Updates nat_cmp keys keys' id None) (empty : slab.Updates entries entries' key None) (ordered : tree.IsOrdered nat_cmp keys') where
    pub less_sound : IsSound entries' keys'
    less_sound = (
      ordered,
      index_less (slab.get entries) (slab.get entries') (tree.get nat_cmp keys) (tree.get nat_cmp keys') id key sound.1 here out.1 empty.changed
          (λ q ne. out.2 q (is_at_other id q (λ e. ne (sym e)))) empty.others,
    )

    pub less_seen : Replaces (instances_at old) (instances_at (all_of entries' keys')) id None
    less_seen =
        replaced_alike (joined (slab.get entries) (tree.get nat_cmp keys)) (instances_at old)
        (joined (slab.get entries') (tree.get nat_cmp keys')) (instances_at (all_of entries' keys')) id None at_old
        (at_all entries' keys' less_sound)
        (joined_less (slab.get entries) (slab.get entries') (tree.get nat_cmp keys) (tree.get nat_cmp keys') id key sound.1 here out.1 empty.changed
        (λ q ne. out.2 q (is_at_other id q (λ e. ne (sym e)))) empty.others)

  -- none is taken out where there is none
  pub still_seen : (entries' : Slab Entry) (keys' : BTreeMap ℕ ℕ) (id : ℕ) → tree.get nat_cmp keys id ≡ None → all_of entries' keys' ≡ old
      → Replaces (instances_at old) (instances_at (all_of entries' keys')) id None
  still_seen entries' keys' id none same = record {
    changed = ap (λ es. instances_at es id) same ∙ none_at id none;
    others = λ q ne. ap (λ es. instances_at es q) same;
  }

  -- ** all that change

  module _ (entries' : Slab Entry) (change : Instance → Instance)
      (each : (key : ℕ) → slab.get entries' key ≡ option_map (λ (e : Entry). record e { instance = change e.instance }) (slab.get entries key)) where
    pub changed_sound : IsSound entries' keys
    changed_sound =
        (sound.0, index_changed (slab.get entries) (slab.get entries') (tree.get nat_cmp keys) change each sound.1)

    pub changed_seen : (q : ℕ) → instances_at (all_of entries' keys) q ≡ option_map change (instances_at old q)
    changed_seen q =
        at_all entries' keys changed_sound q
        ∙ joined_changed (slab.get entries) (slab.get entries') (tree.get nat_cmp keys) change each q
        ∙ ap (option_map change) (sym (at_old q))

-- ** what is lent

-- the same is written back for what is written where it is so for each
pub lends_alike : {N X Y Z : Type 0} (n : N) (f g : X → Y) → ((x : X) → f x ≡ g x) → ◌≡◌ {A = (N × (X → Y)) ⊎ Z} (inl (n, f)) (inl (n, g))
lends_alike n f g same i = inl (n, λ x. same x i)

-- ** what `retain` keeps

-- where a call stays as it was, keeps its entry and changes it so, all stay and are changed
pub retained : {F : Type 0} (step : F → ℕ → MutBor Entry → Bool → MutBor Entry → F → Type 0) (change : Entry → Entry) (f : F)
    → ((next : F) (key : ℕ) (shown left : MutBor Entry) (keep : Bool) → step f key shown keep left next
    → (keep ≡ true) × (left.now ≡ change shown.now) × (next ≡ f))
    → (key : ℕ) (slots kept : List (Option Entry)) → RetainsFrom step f key slots kept → kept ≡ map (option_map change) slots
retained step change f each key [] kept h = h
retained step change f each key (None ∷ slots) kept h =
    h.1 ∙ ap (λ (os : List (Option Entry)). None ∷ os) (retained step change f each (key + 1) slots h.0 h.2)
retained step change f each key (Some old ∷ slots) kept h =
    let left = each h.2 key h.3.shown h.3.left h.0 h.3.called in
    let new : h.1 ≡ change old = sym h.3.leaves ∙ left.1 ∙ ap change h.3.shows in
    h.5 ∙ ap (λ (b : Bool). (if b then Some h.1 else None) ∷ h.4) left.0 ∙ ap (λ (x : Entry). Some x ∷ h.4) new
    ∙ ap (λ (os : List (Option Entry)). Some (change old) ∷ os)
    (retained step change f each (key + 1) slots h.4 (subst (λ g. RetainsFrom step g (key + 1) slots h.4) left.2 h.6))

read_changed : (change : Entry → Entry) (slots : List (Option Entry)) (key : ℕ)
    → slice_index_or (map (option_map change) slots) key None ≡ option_map change (slice_index_or slots key None)
read_changed change [] key = refl
read_changed change (o ∷ slots) zero = refl
read_changed change (o ∷ slots) (suc key) = read_changed change slots key

pub each_changed : (entries entries' : Slab Entry) (change : Entry → Entry) → entries'.slots ≡ map (option_map change) entries.slots
    → (key : ℕ) → slab.get entries' key ≡ option_map change (slab.get entries key)
each_changed entries entries' change all key =
    ap (λ (slots : List (Option Entry)). slice_index_or slots key None) all ∙ read_changed change entries.slots key
