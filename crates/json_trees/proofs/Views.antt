-- A value, level by level, and its members beside the map that they were gathered in.
use Rattle.std.proofs.Common.{◌≡◌, ℕ, zero, suc, ◌<◌, ◌≤◌, length, get_or, List, [], ◌∷◌, Option, Some, None, option_map, option_copied, String, Vec, Global, Ordering, Less, Equal, Greater, string_bytes, string_cmp, nat_cmp, is_eq, cond, Bool, true, false, bytes_eq, Bor, refl, sym, ap, ◌∙◌, arith, rules}
use Rattle.std.proofs.lemmas.Map.Text.{is_eq-slice_cmp}
use Rattle.std.specs.Cmp.Lexicographic.{slice_cmp}
use Rattle.std.specs.List.{find}
use Rattle.std.specs.Ordering.{match_ordering}
use Rattle.std.specs.BTreeMap.{insert_entry}
use Rattle.serde_json.specs.Data.{Data, array, object, put}
use Rattle.serde_json.specs.Find.{get_item, get_member}
use Rattle.json_trees.specs.View.{view, items_view, members_view}
use Rattle.json_trees.specs.declared.value.Value.{Value, Array, Object, the_lemmas}

abbrev pub Entry : Type 0
Entry = String Global × Value

pub view-Array : (v : Vec Value Global) → view (Array v) ≡ array (items_view v.items)
view-Array v = search (rules, the_lemmas)

pub view-Object : (v : Vec Entry Global) → view (Object v) ≡ object (members_view v.items)
view-Object v = search (rules, the_lemmas)

members_view-match_ordering : (o : Ordering) (a b c : List Entry) → members_view (match_ordering o a b c) ≡ match_ordering o (members_view a) (members_view b) (members_view c)
members_view-match_ordering Less a b c = refl
members_view-match_ordering Equal a b c = refl
members_view-match_ordering Greater a b c = refl

-- what an insert into the map does to the members
pub members_view-insert_entry : (es : List Entry) (k : String Global) (v : Value) → members_view (insert_entry string_cmp es k v) ≡ put (string_bytes k) (view v) (members_view es)
members_view-insert_entry [] k v = refl
members_view-insert_entry (e ∷ es) k v = members_view-match_ordering (string_cmp k e.0) _ _ _ ∙ rw (members_view-insert_entry es k v)

-- what a look-up finds, by the order of two keys
found_by : (o : Ordering) (e : Entry) (rest : Option Entry) (d : Option Data) → option_map (λ (m : Entry). view m.1) rest ≡ d → option_map (λ (m : Entry). view m.1) (cond (is_eq o) (Some e) rest) ≡ match_ordering o d (Some (view e.1)) d
found_by Less e rest d later = later
found_by Equal e rest d later = refl
found_by Greater e rest d later = later

-- the member with a key, in a list of members
pub member_found : (key : List ℕ) (es : List Entry) → option_map (λ (m : Entry). view m.1) (find (λ m. bytes_eq key (string_bytes m.0)) es) ≡ get_member key (members_view es)
member_found key [] = refl
member_found key (e ∷ es) =
    let same : bytes_eq key (string_bytes e.0) ≡ is_eq (slice_cmp nat_cmp key (string_bytes e.0)) = sym (is_eq-slice_cmp key (string_bytes e.0)) in
    ap (λ b. option_map (λ (m : Entry). view m.1) (cond b (Some e) (find (λ m. bytes_eq key (string_bytes m.0)) es))) same
    ∙ found_by (slice_cmp nat_cmp key (string_bytes e.0)) e _ _ (member_found key es)

pub get_item_within : (vs : List Value) (i : ℕ) (d : Value) → i < length vs → Some (view (get_or vs i d)) ≡ get_item i (items_view vs)
get_item_within [] i d h = absurd (omega arith)
get_item_within (v ∷ vs) zero d h = refl
get_item_within (v ∷ vs) (suc i) d h = get_item_within vs i d (omega arith)

pub get_item_past : (vs : List Value) (i : ℕ) → length vs ≤ i → None ≡ get_item i (items_view vs)
get_item_past [] i h = refl
get_item_past (v ∷ vs) zero h = absurd (omega arith)
get_item_past (v ∷ vs) (suc i) h = get_item_past vs i (omega arith)
