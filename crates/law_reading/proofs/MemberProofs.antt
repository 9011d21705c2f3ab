-- The members of the enums and flags types of a definition that was read: an enum has some, and their numbers have 32 bits.
use Rattle.std.proofs.Common.{◌≡◌, ℕ, ◌+◌, ◌^◌, ℤ, pos, negsuc, ◌≤ℤ◌, Bool, true, false, List, [], ◌∷◌, ◌++◌, Option, None, Some, option_and_then, Result, refl, ◌∙◌, arith, lt-ltb}
use Rattle.std.specs.Prelude.{unsigned_abs, codes, if◌then◌else◌}
use Rattle.std.specs.List.{list_all}
use Rattle.std.proofs.lemmas.Int.{ints}
use Rattle.std.proofs.lemmas.List.Folds.{list_all-append}
use Rattle.serde_json.specs.Data.{Data, Items, no_items, item}
use Rattle.serde_json.specs.Find.{get, as_array}
use Rattle.g_values.specs.Reading.{whole_number}
use Rattle.ui_machine.specs.Definition.Kinds.{int, uint}
use Rattle.ui_machine.specs.Definition.Types.{GType, Member}
use Rattle.ui_machine.specs.Definition.Types as sorts
use Rattle.ui_machine.specs.Rules.Transform.{least, greatest, is_between, has_number}
use Rattle.definition_format.specs.Refusals.{Refusal, shape, or_refused}
use Rattle.definition_format.specs.Document.{each, at_entry, under, nth}
use Rattle.definition_format.specs.Denoted.Enums.{parts_at, name_at, number_if, number_at, unless_there, has_name, member_with, enum_member_at, flags_member_at, some_items, some_entries_at, members_with}
use Rattle.definition_format.proofs.Soundness.{OnRead, on_bind, on_all, on_each}
use Rattle.law_typing.specs.Graph.Channels.{is_filled}
use Rattle.law_typing.specs.Laws.WellRead.{has_few_bits}
use Rattle.law_reading.proofs.ValueProofs.{AreBits, HaveFewBits, few_between, both_true}

-- what is so of the members that an entry gives
pub record AreMembers (members : List Member) : Type 0 where
  pub filled : is_filled members ≡ true
  pub few : HaveFewBits members

-- what is so of the members of each type
pub record HasMembers (g : GType) : Type 0 where
  pub filled : g.sort ≡ sorts.enum → is_filled g.members ≡ true
  pub few : HaveFewBits g.members

pub has_these : (g : GType) → AreMembers g.members → HasMembers g
has_these g members = record { filled = λ e. members.filled; few = members.few }

-- ** a member

number_few : (path : List ℕ) (low high : ℤ) (d : Data) → negsuc 4294967294 ≤ℤ low → high ≤ℤ pos 4294967295
    → OnRead (λ n. AreBits (unsigned_abs n)) (number_at path low high d)
number_few path low high d bottom top = of (whole_number d)
  where
    by : (n : ℤ) (b : Bool) → is_between low high n ≡ b
        → OnRead (λ k. AreBits (unsigned_abs k)) (or_refused (shape path) (if b then Some n else None))
    by n true e = few_between low high n e bottom top
    by n false e = tt

    of : (n : Option ℤ) → OnRead (λ k. AreBits (unsigned_abs k)) (or_refused (shape path) (number_if low high n))
    of None = tt
    of (Some n) = by n (is_between low high n) refl

filled_more : (members : List Member) (m : Member) → is_filled (members ++ m ∷ []) ≡ true
filled_more [] m = refl
filled_more (x ∷ xs) m = refl

one_more : (members : List Member) (name nick : List ℕ) (n : ℤ) → HaveFewBits members → AreBits (unsigned_abs n)
    → AreMembers (members ++ member_with name nick n ∷ [])
one_more members name nick n old new =
    let m : Member = member_with name nick n in
    let one : list_all has_few_bits (m ∷ []) ≡ true = both_true (has_few_bits m) true (lt-ltb (unsigned_abs n) (2 ^ 32) new) refl in
    record {
      filled = filled_more members m;
      few = list_all-append has_few_bits members (m ∷ [])
          ∙ both_true (list_all has_few_bits members) (list_all has_few_bits (m ∷ [])) old one;
    }

enum_member : (path : List ℕ) (members : List Member) (d : Data) → HaveFewBits members → OnRead AreMembers (enum_member_at path members d)
unfolding enum_member_at
enum_member path members d old =
    on_bind (λ x. Unit {0}) AreMembers (parts_at path d) _ (on_all _) λ parts u.
    on_bind (λ x. Unit {0}) AreMembers (name_at (nth path 0) parts.0) _ (on_all _) λ name u.
    on_bind (λ x. Unit {0}) AreMembers (unless_there (nth path 0) (has_name members name)) _ (on_all _) λ unlike u.
    on_bind (λ x. Unit {0}) AreMembers (name_at (nth path 1) parts.1) _ (on_all _) λ nick u.
    on_bind (λ n. AreBits (unsigned_abs n)) AreMembers (number_at (nth path 2) (least int) (greatest int) parts.2) _
    (number_few (nth path 2) (least int) (greatest int) parts.2 (omega (arith, ints)) (omega (arith, ints))) λ n few.
    on_bind (λ x. Unit {0}) AreMembers (unless_there (nth path 2) (has_number members n)) _ (on_all _) λ other u.
    one_more members name nick n old few

flags_member : (path : List ℕ) (members : List Member) (d : Data) → HaveFewBits members → OnRead AreMembers (flags_member_at path members d)
unfolding flags_member_at
flags_member path members d old =
    on_bind (λ x. Unit {0}) AreMembers (parts_at path d) _ (on_all _) λ parts u.
    on_bind (λ x. Unit {0}) AreMembers (name_at (nth path 0) parts.0) _ (on_all _) λ name u.
    on_bind (λ x. Unit {0}) AreMembers (name_at (nth path 1) parts.1) _ (on_all _) λ nick u.
    on_bind (λ n. AreBits (unsigned_abs n)) AreMembers (number_at (nth path 2) (pos 1) (greatest uint) parts.2) _
    (number_few (nth path 2) (pos 1) (greatest uint) parts.2 (omega (arith, ints)) (omega (arith, ints))) λ n few.
    one_more members name nick n old few

-- ** all members of a type

-- a list with an entry
abbrev AreSome : Items → Type 0
AreSome no_items = ⊥
AreSome (item d ds) = Unit {0}

some_read : (path : List ℕ) (d : Data) (key : List ℕ) → OnRead AreSome (some_entries_at path d key)
some_read path d key = by (option_and_then as_array (get key d))
  where
    by : (list : Option Items) → OnRead AreSome (or_refused (shape (under path key)) (option_and_then some_items list))
    by None = tt
    by (Some no_items) = tt
    by (Some (item d ds)) = tt

module _ (read : List ℕ → List Member → Data → Result (List Member) Refusal)
    (keeps : (path : List ℕ) (members : List Member) (d : Data) → HaveFewBits members → OnRead AreMembers (read path members d)) where
  each_read : (path : List ℕ) (ds : Items) → AreSome ds → OnRead AreMembers (each (at_entry read path) 0 [] ds)
  unfolding each
  each_read path no_items some = absurd some
  each_read path (item d ds) some =
      on_bind AreMembers AreMembers (read (nth path 0) [] d) (λ members. each (at_entry read path) (0 + 1) members ds)
      (keeps (nth path 0) [] d refl)
      λ members all. on_each AreMembers (at_entry read path) (λ i ms d old. keeps (nth path i) ms d old.few) (0 + 1) members ds all

  pub members_read : (path : List ℕ) (d : Data) → OnRead AreMembers (members_with read path d)
  members_read path d =
      on_bind AreSome AreMembers (some_entries_at path d (codes "members")) _ (some_read path d (codes "members"))
      λ list some. each_read (under path (codes "members")) list some

pub enum_members : (path : List ℕ) (d : Data) → OnRead AreMembers (members_with enum_member_at path d)
enum_members = members_read enum_member_at enum_member

pub flags_members : (path : List ℕ) (d : Data) → OnRead AreMembers (members_with flags_member_at path d)
flags_members = members_read flags_member_at flags_member
