-- How handlers are kept: under their numbers, and listed under what they are looked up by.
use Rattle.std.specs.BTreeMap.{get, get_by_text}
use Rattle.std.specs.BTreeSet.{contains}
use Rattle.std.specs.List.{AllByRecursion}
use Rattle.std.specs.Map.{values_of}
use Rattle.std.specs.Option.{IfSome, IsSomeAnd, unwrap_or}
use Rattle.std.specs.Ordering.{nat_cmp, ordering_then}
use Rattle.std.specs.Prelude.{Bool, List, None, Option, Some, cond, count_by, map, min, nat_eq, nat_lt, not, true, ℕ, ⊤, ◌&&◌, ◌*◌, ◌+◌, ◌<◌, ◌≡◌, ◌^◌}
use Rattle.std.specs.declared.cmp.Ordering.{Ordering}
use Rattle.ui_machine.specs.Rules.Connections.{by_code_to}
use Rattle.ui_machine.specs.Rules.EmissionPlan.{runs_for}
use Rattle.ui_machine.specs.State.Handlers.{Handler}
use Rattle.signal_core.specs.Connected.{HasNumbers, Numbered}
use Rattle.signal_core.specs.Emission.{Walk}
use Rattle.signal_core.specs.declared.code_counts.CodeCounts.{CodeCounts}
use Rattle.signal_core.specs.declared.details.Details.{Details}
use Rattle.signal_core.specs.declared.listing.Listing.{Listing}
use Rattle.signal_core.specs.declared.listings.Listings.{Listings}

-- ** numbers under keys

abbrev pub Key : Type 0
Key = ℕ × ℕ × ℕ × ℕ

abbrev pub key_cmp : Key → Key → Ordering
key_cmp x y = ordering_then (ordering_then (ordering_then (nat_cmp x.0 y.0) (nat_cmp x.1 y.1)) (nat_cmp x.2 y.2)) (nat_cmp x.3 y.3)

-- whether a number is listed under three others
abbrev pub is_listed : Listing → (first second third number : ℕ) → Bool
is_listed l first second third number = contains key_cmp l.keys (first, second, third, number)

-- what is listed stays so
abbrev pub Stays : Listing → Listing → Type 0
Stays old new = (a b c n : ℕ) → is_listed old a b c n ≡ true → is_listed new a b c n ≡ true

-- what is listed with another number stays so
abbrev pub StaysBeside : ℕ → Listing → Listing → Type 0
StaysBeside number old new = (a b c n : ℕ) → (n ≡ number → ⊥) → is_listed old a b c n ≡ true → is_listed new a b c n ≡ true

-- a next number is above another one
abbrev pub IsAbove : (given : ℕ) → Option ℕ → Type 0
IsAbove given None = ⊤
IsAbove given (Some next) = (given < next) × (next < 2 ^ 64)

-- a number is not between the two
abbrev pub NotBefore : (given : ℕ) → Option ℕ → ℕ → Type 0
NotBefore given None n = given < n → n < 2 ^ 64 → ⊥
NotBefore given (Some next) n = given < n → n < next → ⊥

-- it is the next number above another one that is listed under three, or there is none
abbrev pub IsNext : Listing → (first second third given : ℕ) → Option ℕ → Type 0
IsNext l first second third given next = IsAbove given next × ((n : ℕ) → is_listed l first second third n ≡ true → NotBefore given next n)

-- the lower one of two
abbrev pub least_of : Option ℕ → Option ℕ → Option ℕ
least_of None b = b
least_of (Some a) None = Some a
least_of (Some a) (Some b) = Some (min a b)

-- ** details

-- the number of a detail, if it has one; 0 is that of none
abbrev pub detail_number : Details → Option (List ℕ) → Option ℕ
detail_number d None = Some 0
detail_number d (Some bytes) = get_by_text d.numbers bytes

-- a signal, and whether a handler runs after the class handler
abbrev pub channel : (signal : ℕ) → (after : Bool) → ℕ
channel signal after = 2 * signal + cond after 1 0

-- ** how many bytecode has connected

abbrev pub pair_cmp : ℕ × ℕ → ℕ × ℕ → Ordering
pair_cmp x y = ordering_then (nat_cmp x.0 y.0) (nat_cmp x.1 y.1)

abbrev pub count_at : CodeCounts → (object signal : ℕ) → ℕ
count_at c object signal = unwrap_or (get pair_cmp c.counts (object, signal)) 0

-- one at a pair, and none at the others
abbrev pub one_at : (object signal o s : ℕ) → ℕ
one_at object signal o s = cond (nat_eq object o && nat_eq signal s) 1 0

-- ** handlers

-- a handler is listed under its program and each object that it is of, and under its signal while nothing blocks it, unless memory ran out
abbrev pub IsListed : Listings → Handler → Type 0
IsListed l h =
    (l.is_whole ≡ true → h.blocks ≡ 0 → IsSomeAnd (detail_number l.details h.detail) (λ detail. is_listed l.by_signal h.object (channel h.signal h.after) detail h.number ≡ true))
    × (is_listed l.by_program h.object h.program 0 h.number ≡ true)
    × (is_listed l.by_object h.object 0 0 h.number ≡ true)
    × IfSome h.arg (λ id. is_listed l.by_object id 0 0 h.number ≡ true)

-- each handler under its number
abbrev pub numbered : List Handler → List (ℕ × Handler)
numbered hs = map (λ h. (h.number, h)) hs

-- handlers by rising numbers, each under its own; all of them are listed, and those that bytecode connected are counted
pub record IsKept (entries : List (ℕ × Handler)) (l : Listings) (last to_come : ℕ) : Type 0 where
  pub room : HasNumbers last to_come
  pub rising : Numbered 0 (values_of entries) last
  pub keyed : entries ≡ numbered (values_of entries)
  pub listed : AllByRecursion (IsListed l) (values_of entries)
  pub counted : (o s : ℕ) → count_at l.by_code o s ≡ count_by (by_code_to o s) (values_of entries)

-- ** looking for a handler

-- whether a handler runs in an emission before the class handler, or after it, and is not blocked
abbrev pub may_run : Walk → (after : Bool) → Handler → Bool
may_run w after h = (runs_for w.object w.signal w.detail h && cond after h.after (not h.after)) && not (nat_lt 0 h.blocks)

-- it is the other one, but for how often it is blocked
abbrev pub IsBeside : Handler → Handler → Type 0
IsBeside h other = h ≡ record other { blocks = h.blocks }

-- it is a number above another one up to which no handler is one of these, or there is none of these above at all
abbrev pub IsNextOf : (Handler → Bool) → (given : ℕ) → List Handler → Option ℕ → Type 0
IsNextOf p given hs None = AllByRecursion (λ h. p h ≡ true → given < h.number → ⊥) hs
IsNextOf p given hs (Some next) = (given < next) × AllByRecursion (λ h. p h ≡ true → given < h.number → h.number < next → ⊥) hs

-- whether a handler has a number, and is one of these
abbrev pub is_numbered : (Handler → Bool) → ℕ → Handler → Bool
is_numbered p number h = nat_eq h.number number && p h
