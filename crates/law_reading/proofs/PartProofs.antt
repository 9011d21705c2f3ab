-- What the parts of a document add, entry by entry.
use Rattle.std.proofs.Common.{ℕ, suc, ◌+◌, ◌≤◌, List, Option, Some, None, Result, Ok, Err, Ordering, Less, Equal, Greater, arith}
use Rattle.std.specs.Prelude.{IfSome}
use Rattle.std.specs.Cmp.Lexicographic.{slice_cmp}
use Rattle.std.specs.Ordering.{match_ordering, nat_cmp}
use Rattle.serde_json.specs.Data.{Data, null, boolean, number, string, array, object, Items, no_items, item, Members, no_members, member}
use Rattle.serde_json.specs.Find.{as_array, get, get_member}
use Rattle.ui_machine.specs.Outcome.{◌>>=◌}
use Rattle.definition_format.specs.Document.{each, entries, entries_at, under}
use Rattle.definition_format.specs.Refusals.{Refusal, shape, or_refused}
use Rattle.definition_format.proofs.Soundness.{OnRead}
use Rattle.law_reading.proofs.WidthProofs.{count, items_width, members_width, width}

-- what follows one reading that gives what is so
pub if_some : {A B : Type 0} (P : B → Type 0) (r : Result A Refusal) (f : A → Result B Refusal) (Q : A → Type 0) → OnRead Q r → ((x : A) → Q x → OnRead P (f x)) → OnRead P (r >>= f)
if_some P (Ok x) f Q q next = next x q
if_some P (Err e) f Q q next = tt

-- ** members

-- a list of at most so many entries, in which no list has more
pub record AreNarrow (n : ℕ) (ds : Items) : Type 0 where
  pub few : count ds ≤ n
  pub narrow : items_width ds ≤ suc n

member_narrow : (n : ℕ) (key : List ℕ) (ms : Members) → members_width ms ≤ n → IfSome (get_member key ms) (λ d. width d ≤ n)
member_narrow n key no_members narrow = tt
member_narrow n key (member l e ms) narrow = by (slice_cmp nat_cmp key l) (member_narrow n key ms (omega (arith, narrow)))
  where
    by : (o : Ordering) → IfSome (get_member key ms) (λ d. width d ≤ n) → IfSome (match_ordering o (get_member key ms) (Some e) (get_member key ms)) (λ d. width d ≤ n)
    by Less rest = rest
    by Equal rest = omega (arith, narrow)
    by Greater rest = rest

get_narrow : (n : ℕ) (key : List ℕ) (d : Data) → width d ≤ n → IfSome (get key d) (λ e. width e ≤ n)
get_narrow n key null narrow = tt
get_narrow n key (boolean b) narrow = tt
get_narrow n key (number x) narrow = tt
get_narrow n key (string s) narrow = tt
get_narrow n key (array ds) narrow = tt
get_narrow n key (object ms) narrow = member_narrow n key ms narrow

array_narrow : (n : ℕ) (path : List ℕ) (d : Data) → width d ≤ suc n → OnRead (AreNarrow n) (or_refused (shape path) (as_array d))
array_narrow n path null narrow = tt
array_narrow n path (boolean b) narrow = tt
array_narrow n path (number x) narrow = tt
array_narrow n path (string s) narrow = tt
array_narrow n path (array ds) narrow = record { few = omega (arith, narrow); narrow = omega (arith, narrow) }
array_narrow n path (object ms) narrow = tt

-- the entries of a member
pub entries_narrow : (n : ℕ) (path key : List ℕ) (d : Data) → width d ≤ suc n → OnRead (AreNarrow n) (entries_at path d key)
entries_narrow n path key d narrow = by (get key d) (get_narrow (suc n) key d narrow)
  where
    by : (o : Option Data) → IfSome o (λ e. width e ≤ suc n) → OnRead (AreNarrow n) (entries (under path key) o)
    by None rest = record { few = omega arith; narrow = omega arith }
    by (Some e) rest = array_narrow n (under path key) e rest

-- ** entry by entry

-- where each entry adds one at most, all add no more than there are
pub each_adds : {S : Type 0} (f : S → ℕ) (step : ℕ → S → Data → Result S Refusal) → ((i : ℕ) (s : S) (d : Data) → OnRead (λ t. f t ≤ f s + 1) (step i s d))
    → (i : ℕ) (s : S) (ds : Items) → OnRead (λ t. f t ≤ f s + count ds) (each step i s ds)
unfolding each
each_adds f step adds i s no_items = omega arith
each_adds {S} f step adds i s (item d ds) = by (λ t. each_adds f step adds (i + 1) t ds) (step i s d) (adds i s d)
  where
    more : (t : S) → f t ≤ f s + 1 → (r : Result S Refusal) → OnRead (λ u. f u ≤ f t + count ds) r → OnRead (λ u. f u ≤ f s + suc (count ds)) r
    more t one (Ok u) rest = omega (arith, one, rest)
    more t one (Err e) rest = tt

    by : ((t : S) → OnRead (λ u. f u ≤ f t + count ds) (each step (i + 1) t ds)) → (r : Result S Refusal) → OnRead (λ t. f t ≤ f s + 1) r
        → OnRead (λ u. f u ≤ f s + suc (count ds)) (r >>= λ t. each step (i + 1) t ds)
    by rest (Ok t) one = more t one (each step (i + 1) t ds) (rest t)
    by rest (Err e) one = tt

-- where each entry that is narrow keeps what is so, all do
pub each_keeps : {S : Type 0} (n : ℕ) (P : S → Type 0) (step : ℕ → S → Data → Result S Refusal) → ((i : ℕ) (s : S) (d : Data) → width d ≤ suc n → P s → OnRead P (step i s d))
    → (i : ℕ) (s : S) (ds : Items) → items_width ds ≤ suc n → P s → OnRead P (each step i s ds)
unfolding each
each_keeps n P step keeps i s no_items narrow p = p
each_keeps n P step keeps i s (item d ds) narrow p =
    if_some P (step i s d) (λ t. each step (i + 1) t ds) P (keeps i s d (omega (arith, narrow)) p) λ t q. each_keeps n P step keeps (i + 1) t ds (omega (arith, narrow)) q
