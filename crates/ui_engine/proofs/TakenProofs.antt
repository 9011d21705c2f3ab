-- How the boxes are closed whose peers objects have got.
use Rattle.std.proofs.Common.{◌≡◌, refl, ap, sym, ◌∙◌, ℕ, zero, suc, ◌+◌, ◌-◌, ◌^◌, ◌<◌, ◌≤◌, Bool, true, false, List, [], ◌∷◌, length, take, Option, None, Some, arith}
use Rattle.std.specs.Prelude.{MatchOption, is_some, slice_get, slice_set, option_map}
use Rattle.ui_machine.specs.State.Objects.{most_identities}
use Rattle.ui_machine.specs.Seq.{read}
use Rattle.ui_machine.specs.State.Peers.{Peer}
use Rattle.native_peers.specs.Moves.{closed}
use Rattle.native_peers.specs.Seen.{ClosesAt, Seen}
use Rattle.ui_engine.specs.Endings.{closed_at_if, closed_if, is_taken, taken_closed}
use Rattle.engine_dispatches.proofs.Living.{no_seen}

closed_not : (k : ℕ) (pool : List Seen) → closed_at_if false k pool ≡ pool
closed_not k [] = refl
closed_not zero (s ∷ pool) = refl
closed_not (suc k) (s ∷ pool) = ap (λ (l : List Seen). s ∷ l) (closed_not k pool)

-- where it is not taken
pub untaken : (b : Bool) (k : ℕ) (pool : List Seen) → b ≡ false → pool ≡ closed_at_if b k pool
untaken b k pool is = sym (ap (λ x. closed_at_if x k pool) is ∙ closed_not k pool)

closed_already : (k : ℕ) (pool : List Seen) → (read no_seen pool k).state.is_open ≡ false → closed_at_if true k pool ≡ pool
closed_already k [] is = refl
closed_already zero (s ∷ pool) is = ap (λ o. record s { state = record s.state { is_open = o } } ∷ pool) (sym is)
closed_already (suc k) (s ∷ pool) is = ap (λ (l : List Seen). s ∷ l) (closed_already k pool is)

-- where it is closed
pub shut_already : (b : Bool) (k : ℕ) (pool : List Seen) → (read no_seen pool k).state.is_open ≡ false → pool ≡ closed_at_if b k pool
shut_already true k pool is = sym (closed_already k pool is)
shut_already false k pool is = sym (closed_not k pool)

closed_set : (k : ℕ) (pool : List Seen) (s : Seen) → slice_get pool k ≡ Some s → slice_set pool k (record s { state = closed s.state }) ≡ closed_at_if true k pool
closed_set k [] s at = absurd (cc at)
closed_set zero (x ∷ pool) s at = let here : x ≡ s = cc at in ap (λ (y : Seen). record y { state = closed y.state } ∷ pool) (sym here)
closed_set (suc k) (x ∷ pool) s at = ap (λ (l : List Seen). x ∷ l) (closed_set k pool s at)

-- where it is closed now
pub shut_now : (b : Bool) (k : ℕ) (old new : List Seen) → b ≡ true → ClosesAt k old new → new ≡ closed_at_if b k old
shut_now b k old new is closes = closes.new_state ∙ closed_set k old closes.peer closes.at ∙ ap (λ x. closed_at_if x k old) (sym is)

-- one more
pub taken_more : (n : ℕ) (peers : List Peer) (pool : List Seen) → closed_at_if (is_taken peers n) n (taken_closed (take n peers) pool) ≡ taken_closed (take (suc n) peers) pool
taken_more zero [] pool = closed_not zero pool
taken_more (suc n) [] pool = closed_not (suc n) pool
taken_more zero (p ∷ peers) [] = refl
taken_more zero (p ∷ peers) (s ∷ pool) = refl
taken_more (suc n) (p ∷ peers) [] = refl
taken_more (suc n) (p ∷ peers) (s ∷ pool) = ap (λ (l : List Seen). closed_if (is_some p.holder) s ∷ l) (taken_more n peers pool)

-- all of them
pub taken_all : (n : ℕ) (peers : List Peer) (pool : List Seen) → length pool ≤ n → taken_closed (take n peers) pool ≡ taken_closed peers pool
taken_all zero [] pool all = refl
taken_all (suc n) [] pool all = refl
taken_all zero (p ∷ peers) [] all = refl
taken_all zero (p ∷ peers) (s ∷ pool) all = absurd (omega (arith, all))
taken_all (suc n) (p ∷ peers) [] all = refl
taken_all (suc n) (p ∷ peers) (s ∷ pool) all = ap (λ (l : List Seen). closed_if (is_some p.holder) s ∷ l) (taken_all n peers pool (omega (arith, all)))

-- closing keeps how many there are
taken_long : (peers : List Peer) (pool : List Seen) → length (taken_closed peers pool) ≡ length pool
taken_long [] pool = refl
taken_long (p ∷ peers) [] = refl
taken_long (p ∷ peers) (s ∷ pool) = ap (λ n. suc n) (taken_long peers pool)

pub inside_still : (now old : List Seen) (peers : List Peer) (n : ℕ) → now ≡ taken_closed peers old → n < length old → n < length now
inside_still now old peers n is inside =
    let long : length now ≡ length old = ap (λ (l : List Seen). length l) is ∙ taken_long peers old in
    omega (arith, long, inside)

pub taken_on : (n : ℕ) (peers : List Peer) (old now new : List Seen) → now ≡ taken_closed (take n peers) old → new ≡ closed_at_if (is_taken peers n) n now → new ≡ taken_closed (take (n + 1) peers) old
taken_on n peers old now new is closes =
    let next : suc n ≡ n + 1 = omega arith in
    closes ∙ ap (λ (l : List Seen). closed_at_if (is_taken peers n) n l) is ∙ taken_more n peers old ∙ ap (λ k. taken_closed (take k peers) old) next

pub taken_end : (now old : List Seen) (peers : List Peer) (n : ℕ) → now ≡ taken_closed (take n peers) old → length old ≤ n → now ≡ taken_closed peers old
taken_end now old peers n is all = is ∙ taken_all n peers old all

-- whether an object has got it
pub taken_there : {A : Type 0} (f : A → ℕ) (held : Option A) (peers : List Peer) (n : ℕ) (p : Peer) → slice_get peers n ≡ Some p → p.holder ≡ option_map f held → is_some held ≡ is_taken peers n
taken_there f held [] n p at is = absurd (cc at)
taken_there f held (x ∷ peers) zero p at is = let here : x ≡ p = cc at in mapped held ∙ ap (λ o. is_some o) (sym is) ∙ ap (λ (y : Peer). is_some y.holder) (sym here)
  where
    mapped : (o : Option _) → is_some o ≡ is_some (option_map f o)
    mapped None = refl
    mapped (Some a) = refl
taken_there f held (x ∷ peers) (suc n) p at is = taken_there f held peers n p at is

pub none_taken : (peers : List Peer) (n : ℕ) → slice_get peers n ≡ None → false ≡ is_taken peers n
none_taken [] n at = refl
none_taken (x ∷ peers) zero at = absurd (cc at)
none_taken (x ∷ peers) (suc n) at = none_taken peers n at

-- ** closed once more

-- closing what an object has got changes nothing of what is closed at the end
pub taken_once : (k : ℕ) (peers : List Peer) (pool : List Seen) → taken_closed peers (closed_at_if (is_taken peers k) k pool) ≡ taken_closed peers pool
taken_once k [] pool = closed_not k pool
taken_once k (p ∷ peers) [] = refl
taken_once zero (p ∷ peers) (s ∷ pool) = by (is_some p.holder)
  where
    by : (b : Bool) → closed_if b (closed_if b s) ∷ taken_closed peers pool ≡ closed_if b s ∷ taken_closed peers pool
    by true = refl
    by false = refl
taken_once (suc k) (p ∷ peers) (s ∷ pool) = ap (λ (l : List Seen). closed_if (is_some p.holder) s ∷ l) (taken_once k peers pool)

-- ** from identity to identity

-- what is told of the identity after this one
abbrev After : ℕ → Option ℕ → Type 0
After id r = MatchOption r (id ≡ most_identities) (λ next. (id < most_identities) × (next ≡ id + 1))

pub has_next : (id next : ℕ) (r : Option ℕ) → After id r → r ≡ Some next → (id < most_identities) × (next ≡ id + 1)
has_next id next None is at = absurd (cc at)
has_next id next (Some n) is at = let same : n ≡ next = cc at in (is.0, sym same ∙ is.1)

pub no_next : (id : ℕ) (r : Option ℕ) → After id r → r ≡ None → id ≡ most_identities
no_next id None is at = is
no_next id (Some n) is at = absurd (cc at)

pub comes_nearer : (from id next : ℕ) (r : Option ℕ) → from ≤ id → After id r → r ≡ Some next → 2 ^ 64 - next < 2 ^ 64 - from
comes_nearer from id next r low is at =
    let found = has_next id next r is at in
    let few : id < 18446744073709551615 = found.0 in
    let after : next ≡ id + 1 = found.1 in
    omega (arith, few, after, low)
