-- How the peers of objects are closed, one object after the other.
use Rattle.std.proofs.Common.{◌≡◌, refl, ap, sym, ◌∙◌, ℕ, zero, suc, ◌-◌, ◌<◌, ◌≤◌, Bool, List, [], ◌∷◌, length, take, drop, Option, None, Some, IsSome, arith}
use Rattle.ui_machine.specs.Rules.Disposal.{peer_of}
use Rattle.ui_machine.specs.Seq.{read}
use Rattle.ui_machine.specs.State.Objects.{Object, Objects, living}
use Rattle.ui_machine.specs.State.Peers.{Peer}
use Rattle.native_peers.specs.Seen.{Seen}
use Rattle.instance_tables.specs.Store.{IsNextLiving}
use Rattle.ui_engine.specs.Endings.{closed_at, closed_at_if, closed_in_order, is_taken, taken_closed}
use Rattle.ui_engine.proofs.TakenProofs.{taken_once}

-- ** parts of a list

read_taken : (n : ℕ) (os : Objects) (j : ℕ) → j < n → read None (take n os) j ≡ read None os j
read_taken zero os j inside = absurd (omega (arith, inside))
read_taken (suc n) [] j inside = refl
read_taken (suc n) (o ∷ os) zero inside = refl
read_taken (suc n) (o ∷ os) (suc j) inside = read_taken n os j (omega (arith, inside))

none_taken : (n : ℕ) (os : Objects) (j : ℕ) → read None os j ≡ None → read None (take n os) j ≡ None
none_taken zero os j none = refl
none_taken (suc n) [] j none = refl
none_taken (suc n) (o ∷ os) zero none = none
none_taken (suc n) (o ∷ os) (suc j) none = none_taken n os j none

past_taken : (n : ℕ) (os : Objects) (j : ℕ) → n ≤ j → read None (take n os) j ≡ None
past_taken zero os j past = refl
past_taken (suc n) [] j past = refl
past_taken (suc n) (o ∷ os) zero past = absurd (omega (arith, past))
past_taken (suc n) (o ∷ os) (suc j) past = past_taken n os j (omega (arith, past))

not_some : {A : Type 0} (o : Option A) → (IsSome o → ⊥) → o ≡ None
not_some None none = refl
not_some (Some x) none = absurd (none refl)

module _ (peers : List Peer) where
  -- ** closing one

  -- there is no peer of this number
  closed_past : (b : Bool) (k : ℕ) (pool : List Seen) → length pool ≤ k → closed_at_if b k pool ≡ pool
  closed_past b k [] past = refl
  closed_past b zero (s ∷ pool) past = absurd (omega (arith, past))
  closed_past b (suc k) (s ∷ pool) past = ap (λ (l : List Seen). s ∷ l) (closed_past b k pool (omega (arith, past)))

  pub no_peer : (o : Option ℕ) (pool : List Seen) → o ≡ None → pool ≡ closed_at peers o pool
  no_peer o pool is = sym (ap (λ x. closed_at peers x pool) is)

  pub peer_past : (o : Option ℕ) (k : ℕ) (pool : List Seen) → o ≡ Some k → length pool ≤ k → pool ≡ closed_at peers o pool
  peer_past o k pool is past = sym (ap (λ x. closed_at peers x pool) is ∙ closed_past (is_taken peers k) k pool past)

  pub peer_closed : (o : Option ℕ) (k : ℕ) (old new : List Seen) → o ≡ Some k → new ≡ closed_at_if (is_taken peers k) k old → new ≡ closed_at peers o old
  peer_closed o k old new is closed = closed ∙ sym (ap (λ x. closed_at peers x old) is)

  -- ** one object after the other

  over_none : (os : Objects) (from to : ℕ) (pool : List Seen) → from ≤ to → ((j : ℕ) → from ≤ j → j < to → read None os j ≡ None)
      → closed_in_order peers (drop from os) pool ≡ closed_in_order peers (drop to os) pool
  over_none [] zero zero pool low none = refl
  over_none [] zero (suc to) pool low none = refl
  over_none [] (suc from) zero pool low none = refl
  over_none [] (suc from) (suc to) pool low none = refl
  over_none (o ∷ os) zero zero pool low none = refl
  over_none (o ∷ os) zero (suc to) pool low none =
      ap (λ x. closed_in_order peers os (closed_at peers (peer_of x) pool)) (none 0 (omega arith) (omega arith))
      ∙ over_none os zero to pool (omega arith) (λ j l h. none (suc j) (omega arith) (omega (arith, h)))
  over_none (o ∷ os) (suc from) zero pool low none = absurd (omega (arith, low))
  over_none (o ∷ os) (suc from) (suc to) pool low none =
      over_none os from to pool (omega (arith, low)) (λ j l h. none (suc j) (omega (arith, l)) (omega (arith, h)))

  over_one : (os : Objects) (b : ℕ) (pool : List Seen) → closed_in_order peers (drop b os) pool ≡ closed_in_order peers (drop (suc b) os) (closed_at peers (peer_of (read None os b)) pool)
  over_one [] zero pool = refl
  over_one [] (suc b) pool = refl
  over_one (o ∷ os) zero pool = refl
  over_one (o ∷ os) (suc b) pool = over_one os b pool

  over_rest : (os : Objects) (from : ℕ) (pool : List Seen) → ((j : ℕ) → from ≤ j → read None os j ≡ None) → closed_in_order peers (drop from os) pool ≡ pool
  over_rest [] zero pool none = refl
  over_rest [] (suc from) pool none = refl
  over_rest (o ∷ os) zero pool none =
      ap (λ x. closed_in_order peers os (closed_at peers (peer_of x) pool)) (none 0 (omega arith))
      ∙ over_rest os zero pool (λ j l. none (suc j) (omega arith))
  over_rest (o ∷ os) (suc from) pool none = over_rest os from pool (λ j l. none (suc j) (omega (arith, l)))

  module _ (n : ℕ) (os : Objects) (from : ℕ) where
    -- none between lives
    none_between : (b : ℕ) → IsNextLiving os from (Some (suc b)) → (j : ℕ) → from - 1 ≤ j → j < b → read None os j ≡ None
    none_between b next j low high =
        not_some (read None os j)
        (λ some.
        let found = next.lowest (suc j) (omega (arith, low)) some in
        let same : suc b ≡ found.0 = cc found.1 in
        let last = found.2 in
        omega (arith, same, last, high))

    -- the next object
    pub next_closed : (id : ℕ) (pool : List Seen) → IsNextLiving os from (Some id) → id ≤ n
        → closed_in_order peers (drop (from - 1) (take n os)) pool ≡ closed_in_order peers (drop id (take n os)) (closed_at peers (peer_of (living os id)) pool)
    next_closed zero pool next few = absurd (cc ((next.lives zero refl).1))
    next_closed (suc b) pool next few =
        let low = (next.lives (suc b) refl).0 in
        over_none (take n os) (from - 1) b pool (omega (arith, low)) (λ j l h. none_taken n os j (none_between b next j l h))
        ∙ (over_one (take n os) b pool
        ∙ ap (λ o. closed_in_order peers (drop (suc b) (take n os)) (closed_at peers (peer_of o) pool)) (read_taken n os b (omega (arith, few))))

    -- no object is left
    pub none_left : (pool : List Seen) → IsNextLiving os from None → closed_in_order peers (drop (from - 1) (take n os)) pool ≡ pool
    none_left pool next =
        over_rest (take n os) (from - 1) pool
        (λ j low. none_taken n os j (not_some (read None os j) (λ some. let found = next.lowest (suc j) (omega (arith, low)) some in absurd (cc found.1))))

  -- no identity is left
  pub none_past : (n id : ℕ) (os : Objects) (pool : List Seen) → n ≤ id → closed_in_order peers (drop id (take n os)) pool ≡ pool
  none_past n id os pool past = over_rest (take n os) id pool (λ j low. past_taken n os j (omega (arith, past, low)))

  -- one object after those before it
  pub one_on : (n : ℕ) (os : Objects) (from id next : ℕ) (start old new : List Seen) → IsNextLiving os from (Some id) → id ≤ n → next - 1 ≡ id
      → new ≡ closed_at peers (peer_of (living os id)) old → closed_in_order peers (drop (from - 1) (take n os)) old ≡ start
      → closed_in_order peers (drop (next - 1) (take n os)) new ≡ start
  one_on n os from id next start old new lives few is closed so =
      ap (λ k. closed_in_order peers (drop k (take n os)) new) is
      ∙ (ap (λ pool. closed_in_order peers (drop id (take n os)) pool) closed
      ∙ (sym (next_closed n os from id old lives few) ∙ so))

  -- the object of the last identity
  pub last_one : (n : ℕ) (os : Objects) (from id : ℕ) (start old new : List Seen) → IsNextLiving os from (Some id) → id ≡ n
      → new ≡ closed_at peers (peer_of (living os id)) old → closed_in_order peers (drop (from - 1) (take n os)) old ≡ start → new ≡ start
  last_one n os from id start old new lives is closed so =
      sym (none_past n id os new (omega (arith, is)))
      ∙ (ap (λ pool. closed_in_order peers (drop id (take n os)) pool) closed
      ∙ (sym (next_closed n os from id old lives (omega (arith, is))) ∙ so))

  -- the loop has ended
  pub left_none : (n : ℕ) (os : Objects) (from : ℕ) (start old : List Seen) → IsNextLiving os from None
      → closed_in_order peers (drop (from - 1) (take n os)) old ≡ start → old ≡ start
  left_none n os from start old lives so = sym (none_left n os from old lives) ∙ so

  -- ** at the end

  at_once : (o : Option ℕ) (pool : List Seen) → taken_closed peers (closed_at peers o pool) ≡ taken_closed peers pool
  at_once None pool = refl
  at_once (Some k) pool = taken_once k peers pool

  -- what was closed in order makes no difference to what is closed in all
  pub in_order_once : (os : Objects) (pool : List Seen) → taken_closed peers (closed_in_order peers os pool) ≡ taken_closed peers pool
  in_order_once [] pool = refl
  in_order_once (o ∷ os) pool = in_order_once os (closed_at peers (peer_of o) pool) ∙ at_once (peer_of o) pool
