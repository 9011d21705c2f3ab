-- The peers of a pool as the engine knows them: where one sits by its name, one more of them, and one that changes.
use Rattle.std.proofs.Common.{◌≡◌, ◌<◌, ◌+◌, ℕ, zero, suc, Bool, true, false, cond, List, [], ◌∷◌, ◌++◌, drop, length, map, Option, None, Some, String, Global, get_or, slice_get, slice_set, string_bytes, if◌then◌else◌, bytes_eq, refl, sym, ap, subst, ◌∙◌, arith}
use Rattle.std.specs.Prelude.{IfSome, IsTrue}
use Rattle.std.specs.BTreeMap.{BTreeMap, is_at}
use Rattle.std.specs.Map.{lookup}
use Rattle.std.specs.Ordering.{nat_cmp}
use Rattle.std.specs.Cmp.Lexicographic.{slice_cmp}
use Rattle.std.specs.List.{AllByRecursion}
use Rattle.ui_machine.specs.Definition.Names.{place_from, same_name}
use Rattle.ui_machine.specs.Definition.Signals.{Method}
use Rattle.ui_machine.specs.Seq.{read, write}
use Rattle.ui_machine.specs.State.Peers.{Peer, if_left, is_left, no_peer, peer_number}
use Rattle.g_values.proofs.Texts.{same_bytes}
use Rattle.peer_shapes.specs.MethodViews.{is_plain_shape}
use Rattle.engine_world.specs.PeerPlaces.{first_of}
use Rattle.engine_world.specs.SeatView.{AreNumbers, HasPlainShape, seated}
use Rattle.engine_world.specs.declared.seats.Seat.{Seat}
use Rattle.engine_world.proofs.Building.{drop_at}
use Rattle.engine_world.proofs.Details.{same_names}

-- ** by name

unfound : (b : Bool) (i : ℕ) (rest : Option ℕ) → cond b (Some i) rest ≡ None → (b ≡ false) × (rest ≡ None)
unfound true i rest is = absurd (cc is)
unfound false i rest is = (refl, is)

within_from : (i : ℕ) (ps : List Peer) (name : List ℕ) (n : ℕ) → place_from (λ (p : Peer). p.name) i ps name ≡ Some n → n < i + length ps
within_from i [] name n at = cc at
within_from i (p ∷ ps) name n at = by (same_name p.name name) at (within_from (suc i) ps name n)
  where
    by : (b : Bool) → cond b (Some i) (place_from (λ (p : Peer). p.name) (suc i) ps name) ≡ Some n
        → (place_from (λ (p : Peer). p.name) (suc i) ps name ≡ Some n → n < suc i + length ps) → n < i + suc (length ps)
    by true e rest = let same : i ≡ n = cc e in omega arith
    by false e rest = let within = rest e in omega arith

-- what is found sits among the peers
pub number_within : (ps : List Peer) (name : List ℕ) (found : Option ℕ) → found ≡ peer_number ps name → IfSome found (λ n. n < length ps)
number_within ps name None is = tt
number_within ps name (Some n) is = let w = within_from 0 ps name n (sym is) in omega arith

-- where one comes before the last, the last is called otherwise
before_last : (b l : Bool) (i n : ℕ) (rest : Option ℕ) → (b ≡ true → l ≡ false) → cond b (Some i) (cond l (Some n) rest) ≡ cond l (Some n) (cond b (Some i) rest)
before_last true l i n rest apart = rw (apart refl) refl
before_last false l i n rest apart = refl

not_last : (x y n : List ℕ) → same_name x y ≡ false → (l : Bool) → same_name y n ≡ l → same_name x n ≡ true → l ≡ false
not_last x y n apart false last is = refl
not_last x y n apart true last is = let f : y ≡ n = same_names y n last in absurd (cc (apart, ap (same_name x) f, is))

last_from : (i : ℕ) (ps : List Peer) (p : Peer) (n : List ℕ) → place_from (λ (p : Peer). p.name) i ps p.name ≡ None
    → place_from (λ (p : Peer). p.name) i (ps ++ p ∷ []) n ≡ cond (same_name p.name n) (Some (i + length ps)) (place_from (λ (p : Peer). p.name) i ps n)
last_from i [] p n none = ap (λ k. cond (same_name p.name n) (Some k) None) (omega arith)
last_from i (q ∷ ps) p n none =
    let here = unfound (same_name q.name p.name) i (place_from (λ (p : Peer). p.name) (suc i) ps p.name) none in
    let k : suc i + length ps ≡ i + suc (length ps) = omega arith in
    ap (cond (same_name q.name n) (Some i)) (last_from (suc i) ps p n here.1 ∙ ap (λ k. cond (same_name p.name n) (Some k) (place_from (λ (p : Peer). p.name) (suc i) ps n)) k)
    ∙ before_last (same_name q.name n) (same_name p.name n) i (i + suc (length ps)) (place_from (λ (p : Peer). p.name) (suc i) ps n) (not_last q.name p.name n here.0 (same_name p.name n) refl)

-- the last has the number after the others
pub number_last : (ps : List Peer) (p : Peer) (n : List ℕ) → peer_number ps p.name ≡ None → peer_number (ps ++ p ∷ []) n ≡ (if bytes_eq p.name n then Some (length ps) else peer_number ps n)
number_last ps p n none =
    let k : 0 + length ps ≡ length ps = omega arith in
    last_from 0 ps p n none
    ∙ ap (λ m. cond (same_name p.name n) (Some m) (peer_number ps n)) k
    ∙ ap (λ b. cond b (Some (length ps)) (peer_number ps n)) (same_bytes p.name n)

-- the same entries give the same numbers
pub same_numbers : (old new : BTreeMap (String Global) ℕ) (ps : List Peer) → new.entries ≡ old.entries → AreNumbers old ps → AreNumbers new ps
same_numbers old new ps same are name = ap (λ es. lookup (is_at (λ k. slice_cmp nat_cmp name (string_bytes k))) es) same ∙ are name

-- ** one that changes

-- what code reads at a number sits there
pub sits_there : (ss : List Seat) (n : ℕ) (v : Seat) → n < length (map seated ss) → v ≡ get_or ss n v → slice_get ss n ≡ Some v
sits_there [] n v lt is = absurd (omega (arith, lt))
sits_there (s ∷ ss) zero v lt is = ap (λ (t : Seat). Some t) (sym is)
sits_there (s ∷ ss) (suc n) v lt is = sits_there ss n v (omega (arith, lt)) is

pub changed_seat : (ss : List Seat) (n : ℕ) (v w : Seat) (change : Peer → Peer) → slice_get ss n ≡ Some v → seated w ≡ change (seated v)
    → map seated (slice_set ss n w) ≡ write no_peer (map seated ss) n (change (read no_peer (map seated ss) n))
changed_seat [] n v w change at is = cc at
changed_seat (s ∷ ss) zero v w change at is = let here : s ≡ v = cc at in ap (λ p. p ∷ map seated ss) (is ∙ ap (λ (t : Seat). change (seated t)) (sym here))
changed_seat (s ∷ ss) (suc n) v w change at is = ap (λ ps. seated s ∷ ps) (changed_seat ss n v w change at is)

kept_numbers : (i : ℕ) (ss : List Seat) (k : ℕ) (v w : Seat) (n : List ℕ) → slice_get ss k ≡ Some v → w.name ≡ v.name
    → place_from (λ (p : Peer). p.name) i (map seated (slice_set ss k w)) n ≡ place_from (λ (p : Peer). p.name) i (map seated ss) n
kept_numbers i [] k v w n at same = refl
kept_numbers i (s ∷ ss) zero v w n at same =
    let here : s ≡ v = cc at in
    ap (λ (m : String Global). cond (same_name (string_bytes m) n) (Some i) (place_from (λ (p : Peer). p.name) (suc i) (map seated ss) n)) (same ∙ ap (λ (t : Seat). t.name) (sym here))
kept_numbers i (s ∷ ss) (suc k) v w n at same = ap (cond (same_name (string_bytes s.name) n) (Some i)) (kept_numbers (suc i) ss k v w n at same)

-- each keeps its number
pub numbers_changed : (numbers : BTreeMap (String Global) ℕ) (ss : List Seat) (k : ℕ) (v w : Seat) → slice_get ss k ≡ Some v → w.name ≡ v.name
    → AreNumbers numbers (map seated ss) → AreNumbers numbers (map seated (slice_set ss k w))
numbers_changed numbers ss k v w at same are n = are n ∙ sym (kept_numbers 0 ss k v w n at same)

-- ** plain shapes

pub plain_changed : (ss : List Seat) (n : ℕ) (v w : Seat) → slice_get ss n ≡ Some v → w.shape.value ≡ v.shape.value
    → AllByRecursion HasPlainShape (map seated ss) → AllByRecursion HasPlainShape (map seated (slice_set ss n w))
plain_changed [] n v w at same plain = tt
plain_changed (s ∷ ss) zero v w at same plain =
    let here : s ≡ v = cc at in
    (subst (λ (l : List Method). IsTrue (is_plain_shape l)) (ap (λ (t : Seat). t.shape.value) here ∙ sym same) plain.0, plain.1)
plain_changed (s ∷ ss) (suc n) v w at same plain = (plain.0, plain_changed ss n v w at same plain.1)

pub plain_more : (ps : List Peer) (p : Peer) → AllByRecursion HasPlainShape ps → HasPlainShape p → AllByRecursion HasPlainShape (ps ++ p ∷ [])
plain_more [] p plain one = (one, tt)
plain_more (q ∷ ps) p plain one = (plain.0, plain_more ps p plain.1 one)

pub plain_seat : (ss : List Seat) (n : ℕ) (s : Seat) → slice_get ss n ≡ Some s → AllByRecursion HasPlainShape (map seated ss) → IsTrue (is_plain_shape s.shape.value)
plain_seat [] n s at plain = cc at
plain_seat (x ∷ ss) zero s at plain = let here : x ≡ s = cc at in subst (λ (y : Seat). IsTrue (is_plain_shape y.shape.value)) here plain.0
plain_seat (x ∷ ss) (suc n) s at plain = plain_seat ss n s at plain.1

-- ** who is left

module _ (peers : List Peer) (rest : Option ℕ) where
  none_before : (found : Option ℕ) → None ≡ if_left peers found None → if_left peers found rest ≡ rest
  none_before None none = refl
  none_before (Some n) none = by (is_left (slice_get peers n)) none
    where
      by : (b : Bool) → None ≡ cond b (Some n) None → cond b (Some n) rest ≡ rest
      by true h = cc h
      by false h = refl

  some_here : (number : ℕ) (found : Option ℕ) → Some number ≡ if_left peers found None → if_left peers found rest ≡ Some number
  some_here number None some = cc some
  some_here number (Some n) some = by (is_left (slice_get peers n)) some
    where
      by : (b : Bool) → Some number ≡ cond b (Some n) None → cond b (Some n) rest ≡ Some number
      by true h = sym h
      by false h = cc h

module _ (peers : List Peer) (numbers : List (Option ℕ)) (i : ℕ) (number : Option ℕ) (at : slice_get numbers i ≡ Some number) where
  -- the numbers from one on
  from : first_of peers (drop i numbers) ≡ if_left peers number (first_of peers (drop (suc i) numbers))
  from = ap (first_of peers) (drop_at numbers i number at)

  pub not_this : None ≡ if_left peers number None → first_of peers (drop i numbers) ≡ first_of peers (drop (suc i) numbers)
  not_this none = from ∙ none_before peers (first_of peers (drop (suc i) numbers)) number none

  pub this_one : (found : ℕ) → Some found ≡ if_left peers number None → first_of peers (drop i numbers) ≡ Some found
  this_one found some = from ∙ some_here peers (first_of peers (drop (suc i) numbers)) found number some
