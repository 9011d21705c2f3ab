-- Peers that are passed over: those of a place that are not left, from the first one on.
use Rattle.std.proofs.Common.{◌≡◌, ◌<◌, ◌≤◌, ℕ, zero, suc, Bool, true, false, cond, nat_eq, List, [], ◌∷◌, drop, length, replicate, take, Option, None, Some, Vec, Global, is_some, slice_get, slice_set, is_none, refl, sym, ap, ◌∙◌, arith}
use Rattle.std.specs.Prelude.{IfSome, IsSomeAnd, map}
use Rattle.std.proofs.lemmas.Option.{slice_get_within}
use Rattle.std.proofs.lemmas.Bool.Decides.{nat_tests}
use Rattle.ui_machine.specs.Definition.{Definition}
use Rattle.ui_machine.specs.Definition.Names.{place_from, same_name}
use Rattle.ui_machine.specs.Definition.Places.{Place}
use Rattle.ui_machine.specs.Rules.Construction.{lent}
use Rattle.ui_machine.specs.Seq.{read, write}
use Rattle.ui_machine.specs.State.Peers.{Peer, closed_peer, first_left, if_left, is_left, no_peer, peer_number}
use Rattle.engine_world.specs.PeerPlaces.{AreAlike, AreGot, AreNumbered, Numbered, first_of}
use Rattle.engine_world.specs.SeatView.{closed_at}

-- ** names whose peers are not left

pub none_found : (o : Option ℕ) → is_some o ≡ false → o ≡ None
none_found None none = refl
none_found (Some n) none = absurd (cc none)

-- where none of a name and of others is left, none of the name is, and none of the others
module _ (peers : List Peer) where
  none_both : (found rest : Option ℕ) → if_left peers found rest ≡ None → (if_left peers found None ≡ None) × (rest ≡ None)
  none_both None rest none = (refl, none)
  none_both (Some n) rest none = by (is_left (slice_get peers n)) none
    where
      by : (b : Bool) → cond b (Some n) rest ≡ None → (cond b (Some n) None ≡ None) × (rest ≡ None)
      by true e = absurd (cc e)
      by false e = (refl, e)

  none_more : (found rest other : Option ℕ) → if_left peers found None ≡ None → rest ≡ other → if_left peers found rest ≡ other
  none_more None rest other none is = is
  none_more (Some n) rest other none is = by (is_left (slice_get peers n)) none
    where
      by : (b : Bool) → cond b (Some n) None ≡ None → cond b (Some n) rest ≡ other
      by true e = absurd (cc e)
      by false e = is

  -- what is passed over is not looked for
  pub left_past : (numbers : List (Option ℕ)) (n : ℕ) → first_of peers (take n numbers) ≡ None → first_of peers numbers ≡ first_of peers (drop n numbers)
  left_past numbers zero none = refl
  left_past [] (suc n) none = refl
  left_past (number ∷ numbers) (suc n) none =
      let both = none_both number (first_of peers (take n numbers)) none in
      none_more number (first_of peers numbers) (first_of peers (drop n numbers)) both.0 (left_past numbers n both.1)

  -- one more is passed over
  pub one_past : (numbers : List (Option ℕ)) (n : ℕ) (number : Option ℕ) → slice_get numbers n ≡ Some number → if_left peers number None ≡ None
      → first_of peers (take n numbers) ≡ None → first_of peers (take (suc n) numbers) ≡ None
  one_past [] n number at not none = absurd (cc at)
  one_past (x ∷ numbers) zero number at not none =
      let here : x ≡ number = cc at in
      ap (λ y. if_left peers y None) here ∙ not
  one_past (x ∷ numbers) (suc n) number at not none =
      let both = none_both x (first_of peers (take n numbers)) none in
      none_more x (first_of peers (take (suc n) numbers)) None both.0 (one_past numbers n number at not both.1)

  -- all are passed over
  pub all_past : (numbers : List (Option ℕ)) (n : ℕ) → length numbers ≤ n → first_of peers (take n numbers) ≡ None → first_of peers (take (length numbers) numbers) ≡ None
  all_past [] n long none = refl
  all_past (x ∷ numbers) zero long none = absurd (omega (arith, long))
  all_past (x ∷ numbers) (suc n) long none =
      let both = none_both x (first_of peers (take n numbers)) none in
      none_more x (first_of peers (take (length numbers) numbers)) None both.0 (all_past numbers n (omega (arith, long)) both.1)

  -- ** numbers that are those of names

  pub named_past : (names : List (List ℕ)) (n : ℕ) → first_of peers (take n (map (peer_number peers) names)) ≡ first_left peers (take n names)
  named_past names zero = refl
  named_past [] (suc n) = refl
  named_past (name ∷ names) (suc n) = ap (if_left peers (peer_number peers name)) (named_past names n)

  pub named_left : (names : List (List ℕ)) → first_of peers (map (peer_number peers) names) ≡ first_left peers names
  named_left [] = refl
  named_left (name ∷ names) = ap (if_left peers (peer_number peers name)) (named_left names)

  -- a peer that is left is there
  pub left_within : (n : ℕ) → is_left (slice_get peers n) ≡ true → n < length peers
  left_within n left = by (slice_get peers n) refl left
    where
      by : (o : Option Peer) → slice_get peers n ≡ o → is_left o ≡ true → n < length peers
      by None e is = absurd (cc is)
      by (Some p) e is = slice_get_within peers n p e

-- ** peers that change

-- a peer that goes by the name of the one in whose place it comes
renamed : (i : ℕ) (peers : List Peer) (k : ℕ) (x : Peer) (name : List ℕ) → x.name ≡ (read no_peer peers k).name → k < length peers
    → place_from (λ (p : Peer). p.name) i (write no_peer peers k x) name ≡ place_from (λ (p : Peer). p.name) i peers name
renamed i [] k x name same lt = absurd (omega (arith, lt))
renamed i (p ∷ peers) zero x name same lt = ap (λ n. cond (same_name n name) (Some i) (place_from (λ (p : Peer). p.name) (suc i) peers name)) same
renamed i (p ∷ peers) (suc k) x name same lt = ap (cond (same_name p.name name) (Some i)) (renamed (suc i) peers k x name same (omega (arith, lt)))

-- one that an object has got comes in the place of another: none is left that was not
got_written : (peers : List Peer) (k j : ℕ) (x : Peer) → is_none x.holder ≡ false → k < length peers → is_left (slice_get peers j) ≡ false
    → is_left (slice_get (write no_peer peers k x) j) ≡ false
got_written [] k j x held lt not = absurd (omega (arith, lt))
got_written (p ∷ peers) zero zero x held lt not = held
got_written (p ∷ peers) zero (suc j) x held lt not = not
got_written (p ∷ peers) (suc k) zero x held lt not = not
got_written (p ∷ peers) (suc k) (suc j) x held lt not = got_written peers k j x held (omega (arith, lt)) not

-- one of the same object: the same are left
left_alike : (peers : List Peer) (k j : ℕ) (x : Peer) → x.holder ≡ (read no_peer peers k).holder → k < length peers
    → is_left (slice_get (write no_peer peers k x) j) ≡ is_left (slice_get peers j)
left_alike [] k j x same lt = absurd (omega (arith, lt))
left_alike (p ∷ peers) zero zero x same lt = ap (λ (o : Option ℕ). is_none o) same
left_alike (p ∷ peers) zero (suc j) x same lt = refl
left_alike (p ∷ peers) (suc k) zero x same lt = refl
left_alike (p ∷ peers) (suc k) (suc j) x same lt = left_alike peers k j x same (omega (arith, lt))

-- ** what is left of names

not_left : (old new : List Peer) → ((j : ℕ) → is_left (slice_get old j) ≡ false → is_left (slice_get new j) ≡ false)
    → (found : Option ℕ) → if_left old found None ≡ None → if_left new found None ≡ None
not_left old new fewer None none = refl
not_left old new fewer (Some n) none = ap (λ b. cond b (Some n) None) (fewer n (by (is_left (slice_get old n)) none))
  where
    by : (b : Bool) → cond b (Some n) None ≡ None → b ≡ false
    by true e = absurd (cc e)
    by false e = refl

module _ (old new : List Peer) (names_alike : (name : List ℕ) → peer_number new name ≡ peer_number old name) where
  none_still : ((j : ℕ) → is_left (slice_get old j) ≡ false → is_left (slice_get new j) ≡ false)
      → (names : List (List ℕ)) → first_left old names ≡ None → first_left new names ≡ None
  none_still fewer [] none = refl
  none_still fewer (name ∷ names) none =
      let both = none_both old (peer_number old name) (first_left old names) none in
      let here : if_left new (peer_number new name) None ≡ None = ap (λ o. if_left new o None) (names_alike name) ∙ not_left old new fewer (peer_number old name) both.0 in
      none_more new (peer_number new name) (first_left new names) None here (none_still fewer names both.1)

  as_many : (found rest other : Option ℕ) → ((j : ℕ) → is_left (slice_get new j) ≡ is_left (slice_get old j)) → rest ≡ other → if_left new found rest ≡ if_left old found other
  as_many None rest other alike is = is
  as_many (Some n) rest other alike is = ap (λ b. cond b (Some n) rest) (alike n) ∙ ap (cond (is_left (slice_get old n)) (Some n)) is

  same_first : ((j : ℕ) → is_left (slice_get new j) ≡ is_left (slice_get old j)) → (names : List (List ℕ)) → first_left new names ≡ first_left old names
  same_first alike [] = refl
  same_first alike (name ∷ names) =
      ap (λ o. if_left new o (first_left new names)) (names_alike name)
      ∙ as_many (peer_number old name) (first_left new names) (first_left old names) alike (same_first alike names)

-- what is passed over stays so as a peer becomes an object's
pub none_lent : (peers : List Peer) (peer : Option ℕ) (id : ℕ) → IfSome peer (λ k. k < length peers) → (names : List (List ℕ)) → first_left peers names ≡ None
    → first_left (lent peer id peers) names ≡ None
none_lent peers None id within names none = none
none_lent peers (Some k) id within names none =
    let x : Peer = record (read no_peer peers k) { holder = Some id } in
    none_still peers (write no_peer peers k x) (λ name. renamed 0 peers k x name refl within) (λ j. got_written peers k j x refl within) names none

-- and all have their names
pub names_lent : (peers : List Peer) (peer : Option ℕ) (id : ℕ) → IfSome peer (λ k. k < length peers) → (name : List ℕ) → peer_number (lent peer id peers) name ≡ peer_number peers name
names_lent peers None id within name = refl
names_lent peers (Some k) id within name = renamed 0 peers k (record (read no_peer peers k) { holder = Some id }) name refl within

-- the same are left as one is closed
pub alike_closed : (peers : List Peer) (k : ℕ) → k < length peers → AreAlike peers (closed_at peers k)
alike_closed peers k within =
    let x : Peer = closed_peer (read no_peer peers k) in
    let numbers : (name : List ℕ) → peer_number (write no_peer peers k x) name ≡ peer_number peers name = λ name. renamed 0 peers k x name refl within in
    record { numbers = numbers; left = same_first peers (write no_peer peers k x) numbers (λ j. left_alike peers k j x refl within) }

-- ** of each place

pub lent_got : (d : Definition) (peers : List Peer) (peer : Option ℕ) (id : ℕ) (got : List ℕ) → IfSome peer (λ k. k < length peers)
    → AreGot d peers got → AreGot d (lent peer id peers) got
lent_got d peers peer id got within are place p at = none_lent peers peer id within (take (read 0 got place) p.peers) (are place p at)

pub alike_got : (d : Definition) (old new : List Peer) (got : List ℕ) → AreAlike old new → AreGot d old got → AreGot d new got
alike_got d old new got alike are place p at = alike.left (take (read 0 got place) p.peers) ∙ are place p at

same_numbers : (old new : List Peer) → ((name : List ℕ) → peer_number new name ≡ peer_number old name) → (names : List (List ℕ)) → map (peer_number old) names ≡ map (peer_number new) names
same_numbers old new alike [] = refl
same_numbers old new alike (name ∷ names) = rw (alike name, same_numbers old new alike names) refl

-- the numbers stay where each peer has its name
pub alike_numbered : (d : Definition) (old new : List Peer) (kept : List (Vec (Option ℕ) Global)) → ((name : List ℕ) → peer_number new name ≡ peer_number old name)
    → AreNumbered d old kept → AreNumbered d new kept
alike_numbered d old new kept alike are place p at = by (slice_get kept place) (are place p at)
  where
    by : (o : Option (Vec (Option ℕ) Global)) → IsSomeAnd o (λ numbers. Numbered old p.peers numbers.items) → IsSomeAnd o (λ numbers. Numbered new p.peers numbers.items)
    by None is = is
    by (Some numbers) is = is ∙ same_numbers old new alike p.peers

-- the numbers that are kept of a place are those of its peers
pub numbers_kept : (d : Definition) (peers : List Peer) (kept : List (Vec (Option ℕ) Global)) (place : ℕ) (p : Place) (numbers : List (Option ℕ)) → slice_get d.places place ≡ Some p
    → IfSome (slice_get kept place) (λ ns. numbers ≡ ns.items) → AreNumbered d peers kept → Numbered peers p.peers numbers
numbers_kept d peers kept place p numbers at is are = by (slice_get kept place) is (are place p at)
  where
    by : (o : Option (Vec (Option ℕ) Global)) → IfSome o (λ ns. numbers ≡ ns.items) → IsSomeAnd o (λ ns. Numbered peers p.peers ns.items) → Numbered peers p.peers numbers
    by None e is = absurd is
    by (Some ns) e is = e ∙ is

-- nothing is passed over where no number is kept but 0
none_got : (d : Definition) (peers : List Peer) (got : List ℕ) → ((place : ℕ) → read 0 got place ≡ 0) → AreGot d peers got
none_got d peers got zeros place p at = ap (λ n. first_left peers (take n p.peers)) (zeros place)

read_zeros : (n place : ℕ) → read {A = ℕ} 0 (replicate n 0) place ≡ 0
read_zeros zero place = refl
read_zeros (suc n) zero = refl
read_zeros (suc n) (suc place) = read_zeros n place

pub zeros_got : (d : Definition) (peers : List Peer) (got : List ℕ) (n : ℕ) → got ≡ replicate n 0 → AreGot d peers got
zeros_got d peers got n is = none_got d peers got (λ place. ap (λ (ns : List ℕ). read 0 ns place) is ∙ read_zeros n place)

-- the number of one place changes
pub read_here : (got : List ℕ) (k n : ℕ) → k < length got → read 0 (slice_set got k n) k ≡ n
read_here [] k n lt = absurd (omega (arith, lt))
read_here (g ∷ got) zero n lt = refl
read_here (g ∷ got) (suc k) n lt = read_here got k n (omega (arith, lt))

pub read_beside : (got : List ℕ) (k n place : ℕ) → (k ≡ place → ⊥) → read 0 (slice_set got k n) place ≡ read 0 got place
read_beside [] k n place other = refl
read_beside (g ∷ got) zero n zero other = absurd (other refl)
read_beside (g ∷ got) zero n (suc place) other = refl
read_beside (g ∷ got) (suc k) n zero other = refl
read_beside (g ∷ got) (suc k) n (suc place) other = read_beside got k n place (λ e. other (ap suc e))

pub counted_got : (d : Definition) (peers : List Peer) (got : List ℕ) (k n : ℕ) (x : Place) → k < length got → slice_get d.places k ≡ Some x
    → (first_left peers (take (read 0 got k) x.peers) ≡ None → first_left peers (take n x.peers) ≡ None)
    → AreGot d peers got → AreGot d peers (slice_set got k n)
counted_got d peers got k n x lt here more are place p at = by (nat_eq k place) refl
  where
    by : (b : Bool) → nat_eq k place ≡ b → first_left peers (take (read 0 (slice_set got k n) place) p.peers) ≡ None
    by true e =
        let same : k ≡ place = grind (arith, nat_tests) in
        let one : x ≡ p = cc (here, ap (slice_get d.places) same, at) in
        ap (λ m. first_left peers (take m p.peers)) (ap (read 0 (slice_set got k n)) (sym same) ∙ read_here got k n lt)
        ∙ ap (λ (q : Place). first_left peers (take n q.peers)) (sym one)
        ∙ more (are k x here)
    by false e =
        let other : k ≡ place → ⊥ = λ same. grind (arith, nat_tests, e, same) in
        ap (λ m. first_left peers (take m p.peers)) (read_beside got k n place other) ∙ are place p at
