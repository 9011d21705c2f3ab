-- The numbers of the peers that places name.
use Rattle.std.proofs.Common.{◌≡◌, ◌<◌, ◌+◌, ℕ, zero, suc, Bool, true, false, nat_eq, List, [], ◌∷◌, ◌++◌, length, map, take, Option, None, Some, Ok, Vec, String, Global, is_some, slice_get, string_bytes, refl, sym, ap, subst, ◌∙◌, arith}
use Rattle.std.specs.Prelude.{IfSome, IsSomeAnd}
use Rattle.std.proofs.lemmas.Bool.Decides.{nat_tests}
use Rattle.ui_machine.specs.declared.arm.Arm.TheVariants as arms
use Rattle.ui_machine.specs.Definition.{Definition}
use Rattle.ui_machine.specs.Definition.Places.{Place}
use Rattle.ui_machine.specs.Outcome.{known, only_if, ◌>>=◌}
use Rattle.ui_machine.specs.Rules.Build.{first_peer, peer_for}
use Rattle.ui_machine.specs.Rules.Construction.{has_shape}
use Rattle.ui_machine.specs.Rules.Transform.{same_bool}
use Rattle.ui_machine.specs.State.Config.{World}
use Rattle.ui_machine.specs.State.Peers.{Peer, peer_number}
use Rattle.definition_format.specs.Meaning.{name_bytes}
use Rattle.engine_world.specs.Able.{Able}
use Rattle.engine_world.specs.PeerPlaces.{Numbered, own_peer}
use Rattle.engine_world.proofs.SeatedPeers.{number_within}

-- ** numbers of names

-- the first peer of names is there
pub first_within : (peers : List Peer) (names : List (List ℕ)) (found : Option ℕ) → found ≡ first_peer peers names → IfSome found (λ n. n < length peers)
first_within peers [] found is = subst (λ (o : Option ℕ). IfSome o (λ n. n < length peers)) (sym is) tt
first_within peers (name ∷ names) found is = number_within peers name found is

-- what the object of a place has, where that is not stuck
pub own_found : (d : Definition) (w : World) (place : ℕ) → Able (own_peer d w place)
    → (p : Place) × (slice_get d.places place ≡ Some p) × (own_peer d w place ≡ Ok (first_peer w.peers p.peers))
own_found d w place able = by (slice_get d.places place) able
  where
    fits : (p : Place) (b : Bool) → Able (only_if b arms.Code (Ok (first_peer w.peers p.peers))) → only_if b arms.Code (Ok (first_peer w.peers p.peers)) ≡ Ok (first_peer w.peers p.peers)
    fits p true able = refl
    fits p false able = absurd able

    by : (o : Option Place) → Able (known arms.Code o >>= λ (p : Place). peer_for d w p) → (p : Place) × (o ≡ Some p) × ((known arms.Code o >>= λ (p : Place). peer_for d w p) ≡ Ok (first_peer w.peers p.peers))
    by None able = absurd able
    by (Some p) able = (p, refl, fits p (same_bool (has_shape d p.class) (is_some (first_peer w.peers p.peers))) able)

-- one more number, of the name behind those that have theirs
pub one_numbered : (peers : List Peer) (names : List (String Global)) (i : ℕ) (name : String Global) (old new : List (Option ℕ)) → slice_get names i ≡ Some name
    → Numbered peers (name_bytes (take i names)) old → new ≡ old ++ peer_number peers (string_bytes name) ∷ [] → Numbered peers (name_bytes (take (suc i) names)) new
one_numbered peers [] i name old new at so_far is = cc at
one_numbered peers (x ∷ names) zero name old new at so_far is =
    let here : x ≡ name = cc at in
    is ∙ ap (λ l. l ++ peer_number peers (string_bytes name) ∷ []) so_far ∙ ap (λ (s : String Global). peer_number peers (string_bytes s) ∷ []) (sym here)
one_numbered peers (x ∷ names) (suc i) name old new at so_far is =
    is ∙ ap (λ l. l ++ peer_number peers (string_bytes name) ∷ []) so_far
    ∙ ap (λ l. peer_number peers (string_bytes x) ∷ l) (one_numbered peers names i name (map (peer_number peers) (name_bytes (take i names))) _ at refl refl)

-- of one place more the numbers are kept
abbrev pub HasNumbers : Definition → List Peer → ℕ → List (Vec (Option ℕ) Global) → Type 0
HasNumbers d peers count kept = (place : ℕ) (p : Place) → place < count → slice_get d.places place ≡ Some p → IsSomeAnd (slice_get kept place) (λ numbers. Numbered peers p.peers numbers.items)

kept_more : (P : Vec (Option ℕ) Global → Type 0) (kept : List (Vec (Option ℕ) Global)) (more : Vec (Option ℕ) Global) (place : ℕ) → place < length kept → IsSomeAnd (slice_get kept place) P
    → IsSomeAnd (slice_get (kept ++ more ∷ []) place) P
kept_more P [] more place lt is = absurd is
kept_more P (k ∷ kept) more zero lt is = is
kept_more P (k ∷ kept) more (suc place) lt is = kept_more P kept more place (omega (arith, lt)) is

kept_last : (P : Vec (Option ℕ) Global → Type 0) (kept : List (Vec (Option ℕ) Global)) (more : Vec (Option ℕ) Global) → P more → IsSomeAnd (slice_get (kept ++ more ∷ []) (length kept)) P
kept_last P [] more is = is
kept_last P (k ∷ kept) more is = kept_last P kept more is

pub one_kept : (d : Definition) (peers : List Peer) (count : ℕ) (kept new : List (Vec (Option ℕ) Global)) (more : Vec (Option ℕ) Global) → count ≡ length kept → new ≡ kept ++ more ∷ []
    → IfSome (slice_get d.places count) (λ p. Numbered peers p.peers more.items) → HasNumbers d peers count kept → HasNumbers d peers (count + 1) new
one_kept d peers count kept new more many is here are place p lt at = subst (λ l. IsSomeAnd (slice_get l place) P) (sym is) (by (nat_eq place count) refl)
  where
    P : Vec (Option ℕ) Global → Type 0
    P numbers = Numbered peers p.peers numbers.items

    by : (b : Bool) → nat_eq place count ≡ b → IsSomeAnd (slice_get (kept ++ more ∷ []) place) P
    by true e =
        let same : place ≡ count = grind (arith, nat_tests) in
        let one : IfSome (Some p) (λ (q : Place). Numbered peers q.peers more.items) = subst (λ o. IfSome o (λ (q : Place). Numbered peers q.peers more.items)) (ap (slice_get d.places) (sym same) ∙ at) here in
        subst (λ n. IsSomeAnd (slice_get (kept ++ more ∷ []) n) P) (sym (same ∙ many)) (kept_last P kept more one)
    by false e =
        let before : place < count = grind (arith, nat_tests, e, lt) in
        kept_more P kept more place (omega (arith, before, many)) (are place p before at)
