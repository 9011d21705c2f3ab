-- The peers that the places of a definition that was read name: none is named twice, and an object has one just where its class has a shape.
use Rattle.std.proofs.Common.{◌≡◌, ℕ, Bool, true, false, cond, List, [], ◌∷◌, ◌++◌, length, Option, None, Some, refl, sym, ap, subst, ◌∙◌, append_assoc}
use Rattle.std.specs.List.{list_any}
use Rattle.std.specs.Str.{bytes_eq}
use Rattle.std.proofs.lemmas.Grind.{flat_map-append}
use Rattle.std.proofs.lemmas.List.{append-nil, map-id}
use Rattle.serde_json.specs.Data.{Data}
use Rattle.serde_json.specs.Find.{as_array}
use Rattle.g_values.proofs.Texts.{same_bytes}
use Rattle.ui_machine.specs.Definition.Names.{same_name}
use Rattle.ui_machine.specs.Definition.Places.{Place}
use Rattle.definition_format.specs.Refusals.{shape, or_refused}
use Rattle.definition_format.specs.Document.{at_entry, is_among, nth}
use Rattle.definition_format.specs.Denoted.Enums.{name_at, unless_there}
use Rattle.definition_format.specs.Denoted.Peers.{listed_peers, next_peer_at, one_peer, peer_at, peer_or, peers_of, peers_or}
use Rattle.definition_format.proofs.Soundness.{OnRead, on_bind, on_all, on_each}
use Rattle.law_typing.specs.Laws.WellRead.{no_two}
use Rattle.law_reading.proofs.NameProofs.{AreApart, apart_push, apart_swapped, neither, none_holds}

-- ** names, each once

-- no name comes twice
abbrev pub AreOnce : List (List ℕ) → Type 0
AreOnce names = no_two same_name names ≡ true

abbrev itself : List ℕ → List ℕ
itself name = name

as_names : (names : List (List ℕ)) → AreApart itself names → AreOnce names
as_names names apart = subst AreOnce (map-id names) apart

of_names : (names : List (List ℕ)) → AreOnce names → AreApart itself names
of_names names once = subst AreOnce (sym (map-id names)) once

none_same : (names : List (List ℕ)) (name : List ℕ) → is_among names name ≡ false → list_any (λ k. same_name k name) names ≡ false
none_same [] name e = refl
none_same (k ∷ ks) name e =
    let parts = neither (bytes_eq k name) (is_among ks name) e in
    none_holds (same_name k name) (list_any (λ x. same_name x name) ks) (same_bytes k name ∙ parts.0) (none_same ks name parts.1)

-- a name more, which is none of these
once_more : (names : List (List ℕ)) (name : List ℕ) → AreOnce names → is_among names name ≡ false → AreOnce (names ++ name ∷ [])
once_more names name once new = as_names (names ++ name ∷ []) (apart_push itself same_name names name (of_names names once) (none_same names name new))

-- names are apart also with two lists of them the other way round
once_swapped : (first second : List (List ℕ)) → AreOnce (first ++ second) → AreOnce (second ++ first)
once_swapped first second once = as_names (second ++ first) (apart_swapped itself first second (of_names (first ++ second) once))

-- ** a peer

-- the peer that a text names is none of these
new_peer : (path : List ℕ) (names : List (List ℕ)) (d : Data) → OnRead (λ name. is_among names name ≡ false) (peer_at path names d)
unfolding peer_at
new_peer path names d =
    on_bind (λ x. Unit {0}) (λ name. is_among names name ≡ false) (name_at path d) _ (on_all _) λ name u.
    on_bind (λ x. is_among names name ≡ false) (λ name. is_among names name ≡ false) (unless_there path (is_among names name)) _ (by (is_among names name))
    λ new e. e
  where
    by : (b : Bool) → OnRead (λ x. b ≡ false) (unless_there path b)
    by true = tt
    by false = refl

-- the peer of an object whose class has a shape or none, beside these
pub record IsPeer (before : List (List ℕ)) (has_shape : Bool) (peers : List (List ℕ)) : Type 0 where
  pub once : AreOnce (before ++ peers)
  pub count : length peers ≡ cond has_shape 1 0

one_read : (path : List ℕ) (before : List (List ℕ)) (d : Data) → AreOnce before → OnRead (IsPeer before true) (one_peer path before d)
unfolding one_peer
one_read path before d once =
    on_bind (λ name. is_among before name ≡ false) (IsPeer before true) (peer_at path before d) _ (new_peer path before d)
    λ name new. record { once = once_more before name once new; count = refl }

pub peer_read : (path : List ℕ) (has_shape : Bool) (before : List (List ℕ)) (d : Option Data) → AreOnce before
    → OnRead (IsPeer before has_shape) (peer_or path has_shape before d)
peer_read path true before None once = tt
peer_read path false before None once = record { once = subst AreOnce (sym (append-nil before)) once; count = refl }
peer_read path true before (Some d) once = one_read path before d once
peer_read path false before (Some d) once = tt

-- ** the peers of a prototype

abbrev pub AreBeside : List (List ℕ) → List (List ℕ) → Type 0
AreBeside before peers = AreOnce (before ++ peers)

next_read : (path : List ℕ) (before peers : List (List ℕ)) (d : Data) → AreBeside before peers → OnRead (AreBeside before) (next_peer_at path before peers d)
unfolding next_peer_at
next_read path before peers d once =
    on_bind (λ name. is_among (before ++ peers) name ≡ false) (AreBeside before) (peer_at path (before ++ peers) d) _ (new_peer path (before ++ peers) d)
    λ name new. subst AreOnce (append_assoc before peers (name ∷ [])) (once_more (before ++ peers) name once new)

listed_read : (path : List ℕ) (before : List (List ℕ)) (d : Data) → AreOnce before → OnRead (AreBeside before) (listed_peers path before d)
unfolding listed_peers
listed_read path before d once =
    on_bind (λ x. Unit {0}) (AreBeside before) (or_refused (shape path) (as_array d)) _ (on_all _) λ list u.
    on_each (AreBeside before) (at_entry (λ entry. next_peer_at entry before) path) (λ i peers e old. next_read (nth path i) before peers e old) 0 [] list
    (subst AreOnce (sym (append-nil before)) once)

pub peers_read : (path : List ℕ) (has_shape : Bool) (before : List (List ℕ)) (d : Option Data) → AreOnce before
    → OnRead (AreBeside before) (peers_or path has_shape before d)
peers_read path has_shape before None once = subst AreOnce (sym (append-nil before)) once
peers_read path true before (Some d) once = listed_read path before d once
peers_read path false before (Some d) once = tt

-- ** the peers of places

-- a place more, whose peers are none of these
pub place_once : (before : List (List ℕ)) (places : List Place) (p : Place) → AreOnce ((before ++ peers_of places) ++ p.peers)
    → AreOnce (before ++ peers_of (places ++ p ∷ []))
place_once before places p once = subst AreOnce (append_assoc before (peers_of places) p.peers ∙ ap (λ l. before ++ l) (sym last)) once
  where
    last : peers_of (places ++ p ∷ []) ≡ peers_of places ++ p.peers
    last = flat_map-append (λ (q : Place). q.peers) places (p ∷ []) ∙ ap (λ l. peers_of places ++ l) (append-nil p.peers)

-- the peers of objects, which are read behind prototypes and come before these
pub places_once : (objects prototypes : List Place) → AreOnce (peers_of prototypes ++ peers_of objects) → AreOnce (peers_of (objects ++ prototypes))
places_once objects prototypes once =
    subst AreOnce (sym (flat_map-append (λ (q : Place). q.peers) objects prototypes)) (once_swapped (peers_of prototypes) (peers_of objects) once)
