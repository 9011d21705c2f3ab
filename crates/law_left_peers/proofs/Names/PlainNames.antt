-- A name that was read is plain, so the peers that an entry names are.
use Rattle.std.proofs.Common.{◌≡◌, refl, sym, ap, ◌∙◌, ℕ, Bool, true, false, cond, List, [], ◌∷◌, ◌++◌, nat_eq, Option, None, Some}
use Rattle.std.specs.Prelude.{◌&&◌}
use Rattle.std.specs.List.{list_all}
use Rattle.std.proofs.lemmas.Bool.{eqb-true}
use Rattle.std.proofs.lemmas.List.Folds.{list_all-append}
use Rattle.serde_json.specs.Data.{Data}
use Rattle.serde_json.specs.Find.{as_array, as_str}
use Rattle.definition_format.specs.Refusals.{shape, or_refused}
use Rattle.definition_format.specs.Document.{at_entry, is_among, nth}
use Rattle.definition_format.specs.Denoted.Enums.{name_at, name_if, unless_there}
use Rattle.definition_format.specs.Denoted.Names.{is_name, is_name_byte}
use Rattle.definition_format.specs.Denoted.Peers.{listed_peers, next_peer_at, one_peer, peer_at, peer_or, peers_or}
use Rattle.definition_format.proofs.Soundness.{OnRead, on_bind, on_all, on_each}
use Rattle.law_typing.proofs.Lists.{both_parts}
use Rattle.law_peers.specs.PeerLines.{has_no_point}
use Rattle.law_peers.specs.NamesApart.{is_plain}

-- ** names

-- a name has a byte, and no point
abbrev pub IsPlain : List ℕ → Type 0
IsPlain name = is_plain name ≡ true

-- so have all of these
abbrev pub ArePlain : List (List ℕ) → Type 0
ArePlain names = list_all is_plain names ≡ true

-- a byte of a name is no point
no_point : (x : ℕ) → is_name_byte x ≡ true → nat_eq x 46 ≡ false
no_point x e = by (nat_eq x 46) refl
  where
    by : (b : Bool) → nat_eq x 46 ≡ b → b ≡ false
    by true h = let point : false ≡ true = sym (ap is_name_byte (eqb-true x 46 h)) ∙ e in absurd (cc point)
    by false h = refl

-- so there is no point in a name
pointless : (name : List ℕ) → list_all is_name_byte name ≡ true → has_no_point name ≡ true
pointless [] e = refl
pointless (x ∷ name) e =
    let both = both_parts (is_name_byte x) (list_all is_name_byte name) e in
    ap (λ b. cond b false (has_no_point name)) (no_point x both.0) ∙ pointless name both.1

-- a name by the grammar is plain
name_plain : (name : List ℕ) → is_name name ≡ true → IsPlain name
name_plain [] e = absurd (cc e)
name_plain (x ∷ name) e = pointless (x ∷ name) (both_parts _ (list_all is_name_byte (x ∷ name)) e).1

-- the name that a text gives
name_read : (path : List ℕ) (d : Data) → OnRead IsPlain (name_at path d)
name_read path d = of_text (as_str d)
  where
    of_text : (text : Option (List ℕ)) → OnRead IsPlain (or_refused (shape path) (name_if text))
    of_text None = tt
    of_text (Some name) = by (is_name name) refl
      where
        by : (b : Bool) → is_name name ≡ b → OnRead IsPlain (or_refused (shape path) (cond b (Some name) None))
        by true e = name_plain name e
        by false e = tt

-- ** lists of names

-- two tests that are passed are passed together
both : (a b : Bool) → a ≡ true → b ≡ true → (a && b) ≡ true
both true b e h = h
both false b e h = e

-- the names of two lists
pub plain_append : (names more : List (List ℕ)) → ArePlain names → ArePlain more → ArePlain (names ++ more)
plain_append names more e h = list_all-append is_plain names more ∙ both (list_all is_plain names) (list_all is_plain more) e h

-- one name alone
plain_one : (name : List ℕ) → IsPlain name → ArePlain (name ∷ [])
plain_one name e = both (is_plain name) true e refl

-- ** peers

-- the peer that a text names
peer_plain : (path : List ℕ) (named : List (List ℕ)) (d : Data) → OnRead IsPlain (peer_at path named d)
unfolding peer_at
peer_plain path named d =
    on_bind IsPlain IsPlain (name_at path d) _ (name_read path d) λ name plain.
    on_bind (λ x. Unit {0}) IsPlain (unless_there path (is_among named name)) _ (on_all _) λ new u. plain

-- ** the peer of an object

-- the peer of an object whose class has a shape
one_plain : (path : List ℕ) (before : List (List ℕ)) (d : Data) → OnRead ArePlain (one_peer path before d)
unfolding one_peer
one_plain path before d = on_bind IsPlain ArePlain (peer_at path before d) _ (peer_plain path before d) λ name plain. plain_one name plain

-- the peer of an object, if it has one
pub peer_read : (path : List ℕ) (has_shape : Bool) (before : List (List ℕ)) (d : Option Data) → OnRead ArePlain (peer_or path has_shape before d)
peer_read path true before None = tt
peer_read path false before None = refl
peer_read path true before (Some d) = one_plain path before d
peer_read path false before (Some d) = tt

-- ** the peers of a prototype

-- a peer more
next_plain : (path : List ℕ) (before peers : List (List ℕ)) (d : Data) → ArePlain peers → OnRead ArePlain (next_peer_at path before peers d)
unfolding next_peer_at
next_plain path before peers d old =
    on_bind IsPlain ArePlain (peer_at path (before ++ peers) d) _ (peer_plain path (before ++ peers) d)
    λ name plain. plain_append peers (name ∷ []) old (plain_one name plain)

-- the peers of a list
listed_plain : (path : List ℕ) (before : List (List ℕ)) (d : Data) → OnRead ArePlain (listed_peers path before d)
unfolding listed_peers
listed_plain path before d =
    on_bind (λ x. Unit {0}) ArePlain (or_refused (shape path) (as_array d)) _ (on_all _) λ list u.
    on_each ArePlain (at_entry (λ entry. next_peer_at entry before) path) (λ i peers e old. next_plain (nth path i) before peers e old) 0 [] list refl

-- the peers of a prototype, if it has some
pub peers_read : (path : List ℕ) (has_shape : Bool) (before : List (List ℕ)) (d : Option Data) → OnRead ArePlain (peers_or path has_shape before d)
peers_read path has_shape before None = refl
peers_read path true before (Some d) = listed_plain path before d
peers_read path false before (Some d) = tt
