-- The peers of a pool that matches are kept apart by their names.
use Rattle.std.proofs.Common.{◌≡◌, ◌<◌, refl, sym, ap, ◌∙◌, ℕ, zero, suc, Bool, true, false, cond, List, [], ◌∷◌, ◌++◌, length, map, None, Some, arith}
use Rattle.std.specs.Prelude.{◌&&◌, ◌||◌, not}
use Rattle.std.specs.List.{filter, flat_map, list_all, list_any}
use Rattle.ui_machine.specs.Definition.Names.{same_name}
use Rattle.ui_machine.specs.Definition.{Definition}
use Rattle.ui_machine.specs.Definition.Places.{Place}
use Rattle.ui_machine.specs.State.Peers.{Peer}
use Rattle.ui_machine.specs.Rules.Construction.{nearest_shape}
use Rattle.law_typing.specs.Verdict.Accepted.{Each}
use Rattle.law_typing.specs.Laws.WellRead.{no_two}
use Rattle.law_typing.proofs.Lists.{both_parts, each_append}
use Rattle.law_peers.specs.PeerLaws.{peer_in}
use Rattle.law_peers.specs.PeerLines.{has_no_point}
use Rattle.law_peers.specs.Needs.{Need, methods_in, needs_at, prototypes, objects, needs_of, unused, first_wrong, is_needed, first_unused}
use Rattle.law_peers.specs.NamesApart.{is_plain, MatchedIsApart}
use Rattle.law_peers.proofs.PoolProofs.{name_true, name_refl, neither}

-- ** the names of needs

abbrev IsPlain : Need → Type 0
IsPlain n = is_plain n.name ≡ true

split : (xs ys : List (List ℕ)) → list_all is_plain (xs ++ ys) ≡ true → (list_all is_plain xs ≡ true) × (list_all is_plain ys ≡ true)
split [] ys e = (refl, e)
split (x ∷ xs) ys e =
    let both = both_parts (is_plain x) (list_all is_plain (xs ++ ys)) e in
    let rest = split xs ys both.1 in
    (ap (λ b. b && list_all is_plain xs) both.0 ∙ rest.0, rest.1)

module _ (d : Definition) where
  named : (p : Place) (names : List (List ℕ)) → list_all is_plain names ≡ true →
      Each IsPlain (map (λ name. record { name = name; methods = methods_in d (nearest_shape d p.class) }) names)
  named p [] e = tt
  named p (name ∷ names) e = let both = both_parts (is_plain name) (list_all is_plain names) e in (both.0, named p names both.1)

  of_places : (test : Place → Bool) (places : List Place) → list_all is_plain (flat_map (λ (p : Place). p.peers) places) ≡ true →
      Each IsPlain (flat_map (needs_at d) (filter test places))
  of_places test [] e = tt
  of_places test (p ∷ places) e =
      let both = split p.peers (flat_map (λ (p : Place). p.peers) places) e in
      go (test p) (named p p.peers both.0) (of_places test places both.1)
    where
      go : (b : Bool) → Each IsPlain (needs_at d p) → Each IsPlain (flat_map (needs_at d) (filter test places)) →
          Each IsPlain (flat_map (needs_at d) (cond b (p ∷ filter test places) (filter test places)))
      go true here later = each_append IsPlain (needs_at d p) (flat_map (needs_at d) (filter test places)) here later
      go false here later = later

  plain_needs : list_all is_plain (flat_map (λ (p : Place). p.peers) d.places) ≡ true → Each IsPlain (needs_of d)
  plain_needs e =
      each_append IsPlain (flat_map (needs_at d) (prototypes d)) (flat_map (needs_at d) (objects d)) (of_places (λ (p : Place). p.is_prototype) d.places e)
      (of_places (λ (p : Place). not p.is_prototype) d.places e)

-- ** the names of the pool

-- what is needed has the name of a need
of_need : (needs : List Need) (p : Peer) → Each IsPlain needs → is_needed needs p ≡ true → is_plain p.name ≡ true
of_need [] p all e = absurd (cc)
of_need (n ∷ needs) p all e = go (same_name n.name p.name) refl e (of_need needs p all.1)
  where
    go : (b : Bool) → same_name n.name p.name ≡ b → (b || is_needed needs p) ≡ true → (is_needed needs p ≡ true → is_plain p.name ≡ true) → is_plain p.name ≡ true
    go true s h later = ap is_plain (sym (name_true n.name p.name s)) ∙ all.0
    go false s h later = later h

plain_pool : (needs : List Need) (pool : List Peer) → Each IsPlain needs → first_unused needs pool ≡ None → Each (λ (p : Peer). is_plain p.name ≡ true) pool
plain_pool needs [] all e = tt
plain_pool needs (p ∷ pool) all e = go (is_needed needs p) refl e (plain_pool needs pool all)
  where
    go : (b : Bool) → is_needed needs p ≡ b → cond b (first_unused needs pool) (Some (unused p.name)) ≡ None →
        (first_unused needs pool ≡ None → Each (λ (p : Peer). is_plain p.name ≡ true) pool) → Each (λ (p : Peer). is_plain p.name ≡ true) (p ∷ pool)
    go true s h later = (of_need needs p all s, later h)
    go false s h later = absurd (cc)

no_point : (name : List ℕ) → is_plain name ≡ true → has_no_point name ≡ true
no_point [] e = refl
no_point (x ∷ name) e = e

pointless : (pool : List Peer) → Each (λ (p : Peer). is_plain p.name ≡ true) pool → (other : ℕ) → has_no_point (peer_in pool other).name ≡ true
pointless [] all other = refl
pointless (p ∷ pool) all zero = no_point p.name all.0
pointless (p ∷ pool) all (suc other) = pointless pool all.1 other

-- ** no two of one name

-- a name that is plain is none of a pool without it, nor that of no peer
none_named : (pool : List Peer) (name : List ℕ) (other : ℕ) → is_plain name ≡ true → list_any (same_name name) (map (λ (p : Peer). p.name) pool) ≡ false →
    (peer_in pool other).name ≡ name → ⊥
none_named [] name other plain e is = let h : is_plain [] ≡ true = ap is_plain is ∙ plain in absurd (cc h)
none_named (p ∷ pool) name zero plain e is =
    let h : same_name name p.name ≡ true = ap (same_name name) is ∙ name_refl name in
    let k : (same_name name p.name || list_any (same_name name) (map (λ (p : Peer). p.name) pool)) ≡ true =
    ap (λ b. b || list_any (same_name name) (map (λ (p : Peer). p.name) pool)) h in
    let m : true ≡ false = sym k ∙ e in
    absurd (cc m)
none_named (p ∷ pool) name (suc other) plain e is =
    none_named pool name other plain (rest (same_name name p.name) (list_any (same_name name) (map (λ (p : Peer). p.name) pool)) e) is
  where
    rest : (a b : Bool) → (a || b) ≡ false → b ≡ false
    rest true b h = absurd (cc h)
    rest false b h = h

denied : (b : Bool) → not b ≡ true → b ≡ false
denied true e = absurd (cc e)
denied false e = refl

plain_in : (pool : List Peer) → Each (λ (p : Peer). is_plain p.name ≡ true) pool → (number : ℕ) → number < length pool → is_plain (peer_in pool number).name ≡ true
plain_in [] all number h = absurd (omega (arith, h))
plain_in (p ∷ pool) all zero h = all.0
plain_in (p ∷ pool) all (suc number) h = plain_in pool all.1 number (omega (arith, h))

-- the name of a peer further on is not that of the first
later_differs : (p : Peer) (pool : List Peer) (number : ℕ) → list_any (same_name p.name) (map (λ (p : Peer). p.name) pool) ≡ false → number < length pool →
    is_plain p.name ≡ true → p.name ≡ (peer_in pool number).name → ⊥
later_differs p pool number e h plain is = none_named pool p.name number plain e (sym is)

alone_in : (pool : List Peer) → Each (λ (p : Peer). is_plain p.name ≡ true) pool → no_two same_name (map (λ (p : Peer). p.name) pool) ≡ true →
    (number : ℕ) → number < length pool → (other : ℕ) → (peer_in pool other).name ≡ (peer_in pool number).name → other ≡ number
alone_in [] all two number h other is = absurd (omega (arith, h))
alone_in (p ∷ pool) all two zero h zero is = refl
alone_in (p ∷ pool) all two zero h (suc other) is =
    let both = both_parts (not (list_any (same_name p.name) (map (λ (p : Peer). p.name) pool))) (no_two same_name (map (λ (p : Peer). p.name) pool)) two in
    absurd (none_named pool p.name other all.0 (denied (list_any (same_name p.name) (map (λ (p : Peer). p.name) pool)) both.0) is)
alone_in (p ∷ pool) all two (suc number) h zero is =
    let both = both_parts (not (list_any (same_name p.name) (map (λ (p : Peer). p.name) pool))) (no_two same_name (map (λ (p : Peer). p.name) pool)) two in
    absurd (later_differs p pool number (denied (list_any (same_name p.name) (map (λ (p : Peer). p.name) pool)) both.0) (omega (arith, h)) all.0 is)
alone_in (p ∷ pool) all two (suc number) h (suc other) is =
    let both = both_parts (not (list_any (same_name p.name) (map (λ (p : Peer). p.name) pool))) (no_two same_name (map (λ (p : Peer). p.name) pool)) two in
    ap suc (alone_in pool all.1 both.1 number (omega (arith, h)) other is)

pub matched_is_apart : MatchedIsApart
matched_is_apart d pool number plain two matches within =
    let both = neither (first_wrong pool (needs_of d)) (first_unused (needs_of d) pool) matches in
    let all = plain_pool (needs_of d) pool (plain_needs d plain) both.1 in
    record { plain = pointless pool all; alone = alone_in pool all two number within }
