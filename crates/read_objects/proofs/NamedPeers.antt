-- Whether an object has a peer of a name, object by object.
use Rattle.std.proofs.Common.{◌≡◌, ◌∙◌, ℕ, ◌+◌, zero, suc, Bool, true, false, ◌||◌, List, [], ◌∷◌, ◌++◌, length, map, drop, slice_get, None, Some, String, Global, string_bytes, refl, ap, arith, ◌≤◌}
use Rattle.std.specs.List.{list_any}
use Rattle.std.specs.Str.{bytes_eq}
use Rattle.std.proofs.lemmas.List.Folds.{list_any-append}
use Rattle.definition_format.specs.Document.{is_among}
use Rattle.definition_format.specs.Denoted.Peers.{peers_of}
use Rattle.definition_format.specs.Meaning.{Entry, name_bytes, plain_object}
use Rattle.read_parts.proofs.Members.{any_mapped}

-- what is left from a number on
got_next : (es : List Entry) (k : ℕ) (e : Entry) → slice_get es k ≡ Some e → drop k es ≡ e ∷ drop (suc k) es
got_next [] k e h = absurd (cc)
got_next (x ∷ es) zero e h = let same : x ≡ e = cc in ap (λ z. z ∷ es) same
got_next (x ∷ es) (suc k) e h = got_next es k e h

module _ (name : List ℕ) where
  abbrev names_it : Entry → Bool
  names_it e = list_any (λ (peer : String Global). bytes_eq (string_bytes peer) name) e.1.peers.items

  one_first : (e : Entry) (es : List Entry) → is_among (peers_of (map plain_object (e ∷ es))) name ≡ (names_it e || is_among (peers_of (map plain_object es)) name)
  one_first e es =
      list_any-append (λ k. bytes_eq k name) (name_bytes e.1.peers.items) (peers_of (map plain_object es))
      ∙ ap (λ b. b || is_among (peers_of (map plain_object es)) name) (any_mapped (λ k. bytes_eq k name) (λ (peer : String Global). string_bytes peer) e.1.peers.items)

  as_next : (es : List Entry) (k : ℕ) → is_among (peers_of (map plain_object (drop (suc k) es))) name ≡ is_among (peers_of (map plain_object (drop (k + 1) es))) name
  as_next es k = let same : suc k ≡ k + 1 = omega arith in ap (λ n. is_among (peers_of (map plain_object (drop n es))) name) same

  module _ (es : List Entry) (k : ℕ) (e : Entry) (at : slice_get es k ≡ Some e) where
    one_next : is_among (peers_of (map plain_object (drop k es))) name ≡ (names_it e || is_among (peers_of (map plain_object (drop (suc k) es))) name)
    one_next = ap (λ (l : List Entry). is_among (peers_of (map plain_object l)) name) (got_next es k e at) ∙ one_first e (drop (suc k) es)

    pub found_here : names_it e ≡ true → is_among (peers_of (map plain_object (drop k es))) name ≡ true
    found_here is = one_next ∙ ap (λ b. b || is_among (peers_of (map plain_object (drop (suc k) es))) name) is

    pub found_later : names_it e ≡ false → is_among (peers_of (map plain_object (drop k es))) name ≡ is_among (peers_of (map plain_object (drop (k + 1) es))) name
    found_later is = one_next ∙ ap (λ b. b || is_among (peers_of (map plain_object (drop (suc k) es))) name) is ∙ as_next es k

  dropped : {A : Type 0} (xs : List A) (k : ℕ) → length xs ≤ k → drop k xs ≡ []
  dropped [] zero h = refl
  dropped [] (suc k) h = refl
  dropped (x ∷ xs) zero h = absurd (omega arith)
  dropped (x ∷ xs) (suc k) h = dropped xs k (omega arith)

  pub found_nowhere : (es : List Entry) (k : ℕ) → length es ≤ k → is_among (peers_of (map plain_object (drop k es))) name ≡ false
  found_nowhere es k h = ap (λ (l : List Entry). is_among (peers_of (map plain_object l)) name) (dropped es k h)

  nothing_next : (es : List Entry) (k : ℕ) → slice_get es k ≡ None → is_among (peers_of (map plain_object (drop k es))) name ≡ is_among (peers_of (map plain_object (drop (suc k) es))) name
  nothing_next [] zero h = refl
  nothing_next [] (suc k) h = refl
  nothing_next (e ∷ es) zero h = absurd (cc h)
  nothing_next (e ∷ es) (suc k) h = nothing_next es k h

  -- where a number has no object, the rest is none
  pub nothing_later : (es : List Entry) (k : ℕ) → slice_get es k ≡ None → is_among (peers_of (map plain_object (drop k es))) name ≡ is_among (peers_of (map plain_object (drop (k + 1) es))) name
  nothing_later es k h = nothing_next es k h ∙ as_next es k

  -- the peers of prototypes come before those of objects
  pub among_both : (xs ys : List (List ℕ)) → is_among (xs ++ ys) name ≡ (is_among xs name || is_among ys name)
  among_both xs ys = list_any-append (λ k. bytes_eq k name) xs ys
