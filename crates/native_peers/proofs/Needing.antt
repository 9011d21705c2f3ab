-- What needs a peer.
use Rattle.std.proofs.Common.{◌≡◌, refl, ap, sym, ◌∙◌, arith, ℕ, suc, ◌+◌, Bool, true, false, cond, not, ◌||◌, is_some, nat_lt, List, [], ◌∷◌, length, map, None, Some}
use Rattle.std.specs.List.{list_any, position, position_or_len}
use Rattle.std.proofs.lemmas.Bool.Decides.{nat_tests}
use Rattle.ui_machine.specs.Definition.Names.{same_name}
use Rattle.ui_machine.specs.State.Peers.{Peer}
use Rattle.law_peers.specs.Needs as law
use Rattle.law_peers.specs.Needs.{Mismatch, first_unused, is_needed, unused}
use Rattle.native_peers.specs.Matching.{need_view}
use Rattle.native_peers.specs.declared.needs.Need.{Need}

any_map : {A B : Type 0} (p : B → Bool) (view : A → B) (xs : List A) → list_any p (map view xs) ≡ list_any (λ x. p (view x)) xs
any_map p view [] = refl
any_map p view (x ∷ xs) = ap (λ b. p (view x) || b) (any_map p view xs)

module _ (needs : List Need) (p : Peer) (name : List ℕ) (same : name ≡ p.name) where
  asked : (b : Bool) → list_any (λ n. same_name n.name.now name) needs ≡ b → is_needed (map need_view needs) p ≡ b
  asked b e = any_map (λ (n : law.Need). same_name n.name p.name) need_view needs ∙ (ap (λ x. list_any (λ (n : Need). same_name n.name.now x) needs) (sym same) ∙ e)

  pub needed : list_any (λ n. same_name n.name.now name) needs ≡ true → None ≡ first_unused (map need_view needs) (p ∷ [])
  needed e = ap (λ b. cond b None (Some (unused p.name))) (sym (asked true e))

  pub not_needed : list_any (λ n. same_name n.name.now name) needs ≡ false → Some (unused name) ≡ first_unused (map need_view needs) (p ∷ [])
  not_needed e = ap (λ x. Some (unused x)) same ∙ ap (λ b. cond b None (Some (unused p.name))) (sym (asked false e))

module _ {A : Type 0} (p : A → Bool) where
  inside_any : (xs : List A) → nat_lt (position_or_len p xs) (length xs) ≡ list_any p xs
  inside_any [] = refl
  inside_any (x ∷ xs) = by (p x) (inside_any xs)
    where
      by : (b : Bool) → nat_lt (position_or_len p xs) (length xs) ≡ list_any p xs → nat_lt (cond (not b) (1 + position_or_len p xs) 0) (suc (length xs)) ≡ (b || list_any p xs)
      by true e = grind (arith, nat_tests)
      by false e = grind (arith, nat_tests, e)

  placed : (b : Bool) (k : ℕ) → is_some (cond b (Some k) None) ≡ b
  placed true k = refl
  placed false k = refl

  -- what passes in a list has a place in it
  pub placed_any : (xs : List A) → is_some (position p xs) ≡ list_any p xs
  placed_any xs = placed (nat_lt (position_or_len p xs) (length xs)) (position_or_len p xs) ∙ inside_any xs
