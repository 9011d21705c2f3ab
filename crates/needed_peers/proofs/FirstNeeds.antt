-- The first need of a name, need by need.
use Rattle.std.proofs.Common.{◌≡◌, refl, ap, sym, ◌∙◌, arith, ℕ, zero, suc, ◌+◌, ◌<◌, ◌≤◌, true, false, cond, List, [], ◌∷◌, length, get_or, map, drop, drop-cons, Option, None, Some}
use Rattle.std.specs.Prelude.{option_map, bytes_eq, slice_get}
use Rattle.std.proofs.lemmas.Option.{slice_get-map}
use Rattle.ui_machine.specs.Definition.Names.{same_name}
use Rattle.ui_machine.specs.Definition.Signals.{Method}
use Rattle.law_peers.specs.Needs as law
use Rattle.g_values.proofs.Texts.{same_bytes}
use Rattle.native_peers.specs.Matching.{need_view}
use Rattle.native_peers.specs.declared.needs.Need.{Need}
use Rattle.needed_peers.specs.Needing.{shape_likely, shape_needed}

module _ (needs : List Need) (k : ℕ) (n : Need) (name : List ℕ) (inside : k < length needs) (is : n ≡ get_or needs k n) where
  one : shape_needed (map need_view (drop k needs)) name
      ≡ cond (bytes_eq n.name.now name) (option_map (λ s. s.now) n.shape) (shape_needed (map need_view (drop (k + 1) needs)) name)
  one =
      let next : suc k ≡ k + 1 = omega arith in
      ap (λ l. shape_needed (map need_view l) name) (drop-cons needs k n inside)
      ∙ ap (λ j. shape_needed (need_view (get_or needs k n) ∷ map need_view (drop j needs)) name) next
      ∙ ap (λ (x : Need). shape_needed (need_view x ∷ map need_view (drop (k + 1) needs)) name) (sym is)
      ∙ ap (λ b. cond b (option_map (λ s. s.now) n.shape) (shape_needed (map need_view (drop (k + 1) needs)) name)) (same_bytes n.name.now name)

  -- it is the k-th
  pub this_one : bytes_eq n.name.now name ≡ true → shape_needed (map need_view (drop k needs)) name ≡ option_map (λ s. s.now) n.shape
  this_one same = one ∙ ap (λ b. cond b (option_map (λ s. s.now) n.shape) (shape_needed (map need_view (drop (k + 1) needs)) name)) same

  -- it is not the k-th
  pub later_one : bytes_eq n.name.now name ≡ false → shape_needed (map need_view (drop k needs)) name ≡ shape_needed (map need_view (drop (k + 1) needs)) name
  later_one other = one ∙ ap (λ b. cond b (option_map (λ s. s.now) n.shape) (shape_needed (map need_view (drop (k + 1) needs)) name)) other

-- ** the need of a number

module _ (needs : List Need) (likely : ℕ) (name : List ℕ) where
  abbrev is : Option law.Need → Option (List Method)
  is None = shape_needed (map need_view needs) name
  is (Some n) = cond (same_name n.name name) n.methods (shape_needed (map need_view needs) name)

  -- it is of the name
  pub likely_one : (n : Need) → slice_get needs likely ≡ Some n → bytes_eq n.name.now name ≡ true → shape_likely (map need_view needs) likely name ≡ option_map (λ s. s.now) n.shape
  likely_one n at same =
      ap is (slice_get-map need_view needs likely ∙ ap (option_map need_view) at)
      ∙ ap (λ b. cond b (option_map (λ s. s.now) n.shape) (shape_needed (map need_view needs) name)) (same_bytes n.name.now name ∙ same)

  -- it is of another
  pub likely_other : (n : Need) → slice_get needs likely ≡ Some n → bytes_eq n.name.now name ≡ false → shape_likely (map need_view needs) likely name ≡ shape_needed (map need_view needs) name
  likely_other n at other =
      ap is (slice_get-map need_view needs likely ∙ ap (option_map need_view) at)
      ∙ ap (λ b. cond b (option_map (λ s. s.now) n.shape) (shape_needed (map need_view needs) name)) (same_bytes n.name.now name ∙ other)

  past_all : (xs : List Need) (k : ℕ) → length xs ≤ k → slice_get xs k ≡ None
  past_all [] k far = refl
  past_all (x ∷ xs) zero far = absurd (omega (arith, far))
  past_all (x ∷ xs) (suc k) far = past_all xs k (omega (arith, far))

  -- there are not so many
  pub likely_none : length needs ≤ likely → shape_likely (map need_view needs) likely name ≡ shape_needed (map need_view needs) name
  likely_none far = ap is (slice_get-map need_view needs likely ∙ ap (option_map need_view) (past_all needs likely far))
