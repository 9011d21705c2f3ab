-- Members by their names and nicks.
use Rattle.std.proofs.Common.{◌≡◌, ◌∙◌, ◌+◌, ◌<◌, ◌≤◌, ◌++◌, ℕ, zero, suc, Bool, true, false, Bor, Vec, Global, cond, List, [], ◌∷◌, bytes_eq, drop, get_or, length, map, ℤ, is_some, Option, None, Some, option_map, refl, slice_get, sym, ap, add-one, arith}
use Rattle.std.proofs.Math.Seq.{drop-cons}
use Rattle.std.proofs.lemmas.List.{drop_all}
use Rattle.std.specs.BTreeMap.{BTreeMap, UpdatesBy, is_at}
use Rattle.std.specs.Cmp.{eq_by_cmp_equiv}
use Rattle.std.specs.Cmp.Lexicographic.{slice_cmp}
use Rattle.std.specs.List.{find}
use Rattle.std.specs.Option.{option_or}
use Rattle.std.specs.Map.{lookup, KeepsOthers}
use Rattle.std.specs.Ordering.{is_eq, nat_cmp}
use Rattle.std.proofs.lemmas.Cmp.{nat_list_eq_equiv, nat_list_cmp_total}
use Rattle.std.proofs.lemmas.Map.Text.{is_eq-slice_cmp}
use Rattle.std.proofs.lemmas.Slice.Eq.{bytes_eq-Decides}
use Rattle.ui_machine.specs.Definition.Types.{Member}
use Rattle.type_tree.specs.Naming.{number_by, number_called}
use Rattle.type_tree.specs.Words.{number_at, place_at, place_from, FindCalled}

-- ** words and their places

module _ (own word : List ℕ) (e : bytes_eq own word ≡ false) where
  other_key : (k : List ℕ) → is_eq (slice_cmp nat_cmp own k) ≡ true → is_eq (slice_cmp nat_cmp word k) ≡ false
  other_key k y = is_eq-slice_cmp word k ∙ nat_list_eq_equiv.symm word k ∙ sym (nat_list_eq_equiv.congr own k word (sym (is_eq-slice_cmp own k) ∙ y)) ∙ e

-- what is kept of words once one got its place
pub place_updated : (own : List ℕ) (old new : BTreeMap (Vec ℕ Global) ℕ) (place : Option ℕ)
    → UpdatesBy (λ (x y : Vec ℕ Global). slice_cmp nat_cmp x.items y.items) (λ k. slice_cmp nat_cmp own k.items) old new place
    → (word : List ℕ) → place_at new word ≡ cond (bytes_eq own word) place (place_at old word)
unfolding KeepsOthers
place_updated own old new place h word = by (bytes_eq own word) refl
  where
    by : (b : Bool) → bytes_eq own word ≡ b → place_at new word ≡ cond b place (place_at old word)
    by true e = ap (λ w. place_at new w) (sym ((bytes_eq-Decides own word).0 e)) ∙ h.1
    by false e = h.3 _ (λ x y. (eq_by_cmp_equiv nat_list_cmp_total).congr word x.items y.items) (λ k. other_key own word e k.items)

pub drop_at : {A : Type 0} (xs : List A) (i : ℕ) (x : A) → slice_get xs i ≡ Some x → drop i xs ≡ x ∷ drop (suc i) xs
drop_at [] i x at = cc at
drop_at (y ∷ xs) zero x at = let here : y ≡ x = cc at in ap (λ z. z ∷ xs) here
drop_at (y ∷ xs) (suc i) x at = drop_at xs i x at

seen_at : (words : List (Bor (List ℕ))) (i : ℕ) (w : Bor (List ℕ)) → slice_get words i ≡ Some w → slice_get (map (λ v. v.now) words) i ≡ Some w.now
seen_at [] i w at = cc at
seen_at (v ∷ words) zero w at = ap (option_map (λ (u : Bor (List ℕ)). u.now)) at
seen_at (v ∷ words) (suc i) w at = seen_at words i w at

pub word_at : (words : List (Bor (List ℕ))) (i : ℕ) (d : Bor (List ℕ)) → i < length words → slice_get words i ≡ Some (get_or words i d)
word_at [] i d lt = absurd (omega (arith, lt))
word_at (v ∷ words) zero d lt = refl
word_at (v ∷ words) (suc i) d lt = word_at words i d (omega (arith, lt))

-- one word more, which comes before those whose places are kept
pub place_before : (words : List (Bor (List ℕ))) (left : ℕ) (own : Bor (List ℕ)) (old new : BTreeMap (Vec ℕ Global) ℕ) (word : List ℕ) (first : Option ℕ)
    → slice_get words left ≡ Some own → place_at new word ≡ cond (bytes_eq own.now word) (Some left) (place_at old word)
    → place_at old word ≡ option_or (place_from (suc left) (drop (suc left) (map (λ w. w.now) words)) word) first
    → place_at new word ≡ option_or (place_from left (drop left (map (λ w. w.now) words)) word) first
place_before words left own old new word first at updated rest =
    updated ∙ by (bytes_eq own.now word)
    ∙ ap (λ ws. option_or (place_from left ws word) first) (sym (drop_at (map (λ w. w.now) words) left own.now (seen_at words left own at)))
  where
    behind : Option ℕ
    behind = place_from (suc left) (drop (suc left) (map (λ w. w.now) words)) word

    by : (b : Bool) → cond b (Some left) (place_at old word) ≡ option_or (cond b (Some left) behind) first
    by true = refl
    by false = rest

-- ** members by their words

module _ {A : Type 0} (seen : A → Member) (word : List ℕ) where
  -- the member at the place of its name or nick
  named_from : (text : Member → List ℕ) (i : ℕ) (all rest : List A) → ((k : ℕ) → slice_get all (i + k) ≡ slice_get rest k)
      → (number_at seen all (place_from i (map (λ m. text (seen m)) rest) word) ≡ number_by text (map seen rest) word)
      × (is_some (place_from i (map (λ m. text (seen m)) rest) word) ≡ is_some (number_by text (map seen rest) word))
  named_from text i all [] at = (refl, refl)
  named_from text i all (m ∷ rest) at = by (bytes_eq (text (seen m)) word) (named_from text (suc i) all rest (λ k. ap (slice_get all) (shift k) ∙ at (suc k)))
    where
      shift : (k : ℕ) → suc i + k ≡ i + suc k
      shift k = omega arith

      here : slice_get all i ≡ Some m
      here = let e : i ≡ i + 0 = omega arith in ap (slice_get all) e ∙ at 0

      next : Option ℕ
      next = place_from (suc i) (map (λ x. text (seen x)) rest) word

      other : Option Member
      other = find (λ x. bytes_eq (text x) word) (map seen rest)

      by : (b : Bool) → (number_at seen all next ≡ option_map (λ x. x.number) other) × (is_some next ≡ is_some (option_map (λ (x : Member). x.number) other))
          → (number_at seen all (cond b (Some i) next) ≡ option_map (λ x. x.number) (cond b (Some (seen m)) other))
          × (is_some (cond b (Some i) next) ≡ is_some (option_map (λ (x : Member). x.number) (cond b (Some (seen m)) other)))
      by true behind = (ap (option_map (λ x. (seen x).number)) here, refl)
      by false behind = behind

  either : (all : List A) (first second : Option ℕ) (one other : Option ℤ) → number_at seen all first ≡ one → is_some first ≡ is_some one → number_at seen all second ≡ other
      → number_at seen all (option_or first second) ≡ option_or one other
  either all None second None other is same next = next
  either all None second (Some n) other is same next = absurd (cc same)
  either all (Some i) second None other is same next = absurd (cc same)
  either all (Some i) second (Some n) other is same next = is

  -- the member that is called so, by places of names before places of nicks
  pub called_at : (members : List A) (place : Option ℕ)
      → place ≡ option_or (place_from 0 (map (λ m. (seen m).name) members) word) (place_from 0 (map (λ m. (seen m).nick) members) word)
      → number_at seen members place ≡ number_called (map seen members) word
  called_at members place is =
      let from_none : (k : ℕ) → slice_get members (0 + k) ≡ slice_get members k = λ k. let e : 0 + k ≡ k = omega arith in ap (slice_get members) e in
      let names = named_from (λ m. m.name) 0 members members from_none in
      let nicks = named_from (λ m. m.nick) 0 members members from_none in
      ap (number_at seen members) is
      ∙ either members (place_from 0 (map (λ m. (seen m).name) members) word) (place_from 0 (map (λ m. (seen m).nick) members) word)
      (number_by (λ m. m.name) (map seen members) word) (number_by (λ m. m.nick) (map seen members) word) names.0 names.1 nicks.0

-- ** the texts of members, one after the other

onto : (words : List (Bor (List ℕ))) (own : Bor (List ℕ)) (rest : List (List ℕ)) → map (λ w. w.now) (words ++ own ∷ []) ++ rest ≡ map (λ w. w.now) words ++ own.now ∷ rest
onto [] own rest = refl
onto (w ∷ words) own rest = ap (λ ws. w.now ∷ ws) (onto words own rest)

none_more : (words : List (List ℕ)) → words ++ [] ≡ words
none_more [] = refl
none_more (w ∷ words) = ap (λ ws. w ∷ ws) (none_more words)

module _ {A : Type 0} (text : A → List ℕ) (members : List A) (i : ℕ) (words : List (Bor (List ℕ))) (all : List (List ℕ))
    (so_far : map (λ w. w.now) words ++ map text (drop i members) ≡ all) where
  pub text_more : (m : A) (own : Bor (List ℕ)) (new : List (Bor (List ℕ))) → i < length members → m ≡ get_or members i m → own.now ≡ text m → new ≡ words ++ own ∷ []
      → map (λ w. w.now) new ++ map text (drop (i + 1) members) ≡ all
  text_more m own new small is same pushed =
      ap (λ (ws : List (Bor (List ℕ))). map (λ w. w.now) ws ++ map text (drop (i + 1) members)) pushed
      ∙ onto words own (map text (drop (i + 1) members))
      ∙ ap (λ t. map (λ w. w.now) words ++ t ∷ map text (drop (i + 1) members)) same
      ∙ ap (λ k. map (λ w. w.now) words ++ text m ∷ map text (drop k members)) (add-one i)
      ∙ ap (λ (l : List A). map (λ w. w.now) words ++ map text l) (sym (drop-cons members i m small ∙ ap (λ x. x ∷ drop (suc i) members) (sym is)))
      ∙ so_far

  pub all_texts : length members ≤ i → map (λ w. w.now) words ≡ all
  all_texts past = sym (ap (λ (l : List A). map (λ w. w.now) words ++ map text l) (drop_all i members past) ∙ none_more (map (λ w. w.now) words)) ∙ so_far

-- ** what is kept of nicks first, and then of names

or_none : {X : Type 0} (o : Option X) → option_or o None ≡ o
or_none None = refl
or_none (Some x) = refl

pub find_called : {A : Type 0} (seen : A → Member) (members : List A) (nicks names : List (Bor (List ℕ))) (none first both : BTreeMap (Vec ℕ Global) ℕ)
    → none.entries ≡ [] → map (λ w. w.now) nicks ≡ map (λ m. (seen m).nick) members → map (λ w. w.now) names ≡ map (λ m. (seen m).name) members
    → ((word : List ℕ) → place_at first word ≡ option_or (place_from 0 (map (λ w. w.now) nicks) word) (place_at none word))
    → ((word : List ℕ) → place_at both word ≡ option_or (place_from 0 (map (λ w. w.now) names) word) (place_at first word))
    → FindCalled seen both members
find_called seen members nicks names none first both empty are_nicks are_names firsts boths word =
    let nothing : place_at none word ≡ None = ap (λ es. lookup (is_at (λ (k : Vec ℕ Global). slice_cmp nat_cmp word k.items)) es) empty in
    let nicked : place_at first word ≡ place_from 0 (map (λ m. (seen m).nick) members) word =
    firsts word ∙ ap (option_or (place_from 0 (map (λ w. w.now) nicks) word)) nothing ∙ or_none (place_from 0 (map (λ w. w.now) nicks) word)
    ∙ ap (λ ws. place_from 0 ws word) are_nicks in
    called_at seen word members (place_at both word)
    (boths word ∙ ap (λ ws. option_or (place_from 0 ws word) (place_at first word)) are_names
    ∙ ap (option_or (place_from 0 (map (λ m. (seen m).name) members) word)) nicked)
