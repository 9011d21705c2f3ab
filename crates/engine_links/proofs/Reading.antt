-- Links read by program, block and instruction.
use Rattle.std.proofs.Common.{◌≡◌, ℕ, zero, suc, ◌<◌, ◌≤◌, List, [], ◌∷◌, length, map, get_or, Some, option_map, slice_get, refl, sym, ap, ◌∙◌, arith}
use Rattle.std.proofs.lemmas.Option.{slice_get-map, slice_get_read}
use Rattle.std.proofs.lemmas.List.{length-map}
use Rattle.ui_machine.specs.Seq.{read}
use Rattle.engine_links.specs.Linked.{link_at}
use Rattle.engine_links.specs.declared.link.Link.{Link}
use Rattle.engine_links.specs.declared.link.Link.TheVariants as links

-- ** what a look-up of code says

pub there : {A : Type 0} (items xs : List A) (i j : ℕ) (x : A) → items ≡ xs → i ≡ j → i < length items → x ≡ get_or items i x → slice_get xs j ≡ Some x
there items xs i j x all place within is =
    ap (λ l. slice_get l j) (sym all) ∙ ap (slice_get items) (sym place) ∙ slice_get_read items (length items) i x refl within is

pub past : {A : Type 0} (items xs : List A) (i j : ℕ) → items ≡ xs → i ≡ j → length items ≤ i → length xs ≤ j
past items xs i j all place over = let same = ap length all in omega (arith, same, place, over)

-- ** what is read

-- an index reads what is there, and a default past the end
pub get_or-read : {A : Type 0} (none : A) (xs : List A) (i j : ℕ) → i ≡ j → get_or xs i none ≡ read none xs j
get_or-read {A = A} none xs i j same = at xs i ∙ ap (read none xs) same
  where
    at : (ys : List A) (k : ℕ) → get_or ys k none ≡ read none ys k
    at [] k = refl
    at (y ∷ ys) zero = refl
    at (y ∷ ys) (suc k) = at ys k

read-there : {A : Type 0} (none : A) (xs : List A) (i : ℕ) (x : A) → slice_get xs i ≡ Some x → read none xs i ≡ x
read-there none [] i x at = cc
read-there none (y ∷ xs) zero x at = cc
read-there none (y ∷ xs) (suc i) x at = read-there none xs i x at

pub read-past : {A : Type 0} (none : A) (xs : List A) (i : ℕ) → length xs ≤ i → read none xs i ≡ none
read-past none [] i over = refl
read-past none (x ∷ xs) zero over = absurd (omega arith)
read-past none (x ∷ xs) (suc i) over = read-past none xs i (omega arith)

pub seen-there : {A B : Type 0} (view : A → B) (none : B) (xs : List A) (i : ℕ) (x : A) → slice_get xs i ≡ Some x → read none (map view xs) i ≡ view x
seen-there view none xs i x at = read-there none (map view xs) i (view x) (slice_get-map view xs i ∙ ap (option_map view) at)

pub seen-past : {A B : Type 0} (view : A → B) (none : B) (xs : List A) (i : ℕ) → length xs ≤ i → read none (map view xs) i ≡ none
seen-past view none xs i over = let same = length-map xs view in read-past none (map view xs) i (omega (arith, same, over))

-- a row, as it is seen
pub row_there : {V B : Type 0} (items : V → List B) (rows : List V) (i j : ℕ) (d : V) → i ≡ j → i < length rows → items (get_or rows i d) ≡ read [] (map items rows) j
row_there {V = V} items rows i j d same small = at rows i small ∙ ap (read [] (map items rows)) same
  where
    at : (vs : List V) (k : ℕ) → k < length vs → items (get_or vs k d) ≡ read [] (map items vs) k
    at [] k lt = absurd (omega (arith, lt))
    at (v ∷ vs) zero lt = refl
    at (v ∷ vs) (suc k) lt = at vs k (omega (arith, lt))

pub row_past : {V B : Type 0} (items : V → List B) (rows : List V) (i : ℕ) → length rows ≤ i → read [] (map items rows) i ≡ []
row_past items rows i over = let same = length-map rows items in read-past [] (map items rows) i (omega (arith, same, over))

module _ {P B : Type 0} (blocks_of : P → List B) (links_of : B → List Link) (programs : List P) (program block at : ℕ) where
  -- the links of programs, as they are seen
  abbrev seen : List (List (List Link))
  seen = map (λ p. map links_of (blocks_of p)) programs

  pub no_program : length programs ≤ program → links.Nothing ≡ link_at seen program block at
  no_program over = sym (ap (λ bs. read links.Nothing (read [] bs block) at) (seen-past (λ p. map links_of (blocks_of p)) [] programs program over))

  module _ (p : P) (has : slice_get programs program ≡ Some p) where
    of_program : link_at seen program block at ≡ read links.Nothing (read [] (map links_of (blocks_of p)) block) at
    of_program = ap (λ bs. read links.Nothing (read [] bs block) at) (seen-there (λ q. map links_of (blocks_of q)) [] programs program p has)

    pub no_block : length (blocks_of p) ≤ block → links.Nothing ≡ link_at seen program block at
    no_block over = sym (of_program ∙ ap (λ ls. read links.Nothing ls at) (seen-past links_of [] (blocks_of p) block over))

    module _ (b : B) (has_block : slice_get (blocks_of p) block ≡ Some b) where
      of_block : link_at seen program block at ≡ read links.Nothing (links_of b) at
      of_block = of_program ∙ ap (λ ls. read links.Nothing ls at) (seen-there links_of [] (blocks_of p) block b has_block)

      pub no_link : length (links_of b) ≤ at → links.Nothing ≡ link_at seen program block at
      no_link over = sym (of_block ∙ read-past links.Nothing (links_of b) at over)

      pub a_link : (link : Link) → slice_get (links_of b) at ≡ Some link → link ≡ link_at seen program block at
      a_link link has_link = sym (of_block ∙ read-there links.Nothing (links_of b) at link has_link)
