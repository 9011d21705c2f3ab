-- Lists that are seen by a view, and gone through from their first entry to the last.
use Rattle.std.specs.Bool.{◌==◌}
use Rattle.std.proofs.Math.Dec.{eqb-suc-zero}
use Rattle.std.proofs.Common.{not, cond, ◌++◌, append_assoc, ◌≡◌, refl, sym, ap, ◌∙◌, ℕ, zero, suc, ◌+◌, ◌<◌, ◌≤◌, List, [], ◌∷◌, ◌-◌, length, map, take, drop, slice_index_or, arith}
use Rattle.ui_machine.specs.Seq.{listed}
use Rattle.law_typing.specs.Graph.Costs.{before_last, only_last}
use Rattle.verify_sketches.specs.Sketches.{SketchedBlock}
use Rattle.verify_sketches.specs.Numbered.{Part, block, first_block}
use Rattle.verify_numbers.specs.Counts.{befores_from, block_count}

pub more : (n : ℕ) → suc n + 1 ≡ suc (n + 1)
more n = omega arith

less : (n : ℕ) → suc (suc n) - 1 ≡ suc (suc n - 1)
less n = omega arith

pub one_more : (n : ℕ) → suc n ≡ n + 1
one_more n = omega arith

-- from an entry on, the first is this one
pub from_entry : {A B : Type 0} → (f : A → B) (xs : List A) (n : ℕ) (x : A) → n < length xs → x ≡ slice_index_or xs n x →
    drop n (map f xs) ≡ f x ∷ drop (n + 1) (map f xs)
from_entry f [] n x within is = absurd (omega (arith, within))
from_entry f (y ∷ ys) zero x within is = ap (λ z. f z ∷ map f ys) (sym is)
from_entry f (y ∷ ys) (suc n) x within is =
    from_entry f ys n x (omega (arith, within)) is ∙ ap (λ m. f x ∷ drop m (map f (y ∷ ys))) (sym (more n))

-- behind all of them there is none
pub from_end : {A B : Type 0} → (f : A → B) (xs : List A) (n : ℕ) → length xs ≤ n → drop n (map f xs) ≡ []
from_end f [] zero behind = refl
from_end f [] (suc n) behind = refl
from_end f (x ∷ xs) zero behind = absurd (omega (arith, behind))
from_end f (x ∷ xs) (suc n) behind = from_end f xs n (omega (arith, behind))

-- the rest of a list of numbers begins with the number there
pub from_number : (xs : List ℕ) (n : ℕ) → n < length xs → drop n xs ≡ slice_index_or xs n 0 ∷ drop (n + 1) xs
from_number [] n within = absurd (omega (arith, within))
from_number (y ∷ ys) zero within = refl
from_number (y ∷ ys) (suc n) within =
    from_number ys n (omega (arith, within)) ∙ ap (λ m. slice_index_or ys n 0 ∷ drop m (y ∷ ys)) (sym (more n))

pub past_end : {A : Type 0} → (xs : List A) (n : ℕ) → length xs ≤ n → drop n xs ≡ []
past_end [] zero behind = refl
past_end [] (suc n) behind = refl
past_end (x ∷ xs) zero behind = absurd (omega (arith, behind))
past_end (x ∷ xs) (suc n) behind = past_end xs n (omega (arith, behind))

-- the last alone, and all before it
pub last_is : {A : Type 0} → (xs : List A) → drop (length xs - 1) xs ≡ only_last xs
last_is [] = refl
last_is (x ∷ []) = refl
last_is (x ∷ y ∷ more) = rw (less (length more)) (last_is (y ∷ more))

pub before_is : {A : Type 0} → (xs : List A) → take (length xs - 1) xs ≡ before_last xs
before_is [] = refl
before_is (x ∷ []) = refl
before_is (x ∷ y ∷ more) = rw (less (length more)) (ap (λ zs. x ∷ zs) (before_is (y ∷ more)))

-- ** blocks

pub befores_go_on : (old new : List ℕ) (before sum len : ℕ) (ps rest : List (List SketchedBlock)) (bs : List SketchedBlock) (whole : List ℕ) →
    new ≡ old ++ before ∷ [] → sum ≡ before + len → len ≡ length bs → ps ≡ bs ∷ rest → old ++ befores_from before ps ≡ whole →
    new ++ befores_from sum rest ≡ whole
befores_go_on old new before sum len ps rest bs whole added adds is parts known =
    ap (λ xs. xs ++ befores_from sum rest) added
    ∙ (append_assoc old (before ∷ []) (befores_from sum rest)
    ∙ (ap (λ m. old ++ (before ∷ befores_from m rest)) (adds ∙ ap (λ l. before + l) is)
    ∙ (ap (λ q. old ++ befores_from before q) (sym parts) ∙ known)))

pub counts_go_on : (before sum len whole : ℕ) (ps rest : List (List SketchedBlock)) (bs : List SketchedBlock) →
    sum ≡ before + len → len ≡ length bs → ps ≡ bs ∷ rest → before + block_count ps ≡ whole → sum + block_count rest ≡ whole
counts_go_on before sum len whole ps rest bs adds is parts known = let e = ap block_count parts in omega (arith, adds, is, e, known)

-- the first of some blocks, if there are any
pub first_is : {A : Type 0} → (at : Part → ℕ) (p : ℕ) (view : A → SketchedBlock) (xs : List A) →
    cond (not (length xs == 0)) (at (block p 0) ∷ []) [] ≡ first_block at p (length (map view xs))
first_is at p view [] = refl
first_is at p view (x ∷ xs) = ap (λ b. cond (not b) (at (block p 0) ∷ []) []) (eqb-suc-zero (length xs))

pub mapped_length : {A B : Type 0} → (f : A → B) (xs : List A) → length (map f xs) ≡ length xs
mapped_length f [] = refl
mapped_length f (x ∷ xs) = ap suc (mapped_length f xs)

-- one more of the numbers from 0 on
pub listed_more : (f : ℕ → ℕ) (n : ℕ) → listed f (n + 1) ≡ listed f n ++ f n ∷ []
listed_more f zero = refl
listed_more f (suc n) = ap (listed f) (more n) ∙ ap (λ xs. f 0 ∷ xs) (listed_more (λ i. f (suc i)) n)
