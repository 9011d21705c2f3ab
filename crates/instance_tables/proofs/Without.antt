-- An identity taken out of a list.
use Rattle.std.proofs.Common.{◌≡◌, ℕ, suc, ◌+◌, List, [], ◌∷◌, length, Bool, true, false, cond, not, ◌||◌, nat_eq, refl, ap, arith}
use Rattle.std.proofs.lemmas.Bool.Decides.{nat_tests}
use Rattle.std.specs.List.{filter, list_any}
use Rattle.ui_machine.specs.declared.ids.ObjectId.{ObjectId}
use Rattle.ui_machine.specs.Seq.{total}
use Rattle.ui_machine.specs.State.Config.{without}
use Rattle.ui_machine.specs.State.References.{same}
use Rattle.instance_tables.specs.Store.{ids_of}

pub kept_without : (id : ℕ) (ids : List ObjectId) → ids_of (filter (λ (i : ObjectId). not (nat_eq i.0 id)) ids) ≡ without id (ids_of ids)
kept_without id [] = refl
kept_without id (i ∷ is) = by (kept_without id is) (nat_eq i.0 id)
  where
    by : ids_of (filter (λ (j : ObjectId). not (nat_eq j.0 id)) is) ≡ without id (ids_of is) → (b : Bool)
        → ids_of (cond (not b) (i ∷ filter (λ (j : ObjectId). not (nat_eq j.0 id)) is) (filter (λ (j : ObjectId). not (nat_eq j.0 id)) is))
        ≡ cond b (without id (ids_of is)) (i.0 ∷ without id (ids_of is))
    by e true = e
    by e false = ap (λ (js : List ℕ). i.0 ∷ js) e

-- so many go as the list had of it
pub gone_of : (id : ℕ) (ids : List ℕ) → length (without id ids) + total (same id) ids ≡ length ids
gone_of id [] = refl
gone_of id (i ∷ is) = by (gone_of id is) (nat_eq i id)
  where
    by : length (without id is) + total (same id) is ≡ length is → (b : Bool)
        → length (cond b (without id is) (i ∷ without id is)) + (cond b 1 0 + total (same id) is) ≡ suc (length is)
    by e true = omega (arith, e)
    by e false = omega (arith, e)

-- and what it had of others stays
pub others_stay : (id o : ℕ) (ids : List ℕ) → nat_eq id o ≡ false → total (same o) (without id ids) ≡ total (same o) ids
others_stay id o [] ne = refl
others_stay id o (i ∷ is) ne = by (others_stay id o is ne) (nat_eq i id) refl
  where
    by : total (same o) (without id is) ≡ total (same o) is → (b : Bool) → nat_eq i id ≡ b
        → total (same o) (cond b (without id is) (i ∷ without id is)) ≡ same o i + total (same o) is
    by e true is_it = let no : nat_eq i o ≡ false = grind (arith, nat_tests) in rw no (omega (arith, e))
    by e false is_it = omega (arith, e)

-- none of it is left
pub none_left : (id : ℕ) (ids : List ℕ) → ◌≡◌ {A = ℕ} (total (same id) (without id ids)) 0
none_left id [] = refl
none_left id (i ∷ is) = by (none_left id is) (nat_eq i id) refl
  where
    by : ◌≡◌ {A = ℕ} (total (same id) (without id is)) 0 → (b : Bool) → nat_eq i id ≡ b
        → ◌≡◌ {A = ℕ} (total (same id) (cond b (without id is) (i ∷ without id is))) 0
    by e true is_it = e
    by e false is_it = rw is_it (omega (arith, e))

pub length_ids : (ids : List ObjectId) → length (ids_of ids) ≡ length ids
length_ids [] = refl
length_ids (i ∷ is) = ap suc (length_ids is)

pub among_ids : (id : ℕ) (ids : List ObjectId) → list_any (λ (i : ObjectId). nat_eq i.0 id) ids ≡ list_any (λ i. nat_eq i id) (ids_of ids)
among_ids id [] = refl
among_ids id (i ∷ is) = ap (λ b. nat_eq i.0 id || b) (among_ids id is)
