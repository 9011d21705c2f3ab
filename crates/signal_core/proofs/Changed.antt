-- An item that is changed where it is one of those meant, and one that stays.
use Rattle.std.proofs.Common.{◌≡◌, Bool, cond, false, refl, true}

module _ {X : Type 0} (change : X → X) (is_meant : X → Bool) (x : X) where
  pub changed_one : is_meant x ≡ true → cond (is_meant x) (change x) x ≡ change x
  changed_one e = rw e refl

  pub kept_one : is_meant x ≡ false → cond (is_meant x) (change x) x ≡ x
  kept_one e = rw e refl
