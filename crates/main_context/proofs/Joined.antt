-- Tests that are joined.
use Rattle.std.proofs.Common.{◌≡◌, Bool, true, false, not, ◌&&◌, ◌||◌, ◌⊎◌, inl, inr, refl}

pub both_of : (a b : Bool) → (a && b) ≡ true → (a ≡ true) × (b ≡ true)
both_of true b h = (refl, h)
both_of false b h = cc

pub and_of : (a b : Bool) → a ≡ true → b ≡ true → (a && b) ≡ true
and_of true b e f = f
and_of false b e f = cc

pub either_of : (a b : Bool) → (a || b) ≡ true → (a ≡ true) ⊎ (b ≡ true)
either_of true b h = inl refl
either_of false b h = inr h

pub or_of : (a b : Bool) → b ≡ true → (a || b) ≡ true
or_of true b e = refl
or_of false b e = e

-- an implication, as it is tested

pub implied_of : (a b : Bool) → (not a || b) ≡ true → a ≡ true → b ≡ true
implied_of true b h e = h
implied_of false b h e = cc

pub implies_of : (a b : Bool) → (a ≡ true → b ≡ true) → (not a || b) ≡ true
implies_of true b f = f refl
implies_of false b f = refl

pub same_of : (a b : Bool) → (a ≡ true → b ≡ true) → (b ≡ true → a ≡ true) → a ≡ b
same_of true true f g = refl
same_of true false f g = cc (f refl)
same_of false true f g = cc (g refl)
same_of false false f g = refl

pub neither_of : (a b : Bool) → (a || b) ≡ false → (a ≡ false) × (b ≡ false)
neither_of true b h = cc
neither_of false b h = (refl, h)
