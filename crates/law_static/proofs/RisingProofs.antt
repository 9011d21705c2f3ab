-- What rises is found, and costs no more than what it is of.
use Rattle.std.proofs.Common.{◌≡◌, refl, sym, ap, subst, ◌∙◌, ℕ, suc, ◌-◌, ◌≤◌, Bool, true, false, List, [], ◌∷◌, Some, slice_get, arith}
use Rattle.std.specs.Prelude.{nat_eq}
use Rattle.std.proofs.lemmas.Bool.{eqb-true, eqb-false, eq-eqb}
use Rattle.ui_machine.specs.Seq.{total}
use Rattle.ui_machine.specs.Definition.Places.{Bind}
use Rattle.ui_machine.specs.State.Handlers.{Handler, handler_of}
use Rattle.ui_machine.specs.State.Bindings.{Binding}
use Rattle.law_typing.specs.Verdict.Accepted.{Each}
use Rattle.law_typing.specs.Good.Standing.{Rising}
use Rattle.law_static.specs.Rising.{Priced, RisingAreFound, RisingCosts}

abbrev number : Binding → ℕ
number b = b.number

-- past the first entry
past : (x : Bind) (xs : List Bind) (n k : ℕ) → suc k ≤ n → slice_get (x ∷ xs) (n - k) ≡ slice_get xs (n - suc k)
past x xs n k h = let e : n - k ≡ suc (n - suc k) = omega (arith, h) in ap (slice_get (x ∷ xs)) e

module _ (f : Binding → ℕ) (g : Bind → ℕ) where
  shift : (k m : ℕ) (x : Bind) (xs : List Bind) (bs : List Binding) → suc k ≤ m → Rising number m bs → Each (Priced f g k (x ∷ xs)) bs → Each (Priced f g (suc k) xs) bs
  shift k m x xs [] h r all = tt
  shift k m x xs (b ∷ bs) h r all =
      let low : suc k ≤ b.number = (let a = r.0 in omega (arith, h, a)) in
      let p = all.0 in
      ((p.0, sym (past x xs b.number k low) ∙ p.1, p.2), shift k (suc b.number) x xs bs (omega (arith, low)) r.1 all.1)

  rising : (k : ℕ) (xs : List Bind) (bs : List Binding) → Rising number k bs → Each (Priced f g k xs) bs → total f bs ≤ total g xs
  rising k [] [] r all = omega arith
  rising k [] (b ∷ bs) r all = absurd (let e = all.0.1 in cc)
  rising k (x ∷ xs) [] r all = omega arith
  rising k (x ∷ xs) (b ∷ bs) r all = go (λ cs h each. rising (suc k) xs cs h each) (nat_eq b.number k) refl
    where
      Rec : Type 0
      Rec = (cs : List Binding) → Rising number (suc k) cs → Each (Priced f g (suc k) xs) cs → total f cs ≤ total g xs

      first : Rec → b.number ≡ k → total f (b ∷ bs) ≤ total g (x ∷ xs)
      first rec same =
          let z : b.number - k ≡ 0 = omega (arith, same) in
          let e = sym (ap (slice_get (x ∷ xs)) z) ∙ all.0.1 in
          let is : x ≡ all.0.0 = cc in
          let here = subst (λ y. f b ≤ g y) (sym is) all.0.2 in
          let later = rec bs (subst (λ n. Rising number (suc n) bs) same r.1) (shift k (suc b.number) x xs bs (omega (arith, same)) r.1 all.1) in
          omega (arith, here, later)

      go : Rec → (t : Bool) → nat_eq b.number k ≡ t → total f (b ∷ bs) ≤ total g (x ∷ xs)
      go rec true t = first rec (eqb-true b.number k t)
      go rec false t =
          let apart = eqb-false b.number k t in
          let low : suc k ≤ b.number = (let a = r.0 in omega (arith, a, apart)) in
          let h = rec (b ∷ bs) (low, r.1) (shift k b.number x xs (b ∷ bs) low (omega arith, r.1) all) in
          omega (arith, h)

pub rising_costs : RisingCosts
rising_costs f g k xs bs r all = rising f g k xs bs r all

-- ** found

abbrev handler_number : Handler → ℕ
handler_number h = h.number

-- numbers that rise from k on are not below it
above : (k m : ℕ) (hs : List Handler) → m ≤ k → Rising handler_number k hs → Each (λ (h : Handler). m ≤ h.number) hs
above k m [] low r = tt
above k m (h ∷ hs) low r = let first = r.0 in (omega (arith, low, first), above (suc h.number) m hs (omega (arith, low, first)) r.1)

-- what is found among later ones still is behind one of a lower number
behind : (x : Handler) (hs all : List Handler) → Each (λ (h : Handler). suc x.number ≤ h.number) hs →
    Each (λ (h : Handler). handler_of h.number all ≡ Some h) hs → Each (λ (h : Handler). handler_of h.number (x ∷ all) ≡ Some h) hs
behind x [] all later found = tt
behind x (h ∷ hs) all later found = (go (nat_eq x.number h.number) refl, behind x hs all later.1 found.1)
  where
    go : (b : Bool) → nat_eq x.number h.number ≡ b → handler_of h.number (x ∷ all) ≡ Some h
    go true t = absurd (let same = eqb-true x.number h.number t in let low = later.0 in omega (arith, same, low))
    go false t = (let f = found.0 in rw (t, f))

pub rising_are_found : RisingAreFound
rising_are_found k [] r = tt
rising_are_found k (h ∷ hs) r =
    (first, behind h hs hs (above (suc h.number) (suc h.number) hs (omega arith) r.1) (rising_are_found (suc h.number) hs r.1))
  where
    first : handler_of h.number (h ∷ hs) ≡ Some h
    first = let same = eq-eqb h.number h.number refl in rw same
