-- How many live and which is unheld, by the entries.
use Rattle.std.proofs.Common.{◌≡◌, ℕ, zero, suc, ◌+◌, List, ◌∷◌, length, Option, Some, None, is_some, refl, ap, ◌∙◌, arith}
use Rattle.ui_machine.specs.Seq.{listed}
use Rattle.ui_machine.specs.State.Objects.{Object, Objects, one_if, live}
use Rattle.ui_machine.specs.State.References.{unheld_from}
use Rattle.instance_tables.specs.View.{object_in, count_in, first_unheld}
use Rattle.instance_tables.specs.declared.instance.Instance.{Instance}
use Rattle.instance_tables.proofs.Scan.{entries_from}

-- how many live, by the identities that have something
live_with : {X : Type 0} (o : Option Object) (k : Option X) (ks : List (Option X)) (n i : ℕ) → is_some o ≡ is_some k
    → n ≡ length (entries_from (suc i) ks) → one_if o + n ≡ length (entries_from i (k ∷ ks))
live_with None None ks n i same e = omega (arith, e)
live_with None (Some x) ks n i same e = absurd (cc)
live_with (Some o) None ks n i same e = absurd (cc)
live_with (Some o) (Some x) ks n i same e = omega (arith, e)

pub live_entries : {X : Type 0} (g : ℕ → Option Object) (k : ℕ → Option X) (n i : ℕ) → ((j : ℕ) → is_some (g j) ≡ is_some (k j))
    → live (listed g n) ≡ length (entries_from i (listed k n))
live_entries g k zero i same = refl
live_entries g k (suc n) i same =
    live_with (g 0) (k 0) (listed (λ j. k (suc j)) n) _ i (same 0)
    (live_entries (λ j. g (suc j)) (λ j. k (suc j)) n (suc i) (λ j. same (suc j)))

unheld_with : (mentions : ℕ → ℕ) (o : Option Instance) (os : Objects) (xs : List (Option Instance)) (i : ℕ)
    → mentions i ≡ count_in o → unheld_from mentions (suc i) os ≡ first_unheld (entries_from (suc i) xs)
    → unheld_from mentions i (object_in o ∷ os) ≡ first_unheld (entries_from i (o ∷ xs))
unheld_with mentions None os xs i h e = e
unheld_with mentions (Some x) os xs i h e = rw (h, e) refl

pub unheld_entries : (mentions : ℕ → ℕ) (g : ℕ → Option Instance) (n i : ℕ)
    → ((j : ℕ) → mentions (i + j) ≡ count_in (g j))
    → unheld_from mentions i (listed (λ j. object_in (g j)) n) ≡ first_unheld (entries_from i (listed g n))
unheld_entries mentions g zero i h = refl
unheld_entries mentions g (suc n) i h =
    let here : i ≡ i + 0 = omega arith in
    unheld_with mentions (g 0) (listed (λ j. object_in (g (suc j))) n) (listed (λ j. g (suc j)) n) i (ap mentions here ∙ h 0)
    (unheld_entries mentions (λ j. g (suc j)) n (suc i)
    (λ j. let next : suc i + j ≡ i + suc j = omega arith in ap mentions next ∙ h (suc j)))
