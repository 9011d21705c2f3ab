-- The bounds of busy channels: those of idle ones are never too large.
use Rattle.std.proofs.Common.{◌≡◌, inl, inr, refl, sym, ap, ◌∙◌, ℕ, zero, suc, ◌≤◌, Bool, true, false, cond, nat_lt, List, [], ◌∷◌, map, get_or, Option, None, Some, slice_get, arith}
use Rattle.std.specs.List.{filter, find}
use Rattle.std.proofs.lemmas.Bool.{le-ltb}
use Rattle.ui_machine.specs.Seq.{read}
use Rattle.ui_machine.specs.Definition.{Definition}
use Rattle.law_typing.specs.Graph.{graph}
use Rattle.law_typing.specs.Graph.Channels.{Channel, channels}
use Rattle.law_typing.specs.Graph.Channels as entries
use Rattle.law_typing.specs.Graph.Costs.{bound}
use Rattle.law_typing.specs.Graph.Tables.{Table, Tables}
use Rattle.law_typing.specs.Laws.{IsIn}
use Rattle.law_typing.specs.Laws.Capped.{capped}
use Rattle.law_typing.specs.Verdict.{most_bound}
use Rattle.law_typing.proofs.OneSolutionProofs.{filtered_kept}
use Rattle.law_idle.specs.Idle.{busy_channels, is_busy}
use Rattle.verify_graph.specs.Numbers.{IsOnce, number_of}
use Rattle.verify_graph.proofs.Positions.{found_is, number_is}
use Rattle.verified.specs.Told.{told_bound, value_among, value_at}
use Rattle.verified.specs.declared.numbers.Numbers.{Numbers}
use Rattle.verified.proofs.LookUps.{same_in}
use Rattle.ui_verifier.specs.Bounds.{AreCapped}
use Rattle.ui_verifier.specs.Large.{is_large, large_channel}
use Rattle.ui_verifier.proofs.IdleNumbers.{stands}
use Rattle.ui_verifier.proofs.LargeProofs.{same_large}

-- the first of those that pass a test is the first of all, where the others are never meant
find_filtered : {A B : Type 0} (f : B → Bool) (test : A → Bool) (of : A → B) (xs : List A) → ((x : A) → IsIn x xs → test x ≡ false → f (of x) ≡ false) →
    find f (map of xs) ≡ find f (map of (filter test xs))
find_filtered f test of [] none = refl
find_filtered f test of (x ∷ xs) none = by (test x) refl (find_filtered f test of xs (λ y h. none y (inr h)))
  where
    by : (b : Bool) → test x ≡ b → find f (map of xs) ≡ find f (map of (filter test xs)) →
        find f (map of (x ∷ xs)) ≡ find f (map of (cond b (x ∷ filter test xs) (filter test xs)))
    by true e rest = ap (λ o. cond (f (of x)) (Some (of x)) o) rest
    by false e rest = ap (λ b. cond b (Some (of x)) (find f (map of xs))) (none x (inl refl) e) ∙ rest

-- a small number is read in place of one that is not there
small_read : (idle : ℕ) (bounds : List ℕ) (k : ℕ) → idle ≤ most_bound → nat_lt most_bound (get_or bounds k 0) ≡ nat_lt most_bound (read idle bounds k)
small_read idle [] zero low = sym (le-ltb most_bound idle low)
small_read idle [] (suc k) low = sym (le-ltb most_bound idle low)
small_read idle (b ∷ bounds) zero low = refl
small_read idle (b ∷ bounds) (suc k) low = small_read idle bounds k low

module _ (d : Definition) (n : Numbers) (r : Table) (t p : Tables) (are : AreCapped d n r t p) where
  large_is : (c : Channel) → IsIn c (channels d) → is_large d t (entries.at c) ≡ nat_lt most_bound (told_bound d n c)
  large_is c there =
      sym (ap (nat_lt most_bound) (same_in (told_bound d n) (λ (e : Channel). capped (bound (graph d) t (entries.at e))) (channels d) c are.bounds there)
      ∙ same_large (bound (graph d) t (entries.at c)))

  idle_told : (c : Channel) → is_busy d c ≡ false → told_bound d n c ≡ n.idle
  idle_told c idle = by (number_of (busy_channels d) c) refl
    where
      by : (o : Option ℕ) → number_of (busy_channels d) c ≡ o → value_at n.bounds.items n.idle o ≡ n.idle
      by None e = refl
      by (Some k) e = absurd (let h = (filtered_kept (is_busy d) (channels d) c (stands (busy_channels d) k c (found_is (busy_channels d) c k e))).0 in cc)

  pub by_busy : large_channel d t (busy_channels d) ≡ large_channel d t (channels d)
  by_busy =
      sym (find_filtered (is_large d t) (is_busy d) entries.at (channels d)
      (λ c there idle. large_is c there ∙ (ap (nat_lt most_bound) (idle_told c idle) ∙ le-ltb most_bound n.idle are.idle)))

  -- the bound at the number of a busy channel
  pub large_at : (bounds : List ℕ) (k : ℕ) (c : Channel) → bounds ≡ n.bounds.items → IsOnce (busy_channels d) → slice_get (busy_channels d) k ≡ Some c →
      nat_lt most_bound (get_or bounds k 0) ≡ is_large d t (entries.at c)
  large_at bounds k c kept once at =
      small_read n.idle bounds k are.idle
      ∙ (ap (λ bs. nat_lt most_bound (read n.idle bs k)) kept
      ∙ (ap (λ o. nat_lt most_bound (value_at n.bounds.items n.idle o)) (number_is (busy_channels d) once c k at)
      ∙ sym (large_is c (filtered_kept (is_busy d) (channels d) c (stands (busy_channels d) k c at)).1)))
