-- Bounds of busy channels, and of the others, which all have the same.
use Rattle.std.proofs.Common.{◌≡◌, ◌∙◌, inl, inr, refl, sym, ap, ℕ, ◌+◌, ◌<◌, ◌≤◌, Bool, true, false, ◌&&◌, cond, nat_le, arith, List, [], ◌∷◌, length, take, Some, slice_get}
use Rattle.std.specs.List.{filter, list_all}
use Rattle.std.proofs.lemmas.Bool.{false≢true}
use Rattle.ui_machine.specs.Definition.{Definition}
use Rattle.ui_machine.specs.declared.ids.Channel as code
use Rattle.law_idle.specs.Idle.{busy_channels, is_busy}
use Rattle.law_typing.specs.Graph.Channels.{Channel, channels}
use Rattle.law_typing.specs.Graph.Channels as entries
use Rattle.law_typing.specs.Laws.{IsIn}
use Rattle.law_typing.specs.Verdict.Accepted.{Accepted}
use Rattle.verify_graph.specs.ChannelView.{channel_of}
use Rattle.verified.specs.Told.{IsBound, bound_of}
use Rattle.verified_limits.proofs.Bounded.{all_pass, in_place, is_channel_within, is_more, is_not_more, one_fails, one_passes}

-- ** what a test keeps of a list

module _ {A : Type 0} (keep : A → Bool) where
  pub kept_in : (x : A) (xs : List A) → IsIn x (filter keep xs) → IsIn x xs
  kept_in x [] there = there
  kept_in x (y ∷ ys) there = by (kept_in x ys) (keep y) there
    where
      by : (IsIn x (filter keep ys) → IsIn x ys) → (b : Bool) → IsIn x (cond b (y ∷ filter keep ys) (filter keep ys)) → IsIn x (y ∷ ys)
      by later true (inl is) = inl is
      by later true (inr there) = inr (later there)
      by later false there = inr (later there)

  module _ (p : A → Bool) where
    one_kept : (y : A) (kept rest : Bool) → (kept ≡ false → rest ≡ false) → (b : Bool) → (cond b (p y && kept) kept) ≡ false → (p y && rest) ≡ false
    one_kept y kept rest later true fails = by (p y) fails
      where
        by : (b : Bool) → (b && kept) ≡ false → (b && rest) ≡ false
        by true h = later h
        by false h = refl
    one_kept y kept rest later false fails = by (p y) (later fails)
      where
        by : (b : Bool) → rest ≡ false → (b && rest) ≡ false
        by true h = h
        by false h = refl

    -- one that is kept and fails settles it
    pub kept_fails : (xs : List A) → list_all p (filter keep xs) ≡ false → list_all p xs ≡ false
    kept_fails [] fails = fails
    kept_fails (y ∷ ys) fails = one_kept y (list_all p (filter keep ys)) (list_all p ys) (kept_fails ys) (keep y) (over (keep y) ∙ fails)
      where
        over : (b : Bool) → (cond b (p y && list_all p (filter keep ys)) (list_all p (filter keep ys))) ≡ list_all p (cond b (y ∷ filter keep ys) (filter keep ys))
        over true = refl
        over false = refl

    both : (a b : Bool) → (a && b) ≡ true → (a ≡ true) × (b ≡ true)
    both true b h = (refl, h)
    both false b h = absurd (false≢true h)

    -- where those that are kept pass, and the others do, all pass
    pub all_kept : (xs : List A) → ((x : A) → IsIn x xs → keep x ≡ false → p x ≡ true) → list_all p (filter keep xs) ≡ true → list_all p xs ≡ true
    all_kept [] others pass = refl
    all_kept (y ∷ ys) others pass = by (all_kept ys (λ x there. others x (inr there))) (keep y) refl pass
      where
        by : (list_all p (filter keep ys) ≡ true → list_all p ys ≡ true) → (b : Bool) → keep y ≡ b
            → list_all p (cond b (y ∷ filter keep ys) (filter keep ys)) ≡ true → (p y && list_all p ys) ≡ true
        by rest true is h = let two = both (p y) (list_all p (filter keep ys)) h in ap (λ b. b && list_all p ys) two.0 ∙ rest two.1
        by rest false is h = ap (λ b. b && list_all p ys) (others y (inl refl) is) ∙ rest h

-- ** the channels of a definition

module _ (d : Definition) (a : Accepted d) (most : ℕ) where
  bound_here : (k : ℕ) (c : code.Channel) (bound : ℕ) → slice_get (busy_channels d) k ≡ Some (channel_of c)
      → (IsIn (channel_of c) (channels d) → IsBound d (entries.at (channel_of c)) bound) → bound ≡ bound_of d a (entries.at (channel_of c))
  bound_here k c bound at is = is (kept_in (is_busy d) (channel_of c) (channels d) (in_place (busy_channels d) k (channel_of c) at)) a

  pub busy_fails : (busy : List Channel) (k : ℕ) (c : code.Channel) (bound : ℕ) → busy ≡ busy_channels d → slice_get busy k ≡ Some (channel_of c)
      → (IsIn (channel_of c) (channels d) → IsBound d (entries.at (channel_of c)) bound) → most < bound
      → list_all (is_channel_within d a most) (busy_channels d) ≡ false
  busy_fails busy k c bound are at is more =
      let there = ap (λ cs. slice_get cs k) (sym are) ∙ at in
      one_fails (is_channel_within d a most) (busy_channels d) k (channel_of c) there
      (ap (λ n. nat_le n most) (sym (bound_here k c bound there is)) ∙ is_more bound most more)

  pub busy_passes : (busy : List Channel) (k : ℕ) (c : code.Channel) (bound : ℕ) → busy ≡ busy_channels d → slice_get busy k ≡ Some (channel_of c)
      → (IsIn (channel_of c) (channels d) → IsBound d (entries.at (channel_of c)) bound) → bound ≤ most
      → list_all (is_channel_within d a most) (take k (busy_channels d)) ≡ true → list_all (is_channel_within d a most) (take (k + 1) (busy_channels d)) ≡ true
  busy_passes busy k c bound are at is less before =
      let there = ap (λ cs. slice_get cs k) (sym are) ∙ at in
      one_passes (is_channel_within d a most) (busy_channels d) k (channel_of c) there
      (ap (λ n. nat_le n most) (sym (bound_here k c bound there is)) ∙ is_not_more bound most less) before

  pub busy_end : (busy : List Channel) (k : ℕ) → busy ≡ busy_channels d → length busy ≤ k → list_all (is_channel_within d a most) (take k (busy_channels d)) ≡ true
      → list_all (is_channel_within d a most) (busy_channels d) ≡ true
  busy_end busy k are past before =
      let long = ap length are in
      all_pass (is_channel_within d a most) (busy_channels d) k (omega (arith, past, long)) before

  pub one_busy_fails : list_all (is_channel_within d a most) (busy_channels d) ≡ false → list_all (is_channel_within d a most) (channels d) ≡ false
  one_busy_fails fails = kept_fails (is_busy d) (is_channel_within d a most) (channels d) fails

  pub all_within : (idle : ℕ) → list_all (is_channel_within d a most) (busy_channels d) ≡ true
      → ((c : Channel) → IsIn c (channels d) → is_busy d c ≡ false → IsBound d (entries.at c) idle) → idle ≤ most
      → list_all (is_channel_within d a most) (channels d) ≡ true
  all_within idle busy is few =
      all_kept (is_busy d) (is_channel_within d a most) (channels d)
      (λ c there other. ap (λ n. nat_le n most) (sym (is c there other a)) ∙ is_not_more idle most few) busy
