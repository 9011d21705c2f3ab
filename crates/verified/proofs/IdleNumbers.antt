-- A channel that is not busy has no number among the busy ones.
use Rattle.std.proofs.Common.{◌≡◌, ◌∙◌, refl, sym, ap, ℕ, suc, Bool, true, false, cond, List, [], ◌∷◌, Option, None, Some}
use Rattle.std.specs.List.{filter}
use Rattle.std.proofs.lemmas.Bool.{false≢true}
use Rattle.ui_machine.specs.Definition.{Definition}
use Rattle.law_typing.specs.Graph.Channels.{Channel, channels, same_channel}
use Rattle.law_typing.proofs.Lists.{same_channel_true}
use Rattle.law_idle.specs.Idle.{busy_channels, is_busy}
use Rattle.verify_graph.specs.Numbers.{number_from, number_of}

module _ (d : Definition) (c : Channel) (idle : is_busy d c ≡ false) where
  differs : (x : Channel) → is_busy d x ≡ true → (same : Bool) → same_channel x c ≡ same → same ≡ false
  differs x busy false is = refl
  differs x busy true is = absurd (false≢true (sym idle ∙ ap (is_busy d) (sym (same_channel_true x c is)) ∙ busy))

  passed_over : (n : ℕ) (x : Channel) (xs : List Channel) → number_from (suc n) (filter (is_busy d) xs) c ≡ None → number_from n (filter (is_busy d) xs) c ≡ None
      → (busy : Bool) → is_busy d x ≡ busy → number_from n (cond busy (x ∷ filter (is_busy d) xs) (filter (is_busy d) xs)) c ≡ None
  passed_over n x xs later here true is =
      ap (λ same. cond same (Some n) (number_from (suc n) (filter (is_busy d) xs) c)) (differs x is (same_channel x c) refl) ∙ later
  passed_over n x xs later here false is = here

  not_among : (n : ℕ) (xs : List Channel) → number_from n (filter (is_busy d) xs) c ≡ None
  not_among n [] = refl
  not_among n (x ∷ xs) = passed_over n x xs (not_among (suc n) xs) (not_among n xs) (is_busy d x) refl

  pub no_number : number_of (busy_channels d) c ≡ None
  no_number = not_among 0 (channels d)
