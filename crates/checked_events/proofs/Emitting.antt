-- What reading says of an emission, and what a test of it found.
use Rattle.std.proofs.Common.{◌≡◌, ◌↔◌, ◌<◌, ◌&&◌, ◌||◌, ℕ, Bool, true, false, not, nat_eq, List, Option, None, Some, IsTrue, is_none, is_some, option_map, refl, sym, ap, subst, ◌∙◌, arith}
use Rattle.std.specs.List.{AllZip}
use Rattle.std.proofs.lemmas.Bool.{ne_eqb}
use Rattle.std.proofs.lemmas.Option.{same_Some}
use Rattle.ui_machine.specs.Definition.{Definition}
use Rattle.ui_machine.specs.Definition.Lookups.{slot_of}
use Rattle.ui_machine.specs.Definition.Places.{Given}
use Rattle.ui_machine.specs.Definition.Properties.{has_flags}
use Rattle.ui_machine.specs.Definition.Signals.{Signal}
use Rattle.ui_machine.specs.Rules.Connections.{may_stand}
use Rattle.ui_machine.specs.Rules.EmissionPlan.{signal_of}
use Rattle.ui_machine.specs.State.Tasks as config
use Rattle.law_typing.specs.Good.Requests.{RequestRead}
use Rattle.law_typing.specs.Laws.WellRead.{GivenFits, IsObject}
use Rattle.law_typing.specs.Rules.RegisterKinds.{class_at}

-- whether a detail may be at a signal other than `notify`
stands : {T : Type 0} (f : T → List ℕ) (d : Definition) (class number : ℕ) (s : Signal) (detail : Option T) → 0 < number
    → may_stand d class number s (option_map f detail) ≡ (is_none detail || has_flags 16 s.flags)
stands f d class number s None above = refl
stands f d class number s (Some x) above = by (has_flags 16 s.flags)
  where
    other : nat_eq number 0 ≡ false
    other = ne_eqb number 0 (λ e. absurd (omega (arith, e, above)))

    by : (b : Bool) → (b && (not (nat_eq number 0) || is_some (slot_of d class (f x)))) ≡ b
    by true = rw other refl
    by false = refl

module _ (d : Definition) (place number class : ℕ) (s : Signal) (at : class_at d place ≡ Some class) (is : signal_of d class number ≡ Some s) where
  -- there is but one such signal
  same : (c : ℕ) (t : Signal) → class_at d place ≡ Some c → signal_of d c number ≡ Some t → s ≡ t
  same c t there found = same_Some s t (sym is ∙ ap (λ (k : ℕ). signal_of d k number) (same_Some class c (sym at ∙ there)) ∙ found)

  -- what is left to be tested where an object has the signal, which is not `notify` and takes the detail
  pub is_asked : {T : Type 0} (f : T → List ℕ) (args : List Given) (detail : Option T) (b : Bool) → IsObject d place → 0 < number → (is_none detail || has_flags 16 s.flags) ≡ true
      → (IsTrue b ↔ AllZip (λ given kind. GivenFits d kind given) args s.params) → IsTrue b ↔ RequestRead d (config.emit place number args (option_map f detail))
  is_asked f args detail b object above takes fit = (
    λ holds. (object, class, s, at, is, above, fit.0 holds, stands f d class number s detail above ∙ takes),
    λ r. fit.1 (subst (λ (t : Signal). AllZip (λ given kind. GivenFits d kind given) args t.params) (sym (same r.1 r.2 r.3 r.4)) r.6),
  )
