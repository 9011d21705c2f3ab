-- Agendas that differ in the transfers that are under way: what handlers and bindings read of them.
use Rattle.std.proofs.Common.{◌≡◌, refl, ℕ, suc, Bool, List, [], ◌∷◌, Option, None, Some}
use Rattle.ui_machine.specs.Seq.{total}
use Rattle.ui_machine.specs.Definition.{Definition}
use Rattle.ui_machine.specs.Definition.Places.{Bind}
use Rattle.ui_machine.specs.State.Tasks.{Task}
use Rattle.law_typing.specs.Graph.Channels.{Channel, source_of}
use Rattle.law_typing.specs.Graph.Tables.{Tables}
use Rattle.law_typing.specs.Good.DueCosts.{unsets, is_setting_from, transfer_cost, transfer_depth}
pub use Rattle.law_steps.proofs.Kept.Moved.{handlers_moved, bindings_moved}

-- ** what a transfer may cost, above tasks that set the same bindings free

module _ (d : Definition) (a b : List Task) (unset : (number : ℕ) → total (unsets number) b ≡ total (unsets number) a) where
  pub setting_same : (c : Channel) (number : ℕ) (binds : List Bind) → is_setting_from b c number binds ≡ is_setting_from a c number binds
  setting_same c number [] = refl
  setting_same c number (x ∷ binds) = let same = unset number in let later = setting_same c (suc number) binds in rw (same, later) refl

  pub cost_same : (costs : Tables) (back : Bool) (o : Option Bind) → transfer_cost d costs b back o ≡ transfer_cost d costs a back o
  cost_same costs back None = refl
  cost_same costs back (Some x) = let same = setting_same (source_of x) 0 d.bindings in rw same refl

  pub depth_same : (depths : Tables) (back : Bool) (o : Option Bind) → transfer_depth d depths b back o ≡ transfer_depth d depths a back o
  depth_same depths back None = refl
  depth_same depths back (Some x) = let same = setting_same (source_of x) 0 d.bindings in rw same refl
