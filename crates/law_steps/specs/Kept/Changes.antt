-- What a step writes into one object is like what was there: a value, a notification that waits, one more freeze, one less.
use Rattle.std.specs.Prelude.{◌≡◌, ℕ, suc, true, Some, slice_set}
use Rattle.ui_machine.specs.Definition.Values.{Value}
use Rattle.ui_machine.specs.Definition.Properties.{Spec, is_readable}
use Rattle.ui_machine.specs.Definition.{Definition}
use Rattle.ui_machine.specs.Definition.Lookups.{spec_of}
use Rattle.ui_machine.specs.State.Objects.{Object}
use Rattle.ui_machine.specs.State.Config.{World}
use Rattle.ui_machine.specs.Rules.Validation.{is_valid}
use Rattle.ui_machine.specs.Rules.NotifyQueue.{queued, less_frozen}
use Rattle.law_typing.specs.Good.Standing.{standing, class_by}
use Rattle.law_typing.specs.Good.Objects.{ObjectGood}
use Rattle.law_steps.specs.Kept.Write.{Like}

-- a valid value of a property
abbrev pub ValueIsLike : Type 0
ValueIsLike =
    (d : Definition) (w : World) (id slot : ℕ) (o : Object) (spec : Spec) (v : Value) → ObjectGood d w (standing w.objects) id o →
    spec_of d o.class slot ≡ Some spec → is_valid (class_by d (standing w.objects)) d.types spec v ≡ true →
    Like d w o (record o { values = slice_set o.values slot v })

-- a notification of a readable property
abbrev pub QueueIsLike : Type 0
QueueIsLike =
    (d : Definition) (w : World) (id slot : ℕ) (o : Object) (spec : Spec) → ObjectGood d w (standing w.objects) id o →
    spec_of d o.class slot ≡ Some spec → is_readable spec ≡ true → Like d w o (record o { queue = queued o.queue slot })

-- the object is frozen once more
abbrev pub FreezeIsLike : Type 0
FreezeIsLike =
    (d : Definition) (w : World) (id : ℕ) (o : Object) → ObjectGood d w (standing w.objects) id o →
    Like d w o (record o { freezes = suc o.freezes })

-- one freeze less
abbrev pub ThawIsLike : Type 0
ThawIsLike =
    (d : Definition) (w : World) (id left : ℕ) (o : Object) → ObjectGood d w (standing w.objects) id o → o.freezes ≡ suc left →
    Like d w o (less_frozen left o).state
