-- When freezes may be added and taken off.
use Rattle.std.proofs.Common.{◌≡◌, ◌<◌, ◌-◌, ◌^◌, Bool, true, false, nat_lt, Ok, IsOk, arith}
use Rattle.std.proofs.lemmas.Bool.Decides.{nat_tests}
use Rattle.ui_machine.specs.Outcome.{only_if}
use Rattle.ui_machine.specs.Rules.NotifyQueue.{frozen_less, frozen_more, most_freezes}
use Rattle.ui_machine.specs.State.Objects.{Object}

test_holds : {A E : Type 0} (b : Bool) (e : E) (x : A) → IsOk (only_if b e (Ok x)) → b ≡ true
test_holds true e x ok = ok
test_holds false e x ok = ok

pub may_freeze : (o : Object) → IsOk (frozen_more o) → o.freezes < 2 ^ 64 - 1
may_freeze o ok =
    let yes : nat_lt o.freezes most_freezes ≡ true = test_holds (nat_lt o.freezes most_freezes) _ _ ok in
    grind (arith, nat_tests)

pub may_thaw : (o : Object) → IsOk (frozen_less o) → 0 < o.freezes
may_thaw o ok =
    let yes : nat_lt 0 o.freezes ≡ true = test_holds (nat_lt 0 o.freezes) _ _ ok in
    grind (arith, nat_tests)
