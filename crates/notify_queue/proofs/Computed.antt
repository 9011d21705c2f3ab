-- What the definitions compute to.
use Rattle.std.proofs.Common.{◌≡◌, refl, [], ◌∷◌}
use Rattle.ui_machine.specs.Rules.NotifyQueue.{queued, thawed}

queues_each_once : queued (queued (queued [] 1) 2) 1 ≡ 1 ∷ 2 ∷ []
queues_each_once = refl

notifies_the_last_first : thawed (1 ∷ 2 ∷ []) ≡ 2 ∷ 1 ∷ []
notifies_the_last_first = refl
