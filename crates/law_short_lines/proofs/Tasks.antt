-- Tasks that are short as they become due, whatever other tasks lie between them.
use Rattle.std.proofs.Common.{◌≡◌, refl, ap, ℕ, suc, ◌≤◌, length, Bool, true, false, cond, nat_eq, List, [], ◌∷◌, ◌++◌, Option, None, Some, arith}
use Rattle.std.specs.Prelude.{IfOk, option_map, ⊤}
use Rattle.ui_machine.specs.declared.arm.Arm.TheVariants as arms
use Rattle.ui_machine.specs.Definition.{Definition}
use Rattle.ui_machine.specs.Definition.Names.{canonical}
use Rattle.ui_machine.specs.Rules.Connections.{detail_at, detail_for, detail_in, may_stand}
use Rattle.ui_machine.specs.Rules.EmissionPlan.{signal_at}
use Rattle.ui_machine.specs.State.Config.{World}
use Rattle.ui_machine.specs.State.Objects.{object_at}
use Rattle.ui_machine.specs.State.Peers.{Peer}
use Rattle.ui_machine.specs.State.Tasks.{Beginning, Calling, Handling, Task}
use Rattle.machine_laws.proofs.KeptProofs.{bind_keeps, only_keeps}
use Rattle.law_typing.specs.Verdict.Accepted.{Each}
use Rattle.law_line_lengths.specs.LineLengths.{most_arguments}
use Rattle.law_short_lines.specs.ShortParts.{HasShortDetail, IsShortDetail, IsShortDue, IsShortPeerAt}
use Rattle.law_short_lines.proofs.PeerParts.{Stay}

module _ (d : Definition) (peers : List Peer) where
  -- the tasks that are asked of something are short
  abbrev pub AreDue : List Task → Type 0
  AreDue [] = ⊤
  AreDue (Beginning e ∷ tasks) = IsShortDetail e.detail × AreDue tasks
  AreDue (Calling call ∷ tasks) = (IsShortPeerAt d peers call.peer × (length call.args ≤ most_arguments d)) × AreDue tasks
  AreDue (Handling r ∷ tasks) = HasShortDetail r × AreDue tasks
  AreDue (task ∷ tasks) = AreDue tasks

  pub due_all : (tasks : List Task) → Each (IsShortDue d peers) tasks → AreDue tasks
  due_all [] all = tt
  due_all (Beginning e ∷ tasks) all = (all.0, due_all tasks all.1)
  due_all (Calling call ∷ tasks) all = (all.0, due_all tasks all.1)
  due_all (Handling r ∷ tasks) all = (all.0, due_all tasks all.1)
  due_all (task ∷ tasks) all = due_all tasks all.1

  pub due_append : (tasks more : List Task) → AreDue tasks → AreDue more → AreDue (tasks ++ more)
  due_append [] more all rest = rest
  due_append (Beginning e ∷ tasks) more all rest = (all.0, due_append tasks more all.1 rest)
  due_append (Calling call ∷ tasks) more all rest = (all.0, due_append tasks more all.1 rest)
  due_append (Handling r ∷ tasks) more all rest = (all.0, due_append tasks more all.1 rest)
  due_append (task ∷ tasks) more all rest = due_append tasks more all rest

-- where peers stay short, so do tasks
pub due_stays : (d : Definition) (a b : List Peer) → Stay d a b → (tasks : List Task) → AreDue d a tasks → Each (IsShortDue d b) tasks
due_stays d a b stay [] all = tt
due_stays d a b stay (Beginning e ∷ tasks) all = (all.0, due_stays d a b stay tasks all.1)
due_stays d a b stay (Calling call ∷ tasks) all = ((stay.at call.peer all.0.0, all.0.1), due_stays d a b stay tasks all.1)
due_stays d a b stay (Handling r ∷ tasks) all = (all.0, due_stays d a b stay tasks all.1)
due_stays d a b stay (task ∷ tasks) all = (tt, due_stays d a b stay tasks all)

-- ** details

same_length : (s : List ℕ) → length (canonical s) ≡ length s
same_length [] = refl
same_length (x ∷ s) = ap (λ n. suc n) (same_length s)

-- a detail as a signal keeps it is as long
kept_short : (signal : ℕ) (detail : Option (List ℕ)) → IsShortDetail detail → IsShortDetail (detail_for signal detail)
kept_short signal detail short = by (nat_eq signal 0) detail short
  where
    by : (b : Bool) (detail : Option (List ℕ)) → IsShortDetail detail → IsShortDetail (cond b (option_map canonical detail) detail)
    by false detail short = short
    by true None short = tt
    by true (Some s) short = let same = same_length s in omega (arith, same, short)

pub detail_short : (d : Definition) (w : World) (id signal : ℕ) (detail : Option (List ℕ)) → IsShortDetail detail → IfOk (detail_in d w id signal detail) IsShortDetail
unfolding detail_in detail_at
detail_short d w id signal detail short = bind_keeps (object_at w.objects id) _ IsShortDetail (λ o _. bind_keeps (signal_at d o.class signal) _ IsShortDetail (λ s _.
    only_keeps (may_stand d o.class signal s detail) arms.Code _ IsShortDetail (kept_short signal detail short)))
