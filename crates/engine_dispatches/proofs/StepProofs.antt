-- What a step of the engine beside its pool comes to: it answers a due call, or asks no peer and closes what was left as closed.
use Rattle.std.proofs.Common.{◌≡◌, ◌<◌, refl, ap, sym, subst, ◌∙◌, ℕ, suc, Bool, false, List, Option, Some, Ok}
use Rattle.ui_machine.specs.Definition.{Definition}
use Rattle.ui_machine.specs.Instructions.Peers.{calling_on}
use Rattle.ui_machine.specs.Prefix.{IsPrefix}
use Rattle.ui_machine.specs.State.Config.{Config}
use Rattle.ui_machine.specs.State.Tasks.{Calling}
use Rattle.ui_machine.specs.Steps.{left, most_steps}
use Rattle.ui_machine.specs.State.Peers.{Peer}
use Rattle.native_peers.specs.Seen.{Relations, Seen}
use Rattle.engine_world.specs.TaskView.{agenda_of}
use Rattle.engine_stack.specs.TaskView.{call_of}
use Rattle.engine_world.specs.View.{world_of}
use Rattle.engine_world.specs.declared.engine.Engine.{Engine}
use Rattle.engine_world.specs.declared.engine.StepKind.{StepKind}
use Rattle.engine_world.specs.declared.engine.StepKind.TheVariants as mades
use Rattle.engine_stack.specs.declared.task.DueCall.{DueCall}
use Rattle.engine_world.proofs.Floats.{if_ok_at}
use Rattle.engine_dispatches.specs.CallPoints.{Concludes, calling_view}
use Rattle.engine_dispatches.specs.Courses.{RanFor}
use Rattle.engine_dispatches.specs.Following.{Breaks, Follows, Point}
use Rattle.engine_dispatches.specs.PoolView.{Knows, closed_in, due}
use Rattle.engine_dispatches.specs.QuietSteps.{LeavesKnown, QuietlyStepped}
use Rattle.engine_dispatches.specs.Safety.{ComesOfSafe}
use Rattle.engine_dispatches.specs.Stepped.{Advanced, Stepped}
use Rattle.engine_dispatches.proofs.Acts.{Passes, acted}
use Rattle.engine_dispatches.proofs.Known.{closed_same, none_due}
use Rattle.engine_dispatches.proofs.Points.{follows_quietly, safe_knows}

module _ (d : Definition) (may : Relations) (pool : List Seen) (view : Config) (e : Engine) (call : DueCall) (first : view ≡ calling_view d e call) where
  abbrev here : Point
  here = record { pool = pool; view = view }

  abbrev calling : Point
  calling = record { pool = pool; view = calling_view d e call }

  passes : (x : Config) → Concludes d e call x → Passes d (world_of e.world) (Calling (call_of call)) (agenda_of d e) e.counted x
  passes x c =
      if_ok_at (Passes d (world_of e.world) (Calling (call_of call)) (agenda_of d e) e.counted)
      (left e.counted (calling_on d (world_of e.world) (call_of call) (agenda_of d e) (Some c.reply))) x
      (acted d (world_of e.world) (agenda_of d e) e.counted (Some c.reply) (Calling (call_of call))) c.leads

  -- a call was answered
  pub call_stepped : (q : Point) → Follows d may calling q → Concludes d e call q.view → Stepped (Ok mades.Uncounted) d may here q
  call_stepped q follows concludes =
      let p = passes q.view concludes in
      subst (λ (v : Config). Stepped (Ok mades.Uncounted) d may (record { pool = pool; view = v }) q) (sym first) (follows, p.falls refl, p.stays refl)

  pub call_grows : (x : Config) → Concludes d e call x → IsPrefix view.world.transcript x.world.transcript
  call_grows x concludes = subst (λ (v : Config). IsPrefix v.world.transcript x.world.transcript) (sym first) (passes x concludes).grows

  -- no memory was found for its line
  pub call_breaks : (left : List Peer) (shown : List (List ℕ)) → Breaks d may calling left shown → Breaks d may here left shown
  call_breaks left shown breaks = subst (λ (v : Config). Breaks d may (record { pool = pool; view = v }) left shown) (sym first) breaks

module _ (d : Definition) (may : Relations) (p : Point) {room : ℕ} (safe : ComesOfSafe d room p) (v : Config) (number : Option ℕ) (known : LeavesKnown p.view.world v.world number) where
  -- the box that is due is closed
  abbrev pub after : Point
  after = record { pool = closed_in (due v.world p.pool number) p.pool; view = v }

  -- no peer was asked
  quiet_stepped : (made : StepKind) → QuietlyStepped (Ok made) d p.view v → Stepped (Ok made) d may p after
  quiet_stepped mades.Nothing s =
      let knows : Knows v.world p.pool = subst (λ (x : Config). Knows x.world p.pool) (sym s.1) (safe_knows d safe) in (
        s.0,
        ap (λ (o : Option ℕ). record { pool = closed_in o p.pool; view = v }) (none_due v.world p.pool number knows)
            ∙ ap (λ (x : Config). record { pool = p.pool; view = x }) s.1,
      )
  quiet_stepped mades.Uncounted s = (follows_quietly d may p after s.0 (known p.pool (safe_knows d safe)) (closed_same (due v.world p.pool number) p.pool), s.1, s.2)
  quiet_stepped mades.Counted s = (follows_quietly d may p after s.0 (known p.pool (safe_knows d safe)) (closed_same (due v.world p.pool number) p.pool), s.1, s.2)

  pub quietly_stepped : (made : StepKind) → QuietlyStepped (Ok made) d p.view v → (pool : List Seen) → pool ≡ closed_in (due v.world p.pool number) p.pool → Stepped (Ok made) d may p (record { pool = pool; view = v })
  quietly_stepped made s pool closed = subst (λ (l : List Seen). Stepped (Ok made) d may p (record { pool = l; view = v })) (sym closed) (quiet_stepped made s)

-- ** where the code names them otherwise

pub stepped_as : (d : Definition) (may : Relations) (p q : Point) {made kind : StepKind} → made ≡ kind → Stepped (Ok made) d may p q → Stepped (Ok kind) d may p q
stepped_as d may p q same s = subst (λ (m : StepKind). Stepped (Ok m) d may p q) same s

pub stepped_to : (d : Definition) (may : Relations) (p : Point) (pool : List Seen) (made : StepKind) {v x : Config} → v ≡ x → Stepped (Ok made) d may p (record { pool = pool; view = v })
    → Stepped (Ok made) d may p (record { pool = pool; view = x })
stepped_to d may p pool made same s = subst (λ (y : Config). Stepped (Ok made) d may p (record { pool = pool; view = y })) same s

pub advanced_as : (d : Definition) (may : Relations) (p q : Point) {b c : Bool} → b ≡ c → Advanced (Ok b) d may p q → Advanced (Ok c) d may p q
advanced_as d may p q same a = subst (λ (x : Bool). Advanced (Ok x) d may p q) same a

-- a count that was still to be had, since it is the one at the beginning
pub counts_so : {now old new : ℕ} → now ≡ old → (now < most_steps) × (new ≡ suc now) → (old < most_steps) × (new ≡ suc old)
counts_so same counts = (rw same at counts.0, rw same at counts.1)

-- no step is left
pub nothing_left : (d : Definition) {may : Relations} {o p q : Point} → Stepped (Ok mades.Nothing) d may p q → Follows d may o p → p.view.counted ≡ o.view.counted → Advanced (Ok false) d may o q
nothing_left d {may} {o} {p} {q} s follows counted = subst (λ (x : Point). Advanced (Ok false) d may o x) (sym s.1) (follows, s.0, counted)

pub ran_as : (d : Definition) (may : Relations) (p q : Point) {o x : Option ℕ} → o ≡ x → RanFor (Ok o) d may p q → RanFor (Ok x) d may p q
ran_as d may p q same r = subst (λ (y : Option ℕ). RanFor (Ok y) d may p q) same r
