-- Where nothing is to be finalised, the machine's step is the first task's; else it is the finalisation.
use Rattle.std.proofs.Common.{◌≡◌, ℕ, ◌≤◌, Bool, true, false, cond, map, [], length, suc, ◌<◌, List, ◌∷◌, Some, None, vec_capacity, arith, Result, Ok, Err, refl, sym, ap, subst, ◌∙◌}
use Rattle.std.specs.List.{filter}
use Rattle.ui_machine.specs.declared.arm.Arm.{Arm}
use Rattle.ui_machine.specs.declared.arm.Halt.{Halt}
use Rattle.ui_machine.specs.Definition.{Definition}
use Rattle.ui_machine.specs.State.Tasks.{Answering, Beginning, Building, Calling, Handling, Constructing, Due, Emitting, Notifying, PlanEntry, Running, Setting, Task, Thawing, Transferring, Unsetting}
use Rattle.machine_laws.specs.GoneLaws.{Gone, pruned, stays}
use Rattle.ui_machine.specs.State.Config.{Config, sunk}
use Rattle.ui_machine.specs.State.References.{mentions, next_unheld}
use Rattle.ui_machine.specs.Seq.{total}
use Rattle.engine_world.specs.Measure.{weight, waiting, work}
use Rattle.ui_machine.specs.Steps.{act, sink_first_floating, counted, finalising, most_steps, first_of, step, asked_first}
use Rattle.engine_world.specs.declared.engine.StepKind.{StepKind}
use Rattle.engine_world.specs.declared.engine.StepKind.TheVariants as mades
use Rattle.engine_world.specs.Able.{LeadsToLiving}
use Rattle.engine_world.specs.EngineView.{IsOfKind, config_of}
use Rattle.engine_world.specs.Room.{HasRoom}
use Rattle.engine_world.specs.declared.engine.Engine.{Engine}
use Rattle.engine_world.proofs.Rooms.{frames_few, tasks_counted}
use Rattle.ui_machine.specs.Prefix.{IsPrefix}
use Rattle.engine_world.specs.Standing.{Follows, GoesWithoutGone, gone_handlers, past_turns, with_first, without_gone}
use Rattle.engine_dispatches.specs.QuietSteps.{IsSafeView, QuietlyStepped}
use Rattle.engine_dispatches.specs.Safety.{HasFewTasks, HasNumbersLeft, NoneUnheld}
use Rattle.engine_dispatches.proofs.Standing.{first_acts, first_follows, first_names, last_acts, last_follows}
use Rattle.law_typing.specs.Good.Meanings.{KeepsMeanings}
use Rattle.engine_dispatches.proofs.Meant.{meanings_alike}
use Rattle.engine_dispatches.proofs.Named.{few_alike, numbers_alike}
use Rattle.engine_dispatches.proofs.Reaching.{reaches_here}
use Rattle.engine_world.proofs.Floats.{if_ok_at, first_gone}
use Rattle.engine_dispatches.proofs.Acts.{Passes, acted}

-- an answer of code that may halt
abbrev as_ok : {X : Type 0} → X → Result X Halt
as_ok x = Ok x

-- turns that are left out weigh nothing
pruned_weighs : (d : Definition) (gone : Gone) (ts : List Task) → total (weight d) (map (pruned gone) ts) ≤ total (weight d) ts
pruned_weighs d gone [] = omega arith
pruned_weighs d gone (task ∷ ts) = let rest = pruned_weighs d gone ts in omega (arith, rest, one task)
  where
    kept : (entries : List PlanEntry) → length (filter (stays gone) entries) ≤ length entries
    kept [] = omega arith
    kept (entry ∷ entries) = by (stays gone entry) (kept entries)
      where
        by : (b : Bool) → length (filter (stays gone) entries) ≤ length entries → length (cond b (entry ∷ filter (stays gone) entries) (filter (stays gone) entries)) ≤ suc (length entries)
        by true less = omega (arith, less)
        by false less = omega (arith, less)

    one : (task : Task) → weight d (pruned gone task) ≤ weight d task
    one (Emitting e entries) = let less = kept entries in omega (arith, less)
    one (Setting id slot v) = omega arith
    one (Notifying id slot) = omega arith
    one (Beginning e) = omega arith
    one (Transferring number back) = omega arith
    one (Unsetting number) = omega arith
    one (Thawing id slots) = omega arith
    one (Running f) = omega arith
    one (Answering source) = omega arith
    one (Calling call) = omega arith
    one (Constructing id steps held) = omega arith
    one (Building items) = omega arith
    one (Handling request) = omega arith
    one (Due source) = omega arith

module _ (d : Definition) (c e : Config) (none : NoneUnheld d c) (task : Task) (rest : List Task)
    (first : c.agenda ≡ task ∷ rest) (asks : asked_first c.world c.agenda ≡ None) where
  acts : act d c.world None (with_first c.world c.agenda) c.counted ≡ act d c.world None (past_turns c.world task ∷ rest) c.counted
  acts = ap (λ (ts : List Task). act d c.world None (with_first c.world ts) c.counted) first

  passes : (x : Config) → act d c.world None (past_turns c.world task ∷ rest) c.counted ≡ Ok x → Passes d c.world task rest c.counted x
  passes x is =
      if_ok_at (Passes d c.world task rest c.counted) (act d c.world None (past_turns c.world task ∷ rest) c.counted) x
      (acted d c.world rest c.counted None task) is

  follows : (x : Config) → act d c.world None (past_turns c.world task ∷ rest) c.counted ≡ Ok x → without_gone x ≡ e → Follows d c e
  follows x is shows = first_follows d c none x e asks (acts ∙ is) shows

  -- without the turns of handlers that are gone there is no more to do
  less : (x : Config) → without_gone x ≡ e → work d e ≤ work d x
  less x shows = subst (λ (y : Config). work d y ≤ work d x) shows (let fewer = pruned_weighs d (gone_handlers x.world) x.agenda in omega (arith, fewer))

  -- what the first task did
  abbrev pub ActsSo : StepKind → Type 0
  ActsSo made = GoesWithoutGone (as_ok made) (act d c.world None (past_turns c.world task ∷ rest) c.counted) e

  pub first_stepped : (made : StepKind) → ActsSo made → IsOfKind made task → QuietlyStepped (Ok made) d c e
  first_stepped mades.Nothing goes made = absurd made
  first_stepped mades.Uncounted goes made =
      let p = passes goes.0 goes.1 in
      let now = ap (λ (x : Config). x.counted) goes.2 in
      let falls : work d goes.0 < work d c = rw first (p.falls made) in
      (follows goes.0 goes.1 goes.2, (let l = less goes.0 goes.2 in omega (arith, l, falls)), sym now ∙ p.stays made)
  first_stepped mades.Counted goes made =
      let p = passes goes.0 goes.1 in
      let now = ap (λ (x : Config). x.counted) goes.2 in
      (follows goes.0 goes.1 goes.2, (p.counts made).0, sym now ∙ (p.counts made).1)

  pub first_grows : (made : StepKind) → ActsSo made → IsPrefix c.world.transcript e.world.transcript
  first_grows made goes = subst (λ (y : Config). IsPrefix c.world.transcript y.world.transcript) goes.2 (passes goes.0 goes.1).grows

  -- it is not stuck
  pub first_can : {room : ℕ} → IsSafeView d room c → (arm : Arm) → act d c.world None (past_turns c.world task ∷ rest) c.counted ≡ Err arm → ⊥
  first_can safe arm is = first_acts d c none (record { pool = safe.pool; view = c }) refl safe.safe arm asks (acts ∙ is)

  -- and what it leaves names what lives
  pub first_names_so : {room : ℕ} → IsSafeView d room c → LeadsToLiving (act d c.world None (past_turns c.world task ∷ rest) c.counted)
  first_names_so safe = subst LeadsToLiving acts (first_names d c none (record { pool = safe.pool; view = c }) refl safe.safe asks)

-- numbers are left for what is still to be made and connected
pub view_numbers : (d : Definition) {room : ℕ} (c : Config) → IsSafeView d room c → HasNumbersLeft c
view_numbers d c safe = numbers_alike safe.safe.at c safe.safe.stands.view (safe.safe.safe.numbers [] tt safe.safe.at (reaches_here d safe.safe.at))

-- there are fewer tasks than there is room for, and fewer frames than half of that
pub view_few : (d : Definition) (room : ℕ) (c : Config) → IsSafeView d room c → HasFewTasks room c
view_few d room c safe = few_alike room safe.safe.at c safe.safe.stands.view (safe.safe.safe.few [] tt safe.safe.at (reaches_here d safe.safe.at))

-- so there is room for one task more, and a vector for it
pub view_room : (d : Definition) (e : Engine) → IsSafeView d (vec_capacity e.stack.tasks) (config_of d e) → HasRoom 1 e
view_room d e safe =
    let few = view_few d (vec_capacity e.stack.tasks) (config_of d e) safe in
    let hs = e.world.handlers.handlers in
    (omega (arith, few.0, tasks_counted d hs e.stack), omega (arith, few.1, frames_few d hs e.stack))

-- names mean what they mean in the definition
pub view_meanings : (d : Definition) {room : ℕ} (c : Config) → IsSafeView d room c → KeepsMeanings d c.world
view_meanings d c safe = meanings_alike d safe.safe.at c safe.safe.stands.view (safe.safe.safe.meanings [] tt safe.safe.at (reaches_here d safe.safe.at))

-- the step that finalises an object
module _ (d : Definition) (c : Config) (id : ℕ) (unheld : next_unheld (mentions d c) c.world.objects ≡ Some id) where
  finalises : step d None c ≡ counted c.agenda c.counted (finalising d c.world id)
  finalises = ap (first_of d None c) unheld

  pub finalise_stepped : (e x : Config) → counted c.agenda c.counted (finalising d c.world id) ≡ Ok x → without_gone x ≡ e
      → (c.counted < most_steps) × (e.counted ≡ suc c.counted) → QuietlyStepped (Ok mades.Counted) d c e
  finalise_stepped e x leads shows counts = (last_follows d c id unheld x e (finalises ∙ leads) shows, counts.0, counts.1)

  pub finalise_can : {room : ℕ} → IsSafeView d room c → (arm : Arm) → counted c.agenda c.counted (finalising d c.world id) ≡ Err arm → ⊥
  finalise_can safe arm is = last_acts d c id unheld (record { pool = safe.pool; view = c }) refl safe.safe arm (finalises ∙ is)

-- where nothing is left to do, what has floated longest floats no longer
module _ (d : Definition) (c e : Config) (none : NoneUnheld d c) (idle : c.agenda ≡ []) (id : ℕ) (ids : List ℕ) (floats : c.world.floating ≡ id ∷ ids) where
  settles : act d c.world None (with_first c.world c.agenda) c.counted ≡ Ok (record { world = sunk c.world id; agenda = []; counted = c.counted })
  settles =
      ap (λ (ts : List Task). act d c.world None (with_first c.world ts) c.counted) idle
      ∙ ap (λ floating. Ok (record { world = sink_first_floating c.world floating; agenda = []; counted = c.counted })) floats

  pub settle_stepped : e ≡ record c { world = sunk c.world id } → QuietlyStepped (Ok mades.Uncounted) d c e
  settle_stepped is =
      let fewer : length e.world.floating ≤ length ids = rw (is, floats) (first_gone id ids) in
      let many : length c.world.floating ≡ suc (length ids) = ap (λ (fl : List ℕ). length fl) floats in
      let waits : waiting e.world.objects ≡ waiting c.world.objects = ap (λ (x : Config). waiting x.world.objects) is in
      let weighs : total (weight d) e.agenda ≡ total (weight d) c.agenda = ap (λ (x : Config). total (weight d) x.agenda) is in
      let there : record { world = sunk c.world id; agenda = []; counted = c.counted } ≡ e = ap (λ (ts : List Task). record { world = sunk c.world id; agenda = ts; counted = c.counted }) (sym idle) ∙ sym is in (
        first_follows d c none (record { world = sunk c.world id; agenda = []; counted = c.counted }) e (ap (λ (ts : List Task). asked_first c.world ts) idle) settles there,
        omega (arith, fewer, many, waits, weighs),
        ap (λ (x : Config). x.counted) is,
      )
