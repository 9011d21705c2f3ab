-- What is good where the first task is a program: what is known of it, and what is to be shown of the world that its instruction leaves.
use Rattle.std.proofs.Common.{◌≡◌, refl, sym, ap, subst, ◌∙◌, ℕ, suc, ◌+◌, ◌-◌, ◌<◌, ◌≤◌, false, List, ◌∷◌, length, None, Some, Ok, slice_get, arith, lt-ltb}
use Rattle.ui_machine.specs.declared.arm.Arm.TheVariants as arms
use Rattle.ui_machine.specs.Seq.{total}
use Rattle.ui_machine.specs.Definition.{Definition}
use Rattle.ui_machine.specs.Definition.Lookups.{program_at}
use Rattle.ui_machine.specs.Definition.Programs.{Instruction}
use Rattle.ui_machine.specs.State.Objects.{live}
use Rattle.ui_machine.specs.State.Tasks.{Registers, Frame, Running, Task}
use Rattle.ui_machine.specs.State.Config.{World, Config}
use Rattle.ui_machine.specs.Outcome.{only_if}
use Rattle.ui_machine.specs.Instructions.{instruction_step, running}
use Rattle.ui_machine.specs.Instructions.Jumps.{block_in, in_pass, past}
use Rattle.ui_machine.specs.Rules.Build.{to_make}
use Rattle.ui_machine.specs.Steps.{most_steps, left, counted_left}
use Rattle.law_typing.specs.Rules.Typing.{after}
use Rattle.law_typing.specs.Graph.{graph, start_of}
use Rattle.law_typing.specs.Graph.Tables.{Tables}
use Rattle.law_typing.specs.Graph.Costs.{start_cost}
use Rattle.law_typing.specs.Graph.Depths.{depth}
use Rattle.law_typing.specs.Verdict.Accepted.{Accepted}
use Rattle.law_typing.specs.Laws.WellRead.{WellRead, ends}
use Rattle.law_typing.specs.Laws.StepsKeepGood.{IsGood, Fine}
use Rattle.law_typing.specs.Good.Standing.{Standing, standing, view, RegistersFit}
use Rattle.law_typing.specs.Good.Objects.{PeersGood}
use Rattle.law_typing.specs.Good.ComingDown.{Down, none, given, down, result_of_program, TakesNone}
use Rattle.law_typing.specs.Good.Programs.{RunningGood, code_of, code_of_block}
use Rattle.law_typing.specs.Good.Agenda.{AgendaGood}
use Rattle.law_typing.specs.Good.Builds.{is_for_builder, BuildGood}
use Rattle.law_typing.specs.Good.Freezes.{QueuesGood, carried, SetsGood}
use Rattle.law_static.specs.Code.{Taken, gone_on}
use Rattle.law_static.proofs.CodeProofs.{instructions_taken, programs_go_on}
use Rattle.law_steps.specs.Kept.Agenda.{Serves}
use Rattle.law_steps.specs.Kept.Write.{Whole}
use Rattle.law_steps.specs.Kept.Alike.{Alike}
use Rattle.law_steps.proofs.Kept.AlikeProofs.{whole_stays, build_stays}
use Rattle.law_steps.proofs.Kept.AgendaProofs.{agenda_served}
use Rattle.law_steps.specs.Instructed.Running.{block_if, in_pass_if, taking, at_top, IsFine}
use Rattle.law_steps.proofs.Instructed.Passes.{no_register, turned}

-- a program has come to an instruction, in the pass of its block in which it takes it, where all is good
pub record Due (d : Definition) (i : Instruction) : Type 0 where
  pub well : WellRead d
  pub a : Accepted d
  pub most_counted : ℕ
  pub w : World
  pub f : Frame
  pub rest : List Task
  pub n : ℕ
  pub g : IsGood d a most_counted (at_top w f rest n)
  pub is : slice_get (code_of f.block (program_at d f.program)) f.at ≡ Some i
  pub settled : taking d f ≡ f

module _ {d : Definition} {i : Instruction} (t : Due d i) where
  open t use {well, a, most_counted, w, f, rest, n, g, is, settled}

  abbrev pub costs : Tables
  costs = a.weighed.costs

  abbrev pub depths : Tables
  depths = a.weighed.depths

  abbrev pub most : ℕ
  most = depth (graph d) depths

  abbrev pub s : Standing
  s = standing w.objects

  abbrev pub r : RunningGood d costs depths s none f g.agenda.0 g.agenda.1
  r = g.agenda.3.1

  -- the objects that the builder is making
  abbrev pub making : ℕ
  making = total is_for_builder (Running f ∷ rest)

  pub code_is : code_of f.block (program_at d f.program) ≡ r.b.code
  code_is = ap (code_of f.block) r.is ∙ ap code_of_block r.in_block

  pub here : slice_get r.b.code f.at ≡ Some i
  here = ap (λ code. slice_get code f.at) (sym code_is) ∙ is

  pub taken : Taken d costs depths s f g.agenda.0 g.agenda.1 r i
  taken = instructions_taken d costs depths s f g.agenda.0 g.agenda.1 r i here

  pub none_into : f.into ≡ None
  none_into = no_register f.into r.comes

  no_pass : in_pass r.b f ≡ f
  no_pass = sym (ap (λ o. in_pass_if o f) (ap (block_if f.block) r.is ∙ r.in_block)) ∙ settled

  pub running_is : running d w rest f ≡ instruction_step d w rest (past f) i
  unfolding running block_in
  running_is = rw (r.is, r.in_block, no_pass, here) refl

  pub room : most_counted ≤ most_steps → n < most_steps
  room within = (let a = g.spent in let b = taken.cheap in let c = g.agenda.5 in omega (arith, a, b, c, within))

  -- ** what is to be shown of what is left

  -- the world and the agenda that an instruction leaves
  pub record Rests (v : World) (agenda : List Task) : Type 0 where
    -- what is good of the world, where the agenda is alike in what it reads of it
    pub whole : Whole d costs depths (Running f ∷ rest) v
    pub alike : Alike (Running f ∷ rest) agenda
    pub pool : PeersGood d v.peers (length v.builder + total is_for_builder agenda)
    pub builder : v.builder ≡ w.builder
    pub build : BuildGood d w.builder agenda rest → BuildGood d w.builder agenda agenda
    pub sets : SetsGood d (record { world = v; agenda = agenda; counted = suc n })
    -- the agenda, and what it may still cost, with what is queued and what lives
    pub budget : ℕ
    pub good : AgendaGood d costs depths (view v) most none agenda budget
    pub queues : QueuesGood d depths most agenda (suc n) v.objects
    pub few : live v.objects + to_make agenda ≤ d.most_objects
    pub spent :
        suc (budget + (total (carried d costs making) v.objects + (live v.objects + to_make agenda)))
        ≤ g.agenda.0 + g.agenda.2 + (total (carried d costs making) w.objects + (live w.objects + to_make (Running f ∷ rest)))

  pub good_of : (v : World) (agenda : List Task) → Rests v agenda → IsGood d a most_counted (record { world = v; agenda = agenda; counted = suc n })
  good_of v agenda e =
      let whole = whole_stays d costs depths (Running f ∷ rest) agenda v e.alike e.whole in
      record {
        objects = whole.objects;
        handlers = whole.handlers;
        bindings = whole.bindings;
        sources = whole.sources;
        peers = e.pool;
        build = subst (λ b. BuildGood d b agenda agenda) (sym e.builder) (e.build (build_stays d w.builder (Running f ∷ rest) agenda rest e.alike.makes g.build));
        held = whole.held;
        floating = whole.floating;
        sets = e.sets;
        objects_first = whole.objects_first;
        budget = e.budget;
        agenda = e.good;
        queues = e.queues;
        few = e.few;
        spent = (let old = g.spent in
            let new = e.spent in
            let split = g.agenda.5 in
            let same = ap (λ m. total (carried d costs m) v.objects) e.alike.makes in
            omega (arith, old, new, split, same));
      }

  -- the program goes on in this frame, above what was below it
  pub above : (v : World) (next : Frame) (up : Down) (steps : ℕ) → next.program ≡ f.program → Serves d rest (view w) (view v) → TakesNone up →
      RunningGood d costs depths (standing v.objects) up next steps g.agenda.1 → AgendaGood d costs depths (view v) most up (Running next ∷ rest) (steps + g.agenda.2)
  above v next up steps same served takes good = (
    steps,
    g.agenda.1,
    g.agenda.2,
    (takes, good),
    g.agenda.4,
    omega arith,
    subst (λ up. AgendaGood d costs depths (view v) most up rest g.agenda.2) (ap (λ program. given (result_of_program (program_at d program))) (sym same))
        (agenda_served d costs depths most (down d (view w) (Running f)) rest g.agenda.2 (view w) (view v) served g.agenda.6),
  )

  -- ** the program goes on alone

  -- what is to be shown where it does, in this frame and with these steps left
  pub record Around (v : World) (next : Frame) (steps : ℕ) : Type 0 where
    pub whole : Whole d costs depths (Running f ∷ rest) v
    -- the rest of the agenda is served, and finds the peers
    pub served : Serves d rest (view w) (view v)
    pub pool : PeersGood d v.peers (length v.builder + total is_for_builder (Running f ∷ rest))
    -- the program
    pub same : next.program ≡ f.program
    pub running : RunningGood d costs depths (standing v.objects) none next steps g.agenda.1
    -- freeze counts are the open brackets
    pub queues : QueuesGood d depths most (Running next ∷ rest) (suc n) v.objects
    -- no more live, and what is queued may cost what the steps taken leave
    pub few : live v.objects ≤ live w.objects
    pub queued : suc (steps + total (carried d costs making) v.objects) ≤ g.agenda.0 + total (carried d costs making) w.objects

  pub alike : (next : Frame) → Alike (Running f ∷ rest) (Running next ∷ rest)
  alike next = record { items = λ f. refl; unset = λ number. refl; request_step = refl; makes = refl }

  pub goes_to : (v : World) (next : Frame) (steps : ℕ) → Around v next steps → IsGood d a most_counted (at_top v next rest (suc n))
  goes_to v next steps e =
      good_of v (Running next ∷ rest)
      (record {
        whole = e.whole;
        alike = alike next;
        pool = e.pool;
        builder = e.served.builder;
        build = λ b. b;
        sets = record { alone = g.sets.alone; first = g.sets.first; held = λ some. absurd (let none = g.sets.first in omega (arith, some, none)) };
        budget = steps + g.agenda.2;
        good = above v next none steps e.same e.served tt e.running;
        queues = e.queues;
        few = (let old = g.few in let few = e.few in omega (arith, old, few));
        spent = (let few = e.few in let queued = e.queued in omega (arith, few, queued));
      })

  -- the registers past an instruction that does not end its block, and what it leaves of the steps
  pub left_steps : ℕ
  left_steps = g.agenda.0 - (1 + start_cost (graph d) costs (start_of d r.ks i))

  pub past_good : (z : Standing) (registers : Registers) → ends i ≡ false → length registers ≡ r.p.registers → RegistersFit d z (after d r.p r.ks i) registers →
      RunningGood d costs depths z none (gone_on f registers) left_steps g.agenda.1
  unfolding left_steps
  past_good z registers more counted fit = programs_go_on d well costs depths s z f g.agenda.0 g.agenda.1 r i here more registers counted fit

  pub steps_left : suc (left_steps + start_cost (graph d) costs (start_of d r.ks i)) ≤ g.agenda.0
  unfolding left_steps
  steps_left = (let cheap = taken.cheap in omega (arith, cheap))

  -- the step is fine where what the instruction leaves is good
  pub fine_where : most_counted ≤ most_steps → (c : Config) → left (suc n) (instruction_step d w rest (past f) i) ≡ Ok c → IsGood d a most_counted c →
      Fine d a.weighed.costs a.weighed.depths most_counted (depth (graph d) a.weighed.depths) (counted_left n (running d w rest f))
  fine_where within c leads good =
      subst (λ b. Fine d costs depths most_counted most (only_if b arms.Steps (left (suc n) (running d w rest f)))) (sym (lt-ltb n most_steps (room within)))
      (subst (Fine d costs depths most_counted most) (sym (ap (left (suc n)) running_is ∙ leads)) good)

  -- a frame of the machine is one in which no register waits
  pub waits_not : (v : World) (next : Frame) → IsGood d a most_counted (at_top v (record next { into = None }) rest (suc n)) →
      IsGood d a most_counted (at_top v (record next { into = f.into }) rest (suc n))
  waits_not v next good = subst (λ into. IsGood d a most_counted (at_top v (record next { into = into }) rest (suc n))) (sym none_into) good

-- the step of a due instruction is fine
abbrev pub StepIsFine : {d : Definition} {i : Instruction} → Due d i → Type 0
StepIsFine {d} {i} t = t.most_counted ≤ most_steps →
    Fine d t.a.weighed.costs t.a.weighed.depths t.most_counted (depth (graph d) t.a.weighed.depths) (counted_left t.n (running d t.w t.rest t.f))

pub fine_of : {i : Instruction} → ((d : Definition) (t : Due d i) → StepIsFine t) → IsFine i
fine_of h d well a most_counted within w f rest n g is =
    let x = turned d well a most_counted w f rest n g in
    subst (λ answer. Fine d a.weighed.costs a.weighed.depths most_counted (depth (graph d) a.weighed.depths) (counted_left n answer)) x.same
    (h d (record { well = well; a = a; most_counted = most_counted; w = w; f = taking d f; rest = rest; n = n; g = x.good; is = x.code ∙ is; settled = x.settled }) within)
