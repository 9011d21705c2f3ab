-- A program that waits is given a value: its register holds what its kind says, and it goes on above what was below it.
use Rattle.std.proofs.Common.{◌≡◌, refl, sym, ap, subst, ◌∙◌, ℕ, ◌<◌, ◌≤◌, true, List, ◌∷◌, length, drop, Option, None, Some, Ok, arith, lt-ltb}
use Rattle.std.specs.Prelude.{not}
use Rattle.ui_machine.specs.Seq.{write}
use Rattle.ui_machine.specs.Definition.{Definition}
use Rattle.ui_machine.specs.Definition.Kinds.{Kind}
use Rattle.ui_machine.specs.Definition.Kinds as kinds
use Rattle.ui_machine.specs.Definition.Values.{Value}
use Rattle.ui_machine.specs.Rules.Accumulation.{received_by}
use Rattle.ui_machine.specs.Rules.Build.{is_making}
use Rattle.ui_machine.specs.Rules.Transform.{kind_fits}
use Rattle.ui_machine.specs.State.Peers.{Reply}
use Rattle.ui_machine.specs.State.References.{mentions, next_unheld}
use Rattle.ui_machine.specs.State.Tasks.{Frame, Task, Running}
use Rattle.ui_machine.specs.State.Config.{World}
use Rattle.ui_machine.specs.Steps.{most_steps}
use Rattle.law_typing.specs.Rules.Brackets.{opened, is_among, keeps}
use Rattle.law_typing.specs.Verdict.Accepted.{Accepted}
use Rattle.law_typing.specs.Graph.Tables.{Tables}
use Rattle.law_typing.specs.Laws.WellRead.{WellRead}
use Rattle.law_typing.specs.Laws.StepsKeepGood.{IsGood, Replies}
use Rattle.law_typing.specs.Good.Standing.{Standing, standing, class_by}
use Rattle.law_typing.specs.Good.ComingDown.{Down, none, awaited}
use Rattle.law_typing.specs.Good.Programs.{RunningGood, code_of, code_of_block, code_left}
use Rattle.law_typing.specs.Good.Freezes.{frozen_by}
use Rattle.law_typing.specs.Good.Builds.{BuildGood}
use Rattle.law_steps.specs.Kept.Alike.{Alike}
use Rattle.law_steps.proofs.Kept.WriteProofs.{read_apart}
use Rattle.law_steps.proofs.Instructed.Frozen.{frozen_same}
use Rattle.law_steps.proofs.Instructed.Written.{length_write, fit_written}
use Rattle.law_steps.specs.Tasked.First.{at_first}
use Rattle.law_steps.proofs.Tasked.First.{First, good_of, whole_told, pool_alike, build_alike, StepIsFine, costs, depths}
use Rattle.law_steps.proofs.Tasked.Lowest.{lowest_above}
use Rattle.law_steps.proofs.Tasked.Registers.{kinds_as_many, written_within}

-- ** what lies below is a program

-- a task is the first one, above these, where all is good and nothing is to be finalised before it
pub record Above (d : Definition) (task : Task) (rest : List Task) : Type 0 where
  pub well : WellRead d
  pub a : Accepted d
  pub most_counted : ℕ
  pub within : most_counted ≤ most_steps
  pub w : World
  pub n : ℕ
  pub g : IsGood d a most_counted (at_first w task rest n)
  pub settled : next_unheld (mentions d (at_first w task rest n)) w.objects ≡ None
  pub reply : Option Reply
  pub replies : Replies d (at_first w task rest n) reply

abbrev pub first : {d : Definition} {task : Task} {rest : List Task} → Above d task rest → First d task
first {d} {task} {rest} x = record {
  well = x.well;
  a = x.a;
  most_counted = x.most_counted;
  within = x.within;
  w = x.w;
  rest = rest;
  n = x.n;
  g = x.g;
  settled = x.settled;
  reply = x.reply;
  replies = x.replies;
}

abbrev stand : {d : Definition} {task : Task} (t : First d task) → Above d task t.rest
stand t = record {
  well = t.well;
  a = t.a;
  most_counted = t.most_counted;
  within = t.within;
  w = t.w;
  n = t.n;
  g = t.g;
  settled = t.settled;
  reply = t.reply;
  replies = t.replies;
}

-- what is shown where these are below is so
pub fine_above_these : {d : Definition} {task : Task} (t : First d task) (rest : List Task) → t.rest ≡ rest → ((x : Above d task rest) → StepIsFine (first x)) → StepIsFine t
fine_above_these {d} {task} t rest is h = subst (λ rest. (x : Above d task rest) → StepIsFine (first x)) (sym is) h (stand t)

-- ** the program that waits

-- with the value in the register
abbrev pub after_value : Frame → ℕ → Value → Frame
after_value f to v = record f { into = None; registers = write None f.registers to (Some v) }

pub goes_on : (f : Frame) (rest : List Task) (to : ℕ) (v : Value) → to < length f.registers → received_by f rest to (Some v) ≡ Ok (Running (after_value f to v) ∷ rest)
unfolding received_by
goes_on f rest to v low = rw (lt-ltb to (length f.registers) low) refl

-- an open register is not the one that is written
not_among : (xs : List ℕ) (to r : ℕ) → keeps xs (Some to) ≡ true → is_among xs r ≡ true → to ≡ r → ⊥
not_among xs to r kept among e = let s = ap (is_among xs) e in let t = ap not (s ∙ among) in cc

module _ (d : Definition) (costs depths : Tables) (s : Standing) (up : Down) (f : Frame) (steps frames : ℕ) (g : RunningGood d costs depths s up f steps frames) (to : ℕ) where
  -- the register is one of the program's, where its kind is that of what comes
  pub register_is : WellRead d → (kind : Kind) → awaited g.ks f.into up ≡ write kinds.unset g.ks to (kinds.plain kind) → to < length f.registers
  register_is well kind comes =
      let block = (well.programs f.program g.p g.is).blocks f.block g.b g.in_block in
      let many = kinds_as_many d g.p g.p.registers g.b.entry f.at g.b.code block.entry g.inside block.ends block.written in
      let same : length (write kinds.unset g.ks to (kinds.plain kind)) ≡ g.p.registers = ap length (sym comes ∙ g.at_site) ∙ many in
      let low = written_within kinds.unset g.ks to (kinds.plain kind) in
      let counted = g.counted in
      omega (arith, same, low, counted)

  -- the brackets that are open
  open_is : opened (code_left d f) ≡ opened (drop f.at g.b.code)
  open_is = ap (λ code. opened (drop f.at code)) (ap (code_of f.block) g.is ∙ ap code_of_block g.in_block)

  -- it holds frozen what it held
  pub frozen_still : (v : Value) (id : ℕ) → keeps (opened (code_left d f)) (Some to) ≡ true → frozen_by d id (Running (after_value f to v)) ≡ frozen_by d id (Running f)
  frozen_still v id kept = frozen_same d id f (after_value f to v) refl (λ r among. read_apart None f.registers to (Some v) r (not_among (opened (code_left d f)) to r kept among))

  pub kept_of : f.into ≡ Some to → keeps (opened (code_left d f)) (Some to) ≡ true
  kept_of waits = ap (λ xs. keeps xs (Some to)) open_is ∙ (ap (keeps (opened (drop f.at g.b.code))) (sym waits) ∙ g.kept)

  -- and goes on well
  pub receives : (kind : Kind) (v : Value) → awaited g.ks f.into up ≡ write kinds.unset g.ks to (kinds.plain kind) → to < length f.registers → kind_fits (class_by d s) d.types v kind ≡ true →
      RunningGood d costs depths s none (after_value f to v) steps frames
  receives kind v comes low fit = record {
    p = g.p;
    is = g.is;
    b = g.b;
    in_block = g.in_block;
    inside = g.inside;
    few = g.few;
    counted = length_write None f.registers to (Some v) low ∙ g.counted;
    ks = write kinds.unset g.ks to (kinds.plain kind);
    fit = fit_written d s g.ks f.registers to (kinds.plain kind) (Some v) g.fit fit;
    comes = tt;
    kept = refl;
    at_site = sym comes ∙ g.at_site;
    typed = rw (sym comes) g.typed;
    bracketed = g.bracketed;
    cheap = rw (sym comes) g.cheap;
    shallow = g.shallow;
  }

-- ** the step

module _ {d : Definition} {task : Task} {f : Frame} {tasks : List Task} (x : Above d task (Running f ∷ tasks)) (to : ℕ) (v : Value) where
  open x use {a, w, n, g}

  abbrev later : List Task
  later = Running (after_value f to v) ∷ tasks

  -- what is to be shown of the task from which the value comes, and of the program
  pub record Comes : Type 0 where
    pub alike : Alike (task ∷ Running f ∷ tasks) later
    pub unfrozen : (id : ℕ) → frozen_by d id task ≡ 0
    pub build : BuildGood d w.builder later (task ∷ Running f ∷ tasks) → BuildGood d w.builder later tasks
    pub kept : (id : ℕ) → frozen_by d id (Running (after_value f to v)) ≡ frozen_by d id (Running f)
    pub good : RunningGood d (costs (first x)) (depths (first x)) (standing w.objects) none (after_value f to v) g.agenda.6.0 g.agenda.6.1

  -- a line is perhaps said, and a value reported
  pub received : (lines : List (List ℕ)) (value : Option Value) → Comes →
      IsGood d a x.most_counted (record { world = record w { transcript = lines; result = value }; agenda = later; counted = n })
  received lines value e =
      let below = g.agenda.6 in
      good_of (first x) (record w { transcript = lines; result = value }) later
      (record {
        objects = refl;
        whole = whole_told (first x) later lines value e.alike;
        pool = pool_alike (first x) later e.alike;
        to_make = e.alike.items is_making;
        makes = (let same = e.alike.makes in omega (arith, same));
        build = e.build (build_alike (first x) later e.alike);
        frozen = λ id. (let free = e.unfrozen id in let same = e.kept id in omega (arith, free, same));
        lowest = λ id some. (
            let same = e.kept id in
            let above = lowest_above d id task (Running f ∷ tasks) (omega (arith, same, some)) in
            omega (arith, above));
        no_set = (let none = g.sets.first in omega (arith, none));
        no_source = (let none = g.sets.alone in omega (arith, none));
        budget = g.agenda.2;
        less = omega arith;
        good = (below.0, below.1, below.2, (tt, e.good), below.4, below.5, below.6);
      })
