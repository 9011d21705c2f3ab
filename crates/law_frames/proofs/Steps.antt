-- What falls still falls at each step, and falls where a dispatch begins.
use Rattle.std.proofs.Common.{◌≡◌, inr, refl, sym, ap, subst, ℕ, zero, suc, ◌≤◌, List, [], ◌∷◌, ◌++◌, Option, None, Some, Ok, Err, arith}
use Rattle.std.specs.Prelude.{IfOk, IfSome, nat_lt}
use Rattle.ui_machine.specs.declared.arm.Arm.TheVariants as arms
use Rattle.ui_machine.specs.Seq.{total}
use Rattle.ui_machine.specs.Definition.{Definition}
use Rattle.ui_machine.specs.Instructions.{running}
use Rattle.ui_machine.specs.Outcome.{Answer, ◌>>=◌}
use Rattle.ui_machine.specs.Rules.Accumulation.{taking_entry}
use Rattle.ui_machine.specs.Rules.Disposal.{finalised}
use Rattle.ui_machine.specs.Rules.Transfers.{unsetting}
use Rattle.ui_machine.specs.Runs.{Fits, Step, Steps, beginning, listed, of_build, of_request}
use Rattle.ui_machine.specs.State.Config.{World, Config, Left, starts}
use Rattle.ui_machine.specs.State.Peers.{Reply}
use Rattle.ui_machine.specs.State.References.{mentions, next_unheld}
use Rattle.ui_machine.specs.State.Tasks.{Answering, Beginning, Building, Calling, Constructing, Due, Emitting, Handling, Item, Notifying, PlanEntry, Request, Running, Setting, Task, Thawing, Transferring, Unsetting, class_handler, handler}
use Rattle.ui_machine.specs.State.Tasks as config
use Rattle.ui_machine.specs.Steps.{act, counted, finalising, first_of, left, most_steps, step, uncounted}
use Rattle.machine_laws.proofs.KeptProofs.{kept_at, only_keeps}
use Rattle.law_typing.specs.Good.Freezes.{frozen_by}
use Rattle.law_typing.specs.Good.Standing.{standing}
use Rattle.law_typing.specs.Graph.{graph}
use Rattle.law_typing.specs.Graph.Depths.{depth}
use Rattle.law_typing.specs.Laws.StepsKeepGood.{IsGood}
use Rattle.law_typing.specs.Laws.WellRead.{WellRead}
use Rattle.law_typing.specs.Verdict.Accepted.{Accepted, Each}
use Rattle.law_steps.proofs.Tasked.StepsProofs.{steps_keep_good}
use Rattle.law_typing.specs.Good.Bindings.{SourceGood}
use Rattle.law_typing.specs.Graph.Channels as entries
use Rattle.law_typing.specs.Laws.StepsKeepGood.{bound_of}
use Rattle.law_typing.proofs.Lists.{each_in}
use Rattle.law_typing.proofs.OneSolutionProofs.{find_in}
use Rattle.law_static.proofs.BuildCostProofs.{build_begins}
use Rattle.law_static.proofs.RequestProofs.{requests_begin}
use Rattle.law_static.proofs.SourceProofs.{sources_begin}
use Rattle.law_steps.specs.Served.Dispatches.{Throughout}
use Rattle.law_steps.proofs.Served.DispatchProofs.{one_step}
use Rattle.law_steps.proofs.Served.EntryProofs.{build_printed, printed_few, request_printed, source_printed}
use Rattle.law_frames.proofs.OnceProofs.{falling_are_once}
use Rattle.law_frames.specs.Frames as frames
use Rattle.law_frames.specs.Frames.{EachOnce, FallsAt, IsHeld, Under}
use Rattle.law_frames.specs.Once.{BuildsAreOnce, RequestsAreOnce, SourcesAreOnce}
use Rattle.law_frames.proofs.Beginnings.{builds, requests, runs_source}
use Rattle.law_frames.proofs.Begins.{emission_begins, notifies_one}
use Rattle.law_frames.proofs.Carrying.{transfers_one}
use Rattle.law_frames.proofs.Constructions.{constructs}
use Rattle.law_frames.proofs.Emissions.{takes_class, takes_handler}
use Rattle.law_frames.proofs.Going.{GoesOn}
use Rattle.law_frames.proofs.GoingSteps.{MayAct, acts_kept, finalises_kept}
use Rattle.law_frames.proofs.Instructed.{runs_on}
use Rattle.law_frames.proofs.Leading.{Leads, all_each, frozen_somewhere, queues_fall}
use Rattle.law_frames.proofs.Lower.{calls, ends}
use Rattle.law_frames.proofs.Settings.{Only, sets_one}
use Rattle.law_frames.proofs.Staying.{falls_stay, held_stays, low_at, same_at}
use Rattle.law_frames.proofs.Tasks.{Nothing, frees, is_counted, leaves_agenda, not_counted, thaws_rest}
use Rattle.law_frames.proofs.Transfers.{takes_transfer}

module _ (d : Definition) (well : WellRead d) (a : Accepted d) (most_counted : ℕ) where
  abbrev Good : Config → Type 0
  Good c = IsGood d a most_counted c

  abbrev Falls : Config → Type 0
  Falls c = FallsAt d a.weighed.depths c

  -- what is good then falls
  abbrev Comes : Config → Type 0
  Comes c = Good c → Falls c

  -- where nothing is left to do
  pub empty_falls : (c : Config) → c.agenda ≡ [] → Comes c
  empty_falls c none good = record {
    agenda = subst (λ agenda. frames.Falls d a.weighed.depths (standing c.world.objects) c.world.handlers agenda) (sym none) tt;
    queues = λ id o is. all_each _ o.queue (λ slot there. absurd (
        let some = frozen_somewhere d a.weighed.depths (depth (graph d) a.weighed.depths) c.agenda c.counted c.world good.queues id slot o is there in
        let zero : total (frozen_by d id) c.agenda ≡ 0 = ap (total (frozen_by d id)) none in
        omega (arith, some, zero)));
  }

  module _ (w : World) (task : Task) (rest : List Task) (n : ℕ) (g : Good (record { world = w; agenda = task ∷ rest; counted = n })) (f : Falls (record { world = w; agenda = task ∷ rest; counted = n })) where
    joined : (But : ℕ → ℕ → Type 0) (reply : Option Reply) → MayAct But d w (task ∷ rest) → IfOk (act d w reply (task ∷ rest) n) (Leads d a most_counted w task rest n g f But) → IfOk (act d w reply (task ∷ rest) n) Comes
    joined But reply may leads = by (act d w reply (task ∷ rest) n) leads (acts_kept But d w reply (task ∷ rest) n may)
      where
        by : (x : Answer Config) → IfOk x (Leads d a most_counted w task rest n g f But) → IfOk x (λ e. GoesOn But w e.world) → IfOk x Comes
        by (Ok e) leads on = λ good. leads good on
        by (Err arm) leads on = tt

  left_comes : (k : ℕ) (x : Answer Left) → IfOk x (λ l. Comes (record { world = l.world; agenda = l.agenda; counted = k })) → IfOk (left k x) Comes
  unfolding left
  left_comes k (Ok l) comes = comes
  left_comes k (Err arm) comes = tt

  pub acts : (w : World) (reply : Option Reply) (agenda : List Task) (n : ℕ) → Good (record { world = w; agenda = agenda; counted = n }) → Falls (record { world = w; agenda = agenda; counted = n }) → IfOk (act d w reply agenda n) Comes
  acts w reply [] n g f = empty_falls _ refl
  acts w reply (Setting id slot v ∷ rest) n g f =
      joined w (Setting id slot v) rest n g f (Only id slot) reply (refl, refl) (not_counted d a most_counted w (Setting id slot v) rest n g f (Only id slot) n _ (sets_one d a most_counted w id slot v rest n g f))
  acts w reply (Notifying id slot ∷ rest) n g f =
      joined w (Notifying id slot) rest n g f Nothing reply tt (is_counted d a most_counted w (Notifying id slot) rest n g f Nothing n _ (notifies_one d well a most_counted w id slot rest n g f))
  acts w reply (Beginning e ∷ rest) n g f =
      joined w (Beginning e) rest n g f Nothing reply tt (is_counted d a most_counted w (Beginning e) rest n g f Nothing n _ (emission_begins d well a most_counted w e rest n g f))
  acts w reply (Emitting e [] ∷ rest) n g f =
      joined w (Emitting e []) rest n g f Nothing reply tt (leaves_agenda d a most_counted w (Emitting e []) rest n g f Nothing n _ (ends d a most_counted w e n rest g f))
  acts w reply (Emitting e (class_handler program cleanup ∷ turns) ∷ rest) n g f =
      joined w (Emitting e (class_handler program cleanup ∷ turns)) rest n g f Nothing reply tt
      (not_counted d a most_counted w (Emitting e (class_handler program cleanup ∷ turns)) rest n g f Nothing n (taking_entry d w e turns (class_handler program cleanup)) (takes_class d well a most_counted w e turns rest n program cleanup g f))
  acts w reply (Emitting e (handler number ∷ turns) ∷ rest) n g f =
      joined w (Emitting e (handler number ∷ turns)) rest n g f Nothing reply tt
      (not_counted d a most_counted w (Emitting e (handler number ∷ turns)) rest n g f Nothing n (taking_entry d w e turns (handler number)) (takes_handler d well a most_counted w e turns rest n number g f))
  acts w reply (Emitting e (config.transfer number back ∷ turns) ∷ rest) n g f =
      joined w (Emitting e (config.transfer number back ∷ turns)) rest n g f Nothing reply tt
      (not_counted d a most_counted w (Emitting e (config.transfer number back ∷ turns)) rest n g f Nothing n (taking_entry d w e turns (config.transfer number back)) (takes_transfer d well a most_counted w e turns rest n number back g f))
  acts w reply (Transferring number back ∷ rest) n g f =
      joined w (Transferring number back) rest n g f Nothing reply tt (is_counted d a most_counted w (Transferring number back) rest n g f Nothing n _ (transfers_one d well a most_counted w number back rest n g f))
  acts w reply (Unsetting number ∷ rest) n g f =
      joined w (Unsetting number) rest n g f Nothing reply tt (not_counted d a most_counted w (Unsetting number) rest n g f Nothing n (unsetting w number) (frees d a most_counted w number rest n g f))
  acts w reply (Thawing id slots ∷ rest) n g f =
      joined w (Thawing id slots) rest n g f Nothing reply tt (not_counted d a most_counted w (Thawing id slots) rest n g f Nothing n _ (thaws_rest d a most_counted w id rest n slots g f))
  acts w reply (Running h ∷ rest) n g f =
      only_keeps (nat_lt n most_steps) arms.Steps (left (suc n) (running d w rest h)) Comes (left_comes (suc n) (running d w rest h) (runs_on d well a most_counted w h rest n g f))
  acts w reply (Answering source ∷ rest) n g f = tt
  acts w reply (Calling call ∷ rest) n g f =
      joined w (Calling call) rest n g f Nothing reply tt (leaves_agenda d a most_counted w (Calling call) rest n g f Nothing n _ (calls d a most_counted w call n rest g f reply))
  acts w reply (Constructing id steps held ∷ rest) n g f =
      joined w (Constructing id steps held) rest n g f Nothing reply tt (not_counted d a most_counted w (Constructing id steps held) rest n g f Nothing n _ (constructs d well a most_counted w id held rest n steps g f))
  acts w reply (Building items ∷ []) n g f =
      joined w (Building items) [] n g f Nothing reply tt (not_counted d a most_counted w (Building items) [] n g f Nothing n _ (builds d well a most_counted w n items g f))
  acts w reply (Building items ∷ task ∷ rest) n g f = absurd (let e = g.agenda.3.1 in cc e)
  acts w reply (Handling r ∷ []) n g f =
      joined w (Handling r) [] n g f Nothing reply tt (not_counted d a most_counted w (Handling r) [] n g f Nothing n _ (requests d well a most_counted w n r g f))
  acts w reply (Handling r ∷ task ∷ rest) n g f = absurd (let e = g.agenda.3.1 in cc e)
  acts w reply (Due source ∷ []) n g f =
      joined w (Due source) [] n g f Nothing reply tt (not_counted d a most_counted w (Due source) [] n g f Nothing n _ (runs_source d well a most_counted w n source g f))
  acts w reply (Due source ∷ task ∷ rest) n g f = absurd (let e = g.agenda.3.1 in cc e)

  -- ** an object is finalised

  same_agenda : (c : Config) → Good c → Falls c → (v : World) (k : ℕ) → GoesOn Nothing c.world v → Comes (record { world = v; agenda = c.agenda; counted = k })
  same_agenda c g f v k goes good =
      let same = same_at d a.weighed.costs a.weighed.depths (depth (graph d) a.weighed.depths) c.world v goes.places c.agenda _ _ g.budget good.budget g.agenda good.agenda in
      let falls = falls_stay d a.weighed.depths (standing c.world.objects) (standing v.objects) c.world.last_handler c.world.handlers v.handlers goes.handlers c.agenda same
      (low_at d a.weighed.costs a.weighed.depths (depth (graph d) a.weighed.depths) c.world c.agenda _ g.budget g.agenda) f.agenda in
      record {
        agenda = falls;
        queues = queues_fall d a.weighed.depths Nothing c.world v c.agenda [] c.agenda goes f.queues falls
            (λ id m held. inr (held_stays d a.weighed.depths (standing c.world.objects) (standing v.objects) id m c.agenda same held))
            (λ id slot o is there. frozen_somewhere d a.weighed.depths (depth (graph d) a.weighed.depths) c.agenda k v good.queues id slot o is there) (λ id slot o is there none. absurd none);
      }

  agenda_kept : (c : Config) (id : ℕ) → IfOk (counted c.agenda c.counted (finalising d c.world id)) (λ e. e.agenda ≡ c.agenda)
  unfolding finalising
  agenda_kept c id = only_keeps (nat_lt c.counted most_steps) arms.Steps _ _ (by (finalised d c.world id))
    where
      by : (x : Answer World) → IfOk (uncounted c.agenda (suc c.counted) (x >>= (λ v. starts v []))) (λ e. e.agenda ≡ c.agenda)
      by (Ok v) = refl
      by (Err arm) = tt

  first : (reply : Option Reply) (c : Config) → Good c → Falls c → (o : Option ℕ) → IfOk (first_of d reply c o) Comes
  first reply c g f None = acts c.world reply c.agenda c.counted g f
  first reply c g f (Some id) = by (counted c.agenda c.counted (finalising d c.world id)) (agenda_kept c id) (finalises_kept Nothing d c id)
    where
      by : (x : Answer Config) → IfOk x (λ e. e.agenda ≡ c.agenda) → IfOk x (λ e. GoesOn Nothing c.world e.world) → IfOk x Comes
      by (Ok e) same on = subst (λ agenda. Comes (record { world = e.world; agenda = agenda; counted = e.counted })) (sym same) (same_agenda c g f e.world e.counted on)
      by (Err arm) same on = tt

  -- ** steps

  module _ (few : most_counted ≤ most_steps) where
    one_falls : (c e : Config) → Good c → Falls c → (reply : Option Reply) → IfSome reply (Fits d) → Step d reply c e → Falls e
    one_falls c e g f reply fit s =
        kept_at Comes (step d reply c) e (first reply c g f (next_unheld (mentions d c) c.world.objects)) s.leads
        (one_step steps_keep_good d well a most_counted few c e g reply fit s)

    first_fits : (reply : Option Reply) (later : List Reply) → Each (Fits d) (listed reply ++ later) → IfSome reply (Fits d) × Each (Fits d) later
    first_fits None later fit = (tt, fit)
    first_fits (Some r) later fit = fit

    steps_fall : (n : ℕ) (replies : List Reply) → Each (Fits d) replies → (c e : Config) → Good c → Falls c → Steps d n replies c e → Falls e
    steps_fall zero replies fit c e g f s = subst Falls s.1 f
    steps_fall (suc n) replies fit c e g f s =
        let both = first_fits s.reply s.later (subst (Each (Fits d)) s.replied fit) in
        steps_fall n s.later both.1 s.mid e (one_step steps_keep_good d well a most_counted few c s.mid g s.reply both.0 s.step) (one_falls c s.mid g f s.reply both.0 s.step) s.follows

    -- throughout what begins well and falls
    pub throughout_falls : (c : Config) → Good c → Falls c → Throughout d c Falls
    throughout_falls c g f replies fit at reached = steps_fall reached.count replies fit c at g f reached.steps

-- ** where dispatches begin

module _ (d : Definition) (a : Accepted d) (most_counted : ℕ) where
  alone_falls : (w : World) (task : Task) (n : ℕ) → ((id : ℕ) → frozen_by d id task ≡ 0) → frames.TaskFalls d a.weighed.depths (standing w.objects) w.handlers [] task →
      IsGood d a most_counted (record { world = w; agenda = task ∷ []; counted = n }) → FallsAt d a.weighed.depths (record { world = w; agenda = task ∷ []; counted = n })
  alone_falls w task n free own good = record {
    agenda = (own, tt);
    queues = λ id o is. all_each _ o.queue (λ slot there. absurd (
        let some = frozen_somewhere d a.weighed.depths (depth (graph d) a.weighed.depths) (task ∷ []) n w good.queues id slot o is there in
        let zero = free id in
        omega (arith, some, zero)));
  }

-- ** the law

module _ (d : Definition) (well : WellRead d) (a : Accepted d) where
  once : (c : Config) → Throughout d c (FallsAt d a.weighed.depths) → Throughout d c (EachOnce d)
  once c falls replies fit at reached = falling_are_once d a.weighed.depths at (falls replies fit at reached)

pub builds_are_once : BuildsAreOnce
builds_are_once d well a peers ready =
    let good = build_begins d well a peers ready in
    once d well a (of_build d peers)
    (throughout_falls d well a (bound_of d a entries.build) (printed_few d a well entries.build (build_printed d a)) (of_build d peers) good
    (alone_falls d a (bound_of d a entries.build) _ _ 0 (λ id. refl) tt good))

pub requests_are_once : RequestsAreOnce
requests_are_once d well a w rest r fits kept =
    let good = requests_begin d well a w rest r fits kept in
    once d well a (of_request w r)
    (throughout_falls d well a _ (printed_few d a well _ (request_printed d a r)) (of_request w r) good (alone_falls d a _ _ _ 0 (λ id. refl) tt good))

pub sources_are_once : SourcesAreOnce
sources_are_once d well a w rest number s is =
    let known = each_in (SourceGood d (standing w.objects)) w.sources rest.sources s (find_in _ w.sources s is).0 in
    let good = sources_begin d well a w rest number s is in
    once d well a (beginning w (Due number))
    (throughout_falls d well a _ (printed_few d a well _ (source_printed d a s.program known.told)) (beginning w (Due number)) good (alone_falls d a _ _ _ 0 (λ id. refl) tt good))
