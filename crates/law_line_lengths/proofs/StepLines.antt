-- Each line that a step says is short.
use Rattle.std.proofs.Common.{ℕ, suc, List, [], ◌∷◌, Option, None, Some, Ok, Err}
use Rattle.std.specs.Prelude.{IfOk, IfSome, nat_lt, slice_get}
use Rattle.ui_machine.specs.declared.arm.Arm.TheVariants as arms
use Rattle.ui_machine.specs.Definition.{Definition}
use Rattle.ui_machine.specs.Instructions.{running}
use Rattle.ui_machine.specs.Instructions.Jumps.{block_in, in_pass, past}
use Rattle.ui_machine.specs.Instructions.Peers.{calling_on}
use Rattle.ui_machine.specs.Outcome.{Answer, known}
use Rattle.ui_machine.specs.Output.Lines as lines
use Rattle.ui_machine.specs.Rules.Accumulation.{ending, taking_entry}
use Rattle.ui_machine.specs.Rules.Build.{building}
use Rattle.ui_machine.specs.Rules.Construction.{constructing}
use Rattle.ui_machine.specs.Rules.Disposal.{disposed, finalised}
use Rattle.ui_machine.specs.Rules.EmissionPlan.{beginning_emission, notifying}
use Rattle.ui_machine.specs.Rules.Events.{request_step}
use Rattle.ui_machine.specs.Rules.MainLoop.{sourcing}
use Rattle.ui_machine.specs.Rules.NotifyQueue.{thawing}
use Rattle.ui_machine.specs.Rules.Sets.{setting}
use Rattle.ui_machine.specs.Rules.Transfers.{transferring}
use Rattle.ui_machine.specs.State.Bindings.{binding_of}
use Rattle.ui_machine.specs.State.Config.{Config, Left, Started, World}
use Rattle.ui_machine.specs.State.Peers.{Reply}
use Rattle.ui_machine.specs.State.References.{mentions, next_unheld}
use Rattle.ui_machine.specs.State.Tasks.{Answering, Beginning, Building, Calling, Constructing, Due, Emitting, Frame, Handling, Notifying, Running, Setting, Task, Thawing, Transferring, Unsetting}
use Rattle.ui_machine.specs.Steps.{act, counted, finalising, first_of, left, most_steps, sink_first_floating, step, uncounted}
use Rattle.machine_laws.proofs.KeptProofs.{bind_keeps, kept_at, only_keeps}
use Rattle.law_typing.specs.Verdict.Accepted.{Each}
use Rattle.law_short_texts.specs.ShortValues.{HasShortAnswer, HasShortTexts, IsShortTask, IsShortWorld}
use Rattle.law_line_lengths.specs.StepLines.{Grows, HasLikePeers, IsLikeTaskOf, StepsSayShortLines}
use Rattle.law_line_lengths.proofs.GrowthProofs.{grows_more, grows_not}
use Rattle.law_line_lengths.proofs.InstructionLines.{disposed_kept, instructed_kept}
use Rattle.law_line_lengths.proofs.TaskLines.{begins_emission, builds, calls, carries_by, carries_request, constructs, ends_emission, notifies_one, runs_source, sets_one, takes, thaws_rest}

module _ (d : Definition) (texts : HasShortTexts d) (w : World) (short : IsShortWorld w) (peers : HasLikePeers d w) where
  abbrev Says : World → Type 0
  Says v = Grows d w.transcript v.transcript

  abbrev Leads : Config → Type 0
  Leads e = Says e.world

  abbrev Starts : Started → Type 0
  Starts s = Says s.world

  abbrev Leaves : Left → Type 0
  Leaves l = Says l.world

  not_counted : (rest : List Task) (n : ℕ) (a : Answer Started) → IfOk a Starts → IfOk (uncounted rest n a) Leads
  not_counted rest n (Ok s) says = says
  not_counted rest n (Err arm) says = tt

  is_counted : (rest : List Task) (n : ℕ) (a : Answer Started) → IfOk a Starts → IfOk (counted rest n a) Leads
  is_counted rest n a says = only_keeps (nat_lt n most_steps) arms.Steps (uncounted rest (suc n) a) Leads (not_counted rest (suc n) a says)

  leaves_agenda : (n : ℕ) (a : Answer Left) → IfOk a Leaves → IfOk (left n a) Leads
  unfolding left
  leaves_agenda n (Ok l) says = says
  leaves_agenda n (Err arm) says = tt

  runs : (rest : List Task) (f : Frame) → IfOk (running d w rest f) Leaves
  unfolding running
  runs rest f = bind_keeps (block_in d f) _ Leaves (λ b _. bind_keeps (known arms.Code (slice_get b.code (in_pass b f).at)) _ Leaves (λ i _. instructed_kept d w peers rest (past (in_pass b f)) i))

  at_rest : (ids : List ℕ) → Says (sink_first_floating w ids)
  at_rest [] = grows_not d w.transcript
  at_rest (id ∷ ids) = grows_not d w.transcript

  acts : (reply : Option Reply) → IfSome reply HasShortAnswer → (tasks : List Task) → Each IsShortTask tasks → Each (IsLikeTaskOf d w) tasks → (n : ℕ) → IfOk (act d w reply tasks n) Leads
  acts reply one [] all like n = at_rest w.floating
  acts reply one (Setting id slot v ∷ rest) all like n = not_counted rest n (setting d w id slot v) (sets_one d texts w short peers id slot v all.0)
  acts reply one (Notifying id slot ∷ rest) all like n = is_counted rest n (notifying d w id slot) (notifies_one d texts w short peers id slot)
  acts reply one (Beginning e ∷ rest) all like n = is_counted rest n (beginning_emission d w e) (begins_emission d texts w short peers e all.0.0 like.0)
  acts reply one (Emitting e [] ∷ rest) all like n = leaves_agenda n (ending d w e rest) (ends_emission d texts w short peers e all.0.1 rest)
  acts reply one (Emitting e (entry ∷ entries) ∷ rest) all like n = not_counted rest n (taking_entry d w e entries entry) (takes d texts w short peers e entries entry)
  acts reply one (Transferring number back ∷ rest) all like n = is_counted rest n (transferring d w number back) (carries_by d texts w short peers back (binding_of number w.bindings))
  acts reply one (Unsetting number ∷ rest) all like n = grows_not d w.transcript
  acts reply one (Thawing id slots ∷ rest) all like n = not_counted rest n (thawing w id slots) (thaws_rest d texts w short peers id slots)
  acts reply one (Running f ∷ rest) all like n = only_keeps (nat_lt n most_steps) arms.Steps (left (suc n) (running d w rest f)) Leads (leaves_agenda (suc n) (running d w rest f) (runs rest f))
  acts reply one (Answering source ∷ rest) all like n = tt
  acts reply one (Calling call ∷ rest) all like n = leaves_agenda n (calling_on d w call rest reply) (calls d texts w short peers call like.0.0 (all.0, like.0.1) rest reply one)
  acts reply one (Constructing id steps held ∷ rest) all like n = not_counted rest n (constructing d w id steps held) (constructs d texts w short peers id steps held)
  acts reply one (Building items ∷ rest) all like n = not_counted rest n (building d w items) (builds d texts w short peers items)
  acts reply one (Handling request ∷ rest) all like n = not_counted rest n (request_step d w request) (carries_request d texts w short peers request)
  acts reply one (Due source ∷ rest) all like n = not_counted rest n (sourcing d w source) (runs_source d texts w short peers source)

  finalises : (id : ℕ) → IfOk (finalising d w id) Starts
  unfolding finalising finalised
  finalises id = bind_keeps (finalised d w id) _ Starts (λ v is. kept_at Says (finalised d w id) v
      (bind_keeps (disposed d w id) _ Says (λ u at. grows_more d w.transcript u.transcript (kept_at Says (disposed d w id) u (disposed_kept d w peers id) at) (lines.final id) tt)) is)

pub steps_say_short_lines : StepsSayShortLines
steps_say_short_lines d texts c parts reply one next s = kept_at (λ (e : Config). Grows d c.world.transcript e.world.transcript) (step d reply c) next (by (next_unheld (mentions d c) c.world.objects)) s.leads
  where
    by : (o : Option ℕ) → IfOk (first_of d reply c o) (λ (e : Config). Grows d c.world.transcript e.world.transcript)
    by None = acts d texts c.world parts.values.0 parts.peers reply one c.agenda parts.values.1 parts.tasks c.counted
    by (Some id) = is_counted d texts c.world parts.values.0 parts.peers c.agenda c.counted (finalising d c.world id) (finalises d texts c.world parts.values.0 parts.peers id)
