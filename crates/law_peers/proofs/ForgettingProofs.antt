-- A step leads to the same where what peers count and keep is forgotten.
use Rattle.std.proofs.Common.{◌≡◌, refl, ap, sym, ◌∙◌, ℕ, suc, Bool, true, false, List, ◌∷◌, Option, None, Some, Ok, Err}
use Rattle.std.specs.Prelude.{map, nat_lt, option_map, slice_get}
use Rattle.ui_machine.specs.declared.arm.Arm.TheVariants as arms
use Rattle.ui_machine.specs.Definition.{Definition}
use Rattle.ui_machine.specs.Definition.Programs.{Block, Instruction}
use Rattle.ui_machine.specs.Definition.Programs as words
use Rattle.ui_machine.specs.Instructions.{in_front, instruction_step, running}
use Rattle.ui_machine.specs.Instructions.Jumps.{block_in, in_pass, past}
use Rattle.ui_machine.specs.Instructions.Objects.{creating, disposing}
use Rattle.ui_machine.specs.Instructions.Peers.{calling, calling_on}
use Rattle.ui_machine.specs.Outcome.{Answer, known, only_if, ◌>>=◌}
use Rattle.ui_machine.specs.Rules.Build.{building}
use Rattle.ui_machine.specs.Rules.Disposal.{finalised}
use Rattle.ui_machine.specs.State.Config.{Config, Left, Started, World}
use Rattle.ui_machine.specs.State.Peers.{Peer, Reply}
use Rattle.ui_machine.specs.State.References.{mentions, next_unheld}
use Rattle.ui_machine.specs.State.Tasks.{Building, Calling, Frame, Running, Task, Item, makes}
use Rattle.ui_machine.specs.Steps.{act, asked_after, asked_first, finalising, first_of, left, most_steps, step, uncounted}
use Rattle.machine_laws.specs.FrontLaws.{mapped}
use Rattle.law_peers.specs.Blind.{block_meets_peers, first_meets_peers, instruction_meets_peers, items_meet_peers, meets_peers, next_meets_peers, tasks_meet_peers, with_peers_at}
use Rattle.law_peers.specs.Forgetting.{QuestionForgets, StepForgets, forgotten, forgotten_at, forgotten_in, forgotten_question, forgotten_reply}
use Rattle.law_peers.proofs.BlindProofs.{step_is_blind}
use Rattle.law_peers.proofs.RunLives.{leaves_peers}
use Rattle.law_peers.proofs.ForgettingParts.{asks_of, builds_object, calls_of, calls_on, creates, disposes_of, finalises, remaining, started, through}

-- ** questions

first_asks : (w : World) (tasks : List Task) → asked_first (forgotten_in w) tasks ≡ option_map forgotten_question (asked_first w tasks)
first_asks w (Calling call ∷ rest) = asks_of w call
first_asks w _ = refl

asks_after : (c : Config) (id : Option ℕ) → asked_after (forgotten_at c) id ≡ option_map forgotten_question (asked_after c id)
asks_after c None = first_asks c.world c.agenda
asks_after c (Some id) = refl

pub question_forgets : QuestionForgets
question_forgets d c = asks_after c (next_unheld (mentions d c) c.world.objects)

-- ** steps that are about no peer

-- they take no reply
act_takes_none : (d : Definition) (w v : World) (r s : Option Reply) (tasks : List Task) (n : ℕ) → tasks_meet_peers d w tasks ≡ false → act d v r tasks n ≡ act d v s tasks n
act_takes_none d w v r s (Calling call ∷ rest) n none = absurd (cc)
act_takes_none d w v r s _ n none = refl

takes_none : (d : Definition) (c e : Config) (r s : Option Reply) (id : Option ℕ) → e.agenda ≡ c.agenda → first_meets_peers d c id ≡ false → first_of d r e id ≡ first_of d s e id
takes_none d c e r s None same none =
    ap (λ tasks. act d e.world r tasks e.counted) same ∙ (act_takes_none d c.world e.world r s c.agenda e.counted none ∙ ap (λ tasks. act d e.world s tasks e.counted) (sym same))
takes_none d c e r s (Some id) same none = refl

blind_step : (d : Definition) (reply : Option Reply) (c : Config) → meets_peers d c ≡ false → step d (option_map forgotten_reply reply) (forgotten_at c) ≡ mapped forgotten_at (step d reply c)
blind_step d reply c none =
    takes_none d c (forgotten_at c) (option_map forgotten_reply reply) reply (next_unheld (mentions d c) c.world.objects) refl none
    ∙ (step_is_blind d reply c (map forgotten c.world.peers) none ∙ by (step d reply c) refl)
  where
    by : (a : Answer Config) → step d reply c ≡ a → mapped (with_peers_at (map forgotten c.world.peers)) a ≡ mapped forgotten_at a
    by (Err arm) e = refl
    by (Ok new) e = ap (λ (peers : List Peer). Ok (with_peers_at (map forgotten peers) new)) (sym (leaves_peers d reply c new none e).0)

-- ** steps that are

module _ (d : Definition) where
  in_front_same : (rest : List Task) (a b : Answer Started) → a ≡ mapped started b → in_front rest a ≡ mapped remaining (in_front rest b)
  unfolding in_front
  in_front_same rest a b same = through started remaining a b _ _ same (λ s. refl)

  instruction_met : (w v : World) (rest : List Task) (f : Frame) (i : Instruction) → instruction_meets_peers d v f i ≡ true →
      instruction_step d (forgotten_in w) rest f i ≡ mapped remaining (instruction_step d w rest f i)
  instruction_met w v rest f (words.new to id) met = in_front_same rest (creating d (forgotten_in w) rest f to id) (creating d w rest f to id) (creates d w rest f to id)
  instruction_met w v rest f (words.dispose object) met = in_front_same rest (disposing d (forgotten_in w) f object) (disposing d w f object) (disposes_of d w f object)
  instruction_met w v rest f (words.call to object name args) met =
      in_front_same rest (calling d (forgotten_in w) f to object name args) (calling d w f to object name args) (calls_of d w f to object name args)
  instruction_met w v rest f _ met = absurd (cc)

  program_met : (w : World) (rest : List Task) (f : Frame) → block_meets_peers d w f (block_in d f) ≡ true → running d (forgotten_in w) rest f ≡ mapped remaining (running d w rest f)
  unfolding running
  program_met w rest f met = by_block (block_in d f) met
    where
      next : World → Frame → Option Instruction → Answer Left
      next v g o = known arms.Code o >>= λ (i : Instruction). instruction_step d v rest g i

      by_next : (g : Frame) (o : Option Instruction) → next_meets_peers d w g o ≡ true → next (forgotten_in w) g o ≡ mapped remaining (next w g o)
      by_next g None m = refl
      by_next g (Some i) m = instruction_met w w rest g i m

      at : World → Answer Block → Answer Left
      at v block = block >>= λ (b : Block). next v (past (in_pass b f)) (slice_get b.code (in_pass b f).at)

      by_block : (block : Answer Block) → block_meets_peers d w f block ≡ true → at (forgotten_in w) block ≡ mapped remaining (at w block)
      by_block (Err arm) m = refl
      by_block (Ok b) m = by_next (past (in_pass b f)) (slice_get b.code (in_pass b f).at) m

  items_met : (w : World) (items : List Item) → items_meet_peers d items ≡ true → building d (forgotten_in w) items ≡ mapped started (building d w items)
  items_met w (makes place ∷ items) met = builds_object d w place items
  items_met w _ met = absurd (cc)

  not_counted : (rest : List Task) (n : ℕ) (a b : Answer Started) → a ≡ mapped started b → uncounted rest n a ≡ mapped forgotten_at (uncounted rest n b)
  not_counted rest n a b same = through started forgotten_at a b _ _ same (λ s. refl)

  leaves_agenda : (n : ℕ) (a b : Answer Left) → a ≡ mapped remaining b → left n a ≡ mapped forgotten_at (left n b)
  unfolding left
  leaves_agenda n a b same = through remaining forgotten_at a b _ _ same (λ l. refl)

  within : (b : Bool) (x y : Answer Config) → x ≡ mapped forgotten_at y → only_if b arms.Steps x ≡ mapped forgotten_at (only_if b arms.Steps y)
  within true x y same = same
  within false x y same = refl

  is_finalised : (w : World) (id : ℕ) → finalising d (forgotten_in w) id ≡ mapped started (finalising d w id)
  unfolding finalising
  is_finalised w id = through forgotten_in started (finalised d (forgotten_in w) id) (finalised d w id) _ _ (finalises d w id) (λ v. refl)

  tasks_met : (w : World) (reply : Option Reply) (tasks : List Task) (n : ℕ) → tasks_meet_peers d w tasks ≡ true →
      act d (forgotten_in w) (option_map forgotten_reply reply) tasks n ≡ mapped forgotten_at (act d w reply tasks n)
  tasks_met w reply (Running f ∷ rest) n met =
      within (nat_lt n most_steps) (left (suc n) (running d (forgotten_in w) rest f)) (left (suc n) (running d w rest f))
      (leaves_agenda (suc n) (running d (forgotten_in w) rest f) (running d w rest f) (program_met w rest f met))
  tasks_met w reply (Calling call ∷ rest) n met =
      leaves_agenda n (calling_on d (forgotten_in w) call rest (option_map forgotten_reply reply)) (calling_on d w call rest reply) (calls_on d w call rest reply)
  tasks_met w reply (Building items ∷ rest) n met = not_counted rest n (building d (forgotten_in w) items) (building d w items) (items_met w items met)
  tasks_met w reply _ n met = absurd (cc)

  first_met : (reply : Option Reply) (c : Config) (id : Option ℕ) → first_meets_peers d c id ≡ true →
      first_of d (option_map forgotten_reply reply) (forgotten_at c) id ≡ mapped forgotten_at (first_of d reply c id)
  first_met reply c None met = tasks_met c.world reply c.agenda c.counted met
  first_met reply c (Some id) met =
      within (nat_lt c.counted most_steps) (uncounted c.agenda (suc c.counted) (finalising d (forgotten_in c.world) id)) (uncounted c.agenda (suc c.counted) (finalising d c.world id))
      (not_counted c.agenda (suc c.counted) (finalising d (forgotten_in c.world) id) (finalising d c.world id) (is_finalised c.world id))

pub step_forgets : StepForgets
step_forgets d reply c = by (meets_peers d c) refl
  where
    by : (b : Bool) → meets_peers d c ≡ b → step d (option_map forgotten_reply reply) (forgotten_at c) ≡ mapped forgotten_at (step d reply c)
    by true met = first_met d reply c (next_unheld (mentions d c) c.world.objects) met
    by false none = blind_step d reply c none
