-- An instruction leaves a seated agenda.
use Rattle.std.proofs.Common.{◌≡◌, ap, sym, ◌∙◌, ℕ, Bool, true, false, cond, List, [], ◌∷◌, ◌++◌, Option, None, Some, Ok, Err}
use Rattle.std.specs.Prelude.{IfOk, length, nat_lt, slice_get}
use Rattle.ui_machine.specs.declared.arm.Arm.TheVariants as arms
use Rattle.ui_machine.specs.Definition.{Definition}
use Rattle.ui_machine.specs.Definition.Places.{Place}
use Rattle.ui_machine.specs.Definition.Programs.{Arithmetic, Comparison, Connect, Instruction}
use Rattle.ui_machine.specs.Definition.Programs as words
use Rattle.ui_machine.specs.Definition.Signals.{Signal}
use Rattle.ui_machine.specs.Definition.Values.{Value}
use Rattle.ui_machine.specs.Instructions.{in_front, instruction_step, running}
use Rattle.ui_machine.specs.Instructions.Arithmetic.{conjunction, comparing, converting, disjunction, joining, negating, reckoning, sameness}
use Rattle.ui_machine.specs.Instructions.Jumps.{block_in, branching, branching_null, in_pass, jumping, past, returned, returning}
use Rattle.ui_machine.specs.Instructions.Objects.{adopting, creating, disposing, freezing, made_new, look_up_object, orphaning, sinking, thaw_notify}
use Rattle.ui_machine.specs.Instructions.Peers.{calling}
use Rattle.ui_machine.specs.Instructions.Properties.{set_property, get_property, set_from, notify_from_program, then_goes_on}
use Rattle.ui_machine.specs.Instructions.Registers.{goes_on, moving, operand_in, values_in, with_register, written_to}
use Rattle.ui_machine.specs.Instructions.Signals.{connecting, emitting, on_handlers}
use Rattle.ui_machine.specs.Instructions.Sources.{attaching, removing}
use Rattle.ui_machine.specs.Outcome.{Answer, known, only_if}
use Rattle.ui_machine.specs.Rules.Accumulation.{collected, collecting, down_to_emission, down_to_source, entries_after, given_down, is_last, suits}
use Rattle.ui_machine.specs.Rules.Construction.{making, peer_to_take}
use Rattle.ui_machine.specs.Rules.EmissionPlan.{signal_at}
use Rattle.ui_machine.specs.Rules.MainLoop.{kept_source}
use Rattle.ui_machine.specs.Rules.Programs.{all_fit}
use Rattle.ui_machine.specs.Rules.Sets.{raising}
use Rattle.ui_machine.specs.Rules.Transform.{kind_fits}
use Rattle.ui_machine.specs.State.Config.{Left, Started, World, peer_at}
use Rattle.ui_machine.specs.State.Objects.{Object, class_in, living, object_at}
use Rattle.ui_machine.specs.State.Peers.{method_number, method_of}
use Rattle.ui_machine.specs.State.Tasks.{Answering, Calling, Emission, Emitting, Frame, PlanEntry, Running, Task}
use Rattle.machine_laws.proofs.KeptProofs.{bind_keeps, cond_keeps, kept_at, only_keeps}
use Rattle.law_runs.specs.Stacks.{LieBelow}
use Rattle.law_runs.proofs.StartProofs.{begins_constructing, raises, stopped_lie}
use Rattle.law_runs.proofs.KinProofs.{was_made}
use Rattle.law_held_peers.proofs.Changes.{known_is}
use Rattle.law_held_peers.proofs.OwnProofs.{Owns}
use Rattle.law_held_peers.proofs.Seats.{IsSeated, are_seated}

-- ** what comes down

module _ (d : Definition) (w : World) where
  -- an emission that has taken what its program gave lies as before
  collects : (e : Emission) (entries : List PlanEntry) (rest : List Task) → LieBelow rest → (given : Option Value) → IfOk (collecting d w e entries given) (λ t. IsSeated w (t ∷ rest))
  unfolding collecting
  collects e entries rest low given = bind_keeps (object_at w.objects e.object) _ _ (λ o _. bind_keeps (signal_at d o.class e.signal) _ _ (λ s _.
      only_keeps (suits (kind_fits (class_in w.objects) d.types) given s.result) arms.Result _ _ (by s given)))
    where
      by : (s : Signal) (given : Option Value) → IsSeated w (collected s e entries given ∷ rest)
      by s None = low
      by s (Some v) = cleaned e.cleanup
        where
          cleaned : (b : Bool) → IsSeated w (cond b (Emitting e entries) (Emitting (record e { value = Some v }) (entries_after (is_last s.accumulator v) e entries)) ∷ rest)
          cleaned true = low
          cleaned false = low

  to_emission : (e : Emission) (entries : List PlanEntry) (rest : List Task) → LieBelow rest → (given : Option Value) → IfOk (down_to_emission d w e entries rest given) (λ l. IsSeated w l.agenda)
  unfolding down_to_emission
  to_emission e entries rest low given = bind_keeps (collecting d w e entries given) _ _ (λ t is.
      kept_at (λ (t : Task). IsSeated w (t ∷ rest)) (collecting d w e entries given) t (collects e entries rest low given) is)

  to_source : (source : ℕ) (rest : List Task) → LieBelow rest → (given : Option Value) → IfOk (down_to_source w source rest given) (λ l. IsSeated w l.agenda)
  unfolding down_to_source
  to_source source rest low given = bind_keeps (kept_source w source given) _ _ (λ kept _. are_seated w rest low)

  -- a program's result comes down to what lies below it
  comes_down : (rest : List Task) → LieBelow rest → (given : Option Value) → IfOk (given_down d w rest given) (λ l. IsSeated w l.agenda)
  comes_down (Emitting e entries ∷ rest) low given = to_emission e entries rest low given
  comes_down (Answering source ∷ rest) low given = to_source source rest low.1 given
  comes_down rest low None = are_seated w rest low
  comes_down rest low (Some v) = tt

module _ (d : Definition) (w : World) (rest : List Task) (low : LieBelow rest) where
  -- ** what an instruction starts

  -- what it starts is seated on the rest
  abbrev Stacks : Started → Type 0
  Stacks s = IsSeated w (s.tasks ++ rest)

  -- a register is written
  writes : (v : World) (to : ℕ) (x : Option Value) (f : Frame) → IfOk (written_to v to x f) Stacks
  unfolding written_to
  writes v to x f = bind_keeps (with_register to x f.registers) _ Stacks (λ r _. low)

  -- tasks lie on the frame, which goes on
  abbrev OnFrame : Frame → List Task → Type 0
  OnFrame f tasks = IsSeated w ((tasks ++ Running f ∷ []) ++ rest)

  goes_on_raising : (f : Frame) (id slot : ℕ) → IfOk (then_goes_on f (raising w id slot)) Stacks
  unfolding then_goes_on
  goes_on_raising f id slot = bind_keeps (raising w id slot) _ Stacks (λ s is. kept_at (λ (s : Started). OnFrame f s.tasks) (raising w id slot) s (raises (OnFrame f) w id slot low low) is)

  makes_new : (f : Frame) (to place : ℕ) (p : Place) → IfOk (made_new d w f to place p) Stacks
  unfolding made_new
  makes_new f to place p = bind_keeps (making d w place (peer_to_take d w p) false) _ Stacks (λ made is. bind_keeps (with_register to _ f.registers) _ Stacks (λ r _.
      kept_at (λ (s : Started). OnFrame (record f { registers = r }) s.tasks) (making d w place (peer_to_take d w p) false) made
      (begins_constructing (OnFrame (record f { registers = r })) d w (λ id steps held. (tt, low)) place (peer_to_take d w p) false) is))

  -- ** what an instruction leaves

  -- the whole agenda is seated
  abbrev Leaves : Left → Type 0
  Leaves l = IsSeated w l.agenda

  begins : (a : Answer Started) → IfOk a Stacks → IfOk (in_front rest a) Leaves
  unfolding in_front
  begins (Ok s) seated = seated
  begins (Err arm) seated = tt

  returns : (f : Frame) (from : Option ℕ) → IfOk (returning d w f rest from) Leaves
  unfolding returning
  returns f from = bind_keeps (returned d w f from) _ Leaves (λ given _. comes_down d w rest low given)

  -- an object that lives has its peer
  owned : (id number : ℕ) (o : Object) → living w.objects id ≡ Some o → o.peer ≡ Some number → Owns id number w.objects
  owned id number o there has = record {
    made = was_made w.objects id o there;
    peer = λ x is. let e : ◌≡◌ {A = Option Object} (Some x) (Some o) = sym is ∙ there in let one : x ≡ o = cc e in ap (λ (y : Object). y.peer) one ∙ has;
  }

  calls_of : (f : Frame) (to object : ℕ) (name args : List ℕ) → IfOk (calling d w f to object name args) Stacks
  unfolding calling
  calls_of f to object name args = bind_keeps (operand_in w f object) _ Stacks (λ id _. bind_keeps (object_at w.objects id) _ Stacks (λ o there.
      bind_keeps (known arms.Call o.peer) _ Stacks (λ peer has. bind_keeps (known arms.Call (peer_at w peer)) _ Stacks (λ p _.
      bind_keeps (known arms.Call (method_number p name)) _ Stacks (λ number _. bind_keeps (known arms.Call (method_of p number)) _ Stacks (λ m _.
      bind_keeps (values_in f args) _ Stacks (λ given _.
      let begun : Answer Started = goes_on w (Calling (record { object = id; peer = peer; method = number; args = given; to = to }) ∷ []) f in
      only_keeps (all_fit (kind_fits (class_in w.objects) d.types) given m.params) arms.Call (only_if (nat_lt to (length f.registers)) arms.Code begun) Stacks
      (only_keeps (nat_lt to (length f.registers)) arms.Code begun Stacks
      (owned id peer o (known_is arms.Operand (living w.objects id) o there) (known_is arms.Call o.peer peer has), low)))))))))

  ruleset walk = (bind_keeps, only_keeps, cond_keeps, begins, writes, goes_on_raising, makes_new)

  -- `stop` changes the rest and `return` gives it a result; each other instruction goes on with its frame, perhaps below one task that it starts
  instructed : (f : Frame) (i : Instruction) → IfOk (instruction_step d w rest f i) Leaves
  unfolding moving reckoning comparing sameness negating conjunction disjunction joining converting get_property set_from set_property notify_from_program look_up_object creating sinking orphaning disposing adopting freezing thaw_notify emitting connecting on_handlers attaching removing calling jumping branching branching_null
  instructed f words.stop = stopped_lie rest low
  instructed f (words.return from) = returns f from
  instructed f (words.call to object name args) = begins (calling d w f to object name args) (calls_of f to object name args)
  instructed f i = search walk depth 12

  -- a program that takes its next instruction leaves a seated agenda
  pub runs_seated : (f : Frame) → IfOk (running d w rest f) Leaves
  unfolding running
  runs_seated f = bind_keeps (block_in d f) _ Leaves (λ b _. bind_keeps (known arms.Code (slice_get b.code (in_pass b f).at)) _ Leaves (λ i _. instructed (past (in_pass b f)) i))
