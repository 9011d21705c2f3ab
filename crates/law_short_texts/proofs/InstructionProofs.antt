-- An instruction keeps all values short.
use Rattle.std.proofs.Common.{◌≡◌, refl, ℕ, suc, ◌-◌, Bool, true, false, cond, not, List, [], ◌∷◌, ◌++◌, Option, None, Some, Ok, Err}
use Rattle.std.specs.List.{list_all}
use Rattle.std.specs.Prelude.{IfOk, IfSome, codes, length, nat_eq, nat_lt, reverse, slice_get}
use Rattle.std.proofs.lemmas.Bool.{ltb-false}
use Rattle.ui_machine.specs.declared.arm.Arm.TheVariants as arms
use Rattle.ui_machine.specs.Definition.{Definition}
use Rattle.ui_machine.specs.Definition.Kinds.{Kind}
use Rattle.ui_machine.specs.Definition.Lookups.{class_of, place_at, place_of, program_at, program_of, specs_of, type_of}
use Rattle.ui_machine.specs.Definition.Places.{Given, GivenProperty, Place, named, value}
use Rattle.ui_machine.specs.Definition.Properties.{Spec, is_construct_only, is_readable, is_writable}
use Rattle.ui_machine.specs.Definition.Programs.{Arithmetic, Block, Comparison, Connect, Instruction, Program}
use Rattle.ui_machine.specs.Definition.Programs as words
use Rattle.ui_machine.specs.Definition.Signals.{Signal}
use Rattle.ui_machine.specs.Definition.Values.{Value}
use Rattle.ui_machine.specs.Definition.Values as values
use Rattle.ui_machine.specs.Instructions.{in_front, instruction_step, running}
use Rattle.ui_machine.specs.Instructions.Arithmetic.{bytes_of, conjunction, comparing, converting, disjunction, gives_from, joining, kind_of, most_bytes, negating, reckoning, sameness, within_bytes}
use Rattle.ui_machine.specs.Instructions.Jumps.{block_in, branching, branching_null, in_pass, is_again, jumping, null_of, past, returned, returning}
use Rattle.ui_machine.specs.Instructions.Objects.{adopting, creating, disposed_once, disposing, freezing, has_room_for_object, made_new, look_up_object, or_null, orphaning, sinking, thaw_notify}
use Rattle.ui_machine.specs.Instructions.Peers.{calling}
use Rattle.ui_machine.specs.Instructions.Properties.{set_property, get_property, set_from, slot_at, notify_from_program, then_goes_on}
use Rattle.ui_machine.specs.Instructions.Registers.{clearing, constant, data_in, goes_on, moving, operand_in, tells, text_in, truth_in, value_in, values_in, whole_in, with_register, written_to}
use Rattle.ui_machine.specs.Instructions.Signals.{Emit, blocking, connecting, connection_by_code, disconnecting, emitting, on_handlers, signal_in, signal_to_emit, unbinding, unblocking}
use Rattle.ui_machine.specs.Instructions.Sources.{Attach, attaching, removing, with_source}
use Rattle.ui_machine.specs.Outcome.{After, Answer, known, only_if}
use Rattle.ui_machine.specs.Output.Lines as lines
use Rattle.ui_machine.specs.Rules.Accumulation.{collected, collecting, down_to_emission, down_to_source, entries_after, given_down, is_last, or_zero, stopped, suits}
use Rattle.ui_machine.specs.Rules.Ancestry.{lineage}
use Rattle.ui_machine.specs.Rules.Children.{adopted, is_unadoptable, orphaned, with_family}
use Rattle.ui_machine.specs.Rules.Connections.{Connection, blocked, connected, detail_in, disconnected, has_room_for_handler, is_too_late, unblocked, with_handler, with_handlers_on}
use Rattle.ui_machine.specs.Rules.Construction.{construct_sets, constructed_runs, construction, given_at, given_sets, given_value, has_valid_default, is_at_construction, is_forward, making, new_object, no_spec, not_forward, object_held, or_default, peer_to_take, run_of, set_of, with_object}
use Rattle.ui_machine.specs.Rules.Disposal.{closing, disposed, is_first, peer_of, said_if, without_object}
use Rattle.ui_machine.specs.Rules.EmissionPlan.{signal_at}
use Rattle.ui_machine.specs.Rules.NotifyQueue.{frozen_less, frozen_more, raised}
use Rattle.ui_machine.specs.Rules.Programs.{all_fit}
use Rattle.ui_machine.specs.Rules.Sets.{is_disposed, raising, spec_at}
use Rattle.ui_machine.specs.Rules.Transform.{kind_fits, transformed}
use Rattle.ui_machine.specs.Runs.{IsShort}
use Rattle.ui_machine.specs.Seq.{read, write}
use Rattle.ui_machine.specs.State.Bindings.{is_binding}
use Rattle.ui_machine.specs.State.Config.{BuilderEntry, Started, World, built, builder_entry, peer_at, released, said, starts, unbuilt}
use Rattle.ui_machine.specs.State.Objects.{asked, changed, class_in, living, object_at, value_at}
use Rattle.ui_machine.specs.State.Peers.{Peer, closed_peer, method_number, method_of, no_peer}
use Rattle.ui_machine.specs.State.Sources as sources
use Rattle.ui_machine.specs.State.Tasks.{Answering, Calling, ConstructStep, Constructing, Emission, Emitting, Frame, Notifying, PlanEntry, Running, Task}
use Rattle.ui_machine.specs.State.Tasks as config
use Rattle.machine_laws.proofs.KeptProofs.{bind_keeps, cond_keeps, only_keeps}
use Rattle.law_typing.specs.Verdict.Accepted.{Each}
use Rattle.law_typing.proofs.Lists.{each_append, each_flat}
use Rattle.law_short_texts.specs.ShortValues.{HasShortConstant, HasShortTexts, IsShortGiven, IsShortStep, IsShortTask, IsShortWorld}
use Rattle.law_short_texts.proofs.Entries.{bind_with, each_cond, each_get, known_with}
use Rattle.law_short_texts.proofs.ValueProofs.{or_zero_short, transformed_short}
use Rattle.law_short_texts.proofs.ObjectProofs.{AreShortObjects, HasShortDefault, asked_short, changed_short, disposed_short, family_short, less_short, made_short, more_short, orphan_short, raised_short, specs_short}
use Rattle.law_short_texts.proofs.RegisterProofs.{IsShortFrame, IsShortRegister, LeavesShort, StartsShort, given_short, register_short, value_in_short, values_in_short, written_short}

-- ** what comes down

module _ (d : Definition) (w : World) (short : IsShortWorld w) where
  collects : (e : Emission) (entries : List PlanEntry) → IsShortTask (Emitting e entries) → (given : Option Value) → IfSome given IsShort
      → IfOk (collecting d w e entries given) IsShortTask
  unfolding collecting
  collects e entries own given one = bind_keeps (object_at w.objects e.object) _ IsShortTask (λ o _. bind_keeps (signal_at d o.class e.signal) _ IsShortTask (λ s _.
      only_keeps (suits (kind_fits (class_in w.objects) d.types) given s.result) arms.Result _ IsShortTask (by s given one)))
    where
      by : (s : Signal) (given : Option Value) → IfSome given IsShort → IsShortTask (collected s e entries given)
      by s None one = own
      by s (Some v) one = cleaned e.cleanup
        where
          cleaned : (b : Bool) → IsShortTask (cond b (Emitting e entries) (Emitting (record e { value = Some v }) (entries_after (is_last s.accumulator v) e entries)))
          cleaned true = own
          cleaned false = (own.0, one)

  to_emission : (e : Emission) (entries : List PlanEntry) → IsShortTask (Emitting e entries) → (rest : List Task) → Each IsShortTask rest → (given : Option Value)
      → IfSome given IsShort → IfOk (down_to_emission d w e entries rest given) LeavesShort
  unfolding down_to_emission
  to_emission e entries own rest below given one =
      bind_with (collecting d w e entries given) _ IsShortTask LeavesShort (collects e entries own given one) (λ task now. (short, (now, below)))

  to_source : (source : ℕ) (rest : List Task) → Each IsShortTask rest → (given : Option Value) → IfOk (down_to_source w source rest given) LeavesShort
  unfolding down_to_source
  to_source source rest below (Some (values.bool keep)) = (short, below)
  to_source source rest below None = tt
  to_source source rest below (Some (values.whole kind n)) = tt
  to_source source rest below (Some (values.text s)) = tt
  to_source source rest below (Some (values.enum type n)) = tt
  to_source source rest below (Some (values.flags type bits)) = tt
  to_source source rest below (Some (values.object o)) = tt

  comes_down : (rest : List Task) → Each IsShortTask rest → (given : Option Value) → IfSome given IsShort → IfOk (given_down d w rest given) LeavesShort
  comes_down (Emitting e entries ∷ rest) below given one = to_emission e entries below.0 rest below.1 given one
  comes_down (Answering source ∷ rest) below given one = to_source source rest below.1 given
  comes_down rest below None one = (short, below)
  comes_down rest below (Some v) one = tt

-- ** constructions

held_short : (h : BuilderEntry) → IfSome (object_held h) IsShort
held_short unbuilt = tt
held_short (built id) = tt
held_short released = tt

pub given_value_short : (w : World) (g : Given) → IsShortGiven g → IfSome (given_value w g) IsShort
given_value_short w (value v) short = short
given_value_short w (named to) short = held_short (builder_entry w to)

abbrev AreShortGiven : List GivenProperty → Type 0
AreShortGiven gs = Each (λ (g : GivenProperty). IsShortGiven g.given) gs

filtered : (place : ℕ) (gs : List GivenProperty) → AreShortGiven gs → AreShortGiven (not_forward place gs)
filtered place [] short = tt
filtered place (g ∷ gs) short = by (not (is_forward place g.given)) (filtered place gs short.1)
  where
    by : (b : Bool) → AreShortGiven (not_forward place gs) → AreShortGiven (cond b (g ∷ not_forward place gs) (not_forward place gs))
    by true more = (short.0, more)
    by false more = more

given_at_short : (w : World) (gs : List GivenProperty) → AreShortGiven gs → (slot : ℕ) → IfSome (given_at w gs slot) IsShort
given_at_short w [] short slot = tt
given_at_short w (g ∷ gs) short slot = by (nat_eq g.slot slot) (given_at_short w gs short.1 slot)
  where
    by : (b : Bool) → IfSome (given_at w gs slot) IsShort → IfSome (cond b (given_value w g.given) (given_at w gs slot)) IsShort
    by true more = given_value_short w g.given short.0
    by false more = more

or_default_short : (o : Option Value) (v : Value) → IfSome o IsShort → IsShort v → IsShort (or_default o v)
or_default_short None v given default = default
or_default_short (Some given_one) v given default = given

construct_sets_short : (w : World) (gs : List GivenProperty) → AreShortGiven gs → (slot : ℕ) (specs : List Spec) → Each HasShortDefault specs
    → Each IsShortStep (construct_sets w gs slot specs)
construct_sets_short w gs given slot [] defaults = tt
construct_sets_short w gs given slot (s ∷ specs) defaults =
    each_append IsShortStep (cond (is_at_construction s) (config.sets slot (or_default (given_at w gs slot) s.default) ∷ []) []) (construct_sets w gs (suc slot) specs)
    (each_cond IsShortStep (is_at_construction s) (config.sets slot (or_default (given_at w gs slot) s.default) ∷ []) []
    (or_default_short (given_at w gs slot) s.default (given_at_short w gs given slot) defaults.0, tt) tt)
    (construct_sets_short w gs given (suc slot) specs defaults.1)

set_of_short : (o : Option Value) (slot : ℕ) → IfSome o IsShort → Each IsShortStep (set_of o slot)
set_of_short None slot short = tt
set_of_short (Some v) slot short = (short, tt)

given_sets_short : (w : World) (specs : List Spec) (gs : List GivenProperty) → AreShortGiven gs → Each IsShortStep (given_sets w specs gs)
given_sets_short w specs [] short = tt
given_sets_short w specs (g ∷ gs) short =
    each_append IsShortStep (cond (is_at_construction (read no_spec specs g.slot)) [] (set_of (given_value w g.given) g.slot)) (given_sets w specs gs)
    (each_cond IsShortStep (is_at_construction (read no_spec specs g.slot)) [] (set_of (given_value w g.given) g.slot) tt
    (set_of_short (given_value w g.given) g.slot (given_value_short w g.given short.0)))
    (given_sets_short w specs gs short.1)

run_short : (o : Option ℕ) → Each IsShortStep (run_of o)
run_short None = tt
run_short (Some program) = (tt, tt)

module _ (d : Definition) (texts : HasShortTexts d) where
  construction_short : (w : World) (place : ℕ) (p : Place) → AreShortGiven p.given → Each IsShortStep (construction d w place p)
  construction_short w place p given =
      let some : AreShortGiven (not_forward place p.given) = filtered place p.given given in
      let runs : Each IsShortStep (constructed_runs d p.class) =
      each_flat IsShortStep (λ c. run_of (class_of d c).constructed) (reverse (lineage d.types p.class)) (λ c _. run_short (class_of d c).constructed) in
      each_append IsShortStep (construct_sets w (not_forward place p.given) 0 (specs_of d p.class)) _
      (construct_sets_short w (not_forward place p.given) some 0 (specs_of d p.class) (specs_short d texts p.class))
      (each_append IsShortStep (constructed_runs d p.class) _ runs
      (each_append IsShortStep (given_sets w (specs_of d p.class) (not_forward place p.given)) (config.thaws ∷ [])
      (given_sets_short w (specs_of d p.class) (not_forward place p.given) some) (tt, tt)))

  pub makes_short : (w : World) → IsShortWorld w → (place : ℕ) (peer : Option ℕ) (held : Bool) → IfOk (making d w place peer held) StartsShort
  unfolding making
  makes_short w short place peer held =
      bind_with (known arms.Code (place_at d place)) _ (λ (p : Place). AreShortGiven p.given) StartsShort
      (known_with arms.Code (place_at d place) (λ (p : Place). AreShortGiven p.given) (each_get (λ (p : Place). AreShortGiven p.given) d.places texts.given place)) (λ p given.
      only_keeps (not (type_of d p.class).is_abstract) arms.Abstract (only_if (list_all (has_valid_default d) (specs_of d p.class)) arms.Value (begun p)) StartsShort
      (only_keeps (list_all (has_valid_default d) (specs_of d p.class)) arms.Value (begun p) StartsShort
      ((made_short d texts w.objects short.0 place p peer, short.1), (construction_short w place p given, tt))))
    where
      begun : Place → Answer Started
      begun p = starts (said d (with_object d w (new_object d place p peer)) (lines.construct (suc (length w.objects)) (type_of d p.class).name))
          (Constructing (suc (length w.objects)) (construction d w place p) held ∷ [])

-- ** changes of a world

module _ (d : Definition) (w : World) (short : IsShortWorld w) where
  -- a notification is raised
  pub raises_short : (id slot : ℕ) → IfOk (raising w id slot) StartsShort
  unfolding raising
  raises_short id slot = bind_with (changed w.objects id (raised slot)) _ (λ a. AreShortObjects a.state) StartsShort
      (changed_short w.objects short.0 id (raised slot) (raised_short slot)) (λ r now.
      ((now, short.1), each_cond IsShortTask r.answer (Notifying id slot ∷ []) [] (tt, tt) tt))

  closes : (v : World) → IsShortWorld v → (peer : Option ℕ) → IfOk (closing d peer v) IsShortWorld
  unfolding closing
  closes v kept None = kept
  closes v kept (Some number) = bind_keeps (known arms.Code (slice_get v.peers number)) _ IsShortWorld (λ p _. shut p p.state.is_open)
    where
      shut : (p : Peer) (b : Bool) → IsShortWorld (cond b (said d (record v { peers = write no_peer v.peers number (closed_peer p) }) (lines.close p.name)) v)
      shut p true = kept
      shut p false = kept

  goes : (id : ℕ) (first : Bool) → IsShortWorld (said_if d first (without_object d w id) (lines.dispose id))
  goes id true = (disposed_short d id w.objects short.0, short.1)
  goes id false = (disposed_short d id w.objects short.0, short.1)

  pub disposes_short : (id : ℕ) → IfOk (disposed d w id) IsShortWorld
  disposes_short id = closes _ (goes id (is_first (living w.objects id))) (peer_of (living w.objects id))

  pub adopts_short : (p c : ℕ) → IfOk (adopted d w p c) (λ r. IsShortWorld r.state)
  unfolding adopted
  adopts_short p c = bind_keeps (object_at w.objects p) _ Family (λ o _. bind_keeps (object_at w.objects c) _ Family (λ i _. by (is_unadoptable p o c i)))
    where
      Family : After World Bool → Type 0
      Family = λ r. IsShortWorld r.state

      by : (b : Bool) → Family (cond b (record { state = said d w (lines.limit (codes "adopt")); answer = false }) (record { state = with_family d w p c; answer = true }))
      by true = short
      by false = (family_short w.objects short.0 p c, short.1)

-- ** instructions

module _ (d : Definition) (texts : HasShortTexts d) (w : World) (short : IsShortWorld w) (f : Frame) (frame : IsShortFrame f) where
  -- a register is written
  writes : (to : ℕ) (x : Option Value) → IfSome x IsShort → IfOk (written_to w to x f) StartsShort
  writes to x one = written_short w short to x one f frame

  -- the program goes on
  on : IfOk (goes_on w [] f) StartsShort
  on = (short, (frame, tt))

  moves : (to from : ℕ) → IfOk (moving w f to from) StartsShort
  unfolding moving
  moves to from = bind_with (value_in f from) _ IsShort StartsShort (value_in_short f frame from) (λ v one. writes to (Some v) one)

  reckons : (op : Arithmetic) (to a b : ℕ) → IfOk (reckoning w f op to a b) StartsShort
  unfolding reckoning
  reckons op to a b = bind_keeps (whole_in f a) _ StartsShort (λ m _. bind_keeps (whole_in f b) _ StartsShort (λ n _. only_keeps _ _ _ StartsShort (writes to _ tt)))

  compares : (op : Comparison) (to a b : ℕ) → IfOk (comparing w f op to a b) StartsShort
  unfolding comparing
  compares op to a b = bind_keeps (whole_in f a) _ StartsShort (λ m _. bind_keeps (whole_in f b) _ StartsShort (λ n _. only_keeps _ _ _ StartsShort (writes to _ tt)))

  sames : (to a b : ℕ) → IfOk (sameness w f to a b) StartsShort
  unfolding sameness
  sames to a b = bind_keeps (value_in f a) _ StartsShort (λ u _. bind_keeps (value_in f b) _ StartsShort (λ v _. only_keeps _ _ _ StartsShort (writes to _ tt)))

  negates : (to a : ℕ) → IfOk (negating w f to a) StartsShort
  unfolding negating
  negates to a = bind_keeps (truth_in f a) _ StartsShort (λ p _. writes to _ tt)

  both : (to a b : ℕ) → IfOk (conjunction w f to a b) StartsShort
  unfolding conjunction
  both to a b = bind_keeps (truth_in f a) _ StartsShort (λ p _. bind_keeps (truth_in f b) _ StartsShort (λ q _. writes to _ tt))

  either : (to a b : ℕ) → IfOk (disjunction w f to a b) StartsShort
  unfolding disjunction
  either to a b = bind_keeps (truth_in f a) _ StartsShort (λ p _. bind_keeps (truth_in f b) _ StartsShort (λ q _. writes to _ tt))

  -- a join that would be too long gives null
  joins : (to a b : ℕ) → IfOk (joining d w f to a b) StartsShort
  unfolding joining
  joins to a b = bind_keeps (text_in f a) _ StartsShort (λ s _. bind_keeps (text_in f b) _ StartsShort (λ t _. by (bytes_of s ++ bytes_of t)))
    where
      by : (s : List ℕ) → IfOk (gives_from (within_bytes d w s) to f) StartsShort
      by s = long (nat_lt most_bytes (length s)) refl
        where
          long : (b : Bool) → nat_lt most_bytes (length s) ≡ b
              → IfOk (gives_from (cond b (record { state = said d w (lines.limit (codes "join")); answer = values.text None }) (record { state = w; answer = values.text (Some s) })) to f) StartsShort
          long true e = written_short (said d w (lines.limit (codes "join"))) short to (Some (values.text None)) tt f frame
          long false e = writes to (Some (values.text (Some s))) (ltb-false most_bytes (length s) e)

  converts : (to a : ℕ) (kind : Kind) → IfOk (converting d w f to a kind) StartsShort
  unfolding converting
  converts to a kind = bind_with (value_in f a) _ IsShort StartsShort (value_in_short f frame a) (λ v one.
      only_keeps _ _ _ StartsShort
      (writes to (Some (or_zero d kind (transformed d.types (kind_of v) kind v))) (or_zero_short d kind (transformed d.types (kind_of v) kind v) (transformed_short d.types (kind_of v) kind v one))))

  -- ** properties

  gets : (to object : ℕ) (name : List ℕ) → IfOk (get_property d w f to object name) StartsShort
  unfolding get_property
  gets to object name = bind_keeps (operand_in w f object) _ StartsShort (λ id _. bind_keeps (slot_at d w id name) _ StartsShort (λ slot _.
      bind_keeps (spec_at d w.objects id slot) _ StartsShort (λ s _.
      bind_with (asked w.objects id (value_at slot)) _ IsShort StartsShort (asked_short w.objects short.0 id slot) (λ v one. only_keeps _ _ _ StartsShort (writes to (Some v) one)))))

  sets_from : (id slot from : ℕ) → IfOk (set_from w f id slot from) StartsShort
  unfolding set_from
  sets_from id slot from = bind_with (value_in f from) _ IsShort StartsShort (value_in_short f frame from) (λ v one. (short, (one, (frame, tt))))

  assigns : (object : ℕ) (name : List ℕ) (from : ℕ) → IfOk (set_property d w f object name from) StartsShort
  unfolding set_property
  assigns object name from = bind_keeps (operand_in w f object) _ StartsShort (λ id _. bind_keeps (slot_at d w id name) _ StartsShort (λ slot _.
      bind_keeps (spec_at d w.objects id slot) _ StartsShort (λ s _.
      only_keeps (is_writable s) arms.Flags (only_if (not (is_construct_only s)) arms.ConstructOnly (set_from w f id slot from)) StartsShort
      (only_keeps (not (is_construct_only s)) arms.ConstructOnly (set_from w f id slot from) StartsShort (sets_from id slot from)))))

  raises : (id slot : ℕ) → IfOk (then_goes_on f (raising w id slot)) StartsShort
  unfolding then_goes_on
  raises id slot = bind_with (raising w id slot) _ StartsShort StartsShort (raises_short d w short id slot) (λ s now.
      (now.0, each_append IsShortTask s.tasks (Running f ∷ []) now.1 (frame, tt)))

  notifies : (object : ℕ) (name : List ℕ) → IfOk (notify_from_program d w f object name) StartsShort
  unfolding notify_from_program
  notifies object name = bind_keeps (operand_in w f object) _ StartsShort (λ id _. bind_keeps (slot_at d w id name) _ StartsShort (λ slot _.
      bind_keeps (spec_at d w.objects id slot) _ StartsShort (λ s _. cond_keeps (is_readable s) _ _ StartsShort (raises id slot) on)))

  -- ** objects

  or_null_short : (h : BuilderEntry) → IsShort (or_null (object_held h))
  or_null_short unbuilt = tt
  or_null_short (built id) = tt
  or_null_short released = tt

  names : (to : ℕ) (id : List ℕ) → IfOk (look_up_object d w f to id) StartsShort
  unfolding look_up_object
  names to id = bind_keeps (known arms.Code (place_of d id)) _ StartsShort (λ place _. bind_keeps (known arms.Code (place_at d place)) _ StartsShort (λ p _.
      only_keeps _ _ _ StartsShort (writes to (Some (or_null (object_held (builder_entry w place)))) (or_null_short (builder_entry w place)))))

  makes_new : (to place : ℕ) (p : Place) → IfOk (made_new d w f to place p) StartsShort
  unfolding made_new
  makes_new to place p = bind_with (making d w place (peer_to_take d w p) false) _ StartsShort StartsShort (makes_short d texts w short place (peer_to_take d w p) false) (λ made now.
      bind_with (with_register to _ f.registers) _ (Each IsShortRegister) StartsShort (register_short to (Some (values.object (Some (suc (length w.objects))))) tt f.registers frame) (λ r some.
      (now.0, each_append IsShortTask made.tasks (Running (record f { registers = r }) ∷ []) now.1 (some, tt))))

  creates : (rest : List Task) (to : ℕ) (id : List ℕ) → IfOk (creating d w rest f to id) StartsShort
  unfolding creating
  creates rest to id = bind_keeps (known arms.Code (place_of d id)) _ StartsShort (λ place _. bind_keeps (known arms.Code (place_at d place)) _ StartsShort (λ p _.
      only_keeps _ _ _ StartsShort (cond_keeps (has_room_for_object d w _ p) _ _ StartsShort (makes_new to place p)
      (written_short (said d w (lines.limit (codes "new"))) short to (Some (values.object None)) tt f frame))))

  sinks : (object : ℕ) → IfOk (sinking w f object) StartsShort
  unfolding sinking
  sinks object = bind_keeps (operand_in w f object) _ StartsShort (λ id _. (short, (frame, tt)))

  orphans : (object : ℕ) → IfOk (orphaning d w f object) StartsShort
  unfolding orphaning
  orphans object = bind_keeps (operand_in w f object) _ StartsShort (λ id _. bind_keeps (object_at w.objects id) _ StartsShort (λ o _. (by id o.parent, (frame, tt))))
    where
      by : (id : ℕ) (parent : Option ℕ) → IsShortWorld (orphaned d w id parent)
      by id None = short
      by id (Some parent) = (orphan_short w.objects short.0 parent id, short.1)

  disposes : (object : ℕ) → IfOk (disposing d w f object) StartsShort
  unfolding disposing
  disposes object = bind_keeps (operand_in w f object) _ StartsShort (λ id _. bind_with (disposed_once d w id) _ IsShortWorld StartsShort
      (cond_keeps (is_disposed (living w.objects id)) (Ok w) (disposed d w id) IsShortWorld short (disposes_short d w short id)) (λ v now. (now, (frame, tt))))

  adopts : (to parent child : ℕ) → IfOk (adopting d w f to parent child) StartsShort
  unfolding adopting
  adopts to parent child = bind_keeps (operand_in w f parent) _ StartsShort (λ p _. bind_keeps (operand_in w f child) _ StartsShort (λ c _.
      bind_with (adopted d w p c) _ (λ r. IsShortWorld r.state) StartsShort (adopts_short d w short p c) (λ family now.
      written_short family.state now to (Some (values.bool family.answer)) tt f frame)))

  freezes : (object : ℕ) → IfOk (freezing w f object) StartsShort
  unfolding freezing
  freezes object = bind_keeps (operand_in w f object) _ StartsShort (λ id _. bind_with (changed w.objects id frozen_more) _ (λ a. AreShortObjects a.state) StartsShort
      (changed_short w.objects short.0 id frozen_more more_short) (λ r now. ((now, short.1), (frame, tt))))

  thaws : (object : ℕ) → IfOk (thaw_notify w f object) StartsShort
  unfolding thaw_notify
  thaws object = bind_keeps (operand_in w f object) _ StartsShort (λ id _. bind_with (changed w.objects id frozen_less) _ (λ a. AreShortObjects a.state) StartsShort
      (changed_short w.objects short.0 id frozen_less less_short) (λ r now. ((now, short.1), (tt, (frame, tt)))))

  -- ** signals

  emits : (object : ℕ) (e : Emit) → IfOk (emitting d w f object e) StartsShort
  unfolding emitting
  emits object e = bind_keeps (operand_in w f object) _ StartsShort (λ id _. bind_keeps (signal_to_emit d w id e.signal) _ StartsShort (λ signal _.
      bind_keeps (detail_in d w id signal e.detail) _ StartsShort (λ detail _.
      bind_with (values_in f e.args) _ (Each IsShort) StartsShort (values_in_short f frame e.args) (λ given all. (short, ((all, tt), (frame, tt)))))))

  connects_one : (to_come : ℕ) (c : Connection) (to : ℕ) → IfOk (tells (connected d w to_come c) to f) StartsShort
  connects_one to_come c to = late (is_too_late w.objects c.object c.arg)
    where
      room : (b : Bool) → IfOk (tells (cond b (record { state = with_handler w c; answer = true }) (record { state = said d w (lines.limit (codes "connect")); answer = false })) to f) StartsShort
      room true = written_short (with_handler w c) short to (Some (values.bool true)) tt f frame
      room false = written_short (said d w (lines.limit (codes "connect"))) short to (Some (values.bool false)) tt f frame

      late : (b : Bool) → IfOk (tells (cond b (record { state = w; answer = false })
          (cond (has_room_for_handler d w to_come c.object c.signal) (record { state = with_handler w c; answer = true }) (record { state = said d w (lines.limit (codes "connect")); answer = false }))) to f) StartsShort
      late true = writes to (Some (values.bool false)) tt
      late false = room (has_room_for_handler d w to_come c.object c.signal)

  connects : (rest : List Task) (to object : ℕ) (c : Connect) → IfOk (connecting d w rest f to object c) StartsShort
  unfolding connecting
  connects rest to object c = bind_keeps (operand_in w f object) _ StartsShort (λ id _. bind_keeps (signal_in d w id c.signal) _ StartsShort (λ signal _.
      bind_keeps (detail_in d w id signal c.detail) _ StartsShort (λ detail _. bind_keeps (known arms.Code (program_of d c.program)) _ StartsShort (λ program _.
      bind_keeps (data_in w f c.with) _ StartsShort (λ arg _. connects_one _ (connection_by_code id signal detail program arg c) to)))))

  changes : (object : ℕ) (program : List ℕ) (change : World → ℕ → ℕ → World) → ((id number : ℕ) → IsShortWorld (change w id number))
      → IfOk (on_handlers d w f object program change) StartsShort
  unfolding on_handlers
  changes object program change kept = bind_keeps (operand_in w f object) _ StartsShort (λ id _. bind_keeps (known arms.Code (program_of d program)) _ StartsShort (λ number _. (kept id number, (frame, tt))))

  -- ** sources, peers and jumps

  attaches : (to : ℕ) (a : Attach) → IfOk (attaching d w f to a) StartsShort
  unfolding attaching
  attaches to a = bind_keeps (known arms.Code (program_of d a.program)) _ StartsShort (λ program _. bind_keeps (data_in w f a.with) _ StartsShort (λ arg _. room program arg (sources.has_room w.sources w.last_source)))
    where
      room : (program : ℕ) (arg : Option ℕ) (b : Bool)
          → IfOk (tells (cond b (record { state = with_source w a program arg; answer = true }) (record { state = said d w (lines.limit a.word); answer = false })) to f) StartsShort
      room program arg true = written_short (with_source w a program arg) short to (Some (values.bool true)) tt f frame
      room program arg false = written_short (said d w (lines.limit a.word)) short to (Some (values.bool false)) tt f frame

  removes : (program : List ℕ) → IfOk (removing d w f program) StartsShort
  unfolding removing
  removes program = bind_keeps (known arms.Code (program_of d program)) _ StartsShort (λ number _. (short, (frame, tt)))

  calls : (to object : ℕ) (name args : List ℕ) → IfOk (calling d w f to object name args) StartsShort
  unfolding calling
  calls to object name args = bind_keeps (operand_in w f object) _ StartsShort (λ id _. bind_keeps (object_at w.objects id) _ StartsShort (λ o _. bind_keeps (known arms.Call o.peer) _ StartsShort (λ peer _.
      bind_keeps (known arms.Call (peer_at w peer)) _ StartsShort (λ p _. bind_keeps (known arms.Call (method_number p name)) _ StartsShort (λ number _. bind_keeps (known arms.Call (method_of p number)) _ StartsShort (λ m _.
      bind_with (values_in f args) _ (Each IsShort) StartsShort (values_in_short f frame args) (λ given all.
      only_keeps (all_fit (kind_fits (class_in w.objects) d.types) given m.params) arms.Call (only_if (nat_lt to (length f.registers)) arms.Code (asks id peer number given)) StartsShort
      (only_keeps (nat_lt to (length f.registers)) arms.Code (asks id peer number given) StartsShort (short, (all, (frame, tt)))))))))))
    where
      asks : (id peer number : ℕ) → List Value → Answer Started
      asks id peer number given = goes_on w (Calling (record { object = id; peer = peer; method = number; args = given; to = to }) ∷ []) f

  jumps : (to : ℕ) → IfOk (jumping d w f to) StartsShort
  unfolding jumping
  jumps to = bind_keeps (known arms.Code (program_at d f.program)) _ StartsShort (λ p _. bind_keeps (known arms.Code (slice_get p.blocks to)) _ StartsShort (λ b _. (short, (frame, tt))))

  branches : (on then_to else_to : ℕ) → IfOk (branching d w f on then_to else_to) StartsShort
  unfolding branching
  branches on then_to else_to = bind_keeps (truth_in f on) _ StartsShort (λ p _. jumps (cond p then_to else_to))

  branches_null : (on then_to else_to : ℕ) → IfOk (branching_null d w f on then_to else_to) StartsShort
  unfolding branching_null
  branches_null on then_to else_to = bind_keeps (value_in f on) _ StartsShort (λ v _. bind_keeps (null_of v) _ StartsShort (λ p _. jumps (cond p then_to else_to)))

  -- ** what an instruction leaves

  module _ (rest : List Task) (below : Each IsShortTask rest) where
    begins : (a : Answer Started) → IfOk a StartsShort → IfOk (in_front rest a) LeavesShort
    unfolding in_front
    begins (Ok s) now = (now.0, each_append IsShortTask s.tasks rest now.1 below)
    begins (Err arm) now = tt

    returns : (from : Option ℕ) → IfOk (returning d w f rest from) LeavesShort
    unfolding returning returned
    returns from = bind_with (returned d w f from) _ (λ v. IfSome v IsShort) LeavesShort
        (bind_keeps (known arms.Code (program_at d f.program)) _ (λ v. IfSome v IsShort) (λ p _.
        bind_with _ _ (λ v. IfSome v IsShort) (λ v. IfSome v IsShort) (given_short f frame from) (λ given one.
        only_keeps (suits (kind_fits (class_in w.objects) d.types) given p.result) arms.Result (Ok given) (λ v. IfSome v IsShort) one)))
        (λ given one. comes_down d w short rest below given one)

    stops : (tasks : List Task) → Each IsShortTask tasks → Each IsShortTask (stopped tasks)
    stops [] all = tt
    stops (Emitting e entries ∷ tasks) all = all
    stops (task ∷ tasks) all = all

    instructed : (i : Instruction) → HasShortConstant i → IfOk (instruction_step d w rest f i) LeavesShort
    instructed (words.const to kind v) one = begins (constant w f to v) (writes to (Some v) one)
    instructed (words.move to from) one = begins (moving w f to from) (moves to from)
    instructed (words.clear to) one = begins (clearing w f to) (writes to None tt)
    instructed (words.arithmetic operation to a b) one = begins (reckoning w f operation to a b) (reckons operation to a b)
    instructed (words.compare comparison to a b) one = begins (comparing w f comparison to a b) (compares comparison to a b)
    instructed (words.same to a b) one = begins (sameness w f to a b) (sames to a b)
    instructed (words.negate to a) one = begins (negating w f to a) (negates to a)
    instructed (words.both to a b) one = begins (conjunction w f to a b) (both to a b)
    instructed (words.either to a b) one = begins (disjunction w f to a b) (either to a b)
    instructed (words.join to a b) one = begins (joining d w f to a b) (joins to a b)
    instructed (words.convert to a kind) one = begins (converting d w f to a kind) (converts to a kind)
    instructed (words.get to object name) one = begins (get_property d w f to object name) (gets to object name)
    instructed (words.set object name from) one = begins (set_property d w f object name from) (assigns object name from)
    instructed (words.object to id) one = begins (look_up_object d w f to id) (names to id)
    instructed (words.new to id) one = begins (creating d w rest f to id) (creates rest to id)
    instructed (words.sink object) one = begins (sinking w f object) (sinks object)
    instructed (words.orphan object) one = begins (orphaning d w f object) (orphans object)
    instructed (words.dispose object) one = begins (disposing d w f object) (disposes object)
    instructed (words.adopt to parent child) one = begins (adopting d w f to parent child) (adopts to parent child)
    instructed (words.freeze object) one = begins (freezing w f object) (freezes object)
    instructed (words.thaw object) one = begins (thaw_notify w f object) (thaws object)
    instructed (words.emit into object name detail args) one = begins (emitting d w f object _) (emits object (record { into = into; signal = name; detail = detail; args = args }))
    instructed (words.notify object name) one = begins (notify_from_program d w f object name) (notifies object name)
    instructed (words.connect to object c) one = begins (connecting d w rest f to object c) (connects rest to object c)
    instructed (words.disconnect object program) one = begins (disconnecting d w f object program) (changes object program disconnected (λ id number. short))
    instructed (words.block object program) one = begins (blocking d w f object program) (changes object program (with_handlers_on blocked) (λ id number. short))
    instructed (words.unblock object program) one = begins (unblocking d w f object program) (changes object program (with_handlers_on unblocked) (λ id number. short))
    instructed words.stop one = (short, (frame, stops rest below))
    instructed (words.unbind name) one = begins (unbinding d w f name) (only_keeps (is_binding d name) arms.Code _ StartsShort (short, (frame, tt)))
    instructed (words.idle to program priority with) one =
        begins (attaching d w f to _) (attaches to (record { word = codes "idle"; program = program; priority = priority; interval = None; with = with }))
    instructed (words.timeout to program priority interval with) one =
        begins (attaching d w f to _) (attaches to (record { word = codes "timeout"; program = program; priority = priority; interval = Some interval; with = with }))
    instructed (words.remove program) one = begins (removing d w f program) (removes program)
    instructed (words.call to object name args) one = begins (calling d w f to object name args) (calls to object name args)
    instructed (words.jump to) one = begins (jumping d w f to) (jumps to)
    instructed (words.branch on_register then_to else_to) one = begins (branching d w f on_register then_to else_to) (branches on_register then_to else_to)
    instructed (words.branch_null on_register then_to else_to) one = begins (branching_null d w f on_register then_to else_to) (branches_null on_register then_to else_to)
    instructed (words.return from) one = returns from

-- ** programs

module _ (d : Definition) (texts : HasShortTexts d) (w : World) (short : IsShortWorld w) where
  abbrev HasShortConstants : Block → Type 0
  HasShortConstants b = Each HasShortConstant b.code

  block_short : (f : Frame) → IfOk (block_in d f) HasShortConstants
  unfolding block_in
  block_short f = bind_with (known arms.Code (program_at d f.program)) _ (λ (p : Program). Each HasShortConstants p.blocks) HasShortConstants
      (known_with arms.Code (program_at d f.program) (λ (p : Program). Each HasShortConstants p.blocks) (each_get (λ (p : Program). Each HasShortConstants p.blocks) d.programs texts.constants f.program))
      (λ p all. known_with arms.Code (slice_get p.blocks f.block) HasShortConstants (each_get HasShortConstants p.blocks all f.block))

  in_pass_short : (b : Block) (f : Frame) → IsShortFrame f → IsShortFrame (past (in_pass b f))
  in_pass_short b f frame = by (is_again b f)
    where
      by : (again : Bool) → IsShortFrame (past (cond again (record f { at = 0; passes = f.passes - 1 }) f))
      by true = frame
      by false = frame

  -- a program that takes its next instruction keeps all values short
  pub runs_short : (f : Frame) → IsShortFrame f → (rest : List Task) → Each IsShortTask rest → IfOk (running d w rest f) LeavesShort
  unfolding running
  runs_short f frame rest below = bind_with (block_in d f) _ HasShortConstants LeavesShort (block_short f) (λ b all.
      bind_with (known arms.Code (slice_get b.code (in_pass b f).at)) _ HasShortConstant LeavesShort
      (known_with arms.Code (slice_get b.code (in_pass b f).at) HasShortConstant (each_get HasShortConstant b.code all (in_pass b f).at)) (λ i one.
      instructed d texts w short (past (in_pass b f)) (in_pass_short b f frame) rest below i one))
