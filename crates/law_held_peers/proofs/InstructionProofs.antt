-- What is kept by each change is so after each instruction.
use Rattle.std.proofs.Common.{ℕ, Bool, true, false, cond, not, List, [], ◌∷◌, ◌++◌, Option, None, Some, Ok, Err}
use Rattle.std.specs.Prelude.{IfOk, codes, length, nat_lt, slice_get}
use Rattle.ui_machine.specs.declared.arm.Arm.TheVariants as arms
use Rattle.ui_machine.specs.Definition.{Definition}
use Rattle.ui_machine.specs.Definition.Kinds.{Kind}
use Rattle.ui_machine.specs.Definition.Lookups.{place_at, place_of, program_at, program_of}
use Rattle.ui_machine.specs.Definition.Places.{Place}
use Rattle.ui_machine.specs.Definition.Properties.{is_construct_only, is_readable, is_writable}
use Rattle.ui_machine.specs.Definition.Programs.{Arithmetic, Comparison, Connect, Instruction}
use Rattle.ui_machine.specs.Definition.Programs as words
use Rattle.ui_machine.specs.Definition.Values.{Value}
use Rattle.ui_machine.specs.Definition.Values as values
use Rattle.ui_machine.specs.Instructions.{in_front, instruction_step, running}
use Rattle.ui_machine.specs.Instructions.Arithmetic.{bytes_of, conjunction, comparing, converting, disjunction, gives_from, joining, most_bytes, negating, reckoning, sameness, within_bytes}
use Rattle.ui_machine.specs.Instructions.Jumps.{block_in, branching, branching_null, in_pass, jumping, null_of, past, returned, returning}
use Rattle.ui_machine.specs.Instructions.Objects.{adopting, creating, disposed_once, disposing, freezing, has_room_for_object, made_new, look_up_object, orphaning, sinking, thaw_notify}
use Rattle.ui_machine.specs.Instructions.Peers.{calling}
use Rattle.ui_machine.specs.Instructions.Properties.{set_property, get_property, set_from, slot_at, notify_from_program, then_goes_on}
use Rattle.ui_machine.specs.Instructions.Registers.{clearing, constant, data_in, goes_on, moving, operand_in, tells, text_in, truth_in, value_in, values_in, whole_in, with_register, written_to}
use Rattle.ui_machine.specs.Instructions.Signals.{Emit, blocking, connecting, connection_by_code, disconnecting, emitting, on_handlers, signal_in, signal_to_emit, unbinding, unblocking}
use Rattle.ui_machine.specs.Instructions.Sources.{Attach, attaching, removing, with_source}
use Rattle.ui_machine.specs.Outcome.{After, Answer, known, only_if}
use Rattle.ui_machine.specs.Output.Lines as lines
use Rattle.ui_machine.specs.Rules.Accumulation.{collecting, down_to_emission, down_to_source, given_down}
use Rattle.ui_machine.specs.Rules.Children.{adopted}
use Rattle.ui_machine.specs.Rules.Connections.{Connection, blocked, connected, detail_in, disconnected, has_room_for_handler, is_too_late, unblocked, with_handler, with_handlers_on}
use Rattle.ui_machine.specs.Rules.Construction.{making, peer_to_take}
use Rattle.ui_machine.specs.Rules.Disposal.{disposed}
use Rattle.ui_machine.specs.Rules.NotifyQueue.{frozen_less, frozen_more}
use Rattle.ui_machine.specs.Rules.Build.{to_connect, to_make}
use Rattle.ui_machine.specs.Rules.Programs.{all_fit}
use Rattle.ui_machine.specs.Rules.Transform.{kind_fits}
use Rattle.ui_machine.specs.Rules.Sets.{is_disposed, raising, spec_at}
use Rattle.ui_machine.specs.State.Bindings.{is_binding}
use Rattle.ui_machine.specs.State.Config.{Left, Started, World, peer_at, said}
use Rattle.ui_machine.specs.State.Objects.{Objects, asked, changed, class_in, living, object_at, value_at}
use Rattle.ui_machine.specs.State.Peers.{method_number, method_of}
use Rattle.ui_machine.specs.State.Sources as sources
use Rattle.ui_machine.specs.State.Tasks.{Answering, Calling, Emission, Emitting, Frame, PlanEntry, Task}
use Rattle.machine_laws.proofs.KeptProofs.{bind_keeps, cond_keeps, only_keeps}
use Rattle.law_held_peers.proofs.Changes.{bind_kept}
use Rattle.law_held_peers.proofs.Keeping.{Keeping}
use Rattle.law_held_peers.proofs.PartProofs.{Kept, adopted_kept, disposed_kept, frozen_kept, makes_kept, orphaned_kept, raises_kept, thawed_kept}

-- ** what an instruction starts

module _ (K : Keeping) (d : Definition) (w : World) (holds : Kept K w) where
  -- so it is where a part of a step starts tasks
  abbrev Begins : Started → Type 0
  Begins s = Kept K s.world

  gives_kept : (v : World) → Kept K v → (to : ℕ) (x : Option Value) (f : Frame) → IfOk (written_to v to x f) Begins
  unfolding written_to
  gives_kept v kept to x f = bind_keeps (with_register to x f.registers) _ Begins (λ r _. kept)

  -- a register is written
  writes : (to : ℕ) (x : Option Value) (f : Frame) → IfOk (written_to w to x f) Begins
  writes to x f = gives_kept w holds to x f

  moves : (f : Frame) (to from : ℕ) → IfOk (moving w f to from) Begins
  unfolding moving
  moves f to from = bind_keeps (value_in f from) _ Begins (λ v _. writes to (Some v) f)

  reckons : (f : Frame) (op : Arithmetic) (to a b : ℕ) → IfOk (reckoning w f op to a b) Begins
  unfolding reckoning
  reckons f op to a b = bind_keeps (whole_in f a) _ Begins (λ m _. bind_keeps (whole_in f b) _ Begins (λ n _. only_keeps _ _ _ Begins (writes to _ f)))

  compares : (f : Frame) (op : Comparison) (to a b : ℕ) → IfOk (comparing w f op to a b) Begins
  unfolding comparing
  compares f op to a b = bind_keeps (whole_in f a) _ Begins (λ m _. bind_keeps (whole_in f b) _ Begins (λ n _. only_keeps _ _ _ Begins (writes to _ f)))

  sames : (f : Frame) (to a b : ℕ) → IfOk (sameness w f to a b) Begins
  unfolding sameness
  sames f to a b = bind_keeps (value_in f a) _ Begins (λ u _. bind_keeps (value_in f b) _ Begins (λ v _. only_keeps _ _ _ Begins (writes to _ f)))

  negates : (f : Frame) (to a : ℕ) → IfOk (negating w f to a) Begins
  unfolding negating
  negates f to a = bind_keeps (truth_in f a) _ Begins (λ p _. writes to _ f)

  both : (f : Frame) (to a b : ℕ) → IfOk (conjunction w f to a b) Begins
  unfolding conjunction
  both f to a b = bind_keeps (truth_in f a) _ Begins (λ p _. bind_keeps (truth_in f b) _ Begins (λ q _. writes to _ f))

  either : (f : Frame) (to a b : ℕ) → IfOk (disjunction w f to a b) Begins
  unfolding disjunction
  either f to a b = bind_keeps (truth_in f a) _ Begins (λ p _. bind_keeps (truth_in f b) _ Begins (λ q _. writes to _ f))

  joins : (f : Frame) (to a b : ℕ) → IfOk (joining d w f to a b) Begins
  unfolding joining
  joins f to a b = bind_keeps (text_in f a) _ Begins (λ s _. bind_keeps (text_in f b) _ Begins (λ t _. by (bytes_of s ++ bytes_of t)))
    where
      by : (s : List ℕ) → IfOk (gives_from (within_bytes d w s) to f) Begins
      by s = long (nat_lt most_bytes (length s))
        where
          long : (b : Bool) → IfOk (gives_from (cond b (record { state = said d w (lines.limit (codes "join")); answer = values.text None }) (record { state = w; answer = values.text (Some s) })) to f) Begins
          long true = gives_kept (said d w (lines.limit (codes "join"))) holds to (Some (values.text None)) f
          long false = writes to (Some (values.text (Some s))) f

  converts : (f : Frame) (to a : ℕ) (kind : Kind) → IfOk (converting d w f to a kind) Begins
  unfolding converting
  converts f to a kind = bind_keeps (value_in f a) _ Begins (λ v _. only_keeps _ _ _ Begins (writes to _ f))

  -- ** properties

  gets : (f : Frame) (to object : ℕ) (name : List ℕ) → IfOk (get_property d w f to object name) Begins
  unfolding get_property
  gets f to object name = bind_keeps (operand_in w f object) _ Begins (λ id _. bind_keeps (slot_at d w id name) _ Begins (λ slot _.
      bind_keeps (spec_at d w.objects id slot) _ Begins (λ s _. bind_keeps (asked w.objects id (value_at slot)) _ Begins (λ v _. only_keeps _ _ _ Begins (writes to _ f)))))

  sets_from : (f : Frame) (id slot from : ℕ) → IfOk (set_from w f id slot from) Begins
  unfolding set_from
  sets_from f id slot from = bind_keeps (value_in f from) _ Begins (λ v _. holds)

  assigns : (f : Frame) (object : ℕ) (name : List ℕ) (from : ℕ) → IfOk (set_property d w f object name from) Begins
  unfolding set_property
  assigns f object name from = bind_keeps (operand_in w f object) _ Begins (λ id _. bind_keeps (slot_at d w id name) _ Begins (λ slot _.
      bind_keeps (spec_at d w.objects id slot) _ Begins (λ s _.
      only_keeps (is_writable s) arms.Flags (only_if (not (is_construct_only s)) arms.ConstructOnly (set_from w f id slot from)) Begins
      (only_keeps (not (is_construct_only s)) arms.ConstructOnly (set_from w f id slot from) Begins (sets_from f id slot from)))))

  raises : (f : Frame) (id slot : ℕ) → IfOk (then_goes_on f (raising w id slot)) Begins
  unfolding then_goes_on
  raises f id slot = bind_kept Begins (raising w id slot) _ Begins (raises_kept K w holds id slot) (λ s x. x)

  notifies : (f : Frame) (object : ℕ) (name : List ℕ) → IfOk (notify_from_program d w f object name) Begins
  unfolding notify_from_program
  notifies f object name = bind_keeps (operand_in w f object) _ Begins (λ id _. bind_keeps (slot_at d w id name) _ Begins (λ slot _.
      bind_keeps (spec_at d w.objects id slot) _ Begins (λ s _. cond_keeps (is_readable s) _ _ Begins (raises f id slot) (holds))))

  -- ** objects

  names : (f : Frame) (to : ℕ) (id : List ℕ) → IfOk (look_up_object d w f to id) Begins
  unfolding look_up_object
  names f to id = bind_keeps (known arms.Code (place_of d id)) _ Begins (λ place _. bind_keeps (known arms.Code (place_at d place)) _ Begins (λ p _. only_keeps _ _ _ Begins (writes to _ f)))

  sinks : (f : Frame) (object : ℕ) → IfOk (sinking w f object) Begins
  unfolding sinking
  sinks f object = bind_keeps (operand_in w f object) _ Begins (λ id _. holds)

  orphans : (f : Frame) (object : ℕ) → IfOk (orphaning d w f object) Begins
  unfolding orphaning
  orphans f object = bind_keeps (operand_in w f object) _ Begins (λ id _. bind_keeps (object_at w.objects id) _ Begins (λ o _. orphaned_kept K d w holds id o.parent))

  disposes : (f : Frame) (object : ℕ) → IfOk (disposing d w f object) Begins
  unfolding disposing
  disposes f object = bind_keeps (operand_in w f object) _ Begins (λ id _. bind_kept (Kept K) (disposed_once d w id) _ Begins
      (cond_keeps (is_disposed (living w.objects id)) (Ok w) (disposed d w id) (Kept K) holds (disposed_kept K d w holds id)) (λ v x. x))

  adopts : (f : Frame) (to parent child : ℕ) → IfOk (adopting d w f to parent child) Begins
  unfolding adopting
  adopts f to parent child = bind_keeps (operand_in w f parent) _ Begins (λ p _. bind_keeps (operand_in w f child) _ Begins (λ c _.
      bind_kept (λ (r : After World Bool). Kept K r.state) (adopted d w p c) _ Begins (adopted_kept K d w holds p c) (λ family x.
      gives_kept family.state x to (Some (values.bool family.answer)) f)))

  freezes : (f : Frame) (object : ℕ) → IfOk (freezing w f object) Begins
  unfolding freezing
  freezes f object = bind_keeps (operand_in w f object) _ Begins (λ id _.
      bind_kept (λ (r : After Objects (Unit {0})). K.Holds r.state w.peers) (changed w.objects id frozen_more) _ Begins (frozen_kept K w holds id) (λ r x. x))

  thaws : (f : Frame) (object : ℕ) → IfOk (thaw_notify w f object) Begins
  unfolding thaw_notify
  thaws f object = bind_keeps (operand_in w f object) _ Begins (λ id _.
      bind_kept (λ (r : After Objects (List ℕ)). K.Holds r.state w.peers) (changed w.objects id frozen_less) _ Begins (thawed_kept K w holds id) (λ r x. x))

  -- ** signals

  emits : (f : Frame) (object : ℕ) (e : Emit) → IfOk (emitting d w f object e) Begins
  unfolding emitting
  emits f object e = bind_keeps (operand_in w f object) _ Begins (λ id _. bind_keeps (signal_to_emit d w id e.signal) _ Begins (λ signal _.
      bind_keeps (detail_in d w id signal e.detail) _ Begins (λ detail _. bind_keeps (values_in f e.args) _ Begins (λ given _. holds))))

  changes : (f : Frame) (object : ℕ) (program : List ℕ) (change : World → ℕ → ℕ → World) → ((id number : ℕ) → Kept K (change w id number))
      → IfOk (on_handlers d w f object program change) Begins
  unfolding on_handlers
  changes f object program change still = bind_keeps (operand_in w f object) _ Begins (λ id _. bind_keeps (known arms.Code (program_of d program)) _ Begins (λ number _.
      still id number))

  -- ** sources, peers and jumps

  attaches : (f : Frame) (to : ℕ) (a : Attach) → IfOk (attaching d w f to a) Begins
  unfolding attaching
  attaches f to a = bind_keeps (known arms.Code (program_of d a.program)) _ Begins (λ program _. bind_keeps (data_in w f a.with) _ Begins (λ arg _. room program arg (sources.has_room w.sources w.last_source)))
    where
      room : (program : ℕ) (arg : Option ℕ) (b : Bool)
          → IfOk (tells (cond b (record { state = with_source w a program arg; answer = true }) (record { state = said d w (lines.limit a.word); answer = false })) to f) Begins
      room program arg true = gives_kept (with_source w a program arg) holds to (Some (values.bool true)) f
      room program arg false = gives_kept (said d w (lines.limit a.word)) holds to (Some (values.bool false)) f

  removes : (f : Frame) (program : List ℕ) → IfOk (removing d w f program) Begins
  unfolding removing
  removes f program = bind_keeps (known arms.Code (program_of d program)) _ Begins (λ number _. holds)

  calls : (f : Frame) (to object : ℕ) (name args : List ℕ) → IfOk (calling d w f to object name args) Begins
  unfolding calling
  calls f to object name args = bind_keeps (operand_in w f object) _ Begins (λ id _. bind_keeps (object_at w.objects id) _ Begins (λ o _. bind_keeps (known arms.Call o.peer) _ Begins (λ peer _.
      bind_keeps (known arms.Call (peer_at w peer)) _ Begins (λ p _. bind_keeps (known arms.Call (method_number p name)) _ Begins (λ number _. bind_keeps (known arms.Call (method_of p number)) _ Begins (λ m _.
      bind_keeps (values_in f args) _ Begins (λ given _. only_keeps (all_fit (kind_fits (class_in w.objects) d.types) given m.params) arms.Call (only_if (nat_lt to (length f.registers)) arms.Code (asks id peer number given)) Begins
      (only_keeps (nat_lt to (length f.registers)) arms.Code (asks id peer number given) Begins (holds)))))))))
    where
      asks : (id peer number : ℕ) → List Value → Answer Started
      asks id peer number given = goes_on w (Calling (record { object = id; peer = peer; method = number; args = given; to = to }) ∷ []) f

  jumps : (f : Frame) (to : ℕ) → IfOk (jumping d w f to) Begins
  unfolding jumping
  jumps f to = bind_keeps (known arms.Code (program_at d f.program)) _ Begins (λ p _. bind_keeps (known arms.Code (slice_get p.blocks to)) _ Begins (λ b _. holds))

  branches : (f : Frame) (on then_to else_to : ℕ) → IfOk (branching d w f on then_to else_to) Begins
  unfolding branching
  branches f on then_to else_to = bind_keeps (truth_in f on) _ Begins (λ p _. jumps f (cond p then_to else_to))

  branches_null : (f : Frame) (on then_to else_to : ℕ) → IfOk (branching_null d w f on then_to else_to) Begins
  unfolding branching_null
  branches_null f on then_to else_to = bind_keeps (value_in f on) _ Begins (λ v _. bind_keeps (null_of v) _ Begins (λ p _. jumps f (cond p then_to else_to)))

  -- ** what an instruction leaves

  abbrev Leaves : Left → Type 0
  Leaves l = Kept K l.world

  down_emission : (e : Emission) (entries : List PlanEntry) (rest : List Task) (given : Option Value) → IfOk (down_to_emission d w e entries rest given) Leaves
  unfolding down_to_emission
  down_emission e entries rest given = bind_keeps (collecting d w e entries given) _ Leaves (λ t _. holds)

  down_source : (source : ℕ) (rest : List Task) (given : Option Value) → IfOk (down_to_source w source rest given) Leaves
  unfolding down_to_source
  down_source source rest (Some (values.bool keep)) = holds
  down_source source rest None = tt
  down_source source rest (Some (values.whole kind n)) = tt
  down_source source rest (Some (values.text s)) = tt
  down_source source rest (Some (values.enum type n)) = tt
  down_source source rest (Some (values.flags type bits)) = tt
  down_source source rest (Some (values.object o)) = tt

  down : (rest : List Task) (given : Option Value) → IfOk (given_down d w rest given) Leaves
  down (Emitting e entries ∷ rest) given = down_emission e entries rest given
  down (Answering source ∷ rest) given = down_source source rest given
  down rest None = holds
  down rest (Some v) = tt

  returns : (f : Frame) (rest : List Task) (from : Option ℕ) → IfOk (returning d w f rest from) Leaves
  unfolding returning
  returns f rest from = bind_keeps (returned d w f from) _ Leaves (λ given _. down rest given)

  module _ (rest : List Task) where
    begins : (a : Answer Started) → IfOk a Begins → IfOk (in_front rest a) Leaves
    unfolding in_front
    begins (Ok s) kept = kept
    begins (Err arm) kept = tt

    makes_new : (f : Frame) (to place : ℕ) (p : Place) → IfOk (made_new d w f to place p) Begins
    unfolding made_new
    makes_new f to place p = bind_kept Begins (making d w place (peer_to_take d w p) false) _ Begins (makes_kept K d w holds place (peer_to_take d w p) false) (λ made x.
        bind_keeps (with_register to _ f.registers) _ Begins (λ r _. x))

    creates : (f : Frame) (to : ℕ) (id : List ℕ) → IfOk (creating d w rest f to id) Begins
    unfolding creating
    creates f to id = bind_keeps (known arms.Code (place_of d id)) _ Begins (λ place _. bind_keeps (known arms.Code (place_at d place)) _ Begins (λ p _.
        only_keeps p.is_prototype arms.Code _ Begins (cond_keeps (has_room_for_object d w (to_make rest) p) _ _ Begins (makes_new f to place p)
        (gives_kept (said d w (lines.limit (codes "new"))) holds to (Some (values.object None)) f))))

    connects_one : (c : Connection) (to : ℕ) (f : Frame) → IfOk (tells (connected d w (to_connect rest) c) to f) Begins
    connects_one c to f = late (is_too_late w.objects c.object c.arg)
      where
        room : (b : Bool) → IfOk (tells (cond b (record { state = with_handler w c; answer = true }) (record { state = said d w (lines.limit (codes "connect")); answer = false })) to f) Begins
        room true = gives_kept (with_handler w c) holds to (Some (values.bool true)) f
        room false = gives_kept (said d w (lines.limit (codes "connect"))) holds to (Some (values.bool false)) f

        late : (b : Bool) → IfOk (tells (cond b (record { state = w; answer = false })
            (cond (has_room_for_handler d w (to_connect rest) c.object c.signal) (record { state = with_handler w c; answer = true }) (record { state = said d w (lines.limit (codes "connect")); answer = false }))) to f) Begins
        late true = writes to (Some (values.bool false)) f
        late false = room (has_room_for_handler d w (to_connect rest) c.object c.signal)

    connects_by_code : (f : Frame) (to object : ℕ) (c : Connect) → IfOk (connecting d w rest f to object c) Begins
    unfolding connecting
    connects_by_code f to object c = bind_keeps (operand_in w f object) _ Begins (λ id _. bind_keeps (signal_in d w id c.signal) _ Begins (λ signal _.
        bind_keeps (detail_in d w id signal c.detail) _ Begins (λ detail _. bind_keeps (known arms.Code (program_of d c.program)) _ Begins (λ program _.
        bind_keeps (data_in w f c.with) _ Begins (λ arg _. connects_one (connection_by_code id signal detail program arg c) to f)))))

    pub instructed_kept : (f : Frame) (i : Instruction) → IfOk (instruction_step d w rest f i) Leaves
    instructed_kept f (words.const to kind v) = begins (constant w f to v) (writes to (Some v) f)
    instructed_kept f (words.move to from) = begins (moving w f to from) (moves f to from)
    instructed_kept f (words.clear to) = begins (clearing w f to) (writes to None f)
    instructed_kept f (words.arithmetic operation to a b) = begins (reckoning w f operation to a b) (reckons f operation to a b)
    instructed_kept f (words.compare comparison to a b) = begins (comparing w f comparison to a b) (compares f comparison to a b)
    instructed_kept f (words.same to a b) = begins (sameness w f to a b) (sames f to a b)
    instructed_kept f (words.negate to a) = begins (negating w f to a) (negates f to a)
    instructed_kept f (words.both to a b) = begins (conjunction w f to a b) (both f to a b)
    instructed_kept f (words.either to a b) = begins (disjunction w f to a b) (either f to a b)
    instructed_kept f (words.join to a b) = begins (joining d w f to a b) (joins f to a b)
    instructed_kept f (words.convert to a kind) = begins (converting d w f to a kind) (converts f to a kind)
    instructed_kept f (words.get to object name) = begins (get_property d w f to object name) (gets f to object name)
    instructed_kept f (words.set object name from) = begins (set_property d w f object name from) (assigns f object name from)
    instructed_kept f (words.object to id) = begins (look_up_object d w f to id) (names f to id)
    instructed_kept f (words.new to id) = begins (creating d w rest f to id) (creates f to id)
    instructed_kept f (words.sink object) = begins (sinking w f object) (sinks f object)
    instructed_kept f (words.orphan object) = begins (orphaning d w f object) (orphans f object)
    instructed_kept f (words.dispose object) = begins (disposing d w f object) (disposes f object)
    instructed_kept f (words.adopt to parent child) = begins (adopting d w f to parent child) (adopts f to parent child)
    instructed_kept f (words.freeze object) = begins (freezing w f object) (freezes f object)
    instructed_kept f (words.thaw object) = begins (thaw_notify w f object) (thaws f object)
    instructed_kept f (words.emit into object name detail args) = begins (emitting d w f object _) (emits f object (record { into = into; signal = name; detail = detail; args = args }))
    instructed_kept f (words.notify object name) = begins (notify_from_program d w f object name) (notifies f object name)
    instructed_kept f (words.connect to object c) = begins (connecting d w rest f to object c) (connects_by_code f to object c)
    instructed_kept f (words.disconnect object program) = begins (disconnecting d w f object program)
        (changes f object program disconnected (λ id number. holds))
    instructed_kept f (words.block object program) = begins (blocking d w f object program) (changes f object program (with_handlers_on blocked) (λ id number. holds))
    instructed_kept f (words.unblock object program) = begins (unblocking d w f object program) (changes f object program (with_handlers_on unblocked) (λ id number. holds))
    instructed_kept f words.stop = holds
    instructed_kept f (words.unbind name) = begins (unbinding d w f name)
        (only_keeps (is_binding d name) arms.Code _ Begins (holds))
    instructed_kept f (words.idle to program priority with) = begins (attaching d w f to _) (attaches f to (record { word = codes "idle"; program = program; priority = priority; interval = None; with = with }))
    instructed_kept f (words.timeout to program priority interval with) = begins (attaching d w f to _) (attaches f to (record { word = codes "timeout"; program = program; priority = priority; interval = Some interval; with = with }))
    instructed_kept f (words.remove program) = begins (removing d w f program) (removes f program)
    instructed_kept f (words.call to object name args) = begins (calling d w f to object name args) (calls f to object name args)
    instructed_kept f (words.jump to) = begins (jumping d w f to) (jumps f to)
    instructed_kept f (words.branch on then_to else_to) = begins (branching d w f on then_to else_to) (branches f on then_to else_to)
    instructed_kept f (words.branch_null on then_to else_to) = begins (branching_null d w f on then_to else_to) (branches_null f on then_to else_to)
    instructed_kept f (words.return from) = returns f rest from

    -- so it is as a program takes its next instruction
    pub running_kept : (f : Frame) → IfOk (running d w rest f) Leaves
    unfolding running
    running_kept f = bind_keeps (block_in d f) _ Leaves (λ b _. bind_keeps (known arms.Code (slice_get b.code (in_pass b f).at)) _ Leaves (λ i _. instructed_kept (past (in_pass b f)) i))
