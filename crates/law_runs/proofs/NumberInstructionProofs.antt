-- What an instruction takes.
use Rattle.std.proofs.Common.{◌≡◌, refl, ℕ, ◌+◌, ◌≤◌, Bool, true, false, cond, not, List, [], ◌∷◌, ◌++◌, Option, None, Some, Ok, Err, arith}
use Rattle.std.specs.Prelude.{IfOk, codes, length, nat_lt, slice_get}
use Rattle.ui_machine.specs.declared.arm.Arm.TheVariants as arms
use Rattle.ui_machine.specs.Definition.{Definition}
use Rattle.ui_machine.specs.Definition.Kinds.{Kind}
use Rattle.ui_machine.specs.Definition.Lookups.{place_at, place_of, program_at, program_of}
use Rattle.ui_machine.specs.Definition.Places.{Place}
use Rattle.ui_machine.specs.Definition.Properties.{is_construct_only, is_readable, is_writable}
use Rattle.ui_machine.specs.Definition.Programs.{Arithmetic, Comparison, Connect, Instruction}
use Rattle.ui_machine.specs.Definition.Programs as words
use Rattle.ui_machine.specs.Definition.Values.{Value}
use Rattle.ui_machine.specs.Definition.Values as values
use Rattle.ui_machine.specs.Instructions.{in_front, instruction_step, running}
use Rattle.ui_machine.specs.Instructions.Arithmetic.{bytes_of, conjunction, comparing, converting, disjunction, gives_from, joining, most_bytes, negating, reckoning, sameness, within_bytes}
use Rattle.ui_machine.specs.Instructions.Jumps.{block_in, branching, branching_null, in_pass, jumping, null_of, past, returned, returning}
use Rattle.ui_machine.specs.Instructions.Objects.{adopting, creating, disposed_once, disposing, freezing, has_room_for_object, made_new, look_up_object, orphaning, sinking, thaw_notify}
use Rattle.ui_machine.specs.Instructions.Peers.{calling}
use Rattle.ui_machine.specs.Instructions.Properties.{set_property, get_property, set_from, slot_at, notify_from_program, then_goes_on}
use Rattle.ui_machine.specs.Instructions.Registers.{clearing, constant, gives, data_in, goes_on, moving, operand_in, tells, text_in, truth_in, value_in, values_in, whole_in, with_register, written_to}
use Rattle.ui_machine.specs.Instructions.Signals.{Emit, blocking, connecting, connection_by_code, disconnecting, emitting, on_handlers, signal_in, signal_to_emit, unbinding, unblocking}
use Rattle.ui_machine.specs.Instructions.Sources.{Attach, attaching, removing, with_source}
use Rattle.ui_machine.specs.Outcome.{After, Answer, known, only_if}
use Rattle.ui_machine.specs.Output.Lines as lines
use Rattle.ui_machine.specs.Rules.Accumulation.{collected, collecting, down_to_emission, down_to_source, entries_after, given_down, is_last, stopped, suits}
use Rattle.ui_machine.specs.Rules.Children.{adopted}
use Rattle.ui_machine.specs.Rules.Connections.{Connection, blocked, connected, detail_in, disconnected, has_room_for_handler, is_too_late, unblocked, with_handler, with_handlers_on}
use Rattle.ui_machine.specs.Rules.Construction.{making, peer_to_take}
use Rattle.ui_machine.specs.Rules.Disposal.{disposed}
use Rattle.ui_machine.specs.Rules.EmissionPlan.{signal_at}
use Rattle.ui_machine.specs.Definition.Signals.{Signal}
use Rattle.ui_machine.specs.Rules.NotifyQueue.{frozen_less, frozen_more}
use Rattle.ui_machine.specs.Rules.Build.{of_items, to_connect, to_make}
use Rattle.ui_machine.specs.Rules.Programs.{all_fit}
use Rattle.ui_machine.specs.Rules.Transform.{kind_fits}
use Rattle.ui_machine.specs.Rules.Sets.{is_disposed, raising, spec_at}
use Rattle.ui_machine.specs.State.Bindings.{is_binding}
use Rattle.ui_machine.specs.State.Config.{Left, Started, World, peer_at, said}
use Rattle.ui_machine.specs.State.Objects.{Objects, asked, changed, class_in, living, object_at, value_at}
use Rattle.ui_machine.specs.State.Peers.{method_number, method_of}
use Rattle.ui_machine.specs.State.Sources as sources
use Rattle.ui_machine.specs.State.Tasks.{Answering, Calling, Running, Emission, Emitting, Frame, Item, PlanEntry, Task, connects, makes}
use Rattle.machine_laws.proofs.KeptProofs.{bind_keeps, cond_keeps, kept_at, only_keeps}
use Rattle.law_runs.proofs.Counting.{Counting, Taken, adopted_taken, disposed_taken, frozen_taken, operand_among, orphaned_taken, thawed_taken, to_take}
use Rattle.law_runs.proofs.NumberStartProofs.{Within, if_weaker, in_front_of, makes_one, raises_one, within, within_also}

-- what is left by a stop takes as many
stopped_same : (takes : Item → ℕ) (rest : List Task) → to_take takes (stopped rest) ≡ to_take takes rest
stopped_same takes [] = refl
stopped_same takes (Emitting e entries ∷ rest) = refl
stopped_same takes (task ∷ rest) = refl

-- ** what an instruction starts

module _ (K : Counting) (d : Definition) (w : World) (n : ℕ) (holds : Taken K n w) where
  abbrev Kept : Started → Type 0
  Kept s = Within K n s.world s.tasks

  -- as many were taken, and the tasks take none
  same : (v : World) (tasks : List Task) → Taken K n v → to_take K.takes tasks ≡ 0 → Within K n v tasks
  same v tasks holds none = within K n 0 n v tasks holds none (omega arith)

  -- a register is written, where so many were taken
  gives_within : (m : ℕ) (v : World) → Taken K m v → (to : ℕ) (x : Option Value) (f : Frame) → IfOk (written_to v to x f) (λ s. Within K m s.world s.tasks)
  unfolding written_to
  gives_within m v kept to x f = bind_keeps (with_register to x f.registers) _ _ (λ r _. within K m 0 m v _ kept refl (omega arith))

  gives_kept : (v : World) → Taken K n v → (to : ℕ) (x : Option Value) (f : Frame) → IfOk (written_to v to x f) Kept
  gives_kept v kept to x f = gives_within n v kept to x f

  -- a register is written
  writes : (to : ℕ) (x : Option Value) (f : Frame) → IfOk (written_to w to x f) Kept
  writes to x f = gives_kept w holds to x f

  moves : (f : Frame) (to from : ℕ) → IfOk (moving w f to from) Kept
  unfolding moving
  moves f to from = bind_keeps (value_in f from) _ Kept (λ v _. writes to (Some v) f)

  reckons : (f : Frame) (op : Arithmetic) (to a b : ℕ) → IfOk (reckoning w f op to a b) Kept
  unfolding reckoning
  reckons f op to a b = bind_keeps (whole_in f a) _ Kept (λ m _. bind_keeps (whole_in f b) _ Kept (λ n _. only_keeps _ _ _ Kept (writes to _ f)))

  compares : (f : Frame) (op : Comparison) (to a b : ℕ) → IfOk (comparing w f op to a b) Kept
  unfolding comparing
  compares f op to a b = bind_keeps (whole_in f a) _ Kept (λ m _. bind_keeps (whole_in f b) _ Kept (λ n _. only_keeps _ _ _ Kept (writes to _ f)))

  sames : (f : Frame) (to a b : ℕ) → IfOk (sameness w f to a b) Kept
  unfolding sameness
  sames f to a b = bind_keeps (value_in f a) _ Kept (λ u _. bind_keeps (value_in f b) _ Kept (λ v _. only_keeps _ _ _ Kept (writes to _ f)))

  negates : (f : Frame) (to a : ℕ) → IfOk (negating w f to a) Kept
  unfolding negating
  negates f to a = bind_keeps (truth_in f a) _ Kept (λ p _. writes to _ f)

  both : (f : Frame) (to a b : ℕ) → IfOk (conjunction w f to a b) Kept
  unfolding conjunction
  both f to a b = bind_keeps (truth_in f a) _ Kept (λ p _. bind_keeps (truth_in f b) _ Kept (λ q _. writes to _ f))

  either : (f : Frame) (to a b : ℕ) → IfOk (disjunction w f to a b) Kept
  unfolding disjunction
  either f to a b = bind_keeps (truth_in f a) _ Kept (λ p _. bind_keeps (truth_in f b) _ Kept (λ q _. writes to _ f))

  joins : (f : Frame) (to a b : ℕ) → IfOk (joining d w f to a b) Kept
  unfolding joining
  joins f to a b = bind_keeps (text_in f a) _ Kept (λ s _. bind_keeps (text_in f b) _ Kept (λ t _. by (bytes_of s ++ bytes_of t)))
    where
      by : (s : List ℕ) → IfOk (gives_from (within_bytes d w s) to f) Kept
      by s = long (nat_lt most_bytes (length s))
        where
          long : (b : Bool) → IfOk (gives_from (cond b (record { state = said d w (lines.limit (codes "join")); answer = values.text None }) (record { state = w; answer = values.text (Some s) })) to f) Kept
          long true = gives_kept (said d w (lines.limit (codes "join"))) holds to (Some (values.text None)) f
          long false = writes to (Some (values.text (Some s))) f

  converts : (f : Frame) (to a : ℕ) (kind : Kind) → IfOk (converting d w f to a kind) Kept
  unfolding converting
  converts f to a kind = bind_keeps (value_in f a) _ Kept (λ v _. only_keeps _ _ _ Kept (writes to _ f))

  -- ** properties

  gets : (f : Frame) (to object : ℕ) (name : List ℕ) → IfOk (get_property d w f to object name) Kept
  unfolding get_property
  gets f to object name = bind_keeps (operand_in w f object) _ Kept (λ id _. bind_keeps (slot_at d w id name) _ Kept (λ slot _.
      bind_keeps (spec_at d w.objects id slot) _ Kept (λ s _. bind_keeps (asked w.objects id (value_at slot)) _ Kept (λ v _. only_keeps _ _ _ Kept (writes to _ f)))))

  sets_from : (f : Frame) (id slot from : ℕ) → IfOk (set_from w f id slot from) Kept
  unfolding set_from
  sets_from f id slot from = bind_keeps (value_in f from) _ Kept (λ v _. same _ _ holds refl)

  assigns : (f : Frame) (object : ℕ) (name : List ℕ) (from : ℕ) → IfOk (set_property d w f object name from) Kept
  unfolding set_property
  assigns f object name from = bind_keeps (operand_in w f object) _ Kept (λ id _. bind_keeps (slot_at d w id name) _ Kept (λ slot _.
      bind_keeps (spec_at d w.objects id slot) _ Kept (λ s _.
      only_keeps (is_writable s) arms.Flags (only_if (not (is_construct_only s)) arms.ConstructOnly (set_from w f id slot from)) Kept
      (only_keeps (not (is_construct_only s)) arms.ConstructOnly (set_from w f id slot from) Kept (sets_from f id slot from)))))

  raises : (f : Frame) (id slot : ℕ) → IfOk (then_goes_on f (raising w id slot)) Kept
  unfolding then_goes_on
  raises f id slot = bind_keeps (raising w id slot) _ Kept (λ s is. within_also K n s.world s.tasks (Running f ∷ []) refl (kept_at Kept (raising w id slot) s (raises_one K n w holds id slot) is))

  notifies : (f : Frame) (object : ℕ) (name : List ℕ) → IfOk (notify_from_program d w f object name) Kept
  unfolding notify_from_program
  notifies f object name = bind_keeps (operand_in w f object) _ Kept (λ id _. bind_keeps (slot_at d w id name) _ Kept (λ slot _.
      bind_keeps (spec_at d w.objects id slot) _ Kept (λ s _. cond_keeps (is_readable s) _ _ Kept (raises f id slot) (same _ _ holds refl))))

  -- ** objects

  names : (f : Frame) (to : ℕ) (id : List ℕ) → IfOk (look_up_object d w f to id) Kept
  unfolding look_up_object
  names f to id = bind_keeps (known arms.Code (place_of d id)) _ Kept (λ place _. bind_keeps (known arms.Code (place_at d place)) _ Kept (λ p _. only_keeps _ _ _ Kept (writes to _ f)))

  sinks : (f : Frame) (object : ℕ) → IfOk (sinking w f object) Kept
  unfolding sinking
  sinks f object = bind_keeps (operand_in w f object) _ Kept (λ id _. same _ _ holds refl)

  orphans : (f : Frame) (object : ℕ) → IfOk (orphaning d w f object) Kept
  unfolding orphaning
  orphans f object = bind_keeps (operand_in w f object) _ Kept (λ id _. bind_keeps (object_at w.objects id) _ Kept (λ o is.
      same _ _ (orphaned_taken K d w n holds id o is) refl))

  disposes : (f : Frame) (object : ℕ) → IfOk (disposing d w f object) Kept
  unfolding disposing
  disposes f object = bind_keeps (operand_in w f object) _ Kept (λ id at. bind_keeps (disposed_once d w id) _ Kept (λ v is.
      same v _ (kept_at (Taken K n) (disposed_once d w id) v
      (cond_keeps (is_disposed (living w.objects id)) (Ok w) (disposed d w id) (Taken K n) holds
      (disposed_taken K d w n holds id (kept_at (λ i. K.IsAmong n i) (operand_in w f object) id (operand_among K d w n holds f object) at))) is) refl))

  adopts : (f : Frame) (to parent child : ℕ) → IfOk (adopting d w f to parent child) Kept
  unfolding adopting
  adopts f to parent child = bind_keeps (operand_in w f parent) _ Kept (λ p _. bind_keeps (operand_in w f child) _ Kept (λ c _.
      bind_keeps (adopted d w p c) _ Kept (λ family is.
      gives_kept family.state (kept_at (λ (r : After World Bool). Taken K n r.state) (adopted d w p c) family (adopted_taken K d w n holds p c) is) to (Some (values.bool family.answer)) f)))

  freezes : (f : Frame) (object : ℕ) → IfOk (freezing w f object) Kept
  unfolding freezing
  freezes f object = bind_keeps (operand_in w f object) _ Kept (λ id _. bind_keeps (changed w.objects id frozen_more) _ Kept (λ r is.
      same _ _ (kept_at (λ (r : After Objects (Unit {0})). K.Holds n r.state w.last_handler) (changed w.objects id frozen_more) r (frozen_taken K n w holds id) is) refl))

  thaws : (f : Frame) (object : ℕ) → IfOk (thaw_notify w f object) Kept
  unfolding thaw_notify
  thaws f object = bind_keeps (operand_in w f object) _ Kept (λ id _. bind_keeps (changed w.objects id frozen_less) _ Kept (λ r is.
      same _ _ (kept_at (λ (r : After Objects (List ℕ)). K.Holds n r.state w.last_handler) (changed w.objects id frozen_less) r (thawed_taken K n w holds id) is) refl))

  -- ** signals

  emits : (f : Frame) (object : ℕ) (e : Emit) → IfOk (emitting d w f object e) Kept
  unfolding emitting
  emits f object e = bind_keeps (operand_in w f object) _ Kept (λ id _. bind_keeps (signal_to_emit d w id e.signal) _ Kept (λ signal _.
      bind_keeps (detail_in d w id signal e.detail) _ Kept (λ detail _. bind_keeps (values_in f e.args) _ Kept (λ given _. same _ _ holds refl))))

  changes : (f : Frame) (object : ℕ) (program : List ℕ) (change : World → ℕ → ℕ → World) → ((id number : ℕ) → Taken K n (change w id number))
      → IfOk (on_handlers d w f object program change) Kept
  unfolding on_handlers
  changes f object program change still = bind_keeps (operand_in w f object) _ Kept (λ id _. bind_keeps (known arms.Code (program_of d program)) _ Kept (λ number _.
      same (change w id number) _ (still id number) refl))

  -- ** sources, peers and jumps

  attaches : (f : Frame) (to : ℕ) (a : Attach) → IfOk (attaching d w f to a) Kept
  unfolding attaching
  attaches f to a = bind_keeps (known arms.Code (program_of d a.program)) _ Kept (λ program _. bind_keeps (data_in w f a.with) _ Kept (λ arg _. room program arg (sources.has_room w.sources w.last_source)))
    where
      room : (program : ℕ) (arg : Option ℕ) (b : Bool)
          → IfOk (tells (cond b (record { state = with_source w a program arg; answer = true }) (record { state = said d w (lines.limit a.word); answer = false })) to f) Kept
      room program arg true = gives_kept (with_source w a program arg) holds to (Some (values.bool true)) f
      room program arg false = gives_kept (said d w (lines.limit a.word)) holds to (Some (values.bool false)) f

  removes : (f : Frame) (program : List ℕ) → IfOk (removing d w f program) Kept
  unfolding removing
  removes f program = bind_keeps (known arms.Code (program_of d program)) _ Kept (λ number _. same _ _ holds refl)

  calls : (f : Frame) (to object : ℕ) (name args : List ℕ) → IfOk (calling d w f to object name args) Kept
  unfolding calling
  calls f to object name args = bind_keeps (operand_in w f object) _ Kept (λ id _. bind_keeps (object_at w.objects id) _ Kept (λ o _. bind_keeps (known arms.Call o.peer) _ Kept (λ peer _.
      bind_keeps (known arms.Call (peer_at w peer)) _ Kept (λ p _. bind_keeps (known arms.Call (method_number p name)) _ Kept (λ number _. bind_keeps (known arms.Call (method_of p number)) _ Kept (λ m _.
      bind_keeps (values_in f args) _ Kept (λ given _. only_keeps (all_fit (kind_fits (class_in w.objects) d.types) given m.params) arms.Call (only_if (nat_lt to (length f.registers)) arms.Code (asks id peer number given)) Kept
      (only_keeps (nat_lt to (length f.registers)) arms.Code (asks id peer number given) Kept (same _ _ holds refl)))))))))
    where
      asks : (id peer number : ℕ) → List Value → Answer Started
      asks id peer number given = goes_on w (Calling (record { object = id; peer = peer; method = number; args = given; to = to }) ∷ []) f

  jumps : (f : Frame) (to : ℕ) → IfOk (jumping d w f to) Kept
  unfolding jumping
  jumps f to = bind_keeps (known arms.Code (program_at d f.program)) _ Kept (λ p _. bind_keeps (known arms.Code (slice_get p.blocks to)) _ Kept (λ b _. same _ _ holds refl))

  branches : (f : Frame) (on then_to else_to : ℕ) → IfOk (branching d w f on then_to else_to) Kept
  unfolding branching
  branches f on then_to else_to = bind_keeps (truth_in f on) _ Kept (λ p _. jumps f (cond p then_to else_to))

  branches_null : (f : Frame) (on then_to else_to : ℕ) → IfOk (branching_null d w f on then_to else_to) Kept
  unfolding branching_null
  branches_null f on then_to else_to = bind_keeps (value_in f on) _ Kept (λ v _. bind_keeps (null_of v) _ Kept (λ p _. jumps f (cond p then_to else_to)))

  -- ** what an instruction leaves

  abbrev Leaves : Left → Type 0
  Leaves l = Within K K.most l.world l.agenda

  -- what an emission has collected takes nothing
  collects : (e : Emission) (entries : List PlanEntry) (given : Option Value) → IfOk (collecting d w e entries given) (λ t. of_items K.takes t ≡ 0)
  unfolding collecting
  collects e entries given = bind_keeps (object_at w.objects e.object) _ _ (λ o _. bind_keeps (signal_at d o.class e.signal) _ _ (λ s _.
      only_keeps (suits (kind_fits (class_in w.objects) d.types) given s.result) arms.Result _ _ (by s given)))
    where
      by : (s : Signal) (given : Option Value) → of_items K.takes (collected s e entries given) ≡ 0
      by s None = refl
      by s (Some v) = taken e.cleanup
        where
          taken : (b : Bool) → of_items K.takes (cond b (Emitting e entries) (Emitting (record e { value = Some v }) (entries_after (is_last s.accumulator v) e entries))) ≡ 0
          taken true = refl
          taken false = refl

  down_emission : (e : Emission) (entries : List PlanEntry) (rest : List Task) → n + to_take K.takes rest ≤ K.most → (given : Option Value)
      → IfOk (down_to_emission d w e entries rest given) Leaves
  unfolding down_to_emission
  down_emission e entries rest few given = bind_keeps (collecting d w e entries given) _ Leaves (λ t is.
      let none = kept_at (λ (t : Task). of_items K.takes t ≡ 0) (collecting d w e entries given) t (collects e entries given) is in
      within K n (to_take K.takes rest) K.most w (t ∷ rest) holds (omega (arith, none)) few)

  down_source : (source : ℕ) (rest : List Task) → n + to_take K.takes rest ≤ K.most → (given : Option Value) → IfOk (down_to_source w source rest given) Leaves
  unfolding down_to_source
  down_source source rest few (Some (values.bool keep)) = within K n (to_take K.takes rest) K.most _ rest holds refl few
  down_source source rest few None = tt
  down_source source rest few (Some (values.whole kind n)) = tt
  down_source source rest few (Some (values.text s)) = tt
  down_source source rest few (Some (values.enum type n)) = tt
  down_source source rest few (Some (values.flags type bits)) = tt
  down_source source rest few (Some (values.object o)) = tt

  down : (rest : List Task) → n + to_take K.takes rest ≤ K.most → (given : Option Value) → IfOk (given_down d w rest given) Leaves
  down (Emitting e entries ∷ rest) few given = down_emission e entries rest (omega (arith, few)) given
  down (Answering source ∷ rest) few given = down_source source rest (omega (arith, few)) given
  down rest few None = within K n (to_take K.takes rest) K.most w rest holds refl few
  down rest few (Some v) = tt

  returns : (f : Frame) (rest : List Task) → n + to_take K.takes rest ≤ K.most → (from : Option ℕ) → IfOk (returning d w f rest from) Leaves
  unfolding returning
  returns f rest few from = bind_keeps (returned d w f from) _ Leaves (λ given _. down rest few given)

  module _ (rest : List Task) (few : n + to_take K.takes rest ≤ K.most) where
    -- what an instruction starts fits in front of the rest
    abbrev Fits : Started → Type 0
    Fits s = Within K K.most s.world (s.tasks ++ rest)

    begins_so : (a : Answer Started) → IfOk a Fits → IfOk (in_front rest a) Leaves
    unfolding in_front
    begins_so (Ok s) fits = fits
    begins_so (Err arm) fits = tt

    fits_so : (some : ℕ) → some + to_take K.takes rest ≤ K.most → (a : Answer Started) → IfOk a (λ s. Within K some s.world s.tasks) → IfOk a Fits
    fits_so some room a kept = if_weaker _ Fits a (λ s within. in_front_of K some K.most rest room s.world s.tasks within) kept

    begins : (a : Answer Started) → IfOk a Kept → IfOk (in_front rest a) Leaves
    begins a kept = begins_so a (fits_so n few a kept)

    -- an object is made where more are left than the build still takes
    makes_new : (f : Frame) (to place : ℕ) (p : Place) → IfOk (made_new d w f to place p) (λ s. Within K (K.takes (makes place) + n) s.world s.tasks)
    unfolding made_new
    makes_new f to place p = bind_keeps (making d w place (peer_to_take d w p) false) _ _ (λ made is.
        bind_keeps (with_register to _ f.registers) _ _ (λ r _. within_also K (K.takes (makes place) + n) made.world made.tasks _ refl
        (kept_at (λ (s : Started). Within K (K.takes (makes place) + n) s.world s.tasks) (making d w place (peer_to_take d w p) false) made (makes_one K d w n holds place (peer_to_take d w p) false) is)))

    creates : (f : Frame) (to : ℕ) (id : List ℕ) → IfOk (creating d w rest f to id) Fits
    unfolding creating
    creates f to id = bind_keeps (known arms.Code (place_of d id)) _ Fits (λ place _. bind_keeps (known arms.Code (place_at d place)) _ Fits (λ p _.
        only_keeps p.is_prototype arms.Code _ Fits (by place p (has_room_for_object d w (to_make rest) p) refl)))
      where
        by : (place : ℕ) (p : Place) (b : Bool) → has_room_for_object d w (to_make rest) p ≡ b
            → IfOk (cond b (made_new d w f to place p) (gives (said d w (lines.limit (codes "new"))) to (values.object None) f)) Fits
        by place p true room = fits_so (K.takes (makes place) + n) (K.object_room d w n rest p place holds few room) _ (makes_new f to place p)
        by place p false room = fits_so n few _ (gives_kept (said d w (lines.limit (codes "new"))) holds to (Some (values.object None)) f)

    -- so is a handler connected
    connects_one : (c : Connection) (to : ℕ) (f : Frame) → IfOk (tells (connected d w (to_connect rest) c) to f) Fits
    connects_one c to f = late (is_too_late w.objects c.object c.arg)
      where
        room : (b : Bool) → has_room_for_handler d w (to_connect rest) c.object c.signal ≡ b
            → IfOk (tells (cond b (record { state = with_handler w c; answer = true }) (record { state = said d w (lines.limit (codes "connect")); answer = false })) to f) Fits
        room true left = fits_so (K.takes (connects 0 0) + n) (K.handler_room d w n rest c.object c.signal 0 0 holds few left) _
            (gives_within (K.takes (connects 0 0) + n) (with_handler w c) (K.connects_handler n w.last_handler w.objects 0 0 holds) to (Some (values.bool true)) f)
        room false left = fits_so n few _ (gives_kept (said d w (lines.limit (codes "connect"))) holds to (Some (values.bool false)) f)

        late : (b : Bool) → IfOk (tells (cond b (record { state = w; answer = false })
            (cond (has_room_for_handler d w (to_connect rest) c.object c.signal) (record { state = with_handler w c; answer = true }) (record { state = said d w (lines.limit (codes "connect")); answer = false }))) to f) Fits
        late true = fits_so n few _ (writes to (Some (values.bool false)) f)
        late false = room (has_room_for_handler d w (to_connect rest) c.object c.signal) refl

    connects_by_code : (f : Frame) (to object : ℕ) (c : Connect) → IfOk (connecting d w rest f to object c) Fits
    unfolding connecting
    connects_by_code f to object c = bind_keeps (operand_in w f object) _ Fits (λ id _. bind_keeps (signal_in d w id c.signal) _ Fits (λ signal _.
        bind_keeps (detail_in d w id signal c.detail) _ Fits (λ detail _. bind_keeps (known arms.Code (program_of d c.program)) _ Fits (λ program _.
        bind_keeps (data_in w f c.with) _ Fits (λ arg _. connects_one (connection_by_code id signal detail program arg c) to f)))))

    pub instructed_kept : (f : Frame) (i : Instruction) → IfOk (instruction_step d w rest f i) Leaves
    instructed_kept f (words.const to kind v) = begins (constant w f to v) (writes to (Some v) f)
    instructed_kept f (words.move to from) = begins (moving w f to from) (moves f to from)
    instructed_kept f (words.clear to) = begins (clearing w f to) (writes to None f)
    instructed_kept f (words.arithmetic operation to a b) = begins (reckoning w f operation to a b) (reckons f operation to a b)
    instructed_kept f (words.compare comparison to a b) = begins (comparing w f comparison to a b) (compares f comparison to a b)
    instructed_kept f (words.same to a b) = begins (sameness w f to a b) (sames f to a b)
    instructed_kept f (words.negate to a) = begins (negating w f to a) (negates f to a)
    instructed_kept f (words.both to a b) = begins (conjunction w f to a b) (both f to a b)
    instructed_kept f (words.either to a b) = begins (disjunction w f to a b) (either f to a b)
    instructed_kept f (words.join to a b) = begins (joining d w f to a b) (joins f to a b)
    instructed_kept f (words.convert to a kind) = begins (converting d w f to a kind) (converts f to a kind)
    instructed_kept f (words.get to object name) = begins (get_property d w f to object name) (gets f to object name)
    instructed_kept f (words.set object name from) = begins (set_property d w f object name from) (assigns f object name from)
    instructed_kept f (words.object to id) = begins (look_up_object d w f to id) (names f to id)
    instructed_kept f (words.new to id) = begins_so (creating d w rest f to id) (creates f to id)
    instructed_kept f (words.sink object) = begins (sinking w f object) (sinks f object)
    instructed_kept f (words.orphan object) = begins (orphaning d w f object) (orphans f object)
    instructed_kept f (words.dispose object) = begins (disposing d w f object) (disposes f object)
    instructed_kept f (words.adopt to parent child) = begins (adopting d w f to parent child) (adopts f to parent child)
    instructed_kept f (words.freeze object) = begins (freezing w f object) (freezes f object)
    instructed_kept f (words.thaw object) = begins (thaw_notify w f object) (thaws f object)
    instructed_kept f (words.emit into object name detail args) = begins (emitting d w f object _) (emits f object (record { into = into; signal = name; detail = detail; args = args }))
    instructed_kept f (words.notify object name) = begins (notify_from_program d w f object name) (notifies f object name)
    instructed_kept f (words.connect to object c) = begins_so (connecting d w rest f to object c) (connects_by_code f to object c)
    instructed_kept f (words.disconnect object program) = begins (disconnecting d w f object program)
        (changes f object program disconnected (λ id number. holds))
    instructed_kept f (words.block object program) = begins (blocking d w f object program) (changes f object program (with_handlers_on blocked) (λ id number. holds))
    instructed_kept f (words.unblock object program) = begins (unblocking d w f object program) (changes f object program (with_handlers_on unblocked) (λ id number. holds))
    instructed_kept f words.stop = within K n (to_take K.takes rest) K.most _ _ holds (let stop = stopped_same K.takes rest in omega (arith, stop)) few
    instructed_kept f (words.unbind name) = begins (unbinding d w f name)
        (only_keeps (is_binding d name) arms.Code _ Kept (same _ _ holds refl))
    instructed_kept f (words.idle to program priority with) = begins (attaching d w f to _) (attaches f to (record { word = codes "idle"; program = program; priority = priority; interval = None; with = with }))
    instructed_kept f (words.timeout to program priority interval with) = begins (attaching d w f to _) (attaches f to (record { word = codes "timeout"; program = program; priority = priority; interval = Some interval; with = with }))
    instructed_kept f (words.remove program) = begins (removing d w f program) (removes f program)
    instructed_kept f (words.call to object name args) = begins (calling d w f to object name args) (calls f to object name args)
    instructed_kept f (words.jump to) = begins (jumping d w f to) (jumps f to)
    instructed_kept f (words.branch on then_to else_to) = begins (branching d w f on then_to else_to) (branches f on then_to else_to)
    instructed_kept f (words.branch_null on then_to else_to) = begins (branching_null d w f on then_to else_to) (branches_null f on then_to else_to)
    instructed_kept f (words.return from) = returns f rest few from

    -- an instruction of a program takes one at most, where more are left than the build still takes
    pub running_kept : (f : Frame) → IfOk (running d w rest f) Leaves
    unfolding running
    running_kept f = bind_keeps (block_in d f) _ Leaves (λ b _. bind_keeps (known arms.Code (slice_get b.code (in_pass b f).at)) _ Leaves (λ i _. instructed_kept (past (in_pass b f)) i))
