-- Each line that an instruction says is short.
use Rattle.std.proofs.Common.{◌≡◌, refl, inl, inr, ℕ, suc, Bool, true, false, cond, not, List, [], ◌∷◌, ◌++◌, Option, None, Some, Ok, Err}
use Rattle.std.specs.List.{list_all}
use Rattle.std.specs.Prelude.{IfOk, IfSome, codes, length, nat_lt, slice_get}
use Rattle.ui_machine.specs.declared.arm.Arm.TheVariants as arms
use Rattle.ui_machine.specs.Definition.{Definition}
use Rattle.ui_machine.specs.Definition.Kinds.{Kind}
use Rattle.ui_machine.specs.Definition.Lookups.{place_at, place_of, program_at, program_of, specs_of, type_of}
use Rattle.ui_machine.specs.Definition.Places.{Place}
use Rattle.ui_machine.specs.Definition.Properties.{is_construct_only, is_readable, is_writable}
use Rattle.ui_machine.specs.Definition.Programs.{Arithmetic, Comparison, Connect, Instruction}
use Rattle.ui_machine.specs.Definition.Programs as words
use Rattle.ui_machine.specs.Definition.Values.{Value}
use Rattle.ui_machine.specs.Definition.Values as values
use Rattle.ui_machine.specs.Instructions.{in_front, instruction_step}
use Rattle.ui_machine.specs.Instructions.Arithmetic.{bytes_of, conjunction, comparing, converting, disjunction, gives_from, joining, most_bytes, negating, reckoning, sameness, within_bytes}
use Rattle.ui_machine.specs.Instructions.Jumps.{branching, branching_null, jumping, null_of, returned, returning}
use Rattle.ui_machine.specs.Instructions.Objects.{adopting, creating, disposed_once, disposing, freezing, has_room_for_object, made_new, look_up_object, orphaning, sinking, thaw_notify}
use Rattle.ui_machine.specs.Instructions.Peers.{calling}
use Rattle.ui_machine.specs.Instructions.Properties.{set_property, get_property, set_from, slot_at, notify_from_program, then_goes_on}
use Rattle.ui_machine.specs.Instructions.Registers.{clearing, constant, data_in, goes_on, moving, operand_in, tells, text_in, truth_in, value_in, values_in, whole_in, with_register, written_to}
use Rattle.ui_machine.specs.Instructions.Signals.{Emit, blocking, connecting, connection_by_code, disconnecting, emitting, on_handlers, signal_in, signal_to_emit, unbinding, unblocking}
use Rattle.ui_machine.specs.Instructions.Sources.{Attach, attaching, removing, with_source}
use Rattle.ui_machine.specs.Outcome.{After, Answer, known, only_if}
use Rattle.ui_machine.specs.Output.Lines as lines
use Rattle.ui_machine.specs.Rules.Accumulation.{collecting, down_to_emission, down_to_source, given_down}
use Rattle.ui_machine.specs.Rules.Children.{adopted, is_unadoptable, orphaned, with_family}
use Rattle.ui_machine.specs.Rules.Connections.{Connection, blocked, connected, detail_in, disconnected, has_room_for_handler, is_too_late, unblocked, with_handler, with_handlers_on}
use Rattle.ui_machine.specs.Rules.Construction.{construction, has_valid_default, making, new_object, peer_to_take, with_object}
use Rattle.ui_machine.specs.Rules.Disposal.{closing, disposed, is_first, peer_of, said_if, without_object}
use Rattle.ui_machine.specs.Rules.NotifyQueue.{frozen_less, frozen_more, raised}
use Rattle.ui_machine.specs.Rules.Programs.{all_fit}
use Rattle.ui_machine.specs.Rules.Transform.{kind_fits}
use Rattle.ui_machine.specs.Rules.Sets.{is_disposed, raising, spec_at}
use Rattle.ui_machine.specs.State.Bindings.{is_binding}
use Rattle.ui_machine.specs.State.Config.{Left, Started, World, peer_at, said, starts}
use Rattle.ui_machine.specs.State.Objects.{Object, asked, changed, class_in, living, object_at, value_at}
use Rattle.ui_machine.specs.State.Peers.{Peer, closed_peer, method_number, method_of, no_peer}
use Rattle.ui_machine.specs.Seq.{write}
use Rattle.ui_machine.specs.State.Sources as sources
use Rattle.ui_machine.specs.State.Tasks.{Answering, Calling, Constructing, Emission, Emitting, Frame, PlanEntry, Task}
use Rattle.ui_machine.specs.Output.Text.{text_of_line}
use Rattle.machine_laws.proofs.KeptProofs.{bind_keeps, cond_keeps, kept_at, only_keeps}
use Rattle.law_steps.proofs.Instructed.Inverse.{known_is}
use Rattle.ui_machine.specs.Output.Lines.{Line}
use Rattle.law_typing.specs.Laws.{IsIn}
use Rattle.law_short_texts.proofs.Entries.{there}
use Rattle.law_line_lengths.specs.LineLengths.{IsLikeLineOf, IsLikeNameOf, limit_words}
use Rattle.law_line_lengths.specs.StepLines.{Grows, HasLikePeers, IsLikePeerAt, IsLikePeerOf}
use Rattle.law_line_lengths.proofs.GrowthProofs.{grows_more, grows_not, grows_once}
use Rattle.law_line_lengths.proofs.NameProofs.{type_like}

module _ (d : Definition) (w : World) (peers : HasLikePeers d w) where
  abbrev pub Says : World → Type 0
  Says v = Grows d w.transcript v.transcript

  abbrev pub Kept : Started → Type 0
  Kept s = Says s.world

  still : Says w
  still = grows_not d w.transcript

  once : (line : Line) → IsLikeLineOf d line → Grows d w.transcript (w.transcript ++ text_of_line d.types line ∷ [])
  once line is = grows_once d w.transcript line is

  gives_kept : (v : World) → Says v → (to : ℕ) (x : Option Value) (f : Frame) → IfOk (written_to v to x f) Kept
  unfolding written_to
  gives_kept v kept to x f = bind_keeps (with_register to x f.registers) _ Kept (λ r _. kept)

  -- a register is written
  writes : (to : ℕ) (x : Option Value) (f : Frame) → IfOk (written_to w to x f) Kept
  writes to x f = gives_kept w still to x f

  moves : (f : Frame) (to from : ℕ) → IfOk (moving w f to from) Kept
  unfolding moving
  moves f to from = bind_keeps (value_in f from) _ Kept (λ v _. writes to (Some v) f)

  reckons : (f : Frame) (op : Arithmetic) (to a b : ℕ) → IfOk (reckoning w f op to a b) Kept
  unfolding reckoning
  reckons f op to a b = bind_keeps (whole_in f a) _ Kept (λ m _. bind_keeps (whole_in f b) _ Kept (λ n _. only_keeps _ _ _ Kept (writes to _ f)))

  compares : (f : Frame) (op : Comparison) (to a b : ℕ) → IfOk (comparing w f op to a b) Kept
  unfolding comparing
  compares f op to a b = bind_keeps (whole_in f a) _ Kept (λ m _. bind_keeps (whole_in f b) _ Kept (λ n _. only_keeps _ _ _ Kept (writes to _ f)))

  sames : (f : Frame) (to a b : ℕ) → IfOk (sameness w f to a b) Kept
  unfolding sameness
  sames f to a b = bind_keeps (value_in f a) _ Kept (λ u _. bind_keeps (value_in f b) _ Kept (λ v _. only_keeps _ _ _ Kept (writes to _ f)))

  negates : (f : Frame) (to a : ℕ) → IfOk (negating w f to a) Kept
  unfolding negating
  negates f to a = bind_keeps (truth_in f a) _ Kept (λ p _. writes to _ f)

  both : (f : Frame) (to a b : ℕ) → IfOk (conjunction w f to a b) Kept
  unfolding conjunction
  both f to a b = bind_keeps (truth_in f a) _ Kept (λ p _. bind_keeps (truth_in f b) _ Kept (λ q _. writes to _ f))

  either : (f : Frame) (to a b : ℕ) → IfOk (disjunction w f to a b) Kept
  unfolding disjunction
  either f to a b = bind_keeps (truth_in f a) _ Kept (λ p _. bind_keeps (truth_in f b) _ Kept (λ q _. writes to _ f))

  joins : (f : Frame) (to a b : ℕ) → IfOk (joining d w f to a b) Kept
  unfolding joining
  joins f to a b = bind_keeps (text_in f a) _ Kept (λ s _. bind_keeps (text_in f b) _ Kept (λ t _. by (bytes_of s ++ bytes_of t)))
    where
      by : (s : List ℕ) → IfOk (gives_from (within_bytes d w s) to f) Kept
      by s = long (nat_lt most_bytes (length s))
        where
          long : (b : Bool) → IfOk (gives_from (cond b (record { state = said d w (lines.limit (codes "join")); answer = values.text None }) (record { state = w; answer = values.text (Some s) })) to f) Kept
          long true = gives_kept (said d w (lines.limit (codes "join"))) (once (lines.limit (codes "join")) (inr (inr (inr (inl refl))))) to (Some (values.text None)) f
          long false = writes to (Some (values.text (Some s))) f

  converts : (f : Frame) (to a : ℕ) (kind : Kind) → IfOk (converting d w f to a kind) Kept
  unfolding converting
  converts f to a kind = bind_keeps (value_in f a) _ Kept (λ v _. only_keeps _ _ _ Kept (writes to _ f))

  -- ** properties

  gets : (f : Frame) (to object : ℕ) (name : List ℕ) → IfOk (get_property d w f to object name) Kept
  unfolding get_property
  gets f to object name = bind_keeps (operand_in w f object) _ Kept (λ id _. bind_keeps (slot_at d w id name) _ Kept (λ slot _.
      bind_keeps (spec_at d w.objects id slot) _ Kept (λ s _. bind_keeps (asked w.objects id (value_at slot)) _ Kept (λ v _. only_keeps _ _ _ Kept (writes to _ f)))))

  sets_from : (f : Frame) (id slot from : ℕ) → IfOk (set_from w f id slot from) Kept
  unfolding set_from
  sets_from f id slot from = bind_keeps (value_in f from) _ Kept (λ v _. still)

  assigns : (f : Frame) (object : ℕ) (name : List ℕ) (from : ℕ) → IfOk (set_property d w f object name from) Kept
  unfolding set_property
  assigns f object name from = bind_keeps (operand_in w f object) _ Kept (λ id _. bind_keeps (slot_at d w id name) _ Kept (λ slot _.
      bind_keeps (spec_at d w.objects id slot) _ Kept (λ s _.
      only_keeps (is_writable s) arms.Flags (only_if (not (is_construct_only s)) arms.ConstructOnly (set_from w f id slot from)) Kept
      (only_keeps (not (is_construct_only s)) arms.ConstructOnly (set_from w f id slot from) Kept (sets_from f id slot from)))))

  raises : (f : Frame) (id slot : ℕ) → IfOk (then_goes_on f (raising w id slot)) Kept
  unfolding then_goes_on raising
  raises f id slot = bind_keeps (raising w id slot) _ Kept (λ s is. kept_at Kept (raising w id slot) s (bind_keeps (changed w.objects id (raised slot)) _ Kept (λ r _. still)) is)

  notifies : (f : Frame) (object : ℕ) (name : List ℕ) → IfOk (notify_from_program d w f object name) Kept
  unfolding notify_from_program
  notifies f object name = bind_keeps (operand_in w f object) _ Kept (λ id _. bind_keeps (slot_at d w id name) _ Kept (λ slot _.
      bind_keeps (spec_at d w.objects id slot) _ Kept (λ s _. cond_keeps (is_readable s) _ _ Kept (raises f id slot) still)))

  -- ** objects

  names : (f : Frame) (to : ℕ) (id : List ℕ) → IfOk (look_up_object d w f to id) Kept
  unfolding look_up_object
  names f to id = bind_keeps (known arms.Code (place_of d id)) _ Kept (λ place _. bind_keeps (known arms.Code (place_at d place)) _ Kept (λ p _. only_keeps _ _ _ Kept (writes to _ f)))

  pub makes : (place : ℕ) (peer : Option ℕ) (held : Bool) → IfOk (making d w place peer held) Kept
  unfolding making
  makes place peer held = bind_keeps (known arms.Code (place_at d place)) _ Kept (λ p _.
      only_keeps (not (type_of d p.class).is_abstract) arms.Abstract (only_if (list_all (has_valid_default d) (specs_of d p.class)) arms.Value (begun p)) Kept
      (only_keeps (list_all (has_valid_default d) (specs_of d p.class)) arms.Value (begun p) Kept (once (lines.construct (suc (length w.objects)) (type_of d p.class).name) (type_like d p.class))))
    where
      begun : Place → Answer Started
      begun p = starts (said d (with_object d w (new_object d place p peer)) (lines.construct (suc (length w.objects)) (type_of d p.class).name))
          (Constructing (suc (length w.objects)) (construction d w place p) held ∷ [])

  makes_new : (f : Frame) (to place : ℕ) (p : Place) → IfOk (made_new d w f to place p) Kept
  unfolding made_new
  makes_new f to place p = bind_keeps (making d w place (peer_to_take d w p) false) _ Kept (λ made is.
      bind_keeps (with_register to _ f.registers) _ Kept (λ r _. kept_at Kept (making d w place (peer_to_take d w p) false) made (makes place (peer_to_take d w p) false) is))

  creates : (rest : List Task) (f : Frame) (to : ℕ) (id : List ℕ) → IfOk (creating d w rest f to id) Kept
  unfolding creating
  creates rest f to id = bind_keeps (known arms.Code (place_of d id)) _ Kept (λ place is. bind_keeps (known arms.Code (place_at d place)) _ Kept (λ p _.
      only_keeps _ _ _ Kept (cond_keeps (has_room_for_object d w _ p) _ _ Kept (makes_new f to place p) (gives_kept (said d w (lines.limit (codes "new"))) (once (lines.limit (codes "new")) (inl refl)) to (Some (values.object None)) f))))

  sinks : (f : Frame) (object : ℕ) → IfOk (sinking w f object) Kept
  unfolding sinking
  sinks f object = bind_keeps (operand_in w f object) _ Kept (λ id _. still)

  orphans : (f : Frame) (object : ℕ) → IfOk (orphaning d w f object) Kept
  unfolding orphaning
  orphans f object = bind_keeps (operand_in w f object) _ Kept (λ id _. bind_keeps (object_at w.objects id) _ Kept (λ o _. by id o.parent))
    where
      by : (id : ℕ) (parent : Option ℕ) → Says (orphaned d w id parent)
      by id None = still
      by id (Some parent) = once (lines.orphan id) tt

  -- the close of a peer
  closes : (v : World) (peer : Option ℕ) → IfSome peer (IsLikePeerAt d v) → Says v → IfOk (closing d peer v) Says
  unfolding closing
  closes v None own kept = kept
  closes v (Some number) own kept = bind_keeps (known arms.Code (slice_get v.peers number)) _ Says (λ p is.
      shut p p.state.is_open (there (IsLikePeerOf d) (slice_get v.peers number) p own (known_is arms.Code (slice_get v.peers number) p is)).0)
    where
      shut : (p : Peer) (b : Bool) → IsLikeNameOf d p.name → Says (cond b (said d (record v { peers = write no_peer v.peers number (closed_peer p) }) (lines.close p.name)) v)
      shut p true name = grows_more d w.transcript v.transcript kept (lines.close p.name) name
      shut p false name = kept

  -- the peer of an object, if it lives and has one
  own_like : (id : ℕ) → IfSome (peer_of (living w.objects id)) (IsLikePeerAt d w)
  own_like id = by (living w.objects id) refl
    where
      has : (o : Object) → living w.objects id ≡ Some o → (peer : Option ℕ) → o.peer ≡ peer → IfSome peer (IsLikePeerAt d w)
      has o lives None e = tt
      has o lives (Some number) e = peers id number o lives e

      by : (x : Option Object) → living w.objects id ≡ x → IfSome (peer_of x) (IsLikePeerAt d w)
      by None e = tt
      by (Some o) e = has o e o.peer refl

  -- a dispose says that it is the first, and closes the peer
  pub disposed_kept : (id : ℕ) → IfOk (disposed d w id) Says
  disposed_kept id = go (is_first (living w.objects id))
    where
      go : (first : Bool) → IfOk (closing d (peer_of (living w.objects id)) (said_if d first (without_object d w id) (lines.dispose id))) Says
      go true = closes (said_if d true (without_object d w id) (lines.dispose id)) (peer_of (living w.objects id)) (own_like id) (once (lines.dispose id) tt)
      go false = closes (without_object d w id) (peer_of (living w.objects id)) (own_like id) still

  disposes : (f : Frame) (object : ℕ) → IfOk (disposing d w f object) Kept
  unfolding disposing
  disposes f object = bind_keeps (operand_in w f object) _ Kept (λ id at. bind_keeps (disposed_once d w id) _ Kept (λ v is.
      kept_at Says (disposed_once d w id) v (go id (is_disposed (living w.objects id))) is))
    where
      go : (id : ℕ) (gone : Bool) → IfOk (cond gone (Ok w) (disposed d w id)) Says
      go id true = still
      go id false = disposed_kept id

  pub adopted_kept : (p c : ℕ) → IfOk (adopted d w p c) (λ r. Says r.state)
  unfolding adopted
  adopted_kept p c = bind_keeps (object_at w.objects p) _ Family (λ o _. bind_keeps (object_at w.objects c) _ Family (λ i _. by (is_unadoptable p o c i)))
    where
      Family : After World Bool → Type 0
      Family = λ r. Says r.state

      by : (b : Bool) → Family (cond b (record { state = said d w (lines.limit (codes "adopt")); answer = false }) (record { state = with_family d w p c; answer = true }))
      by true = once (lines.limit (codes "adopt")) (inr (inl refl))
      by false = once (lines.adopt p c) tt

  adopts : (f : Frame) (to parent child : ℕ) → IfOk (adopting d w f to parent child) Kept
  unfolding adopting
  adopts f to parent child = bind_keeps (operand_in w f parent) _ Kept (λ p _. bind_keeps (operand_in w f child) _ Kept (λ c _.
      bind_keeps (adopted d w p c) _ Kept (λ family is.
      gives_kept family.state (kept_at (λ (r : After World Bool). Says r.state) (adopted d w p c) family (adopted_kept p c) is) to (Some (values.bool family.answer)) f)))

  freezes : (f : Frame) (object : ℕ) → IfOk (freezing w f object) Kept
  unfolding freezing
  freezes f object = bind_keeps (operand_in w f object) _ Kept (λ id _. bind_keeps (changed w.objects id frozen_more) _ Kept (λ r _. still))

  thaws : (f : Frame) (object : ℕ) → IfOk (thaw_notify w f object) Kept
  unfolding thaw_notify
  thaws f object = bind_keeps (operand_in w f object) _ Kept (λ id _. bind_keeps (changed w.objects id frozen_less) _ Kept (λ r _. still))

  -- ** signals

  emits : (f : Frame) (object : ℕ) (e : Emit) → IfOk (emitting d w f object e) Kept
  unfolding emitting
  emits f object e = bind_keeps (operand_in w f object) _ Kept (λ id _. bind_keeps (signal_to_emit d w id e.signal) _ Kept (λ signal _.
      bind_keeps (detail_in d w id signal e.detail) _ Kept (λ detail _. bind_keeps (values_in f e.args) _ Kept (λ given _. still))))

  connects_one : (to_come : ℕ) (c : Connection) (to : ℕ) (f : Frame) → IfOk (tells (connected d w to_come c) to f) Kept
  connects_one to_come c to f = late (is_too_late w.objects c.object c.arg)
    where
      room : (b : Bool) → IfOk (tells (cond b (record { state = with_handler w c; answer = true }) (record { state = said d w (lines.limit (codes "connect")); answer = false })) to f) Kept
      room true = gives_kept (with_handler w c) still to (Some (values.bool true)) f
      room false = gives_kept (said d w (lines.limit (codes "connect"))) (once (lines.limit (codes "connect")) (inr (inr (inl refl)))) to (Some (values.bool false)) f

      late : (b : Bool) → IfOk (tells (cond b (record { state = w; answer = false })
          (cond (has_room_for_handler d w to_come c.object c.signal) (record { state = with_handler w c; answer = true }) (record { state = said d w (lines.limit (codes "connect")); answer = false }))) to f) Kept
      late true = writes to (Some (values.bool false)) f
      late false = room (has_room_for_handler d w to_come c.object c.signal)

  connects : (rest : List Task) (f : Frame) (to object : ℕ) (c : Connect) → IfOk (connecting d w rest f to object c) Kept
  unfolding connecting
  connects rest f to object c = bind_keeps (operand_in w f object) _ Kept (λ id _. bind_keeps (signal_in d w id c.signal) _ Kept (λ signal _.
      bind_keeps (detail_in d w id signal c.detail) _ Kept (λ detail _. bind_keeps (known arms.Code (program_of d c.program)) _ Kept (λ program _.
      bind_keeps (data_in w f c.with) _ Kept (λ arg _. connects_one _ (connection_by_code id signal detail program arg c) to f)))))

  changes : (f : Frame) (object : ℕ) (program : List ℕ) (change : World → ℕ → ℕ → World) → ((id number : ℕ) → Says (change w id number))
      → IfOk (on_handlers d w f object program change) Kept
  unfolding on_handlers
  changes f object program change kept = bind_keeps (operand_in w f object) _ Kept (λ id _. bind_keeps (known arms.Code (program_of d program)) _ Kept (λ number _. kept id number))

  -- ** sources, peers and jumps

  attaches : (f : Frame) (to : ℕ) (a : Attach) → IsIn a.word limit_words → IfOk (attaching d w f to a) Kept
  unfolding attaching
  attaches f to a word = bind_keeps (known arms.Code (program_of d a.program)) _ Kept (λ program _. bind_keeps (data_in w f a.with) _ Kept (λ arg _. room program arg (sources.has_room w.sources w.last_source)))
    where
      room : (program : ℕ) (arg : Option ℕ) (b : Bool)
          → IfOk (tells (cond b (record { state = with_source w a program arg; answer = true }) (record { state = said d w (lines.limit a.word); answer = false })) to f) Kept
      room program arg true = gives_kept (with_source w a program arg) still to (Some (values.bool true)) f
      room program arg false = gives_kept (said d w (lines.limit a.word)) (once (lines.limit a.word) word) to (Some (values.bool false)) f

  removes : (f : Frame) (program : List ℕ) → IfOk (removing d w f program) Kept
  unfolding removing
  removes f program = bind_keeps (known arms.Code (program_of d program)) _ Kept (λ number _. still)

  calls : (f : Frame) (to object : ℕ) (name args : List ℕ) → IfOk (calling d w f to object name args) Kept
  unfolding calling
  calls f to object name args = bind_keeps (operand_in w f object) _ Kept (λ id _. bind_keeps (object_at w.objects id) _ Kept (λ o _. bind_keeps (known arms.Call o.peer) _ Kept (λ peer _.
      bind_keeps (known arms.Call (peer_at w peer)) _ Kept (λ p _. bind_keeps (known arms.Call (method_number p name)) _ Kept (λ number _. bind_keeps (known arms.Call (method_of p number)) _ Kept (λ m _.
      bind_keeps (values_in f args) _ Kept (λ given _. only_keeps (all_fit (kind_fits (class_in w.objects) d.types) given m.params) arms.Call (only_if (nat_lt to (length f.registers)) arms.Code (asks id peer number given)) Kept
      (only_keeps (nat_lt to (length f.registers)) arms.Code (asks id peer number given) Kept still))))))))
    where
      asks : (id peer number : ℕ) → List Value → Answer Started
      asks id peer number given = goes_on w (Calling (record { object = id; peer = peer; method = number; args = given; to = to }) ∷ []) f

  jumps : (f : Frame) (to : ℕ) → IfOk (jumping d w f to) Kept
  unfolding jumping
  jumps f to = bind_keeps (known arms.Code (program_at d f.program)) _ Kept (λ p _. bind_keeps (known arms.Code (slice_get p.blocks to)) _ Kept (λ b _. still))

  branches : (f : Frame) (on then_to else_to : ℕ) → IfOk (branching d w f on then_to else_to) Kept
  unfolding branching
  branches f on then_to else_to = bind_keeps (truth_in f on) _ Kept (λ p _. jumps f (cond p then_to else_to))

  branches_null : (f : Frame) (on then_to else_to : ℕ) → IfOk (branching_null d w f on then_to else_to) Kept
  unfolding branching_null
  branches_null f on then_to else_to = bind_keeps (value_in f on) _ Kept (λ v _. bind_keeps (null_of v) _ Kept (λ p _. jumps f (cond p then_to else_to)))

  -- ** what an instruction leaves

  abbrev Leaves : Left → Type 0
  Leaves l = Says l.world

  begins : (rest : List Task) (a : Answer Started) → IfOk a Kept → IfOk (in_front rest a) Leaves
  unfolding in_front
  begins rest (Ok s) kept = kept
  begins rest (Err arm) kept = tt

  down_emission : (e : Emission) (entries : List PlanEntry) (rest : List Task) (given : Option Value) → IfOk (down_to_emission d w e entries rest given) Leaves
  unfolding down_to_emission
  down_emission e entries rest given = bind_keeps (collecting d w e entries given) _ Leaves (λ t _. still)

  down_source : (source : ℕ) (rest : List Task) (given : Option Value) → IfOk (down_to_source w source rest given) Leaves
  unfolding down_to_source
  down_source source rest (Some (values.bool keep)) = still
  down_source source rest None = tt
  down_source source rest (Some (values.whole kind n)) = tt
  down_source source rest (Some (values.text s)) = tt
  down_source source rest (Some (values.enum type n)) = tt
  down_source source rest (Some (values.flags type bits)) = tt
  down_source source rest (Some (values.object o)) = tt

  down : (rest : List Task) (given : Option Value) → IfOk (given_down d w rest given) Leaves
  down (Emitting e entries ∷ rest) given = down_emission e entries rest given
  down (Answering source ∷ rest) given = down_source source rest given
  down rest None = still
  down rest (Some v) = tt

  returns : (f : Frame) (rest : List Task) (from : Option ℕ) → IfOk (returning d w f rest from) Leaves
  unfolding returning
  returns f rest from = bind_keeps (returned d w f from) _ Leaves (λ given _. down rest given)

  pub instructed_kept : (rest : List Task) (f : Frame) (i : Instruction) → IfOk (instruction_step d w rest f i) Leaves
  instructed_kept rest f (words.const to kind v) = begins rest (constant w f to v) (writes to (Some v) f)
  instructed_kept rest f (words.move to from) = begins rest (moving w f to from) (moves f to from)
  instructed_kept rest f (words.clear to) = begins rest (clearing w f to) (writes to None f)
  instructed_kept rest f (words.arithmetic operation to a b) = begins rest (reckoning w f operation to a b) (reckons f operation to a b)
  instructed_kept rest f (words.compare comparison to a b) = begins rest (comparing w f comparison to a b) (compares f comparison to a b)
  instructed_kept rest f (words.same to a b) = begins rest (sameness w f to a b) (sames f to a b)
  instructed_kept rest f (words.negate to a) = begins rest (negating w f to a) (negates f to a)
  instructed_kept rest f (words.both to a b) = begins rest (conjunction w f to a b) (both f to a b)
  instructed_kept rest f (words.either to a b) = begins rest (disjunction w f to a b) (either f to a b)
  instructed_kept rest f (words.join to a b) = begins rest (joining d w f to a b) (joins f to a b)
  instructed_kept rest f (words.convert to a kind) = begins rest (converting d w f to a kind) (converts f to a kind)
  instructed_kept rest f (words.get to object name) = begins rest (get_property d w f to object name) (gets f to object name)
  instructed_kept rest f (words.set object name from) = begins rest (set_property d w f object name from) (assigns f object name from)
  instructed_kept rest f (words.object to id) = begins rest (look_up_object d w f to id) (names f to id)
  instructed_kept rest f (words.new to id) = begins rest (creating d w rest f to id) (creates rest f to id)
  instructed_kept rest f (words.sink object) = begins rest (sinking w f object) (sinks f object)
  instructed_kept rest f (words.orphan object) = begins rest (orphaning d w f object) (orphans f object)
  instructed_kept rest f (words.dispose object) = begins rest (disposing d w f object) (disposes f object)
  instructed_kept rest f (words.adopt to parent child) = begins rest (adopting d w f to parent child) (adopts f to parent child)
  instructed_kept rest f (words.freeze object) = begins rest (freezing w f object) (freezes f object)
  instructed_kept rest f (words.thaw object) = begins rest (thaw_notify w f object) (thaws f object)
  instructed_kept rest f (words.emit into object name detail args) = begins rest (emitting d w f object _) (emits f object (record { into = into; signal = name; detail = detail; args = args }))
  instructed_kept rest f (words.notify object name) = begins rest (notify_from_program d w f object name) (notifies f object name)
  instructed_kept rest f (words.connect to object c) = begins rest (connecting d w rest f to object c) (connects rest f to object c)
  instructed_kept rest f (words.disconnect object program) = begins rest (disconnecting d w f object program)
      (changes f object program disconnected (λ id number. still))
  instructed_kept rest f (words.block object program) = begins rest (blocking d w f object program) (changes f object program (with_handlers_on blocked) (λ id number. still))
  instructed_kept rest f (words.unblock object program) = begins rest (unblocking d w f object program) (changes f object program (with_handlers_on unblocked) (λ id number. still))
  instructed_kept rest f words.stop = still
  instructed_kept rest f (words.unbind name) = begins rest (unbinding d w f name)
      (only_keeps (is_binding d name) arms.Code _ Kept still)
  instructed_kept rest f (words.idle to program priority with) = begins rest (attaching d w f to _) (attaches f to (record { word = codes "idle"; program = program; priority = priority; interval = None; with = with }) (inr (inr (inr (inr (inl refl))))))
  instructed_kept rest f (words.timeout to program priority interval with) = begins rest (attaching d w f to _) (attaches f to (record { word = codes "timeout"; program = program; priority = priority; interval = Some interval; with = with }) (inr (inr (inr (inr (inr (inl refl)))))))
  instructed_kept rest f (words.remove program) = begins rest (removing d w f program) (removes f program)
  instructed_kept rest f (words.call to object name args) = begins rest (calling d w f to object name args) (calls f to object name args)
  instructed_kept rest f (words.jump to) = begins rest (jumping d w f to) (jumps f to)
  instructed_kept rest f (words.branch on then_to else_to) = begins rest (branching d w f on then_to else_to) (branches f on then_to else_to)
  instructed_kept rest f (words.branch_null on then_to else_to) = begins rest (branching_null d w f on then_to else_to) (branches_null f on then_to else_to)
  instructed_kept rest f (words.return from) = returns f rest from
