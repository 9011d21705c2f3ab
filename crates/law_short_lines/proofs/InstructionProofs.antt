-- An instruction leaves objects with short peers, and tasks that are short as they become due.
use Rattle.std.proofs.Common.{◌≡◌, ℕ, suc, ◌≤◌, Bool, true, false, cond, not, List, [], ◌∷◌, ◌++◌, length, Option, None, Some, Ok, Err, arith}
use Rattle.std.specs.List.{list_all}
use Rattle.std.specs.Prelude.{IfOk, IfSome, ⊤, codes, nat_lt, slice_get}
use Rattle.ui_machine.specs.declared.arm.Arm.TheVariants as arms
use Rattle.ui_machine.specs.Definition.{Definition}
use Rattle.ui_machine.specs.Definition.Lookups.{place_at, place_of, program_at, program_of, specs_of, type_of}
use Rattle.ui_machine.specs.Definition.Places.{Place}
use Rattle.ui_machine.specs.Definition.Properties.{is_readable}
use Rattle.ui_machine.specs.Definition.Programs.{Block, Connect, Instruction, Program}
use Rattle.ui_machine.specs.Definition.Programs as words
use Rattle.ui_machine.specs.Definition.Signals.{Method, Signal}
use Rattle.ui_machine.specs.Definition.Values.{Value}
use Rattle.ui_machine.specs.Definition.Values as values
use Rattle.ui_machine.specs.Instructions.{in_front, instruction_step, running}
use Rattle.ui_machine.specs.Instructions.Arithmetic.{bytes_of, conjunction, comparing, converting, disjunction, gives_from, joining, most_bytes, negating, reckoning, sameness, within_bytes}
use Rattle.ui_machine.specs.Instructions.Jumps.{block_in, branching, branching_null, in_pass, jumping, past, returned, returning}
use Rattle.ui_machine.specs.Instructions.Objects.{adopting, creating, disposed_once, disposing, freezing, has_room_for_object, made_new, look_up_object, orphaning, sinking, thaw_notify}
use Rattle.ui_machine.specs.Instructions.Peers.{calling}
use Rattle.ui_machine.specs.Instructions.Properties.{set_property, get_property, set_from, notify_from_program, slot_at, then_goes_on}
use Rattle.ui_machine.specs.Instructions.Registers.{data_in, goes_on, moving, operand_in, tells, text_in, values_in, with_register, written_to}
use Rattle.ui_machine.specs.Instructions.Signals.{Emit, connecting, connection_by_code, emitting, on_handlers, signal_in, signal_to_emit}
use Rattle.ui_machine.specs.Instructions.Sources.{Attach, attaching, removing, with_source}
use Rattle.ui_machine.specs.Outcome.{After, Answer, known, only_if}
use Rattle.ui_machine.specs.Output.Lines as lines
use Rattle.ui_machine.specs.Rules.Accumulation.{collected, collecting, down_to_emission, down_to_source, entries_after, given_down, is_last, stopped, suits}
use Rattle.ui_machine.specs.Rules.Build.{to_connect, to_make}
use Rattle.ui_machine.specs.Rules.Children.{adopted}
use Rattle.ui_machine.specs.Rules.Connections.{Connection, connected, detail_in, has_room_for_handler, is_too_late, with_handler}
use Rattle.ui_machine.specs.Rules.Construction.{construction, has_shape, has_valid_default, making, new_object, peer_left, peer_to_take, with_object}
use Rattle.ui_machine.specs.Rules.Disposal.{disposed}
use Rattle.ui_machine.specs.Rules.EmissionPlan.{signal_at}
use Rattle.ui_machine.specs.Rules.NotifyQueue.{frozen_less, frozen_more, raised}
use Rattle.ui_machine.specs.Rules.Programs.{all_fit}
use Rattle.ui_machine.specs.Rules.Sets.{is_disposed, raising, spec_at}
use Rattle.ui_machine.specs.Rules.Transform.{kind_fits}
use Rattle.ui_machine.specs.State.Config.{Left, Started, World, peer_at, said, starts}
use Rattle.ui_machine.specs.State.Objects.{Object, Objects, changed, class_in, living, object_at}
use Rattle.ui_machine.specs.State.Peers.{Peer, method_number, method_of}
use Rattle.ui_machine.specs.State.Sources as sources
use Rattle.ui_machine.specs.State.Tasks.{Answering, Calling, Constructing, Emission, Emitting, Frame, Notifying, PlanEntry, Running, Task}
use Rattle.machine_laws.proofs.KeptProofs.{bind_keeps, cond_keeps, only_keeps}
use Rattle.law_typing.specs.Verdict.Accepted.{Each}
use Rattle.law_steps.proofs.Instructed.Inverse.{known_is}
use Rattle.law_short_texts.proofs.Entries.{bind_with, each_get, known_with, there}
use Rattle.law_held_peers.proofs.Changes.{peer_seen}
use Rattle.law_held_peers.proofs.HolderProofs.{read_there}
use Rattle.law_line_lengths.proofs.NameProofs.{fit_lengths, only_when}
use Rattle.law_line_lengths.specs.LineLengths.{most_arguments}
use Rattle.law_short_lines.specs.ShortParts.{HasShortDetails, HasShortPool, IsShortDetail, IsShortMethod, IsShortPeer, IsShortPeerAt, SaysShortDetail}
use Rattle.law_short_lines.proofs.Objects.{Have, adopts_have, disposes_have, less_have, made_have, more_have, orphans_have, raised_have}
use Rattle.law_short_lines.proofs.PeerParts.{left_short}
use Rattle.law_short_lines.proofs.Tasks.{AreDue, detail_short, due_append}
use Rattle.std.proofs.Common.{ap, subst, ◌∙◌}

-- ** parts of steps

module _ (d : Definition) (w : World) (pool : HasShortPool d w.peers) (h : Have (IsShortPeerAt d w.peers) w.objects) where
  -- the peers of objects are short in a world
  abbrev pub Holds : World → Type 0
  Holds v = Have (IsShortPeerAt d w.peers) v.objects

  -- and so are the tasks that a part of a step starts
  abbrev pub Starts : Started → Type 0
  Starts s = Holds s.world × AreDue d w.peers s.tasks

  -- or the agenda that it leaves
  abbrev pub Leaves : Left → Type 0
  Leaves l = Holds l.world × AreDue d w.peers l.agenda

  -- the objects are as before, and nothing is asked
  pub still : Holds w × ⊤
  still = (h, tt)

  -- a notification is raised
  pub raises : (v : World) → Holds v → (id slot : ℕ) → IfOk (raising v id slot) Starts
  unfolding raising
  raises v kept id slot = bind_with (changed v.objects id (raised slot)) _ (λ (r : After Objects Bool). Have (IsShortPeerAt d w.peers) r.state) Starts
      (raised_have (IsShortPeerAt d w.peers) v.objects kept id slot) (λ r now. (now, by r.answer))
    where
      by : (b : Bool) → AreDue d w.peers (cond b (Notifying id slot ∷ []) [])
      by true = tt
      by false = tt

  -- an object is made, with a peer that is short
  pub makes : (place : ℕ) (peer : Option ℕ) → IfSome peer (IsShortPeerAt d w.peers) → (held : Bool) → IfOk (making d w place peer held) Starts
  unfolding making
  makes place peer own held = bind_keeps (known arms.Code (place_at d place)) _ Starts (λ p _.
      only_keeps (not (type_of d p.class).is_abstract) arms.Abstract (only_if (list_all (has_valid_default d) (specs_of d p.class)) arms.Value (begun p)) Starts
      (only_keeps (list_all (has_valid_default d) (specs_of d p.class)) arms.Value (begun p) Starts
      (made_have (IsShortPeerAt d w.peers) w.objects h (new_object d place p peer) own, tt)))
    where
      begun : Place → Answer Started
      begun p = starts (said d (with_object d w (new_object d place p peer)) (lines.construct (suc (length w.objects)) (type_of d p.class).name))
          (Constructing (suc (length w.objects)) (construction d w place p) held ∷ [])

  -- ** what an instruction starts

  module _ (f : Frame) where
    gives : (v : World) → Holds v → (to : ℕ) (x : Option Value) → IfOk (written_to v to x f) Starts
    unfolding written_to
    gives v kept to x = bind_keeps (with_register to x f.registers) _ Starts (λ r _. (kept, tt))

    -- a register is written
    writes : (to : ℕ) (x : Option Value) → IfOk (written_to w to x f) Starts
    writes to x = gives w h to x

    joins : (to a b : ℕ) → IfOk (joining d w f to a b) Starts
    unfolding joining
    joins to a b = bind_keeps (text_in f a) _ Starts (λ s _. bind_keeps (text_in f b) _ Starts (λ t _. by (bytes_of s ++ bytes_of t)))
      where
        by : (s : List ℕ) → IfOk (gives_from (within_bytes d w s) to f) Starts
        by s = long (nat_lt most_bytes (length s))
          where
            long : (b : Bool) → IfOk (gives_from (cond b (record { state = said d w (lines.limit (codes "join")); answer = values.text None }) (record { state = w; answer = values.text (Some s) })) to f) Starts
            long true = gives (said d w (lines.limit (codes "join"))) h to (Some (values.text None))
            long false = writes to (Some (values.text (Some s)))

    raises_on : (id slot : ℕ) → IfOk (then_goes_on f (raising w id slot)) Starts
    unfolding then_goes_on
    raises_on id slot = bind_with (raising w id slot) _ Starts Starts (raises w h id slot) (λ s now.
        (now.0, due_append d w.peers s.tasks (Running f ∷ []) now.1 tt))

    notifies : (object : ℕ) (name : List ℕ) → IfOk (notify_from_program d w f object name) Starts
    unfolding notify_from_program
    notifies object name = bind_keeps (operand_in w f object) _ Starts (λ id _. bind_keeps (slot_at d w id name) _ Starts (λ slot _.
        bind_keeps (spec_at d w.objects id slot) _ Starts (λ s _. cond_keeps (is_readable s) (then_goes_on f (raising w id slot)) (goes_on w [] f) Starts (raises_on id slot) still)))

    -- ** objects

    -- the peer that is left for a prototype's object
    takes_peer : (place : ℕ) (p : Place) → place_at d place ≡ Some p → IfSome (peer_to_take d w p) (IsShortPeerAt d w.peers)
    takes_peer place p is = by (has_shape d p.class)
      where
        by : (b : Bool) → IfSome (cond b (peer_left w p) None) (IsShortPeerAt d w.peers)
        by true = left_short d w.peers p.peers (pool place p is)
        by false = tt

    makes_new : (to place : ℕ) (p : Place) → place_at d place ≡ Some p → IfOk (made_new d w f to place p) Starts
    unfolding made_new
    makes_new to place p is = bind_with (making d w place (peer_to_take d w p) false) _ Starts Starts (makes place (peer_to_take d w p) (takes_peer place p is) false) (λ made now.
        bind_keeps (with_register to _ f.registers) _ Starts (λ r _. (now.0, due_append d w.peers made.tasks (Running (record f { registers = r }) ∷ []) now.1 tt)))

    creates : (rest : List Task) (to : ℕ) (id : List ℕ) → IfOk (creating d w rest f to id) Starts
    unfolding creating
    creates rest to id = bind_keeps (known arms.Code (place_of d id)) _ Starts (λ place _. bind_keeps (known arms.Code (place_at d place)) _ Starts (λ p is.
        only_keeps p.is_prototype arms.Code _ Starts (cond_keeps (has_room_for_object d w (to_make rest) p) _ _ Starts
        (makes_new to place p (known_is arms.Code (place_at d place) p is))
        (gives (said d w (lines.limit (codes "new"))) h to (Some (values.object None))))))

    orphans : (object : ℕ) → IfOk (orphaning d w f object) Starts
    unfolding orphaning
    orphans object = bind_keeps (operand_in w f object) _ Starts (λ id _. bind_keeps (object_at w.objects id) _ Starts (λ o _.
        (orphans_have (IsShortPeerAt d w.peers) d w h id o.parent, tt)))

    disposes : (object : ℕ) → IfOk (disposing d w f object) Starts
    unfolding disposing
    disposes object = bind_keeps (operand_in w f object) _ Starts (λ id _. bind_with (disposed_once d w id) _ Holds Starts
        (cond_keeps (is_disposed (living w.objects id)) (Ok w) (disposed d w id) Holds h (disposes_have (IsShortPeerAt d w.peers) d w h id)) (λ v now. (now, tt)))

    adopts : (to parent child : ℕ) → IfOk (adopting d w f to parent child) Starts
    unfolding adopting
    adopts to parent child = bind_keeps (operand_in w f parent) _ Starts (λ p _. bind_keeps (operand_in w f child) _ Starts (λ c _.
        bind_with (adopted d w p c) _ (λ (r : After World Bool). Holds r.state) Starts (adopts_have (IsShortPeerAt d w.peers) d w h p c) (λ family now.
        gives family.state now to (Some (values.bool family.answer)))))

    freezes : (object : ℕ) → IfOk (freezing w f object) Starts
    unfolding freezing
    freezes object = bind_keeps (operand_in w f object) _ Starts (λ id _.
        bind_with (changed w.objects id frozen_more) _ (λ (r : After Objects (Unit {0})). Have (IsShortPeerAt d w.peers) r.state) Starts
        (more_have (IsShortPeerAt d w.peers) w.objects h id) (λ r now. (now, tt)))

    thaws : (object : ℕ) → IfOk (thaw_notify w f object) Starts
    unfolding thaw_notify
    thaws object = bind_keeps (operand_in w f object) _ Starts (λ id _.
        bind_with (changed w.objects id frozen_less) _ (λ (r : After Objects (List ℕ)). Have (IsShortPeerAt d w.peers) r.state) Starts
        (less_have (IsShortPeerAt d w.peers) w.objects h id) (λ r now. (now, tt)))

    -- ** signals and sources

    emits : (object : ℕ) (e : Emit) → IsShortDetail e.detail → IfOk (emitting d w f object e) Starts
    unfolding emitting
    emits object e short = bind_keeps (operand_in w f object) _ Starts (λ id _. bind_keeps (signal_to_emit d w id e.signal) _ Starts (λ signal _.
        bind_with (detail_in d w id signal e.detail) _ IsShortDetail Starts (detail_short d w id signal e.detail short) (λ detail now.
        bind_keeps (values_in f e.args) _ Starts (λ given _. (h, (now, tt))))))

    connects_one : (to_come : ℕ) (c : Connection) (to : ℕ) → IfOk (tells (connected d w to_come c) to f) Starts
    connects_one to_come c to = late (is_too_late w.objects c.object c.arg)
      where
        room : (b : Bool) → IfOk (tells (cond b (record { state = with_handler w c; answer = true }) (record { state = said d w (lines.limit (codes "connect")); answer = false })) to f) Starts
        room true = gives (with_handler w c) h to (Some (values.bool true))
        room false = gives (said d w (lines.limit (codes "connect"))) h to (Some (values.bool false))

        late : (b : Bool) → IfOk (tells (cond b (record { state = w; answer = false })
            (cond (has_room_for_handler d w to_come c.object c.signal) (record { state = with_handler w c; answer = true }) (record { state = said d w (lines.limit (codes "connect")); answer = false }))) to f) Starts
        late true = writes to (Some (values.bool false))
        late false = room (has_room_for_handler d w to_come c.object c.signal)

    connects : (rest : List Task) (to object : ℕ) (c : Connect) → IfOk (connecting d w rest f to object c) Starts
    unfolding connecting
    connects rest to object c = bind_keeps (operand_in w f object) _ Starts (λ id _. bind_keeps (signal_in d w id c.signal) _ Starts (λ signal _.
        bind_keeps (detail_in d w id signal c.detail) _ Starts (λ detail _. bind_keeps (known arms.Code (program_of d c.program)) _ Starts (λ program _.
        bind_keeps (data_in w f c.with) _ Starts (λ arg _. connects_one (to_connect rest) (connection_by_code id signal detail program arg c) to)))))

    attaches : (to : ℕ) (a : Attach) → IfOk (attaching d w f to a) Starts
    unfolding attaching
    attaches to a = bind_keeps (known arms.Code (program_of d a.program)) _ Starts (λ program _. bind_keeps (data_in w f a.with) _ Starts (λ arg _. room program arg (sources.has_room w.sources w.last_source)))
      where
        room : (program : ℕ) (arg : Option ℕ) (b : Bool)
            → IfOk (tells (cond b (record { state = with_source w a program arg; answer = true }) (record { state = said d w (lines.limit a.word); answer = false })) to f) Starts
        room program arg true = gives (with_source w a program arg) h to (Some (values.bool true))
        room program arg false = gives (said d w (lines.limit a.word)) h to (Some (values.bool false))

    -- ** calls

    -- the peer of an object that lives
    peer_short : (id : ℕ) (o : Object) → object_at w.objects id ≡ Ok o → (number : ℕ) → known arms.Call o.peer ≡ Ok number → IsShortPeerAt d w.peers number
    peer_short id o there number has =
        h.each id number (ap peer_seen (known_is arms.Operand (living w.objects id) o there) ∙ ap (λ (n : Option ℕ). Some n) (known_is arms.Call o.peer number has))

    -- a method of a short peer has few arguments
    few : (number : ℕ) → IsShortPeerAt d w.peers number → (p : Peer) → known arms.Call (peer_at w number) ≡ Ok p → (k : ℕ) (m : Method) → known arms.Call (method_of p k) ≡ Ok m
        → length m.params ≤ most_arguments d
    few number short p is k m has =
        let peer = subst (IsShortPeer d) (read_there w.peers number p (known_is arms.Call (peer_at w number) p is)) short in
        (there (IsShortMethod d) (method_of p k) m (each_get (IsShortMethod d) p.state.shape peer.1 k) (known_is arms.Call (method_of p k) m has)).1

    calls : (to object : ℕ) (name args : List ℕ) → IfOk (calling d w f to object name args) Starts
    unfolding calling
    calls to object name args = bind_keeps (operand_in w f object) _ Starts (λ id _. bind_keeps (object_at w.objects id) _ Starts (λ o living_one.
        bind_keeps (known arms.Call o.peer) _ Starts (λ peer has. bind_keeps (known arms.Call (peer_at w peer)) _ Starts (λ p is.
        bind_keeps (known arms.Call (method_number p name)) _ Starts (λ number _. bind_keeps (known arms.Call (method_of p number)) _ Starts (λ m of_peer.
        bind_keeps (values_in f args) _ Starts (λ given _.
        only_when (all_fit (kind_fits (class_in w.objects) d.types) given m.params) arms.Call (only_if (nat_lt to (length f.registers)) arms.Code (asks id peer number given)) Starts (λ fits.
        only_keeps (nat_lt to (length f.registers)) arms.Code (asks id peer number given) Starts
        (h, ((peer_short id o living_one peer has, as_many given m fits (few peer (peer_short id o living_one peer has) p is number m of_peer)), tt))))))))))
      where
        asks : (id peer number : ℕ) → List Value → Answer Started
        asks id peer number given = goes_on w (Calling (record { object = id; peer = peer; method = number; args = given; to = to }) ∷ []) f

        as_many : (given : List Value) (m : Method) → all_fit (kind_fits (class_in w.objects) d.types) given m.params ≡ true → length m.params ≤ most_arguments d → length given ≤ most_arguments d
        as_many given m fits most = let same = fit_lengths (kind_fits (class_in w.objects) d.types) given m.params fits in omega (arith, same, most)

  -- ** what comes down

  module _ (rest : List Task) (due : AreDue d w.peers rest) where
    -- an emission that has taken what its program gave
    collects : (e : Emission) (entries : List PlanEntry) (given : Option Value) → IfOk (collecting d w e entries given) (λ t. AreDue d w.peers (t ∷ rest))
    unfolding collecting
    collects e entries given = bind_keeps (object_at w.objects e.object) _ _ (λ o _. bind_keeps (signal_at d o.class e.signal) _ _ (λ s _.
        only_keeps (suits (kind_fits (class_in w.objects) d.types) given s.result) arms.Result _ _ (by s given)))
      where
        by : (s : Signal) (given : Option Value) → AreDue d w.peers (collected s e entries given ∷ rest)
        by s None = due
        by s (Some v) = cleaned e.cleanup
          where
            cleaned : (b : Bool) → AreDue d w.peers (cond b (Emitting e entries) (Emitting (record e { value = Some v }) (entries_after (is_last s.accumulator v) e entries)) ∷ rest)
            cleaned true = due
            cleaned false = due

    to_emission : (e : Emission) (entries : List PlanEntry) (given : Option Value) → IfOk (down_to_emission d w e entries rest given) Leaves
    unfolding down_to_emission
    to_emission e entries given = bind_with (collecting d w e entries given) _ (λ (t : Task). AreDue d w.peers (t ∷ rest)) Leaves (collects e entries given) (λ t now. (h, now))

    to_source : (source : ℕ) (given : Option Value) → IfOk (down_to_source w source rest given) Leaves
    unfolding down_to_source
    to_source source (Some (values.bool keep)) = (h, due)
    to_source source None = tt
    to_source source (Some (values.whole kind n)) = tt
    to_source source (Some (values.text s)) = tt
    to_source source (Some (values.enum type n)) = tt
    to_source source (Some (values.flags type bits)) = tt
    to_source source (Some (values.object o)) = tt

  comes_down : (rest : List Task) → AreDue d w.peers rest → (given : Option Value) → IfOk (given_down d w rest given) Leaves
  comes_down (Emitting e entries ∷ rest) due given = to_emission rest due e entries given
  comes_down (Answering source ∷ rest) due given = to_source rest due source given
  comes_down rest due None = (h, due)
  comes_down rest due (Some v) = tt

  -- ** what an instruction leaves

  module _ (rest : List Task) (due : AreDue d w.peers rest) (f : Frame) where
    begins : (a : Answer Started) → IfOk a Starts → IfOk (in_front rest a) Leaves
    unfolding in_front
    begins (Ok s) now = (now.0, due_append d w.peers s.tasks rest now.1 due)
    begins (Err arm) now = tt

    returns : (from : Option ℕ) → IfOk (returning d w f rest from) Leaves
    unfolding returning
    returns from = bind_keeps (returned d w f from) _ Leaves (λ given _. comes_down rest due given)

    stops : (tasks : List Task) → AreDue d w.peers tasks → AreDue d w.peers (stopped tasks)
    stops [] all = tt
    stops (Emitting e entries ∷ tasks) all = all
    stops (task ∷ tasks) all = all

    writes_it : (to : ℕ) (x : Option Value) → IfOk (written_to w to x f) Starts
    writes_it to x = writes f to x

    ruleset walk = (bind_keeps, only_keeps, cond_keeps, begins, writes_it, still)

    instructed : (i : Instruction) → SaysShortDetail i → IfOk (instruction_step d w rest f i) Leaves
    unfolding moving reckoning comparing sameness negating conjunction disjunction converting get_property set_from set_property look_up_object sinking on_handlers removing jumping branching branching_null
    instructed (words.join to a b) short = begins (joining d w f to a b) (joins f to a b)
    instructed (words.new to id) short = begins (creating d w rest f to id) (creates f rest to id)
    instructed (words.orphan object) short = begins (orphaning d w f object) (orphans f object)
    instructed (words.dispose object) short = begins (disposing d w f object) (disposes f object)
    instructed (words.adopt to parent child) short = begins (adopting d w f to parent child) (adopts f to parent child)
    instructed (words.freeze object) short = begins (freezing w f object) (freezes f object)
    instructed (words.thaw object) short = begins (thaw_notify w f object) (thaws f object)
    instructed (words.emit into object name detail args) short = begins (emitting d w f object _) (emits f object (record { into = into; signal = name; detail = detail; args = args }) short)
    instructed (words.notify object name) short = begins (notify_from_program d w f object name) (notifies f object name)
    instructed (words.connect to object c) short = begins (connecting d w rest f to object c) (connects f rest to object c)
    instructed (words.idle to program priority with) short =
        begins (attaching d w f to _) (attaches f to (record { word = codes "idle"; program = program; priority = priority; interval = None; with = with }))
    instructed (words.timeout to program priority interval with) short =
        begins (attaching d w f to _) (attaches f to (record { word = codes "timeout"; program = program; priority = priority; interval = Some interval; with = with }))
    instructed (words.call to object name args) short = begins (calling d w f to object name args) (calls f to object name args)
    instructed words.stop short = (h, stops rest due)
    instructed (words.return from) short = returns from
    instructed i short = search walk depth 12

-- ** programs

module _ (d : Definition) (details : HasShortDetails d) (w : World) (pool : HasShortPool d w.peers) (h : Have (IsShortPeerAt d w.peers) w.objects) where
  abbrev SaysShortDetails : Block → Type 0
  SaysShortDetails b = Each SaysShortDetail b.code

  block_short : (f : Frame) → IfOk (block_in d f) SaysShortDetails
  unfolding block_in
  block_short f = bind_with (known arms.Code (program_at d f.program)) _ (λ (p : Program). Each SaysShortDetails p.blocks) SaysShortDetails
      (known_with arms.Code (program_at d f.program) (λ (p : Program). Each SaysShortDetails p.blocks) (each_get (λ (p : Program). Each SaysShortDetails p.blocks) d.programs details f.program))
      (λ p all. known_with arms.Code (slice_get p.blocks f.block) SaysShortDetails (each_get SaysShortDetails p.blocks all f.block))

  -- a program takes its next instruction
  pub runs_short : (rest : List Task) → AreDue d w.peers rest → (f : Frame) → IfOk (running d w rest f) (Leaves d w pool h)
  unfolding running
  runs_short rest due f = bind_with (block_in d f) _ SaysShortDetails (Leaves d w pool h) (block_short f) (λ b all.
      bind_with (known arms.Code (slice_get b.code (in_pass b f).at)) _ SaysShortDetail (Leaves d w pool h)
      (known_with arms.Code (slice_get b.code (in_pass b f).at) SaysShortDetail (each_get SaysShortDetail b.code all (in_pass b f).at)) (λ i one.
      instructed d w pool h rest due (past (in_pass b f)) i one))
