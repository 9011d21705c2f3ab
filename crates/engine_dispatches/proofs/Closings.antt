-- Which peers a step closes: `dispose` and a finalisation close that of the object, and nothing else closes one.
use Rattle.std.proofs.Common.{◌≡◌, refl, ap, sym, ◌∙◌, ℕ, zero, suc, ◌+◌, ◌<◌, Bool, true, false, cond, not, List, [], ◌∷◌, map, length, Option, None, Some, Ok, Err, arith}
use Rattle.std.specs.List.{list_all}
use Rattle.std.specs.Prelude.{IfOk, IfSome, codes, is_none, is_some, nat_lt, option_and_then, slice_get}
use Rattle.ui_machine.specs.declared.arm.Arm.{Arm}
use Rattle.ui_machine.specs.declared.arm.Arm.TheVariants as arms
use Rattle.ui_machine.specs.Definition.{Definition}
use Rattle.ui_machine.specs.Definition.Names.{place_from, same_name}
use Rattle.ui_machine.specs.Definition.Lookups.{place_at, place_of, specs_of, type_of}
use Rattle.ui_machine.specs.Definition.Places.{Place}
use Rattle.ui_machine.specs.Definition.Programs.{Block, Instruction}
use Rattle.ui_machine.specs.Definition.Programs as words
use Rattle.ui_machine.specs.Definition.Values.{Value}
use Rattle.ui_machine.specs.Definition.Values as values
use Rattle.ui_machine.specs.Instructions.{in_front, instruction_step, running}
use Rattle.ui_machine.specs.Instructions.Jumps.{block_in, in_pass, past}
use Rattle.ui_machine.specs.Instructions.Objects.{creating, disposed_once, disposing, has_room_for_object, made_if_room, made_new}
use Rattle.ui_machine.specs.Instructions.Peers.{called, calling, calling_on, left_with, replied, uncalled, with_method}
use Rattle.ui_machine.specs.Instructions.Registers.{goes_on, operand_in, values_in, with_register, written_to}
use Rattle.ui_machine.specs.Outcome.{Answer, known, only_if, ◌>>=◌}
use Rattle.ui_machine.specs.Output.Lines as lines
use Rattle.ui_machine.specs.Rules.Accumulation.{received}
use Rattle.ui_machine.specs.Rules.Build.{building_object, first_peer, peer_for, to_make}
use Rattle.ui_machine.specs.Rules.Construction.{construction, has_shape, has_valid_default, making, new_object, peer_left, peer_to_take, with_object}
use Rattle.ui_machine.specs.Rules.Disposal.{closed_if_open, closing, disposed, finalised, is_first, peer_of, said_if, without_object}
use Rattle.ui_machine.specs.Rules.Programs.{all_fit}
use Rattle.ui_machine.specs.Rules.Sets.{is_disposed}
use Rattle.ui_machine.specs.Rules.Transform.{kind_fits, same_bool}
use Rattle.ui_machine.specs.Seq.{read, write}
use Rattle.ui_machine.specs.State.Config.{Config, Left, Started, World, is_asked, peer_at, peer_state, said, starts}
use Rattle.ui_machine.specs.State.Objects.{class_in, living, object_at}
use Rattle.ui_machine.specs.State.Peers.{Peer, PeerState, Reply, closed_peer, first_left, if_left, is_left, method_number, method_of, no_peer, peer_number}
use Rattle.ui_machine.specs.State.References.{mentions, next_unheld}
use Rattle.ui_machine.specs.State.Tasks.{Building, Call, Calling, Constructing, Frame, Item, Running, Task, makes}
use Rattle.ui_machine.specs.Steps.{act, first_of, left, most_steps, uncounted}
use Rattle.law_peers.specs.Blind.{block_meets_peers, first_meets_peers, instruction_meets_peers, meets_peers, next_meets_peers, tasks_meet_peers}
use Rattle.law_peers.specs.PeerLaws.{peer_in}
use Rattle.law_peers.proofs.RunLives.{leaves_peers}
use Rattle.engine_world.specs.ClosingView.{closed_with, open_peer}
use Rattle.engine_world.proofs.Floats.{bind_ok, if_ok_at}
use Rattle.native_peers.specs.Seen.{Seen}
use Rattle.engine_dispatches.specs.PoolView.{seen_of}
use Rattle.engine_instructions.specs.ClosedPeers.{closed_in}
use Rattle.engine_dispatches.specs.ClosingTasks.{after_closing, disposes_by, disposes_next, first_closes}
use Rattle.engine_dispatches.proofs.Living.{read_at}

-- what is seen of all peers stays
abbrev pub SeenStays : World → World → Type 0
SeenStays w v = map seen_of v.peers ≡ map seen_of w.peers

-- ** peers that are there

abbrev IsThere : List Peer → Option ℕ → Type 0
IsThere ps peer = IfSome peer (λ k. (p : Peer) × (slice_get ps k ≡ Some p))

named_there : (i : ℕ) (ps : List Peer) (name : List ℕ) → IfSome (place_from (λ (p : Peer). p.name) i ps name) (λ k. (j : ℕ) × (k ≡ i + j) × (j < length ps))
named_there i [] name = tt
named_there i (p ∷ ps) name = by (same_name p.name name) (place_from (λ (q : Peer). q.name) (suc i) ps name) (named_there (suc i) ps name)
  where
    by : (b : Bool) (o : Option ℕ) → IfSome o (λ k. (j : ℕ) × (k ≡ suc i + j) × (j < length ps)) → IfSome (cond b (Some i) o) (λ k. (j : ℕ) × (k ≡ i + j) × (j < length (p ∷ ps)))
    by true o h = (0, omega arith, omega arith)
    by false None h = tt
    by false (Some k) h = let is = h.1 in let few = h.2 in (suc h.0, omega (arith, is), omega (arith, few))

inside : (ps : List Peer) (k : ℕ) → k < length ps → (p : Peer) × (slice_get ps k ≡ Some p)
inside [] k few = absurd (omega (arith, few))
inside (p ∷ ps) zero few = (p, refl)
inside (p ∷ ps) (suc k) few = inside ps k (omega (arith, few))

number_there : (ps : List Peer) (name : List ℕ) → IsThere ps (peer_number ps name)
number_there ps name = by (place_from (λ (p : Peer). p.name) 0 ps name) (named_there 0 ps name)
  where
    by : (o : Option ℕ) → IfSome o (λ k. (j : ℕ) × (k ≡ 0 + j) × (j < length ps)) → IsThere ps o
    by None h = tt
    by (Some k) h = let is = h.1 in let few = h.2 in inside ps k (omega (arith, is, few))

first_there : (ps : List Peer) (names : List (List ℕ)) → IsThere ps (first_peer ps names)
first_there ps [] = tt
first_there ps (name ∷ names) = number_there ps name

left_there : (ps : List Peer) (number other : Option ℕ) → IsThere ps other → IsThere ps (if_left ps number other)
left_there ps None other h = h
left_there ps (Some k) other h = by (slice_get ps k) refl
  where
    choose : (p : Peer) → slice_get ps k ≡ Some p → (b : Bool) → IsThere ps (cond b (Some k) other)
    choose p is true = (p, is)
    choose p is false = h

    by : (o : Option Peer) → slice_get ps k ≡ o → IsThere ps (cond (is_left o) (Some k) other)
    by None is = h
    by (Some p) is = choose p is (is_none p.holder)

lefts_there : (ps : List Peer) (names : List (List ℕ)) → IsThere ps (first_left ps names)
lefts_there ps [] = tt
lefts_there ps (name ∷ names) = left_there ps (peer_number ps name) (first_left ps names) (lefts_there ps names)

same_seen : (ps : List Peer) (k : ℕ) (p y : Peer) → slice_get ps k ≡ Some p → seen_of y ≡ seen_of (read no_peer ps k) → map seen_of (write no_peer ps k y) ≡ map seen_of ps
same_seen [] k p y at same = absurd (cc at)
same_seen (x ∷ ps) zero p y at same = ap (λ (s : Seen). s ∷ map seen_of ps) same
same_seen (x ∷ ps) (suc k) p y at same = ap (λ (l : List Seen). seen_of x ∷ l) (same_seen ps k p y at same)

seen_written : (ps : List Peer) (k : ℕ) (none p y : Peer) → slice_get ps k ≡ Some p → seen_of y ≡ seen_of p → map seen_of (write none ps k y) ≡ map seen_of ps
seen_written [] k none p y at same = absurd (cc at)
seen_written (x ∷ ps) zero none p y at same = let here : x ≡ p = cc at in ap (λ (s : Seen). s ∷ map seen_of ps) (same ∙ ap seen_of (sym here))
seen_written (x ∷ ps) (suc k) none p y at same = ap (λ (l : List Seen). seen_of x ∷ l) (seen_written ps k none p y at same)

only_ok : {A : Type 0} (b : Bool) (arm : Arm) (a : Answer A) (P : A → Type 0) → IfOk a P → IfOk (only_if b arm a) P
only_ok true arm a P h = h
only_ok false arm a P h = tt

cond_ok : {A : Type 0} (b : Bool) (x y : Answer A) (P : A → Type 0) → IfOk x P → IfOk y P → IfOk (cond b x y) P
cond_ok true x y P p q = p
cond_ok false x y P p q = q

module _ (d : Definition) where
  -- ** closings

  closes : (v : World) (peer : Option ℕ) → IfOk (closing d peer v) (λ x. x.peers ≡ after_closing (option_and_then (open_peer v.peers) peer) v.peers)
  unfolding closing
  closes v None = refl
  closes v (Some k) = by (slice_get v.peers k) refl
    where
      shut : (p : Peer) → slice_get v.peers k ≡ Some p → (b : Bool)
          → (cond b (said d (record v { peers = write no_peer v.peers k (closed_peer p) }) (lines.close p.name)) v).peers ≡ after_closing (cond b (Some k) None) v.peers
      shut p is true = ap (λ (q : Peer). write no_peer v.peers k (closed_peer q)) (sym (read_at no_peer p v.peers k is))
      shut p is false = refl

      by : (o : Option Peer) → slice_get v.peers k ≡ o
          → IfOk (known arms.Code o >>= λ (p : Peer). Ok (closed_if_open d v k p)) (λ x. x.peers ≡ after_closing (option_and_then (λ (p : Peer). cond p.state.is_open (Some k) None) o) v.peers)
      by None e = tt
      by (Some p) e = shut p e p.state.is_open

  pub disposes : (w : World) (id : ℕ) → IfOk (disposed d w id) (λ x. x.peers ≡ after_closing (closed_with w id) w.peers)
  disposes w id = by (is_first (living w.objects id))
    where
      by : (b : Bool) → IfOk (closing d (peer_of (living w.objects id)) (said_if d b (without_object d w id) (lines.dispose id))) (λ x. x.peers ≡ after_closing (closed_with w id) w.peers)
      by true = closes (said_if d true (without_object d w id) (lines.dispose id)) (peer_of (living w.objects id))
      by false = closes (said_if d false (without_object d w id) (lines.dispose id)) (peer_of (living w.objects id))

  pub finalises : (w : World) (id : ℕ) → IfOk (finalised d w id) (λ x. x.peers ≡ after_closing (closed_with w id) w.peers)
  unfolding finalised
  finalises w id = bind_ok (disposed d w id) _ (λ x. x.peers ≡ after_closing (closed_with w id) w.peers) (λ v is.
      if_ok_at (λ (x : World). x.peers ≡ after_closing (closed_with w id) w.peers) (disposed d w id) v (disposes w id) is)

  -- ** what closes none

  module _ (w : World) where
    abbrev Stays : Started → Type 0
    Stays s = SeenStays w s.world

    made : (place : ℕ) (p : Place) (peer : Option ℕ) → IsThere w.peers peer → (id : ℕ) (class : List ℕ) → SeenStays w (said d (with_object d w (new_object d place p peer)) (lines.construct id class))
    made place p None there id class = refl
    made place p (Some number) there id class = same_seen w.peers number there.0 (record (peer_in w.peers number) { holder = Some (suc (length w.objects)) }) there.1 refl

    makes_one : (place : ℕ) (peer : Option ℕ) → IsThere w.peers peer → (held : Bool) → IfOk (making d w place peer held) Stays
    unfolding making
    makes_one place peer there held = bind_ok (known arms.Code (place_at d place)) _ Stays (λ p _.
        let valid = list_all (has_valid_default d) (specs_of d p.class) in
        let begun : Answer Started = starts (said d (with_object d w (new_object d place p peer)) (lines.construct (suc (length w.objects)) (type_of d p.class).name))
        (Constructing (suc (length w.objects)) (construction d w place p) held ∷ []) in
        only_ok (not (type_of d p.class).is_abstract) arms.Abstract (only_if valid arms.Value begun) Stays
        (only_ok valid arms.Value begun Stays (made place p peer there (suc (length w.objects)) (type_of d p.class).name)))

    taken_there : (p : Place) → IsThere w.peers (peer_to_take d w p)
    taken_there p = by (has_shape d p.class)
      where
        by : (b : Bool) → IsThere w.peers (cond b (peer_left w p) None)
        by true = lefts_there w.peers p.peers
        by false = tt

    makes_new : (f : Frame) (to place : ℕ) (p : Place) → IfOk (made_new d w f to place p) Stays
    unfolding made_new
    makes_new f to place p = bind_ok (making d w place (peer_to_take d w p) false) _ Stays (λ m is.
        bind_ok (with_register to _ f.registers) _ Stays (λ r _. if_ok_at Stays (making d w place (peer_to_take d w p) false) m (makes_one place (peer_to_take d w p) (taken_there p) false) is))

    limits : (f : Frame) (to : ℕ) (x : Option Value) → IfOk (written_to (said d w (lines.limit (codes "new"))) to x f) Stays
    unfolding written_to
    limits f to x = bind_ok (with_register to x f.registers) _ Stays (λ r _. refl)

    creates : (rest : List Task) (f : Frame) (to : ℕ) (id : List ℕ) → IfOk (creating d w rest f to id) Stays
    unfolding creating
    creates rest f to id = bind_ok (known arms.Code (place_of d id)) _ Stays (λ place _. bind_ok (known arms.Code (place_at d place)) _ Stays (λ p _.
        only_ok p.is_prototype arms.Code (made_if_room d w (to_make rest) f to place p) Stays
        (cond_ok (has_room_for_object d w (to_make rest) p) (made_new d w f to place p) (written_to (said d w (lines.limit (codes "new"))) to (Some (values.object None)) f) Stays (makes_new f to place p) (limits f to (Some (values.object None))))))

    calls_of : (f : Frame) (to object : ℕ) (name args : List ℕ) → IfOk (calling d w f to object name args) Stays
    unfolding calling
    calls_of f to object name args = bind_ok (operand_in w f object) _ Stays (λ id _. bind_ok (object_at w.objects id) _ Stays (λ o _.
        bind_ok (known arms.Call o.peer) _ Stays (λ peer _. bind_ok (known arms.Call (peer_at w peer)) _ Stays (λ p _.
        bind_ok (known arms.Call (method_number p name)) _ Stays (λ number _. bind_ok (known arms.Call (method_of p number)) _ Stays (λ m _.
        bind_ok (values_in f args) _ Stays (λ given _.
        let begun : Answer Started = goes_on w (Calling (record { object = id; peer = peer; method = number; args = given; to = to }) ∷ []) f in
        only_ok (all_fit (kind_fits (class_in w.objects) d.types) given m.params) arms.Call (only_if (nat_lt to (length f.registers)) arms.Code begun) Stays
        (only_ok (nat_lt to (length f.registers)) arms.Code begun Stays refl))))))))

    builds_object : (place : ℕ) (items : List Item) → IfOk (building_object d w place items) Stays
    unfolding building_object
    builds_object place items = bind_ok (known arms.Code (place_at d place)) _ Stays (λ p _. bind_ok (peer_for d w p) _ Stays (λ peer is_for.
        bind_ok (making d w place peer true) _ Stays (λ m is. if_ok_at Stays (making d w place peer true) m (makes_one place peer (own_there p peer is_for) true) is)))
      where
        own_there : (p : Place) (peer : Option ℕ) → peer_for d w p ≡ Ok peer → IsThere w.peers peer
        own_there p peer is = if_ok_at (IsThere w.peers) (peer_for d w p) peer (only_ok (same_bool (has_shape d p.class) (is_some (first_peer w.peers p.peers))) arms.Code (Ok (first_peer w.peers p.peers)) (IsThere w.peers) (first_there w.peers p.peers)) is

    abbrev LeftStays : Left → Type 0
    LeftStays l = SeenStays w l.world

    in_front_stays : (rest : List Task) (a : Answer Started) → IfOk a Stays → IfOk (in_front rest a) LeftStays
    unfolding in_front
    in_front_stays rest (Ok s) x = x
    in_front_stays rest (Err arm) x = tt

    uncalled_stays : (c : Call) (rest : List Task) → IfOk (uncalled d w c rest) LeftStays
    unfolding uncalled with_method left_with
    uncalled_stays c rest = bind_ok (known arms.Call (peer_at w c.peer)) _ LeftStays (λ p _. bind_ok (known arms.Call (method_of p c.method)) _ LeftStays (λ m _.
        bind_ok (received rest c.to _) _ LeftStays (λ agenda _. refl)))

    known_some : (o : Option Peer) (p : Peer) → known arms.Call o ≡ Ok p → o ≡ Some p
    known_some None p is = cc is
    known_some (Some q) p is = let same : q ≡ p = cc is in ap (λ (x : Peer). Some x) same

    -- a reply that leaves the state as it is known
    replied_stays : (c : Call) (rest : List Task) (r : Reply) → r.state ≡ peer_state w c.peer → IfOk (called d w c rest r) LeftStays
    unfolding called with_method left_with
    replied_stays c rest r same = bind_ok (known arms.Call (peer_at w c.peer)) _ LeftStays (λ p is. bind_ok (known arms.Call (method_of p c.method)) _ LeftStays (λ m _.
        bind_ok (received rest c.to _) _ LeftStays (λ agenda _. seen_written w.peers c.peer p p (record p { state = r.state }) (known_some (peer_at w c.peer) p is)
        (ap (λ (s : PeerState). record { name = p.name; state = s }) (same ∙ ap (λ (x : Peer). x.state) (read_at no_peer p w.peers c.peer (known_some (peer_at w c.peer) p is)))))))

    pub asked_stays : (c : Call) (rest : List Task) (r : Reply) → r.state ≡ peer_state w c.peer → IfOk (calling_on d w c rest (Some r)) LeftStays
    asked_stays c rest r same = by (is_asked w c.peer)
      where
        by : (b : Bool) → IfOk (cond b (replied d w c rest (Some r)) (uncalled d w c rest)) LeftStays
        by true = replied_stays c rest r same
        by false = uncalled_stays c rest

    unasked_stays : (c : Call) (rest : List Task) → IfOk (calling_on d w c rest None) LeftStays
    unasked_stays c rest = by (is_asked w c.peer)
      where
        by : (b : Bool) → IfOk (cond b (replied d w c rest None) (uncalled d w c rest)) LeftStays
        by true = tt
        by false = uncalled_stays c rest

  -- ** a program's next instruction

  module _ (w : World) (rest : List Task) where
    instruction_stays : (f : Frame) (i : Instruction) → instruction_meets_peers d w f i ≡ true → disposes_by (Some i) ≡ false → IfOk (instruction_step d w rest f i) (LeftStays w)
    instruction_stays f (words.new to id) met none = in_front_stays w rest (creating d w rest f to id) (creates w rest f to id)
    instruction_stays f (words.call to object name args) met none = in_front_stays w rest (calling d w f to object name args) (calls_of w f to object name args)
    instruction_stays f (words.dispose object) met none = absurd (cc none)
    instruction_stays f i met none = absurd (cc met)

    running_stays : (f : Frame) → block_meets_peers d w f (block_in d f) ≡ true → disposes_next f (block_in d f) ≡ false → IfOk (running d w rest f) (LeftStays w)
    unfolding running
    running_stays f met none = by_block (block_in d f) met none
      where
        next : Frame → Option Instruction → Answer Left
        next g o = known arms.Code o >>= λ (i : Instruction). instruction_step d w rest g i

        by_next : (g : Frame) (o : Option Instruction) → next_meets_peers d w g o ≡ true → disposes_by o ≡ false → IfOk (next g o) (LeftStays w)
        by_next g None m n = tt
        by_next g (Some i) m n = instruction_stays g i m n

        by_block : (block : Answer Block) → block_meets_peers d w f block ≡ true → disposes_next f block ≡ false → IfOk (block >>= λ (b : Block). next (past (in_pass b f)) (slice_get b.code (in_pass b f).at)) (LeftStays w)
        by_block (Err arm) m n = tt
        by_block (Ok b) m n = by_next (past (in_pass b f)) (slice_get b.code (in_pass b f).at) m n

    left_stays : (n : ℕ) (a : Answer Left) → IfOk a (LeftStays w) → IfOk (left n a) (λ x. SeenStays w x.world)
    unfolding left
    left_stays n (Ok l) h = h
    left_stays n (Err arm) h = tt

    uncounted_stays : (n : ℕ) (a : Answer Started) → IfOk a (Stays w) → IfOk (uncounted rest n a) (λ x. SeenStays w x.world)
    uncounted_stays n (Ok s) h = h
    uncounted_stays n (Err arm) h = tt

  act_stays : (w : World) (agenda : List Task) (n : ℕ) → tasks_meet_peers d w agenda ≡ true → first_closes d agenda ≡ false → IfOk (act d w None agenda n) (λ x. SeenStays w x.world)
  act_stays w (Running f ∷ rest) n met none = only_ok (nat_lt n most_steps) arms.Steps (left (suc n) (running d w rest f)) (λ x. SeenStays w x.world) (left_stays w rest (suc n) (running d w rest f) (running_stays w rest f met none))
  act_stays w (Calling call ∷ rest) n met none = left_stays w rest n (calling_on d w call rest None) (unasked_stays w call rest)
  act_stays w (Building (makes place ∷ items) ∷ rest) n met none = uncounted_stays w rest n (building_object d w place items) (builds_object w place items)
  act_stays w agenda n met none = absurd (cc met)

  -- the first task closes none, unless a program disposes
  pub step_stays : (c x : Config) → next_unheld (mentions d c) c.world.objects ≡ None → act d c.world None c.agenda c.counted ≡ Ok x → first_closes d c.agenda ≡ false → SeenStays c.world x.world
  step_stays c x unheld is none = by (meets_peers d c) refl
    where
      by : (b : Bool) → meets_peers d c ≡ b → SeenStays c.world x.world
      by false met = ap (λ (ps : List Peer). map seen_of ps) (leaves_peers d None c x met (ap (first_of d None c) unheld ∙ is)).0
      by true met = if_ok_at (λ (y : Config). SeenStays c.world y.world) (act d c.world None c.agenda c.counted) x (act_stays c.world c.agenda c.counted (sym (ap (first_meets_peers d c) unheld) ∙ met) none) is

  -- a peer that replies is not closed
  pub asked_step_stays : (w : World) (rest : List Task) (n : ℕ) (call : Call) (r : Reply) → r.state ≡ peer_state w call.peer → (x : Config) → act d w (Some r) (Calling call ∷ rest) n ≡ Ok x → SeenStays w x.world
  asked_step_stays w rest n call r same x is =
      if_ok_at (λ (y : Config). SeenStays w y.world) (act d w (Some r) (Calling call ∷ rest) n) x (left_stays w rest n (calling_on d w call rest (Some r)) (asked_stays w call rest r same)) is

  -- a dispose closes the object's
  pub dispose_closes : (w : World) (rest : List Task) (f : Frame) (object : ℕ)
      → IfOk (instruction_step d w rest f (words.dispose object)) (λ l. l.world.peers ≡ after_closing (closed_in w (operand_in w f object)) w.peers)
  unfolding in_front disposing
  dispose_closes w rest f object = by (operand_in w f object)
    where
      front : (peer : Option ℕ) (a : Answer Started) → IfOk a (λ s. s.world.peers ≡ after_closing peer w.peers) → IfOk (in_front rest a) (λ l. l.world.peers ≡ after_closing peer w.peers)
      front peer (Ok s) h = h
      front peer (Err arm) h = tt

      goes : (peer : Option ℕ) (a : Answer World) → IfOk a (λ v. v.peers ≡ after_closing peer w.peers) → IfOk (a >>= λ v. goes_on v [] f) (λ s. s.world.peers ≡ after_closing peer w.peers)
      goes peer (Ok v) h = h
      goes peer (Err arm) h = tt

      once : (id : ℕ) (b : Bool) → IfOk (cond b (Ok w) (disposed d w id)) (λ v. v.peers ≡ after_closing (cond b None (closed_with w id)) w.peers)
      once id true = refl
      once id false = disposes w id

      by : (a : Answer ℕ) → IfOk (in_front rest (a >>= λ id. disposed_once d w id >>= λ v. goes_on v [] f)) (λ l. l.world.peers ≡ after_closing (closed_in w a) w.peers)
      by (Err arm) = tt
      by (Ok id) =
          front (cond (is_disposed (living w.objects id)) None (closed_with w id)) (disposed_once d w id >>= λ v. goes_on v [] f)
          (goes (cond (is_disposed (living w.objects id)) None (closed_with w id)) (disposed_once d w id) (once id (is_disposed (living w.objects id))))
