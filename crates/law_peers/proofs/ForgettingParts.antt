-- Each part of a step that is about peers leads to the same where what they count and keep is forgotten.
use Rattle.std.proofs.Common.{◌≡◌, refl, ap, ◌∙◌, ℕ, zero, suc, Bool, true, false, cond, not, List, [], ◌∷◌, ◌++◌, Option, None, Some, Ok, Err}
use Rattle.std.specs.List.{list_all}
use Rattle.std.specs.Prelude.{codes, is_some, length, map, nat_lt, option_map, slice_get, ◌+◌, ◌&&◌, ◌||◌}
use Rattle.std.proofs.lemmas.Option.{slice_get-map}
use Rattle.ui_machine.specs.declared.arm.Arm.{Arm}
use Rattle.ui_machine.specs.declared.arm.Arm.TheVariants as arms
use Rattle.ui_machine.specs.Definition.{Definition}
use Rattle.ui_machine.specs.Definition.Lookups.{place_at, place_of, specs_of, type_of}
use Rattle.ui_machine.specs.Definition.Names.{place_from, same_name}
use Rattle.ui_machine.specs.Definition.Places.{Place}
use Rattle.ui_machine.specs.Definition.Signals.{Method}
use Rattle.ui_machine.specs.Definition.Values.{Value}
use Rattle.ui_machine.specs.Definition.Values as values
use Rattle.ui_machine.specs.Instructions.Objects.{creating, disposed_once, disposing, has_room_for_object, made_new, made_if_room}
use Rattle.ui_machine.specs.Instructions.Peers.{call_line, called, calling, calling_on, left_with, question_of, replied, uncalled, with_method}
use Rattle.ui_machine.specs.Instructions.Registers.{gives, goes_on, operand_in, values_in, with_register, written_to}
use Rattle.ui_machine.specs.Outcome.{Answer, known, only_if, ◌>>=◌}
use Rattle.ui_machine.specs.Output.Lines.{Line}
use Rattle.ui_machine.specs.Output.Lines as lines
use Rattle.ui_machine.specs.Rules.Accumulation.{or_zero, received}
use Rattle.ui_machine.specs.Rules.Build.{building_object, first_peer, peer_for, to_make}
use Rattle.ui_machine.specs.Rules.Construction.{construction, has_shape, has_valid_default, lent, making, new_object, peer_to_take, with_object}
use Rattle.ui_machine.specs.Rules.Disposal.{closed_if_open, closing, disposed, finalised, is_first, peer_of, said_if, without_object}
use Rattle.ui_machine.specs.Rules.Programs.{all_fit}
use Rattle.ui_machine.specs.Rules.Sets.{is_disposed}
use Rattle.ui_machine.specs.Rules.Transform.{kind_fits, same_bool, zero_value}
use Rattle.ui_machine.specs.Seq.{read, write}
use Rattle.ui_machine.specs.State.Config.{Left, Started, World, is_asked, peer_at, peer_state, said, starts, with_peer_state}
use Rattle.ui_machine.specs.State.Objects.{class_in, live, living, most_identities, object_at}
use Rattle.ui_machine.specs.State.Peers.{Peer, PeerState, Reply, closed_peer, first_left, if_left, is_left, method_number, method_of, no_peer, peer_number}
use Rattle.ui_machine.specs.State.Tasks.{Building, Call, Calling, Constructing, Frame, Item, Task}
use Rattle.machine_laws.specs.FrontLaws.{mapped}
use Rattle.law_peers.specs.Forgetting.{forgotten, forgotten_in, forgotten_question, forgotten_reply, forgotten_state}

-- ** answers

-- the first of two parts leads to the same changed, and the second does from there
pub through : {A B C : Type 0} (f : A → A) (h : B → C) (a b : Answer A) (g : A → Answer C) (k : A → Answer B) →
    a ≡ mapped f b → ((x : A) → g (f x) ≡ mapped h (k x)) → (a >>= g) ≡ mapped h (b >>= k)
through f h a (Ok x) g k e next = ap (λ y. y >>= g) e ∙ next x
through f h a (Err arm) g k e next = ap (λ y. y >>= g) e

-- the first part is the same
after : {A B C : Type 0} (h : B → C) (a : Answer A) (g : A → Answer C) (k : A → Answer B) →
    ((x : A) → g x ≡ mapped h (k x)) → (a >>= g) ≡ mapped h (a >>= k)
after h (Ok x) g k next = next x
after h (Err arm) g k next = refl

-- the first is there or not, and is the same changed
where_known : {A B C : Type 0} (f : A → A) (h : B → C) (arm : Arm) (o : Option A) (g : A → Answer C) (k : A → Answer B) →
    ((x : A) → g (f x) ≡ mapped h (k x)) → (known arm (option_map f o) >>= g) ≡ mapped h (known arm o >>= k)
where_known f h arm None g k next = refl
where_known f h arm (Some x) g k next = next x

only_same : {A B : Type 0} (h : A → B) (b : Bool) (arm : Arm) (x : Answer B) (y : Answer A) → x ≡ mapped h y → only_if b arm x ≡ mapped h (only_if b arm y)
only_same h true arm x y e = e
only_same h false arm x y e = refl

either_same : {A B : Type 0} (h : A → B) (b : Bool) (x z : Answer B) (y v : Answer A) → x ≡ mapped h y → z ≡ mapped h v → cond b x z ≡ mapped h (cond b y v)
either_same h true x z y v e g = e
either_same h false x z y v e g = g

-- ** pools

map_read : {A B : Type 0} (f : A → B) (none : A) (xs : List A) (n : ℕ) → read (f none) (map f xs) n ≡ f (read none xs n)
map_read f none [] n = refl
map_read f none (x ∷ xs) zero = refl
map_read f none (x ∷ xs) (suc n) = map_read f none xs n

map_write : {A B : Type 0} (f : A → B) (none : A) (xs : List A) (n : ℕ) (y : A) → write (f none) (map f xs) n (f y) ≡ map f (write none xs n y)
map_write f none [] zero y = refl
map_write f none [] (suc n) y = ap (λ rest. f none ∷ rest) (map_write f none [] n y)
map_write f none (x ∷ xs) zero y = refl
map_write f none (x ∷ xs) (suc n) y = ap (λ rest. f x ∷ rest) (map_write f none xs n y)

place_from_map : {A B : Type 0} (f : A → B) (name_of : B → List ℕ) (i : ℕ) (xs : List A) (name : List ℕ) →
    place_from name_of i (map f xs) name ≡ place_from (λ x. name_of (f x)) i xs name
place_from_map f name_of i [] name = refl
place_from_map f name_of i (x ∷ xs) name = ap (λ rest. cond (same_name (name_of (f x)) name) (Some i) rest) (place_from_map f name_of (suc i) xs name)

abbrev pool : List Peer → List Peer
pool peers = map forgotten peers

same_number : (peers : List Peer) (name : List ℕ) → peer_number (pool peers) name ≡ peer_number peers name
same_number peers name = place_from_map forgotten (λ (p : Peer). p.name) 0 peers name

same_first : (peers : List Peer) (names : List (List ℕ)) → first_peer (pool peers) names ≡ first_peer peers names
same_first peers [] = refl
same_first peers (name ∷ names) = same_number peers name

left_alike : (o : Option Peer) → is_left (option_map forgotten o) ≡ is_left o
left_alike None = refl
left_alike (Some p) = refl

is_left_alike : (peers : List Peer) (number : ℕ) → is_left (slice_get (pool peers) number) ≡ is_left (slice_get peers number)
is_left_alike peers number = ap is_left (slice_get-map forgotten peers number) ∙ left_alike (slice_get peers number)

if_left_alike : (peers : List Peer) (number other : Option ℕ) → if_left (pool peers) number other ≡ if_left peers number other
if_left_alike peers None other = refl
if_left_alike peers (Some number) other = ap (λ b. cond b (Some number) other) (is_left_alike peers number)

same_left : (peers : List Peer) (names : List (List ℕ)) → first_left (pool peers) names ≡ first_left peers names
same_left peers [] = refl
same_left peers (name ∷ names) =
    ap (λ number. if_left (pool peers) number (first_left (pool peers) names)) (same_number peers name)
    ∙ (ap (λ other. if_left (pool peers) (peer_number peers name) other) (same_left peers names)
    ∙ if_left_alike peers (peer_number peers name) (first_left peers names))

same_lent : (peer : Option ℕ) (object : ℕ) (peers : List Peer) → lent peer object (pool peers) ≡ pool (lent peer object peers)
same_lent None object peers = refl
same_lent (Some number) object peers =
    ap (λ (p : Peer). write no_peer (pool peers) number (record p { holder = Some object })) (map_read forgotten no_peer peers number)
    ∙ map_write forgotten no_peer peers number (record (read no_peer peers number) { holder = Some object })

-- a peer in another state
same_written : (w : World) (number : ℕ) (p : Peer) (state : PeerState) →
    with_peer_state (forgotten_in w) number (forgotten p) (forgotten_state state) ≡ forgotten_in (with_peer_state w number p state)
same_written w number p state = ap (λ peers. record w { peers = peers }) (map_write forgotten p w.peers number (record p { state = state }))

same_asked : (w : World) (number : ℕ) → is_asked (forgotten_in w) number ≡ is_asked w number
same_asked w number = ap (λ (p : Peer). p.state.is_open) (map_read forgotten no_peer w.peers number)

same_state : (w : World) (number : ℕ) → peer_state (forgotten_in w) number ≡ forgotten_state (peer_state w number)
same_state w number = ap (λ (p : Peer). p.state) (map_read forgotten no_peer w.peers number)

-- what a due call asks
pub asks_of : (w : World) (call : Call) → question_of (forgotten_in w) call ≡ option_map forgotten_question (question_of w call)
asks_of w call =
    ap (λ b. cond b (Some (record { peer = call.peer; state = peer_state (forgotten_in w) call.peer; method = call.method; args = call.args })) None) (same_asked w call.peer)
    ∙ by (is_asked w call.peer)
  where
    by : (b : Bool) →
        cond b (Some (record { peer = call.peer; state = peer_state (forgotten_in w) call.peer; method = call.method; args = call.args })) None
        ≡ option_map forgotten_question (cond b (Some (record { peer = call.peer; state = peer_state w call.peer; method = call.method; args = call.args })) None)
    by true = ap (λ (state : PeerState). Some (record { peer = call.peer; state = state; method = call.method; args = call.args })) (same_state w call.peer)
    by false = refl

abbrev pub started : Started → Started
started s = record s { world = forgotten_in s.world }

abbrev pub remaining : Left → Left
remaining l = record l { world = forgotten_in l.world }

module _ (d : Definition) where
  -- ** closes

  closes_open : (w : World) (number : ℕ) (p : Peer) → closed_if_open d (forgotten_in w) number (forgotten p) ≡ forgotten_in (closed_if_open d w number p)
  closes_open w number p = by p.state.is_open
    where
      by : (b : Bool) →
          cond b (said d (record w { peers = write no_peer (pool w.peers) number (forgotten (closed_peer p)) }) (lines.close p.name)) (forgotten_in w)
          ≡ forgotten_in (cond b (said d (record w { peers = write no_peer w.peers number (closed_peer p) }) (lines.close p.name)) w)
      by true = ap (λ peers. said d (record w { peers = peers }) (lines.close p.name)) (map_write forgotten no_peer w.peers number (closed_peer p))
      by false = refl

  closes : (peer : Option ℕ) (w : World) → closing d peer (forgotten_in w) ≡ mapped forgotten_in (closing d peer w)
  unfolding closing
  closes None w = refl
  closes (Some number) w =
      ap (λ o. known arms.Code o >>= λ (p : Peer). Ok (closed_if_open d (forgotten_in w) number p)) (slice_get-map forgotten w.peers number)
      ∙ where_known forgotten forgotten_in arms.Code (slice_get w.peers number) (λ p. Ok (closed_if_open d (forgotten_in w) number p)) (λ p. Ok (closed_if_open d w number p))
      (λ p. ap (λ (v : World). Ok v) (closes_open w number p))

  says_disposed : (b : Bool) (w : World) (id : ℕ) →
      said_if d b (without_object d (forgotten_in w) id) (lines.dispose id) ≡ forgotten_in (said_if d b (without_object d w id) (lines.dispose id))
  says_disposed false w id = refl
  says_disposed true w id = refl

  disposes : (w : World) (id : ℕ) → disposed d (forgotten_in w) id ≡ mapped forgotten_in (disposed d w id)
  disposes w id =
      ap (closing d (peer_of (living w.objects id))) (says_disposed (is_first (living w.objects id)) w id)
      ∙ closes (peer_of (living w.objects id)) (said_if d (is_first (living w.objects id)) (without_object d w id) (lines.dispose id))

  pub finalises : (w : World) (id : ℕ) → finalised d (forgotten_in w) id ≡ mapped forgotten_in (finalised d w id)
  unfolding finalised
  finalises w id = through forgotten_in forgotten_in (disposed d (forgotten_in w) id) (disposed d w id) _ _ (disposes w id) (λ v. refl)

  pub disposes_of : (w : World) (f : Frame) (object : ℕ) → disposing d (forgotten_in w) f object ≡ mapped started (disposing d w f object)
  unfolding disposing operand_in
  disposes_of w f object = after started (operand_in w f object) _ _ (λ id.
      through forgotten_in started (disposed_once d (forgotten_in w) id) (disposed_once d w id) _ _
      (either_same forgotten_in (is_disposed (living w.objects id)) (Ok (forgotten_in w)) (disposed d (forgotten_in w) id) (Ok w) (disposed d w id) refl (disposes w id))
      (λ v. refl))

  -- ** constructions

  says_made : (w : World) (place : ℕ) (p : Place) (peer : Option ℕ) (line : Line) →
      said d (with_object d (forgotten_in w) (new_object d place p peer)) line ≡ forgotten_in (said d (with_object d w (new_object d place p peer)) line)
  says_made w place p peer line =
      ap (λ peers. record (said d (with_object d w (new_object d place p peer)) line) { peers = peers }) (same_lent peer (suc (length w.objects)) w.peers)

  makes_object : (w : World) (place : ℕ) (peer : Option ℕ) (held : Bool) → making d (forgotten_in w) place peer held ≡ mapped started (making d w place peer held)
  unfolding making
  makes_object w place peer held = after started (known arms.Code (place_at d place)) _ _ (λ p.
      only_same started (not (type_of d p.class).is_abstract) arms.Abstract _ _
      (only_same started (list_all (has_valid_default d) (specs_of d p.class)) arms.Value _ _
      (ap (λ v. starts v (Constructing (suc (length w.objects)) (construction d w place p) held ∷ []))
      (says_made w place p peer (lines.construct (suc (length w.objects)) (type_of d p.class).name)))))

  same_to_take : (w : World) (p : Place) → peer_to_take d (forgotten_in w) p ≡ peer_to_take d w p
  same_to_take w p = ap (λ peer. cond (has_shape d p.class) peer None) (same_left w.peers p.peers)

  makes_new : (w : World) (f : Frame) (to place : ℕ) (p : Place) → made_new d (forgotten_in w) f to place p ≡ mapped started (made_new d w f to place p)
  unfolding made_new
  makes_new w f to place p =
      ap (λ peer. making d (forgotten_in w) place peer false >>= λ (m : Started). begins m) (same_to_take w p)
      ∙ through started started (making d (forgotten_in w) place (peer_to_take d w p) false) (making d w place (peer_to_take d w p) false) begins begins
      (makes_object w place (peer_to_take d w p) false)
      (λ m. after started (with_register to (Some (values.object (Some (suc (length w.objects))))) f.registers) _ _ (λ registers. refl))
    where
      begins : Started → Answer Started
      begins m = with_register to (Some (values.object (Some (suc (length w.objects))))) f.registers >>= λ registers. goes_on m.world m.tasks (record f { registers = registers })

  same_room : (w : World) (to_come : ℕ) (p : Place) → has_room_for_object d (forgotten_in w) to_come p ≡ has_room_for_object d w to_come p
  same_room w to_come p =
      ap (λ peer. nat_lt (live w.objects + to_come) d.most_objects && (nat_lt (length w.objects + to_come) most_identities && (not (has_shape d p.class) || is_some peer)))
      (same_left w.peers p.peers)

  writes : (w : World) (to : ℕ) (v : Option Value) (f : Frame) → written_to (forgotten_in w) to v f ≡ mapped started (written_to w to v f)
  unfolding written_to
  writes w to v f = after started (with_register to v f.registers) _ _ (λ registers. refl)

  makes_if_room : (w : World) (to_come : ℕ) (f : Frame) (to place : ℕ) (p : Place) →
      made_if_room d (forgotten_in w) to_come f to place p ≡ mapped started (made_if_room d w to_come f to place p)
  makes_if_room w to_come f to place p =
      ap (λ b. cond b (made_new d (forgotten_in w) f to place p) (gives (said d (forgotten_in w) (lines.limit (codes "new"))) to (values.object None) f)) (same_room w to_come p)
      ∙ either_same started (has_room_for_object d w to_come p) _ _ _ _ (makes_new w f to place p) (writes (said d w (lines.limit (codes "new"))) to (Some (values.object None)) f)

  pub creates : (w : World) (rest : List Task) (f : Frame) (to : ℕ) (id : List ℕ) → creating d (forgotten_in w) rest f to id ≡ mapped started (creating d w rest f to id)
  unfolding creating
  creates w rest f to id = after started (known arms.Code (place_of d id)) _ _ (λ place. after started (known arms.Code (place_at d place)) _ _ (λ p.
      only_same started p.is_prototype arms.Code _ _ (makes_if_room w (to_make rest) f to place p)))

  pub builds_object : (w : World) (place : ℕ) (items : List Item) → building_object d (forgotten_in w) place items ≡ mapped started (building_object d w place items)
  unfolding building_object
  builds_object w place items = after started (known arms.Code (place_at d place)) _ _ (λ p.
      ap (λ first. only_if (same_bool (has_shape d p.class) (is_some first)) arms.Code (Ok first) >>= λ peer. made (forgotten_in w) peer) (same_first w.peers p.peers)
      ∙ after started (peer_for d w p) (made (forgotten_in w)) (made w) (λ peer.
      through started started (making d (forgotten_in w) place peer true) (making d w place peer true) _ _ (makes_object w place peer true) (λ m. refl)))
    where
      made : World → Option ℕ → Answer Started
      made v peer = making d v place peer true >>= λ (m : Started). starts m.world (m.tasks ++ Building items ∷ [])

  -- ** calls

  pub calls_of : (w : World) (f : Frame) (to object : ℕ) (name args : List ℕ) → calling d (forgotten_in w) f to object name args ≡ mapped started (calling d w f to object name args)
  unfolding calling operand_in
  calls_of w f to object name args = after started (operand_in w f object) _ _ (λ id. after started (object_at w.objects id) _ _ (λ o. after started (known arms.Call o.peer) _ _ (λ peer.
      ap (λ there. known arms.Call there >>= λ p. calls (forgotten_in w) id peer p) (slice_get-map forgotten w.peers peer)
      ∙ where_known forgotten started arms.Call (peer_at w peer) (calls (forgotten_in w) id peer) (calls w id peer) (λ p.
      after started (known arms.Call (method_number p name)) _ _ (λ number. after started (known arms.Call (method_of p number)) _ _ (λ m. after started (values_in f args) _ _ (λ given.
      only_same started (all_fit (kind_fits (class_in w.objects) d.types) given m.params) arms.Call _ _ (only_same started (nat_lt to (length f.registers)) arms.Code _ _ refl))))))))
    where
      calls : World → ℕ → ℕ → Peer → Answer Started
      calls v id peer p = known arms.Call (method_number p name) >>= λ number. known arms.Call (method_of p number) >>= λ (m : Method). values_in f args >>= λ given.
          only_if (all_fit (kind_fits (class_in v.objects) d.types) given m.params) arms.Call (only_if (nat_lt to (length f.registers)) arms.Code
          (goes_on v (Calling (record { object = id; peer = peer; method = number; args = given; to = to }) ∷ []) f))

  leaves_with : (w v : World) (rest : List Task) (to : ℕ) (x : Value) → v ≡ forgotten_in w → left_with v rest to x ≡ mapped remaining (left_with w rest to x)
  unfolding left_with
  leaves_with w v rest to x same =
      ap (λ (u : World). received rest to (Some x) >>= λ agenda. Ok (record { world = u; agenda = agenda })) same
      ∙ after remaining (received rest to (Some x)) _ _ (λ agenda. refl)

  -- what is done with a peer and a method leads to the same
  with_both : (w : World) (number method : ℕ) (g k : Peer → Method → Answer Left) → ((p : Peer) (m : Method) → g (forgotten p) m ≡ mapped remaining (k p m)) →
      with_method (forgotten_in w) number method g ≡ mapped remaining (with_method w number method k)
  unfolding with_method
  with_both w number method g k next =
      ap (λ there. known arms.Call there >>= λ (p : Peer). known arms.Call (method_of p method) >>= λ (m : Method). g p m) (slice_get-map forgotten w.peers number)
      ∙ where_known forgotten remaining arms.Call (slice_get w.peers number) _ _ (λ p. after remaining (known arms.Call (method_of p method)) _ _ (λ m. next p m))

  calls : (w : World) (call : Call) (rest : List Task) (reply : Reply) →
      called d (forgotten_in w) call rest (forgotten_reply reply) ≡ mapped remaining (called d w call rest reply)
  unfolding called
  calls w call rest reply = with_both w call.peer call.method _ _ (λ p m.
      leaves_with (said d (with_peer_state w call.peer p reply.state) (call_line p m call.args reply.answer))
      (said d (with_peer_state (forgotten_in w) call.peer (forgotten p) (forgotten_state reply.state)) (call_line p m call.args reply.answer))
      rest call.to (or_zero d m.result reply.answer)
      (ap (λ v. said d v (call_line p m call.args reply.answer)) (same_written w call.peer p reply.state)))

  calls_none : (w : World) (call : Call) (rest : List Task) → uncalled d (forgotten_in w) call rest ≡ mapped remaining (uncalled d w call rest)
  unfolding uncalled
  calls_none w call rest = with_both w call.peer call.method _ _ (λ p m.
      leaves_with (said d w (lines.closed p.name m.name call.args)) (said d (forgotten_in w) (lines.closed p.name m.name call.args)) rest call.to (zero_value d.types m.result) refl)

  replies : (w : World) (call : Call) (rest : List Task) (reply : Option Reply) →
      replied d (forgotten_in w) call rest (option_map forgotten_reply reply) ≡ mapped remaining (replied d w call rest reply)
  replies w call rest None = refl
  replies w call rest (Some reply) = calls w call rest reply

  pub calls_on : (w : World) (call : Call) (rest : List Task) (reply : Option Reply) →
      calling_on d (forgotten_in w) call rest (option_map forgotten_reply reply) ≡ mapped remaining (calling_on d w call rest reply)
  calls_on w call rest reply =
      ap (λ b. cond b (replied d (forgotten_in w) call rest (option_map forgotten_reply reply)) (uncalled d (forgotten_in w) call rest)) (same_asked w call.peer)
      ∙ either_same remaining (is_asked w call.peer) _ _ _ _ (replies w call rest reply) (calls_none w call rest)
