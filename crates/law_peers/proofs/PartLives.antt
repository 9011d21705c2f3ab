-- How the peers of a pool live through each part of a step that is about peers.
use Rattle.std.proofs.Common.{◌≡◌, refl, ap, sym, subst, ◌∙◌, ℕ, zero, suc, Bool, true, false, cond, not, List, [], ◌∷◌, ◌++◌, Option, None, Some, Ok, Err}
use Rattle.std.specs.List.{list_all}
use Rattle.std.specs.Prelude.{IfOk, codes, length, nat_lt, slice_get}
use Rattle.std.proofs.lemmas.List.{append-nil}
use Rattle.std.proofs.lemmas.List.Elements.{filter-append}
use Rattle.ui_machine.specs.declared.arm.Arm.{Arm}
use Rattle.ui_machine.specs.declared.arm.Arm.TheVariants as arms
use Rattle.ui_machine.specs.Definition.{Definition}
use Rattle.ui_machine.specs.Definition.Lookups.{place_at, place_of, specs_of, type_of}
use Rattle.ui_machine.specs.Definition.Places.{Place}
use Rattle.ui_machine.specs.Definition.Programs.{Block, Instruction}
use Rattle.ui_machine.specs.Definition.Programs as words
use Rattle.ui_machine.specs.Definition.Signals.{Method}
use Rattle.ui_machine.specs.Definition.Values.{Value}
use Rattle.ui_machine.specs.Definition.Values as values
use Rattle.ui_machine.specs.Instructions.{in_front, instruction_step, running}
use Rattle.ui_machine.specs.Instructions.Jumps.{block_in, in_pass, past}
use Rattle.ui_machine.specs.Instructions.Objects.{creating, disposed_once, disposing, has_room_for_object, made_new, made_if_room}
use Rattle.ui_machine.specs.Instructions.Peers.{call_line, called, calling, calling_on, left_with, question_of, replied, uncalled, with_method}
use Rattle.ui_machine.specs.Instructions.Registers.{goes_on, operand_in, values_in, with_register, written_to}
use Rattle.ui_machine.specs.Outcome.{Answer, known, only_if, ◌>>=◌}
use Rattle.ui_machine.specs.Output.Lines.{Line}
use Rattle.ui_machine.specs.Output.Lines as lines
use Rattle.ui_machine.specs.Output.Text.{text_of_line}
use Rattle.ui_machine.specs.Rules.Accumulation.{or_zero, received}
use Rattle.ui_machine.specs.Rules.Build.{to_make, building_object, peer_for}
use Rattle.ui_machine.specs.Rules.Construction.{construction, has_valid_default, making, new_object, peer_to_take, with_object}
use Rattle.ui_machine.specs.Rules.Disposal.{closed_if_open, closing, disposed, finalised, is_first, peer_of, said_if, without_object}
use Rattle.ui_machine.specs.Rules.Programs.{all_fit}
use Rattle.ui_machine.specs.Rules.Sets.{is_disposed}
use Rattle.ui_machine.specs.Rules.Transform.{kind_fits, zero_value}
use Rattle.ui_machine.specs.Seq.{read, write}
use Rattle.ui_machine.specs.State.Config.{Left, Started, World, is_asked, peer_at, peer_state, said, starts, with_objects, with_peer_state}
use Rattle.ui_machine.specs.State.Objects.{class_in, living, object_at, put}
use Rattle.ui_machine.specs.State.Peers.{Peer, PeerState, Question, Reply, closed_peer, method_number, method_of, no_peer}
use Rattle.ui_machine.specs.State.Tasks.{Call, Calling, Constructing, Frame, Item, Task}
use Rattle.ui_machine.specs.Runs.{listed, question_in}
use Rattle.law_peers.specs.PeerLines.{is_peer_line, peer_lines}
use Rattle.law_peers.specs.Blind.{block_meets_peers, instruction_meets_peers, next_meets_peers}
use Rattle.law_peers.specs.PeerLaws.{Lives, PeersLive, has_replied, no_method, nothing, peer_in, replied_in, reply_line, shut_in, was_closed, was_got}
use Rattle.law_peers.proofs.LifeProofs.{then_live}

-- ** lines

one_line : (line : List ℕ) (b : Bool) → is_peer_line line ≡ b → peer_lines (line ∷ []) ≡ cond b (line ∷ []) []
one_line line b e = ap (λ c. cond c (line ∷ []) []) e

pub quiet_line : (t : List (List ℕ)) (line : List ℕ) → is_peer_line line ≡ false → peer_lines (t ++ line ∷ []) ≡ peer_lines t
quiet_line t line e = filter-append is_peer_line t (line ∷ []) ∙ (ap (λ x. peer_lines t ++ x) (one_line line false e) ∙ append-nil (peer_lines t))

loud_line : (t : List (List ℕ)) (line : List ℕ) → is_peer_line line ≡ true → peer_lines (t ++ line ∷ []) ≡ peer_lines t ++ line ∷ []
loud_line t line e = filter-append is_peer_line t (line ∷ []) ∙ ap (λ x. peer_lines t ++ x) (one_line line true e)

-- ** answers

bind_lives : {A B : Type 0} (a : Answer A) (f : A → Answer B) (P : B → Type 0) → ((x : A) → a ≡ Ok x → IfOk (f x) P) → IfOk (a >>= f) P
bind_lives (Ok x) f P h = h x refl
bind_lives (Err arm) f P h = tt

only_lives : {A : Type 0} (b : Bool) (arm : Arm) (a : Answer A) (P : A → Type 0) → IfOk a P → IfOk (only_if b arm a) P
only_lives true arm a P h = h
only_lives false arm a P h = tt

cond_lives : {A : Type 0} (b : Bool) (x y : Answer A) (P : A → Type 0) → IfOk x P → IfOk y P → IfOk (cond b x y) P
cond_lives true x y P p q = p
cond_lives false x y P p q = q

at_ok : {A : Type 0} (P : A → Type 0) (a : Answer A) (x : A) → IfOk a P → a ≡ Ok x → P x
at_ok {A} P a x h e = subst (λ (r : Answer A). IfOk r P) e h

-- ** pools

read_there : {A : Type 0} (none : A) (xs : List A) (n : ℕ) (x : A) → slice_get xs n ≡ Some x → read none xs n ≡ x
read_there none [] n p e = absurd (cc)
read_there none (x ∷ xs) zero p e = cc
read_there none (x ∷ xs) (suc n) p e = read_there none xs n p e

write_there : (a b : Peer) (peers : List Peer) (n : ℕ) (p q : Peer) → slice_get peers n ≡ Some p → write a peers n q ≡ write b peers n q
write_there a b [] n p q e = absurd (cc)
write_there a b (x ∷ peers) zero p q e = refl
write_there a b (x ∷ peers) (suc n) p q e = ap (λ peers. x ∷ peers) (write_there a b peers n p q e)

module _ (d : Definition) where
  -- nothing is said of peers, and the pool stays
  pub rests_in : (w v : World) → v.peers ≡ w.peers → peer_lines v.transcript ≡ peer_lines w.transcript → PeersLive d [] w v
  rests_in w v same quiet = record {
    lines = [];
    shown = quiet ∙ sym (append-nil (peer_lines w.transcript));
    lives = subst (λ (ps : List Peer). Lives d w.peers [] [] ps) (sym same) nothing;
  }

  -- ** closes

  shuts : (v : World) (k : ℕ) (p : Peer) → slice_get v.peers k ≡ Some p → PeersLive d [] v (closed_if_open d v k p)
  shuts v k p is = by p.state.is_open refl
    where
      here : peer_in v.peers k ≡ p
      here = read_there no_peer v.peers k p is

      by : (b : Bool) → p.state.is_open ≡ b → PeersLive d [] v (cond b (said d (record v { peers = write no_peer v.peers k (closed_peer p) }) (lines.close p.name)) v)
      by true e = record {
        lines = text_of_line d.types (lines.close p.name) ∷ [];
        shown = loud_line v.transcript (text_of_line d.types (lines.close p.name)) refl;
        lives = was_closed k (ap (λ (q : Peer). q.state.is_open) here ∙ e) (ap (λ (q : Peer). text_of_line d.types (lines.close q.name)) (sym here))
            (subst (λ (q : Peer). Lives d (shut_in v.peers k) [] [] (write no_peer v.peers k (closed_peer q))) here nothing);
      }
      by false e = rests_in v v refl refl

  closes : (v : World) (peer : Option ℕ) → IfOk (closing d peer v) (PeersLive d [] v)
  unfolding closing
  closes v None = rests_in v v refl refl
  closes v (Some k) = by (slice_get v.peers k) refl
    where
      by : (o : Option Peer) → slice_get v.peers k ≡ o → IfOk (known arms.Code o >>= λ p. Ok (closed_if_open d v k p)) (PeersLive d [] v)
      by None e = tt
      by (Some p) e = shuts v k p e

  goes : (w : World) (id : ℕ) (first : Bool) → PeersLive d [] w (said_if d first (without_object d w id) (lines.dispose id))
  goes w id false = rests_in w (without_object d w id) refl refl
  goes w id true = rests_in w (said d (without_object d w id) (lines.dispose id)) refl (quiet_line w.transcript (text_of_line d.types (lines.dispose id)) refl)

  disposes : (w : World) (id : ℕ) → IfOk (disposed d w id) (PeersLive d [] w)
  disposes w id =
      let v = said_if d (is_first (living w.objects id)) (without_object d w id) (lines.dispose id) in
      after v (goes w id (is_first (living w.objects id))) (closing d (peer_of (living w.objects id)) v) (closes v (peer_of (living w.objects id)))
    where
      after : (v : World) → PeersLive d [] w v → (a : Answer World) → IfOk a (PeersLive d [] v) → IfOk a (PeersLive d [] w)
      after v x (Ok z) y = then_live d [] [] w v z x y
      after v x (Err arm) y = tt

  pub finalises : (w : World) (id : ℕ) → IfOk (finalised d w id) (PeersLive d [] w)
  unfolding finalised
  finalises w id = bind_lives (disposed d w id) _ (PeersLive d [] w) (λ v is.
      let z = said d (with_objects v (put v.objects id None)) (lines.final id) in
      then_live d [] [] w v z (at_ok (PeersLive d [] w) (disposed d w id) v (disposes w id) is)
      (rests_in v z refl (quiet_line v.transcript (text_of_line d.types (lines.final id)) refl)))

  -- ** instructions, of one world

  module _ (w : World) where
    abbrev Live : Started → Type 0
    Live s = PeersLive d [] w s.world

    stays_same : PeersLive d [] w w
    stays_same = rests_in w w refl refl

    made : (place : ℕ) (p : Place) (peer : Option ℕ) (id : ℕ) (class : List ℕ) → PeersLive d [] w (said d (with_object d w (new_object d place p peer)) (lines.construct id class))
    made place p None id class = rests_in w _ refl (quiet_line w.transcript (text_of_line d.types (lines.construct id class)) refl)
    made place p (Some k) id class = record {
      lines = [];
      shown = quiet_line w.transcript (text_of_line d.types (lines.construct id class)) refl ∙ sym (append-nil (peer_lines w.transcript));
      lives = was_got k (suc (length w.objects)) nothing;
    }

    makes_one : (place : ℕ) (peer : Option ℕ) (held : Bool) → IfOk (making d w place peer held) Live
    unfolding making
    makes_one place peer held = bind_lives (known arms.Code (place_at d place)) _ Live (λ p _.
        let valid = list_all (has_valid_default d) (specs_of d p.class) in
        let begun : Answer Started = starts (said d (with_object d w (new_object d place p peer)) (lines.construct (suc (length w.objects)) (type_of d p.class).name))
        (Constructing (suc (length w.objects)) (construction d w place p) held ∷ []) in
        only_lives (not (type_of d p.class).is_abstract) arms.Abstract (only_if valid arms.Value begun) Live
        (only_lives valid arms.Value begun Live (made place p peer (suc (length w.objects)) (type_of d p.class).name)))

    makes_new : (f : Frame) (to place : ℕ) (p : Place) → IfOk (made_new d w f to place p) Live
    unfolding made_new
    makes_new f to place p = bind_lives (making d w place (peer_to_take d w p) false) _ Live (λ m is.
        bind_lives (with_register to _ f.registers) _ Live (λ r _. at_ok Live (making d w place (peer_to_take d w p) false) m (makes_one place (peer_to_take d w p) false) is))

    limits : (f : Frame) (to : ℕ) (x : Option Value) → IfOk (written_to (said d w (lines.limit (codes "new"))) to x f) Live
    unfolding written_to
    limits f to x = bind_lives (with_register to x f.registers) _ Live (λ r _.
        rests_in w (said d w (lines.limit (codes "new"))) refl (quiet_line w.transcript (text_of_line d.types (lines.limit (codes "new"))) refl))

    creates : (rest : List Task) (f : Frame) (to : ℕ) (id : List ℕ) → IfOk (creating d w rest f to id) Live
    unfolding creating
    creates rest f to id = bind_lives (known arms.Code (place_of d id)) _ Live (λ place _. bind_lives (known arms.Code (place_at d place)) _ Live (λ p _.
        only_lives p.is_prototype arms.Code (made_if_room d w (to_make rest) f to place p) Live
        (cond_lives (has_room_for_object d w (to_make rest) p) (made_new d w f to place p) (written_to (said d w (lines.limit (codes "new"))) to (Some (values.object None)) f) Live (makes_new f to place p) (limits f to (Some (values.object None))))))

    disposes_of : (f : Frame) (object : ℕ) → IfOk (disposing d w f object) Live
    unfolding disposing
    disposes_of f object = bind_lives (operand_in w f object) _ Live (λ id _. bind_lives (disposed_once d w id) _ Live (λ v is.
        at_ok (PeersLive d [] w) (disposed_once d w id) v (cond_lives (is_disposed (living w.objects id)) (Ok w) (disposed d w id) (PeersLive d [] w) stays_same (disposes w id)) is))

    calls_of : (f : Frame) (to object : ℕ) (name args : List ℕ) → IfOk (calling d w f to object name args) Live
    unfolding calling
    calls_of f to object name args = bind_lives (operand_in w f object) _ Live (λ id _. bind_lives (object_at w.objects id) _ Live (λ o _.
        bind_lives (known arms.Call o.peer) _ Live (λ peer _. bind_lives (known arms.Call (peer_at w peer)) _ Live (λ p _.
        bind_lives (known arms.Call (method_number p name)) _ Live (λ number _. bind_lives (known arms.Call (method_of p number)) _ Live (λ m _.
        bind_lives (values_in f args) _ Live (λ given _.
        let begun : Answer Started = goes_on w (Calling (record { object = id; peer = peer; method = number; args = given; to = to }) ∷ []) f in
        only_lives (all_fit (kind_fits (class_in w.objects) d.types) given m.params) arms.Call (only_if (nat_lt to (length f.registers)) arms.Code begun) Live
        (only_lives (nat_lt to (length f.registers)) arms.Code begun Live stays_same))))))))

    pub builds_object : (place : ℕ) (items : List Item) → IfOk (building_object d w place items) Live
    unfolding building_object
    builds_object place items = bind_lives (known arms.Code (place_at d place)) _ Live (λ p _. bind_lives (peer_for d w p) _ Live (λ peer _.
        bind_lives (making d w place peer true) _ Live (λ m is. at_ok Live (making d w place peer true) m (makes_one place peer true) is)))

    abbrev LeftLive : Left → Type 0
    LeftLive l = PeersLive d [] w l.world

    in_front_lives : (rest : List Task) (a : Answer Started) → IfOk a Live → IfOk (in_front rest a) LeftLive
    unfolding in_front
    in_front_lives rest (Ok s) x = x
    in_front_lives rest (Err arm) x = tt

    instruction_met : (rest : List Task) (f : Frame) (i : Instruction) → instruction_meets_peers d w f i ≡ true → IfOk (instruction_step d w rest f i) LeftLive
    instruction_met rest f (words.new to id) met = in_front_lives rest (creating d w rest f to id) (creates rest f to id)
    instruction_met rest f (words.dispose object) met = in_front_lives rest (disposing d w f object) (disposes_of f object)
    instruction_met rest f (words.call to object name args) met = in_front_lives rest (calling d w f to object name args) (calls_of f to object name args)
    instruction_met rest f (words.const to kind v) met = absurd (cc)
    instruction_met rest f (words.move to from) met = absurd (cc)
    instruction_met rest f (words.clear to) met = absurd (cc)
    instruction_met rest f (words.arithmetic operation to a b) met = absurd (cc)
    instruction_met rest f (words.compare comparison to a b) met = absurd (cc)
    instruction_met rest f (words.same to a b) met = absurd (cc)
    instruction_met rest f (words.negate to a) met = absurd (cc)
    instruction_met rest f (words.both to a b) met = absurd (cc)
    instruction_met rest f (words.either to a b) met = absurd (cc)
    instruction_met rest f (words.join to a b) met = absurd (cc)
    instruction_met rest f (words.convert to a kind) met = absurd (cc)
    instruction_met rest f (words.get to object name) met = absurd (cc)
    instruction_met rest f (words.set object name from) met = absurd (cc)
    instruction_met rest f (words.object to id) met = absurd (cc)
    instruction_met rest f (words.sink object) met = absurd (cc)
    instruction_met rest f (words.orphan object) met = absurd (cc)
    instruction_met rest f (words.adopt to parent child) met = absurd (cc)
    instruction_met rest f (words.freeze object) met = absurd (cc)
    instruction_met rest f (words.thaw object) met = absurd (cc)
    instruction_met rest f (words.emit into object name detail args) met = absurd (cc)
    instruction_met rest f (words.notify object name) met = absurd (cc)
    instruction_met rest f (words.connect to object c) met = absurd (cc)
    instruction_met rest f (words.disconnect object program) met = absurd (cc)
    instruction_met rest f (words.block object program) met = absurd (cc)
    instruction_met rest f (words.unblock object program) met = absurd (cc)
    instruction_met rest f words.stop met = absurd (cc)
    instruction_met rest f (words.unbind name) met = absurd (cc)
    instruction_met rest f (words.idle to program priority with) met = absurd (cc)
    instruction_met rest f (words.timeout to program priority interval with) met = absurd (cc)
    instruction_met rest f (words.remove program) met = absurd (cc)
    instruction_met rest f (words.jump to) met = absurd (cc)
    instruction_met rest f (words.branch on then_to else_to) met = absurd (cc)
    instruction_met rest f (words.branch_null on then_to else_to) met = absurd (cc)
    instruction_met rest f (words.return from) met = absurd (cc)

    pub runs_on : (rest : List Task) (f : Frame) → block_meets_peers d w f (block_in d f) ≡ true → IfOk (running d w rest f) LeftLive
    unfolding running
    runs_on rest f met = by_block (block_in d f) met
      where
        next : Frame → Option Instruction → Answer Left
        next g o = known arms.Code o >>= λ (i : Instruction). instruction_step d w rest g i

        by_next : (g : Frame) (o : Option Instruction) → next_meets_peers d w g o ≡ true → IfOk (next g o) LeftLive
        by_next g None m = tt
        by_next g (Some i) m = instruction_met rest g i m

        by_block : (block : Answer Block) → block_meets_peers d w f block ≡ true → IfOk (block >>= λ (b : Block). next (past (in_pass b f)) (slice_get b.code (in_pass b f).at)) LeftLive
        by_block (Err arm) m = tt
        by_block (Ok b) m = by_next (past (in_pass b f)) (slice_get b.code (in_pass b f).at) m

    -- ** due calls

    says_it : (p : Peer) (m : Method) (args : List Value) (answer : Option Value) → is_peer_line (text_of_line d.types (call_line p m args answer)) ≡ true
    says_it p m args None = refl
    says_it p m args (Some v) = refl

    answered : (c : Call) (r : Reply) (p : Peer) (m : Method) → r.question ≡ record { peer = c.peer; state = peer_state w c.peer; method = c.method; args = c.args } →
        is_asked w c.peer ≡ true → slice_get w.peers c.peer ≡ Some p → method_of p c.method ≡ Some m →
        PeersLive d (r ∷ []) w (said d (with_peer_state w c.peer p r.state) (call_line p m c.args r.answer))
    answered c r p m same asked there has =
        let here : peer_in w.peers c.peer ≡ p = read_there no_peer w.peers c.peer p there in
        let number : r.question.peer ≡ c.peer = ap (λ (q : Question). q.peer) same in
        let state : r.question.state ≡ (peer_in w.peers c.peer).state = ap (λ (q : Question). q.state) same in
        let args : r.question.args ≡ c.args = ap (λ (q : Question). q.args) same in
        let at : peer_in w.peers r.question.peer ≡ p = ap (λ n. peer_in w.peers n) number ∙ here in
        let shape : r.question.state.shape ≡ p.state.shape = ap (λ (s : PeerState). s.shape) state ∙ ap (λ (q : Peer). q.state.shape) here in
        let method : read no_method r.question.state.shape r.question.method ≡ m =
        ap (λ s. read no_method s r.question.method) shape ∙ (ap (λ n. read no_method p.state.shape n) (ap (λ (q : Question). q.method) same)
        ∙ read_there no_method p.state.shape c.method m has) in
        let line : reply_line d w.peers r ≡ text_of_line d.types (call_line p m c.args r.answer) =
        ap (λ q. text_of_line d.types (call_line q (read no_method r.question.state.shape r.question.method) r.question.args r.answer)) at
        ∙ (ap (λ n. text_of_line d.types (call_line p n r.question.args r.answer)) method
        ∙ ap (λ a. text_of_line d.types (call_line p m a r.answer)) args) in
        let pool : replied_in w.peers r ≡ write p w.peers c.peer (record p { state = r.state }) =
        ap (λ q. write no_peer w.peers r.question.peer (record q { state = r.state })) at
        ∙ (ap (λ n. write no_peer w.peers n (record p { state = r.state })) number
        ∙ write_there no_peer p w.peers c.peer p (record p { state = r.state }) there) in
        record {
          lines = text_of_line d.types (call_line p m c.args r.answer) ∷ [];
          shown = loud_line w.transcript (text_of_line d.types (call_line p m c.args r.answer)) (says_it p m c.args r.answer);
          lives = has_replied (state ∙ ap (λ n. (peer_in w.peers n).state) (sym number)) (ap (λ (s : PeerState). s.is_open) state ∙ asked) (sym line)
              (subst (λ (ps : List Peer). Lives d (replied_in w.peers r) [] [] ps) pool nothing);
        }

    abbrev RepliedLive : List Reply → Left → Type 0
    RepliedLive rs l = PeersLive d rs w l.world

    left_lives : (rs : List Reply) (v : World) (rest : List Task) (to : ℕ) (x : Value) → PeersLive d rs w v → IfOk (left_with v rest to x) (RepliedLive rs)
    unfolding left_with
    left_lives rs v rest to x live = bind_lives (received rest to (Some x)) _ (RepliedLive rs) (λ agenda _. live)

    is_called : (c : Call) (rest : List Task) (r : Reply) → r.question ≡ record { peer = c.peer; state = peer_state w c.peer; method = c.method; args = c.args } →
        is_asked w c.peer ≡ true → IfOk (called d w c rest r) (RepliedLive (r ∷ []))
    unfolding called with_method
    is_called c rest r same asked = by (slice_get w.peers c.peer) refl
      where
        after : Peer → Method → Answer Left
        after p m = left_with (said d (with_peer_state w c.peer p r.state) (call_line p m c.args r.answer)) rest c.to (or_zero d m.result r.answer)

        by_method : (p : Peer) → slice_get w.peers c.peer ≡ Some p → (o : Option Method) → method_of p c.method ≡ o → IfOk (known arms.Call o >>= λ (m : Method). after p m) (RepliedLive (r ∷ []))
        by_method p e None h = tt
        by_method p e (Some m) h = left_lives (r ∷ []) _ rest c.to _ (answered c r p m same asked e h)

        by : (o : Option Peer) → slice_get w.peers c.peer ≡ o → IfOk (known arms.Call o >>= λ (p : Peer). known arms.Call (method_of p c.method) >>= λ (m : Method). after p m) (RepliedLive (r ∷ []))
        by None e = tt
        by (Some p) e = by_method p e (method_of p c.method) refl

    is_uncalled : (c : Call) (rest : List Task) → IfOk (uncalled d w c rest) (RepliedLive [])
    unfolding uncalled with_method
    is_uncalled c rest = bind_lives (known arms.Call (peer_at w c.peer)) _ (RepliedLive []) (λ p _. bind_lives (known arms.Call (method_of p c.method)) _ (RepliedLive []) (λ m _.
        left_lives [] (said d w (lines.closed p.name m.name c.args)) rest c.to (zero_value d.types m.result)
        (rests_in w (said d w (lines.closed p.name m.name c.args)) refl (quiet_line w.transcript (text_of_line d.types (lines.closed p.name m.name c.args)) refl))))

    pub calls_on : (c : Call) (rest : List Task) (reply : Option Reply) → question_of w c ≡ question_in reply → IfOk (calling_on d w c rest reply) (RepliedLive (listed reply))
    calls_on c rest reply asks = by (is_asked w c.peer) refl reply asks
      where
        by : (b : Bool) → is_asked w c.peer ≡ b → (reply : Option Reply) →
            cond b (Some (record { peer = c.peer; state = peer_state w c.peer; method = c.method; args = c.args })) None ≡ question_in reply →
            IfOk (cond b (replied d w c rest reply) (uncalled d w c rest)) (RepliedLive (listed reply))
        by true e None q = tt
        by true e (Some r) q = is_called c rest r (let h = q in cc) e
        by false e None q = is_uncalled c rest
        by false e (Some r) q = absurd (cc)
