-- Instructions that start one task: set, emit and call.
use Rattle.std.proofs.Common.{◌≡◌, refl, sym, ap, subst, ◌∙◌, ℕ, ◌+◌, ◌≤◌, true, false, List, [], ◌∷◌, ◌++◌, length, Option, None, Some, Ok, slice_get, arith}
use Rattle.std.specs.Prelude.{nat_lt, not, option_and_then, option_map}
use Rattle.ui_machine.specs.declared.arm.Arm.{Arm}
use Rattle.ui_machine.specs.Seq.{total}
use Rattle.ui_machine.specs.Definition.{Definition}
use Rattle.ui_machine.specs.Definition.Lookups.{slot_of}
use Rattle.ui_machine.specs.Definition.Names.{place_named}
use Rattle.ui_machine.specs.Definition.Places.{Place}
use Rattle.ui_machine.specs.Definition.Programs.{Instruction}
use Rattle.ui_machine.specs.Definition.Programs as words
use Rattle.ui_machine.specs.Definition.Properties.{Spec, is_construct_only, is_writable}
use Rattle.ui_machine.specs.Definition.Signals.{Method, Shape}
use Rattle.ui_machine.specs.Instructions.Jumps.{past}
use Rattle.ui_machine.specs.Instructions.Peers.{calling}
use Rattle.ui_machine.specs.Instructions.Properties.{set_from, set_property, slot_at}
use Rattle.ui_machine.specs.Instructions.Registers.{goes_on, operand_in, value_in, values_in}
use Rattle.ui_machine.specs.Instructions.Signals.{emitting, signal_in, signal_to_emit}
use Rattle.ui_machine.specs.Outcome.{known, only_if}
use Rattle.ui_machine.specs.declared.arm.Arm.TheVariants as arms
use Rattle.ui_machine.specs.Rules.Build.{of_items}
use Rattle.ui_machine.specs.Rules.Connections.{detail_in, signal_number}
use Rattle.ui_machine.specs.Rules.Construction.{nearest_shape}
use Rattle.ui_machine.specs.Rules.EmissionPlan.{new_emission}
use Rattle.ui_machine.specs.Rules.Programs.{all_fit}
use Rattle.ui_machine.specs.Rules.Sets.{spec_at}
use Rattle.ui_machine.specs.Rules.Transform.{kind_fits}
use Rattle.ui_machine.specs.State.Config.{Left, Started, World, peer_at}
use Rattle.ui_machine.specs.State.Objects.{Object, class_in, living, object_at}
use Rattle.ui_machine.specs.State.Peers.{Peer, method_number, method_of}
use Rattle.ui_machine.specs.State.Tasks.{Beginning, Call, Calling, Frame, Item, Running, Setting, Task}
use Rattle.law_typing.specs.Good.Builds.{is_for_builder}
use Rattle.law_typing.specs.Good.Objects.{PeerGood}
use Rattle.law_typing.specs.Good.Standing.{standing}
use Rattle.law_typing.specs.Graph.Channels.{property, signal}
use Rattle.law_typing.specs.Graph.Tables.{Tables, entry, greatest}
use Rattle.law_typing.specs.Laws.{IsIn}
use Rattle.law_typing.specs.Rules.RegisterKinds.{Kinds, class_at, covers, kind_in, places}
use Rattle.law_typing.specs.Rules.Typing as typing
use Rattle.law_typing.proofs.Lists.{greatest_in}
use Rattle.law_steps.proofs.Instructed.Around.{Due, r, taken}
use Rattle.law_steps.proofs.Instructed.Inverse.{bound, known_is, only}
use Rattle.law_steps.proofs.Instructed.Operand.{named}
use Rattle.law_steps.proofs.Instructed.Typed.{property_is}
use Rattle.law_prices.specs.Deeds.{PriceList}
use Rattle.law_prices.specs.Deeds as deeds
use Rattle.law_prices.specs.Potential.{due_price, object_price, running_price, seen, task_price, told_price}
use Rattle.law_prices.specs.Prices.{SolvesPrices, all_over, answer_price, call_price, method_named, price_of, put_price, shape_number}
use Rattle.law_prices.proofs.Nodes.{due_within, in_all_over, in_places, node_reached}
use Rattle.law_prices.proofs.Pays.{PaidThere, Pays, in_front_is, more, ok_is, paid_in, started}
use Rattle.law_prices.proofs.RegisterPays.{InstructionPays}

pub some_same : {A : Type 0} (x y : A) → ◌≡◌ {A = Option A} (Some x) (Some y) → x ≡ y
some_same x y e = cc

-- an object operand of an instruction, by the identity that the machine found
pub record Operand {d : Definition} {i : Instruction} (u : Due d i) (object id : ℕ) : Type 0 where
  pub o : Object
  pub lives : living u.w.objects id ≡ Some o
  pub at : standing u.w.objects id ≡ Some o.place
  pub class_is : class_at d o.place ≡ Some o.class
  pub covered : covers d (kind_in (r u).ks object) o.place ≡ true
  pub peer : PeerGood d u.w.peers id o

pub operand : {d : Definition} {i : Instruction} (u : Due d i) (object class id : ℕ) → typing.operand d (r u).ks object ≡ Ok class → operand_in u.w (past u.f) object ≡ Ok id → Operand u object id
operand {d} {i} u object class id typed e =
    let k = named u object class typed in
    let same : k.id ≡ id = ok_is {E = Arm} k.id id (sym k.asked ∙ e) in
    subst (λ id. Operand u object id) same
    (record {
      o = k.o;
      lives = k.lives;
      at = ap (option_map (λ (o : Object). o.place)) k.lives;
      class_is = ap (option_map (λ (p : Place). p.class)) k.good.is ∙ ap (λ (c : ℕ). Some c) (sym k.good.class);
      covered = k.covered;
      peer = k.good.peer;
    })

-- the slot that a name finds in an object's class
pub slot_found : (d : Definition) (w : World) (id slot : ℕ) (name : List ℕ) (o : Object) → living w.objects id ≡ Some o → slot_at d w id name ≡ Ok slot → slot_of d o.class name ≡ Some slot
unfolding slot_at
slot_found d w id slot name o lives e =
    let x = bound (object_at w.objects id) _ slot e in
    let is = known_is _ (living w.objects id) x.0 x.1 in
    let same : x.0 ≡ o = some_same x.0 o (sym is ∙ lives) in
    subst (λ (o : Object). slot_of d o.class name ≡ Some slot) same (known_is _ (slot_of d x.0.class name) slot x.2)

pub signal_found : (d : Definition) (w : World) (id number : ℕ) (name : List ℕ) (o : Object) → living w.objects id ≡ Some o → signal_in d w id name ≡ Ok number → signal_number d o.class name ≡ Some number
unfolding signal_in
signal_found d w id number name o lives e =
    let x = bound (object_at w.objects id) _ number e in
    let is = known_is _ (living w.objects id) x.0 x.1 in
    let same : x.0 ≡ o = some_same x.0 o (sym is ∙ lives) in
    subst (λ (o : Object). signal_number d o.class name ≡ Some number) same (known_is _ (signal_number d x.0.class name) number x.2)

-- the operand of a property's instruction
pub property_operand : (d : Definition) (ks : Kinds) (object : ℕ) (name : List ℕ) (s : Spec) → typing.property_of d ks object name ≡ Ok s → (class : ℕ) × (typing.operand d ks object ≡ Ok class)
property_operand d ks object name s e = let f = property_is d ks object name s e in (f.class, f.operand)

module _ (d : Definition) (P : PriceList) (t : Tables) where
  -- a task that an instruction starts and pays for
  pub sends : {i : Instruction} (u : Due d i) → PaidThere u P t → (next : Frame) → running_price d P t next ≡ running_price d P t (past u.f) → (task : Task) → is_for_builder task ≡ 0 → ((f : Item → ℕ) → of_items f task ≡ 0) →
      more u P t + task_price d P t (seen u.w) (Running next ∷ u.rest) task ≤ started u P t → Pays u P t (record { world = u.w; agenda = task ∷ Running next ∷ u.rest })
  sends u paid next same task none_made no_items cheap = record {
    falls = (let os = ap (λ m. total (price_of (object_price d P t m)) u.w.objects) (making none_made) in omega (arith, same, cheap, os));
    paid = paid_in d u.a u.w u.w (Running u.f ∷ u.rest) (task ∷ Running next ∷ u.rest) refl refl refl (λ f. (let z = no_items f in omega (arith, z))) paid;
  }
    where
      making : is_for_builder task ≡ 0 → total is_for_builder (task ∷ Running next ∷ u.rest) ≡ total is_for_builder (Running (past u.f) ∷ u.rest)
      making e = omega (arith, e)

  -- what is said of one world of the rest
  sent : {i : Instruction} (u : Due d i) (next : Frame) (task : Task) (s : Started) → goes_on u.w (task ∷ []) next ≡ Ok s → (l : Left) → record { world = s.world; agenda = s.tasks ++ u.rest } ≡ l →
      Pays u P t (record { world = u.w; agenda = task ∷ Running next ∷ u.rest }) → Pays u P t l
  sent u next task s e l is pays = subst (Pays u P t) (ap (λ (s : Started). record { world = s.world; agenda = s.tasks ++ u.rest }) (ok_is {E = Arm} _ s e) ∙ is) pays

  module _ (solves : SolvesPrices d P t) where
    -- ** set

    set_is : (object : ℕ) (name : List ℕ) (from : ℕ) (u : Due d (words.set object name from)) → PaidThere u P t → (l : Left) → (s : Started) → set_property d u.w (past u.f) object name from ≡ Ok s →
        record { world = s.world; agenda = s.tasks ++ u.rest } ≡ l → Pays u P t l
    unfolding set_property set_from typing.set_property
    set_is object name from u paid l s e is =
        let id = bound (operand_in u.w (past u.f) object) _ s e in
        let slot = bound (slot_at d u.w id.0 name) _ s id.2 in
        let spec = bound (spec_at d u.w.objects id.0 slot.0) _ s slot.2 in
        let writable = only (is_writable spec.0) arms.Flags (only_if (not (is_construct_only spec.0)) arms.ConstructOnly (set_from u.w (past u.f) id.0 slot.0 from)) s spec.2 in
        let free = only (not (is_construct_only spec.0)) arms.ConstructOnly (set_from u.w (past u.f) id.0 slot.0 from) s writable.1 in
        let v = bound (value_in (past u.f) from) _ s free.1 in
        let x = bound (typing.property_of d (r u).ks object name) _ _ (taken u).typed in
        let class = property_operand d (r u).ks object name x.0 x.1 in
        let o = operand u object class.0 id.0 class.1 id.1 in
        let found = slot_found d u.w id.0 slot.0 name o.o o.lives slot.1 in
        let ps = places d (kind_in (r u).ks object) in
        let there = in_places d P t u.a solves (r u).ks object o.o.place o.o.class o.covered o.class_is in
        let c = property o.o.place slot.0 in
        let put = greatest_in (put_price d P) (all_over d (λ class. slot_of d class name) property ps) c (in_all_over d P t u.a solves (λ class. slot_of d class name) property ps o.o.place o.o.class slot.0 there o.class_is found) in
        let node = node_reached d P t u.a solves (λ class. slot_of d class name) property ps o.o.place o.o.class slot.0 there o.class_is found in
        let due = due_within d P t (Running (past u.f) ∷ u.rest) c in
        let at = ap (price_of (λ place. put_price d P (property place slot.0) + due_price d P t (Running (past u.f) ∷ u.rest) (property place slot.0))) o.at in
        sent u (past u.f) (Setting id.0 slot.0 v.0) s v.2 l is
        (sends u paid (past u.f) refl (Setting id.0 slot.0 v.0) refl (λ f. refl) (omega (arith, put, node, due, at)))

    pub set_pays : (object : ℕ) (name : List ℕ) (from : ℕ) → InstructionPays d P t (words.set object name from)
    set_pays object name from u paid l e = let x = in_front_is u.rest _ l e in set_is object name from u paid l x.0 x.1 x.2

    -- ** emit

    emitted_is : (into : Option ℕ) (object : ℕ) (name : List ℕ) (detail : Option (List ℕ)) (args : List ℕ) (u : Due d (words.emit into object name detail args)) → PaidThere u P t → (l : Left) → (s : Started) →
        emitting d u.w (past u.f) object (record { into = into; signal = name; detail = detail; args = args }) ≡ Ok s → record { world = s.world; agenda = s.tasks ++ u.rest } ≡ l → Pays u P t l
    unfolding emitting signal_to_emit typing.emitting
    emitted_is into object name detail args u paid l s e is =
        let id = bound (operand_in u.w (past u.f) object) _ s e in
        let number = bound (signal_to_emit d u.w id.0 name) _ s id.2 in
        let plain = bound (signal_in d u.w id.0 name) _ number.0 number.1 in
        let positive = only _ _ _ number.0 plain.2 in
        let same : plain.0 ≡ number.0 = ok_is {E = Arm} plain.0 number.0 positive.1 in
        let stands = bound (detail_in d u.w id.0 number.0 detail) _ s number.2 in
        let given = bound (values_in (past u.f) args) _ s stands.2 in
        let class = bound (typing.operand d (r u).ks object) _ _ (taken u).typed in
        let o = operand u object class.0 id.0 class.1 id.1 in
        let found = ap (λ n. n) (signal_found d u.w id.0 plain.0 name o.o o.lives plain.1 ∙ ap (λ (n : ℕ). Some n) same) in
        let ps = places d (kind_in (r u).ks object) in
        let there = in_places d P t u.a solves (r u).ks object o.o.place o.o.class o.covered o.class_is in
        let node = node_reached d P t u.a solves (λ class. signal_number d class name) signal ps o.o.place o.o.class number.0 there o.class_is found in
        let e = new_emission id.0 number.0 stands.0 given.0 false in
        let at = ap (price_of (λ place. entry t.channels (signal place number.0) + told_price P e place)) o.at in
        sent u (record (past u.f) { into = into }) (Beginning e) s given.2 l is
        (sends u paid (record (past u.f) { into = into }) refl (Beginning e) refl (λ f. refl) (omega (arith, node, at)))

    pub emit_pays : (into : Option ℕ) (object : ℕ) (name : List ℕ) (detail : Option (List ℕ)) (args : List ℕ) → InstructionPays d P t (words.emit into object name detail args)
    emit_pays into object name detail args u paid l e = let x = in_front_is u.rest _ l e in emitted_is into object name detail args u paid l x.0 x.1 x.2

    -- ** call

    -- the peer of an object has the methods of its shape
    methods_of : (peers : List Peer) (id number : ℕ) (o : Object) (p : Peer) (name : List ℕ) (method : ℕ) → PeerGood d peers id o → o.peer ≡ Some number → slice_get peers number ≡ Some p → method_number p name ≡ Some method →
        (shape : ℕ) × (nearest_shape d o.class ≡ Some shape) × (method_named d name shape ≡ Some method)
    methods_of peers id number o p name method good has is named = go (nearest_shape d o.class) refl
      where
        go : (x : Option ℕ) → nearest_shape d o.class ≡ x → (shape : ℕ) × (nearest_shape d o.class ≡ Some shape) × (method_named d name shape ≡ Some method)
        go None e = absurd (let h = rw e at good in let k = sym h ∙ has in cc)
        go (Some shape) e = (shape, e, of (slice_get d.shapes shape) refl)
          where
            of : (x : Option Shape) → slice_get d.shapes shape ≡ x → method_named d name shape ≡ Some method
            of None f = absurd (let h = rw (e, f) at good in
                let same : h.0 ≡ number = (let k = sym h.2 ∙ has in cc) in
                let peer : h.1 ≡ p = (let k = sym h.3 ∙ (ap (slice_get peers) same ∙ is) in cc) in
                let none = ap (λ ms. place_named (λ (m : Method). m.name) ms name) h.6 in
                let at = ap (λ (q : Peer). method_number q name) peer in
                let k = sym at ∙ none in
                let m = sym named ∙ k in
                cc)
            of (Some x) f =
                let h = rw (e, f) at good in
                let same : h.0 ≡ number = (let k = sym h.2 ∙ has in cc) in
                let peer : h.1 ≡ p = (let k = sym h.3 ∙ (ap (slice_get peers) same ∙ is) in cc) in
                let ms = ap (λ ms. place_named (λ (m : Method). m.name) ms name) h.6 in
                let at = ap (λ (q : Peer). method_number q name) peer in
                ap (option_and_then (λ (s : Shape). place_named (λ (m : Method). m.name) s.methods name)) f ∙ (sym ms ∙ (at ∙ named))

    -- what is asked at a place is within what the call may ask
    call_cheap : (ps : List ℕ) (place class shape number : ℕ) (name : List ℕ) → IsIn place ps → class_at d place ≡ Some class → nearest_shape d class ≡ Some shape → method_named d name shape ≡ Some number →
        answer_price d P place number ≤ greatest (call_price d P name) ps
    call_cheap ps place class shape number name there class_is shaped named =
        let most = greatest_in (call_price d P name) ps place there in
        let shape_is = ap (option_and_then (nearest_shape d)) class_is ∙ shaped in
        let whole = ap (price_of (λ shape. price_of (λ method. P (deeds.answer shape method)) (method_named d name shape))) shape_is in
        let one = ap (price_of (λ method. P (deeds.answer shape method))) named in
        let own = ap (λ s. P (deeds.answer (shape_number d s) number)) shape_is in
        omega (arith, most, whole, one, own)

    call_sends : (to object : ℕ) (name : List ℕ) (args : List ℕ) (u : Due d (words.call to object name args)) → PaidThere u P t → (call : Call) (place : ℕ) → standing u.w.objects call.object ≡ Some place →
        answer_price d P place call.method ≤ greatest (call_price d P name) (places d (kind_in (r u).ks object)) → Pays u P t (record { world = u.w; agenda = Calling call ∷ Running (past u.f) ∷ u.rest })
    call_sends to object name args u paid call place is cheap =
        let at = ap (price_of (λ place. answer_price d P place call.method)) is in
        sends u paid (past u.f) refl (Calling call) refl (λ f. refl) (omega (arith, at, cheap))

    called_is : (to object : ℕ) (name : List ℕ) (args : List ℕ) (u : Due d (words.call to object name args)) → PaidThere u P t → (l : Left) → (s : Started) → calling d u.w (past u.f) to object name args ≡ Ok s →
        record { world = s.world; agenda = s.tasks ++ u.rest } ≡ l → Pays u P t l
    unfolding calling typing.calling
    called_is to object name args u paid l s e is =
        let id = bound (operand_in u.w (past u.f) object) _ s e in
        let x = bound (object_at u.w.objects id.0) _ s id.2 in
        let peer = bound (known _ x.0.peer) _ s x.2 in
        let p = bound (known _ (peer_at u.w peer.0)) _ s peer.2 in
        let number = bound (known _ (method_number p.0 name)) _ s p.2 in
        let m = bound (known _ (method_of p.0 number.0)) _ s number.2 in
        let given = bound (values_in (past u.f) args) _ s m.2 in
        let call : Call = record { object = id.0; peer = peer.0; method = number.0; args = given.0; to = to } in
        let calls = goes_on u.w (Calling call ∷ []) (past u.f) in
        let fit = only (all_fit (kind_fits (class_in u.w.objects) d.types) given.0 m.0.params) arms.Call (only_if (nat_lt to (length (past u.f).registers)) arms.Code calls) s given.2 in
        let low = only (nat_lt to (length (past u.f).registers)) arms.Code calls s fit.1 in
        let class = bound (typing.operand d (r u).ks object) _ _ (taken u).typed in
        let o = operand u object class.0 id.0 class.1 id.1 in
        let found = known_is _ (living u.w.objects id.0) x.0 x.1 in
        let same : x.0 ≡ o.o = some_same x.0 o.o (sym found ∙ o.lives) in
        let has = ap (λ (o : Object). o.peer) (sym same) ∙ known_is _ x.0.peer peer.0 peer.1 in
        let shape = methods_of u.w.peers id.0 peer.0 o.o p.0 name number.0 o.peer has (known_is _ (peer_at u.w peer.0) p.0 p.1) (known_is _ (method_number p.0 name) number.0 number.1) in
        let there = in_places d P t u.a solves (r u).ks object o.o.place o.o.class o.covered o.class_is in
        let cheap = call_cheap (places d (kind_in (r u).ks object)) o.o.place o.o.class shape.0 number.0 name there o.class_is shape.1 shape.2 in
        sent u (past u.f) (Calling call) s low.1 l is (call_sends to object name args u paid call o.o.place o.at cheap)

    pub call_pays : (to object : ℕ) (name : List ℕ) (args : List ℕ) → InstructionPays d P t (words.call to object name args)
    call_pays to object name args u paid l e = let x = in_front_is u.rest _ l e in called_is to object name args u paid l x.0 x.1 x.2
