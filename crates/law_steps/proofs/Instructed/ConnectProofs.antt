-- A program connects a handler, or is given the answer that it was too late or that there is no room.
use Rattle.std.proofs.Common.{◌≡◌, refl, sym, ap, subst, ◌∙◌, ℕ, zero, suc, ◌+◌, ◌<◌, ◌≤◌, Bool, true, false, cond, List, [], ◌∷◌, ◌++◌, length, Option, None, Some, Ok, arith}
use Rattle.std.specs.Prelude.{◌&&◌, ◌||◌, not, nat_eq, nat_lt, map, codes, is_some, option_map}
use Rattle.std.specs.List.{filter}
use Rattle.std.proofs.lemmas.Bool.{eqb-true, eqb-false, eq-eqb, ltb-true}
use Rattle.ui_machine.specs.Definition.Kinds.{Kind, RegisterKind}
use Rattle.ui_machine.specs.Definition.Kinds as kinds
use Rattle.ui_machine.specs.Definition.Properties.{has_flags}
use Rattle.ui_machine.specs.Definition.Values as values
use Rattle.ui_machine.specs.Definition.{Definition}
use Rattle.ui_machine.specs.Definition.Lookups.{slot_of, program_of, program_at}
use Rattle.ui_machine.specs.Definition.Places.{Place}
use Rattle.ui_machine.specs.Definition.Signals.{Signal}
use Rattle.ui_machine.specs.Definition.Programs.{Connect, Instruction, Program}
use Rattle.ui_machine.specs.Definition.Programs as words
use Rattle.ui_machine.specs.State.Objects.{Object, living}
use Rattle.ui_machine.specs.State.Handlers.{Handler, handler_of}
use Rattle.ui_machine.specs.State.Tasks.{Frame, Task, Running}
use Rattle.ui_machine.specs.State.Config.{World, said}
use Rattle.ui_machine.specs.Outcome.{known, only_if}
use Rattle.ui_machine.specs.Output.Lines as lines
use Rattle.ui_machine.specs.Output.Text.{text_of_line}
use Rattle.ui_machine.specs.Rules.Ancestry.{is_a}
use Rattle.ui_machine.specs.Rules.Build.{to_connect}
use Rattle.ui_machine.specs.Rules.Connections.{Connection, signal_number, may_stand, detail_for, detail_in, new_handler, with_handler, is_too_late, has_room_for_handler, by_code_to, connected, greatest_handler}
use Rattle.ui_machine.specs.Rules.EmissionPlan.{signal_of}
use Rattle.ui_machine.specs.Instructions.{in_front}
use Rattle.ui_machine.specs.Instructions.Registers.{operand_in, data_in, tells}
use Rattle.ui_machine.specs.Instructions.Signals.{signal_in, connection_by_code, connecting}
use Rattle.ui_machine.specs.Instructions.Jumps.{past}
use Rattle.law_typing.specs.Rules.Answers as rules
use Rattle.law_typing.specs.Rules.RegisterKinds.{Kinds, kind_in, class_at, covers, fits, places, place_numbers}
use Rattle.law_typing.specs.Rules.Signatures.{takes_detail, takes, is_taken_by, given_kinds, data_kinds, parameters_fit, result_fits}
use Rattle.law_typing.specs.Rules.Typing as typing
use Rattle.law_typing.specs.Rules.Typing.{after}
use Rattle.law_typing.specs.Graph as graphs
use Rattle.law_typing.specs.Graph.{graph, Raised, connection_of, may_be_at, can_mean, place_of_channel}
use Rattle.law_typing.specs.Graph.Channels.{Channel, is_channel}
use Rattle.law_typing.specs.Laws.{IsIn}
use Rattle.law_typing.specs.Laws.WellRead.{TypesRead, HasNotify}
use Rattle.law_typing.specs.Good.Standing.{standing}
use Rattle.law_typing.specs.Good.Handlers.{data_kind, HandlerGood, runs_at}
use Rattle.law_typing.proofs.Lists.{both_parts, any_true, filter_in}
use Rattle.law_typing.proofs.CostProofs.{listed_in, place_below}
use Rattle.law_static.specs.Raises.{raised_there}
use Rattle.law_static.specs.Sites.{BlockIs, site}
use Rattle.law_static.proofs.MeansProofs.{handlers_mean, raised_known}
use Rattle.law_static.proofs.RaisesProofs.{connections_known}
use Rattle.law_static.proofs.SiteProofs.{sites_keep}
use Rattle.law_static.proofs.SubclassProofs.{signals_inherit, specs_inherit, emitted_inherit, names_find}
use Rattle.law_steps.specs.Kept.Connect.{MayConnect}
use Rattle.law_steps.proofs.Kept.ConnectProofs.{handler_connects}
use Rattle.law_steps.specs.Instructed.Connecting.{ConnectsAreFine}
use Rattle.law_steps.proofs.Instructed.Around.{Due, r, here, taken, StepIsFine, fine_of}
use Rattle.law_steps.proofs.Instructed.Data.{OneKind, none, some, HasData, has_data, at_fits}
use Rattle.law_steps.proofs.Instructed.EmitProofs.{detail_stands, stands_too}
use Rattle.law_steps.proofs.Instructed.Inverse.{bound, only, known_is}
use Rattle.law_steps.proofs.Instructed.Lists.{lists_of, lists_moved}
use Rattle.law_steps.proofs.Instructed.Operand.{Named, named}
use Rattle.law_steps.proofs.Instructed.Typed.{program_is, with_kind}
use Rattle.law_steps.proofs.Instructed.Written.{Moved, moved_written, said_moved}

-- ** what typing says

-- the signal, its detail, the program and the data, and that the program takes what it is given
pub record Connects (d : Definition) (ks : Kinds) (to object : ℕ) (c : Connect) (next : Kinds) : Type 0 where
  pub class : ℕ
  pub operand : typing.operand d ks object ≡ Ok class
  pub number : ℕ
  pub is : signal_number d class c.signal ≡ Some number
  pub s : Signal
  pub has : signal_of d class number ≡ Some s
  pub program : ℕ
  pub p : Program
  pub called : program_of d c.program ≡ Some program
  pub there : program_at d program ≡ Some p
  pub detailed : takes_detail d class number s c.detail ≡ true
  pub data_kind : Option RegisterKind
  pub given : typing.data_in d ks c.with ≡ Ok data_kind
  pub takes : takes d p (given_kinds c.swapped (kind_in ks object) s.params data_kind) s.result ≡ true
  pub kinds_are : next ≡ with_kind ks to (kinds.plain kinds.bool)

connecting_is : (d : Definition) (ks : Kinds) (to object : ℕ) (c : Connect) (next : Kinds) → typing.connecting d ks to object c ≡ Ok next → Connects d ks to object c next
unfolding typing.connecting
connecting_is d ks to object c next e =
    let x = bound (typing.operand d ks object) _ next e in
    let y = bound (known rules.unknown (signal_number d x.0 c.signal)) _ next x.2 in
    let z = bound (known rules.unknown (signal_of d x.0 y.0)) _ next y.2 in
    let u = bound (typing.program_named d c.program) _ next z.2 in
    let v = bound (only_if (takes_detail d x.0 y.0 z.0 c.detail) rules.detail (typing.data_in d ks c.with)) _ next u.2 in
    let q = only (takes_detail d x.0 y.0 z.0 c.detail) rules.detail (typing.data_in d ks c.with) v.0 v.1 in
    let o = only (takes d u.0 (given_kinds c.swapped (kind_in ks object) z.0.params v.0) z.0.result) rules.signature (Ok (with_kind ks to (kinds.plain kinds.bool))) next v.2 in
    let p = program_is d c.program u.0 u.1 in
    record {
      class = x.0;
      operand = x.1;
      number = y.0;
      is = known_is rules.unknown (signal_number d x.0 c.signal) y.0 y.1;
      s = z.0;
      has = known_is rules.unknown (signal_of d x.0 y.0) z.0 z.1;
      program = p.0;
      p = u.0;
      called = p.1;
      there = p.2;
      detailed = q.0;
      data_kind = v.0;
      given = q.1;
      takes = o.0;
      kinds_are = (let f = o.1 in let s : with_kind ks to (kinds.plain kinds.bool) ≡ next = cc in sym s);
    }

-- ** what may take the place of what

-- each kind of the second list fits what that of the first does
pub data StandFor (d : Definition) : Kinds → Kinds → Type 0 where
  nothing : StandFor d [] []
  further : (k l : RegisterKind) (ks ls : Kinds) → ((m : RegisterKind) → fits d k m ≡ true → fits d l m ≡ true) → StandFor d ks ls → StandFor d (k ∷ ks) (l ∷ ls)

themselves : (d : Definition) (ks : Kinds) → StandFor d ks ks
themselves d [] = nothing
themselves d (k ∷ ks) = further k k ks ks (λ m e. e) (themselves d ks)

followed : (d : Definition) (ks ls us vs : Kinds) → StandFor d ks ls → StandFor d us vs → StandFor d (ks ++ us) (ls ++ vs)
followed d _ _ us vs nothing f = f
followed d _ _ us vs (further k l ks ls h more) f = further k l (ks ++ us) (ls ++ vs) h (followed d ks ls us vs more f)

of_data : (d : Definition) (k l : Option RegisterKind) → OneKind d k l → StandFor d (data_kinds k) (data_kinds l)
of_data d _ _ none = nothing
of_data d _ _ (some a b stands) = further a b [] [] stands nothing

-- so does what a handler is given
of_given : (d : Definition) (swapped : Bool) (a b : RegisterKind) (params : List Kind) (k l : Option RegisterKind) → ((m : RegisterKind) → fits d a m ≡ true → fits d b m ≡ true) → OneKind d k l →
    StandFor d (given_kinds swapped a params k) (given_kinds swapped b params l)
of_given d true a b params k l stands one =
    followed d (data_kinds k) (data_kinds l) (map kinds.plain params ++ a ∷ []) (map kinds.plain params ++ b ∷ []) (of_data d k l one)
    (followed d (map kinds.plain params) (map kinds.plain params) (a ∷ []) (b ∷ []) (themselves d (map kinds.plain params)) (further a b [] [] stands nothing))
of_given d false a b params k l stands one =
    further a b (map kinds.plain params ++ data_kinds k) (map kinds.plain params ++ data_kinds l) stands
    (followed d (map kinds.plain params) (map kinds.plain params) (data_kinds k) (data_kinds l) (themselves d (map kinds.plain params)) (of_data d k l one))

fits_too : (d : Definition) (ks ls ps : Kinds) → StandFor d ks ls → parameters_fit d ks ps ≡ true → parameters_fit d ls ps ≡ true
fits_too d _ _ [] nothing e = e
fits_too d _ _ (p ∷ ps) nothing e = e
fits_too d _ _ [] (further k l ks ls h more) e = absurd (cc)
fits_too d _ _ (p ∷ ps) (further k l ks ls h more) e =
    let x = both_parts (fits d k p) (parameters_fit d ks ps) e in
    ap (λ b. b && parameters_fit d ls ps) (h p x.0) ∙ fits_too d ks ls ps more x.1

takes_too : (d : Definition) (p : Program) (ks ls : Kinds) (result : Option Kind) → StandFor d ks ls → takes d p ks result ≡ true → takes d p ls result ≡ true
takes_too d p ks ls result stands e =
    let x = both_parts (parameters_fit d ks p.params) (result_fits d p.result result) e in
    ap (λ b. b && result_fits d p.result result) (fits_too d ks ls p.params stands x.0) ∙ x.1

-- ** details

-- a detail that a type's signal takes is taken by the same signal of a class, at `notify` as well
stands_here : (d : Definition) → TypesRead d → (class own type number : ℕ) (name : List ℕ) (s : Signal) (detail : Option (List ℕ)) → class < length d.types → is_a d.types class type ≡ true →
    signal_number d type name ≡ Some number → signal_number d class name ≡ Some own → signal_of d type number ≡ Some s → takes_detail d type number s detail ≡ true →
    may_stand d class own s detail ≡ true
stands_here d types class own type number name s None below is finds own_finds has e = refl
stands_here d types class own type number name s (Some x) below is finds own_finds has e = go (nat_eq number 0) refl
  where
    positive : nat_eq number 0 ≡ false → 0 < number
    positive z = not_zero number (eqb-false number 0 z)
      where
        not_zero : (n : ℕ) → (n ≡ 0 → ⊥) → 0 < n
        not_zero zero h = absurd (h refl)
        not_zero (suc n) h = omega arith

    detailed : number ≡ 0 → has_flags 16 s.flags ≡ true
    detailed z =
        let notify : HasNotify d type = types.first type number s has in
        let same : s ≡ notify.signal = (let f = ap (λ n. signal_of d type n) (sym z) ∙ has in let g = notify.is in cc) in
        ap (λ (s : Signal). has_flags 16 s.flags) same ∙ ap (has_flags 16) notify.flags

    named_there : is_some (slot_of d type x) ≡ true → is_some (slot_of d class x) ≡ true
    named_there f = by (slot_of d type x) refl f
      where
        by : (o : Option ℕ) → slot_of d type x ≡ o → is_some o ≡ true → is_some (slot_of d class x) ≡ true
        by None g f = absurd (cc)
        by (Some slot) g f =
            let there = (names_find d type x).0 slot g in
            let own = specs_inherit d types class type slot x there.0 below is g there.1 in
            ap is_some own.1

    go : (b : Bool) → nat_eq number 0 ≡ b → may_stand d class own s (Some x) ≡ true
    go false z = stands_too d class own type number s (Some x) (positive z) (emitted_inherit d types class type number own name finds own_finds (positive z)) e
    go true z =
        let there : is_some (slot_of d type x) ≡ true = subst (λ b. cond b (is_some (slot_of d type x)) (has_flags 16 s.flags) ≡ true) z e in
        ap (λ b. b && (not (nat_eq own 0) || is_some (slot_of d class x))) (detailed (eqb-true number 0 z))
        ∙ (ap (λ b. not (nat_eq own 0) || b) (named_there there) ∙ either_way (not (nat_eq own 0)))
      where
        either_way : (b : Bool) → (b || true) ≡ true
        either_way true = refl
        either_way false = refl

-- ** what the machine does

connect_leads : (d : Definition) (w : World) (rest : List Task) (f : Frame) (to object : ℕ) (c : Connect) (id number program : ℕ) (o : Object) (detail : Option (List ℕ)) (arg : Option ℕ) →
    operand_in w f object ≡ Ok id → living w.objects id ≡ Some o → signal_number d o.class c.signal ≡ Some number → detail_in d w id number c.detail ≡ Ok detail → program_of d c.program ≡ Some program →
    data_in w f c.with ≡ Ok arg →
    in_front rest (connecting d w rest f to object c) ≡ in_front rest (tells (connected d w (to_connect rest) (connection_by_code id number detail program arg c)) to f)
unfolding connecting signal_in
connect_leads d w rest f to object c id number program o detail arg a b e stands called given = rw (a, b, e, stands, called, given) refl

-- ** lists

-- an earlier number finds what it found before one more was connected
found_before : (hs : List Handler) (h x : Handler) (number last : ℕ) → number ≤ last → h.number ≡ suc last → handler_of number (hs ++ h ∷ []) ≡ Some x → handler_of number hs ≡ Some x
found_before [] h x number last low is e = go (nat_eq h.number number) refl e
  where
    go : (b : Bool) → nat_eq h.number number ≡ b → cond b (Some h) None ≡ Some x → handler_of number [] ≡ Some x
    go true s f = absurd (let z = eqb-true h.number number s in omega (arith, z, low, is))
    go false s f = absurd (cc)
found_before (y ∷ hs) h x number last low is e = go (nat_eq y.number number) (λ f. found_before hs h x number last low is f) e
  where
    go : (b : Bool) → (handler_of number (hs ++ h ∷ []) ≡ Some x → handler_of number hs ≡ Some x) → cond b (Some y) (handler_of number (hs ++ h ∷ [])) ≡ Some x → cond b (Some y) (handler_of number hs) ≡ Some x
    go true later f = f
    go false later f = later f

-- ** the step

module _ {d : Definition} (to object : ℕ) (c : Connect) (t : Due d (words.connect to object c)) (k : Connects d (r t).ks to object c (after d (r t).p (r t).ks (words.connect to object c)))
    (o : Named t object k.class) where
  open t use {well, a, w, f, rest, n, g}

  own : (own : ℕ) × (signal_number d o.o.class c.signal ≡ Some own) × (signal_of d o.o.class own ≡ Some k.s)
  own = signals_inherit d well.types o.o.class k.class k.number c.signal k.s o.known o.of_class k.is k.has

  datum : HasData t c.with k.data_kind
  datum = has_data t c.with k.data_kind k.given

  at : standing w.objects o.id ≡ Some o.o.place
  at = ap (option_map (λ (o : Object). o.place)) o.lives

  class_is : class_at d o.o.place ≡ Some o.o.class
  class_is = ap (option_map (λ (p : Place). p.class)) o.good.is ∙ ap (λ (c : ℕ). Some c) (sym o.good.class)

  abbrev made : Connection
  made = connection_by_code o.id own.0 (detail_for own.0 c.detail) k.program datum.arg c

  abbrev h : Handler
  h = new_handler (suc w.last_handler) made

  good : HandlerGood d (standing w.objects) h
  good = record {
    at = record {
      place = o.o.place;
      is = at;
      allowed = (
        o.o.class,
        k.s,
        class_is,
        own.2,
        ap (λ p. is_taken_by d p (given_kinds c.swapped (kinds.at o.o.place) k.s.params (data_kind (standing w.objects) datum.arg)) k.s.result) k.there
            ∙ takes_too d k.p (given_kinds c.swapped (kind_in (r t).ks object) k.s.params k.data_kind)
            (given_kinds c.swapped (kinds.at o.o.place) k.s.params (data_kind (standing w.objects) datum.arg)) k.s.result
            (of_given d c.swapped (kind_in (r t).ks object) (kinds.at o.o.place) k.s.params k.data_kind (data_kind (standing w.objects) datum.arg)
            (λ m. at_fits d well.types (kind_in (r t).ks object) m k.class o.o.place k.operand o.covered) datum.kind)
            k.takes,
      );
    };
    arg = datum.lives;
  }

  -- where it runs its program is connectable
  connectable : 0 < d.most_handlers → (e : Channel) → is_channel d e ≡ true → place_of_channel e ≡ o.o.place → runs_at d h e ≡ true → IsIn k.program (raised_there d e).connectable
  connectable room e there place runs =
      let block : BlockIs d f.program f.block (r t).p (r t).b = record { is = (r t).is; has = (r t).in_block } in
      let kept = sites_keep d a f.program f.block f.at (r t).p (r t).b (words.connect to object c) block (here t) in
      let here_is : class_at d (place_of_channel e) ≡ Some o.o.class = ap (class_at d) place ∙ class_is in
      let m : graphs.Connection = record { places = places d (kind_in (r t).ks object); signal = c.signal; detail = c.detail; program = program_of d c.program } in
      let among = filter_in (covers d (kind_in (r t).ks object)) (place_numbers d) o.o.place o.covered (listed_in (λ place. place) (length d.places) o.o.place (place_below d o.o.place o.o.class _ refl class_is)) in
      let listed = any_true (nat_eq (place_of_channel e)) (places d (kind_in (r t).ks object)) o.o.place among (eq-eqb (place_of_channel e) o.o.place place) in
      connections_known d (site d f.program f.block (r t).p (r t).b f.at (words.connect to object c)) m k.program o.o.class e kept.known
      (ap (λ ks. connection_of d ks (words.connect to object c)) (sym (taken t).at_site)) k.called here_is
      (ap (λ b. b && can_mean d o.o.class e c.signal c.detail) listed ∙ handlers_mean d well.types o.o.class c.signal c.detail h e own.1 refl here_is there runs) room

  may : has_room_for_handler d w (to_connect rest) o.id own.0 ≡ true → MayConnect d (standing w.objects) w.last_handler w.handlers h
  may room =
      let x = both_parts (nat_lt (length (filter (by_code_to o.id own.0) w.handlers)) d.most_handlers) (nat_lt (w.last_handler + to_connect rest) greatest_handler) room in
      let few = ltb-true (length (filter (by_code_to o.id own.0) w.handlers)) d.most_handlers x.0 in
      record {
        number = refl;
        by_code = refl;
        good = good;
        room = few;
        connectable = λ place stands x there same runs. (
            let known = raised_known d x there in
            let here : place ≡ o.o.place = (let e = sym at ∙ stands in cc) in
            subst (λ (y : Raised). IsIn k.program y.connectable) (sym known.0) (connectable (omega (arith, few)) x.channel known.1 (same ∙ here) runs));
      }

  moved : has_room_for_handler d w (to_connect rest) o.id own.0 ≡ true → Moved t refl (with_handler w made)
  moved room =
      lists_moved t refl (record (lists_of w) { handlers = w.handlers ++ h ∷ []; last_handler = suc w.last_handler })
      (record {
        handlers = handler_connects d a.weighed.costs a.weighed.depths (standing w.objects) (Running f ∷ rest) w.last_handler w.handlers h (may room) g.handlers;
        bindings = g.bindings;
        sources = g.sources;
        floating = g.floating;
        none = λ e. e;
        last = omega arith;
        handlers_were = λ number low x is. (x, found_before w.handlers h x number w.last_handler low refl is, refl, refl, refl);
        bindings_were = λ number b is. is;
      })

  does : in_front rest (connecting d w rest (past f) to object c) ≡ in_front rest (tells (connected d w (to_connect rest) made) to (past f))
  does =
      connect_leads d w rest (past f) to object c o.id own.0 k.program o.o (detail_for own.0 c.detail) datum.arg o.asked o.lives own.1
      (detail_stands d w o.id own.0 o.o k.s c.detail o.lives own.2
      (stands_here d well.types o.o.class own.0 k.class k.number c.signal k.s c.detail o.known o.of_class k.is own.1 k.has k.detailed))
      k.called datum.is

  says : (b : Bool) (v : World) → Moved t refl v → in_front rest (connecting d w rest (past f) to object c) ≡ in_front rest (tells (record { state = v; answer = b }) to (past f)) → StepIsFine t
  says b v moved leads = moved_written t refl v moved to (kinds.plain kinds.bool) (Some (values.bool b)) refl refl k.kinds_are refl leads

  nothing_said : in_front rest (connecting d w rest (past f) to object c) ≡ in_front rest (tells (record { state = w; answer = false }) to (past f)) → StepIsFine t
  nothing_said = says false w (said_moved t refl w.transcript)

  connect_of : StepIsFine t
  connect_of = by (is_too_late w.objects o.id datum.arg) (has_room_for_handler d w (to_connect rest) o.id own.0) refl does
    where
      by : (late room : Bool) → has_room_for_handler d w (to_connect rest) o.id own.0 ≡ room →
          in_front rest (connecting d w rest (past f) to object c)
          ≡ in_front rest (tells (cond late (record { state = w; answer = false })
          (cond room (record { state = with_handler w made; answer = true }) (record { state = said d w (lines.limit (codes "connect")); answer = false }))) to (past f)) →
          StepIsFine t
      by true room e leads = nothing_said leads
      by false true e leads = says true (with_handler w made) (moved e) leads
      by false false e leads = says false (said d w (lines.limit (codes "connect"))) (said_moved t refl (w.transcript ++ text_of_line d.types (lines.limit (codes "connect")) ∷ [])) leads

connect_fine : {d : Definition} (to object : ℕ) (c : Connect) (t : Due d (words.connect to object c)) → StepIsFine t
connect_fine {d} to object c t =
    let k = connecting_is d (r t).ks to object c _ (taken t).typed in
    connect_of to object c t k (named t object k.class k.operand)

pub connects_are_fine : ConnectsAreFine
connects_are_fine to object c = fine_of (λ d t. connect_fine to object c t)
