-- Instructions that dispose an object or connect a handler.
use Rattle.std.proofs.Common.{◌≡◌, refl, sym, ap, subst, ◌∙◌, ℕ, suc, ◌+◌, ◌<◌, ◌≤◌, Bool, true, false, cond, List, [], ◌∷◌, ◌++◌, length, Option, None, Some, Ok, arith}
use Rattle.std.specs.Prelude.{codes, nat_eq, nat_lt, not, ◌&&◌}
use Rattle.std.specs.List.{filter}
use Rattle.std.proofs.lemmas.Bool.{eq-eqb, eqb-true, ltb-true}
use Rattle.ui_machine.specs.declared.arm.Arm.{Arm}
use Rattle.ui_machine.specs.declared.arm.Arm.TheVariants as arms
use Rattle.ui_machine.specs.Seq.{total}
use Rattle.ui_machine.specs.Definition.{Definition}
use Rattle.ui_machine.specs.Definition.Lookups.{program_of}
use Rattle.ui_machine.specs.Definition.Programs.{Connect}
use Rattle.ui_machine.specs.Definition.Programs as words
use Rattle.ui_machine.specs.Definition.Values as values
use Rattle.ui_machine.specs.Instructions.{in_front}
use Rattle.ui_machine.specs.Instructions.Jumps.{past}
use Rattle.ui_machine.specs.Instructions.Objects.{disposed_once, disposing}
use Rattle.ui_machine.specs.Instructions.Registers.{data_in, operand_in, tells, with_register, written_to}
use Rattle.ui_machine.specs.Instructions.Signals.{connecting, connection_by_code, signal_in}
use Rattle.ui_machine.specs.Outcome.{known}
use Rattle.ui_machine.specs.Output.Lines as lines
use Rattle.ui_machine.specs.Rules.Build.{to_connect}
use Rattle.ui_machine.specs.Rules.Connections.{Connection, by_code_to, connected, detail_at, detail_for, detail_in, greatest_handler, has_room_for_handler, is_too_late, may_stand, new_handler, signal_number, with_handler}
use Rattle.ui_machine.specs.Rules.Disposal.{disposed, is_of_object}
use Rattle.ui_machine.specs.Rules.EmissionPlan.{signal_at}
use Rattle.ui_machine.specs.Rules.Sets.{is_disposed}
use Rattle.ui_machine.specs.State.Config.{Left, Started, World, said}
use Rattle.ui_machine.specs.State.Handlers.{Handler, handler_of}
use Rattle.ui_machine.specs.State.Objects.{Object, living, object_at}
use Rattle.ui_machine.specs.State.Tasks.{Frame, Running}
use Rattle.law_typing.specs.Good.Builds.{is_for_builder}
use Rattle.law_typing.specs.Good.Handlers.{HandlerGood, runs_at}
use Rattle.law_typing.specs.Good.Standing.{Standing, standing}
use Rattle.law_typing.specs.Graph.{can_mean, connection_of, place_of_channel}
use Rattle.law_typing.specs.Graph as graphs
use Rattle.law_typing.specs.Graph.Channels.{Channel, is_channel}
use Rattle.law_typing.specs.Graph.Tables.{Tables}
use Rattle.law_typing.specs.Laws.{IsIn}
use Rattle.law_typing.specs.Laws.StepsKeepGood.{IsGood}
use Rattle.law_typing.specs.Rules.RegisterKinds.{class_at, kind_in, places}
use Rattle.law_typing.specs.Rules.Typing as typing
use Rattle.law_typing.specs.Verdict.Accepted.{Each}
use Rattle.law_typing.proofs.Lists.{any_true, both_parts}
use Rattle.law_static.specs.Raises.{raised_there}
use Rattle.law_static.specs.Sites.{BlockIs, site}
use Rattle.law_static.proofs.MeansProofs.{handlers_mean, raised_known}
use Rattle.law_static.proofs.RaisesProofs.{connections_known}
use Rattle.law_static.proofs.SiteProofs.{sites_keep}
use Rattle.law_steps.specs.Kept.Connect.{MayConnect}
use Rattle.law_steps.proofs.Instructed.Around.{Due, here, r, taken}
use Rattle.law_steps.proofs.Instructed.Inverse.{bound, known_is, only}
use Rattle.law_steps.proofs.Instructed.Typed.{changing_none_is}
use Rattle.law_steps.proofs.Kept.ConnectProofs.{handler_connects}
use Rattle.law_steps.proofs.Kept.DisposedProofs.{dispose_keeps}
use Rattle.law_steps.proofs.Kept.HandlersProofs.{handlers_left, left_are_found}
use Rattle.law_prices.specs.Deeds.{PriceList}
use Rattle.law_prices.specs.Deeds as deeds
use Rattle.law_prices.specs.Paid.{HandlersPaid}
use Rattle.law_prices.specs.Potential.{floating_price, running_price}
use Rattle.law_prices.specs.Prices.{SolvesPrices, price_of}
use Rattle.law_prices.specs.Steps.{dispose_deeds, done_by, first_dispose}
use Rattle.law_prices.proofs.Agenda.{handler_price}
use Rattle.law_prices.proofs.Disposals.{disposed_only, disposed_price, first_is}
use Rattle.law_prices.proofs.MovePays.{found_less, rest_less, writes}
use Rattle.law_prices.proofs.Nodes.{in_places}
use Rattle.law_prices.proofs.Pays.{PaidThere, Pays, changed as pays_changed, in_front_is, more, ok_is, paid_in, quiet}
use Rattle.law_prices.proofs.RegisterPays.{InstructionPays}
use Rattle.law_prices.proofs.SendPays.{Operand, operand, signal_found, some_same}
use Rattle.law_prices.proofs.Whole.{objects_price}

module _ (d : Definition) (P : PriceList) (t : Tables) where
  -- ** dispose

  -- an operand that is found is what the deed names
  dispose_is : (object : ℕ) (u : Due d (words.dispose object)) (id : ℕ) (o : Object) → operand_in u.w (past u.f) object ≡ Ok id → living u.w.objects id ≡ Some o → more u P t ≡ total P (first_dispose o)
  unfolding operand_in
  dispose_is object u id o e is = ap (λ x. total P (dispose_deeds u.w x)) e ∙ ap (λ x. total P (done_by first_dispose x)) is

  left_without : {i : words.Instruction} (u : Due d i) → PaidThere u P t → (id : ℕ) (o : Object) → living u.w.objects id ≡ Some o → more u P t ≡ total P (first_dispose o) → (v : World) → disposed d u.w id ≡ Ok v →
      Pays u P t (record { world = v; agenda = Running (past u.f) ∷ u.rest })
  left_without u paid id o is deed v e =
      let only = disposed_only d u.w id v e in
      let making = total is_for_builder (Running (past u.f) ∷ u.rest) in
      let kept = dispose_keeps d u.w id o is u.g.objects in
      let same : kept.0 ≡ v = ok_is {E = Arm} kept.0 v (sym kept.1 ∙ e) in
      let stands = ap (λ (v : World). standing v.objects) (sym same) ∙ kept.2.stands in
      let test = λ (h : Handler). not (is_of_object id h) in
      let costs = disposed_price d P t making id u.w.objects o is in
      let os = ap (objects_price d P t making) only.objects in
      let first = first_is d P t making o in
      let hs : HandlersPaid d u.a (standing u.w.objects) (Running u.f ∷ u.rest) u.w.last_handler (filter test u.w.handlers) =
      λ costs. handlers_left d costs u.a.weighed.depths (standing u.w.objects) (standing u.w.objects) (Running u.f ∷ u.rest) u.w.last_handler u.w.handlers test (λ id place e. e) (λ h e. (λ place e. e, λ id e place f. f)) (paid costs) in
      let x = record u.w { handlers = filter test u.w.handlers } in
      let fs = ap (λ (s : Standing). floating_price d P s v.floating) stands in
      let few = ap (floating_price d P (standing u.w.objects)) only.floating in
      pays_changed u P t v (past u.f) (omega arith)
      (rest_less d P t u v stands
      (λ number low.
      let found = found_less d P t (handler_of number (filter test u.w.handlers)) (handler_of number u.w.handlers)
      (left_are_found d u.a.weighed.costs u.a.weighed.depths (standing u.w.objects) (Running u.f ∷ u.rest) u.w.last_handler u.w.handlers test u.g.handlers number) in
      let at = ap (λ (hs : List Handler). price_of (handler_price P t) (handler_of number hs)) only.handlers in
      omega (arith, found, at)))
      (omega (arith, deed, first, costs, os)) (omega (arith, fs, few))
      (paid_in d u.a x v (Running u.f ∷ u.rest) (Running (past u.f) ∷ u.rest) stands only.handlers only.last (λ f. omega arith) hs)

  disposed_is : (object : ℕ) (u : Due d (words.dispose object)) → PaidThere u P t → (l : Left) → (s : Started) → disposing d u.w (past u.f) object ≡ Ok s → record { world = s.world; agenda = s.tasks ++ u.rest } ≡ l → Pays u P t l
  unfolding disposing typing.changing_none
  disposed_is object u paid l s e is =
      let id = bound (operand_in u.w (past u.f) object) _ s e in
      let after = bound (disposed_once d u.w id.0) _ s id.2 in
      let class = typing_class object u in
      let o = operand u object class.0 id.0 class.1 id.1 in
      subst (Pays u P t) (ap (λ (s : Started). record { world = s.world; agenda = s.tasks ++ u.rest }) (ok_is {E = Arm} _ s after.2) ∙ is)
      (go id.0 o (dispose_is object u id.0 o.o id.1 o.lives) (is_disposed (living u.w.objects id.0)) refl after.0 after.1)
    where
      typing_class : (object : ℕ) (u : Due d (words.dispose object)) → (class : ℕ) × (typing.operand d (r u).ks object ≡ Ok class)
      typing_class object u = let x = changing_none_is (r u).ks (typing.operand d (r u).ks object) _ (taken u).typed in (x.0, x.1)

      go : (id : ℕ) (o : Operand u object id) → more u P t ≡ total P (first_dispose o.o) → (gone : Bool) → is_disposed (living u.w.objects id) ≡ gone → (v : World) → cond gone (Ok u.w) (disposed d u.w id) ≡ Ok v →
          Pays u P t (record { world = v; agenda = Running (past u.f) ∷ u.rest })
      go id o deed true gone v e =
          let was : o.o.disposed ≡ true = sym (ap is_disposed o.lives) ∙ gone in
          let first = first_is d P t 0 o.o in
          let none = ap (λ b. cond b 0 (P (deeds.dispose o.o.place))) was in
          subst (λ (v : World). Pays u P t (record { world = v; agenda = Running (past u.f) ∷ u.rest })) (ok_is {E = Arm} u.w v e)
          (quiet u P t u.w (record { objects = refl; handlers = refl; last = refl; sources = refl; floating = omega arith }) (past u.f) (omega arith) (omega (arith, deed, first, none)) paid)
      go id o deed false gone v e = left_without u paid id o.o o.lives deed v e

  pub dispose_pays : (object : ℕ) → InstructionPays d P t (words.dispose object)
  dispose_pays object u paid l e = let x = in_front_is u.rest _ l e in disposed_is object u paid l x.0 x.1 x.2

  -- ** connect

  -- an earlier number finds what it found before one more was connected
  found_before : (hs : List Handler) (h x : Handler) (number last : ℕ) → number ≤ last → h.number ≡ suc last → handler_of number (hs ++ h ∷ []) ≡ Some x → handler_of number hs ≡ Some x
  found_before [] h x number last low is e = go (nat_eq h.number number) refl e
    where
      go : (b : Bool) → nat_eq h.number number ≡ b → cond b (Some h) None ≡ Some x → handler_of number [] ≡ Some x
      go true s f = absurd (let z = eqb-true h.number number s in omega (arith, z, low, is))
      go false s f = absurd (cc)
  found_before (y ∷ hs) h x number last low is e = go (nat_eq y.number number) (λ f. found_before hs h x number last low is f) e
    where
      go : (b : Bool) → (handler_of number (hs ++ h ∷ []) ≡ Some x → handler_of number hs ≡ Some x) → cond b (Some y) (handler_of number (hs ++ h ∷ [])) ≡ Some x → cond b (Some y) (handler_of number hs) ≡ Some x
      go true later f = f
      go false later f = later f

  pub last_of : {A : Type 0} (Q : A → Type 0) (xs : List A) (x : A) → Each Q (xs ++ x ∷ []) → Q x
  last_of Q [] x all = all.0
  last_of Q (y ∷ xs) x all = last_of Q xs x all.1

  detail_found : (w : World) (id number : ℕ) (detail kept : Option (List ℕ)) → detail_in d w id number detail ≡ Ok kept → kept ≡ detail_for number detail
  unfolding detail_in detail_at
  detail_found w id number detail kept e =
      let o = bound (object_at w.objects id) _ kept e in
      let s = bound (signal_at d o.0.class number) _ kept o.2 in
      let k = only (may_stand d o.0.class number s.0 detail) arms.Code (Ok (detail_for number detail)) kept s.2 in
      sym (ok_is {E = Arm} (detail_for number detail) kept k.1)

  module _ (solves : SolvesPrices d P t) (to object : ℕ) (c : Connect) (u : Due d (words.connect to object c)) (paid : PaidThere u P t) where
    module _ (id number program : ℕ) (arg : Option ℕ) (o : Operand u object id) (named : signal_number d o.o.class c.signal ≡ Some number) (called : program_of d c.program ≡ Some program) where
      abbrev made : Connection
      made = connection_by_code id number (detail_for number c.detail) program arg c

      abbrev h : Handler
      h = new_handler (suc u.w.last_handler) made

      -- where it runs its program is connectable
      connectable : 0 < d.most_handlers → (e : Channel) → is_channel d e ≡ true → place_of_channel e ≡ o.o.place → runs_at d h e ≡ true → IsIn program (raised_there d e).connectable
      connectable room e there place runs =
          let block : BlockIs d u.f.program u.f.block (r u).p (r u).b = record { is = (r u).is; has = (r u).in_block } in
          let kept = sites_keep d u.a u.f.program u.f.block u.f.at (r u).p (r u).b (words.connect to object c) block (here u) in
          let here_is : class_at d (place_of_channel e) ≡ Some o.o.class = ap (class_at d) place ∙ o.class_is in
          let m : graphs.Connection = record { places = places d (kind_in (r u).ks object); signal = c.signal; detail = c.detail; program = program_of d c.program } in
          let among = in_places d P t u.a solves (r u).ks object o.o.place o.o.class o.covered o.class_is in
          let listed = any_true (nat_eq (place_of_channel e)) (places d (kind_in (r u).ks object)) o.o.place among (eq-eqb (place_of_channel e) o.o.place place) in
          connections_known d (site d u.f.program u.f.block (r u).p (r u).b u.f.at (words.connect to object c)) m program o.o.class e kept.known
          (ap (λ ks. connection_of d ks (words.connect to object c)) (sym (taken u).at_site)) called here_is
          (ap (λ b. b && can_mean d o.o.class e c.signal c.detail) listed ∙ handlers_mean d u.well.types o.o.class c.signal c.detail h e named refl here_is there runs) room

      may : has_room_for_handler d u.w (to_connect u.rest) id number ≡ true → HandlerGood d (standing u.w.objects) h → MayConnect d (standing u.w.objects) u.w.last_handler u.w.handlers h
      may room good =
          let x = both_parts (nat_lt (length (filter (by_code_to id number) u.w.handlers)) d.most_handlers) (nat_lt (u.w.last_handler + to_connect u.rest) greatest_handler) room in
          let few = ltb-true (length (filter (by_code_to id number) u.w.handlers)) d.most_handlers x.0 in
          record {
            number = refl;
            by_code = refl;
            good = good;
            room = few;
            connectable = λ place stands x there same runs. (
                let known = raised_known d x there in
                let at : place ≡ o.o.place = some_same place o.o.place (sym stands ∙ o.at) in
                subst (λ (y : graphs.Raised). IsIn program y.connectable) (sym known.0) (connectable (omega (arith, few)) x.channel known.1 (same ∙ at) runs));
          }

      connected_pays : (next : Frame) → running_price d P t next ≡ running_price d P t (past u.f) → has_room_for_handler d u.w (to_connect u.rest) id number ≡ true → HandlerGood d (standing u.w.objects) h →
          Pays u P t (record { world = with_handler u.w made; agenda = Running next ∷ u.rest })
      connected_pays next same room good =
          let v = with_handler u.w made in
          let hs : HandlersPaid d u.a (standing u.w.objects) (Running u.f ∷ u.rest) (suc u.w.last_handler) (u.w.handlers ++ h ∷ []) =
          λ costs. handler_connects d costs u.a.weighed.depths (standing u.w.objects) (Running u.f ∷ u.rest) u.w.last_handler u.w.handlers h (may room good) (paid costs) in
          pays_changed u P t v next (omega (arith, same))
          (rest_less d P t u v refl (λ n low. found_less d P t (handler_of n (u.w.handlers ++ h ∷ [])) (handler_of n u.w.handlers) (λ x e. found_before u.w.handlers h x n u.w.last_handler low refl e)))
          (omega arith) (omega arith)
          (paid_in d u.a v v (Running u.f ∷ u.rest) (Running next ∷ u.rest) refl refl refl (λ f. omega arith) hs)

    -- what the machine found of its operands
    record Finds (s : Started) : Type 0 where
      pub id : ℕ
      pub number : ℕ
      pub program : ℕ
      pub arg : Option ℕ
      pub o : Operand u object id
      pub named : signal_number d o.o.class c.signal ≡ Some number
      pub called : program_of d c.program ≡ Some program
      pub leads : tells (connected d u.w (to_connect u.rest) (connection_by_code id number (detail_for number c.detail) program arg c)) to (past u.f) ≡ Ok s

    connect_class : (class : ℕ) × (typing.operand d (r u).ks object ≡ Ok class)
    unfolding typing.connecting
    connect_class = let x = bound (typing.operand d (r u).ks object) _ _ (taken u).typed in (x.0, x.1)

    finds : (s : Started) → connecting d u.w u.rest (past u.f) to object c ≡ Ok s → Finds s
    unfolding connecting
    finds s e =
        let id = bound (operand_in u.w (past u.f) object) _ s e in
        let number = bound (signal_in d u.w id.0 c.signal) _ s id.2 in
        let detail = bound (detail_in d u.w id.0 number.0 c.detail) _ s number.2 in
        let program = bound (known arms.Code (program_of d c.program)) _ s detail.2 in
        let arg = bound (data_in u.w (past u.f) c.with) _ s program.2 in
        let class = connect_class in
        let o = operand u object class.0 id.0 class.1 id.1 in
        let kept = detail_found u.w id.0 number.0 c.detail detail.0 detail.1 in
        record {
          id = id.0;
          number = number.0;
          program = program.0;
          arg = arg.0;
          o = o;
          named = signal_found d u.w id.0 number.0 c.signal o.o o.lives number.1;
          called = known_is arms.Code (program_of d c.program) program.0 program.1;
          leads = subst (λ detail. tells (connected d u.w (to_connect u.rest) (connection_by_code id.0 number.0 detail program.0 arg.0 c)) to (past u.f) ≡ Ok s) kept arg.2;
        }

    connect_leads : (s : Started) → Finds s → (l : Left) → record { world = s.world; agenda = s.tasks ++ u.rest } ≡ l → IsGood d u.a u.most_counted (record { world = l.world; agenda = l.agenda; counted = suc u.n }) → Pays u P t l
    unfolding written_to
    connect_leads s k l is good = go (is_too_late u.w.objects k.id k.arg) (has_room_for_handler d u.w (to_connect u.rest) k.id k.number) refl k.leads
      where
        -- by the register that is written
        to_l : (x : World) (next : Frame) → record { world = x; tasks = Running next ∷ [] } ≡ s → ◌≡◌ {A = Left} (record { world = x; agenda = Running next ∷ u.rest }) l
        to_l x next e = ap (λ (s : Started). record { world = s.world; agenda = s.tasks ++ u.rest }) e ∙ is

        nothing : (x : World) (lines : List (List ℕ)) → x ≡ record u.w { transcript = lines } → tells (record { state = x; answer = false }) to (past u.f) ≡ Ok s → Pays u P t l
        nothing x lines same e =
            let y = writes d P t u (record u.w { transcript = lines }) false to s (subst (λ (x : World). tells (record { state = x; answer = false }) to (past u.f) ≡ Ok s) same e)
            (λ registers. quiet u P t (record u.w { transcript = lines }) (record { objects = refl; handlers = refl; last = refl; sources = refl; floating = omega arith }) (record (past u.f) { registers = registers }) (omega arith) refl paid) in
            subst (Pays u P t) (to_l y.0 y.1 y.2) y.3

        new : tells (record { state = with_handler u.w (connection_by_code k.id k.number (detail_for k.number c.detail) k.program k.arg c); answer = true }) to (past u.f) ≡ Ok s →
            has_room_for_handler d u.w (to_connect u.rest) k.id k.number ≡ true → Pays u P t l
        new e room =
            let b = bound (with_register to (Some (values.bool true)) (past u.f).registers) _ s e in
            let next : Frame = record (past u.f) { registers = b.0 } in
            let l0 = to_l (with_handler u.w (connection_by_code k.id k.number (detail_for k.number c.detail) k.program k.arg c)) next (ok_is {E = Arm} _ s b.2) in
            let there = subst (λ (l : Left). IsGood d u.a u.most_counted (record { world = l.world; agenda = l.agenda; counted = suc u.n })) (sym l0) good in
            subst (Pays u P t) l0
            (connected_pays k.id k.number k.program k.arg k.o k.named k.called next refl room (last_of (HandlerGood d (standing u.w.objects)) u.w.handlers _ there.handlers.each))

        go : (late room : Bool) → has_room_for_handler d u.w (to_connect u.rest) k.id k.number ≡ room →
            tells (cond late (record { state = u.w; answer = false })
            (cond room (record { state = with_handler u.w (connection_by_code k.id k.number (detail_for k.number c.detail) k.program k.arg c); answer = true })
            (record { state = said d u.w (lines.limit (codes "connect")); answer = false }))) to (past u.f) ≡ Ok s → Pays u P t l
        go true room f e = nothing u.w u.w.transcript refl e
        go false true f e = new e f
        go false false f e = nothing (said d u.w (lines.limit (codes "connect"))) _ refl e

  pub connect_pays : SolvesPrices d P t → (to object : ℕ) (c : Connect) (u : Due d (words.connect to object c)) → PaidThere u P t → (l : Left) →
      IsGood d u.a u.most_counted (record { world = l.world; agenda = l.agenda; counted = suc u.n }) → in_front u.rest (connecting d u.w u.rest (past u.f) to object c) ≡ Ok l → Pays u P t l
  connect_pays solves to object c u paid l good e =
      let x = in_front_is u.rest _ l e in
      connect_leads solves to object c u paid x.0 (finds solves to object c u paid x.0 x.1) l x.2 good
