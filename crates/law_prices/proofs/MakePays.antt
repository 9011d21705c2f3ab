-- An object is made: its construction, its end and that it floats are paid by what makes it.
use Rattle.std.proofs.Common.{◌≡◌, inl, inr, refl, sym, ap, subst, ◌∙◌, ℕ, suc, ◌+◌, ◌≤◌, Bool, true, false, cond, List, [], ◌∷◌, ◌++◌, length, Option, None, Some, Ok, arith}
use Rattle.std.specs.Prelude.{codes, nat_eq, not, option_map}
use Rattle.std.specs.List.{list_all}
use Rattle.std.proofs.lemmas.Bool.{eqb-true}
use Rattle.ui_machine.specs.declared.arm.Arm.{Arm}
use Rattle.ui_machine.specs.declared.arm.Arm.TheVariants as arms
use Rattle.ui_machine.specs.Seq.{total}
use Rattle.ui_machine.specs.Definition.{Definition}
use Rattle.ui_machine.specs.Definition.Lookups.{place_at, place_of, specs_of, type_of}
use Rattle.ui_machine.specs.Definition.Places.{Place}
use Rattle.ui_machine.specs.Definition.Programs as words
use Rattle.ui_machine.specs.Definition.Values as values
use Rattle.ui_machine.specs.Instructions.Jumps.{past}
use Rattle.ui_machine.specs.Instructions.Objects.{creating, has_room_for_object, made_if_room, made_new}
use Rattle.ui_machine.specs.Instructions.Registers.{with_register, written_to}
use Rattle.ui_machine.specs.Outcome.{known, only_if}
use Rattle.ui_machine.specs.Output.Lines as lines
use Rattle.ui_machine.specs.Rules.Ancestry.{is_a}
use Rattle.ui_machine.specs.Rules.Build.{of_items, to_make}
use Rattle.ui_machine.specs.Rules.Construction.{construction, has_valid_default, initially_unowned, making, new_object, peer_to_take, with_object}
use Rattle.ui_machine.specs.State.Config.{Left, Started, World, said, starts}
use Rattle.ui_machine.specs.State.Objects.{Object}
use Rattle.ui_machine.specs.State.Tasks.{Building, Constructing, Frame, Item, Running, Task, adopts, binds, connects, forwards, makes}
use Rattle.law_typing.specs.Good.Builds.{is_for_builder}
use Rattle.law_typing.specs.Good.Handlers.{connecting_cost}
use Rattle.law_typing.specs.Good.Standing.{Lives, Standing, standing, view}
use Rattle.law_typing.specs.Graph.{Raised, graph, making_of, place_of_channel, raised_by_making}
use Rattle.law_typing.specs.Graph.Channels.{Channel}
use Rattle.law_typing.specs.Graph.Costs.{programs_cost}
use Rattle.law_typing.specs.Graph.Tables.{Tables}
use Rattle.law_typing.specs.Laws.{IsIn}
use Rattle.law_typing.specs.Laws.WellRead.{PlaceRead}
use Rattle.law_typing.specs.Rules.RegisterKinds.{class_at}
use Rattle.law_typing.specs.Rules.Typing as typing
use Rattle.law_typing.specs.Verdict.Accepted.{Accepted, Each}
use Rattle.law_static.proofs.BuildCostProofs.{read_making}
use Rattle.law_steps.specs.Kept.New.{OneMoreStands, next_identity}
use Rattle.law_steps.proofs.Instructed.Around.{Due, r, taken}
use Rattle.law_steps.proofs.Instructed.Inverse.{bound, known_is, only}
use Rattle.law_steps.proofs.Instructed.Typed.{Placed, naming_is}
use Rattle.law_steps.proofs.Kept.NewProofs.{new_handlers_good, new_stands}
use Rattle.law_prices.specs.Deeds.{PriceList}
use Rattle.law_prices.specs.Deeds as deeds
use Rattle.law_prices.specs.Paid.{HandlersPaid}
use Rattle.law_prices.specs.Potential.{construct_price, floating_price, object_price, running_price, seen, task_price}
use Rattle.law_prices.specs.Prices.{SolvesPrices, construction_toll, ending_price, making_toll, new_toll, node_price, price_of, settle_price}
use Rattle.law_prices.specs.Steps.{done_by}
use Rattle.law_prices.proofs.Agenda.{agenda_less}
use Rattle.law_prices.proofs.Constructions.{construction_price}
use Rattle.law_prices.proofs.Pays.{PaidThere, Pays, in_front_is, ok_is, paid_in}
use Rattle.law_prices.proofs.SendPays.{some_same}
use Rattle.law_prices.proofs.RegisterPays.{InstructionPays}
use Rattle.law_prices.proofs.Sums.{total_both}
use Rattle.law_prices.proofs.Whole.{objects_price}

-- nothing is to be connected at a place without signals
module _ (d : Definition) (costs : Tables) (place : ℕ) (p : Place) (at : place_at d place ≡ Some p) (silent : p.signals ≡ []) (c : Channel) (same : place_of_channel c ≡ place) where
  item_free : (item : Item) → connecting_cost d costs c item ≡ 0
  item_free (connects q number) = go (nat_eq (place_of_channel c) q) refl
    where
      go : (b : Bool) → nat_eq (place_of_channel c) q ≡ b → connecting_cost d costs c (connects q number) ≡ 0
      go true e = let here : place_at d q ≡ Some p = ap (place_at d) (sym (sym same ∙ eqb-true (place_of_channel c) q e)) ∙ at in rw (e, here, silent) refl
      go false e = rw e refl
  item_free (makes q) = refl
  item_free (adopts q) = refl
  item_free (forwards q slot to) = refl
  item_free (binds number) = refl

  items_free : (items : List Item) → total (connecting_cost d costs c) items ≡ 0
  items_free [] = refl
  items_free (i ∷ items) = let h = item_free i in let rest = items_free items in omega (arith, h, rest)

  task_free : (task : Task) → of_items (connecting_cost d costs c) task ≡ 0
  task_free (Building items) = items_free items
  task_free _ = refl

  pub all_free : (agenda : List Task) → total (of_items (connecting_cost d costs c)) agenda ≡ 0
  all_free [] = refl
  all_free (task ∷ agenda) = let h = task_free task in let rest = all_free agenda in omega (arith, h, rest)

-- ** the object that is made

-- what the machine leaves where it makes an object
pub record Made (d : Definition) (w : World) (place : ℕ) (peer : Option ℕ) (held : Bool) (s : Started) : Type 0 where
  pub p : Place
  pub is : place_at d place ≡ Some p
  pub leaves : record {
    world = said d (with_object d w (new_object d place p peer)) (lines.construct (next_identity w) (type_of d p.class).name);
    tasks = Constructing (next_identity w) (construction d w place p) held ∷ [];
  } ≡ s

pub made_is : (d : Definition) (w : World) (place : ℕ) (peer : Option ℕ) (held : Bool) (s : Started) → making d w place peer held ≡ Ok s → Made d w place peer held s
unfolding making
made_is d w place peer held s e =
    let p = bound (known arms.Code (place_at d place)) _ s e in
    let v : World = said d (with_object d w (new_object d place p.0 peer)) (lines.construct (next_identity w) (type_of d p.0.class).name) in
    let last = starts v (Constructing (next_identity w) (construction d w place p.0) held ∷ []) in
    let concrete = only (not (type_of d p.0.class).is_abstract) arms.Abstract (only_if (list_all (has_valid_default d) (specs_of d p.0.class)) arms.Value last) s p.2 in
    let valid = only (list_all (has_valid_default d) (specs_of d p.0.class)) arms.Value last s concrete.1 in
    record { p = p.0; is = known_is arms.Code (place_at d place) p.0 p.1; leaves = ok_is {E = Arm} _ s valid.1 }

module _ (d : Definition) (P : PriceList) (t : Tables) where
  -- what floats keeps its place
  floating_stays : (s z : Standing) (floating : List ℕ) → Each (Lives s) floating → ((id place : ℕ) → s id ≡ Some place → z id ≡ Some place) → floating_price d P z floating ≡ floating_price d P s floating
  floating_stays s z [] all stay = refl
  floating_stays s z (id ∷ floating) all stay =
      let h = floating_stays s z floating all.1 stay in
      let e = ap (price_of (λ place. P (deeds.settle place))) (stay id all.0.place all.0.is ∙ sym all.0.is) in
      omega (arith, h, e)

  module _ (w : World) (place : ℕ) (p : Place) (peer : Option ℕ) (is : place_at d place ≡ Some p) where
    abbrev o : Object
    o = new_object d place p peer

    abbrev made : World
    made = said d (with_object d w o) (lines.construct (next_identity w) (type_of d p.class).name)

    pub stands : OneMoreStands (standing w.objects) (standing made.objects) (next_identity w) place
    stands = (new_stands d w o).0

    class_is : class_at d place ≡ Some p.class
    class_is = ap (option_map (λ (p : Place). p.class)) is

    pub floating_made : Each (Lives (standing w.objects)) w.floating → floating_price d P (standing made.objects) made.floating ≡ floating_price d P (standing w.objects) w.floating + settle_price d P place
    floating_made lives = go (is_a d.types p.class initially_unowned) (ap (price_of (λ class. cond (is_a d.types class initially_unowned) (P (deeds.settle place)) 0)) class_is)
      where
        stay : floating_price d P (standing made.objects) w.floating ≡ floating_price d P (standing w.objects) w.floating
        stay = floating_stays (standing w.objects) (standing made.objects) w.floating lives stands.stay

        go : (b : Bool) → settle_price d P place ≡ cond b (P (deeds.settle place)) 0 →
            floating_price d P (standing made.objects) (cond b (w.floating ++ next_identity w ∷ []) w.floating) ≡ floating_price d P (standing w.objects) w.floating + settle_price d P place
        go true e =
            let split = total_both (λ id. price_of (λ place. P (deeds.settle place)) (standing made.objects id)) w.floating (next_identity w ∷ []) in
            let new = ap (price_of (λ place. P (deeds.settle place))) stands.here in
            let old = stay in
            omega (arith, split, new, old, e)
        go false e = let old = stay in omega (arith, old, e)

    pub objects_made : (making : ℕ) → objects_price d P t making made.objects ≡ objects_price d P t making w.objects + ending_price P place
    objects_made making = let split = total_both (price_of (object_price d P t making)) w.objects (Some o ∷ []) in omega (arith, split)

    -- what is made and constructed is within its toll and what its making raises
    pub construction_paid : (a : Accepted d) → SolvesPrices d P t → PlaceRead d place p → (below : List Task) (held : Bool) →
        P (deeds.make place) + task_price d P t (seen made) below (Constructing (next_identity w) (construction d w place p) held) + settle_price d P place ≤ making_toll d P place + total (node_price d P t) (raised_by_making d place p)
    construction_paid a solves well below held =
        let c = construction_price d a P t solves w place p is well in
        let at : task_price d P t (seen made) below (Constructing (next_identity w) (construction d w place p) held) ≡ total (construct_price d P t place) (construction d w place p) + P (deeds.construct place) =
        ap (price_of (λ at. total (construct_price d P t at) (construction d w place p) + P (deeds.construct at))) stands.here in
        let toll : making_toll d P place ≡ P (deeds.make place) + (construction_toll d P place p + settle_price d P place) = ap (price_of (λ (p : Place). P (deeds.make place) + (construction_toll d P place p + settle_price d P place))) is in
        omega (arith, c, at, toll)

-- handlers stay paid where an object is made at whose place nothing more is to be connected than is reckoned
pub paid_made : (d : Definition) (a : Accepted d) (w : World) (place : ℕ) (p : Place) (peer : Option ℕ) (agenda : List Task) →
    ((costs : Tables) (r : Raised) → IsIn r (graph d).raised → place_of_channel r.channel ≡ place → total (of_items (connecting_cost d costs r.channel)) agenda ≤ programs_cost costs r.handlers) →
    HandlersPaid d a (standing w.objects) agenda w.last_handler w.handlers → HandlersPaid d a (standing (with_object d w (new_object d place p peer)).objects) agenda w.last_handler w.handlers
paid_made d a w place p peer agenda few paid = λ costs.
    new_handlers_good d costs a.weighed.depths (standing w.objects) (standing (with_object d w (new_object d place p peer)).objects) (next_identity w) place w.last_handler w agenda (new_stands d w (new_object d place p peer)).0 (few costs) (paid costs)

-- ** new

module _ (d : Definition) (P : PriceList) (t : Tables) (solves : SolvesPrices d P t) where
  module _ (to : ℕ) (id : List ℕ) (u : Due d (words.new to id)) (paid : PaidThere u P t) (k : Placed d (r u).ks to id true (typing.after d (r u).p (r u).ks (words.new to id))) where
    making_is : making_of d (place_of d id) ≡ raised_by_making d k.place k.p
    making_is = ap (making_of d) k.is ∙ (read_making d 0 k.place k.place d.places k.p (omega arith) k.has).0

    new_pays_of : (peer : Option ℕ) (next : Frame) → running_price d P t next ≡ running_price d P t (past u.f) →
        Pays u P t (record {
          world = said d (with_object d u.w (new_object d k.place k.p peer)) (lines.construct (next_identity u.w) (type_of d k.p.class).name);
          agenda = Constructing (next_identity u.w) (construction d u.w k.place k.p) false ∷ Running next ∷ u.rest;
        })
    new_pays_of peer next same =
        let read_well = u.well.places k.place k.p k.has in
        let v = said d (with_object d u.w (new_object d k.place k.p peer)) (lines.construct (next_identity u.w) (type_of d k.p.class).name) in
        let x = stands d P t u.w k.place k.p peer k.has in
        let rest = agenda_less d P t u.w.last_handler (seen u.w) (seen v) u.a.weighed.costs u.a.weighed.depths (view u.w) refl refl _ _ u.rest u.g.agenda.2
        (record { stands = λ id place is. inl (x.stay id place is); handlers = λ number low. omega arith; sources = inr refl }) u.g.agenda.6 in
        let making = total is_for_builder (Running (past u.f) ∷ u.rest) in
        let made : total is_for_builder (Constructing (next_identity u.w) (construction d u.w k.place k.p) false ∷ Running next ∷ u.rest) ≡ making = omega arith in
        let os = ap (λ m. objects_price d P t m v.objects) made in
        let objects = objects_made d P t u.w k.place k.p peer k.has making in
        let fs = floating_made d P t u.w k.place k.p peer k.has u.g.floating in
        let c = construction_paid d P t u.w k.place k.p peer k.has u.a solves read_well (Running next ∷ u.rest) false in
        let toll = ap (new_toll d P) k.is in
        let start = ap (total (node_price d P t)) making_is in
        let deed = ap (λ o. total P (done_by (λ place. deeds.make place ∷ []) o)) k.is in
        record {
          falls = omega (arith, same, rest, os, objects, fs, c, toll, start, deed);
          paid = paid_in d u.a (record v { transcript = u.w.transcript }) v (Running u.f ∷ u.rest) (Constructing (next_identity u.w) (construction d u.w k.place k.p) false ∷ Running next ∷ u.rest) refl refl refl (λ f. omega arith)
              (paid_made d u.a u.w k.place k.p peer (Running u.f ∷ u.rest)
              (λ costs r there same. (let none = all_free d costs k.place k.p k.has (read_well.silent k.allowed) r.channel same (Running u.f ∷ u.rest) in omega (arith, none))) paid);
        }

    made_new_is : (p : Place) → place_at d k.place ≡ Some p → (s : Started) → made_new d u.w (past u.f) to k.place p ≡ Ok s → (l : Left) → record { world = s.world; agenda = s.tasks ++ u.rest } ≡ l → Pays u P t l
    unfolding made_new
    made_new_is p at s e l is =
        let made = bound (making d u.w k.place (peer_to_take d u.w p) false) _ s e in
        let registers = bound (with_register to (Some (values.object (Some (suc (length u.w.objects))))) (past u.f).registers) _ s made.2 in
        let m = made_is d u.w k.place (peer_to_take d u.w p) false made.0 made.1 in
        let same : m.p ≡ k.p = some_same m.p k.p (sym m.is ∙ k.has) in
        let next : Frame = record (past u.f) { registers = registers.0 } in
        let leads = ok_is {E = Arm} _ s registers.2 in
        subst (Pays u P t)
        (ap (λ (q : Place). record {
          world = said d (with_object d u.w (new_object d k.place q (peer_to_take d u.w p))) (lines.construct (next_identity u.w) (type_of d q.class).name);
          agenda = Constructing (next_identity u.w) (construction d u.w k.place q) false ∷ Running next ∷ u.rest;
        }) (sym same)
        ∙ (ap (λ (s : Started). record { world = s.world; agenda = (s.tasks ++ Running next ∷ []) ++ u.rest }) m.leaves
        ∙ (ap (λ (s : Started). record { world = s.world; agenda = s.tasks ++ u.rest }) leads ∙ is)))
        (new_pays_of (peer_to_take d u.w p) next refl)

    no_room_is : (s : Started) → written_to (said d u.w (lines.limit (codes "new"))) to (Some (values.object None)) (past u.f) ≡ Ok s → (l : Left) → record { world = s.world; agenda = s.tasks ++ u.rest } ≡ l → Pays u P t l
    unfolding written_to
    no_room_is s e l is =
        let b = bound (with_register to (Some (values.object None)) (past u.f).registers) _ s e in
        let v = said d u.w (lines.limit (codes "new")) in
        let next : Frame = record (past u.f) { registers = b.0 } in
        let c = construction_paid d P t u.w k.place k.p None k.has u.a solves (u.well.places k.place k.p k.has) u.rest false in
        let toll = ap (new_toll d P) k.is in
        let deed = ap (λ o. total P (done_by (λ place. deeds.make place ∷ []) o)) k.is in
        let start = ap (total (node_price d P t)) making_is in
        subst (Pays u P t) (ap (λ (s : Started). record { world = s.world; agenda = s.tasks ++ u.rest }) (ok_is {E = Arm} _ s b.2) ∙ is)
        (record {
          falls = omega (arith, c, toll, deed, start);
          paid = paid_in d u.a u.w v (Running u.f ∷ u.rest) (Running next ∷ u.rest) refl refl refl (λ f. omega arith) paid;
        })

    created_is : (l : Left) (s : Started) → creating d u.w u.rest (past u.f) to id ≡ Ok s → record { world = s.world; agenda = s.tasks ++ u.rest } ≡ l → Pays u P t l
    unfolding creating
    created_is l s e is =
        let place = bound (known arms.Code (place_of d id)) _ s e in
        let p = bound (known arms.Code (place_at d place.0)) _ s place.2 in
        let proto = only p.0.is_prototype arms.Code (made_if_room d u.w (to_make u.rest) (past u.f) to place.0 p.0) s p.2 in
        let same : place.0 ≡ k.place = some_same place.0 k.place (sym (known_is arms.Code (place_of d id) place.0 place.1) ∙ k.is) in
        let at = ap (place_at d) (sym same) ∙ known_is arms.Code (place_at d place.0) p.0 p.1 in
        let made = subst (λ place. made_if_room d u.w (to_make u.rest) (past u.f) to place p.0 ≡ Ok s) same proto.1 in
        go p.0 at (has_room_for_object d u.w (to_make u.rest) p.0) made
      where
        go : (p : Place) → place_at d k.place ≡ Some p → (room : Bool) →
            cond room (made_new d u.w (past u.f) to k.place p) (written_to (said d u.w (lines.limit (codes "new"))) to (Some (values.object None)) (past u.f)) ≡ Ok s → Pays u P t l
        go p at true e = made_new_is p at s e l is
        go p at false e = no_room_is s e l is

  pub new_pays : (to : ℕ) (id : List ℕ) → InstructionPays d P t (words.new to id)
  new_pays to id u paid l e =
      let x = in_front_is u.rest _ l e in
      created_is to id u paid (naming_is d (r u).ks to id true _ (taken u).typed) l x.0 x.1 x.2
