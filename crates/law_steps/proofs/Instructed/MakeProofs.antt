-- A program makes an object of a prototype: its construction is due, or past the limit a line is said.
use Rattle.std.proofs.Common.{◌≡◌, inl, inr, ◌⊎◌, refl, sym, ap, subst, ◌∙◌, ℕ, suc, ◌+◌, ◌<◌, ◌≤◌, Bool, true, false, cond, List, [], ◌∷◌, ◌++◌, length, Option, None, Some, Ok, slice_get, arith, lt-ltb}
use Rattle.std.specs.Prelude.{◌&&◌, ◌||◌, not, nat_eq, nat_lt, codes, is_some, option_map}
use Rattle.std.specs.List.{list_all}
use Rattle.std.proofs.lemmas.Bool.{eqb-true, eq-eqb, ltb-true}
use Rattle.ui_machine.specs.Seq.{write, total}
use Rattle.ui_machine.specs.Definition.Kinds as kinds
use Rattle.ui_machine.specs.Definition.Properties.{Spec}
use Rattle.ui_machine.specs.Definition.Values.{Value}
use Rattle.ui_machine.specs.Definition.Values as values
use Rattle.ui_machine.specs.Definition.{Definition}
use Rattle.ui_machine.specs.Definition.Places.{Place, Bind}
use Rattle.ui_machine.specs.Definition.Lookups.{place_at, place_of, type_of, specs_of}
use Rattle.ui_machine.specs.Definition.Programs as words
use Rattle.ui_machine.specs.Output.Lines as lines
use Rattle.ui_machine.specs.Output.Text.{text_of_line}
use Rattle.ui_machine.specs.State.Objects.{Object, living, live, most_identities}
use Rattle.ui_machine.specs.State.Tasks.{Registers, Frame, Task, ConstructStep, Item, makes, adopts, forwards, binds, connects, Constructing, Building, Running}
use Rattle.ui_machine.specs.State.Config.{World, Config, said}
use Rattle.ui_machine.specs.Rules.Build.{of_items, to_make}
use Rattle.ui_machine.specs.Rules.Construction.{has_valid_default, has_shape, new_object, with_object, peer_left, peer_to_take, construction, making}
use Rattle.ui_machine.specs.Instructions.{in_front}
use Rattle.ui_machine.specs.Instructions.Registers.{written_to, with_register}
use Rattle.ui_machine.specs.Instructions.Registers as machine
use Rattle.ui_machine.specs.Instructions.Objects.{has_room_for_object, made_new, creating}
use Rattle.ui_machine.specs.Instructions.Jumps.{past}
use Rattle.ui_machine.specs.Steps.{left}
use Rattle.law_typing.specs.Rules.Typing.{after}
use Rattle.law_typing.specs.Rules.Brackets.{opened, is_among, has_pair}
use Rattle.law_typing.specs.Graph.{graph, start_of, making_of, raised_by_making, place_of_channel}
use Rattle.law_typing.specs.Graph.Channels.{Channel, property, is_pair}
use Rattle.law_typing.specs.Graph.Tables.{Tables, entry}
use Rattle.law_typing.specs.Graph.Costs.{start_cost, making_cost}
use Rattle.law_typing.specs.Graph.Depths.{depth, deepest, start_depth}
use Rattle.law_typing.specs.Verdict.Accepted.{Each}
use Rattle.law_typing.specs.Laws.WellRead.{TypesRead, WellRead, PlaceRead, IsObject}
use Rattle.law_typing.specs.Laws.StepsKeepGood.{IsGood}
use Rattle.law_typing.specs.Good.Standing.{standing, view, covers_if, RegistersFit}
use Rattle.law_typing.specs.Good.Objects.{PeersGood}
use Rattle.law_typing.specs.Good.Handlers.{connecting_cost}
use Rattle.law_typing.specs.Good.ComingDown.{none}
use Rattle.law_typing.specs.Good.Programs.{code_left}
use Rattle.law_typing.specs.Good.Builds.{is_for_builder, ConstructingGood}
use Rattle.law_typing.specs.Good.Agenda.{frames}
use Rattle.law_typing.specs.Good.Freezes.{to_thaw, frozen_by, below_lowest, QueueGood, QueuesGood, carried}
use Rattle.law_typing.proofs.Lists.{both_parts, either_part, any_in, each_in}
use Rattle.law_static.specs.Code.{gone_on}
use Rattle.law_static.proofs.BuildCostProofs.{read_making}
use Rattle.law_static.proofs.ConstructionProofs.{constructions_fit, constructions_shallow, constructions_thaw}
use Rattle.law_static.proofs.MakingCostProofs.{construction_costs}
use Rattle.law_static.proofs.PlanCostProofs.{total_append}
use Rattle.law_static.proofs.SourceProofs.{each_to}
use Rattle.law_steps.specs.Kept.Alike.{Alike}
use Rattle.law_steps.specs.Kept.Made.{IsNew}
use Rattle.law_steps.specs.Kept.New.{next_identity, OneMoreStands}
use Rattle.law_steps.specs.Kept.Write.{Whole}
use Rattle.law_steps.proofs.Kept.LentProofs.{peers_lent, new_peer_good}
use Rattle.law_steps.proofs.Kept.Lists.{objects_stay}
use Rattle.law_steps.proofs.Kept.MadeProofs.{new_whole_good}
use Rattle.law_steps.proofs.Kept.NewProofs.{found, new_stands, new_serves}
use Rattle.law_steps.proofs.Kept.ServedProofs.{registers_kept}
use Rattle.law_steps.proofs.Kept.WriteProofs.{read_apart}
use Rattle.law_steps.specs.Instructed.Making.{MakesAreFine}
use Rattle.law_steps.proofs.Instructed.Around.{Due, making as objects_making, r, taken, good_of, above, past_good, left_steps, steps_left, fine_where, none_into, StepIsFine, fine_of}
use Rattle.law_steps.proofs.Instructed.Frozen.{frozen_same}
use Rattle.law_steps.proofs.Instructed.Typed.{Placed, naming_is}
use Rattle.law_steps.proofs.Instructed.Unfrozen.{unfrozen}
use Rattle.law_steps.proofs.Instructed.Written.{length_write, fit_written, kept, not_among, open_same, low, written_fine}

-- ** prototypes

-- no paired property is one of a prototype
unpaired : (d : Definition) → WellRead d → (place : ℕ) (p : Place) → place_at d place ≡ Some p → p.is_prototype ≡ true → has_pair d place ≡ true → ⊥
unpaired d well place p at proto pair =
    let x = any_in (λ (b : Bind). is_pair b && is_among (b.source ∷ b.target ∷ []) place) d.bindings pair in
    let ends = each_in (λ (b : Bind). IsObject d b.source × IsObject d b.target) d.bindings well.bindings x.0 x.1 in
    let among = (both_parts (is_pair x.0) (is_among (x.0.source ∷ x.0.target ∷ []) place) x.2).1 in
    go x.0 ends (either_part (nat_eq place x.0.source) (nat_eq place x.0.target || false) among)
  where
    no_object : (end : ℕ) → nat_eq place end ≡ true → IsObject d end → ⊥
    no_object end e o =
        let same = eqb-true place end e in
        let own : p ≡ o.0 = (let f = sym at ∙ (ap (place_at d) same ∙ o.1) in cc) in
        let f = sym proto ∙ (ap (λ (p : Place). p.is_prototype) own ∙ o.2) in
        cc

    go : (b : Bind) → IsObject d b.source × IsObject d b.target → (nat_eq place b.source ≡ true) ⊎ ((nat_eq place b.target || false) ≡ true) → ⊥
    go b ends (inl e) = no_object b.source e ends.0
    go b ends (inr e) = by (either_part (nat_eq place b.target) false e)
      where
        by : (nat_eq place b.target ≡ true) ⊎ (false ≡ true) → ⊥
        by (inl e) = no_object b.target e ends.1
        by (inr e) = cc

-- nothing is to be connected at a place without signals
module _ (d : Definition) (costs : Tables) (place : ℕ) (p : Place) (at : place_at d place ≡ Some p) (silent : p.signals ≡ []) (c : Channel) (same : place_of_channel c ≡ place) where
  item_free : (item : Item) → connecting_cost d costs c item ≡ 0
  item_free (connects q number) = go (nat_eq (place_of_channel c) q) refl
    where
      go : (b : Bool) → nat_eq (place_of_channel c) q ≡ b → connecting_cost d costs c (connects q number) ≡ 0
      go true e = let here : place_at d q ≡ Some p = ap (place_at d) (sym (sym same ∙ eqb-true (place_of_channel c) q e)) ∙ at in rw (e, here, silent) refl
      go false e = rw e refl
  item_free (makes q) = refl
  item_free (adopts q) = refl
  item_free (forwards q slot to) = refl
  item_free (binds number) = refl

  items_free : (items : List Item) → total (connecting_cost d costs c) items ≡ 0
  items_free [] = refl
  items_free (i ∷ items) = let h = item_free i in let rest = items_free items in omega (arith, h, rest)

  task_free : (task : Task) → of_items (connecting_cost d costs c) task ≡ 0
  task_free (Building items) = items_free items
  task_free _ = refl

  all_free : (agenda : List Task) → total (of_items (connecting_cost d costs c)) agenda ≡ 0
  all_free [] = refl
  all_free (task ∷ agenda) = let h = task_free task in let rest = all_free agenda in omega (arith, h, rest)

-- each default is valid
all_by : (test : Spec → Bool) (xs : List Spec) → ((i : ℕ) (s : Spec) → slice_get xs i ≡ Some s → test s ≡ true) → list_all test xs ≡ true
all_by test [] h = refl
all_by test (x ∷ xs) h = ap (λ b. b && list_all test xs) (h 0 x refl) ∙ all_by test xs (λ i s e. h (suc i) s e)

pub defaults_valid : (d : Definition) → TypesRead d → (class : ℕ) → list_all (has_valid_default d) (specs_of d class) ≡ true
defaults_valid d types class = all_by (has_valid_default d) (specs_of d class) (λ slot s e. (types.specs class slot s e).default)

-- ** what the machine does

pub making_begins : (d : Definition) (w : World) (place : ℕ) (p : Place) (peer : Option ℕ) (held : Bool) → place_at d place ≡ Some p → (type_of d p.class).is_abstract ≡ false →
    list_all (has_valid_default d) (specs_of d p.class) ≡ true →
    making d w place peer held
    ≡ Ok (record {
      world = said d (with_object d w (new_object d place p peer)) (lines.construct (next_identity w) (type_of d p.class).name);
      tasks = Constructing (next_identity w) (construction d w place p) held ∷ [];
    })
unfolding making
making_begins d w place p peer held at concrete valid = rw (at, concrete, valid) refl

made_leads : (d : Definition) (w : World) (rest : List Task) (f : Frame) (n to place : ℕ) (p : Place) (v : World) (task : Task) →
    making d w place (peer_to_take d w p) false ≡ Ok (record { world = v; tasks = task ∷ [] }) → to < length f.registers →
    left n (in_front rest (made_new d w f to place p))
    ≡ Ok (record { world = v; agenda = task ∷ Running (record f { registers = write None f.registers to (Some (values.object (Some (next_identity w)))) }) ∷ rest; counted = n })
unfolding made_new in_front left
made_leads d w rest f n to place p v task e low = rw (e, lt-ltb to (length f.registers) low) refl

creating_is : (d : Definition) (w : World) (rest : List Task) (f : Frame) (to : ℕ) (id : List ℕ) (place : ℕ) (p : Place) (room : Bool) → place_of d id ≡ Some place → place_at d place ≡ Some p → p.is_prototype ≡ true →
    has_room_for_object d w (to_make rest) p ≡ room →
    in_front rest (creating d w rest f to id)
    ≡ in_front rest (cond room (made_new d w f to place p) (machine.gives (said d w (lines.limit (codes "new"))) to (values.object None) f))
unfolding creating
creating_is d w rest f to id place p room named at proto fits = rw (named, at, proto, fits) refl

-- ** the step

module _ {d : Definition} (to : ℕ) (id : List ℕ) (t : Due d (words.new to id)) (k : Placed d (r t).ks to id true (after d (r t).p (r t).ks (words.new to id))) where
  open t use {well, a, most_counted, w, f, rest, n, g}

  abbrev o : Object
  o = new_object d k.place k.p (peer_to_take d w k.p)

  abbrev new : ℕ
  new = next_identity w

  abbrev made : World
  made = with_object d w o

  abbrev v : World
  v = said d made (lines.construct new (type_of d k.p.class).name)

  abbrev todo : List ConstructStep
  todo = construction d w k.place k.p

  abbrev registers : Registers
  registers = write None f.registers to (Some (values.object (Some new)))

  abbrev next : Frame
  next = gone_on f registers

  abbrev agenda : List Task
  agenda = Constructing new todo false ∷ Running next ∷ rest

  read_well : PlaceRead d k.place k.p
  read_well = well.places k.place k.p k.has

  stands : OneMoreStands (standing w.objects) (standing made.objects) new k.place
  stands = (new_stands d w o).0

  -- what is left of the room
  pub record Room : Type 0 where
    pub lives : live w.objects + to_make rest < d.most_objects
    pub peer : has_shape d k.p.class ≡ true → is_some (peer_left w k.p) ≡ true

  room_of : has_room_for_object d w (to_make rest) k.p ≡ true → Room
  room_of e =
      let x = both_parts (nat_lt (live w.objects + to_make rest) d.most_objects) (nat_lt (length w.objects + to_make rest) most_identities && (not (has_shape d k.p.class) || is_some (peer_left w k.p))) e in
      let y = both_parts (nat_lt (length w.objects + to_make rest) most_identities) (not (has_shape d k.p.class) || is_some (peer_left w k.p)) x.1 in
      record { lives = ltb-true (live w.objects + to_make rest) d.most_objects x.0; peer = λ shaped. ap (λ b. not b || is_some (peer_left w k.p)) (sym shaped) ∙ y.1 }

  -- ** the world

  whole : Room → Whole d a.weighed.costs a.weighed.depths (Running f ∷ rest) v
  whole room =
      let peer = new_peer_good d w k.place (length w.builder + total is_for_builder (Running f ∷ rest)) k.p k.has g.peers room.peer in
      let is_new : IsNew d w k.place k.p o = record { at = k.has; is = refl; free = peer.0; peer = peer.1 } in
      let x =
      new_whole_good d well.types a.weighed.costs a.weighed.depths (Running f ∷ rest) w k.place k.p o is_new
      (λ raised there same. (let none = all_free d a.weighed.costs k.place k.p k.has (read_well.silent k.allowed) raised.channel same (Running f ∷ rest) in omega (arith, none)))
      (record { objects = g.objects; handlers = g.handlers; bindings = g.bindings; sources = g.sources; held = g.held; floating = g.floating; objects_first = g.objects_first }) in
      record {
        objects = objects_stay d made v x.objects;
        handlers = x.handlers;
        bindings = x.bindings;
        sources = x.sources;
        held = x.held;
        floating = x.floating;
        objects_first = x.objects_first;
      }

  pool : PeersGood d v.peers (length v.builder + total is_for_builder agenda)
  pool = peers_lent d well.peers w k.place (length w.builder + total is_for_builder (Running f ∷ rest)) (length w.builder + total is_for_builder agenda) new k.p k.has (inl k.allowed) (omega arith) g.peers

  alike : Alike (Running f ∷ rest) agenda
  alike = record { items = λ f. omega arith; unset = λ number. omega arith; request_step = omega arith; makes = omega arith }

  -- ** the registers

  fit : RegistersFit d (standing v.objects) (after d (r t).p (r t).ks (words.new to id)) registers
  fit =
      subst (λ ks. RegistersFit d (standing v.objects) ks registers) (sym k.kinds_are)
      (fit_written d (standing v.objects) (r t).ks f.registers to (kinds.at_or_null k.place) (Some (values.object (Some new)))
      (registers_kept d (standing w.objects) (standing v.objects) (r t).ks f.registers (λ o some. stands.stay o) (r t).fit)
      (ap (covers_if d (kinds.at k.place)) stands.here ∙ eq-eqb k.place k.place refl))

  -- no bracket is opened or closed
  same : (j : ℕ) → frozen_by d j (Running next) ≡ frozen_by d j (Running f)
  same j =
      frozen_same d j f next (open_same t refl registers)
      (λ r among. read_apart None f.registers to (Some (values.object (Some new))) r (not_among (opened (code_left d f)) to r (kept t refl to refl) among))

  -- ** the queues

  lowest : (j : ℕ) → (b : Bool) → nat_eq (total (frozen_by d j) (Running next ∷ rest)) 0 ≡ b → (place : ℕ) (queue : List ℕ) →
      (total (frozen_by d j) (Running next ∷ rest) ≡ 0 → queue ≡ []) →
      Each (λ slot. suc (below_lowest d j (Running f ∷ rest)) + entry a.weighed.depths.channels (property place slot) ≤ depth (graph d) a.weighed.depths) queue →
      Each (λ slot. suc (cond b (frames (Running next ∷ rest)) (below_lowest d j (Running next ∷ rest))) + entry a.weighed.depths.channels (property place slot) ≤ depth (graph d) a.weighed.depths) queue
  lowest j true z place queue empty deep = subst (Each _) (sym (empty (eqb-true (total (frozen_by d j) (Running next ∷ rest)) 0 z))) tt
  lowest j false z place queue empty deep = deep

  this_queue : QueueGood d a.weighed.depths (depth (graph d) a.weighed.depths) agenda (suc n) new o
  this_queue =
      let none = unfrozen d a.weighed.costs a.weighed.depths (view w) (depth (graph d) a.weighed.depths) new stands.none (Running f ∷ rest) none g.budget g.agenda in
      let once = constructions_thaw d w k.place k.p in
      let own : frozen_by d new (Constructing new todo false) ≡ to_thaw todo = ap (λ b. cond b (to_thaw todo) 0) (eq-eqb new new refl) in
      let as_before = same new in
      record {
        count = omega (arith, none, once, own, as_before);
        few = omega arith;
        none = λ z. absurd (omega (arith, z));
        deep = tt;
      }

  other_queue : (j : ℕ) (y : Object) → living w.objects j ≡ Some y → QueueGood d a.weighed.depths (depth (graph d) a.weighed.depths) agenda (suc n) j y
  other_queue j y is =
      let q = g.queues j y is in
      let apart : frozen_by d j (Constructing new todo false) ≡ 0 = ap (λ b. cond b (to_thaw todo) 0) (not_new (nat_eq new j) refl) in
      let as_before = same j in
      let count : y.freezes ≡ total (frozen_by d j) (Running next ∷ rest) = (let old = q.count in omega (arith, old, as_before)) in
      record {
        count = (let c = count in omega (arith, c, apart));
        few = (let old = q.few in omega (arith, old));
        none = q.none;
        deep = lowest j (nat_eq (total (frozen_by d j) (Running next ∷ rest)) 0) refl y.place y.queue (λ z. q.none (count ∙ z)) q.deep;
      }
    where
      not_new : (b : Bool) → nat_eq new j ≡ b → nat_eq new j ≡ false
      not_new true e =
          absurd (let none = ap (standing w.objects) (sym (eqb-true new j e)) ∙ stands.none in let here = ap (option_map (λ (o : Object). o.place)) is in let f = sym none ∙ here in cc)
      not_new false e = e

  queues_good : QueuesGood d a.weighed.depths (depth (graph d) a.weighed.depths) agenda (suc n) v.objects
  queues_good j y e = go (found w.objects o j y e)
    where
      go : (living w.objects j ≡ Some y) ⊎ ((j ≡ new) × (y ≡ o)) → QueueGood d a.weighed.depths (depth (graph d) a.weighed.depths) agenda (suc n) j y
      go (inl is) = other_queue j y is
      go (inr is) =
          subst (λ j. QueueGood d a.weighed.depths (depth (graph d) a.weighed.depths) agenda (suc n) j y) (sym is.0)
          (subst (QueueGood d a.weighed.depths (depth (graph d) a.weighed.depths) agenda (suc n) new) (sym is.1) this_queue)

  -- ** the construction

  making_is : making_of d (place_of d id) ≡ raised_by_making d k.place k.p
  making_is = ap (making_of d) k.is ∙ (read_making d 0 k.place k.place d.places k.p (omega arith) k.has).0

  abbrev cost : ℕ
  cost = making_cost (graph d) a.weighed.costs (raised_by_making d k.place k.p)

  abbrev deep : ℕ
  deep = 1 + deepest a.weighed.depths (raised_by_making d k.place k.p)

  cost_is : start_cost (graph d) a.weighed.costs (start_of d (r t).ks (words.new to id)) ≡ 1 + cost
  cost_is = ap (λ cs. 1 + making_cost (graph d) a.weighed.costs cs) making_is

  deep_is : start_depth a.weighed.depths (start_of d (r t).ks (words.new to id)) ≡ deep
  deep_is = ap (λ cs. 1 + deepest a.weighed.depths cs) making_is

  constructs_good : ConstructingGood d a.weighed.costs a.weighed.depths (view v) new todo false cost deep
  constructs_good = record {
    place = k.place;
    is = stands.here;
    for_builder = λ e. absurd (cc);
    for_program = λ e. none_paired (has_pair d k.place) refl;
    fits = constructions_fit d well.types a (standing v.objects) w k.place k.p (λ place id is. stands.stay id place (g.held place id is)) k.has read_well;
    cheap = construction_costs d a w k.place k.p k.has read_well;
    shallow = each_to _ _ todo (λ m low. omega (arith, low)) (constructions_shallow d a w k.place k.p k.has read_well);
    one = omega arith;
  }
    where
      none_paired : (b : Bool) → has_pair d k.place ≡ b → b ≡ false
      none_paired true e = absurd (unpaired d well k.place k.p k.has k.allowed e)
      none_paired false e = refl

  -- ** the step

  abbrev led : Option ℕ → Config
  led into = record { world = v; agenda = Constructing new todo false ∷ Running (record next { into = into }) ∷ rest; counted = suc n }

  makes_well : Room → IsGood d a most_counted (led None)
  makes_well room =
      good_of t v agenda
      (record {
        whole = whole room;
        alike = alike;
        pool = pool;
        builder = refl;
        build = λ b. b;
        sets = record {
          alone = (let none = g.sets.alone in omega (arith, none));
          first = (let none = g.sets.first in omega (arith, none));
          held = λ some. absurd (let none = g.sets.first in omega (arith, some, none));
        };
        budget = cost + (left_steps t + g.agenda.2);
        good = (
          cost,
          deep,
          left_steps t + g.agenda.2,
          (tt, constructs_good, λ e. absurd (cc)),
          (let low = g.agenda.4 in let start = (taken t).shallow in let is = deep_is in omega (arith, low, start, is)),
          omega arith,
          above t v next none (left_steps t) refl (new_serves d w o rest) tt
              (past_good t (standing v.objects) registers refl (length_write None f.registers to (Some (values.object (Some new))) (low t refl to refl) ∙ (r t).counted) fit),
        );
        queues = queues_good;
        few = (let lives = room.lives in let more = (new_stands d w o).1 in omega (arith, lives, more));
        spent = (let left = steps_left t in
            let is = cost_is in
            let more = (new_stands d w o).1 in
            let sum = total_append (carried d a.weighed.costs (objects_making t)) w.objects (Some o ∷ []) in
            omega (arith, left, is, more, sum));
      })

  make_of : StepIsFine t
  make_of = go (has_room_for_object d w (to_make rest) k.p) refl
    where
      go : (room : Bool) → has_room_for_object d w (to_make rest) k.p ≡ room → StepIsFine t
      go true e = λ within.
          fine_where t within (led f.into)
          (ap (left (suc n)) (creating_is d w rest (past f) to id k.place k.p true k.is k.has k.allowed e)
          ∙ made_leads d w rest (past f) (suc n) to k.place k.p v (Constructing new todo false)
          (making_begins d w k.place k.p (peer_to_take d w k.p) false k.has read_well.concrete (defaults_valid d well.types k.p.class)) (low t refl to refl))
          (subst (λ into. IsGood d a most_counted (led into)) (sym (none_into t)) (makes_well (room_of e)))
      go false e =
          written_fine t refl (w.transcript ++ text_of_line d.types (lines.limit (codes "new")) ∷ []) to (kinds.at_or_null k.place) (Some (values.object None)) refl refl k.kinds_are refl
          (creating_is d w rest (past f) to id k.place k.p false k.is k.has k.allowed e)

make_fine : {d : Definition} (to : ℕ) (id : List ℕ) (t : Due d (words.new to id)) → StepIsFine t
make_fine {d} to id t = make_of to id t (naming_is d (r t).ks to id true _ (taken t).typed)

pub makes_are_fine : MakesAreFine
makes_are_fine to id = fine_of (λ d t. make_fine to id t)
