-- A request of an object that was not released begins well from any world at rest.
use Rattle.std.proofs.Common.{◌≡◌, refl, sym, subst, ap, ℕ, zero, suc, ◌+◌, ◌<◌, ◌≤◌, Bool, true, false, cond, List, [], ◌∷◌, ◌++◌, length, None, Some, slice_get, arith}
use Rattle.std.specs.List.{AllZip, list_any, flat_map}
use Rattle.std.proofs.lemmas.Bool.{or_parts}
use Rattle.ui_machine.specs.Seq.{read, total}
use Rattle.ui_machine.specs.Definition.Kinds.{Kind}
use Rattle.ui_machine.specs.Definition.{Definition}
use Rattle.ui_machine.specs.Definition.Places.{Given, value, named, Place}
use Rattle.ui_machine.specs.State.Objects.{Object}
use Rattle.ui_machine.specs.State.Bindings.{Binding}
use Rattle.ui_machine.specs.State.Tasks.{Request, Task, Handling}
use Rattle.ui_machine.specs.State.Tasks as config
use Rattle.ui_machine.specs.State.Config.{BuilderEntry, unbuilt, built, released, World, builder_entry}
use Rattle.ui_machine.specs.Rules.Events.{is_released, gives_released, names_released}
use Rattle.law_typing.specs.Graph.Channels.{property, signal}
use Rattle.law_typing.specs.Graph.{Raised, graph}
use Rattle.law_typing.specs.Graph.Tables.{Tables}
use Rattle.law_typing.specs.Graph.Costs.{cost}
use Rattle.law_typing.specs.Graph.Depths.{depth}
use Rattle.law_typing.specs.Verdict.Accepted.{Each}
use Rattle.law_typing.specs.Laws.WellRead.{GivenFits, IsObject, is_object, objects_of, WellRead}
use Rattle.law_typing.specs.Good.Standing.{standing, Lives}
use Rattle.law_typing.specs.Good.Objects.{PeersGood}
use Rattle.law_typing.specs.Good.Handlers.{ChannelGood, HandlersGood}
use Rattle.law_typing.specs.Good.Bindings.{BindingGood, BindingsGood, IsBuilt, DocumentGood}
use Rattle.law_typing.specs.Good.Requests.{entry_of, entry_depth, RequestRead, places_named}
use Rattle.law_typing.specs.Good.{Resting}
use Rattle.law_typing.specs.Laws.StepsKeepGood.{RequestsBegin}
use Rattle.law_typing.proofs.OneSolutionProofs.{entry_below}
use Rattle.law_static.proofs.SourceProofs.{none_carried, each_to}

-- ** objects of the document are built

-- an object comes among the first, as many as there are
among_first : (xs : List Place) (k : ℕ) (p : Place) → slice_get xs k ≡ Some p → p.is_prototype ≡ false →
    ((j : ℕ) (q : Place) → j < k → slice_get xs j ≡ Some q → q.is_prototype ≡ false) → k < total is_object xs
among_first [] k p e object before = absurd (cc)
among_first (x ∷ xs) zero p e object before =
    let s : x ≡ p = cc in
    let one = ap {B = ℕ} (λ (p : Place). cond p.is_prototype 0 1) s in
    let is = ap {B = ℕ} (λ b. cond b 0 1) object in
    omega (arith, one, is)
among_first (x ∷ xs) (suc k) p e object before =
    let h = among_first xs k p e object (λ j q less is. before (suc j) q (omega (arith, less)) is) in
    let one = ap {B = ℕ} (λ b. cond b 0 1) (before 0 x (omega arith) refl) in
    omega (arith, h, one)

pub object_below : (d : Definition) → WellRead d → (place : ℕ) → IsObject d place → place < objects_of d
object_below d well place object = among_first d.places place object.0 object.1 object.2 (λ j q less is. before j q less is q.is_prototype refl)
  where
    before : (j : ℕ) (q : Place) → j < place → slice_get d.places j ≡ Some q → (b : Bool) → q.is_prototype ≡ b → q.is_prototype ≡ false
    before j q less is true e = absurd (let later = well.order j place q object.0 is object.1 e object.2 in omega (arith, later, less))
    before j q less is false e = e

built_at : (xs : List BuilderEntry) (i : ℕ) → Each IsBuilt xs → i < length xs → IsBuilt (read unbuilt xs i)
built_at [] i all less = absurd (omega (arith, less))
built_at (x ∷ xs) zero all less = all.0
built_at (x ∷ xs) (suc i) all less = built_at xs i all.1 (omega (arith, less))

module _ (d : Definition) (well : WellRead d) (w : World) (document : DocumentGood d w.builder) where
  abbrev IsHeld : ℕ → Type 0
  IsHeld place = (id : ℕ) × (read unbuilt w.builder place ≡ built id)

  held_of : (place : ℕ) → IsObject d place → is_released (builder_entry w place) ≡ false → IsHeld place
  held_of place object kept =
      go (read unbuilt w.builder place) refl
      (built_at w.builder place document.each (let below = object_below d well place object in let all = document.all in omega (arith, below, all))) kept
    where
      go : (h : BuilderEntry) → read unbuilt w.builder place ≡ h → IsBuilt h → is_released h ≡ false → IsHeld place
      go unbuilt e is kept = absurd is
      go (built id) e is kept = (id, e)
      go released e is kept = absurd (cc)

  -- what is given is of the document
  given_object : (kind : Kind) (g : Given) → GivenFits d kind g → (to : ℕ) → g ≡ named to → IsObject d to
  given_object kind (value v) fits to e = absurd (cc)
  given_object kind (named at) fits to e = let s : at ≡ to = cc in subst (IsObject d) s (fits.0, fits.2, fits.3)

  given_held : (f : Given → List ℕ) → ((v : _) → f (value v) ≡ []) → ((to : ℕ) → f (named to) ≡ to ∷ []) → (kind : Kind) (g : Given) → GivenFits d kind g → gives_released w g ≡ false → Each IsHeld (f g)
  given_held f none one kind (value v) fits kept = subst (Each IsHeld) (sym (none v)) tt
  given_held f none one kind (named to) fits kept = subst (Each IsHeld) (sym (one to)) (held_of to (given_object kind (named to) fits to refl) kept, tt)

  all_given : (f : Given → List ℕ) → ((v : _) → f (value v) ≡ []) → ((to : ℕ) → f (named to) ≡ to ∷ []) → (gs : List Given) (kinds : List Kind) →
      AllZip (λ g kind. GivenFits d kind g) gs kinds → list_any (gives_released w) gs ≡ false → Each IsHeld (flat_map f gs)
  all_given f none one [] kinds fits kept = tt
  all_given f none one (g ∷ gs) [] fits kept = absurd fits
  all_given f none one (g ∷ gs) (kind ∷ kinds) fits kept =
      let p = or_parts (gives_released w g) (list_any (gives_released w) gs) kept in
      each_both (f g) (flat_map f gs) (given_held f none one kind g fits.0 p.0) (all_given f none one gs kinds fits.1 p.1)
    where
      each_both : (xs ys : List ℕ) → Each IsHeld xs → Each IsHeld ys → Each IsHeld (xs ++ ys)
      each_both [] ys a b = b
      each_both (x ∷ xs) ys a b = (a.0, each_both xs ys a.1 b)

  places_held : (r : Request) → RequestRead d r → names_released w r ≡ false → Each IsHeld (places_named r)
  places_held (config.set place slot (value v)) fits kept =
      let p = or_parts (is_released (builder_entry w place)) (gives_released w (value v)) kept in (held_of place fits.0 p.0, tt)
  places_held (config.set place slot (named to)) fits kept =
      let p = or_parts (is_released (builder_entry w place)) (gives_released w (named to)) kept in
      (held_of place fits.0 p.0, (held_of to (given_object fits.1.kind (named to) fits.5 to refl) p.1, tt))
  places_held (config.get place slot) fits kept = (held_of place fits.0 kept, tt)
  places_held (config.emit place number args detail) fits kept =
      let p = or_parts (is_released (builder_entry w place)) (list_any (gives_released w) args) kept in
      (held_of place fits.0 p.0, all_given _ (λ v. refl) (λ to. refl) args fits.2.params fits.6 p.1)
  places_held (config.release place) fits kept = (held_of place fits kept, tt)

-- ** frames

deep_enough : (d : Definition) (depths : Tables) (r : Request) → entry_depth depths (entry_of d r) ≤ depth (graph d) depths
deep_enough d depths (config.set place slot g) = let h = entry_below depths.channels (property place slot) in omega (arith, h)
deep_enough d depths (config.get place slot) = omega arith
deep_enough d depths (config.emit place number args detail) = let h = entry_below depths.channels (signal place number) in omega (arith, h)
deep_enough d depths (config.release place) = omega arith

-- ** the beginning

module _ (d : Definition) (costs depths : Tables) (w : World) (r : Resting d costs depths w) (request : Request) where
  abbrev agenda : List Task
  agenda = Handling request ∷ []

  channel : (id : ℕ) (x : Raised) → ChannelGood d costs depths [] id w.handlers x → ChannelGood d costs depths agenda id w.handlers x
  channel id x g = record { own = g.own; connected = g.connected; own_shallow = g.own_shallow; connected_shallow = g.connected_shallow }

  handlers : HandlersGood d costs depths (standing w.objects) agenda w.last_handler w.handlers
  handlers = record {
    each = r.handlers.each;
    rising = r.handlers.rising;
    numbered = r.handlers.numbered;
    few = r.handlers.few;
    channels = λ id place e. each_to _ _ (graph d).raised (λ x f same. channel id x (f same)) (r.handlers.channels id place e);
  }

  binding : (b : Binding) → BindingGood d (standing w.objects) [] b → BindingGood d (standing w.objects) agenda b
  binding b g = record { bind = g.bind; is = g.is; name = g.name; slots = g.slots; source = g.source; target = g.target; setting = g.setting }

  bindings : BindingsGood d (standing w.objects) agenda w.bindings
  bindings = record { each = each_to _ _ w.bindings binding r.bindings.each; rising = r.bindings.rising; made = r.bindings.made }

  none_queued : (i : ℕ) (o : Object) → read None w.objects i ≡ Some o → o.queue ≡ []
  none_queued i o e = (r.thawed (suc i) o e).1

pub requests_begin : RequestsBegin
requests_begin d well a w r request fits kept =
    let costs = a.weighed.costs in
    let depths = a.weighed.depths in
    let deep = deep_enough d depths request in
    let few = r.few in
    let none = none_carried d costs (0 + 0) w.objects (none_queued d costs depths w r request) in
    record {
      objects = λ id o e. (let g = r.objects id o e in record {
        place = g.place;
        is = g.is;
        class = g.class;
        values = g.values;
        children = g.children;
        parent = g.parent;
        queue = g.queue;
        apart = g.apart;
        peer = g.peer;
      });
      handlers = handlers d costs depths w r request;
      bindings = bindings d costs depths w r request;
      sources = r.sources;
      peers = (let same : length w.builder ≡ length w.builder + 0 = omega arith in subst (PeersGood d w.peers) same r.peers);
      build = (r.document, refl);
      held = r.held;
      floating = subst (Each (Lives (standing w.objects))) (sym r.floating) tt;
      sets = record { alone = refl; first = refl; held = λ h. absurd (omega (arith, h)) };
      objects_first = record {
        before = λ h. absurd (omega (arith, h));
        one = omega arith;
      };
      budget = cost (graph d) costs (entry_of d request);
      agenda = (
        cost (graph d) costs (entry_of d request),
        entry_depth depths (entry_of d request),
        0,
        (tt, refl, record { fits = fits; held = places_held d well w r.document request fits kept; cheap = omega arith; shallow = omega arith }),
        omega (arith, deep),
        omega arith,
        tt,
      );
      queues = λ id o e. (let none = r.thawed id o e in record {
        count = none.0;
        few = (let zero = none.0 in omega (arith, zero));
        none = λ h. none.1;
        deep = subst (Each _) (sym none.1) tt;
      });
      few = omega (arith, few);
      spent = omega (arith, few, none);
    }
