-- A due source begins well from any world at rest.
use Rattle.std.proofs.Common.{◌≡◌, refl, sym, subst, ap, ℕ, zero, suc, ◌+◌, ◌≤◌, List, [], ◌∷◌, length, Option, None, Some, arith}
use Rattle.ui_machine.specs.Seq.{read, total}
use Rattle.ui_machine.specs.Definition.{Definition}
use Rattle.ui_machine.specs.State.Objects.{Object, Objects}
use Rattle.ui_machine.specs.State.Bindings.{Binding}
use Rattle.ui_machine.specs.State.Tasks.{Task, Due}
use Rattle.ui_machine.specs.State.Config.{World}
use Rattle.law_typing.specs.Graph.{Raised, graph}
use Rattle.law_typing.specs.Graph.Tables.{Tables, of_program, greatest}
use Rattle.law_typing.specs.Verdict.Accepted.{Each}
use Rattle.law_typing.specs.Good.Standing.{standing, Lives}
use Rattle.law_typing.specs.Good.Objects.{PeersGood}
use Rattle.law_typing.specs.Good.Handlers.{ChannelGood, HandlersGood}
use Rattle.law_typing.specs.Good.Bindings.{BindingGood, BindingsGood}
use Rattle.law_typing.specs.Good.Freezes.{carried}
use Rattle.law_typing.specs.Good.{Resting}
use Rattle.law_typing.specs.Laws.StepsKeepGood.{SourcesBegin}

-- an entry of a table is at most the greatest
pub read_at_most : (xs : List ℕ) (i : ℕ) → read 0 xs i ≤ greatest (λ n. n) xs
read_at_most [] i = omega arith
read_at_most (x ∷ xs) zero = omega arith
read_at_most (x ∷ xs) (suc i) = let h = read_at_most xs i in omega (arith, h)

-- where nothing is queued nothing is carried
pub none_carried : (d : Definition) (costs : Tables) (making : ℕ) (os : Objects) → ((i : ℕ) (o : Object) → read None os i ≡ Some o → o.queue ≡ []) → total (carried d costs making) os ≡ 0
none_carried d costs making [] none = refl
none_carried d costs making (x ∷ os) none =
    let later = none_carried d costs making os (λ i o e. none (suc i) o e) in
    let first = here x (λ o e. none zero o e) in
    omega (arith, first, later)
  where
    here : (x : Option Object) → ((o : Object) → x ≡ Some o → o.queue ≡ []) → carried d costs making x ≡ 0
    here None none = refl
    here (Some o) none = ap (λ q. carried d costs making (Some (record o { queue = q }))) (none o refl)

pub each_to : {A : Type 0} (P Q : A → Type 0) (xs : List A) → ((x : A) → P x → Q x) → Each P xs → Each Q xs
each_to P Q [] f all = tt
each_to P Q (x ∷ xs) f all = (f x all.0, each_to P Q xs f all.1)

module _ (d : Definition) (costs depths : Tables) (w : World) (r : Resting d costs depths w) (number : ℕ) where
  abbrev agenda : List Task
  agenda = Due number ∷ []

  channel : (id : ℕ) (x : Raised) → ChannelGood d costs depths [] id w.handlers x → ChannelGood d costs depths agenda id w.handlers x
  channel id x g = record { own = g.own; connected = g.connected; own_shallow = g.own_shallow; connected_shallow = g.connected_shallow }

  handlers : HandlersGood d costs depths (standing w.objects) agenda w.last_handler w.handlers
  handlers = record {
    each = r.handlers.each;
    rising = r.handlers.rising;
    numbered = r.handlers.numbered;
    few = r.handlers.few;
    channels = λ id place e. each_to _ _ (graph d).raised (λ x f same. channel id x (f same)) (r.handlers.channels id place e);
  }

  binding : (b : Binding) → BindingGood d (standing w.objects) [] b → BindingGood d (standing w.objects) agenda b
  binding b g = record { bind = g.bind; is = g.is; name = g.name; slots = g.slots; source = g.source; target = g.target; setting = g.setting }

  bindings : BindingsGood d (standing w.objects) agenda w.bindings
  bindings = record { each = each_to _ _ w.bindings binding r.bindings.each; rising = r.bindings.rising; made = r.bindings.made }

  none_queued : (i : ℕ) (o : Object) → read None w.objects i ≡ Some o → o.queue ≡ []
  none_queued i o e = (r.thawed (suc i) o e).1

pub sources_begin : SourcesBegin
sources_begin d well a w r number s is =
    let costs = a.weighed.costs in
    let depths = a.weighed.depths in
    let deep = read_at_most depths.programs s.program in
    let few = r.few in
    let none = none_carried d costs (0 + 0) w.objects (none_queued d costs depths w r number) in
    record {
      objects = λ id o e. (let g = r.objects id o e in record {
        place = g.place;
        is = g.is;
        class = g.class;
        values = g.values;
        children = g.children;
        parent = g.parent;
        queue = g.queue;
        apart = g.apart;
        peer = g.peer;
      });
      handlers = handlers d costs depths w r number;
      bindings = bindings d costs depths w r number;
      sources = r.sources;
      peers = (let same : length w.builder ≡ length w.builder + 0 = omega arith in subst (PeersGood d w.peers) same r.peers);
      build = (r.document, refl);
      held = r.held;
      floating = subst (Each (Lives (standing w.objects))) (sym r.floating) tt;
      sets = record { alone = refl; first = refl; held = λ h. absurd (omega (arith, h)) };
      objects_first = record {
        before = λ h. absurd (omega (arith, h));
        one = omega arith;
      };
      budget = of_program costs s.program;
      agenda = (
        of_program costs s.program,
        of_program depths s.program,
        0,
        (tt, refl, (s, is, omega arith, omega arith)),
        omega (arith, deep),
        omega arith,
        tt,
      );
      queues = λ id o e. (let none = r.thawed id o e in record {
        count = none.0;
        few = (let zero = none.0 in omega (arith, zero));
        none = λ h. none.1;
        deep = subst (Each _) (sym none.1) tt;
      });
      few = omega (arith, few);
      spent = omega (arith, few, none);
    }
