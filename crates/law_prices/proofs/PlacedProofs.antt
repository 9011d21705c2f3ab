-- A dispatch makes no more objects of a place than its bound says.
use Rattle.std.proofs.Common.{◌≡◌, refl, sym, ap, subst, ◌∙◌, ℕ, zero, suc, ◌+◌, ◌≤◌, Bool, true, false, cond, nat_eq, List, [], ◌∷◌, ◌++◌, drop, length, Option, None, Some, Ok, Err, slice_get, arith}
use Rattle.std.specs.Prelude.{IfOk, codes, nat_lt, not}
use Rattle.std.specs.List.{list_all}
use Rattle.ui_machine.specs.declared.arm.Arm.TheVariants as arms
use Rattle.ui_machine.specs.Seq.{total}
use Rattle.ui_machine.specs.Definition.{Definition}
use Rattle.ui_machine.specs.Definition.Lookups.{place_at, place_of, specs_of, type_of}
use Rattle.ui_machine.specs.Definition.Places.{Place}
use Rattle.ui_machine.specs.Definition.Programs.{Instruction}
use Rattle.ui_machine.specs.Definition.Programs as words
use Rattle.ui_machine.specs.Definition.Values as values
use Rattle.ui_machine.specs.Instructions.{in_front, instruction_step, running}
use Rattle.ui_machine.specs.Instructions.Jumps.{block_in, in_pass, past}
use Rattle.ui_machine.specs.Instructions.Objects.{creating, has_room_for_object, made_new}
use Rattle.ui_machine.specs.Instructions.Registers.{operand_in, with_register, written_to}
use Rattle.ui_machine.specs.Outcome.{Answer, known, only_if}
use Rattle.ui_machine.specs.Output.Lines as lines
use Rattle.ui_machine.specs.Rules.Build.{building, building_object, peer_for}
use Rattle.ui_machine.specs.Rules.Construction.{construction, has_valid_default, making, new_object, peer_to_take, with_object}
use Rattle.ui_machine.specs.Rules.Programs.{place_in}
use Rattle.ui_machine.specs.Runs.{Fits, Steps}
use Rattle.ui_machine.specs.State.Config.{Config, Left, Started, World, said, starts}
use Rattle.ui_machine.specs.State.Handlers.{Handler, handler_of}
use Rattle.ui_machine.specs.State.Objects.{Object, Objects, class_in, living}
use Rattle.ui_machine.specs.State.Peers.{Reply}
use Rattle.ui_machine.specs.State.References.{mentions, next_unheld}
use Rattle.ui_machine.specs.State.Sources.{source_of}
use Rattle.ui_machine.specs.State.Tasks.{Answering, Beginning, Building, Calling, Constructing, Due, Emitting, Frame, Handling, Item, Notifying, Running, Setting, Task, Thawing, Transferring, Unsetting, class_handler, handler}
use Rattle.ui_machine.specs.State.Tasks as config
use Rattle.ui_machine.specs.Steps.{act, first_of, left, most_steps, step, uncounted}
use Rattle.machine_laws.proofs.KeptProofs.{bind_keeps, cond_keeps, kept_at, only_keeps}
use Rattle.law_typing.specs.Laws.StepsKeepGood.{IsGood}
use Rattle.law_typing.specs.Laws.WellRead.{WellRead}
use Rattle.law_typing.specs.Verdict.Accepted.{Accepted, Each}
use Rattle.law_steps.specs.Served.Sessions.{beginning_of}
use Rattle.law_steps.proofs.Instructed.Inverse.{bound, known_is, only}
use Rattle.law_steps.proofs.Served.DispatchProofs.{one_step}
use Rattle.law_steps.proofs.Tasked.StepsProofs.{steps_keep_good}
use Rattle.law_prices.specs.Deeds.{Deed}
use Rattle.law_prices.specs.Deeds as deeds
use Rattle.law_prices.specs.Dispatches.{steps_price}
use Rattle.law_prices.specs.Lists.{objects_at}
use Rattle.law_prices.specs.Lists as lists
use Rattle.law_prices.specs.Placed.{PlacesAreWithin, made_of_place, new_of_place, of_place}
use Rattle.law_prices.specs.Steps.{agenda_deeds, construct_deeds, dispose_deeds, done_by, end_deeds, final_deeds, first_deeds, first_dispose, instruction_deeds, more_deeds, running_deeds, settle_deeds, step_price, task_deeds, turn_deeds}
use Rattle.law_prices.proofs.BoundProofs.{within}
use Rattle.law_prices.proofs.DispatchPays.{begins_at, dispatches_pay, first_fits}
use Rattle.law_prices.proofs.MadeSteps.{step_grows}
use Rattle.law_prices.proofs.TaskFalls.{left_is}

-- ** new objects

-- no object comes after all
drop_all : (os : Objects) → drop (length os) os ≡ []
drop_all [] = refl
drop_all (o ∷ os) = drop_all os

-- what is added comes after all
drop_end : (os more : Objects) → drop (length os) (os ++ more) ≡ more
drop_end [] more = refl
drop_end (o ∷ os) more = drop_end os more

-- no more are left than there are after so many
left_after : (n k : ℕ) (os : Objects) → length os ≤ n + k → length (drop n os) ≤ k
left_after zero k os h = omega (arith, h)
left_after (suc n) k [] h = omega arith
left_after (suc n) k (o ∷ os) h = left_after n k os (omega (arith, h))

-- no more are of the place than there are
few_of_place : (place : ℕ) (os : Objects) → total (of_place place) os ≤ length os
few_of_place place [] = omega arith
few_of_place place (None ∷ os) = let h = few_of_place place os in omega (arith, h)
few_of_place place (Some o ∷ os) = go (nat_eq o.place place) (few_of_place place os)
  where
    go : (b : Bool) → total (of_place place) os ≤ length os → cond b 1 0 + total (of_place place) os ≤ suc (length os)
    go true h = omega (arith, h)
    go false h = omega (arith, h)

-- where no object is added none is new
none_new : (place : ℕ) (before after : Objects) → length after ≤ length before + 0 → new_of_place place before after ≤ 0
none_new place before after h =
    let few = few_of_place place (drop (length before) after) in
    let left = left_after (length before) 0 after h in
    omega (arith, few, left)

-- ** making

module _ (d : Definition) (place : ℕ) (w : World) where
  -- no more objects of the place are new
  abbrev Places : ℕ → World → Type 0
  Places k v = new_of_place place w.objects v.objects ≤ k

  abbrev Kept : ℕ → Started → Type 0
  Kept k s = Places k s.world

  -- the world itself has no new object
  still : (k : ℕ) → new_of_place place w.objects w.objects ≤ k
  still k = let none = ap (total (of_place place)) (drop_all w.objects) in omega (arith, none)

  -- one object that is added is new
  one_new : (o : Object) → new_of_place place w.objects (w.objects ++ Some o ∷ []) ≤ cond (nat_eq o.place place) 1 0
  one_new o = let one = ap (total (of_place place)) (drop_end w.objects (Some o ∷ [])) in omega (arith, one)

  -- a making adds an object of its place
  makes : (at : ℕ) (peer : Option ℕ) (held : Bool) → IfOk (making d w at peer held) (Kept (cond (nat_eq at place) 1 0))
  unfolding making
  makes at peer held = bind_keeps (known arms.Code (place_at d at)) _ Holds (λ p _.
      only_keeps (not (type_of d p.class).is_abstract) arms.Abstract (only_if (list_all (has_valid_default d) (specs_of d p.class)) arms.Value (begun p)) Holds
      (only_keeps (list_all (has_valid_default d) (specs_of d p.class)) arms.Value (begun p) Holds (one_new (new_object d at p peer))))
    where
      Holds : Started → Type 0
      Holds s = Kept (cond (nat_eq at place) 1 0) s

      begun : Place → Answer Started
      begun p = starts (said d (with_object d w (new_object d at p peer)) (lines.construct (suc (length w.objects)) (type_of d p.class).name))
          (Constructing (suc (length w.objects)) (construction d w at p) held ∷ [])

  -- so does `new`
  makes_new : (f : Frame) (to at : ℕ) (p : Place) → IfOk (made_new d w f to at p) (Kept (cond (nat_eq at place) 1 0))
  unfolding made_new
  makes_new f to at p = bind_keeps (making d w at (peer_to_take d w p) false) _ Holds (λ made is.
      bind_keeps (with_register to _ f.registers) _ Holds (λ r _. kept_at Holds (making d w at (peer_to_take d w p) false) made (makes at (peer_to_take d w p) false) is))
    where
      Holds : Started → Type 0
      Holds s = Kept (cond (nat_eq at place) 1 0) s

  -- past the limit a line is said
  gives : (k : ℕ) (v : World) → Places k v → (to : ℕ) (f : Frame) → IfOk (written_to v to (Some (values.object None)) f) (Kept k)
  unfolding written_to
  gives k v kept to f = bind_keeps (with_register to _ f.registers) _ (Kept k) (λ r _. kept)

  -- what `new` does beside itself pays for the object
  abbrev new_price : List ℕ → ℕ
  new_price id = total (objects_at place) (done_by (λ at. deeds.make at ∷ []) (place_of d id))

  -- `new` makes an object of its place, if there is room
  creates : (rest : List Task) (f : Frame) (to : ℕ) (id : List ℕ) → IfOk (creating d w rest f to id) (Kept (new_price id))
  unfolding creating
  creates rest f to id = bind_keeps (known arms.Code (place_of d id)) _ Holds (λ at is. bind_keeps (known arms.Code (place_at d at)) _ Holds (λ p _.
      only_keeps _ _ _ Holds (cond_keeps (has_room_for_object d w _ p) _ _ Holds (new_here at is f p) (gives (new_price id) (said d w (lines.limit (codes "new"))) (still (new_price id)) to f))))
    where
      Holds : Started → Type 0
      Holds s = Kept (new_price id) s

      price : (at : ℕ) → known arms.Code (place_of d id) ≡ Ok at → new_price id ≡ cond (nat_eq at place) 1 0
      price at is =
          let e = ap (λ o. total (objects_at place) (done_by (λ at. deeds.make at ∷ []) o)) (known_is arms.Code (place_of d id) at is) in
          omega (arith, e)

      new_here : (at : ℕ) → known arms.Code (place_of d id) ≡ Ok at → (f : Frame) (p : Place) → IfOk (made_new d w f to at p) Holds
      new_here at is f p = subst (λ k. IfOk (made_new d w f to at p) (Kept k)) (sym (price at is)) (makes_new f to at p)

  -- an item of the build that makes an object
  builds_object : (at : ℕ) (items : List Item) → IfOk (building_object d w at items) (Kept (cond (nat_eq at place) 1 0))
  unfolding building_object
  builds_object at items = bind_keeps (known arms.Code (place_at d at)) _ Holds (λ p _. bind_keeps (peer_for d w p) _ Holds (λ peer _.
      bind_keeps (making d w at peer true) _ Holds (λ new is. kept_at Holds (making d w at peer true) new (makes at peer true) is)))
    where
      Holds : Started → Type 0
      Holds s = Kept (cond (nat_eq at place) 1 0) s

  -- what an instruction starts goes in front of the rest
  begins : (k : ℕ) (rest : List Task) (a : Answer Started) → IfOk a (Kept k) → IfOk (in_front rest a) (λ l. Places k l.world)
  unfolding in_front
  begins k rest (Ok s) kept = kept
  begins k rest (Err arm) kept = tt

  -- so does what a task starts that is not counted
  not_counted : (k : ℕ) (rest : List Task) (n : ℕ) (a : Answer Started) → IfOk a (Kept k) → IfOk (uncounted rest n a) (λ e. Places k e.world)
  not_counted k rest n (Ok s) kept = kept
  not_counted k rest n (Err arm) kept = tt

-- ** what makes no object

-- nothing is made by what is done by something, if nothing is made by it
done_none : {A : Type 0} (f : A → List Deed) (o : Option A) → ((x : A) → total lists.objects (f x) ≡ 0) → total lists.objects (done_by f o) ≡ 0
done_none f None none = refl
done_none f (Some x) none = none x

-- a dispose makes none
first_none : (o : Object) → total lists.objects (first_dispose o) ≡ 0
first_none o = go o.disposed
  where
    go : (b : Bool) → total lists.objects (cond b [] (deeds.dispose o.place ∷ [])) ≡ 0
    go true = refl
    go false = refl

dispose_none : (w : World) (a : Answer ℕ) → total lists.objects (dispose_deeds w a) ≡ 0
dispose_none w (Err arm) = refl
dispose_none w (Ok id) = done_none first_dispose (living w.objects id) first_none

-- the end of an emission makes none
end_none : (e : config.Emission) (place : ℕ) → total lists.objects (end_deeds e place) ≡ 0
end_none e place = go e.by_event
  where
    go : (b : Bool) → total lists.objects (deeds.end place e.signal ∷ cond b (deeds.tell place e.signal ∷ []) []) ≡ 0
    go true = refl
    go false = refl

-- nor does a turn
turn_none : (w : World) (place signal : ℕ) (entry : config.PlanEntry) → total lists.objects (turn_deeds w place signal entry) ≡ 0
turn_none w place signal (class_handler program cleanup) = refl
turn_none w place signal (handler number) =
    let h = done_none (λ (h : Handler). deeds.run h.program ∷ []) (handler_of number w.handlers) (λ h. refl) in omega (arith, h)
turn_none w place signal (config.transfer number back) = refl

-- nor does a step of a construction
construct_none : (place : ℕ) (s : config.ConstructStep) → total lists.objects (construct_deeds place s) ≡ 0
construct_none place (config.sets slot v) = refl
construct_none place (config.runs program) = refl
construct_none place config.thaws = refl

-- what floats is let go
settle_none : (w : World) (ids : List ℕ) → total lists.objects (settle_deeds w ids) ≡ 0
settle_none w [] = refl
settle_none w (id ∷ ids) = done_none (λ place. deeds.settle place ∷ []) (place_in w.objects id) (λ place. refl)

-- the end of an object
final_none : (o : Object) → total lists.objects (final_deeds o) ≡ 0
final_none o = let h = first_none o in omega (arith, h)

-- ** steps

module _ (d : Definition) (place : ℕ) (a : Accepted d) (most : ℕ) where
  module _ (w : World) (rest : List Task) where
    -- an instruction, where no more objects are made than it pays for in all
    instruction_places : (f g : Frame) (i : Instruction) (l : Left) → instruction_step d w rest g i ≡ Ok l →
        length l.world.objects ≤ length w.objects + total lists.objects (more_deeds d w f i) → Places d place w (total (objects_at place) (more_deeds d w f i)) l.world
    instruction_places f g (words.new to id) l e grows =
        kept_at (λ (l : Left). Places d place w (new_price d place w id) l.world) (instruction_step d w rest g (words.new to id)) l
        (begins d place w (new_price d place w id) rest (creating d w rest g to id) (creates d place w rest g to id)) e
    instruction_places f g (words.dispose object) l e grows =
        let none = dispose_none w (operand_in w f object) in
        let few = none_new place w.objects l.world.objects (omega (arith, grows, none)) in
        omega (arith, few)
    instruction_places f g i l e grows = none_new place w.objects l.world.objects grows

    -- a program that takes its next instruction
    running_places : (f : Frame) (l : Left) → running d w rest f ≡ Ok l → length l.world.objects ≤ length w.objects + total lists.objects (running_deeds d w f (block_in d f)) →
        Places d place w (total (objects_at place) (running_deeds d w f (block_in d f))) l.world
    unfolding running
    running_places f l e grows =
        let b = bound (block_in d f) _ l e in
        let i = bound (known arms.Code (slice_get b.0.code (in_pass b.0 f).at)) _ l b.2 in
        let at = known_is arms.Code (slice_get b.0.code (in_pass b.0 f).at) i.0 i.1 in
        let all_are = ap (λ x. total lists.objects (running_deeds d w f x)) b.1 in
        let all = ap (λ o. total lists.objects (instruction_deeds d w (in_pass b.0 f) o)) at in
        let here_are = ap (λ x. total (objects_at place) (running_deeds d w f x)) b.1 in
        let here = ap (λ o. total (objects_at place) (instruction_deeds d w (in_pass b.0 f) o)) at in
        let places = instruction_places (in_pass b.0 f) (past (in_pass b.0 f)) i.0 l i.2 (omega (arith, grows, all_are, all)) in
        omega (arith, places, here_are, here)

    module _ (n : ℕ) (reply : Option Reply) (e : Config) where
      -- a task that makes no object
      none_made : (task : Task) → length e.world.objects ≤ length w.objects + total lists.objects (task_deeds d w task) → total lists.objects (task_deeds d w task) ≡ 0 →
          Places d place w (total (objects_at place) (task_deeds d w task)) e.world
      none_made task grows none =
          let few = none_new place w.objects e.world.objects (omega (arith, grows, none)) in
          omega (arith, few)

      -- each task pays for the objects of the place that it makes
      task_places : (task : Task) → act d w reply (task ∷ rest) n ≡ Ok e → length e.world.objects ≤ length w.objects + total lists.objects (task_deeds d w task) →
          Places d place w (total (objects_at place) (task_deeds d w task)) e.world
      task_places (Running f) h grows =
          let k = only (nat_lt n most_steps) arms.Steps (left (suc n) (running d w rest f)) e h in
          let l = left_is (suc n) (running d w rest f) e k.1 in
          let same = ap (λ (e : Config). length e.world.objects) l.2 in
          subst (λ (e : Config). Places d place w (total (objects_at place) (task_deeds d w (Running f))) e.world) l.2 (running_places f l.0 l.1 (omega (arith, grows, same)))
      task_places (Building (config.makes at ∷ items)) h grows =
          let made = kept_at (λ (e : Config). Places d place w (cond (nat_eq at place) 1 0) e.world) (act d w reply (Building (config.makes at ∷ items) ∷ rest) n) e
          (not_counted d place w (cond (nat_eq at place) 1 0) rest n (building d w (config.makes at ∷ items)) (builds_object d place w at items)) h in
          omega (arith, made)
      task_places (Building []) h grows = none_made (Building []) grows refl
      task_places (Building (config.adopts at ∷ items)) h grows = none_made (Building (config.adopts at ∷ items)) grows refl
      task_places (Building (config.forwards at slot to ∷ items)) h grows = none_made (Building (config.forwards at slot to ∷ items)) grows refl
      task_places (Building (config.binds number ∷ items)) h grows = none_made (Building (config.binds number ∷ items)) grows refl
      task_places (Building (config.connects at number ∷ items)) h grows = none_made (Building (config.connects at number ∷ items)) grows refl
      task_places (Setting id slot v) h grows = none_made (Setting id slot v) grows (done_none _ (place_in w.objects id) (λ at. refl))
      task_places (Notifying id slot) h grows = none_made (Notifying id slot) grows (done_none _ (place_in w.objects id) (λ at. refl))
      task_places (Beginning em) h grows = none_made (Beginning em) grows (done_none _ (place_in w.objects em.object) (λ at. refl))
      task_places (Emitting em []) h grows = none_made (Emitting em []) grows (done_none _ (place_in w.objects em.object) (end_none em))
      task_places (Emitting em (entry ∷ entries)) h grows =
          none_made (Emitting em (entry ∷ entries)) grows (done_none _ (place_in w.objects em.object) (λ at. turn_none w at em.signal entry))
      task_places (Transferring number back) h grows = none_made (Transferring number back) grows refl
      task_places (Unsetting number) h grows = none_made (Unsetting number) grows refl
      task_places (Thawing id []) h grows = none_made (Thawing id []) grows refl
      task_places (Thawing id (slot ∷ slots)) h grows = none_made (Thawing id (slot ∷ slots)) grows (done_none _ (place_in w.objects id) (λ at. refl))
      task_places (Answering source) h grows = none_made (Answering source) grows refl
      task_places (Calling call) h grows = none_made (Calling call) grows (done_none _ (class_in w.objects call.object) (λ class. refl))
      task_places (Constructing id [] held) h grows = none_made (Constructing id [] held) grows (done_none _ (place_in w.objects id) (λ at. refl))
      task_places (Constructing id (s ∷ steps) held) h grows =
          none_made (Constructing id (s ∷ steps) held) grows (done_none _ (place_in w.objects id) (λ at. construct_none at s))
      task_places (Handling request) h grows = none_made (Handling request) grows refl
      task_places (Due number) h grows = none_made (Due number) grows (done_none _ (source_of number w.sources) (λ s. refl))

  -- each step pays for the objects of the place that it makes
  step_places : (c : Config) → IsGood d a most c → (reply : Option Reply) (e : Config) → step d reply c ≡ Ok e → Places d place c.world (step_price d (objects_at place) c) e.world
  step_places c g reply e h = go (next_unheld (mentions d c) c.world.objects) refl
    where
      grows : length e.world.objects ≤ length c.world.objects + step_price d lists.objects c
      grows = step_grows d a most a.weighed.costs c g reply e h

      Here : Option ℕ → Type 0
      Here o = Places d place c.world (total (objects_at place) (first_deeds d c o)) e.world

      without : (o : Option ℕ) → length e.world.objects ≤ length c.world.objects + total lists.objects (first_deeds d c o) → total lists.objects (first_deeds d c o) ≡ 0 → Here o
      without o grows none =
          let few = none_new place c.world.objects e.world.objects (omega (arith, grows, none)) in
          omega (arith, few)

      by : (tasks : List Task) → act d c.world reply tasks c.counted ≡ Ok e → length e.world.objects ≤ length c.world.objects + total lists.objects (agenda_deeds d c.world tasks) →
          Places d place c.world (total (objects_at place) (agenda_deeds d c.world tasks)) e.world
      by [] h grows =
          let none = settle_none c.world c.world.floating in
          let few = none_new place c.world.objects e.world.objects (omega (arith, grows, none)) in
          omega (arith, few)
      by (task ∷ rest) h grows = task_places c.world rest c.counted reply e task h grows

      go : (o : Option ℕ) → next_unheld (mentions d c) c.world.objects ≡ o → Places d place c.world (step_price d (objects_at place) c) e.world
      go o is =
          let all = ap (λ o. total lists.objects (first_deeds d c o)) is in
          let here = ap (λ o. total (objects_at place) (first_deeds d c o)) is in
          let places = first o is (omega (arith, grows, all)) in
          omega (arith, here, places)
        where
          first : (o : Option ℕ) → next_unheld (mentions d c) c.world.objects ≡ o → length e.world.objects ≤ length c.world.objects + total lists.objects (first_deeds d c o) → Here o
          first None is grows = by c.agenda (ap (first_of d reply c) (sym is) ∙ h) grows
          first (Some id) is grows = without (Some id) grows (done_none final_deeds (living c.world.objects id) final_none)

  module _ (well : WellRead d) (few : most ≤ most_steps) where
    -- so do some steps
    all_place : (n : ℕ) (replies : List Reply) → Each (Fits d) replies → (c e : Config) → IsGood d a most c → (s : Steps d n replies c e) →
        made_of_place place d n replies c e s ≤ steps_price d (objects_at place) n replies c e s
    all_place zero replies fit c e good s = omega arith
    all_place (suc n) replies fit c e good s =
        let both = first_fits d s.reply s.later (subst (Each (Fits d)) s.replied fit) in
        let next = one_step steps_keep_good d well a most few c s.mid good s.reply both.0 s.step in
        let one = step_places c good s.reply s.mid s.step.leads in
        let rest = all_place n s.later both.1 s.mid e next s.follows in
        omega (arith, one, rest)

pub places_are_within : PlacesAreWithin
places_are_within d well a peers ready events read x replies fit n at s place =
    within d a (objects_at place) _ _
    (λ t solves.
    let b = begins_at d well a (objects_at place) t solves peers ready events read x in
    let pays = dispatches_pay d well a peers ready events read x replies fit n at s (objects_at place) t solves in
    let low = all_place d place a b.most well b.few n replies fit (beginning_of x) at b.good s in
    omega (arith, pays, low))
