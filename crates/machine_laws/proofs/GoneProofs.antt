-- Why an emission may as well not have the turns of handlers and the transfers of bindings that are gone.
use Rattle.std.proofs.Common.{arith, ◌≡◌, refl, ap, sym, ◌∙◌, ℕ, suc, Bool, true, false, cond, not, nat_eq, List, [], ◌∷◌, ◌++◌, map, Option, None, Some, Ok, Err, ◌+◌, ◌&&◌}
use Rattle.std.specs.List.{filter, find, list_all}
use Rattle.std.proofs.lemmas.Bool.{false≢true}
use Rattle.std.proofs.lemmas.Bool.Decides.{nat_tests}
use Rattle.std.proofs.Math.Path.{fun_ext}
use Rattle.std.proofs.lemmas.List.{map-append}
use Rattle.std.proofs.lemmas.List.Elements.{filter-append}
use Rattle.std.specs.Prelude.{codes, is_some, length, nat_le, nat_lt}
use Rattle.ui_machine.specs.declared.arm.Arm.{Arm}
use Rattle.ui_machine.specs.declared.arm.Arm.TheVariants as arms
use Rattle.ui_machine.specs.Definition.Kinds.{Kind}
use Rattle.ui_machine.specs.Definition.Values.{Value}
use Rattle.ui_machine.specs.Definition.Values as values
use Rattle.ui_machine.specs.Definition.Properties.{Spec, has_flags}
use Rattle.ui_machine.specs.Definition.{Definition}
use Rattle.ui_machine.specs.Definition.Places.{Bind, Given, Place}
use Rattle.ui_machine.specs.Definition.Signals.{Signal}
use Rattle.ui_machine.specs.Definition.Programs.{Instruction, Arithmetic, Comparison, Connect}
use Rattle.ui_machine.specs.Definition.Programs as words
use Rattle.ui_machine.specs.Seq.{total}
use Rattle.ui_machine.specs.State.Tasks as config
use Rattle.ui_machine.specs.State.Peers.{Reply}
use Rattle.ui_machine.specs.State.Config.{World, Config, starts, leaves, Started, Left}
use Rattle.ui_machine.specs.State.Tasks.{Setting, Notifying, Beginning, Emitting, Transferring, Unsetting, Thawing, Running, Answering, Calling, Constructing, Building, Handling, Due, Task, Emission, PlanEntry, class_handler, handler, Frame, Call, ConstructStep, sets, runs, thaws, Item, makes, adopts, forwards, binds, connects, Request}
use Rattle.ui_machine.specs.State.Bindings.{Binding, binding_of, goes_back, listens, transfers}
use Rattle.ui_machine.specs.State.Handlers.{Handler, handler_of}
use Rattle.ui_machine.specs.Outcome.{After, Answer, ◌>>=◌, only_if}
use Rattle.ui_machine.specs.State.References.{in_held, in_object, in_source, in_task, mentions, next_unheld, same}
use Rattle.ui_machine.specs.Rules.Sets.{raising, raising_if, written, setting}
use Rattle.ui_machine.specs.Rules.EmissionPlan.{class_handler_of, Planned, plan, at_stage, notifying, beginning_emission, notify_plan, emission_plan}
use Rattle.ui_machine.specs.Rules.Programs.{beginning_program, program_before}
use Rattle.ui_machine.specs.Rules.Transfers.{transfer_for, End, source_end, target_end, set_by, carried, carried_by, transferring}
use Rattle.ui_machine.specs.Rules.Accumulation.{in_stage, instance_of, is_of_cleanup, left_by_stop, stopped, entries_after, accumulated, collected, passed_down, received, taken, received_by, is_last, running_handler, taking_entry, collecting, down_to_emission, down_to_source, given_down, ending}
use Rattle.ui_machine.specs.Instructions.Registers.{with_register, written_to, moving, constant, clearing}
use Rattle.ui_machine.specs.Rules.MainLoop.{sourcing}
use Rattle.ui_machine.specs.Instructions.Peers.{replied, with_method, left_with, called, uncalled, calling_on, calling}
use Rattle.ui_machine.specs.Rules.Connections.{disconnected, blocked, unblocked, with_handlers_on}
use Rattle.ui_machine.specs.Rules.Construction.{peer_to_take, making, apply_construct_property, constructed, thawing_made, constructing}
use Rattle.ui_machine.specs.Rules.Build.{of_items, to_make, to_connect, is_making, is_connecting, first_transfer, building_child, set_forward, building_forward, building_binding, building_handler, building_object, building}
use Rattle.ui_machine.specs.Instructions.Signals.{Emit, emitting, connecting, on_handlers, disconnecting, blocking, unblocking, unbinding}
use Rattle.ui_machine.specs.Instructions.Objects.{look_up_object, made_new, creating, sinking, orphaning, disposing, adopting, freezing, thaw_notify}
use Rattle.ui_machine.specs.Instructions.Arithmetic.{gives_from, reckoning, comparing, sameness, negating, conjunction, disjunction, joining, converting}
use Rattle.ui_machine.specs.Instructions.Sources.{attaching, removing, Attach}
use Rattle.ui_machine.specs.Instructions.Properties.{get_property, set_from, set_property, then_goes_on, notify_from_program}
use Rattle.ui_machine.specs.Instructions.Jumps.{jumping, branching, branching_null, returning}
use Rattle.ui_machine.specs.Instructions.{in_front, instruction_step, running}
use Rattle.ui_machine.specs.Rules.Events.{set_given, set_from_event, get_from_event, emit_from_event, release_from_event, request_step}
use Rattle.ui_machine.specs.Steps.{most_steps, uncounted, counted, counted_left, left, act, finalising, first_of, asked_first, asked_after}
use Rattle.ui_machine.specs.Rules.NotifyQueue.{thawing}
use Rattle.machine_laws.specs.FrontLaws.{mapped}
use Rattle.machine_laws.specs.GoneLaws.{AreGone, AreStillGone, GivenAreGone, Gone, GoneTurnsPass, PrunedAgain, QuestionsDoWithout, StepsDoWithout, gone_in, is_next, pruned, pruned_at, stays}

mapped_then : {A B C : Type 0} (f : B → C) (a : Answer A) (g : A → Answer B) → mapped f (a >>= g) ≡ (a >>= λ x. mapped f (g x))
mapped_then f (Ok x) g = refl
mapped_then f (Err arm) g = refl

mapped_if : {A B : Type 0} (f : A → B) (b : Bool) (arm : Arm) (a : Answer A) → mapped f (only_if b arm a) ≡ only_if b arm (mapped f a)
mapped_if f true arm a = refl
mapped_if f false arm a = refl

mapped_cond : {A B : Type 0} (f : A → B) (b : Bool) (x y : Answer A) → mapped f (cond b x y) ≡ cond b (mapped f x) (mapped f y)
mapped_cond f true x y = refl
mapped_cond f false x y = refl

both : (a b : Bool) → (a && b) ≡ true → (a ≡ true) × (b ≡ true)
both true b h = (refl, h)
both false b h = absurd (false≢true h)

mapped_before : {A B C : Type 0} (f : A → B) (a : Answer A) (g : B → Answer C) → (mapped f a >>= g) ≡ (a >>= λ x. g (f x))
mapped_before f (Ok x) g = refl
mapped_before f (Err arm) g = refl

same_number : (a b : ℕ) → nat_eq a b ≡ true → a ≡ b
same_number a b h = grind (arith, nat_tests)

-- ** numbers that no handler and no binding has

none_found : {A : Type 0} (number_of : A → ℕ) (gone : ℕ → Bool) (xs : List A) (number : ℕ) → list_all (λ x. not (gone (number_of x))) xs ≡ true → gone number ≡ true
    → find (λ x. nat_eq (number_of x) number) xs ≡ None
none_found number_of gone [] number apart is = refl
none_found number_of gone (x ∷ xs) number apart is =
    ap (λ b. cond b (Some x) (find (λ y. nat_eq (number_of y) number) xs)) other ∙ none_found number_of gone xs number parts.1 is
  where
    parts : (not (gone (number_of x)) ≡ true) × (list_all (λ y. not (gone (number_of y))) xs ≡ true)
    parts = both (not (gone (number_of x))) (list_all (λ y. not (gone (number_of y))) xs) apart

    by : (b : Bool) → nat_eq (number_of x) number ≡ b → b ≡ false
    by true e = absurd (false≢true (sym (ap not (ap gone (same_number (number_of x) number e) ∙ is)) ∙ parts.0))
    by false e = refl

    other : nat_eq (number_of x) number ≡ false
    other = by (nat_eq (number_of x) number) refl

-- ** parts of a step, and the agenda

tasks_of : Answer Started → List Task
tasks_of (Ok s) = s.tasks
tasks_of (Err arm) = []

module _ (gone : Gone) (d : Definition) where
  abbrev started : Started → Started
  started s = record s { tasks = map (pruned gone) s.tasks }

  abbrev remaining : Left → Left
  remaining l = record l { agenda = map (pruned gone) l.agenda }

  ruleset parts = (mapped_then, mapped_if, mapped_cond)

  -- ** tasks behind those that a part of a step starts

  behind : (a : Answer Started) (tasks : List Task) → mapped started a ≡ a →
      mapped started (a >>= λ s. starts s.world (s.tasks ++ tasks)) ≡ (a >>= λ s. starts s.world (s.tasks ++ map (pruned gone) tasks))
  unfolding tasks_of
  behind (Ok s) tasks same =
      let own : map (pruned gone) s.tasks ≡ s.tasks = ap tasks_of same in
      ap (λ l. Ok (record { world = s.world; tasks = l })) (map-append (pruned gone) s.tasks tasks ∙ ap (λ l. l ++ map (pruned gone) tasks) own)
  behind (Err arm) tasks same = refl

  behind_known : {B : Type 0} (a : Answer Started) (k : Answer B) (t : B → List Task) → mapped started a ≡ a → ((r : B) → map (pruned gone) (t r) ≡ t r) →
      mapped started (a >>= λ s. k >>= λ r. starts s.world (s.tasks ++ t r)) ≡ (a >>= λ s. k >>= λ r. starts s.world (s.tasks ++ t r))
  unfolding tasks_of
  behind_known (Ok s) (Ok r) t same stay =
      let own : map (pruned gone) s.tasks ≡ s.tasks = ap tasks_of same in
      ap (λ l. Ok (record { world = s.world; tasks = l }))
      (map-append (pruned gone) s.tasks (t r) ∙ ap (λ l. l ++ map (pruned gone) (t r)) own ∙ ap (λ l. s.tasks ++ l) (stay r))
  behind_known (Ok s) (Err arm) t same stay = refl
  behind_known (Err arm) k t same stay = refl

  raise_stays : (b : Bool) (id slot : ℕ) → map (pruned gone) (cond b (Notifying id slot ∷ []) []) ≡ cond b (Notifying id slot ∷ []) []
  raise_stays true id slot = refl
  raise_stays false id slot = refl

  first_stays : (number : ℕ) (b : Bind) (items : List Item) → map (pruned gone) (first_transfer number b ++ Building items ∷ []) ≡ first_transfer number b ++ Building items ∷ []
  first_stays number b items = by (has_flags 2 b.flags)
    where
      by : (x : Bool) → map (pruned gone) (cond x (Transferring number false ∷ []) [] ++ Building items ∷ []) ≡ cond x (Transferring number false ∷ []) [] ++ Building items ∷ []
      by true = refl
      by false = refl

  -- ** plans

  stay_class : (here cleanup : Bool) (program : Option ℕ) → filter (stays gone) (at_stage here cleanup program) ≡ at_stage here cleanup program
  stay_class here cleanup None = refl
  stay_class true cleanup (Some program) = refl
  stay_class false cleanup (Some program) = refl

  -- the entries of some that are none of those
  stay_all : {A : Type 0} (entry : A → PlanEntry) (xs : List A) → list_all (λ x. stays gone (entry x)) xs ≡ true → (passes : A → Bool)
      → filter (stays gone) (map entry (filter passes xs)) ≡ map entry (filter passes xs)
  stay_all entry [] apart passes = refl
  stay_all {A} entry (x ∷ xs) apart passes = by (passes x) (stay_all entry xs (both (stays gone (entry x)) (list_all (λ y. stays gone (entry y)) xs) apart).1 passes)
    where
      rest : List PlanEntry
      rest = map entry (filter passes xs)

      by : (b : Bool) → filter (stays gone) rest ≡ rest
          → filter (stays gone) (map entry (cond b (x ∷ filter passes xs) (filter passes xs))) ≡ map entry (cond b (x ∷ filter passes xs) (filter passes xs))
      by true same = ap (λ b. cond b (entry x ∷ filter (stays gone) rest) (filter (stays gone) rest)) (both (stays gone (entry x)) (list_all (λ y. stays gone (entry y)) xs) apart).0 ∙ ap (λ l. entry x ∷ l) same
      by false same = same

  stay_handlers : (hs : List Handler) → list_all (λ (h : Handler). not (gone.handlers h.number)) hs ≡ true → (passes : Handler → Bool)
      → filter (stays gone) (map (λ (h : Handler). handler h.number) (filter passes hs)) ≡ map (λ (h : Handler). handler h.number) (filter passes hs)
  stay_handlers hs apart passes = stay_all (λ (h : Handler). handler h.number) hs apart passes

  stay_transfers : (id slot : ℕ) (bs : List Binding) → list_all (λ (b : Binding). not (gone.bindings b.number)) bs ≡ true → filter (stays gone) (transfers id slot bs) ≡ transfers id slot bs
  stay_transfers id slot bs apart = stay_all (λ (b : Binding). config.transfer b.number (goes_back id slot b)) bs apart (listens id slot)

  stay_both : (xs ys : List PlanEntry) → filter (stays gone) xs ≡ xs → filter (stays gone) ys ≡ ys → filter (stays gone) (xs ++ ys) ≡ xs ++ ys
  stay_both xs ys first second = filter-append (stays gone) xs ys ∙ ap (λ l. l ++ filter (stays gone) ys) first ∙ ap (λ l. xs ++ l) second

  plan_stays : (w : World) → AreGone gone w → (p : Planned) → filter (stays gone) p.transfers ≡ p.transfers → filter (stays gone) (plan w p) ≡ plan w p
  plan_stays w apart p own =
      stay_both _ _ (stay_class _ false p.class_program)
      (stay_both _ _ own
      (stay_both _ _ (stay_handlers w.handlers apart.handlers _)
      (stay_both _ _ (stay_class _ false p.class_program)
      (stay_both _ _ (stay_handlers w.handlers apart.handlers _) (stay_class _ true p.class_program)))))

  notification_stays : (w : World) → AreGone gone w → (s : Signal) (class id slot : ℕ) (name : List ℕ)
      → filter (stays gone) (notify_plan d w s class id slot name) ≡ notify_plan d w s class id slot name
  notification_stays w apart s class id slot name =
      plan_stays w apart (record {
        object = id;
        signal = 0;
        detail = Some name;
        flags = s.flags;
        class_program = class_handler_of d class s.name;
        transfers = transfers id slot w.bindings;
      }) (stay_transfers id slot w.bindings apart.bindings)

  emission_stays : (w : World) → AreGone gone w → (s : Signal) (class : ℕ) (e : Emission)
      → filter (stays gone) (emission_plan d w s class e) ≡ emission_plan d w s class e
  emission_stays w apart s class e =
      plan_stays w apart (record {
        object = e.object;
        signal = e.signal;
        detail = e.detail;
        flags = s.flags;
        class_program = class_handler_of d class s.name;
        transfers = [];
      }) refl

  transfers_stay : (w : World) (e : Emission) (ts : List PlanEntry) (number : ℕ) (back : Bool) (b : Option Binding)
      → mapped started (starts w (transfer_for b number back ++ Emitting e ts ∷ [])) ≡ starts w (transfer_for b number back ++ Emitting e (filter (stays gone) ts) ∷ [])
  transfers_stay w e ts number back None = refl
  transfers_stay w e ts number back (Some b) = by b.busy
    where
      by : (busy : Bool) → mapped started (starts w (cond busy [] (Transferring number back ∷ []) ++ Emitting e ts ∷ []))
          ≡ starts w (cond busy [] (Transferring number back ∷ []) ++ Emitting e (filter (stays gone) ts) ∷ [])
      by true = refl
      by false = refl

  -- ** what the builder has still to do

  as_many : (f : Item → ℕ) (task : Task) → of_items f (pruned gone task) ≡ of_items f task
  as_many f (Setting object slot v) = refl
  as_many f (Notifying object slot) = refl
  as_many f (Beginning emission) = refl
  as_many f (Emitting emission entries) = refl
  as_many f (Transferring number back) = refl
  as_many f (Unsetting number) = refl
  as_many f (Thawing object slots) = refl
  as_many f (Running frame) = refl
  as_many f (Answering source) = refl
  as_many f (Calling call) = refl
  as_many f (Constructing object steps held) = refl
  as_many f (Building items) = refl
  as_many f (Handling request) = refl
  as_many f (Due source) = refl

  all_as_many : (f : Item → ℕ) (rest : List Task) → total (of_items f) (map (pruned gone) rest) ≡ total (of_items f) rest
  all_as_many f [] = refl
  all_as_many f (task ∷ rest) = ap (λ n. n + total (of_items f) (map (pruned gone) rest)) (as_many f task) ∙ ap (λ n. of_items f task + n) (all_as_many f rest)

  makes_as_many : (rest : List Task) → to_make (map (pruned gone) rest) ≡ to_make rest
  makes_as_many rest = all_as_many is_making rest

  connects_as_many : (rest : List Task) → to_connect (map (pruned gone) rest) ≡ to_connect rest
  connects_as_many rest = all_as_many is_connecting rest

  -- ** parts of a step

  raises : (w : World) (id slot : ℕ) → mapped started (raising w id slot) ≡ raising w id slot
  unfolding raising
  raises w id slot = simp (raising, parts, raise_stays)

  raises_if : (b : Bool) (w : World) (id slot : ℕ) → mapped started (raising_if b w id slot) ≡ raising_if b w id slot
  raises_if false w id slot = refl
  raises_if true w id slot = raises w id slot

  writes : (w : World) (id slot : ℕ) (s : Spec) (v : Value) → mapped started (written d w id slot s v) ≡ written d w id slot s v
  unfolding written
  writes w id slot s v = simp (written, parts, raises_if)

  sets_one : (w : World) (id slot : ℕ) (v : Value) → mapped started (setting d w id slot v) ≡ setting d w id slot v
  unfolding setting
  sets_one w id slot v = simp (setting, parts, writes)

  notifies : (w : World) → AreGone gone w → (id slot : ℕ) → mapped started (notifying d w id slot) ≡ notifying d w id slot
  unfolding notifying
  notifies w apart id slot = simp (notifying, parts, notification_stays w apart)

  begins_emission : (w : World) → AreGone gone w → (e : Emission) → mapped started (beginning_emission d w e) ≡ beginning_emission d w e
  unfolding beginning_emission
  begins_emission w apart e = simp (beginning_emission, parts, emission_stays w apart)

  begins_program : (w : World) (number : ℕ) (args : List Value) → mapped started (beginning_program d w number args) ≡ beginning_program d w number args
  unfolding beginning_program
  begins_program w number args = simp (beginning_program, parts)

  runs_before : (w : World) (number : ℕ) (args : List Value) (tasks : List Task) → mapped started (program_before d w number args tasks) ≡ program_before d w number args (map (pruned gone) tasks)
  unfolding program_before
  runs_before w number args tasks = behind (beginning_program d w number args) tasks (begins_program w number args)

  turns : (w : World) (e : Emission) (ts : List PlanEntry) (h : Option Handler) → mapped started (running_handler d w e ts h) ≡ running_handler d w e (filter (stays gone) ts) h
  turns w e ts None = refl
  turns w e ts (Some h) = simp (parts, runs_before)

  takes : (w : World) (e : Emission) (ts : List PlanEntry) (t : PlanEntry) → mapped started (taking_entry d w e ts t) ≡ taking_entry d w e (filter (stays gone) ts) t
  takes w e ts (class_handler program cleanup) = runs_before w program (instance_of e ∷ e.args) (Emitting (in_stage cleanup e) ts ∷ [])
  takes w e ts (handler number) = turns w e ts (handler_of number w.handlers)
  takes w e ts (config.transfer number back) = transfers_stay w e ts number back (binding_of number w.bindings)

  sets_by : (w : World) (number : ℕ) (end : End) (v : Option Value) → mapped started (set_by w number end v) ≡ set_by w number end v
  sets_by w number end None = refl
  sets_by w number end (Some v) = refl

  carries : (w : World) (b : Binding) (source target : End) → mapped started (carried d w b source target) ≡ carried d w b source target
  unfolding carried
  carries w b source target = simp (carried, parts, sets_by)

  carries_by : (w : World) (back : Bool) (b : Option Binding) → mapped started (carried_by d w back b) ≡ carried_by d w back b
  carries_by w back None = refl
  carries_by w false (Some b) = carries w b (source_end b) (target_end b)
  carries_by w true (Some b) = carries w b (target_end b) (source_end b)

  writes_register : (w : World) (to : ℕ) (v : Option Value) (f : Frame) → mapped started (written_to w to v f) ≡ written_to w to v f
  unfolding written_to
  writes_register w to v f = simp (written_to, parts)

  moves : (w : World) (f : Frame) (to from : ℕ) → mapped started (moving w f to from) ≡ moving w f to from
  unfolding moving
  moves w f to from = simp (moving, parts, writes_register)

  reckons : (w : World) (f : Frame) (op : Arithmetic) (to a b : ℕ) → mapped started (reckoning w f op to a b) ≡ reckoning w f op to a b
  unfolding reckoning
  reckons w f op to a b = simp (reckoning, parts, writes_register)

  compares : (w : World) (f : Frame) (op : Comparison) (to a b : ℕ) → mapped started (comparing w f op to a b) ≡ comparing w f op to a b
  unfolding comparing
  compares w f op to a b = simp (comparing, parts, writes_register)

  tells_same : (w : World) (f : Frame) (to a b : ℕ) → mapped started (sameness w f to a b) ≡ sameness w f to a b
  unfolding sameness
  tells_same w f to a b = simp (sameness, parts, writes_register)

  joins_both : (w : World) (f : Frame) (to a b : ℕ) → mapped started (conjunction w f to a b) ≡ conjunction w f to a b
  unfolding conjunction
  joins_both w f to a b = simp (conjunction, parts, writes_register)

  joins_either : (w : World) (f : Frame) (to a b : ℕ) → mapped started (disjunction w f to a b) ≡ disjunction w f to a b
  unfolding disjunction
  joins_either w f to a b = simp (disjunction, parts, writes_register)

  negates : (w : World) (f : Frame) (to a : ℕ) → mapped started (negating w f to a) ≡ negating w f to a
  unfolding negating
  negates w f to a = simp (negating, parts, writes_register)

  joins_within : (done : After World Value) (to : ℕ) (f : Frame) → mapped started (gives_from done to f) ≡ gives_from done to f
  joins_within done to f = writes_register done.state to (Some done.answer) f

  joins : (w : World) (f : Frame) (to a b : ℕ) → mapped started (joining d w f to a b) ≡ joining d w f to a b
  unfolding joining
  joins w f to a b = simp (joining, parts, joins_within)

  converts : (w : World) (f : Frame) (to a : ℕ) (kind : Kind) → mapped started (converting d w f to a kind) ≡ converting d w f to a kind
  unfolding converting
  converts w f to a kind = simp (converting, parts, writes_register)

  gets : (w : World) (f : Frame) (to object : ℕ) (name : List ℕ) → mapped started (get_property d w f to object name) ≡ get_property d w f to object name
  unfolding get_property
  gets w f to object name = simp (get_property, parts, writes_register)

  sets_from : (w : World) (f : Frame) (id slot from : ℕ) → mapped started (set_from w f id slot from) ≡ set_from w f id slot from
  unfolding set_from
  sets_from w f id slot from = simp (set_from, parts)

  assigns : (w : World) (f : Frame) (object : ℕ) (name : List ℕ) (from : ℕ) → mapped started (set_property d w f object name from) ≡ set_property d w f object name from
  unfolding set_property
  assigns w f object name from = simp (set_property, parts, sets_from)

  goes_on_after : (f : Frame) (a : Answer Started) → mapped started a ≡ a → mapped started (then_goes_on f a) ≡ then_goes_on f a
  unfolding then_goes_on
  goes_on_after f a same = behind a (Running f ∷ []) same

  tells_of : (w : World) (f : Frame) (object : ℕ) (name : List ℕ) → mapped started (notify_from_program d w f object name) ≡ notify_from_program d w f object name
  unfolding notify_from_program
  tells_of w f object name = simp (notify_from_program, parts, raised_on w f)
    where
      raised_on : (v : World) (g : Frame) (id slot : ℕ) → mapped started (then_goes_on g (raising v id slot)) ≡ then_goes_on g (raising v id slot)
      raised_on v g id slot = goes_on_after g (raising v id slot) (raises v id slot)

  names : (w : World) (f : Frame) (to : ℕ) (id : List ℕ) → mapped started (look_up_object d w f to id) ≡ look_up_object d w f to id
  unfolding look_up_object
  names w f to id = simp (look_up_object, parts, writes_register)

  makes_object : (w : World) (place : ℕ) (peer : Option ℕ) (held : Bool) → mapped started (making d w place peer held) ≡ making d w place peer held
  unfolding making
  makes_object w place peer held = simp (making, parts)

  makes_new : (w : World) (f : Frame) (to place : ℕ) (p : Place) → mapped started (made_new d w f to place p) ≡ made_new d w f to place p
  unfolding made_new
  makes_new w f to place p =
      behind_known (making d w place (peer_to_take d w p) false) (with_register to (Some (values.object (Some (suc (length w.objects))))) f.registers)
      (λ registers. Running (record f { registers = registers }) ∷ []) (makes_object w place (peer_to_take d w p) false) (λ r. refl)

  creates : (w : World) (rest : List Task) (f : Frame) (to : ℕ) (id : List ℕ) → mapped started (creating d w rest f to id) ≡ creating d w (map (pruned gone) rest) f to id
  unfolding creating
  creates w rest f to id = simp (creating, parts, writes_register, makes_new, makes_as_many)

  sinks : (w : World) (f : Frame) (object : ℕ) → mapped started (sinking w f object) ≡ sinking w f object
  unfolding sinking
  sinks w f object = simp (sinking, parts)

  orphans_of : (w : World) (f : Frame) (object : ℕ) → mapped started (orphaning d w f object) ≡ orphaning d w f object
  unfolding orphaning
  orphans_of w f object = simp (orphaning, parts)

  disposes_of : (w : World) (f : Frame) (object : ℕ) → mapped started (disposing d w f object) ≡ disposing d w f object
  unfolding disposing
  disposes_of w f object = simp (disposing, parts)

  adopts_of : (w : World) (f : Frame) (to parent child : ℕ) → mapped started (adopting d w f to parent child) ≡ adopting d w f to parent child
  unfolding adopting
  adopts_of w f to parent child = simp (adopting, parts, writes_register)

  freezes : (w : World) (f : Frame) (object : ℕ) → mapped started (freezing w f object) ≡ freezing w f object
  unfolding freezing
  freezes w f object = simp (freezing, parts)

  unfreezes : (w : World) (f : Frame) (object : ℕ) → mapped started (thaw_notify w f object) ≡ thaw_notify w f object
  unfolding thaw_notify
  unfreezes w f object = simp (thaw_notify, parts)

  emits : (w : World) (f : Frame) (object : ℕ) (e : Emit) → mapped started (emitting d w f object e) ≡ emitting d w f object e
  unfolding emitting
  emits w f object e = simp (emitting, parts)

  connects_of : (w : World) (rest : List Task) (f : Frame) (to object : ℕ) (c : Connect) → mapped started (connecting d w rest f to object c) ≡ connecting d w (map (pruned gone) rest) f to object c
  unfolding connecting
  connects_of w rest f to object c = simp (connecting, parts, writes_register, connects_as_many)

  disconnects : (w : World) (f : Frame) (object : ℕ) (program : List ℕ) → mapped started (on_handlers d w f object program disconnected) ≡ on_handlers d w f object program disconnected
  unfolding on_handlers
  disconnects w f object program = simp (on_handlers, parts)

  blocks_of : (w : World) (f : Frame) (object : ℕ) (program : List ℕ) → mapped started (on_handlers d w f object program (with_handlers_on blocked)) ≡ on_handlers d w f object program (with_handlers_on blocked)
  unfolding on_handlers
  blocks_of w f object program = simp (on_handlers, parts)

  unblocks_of : (w : World) (f : Frame) (object : ℕ) (program : List ℕ) → mapped started (on_handlers d w f object program (with_handlers_on unblocked)) ≡ on_handlers d w f object program (with_handlers_on unblocked)
  unfolding on_handlers
  unblocks_of w f object program = simp (on_handlers, parts)

  attaches : (w : World) (f : Frame) (to : ℕ) (a : Attach) → mapped started (attaching d w f to a) ≡ attaching d w f to a
  unfolding attaching
  attaches w f to a = simp (attaching, parts, writes_register)

  removes : (w : World) (f : Frame) (program : List ℕ) → mapped started (removing d w f program) ≡ removing d w f program
  unfolding removing
  removes w f program = simp (removing, parts)

  calls_of : (w : World) (f : Frame) (to object : ℕ) (name args : List ℕ) → mapped started (calling d w f to object name args) ≡ calling d w f to object name args
  unfolding calling
  calls_of w f to object name args = simp (calling, parts)

  jumps : (w : World) (f : Frame) (to : ℕ) → mapped started (jumping d w f to) ≡ jumping d w f to
  unfolding jumping
  jumps w f to = simp (jumping, parts)

  branches : (w : World) (f : Frame) (on then_to else_to : ℕ) → mapped started (branching d w f on then_to else_to) ≡ branching d w f on then_to else_to
  unfolding branching
  branches w f on then_to else_to = simp (branching, parts, jumps)

  branches_null : (w : World) (f : Frame) (on then_to else_to : ℕ) → mapped started (branching_null d w f on then_to else_to) ≡ branching_null d w f on then_to else_to
  unfolding branching_null
  branches_null w f on then_to else_to = simp (branching_null, parts, jumps)

  unbinds : (w : World) (f : Frame) (name : List ℕ) → mapped started (unbinding d w f name) ≡ unbinding d w f name
  unbinds w f name = simp parts

  makes_set : (w : World) (id slot : ℕ) (v : Value) (steps : List ConstructStep) (held : Bool) →
      mapped started (apply_construct_property d w id slot v (Constructing id steps held ∷ [])) ≡ apply_construct_property d w id slot v (Constructing id steps held ∷ [])
  unfolding apply_construct_property
  makes_set w id slot v steps held = simp (apply_construct_property, parts)

  is_constructed : (w : World) (id : ℕ) (held : Bool) → mapped started (constructed w id held) ≡ constructed w id held
  unfolding constructed
  is_constructed w id false = refl
  is_constructed w id true = simp (constructed, parts)

  thaws_made : (w : World) (id : ℕ) (steps : List ConstructStep) (held : Bool) → mapped started (thawing_made w id steps held) ≡ thawing_made w id steps held
  unfolding thawing_made
  thaws_made w id steps held = simp (thawing_made, parts)

  constructs : (w : World) (id : ℕ) (steps : List ConstructStep) (held : Bool) → mapped started (constructing d w id steps held) ≡ constructing d w id steps held
  constructs w id [] held = is_constructed w id held
  constructs w id (sets slot v ∷ steps) held = makes_set w id slot v steps held
  constructs w id (runs program ∷ steps) held = runs_before w program (values.object (Some id) ∷ []) (Constructing id steps held ∷ [])
  constructs w id (thaws ∷ steps) held = thaws_made w id steps held

  builds_object : (w : World) (place : ℕ) (items : List Item) → mapped started (building_object d w place items) ≡ building_object d w place items
  unfolding building_object
  builds_object w place items = simp (building_object, parts, made_behind)
    where
      made_behind : (v : World) (at : ℕ) (peer : Option ℕ) (more : List Item) →
          (making d v at peer true >>= λ made. mapped started (starts made.world (made.tasks ++ Building more ∷ [])))
          ≡ (making d v at peer true >>= λ made. starts made.world (made.tasks ++ Building more ∷ []))
      made_behind v at peer more =
          sym (mapped_then started (making d v at peer true) (λ made. starts made.world (made.tasks ++ Building more ∷ [])))
          ∙ behind (making d v at peer true) (Building more ∷ []) (makes_object v at peer true)

  builds_child : (w : World) (place : ℕ) (items : List Item) → mapped started (building_child d w place items) ≡ building_child d w place items
  unfolding building_child
  builds_child w place items = simp (building_child, parts)

  sets_forward : (w : World) (id slot to : ℕ) (items : List Item) → mapped started (set_forward w id slot to items) ≡ set_forward w id slot to items
  unfolding set_forward
  sets_forward w id slot to items = simp (set_forward, parts)

  builds_forward : (w : World) (place slot to : ℕ) (items : List Item) → mapped started (building_forward d w place slot to items) ≡ building_forward d w place slot to items
  unfolding building_forward
  builds_forward w place slot to items = simp (building_forward, parts, sets_forward)

  builds_binding : (w : World) (number : ℕ) (items : List Item) → mapped started (building_binding d w number items) ≡ building_binding d w number items
  unfolding building_binding
  builds_binding w number items = simp (building_binding, parts, first_stays)

  builds_handler : (w : World) (place number : ℕ) (items : List Item) → mapped started (building_handler d w place number items) ≡ building_handler d w place number items
  unfolding building_handler
  builds_handler w place number items = simp (building_handler, parts)

  builds : (w : World) (items : List Item) → mapped started (building d w items) ≡ building d w items
  builds w [] = refl
  builds w (makes place ∷ items) = builds_object w place items
  builds w (adopts place ∷ items) = builds_child w place items
  builds w (forwards place slot to ∷ items) = builds_forward w place slot to items
  builds w (binds number ∷ items) = builds_binding w number items
  builds w (connects place number ∷ items) = builds_handler w place number items

  sets_given : (w : World) (id slot : ℕ) (given : Given) → mapped started (set_given w id slot given) ≡ set_given w id slot given
  unfolding set_given
  sets_given w id slot given = simp (set_given, parts)

  carries_set : (w : World) (place slot : ℕ) (given : Given) → mapped started (set_from_event d w place slot given) ≡ set_from_event d w place slot given
  unfolding set_from_event
  carries_set w place slot given = simp (set_from_event, parts, sets_given)

  carries_get : (w : World) (place slot : ℕ) → mapped started (get_from_event d w place slot) ≡ get_from_event d w place slot
  unfolding get_from_event
  carries_get w place slot = simp (get_from_event, parts)

  carries_emit : (w : World) (place signal : ℕ) (args : List Given) (detail : Option (List ℕ)) → mapped started (emit_from_event d w place signal args detail) ≡ emit_from_event d w place signal args detail
  unfolding emit_from_event
  carries_emit w place signal args detail = simp (emit_from_event, parts)

  carries_release : (w : World) (place : ℕ) → mapped started (release_from_event d w place) ≡ release_from_event d w place
  unfolding release_from_event
  carries_release w place = simp (release_from_event, parts)

  carries_request : (w : World) (r : Request) → mapped started (request_step d w r) ≡ request_step d w r
  carries_request w (config.set place slot given) = carries_set w place slot given
  carries_request w (config.get place slot) = carries_get w place slot
  carries_request w (config.emit place signal args detail) = carries_emit w place signal args detail
  carries_request w (config.release place) = carries_release w place

  runs_source : (w : World) (source : ℕ) → mapped started (sourcing d w source) ≡ sourcing d w source
  unfolding sourcing
  runs_source w source = simp (sourcing, parts, runs_before)

  thaws_rest : (w : World) (id : ℕ) (slots : List ℕ) → mapped started (thawing w id slots) ≡ thawing w id slots
  thaws_rest w id [] = refl
  thaws_rest w id (slot ∷ slots) = refl

  is_finalised : (w : World) (id : ℕ) → mapped started (finalising d w id) ≡ finalising d w id
  unfolding finalising
  is_finalised w id = simp (finalising, parts)

  -- ** what comes down

  filters : (p q : PlanEntry → Bool) (xs : List PlanEntry) → filter p (filter q xs) ≡ filter q (filter p xs)
  filters p q [] = refl
  filters p q (x ∷ xs) = by (p x) (q x) refl refl (filters p q xs)
    where
      by : (a b : Bool) → p x ≡ a → q x ≡ b → filter p (filter q xs) ≡ filter q (filter p xs)
          → filter p (cond b (x ∷ filter q xs) (filter q xs)) ≡ filter q (cond a (x ∷ filter p xs) (filter p xs))
      by true true e f same =
          ap (λ c. cond c (x ∷ filter p (filter q xs)) (filter p (filter q xs))) e ∙ ap (λ l. x ∷ l) same
          ∙ sym (ap (λ c. cond c (x ∷ filter q (filter p xs)) (filter q (filter p xs))) f)
      by true false e f same = same ∙ sym (ap (λ c. cond c (x ∷ filter q (filter p xs)) (filter q (filter p xs))) f)
      by false true e f same = ap (λ c. cond c (x ∷ filter p (filter q xs)) (filter p (filter q xs))) e ∙ same
      by false false e f same = same

  stop_leaves : (e : Emission) (ts : List PlanEntry) → filter (stays gone) (left_by_stop e ts) ≡ left_by_stop e (filter (stays gone) ts)
  stop_leaves e ts = by e.cleanup
    where
      by : (b : Bool) → filter (stays gone) (cond b ts (filter is_of_cleanup ts)) ≡ cond b (filter (stays gone) ts) (filter is_of_cleanup (filter (stays gone) ts))
      by true = refl
      by false = filters (stays gone) is_of_cleanup ts

  value_leaves : (b : Bool) (e : Emission) (ts : List PlanEntry) → filter (stays gone) (entries_after b e ts) ≡ entries_after b e (filter (stays gone) ts)
  value_leaves false e ts = refl
  value_leaves true e ts = stop_leaves e ts

  accumulates : (s : Signal) (e : Emission) (ts : List PlanEntry) (v : Value) → pruned gone (accumulated s e ts v) ≡ accumulated s e (filter (stays gone) ts) v
  accumulates s e ts v = by e.cleanup
    where
      by : (b : Bool) → pruned gone (cond b (Emitting e ts) (Emitting (record e { value = Some v }) (entries_after (is_last s.accumulator v) e ts)))
          ≡ cond b (Emitting e (filter (stays gone) ts)) (Emitting (record e { value = Some v }) (entries_after (is_last s.accumulator v) e (filter (stays gone) ts)))
      by true = refl
      by false = ap (Emitting (record e { value = Some v })) (value_leaves (is_last s.accumulator v) e ts)

  collects : (s : Signal) (e : Emission) (ts : List PlanEntry) (given : Option Value) → pruned gone (collected s e ts given) ≡ collected s e (filter (stays gone) ts) given
  collects s e ts None = refl
  collects s e ts (Some v) = accumulates s e ts v

  collects_in : (w : World) (e : Emission) (ts : List PlanEntry) (given : Option Value)
      → mapped (pruned gone) (collecting d w e ts given) ≡ collecting d w e (filter (stays gone) ts) given
  unfolding collecting
  collects_in w e ts given = simp (collecting, parts, collects)

  gives_emission : (w : World) (e : Emission) (ts : List PlanEntry) (rest : List Task) (given : Option Value)
      → mapped remaining (down_to_emission d w e ts rest given) ≡ down_to_emission d w e (filter (stays gone) ts) (map (pruned gone) rest) given
  unfolding down_to_emission
  gives_emission w e ts rest given =
      mapped_then remaining (collecting d w e ts given) (λ task. leaves w (task ∷ rest))
      ∙ sym (mapped_before (pruned gone) (collecting d w e ts given) (λ task. leaves w (task ∷ map (pruned gone) rest)))
      ∙ ap (λ a. a >>= λ task. leaves w (task ∷ map (pruned gone) rest)) (collects_in w e ts given)

  gives_source : (w : World) (source : ℕ) (rest : List Task) (given : Option Value)
      → mapped remaining (down_to_source w source rest given) ≡ down_to_source w source (map (pruned gone) rest) given
  unfolding down_to_source
  gives_source w source rest given = simp (down_to_source, parts)

  gives_down : (w : World) (rest : List Task) (given : Option Value) → mapped remaining (given_down d w rest given) ≡ given_down d w (map (pruned gone) rest) given
  gives_down w (Emitting e ts ∷ rest) given = gives_emission w e ts rest given
  gives_down w (Answering source ∷ rest) given = gives_source w source rest given
  gives_down w [] None = refl
  gives_down w [] (Some v) = refl
  gives_down w (Setting object slot x ∷ rest) None = refl
  gives_down w (Setting object slot x ∷ rest) (Some v) = refl
  gives_down w (Notifying object slot ∷ rest) None = refl
  gives_down w (Notifying object slot ∷ rest) (Some v) = refl
  gives_down w (Beginning emission ∷ rest) None = refl
  gives_down w (Beginning emission ∷ rest) (Some v) = refl
  gives_down w (Transferring number back ∷ rest) None = refl
  gives_down w (Transferring number back ∷ rest) (Some v) = refl
  gives_down w (Unsetting number ∷ rest) None = refl
  gives_down w (Unsetting number ∷ rest) (Some v) = refl
  gives_down w (Thawing object slots ∷ rest) None = refl
  gives_down w (Thawing object slots ∷ rest) (Some v) = refl
  gives_down w (Running f ∷ rest) None = refl
  gives_down w (Running f ∷ rest) (Some v) = refl
  gives_down w (Calling call ∷ rest) None = refl
  gives_down w (Calling call ∷ rest) (Some v) = refl
  gives_down w (Constructing object steps held ∷ rest) None = refl
  gives_down w (Constructing object steps held ∷ rest) (Some v) = refl
  gives_down w (Building items ∷ rest) None = refl
  gives_down w (Building items ∷ rest) (Some v) = refl
  gives_down w (Handling request ∷ rest) None = refl
  gives_down w (Handling request ∷ rest) (Some v) = refl
  gives_down w (Due source ∷ rest) None = refl
  gives_down w (Due source ∷ rest) (Some v) = refl

  takes_result : (into : Option ℕ) (f : Frame) (rest : List Task) (v : Option Value) → mapped (map (pruned gone)) (taken into f rest v) ≡ taken into f (map (pruned gone) rest) v
  unfolding received_by
  takes_result None f rest v = refl
  takes_result (Some to) f rest None = refl
  takes_result (Some to) f rest (Some v) = simp (received_by, parts)

  passes_down : (rest : List Task) (v : Option Value) → mapped (map (pruned gone)) (passed_down rest v) ≡ passed_down (map (pruned gone) rest) v
  passes_down [] v = refl
  passes_down (Running f ∷ rest) v = takes_result f.into f rest v
  passes_down (Setting object slot x ∷ rest) v = refl
  passes_down (Notifying object slot ∷ rest) v = refl
  passes_down (Beginning emission ∷ rest) v = refl
  passes_down (Emitting e ts ∷ rest) v = refl
  passes_down (Transferring number back ∷ rest) v = refl
  passes_down (Unsetting number ∷ rest) v = refl
  passes_down (Thawing object slots ∷ rest) v = refl
  passes_down (Answering source ∷ rest) v = refl
  passes_down (Calling call ∷ rest) v = refl
  passes_down (Constructing object steps held ∷ rest) v = refl
  passes_down (Building items ∷ rest) v = refl
  passes_down (Handling request ∷ rest) v = refl
  passes_down (Due source ∷ rest) v = refl

  ends_emission : (w : World) (e : Emission) (rest : List Task) → mapped remaining (ending d w e rest) ≡ ending d w e (map (pruned gone) rest)
  unfolding ending
  ends_emission w e rest = simp (ending, parts, ended)
    where
      ended : (v : World) (r : Option Value) → (passed_down rest r >>= λ agenda. mapped remaining (leaves v agenda)) ≡ (passed_down (map (pruned gone) rest) r >>= λ agenda. leaves v agenda)
      ended v r = sym (mapped_before (map (pruned gone)) (passed_down rest r) (λ agenda. leaves v agenda)) ∙ ap (λ a. a >>= λ agenda. leaves v agenda) (passes_down rest r)

  receives : (rest : List Task) (to : ℕ) (v : Option Value) → mapped (map (pruned gone)) (received rest to v) ≡ received (map (pruned gone) rest) to v
  unfolding received_by
  receives [] to v = refl
  receives (Running f ∷ rest) to v = simp (received_by, parts)
  receives (Setting object slot x ∷ rest) to v = refl
  receives (Notifying object slot ∷ rest) to v = refl
  receives (Beginning emission ∷ rest) to v = refl
  receives (Emitting e ts ∷ rest) to v = refl
  receives (Transferring number back ∷ rest) to v = refl
  receives (Unsetting number ∷ rest) to v = refl
  receives (Thawing object slots ∷ rest) to v = refl
  receives (Answering source ∷ rest) to v = refl
  receives (Calling call ∷ rest) to v = refl
  receives (Constructing object steps held ∷ rest) to v = refl
  receives (Building items ∷ rest) to v = refl
  receives (Handling request ∷ rest) to v = refl
  receives (Due source ∷ rest) to v = refl

  left_with_one : (w : World) (rest : List Task) (to : ℕ) (v : Value) → mapped remaining (left_with w rest to v) ≡ left_with w (map (pruned gone) rest) to v
  unfolding left_with
  left_with_one w rest to v =
      mapped_then remaining (received rest to (Some v)) (λ agenda. Ok (record { world = w; agenda = agenda }))
      ∙ sym (mapped_before (map (pruned gone)) (received rest to (Some v)) (λ agenda. Ok (record { world = w; agenda = agenda })))
      ∙ ap (λ a. a >>= λ agenda. Ok (record { world = w; agenda = agenda })) (receives rest to (Some v))

  is_called_with : (w : World) (c : Call) (rest : List Task) (reply : Reply) → mapped remaining (called d w c rest reply) ≡ called d w c (map (pruned gone) rest) reply
  unfolding called with_method
  is_called_with w c rest reply = simp (called, parts, with_method, left_with_one)

  is_uncalled : (w : World) (c : Call) (rest : List Task) → mapped remaining (uncalled d w c rest) ≡ uncalled d w c (map (pruned gone) rest)
  unfolding uncalled with_method
  is_uncalled w c rest = simp (uncalled, parts, with_method, left_with_one)

  is_replied : (w : World) (c : Call) (rest : List Task) (reply : Option Reply) → mapped remaining (replied d w c rest reply) ≡ replied d w c (map (pruned gone) rest) reply
  is_replied w c rest None = refl
  is_replied w c rest (Some reply) = is_called_with w c rest reply

  calls_on : (w : World) (c : Call) (rest : List Task) (reply : Option Reply) → mapped remaining (calling_on d w c rest reply) ≡ calling_on d w c (map (pruned gone) rest) reply
  calls_on w c rest reply = simp (parts, is_replied, is_uncalled)

  -- ** instructions, one and all

  stops : (rest : List Task) → map (pruned gone) (stopped rest) ≡ stopped (map (pruned gone) rest)
  stops [] = refl
  stops (Emitting e ts ∷ rest) = ap (λ l. Emitting e l ∷ map (pruned gone) rest) (stop_leaves e ts)
  stops (Setting object slot x ∷ rest) = refl
  stops (Notifying object slot ∷ rest) = refl
  stops (Beginning emission ∷ rest) = refl
  stops (Transferring number back ∷ rest) = refl
  stops (Unsetting number ∷ rest) = refl
  stops (Thawing object slots ∷ rest) = refl
  stops (Running f ∷ rest) = refl
  stops (Answering source ∷ rest) = refl
  stops (Calling call ∷ rest) = refl
  stops (Constructing object steps held ∷ rest) = refl
  stops (Building items ∷ rest) = refl
  stops (Handling request ∷ rest) = refl
  stops (Due source ∷ rest) = refl

  returns : (w : World) (f : Frame) (rest : List Task) (from : Option ℕ) → mapped remaining (returning d w f rest from) ≡ returning d w f (map (pruned gone) rest) from
  unfolding returning
  returns w f rest from = simp (returning, parts, gives_down)

  begins : (rest : List Task) (a b : Answer Started) → mapped started a ≡ b → mapped remaining (in_front rest a) ≡ in_front (map (pruned gone) rest) b
  unfolding in_front
  begins rest (Ok s) b same =
      ap (λ l. Ok (record { world = s.world; agenda = l })) (map-append (pruned gone) s.tasks rest) ∙ ap (in_front (map (pruned gone) rest)) same
  begins rest (Err arm) b same = ap (in_front (map (pruned gone) rest)) same

  instructs_all : (w : World) (rest : List Task) (f : Frame) (i : Instruction) → mapped remaining (instruction_step d w rest f i) ≡ instruction_step d w (map (pruned gone) rest) f i
  instructs_all w rest f (words.const to kind v) = begins rest (constant w f to v) (constant w f to v) (writes_register w to (Some v) f)
  instructs_all w rest f (words.move to from) = begins rest (moving w f to from) (moving w f to from) (moves w f to from)
  instructs_all w rest f (words.clear to) = begins rest (clearing w f to) (clearing w f to) (writes_register w to None f)
  instructs_all w rest f (words.arithmetic operation to a b) = begins rest (reckoning w f operation to a b) (reckoning w f operation to a b) (reckons w f operation to a b)
  instructs_all w rest f (words.compare comparison to a b) = begins rest (comparing w f comparison to a b) (comparing w f comparison to a b) (compares w f comparison to a b)
  instructs_all w rest f (words.same to a b) = begins rest (sameness w f to a b) (sameness w f to a b) (tells_same w f to a b)
  instructs_all w rest f (words.negate to a) = begins rest (negating w f to a) (negating w f to a) (negates w f to a)
  instructs_all w rest f (words.both to a b) = begins rest (conjunction w f to a b) (conjunction w f to a b) (joins_both w f to a b)
  instructs_all w rest f (words.either to a b) = begins rest (disjunction w f to a b) (disjunction w f to a b) (joins_either w f to a b)
  instructs_all w rest f (words.join to a b) = begins rest (joining d w f to a b) (joining d w f to a b) (joins w f to a b)
  instructs_all w rest f (words.convert to a kind) = begins rest (converting d w f to a kind) (converting d w f to a kind) (converts w f to a kind)
  instructs_all w rest f (words.get to object name) = begins rest (get_property d w f to object name) (get_property d w f to object name) (gets w f to object name)
  instructs_all w rest f (words.set object name from) = begins rest (set_property d w f object name from) (set_property d w f object name from) (assigns w f object name from)
  instructs_all w rest f (words.object to id) = begins rest (look_up_object d w f to id) (look_up_object d w f to id) (names w f to id)
  instructs_all w rest f (words.new to id) = begins rest (creating d w rest f to id) (creating d w (map (pruned gone) rest) f to id) (creates w rest f to id)
  instructs_all w rest f (words.sink object) = begins rest (sinking w f object) (sinking w f object) (sinks w f object)
  instructs_all w rest f (words.orphan object) = begins rest (orphaning d w f object) (orphaning d w f object) (orphans_of w f object)
  instructs_all w rest f (words.dispose object) = begins rest (disposing d w f object) (disposing d w f object) (disposes_of w f object)
  instructs_all w rest f (words.adopt to parent child) = begins rest (adopting d w f to parent child) (adopting d w f to parent child) (adopts_of w f to parent child)
  instructs_all w rest f (words.freeze object) = begins rest (freezing w f object) (freezing w f object) (freezes w f object)
  instructs_all w rest f (words.thaw object) = begins rest (thaw_notify w f object) (thaw_notify w f object) (unfreezes w f object)
  instructs_all w rest f (words.emit into object name detail args) = begins rest (emitting d w f object (record { into = into; signal = name; detail = detail; args = args })) (emitting d w f object (record { into = into; signal = name; detail = detail; args = args })) (emits w f object (record { into = into; signal = name; detail = detail; args = args }))
  instructs_all w rest f (words.notify object name) = begins rest (notify_from_program d w f object name) (notify_from_program d w f object name) (tells_of w f object name)
  instructs_all w rest f (words.connect to object c) = begins rest (connecting d w rest f to object c) (connecting d w (map (pruned gone) rest) f to object c) (connects_of w rest f to object c)
  instructs_all w rest f (words.disconnect object program) = begins rest (disconnecting d w f object program) (disconnecting d w f object program) (disconnects w f object program)
  instructs_all w rest f (words.block object program) = begins rest (blocking d w f object program) (blocking d w f object program) (blocks_of w f object program)
  instructs_all w rest f (words.unblock object program) = begins rest (unblocking d w f object program) (unblocking d w f object program) (unblocks_of w f object program)
  instructs_all w rest f words.stop = ap (λ l. Ok (record { world = w; agenda = Running f ∷ l })) (stops rest)
  instructs_all w rest f (words.unbind name) = begins rest (unbinding d w f name) (unbinding d w f name) (unbinds w f name)
  instructs_all w rest f (words.idle to program priority with) = begins rest (attaching d w f to (record { word = codes "idle"; program = program; priority = priority; interval = None; with = with })) (attaching d w f to (record { word = codes "idle"; program = program; priority = priority; interval = None; with = with })) (attaches w f to (record { word = codes "idle"; program = program; priority = priority; interval = None; with = with }))
  instructs_all w rest f (words.timeout to program priority interval with) = begins rest (attaching d w f to (record { word = codes "timeout"; program = program; priority = priority; interval = Some interval; with = with })) (attaching d w f to (record { word = codes "timeout"; program = program; priority = priority; interval = Some interval; with = with })) (attaches w f to (record { word = codes "timeout"; program = program; priority = priority; interval = Some interval; with = with }))
  instructs_all w rest f (words.remove program) = begins rest (removing d w f program) (removing d w f program) (removes w f program)
  instructs_all w rest f (words.call to object name args) = begins rest (calling d w f to object name args) (calling d w f to object name args) (calls_of w f to object name args)
  instructs_all w rest f (words.jump to) = begins rest (jumping d w f to) (jumping d w f to) (jumps w f to)
  instructs_all w rest f (words.branch on then_to else_to) = begins rest (branching d w f on then_to else_to) (branching d w f on then_to else_to) (branches w f on then_to else_to)
  instructs_all w rest f (words.branch_null on then_to else_to) = begins rest (branching_null d w f on then_to else_to) (branching_null d w f on then_to else_to) (branches_null w f on then_to else_to)
  instructs_all w rest f (words.return from) = returns w f rest from

  runs_on : (w : World) (rest : List Task) (f : Frame) → mapped remaining (running d w rest f) ≡ running d w (map (pruned gone) rest) f
  unfolding running
  runs_on w rest f = simp (running, parts, instructs_all)

  -- ** steps

  not_counted : (rest : List Task) (n : ℕ) (a b : Answer Started) → mapped started a ≡ b → mapped (pruned_at gone) (uncounted rest n a) ≡ uncounted (map (pruned gone) rest) n b
  not_counted rest n (Ok s) b same =
      ap (λ l. Ok (record { world = s.world; agenda = l; counted = n })) (map-append (pruned gone) s.tasks rest) ∙ ap (uncounted (map (pruned gone) rest) n) same
  not_counted rest n (Err arm) b same = ap (uncounted (map (pruned gone) rest) n) same

  is_counted : (rest : List Task) (n : ℕ) (a b : Answer Started) → mapped started a ≡ b → mapped (pruned_at gone) (counted rest n a) ≡ counted (map (pruned gone) rest) n b
  is_counted rest n a b same =
      mapped_if (pruned_at gone) (nat_lt n most_steps) arms.Steps (uncounted rest (suc n) a)
      ∙ ap (only_if (nat_lt n most_steps) arms.Steps) (not_counted rest (suc n) a b same)

  leaves_agenda : (n : ℕ) (a b : Answer Left) → mapped remaining a ≡ b → mapped (pruned_at gone) (left n a) ≡ left n b
  unfolding left
  leaves_agenda n (Ok l) b same = ap (left n) same
  leaves_agenda n (Err arm) b same = ap (left n) same

  leaves_counted : (n : ℕ) (a b : Answer Left) → mapped remaining a ≡ b → mapped (pruned_at gone) (counted_left n a) ≡ counted_left n b
  leaves_counted n a b same =
      mapped_if (pruned_at gone) (nat_lt n most_steps) arms.Steps (left (suc n) a)
      ∙ ap (only_if (nat_lt n most_steps) arms.Steps) (leaves_agenda (suc n) a b same)

  -- a turn that stays is taken
  takes_turn : (w : World) (reply : Option Reply) (e : Emission) (entry : PlanEntry) (ts : List PlanEntry) (rest : List Task) (n : ℕ) → stays gone entry ≡ true →
      mapped (pruned_at gone) (act d w reply (Emitting e (entry ∷ ts) ∷ rest) n) ≡ act d w reply (map (pruned gone) (Emitting e (entry ∷ ts) ∷ rest)) n
  takes_turn w reply e entry ts rest n stands =
      not_counted rest n (taking_entry d w e ts entry) (taking_entry d w e (filter (stays gone) ts) entry) (takes w e ts entry)
      ∙ ap (λ b. act d w reply (Emitting e (cond b (entry ∷ filter (stays gone) ts) (filter (stays gone) ts)) ∷ map (pruned gone) rest) n) (sym stands)

  acts : (w : World) → AreGone gone w → (reply : Option Reply) (tasks : List Task) (n : ℕ) → is_next gone tasks ≡ false →
      mapped (pruned_at gone) (act d w reply tasks n) ≡ act d w reply (map (pruned gone) tasks) n
  acts w apart reply [] n stands = refl
  acts w apart reply (Setting id slot v ∷ rest) n stands = not_counted rest n (setting d w id slot v) (setting d w id slot v) (sets_one w id slot v)
  acts w apart reply (Notifying id slot ∷ rest) n stands = is_counted rest n (notifying d w id slot) (notifying d w id slot) (notifies w apart id slot)
  acts w apart reply (Beginning e ∷ rest) n stands = is_counted rest n (beginning_emission d w e) (beginning_emission d w e) (begins_emission w apart e)
  acts w apart reply (Emitting e [] ∷ rest) n stands = leaves_agenda n (ending d w e rest) (ending d w e (map (pruned gone) rest)) (ends_emission w e rest)
  acts w apart reply (Emitting e (class_handler program cleanup ∷ ts) ∷ rest) n stands = takes_turn w reply e (class_handler program cleanup) ts rest n refl
  acts w apart reply (Emitting e (handler number ∷ ts) ∷ rest) n stands = takes_turn w reply e (handler number) ts rest n (ap not stands)
  acts w apart reply (Emitting e (config.transfer number back ∷ ts) ∷ rest) n stands = takes_turn w reply e (config.transfer number back) ts rest n (ap not stands)
  acts w apart reply (Transferring number back ∷ rest) n stands = is_counted rest n (transferring d w number back) (transferring d w number back) (carries_by w back (binding_of number w.bindings))
  acts w apart reply (Unsetting number ∷ rest) n stands = refl
  acts w apart reply (Thawing id slots ∷ rest) n stands = not_counted rest n (thawing w id slots) (thawing w id slots) (thaws_rest w id slots)
  acts w apart reply (Running f ∷ rest) n stands = leaves_counted n (running d w rest f) (running d w (map (pruned gone) rest) f) (runs_on w rest f)
  acts w apart reply (Answering source ∷ rest) n stands = refl
  acts w apart reply (Calling c ∷ rest) n stands = leaves_agenda n (calling_on d w c rest reply) (calling_on d w c (map (pruned gone) rest) reply) (calls_on w c rest reply)
  acts w apart reply (Constructing id steps held ∷ rest) n stands = not_counted rest n (constructing d w id steps held) (constructing d w id steps held) (constructs w id steps held)
  acts w apart reply (Building items ∷ rest) n stands = not_counted rest n (building d w items) (building d w items) (builds w items)
  acts w apart reply (Handling r ∷ rest) n stands = not_counted rest n (request_step d w r) (request_step d w r) (carries_request w r)
  acts w apart reply (Due source ∷ rest) n stands = not_counted rest n (sourcing d w source) (sourcing d w source) (runs_source w source)

  -- ** what holds objects, and what is asked

  holds_as : (o : ℕ) (task : Task) → in_task o (pruned gone task) ≡ in_task o task
  holds_as o (Setting object slot v) = refl
  holds_as o (Notifying object slot) = refl
  holds_as o (Beginning emission) = refl
  holds_as o (Emitting emission entries) = refl
  holds_as o (Transferring number back) = refl
  holds_as o (Unsetting number) = refl
  holds_as o (Thawing object slots) = refl
  holds_as o (Running frame) = refl
  holds_as o (Answering source) = refl
  holds_as o (Calling call) = refl
  holds_as o (Constructing object steps held) = refl
  holds_as o (Building items) = refl
  holds_as o (Handling request) = refl
  holds_as o (Due source) = refl

  pub hold_as : (o : ℕ) (tasks : List Task) → total (in_task o) (map (pruned gone) tasks) ≡ total (in_task o) tasks
  hold_as o [] = refl
  hold_as o (task ∷ rest) = ap (λ n. n + total (in_task o) (map (pruned gone) rest)) (holds_as o task) ∙ ap (λ n. in_task o task + n) (hold_as o rest)

  mentions_as : (c : Config) (o : ℕ) → mentions d (pruned_at gone c) o ≡ mentions d c o
  mentions_as c o =
      ap (λ n. total (in_object d o) c.world.objects + (total (in_held o) c.world.builder + (total (same o) c.world.floating + (total (in_source o) c.world.sources + n)))) (hold_as o c.agenda)

  pub unheld_as : (c : Config) → next_unheld (mentions d (pruned_at gone c)) c.world.objects ≡ next_unheld (mentions d c) c.world.objects
  unheld_as c = ap (λ (m : ℕ → ℕ). next_unheld m c.world.objects) (fun_ext (mentions_as c))

  asks_first : (w : World) (tasks : List Task) → asked_first w (map (pruned gone) tasks) ≡ asked_first w tasks
  asks_first w [] = refl
  asks_first w (Setting object slot v ∷ rest) = refl
  asks_first w (Notifying object slot ∷ rest) = refl
  asks_first w (Beginning emission ∷ rest) = refl
  asks_first w (Emitting emission entries ∷ rest) = refl
  asks_first w (Transferring number back ∷ rest) = refl
  asks_first w (Unsetting number ∷ rest) = refl
  asks_first w (Thawing object slots ∷ rest) = refl
  asks_first w (Running frame ∷ rest) = refl
  asks_first w (Answering source ∷ rest) = refl
  asks_first w (Calling call ∷ rest) = refl
  asks_first w (Constructing object steps held ∷ rest) = refl
  asks_first w (Building items ∷ rest) = refl
  asks_first w (Handling request ∷ rest) = refl
  asks_first w (Due source ∷ rest) = refl

  asks_after : (c : Config) (id : Option ℕ) → asked_after (pruned_at gone c) id ≡ asked_after c id
  asks_after c None = asks_first c.world c.agenda
  asks_after c (Some id) = refl

  steps_first : (reply : Option Reply) (c : Config) → AreGone gone c.world → (id : Option ℕ) → (id ≡ None → is_next gone c.agenda ≡ false)
      → first_of d reply (pruned_at gone c) id ≡ mapped (pruned_at gone) (first_of d reply c id)
  steps_first reply c apart None stands = sym (acts c.world apart reply c.agenda c.counted (stands refl))
  steps_first reply c apart (Some id) stands =
      sym (is_counted c.agenda c.counted (finalising d c.world id) (finalising d c.world id) (is_finalised c.world id))

  -- ** turns that are gone

  passes_handler : (w : World) (e : Emission) (ts : List PlanEntry) (number : ℕ) → AreGone gone w → gone.handlers number ≡ true → taking_entry d w e ts (handler number) ≡ starts w (Emitting e ts ∷ [])
  passes_handler w e ts number apart is =
      ap (running_handler d w e ts) (none_found (λ (h : Handler). h.number) gone.handlers w.handlers number apart.handlers is)

  passes_transfer : (w : World) (e : Emission) (ts : List PlanEntry) (number : ℕ) (back : Bool) → AreGone gone w → gone.bindings number ≡ true
      → taking_entry d w e ts (config.transfer number back) ≡ starts w (Emitting e ts ∷ [])
  passes_transfer w e ts number back apart is =
      ap (λ (b : Option Binding). starts w (transfer_for b number back ++ Emitting e ts ∷ []))
      (none_found (λ (b : Binding). b.number) gone.bindings w.bindings number apart.bindings is)

  passed : (w : World) (reply : Option Reply) (e : Emission) (entry : PlanEntry) (ts : List PlanEntry) (rest : List Task) (n : ℕ)
      → taking_entry d w e ts entry ≡ starts w (Emitting e ts ∷ []) → stays gone entry ≡ false →
      (c : Config) × (act d w reply (Emitting e (entry ∷ ts) ∷ rest) n ≡ Ok c) × (pruned_at gone c ≡ record { world = w; agenda = map (pruned gone) (Emitting e (entry ∷ ts) ∷ rest); counted = n })
  passed w reply e entry ts rest n only goes = (
    record { world = w; agenda = Emitting e ts ∷ rest; counted = n },
    ap (uncounted rest n) only,
    ap (λ b. record { world = w; agenda = Emitting e (cond b (entry ∷ filter (stays gone) ts) (filter (stays gone) ts)) ∷ map (pruned gone) rest; counted = n }) (sym goes),
  )

  acts_passing : (w : World) → AreGone gone w → (reply : Option Reply) (tasks : List Task) (n : ℕ) → is_next gone tasks ≡ true →
      (c : Config) × (act d w reply tasks n ≡ Ok c) × (pruned_at gone c ≡ record { world = w; agenda = map (pruned gone) tasks; counted = n })
  acts_passing w apart reply (Emitting e (handler number ∷ ts) ∷ rest) n is = passed w reply e (handler number) ts rest n (passes_handler w e ts number apart is) (ap not is)
  acts_passing w apart reply (Emitting e (config.transfer number back ∷ ts) ∷ rest) n is =
      passed w reply e (config.transfer number back) ts rest n (passes_transfer w e ts number back apart is) (ap not is)
  acts_passing w apart reply [] n is = absurd (false≢true is)
  acts_passing w apart reply (Setting object slot v ∷ rest) n is = absurd (false≢true is)
  acts_passing w apart reply (Notifying object slot ∷ rest) n is = absurd (false≢true is)
  acts_passing w apart reply (Beginning emission ∷ rest) n is = absurd (false≢true is)
  acts_passing w apart reply (Emitting e [] ∷ rest) n is = absurd (false≢true is)
  acts_passing w apart reply (Emitting e (class_handler program cleanup ∷ ts) ∷ rest) n is = absurd (false≢true is)
  acts_passing w apart reply (Transferring number back ∷ rest) n is = absurd (false≢true is)
  acts_passing w apart reply (Unsetting number ∷ rest) n is = absurd (false≢true is)
  acts_passing w apart reply (Thawing object slots ∷ rest) n is = absurd (false≢true is)
  acts_passing w apart reply (Running frame ∷ rest) n is = absurd (false≢true is)
  acts_passing w apart reply (Answering source ∷ rest) n is = absurd (false≢true is)
  acts_passing w apart reply (Calling call ∷ rest) n is = absurd (false≢true is)
  acts_passing w apart reply (Constructing object steps held ∷ rest) n is = absurd (false≢true is)
  acts_passing w apart reply (Building items ∷ rest) n is = absurd (false≢true is)
  acts_passing w apart reply (Handling request ∷ rest) n is = absurd (false≢true is)
  acts_passing w apart reply (Due source ∷ rest) n is = absurd (false≢true is)

pub question_does_without : QuestionsDoWithout
question_does_without gone d c =
    ap (asked_after (pruned_at gone c)) (unheld_as gone d c) ∙ asks_after gone d c (next_unheld (mentions d c) c.world.objects)

pub step_does_without : StepsDoWithout
step_does_without gone d reply c apart stands =
    ap (first_of d reply (pruned_at gone c)) (unheld_as gone d c)
    ∙ steps_first gone d reply c apart (next_unheld (mentions d c) c.world.objects) stands

pub gone_turns_pass : GoneTurnsPass
gone_turns_pass gone d reply c apart held is =
    let passed = acts_passing gone d c.world apart reply c.agenda c.counted is in
    (passed.0, ap (first_of d reply c) held ∙ passed.1, passed.2)

-- ** which are gone

all_weaken : {A : Type 0} (p q : A → Bool) → ((x : A) → p x ≡ true → q x ≡ true) → (xs : List A) → list_all p xs ≡ true → list_all q xs ≡ true
all_weaken p q weaken [] all = refl
all_weaken p q weaken (x ∷ xs) all =
    let parts = both (p x) (list_all p xs) all in
    ap (λ b. b && list_all q xs) (weaken x parts.0) ∙ all_weaken p q weaken xs parts.1

module _ {A : Type 0} (number_of : A → ℕ) where
  abbrev is_found : List A → A → Bool
  is_found xs x = is_some (find (λ y. nat_eq (number_of y) (number_of x)) xs)

  still_found : (first : A) (xs : List A) (x : A) → is_found xs x ≡ true → is_found (first ∷ xs) x ≡ true
  still_found first xs x found = by (nat_eq (number_of first) (number_of x))
    where
      by : (b : Bool) → is_some (cond b (Some first) (find (λ y. nat_eq (number_of y) (number_of x)) xs)) ≡ true
      by true = refl
      by false = found

  all_found : (xs : List A) → list_all (is_found xs) xs ≡ true
  all_found [] = refl
  all_found (x ∷ xs) =
      let own : nat_eq (number_of x) (number_of x) ≡ true = grind (arith, nat_tests) in
      let first : is_found (x ∷ xs) x ≡ true = ap (λ b. is_some (cond b (Some x) (find (λ y. nat_eq (number_of y) (number_of x)) xs))) own in
      ap (λ b. b && list_all (is_found (x ∷ xs)) xs) first ∙ all_weaken (is_found xs) (is_found (x ∷ xs)) (still_found x xs) xs (all_found xs)

pub given_are_gone : GivenAreGone
given_are_gone w = record {
  handlers =
      all_weaken (is_found (λ (h : Handler). h.number) w.handlers) (λ (h : Handler). not ((gone_in w).handlers h.number))
      (λ h found. by (nat_le h.number w.last_handler) (is_some (handler_of h.number w.handlers)) found) w.handlers (all_found (λ (h : Handler). h.number) w.handlers);
  bindings =
      all_weaken (is_found (λ (b : Binding). b.number) w.bindings) (λ (b : Binding). not ((gone_in w).bindings b.number))
      (λ b found. ap (λ x. not (not x)) found) w.bindings (all_found (λ (b : Binding). b.number) w.bindings);
}
  where
    by : (low found : Bool) → found ≡ true → not (low && not found) ≡ true
    by true true e = refl
    by false true e = refl
    by low false e = absurd (false≢true e)

went : (b : Bool) → not b ≡ false → b ≡ true
went true e = refl
went false e = sym e

module _ (before later : Gone) (more : AreStillGone before later) where
  -- an entry that went before is left out later
  goes_later : (entry : PlanEntry) → stays before entry ≡ false → stays later entry ≡ false
  goes_later (class_handler program cleanup) e = e
  goes_later (config.transfer number back) e = ap not (more.bindings number (went (before.bindings number) e))
  goes_later (handler number) e = ap not (more.handlers number (went (before.handlers number) e))

  entries_again : (ts : List PlanEntry) → filter (stays later) (filter (stays before) ts) ≡ filter (stays later) ts
  entries_again [] = refl
  entries_again (entry ∷ ts) = by (stays before entry) refl (entries_again ts)
    where
      kept : List PlanEntry
      kept = filter (stays later) ts

      by : (b : Bool) → stays before entry ≡ b → filter (stays later) (filter (stays before) ts) ≡ kept
          → filter (stays later) (cond b (entry ∷ filter (stays before) ts) (filter (stays before) ts)) ≡ cond (stays later entry) (entry ∷ kept) kept
      by false e same = same ∙ sym (ap (λ b. cond b (entry ∷ kept) kept) (goes_later entry e))
      by true e same = ap (λ l. cond (stays later entry) (entry ∷ l) l) same

  task_again : (task : Task) → pruned later (pruned before task) ≡ pruned later task
  task_again (Setting object slot v) = refl
  task_again (Notifying object slot) = refl
  task_again (Beginning emission) = refl
  task_again (Emitting emission entries) = ap (Emitting emission) (entries_again entries)
  task_again (Transferring number back) = refl
  task_again (Unsetting number) = refl
  task_again (Thawing object slots) = refl
  task_again (Running frame) = refl
  task_again (Answering source) = refl
  task_again (Calling call) = refl
  task_again (Constructing object steps held) = refl
  task_again (Building items) = refl
  task_again (Handling request) = refl
  task_again (Due source) = refl

  tasks_again : (tasks : List Task) → map (pruned later) (map (pruned before) tasks) ≡ map (pruned later) tasks
  tasks_again [] = refl
  tasks_again (task ∷ rest) = ap (λ t. t ∷ map (pruned later) (map (pruned before) rest)) (task_again task) ∙ ap (λ l. pruned later task ∷ l) (tasks_again rest)

pub pruned_again : PrunedAgain
pruned_again before later more c = ap (λ (l : List Task). record c { agenda = l }) (tasks_again before later more c.agenda)
