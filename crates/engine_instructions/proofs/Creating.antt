-- What the instruction `new` comes to, and how many objects the builder has still to make.
use Rattle.std.proofs.Common.{◌≡◌, ◌∙◌, refl, sym, ap, ℕ, zero, suc, ◌+◌, ◌-◌, ◌<◌, ◌≤◌, nat_le, nat_lt, min, Bool, true, false, cond, not, ◌&&◌, ◌||◌, List, [], ◌∷◌, length, map, drop, Option, None, Some, is_some, slice_get, Ok, Err, arith}
use Rattle.std.specs.Prelude.{count_by}
use Rattle.std.proofs.lemmas.Bool.Decides.{nat_tests}
use Rattle.std.proofs.lemmas.List.Sums.{sum_by-cons}
use Rattle.ui_machine.specs.declared.arm.Arm.{Arm}
use Rattle.ui_machine.specs.declared.arm.Arm.TheVariants as arms
use Rattle.ui_machine.specs.Definition.{Definition}
use Rattle.ui_machine.specs.Definition.Lookups.{place_at, place_of}
use Rattle.ui_machine.specs.Definition.Places.{Attached, Bind, Place}
use Rattle.ui_machine.specs.Definition.Values.{Value}
use Rattle.ui_machine.specs.Definition.Values as values
use Rattle.ui_machine.specs.Instructions.{in_front}
use Rattle.ui_machine.specs.Instructions.Objects.{creating, made_if_room, made_new}
use Rattle.ui_machine.specs.Instructions.Registers.{goes_on, with_register, written_to}
use Rattle.ui_machine.specs.Outcome.{Answer, known, only_if, ◌>>=◌}
use Rattle.ui_machine.specs.Rules.Build.{adopts_if, connected_items, is_making, made_items, numbered, to_make}
use Rattle.ui_machine.specs.Rules.Construction.{has_shape, making, peer_left, peer_to_take}
use Rattle.ui_machine.specs.Seq.{total}
use Rattle.ui_machine.specs.State.Config.{Config, Started, World, starts}
use Rattle.ui_machine.specs.State.Objects.{live, most_identities}
use Rattle.ui_machine.specs.State.Tasks.{Frame, Registers, Running, Task, adopts, connects, makes, binds}
use Rattle.ui_machine.specs.Steps.{left}
use Rattle.definition_format.specs.Meaning.{IsBasic, is_object, object_count}
use Rattle.engine_instructions.specs.CreateView.{Prototype, created, created_if, has_room, prototype_named}
use Rattle.engine_world.specs.EngineView.{config_of}
use Rattle.engine_world.specs.FirstPrograms.{rest_of}
use Rattle.engine_world.specs.TaskView.{agenda_of}
use Rattle.engine_stack.specs.TaskView.{build_end, build_from, connects_from, item_of, signals_of, binds_from}
use Rattle.engine_world.specs.View.{world_of}
use Rattle.engine_world.specs.declared.engine.Engine.{Engine}
use Rattle.engine_stack.specs.declared.task.ForwardReference.{ForwardReference}
use Rattle.engine_world.specs.Able.{Able}
use Rattle.engine_world.proofs.Ableness.{able_as, first}
use Rattle.engine_stack.proofs.Lists.{total-append}
use Rattle.engine_world.proofs.Signals.{bind_same}

-- ** what it comes to

-- whether there is room, and then a peer
with_peer : (few more there : Bool) → (few && (more && there)) ≡ ((few && more) && there)
with_peer true more there = refl
with_peer false more there = refl

module _ (d : Definition) (w : World) (rest : List Task) (f : Frame) (to : ℕ) (id : List ℕ) where
  abbrev created_so : Prototype → Answer Started
  created_so q = made_if_room d w (to_make rest) f to q.number q.place

  by_prototype : creating d w rest f to id ≡ (prototype_named d id >>= created_so)
  unfolding creating
  by_prototype = bind_same (known arms.Code (place_of d id)) _ _ _ (λ place. bind_same (known arms.Code (place_at d place)) _ _ _ (λ p. by p place p.is_prototype))
    where
      by : (p : Place) (place : ℕ) (b : Bool) → only_if b arms.Code (made_if_room d w (to_make rest) f to place p) ≡ (only_if b arms.Code (Ok (record { number = place; place = p })) >>= created_so)
      by p place true = refl
      by p place false = refl

  -- no prototype has the id
  pub creates_none : (arm : Arm) → prototype_named d id ≡ Err arm → creating d w rest f to id ≡ Err arm
  creates_none arm is = by_prototype ∙ ap (λ (a : Answer Prototype). a >>= created_so) is

  -- one is made, or there is no room or no peer
  pub creates : (q : Prototype) (room there : Bool) (peer : Option ℕ) → prototype_named d id ≡ Ok q → (has_room d w (to_make rest) && there) ≡ room
      → there ≡ (not (has_shape d q.place.class) || is_some (peer_left w q.place)) → peer ≡ peer_to_take d w q.place → creating d w rest f to id ≡ created_if room d w f to q.number peer
  unfolding created made_new
  creates q room there peer is so wanted takes =
      by_prototype ∙ ap (λ (a : Answer Prototype). a >>= created_so) is
      ∙ ap (λ (b : Bool). created_if b d w f to q.number (peer_to_take d w q.place))
      (with_peer (nat_lt (live w.objects + to_make rest) d.most_objects) (nat_lt (length w.objects + to_make rest) most_identities) (not (has_shape d q.place.class) || is_some (peer_left w q.place))
      ∙ ap (λ (b : Bool). has_room d w (to_make rest) && b) (sym wanted) ∙ so)
      ∙ ap (λ (p : Option ℕ). created_if room d w f to q.number p) (sym takes)

-- no arm stops the making where none stops the program
pub made_able : (d : Definition) (w : World) (f : Frame) (to place : ℕ) (peer : Option ℕ) → Able (created d w f to place peer) → Able (making d w place peer false)
unfolding created
made_able d w f to place peer able = first (making d w place peer false) _ able

-- ** a register that is written behind the making

module _ (n : ℕ) (rest : List Task) (to : ℕ) (v : Option Value) (f : Frame) where
  abbrev goes_behind : World → Task → Answer Registers → Answer Config
  goes_behind u t rs = left n (in_front rest (rs >>= λ (r : Registers). goes_on u (t ∷ []) (record f { registers = r })))

  abbrev writes : World → Answer Registers → Answer Config
  writes w rs = left n (in_front rest (rs >>= λ (r : Registers). goes_on w [] (record f { registers = r })))

  written_behind : (w u : World) (t : Task) (mid : Config) → left n (in_front rest (written_to w to v f)) ≡ Ok mid
      → (mid.world ≡ w) × (goes_behind u t (with_register to v f.registers) ≡ Ok (record mid { world = u; agenda = t ∷ mid.agenda }))
  unfolding left in_front written_to
  written_behind w u t mid is = by (with_register to v f.registers) is
    where
      by : (rs : Answer Registers) → writes w rs ≡ Ok mid → (mid.world ≡ w) × (goes_behind u t rs ≡ Ok (record mid { world = u; agenda = t ∷ mid.agenda }))
      by (Err arm) e = absurd (cc e)
      by (Ok r) e =
          let same : record { world = w; agenda = Running (record f { registers = r }) ∷ rest; counted = n } ≡ mid = cc e in
          (ap (λ (c : Config). c.world) (sym same), ap (λ (c : Config). Ok (record c { world = u; agenda = t ∷ c.agenda })) same)

  able_before : (w u : World) (t : Task) → Able (goes_behind u t (with_register to v f.registers)) → Able (left n (in_front rest (written_to w to v f)))
  unfolding left in_front written_to
  able_before w u t able = by (with_register to v f.registers) able
    where
      by : (rs : Answer Registers) → Able (goes_behind u t rs) → Able (writes w rs)
      by (Err arm) able = able
      by (Ok r) able = tt

module _ (d : Definition) (e m : Engine) (f : Frame) (to place : ℕ) (peer : Option ℕ) (u : World) (t : Task) (v : Value) (made : making d (world_of e.world) place peer false ≡ starts u (t ∷ []))
    (agenda : rest_of d m ≡ rest_of d e) (count : m.counted ≡ e.counted) (names : v ≡ values.object (Some (suc (length (world_of e.world).objects)))) where
  abbrev writing_so : Answer Config
  writing_so = left m.counted (in_front (rest_of d m) (written_to (world_of m.world) to (Some v) f))

  abbrev creating_so : Answer Config
  creating_so = left e.counted (in_front (rest_of d e) (created d (world_of e.world) f to place peer))

  same_place : writing_so ≡ left e.counted (in_front (rest_of d e) (written_to (world_of m.world) to (Some v) f))
  same_place =
      ap (λ (ts : List Task). left m.counted (in_front ts (written_to (world_of m.world) to (Some v) f))) agenda
      ∙ ap (λ n. left n (in_front (rest_of d e) (written_to (world_of m.world) to (Some v) f))) count

  as_made : creating_so ≡ goes_behind e.counted (rest_of d e) to (Some v) f u t (with_register to (Some v) f.registers)
  unfolding created
  as_made =
      ap (λ (a : Answer Started). left e.counted (in_front (rest_of d e) (a >>= λ (s : Started).
      with_register to (Some (values.object (Some (suc (length (world_of e.world).objects))))) f.registers >>= λ (r : Registers). goes_on s.world s.tasks (record f { registers = r })))) made
      ∙ ap (λ (x : Value). goes_behind e.counted (rest_of d e) to (Some x) f u t (with_register to (Some x) f.registers)) (sym names)

  -- no arm stops the write where none stops the program
  pub write_able : Able creating_so → Able writing_so
  write_able able = able_as (sym same_place) (able_before e.counted (rest_of d e) to (Some v) f (world_of m.world) u t (able_as as_made able))

  module _ (mid : Engine) (wrote : writing_so ≡ Ok (config_of d mid)) where
    pub create_world : world_of mid.world ≡ world_of m.world
    create_world = (written_behind e.counted (rest_of d e) to (Some v) f (world_of m.world) u t (config_of d mid) (sym same_place ∙ wrote)).0

    -- all that is left
    pub create_written : (new : Engine) → world_of new.world ≡ u → agenda_of d new ≡ t ∷ agenda_of d mid → new.counted ≡ mid.counted → creating_so ≡ Ok (config_of d new)
    create_written new world tasks counted =
        as_made ∙ (written_behind e.counted (rest_of d e) to (Some v) f (world_of m.world) u t (config_of d mid) (sym same_place ∙ wrote)).1 ∙ rw (world, tasks, counted) refl

-- ** how many objects are still to be made

-- 1 where a place is an object's, by whether it is a prototype's
abbrev one_object : Bool → ℕ
one_object b = cond (not b) 1 0

first_making : (k : ℕ) (b : Bool) (parent : Option ℕ) → total is_making (cond b [] (makes k ∷ adopts_if k parent)) ≡ one_object b
first_making k true parent = refl
first_making k false None = refl
first_making k false (Some p) = refl

-- as many as there are objects
makings : (k : ℕ) (ps : List Place) → total is_making (made_items k ps) ≡ count_by is_object ps
makings k [] = refl
makings k (p ∷ ps) =
    let more : count_by is_object (p ∷ ps) ≡ one_object p.is_prototype + count_by is_object ps = sum_by-cons (λ (q : Place). cond (is_object q) 1 0) p ps in
    omega (
      arith,
      total-append is_making (cond p.is_prototype [] (makes k ∷ adopts_if k p.parent)) (made_items (suc k) ps),
      first_making k p.is_prototype p.parent,
      makings (suc k) ps,
      more,
    )

none_numbered : (place n : ℕ) (xs : List Attached) → total is_making (numbered (connects place) n xs) ≡ 0
none_numbered place n [] = refl
none_numbered place n (x ∷ xs) = omega (arith, none_numbered place (suc n) xs)

none_connected : (k : ℕ) (ps : List Place) → total is_making (connected_items k ps) ≡ 0
none_connected k [] = refl
none_connected k (p ∷ ps) =
    omega (arith, total-append is_making (numbered (connects k) 0 p.signals) (connected_items (suc k) ps), none_numbered k 0 p.signals, none_connected (suc k) ps)

none_forward : (fs : List ForwardReference) → total is_making (map item_of fs) ≡ 0
none_forward [] = refl
none_forward (f ∷ fs) = omega (arith, none_forward fs)

-- a list of prototypes has no objects
none_of : (ps : List Place) → ((i : ℕ) (p : Place) → slice_get ps i ≡ Some p → p.is_prototype ≡ true) → count_by is_object ps ≡ 0
none_of [] all = refl
none_of (p ∷ ps) all =
    let more : count_by is_object (p ∷ ps) ≡ one_object p.is_prototype + count_by is_object ps = sum_by-cons (λ (q : Place). cond (is_object q) 1 0) p ps in
    let one : one_object p.is_prototype ≡ 0 = ap one_object (all 0 p refl) in
    omega (arith, more, one, none_of ps (λ i q at. all (suc i) q at))

-- objects come before prototypes: so many are left behind a place
left_count : (ps : List Place) (n k : ℕ) → ((i : ℕ) (p : Place) → slice_get ps i ≡ Some p → p.is_prototype ≡ nat_le n i)
    → count_by is_object (drop k ps) ≡ count_by is_object ps - k
left_count [] n zero first = refl
left_count [] n (suc k) first = omega arith
left_count (p ∷ ps) n zero first = omega arith
left_count (p ∷ ps) zero (suc k) first =
    let all : (i : ℕ) (q : Place) → slice_get (p ∷ ps) i ≡ Some q → q.is_prototype ≡ true = λ i q at. first i q at ∙ grind (arith, nat_tests) in
    let behind = left_count ps zero k (λ i q at. first (suc i) q at ∙ grind (arith, nat_tests)) in
    omega (arith, none_of (p ∷ ps) all, none_of ps (λ i q at. all (suc i) q at), behind)
left_count (p ∷ ps) (suc n) (suc k) first =
    let more : count_by is_object (p ∷ ps) ≡ one_object p.is_prototype + count_by is_object ps = sum_by-cons (λ (q : Place). cond (is_object q) 1 0) p ps in
    let none : nat_le (suc n) 0 ≡ false = grind (arith, nat_tests) in
    let one : one_object p.is_prototype ≡ 1 = ap one_object (first 0 p refl ∙ none) in
    let behind = left_count ps n k (λ i q at. first (suc i) q at ∙ grind (arith, nat_tests)) in
    omega (arith, more, one, behind)

none_bound : (n : ℕ) (bs : List Bind) → total is_making (numbered binds n bs) ≡ 0
none_bound n [] = refl
none_bound n (b ∷ bs) = omega (arith, none_bound (suc n) bs)

module _ (d : Definition) where
  pub making_bound : (number : ℕ) → total is_making (binds_from d number) ≡ 0
  making_bound number =
      omega (
        arith,
        total-append is_making (numbered binds number (drop number d.bindings)) (connected_items 0 d.places),
        none_bound number (drop number d.bindings),
        none_connected 0 d.places,
      )

  pub making_none : (place number : ℕ) → total is_making (connects_from d place number) ≡ 0
  making_none place number =
      omega (
        arith,
        total-append is_making (numbered (connects place) number (drop number (signals_of (place_at d place)))) (connected_items (suc place) (drop (suc place) d.places)),
        none_numbered place number (drop number (signals_of (place_at d place))),
        none_connected (suc place) (drop (suc place) d.places),
      )

  module _ (basic : IsBasic d) where
    -- the build from a place on makes the objects from there on
    pub making_from : (place : ℕ) (fs : List ForwardReference) → total is_making (build_from d place fs) ≡ object_count d - place
    making_from place fs =
        omega (
          arith,
          total-append is_making (made_items place (drop place d.places)) (build_end d fs),
          total-append is_making (map item_of fs) (binds_from d 0),
          none_forward fs,
          making_bound 0,
          makings place (drop place d.places),
          left_count d.places (object_count d) place basic.prototypes,
        )

    -- and so where an object is still to become its parent's child
    pub making_behind : (place : ℕ) (fs : List ForwardReference) → total is_making (adopts place ∷ build_from d (suc place) fs) ≡ (object_count d - place) - 1
    making_behind place fs = omega (arith, making_from (suc place) fs)

-- as far as a number of 32 bits goes
pub counted_more : (count n rest all : ℕ) → min (count + (n + rest)) 4294967295 ≡ min all 4294967295
    → min (min (count + n) 4294967295 + rest) 4294967295 ≡ min all 4294967295
counted_more count n rest all h = omega (arith, h)

-- a number that is too great for 32 bits leaves no room
pub room_as : (live made n c limit most : ℕ) → c ≡ min n 4294967295 → limit ≡ most → limit ≤ 4096
    → (nat_lt (live + c) limit && nat_lt (made + c) most_identities) ≡ (nat_lt (live + n) most && nat_lt (made + n) most_identities)
room_as live made n c limit most capped same few = by (nat_le n 4294967295) refl
  where
    by : (b : Bool) → nat_le n 4294967295 ≡ b → (nat_lt (live + c) limit && nat_lt (made + c) most_identities) ≡ (nat_lt (live + n) most && nat_lt (made + n) most_identities)
    by true e =
        let fits : n ≤ 4294967295 = grind (arith, nat_tests) in
        let is : c ≡ n = omega arith in
        ap (λ k. nat_lt (live + k) limit && nat_lt (made + k) most_identities) is ∙ ap (λ m. nat_lt (live + n) m && nat_lt (made + n) most_identities) same
    by false e =
        let more : 4294967295 < n = grind (arith, nat_tests) in
        let here : limit ≤ live + c = omega arith in
        let there : most ≤ live + n = omega arith in
        let none : nat_lt (live + c) limit ≡ false = grind (arith, nat_tests) in
        let never : nat_lt (live + n) most ≡ false = grind (arith, nat_tests) in
        ap (λ b. b && nat_lt (made + c) most_identities) none ∙ sym (ap (λ b. b && nat_lt (made + n) most_identities) never)

-- where there is room for one object more, an identity is left for it
pub identity_left : (d : Definition) (w : World) (n : ℕ) (there : Bool) → (has_room d w n && there) ≡ true → length w.objects < most_identities
identity_left d w n there room = by (nat_lt (live w.objects + n) d.most_objects) (nat_lt (length w.objects + n) most_identities) refl room
  where
    by : (lives some : Bool) → nat_lt (length w.objects + n) most_identities ≡ some → ((lives && some) && there) ≡ true → length w.objects < most_identities
    by true true is room = (let less : length w.objects + n < most_identities = grind (arith, nat_tests) in omega (arith, less))
    by true false is room = absurd (cc room)
    by false some is room = absurd (cc room)
