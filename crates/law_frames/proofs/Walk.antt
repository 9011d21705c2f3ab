-- What falls still falls where a program takes an instruction that starts nothing.
use Rattle.std.proofs.Common.{◌≡◌, refl, ◌∙◌, ℕ, Bool, true, false, cond, List, [], ◌∷◌, ◌++◌, Option, None, Some}
use Rattle.std.specs.Prelude.{IfOk, codes, length, nat_lt, slice_get}
use Rattle.ui_machine.specs.declared.arm.Arm.TheVariants as arms
use Rattle.ui_machine.specs.Definition.{Definition}
use Rattle.ui_machine.specs.Definition.Kinds.{Kind}
use Rattle.ui_machine.specs.Definition.Lookups.{place_at, place_of, program_at, program_of}
use Rattle.ui_machine.specs.Definition.Programs.{Arithmetic, Comparison, Connect, Instruction}
use Rattle.ui_machine.specs.Definition.Values.{Value}
use Rattle.ui_machine.specs.Definition.Values as values
use Rattle.ui_machine.specs.Instructions.Arithmetic.{bytes_of, conjunction, comparing, converting, disjunction, gives_from, joining, most_bytes, negating, reckoning, sameness, within_bytes}
use Rattle.ui_machine.specs.Instructions.Jumps.{branching, branching_null, jumping, null_of}
use Rattle.ui_machine.specs.Instructions.Objects.{adopting, disposed_once, disposing, freezing, look_up_object, orphaning, sinking}
use Rattle.ui_machine.specs.Instructions.Peers.{calling}
use Rattle.ui_machine.specs.Instructions.Properties.{get_property, slot_at}
use Rattle.ui_machine.specs.Instructions.Registers.{data_in, moving, operand_in, tells, text_in, truth_in, value_in, values_in, whole_in, with_register, written_to}
use Rattle.ui_machine.specs.Instructions.Signals.{connecting, connection_by_code, on_handlers, signal_in}
use Rattle.ui_machine.specs.Instructions.Sources.{Attach, attaching, removing, with_source}
use Rattle.ui_machine.specs.Outcome.{After, known}
use Rattle.ui_machine.specs.Output.Lines as lines
use Rattle.ui_machine.specs.Rules.Children.{adopted, orphaned}
use Rattle.ui_machine.specs.Rules.Connections.{connected, detail_in}
use Rattle.ui_machine.specs.Rules.NotifyQueue.{frozen_more}
use Rattle.ui_machine.specs.Rules.Programs.{all_fit}
use Rattle.ui_machine.specs.Rules.Transform.{kind_fits}
use Rattle.ui_machine.specs.Rules.Sets.{spec_at}
use Rattle.ui_machine.specs.State.Config.{Started, World, peer_at, said}
use Rattle.ui_machine.specs.State.Objects.{asked, changed, class_in, object_at, value_at}
use Rattle.ui_machine.specs.State.Peers.{method_number, method_of}
use Rattle.ui_machine.specs.State.Sources as sources
use Rattle.ui_machine.specs.Rules.Build.{to_connect}
use Rattle.ui_machine.specs.State.Tasks.{Running, Frame, Task}
use Rattle.machine_laws.proofs.KeptProofs.{bind_keeps, only_keeps}
use Rattle.law_steps.specs.Instructed.Running.{at_top}
use Rattle.law_steps.proofs.Instructed.Around.{Due}
use Rattle.law_frames.specs.Frames.{FallsAt}
use Rattle.law_frames.proofs.Programs.{Led, goes, starts_one}
use Rattle.law_frames.proofs.Tasks.{Nothing}

module _ {d : Definition} {i : Instruction} (t : Due d i) (falls : FallsAt d t.a.weighed.depths (at_top t.w t.f t.rest t.n)) where
  open t use {w}

  -- what is started by a frame of the program
  abbrev pub Kept : Frame → Started → Type 0
  Kept f s = f.program ≡ t.f.program → Led t falls Nothing s

  pub ok : (v : World) (f next : Frame) → next.program ≡ f.program → Kept f (record { world = v; tasks = Running next ∷ [] })
  ok v f next same e = goes t falls v next (same ∙ e)

  pub gives : (v : World) (to : ℕ) (x : Option Value) (f : Frame) → IfOk (written_to v to x f) (Kept f)
  unfolding written_to
  gives v to x f = bind_keeps (with_register to x f.registers) _ (Kept f) (λ r _. ok _ f _ refl)

  pub writes : (to : ℕ) (x : Option Value) (f : Frame) → IfOk (written_to w to x f) (Kept f)
  writes to x f = gives w to x f

  pub tells_one : (done : After World Bool) (to : ℕ) (f : Frame) → IfOk (tells done to f) (Kept f)
  tells_one done to f = gives done.state to (Some (values.bool done.answer)) f

  pub moves : (f : Frame) (to from : ℕ) → IfOk (moving w f to from) (Kept f)
  unfolding moving
  moves f to from = bind_keeps (value_in f from) _ (Kept f) (λ v _. writes to (Some v) f)

  pub reckons : (f : Frame) (op : Arithmetic) (to a b : ℕ) → IfOk (reckoning w f op to a b) (Kept f)
  unfolding reckoning
  reckons f op to a b = bind_keeps (whole_in f a) _ (Kept f) (λ m _. bind_keeps (whole_in f b) _ (Kept f) (λ n _. only_keeps _ _ _ (Kept f) (writes to _ f)))

  pub compares : (f : Frame) (op : Comparison) (to a b : ℕ) → IfOk (comparing w f op to a b) (Kept f)
  unfolding comparing
  compares f op to a b = bind_keeps (whole_in f a) _ (Kept f) (λ m _. bind_keeps (whole_in f b) _ (Kept f) (λ n _. only_keeps _ _ _ (Kept f) (writes to _ f)))

  pub sames : (f : Frame) (to a b : ℕ) → IfOk (sameness w f to a b) (Kept f)
  unfolding sameness
  sames f to a b = bind_keeps (value_in f a) _ (Kept f) (λ u _. bind_keeps (value_in f b) _ (Kept f) (λ v _. only_keeps _ _ _ (Kept f) (writes to _ f)))

  pub negates : (f : Frame) (to a : ℕ) → IfOk (negating w f to a) (Kept f)
  unfolding negating
  negates f to a = bind_keeps (truth_in f a) _ (Kept f) (λ p _. writes to _ f)

  pub both : (f : Frame) (to a b : ℕ) → IfOk (conjunction w f to a b) (Kept f)
  unfolding conjunction
  both f to a b = bind_keeps (truth_in f a) _ (Kept f) (λ p _. bind_keeps (truth_in f b) _ (Kept f) (λ q _. writes to _ f))

  pub either : (f : Frame) (to a b : ℕ) → IfOk (disjunction w f to a b) (Kept f)
  unfolding disjunction
  either f to a b = bind_keeps (truth_in f a) _ (Kept f) (λ p _. bind_keeps (truth_in f b) _ (Kept f) (λ q _. writes to _ f))

  pub converts : (f : Frame) (to a : ℕ) (kind : Kind) → IfOk (converting d w f to a kind) (Kept f)
  unfolding converting
  converts f to a kind = bind_keeps (value_in f a) _ (Kept f) (λ v _. only_keeps _ _ _ (Kept f) (writes to _ f))

  pub gets : (f : Frame) (to object : ℕ) (name : List ℕ) → IfOk (get_property d w f to object name) (Kept f)
  unfolding get_property
  gets f to object name = bind_keeps (operand_in w f object) _ (Kept f) (λ id _. bind_keeps (slot_at d w id name) _ (Kept f) (λ slot _.
      bind_keeps (spec_at d w.objects id slot) _ (Kept f) (λ s _. bind_keeps (asked w.objects id (value_at slot)) _ (Kept f) (λ v _. only_keeps _ _ _ (Kept f) (writes to _ f)))))

  pub names : (f : Frame) (to : ℕ) (id : List ℕ) → IfOk (look_up_object d w f to id) (Kept f)
  unfolding look_up_object
  names f to id = bind_keeps (known arms.Code (place_of d id)) _ (Kept f) (λ place _. bind_keeps (known arms.Code (place_at d place)) _ (Kept f) (λ p _. only_keeps _ _ _ (Kept f) (writes to _ f)))

  pub sinks : (f : Frame) (object : ℕ) → IfOk (sinking w f object) (Kept f)
  unfolding sinking
  sinks f object = bind_keeps (operand_in w f object) _ (Kept f) (λ id _. ok _ f _ refl)

  pub orphans : (f : Frame) (object : ℕ) → IfOk (orphaning d w f object) (Kept f)
  unfolding orphaning
  orphans f object = bind_keeps (operand_in w f object) _ (Kept f) (λ id _. bind_keeps (object_at w.objects id) _ (Kept f) (λ o _. by id o.parent))
    where
      by : (id : ℕ) (parent : Option ℕ) → (Kept f) (record { world = orphaned d w id parent; tasks = Running f ∷ [] })
      by id None = ok _ f _ refl
      by id (Some parent) = ok _ f _ refl

  pub freezes : (f : Frame) (object : ℕ) → IfOk (freezing w f object) (Kept f)
  unfolding freezing
  freezes f object = bind_keeps (operand_in w f object) _ (Kept f) (λ id _. bind_keeps (changed w.objects id frozen_more) _ (Kept f) (λ r _. ok _ f _ refl))

  pub removes : (f : Frame) (program : List ℕ) → IfOk (removing d w f program) (Kept f)
  unfolding removing
  removes f program = bind_keeps (known arms.Code (program_of d program)) _ (Kept f) (λ number _. ok _ f _ refl)

  pub jumps : (f : Frame) (to : ℕ) → IfOk (jumping d w f to) (Kept f)
  unfolding jumping
  jumps f to = bind_keeps (known arms.Code (program_at d f.program)) _ (Kept f) (λ p _. bind_keeps (known arms.Code (slice_get p.blocks to)) _ (Kept f) (λ b _. ok _ f _ refl))

  pub branches : (f : Frame) (on then_to else_to : ℕ) → IfOk (branching d w f on then_to else_to) (Kept f)
  unfolding branching
  branches f on then_to else_to = bind_keeps (truth_in f on) _ (Kept f) (λ p _. jumps f (cond p then_to else_to))

  pub branches_null : (f : Frame) (on then_to else_to : ℕ) → IfOk (branching_null d w f on then_to else_to) (Kept f)
  unfolding branching_null
  branches_null f on then_to else_to = bind_keeps (value_in f on) _ (Kept f) (λ v _. bind_keeps (null_of v) _ (Kept f) (λ p _. jumps f (cond p then_to else_to)))

  pub joins : (f : Frame) (to a b : ℕ) → IfOk (joining d w f to a b) (Kept f)
  unfolding joining
  joins f to a b = bind_keeps (text_in f a) _ (Kept f) (λ s _. bind_keeps (text_in f b) _ (Kept f) (λ t _. by (bytes_of s ++ bytes_of t)))
    where
      by : (s : List ℕ) → IfOk (gives_from (within_bytes d w s) to f) (Kept f)
      by s = long (nat_lt most_bytes (length s))
        where
          long : (b : Bool) → IfOk (gives_from (cond b (record { state = said d w (lines.limit (codes "join")); answer = values.text None }) (record { state = w; answer = values.text (Some s) })) to f) (Kept f)
          long true = gives (said d w (lines.limit (codes "join"))) to (Some (values.text None)) f
          long false = gives w to (Some (values.text (Some s))) f

  pub disposes : (f : Frame) (object : ℕ) → IfOk (disposing d w f object) (Kept f)
  unfolding disposing
  disposes f object = bind_keeps (operand_in w f object) _ (Kept f) (λ id _. bind_keeps (disposed_once d w id) _ (Kept f) (λ v is. ok _ f _ refl))

  pub adopts : (f : Frame) (to parent child : ℕ) → IfOk (adopting d w f to parent child) (Kept f)
  unfolding adopting
  adopts f to parent child = bind_keeps (operand_in w f parent) _ (Kept f) (λ p _. bind_keeps (operand_in w f child) _ (Kept f) (λ c _.
      bind_keeps (adopted d w p c) _ (Kept f) (λ family is. gives family.state to (Some (values.bool family.answer)) f)))

  pub connects : (rest : List Task) (f : Frame) (to object : ℕ) (c : Connect) → IfOk (connecting d w rest f to object c) (Kept f)
  unfolding connecting
  connects rest f to object c = bind_keeps (operand_in w f object) _ (Kept f) (λ id _. bind_keeps (signal_in d w id c.signal) _ (Kept f) (λ signal _.
      bind_keeps (detail_in d w id signal c.detail) _ (Kept f) (λ detail _. bind_keeps (known arms.Code (program_of d c.program)) _ (Kept f) (λ program _.
      bind_keeps (data_in w f c.with) _ (Kept f) (λ arg _. tells_one (connected d w (to_connect rest) (connection_by_code id signal detail program arg c)) to f)))))

  pub changes : (f : Frame) (object : ℕ) (program : List ℕ) (change : World → ℕ → ℕ → World) → IfOk (on_handlers d w f object program change) (Kept f)
  unfolding on_handlers
  changes f object program change = bind_keeps (operand_in w f object) _ (Kept f) (λ id _. bind_keeps (known arms.Code (program_of d program)) _ (Kept f) (λ number _. ok _ f _ refl))

  pub attaches : (f : Frame) (to : ℕ) (a : Attach) → IfOk (attaching d w f to a) (Kept f)
  unfolding attaching
  attaches f to a = bind_keeps (known arms.Code (program_of d a.program)) _ (Kept f) (λ program _. bind_keeps (data_in w f a.with) _ (Kept f) (λ arg _. room program arg (sources.has_room w.sources w.last_source)))
    where
      room : (program : ℕ) (arg : Option ℕ) (b : Bool)
          → IfOk (tells (cond b (record { state = with_source w a program arg; answer = true }) (record { state = said d w (lines.limit a.word); answer = false })) to f) (Kept f)
      room program arg true = gives (with_source w a program arg) to (Some (values.bool true)) f
      room program arg false = gives (said d w (lines.limit a.word)) to (Some (values.bool false)) f

  pub calls : (f : Frame) (to object : ℕ) (name args : List ℕ) → IfOk (calling d w f to object name args) (Kept f)
  unfolding calling
  calls f to object name args = bind_keeps (operand_in w f object) _ (Kept f) (λ id _. bind_keeps (object_at w.objects id) _ (Kept f) (λ o _. bind_keeps (known arms.Call o.peer) _ (Kept f) (λ peer _.
      bind_keeps (known arms.Call (peer_at w peer)) _ (Kept f) (λ p _. bind_keeps (known arms.Call (method_number p name)) _ (Kept f) (λ number _. bind_keeps (known arms.Call (method_of p number)) _ (Kept f) (λ m _.
      bind_keeps (values_in f args) _ (Kept f) (λ given _. only_keeps (all_fit (kind_fits (class_in w.objects) d.types) given m.params) arms.Call _ (Kept f)
      (only_keeps (nat_lt to (length f.registers)) arms.Code _ (Kept f) (λ e. starts_one t falls w _ f e (λ id. refl) (λ good goes. tt))))))))))
