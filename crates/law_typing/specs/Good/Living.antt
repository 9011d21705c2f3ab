-- What a configuration names, and that it lives.
use Rattle.std.specs.Prelude.{◌≡◌, ℕ, ◌+◌, ◌≤◌, ⊤, true, List, [], ◌∷◌, Some, IfSome, IsSome, slice_get}
use Rattle.ui_machine.specs.Definition.{Definition}
use Rattle.ui_machine.specs.Definition.Lookups.{spec_of}
use Rattle.ui_machine.specs.Definition.Properties.{Spec}
use Rattle.ui_machine.specs.Definition.Values.{Value}
use Rattle.ui_machine.specs.Rules.Build.{to_make}
use Rattle.ui_machine.specs.Rules.Sets.{lives}
use Rattle.ui_machine.specs.Seq.{read}
use Rattle.ui_machine.specs.State.Bindings.{Binding}
use Rattle.ui_machine.specs.State.Config.{Config, World, built, unbuilt}
use Rattle.ui_machine.specs.State.Handlers.{Handler}
use Rattle.ui_machine.specs.State.Objects.{Object, live, living}
use Rattle.ui_machine.specs.State.Sources.{Source}
use Rattle.ui_machine.specs.State.Tasks.{Beginning, Calling, Constructing, Emission, Emitting, Notifying, Running, Setting, Task, Thawing}
use Rattle.law_typing.specs.Verdict.Accepted.{Each}

-- an object has the identity
abbrev pub IsLiving : World → ℕ → Type 0
IsLiving w id = IsSome (living w.objects id)

-- the value names nothing, or what lives
abbrev pub NamesLiving : World → Value → Type 0
NamesLiving w v = lives w.objects v ≡ true

-- what a world names
pub record WorldNamesLiving (d : Definition) (w : World) : Type 0 where
  -- by a property of an object that lives, weak or not
  pub values : (id slot : ℕ) (o : Object) (spec : Spec) (v : Value) → living w.objects id ≡ Some o → spec_of d o.class slot ≡ Some spec
      → slice_get o.values slot ≡ Some v → NamesLiving w v
  pub children : (id : ℕ) (o : Object) → living w.objects id ≡ Some o → Each (IsLiving w) o.children
  -- by a handler: its object and its data
  pub handlers : Each (λ (h : Handler). IsLiving w h.object × IfSome h.arg (IsLiving w)) w.handlers
  pub bindings : Each (λ (b : Binding). IsLiving w b.source × IsLiving w b.target) w.bindings
  pub sources : Each (λ (s : Source). IfSome s.arg (IsLiving w)) w.sources
  pub builder : (place id : ℕ) → read unbuilt w.builder place ≡ built id → IsLiving w id
  pub floating : Each (IsLiving w) w.floating

-- what an emission names
abbrev pub EmissionNamesLiving : World → Emission → Type 0
EmissionNamesLiving w e = IsLiving w e.object × Each (NamesLiving w) e.args × IfSome e.value (NamesLiving w)

-- what a task names; a thaw that has no notification left does nothing with its object any more
abbrev pub TaskNamesLiving : World → Task → Type 0
TaskNamesLiving w (Setting id slot v) = IsLiving w id × NamesLiving w v
TaskNamesLiving w (Notifying id slot) = IsLiving w id
TaskNamesLiving w (Beginning e) = EmissionNamesLiving w e
TaskNamesLiving w (Emitting e turns) = EmissionNamesLiving w e
TaskNamesLiving w (Thawing id []) = ⊤
TaskNamesLiving w (Thawing id (slot ∷ slots)) = IsLiving w id
TaskNamesLiving w (Running frame) = Each (λ r. IfSome r (NamesLiving w)) frame.registers
TaskNamesLiving w (Calling call) = IsLiving w call.object × Each (NamesLiving w) call.args
TaskNamesLiving w (Constructing id steps held) = IsLiving w id
TaskNamesLiving w _ = ⊤

-- what a configuration names lives, and there is room for what the build has still to make
pub record AllNamesLiving (d : Definition) (c : Config) : Type 0 where
  pub world : WorldNamesLiving d c.world
  pub tasks : Each (TaskNamesLiving c.world) c.agenda
  pub room : live c.world.objects + to_make c.agenda ≤ d.most_objects
