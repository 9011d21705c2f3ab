-- Which object is at which place, and which values and registers are good then. Of the objects this reads only which place each living
-- identity has: a write, a freeze or a dispose leaves that as it is, a construction extends it, and a finalisation takes one identity out.
use Rattle.std.specs.Prelude.{◌≡◌, ℕ, suc, ◌≤◌, ⊤, Bool, true, false, List, [], ◌∷◌, Option, None, Some, is_some}
use Rattle.ui_machine.specs.Seq.{read}
use Rattle.ui_machine.specs.Definition.Kinds.{RegisterKind}
use Rattle.ui_machine.specs.Definition.Kinds as kinds
use Rattle.ui_machine.specs.Definition.Values.{Value}
use Rattle.ui_machine.specs.Definition.Values as values
use Rattle.ui_machine.specs.Rules.Transform.{kind_fits}
use Rattle.ui_machine.specs.Definition.{Definition}
use Rattle.ui_machine.specs.State.Objects.{Objects}
use Rattle.ui_machine.specs.State.Handlers.{Handler}
use Rattle.ui_machine.specs.State.Bindings.{Binding}
use Rattle.ui_machine.specs.State.Sources.{Source}
use Rattle.ui_machine.specs.State.Peers.{Peer}
use Rattle.ui_machine.specs.State.Config.{BuilderEntry, World}
use Rattle.ui_machine.specs.State.Tasks.{Registers}
use Rattle.ui_machine.specs.Rules.Programs.{place_in, names_one}
use Rattle.law_typing.specs.Rules.RegisterKinds.{Kinds, kind_in, class_at, covers}
use Rattle.law_typing.specs.Graph.{number_for}

-- ** which object is at which place

-- the place of each living identity
abbrev pub Standing : Type 0
Standing = ℕ → Option ℕ

abbrev pub standing : Objects → Standing
standing os id = place_in os id

-- an identity lives, at a place that P allows
pub record Stands (s : Standing) (id : ℕ) (P : ℕ → Type 0) : Type 0 where
  pub place : ℕ
  pub is : s id ≡ Some place
  pub allowed : P place

abbrev pub Lives : Standing → ℕ → Type 0
Lives s id = Stands s id (λ place. ⊤)

-- an identity that may be left out lives
abbrev pub LivesIf : Standing → Option ℕ → Type 0
LivesIf s None = ⊤
LivesIf s (Some id) = Lives s id

-- the class of a living identity
abbrev pub class_by : Definition → Standing → ℕ → Option ℕ
class_by d s id = number_for (class_at d) (s id)

-- ** values and registers

-- whether a value names no object, null, or one that lives
abbrev pub lives_by : Standing → Value → Bool
lives_by s (values.object None) = true
lives_by s (values.object (Some id)) = is_some (s id)
lives_by s _ = true

-- whether there is a place and a register of the kind may hold its object
abbrev pub covers_if : Definition → RegisterKind → Option ℕ → Bool
covers_if d k None = false
covers_if d k (Some place) = covers d k place

-- Whether a register holds what its kind says. One whose kind is unset is not read, but may hold a living object still.
abbrev pub holds : Definition → Standing → RegisterKind → Option Value → Bool
holds d s kinds.unset None = true
holds d s kinds.unset (Some v) = lives_by s v
holds d s k None = false
holds d s (kinds.plain kind) (Some v) = kind_fits (class_by d s) d.types v kind
holds d s (kinds.some type) (Some v) = names_one false (λ id. covers_if d (kinds.some type) (s id)) v
holds d s (kinds.at place) (Some v) = names_one false (λ id. covers_if d (kinds.at place) (s id)) v
holds d s (kinds.at_or_null place) (Some v) = names_one true (λ id. covers_if d (kinds.at place) (s id)) v

-- each register does
abbrev pub RegistersFit : Definition → Standing → Kinds → Registers → Type 0
RegistersFit d s ks registers = (r : ℕ) → holds d s (kind_in ks r) (read None registers r) ≡ true

-- ** lists

-- the numbers of a list's entries rise, from k on
abbrev pub Rising : {A : Type 0} → (A → ℕ) → ℕ → List A → Type 0
Rising number k [] = ⊤
Rising number k (x ∷ xs) = (k ≤ number x) × Rising number (suc (number x)) xs

-- ** what the agenda reads of a world

pub record View : Type 0 where
  pub stands : Standing
  pub handlers : List Handler
  pub last_handler : ℕ
  pub bindings : List Binding
  pub sources : List Source
  pub peers : List Peer
  pub builder : List BuilderEntry

abbrev pub view : World → View
view w = record {
  stands = standing w.objects;
  handlers = w.handlers;
  last_handler = w.last_handler;
  bindings = w.bindings;
  sources = w.sources;
  peers = w.peers;
  builder = w.builder;
}
