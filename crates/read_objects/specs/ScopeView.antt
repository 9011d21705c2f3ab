-- What the code knows where it reads objects.
use Rattle.std.specs.Prelude.{◌≡◌, ◌≤◌, None, length, map}
use Rattle.std.specs.List.{AllByRecursion}
use Rattle.param_specs.specs.Table.{own_of}
use Rattle.read_objects.specs.declared.objects.Built.{Built}
use Rattle.read_objects.specs.declared.objects.Scope.{Scope}
use Rattle.definition_format.specs.Meaning.{ArePlain, HasOwnName, plain_object, plain_program, plain_prototype}
use Rattle.definition_format.specs.Denoted.Objects as pure
use Rattle.definition_format.specs.Denoted.Peers.{peers_of}
use Rattle.definition_format.specs.Denoted.Properties.{specs_by}
use Rattle.definition_format.specs.Denoted.Shapes.{is_shaped_by}
use Rattle.definition_format.specs.Document.{is_among}
use Rattle.ui_machine.specs.Seq.{read}
use Rattle.read_objects.specs.PeerViews.{is_named_in}

abbrev pub scope_of : Scope → pure.Scope
scope_of scope = record {
  types = scope.classes.types.now;
  specs = specs_by scope.classes.types.now (own_of scope.classes.specs.now);
  has_shape = is_shaped_by scope.classes.types.now (read None scope.classes.shaped.now);
  programs = map plain_program scope.programs.now.entries;
  prototypes = map plain_prototype scope.prototypes.now.entries;
  most = scope.most;
  names = scope.names.now;
}

-- the objects that were read so far, and the bindings among them
abbrev pub built_of : Built → pure.Built
built_of built = record { places = map plain_object built.objects.entries; bindings = built.bindings }

-- what must be known of it
pub record IsReady (scope : Scope) : Type 0 where
  pub plain : ArePlain scope.classes.types.now scope.classes.specs.now
  pub named : AllByRecursion HasOwnName scope.programs.now.entries
  pub few : length scope.programs.now.entries ≤ 256
  pub few_prototypes : length scope.prototypes.now.entries ≤ 512
  pub peers : is_named_in scope.named.now ≡ is_among (peers_of (map plain_prototype scope.prototypes.now.entries))
