use Rattle.std.proofs.Common.{◌∙◌, ◌||◌, List, ℕ, Bool, ap, sym, map}
use Rattle.definition_format.specs.Document.{is_among}
use Rattle.definition_format.specs.Denoted.Peers.{peers_of}
use Rattle.definition_format.specs.Meaning.{plain_object, plain_prototype}
use Rattle.read_objects.proofs.NamedPeers.{among_both}
use Rattle.read_objects.proofs.objects.Scope.has_peer.Goals as goal

pub returns-then-has : goal.returns-then-has
returns-then-has c =
    let name = c.args.name.now in
    let objects = peers_of (map plain_object c.args.objects.now.entries) in
    let prototypes = peers_of (map plain_prototype c.args.self.now.prototypes.now.entries) in
    let is_named = sym (ap (λ (f : List ℕ → Bool). f name) c.requires.peers) ∙ sym c.has.ensures ∙ c.if-has.true in
    c.if-has.true ∙ sym (among_both name prototypes objects ∙ ap (λ b. b || is_among objects name) is_named)

pub returns-else-has : goal.returns-else-has
returns-else-has c =
    let name = c.args.name.now in
    let objects = peers_of (map plain_object c.args.objects.now.entries) in
    let prototypes = peers_of (map plain_prototype c.args.self.now.prototypes.now.entries) in
    let is_named = sym (ap (λ (f : List ℕ → Bool). f name) c.requires.peers) ∙ sym c.has.ensures ∙ c.if-has.false in
    c.has_peer.ensures ∙ sym (among_both name prototypes objects ∙ ap (λ b. b || is_among objects name) is_named)
