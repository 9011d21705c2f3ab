use Rattle.std.proofs.Common.{◌||◌, ℕ, Bool, Option, None, true, cond, not, is_some, sym, ap, ◌∙◌}
use Rattle.ui_machine.specs.Rules.Construction.{peer_left}
use Rattle.definitions.specs.EntryView.{entry_view}
use Rattle.engine_world.specs.View.{world_of}
use Rattle.engine_world.proofs.object_peers.new_peer.Goals as goal

pub returns-in-Some-clause-there : goal.returns-in-Some-clause-there
returns-in-Some-clause-there c =
    let p = entry_view c.args.prototype.now in
    let peer : Option ℕ = peer_left (world_of c.args.engine.now.world) p in
    let left = sym c.in-Some.is ∙ c.peer_left.ensures.left c.args.definition.now p c.requires.at c.requires.passes in
    ap (λ (o : Option ℕ). not true || is_some o) left ∙ ap (λ (b : Bool). not b || is_some peer) (sym c.if-not-has_shape.false ∙ c.has_shape.ensures)

pub returns-in-Some-clause-taken : goal.returns-in-Some-clause-taken
returns-in-Some-clause-taken c =
    let p = entry_view c.args.prototype.now in
    let peer : Option ℕ = peer_left (world_of c.args.engine.now.world) p in
    let left = sym c.in-Some.is ∙ c.peer_left.ensures.left c.args.definition.now p c.requires.at c.requires.passes in
    left ∙ ap (λ (b : Bool). cond b peer None) (sym c.if-not-has_shape.false ∙ c.has_shape.ensures)

pub returns-in-None-clause-there : goal.returns-in-None-clause-there
returns-in-None-clause-there c =
    let p = entry_view c.args.prototype.now in
    let peer : Option ℕ = peer_left (world_of c.args.engine.now.world) p in
    let left = sym c.in-None.is ∙ c.peer_left.ensures.left c.args.definition.now p c.requires.at c.requires.passes in
    ap (λ (o : Option ℕ). not true || is_some o) left ∙ ap (λ (b : Bool). not b || is_some peer) (sym c.if-not-has_shape.false ∙ c.has_shape.ensures)

pub returns-in-None-clause-taken : goal.returns-in-None-clause-taken
returns-in-None-clause-taken c =
    let p = entry_view c.args.prototype.now in
    let peer : Option ℕ = peer_left (world_of c.args.engine.now.world) p in
    let left = sym c.in-None.is ∙ c.peer_left.ensures.left c.args.definition.now p c.requires.at c.requires.passes in
    left ∙ ap (λ (b : Bool). cond b peer None) (sym c.if-not-has_shape.false ∙ c.has_shape.ensures)
