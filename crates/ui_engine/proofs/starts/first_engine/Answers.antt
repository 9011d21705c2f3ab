use Rattle.std.proofs.Common.{ℕ, Global, List, Option, Vec, ap, subst, sym, ◌∙◌}
use Rattle.ui_machine.specs.Output.Lines as lines
use Rattle.ui_machine.specs.State.Config.{World, said}
use Rattle.signal_core.specs.Connected.{Connected}
use Rattle.engine_links.specs.Linked.{AreLinked, Linked}
use Rattle.engine_world.specs.declared.engine.Engine.{Engine}
use Rattle.ui_machine.specs.State.Peers.{Peer}
use Rattle.engine_world.specs.Counting.{Connects, PassesGot}
use Rattle.engine_world.specs.PeerPlaces.{AreNumbered}
use Rattle.engine_stack.specs.KnownHandlers.{AllTakeKnownHandlers}
use Rattle.engine_world.specs.TaskView.{agenda_of}
use Rattle.engine_world.proofs.GotPeers.{zeros_got}
use Rattle.ui_engine.proofs.Beginning.{none_counted_with}
use Rattle.ui_engine.proofs.starts.first_engine.Goals as goal

pub returns-clause-world : goal.returns-clause-world
returns-clause-world c =
    let d = c.args.definition.now in
    c.in_ok-announce.ensures.line ∙ ap (λ (w : World). said d w lines.build) (c.in_ok-engine.ensures.world d)

pub returns-clause-rests : goal.returns-clause-rests
returns-clause-rests c =
    let d = c.args.definition.now in
    let beside = c.announce.ensures.beside in
    let world = c.in_ok-announce.ensures.line ∙ ap (λ (w : World). said d w lines.build) (c.in_ok-engine.ensures.world d) in
    let idle = ap (λ (e : Engine). agenda_of d e) beside ∙ c.in_ok-engine.ensures.idle d in
    let marks = ap (λ (e : Engine). e.world.weak) beside ∙ c.in_ok-engine.ensures.marks in
    let linked = subst (λ (l : Linked). AreLinked d l) (sym (ap (λ (e : Engine). e.links) beside ∙ c.in_ok-engine.ensures.links)) c.in_ok-links.ensures in
    let same = ap (λ (e : Engine). e.world.handlers) beside ∙ c.in_ok-engine.ensures.handlers in
    let got = ap (λ (e : Engine). e.world.got_peers) beside ∙ c.in_ok-engine.ensures.got in
    let numbers = ap (λ (e : Engine). e.world.peer_numbers) beside ∙ c.in_ok-engine.ensures.numbers in
    let seats = ap (λ (w : World). w.peers) world in
    let passes : PassesGot d c.announce.new.engine = record {
      got = zeros_got d c.announce.new.engine.world.seats c.announce.new.engine.world.got_peers.items _ (ap (λ (ns : Vec ℕ Global). ns.items) got ∙ c.in_ok-got_peers.ensures.items_if_clones_equal (λ y same. same));
      numbered =
          subst (λ (peers : List Peer). AreNumbered d peers c.announce.new.engine.world.peer_numbers.items) (sym seats)
          (subst (λ (kept : Vec (Vec (Option ℕ) Global) Global). AreNumbered d c.args.seats kept.items) (sym numbers) c.in_ok-numbers.ensures);
    } in
    let connects : Connects d c.announce.new.engine = record {
      most = ap (λ (h : Connected). h.most) same ∙ c.limits-limits.ensures.handlers;
      to_come = ap (λ (h : Connected). h.to_come) same;
      begun =
          subst (λ (h : Connected). AllTakeKnownHandlers h.last c.announce.new.engine.stack) (sym same)
          (subst (λ (e : Engine). AllTakeKnownHandlers 0 e.stack) (sym beside) c.in_ok-engine.ensures.begun);
    } in
    let counts = ap (λ (e : Engine). e.world.table.counts) beside ∙ c.in_ok-engine.ensures.counts in
    record { counts = none_counted_with d c.args.seats c.announce.new.engine c.in_ok-weak.weak c.in_ok-weak.ensures linked passes connects marks counts world idle; idle = idle }
