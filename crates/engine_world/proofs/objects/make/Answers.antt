use Rattle.std.proofs.Common.{◌≡◌, ℕ, suc, false, Option, Some, List, [], ◌∷◌, Vec, Global, slice_get, length, string_bytes, refl, sym, ap, subst, arith, ◌∙◌}
use Rattle.std.specs.Prelude.{IfSome}
use Rattle.ui_machine.specs.Definition.Lookups.{type_of, specs_of}
use Rattle.ui_machine.specs.Output.Lines as lines
use Rattle.ui_machine.specs.Output.Text.{text_of_line}
use Rattle.ui_machine.specs.Definition.Values.{Value}
use Rattle.ui_machine.specs.State.Config.{Started, World, starts}
use Rattle.ui_machine.specs.State.References.{in_values}
use Rattle.ui_machine.specs.State.Tasks.{Constructing}
use Rattle.ui_machine.specs.Outcome.{Answer}
use Rattle.ui_machine.specs.Rules.Construction.{lent, with_object, new_object}
use Rattle.definitions.specs.EntryView.{entry_view}
use Rattle.instance_tables.specs.Store.{made_object}
use Rattle.instance_tables.proofs.Created.{made_holds}
use Rattle.engine_world.specs.NewObjects.{before_lent}
use Rattle.engine_world.specs.View.{with_line, world_of}
use Rattle.engine_world.proofs.Ableness.{no_arm}
use Rattle.engine_world.proofs.Counts.{keeps_by, keeps_on, stays}
use Rattle.engine_world.proofs.Building.{made_nowhere, made_there, makes_concrete, valid_defaults}
use Rattle.engine_world.proofs.GotPeers.{numbers_kept}
use Rattle.engine_world.proofs.objects.make.Goals as goal

pub unreachable-requires : goal.unreachable-requires
unreachable-requires c =
    no_arm _ _ (c.requires.able false) (made_nowhere c.args.definition.now (world_of c.args.engine.now.world) c.args.place.0 c.args.peer false (sym c.in_default.ensures))

pub returns-clause-made : goal.returns-clause-made
returns-clause-made c held =
    let d = c.args.definition.now in
    let w = world_of c.args.engine.now.world in
    let class = c.in-Some.entry.class in
    let place = entry_view c.in-Some.entry in
    let at : slice_get d.places c.args.place.0 ≡ Some place = sym c.in-Some.ensures in
    let concrete = makes_concrete d w c.args.place.0 place at c.args.peer held (c.requires.able held) in
    let id = c.in_ok-object.object in
    let o = new_object d c.args.place.0 place c.args.peer in
    let object : world_of c.create_object.new.engine.world ≡ before_lent w (with_object d w o) =
    c.in_ok-object.ensures.world ∙ ap (λ (vs : List Value). before_lent w (with_object d w (made_object class c.args.place.0 vs c.args.peer))) c.in_ok-values.ensures in
    let line : string_bytes c.in_ok-line.line ≡ text_of_line d.types (lines.construct (suc (length w.objects)) (type_of d class).name) = rw (c.class_name.ensures, c.in_ok-object.ensures.identity) at c.in_ok-line.ensures in
    let begins : World → ℕ → List ℕ → Answer Started = λ v i text. starts (with_line text (record v { peers = lent c.args.peer i v.peers })) (Constructing id.0 c.in_ok-steps.steps held ∷ []) in
    made_there d c.types-types.ensures.basic w c.args.place.0 place at c.args.peer held concrete
    ∙ sym (ap (λ v. begins v id.0 (string_bytes c.in_ok-line.line)) object
    ∙ ap (λ i. begins (before_lent w (with_object d w o)) i (string_bytes c.in_ok-line.line)) c.in_ok-object.ensures.identity
    ∙ ap (λ text. begins (before_lent w (with_object d w o)) (suc (length w.objects)) text) line
    ∙ rw (c.in_ok-object.ensures.identity, c.in_ok-steps.ensures) refl)

pub returns-clause-counted : goal.returns-clause-counted
returns-clause-counted c =
    let d = c.args.definition.now in
    let class = c.in-Some.entry.class in
    let place = entry_view c.in-Some.entry in
    let at : slice_get d.places c.args.place.0 ≡ Some place = sym c.in-Some.ensures in
    let valid = valid_defaults d c.types-types.ensures.basic (world_of c.args.engine.now.world) c.args.place.0 place at in
    let e = c.args.engine.now in
    let b = record e { world = record e.world { got_peers = c.count_got.new.got } } in
    keeps_on d e b _ (keeps_by d e b refl refl (λ passes. record {
      got = c.count_got.ensures.got d place at (numbers_kept d e.world.seats e.world.peer_numbers.items c.args.place.0 place c.numbers_at.result.now at (subst (λ (l : List (Vec (Option ℕ) Global)). IfSome (slice_get l c.args.place.0) (λ ns. c.numbers_at.result.now ≡ ns.items)) c.deref.ensures.value c.numbers_at.ensures) passes.numbered) passes.got;
      numbered = passes.numbered;
    }) refl (stays d e b refl refl) (λ taken _ h. h))
    (c.in_ok-object.ensures.counted
    (λ o. omega (arith, ap (in_values o (specs_of d class)) c.in_ok-values.ensures, made_holds d c.args.place.0 place c.args.peer o valid)))
