use Rattle.std.proofs.Common.{List, [], ◌∷◌, ◌++◌, All, map, refl, sym, subst}
use Rattle.std.proofs.lemmas.List.Elements.{All-push}
use Rattle.std.proofs.lemmas.Result.{err_from_is_err_and}
use Rattle.json_trees.specs.View.{view}
use Rattle.serde_json.specs.Find.{as_str}
use Rattle.bytecode.specs.declared.programs.RegisterKind.{RegisterKind}
use Rattle.bytecode.specs.Known.{IsKnownRegister}
use Rattle.bytecode.specs.View.{register_kind_view}
use Rattle.bytecode.specs.Reading.RegisterKinds.{register_kind_in}
use Rattle.bytecode.specs.Reading.Each.{each}
use Rattle.bytecode.specs.Reading.OutlineFaults.{entry_of, kind_there, part_view}
use Rattle.bytecode.specs.Reading.Outline.{kind_step}
use Rattle.handler_code.specs.Reading.ReaderViews.{names_view}
use Rattle.handler_code.proofs.Each.{adds, is_done, pushed}
use Rattle.handler_code.proofs.Stopping.{stops_outline}
use Rattle.handler_code.proofs.reading.outline_parts.kinds_of.Goals as goal

pub returns-in_err-kind-clause-kinds : goal.returns-in_err-kind-clause-kinds
returns-in_err-kind-clause-kinds c =
    let p = err_from_is_err_and c.from_residual.result c.from_residual.ensures.1 in
    let step = kind_step (names_view c.args.names.now) c.args.may_be_unset (part_view c.args.part) in
    let v = c.index-items-index.result in
    rw (p.1, p.2) (stops_outline step view c.args.items.now c.items.index (map register_kind_view c.items.kinds.items) (each step 0 [] (map view c.args.items.now))
    v c.in_err-kind.field-0.0
    (kind_there (entry_of (part_view c.args.part) c.items.index) (register_kind_in (names_view c.args.names.now) c.args.may_be_unset (as_str (view v))))
    (λ kind. map register_kind_view c.items.kinds.items ++ kind ∷ []) c.items-test.true c.index-items-index.is refl (rw c.entry_of.ensures at c.in_err-kind.ensures.kind) c.items.invariant.read)

pub items-preserved : goal.items-preserved
items-preserved c =
    let step = kind_step (names_view c.args.names.now) c.args.may_be_unset (part_view c.args.part) in
    let v = c.index-items-index.result in
    record {
      read = rw (pushed register_kind_view c.items.kinds.items c.push.new.self.items c.in_ok-kind.kind c.in_ok-push.ensures.items)
          (adds step view c.args.items.now c.items.index (map register_kind_view c.items.kinds.items) (each step 0 [] (map view c.args.items.now))
          v (register_kind_view c.in_ok-kind.kind)
          (kind_there (entry_of (part_view c.args.part) c.items.index) (register_kind_in (names_view c.args.names.now) c.args.may_be_unset (as_str (view v))))
          (λ kind. map register_kind_view c.items.kinds.items ++ kind ∷ []) c.items-test.true c.index-items-index.is refl (rw c.entry_of.ensures at c.in_ok-kind.ensures.kind) c.items.invariant.read);
      known = subst (λ (ks : List RegisterKind). All (λ k. IsKnownRegister c.args.names.now.types.now k) ks) (sym c.in_ok-push.ensures.items)
          (All-push (λ k. IsKnownRegister c.args.names.now.types.now k) c.items.kinds.items c.in_ok-kind.kind c.items.invariant.known c.in_ok-kind.ensures.known);
    }

pub returns-clause-kinds : goal.returns-clause-kinds
returns-clause-kinds c =
    let step = kind_step (names_view c.args.names.now) c.args.may_be_unset (part_view c.args.part) in
    is_done step view c.args.items.now c.items.index (map register_kind_view c.items.kinds.items) (each step 0 [] (map view c.args.items.now)) c.items-test.false c.items.invariant.read
