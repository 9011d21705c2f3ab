use Rattle.std.proofs.Common.{sym, ◌<◌, arith, slice_index_or, subst}
use Rattle.std.proofs.lemmas.Option.{slice_get-get_or, slice_get_within}
use Rattle.verify_order.specs.Searches.{IsDone, IsSearch, left}
use Rattle.verify_order.proofs.Steps.{last_inside, edge_inside, passed_done, finish_keeps, finish_falls, down_keeps, down_falls, leads_over, cycles, finish_done}
use Rattle.verify_order.proofs.searches.Search.step.Goals as goal

pub edges-edges-requires : goal.edges-edges-requires
edges-edges-requires c = last_inside c.args.dependencies.now c.args.self.now c.args.node c.requires.search c.requires.last

pub passed_count-requires : goal.passed_count-requires
passed_count-requires c = record {
  inside = omega (arith, last_inside c.args.dependencies.now c.args.self.now c.args.node c.requires.search c.requires.last, c.requires.search.passed_length);
}

pub first_waiting-requires-clause-inside : goal.first_waiting-requires-clause-inside
first_waiting-requires-clause-inside c k to edge =
    omega (arith, edge_inside c.args.dependencies.now c.args.node k to c.edges-edges.result.now c.requires.graph c.edges-edges.ensures edge, c.requires.search.position_length)

pub first_waiting-requires-clause-passed : goal.first_waiting-requires-clause-passed
first_waiting-requires-clause-passed c k to below edge =
    passed_done c.args.dependencies.now c.args.self.now c.args.node c.edges-edges.result.now c.requires.search c.requires.last c.edges-edges.ensures k to (omega (arith, below, c.passed_count.ensures)) edge

pub finish-requires : goal.finish-requires
finish-requires c = record {
  inside = omega (arith, last_inside c.args.dependencies.now c.args.self.now c.args.node c.requires.search c.requires.last, c.requires.search.position_length);
}

pub returns-in_default-clause-search : goal.returns-in_default-clause-search
returns-in_default-clause-search c =
    subst (λ x. IsSearch c.args.dependencies.now x) (sym c.in_ok-finish.ensures)
    (finish_keeps c.args.dependencies.now c.args.self.now c.args.node c.edges-edges.result.now c.requires.search c.requires.last c.edges-edges.ensures c.in_default.ensures.all)

pub returns-in_default-clause-falls : goal.returns-in_default-clause-falls
returns-in_default-clause-falls c =
    subst (λ x. left c.args.dependencies.now x < left c.args.dependencies.now c.args.self.now) (sym c.in_ok-finish.ensures)
    (finish_falls c.args.dependencies.now c.args.self.now c.args.node c.requires.search
    (finish_keeps c.args.dependencies.now c.args.self.now c.args.node c.edges-edges.result.now c.requires.search c.requires.last c.edges-edges.ensures c.in_default.ensures.all))

pub returns-in_default-clause-kept : goal.returns-in_default-clause-kept
returns-in_default-clause-kept c n d = subst (λ x. IsDone x n) (sym c.in_ok-finish.ensures) (finish_done c.args.self.now c.args.node n d)

pub place_on_path-requires-clause-inside : goal.place_on_path-requires-clause-inside
place_on_path-requires-clause-inside c =
    omega (arith, edge_inside c.args.dependencies.now c.args.node c.in-Some.number (slice_index_or c.edges-edges.result.now c.in-Some.number 0) c.edges-edges.result.now c.requires.graph c.edges-edges.ensures (slice_get-get_or c.edges-edges.result.now c.in-Some.number 0 c.in-Some.ensures.found), c.requires.search.place_length)

pub returns-in-Some-place_on_path-clause-cycle : goal.returns-in-Some-place_on_path-clause-cycle
returns-in-Some-place_on_path-clause-cycle c =
    let to = slice_index_or c.edges-edges.result.now c.in-Some.number 0 in
    cycles c.args.dependencies.now c.args.self.now c.args.node c.in-Some-place_on_path.place to c.requires.search c.requires.last
    c.in-Some-place_on_path.ensures.some
    (leads_over c.args.dependencies.now c.args.node c.in-Some.number to c.edges-edges.result.now c.edges-edges.ensures (slice_get-get_or c.edges-edges.result.now c.in-Some.number 0 c.in-Some.ensures.found))

pub returns-in-Some-place_on_path-clause-within : goal.returns-in-Some-place_on_path-clause-within
returns-in-Some-place_on_path-clause-within c =
    omega (arith, slice_get_within c.args.self.now.path c.in-Some-place_on_path.place (slice_index_or c.edges-edges.result.now c.in-Some.number 0) c.in-Some-place_on_path.ensures.some)

pub go_down-requires-clause-node : goal.go_down-requires-clause-node
go_down-requires-clause-node c =
    omega (arith, last_inside c.args.dependencies.now c.args.self.now c.args.node c.requires.search c.requires.last, c.requires.search.passed_length)

pub go_down-requires-clause-inside : goal.go_down-requires-clause-inside
go_down-requires-clause-inside c =
    omega (arith, edge_inside c.args.dependencies.now c.args.node c.in-Some.number (slice_index_or c.edges-edges.result.now c.in-Some.number 0) c.edges-edges.result.now c.requires.graph c.edges-edges.ensures (slice_get-get_or c.edges-edges.result.now c.in-Some.number 0 c.in-Some.ensures.found), c.requires.search.place_length)

pub returns-clause-search : goal.returns-clause-search
returns-clause-search c =
    subst (λ x. IsSearch c.args.dependencies.now x) (sym c.in_ok-go_down.ensures)
    (down_keeps c.args.dependencies.now c.args.self.now c.args.node c.in-Some.number (slice_index_or c.edges-edges.result.now c.in-Some.number 0) c.edges-edges.result.now c.requires.graph c.requires.search c.requires.last c.edges-edges.ensures c.in-Some.ensures.before (slice_get-get_or c.edges-edges.result.now c.in-Some.number 0 c.in-Some.ensures.found) c.in-Some.ensures.waits c.in_default-place_on_path.ensures.none)

pub returns-clause-falls : goal.returns-clause-falls
returns-clause-falls c =
    subst (λ x. left c.args.dependencies.now x < left c.args.dependencies.now c.args.self.now) (sym c.in_ok-go_down.ensures)
    (down_falls c.args.dependencies.now c.args.self.now c.args.node c.in-Some.number (slice_index_or c.edges-edges.result.now c.in-Some.number 0) c.requires.search
    (down_keeps c.args.dependencies.now c.args.self.now c.args.node c.in-Some.number (slice_index_or c.edges-edges.result.now c.in-Some.number 0) c.edges-edges.result.now c.requires.graph c.requires.search c.requires.last c.edges-edges.ensures c.in-Some.ensures.before (slice_get-get_or c.edges-edges.result.now c.in-Some.number 0 c.in-Some.ensures.found) c.in-Some.ensures.waits c.in_default-place_on_path.ensures.none))

pub returns-clause-kept : goal.returns-clause-kept
returns-clause-kept c n d = subst (λ x. IsDone x n) (sym c.in_ok-go_down.ensures) d
