use Rattle.std.proofs.Common.{◌∙◌, sym, ap, ◌+◌, ◌∷◌, [], ◌++◌, false, subst, ◌≤◌}
use Rattle.verify_sketches.specs.Numbered.{connected, nodes_of, one_if, own_node, programs_of, stages, sum_of}
use Rattle.verify_sketches.specs.View.{channel_view, sketch_view}
use Rattle.verify_numbers.specs.Counts.{Counts, at, at_in}
use Rattle.verify_numbers.proofs.Edges.{added_there, built, then_linked, there_is}
use Rattle.verify_numbers.proofs.Small.{connected_fits, few, stages_fits}
use Rattle.verify_numbers.proofs.channel_nodes.add_own.Goals as goal

pub link-requires-clause-fits : goal.link-requires-clause-fits
link-requires-clause-fits c =
    subst (λ n. n ≤ 4_294_967_295) (sym c.stages.ensures) (stages_fits c.args.layout.now (few c.args.layout.now (sketch_view c.args.sketch.now) c.requires.counted c.requires.small) c.args.number c.requires.there)

pub link-requires-2-clause-node : goal.link-requires-2-clause-node
link-requires-2-clause-node c =
    there_is c.add.new.self c.link.new.self (c.stages.result ∷ []) c.in_ok-link.ensures
    (added_there c.args.nodes.now c.add.new.self c.sum_of.result c.greatest_of.result false c.in_ok-add.ensures)

pub link-requires-2-clause-fits : goal.link-requires-2-clause-fits
link-requires-2-clause-fits c =
    subst (λ n. n ≤ 4_294_967_295) (sym c.connected.ensures) (connected_fits c.args.layout.now (few c.args.layout.now (sketch_view c.args.sketch.now) c.requires.counted c.requires.small) c.args.number c.requires.there)

pub link_programs-requires-clause-node : goal.link_programs-requires-clause-node
link_programs-requires-clause-node c =
    there_is c.link.new.self c.link-2.new.self (c.connected.result ∷ []) c.in_ok-link-2.ensures
    (there_is c.add.new.self c.link.new.self (c.stages.result ∷ []) c.in_ok-link.ensures
    (added_there c.args.nodes.now c.add.new.self c.sum_of.result c.greatest_of.result false c.in_ok-add.ensures))

pub link_channels-requires-clause-node : goal.link_channels-requires-clause-node
link_channels-requires-clause-node c =
    let s = sketch_view c.args.sketch.now in
    there_is c.link-2.new.self c.link_programs.new.nodes (programs_of s (at_in s) c.as_slice.result.now) c.in_ok-link_programs.ensures
    (there_is c.link.new.self c.link-2.new.self (c.connected.result ∷ []) c.in_ok-link-2.ensures
    (there_is c.add.new.self c.link.new.self (c.stages.result ∷ []) c.in_ok-link.ensures
    (added_there c.args.nodes.now c.add.new.self c.sum_of.result c.greatest_of.result false c.in_ok-add.ensures)))

pub returns : goal.returns
returns c =
    let s = sketch_view c.args.sketch.now in
    let k = channel_view c.args.channel.now in
    let y = own_node s (at_in s) c.args.number k in
    let ps = programs_of s (at_in s) c.as_slice.result.now in
    let cs = nodes_of s (at_in s) c.as_slice-2.result.now in
    let two = then_linked c.add.new.self c.link.new.self c.link-2.new.self (c.stages.result ∷ []) (c.connected.result ∷ []) c.in_ok-link.ensures c.in_ok-link-2.ensures in
    let three = then_linked c.add.new.self c.link-2.new.self c.link_programs.new.nodes (c.stages.result ∷ c.connected.result ∷ []) ps two c.in_ok-link_programs.ensures in
    let all = then_linked c.add.new.self c.link_programs.new.nodes c.link_channels.new.nodes (c.stages.result ∷ c.connected.result ∷ ps) cs three c.in_ok-link_channels.ensures in
    let at_stages = c.stages.ensures ∙ ap (λ (x : Counts). at x (stages c.args.number)) c.requires.counted in
    let at_connected = c.connected.ensures ∙ ap (λ (x : Counts). at x (connected c.args.number)) c.requires.counted in
    built c.args.nodes.now c.add.new.self c.link_channels.new.nodes y c.sum_of.result c.greatest_of.result (c.stages.result ∷ c.connected.result ∷ (ps ++ cs))
    c.in_ok-add.ensures
    (c.sum_of.ensures ∙ (ap (λ m. sum_of 1 (m + c.from.result)) c.one_if.ensures ∙ ap (λ m. sum_of 1 (one_if k.emits + m)) c.from.ensures)) c.greatest_of.ensures all
    (ap (λ x. x ∷ c.connected.result ∷ (ps ++ cs)) at_stages
    ∙ (ap (λ x. at_in s (stages c.args.number) ∷ x ∷ (ps ++ cs)) at_connected
    ∙ (ap (λ xs. at_in s (stages c.args.number) ∷ at_in s (connected c.args.number) ∷ (programs_of s (at_in s) xs ++ cs)) c.as_slice.ensures.value
    ∙ ap (λ xs. at_in s (stages c.args.number) ∷ at_in s (connected c.args.number) ∷ (programs_of s (at_in s) k.handlers ++ nodes_of s (at_in s) xs)) c.as_slice-2.ensures.value)))
