use Rattle.verify_graph.proofs.report_channels.+runs_constructed.Given as goal

abbrev pub decreases-runs_constructed : goal.decreases-runs_constructed
decreases-runs_constructed l = l.class
