use Rattle.verify_channels.proofs.class_handlers.+add_constructed.Given as goal

abbrev pub decreases-add_constructed : goal.decreases-add_constructed
decreases-add_constructed l = l.class
