use Rattle.class_texts.specs.ClassTexts.{implements}
use Rattle.class_texts.proofs.Lists.{filtered_pushed}
use Rattle.class_texts.proofs.interfaces.interfaces.Goals as goal

pub loop-at-preserved : goal.loop-at-preserved
loop-at-preserved c =
    filtered_pushed (implements c.args.types.now c.args.class) c.loop-at.at c.new-t.result c.implements.result c.loop-at.interfaces.items
    c.push_if.new.types.items c.new-t.ensures c.implements.ensures c.loop-at.invariant c.in_ok-push_if.ensures
