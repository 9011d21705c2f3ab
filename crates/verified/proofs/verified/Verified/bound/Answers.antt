use Rattle.std.proofs.Common.{◌≡◌, true, sym, subst}
use Rattle.ui_machine.specs.declared.ids.Entry.{Entry}
use Rattle.verify_graph.specs.ChannelView.{channel_of}
use Rattle.verified.specs.Entries.{entry_of, is_entry}
use Rattle.verified.specs.Told.{IsBound}
use Rattle.verified.proofs.LookUps.{build_read, has_channel}
use Rattle.verified.proofs.verified.Verified.bound.Goals as goal

pub returns-in-Build : goal.returns-in-Build
returns-in-Build c =
    subst (λ (e : Entry). IsBound c.args.self.now (entry_of e) c.self.inside.numbers.build) (sym c.in-Build.is)
    (build_read c.self.invariant c.self.view_is)

pub returns-in-At : goal.returns-in-At
returns-in-At c =
    let d = c.args.self.now in
    subst (λ (e : Entry). IsBound d (entry_of e) c.bound_of.result) (sym c.in-At.is)
    (c.bound_of.ensures (has_channel d (channel_of c.in-At.channel) (subst (λ (e : Entry). is_entry d (entry_of e) ≡ true) c.in-At.is c.requires)))
