-- Each entry of a dispatch has a line in the report, or nothing but finalisations can be counted from it; so its bound is small enough.
use Rattle.std.proofs.Common.{◌≡◌, ◌⊎◌, inl, inr, refl, ℕ, ◌≤◌, Bool, true, false, map, arith}
use Rattle.ui_machine.specs.Definition.{Definition}
use Rattle.ui_machine.specs.Steps.{most_steps}
use Rattle.ui_machine.specs.State.Tasks.{Request}
use Rattle.ui_machine.specs.State.Tasks as config
use Rattle.law_typing.specs.Graph.Channels.{Channel, property, signal, Entry, is_channel}
use Rattle.law_typing.specs.Graph.Channels as entries
use Rattle.law_typing.specs.Graph.{Raised, graph}
use Rattle.law_typing.specs.Graph.Costs.{bound}
use Rattle.law_typing.specs.Verdict.{told, most_bound}
use Rattle.law_typing.specs.Verdict.Accepted.{Accepted}
use Rattle.law_typing.specs.Laws.{IsIn}
use Rattle.law_typing.specs.Laws.WellRead.{WellRead}
use Rattle.law_typing.specs.Good.Requests.{entry_of}
use Rattle.law_typing.specs.Laws.StepsKeepGood.{bound_of}
use Rattle.law_typing.proofs.Lists.{map_in, each_in}
use Rattle.law_typing.proofs.EdgeProofs.{append_left, append_right}
use Rattle.law_static.specs.Raises.{raised_there}
use Rattle.law_static.proofs.RaisesProofs.{channels_known}
use Rattle.law_static.proofs.AbsentProofs.{absent_costs_nothing}

module _ (d : Definition) (a : Accepted d) where
  abbrev pub IsPrinted : Entry → Type 0
  IsPrinted e = IsIn e (told (graph d)) ⊎ (bound_of d a e ≡ d.most_objects)

  at_printed : (c : Channel) → IsPrinted (entries.at c)
  at_printed c = go (is_channel d c) refl
    where
      go : (b : Bool) → is_channel d c ≡ b → IsPrinted (entries.at c)
      go true e =
          inl (inr (append_left (map (λ (r : Raised). entries.at r.channel) (graph d).raised) (map entries.source (graph d).sources)
          (entries.at c) (map_in (λ (r : Raised). entries.at r.channel) (graph d).raised (raised_there d c)
          (channels_known d a c e).known)))
      go false e = inr (let none = absent_costs_nothing d a c e in omega (arith, none))

  pub source_printed : (program : ℕ) → IsIn program (graph d).sources → IsPrinted (entries.source program)
  source_printed program h =
      inl (inr (append_right (map (λ (r : Raised). entries.at r.channel) (graph d).raised) (map entries.source (graph d).sources)
      (entries.source program) (map_in entries.source (graph d).sources program h)))

  pub build_printed : IsPrinted entries.build
  build_printed = inl (inl refl)

  plain_printed : IsPrinted entries.plain
  plain_printed = inr (omega arith)

  pub request_printed : (r : Request) → IsPrinted (entry_of d r)
  request_printed (config.set place slot g) = at_printed (property place slot)
  request_printed (config.get place slot) = plain_printed
  request_printed (config.emit place number args detail) = at_printed (signal place number)
  request_printed (config.release place) = plain_printed

  pub printed_few : WellRead d → (e : Entry) → IsPrinted e → bound_of d a e ≤ most_steps
  printed_few well e (inl h) = each_in (λ e. bound (graph d) a.weighed.costs e ≤ most_bound) (told (graph d)) a.weighed.bounded e h
  printed_few well e (inr same) = let few = well.most_objects in omega (arith, few, same)
