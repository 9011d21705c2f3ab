use Rattle.law_typing.proofs.JudgedRows.{firstrun_holds, nothingtodo_holds, freezes_holds, pair_holds, labels_holds, floating_holds, lastreference_holds, mainloop_holds, labelchain_holds, stickers_holds, classhandlers_holds, chain_holds, knobs_holds, repeatedblock_holds, mostpasses_holds, frozenpair_holds, frozentarget_holds, frozentwins_holds}
use Rattle.law_typing.proofs.reports.Goals as goal

pub returns : goal.returns
returns c = record { first_run = firstrun_holds; nothing_to_do = nothingtodo_holds; freezes = freezes_holds; pair = pair_holds; labels = labels_holds; floating = floating_holds; last_reference = lastreference_holds; main_loop = mainloop_holds; label_chain = labelchain_holds; stickers = stickers_holds; class_handlers = classhandlers_holds; chain = chain_holds; knobs = knobs_holds; repeated_block = repeatedblock_holds; most_passes = mostpasses_holds; frozen_pair = frozenpair_holds; frozen_target = frozentarget_holds; frozen_twins = frozentwins_holds }
