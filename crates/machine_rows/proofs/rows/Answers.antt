use Rattle.machine_rows.proofs.WorkedRuns.{firstrun_holds, nothingtodo_holds, range_holds, laxrange_holds, constructonly_holds, forwardreference_holds, freezes_holds, stages_holds, truehandled_holds, nohandlers_holds, connections_holds, pair_holds, labels_holds, lastreference_holds, mainloop_holds, floating_holds, faultingpeer_holds, release_holds, textandtruth_holds, construction_holds, explicitnotify_holds, links_holds, children_holds, detail_holds, enumbinding_holds, duenotification_holds, screenpeer_holds, repeatedblock_holds, frozenpair_holds}
use Rattle.machine_rows.proofs.rows.Goals as goal

pub returns : goal.returns
returns c = record { first_run = firstrun_holds; nothing_to_do = nothingtodo_holds; range = range_holds; lax_range = laxrange_holds; construct_only = constructonly_holds; forward_reference = forwardreference_holds; freezes = freezes_holds; stages = stages_holds; true_handled = truehandled_holds; no_handlers = nohandlers_holds; connections = connections_holds; pair = pair_holds; labels = labels_holds; last_reference = lastreference_holds; main_loop = mainloop_holds; floating = floating_holds; faulting_peer = faultingpeer_holds; release = release_holds; text_and_truth = textandtruth_holds; construction = construction_holds; explicit_notify = explicitnotify_holds; links = links_holds; children = children_holds; detail = detail_holds; enum_binding = enumbinding_holds; due_notification = duenotification_holds; screen_peer = screenpeer_holds; repeated_block = repeatedblock_holds; frozen_pair = frozenpair_holds }
