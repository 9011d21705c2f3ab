use Rattle.machine_rows.proofs.CornerRuns.{sourcelimit_holds, blocks_holds, newisonestep_holds, emitatitsend_holds, stopinnotify_holds, thawafterdispose_holds, disposedinthebuild_holds, adoptedbefore_holds, nulluntilbuilt_holds, eachotherschildren_holds, sourcedata_holds, attachedanew_holds, noroom_holds, weakanddisposed_holds, swappedwithoutdata_holds, cleanupvalues_holds, stopoutside_holds, leftofathaw_holds, notifyofaninterface_holds, spellings_holds, forwardconstruct_holds, refusedgiven_holds, unknownbits_holds, disposedandfinal_holds, limitofhandlers_holds, lateconnection_holds, stilltobuild_holds, pairandbinding_holds, frozenends_holds, turnwithoutsources_holds, turnafteravalue_holds}
use Rattle.machine_rows.proofs.corners.Goals as goal

pub returns : goal.returns
returns c = record { source_limit = sourcelimit_holds; blocks = blocks_holds; new_is_one_step = newisonestep_holds; emit_at_its_end = emitatitsend_holds; stop_in_notify = stopinnotify_holds; thaw_after_dispose = thawafterdispose_holds; disposed_in_the_build = disposedinthebuild_holds; adopted_before = adoptedbefore_holds; null_until_built = nulluntilbuilt_holds; each_others_children = eachotherschildren_holds; source_data = sourcedata_holds; attached_anew = attachedanew_holds; no_room = noroom_holds; weak_and_disposed = weakanddisposed_holds; swapped_without_data = swappedwithoutdata_holds; cleanup_values = cleanupvalues_holds; stop_outside = stopoutside_holds; left_of_a_thaw = leftofathaw_holds; notify_of_an_interface = notifyofaninterface_holds; spellings = spellings_holds; forward_construct = forwardconstruct_holds; refused_given = refusedgiven_holds; unknown_bits = unknownbits_holds; disposed_and_final = disposedandfinal_holds; limit_of_handlers = limitofhandlers_holds; late_connection = lateconnection_holds; still_to_build = stilltobuild_holds; pair_and_binding = pairandbinding_holds; frozen_ends = frozenends_holds; turn_without_sources = turnwithoutsources_holds; turn_after_a_value = turnafteravalue_holds }
