use Rattle.machine_rows.proofs.StuckRuns.{unsetregister_holds, valueofanotherkind_holds, lateconstructonly_holds, unreadableproperty_holds, nulloperand_holds, unfitargument_holds, unfitparameters_holds, thawwithoutfreeze_holds, callwithoutpeer_holds, unknownproperty_holds, unfitresult_holds, abstractobject_holds, lateforward_holds, unwritableforward_holds, latesetbyevent_holds, unwritablesetbyevent_holds, unwritablegiven_holds, unwritableconstruct_holds, invaliddefault_holds, newofanobject_holds, objectofaprototype_holds, unknownbinding_holds, unknowndetail_holds, undetailedconnect_holds, undetailedemit_holds, undetailedevent_holds, undetailedsignal_holds, unknownnotification_holds, peerwithoutshape_holds}
use Rattle.machine_rows.proofs.arms.Goals as goal

pub returns : goal.returns
returns c = record { unset_register = unsetregister_holds; value_of_another_kind = valueofanotherkind_holds; late_construct_only = lateconstructonly_holds; unreadable_property = unreadableproperty_holds; null_operand = nulloperand_holds; unfit_argument = unfitargument_holds; unfit_parameters = unfitparameters_holds; thaw_without_freeze = thawwithoutfreeze_holds; call_without_peer = callwithoutpeer_holds; unknown_property = unknownproperty_holds; unfit_result = unfitresult_holds; abstract_object = abstractobject_holds; late_forward = lateforward_holds; unwritable_forward = unwritableforward_holds; late_set_by_event = latesetbyevent_holds; unwritable_set_by_event = unwritablesetbyevent_holds; unwritable_given = unwritablegiven_holds; unwritable_construct = unwritableconstruct_holds; invalid_default = invaliddefault_holds; new_of_an_object = newofanobject_holds; object_of_a_prototype = objectofaprototype_holds; unknown_binding = unknownbinding_holds; unknown_detail = unknowndetail_holds; undetailed_connect = undetailedconnect_holds; undetailed_emit = undetailedemit_holds; undetailed_event = undetailedevent_holds; undetailed_signal = undetailedsignal_holds; unknown_notification = unknownnotification_holds; peer_without_shape = peerwithoutshape_holds }
