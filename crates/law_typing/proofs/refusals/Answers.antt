use Rattle.law_typing.proofs.JudgedRefusals.{setconstructonly_holds, unfitpass_holds, unfithandler_holds, unfitchild_holds, unfitclasshandler_holds, unfitbinding_holds, secondpair_holds, openfreeze_holds, labelcycle_holds, frozencycle_holds, toolarge_holds}
use Rattle.law_typing.proofs.refusals.Goals as goal

pub returns : goal.returns
returns c = record { set_construct_only = setconstructonly_holds; unfit_pass = unfitpass_holds; unfit_handler = unfithandler_holds; unfit_child = unfitchild_holds; unfit_class_handler = unfitclasshandler_holds; unfit_binding = unfitbinding_holds; second_pair = secondpair_holds; open_freeze = openfreeze_holds; label_cycle = labelcycle_holds; frozen_cycle = frozencycle_holds; too_large = toolarge_holds }
