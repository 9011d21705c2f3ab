-- Each request is carried out well.
use Rattle.ui_machine.specs.State.Tasks as config
use Rattle.law_steps.proofs.Tasked.AskedProofs.{set_request_fine, emit_request_fine}
use Rattle.law_steps.proofs.Tasked.CarryingProofs.{get_fine, release_fine}
use Rattle.law_steps.proofs.Tasked.First.{fine_of}
use Rattle.law_steps.specs.Tasked.Handling.{RequestsAreFine}

pub requests_are_fine : RequestsAreFine
requests_are_fine (config.set place slot given) = fine_of (λ d t. set_request_fine place slot given t)
requests_are_fine (config.get place slot) = fine_of (λ d t. get_fine place slot t)
requests_are_fine (config.emit place number args detail) = fine_of (λ d t. emit_request_fine place number args detail t)
requests_are_fine (config.release place) = fine_of (λ d t. release_fine place t)
