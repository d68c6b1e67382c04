use Rattle.spec_machine.proofs.Reloaded.{begins_with_first_image, reloads_image, reloads_new_port}
use Rattle.spec_machine.proofs.areas.worlds_begin_with_images.Goals as goal

pub returns-clause-first : goal.returns-clause-first
returns-clause-first c = begins_with_first_image

pub returns-clause-reloaded : goal.returns-clause-reloaded
returns-clause-reloaded c = reloads_image

pub returns-clause-new_port : goal.returns-clause-new_port
returns-clause-new_port c = reloads_new_port
