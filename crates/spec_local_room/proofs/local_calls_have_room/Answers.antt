use Rattle.spec_local_room.proofs.LocalAnswers.{local_calls_have_room, local_calls_are_one, local_links_are_one, local_calls_end}
use Rattle.spec_local_room.proofs.Beginnings.{local_calls_begin, local_links_begin}
use Rattle.spec_local_room.proofs.local_calls_have_room.Goals as goal

pub returns-clause-room : goal.returns-clause-room
returns-clause-room c = local_calls_have_room

pub returns-clause-one : goal.returns-clause-one
returns-clause-one c = local_calls_are_one

pub returns-clause-link : goal.returns-clause-link
returns-clause-link c = local_links_are_one

pub returns-clause-begins : goal.returns-clause-begins
returns-clause-begins c = local_calls_begin

pub returns-clause-link_begins : goal.returns-clause-link_begins
returns-clause-link_begins c = local_links_begin

pub returns-clause-ends : goal.returns-clause-ends
returns-clause-ends c = local_calls_end
