use Rattle.spec_machine.proofs.AreaContent.{content_is_of_tiles, reads_content, writes_content}
use Rattle.spec_machine.proofs.areas.areas_have_content.Goals as goal

pub returns-clause-tiles : goal.returns-clause-tiles
returns-clause-tiles c = content_is_of_tiles

pub returns-clause-reads : goal.returns-clause-reads
returns-clause-reads c = reads_content

pub returns-clause-writes : goal.returns-clause-writes
returns-clause-writes c = writes_content
