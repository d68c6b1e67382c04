use Rattle.port_device.proofs.port.Port.read_upload.Goals as goal

pub returns-in-Types-clause-answer : goal.returns-in-Types-clause-answer
returns-in-Types-clause-answer c = rw c.in-Types.is c.read_types.ensures.answer

pub returns-in-InfoWithTypes-clause-answer : goal.returns-in-InfoWithTypes-clause-answer
returns-in-InfoWithTypes-clause-answer c = rw c.in-InfoWithTypes.is c.read_all_sizes.ensures.answer
