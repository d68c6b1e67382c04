use Rattle.std.proofs.Common.{rules, ◌∙◌}
use Rattle.ams_header.proofs.HeaderLemmas.{joined}
use Rattle.ams_header.proofs.header.put.Goals as goal

pub returns : goal.returns
returns c =
    let fields = joined c.address_array.result c.address_array-2.result c.to_le_bytes.result c.to_le_bytes-2.result
    c.to_le_bytes-3.result c.to_le_bytes-4.result c.to_le_bytes-5.result
    (search rules) (search rules) (search rules) (search rules) (search rules) (search rules) (search rules) in
    c.copy_from_slice.ensures.after ∙ fields ∙ cc
