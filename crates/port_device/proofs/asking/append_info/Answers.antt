use Rattle.std.proofs.Common.{◌++◌, ◌∙◌, ap, append_assoc}
use Rattle.std.specs.Int.{w32, to_le_bytes}
use Rattle.index_groups.specs.Groups.{byte_number}
use Rattle.type_layout.specs.Descriptions.{area_of}
use Rattle.port_device.proofs.asking.append_info.Goals as goal

pub returns-clause-ok : goal.returns-clause-ok
returns-clause-ok c =
    let out = c.args.out.now in
    let group = to_le_bytes w32 (byte_number (area_of c.args.place.area)) in
    let offset = to_le_bytes w32 c.args.place.«at» in
    let len = to_le_bytes w32 c.args.place.len in
    c.in_ok-put32-3.ensures.ok
    ∙ ap (λ bs. bs ++ len) (c.in_ok-put32-2.ensures.ok
    ∙ ap (λ bs. bs ++ offset) (c.in_ok-put32.ensures.ok ∙ ap (λ n. out ++ to_le_bytes w32 n) c.byte_group.ensures.number))
    ∙ append_assoc (out ++ group) offset len ∙ append_assoc out group (offset ++ len)
