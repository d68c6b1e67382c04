use Rattle.std.proofs.Common.{ap}
use Rattle.ads_commands.specs.Request.{request_meant}
use Rattle.ads_commands.proofs.Appends.{write_parts, addition_parts}
use Rattle.ads_commands.proofs.request_writing.append_request.Goals as goal

pub returns-in_ok-put-in-Write-clause-ok : goal.returns-in_ok-put-in-Write-clause-ok
returns-in_ok-put-in-Write-clause-ok c = write_parts (request_meant c.args.r.now) c.args.out.now c.in-Write.group c.in-Write.offset c.in-Write.bytes.now
    c.append_access-in-Write.new.out c.put.new.self (ap request_meant c.in-Write.is) c.in_ok-append_access-in-Write.ensures.ok c.in_ok-put-in-Write.ensures.ok

pub returns-in_ok-put-in-Add-clause-ok : goal.returns-in_ok-put-in-Add-clause-ok
returns-in_ok-put-in-Add-clause-ok c = addition_parts (request_meant c.args.r.now) c.args.out.now c.in-Add.group c.in-Add.offset c.in-Add.len
    c.in-Add.mode c.in-Add.delay c.in-Add.cycle c.append_access-in-Add.new.out c.append_access-in-Add-2.new.out c.put-in-Add.new.self
    (ap request_meant c.in-Add.is) c.in_ok-append_access-in-Add.ensures.ok c.in_ok-append_access-in-Add-2.ensures.ok c.in_ok-put-in-Add.ensures.ok
