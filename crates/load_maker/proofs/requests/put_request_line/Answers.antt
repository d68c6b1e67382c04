use Rattle.std.proofs.Common.{rules, ◌≡◌, ◌++◌}
use Rattle.spec_frames.specs.Frame.{frame_bytes}
use Rattle.ads_commands.specs.Request.{request_meant}
use Rattle.ams_header.specs.Header.{ams_header_of}
use Rattle.load_maker.specs.MadeLines.{Sends, line_text}
use Rattle.load_maker.proofs.RequestLines.{line-made}
use Rattle.load_maker.proofs.requests.put_request_line.Goals as goal

pub returns : goal.returns
returns c =
    let frame : c.put_frame.new.out ≡ frame_bytes c.put_packet.new.packet = search rules in
    let sent : c.put_sent.new.out ≡ c.args.out.now ++ line_text (Sends c.args.client c.put_frame.new.out) = search rules in
    line-made c.args.out.now c.put_sent.new.out c.put_frame.new.out c.put_packet.new.packet c.args.client c.args.id c.args.command
    c.args.len (request_meant c.args.request.now) (ams_header_of c.header_of-header.result) c.requires.command c.requires.len
    c.header_of-header.ensures c.in_ok-put_packet.ensures frame sent
