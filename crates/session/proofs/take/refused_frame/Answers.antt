use Rattle.std.proofs.Common.{refl, ◌∙◌}
use Rattle.ads_base.proofs.OctetsLemmas.{Extends-same, Extends-append}
use Rattle.ads_commands.specs.Reply.{reply_meant}
use Rattle.ams_header.specs.Header.{ams_header_of}
use Rattle.spec_formats.specs.Reply.{written_bytes}
use Rattle.session.proofs.FrameLemmas.{appends-frame, behind-old, err-then, kept-front}
use Rattle.session.proofs.RunLemmas.{ok-then, ok-both}
use Rattle.session.proofs.TakeLemmas.{refused-behind}
use Rattle.session.proofs.take.refused_frame.Goals as goal

pub returns-in-Ok-clause-frame : goal.returns-in-Ok-clause-frame
returns-in-Ok-clause-frame c = ok-then c.framed.result _ _ (λ is.
    behind-old c.args.out.now _ c.framed.new.out
    (refused-behind (ams_header_of c.args.h.now) c.len-start.result c.args.out.now c.put_room.new.out c.put_reply.new.out
    (written_bytes (reply_meant c.refusal_of.result)) c.framed.new.out c.len-start.ensures c.in_ok-put_room.ensures.long c.in_ok-put_room.ensures.begins
    c.in-Ok.ensures.ok c.refusal_of.ensures.refused is))
    c.framed.ensures.frame

pub returns-in-Ok-clause-appends : goal.returns-in-Ok-clause-appends
returns-in-Ok-clause-appends c = ok-both c.framed.result _ _ _ (λ is fits.
    appends-frame c.len-start.result c.args.out.now _ c.framed.new.out c.len-start.ensures
    (refused-behind (ams_header_of c.args.h.now) c.len-start.result c.args.out.now c.put_room.new.out c.put_reply.new.out
    (written_bytes (reply_meant c.refusal_of.result)) c.framed.new.out c.len-start.ensures c.in_ok-put_room.ensures.long c.in_ok-put_room.ensures.begins
    c.in-Ok.ensures.ok c.refusal_of.ensures.refused is)
    fits)
    c.framed.ensures.frame c.framed.ensures.fits

pub returns-in-Ok-clause-no_memory : goal.returns-in-Ok-clause-no_memory
returns-in-Ok-clause-no_memory c = err-then c.framed.result _ _ (λ cut. cut ∙
    kept-front c.args.out.now c.put_room.new.out c.put_reply.new.out c.len-start.result c.len-start.ensures c.in_ok-put_room.ensures.long
    c.in_ok-put_room.ensures.begins
    (Extends-append _ _ (written_bytes (reply_meant c.refusal_of.result)) _ (Extends-same _ _ refl) c.in-Ok.ensures.ok))
    c.framed.ensures.cut
