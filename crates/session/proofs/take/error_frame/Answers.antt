use Rattle.std.proofs.Common.{refl, ◌∙◌}
use Rattle.ads_base.proofs.OctetsLemmas.{Extends-same}
use Rattle.ams_header.specs.Header.{ams_header_of}
use Rattle.session.proofs.FrameLemmas.{appends-frame, behind-old, err-then, kept-front}
use Rattle.session.proofs.RunLemmas.{ok-then, ok-both}
use Rattle.session.proofs.TakeLemmas.{error-behind}
use Rattle.session.proofs.take.error_frame.Goals as goal

pub returns-clause-frame : goal.returns-clause-frame
returns-clause-frame c = ok-then c.framed.result _ _ (λ is.
    behind-old c.args.out.now _ c.framed.new.out
    (error-behind (ams_header_of c.args.h.now) c.args.code c.number.result c.len-start.result c.args.out.now c.put_room.new.out c.framed.new.out
    c.len-start.ensures c.in_ok-put_room.ensures.long c.in_ok-put_room.ensures.begins c.number.ensures is))
    c.framed.ensures.frame

pub returns-clause-appends : goal.returns-clause-appends
returns-clause-appends c = ok-both c.framed.result _ _ _ (λ is fits.
    appends-frame c.len-start.result c.args.out.now _ c.framed.new.out c.len-start.ensures
    (error-behind (ams_header_of c.args.h.now) c.args.code c.number.result c.len-start.result c.args.out.now c.put_room.new.out c.framed.new.out
    c.len-start.ensures c.in_ok-put_room.ensures.long c.in_ok-put_room.ensures.begins c.number.ensures is) fits)
    c.framed.ensures.frame c.framed.ensures.fits

pub returns-clause-no_memory : goal.returns-clause-no_memory
returns-clause-no_memory c = err-then c.framed.result _ _ (λ cut. cut ∙
    kept-front c.args.out.now c.put_room.new.out c.put_room.new.out c.len-start.result c.len-start.ensures c.in_ok-put_room.ensures.long
    c.in_ok-put_room.ensures.begins (Extends-same _ _ refl))
    c.framed.ensures.cut
