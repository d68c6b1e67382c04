use Rattle.std.proofs.Common.{◌++◌, List, ℕ, drop, ◌+◌, sym, ◌∙◌, ap, subst}
use Rattle.spec_formats.specs.Codes.{no_error}
use Rattle.spec_formats.specs.Header.{AmsHeader, payload_of}
use Rattle.spec_frames.specs.Frame.{frame_bytes}
use Rattle.spec_machine.specs.Replies.{response_packet}
use Rattle.ams_header.specs.Header.{ams_header_of}
use Rattle.sym_handles.specs.Kept.{Kept}
use Rattle.session.specs.declared.plain.Plain.TheVariants as plain
use Rattle.session.specs.Asks.{Asks}
use Rattle.session.specs.Plain.{RunsWhole, plain_meant}
use Rattle.session.specs.Runs.{AsksSession}
use Rattle.session.specs.SessionState.{SessionState}
use Rattle.session.proofs.FrameLemmas.{appends-frame, err-then}
use Rattle.session.proofs.RunLemmas.{ok-then, ok-both, asks-of}
use Rattle.session.proofs.PlainLemmas.{read-behind, read-whole, same-header}
use Rattle.session.proofs.session.Session.read_behind.Goals as goal

pub framed-requires : goal.framed-requires
framed-requires c =
    let a = c.requires.some.asking in
    let K : Kept → Type 0 = λ k. Asks a c.args.port.now k in
    let asks = subst K (sym (ap (λ (s : SessionState). s.handles) c.self.view_is)) c.requires.some.asks in
    let x = c.read_in-asked.result in
    (read-behind a x.group x.offset x.len c.len-start.result c.args.out.now c.put_room.new.out c.read_reply.new.out c.len-start.ensures
    c.in_ok-put_room.ensures.long c.in_ok-put_room.ensures.begins (c.in-Ok.ensures.reply a asks)).1

pub returns-in-Ok-clause-whole : goal.returns-in-Ok-clause-whole
returns-in-Ok-clause-whole c = ok-then c.framed.result _ _ (λ said a h is asks.
    let S : SessionState → Type 0 = λ s. AsksSession a c.args.port.now s in
    let x = c.read_in-asked.result in
    let own = ams_header_of c.header_in-h.result in
    let reply = c.in-Ok.ensures.reply a (asks-of a _ _ (subst S (sym c.self.view_is) asks)) in
    let meant = c.read_in-asked.ensures ∙ ap (plain_meant plain.Read) c.payload_in.ensures in
    let asked = plain_meant plain.Read (payload_of c.args.ams.now) in
    let R : AmsHeader → Type 0 = λ k. RunsWhole a k asked c.args.out.now c.framed.new.out c.args.port.now c.args.self.now in
    subst R (same-header c.args.ams.now own h c.header_in-h.ensures.header is)
    (read-whole a own _ x.group x.offset x.len c.len-start.result c.args.port.now c.args.self.now c.args.out.now c.put_room.new.out
    c.read_reply.new.out c.framed.new.out asks meant c.len-start.ensures c.in_ok-put_room.ensures.long c.in_ok-put_room.ensures.begins reply said))
    c.framed.ensures.frame

pub returns-in-Ok-clause-appends : goal.returns-in-Ok-clause-appends
returns-in-Ok-clause-appends c =
    let a = c.requires.some.asking in
    let K : Kept → Type 0 = λ k. Asks a c.args.port.now k in
    let asks = subst K (sym (ap (λ (s : SessionState). s.handles) c.self.view_is)) c.requires.some.asks in
    let x = c.read_in-asked.result in
    let kept = (read-behind a x.group x.offset x.len c.len-start.result c.args.out.now c.put_room.new.out c.read_reply.new.out c.len-start.ensures
    c.in_ok-put_room.ensures.long c.in_ok-put_room.ensures.begins (c.in-Ok.ensures.reply a asks)).0 in
    let frame : List ℕ = frame_bytes (response_packet (ams_header_of c.header_in-h.result) no_error (drop (c.len-start.result + 38) c.read_reply.new.out)) in
    ok-both c.framed.result _ _ _ (λ is fits.
    appends-frame c.len-start.result c.args.out.now frame c.framed.new.out c.len-start.ensures (is ∙ ap (λ x. x ++ frame) kept) fits)
    c.framed.ensures.frame c.framed.ensures.fits

pub returns-in-Ok-clause-no_memory : goal.returns-in-Ok-clause-no_memory
returns-in-Ok-clause-no_memory c =
    let a = c.requires.some.asking in
    let K : Kept → Type 0 = λ k. Asks a c.args.port.now k in
    let asks = subst K (sym (ap (λ (s : SessionState). s.handles) c.self.view_is)) c.requires.some.asks in
    let x = c.read_in-asked.result in
    let kept = (read-behind a x.group x.offset x.len c.len-start.result c.args.out.now c.put_room.new.out c.read_reply.new.out c.len-start.ensures
    c.in_ok-put_room.ensures.long c.in_ok-put_room.ensures.begins (c.in-Ok.ensures.reply a asks)).0 in
    err-then c.framed.result _ _ (λ cut. cut ∙ kept) c.framed.ensures.cut
