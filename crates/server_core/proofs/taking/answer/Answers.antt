use Rattle.std.proofs.Common.{◌≤◌, ◌<◌, ℕ, List, length, drop, refl, subst, sym, ◌∙◌, arith}
use Rattle.session.specs.declared.told.Told.{Told}
use Rattle.session.specs.declared.taken.Taken.TheVariants as taken
use Rattle.session.specs.Takes.{IsAnswer, FitsFrame, taken_of}
use Rattle.spec_machine.specs.Device.{Reply}
use Rattle.spec_machine.specs.Piece.{with_client}
use Rattle.out_queue.specs.Open.{tail_of}
use Rattle.out_queue.specs.declared.open_queue.OpenQueue.{OpenQueue}
use Rattle.out_queue.proofs.OpenLemmas.{written, unwritten}
use Rattle.server_core.specs.declared.device.Device.{Device}
use Rattle.server_core.specs.Served.{served}
use Rattle.server_core.specs.Stands.{conn_of}
use Rattle.server_core.proofs.ProduceLemmas.{Produces}
use Rattle.server_core.proofs.WrittenLemmas.{appends_frame, silent_appends, close_appends, waits_produces}
use Rattle.server_core.proofs.TakingLemmas.{took_packet, held_after, stands_after, connected_after, stands_with_client, on_ok}
use Rattle.server_core.proofs.TakingLemmas.{goes_reply, goes_silent, goes_close}
use Rattle.server_core.proofs.taking.answer.Goals as goal

pub reply-requires-clause-queue : goal.reply-requires-clause-queue
reply-requires-clause-queue c =
    let queue = c.args.queue.now in
    let clear = c.requires.queue in
    let bytes = c.take_onto.new.out in
    let frame = drop (length queue.bytes) bytes in
    let behind = written queue frame bytes clear.is_open clear.tail
    (appends_frame c.in_ok-take_onto.field-0 queue.bytes bytes c.in-Answer.is c.in_ok-take_onto.ensures.appends) in
    behind.open_

pub returns-in-Answer-clause-goes : goal.returns-in-Answer-clause-goes
returns-in-Answer-clause-goes c =
    let queue = c.args.queue.now in
    let clear = c.requires.queue in
    let bytes = c.take_onto.new.out in
    let frame = drop (length queue.bytes) bytes in
    let behind = written queue frame bytes clear.is_open clear.tail
    (appends_frame c.in_ok-take_onto.field-0 queue.bytes bytes c.in-Answer.is c.in_ok-take_onto.ensures.appends) in
    let fits : FitsFrame (taken.Answer frame) = subst (λ (t : Told). FitsFrame (taken_of t frame)) c.in-Answer.is c.in_ok-take_onto.ensures.fits in
    let headed : 38 ≤ length frame = fits.0 in
    on_ok c.reply.result (λ waits. λ stream x held st.
    let packet = c.args.packet.now in
    let closes = c.args.closes.now in
    let conn = conn_of stream c.args.session.now queue closes in
    let o = served.take x.world x.connection.client packet in
    let device : Device = (let d = c.args.device.now in record d { ports = c.take_onto.new.ports }) in
    let is_open = sym st.outlet.closing ∙ c.requires.open in
    let takes = took_packet x.world x.connection.client packet (taken_of c.in_ok-take_onto.field-0 frame) c.take_onto.new.ports c.take_onto.new.self
    (c.in_ok-take_onto.ensures.takes x.world x.connection.client held.ports (st.client is_open) held.address) in
    let after = stands_after x.world x.connection.client packet c.take_onto.new.self takes.stands in
    let end = held_after c.args.device.now device x.world x.connection.client packet held takes.held refl refl in
    let filled : OpenQueue = record queue { bytes = bytes } in
    let mid = conn_of stream c.take_onto.new.self filled closes in
    let new = conn_of stream c.take_onto.new.self c.reply.new.queue c.reply.new.closes in
    let k = with_client o.client x.connection in
    let stands = stands_with_client x.world.plant conn mid x.connection o.client st refl after behind.frames_ refl in
    let produces = waits_produces (tail_of filled) mid.outlet new.outlet c.args.summary.now c.reply.new.summary k waits stands.outlet
    (subst (λ (bs : List ℕ). 0 < length bs) (sym behind.tail) (omega (arith, headed))) in
    goes_reply mid new device c.args.summary.now c.reply.new.summary packet frame x
    (subst (λ (t : Told). IsAnswer o.answer (taken_of t frame)) c.in-Answer.is takes.answered) stands refl refl
    (subst (λ (bs : List ℕ). Produces new.outlet c.args.summary.now c.reply.new.summary (Reply bs) k) behind.tail produces) end) c.reply.ensures.waits

pub returns-in-Answer-clause-connected : goal.returns-in-Answer-clause-connected
returns-in-Answer-clause-connected c =
    on_ok c.reply.result (λ waits.
    let k = c.requires.connected in
    let frame = drop (length c.args.queue.now.bytes) c.take_onto.new.out in
    let device : Device = (let d = c.args.device.now in record d { ports = c.take_onto.new.ports }) in
    connected_after c.args.device.now device c.args.session.now c.take_onto.new.self c.args.packet.now k
    (taken_of c.in_ok-take_onto.field-0 frame)
    (c.in_ok-take_onto.ensures.takes k.world k.client k.held.ports k.stands k.held.address) refl refl) c.reply.ensures.waits

pub returns-in-Silent-clause-goes : goal.returns-in-Silent-clause-goes
returns-in-Silent-clause-goes c =
    let queue = c.args.queue.now in
    let clear = c.requires.queue in
    let bytes = c.take_onto.new.out in
    let frame = drop (length queue.bytes) bytes in
    let behind = unwritten queue bytes clear.is_open clear.tail
    (silent_appends c.in_ok-take_onto.field-0 queue.bytes bytes c.in-Silent.is c.in_ok-take_onto.ensures.appends) in
    λ stream x held st.
    let packet = c.args.packet.now in
    let closes = c.args.closes.now in
    let conn = conn_of stream c.args.session.now queue closes in
    let o = served.take x.world x.connection.client packet in
    let device : Device = (let d = c.args.device.now in record d { ports = c.take_onto.new.ports }) in
    let is_open = sym st.outlet.closing ∙ c.requires.open in
    let takes = took_packet x.world x.connection.client packet (taken_of c.in_ok-take_onto.field-0 frame) c.take_onto.new.ports c.take_onto.new.self
    (c.in_ok-take_onto.ensures.takes x.world x.connection.client held.ports (st.client is_open) held.address) in
    let after = stands_after x.world x.connection.client packet c.take_onto.new.self takes.stands in
    let end = held_after c.args.device.now device x.world x.connection.client packet held takes.held refl refl in
    let new = conn_of stream c.take_onto.new.self (record queue { bytes = bytes }) closes in
    let stands = stands_with_client x.world.plant conn new x.connection o.client st refl after behind.frames_ refl in
    goes_silent new device c.args.summary.now packet x (subst (λ (t : Told). IsAnswer o.answer (taken_of t frame)) c.in-Silent.is takes.answered) stands end

pub returns-in-Silent-clause-connected : goal.returns-in-Silent-clause-connected
returns-in-Silent-clause-connected c =
    let k = c.requires.connected in
    let frame = drop (length c.args.queue.now.bytes) c.take_onto.new.out in
    let device : Device = (let d = c.args.device.now in record d { ports = c.take_onto.new.ports }) in
    connected_after c.args.device.now device c.args.session.now c.take_onto.new.self c.args.packet.now k
    (taken_of c.in_ok-take_onto.field-0 frame)
    (c.in_ok-take_onto.ensures.takes k.world k.client k.held.ports k.stands k.held.address) refl refl

pub returns-in-Close-clause-goes : goal.returns-in-Close-clause-goes
returns-in-Close-clause-goes c =
    let queue = c.args.queue.now in
    let clear = c.requires.queue in
    let bytes = c.take_onto.new.out in
    let frame = drop (length queue.bytes) bytes in
    let behind = unwritten queue bytes clear.is_open clear.tail
    (close_appends c.in_ok-take_onto.field-0 queue.bytes bytes c.in-Close.is c.in_ok-take_onto.ensures.appends) in
    λ stream x held st.
    let packet = c.args.packet.now in
    let closes = c.args.closes.now in
    let conn = conn_of stream c.args.session.now queue closes in
    let o = served.take x.world x.connection.client packet in
    let device : Device = (let d = c.args.device.now in record d { ports = c.take_onto.new.ports }) in
    let is_open = sym st.outlet.closing ∙ c.requires.open in
    let takes = took_packet x.world x.connection.client packet (taken_of c.in_ok-take_onto.field-0 frame) c.take_onto.new.ports c.take_onto.new.self
    (c.in_ok-take_onto.ensures.takes x.world x.connection.client held.ports (st.client is_open) held.address) in
    let after = stands_after x.world x.connection.client packet c.take_onto.new.self takes.stands in
    let end = held_after c.args.device.now device x.world x.connection.client packet held takes.held refl refl in
    let mid = conn_of stream c.take_onto.new.self queue closes in
    let stands = stands_with_client x.world.plant conn mid x.connection o.client st refl after refl refl in
    goes_close mid _ device c.args.summary.now packet x (subst (λ (t : Told). IsAnswer o.answer (taken_of t frame)) c.in-Close.is takes.answered)
    stands refl behind.frames_ refl end

pub returns-in-Close-clause-connected : goal.returns-in-Close-clause-connected
returns-in-Close-clause-connected c =
    let k = c.requires.connected in
    let frame = drop (length c.args.queue.now.bytes) c.take_onto.new.out in
    let device : Device = (let d = c.args.device.now in record d { ports = c.take_onto.new.ports }) in
    connected_after c.args.device.now device c.args.session.now c.take_onto.new.self c.args.packet.now k
    (taken_of c.in_ok-take_onto.field-0 frame)
    (c.in_ok-take_onto.ensures.takes k.world k.client k.held.ports k.stands k.held.address) refl refl
