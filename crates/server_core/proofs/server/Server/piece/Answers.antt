use Rattle.std.proofs.Common.{refl, sym, ap, ◌∙◌, arith}
use Rattle.std.proofs.Common.{false}
use Rattle.connections.specs.Outlets.{change_at, holding}
use Rattle.server_core.specs.ServerView.{view_of}
use Rattle.server_core.specs.Stands.{conn_of}
use Rattle.server_core.proofs.PieceLemmas.{inside, is_connected, session_read, session_set, stream_read}
use Rattle.server_core.proofs.ServeLemmas.{piece_absent, piece_closing, piece_follows}
use Rattle.server_core.proofs.TakingLemmas.{on_ok}
use Rattle.server_core.proofs.server.Server.piece.Goals as goal

pub returns-in_default-clause-follows : goal.returns-in_default-clause-follows
returns-in_default-clause-follows c = λ waves x s.
    piece_absent (view_of c.args.self.now) waves x c.args.connection c.args.bytes.now s c.in_default.ensures.absent

pub returns-then-is_closing-clause-follows : goal.returns-then-is_closing-clause-follows
returns-then-is_closing-clause-follows c = λ waves x s.
    piece_closing (view_of c.args.self.now) waves x c.args.connection c.in-Some.i c.args.bytes.now s c.in-Some.ensures.found
    (sym c.is_closing.ensures ∙ c.if-is_closing.true)

pub index_mut-stream-requires : goal.index_mut-stream-requires
index_mut-stream-requires c =
    let v = view_of c.args.self.now in
    let all = inside v c.args.self.now.clients.sessions.items c.args.connection c.in-Some.i c.requires refl c.in-Some.ensures.found in
    omega (arith, all.streams)

pub index_mut-turned-requires : goal.index_mut-turned-requires
index_mut-turned-requires c =
    let v = view_of c.args.self.now in
    let all = inside v c.args.self.now.clients.sessions.items c.args.connection c.in-Some.i c.requires refl c.in-Some.ensures.found in
    omega (arith, all.sessions)

pub take_fed-taken-requires-clause-connected : goal.take_fed-taken-requires-clause-connected
take_fed-taken-requires-clause-connected c =
    let v = view_of c.args.self.now in
    let ts = c.args.self.now.clients.sessions.items in
    let t = c.index_mut-turned.result.now in
    let all = inside v ts c.args.connection c.in-Some.i c.requires refl c.in-Some.ensures.found in
    is_connected v c.args.connection c.in-Some.i t.session c.requires c.in-Some.ensures.found
    (session_read ts c.in-Some.i t all.sessions c.index_mut-turned.ensures.value)
    (sym c.is_closing.ensures ∙ c.if-is_closing.false)

pub returns-clause-follows : goal.returns-clause-follows
returns-clause-follows c = on_ok c.take_fed-taken.result (λ goes. λ waves x s.
    let clients = c.args.self.now.clients in
    let all = inside (view_of c.args.self.now) clients.sessions.items c.args.connection c.in-Some.i c.requires refl c.in-Some.ensures.found in
    let i = c.in-Some.i in
    let h = c.index_mut-stream.result.now in
    let t = c.index_mut-turned.result.now in
    let conn = conn_of h t.session c.in_ok-queue.queue false in
    let new = conn_of c.take_fed-taken.new.stream c.take_fed-taken.new.session c.take_fed-taken.new.queue c.take_fed-taken.new.closes in
    piece_follows (view_of c.args.self.now) _ waves x c.args.connection i conn new c.args.bytes.now s c.in-Some.ensures.found
    (stream_read clients.streams.items i h all.streams c.index_mut-stream.ensures.value)
    (session_read clients.sessions.items i t all.sessions c.index_mut-turned.ensures.value)
    c.in_ok-queue.ensures.frames (sym c.is_closing.ensures ∙ c.if-is_closing.false) refl goes c.take_fed-taken.ensures.device
    (c.close_queue.ensures ∙ ap (change_at (holding new.outlet.out new.outlet.closing) i) c.in_ok-queue.ensures.rest) refl
    (session_set clients.sessions.items i _)) c.take_fed-taken.ensures.goes
