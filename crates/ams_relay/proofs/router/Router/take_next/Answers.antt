use Rattle.std.proofs.Common.{refl, sym, ◌∙◌}
use Rattle.ams_relay.proofs.TakingLemmas.{history_of, ends_closing, frame_taken, passed_on, ends_open, ends_broken}
use Rattle.ams_relay.proofs.router.Router.take_next.Goals as goal

pub returns-then-is_closing-clause-takes : goal.returns-then-is_closing-clause-takes
returns-then-is_closing-clause-takes c = λ b s w.
    ends_closing c.args.from.number c.args.from.place c.args.stream.now b c.args.self.now s w c.requires.entry (sym c.is_closing.ensures ∙ c.if-is_closing.true)

pub returns-in_ok-pass-in-Frame-clause-takes : goal.returns-in_ok-pass-in-Frame-clause-takes
returns-in_ok-pass-in-Frame-clause-takes c = λ b s w.
    let old = c.args.self.now in
    let seat = c.args.from in
    let held = c.args.stream.now in
    let h = history_of held w.connection in
    let mid = record old { counts = c.count_frame.new.self } in
    let taken = frame_taken seat.number b w.connection old mid s w.holds w.found refl c.count_frame.ensures in
    passed_on seat.number seat.place c.in-Frame.packet.now b held c.pass_frame.new.self old mid c.pass.new.self s w c.requires.entry
    (sym c.is_closing.ensures ∙ c.if-is_closing.false) (c.in-Frame.ensures.answer h w.stream) (c.pass_frame.ensures.stands h w.stream) taken
    c.in_ok-pass-in-Frame.ensures.follows

pub returns-in-NotYet-clause-takes : goal.returns-in-NotYet-clause-takes
returns-in-NotYet-clause-takes c = λ b s w.
    ends_open c.args.from.number c.args.stream.now b c.args.self.now s w (c.in-NotYet.ensures.answer (history_of c.args.stream.now w.connection) w.stream)

pub returns-in-Broken-clause-takes : goal.returns-in-Broken-clause-takes
returns-in-Broken-clause-takes c = λ b s w.
    ends_broken c.args.from.number c.args.stream.now b c.args.self.now c.close.new.self s w
    (c.in-Broken.ensures.answer (history_of c.args.stream.now w.connection) w.stream) (c.close.ensures.follows b s w.holds)
