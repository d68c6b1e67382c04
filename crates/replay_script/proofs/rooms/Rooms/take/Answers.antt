-- The room of the connection falls, and all others stay.
use Rattle.std.proofs.Common.{◌-◌, ◌∙◌, sym, ap}
use Rattle.replay_script.proofs.RoomLemmas.{free_after, after_put, was_put}
use Rattle.replay_script.proofs.rooms.Rooms.take.Goals as goal

pub returns-in_default : goal.returns-in_default
returns-in_default c = λ rs holds.
    record { at = λ d. holds.at d ∙ free_after rs c.args.conn c.args.n (c.in_default.ensures ∙ holds.at c.args.conn) d }

pub returns : goal.returns
returns c = λ rs holds.
    let put = was_put c.insert.result c.insert.ensures.updates c.insert.ensures.absent (λ none. (let both = c.in-Some.ensures ∙ none in cc)) in
    record {
      at = λ d. after_put rs c.args.conn c.args.n c.in-Some.left _ c.args.self.now.map c.insert.new.self
          (sym c.in-Some.ensures) (c.saturating_sub.ensures ∙ ap (λ k. c.in-Some.left - k) c.from.ensures) put holds.at d;
    }
