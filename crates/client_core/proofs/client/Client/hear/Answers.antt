use Rattle.client_core.proofs.NextLemmas.{hears_timeout, hears_broken, hears_sample, hears_result, none_left}
use Rattle.client_core.proofs.client.Client.hear.Goals as goal

pub returns-in-Some : goal.returns-in-Some
returns-in-Some c =
    hears_timeout c.args.self.now _ c.self.view_is c.take_timeout.new.us.items c.in-Some.u c.id.result c.sent.result c.timed_out.result
    c.id.ensures c.sent.ensures c.timed_out.ensures c.in-Some.ensures

pub returns-in-Some-broken : goal.returns-in-Some-broken
returns-in-Some-broken c =
    hears_broken c.args.self.now _ c.self.view_is c.take_timeout.new.us.items c.in_default.ensures
    c.in-Some-broken.peer c.in_ok-copy.copy c.in-Some-broken.is c.in_ok-copy.ensures

pub returns-in-Some-pop_front : goal.returns-in-Some-pop_front
returns-in-Some-pop_front c =
    hears_sample c.args.self.now _ c.self.view_is c.take_timeout.new.us.items c.in_default.ensures c.in_default-broken.is
    c.in-Some-pop_front.sample c.pop_front.new.self.items c.in-Some-pop_front.ensures.items c.heard.result c.heard.ensures

pub returns : goal.returns
returns c =
    hears_result c.args.self.now _ c.self.view_is c.take_timeout.new.us.items c.pop_front.new.self.items c.in_default.ensures c.in_default-broken.is
    c.in_default-pop_front.ensures.items c.hear_frames.new.self c.hear_frames.result c.hear_frames.ensures
    (none_left c.self.inside.samples.items c.pop_front.new.self.items c.in_default-pop_front.ensures.items c.in_default-pop_front.ensures.rest)
