use Rattle.std.proofs.Common.{refl}
use Rattle.server_core.specs.ServerView.{view_of}
use Rattle.server_core.proofs.OpenLemmas.{opened_again, opened_some, opens_new}
use Rattle.server_core.proofs.server.Server.open.Goals as goal

pub returns-in-Some-clause-follows : goal.returns-in-Some-clause-follows
returns-in-Some-clause-follows c = λ waves x s new.
    absurd (opened_again (view_of c.args.self.now) waves x c.args.connection c.in-Some.field-0 s c.in-Some.ensures.found new)

pub returns-in_ok-open-in-None-clause-follows : goal.returns-in_ok-open-in-None-clause-follows
returns-in_ok-open-in-None-clause-follows c = λ waves x s new.
    opens_new c.args.self.now (let s = c.args.self.now in record s { clients = c.open.new.self; summary = c.count_connection.new.self })
    c.args.connection waves x c.in_ok-open-in-None.ensures refl c.count_connection.ensures s new

pub returns-in_ok-open-in-None-clause-some : goal.returns-in_ok-open-in-None-clause-some
returns-in_ok-open-in-None-clause-some c = λ waves s.
    opened_some c.args.self.now (let s = c.args.self.now in record s { clients = c.open.new.self; summary = c.count_connection.new.self })
    c.args.connection waves c.in-None.ensures.absent c.in_ok-open-in-None.ensures refl c.count_connection.ensures s
