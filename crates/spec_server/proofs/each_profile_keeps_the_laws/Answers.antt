use Rattle.spec_server.proofs.ServerProofs.{server_keeps_profile, server_is_strict, each_plays_in_turns, each_is_isolated}
use Rattle.spec_server.proofs.ServerProofs.{each_takes_as_alone, each_state_fits, each_replies_fit}
use Rattle.spec_server.proofs.each_profile_keeps_the_laws.Goals as goal

pub returns-clause-profile : goal.returns-clause-profile
returns-clause-profile c = server_keeps_profile

pub returns-clause-strict : goal.returns-clause-strict
returns-clause-strict c = server_is_strict

pub returns-clause-turns : goal.returns-clause-turns
returns-clause-turns c = each_plays_in_turns

pub returns-clause-alone : goal.returns-clause-alone
returns-clause-alone c = each_is_isolated

pub returns-clause-taken : goal.returns-clause-taken
returns-clause-taken c = each_takes_as_alone

pub returns-clause-states : goal.returns-clause-states
returns-clause-states c = each_state_fits

pub returns-clause-replies : goal.returns-clause-replies
returns-clause-replies c = each_replies_fit
