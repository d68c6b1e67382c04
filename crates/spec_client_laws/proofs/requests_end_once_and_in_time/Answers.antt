use Rattle.spec_client_laws.proofs.FateLemmas.{answers_are_of_requests, timeouts_are_of_requests, waiting_time_out_in_time}
use Rattle.spec_client_laws.proofs.CountLemmas.{requests_end_once}
use Rattle.spec_client_laws.proofs.requests_end_once_and_in_time.Goals as goal

pub returns-clause-once : goal.returns-clause-once
returns-clause-once c = requests_end_once

pub returns-clause-answers : goal.returns-clause-answers
returns-clause-answers c = answers_are_of_requests

pub returns-clause-timeouts : goal.returns-clause-timeouts
returns-clause-timeouts c = timeouts_are_of_requests

pub returns-clause-in_time : goal.returns-clause-in_time
returns-clause-in_time c = waiting_time_out_in_time
