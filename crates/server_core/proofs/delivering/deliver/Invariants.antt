use Rattle.std.proofs.Common.{◌≡◌, length, take, drop}
use Rattle.server_core.specs.Delivering.{delivered_each, frames_given}
use Rattle.server_core.specs.ServerView.{sessions_of}
use Rattle.server_core.proofs.delivering.deliver.Given as goal

-- the frames of the sessions before this one are given
abbrev pub invariant-loop-i : goal.invariant-loop-i
invariant-loop-i l = record {
  many : length l.sessions.items ≡ length l.initial.sessions.items;
  left : drop l.i (frames_given l.sessions.items) ≡ drop l.i (frames_given l.initial.sessions.items);
  sessions : sessions_of l.sessions.items ≡ sessions_of l.initial.sessions.items;
  outlets : l.outlets ≡ (delivered_each (take l.i (frames_given l.initial.sessions.items)) l.initial.outlets l.initial.summary).0;
  counted : l.summary ≡ (delivered_each (take l.i (frames_given l.initial.sessions.items)) l.initial.outlets l.initial.summary).1;
}
