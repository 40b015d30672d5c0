use Rattle.std.proofs.Common.{◌≡◌, ◌++◌, take, drop}
use Rattle.nsi_play.specs.Rounds.{meets_each}
use Rattle.agent_threads.specs.Nets.{seats}
use Rattle.agent_threads.specs.Made.{Stays, met_by_each}
use Rattle.agent_threads.proofs.Places.{UpTo}
use Rattle.agent_threads.proofs.OneMeets.{LinksTo}
use Rattle.agent_threads.proofs.meeting.meet_rest.Given as goal

abbrev pub invariant-loop-other : goal.invariant-loop-other
invariant-loop-other g l = record {
  first : meets_each l.first.seat (seats (drop l.other-index l.rest)) ≡ meets_each l.fn.first.seat (seats l.fn.rest);
  rest : seats (take l.other-index l.rest) ++ met_by_each l.first.seat (seats (drop l.other-index l.rest)) ≡ met_by_each l.fn.first.seat (seats l.fn.rest);
  stays : Stays l.fn.first l.first;
  up : UpTo Stays l.fn.rest l.rest l.other-index;
  links : LinksTo l.fn.first l.first l.fn.rest l.rest;
}
