-- Callers on their way into threads.
use Rattle.std.specs.Prelude.{◌≡◌, ◌<◌, ◌≤◌, ℕ, true, List, length, map, Option, Some, Result, IfOk, get_or, slice_index_or}
use Rattle.std.specs.List.{All}
use Rattle.std.specs.List.Sorted.{IsStrictlyIncreasing}
use Rattle.std.specs.declared.alloc.AllocError.{AllocError}
use Rattle.durable_mark.specs.Rising.{MarkId}
use Rattle.stp_topology.specs.declared.network.Network.{Network}
use Rattle.nsi_script.specs.declared.script.Act.{Act}
use Rattle.stp_topology.specs.Sound.{IsProvider}
use Rattle.race_run.specs.Found.{is_caller}
use Rattle.race_run.specs.Scripts.{AreAsks}
use Rattle.race_judging.specs.declared.judging.Own.{Own}
use Rattle.race_judging.specs.Pairs.{second_of}
use Rattle.race_threads.specs.declared.callers.Caller.{Caller}
use Rattle.race_threads.specs.Raced.{call_of, IsKept}

-- a requester of the provider, whose pass is of that provider
pub record MayCall (t : Network) (p : ℕ) (start : Option ℕ) (mark : MarkId) (s : Caller) : Type 0 where
  pub mark_is : s.pass.mark ≡ mark
  pub call : s.job.call ≡ call_of p s.job.call.agent (second_of start)
  pub agent : s.job.call.agent < length t.agents
  pub caller : is_caller t p (Some s.job.call.agent) ≡ true

-- all that it takes to serve a caller
pub record CanServe (t : Network) (p : ℕ) (start : Option ℕ) (acts : List Act) (mark : MarkId) (s : Caller) : Type 0 where
  pub provider : IsProvider t p
  pub within : p < length t.agents
  pub printable : AreAsks acts
  pub caller : MayCall t p start mark s

abbrev pub agent_of : Caller → ℕ
agent_of s = s.job.call.agent

pub record HasCaller (callers : List Caller) (a : ℕ) : Type 0 where
  pub at : ℕ
  pub one : Caller
  pub within : at < length callers
  pub is : one ≡ get_or callers at one
  pub of : agent_of one ≡ a

-- the requesters of the provider among the first agents: each is there, once, and nobody else
pub record AreCallers (t : Network) (p : ℕ) (start : Option ℕ) (mark : MarkId) (n : ℕ) (callers : List Caller) : Type 0 where
  pub each : All (MayCall t p start mark) callers
  pub below : All (λ s. agent_of s < n) callers
  pub few : length callers ≤ n
  pub has : (a : ℕ) → a < n → is_caller t p (Some a) ≡ true → HasCaller callers a
  pub rising : IsStrictlyIncreasing (map agent_of callers)

-- what a caller's thread gives back
pub record IsServed (t : Network) (p : ℕ) (start : Option ℕ) (acts : List Act) (s : Caller) (o : Own) : Type 0 where
  pub of : o.agent ≡ s.job.call.agent
  pub kept : IsKept t p start acts o

abbrev pub ServedEach : Network → ℕ → Option ℕ → List Act → List Caller → List (Result Own AllocError) → Type 0
ServedEach t p start acts callers results =
    (i : ℕ) (s : Caller) (r : Result Own AllocError) → i < length callers → s ≡ slice_index_or callers i s → r ≡ slice_index_or results i r → IfOk r (IsServed t p start acts s)
