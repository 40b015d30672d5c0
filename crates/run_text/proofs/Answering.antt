-- What is entered in a run is taken. So an ask is answered, and nothing else is.
use Rattle.std.proofs.Common.{ℕ, ◌+◌, ◌≤◌, ◌<◌, ◌≡◌, ◌↔◌, Bool, true, false, List, [], ◌∷◌, Option, Some, None, IsTrue, IsSome, length, refl, sym, ap, subst, arith}
use Rattle.std.proofs.lemmas.Bool.Decides.{nat_tests}
use Rattle.nsi_primitive.specs.Printable.{IsPrintableHappening, is_ask}
use Rattle.nsi_primitive.specs.declared.ask.Ask.{Ask}
use Rattle.nsi_primitive.specs.declared.ask.AskAnswer.{AskAnswer}
use Rattle.nsi_primitive.specs.declared.entry.Entry.{Entry}
use Rattle.nsi_primitive.specs.declared.entry.Happening.{Happening}
use Rattle.nsi_primitive.specs.declared.entry.Input.{Input}
use Rattle.stp_topology.specs.Network.{kind_of}
use Rattle.stp_topology.specs.declared.network.AgentKind.{AgentKind}
use Rattle.stp_topology.specs.declared.network.Network.{Network}
use Rattle.agent_state.specs.Entries.{is_on_time, most_entries}
use Rattle.agent_state.specs.State.{AgentState, AgentStepped, blank_agent}
use Rattle.nsi_agent.specs.Homes.{Home, Routes, home_in, role_in}
use Rattle.nsi_agent.specs.Steps.{after, may_take, may_take_as}
use Rattle.nsi_agent.specs.Told.{goes_on, told}
use Rattle.nsi_agent.proofs.Staying.{entries_are_taken, others_are_left_out}
use Rattle.agent_node.specs.Seated.{is_for}
use Rattle.agent_node.proofs.Allowed.{allowed, acked_for, force_for, got_for, tick_for, work_for}
use Rattle.agent_node.proofs.Answered.{answered}
use Rattle.nsi_world.specs.Worlds.{World}
use Rattle.nsi_world.specs.Runs.{IsEntered, IsInTime, MayCome, MayHappen, is_requester}

---- No more is taken than the journal has

taken_one : (h : Home) (s : AgentState) (e : Entry) → (after h s e).state.base.taken ≤ s.base.taken + 1
taken_one h s e = by (may_take_as h.role s e) refl
  where
    by : (b : Bool) → may_take_as h.role s e ≡ b → (after h s e).state.base.taken ≤ s.base.taken + 1
    by true may = omega (arith, (entries_are_taken h s e may).taken)
    by false may = omega (arith, ap (λ (x : AgentStepped). x.state.base.taken) (others_are_left_out h s e may))

pub taken_among : (h : Home) (s : AgentState) (es : List Entry) → (goes_on h s es).state.base.taken ≤ s.base.taken + length es
unfolding goes_on
taken_among h s [] = omega arith
taken_among h s (e ∷ es) = omega (arith, taken_one h s e, taken_among h (after h s e).state es)

---- What comes is for the agent, and in time

pub timely : (input : Input) (second now : ℕ) → IsInTime input second now → is_on_time input second now ≡ true
timely Input.Tick second now h = grind (arith, nat_tests, h)
timely (Input.Got m) second now h = grind (arith, nat_tests, h)
timely (Input.Work n machine) second now h = grind (arith, nat_tests, h)
timely (Input.Force n) second now h = grind (arith, nat_tests, h)
timely (Input.Acked i) second now h = grind (arith, nat_tests, h)
timely (Input.Ask n ask) second now h = grind (arith, nat_tests, h)

ask_for : (o : Option AgentKind) (t : Network) (routes : Routes) (a n : ℕ) (ask : Ask) → is_requester (role_in o t routes a) ≡ true → is_for o (Input.Ask n ask) ≡ true
ask_for (Some (AgentKind.Provider hold)) t routes a n ask h = absurd (cc)
ask_for (Some (AgentKind.Requester provider)) t routes a n ask h = refl
ask_for (Some AgentKind.Aggregator) t routes a n ask h = absurd (cc)
ask_for None t routes a n ask h = absurd (cc)

input_for : (t : Network) (routes : Routes) (w : World) (a : ℕ) (input : Input) → MayCome (home_in t routes) w a input → is_for (kind_of t a) input ≡ true
unfolding home_in
input_for t routes w a (Input.Ask n ask) h = ask_for (kind_of t a) t routes a n ask h
input_for t routes w a (Input.Got m) h = got_for (kind_of t a) m
input_for t routes w a (Input.Work n machine) h = work_for (kind_of t a) n machine
input_for t routes w a Input.Tick h = tick_for (kind_of t a)
input_for t routes w a (Input.Force n) h = force_for (kind_of t a) n
input_for t routes w a (Input.Acked i) h = acked_for (kind_of t a) i

---- It is taken, and answered

abbrev state_at : Network → Routes → World → ℕ → AgentState
state_at t routes w a = (told (home_in t routes a) (w.journal a)).state

is_taken : (t : Network) (routes : Routes) (w : World) (a : ℕ) (e : Entry) (answer : Option AskAnswer) → length (w.journal a) < most_entries → IsEntered (home_in t routes) w a e answer
    → may_take (kind_of t a) (state_at t routes w a) e ≡ true
is_taken t routes w a e answer room is =
    let few : (state_at t routes w a).base.taken < most_entries = omega (arith, room, taken_among (home_in t routes a) blank_agent (w.journal a)) in
    allowed (kind_of t a) (state_at t routes w a) e.second e.input few (input_for t routes w a e.input is.comes) (timely e.input e.second (state_at t routes w a).base.now is.in_time)

pub prints : (t : Network) (routes : Routes) (w : World) (a : ℕ) (what : Happening) → MayHappen (home_in t routes) w a what → IsPrintableHappening what
prints t routes w a (Happening.Entry e answer) may = record {
  entry = may.1.printable;
  answered =
      subst (λ (x : Option AskAnswer). IsTrue (is_ask e.input) ↔ IsSome x) (sym may.1.answered)
      (answered t routes a (state_at t routes w a) e (is_taken t routes w a e answer may.0 may.1));
}
prints t routes w a (Happening.Sync count) may = tt
prints t routes w a (Happening.Restart count) may = tt
