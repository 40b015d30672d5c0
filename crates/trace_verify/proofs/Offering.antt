-- What a line is, of which an event was read.
use Rattle.std.proofs.Common.{ℕ, ◌+◌, ◌<◌, ◌≡◌, ◌↔◌, ◌∙◌, Bool, true, false, cond, List, length, refl, sym, ap, subst}
use Rattle.nsi_primitive.specs.declared.entry.Event.{Event}
use Rattle.nsi_primitive.specs.declared.message.Parcel.{Parcel}
use Rattle.stp_topology.specs.Sound.{IsSound}
use Rattle.stp_topology.specs.declared.network.Network.{Network}
use Rattle.trace_reader.specs.Moments.{IsEventOf}
use Rattle.nsi_agent.specs.Homes.{Routes, home_in}
use Rattle.nsi_world.specs.Worlds.{Homes}
use Rattle.nsi_world.specs.Runs.{asks_of}
use Rattle.trace_verify.specs.Parcels.{taken_now, takes}
use Rattle.trace_verify.specs.Traces.{HasAsk, most_asks, seconds_in, world_of}
use Rattle.trace_verify.specs.Standing.{HasHappened, Shows}
use Rattle.trace_verify.specs.Steps.{HasGoneOn, IsLineAlone, IsStep, step_of}
use Rattle.trace_verify.specs.Verdicts.{IsNotAllowed}
use Rattle.trace_verify.specs.declared.follower.Follower.{Follower}
use Rattle.trace_verify.specs.declared.parcels.Delivery.{Delivery}
use Rattle.trace_verify.proofs.Coming.{known}
use Rattle.trace_verify.proofs.Extending.{count_more, world_more}

-- the event has happened
pub gone_on : (t : Network) (routes : Routes) (es : List Event) (line : List ℕ) (e : Event) (y : Follower) (asks more : ℕ) (asking is : Bool) → IsSound t → IsLineAlone t (home_in t routes) es line e
    → HasHappened (home_in t routes) (world_of es) e.agent e.what y is → is ≡ true → (asking ≡ true) ↔ HasAsk e.what → (asking ≡ true → asks ≡ most_asks → ⊥) → asks ≡ length (asks_of es) → more ≡ cond asking (asks + 1) asks
    → HasGoneOn t (home_in t routes) es line y more
gone_on t routes es line e y asks more asking is sound alone happened its asked room count more_is = record {
  event = e;
  goes = record {
    line_of = alone.line_of;
    allowed = (known t routes e.agent sound alone.line_of.has_line.agent, happened.tells.0 its);
    within = λ beyond. room (asked.1 beyond.0) (count ∙ beyond.1);
  };
  alone = alone.alone;
  shows = subst (Shows y) (sym (world_more _ es e)) (happened.shows its);
  asked = more_is ∙ (ap (λ n. cond asking (n + 1) n) count ∙ sym (count_more es e asking asked));
}

pub not_allowed : (t : Network) (homes : Homes) (es : List Event) (line : List ℕ) (e : Event) (y : Follower) (asks : ℕ) (asking is : Bool) → IsLineAlone t homes es line e → HasHappened homes (world_of es) e.agent e.what y is → is ≡ false
    → (asking ≡ true) ↔ HasAsk e.what → (asking ≡ true → asks ≡ most_asks → ⊥) → asks ≡ length (asks_of es) → IsNotAllowed t homes es line
not_allowed t homes es line e y asks asking is alone happened refused asked room count = record {
  event = e;
  line_of = alone.line_of;
  alone = alone.alone;
  within = λ beyond. room (asked.1 beyond.0) (count ∙ beyond.1);
  refused = λ allowed. let allows = happened.tells.1 allowed.1 in absurd (cc);
}

---- A delivery

-- no ask comes by it
asks_none : (second : ℕ) (p : Parcel) → HasAsk (takes second p) → ⊥
asks_none second (Parcel.Message m) h = h
asks_none second (Parcel.Ack i) h = h

-- what its line is, where it has happened or may not
pub delivered : (t : Network) (routes : Routes) (es : List Event) (line : List ℕ) (d : Delivery) (y : Follower) (asks : ℕ) (is : Bool) → IsSound t
    → IsLineAlone t (home_in t routes) es line (record { agent = d.agent; what = taken_now (home_in t routes) (world_of es) d.agent d.parcel })
    → HasHappened (home_in t routes) (world_of es) d.agent (taken_now (home_in t routes) (world_of es) d.agent d.parcel) y is → asks ≡ length (asks_of es) → IsStep t (home_in t routes) es line y (step_of asks is)
delivered t routes es line d y asks true sound alone happened count =
    let none = asks_none (seconds_in (home_in t routes) (world_of es) d.agent) d.parcel in
    gone_on t routes es line (record { agent = d.agent; what = taken_now (home_in t routes) (world_of es) d.agent d.parcel }) y asks asks false true sound alone happened refl (λ e. absurd (cc), λ h. absurd (none h)) (λ e. absurd (cc)) count refl
delivered t routes es line d y asks false sound alone happened count =
    let none = asks_none (seconds_in (home_in t routes) (world_of es) d.agent) d.parcel in
    not_allowed t (home_in t routes) es line (record { agent = d.agent; what = taken_now (home_in t routes) (world_of es) d.agent d.parcel }) y asks false false alone happened refl (λ e. absurd (cc), λ h. absurd (none h)) (λ e. absurd (cc)) count

---- The moment

-- seconds that are the same for the agents of the topology
module _ (t : Network) (seconds others : ℕ → ℕ) (same : (a : ℕ) → a < length t.agents → seconds a ≡ others a) (asks many : ℕ) (line : List ℕ) (count : asks ≡ many) where
  pub of_others : (e : Event) → IsEventOf t seconds asks line e → IsEventOf t others many line e
  of_others e its = record {
    has_line = its.has_line;
    of_moment = rw (← count, ← same e.agent its.has_line.agent) its.of_moment;
    printed = its.printed;
  }

  pub of_these : (e : Event) → IsEventOf t others many line e → IsEventOf t seconds asks line e
  of_these e its = record {
    has_line = its.has_line;
    of_moment = rw (count, same e.agent its.has_line.agent) its.of_moment;
    printed = its.printed;
  }
