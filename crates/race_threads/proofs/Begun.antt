-- The book of a race, to which nothing happened yet but the tick of the script.
use Rattle.std.proofs.Common.{◌≡◌, ◌∙◌, ◌≤◌, ℕ, true, [], Option, Some, None, refl, sym, ap, arith}
use Rattle.std.proofs.lemmas.Bool.{le-leb}
use Rattle.stp_topology.specs.declared.network.Network.{Network}
use Rattle.stp_topology.specs.Network.{name_of, agent_of}
use Rattle.agent_state.specs.State.{blank_agent}
use Rattle.provider_agent.specs.Setting.{setting_of, own_stp}
use Rattle.provider_agent.specs.State.{State, Stepped, blank}
use Rattle.provider_agent.specs.Steps.{step, ticks as clock_goes, ticks_all, after, waiting_work}
use Rattle.provider_agent.proofs.Counting.{taken_is}
use Rattle.provider_agent.proofs.GoodAfter.{good_after, good_blank}
use Rattle.requester_agent.specs.Steps.{after as hears, step as hear_step, ticks as hear_ticks, after_if as hears_if}
use Rattle.requester_agent.specs.Setting.{setting_of as asker_of}
use Rattle.provider_agent.specs.Working.{works_among}
use Rattle.sole_requester.proofs.Working.{none_found}
use Rattle.shared_provider.specs.Asked.{tick_entry}
use Rattle.shared_provider.specs.Book.{Book, fresh, entered}
use Rattle.race_run.specs.Found.{along, ticks, strays, state_gone, is_caller}
use Rattle.race_judging.specs.Pairs.{second_of, first_ticks, found_of}
use Rattle.race_caller.specs.Plays.{begun}
use Rattle.race_caller.specs.Alone.{IsReadyFor}
use Rattle.race_threads.specs.Raced.{call_of, begun_book}

-- what a first tick makes of a provider
ticked : (t : Network) (p second : ℕ) → (after (setting_of t p) (own_stp t p) blank (tick_entry second)).state ≡ record blank { now = second; taken = 1 }
unfolding step clock_goes ticks_all
ticked t p second = ap (λ (x : Stepped). x.state) (taken_is (setting_of t p) (own_stp t p) blank (tick_entry second) (le-leb 0 second (omega arith)))

asker_ticked : (t : Network) (a second : ℕ) → (begun t a (Some second)).base.now ≡ second
unfolding hears hear_step hear_ticks
asker_ticked t a second = ap (λ b. (hears_if b (asker_of t a) blank_agent (tick_entry second)).state.base.now) (le-leb 0 second (omega arith))

module _ (t : Network) (p a : ℕ) (count : ℕ) (caller : is_caller t p (Some a) ≡ true) (known : agent_of t (name_of t a) ≡ Some a) (few : count ≤ 100000) where
  ready_none : IsReadyFor t [] (call_of p a 0) None count (fresh t p)
  unfolding along state_gone
  ready_none = record {
    network = refl;
    agent = refl;
    running = refl;
    known = known;
    own_clock = refl;
    caller = caller;
    good = good_blank (setting_of t p);
    gone = refl;
    clock = refl;
    records = refl;
    seen = refl;
    nothing = λ o. refl;
    owned = refl;
    begins = refl;
    taken = omega arith;
    few = few;
  }

  ready_some : (second : ℕ) → IsReadyFor t (first_ticks p (Some second)) (call_of p a second) (Some second) count (entered (tick_entry second) (fresh t p))
  unfolding along state_gone
  ready_some second =
      let is = ticked t p second in
      record {
        network = refl;
        agent = refl;
        running = refl;
        known = known;
        own_clock = asker_ticked t a second;
        caller = caller;
        good = good_after (setting_of t p) (own_stp t p) blank (tick_entry second) (good_blank (setting_of t p)) tt;
        gone = refl;
        clock = ap (λ (s : State). s.now) is;
        records = ap (λ (s : State). s.records) is;
        seen = ap (λ (s : State). s.seen) is;
        nothing = λ o. refl;
        owned = refl;
        begins = refl;
        taken = omega (arith, ap (λ (s : State). s.taken) is);
        few = few;
      }

  pub ready_begun : (start : Option ℕ) → IsReadyFor t (first_ticks p start) (call_of p a (second_of start)) start count (begun_book t p start)
  ready_begun None = ready_none
  ready_begun (Some second) = ready_some second

---- Nothing happened yet

pub begun_nothing : (t : Network) (p : ℕ) (start : Option ℕ) (a : ℕ) → found_of t p (second_of start) (begun_book t p start).events a ≡ []
unfolding along
begun_nothing t p None a = refl
begun_nothing t p (Some second) a = refl

pub begun_owned : (t : Network) (p : ℕ) (start : Option ℕ) → strays t p blank 0 (begun_book t p start).events ≡ []
unfolding along
begun_owned t p None = refl
begun_owned t p (Some second) = refl

pub begun_ticks : (t : Network) (p : ℕ) (start : Option ℕ) → ticks t p blank 0 (begun_book t p start).events ≡ first_ticks p start
unfolding along
begun_ticks t p None = refl
begun_ticks t p (Some second) = refl

pub begun_idle : (t : Network) (p : ℕ) (start : Option ℕ) → waiting_work (state_gone t p blank (begun_book t p start).events) ≡ None
unfolding state_gone
begun_idle t p None = none_found blank refl
begun_idle t p (Some second) = none_found (after (setting_of t p) (own_stp t p) blank (tick_entry second)).state (ap (λ (s : State). works_among s.records) (ticked t p second))

---- The book that is begun

pub begun_none : (t : Network) (p : ℕ) (start : Option ℕ) (b : Book) → start ≡ None → b ≡ fresh t p → b ≡ begun_book t p start
begun_none t p start b none is = is ∙ sym (ap (begun_book t p) none)

pub begun_some : (t : Network) (p second : ℕ) (start : Option ℕ) (a b : Book) → start ≡ Some second → a ≡ fresh t p → b ≡ entered (tick_entry second) a → b ≡ begun_book t p start
begun_some t p second start a b some new is = is ∙ (ap (entered (tick_entry second)) new ∙ sym (ap (begun_book t p) some))
