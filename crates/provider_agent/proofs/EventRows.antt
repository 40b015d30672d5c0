-- A story of a provider over events, computed: what is synced, what a restart cuts, and what is left.
use Rattle.std.proofs.Common.{◌≡◌, ◌≤◌, ℕ, List, [], ◌∷◌, ◌++◌, length, Option, Some, None, refl, arith, if◌then◌else◌}
use Rattle.std.specs.Prelude.{bytes_eq, codes}
use Rattle.std.proofs.lemmas.List.Elements.{All-nil, All-from_recursion}
use Rattle.nsi_base.specs.declared.flow.Flow.{Flow}
use Rattle.nsi_primitive.specs.Ids.{id_of}
use Rattle.nsi_primitive.specs.Messages.{connection_of}
use Rattle.nsi_primitive.specs.Printable.{IsPrintableEntry}
use Rattle.nsi_primitive.specs.declared.ask.What.{What}
use Rattle.nsi_primitive.specs.declared.kind.Directionality.{Directionality}
use Rattle.nsi_primitive.specs.declared.message.Body.{Body}
use Rattle.nsi_primitive.specs.declared.message.Message.{Message}
use Rattle.nsi_primitive.specs.declared.entry.Entry.{Entry}
use Rattle.nsi_primitive.specs.declared.entry.Happening.{Happening}
use Rattle.nsi_primitive.specs.declared.entry.Input.{Input}
use Rattle.nsi_primitive.specs.declared.state.Machine.{Machine}
use Rattle.nsi_primitive.specs.declared.state.Rsm.{Rsm}
use Rattle.reserve_machine.specs.Table.{step as row_of}
use Rattle.provision_machine.specs.Table.{step as provision_row_of}
use Rattle.lifecycle_machine.specs.Table.{step as lifecycle_row_of}
use Rattle.dataplane_state.specs.Plane.{status, announces}
use Rattle.message_retry.specs.Taken.{is_taken, with_taken}
use Rattle.capacity_calendar.specs.Lack.{lack_at, first_from, first_lack_by}
use Rattle.capacity_calendar.specs.Places.{places}
use Rattle.connection_record.specs.Demand.{demand, load}
use Rattle.connection_record.specs.Lives.{provision_event, lifecycle_event, provisions, lives}
use Rattle.connection_record.specs.Moves.{event_of, reserves, hold_end, is_live, is_working, worked}
use Rattle.connection_record.specs.Refusal.{has_row, is_in_place, unnamed_refusal, modification_refusal, refusal}
use Rattle.connection_record.specs.Applied.{moves, closes, reservation_closing, provision_closing, requested, first_machine, waits, work_of, provided, is_provisioning, is_terminating, ticks as record_ticks, tells, tells_plane}
use Rattle.provider_agent.specs.Setting.{Setting}
use Rattle.provider_agent.specs.Others.{lacking}
use Rattle.provider_agent.specs.State.{State, record_at, blank, unchanged}
use Rattle.provider_agent.specs.Steps.{receives, works, forces, ticks, ticks_all, step, after}
use Rattle.provider_agent.specs.Runs.{after_all}
use Rattle.provider_agent.specs.Events.{all_synced, journal_after, enter}
use Rattle.provider_agent.specs.Cuts.{Journal, IsCut, cut}
use Rattle.provider_agent.specs.AgentRuns.{IsOfAgentRun, IsAgentRun, caused}
use Rattle.provider_agent.specs.Replay.{replay, replayed}

---- The provider and what it is asked

abbrev pub setting : Setting
setting =
    record {
      name = codes "p1";
      number = 0;
      hold = 60;
      capacities = record { stp = 0; flow = Flow.Both; mbps = 1000 } ∷ record { stp = 1; flow = Flow.Both; mbps = 1000 } ∷ [];
    }

abbrev pub stp_of : List ℕ → Option ℕ
stp_of name = if bytes_eq name (codes "A") then Some 0 else if bytes_eq name (codes "B") then Some 1 else None

-- the n-th message between a requester and the provider
abbrev m : ℕ → Body → Message
m n body = record { header = record { correlation = id_of 1 n; requester = codes "r1"; provider = codes "p1" }; body = body }

abbrev reserve : Body
reserve =
    Body.Reserve (record {
      capacity = 600;
      connection = None;
      description = None;
      dest = Some (codes "B");
      directionality = None;
      end = 200;
      global = None;
      source = Some (codes "A");
      start = Some 100;
      symmetric = None;
      version = None;
    })

abbrev commit : Body
commit = Body.ReserveCommit (id_of 0 1)

abbrev responds : Message
responds = m 1 (Body.ReserveResponse (id_of 0 1))

abbrev confirms : Message
confirms =
    m 1 (Body.ReserveConfirmed (record {
      capacity = 600;
      connection = id_of 0 1;
      description = None;
      dest = codes "B";
      directionality = Directionality.Bidirectional;
      end = 200;
      global = None;
      source = codes "A";
      start = 100;
      symmetric = None;
      version = 0;
    }))

abbrev commits : Message
commits = m 2 (Body.ReserveCommitConfirmed (id_of 0 1))

---- The story

abbrev at_first : Input → Entry
at_first input = record { second = 0; input = input }

abbrev got : ℕ → Body → Happening
got n body = enter (at_first (Input.Got (m n body)))

abbrev work : Happening
work = enter (at_first (Input.Work 0 Machine.Reserve))

abbrev begun : Journal
begun = all_synced []

-- a reserve and its work are synced; a commit and its work aren't yet
abbrev committing : List Happening
committing = got 1 reserve ∷ work ∷ Happening.Sync 2 ∷ got 2 commit ∷ work ∷ []

-- the provider stops, and begins again with what was synced
abbrev cut_off : List Happening
cut_off = committing ++ Happening.Restart 2 ∷ []

-- the same, once all is synced
abbrev kept_on : List Happening
kept_on = committing ++ Happening.Sync 4 ∷ Happening.Restart 4 ∷ []

-- what stands in the first so many entries of the journal then
abbrev at_cut : List Happening → ℕ → State
at_cut events k = replayed setting stp_of (cut (journal_after begun events) k)

abbrev whole : List Happening → State
whole events = replayed setting stp_of (journal_after begun events).entries

abbrev rsm_in : State → Rsm
rsm_in s = (record_at 0 s.records).rsm

abbrev committed_in : State → ℕ
committed_in s = length (record_at 0 s.records).committed

abbrev load_in : State → ℕ
load_in s = load Flow.Both 0 150 s.records

-- a requester's ask, which no provider takes, but which a journal may hold
abbrev ask : Entry
ask = at_first (Input.Ask 0 (record { label = None; what = What.Summary }))

pub record AreToldOver : Type 0 where
  two_of_four_are_synced : (journal_after begun committing).synced ≡ 2
  four_are_kept : length (journal_after begun committing).entries ≡ 4
  what_is_synced_is_held : rsm_in (at_cut committing 2) ≡ Rsm.ReserveHeld
  a_cut_between_is_committing : rsm_in (at_cut committing 3) ≡ Rsm.ReserveCommitting
  the_whole_is_committed : committed_in (at_cut committing 4) ≡ 1
  all_three_are_caused : caused setting stp_of begun committing ≡ responds ∷ confirms ∷ commits ∷ []
  a_restart_cuts_the_commit : journal_after begun cut_off ≡ all_synced (at_first (Input.Got (m 1 reserve)) ∷ at_first (Input.Work 0 Machine.Reserve) ∷ [])
  it_is_held_then : rsm_in (whole cut_off) ≡ Rsm.ReserveHeld
  nothing_is_committed_then : committed_in (whole cut_off) ≡ 0
  it_still_counts_then : load_in (whole cut_off) ≡ 600
  the_same_commit_is_taken_again : caused setting stp_of (journal_after begun cut_off) (got 2 commit ∷ work ∷ []) ≡ commits ∷ []
  what_is_synced_is_not_cut : committed_in (whole kept_on) ≡ 1
  the_same_commit_is_silent_then : caused setting stp_of (journal_after begun kept_on) (got 2 commit ∷ work ∷ []) ≡ []
  an_ask_is_left_out : replay setting stp_of (ask ∷ []) ≡ unchanged blank

told_over : AreToldOver
unfolding journal_after caused after_all after step receives works forces ticks ticks_all lacking first_machine waits work_of worked provided is_provisioning is_terminating moves reserves provisions lives closes reservation_closing provision_closing requested record_ticks hold_end tells tells_plane status announces is_live is_working demand is_in_place has_row row_of provision_row_of lifecycle_row_of unnamed_refusal modification_refusal refusal is_taken with_taken lack_at first_from first_lack_by places connection_of event_of provision_event lifecycle_event
told_over = record {
  two_of_four_are_synced = refl;
  four_are_kept = refl;
  what_is_synced_is_held = refl;
  a_cut_between_is_committing = refl;
  the_whole_is_committed = refl;
  all_three_are_caused = refl;
  a_restart_cuts_the_commit = refl;
  it_is_held_then = refl;
  nothing_is_committed_then = refl;
  it_still_counts_then = refl;
  the_same_commit_is_taken_again = refl;
  what_is_synced_is_not_cut = refl;
  the_same_commit_is_silent_then = refl;
  an_ask_is_left_out = refl;
}

-- the story is an agent run: what is proved of these is proved of it
the_story_is_a_run : IsAgentRun setting stp_of [] cut_off
unfolding journal_after caused after_all after step receives works forces ticks ticks_all lacking first_machine waits work_of worked provided is_provisioning is_terminating moves reserves provisions lives closes reservation_closing provision_closing requested record_ticks hold_end tells tells_plane status announces is_live is_working demand is_in_place has_row row_of provision_row_of lifecycle_row_of unnamed_refusal modification_refusal refusal is_taken with_taken lack_at first_from first_lack_by places connection_of event_of provision_event lifecycle_event
the_story_is_a_run = record {
  printable = All-nil IsPrintableEntry;
  allowed = (
    (record { room = omega arith; printable = record { description = tt; global = tt; apart = refl; complete = (refl, refl) }; own = refl; on_time = refl }, refl),
    (
      (record { room = omega arith; printable = tt; own = refl; on_time = refl }, refl),
      (
        refl,
        (
          (record { room = omega arith; printable = tt; own = refl; on_time = refl }, refl),
          (
            (record { room = omega arith; printable = tt; own = refl; on_time = refl }, refl),
            (
              record { synced = omega arith; within = omega arith },
              tt,
            ),
          ),
        ),
      ),
    ),
  );
  inputs = All-from_recursion IsOfAgentRun cut_off (refl, (refl, (tt, (refl, (refl, (tt, tt))))));
}

-- a restart takes nothing that is synced
nothing_synced_is_cut : IsCut (journal_after begun committing) 1 → ⊥
unfolding journal_after
nothing_synced_is_cut c = let synced : 2 ≤ 1 = c.synced in absurd (omega (arith, synced))
