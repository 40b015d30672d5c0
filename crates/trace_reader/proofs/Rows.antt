-- Lines that the definitions themselves read.
use Rattle.std.proofs.Common.{◌≡◌, ℕ, List, [], ◌∷◌, Option, Some, None, codes, refl}
use Rattle.nsi_base.specs.Digits.{value_from, number_of}
use Rattle.nsi_base.specs.Words.{words_of}
use Rattle.nsi_primitive.specs.States.{first_state, machine_text, machine_named}
use Rattle.nsi_primitive.specs.declared.ask.Ask.{Ask}
use Rattle.nsi_primitive.specs.declared.ask.AskAnswer.{AskAnswer}
use Rattle.nsi_primitive.specs.declared.ask.What.{What}
use Rattle.nsi_primitive.specs.declared.entry.Event.{Event}
use Rattle.nsi_primitive.specs.declared.entry.Happening.{Happening}
use Rattle.nsi_primitive.specs.declared.entry.Input.{Input}
use Rattle.nsi_primitive.specs.declared.state.Machine.{Machine}
use Rattle.ask_text.specs.Reading.{by_verb, plain_named, labelled_in, ask_of}
use Rattle.ask_text.specs.Asks.{verb_of}
use Rattle.stp_topology.specs.Network.{nothing}
use Rattle.stp_topology.specs.declared.network.Network.{Network}
use Rattle.trace_reader.specs.Reading.{cut_word, answer_in, asked_in, worked_in, forced_in, ticked_in, what_in, event_in}

-- a provider and a requester
abbrev two_agents : Network
two_agents = record nothing { agents = codes "p1" ∷ codes "r1" ∷ [] }

-- at second 7, after three asks
abbrev read : List ℕ → Option Event
read line = event_in two_agents (λ agent. 7) 3 line

-- what p1 or r1 takes
abbrev takes : ℕ → ℕ → Input → Option AskAnswer → Event
takes agent second input answer = record { agent = agent; what = Happening.Entry (record { second = second; input = input }) answer }

abbrev commit : Ask
commit = record { label = Some (codes "c1"); what = What.Commit }

tick : read (codes "tick p1 12") ≡ Some (takes 0 12 Input.Tick None)
unfolding event_in cut_word what_in ticked_in number_of value_from
tick = refl

ask : read (codes "ask r1 sent commit c1") ≡ Some (takes 1 7 (Input.Ask 3 commit) (Some AskAnswer.Sent))
unfolding event_in cut_word what_in asked_in answer_in ask_of by_verb plain_named labelled_in words_of verb_of
ask = refl

work : read (codes "work p1 12 reserve") ≡ Some (takes 0 7 (Input.Work 12 Machine.Reserve) None)
unfolding event_in cut_word what_in worked_in number_of value_from machine_named first_state machine_text
work = refl

force : read (codes "force p1 4194303") ≡ Some (takes 0 7 (Input.Force 4194303) None)
unfolding event_in cut_word what_in forced_in number_of value_from
force = refl

sync : read (codes "sync r1 2") ≡ Some (record { agent = 1; what = Happening.Sync 2 })
unfolding event_in cut_word what_in number_of value_from
sync = refl

restart : read (codes "restart p1 0") ≡ Some (record { agent = 0; what = Happening.Restart 0 })
unfolding event_in cut_word what_in number_of value_from
restart = refl

-- a stranger, a word that is missing, a further one, another verb, a number past the last record
stranger : read (codes "tick p2 12") ≡ None
unfolding event_in cut_word
stranger = refl

missing : read (codes "tick p1") ≡ None
unfolding event_in cut_word
missing = refl

further : read (codes "sync r1 2 3") ≡ None
unfolding event_in cut_word what_in number_of value_from
further = refl

other : read (codes "settled p1 0") ≡ None
unfolding event_in cut_word what_in
other = refl

past : read (codes "force p1 4194304") ≡ None
unfolding event_in cut_word what_in forced_in number_of value_from
past = refl
