-- Late requests, told one after another.
use Rattle.std.proofs.Common.{ℕ, ◌+◌, ◌≡◌, ◌∙◌, ◌<◌, ◌≤◌, Bool, true, false, ◌==◌, List, ◌∷◌, ◌++◌, length, drop, get_or, sym, ap, Ok}
use Rattle.std.proofs.lemmas.List.{append_assoc, append-nil, drop_more, drop_all}
use Rattle.nsi_primitive.specs.Ids.{id_of}
use Rattle.connection_record.specs.declared.record.Record.{Record}
use Rattle.connection_record.specs.Replies.{Moved}
use Rattle.connection_record.specs.declared.moves.Reply.{Reply}
use Rattle.agent_state.specs.declared.parent.Due.{Due}
use Rattle.aggregator_agent.specs.declared.agent.Agent.{Agent}
use Rattle.aggregator_agent.specs.declared.clock.Telling.{Telling}
use Rattle.aggregator_agent.specs.Clock.{Told, tell_one, tells_late}
use Rattle.aggregator_agent.specs.Bonds.{tell_those}
use Rattle.aggregator_agent.specs.Rounds.{told_so, IsToldBy}

abbrev pub told_behind : List Reply → Told → Told
told_behind out t = record t { out = out ++ t.out }

-- one is told, and then the rest
one_then : (b : Bool) (agent : Agent) (now next : ℕ) (own : Record) (d : Due) (out : List Reply) (rest : Record → ℕ → Told)
    → let one = tell_one b agent now next own d told_so in told_behind (out ++ one.out) (rest one.own one.next) ≡ told_behind out (tell_one b agent now next own d rest)
unfolding tell_one
one_then true agent now next own d out rest =
    let x : Moved = tells_late d.correlation (id_of agent.number next) now own in
    let more : Told = rest x.rec (next + 1) in
    ap (λ z. told_behind (out ++ z) more) (append-nil x.out) ∙ ap (λ z. record { own = more.own; out = z; next = more.next }) (append_assoc out x.out more.out)
one_then false agent now next own d out rest = ap (λ z. told_behind z (rest own next)) (append-nil out)

pub told_more : {X : Type 0} (late : List Due) (i : ℕ) (d : Due) (agent : Agent) (now number : ℕ) (old new : Telling) (own other : Record) (u : X) → i < length late → get_or late i d ≡ d
    → IsToldBy old new other (Ok u) (tell_one (d.number == number) agent now old.next own d told_so)
    → told_behind new.replies.items (tell_those (drop (i + 1) late) agent now number other new.next) ≡ told_behind old.replies.items (tell_those (drop i late) agent now number own old.next)
unfolding tell_those
told_more late i d agent now number old new own other u l is t =
    let rest : List Due = drop (i + 1) late in
    let one : Told = tell_one (d.number == number) agent now old.next own d told_so in
    let here : drop i late ≡ d ∷ rest = drop_more late i d l ∙ ap (λ z. z ∷ rest) is in
    ap (λ r. told_behind new.replies.items (tell_those rest agent now number r new.next)) t.rec
    ∙ ap (λ z. told_behind z (tell_those rest agent now number one.own new.next)) t.out
    ∙ ap (λ n. told_behind (old.replies.items ++ one.out) (tell_those rest agent now number one.own n)) t.next
    ∙ one_then (d.number == number) agent now old.next own d old.replies.items (λ r n. tell_those rest agent now number r n)
    ∙ ap (λ xs. told_behind old.replies.items (tell_those xs agent now number own old.next)) (sym here)

-- at the end nothing is left to be told
pub told_end : (late : List Due) (i : ℕ) (agent : Agent) (now number : ℕ) (own : Record) (next : ℕ) (out : List Reply) → length late ≤ i
    → told_behind out (tell_those (drop i late) agent now number own next) ≡ record { own = own; out = out; next = next }
unfolding tell_those
told_end late i agent now number own next out l = rw (drop_all i late l) (ap (λ z. record { own = own; out = z; next = next }) (append-nil out))
