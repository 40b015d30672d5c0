-- What an entry makes of what the views of an agent hold as unanswered.
use Rattle.std.proofs.Common.{ℕ, ◌+◌, ◌≤◌, ◌≡◌, Bool, true, false, List, [], ◌∷◌, ◌==◌, ◌&&◌, refl, sym, ap, ◌∙◌, arith, bytes_eq}
use Rattle.std.specs.Prelude.{sum_by}
use Rattle.nsi_primitive.specs.Kinds.{is_request_kind}
use Rattle.nsi_primitive.specs.Messages.{kind_of}
use Rattle.nsi_primitive.specs.declared.entry.Input.{Input}
use Rattle.nsi_primitive.specs.declared.kind.Kind.{Kind}
use Rattle.nsi_primitive.specs.declared.message.Body.{Body}
use Rattle.nsi_primitive.specs.declared.message.Message.{Message}
use Rattle.connection_record.specs.declared.moves.Reply.{Reply}
use Rattle.connection_record.specs.Replies.{addressed}
use Rattle.connection_record.specs.Speaking.{one, tally, is_asking, asks_for}
use Rattle.child_connection.specs.Asks.{to_child}
use Rattle.child_connection.specs.Holding.{is_reservation}
use Rattle.child_connection.specs.Views.{ChildConnection}
use Rattle.agent_state.specs.State.{AgentState}
use Rattle.agent_speech.specs.Unanswered.{reserves_at, view_holds, holding, held, view_misfits, misfitting, unfit, was_answered, HeardBy, HoldsWhatItAsks}

-- an entry, but for what is heard
pub record IsHolding (old new : AgentState) (out : List Message) : Type 0 where
  pub fit : unfit new ≤ unfit old
  pub holds_on : (p : List ℕ) (c : ℕ) → was_answered p c new.base.heard ≡ false → tally (reserves_at p c) out + held p c old ≤ held p c new + unfit old
  pub few : (p : List ℕ) (c : ℕ) → held p c new ≤ held p c old + tally (reserves_at p c) out

-- the views stay, and nothing is asked of the reservation machine
pub holds_still : (old new : AgentState) (out : List Message) → new.views ≡ old.views → new.children ≡ old.children → ((p : List ℕ) (c : ℕ) → tally (reserves_at p c) out ≡ 0) → IsHolding old new out
unfolding held unfit
holds_still old new out e f h =
    record {
      fit = omega (arith, ap (tally view_misfits) e, ap (sum_by misfitting) f);
      holds_on = λ p c n. omega (arith, ap (tally (view_holds p c)) e, ap (sum_by (holding p c)) f, h p c);
      few = λ p c. omega (arith, ap (tally (view_holds p c)) e, ap (sum_by (holding p c)) f);
    }

pub nothing_asked : (p : List ℕ) (c : ℕ) → tally (reserves_at p c) [] ≡ 0
unfolding tally
nothing_asked p c = refl

pub holds_same : (s : AgentState) → IsHolding s s []
holds_same s = holds_still s s [] refl refl nothing_asked

pub with_heard_by : (old new : AgentState) (input : Input) (out : List Message) → IsHolding old new out → HeardBy old.base.heard input new.base.heard → HoldsWhatItAsks old new input out
with_heard_by old new input out a h = record { fit = a.fit; holds_on = a.holds_on; few = a.few; hears = h }

---- Messages that ask for nothing of the reservation machine

pub reserving_asks : (k : Kind) → is_reservation k ≡ true → is_request_kind k ≡ true
unfolding is_reservation
reserving_asks k e = grind arith

pub answer_reserves : (p : List ℕ) (c : ℕ) (m : Message) (rest : List Message) → is_asking m.body ≡ false → tally (reserves_at p c) (m ∷ rest) ≡ tally (reserves_at p c) rest
unfolding tally is_asking
answer_reserves p c m rest e = by (is_reservation (kind_of m.body)) refl
  where
    by : (b : Bool) → is_reservation (kind_of m.body) ≡ b → one (b && (bytes_eq p m.header.provider && (c == m.header.correlation))) + tally (reserves_at p c) rest ≡ tally (reserves_at p c) rest
    by false q = omega arith
    by true q = absurd (let r : is_request_kind (kind_of m.body) ≡ true = reserving_asks (kind_of m.body) q in let x : true ≡ false = sym r ∙ e in cc)

-- what isn't of the reservation machine
pub other_reserves : (p : List ℕ) (c : ℕ) (m : Message) (rest : List Message) → is_reservation (kind_of m.body) ≡ false → tally (reserves_at p c) (m ∷ rest) ≡ tally (reserves_at p c) rest
unfolding tally
other_reserves p c m rest e = by (is_reservation (kind_of m.body)) e
  where
    by : (b : Bool) → b ≡ false → one (b && (bytes_eq p m.header.provider && (c == m.header.correlation))) + tally (reserves_at p c) rest ≡ tally (reserves_at p c) rest
    by false q = omega arith
    by true q = absurd (cc)

pub addressed_reserves : (p : List ℕ) (c : ℕ) (name owner : List ℕ) (out : List Reply) → tally (reserves_at p c) (addressed name owner out) ≤ tally asks_for out
unfolding tally is_asking
addressed_reserves p c name owner [] = omega arith
addressed_reserves p c name owner (x ∷ xs) =
    omega (arith, one_less (is_reservation (kind_of x.body)) (is_request_kind (kind_of x.body)) (bytes_eq p name && (c == x.correlation)) (λ e. reserving_asks (kind_of x.body) e), addressed_reserves p c name owner xs)
  where
    one_less : (a b t : Bool) → (a ≡ true → b ≡ true) → one (a && t) ≤ one b
    one_less true b t h = let e : b ≡ true = h refl in grind (arith, e)
    one_less false b t h = grind arith

-- a request to a child
pub asked_reserves : (p : List ℕ) (c id : ℕ) (name : List ℕ) (x : ChildConnection) (k : Kind) (body : Body) (rest : List Message) → kind_of body ≡ k →
    tally (reserves_at p c) (to_child name id x body ∷ rest) ≡ one (is_reservation k && (bytes_eq p x.child && (c == id))) + tally (reserves_at p c) rest
unfolding tally
asked_reserves p c id name x k body rest e = ap (λ q. one (is_reservation q && (bytes_eq p x.child && (c == id))) + tally (reserves_at p c) rest) e
