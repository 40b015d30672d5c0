-- What no turn of a connection does: its texts stay, what it says can be written, and each request has an id of its own.
use Rattle.std.proofs.Common.{◌≡◌, ◌≤◌, ◌+◌, inl, inr, ℕ, Bool, true, false, List, [], ◌∷◌, ◌++◌, Option, Some, None, IfSome, refl, subst, arith}
use Rattle.std.specs.Option.{option_map}
use Rattle.std.specs.List.{All}
use Rattle.std.specs.Str.{bytes_eq}
use Rattle.std.proofs.lemmas.List.Elements.{All-nil, All-cons, All-append}
use Rattle.nsi_primitive.specs.Ids.{id_of}
use Rattle.nsi_primitive.specs.Messages.{kind_of}
use Rattle.nsi_primitive.specs.Printable.{IsPrintable}
use Rattle.nsi_primitive.specs.declared.kind.Kind.{Kind}
use Rattle.nsi_primitive.specs.declared.message.Body.{Body}
use Rattle.nsi_primitive.specs.declared.message.Criteria.{Criteria}
use Rattle.nsi_primitive.specs.declared.message.Message.{Message}
use Rattle.nsi_primitive.specs.declared.message.Service.{Service}
use Rattle.connection_record.specs.declared.record.Record.{Record}
use Rattle.connection_record.specs.declared.moves.Reply.{Reply}
use Rattle.connection_record.specs.Replies.{addressed}
use Rattle.child_connection.specs.declared.state.Sent.{Sent}
use Rattle.child_connection.specs.Views.{ChildConnection, open_request}
use Rattle.child_connection.specs.Asks.{request_about, reserve_for, to_child}
use Rattle.child_connection.specs.Laws.{AsksArePrintable, FirstIsPrintable, ModificationIsPrintable}
use Rattle.aggregator_agent.specs.declared.agent.Agent.{Agent}
use Rattle.aggregator_agent.specs.Asking.{Asked, ask_one, next_behind, each, if_free, if_apart, request_if, may_abort, service_for, reserve_if, passed_on, pass_one, pass_each}
use Rattle.aggregator_agent.specs.Good.{IsWritable}
use Rattle.aggregator_agent.specs.Laws.{AreDrawn}
use Rattle.aggregator_agent.proofs.MildReplies.{AreMild}

-- the laws of views that it rests on
pub record AreLaws : Type 0 where
  pub about : AsksArePrintable
  pub first : FirstIsPrintable
  pub modification : ModificationIsPrintable

---- Ids that are drawn

pub drawn_none : (agent next last : ℕ) → next ≤ last → AreDrawn agent next [] last
unfolding AreDrawn
drawn_none agent next last l = l

pub drawn_up : (agent next : ℕ) (ms : List Message) (last more : ℕ) → AreDrawn agent next ms last → last ≤ more → AreDrawn agent next ms more
unfolding AreDrawn
drawn_up agent next [] last more d l = omega (arith, d, l)
drawn_up agent next (m ∷ ms) last more (inl d) l = inl (d.0, drawn_up agent next ms last more d.1 l)
drawn_up agent next (m ∷ ms) last more (inr d) l = inr (d.0, d.1, d.2, drawn_up agent (d.0 + 1) ms last more d.3 l)

pub drawn_under : (agent less next : ℕ) (ms : List Message) (last : ℕ) → less ≤ next → AreDrawn agent next ms last → AreDrawn agent less ms last
unfolding AreDrawn
drawn_under agent less next [] last l d = omega (arith, d, l)
drawn_under agent less next (m ∷ ms) last l (inl d) = inl (d.0, drawn_under agent less next ms last l d.1)
drawn_under agent less next (m ∷ ms) last l (inr d) = inr (d.0, (let n = d.1 in omega (arith, n, l)), d.2, d.3)

pub drawn_then : (agent next : ℕ) (ms : List Message) (mid : ℕ) (ns : List Message) (last : ℕ) → AreDrawn agent next ms mid → AreDrawn agent mid ns last → AreDrawn agent next (ms ++ ns) last
unfolding AreDrawn
drawn_then agent next [] mid ns last d e = drawn_under agent next mid ns last d e
drawn_then agent next (m ∷ ms) mid ns last (inl d) e = inl (d.0, drawn_then agent next ms mid ns last d.1 e)
drawn_then agent next (m ∷ ms) mid ns last (inr d) e = inr (d.0, d.1, d.2, drawn_then agent (d.0 + 1) ms mid ns last d.3 e)

pub drawn_rises : (agent next : ℕ) (ms : List Message) (last : ℕ) → AreDrawn agent next ms last → next ≤ last
unfolding AreDrawn
drawn_rises agent next [] last d = d
drawn_rises agent next (m ∷ ms) last (inl d) = drawn_rises agent next ms last d.1
drawn_rises agent next (m ∷ ms) last (inr d) = let more = drawn_rises agent (d.0 + 1) ms last d.3 in let n = d.1 in omega (arith, more, n)

-- what is no request draws none
pub drawn_addressed : (agent : ℕ) (name owner : List ℕ) (replies : List Reply) (next : ℕ) → AreMild replies → AreDrawn agent next (addressed name owner replies) next
unfolding AreDrawn
drawn_addressed agent name owner [] next p = omega arith
drawn_addressed agent name owner (x ∷ xs) next p = inl (p.0.1, drawn_addressed agent name owner xs next p.1)

pub addressed_printable : (name owner : List ℕ) (replies : List Reply) → AreMild replies → All IsPrintable (addressed name owner replies)
addressed_printable name owner [] p = All-nil IsPrintable
addressed_printable name owner (x ∷ xs) p = All-cons IsPrintable _ (addressed name owner xs) p.0.0 (addressed_printable name owner xs p.1)

---- Requests to children

-- what is asked of children can be written, under ids that are drawn
pub record IsMildAsking (agent next : ℕ) (ms : List Message) (last : ℕ) : Type 0 where
  pub prints : All IsPrintable ms
  pub drawn : AreDrawn agent next ms last

pub none_mild : (agent next : ℕ) → IsMildAsking agent next [] next
none_mild agent next = record { prints = All-nil IsPrintable; drawn = drawn_none agent next next (omega arith) }

pub both_asking : (agent next : ℕ) (ms : List Message) (mid : ℕ) (ns : List Message) (last : ℕ) → IsMildAsking agent next ms mid → IsMildAsking agent mid ns last → IsMildAsking agent next (ms ++ ns) last
both_asking agent next ms mid ns last a b = record { prints = All-append IsPrintable ms ns a.prints b.prints; drawn = drawn_then agent next ms mid ns last a.drawn b.drawn }

-- a body can be asked of a child
abbrev pub IsFit : Option Body → ChildConnection → Type 0
IsFit body x = (name : List ℕ) (c : ℕ) → IfSome body (λ b. IsPrintable (to_child name c x b))

pub one_mild : (body : Option Body) (k : Kind) (agent : Agent) (next : ℕ) (x : ChildConnection) → IsFit body x → IsMildAsking agent.number next (ask_one body k agent next x).asked (ask_one body k agent next x).next
unfolding next_behind AreDrawn
one_mild None k agent next x fit = none_mild agent.number next
one_mild (Some b) k agent next x fit = record {
  prints = All-cons IsPrintable _ [] (fit agent.name (id_of agent.number next)) (All-nil IsPrintable);
  drawn = inr (next, omega arith, refl, omega arith);
}

pub each_mild : (does : ℕ → ChildConnection → Asked) (agent : ℕ) → ((n : ℕ) (x : ChildConnection) → IsMildAsking agent n (does n x).asked (does n x).next) → (next : ℕ) (xs : List ChildConnection) →
    IsMildAsking agent next (each does next xs).asked (each does next xs).next
unfolding each
each_mild does agent one next [] = none_mild agent next
each_mild does agent one next (x ∷ xs) =
    let a = one next x in
    let rest = each_mild does agent one (does next x).next xs in
    record {
      prints = All-append IsPrintable (does next x).asked (each does (does next x).next xs).asked a.prints rest.prints;
      drawn = drawn_then agent next (does next x).asked (does next x).next (each does (does next x).next xs).asked (each does (does next x).next xs).next a.drawn rest.drawn;
    }

module _ (laws : AreLaws) where
  free_fit : (o : Option Sent) (body : Option Body) (x : ChildConnection) → IsFit body x → IsFit (if_free o body) x
  free_fit None body x fit = fit
  free_fit (Some q) body x fit = λ name c. tt

  about_fit : (o : Option ℕ) (k : Kind) (x : ChildConnection) → IsFit (option_map (λ id. request_about k id) o) x
  about_fit None k x = λ name c. tt
  about_fit (Some id) k x = λ name c. laws.about name c id k x

  pub request_fit : (b : Bool) (k : Kind) (x : ChildConnection) → IsFit (request_if b k x) x
  unfolding request_if
  request_fit true k x = free_fit (open_request k x) (option_map (λ id. request_about k id) x.connection) x (about_fit x.connection k x)
  request_fit false k x = λ name c. tt

  apart_fit : (b : Bool) (body : Option Body) (x : ChildConnection) → (b ≡ false → IsFit body x) → IsFit (if_apart b body) x
  apart_fit true body x fit = λ name c. tt
  apart_fit false body x fit = fit refl

  service_fit : (o : Option ℕ) (s : Service) (version : Option ℕ) (start end capacity : ℕ) (x : ChildConnection) → x.connection ≡ o → (r : Record) → r.service ≡ s → IsWritable r → bytes_eq x.source x.dest ≡ false →
      (name : List ℕ) (c : ℕ) → IsPrintable (to_child name c x (Body.Reserve (reserve_for (service_for o s) version start end capacity x)))
  service_fit None s version start end capacity x e r is w apart name c = subst (λ z. IsPrintable (to_child name c x (Body.Reserve (reserve_for (Some z) version start end capacity x)))) is
      (laws.first name c r.service version start end capacity x w.description w.global apart)
  service_fit (Some id) s version start end capacity x e r is w apart name c = laws.modification name c id version start end capacity x e

  reserve_fit : (pending : Option Criteria) (r : Record) (x : ChildConnection) → IsWritable r → IsFit (reserve_if pending r.service x) x
  unfolding reserve_if
  reserve_fit None r x w = λ name c. tt
  reserve_fit (Some k) r x w =
      free_fit (open_request Kind.Reserve x) _ x
      (apart_fit (bytes_eq x.source x.dest) _ x
      (λ apart name c. service_fit x.connection r.service (Some k.version) k.interval.start k.interval.end k.capacity x refl r refl w apart name c))

  passed_fit : (body : Body) (r : Record) (x : ChildConnection) → IsWritable r → IsFit (passed_on body r x) x
  unfolding passed_on
  passed_fit (Body.Reserve q) r x w = reserve_fit r.pending r x w
  passed_fit (Body.ReserveCommit id) r x w = request_fit true Kind.ReserveCommit x
  passed_fit (Body.ReserveAbort id) r x w = request_fit (may_abort x.phase) Kind.ReserveAbort x
  passed_fit (Body.Provision id) r x w = request_fit true Kind.Provision x
  passed_fit (Body.Release id) r x w = request_fit true Kind.Release x
  passed_fit (Body.Terminate id) r x w = request_fit true Kind.Terminate x
  passed_fit _ r x w = λ name c. tt

  pub passed_mild : (m : Message) (agent : Agent) (r : Record) → IsWritable r → (next : ℕ) (xs : List ChildConnection) → IsMildAsking agent.number next (pass_each m agent r next xs).asked (pass_each m agent r next xs).next
  passed_mild m agent r w next xs = each_mild (λ n x. pass_one m agent r n x) agent.number (λ n x. one_mild (passed_on m.body r x) (kind_of m.body) agent n x (passed_fit m.body r x w)) next xs
