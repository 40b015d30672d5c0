-- A connection that takes a request, by what its calls leave.
use Rattle.std.proofs.Common.{◌≡◌, ◌∙◌, ◌++◌, [], ℕ, List, Ok, ap}
use Rattle.agent_state.specs.declared.parent.Leg.{Leg}
use Rattle.aggregator_agent.specs.declared.entering.Entering.{Entering}
use Rattle.aggregator_agent.specs.declared.outbox.Outbox.{Outbox}
use Rattle.aggregator_agent.specs.declared.requesting.Start.{Start}
use Rattle.aggregator_agent.specs.declared.said.Said.{Said}
use Rattle.aggregator_agent.specs.Asking.{with_path}
use Rattle.aggregator_agent.specs.Bonds.{Bond, Done, AllDone, done_by, requested_bond, with_children, IsDone}
use Rattle.aggregator_agent.specs.Step.{IsEntered, IsStored}
use Rattle.aggregator_agent.specs.Requesting.{IsRequested}

---- One connection

pub asked_ok : {X Y : Type 0} (old mid new : Bond) (o p : Outbox) (none said : Said) (u : X) (v : Y) (e : Entering) (start : Start) (route : ℕ → ℕ → List Leg) → mid.own ≡ old.own → mid.children ≡ with_path e.message.now.body old.children (route old.own.source old.own.dest)
    → none.out.items ≡ [] → none.dues.items ≡ [] → none.next ≡ start.next → IsDone none said new (Ok u) (requested_bond e.agent.now e.second e.message.now start.number none.next mid) → IsStored o p said (Ok v)
    → IsRequested old new o p said e start route
asked_ok old mid new o p none said u v e start route own children f g h d s =
    let whole = with_children route e.message.now old in
    let is : mid ≡ whole = ap (λ r. record { own = r; children = mid.children }) own ∙ ap (λ xs. record { own = old.own; children = xs }) children in
    let x = λ (n : ℕ) (b : Bond). requested_bond e.agent.now e.second e.message.now start.number n b in
    let same : x none.next mid ≡ x start.next whole = ap (λ n. x n mid) h ∙ ap (x start.next) is in
    let out : said.out.items ≡ (x start.next whole).out = d.out ∙ ap (λ z. z ++ (x none.next mid).out) f ∙ ap (λ (z : Done). z.out) same in
    let dues : said.dues.items ≡ (x start.next whole).dues = d.dues ∙ ap (λ z. z ++ (x none.next mid).dues) g ∙ ap (λ (z : Done). z.dues) same in
    record {
      bonds = d.bond ∙ ap (λ (z : Done). z.bond) same;
      out = out;
      next = d.next ∙ ap (λ (z : Done). z.next) same;
      waits = s.waits ∙ ap (λ ms. record o.retry { waiting = o.retry.waiting ++ ms }) out;
      dues = s.dues ∙ ap (λ ds. o.dues ++ ds) dues;
    }

---- All connections

pub entered_all : {X : Type 0} (new : List Bond) (o p : Outbox) (said : Said) (u : X) (all : AllDone) → done_by said new ≡ all → IsStored o p said (Ok u) → IsEntered new o p said all.bonds all.out all.dues all.next
entered_all new o p said u all d s =
    let out : said.out.items ≡ all.out = ap (λ (z : AllDone). z.out) d in
    record {
      bonds = ap (λ (z : AllDone). z.bonds) d;
      out = out;
      next = ap (λ (z : AllDone). z.next) d;
      waits = s.waits ∙ ap (λ ms. record o.retry { waiting = o.retry.waiting ++ ms }) out;
      dues = s.dues ∙ ap (λ ds. o.dues ++ ds) (ap (λ (z : AllDone). z.dues) d);
    }
