-- What is asked about a view is worth no more than its leg; and entries one after another.
use Rattle.std.proofs.Common.{ℕ, ◌≤◌, ◌≡◌, List, [], ◌∷◌, ◌++◌, Option, Some, None, refl, ap, arith}
use Rattle.std.proofs.lemmas.Option.{none-some}
use Rattle.nsi_primitive.specs.Messages.{connection_of}
use Rattle.nsi_primitive.specs.declared.entry.Entry.{Entry}
use Rattle.nsi_primitive.specs.declared.kind.Kind.{Kind}
use Rattle.nsi_primitive.specs.declared.message.Body.{Body}
use Rattle.nsi_primitive.specs.declared.message.Message.{Message}
use Rattle.nsi_primitive.specs.declared.message.Service.{Service}
use Rattle.child_connection.specs.Asks.{request_about, first_reserve, modification, reserve_for, to_child}
use Rattle.child_connection.specs.Places.{IsSamePlace}
use Rattle.child_connection.specs.Views.{ChildConnection, new_view}
use Rattle.agent_state.specs.declared.parent.Leg.{Leg}
use Rattle.agent_state.specs.State.{AgentState}
use Rattle.nsi_agent.specs.Homes.{Home}
use Rattle.nsi_agent.specs.Steps.{after}
use Rattle.nsi_agent.specs.Told.{goes_on}
use Rattle.request_worth.specs.Worth.{IsFee, leg_in, CostsItsLeg}

---- Entries one after another

-- something is true in each state from one on
abbrev pub FromEach : Home → AgentState → List Entry → (AgentState → Type 0) → Type 0
FromEach h s es Holds = (earlier later : List Entry) → es ≡ earlier ++ later → Holds (goes_on h s earlier).state

pub at_first : (h : Home) (s : AgentState) (es : List Entry) (Holds : AgentState → Type 0) → FromEach h s es Holds → Holds s
unfolding goes_on
at_first h s es Holds each = each [] es refl

pub at_next : (h : Home) (s : AgentState) (e : Entry) (es : List Entry) (Holds : AgentState → Type 0) → FromEach h s (e ∷ es) Holds → FromEach h (after h s e).state es Holds
unfolding goes_on
at_next h s e es Holds each earlier later is = each (e ∷ earlier) later (ap (λ xs. e ∷ xs) is)

---- A view

leg_made : (a b c d e f : List ℕ) → a ≡ b → c ≡ d → e ≡ f → (let x : Leg = record { child = a; source = c; dest = e } in x) ≡ record { child = b; source = d; dest = f }
leg_made a b c d e f p q r = rw (p, q, r) refl

pub same_leg : (x y : ChildConnection) → IsSamePlace x y → leg_in y ≡ leg_in x
same_leg x y p = leg_made y.child x.child y.source x.source y.dest x.dest p.child p.source p.dest

-- nothing is asked about a connection that isn't known
pub new_costs : (price : Leg → ℕ) (fee : Message → ℕ) (parent child source dest : List ℕ) → CostsItsLeg price fee parent (new_view child source dest)
new_costs price fee parent child source dest id m e about = absurd (none-some id e)

pub about_names : (k : Kind) (id : ℕ) → connection_of (request_about k id) ≡ Some id
unfolding request_about connection_of
about_names k id = grind arith

module _ (price : Leg → ℕ) (fee : Message → ℕ) (is : IsFee price fee) (name : List ℕ) (c : ℕ) (x : ChildConnection) (costs : CostsItsLeg price fee name x) where
  -- what names the connection that is known
  pub named_costs : (id : ℕ) (body : Body) → x.connection ≡ Some id → connection_of body ≡ Some id → fee (to_child name c x body) ≤ price (leg_in x)
  named_costs id body e names = costs id (to_child name c x body) e (record { asked_by = refl; asked_of = refl; names = names })

  -- a first reserve, and a modification of a connection that is known
  pub reserve_costs : (o : Option Service) (version : Option ℕ) (start end capacity : ℕ) → (o ≡ None → (id : ℕ) × (x.connection ≡ Some id)) →
      fee (to_child name c x (Body.Reserve (reserve_for o version start end capacity x))) ≤ price (leg_in x)
  unfolding reserve_for connection_of
  reserve_costs (Some s) version start end capacity known =
      let e : fee (to_child name c x (Body.Reserve (first_reserve s version start end capacity x))) ≡ price (leg_in x) =
      is.first (to_child name c x (Body.Reserve (first_reserve s version start end capacity x))) (leg_in x)
      (record { reserve = first_reserve s version start end capacity x; body = refl; unnamed = refl; child = refl; from = refl; to = refl })
      in
      omega (arith, e)
  reserve_costs None version start end capacity known =
      let k = known refl in named_costs k.0 (Body.Reserve (modification x.connection version start end capacity)) k.1 k.1
