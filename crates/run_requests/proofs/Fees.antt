-- What each request is worth in journals: a first reserve as much as its leg, and a request about a record as much as the leg between its points.
use Rattle.std.proofs.Common.{◌≡◌, ◌≤◌, ◌∙◌, ℕ, List, Option, Some, None, refl, ap, arith}
use Rattle.nsi_primitive.specs.Messages.{connection_of}
use Rattle.nsi_primitive.specs.declared.message.Body.{Body}
use Rattle.nsi_primitive.specs.declared.message.Message.{Message}
use Rattle.nsi_primitive.specs.declared.message.ReserveRequest.{ReserveRequest}
use Rattle.agent_state.specs.State.{record_at}
use Rattle.agent_state.specs.declared.parent.Leg.{Leg}
use Rattle.connection_record.specs.Refusal.{place_of}
use Rattle.connection_record.specs.declared.record.Record.{Record}
use Rattle.request_worth.specs.Worth.{IsFirst, IsFee}

-- the leg of a first reserve
abbrev first_of : (connection : Option ℕ) (source dest : Option (List ℕ)) → List ℕ → Option Leg
first_of None (Some source) (Some dest) child = Some (record { child = child; source = source; dest = dest })
first_of _ _ _ child = None

abbrev first_in : Body → List ℕ → Option Leg
first_in (Body.Reserve q) child = first_of q.connection q.source q.dest child
first_in _ child = None

-- an agent that is asked: it is none, or it has these records
abbrev pub Served : Type 0
Served = Option (List Record)

module _ (price : Leg → ℕ) (serves : List ℕ → Served) where
  -- a record at a place, of an agent of that name
  abbrev worth_at : Option ℕ → List ℕ → List Record → ℕ
  worth_at None child rs = 1
  worth_at (Some n) child rs = price (record { child = child; source = (record_at n rs).service.source; dest = (record_at n rs).service.dest })

  abbrev worth_among : Served → Option ℕ → (owner child : List ℕ) → ℕ
  worth_among (Some rs) (Some id) owner child = worth_at (place_of id owner rs) child rs
  worth_among _ _ owner child = 1

  abbrev worth_by : Option Leg → Message → ℕ
  worth_by (Some leg) m = price leg
  worth_by None m = worth_among (serves m.header.provider) (connection_of m.body) m.header.requester m.header.provider

  unfoldable pub fee : Message → ℕ
  fee m = worth_by (first_in m.body m.header.provider) m

  ---- It is a fee

  at_least : ((leg : Leg) → 1 ≤ price leg) → (o : Option ℕ) (child : List ℕ) (rs : List Record) → 1 ≤ worth_at o child rs
  at_least low None child rs = omega arith
  at_least low (Some n) child rs = low _

  among_least : ((leg : Leg) → 1 ≤ price leg) → (s : Served) (o : Option ℕ) (owner child : List ℕ) → 1 ≤ worth_among s o owner child
  among_least low (Some rs) (Some id) owner child = at_least low (place_of id owner rs) child rs
  among_least low (Some rs) None owner child = omega arith
  among_least low None o owner child = omega arith

  by_least : ((leg : Leg) → 1 ≤ price leg) → (o : Option Leg) (m : Message) → 1 ≤ worth_by o m
  by_least low (Some leg) m = low leg
  by_least low None m = among_least low (serves m.header.provider) (connection_of m.body) m.header.requester m.header.provider

  first_leg : (connection : Option ℕ) (source dest : Option (List ℕ)) (child : List ℕ) (leg : Leg) → connection ≡ None → source ≡ Some leg.source → dest ≡ Some leg.dest → child ≡ leg.child →
      first_of connection source dest child ≡ Some leg
  first_leg connection source dest child leg e f g h = rw (e, f, g, h) refl

  first_worth : (m : Message) (leg : Leg) → IsFirst m leg → fee m ≡ price leg
  unfolding fee
  first_worth m leg is =
      let q : ReserveRequest = is.reserve in
      let found : first_in m.body m.header.provider ≡ Some leg =
      ap (λ (b : Body). first_in b m.header.provider) is.body ∙ first_leg q.connection q.source q.dest m.header.provider leg is.unnamed is.from is.to is.child
      in
      ap (λ (o : Option Leg). worth_by o m) found

  pub is_fee : ((leg : Leg) → 1 ≤ price leg) → IsFee price fee
  unfolding fee
  is_fee low = record { something = λ m. by_least low (first_in m.body m.header.provider) m; first = first_worth }

  ---- A request about a connection

  no_first : (connection : Option ℕ) (source dest : Option (List ℕ)) (child : List ℕ) (id : ℕ) → connection ≡ Some id → first_of connection source dest child ≡ None
  no_first connection source dest child id e = rw e refl

  named_first : (body : Body) (child : List ℕ) (id : ℕ) → connection_of body ≡ Some id → first_in body child ≡ None
  unfolding connection_of
  named_first (Body.Reserve q) child id e = no_first q.connection q.source q.dest child id e
  named_first _ child id e = refl

  pub named_worth : (m : Message) (id : ℕ) → connection_of m.body ≡ Some id → fee m ≡ worth_among (serves m.header.provider) (Some id) m.header.requester m.header.provider
  unfolding fee
  named_worth m id e =
      ap (λ (o : Option Leg). worth_by o m) (named_first m.body m.header.provider id e)
      ∙ ap (λ (o : Option ℕ). worth_among (serves m.header.provider) o m.header.requester m.header.provider) e

  -- a summary of all connections names none
  pub summary_worth : (m : Message) → m.body ≡ Body.QuerySummary None → fee m ≡ 1
  unfolding fee connection_of
  summary_worth m e =
      ap (λ (b : Body). worth_by (first_in b m.header.provider) m) e
      ∙ (ap (λ (b : Body). worth_among (serves m.header.provider) (connection_of b) m.header.requester m.header.provider) e ∙ none_worth (serves m.header.provider))
    where
      none_worth : (s : Served) → worth_among s None m.header.requester m.header.provider ≡ 1
      none_worth None = refl
      none_worth (Some rs) = refl

  ---- Its worth, by the record that it names

  -- no more than a leg, where each record that it may name is between the leg's points
  pub named_costs : ((leg : Leg) → 1 ≤ price leg) → (m : Message) (id : ℕ) (leg : Leg) → connection_of m.body ≡ Some id → m.header.provider ≡ leg.child →
      ((rs : List Record) (n : ℕ) → serves m.header.provider ≡ Some rs → place_of id m.header.requester rs ≡ Some n → ((record_at n rs).service.source ≡ leg.source) × ((record_at n rs).service.dest ≡ leg.dest)) →
      fee m ≤ price leg
  named_costs low m id leg names to between = omega (arith, named_worth m id names, by_served (serves m.header.provider) refl)
    where
      same : (child source dest : List ℕ) → child ≡ leg.child → source ≡ leg.source → dest ≡ leg.dest → price (record { child = child; source = source; dest = dest }) ≡ price leg
      same child source dest e f g = rw (e, f, g) refl

      by_place : (rs : List Record) (o : Option ℕ) → serves m.header.provider ≡ Some rs → place_of id m.header.requester rs ≡ o → worth_at o m.header.provider rs ≤ price leg
      by_place rs None e f = low leg
      by_place rs (Some n) e f =
          let b = between rs n e f in
          omega (arith, same m.header.provider (record_at n rs).service.source (record_at n rs).service.dest to b.0 b.1)

      by_served : (s : Served) → serves m.header.provider ≡ s → worth_among s (Some id) m.header.requester m.header.provider ≤ price leg
      by_served None e = low leg
      by_served (Some rs) e = by_place rs (place_of id m.header.requester rs) e refl

  -- and as much as one, where the record that it names is between the leg's points
  pub named_pays : (m : Message) (id n : ℕ) (rs : List Record) (leg : Leg) → connection_of m.body ≡ Some id → m.header.provider ≡ leg.child → serves m.header.provider ≡ Some rs →
      place_of id m.header.requester rs ≡ Some n → (record_at n rs).service.source ≡ leg.source → (record_at n rs).service.dest ≡ leg.dest → price leg ≤ fee m
  named_pays m id n rs leg names to served placed source dest =
      let is : worth_among (serves m.header.provider) (Some id) m.header.requester m.header.provider ≡ worth_at (Some n) m.header.provider rs =
      ap (λ (s : Served). worth_among s (Some id) m.header.requester m.header.provider) served ∙ ap (λ (o : Option ℕ). worth_at o m.header.provider rs) placed
      in
      omega (arith, named_worth m id names, is, same m.header.provider (record_at n rs).service.source (record_at n rs).service.dest to source dest)
    where
      same : (child from onto : List ℕ) → child ≡ leg.child → from ≡ leg.source → onto ≡ leg.dest → price (record { child = child; source = from; dest = onto }) ≡ price leg
      same child from onto e f g = rw (e, f, g) refl
