-- What a caller hears, message by message, and keeps.
use Rattle.std.proofs.Common.{◌≡◌, ◌∙◌, ℕ, Bool, true, false, List, [], ◌∷◌, ◌++◌, map, length, length-append, refl, sym, ap, subst, arith}
use Rattle.std.specs.Global.{Vec}
use Rattle.std.proofs.lemmas.Bool.{true≢false}
use Rattle.std.proofs.lemmas.List.{append-nil, append_assoc, map-append}
use Rattle.nsi_primitive.specs.declared.message.Message.{Message}
use Rattle.agent_state.specs.State.{AgentState}
use Rattle.stp_topology.specs.declared.network.Network.{Network}
use Rattle.requester_agent.specs.Setting.{setting_of}
use Rattle.sole_requester.proofs.Counted.{message_heard}
use Rattle.race_run.specs.declared.item.Item.{Item}
use Rattle.race_run.specs.declared.replayed.Call.{Call}
use Rattle.race_run.specs.Found.{item, entered, got, heard_item}
use Rattle.race_caller.specs.declared.asker.Asker.{Asker}
use Rattle.race_caller.specs.Askers.{HasTaken}
use Rattle.race_caller.specs.Alone.{HasRoomFor, HasHeardThese}

-- one message was taken, and the entry was kept
pub one_heard : (t : Network) (x y z : Asker) (place second : ℕ) (m : Message) (said : Vec Message) → second ≡ x.requester.state.base.now → HasTaken t (got second m) x y said
    → z ≡ record y { kept = y.kept ++ item place (entered y.call.agent (got second m)) ∷ [] } → HasHeardThese place (m ∷ []) x z true
one_heard t x y z place second m said now h is =
    let state : z.requester.state ≡ y.requester.state = ap (λ (w : Asker). w.requester.state) is in
    let k = message_heard (setting_of t x.call.agent) x.requester.state second m h.may in
    record {
      goes = refl;
      call = ap (λ (w : Asker). w.call) is ∙ h.call;
      kept = ap (λ (w : Asker). w.kept) is ∙ (λ i. h.kept i ++ item place (entered (ap (λ (c : Call). c.agent) h.call i) (got (now i) m)) ∷ []);
      next = ap (λ (s : AgentState). s.base.next) (state ∙ h.state) ∙ k.next;
      now = ap (λ (s : AgentState). s.base.now) (state ∙ h.state) ∙ k.now;
      taken = ap (λ (s : AgentState). s.base.taken) (state ∙ h.state) ∙ k.taken;
    }

pub none_heard : (place : ℕ) (x : Asker) → HasHeardThese place [] x x true
none_heard place x = record { goes = refl; call = refl; kept = sym (append-nil x.kept); next = refl; now = refl; taken = omega arith }

pub more_heard : (place : ℕ) (front : List Message) (m : Message) (x y z : Asker) (on : Bool) → HasHeardThese place front x y true → HasHeardThese place (m ∷ []) y z on → HasHeardThese place (front ++ m ∷ []) x z on
more_heard place front m x y z on h k = record {
  goes = k.goes;
  call = k.call ∙ h.call;
  kept =
      k.kept
      ∙ ((λ i. h.kept i ++ heard_item (ap (λ (c : Call). c.agent) h.call i) (h.now i) place m ∷ [])
      ∙ (append_assoc x.kept (map (heard_item x.call.agent x.requester.state.base.now place) front) (heard_item x.call.agent x.requester.state.base.now place m ∷ [])
      ∙ ap (λ (l : List Item). x.kept ++ l) (sym (map-append (heard_item x.call.agent x.requester.state.base.now place) front (m ∷ [])))));
  next = k.next ∙ h.next;
  now = k.now ∙ h.now;
  taken = omega (arith, k.taken, h.taken, length-append front (m ∷ []));
}

-- there is room for one message more
pub room_left : (place : ℕ) (all front : List Message) (m : Message) (rest : List Message) (x y : Asker) → all ≡ front ++ m ∷ rest → HasRoomFor (length all) x → HasHeardThese place front x y true → HasRoomFor 1 y
room_left place all front m rest x y parts room h = omega (arith, room, h.taken, ap length parts, length-append front (m ∷ rest))

-- no message is left
pub all_heard_of : (place : ℕ) (all front rest : List Message) (x y : Asker) → all ≡ front ++ rest → length rest ≡ 0 → HasHeardThese place front x y true → HasHeardThese place all x y true
all_heard_of place all front [] x y parts none h = subst (λ (l : List Message). HasHeardThese place l x y true) (sym (parts ∙ append-nil front)) h
all_heard_of place all front (m ∷ rest) x y parts none h = absurd (omega (arith, none))

pub not_ended : (place : ℕ) (ms : List Message) (x y : Asker) (on : Bool) → on ≡ false → HasHeardThese place ms x y on → ⊥
not_ended place ms x y on off h = true≢false (sym h.goes ∙ off)
