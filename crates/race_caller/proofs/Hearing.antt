-- What a requester takes, one after another.
use Rattle.std.proofs.Common.{◌≡◌, ℕ, List, [], ◌∷◌, ◌++◌, true, refl, sym, ap, ◌∙◌, subst, inl, inr}
use Rattle.std.proofs.lemmas.List.{append-nil, append_assoc}
use Rattle.nsi_primitive.specs.declared.ask.Ask.{Ask}
use Rattle.nsi_primitive.specs.declared.message.Message.{Message}
use Rattle.agent_state.specs.State.{AgentState}
use Rattle.stp_topology.specs.declared.network.Network.{Network}
use Rattle.nsi_script.specs.declared.script.Act.{Act}
use Rattle.requester_agent.specs.Steps.{may_take}
use Rattle.race_run.specs.declared.item.Item.{Item}
use Rattle.race_run.specs.declared.replayed.Call.{Call}
use Rattle.race_run.specs.Found.{item, entered}
use Rattle.race_run.specs.Scripts.{ask_by, asks_by}
use Rattle.race_caller.specs.Plays.{asker_after, heard_now, HearsOne, Hears, Plays, PlaysOne, HearsMore, is_work_by}

hears_then : (t : Network) (c : Call) (s u v : AgentState) (xs ys : List Item) → Hears t c s xs u → Hears t c u ys v → Hears t c s (xs ++ ys) v
unfolding Hears
hears_then t c s u v [] ys p q = subst (λ (r : AgentState). Hears t c r ys v) p q
hears_then t c s u v (x ∷ xs) ys p q = (p.0, p.1, hears_then t c p.0 u v xs ys p.2 q)

pub hears_twice : (t : Network) (c : Call) (s u v : AgentState) (x y z : List Item) → HearsMore t c s x u y → HearsMore t c u y v z → HearsMore t c s x v z
hears_twice t c s u v x y z h k = record {
  more = h.more ++ k.more;
  is = k.is ∙ ap (λ (l : List Item). l ++ k.more) h.is ∙ append_assoc x h.more k.more;
  hears = hears_then t c s u v h.more k.more h.hears k.hears;
}

pub hears_nothing : (t : Network) (c : Call) (s : AgentState) (x : List Item) → HearsMore t c s x s x
unfolding Hears
hears_nothing t c s x = record { more = []; is = sym (append-nil x); hears = refl }

hears_item : (t : Network) (c : Call) (s u : AgentState) (y : Item) (x : List Item) → HearsOne t c s y u → HearsMore t c s x u (x ++ y ∷ [])
unfolding Hears
hears_item t c s u y x h = record { more = y ∷ []; is = refl; hears = (u, h, refl) }

pub hears_message : (t : Network) (c : Call) (place : ℕ) (s : AgentState) (m : Message) (x : List Item) → may_take s (heard_now s m) ≡ true
    → HearsMore t c s x (asker_after t c.agent s (heard_now s m)).state (x ++ item place (entered c.agent (heard_now s m)) ∷ [])
hears_message t c place s m x may =
    hears_item t c s (asker_after t c.agent s (heard_now s m)).state (item place (entered c.agent (heard_now s m))) x (inl (record { message = m; is = refl; may = may; ends = refl }))

pub hears_work : (t : Network) (c : Call) (s : AgentState) (y : Item) (x : List Item) → is_work_by c.provider y.event ≡ true → HearsMore t c s x s (x ++ y ∷ [])
hears_work t c s y x work = hears_item t c s s y x (inr (record { work = work; ends = refl }))

---- All asks

pub plays_then : (t : Network) (c : Call) (s u v : AgentState) (asks more : List Ask) (a b : List Item) → Plays t c s asks a u → Plays t c u more b v → Plays t c s (asks ++ more) (a ++ b) v
unfolding Plays
plays_then t c s u v [] more a b p q = subst (λ (l : List Item). Plays t c s more (l ++ b) v) (sym p.0) (subst (λ (r : AgentState). Plays t c r more b v) p.1 q)
plays_then t c s u v (ask ∷ asks) more a b p q =
    (p.0, p.1, p.2 ++ b, ap (λ (l : List Item). l ++ b) p.3 ∙ append_assoc p.1 p.2 b, p.4, plays_then t c p.0 u v asks more p.2 b p.5 q)

pub plays_one : (t : Network) (c : Call) (s u : AgentState) (ask : Ask) (a : List Item) → PlaysOne t c s ask a u → Plays t c s (ask ∷ []) a u
unfolding Plays
plays_one t c s u ask a p = (u, a, [], sym (append-nil a), p, (refl, refl))

pub plays_none : (t : Network) (c : Call) (s : AgentState) → Plays t c s [] [] s
unfolding Plays
plays_none t c s = (refl, refl)

pub asks_push : (a : ℕ) (acts : List Act) (act : Act) → asks_by a (acts ++ act ∷ []) ≡ asks_by a acts ++ ask_by a act
unfolding asks_by
asks_push a [] act = append-nil (ask_by a act)
asks_push a (x ∷ acts) act = ap (λ (l : List Ask). ask_by a x ++ l) (asks_push a acts act) ∙ sym (append_assoc (ask_by a x) (asks_by a acts) (ask_by a act))
