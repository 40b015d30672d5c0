-- What lies at an agent's doors was said, whatever is queued, pushed or learnt.
use Rattle.std.proofs.Common.{ℕ, ◌≡◌, List, [], ◌∷◌, Option, Some, None, inl, inr, refl, sym, subst, map}
use Rattle.std.specs.List.{All}
use Rattle.std.proofs.lemmas.Bool.{cases_eq}
use Rattle.std.proofs.lemmas.List.Elements.{All-nil, All-cons, All-head, All-tail, All-append, All-push, All-weaker, All-map}
use Rattle.nsi_primitive.specs.Messages.{identity, addressee}
use Rattle.nsi_primitive.specs.declared.message.Message.{Message}
use Rattle.nsi_primitive.specs.declared.message.Parcel.{Parcel}
use Rattle.agent_node.specs.Doors.{Door, change_first, with_parcel, queue_at}
use Rattle.agent_node.specs.Passing.{queue_if, says, says_all, pushes, come_through, lying, clears, let_through, learns}
use Rattle.agent_node.proofs.Passing.{passes_out, passes_queue}
use Rattle.agent_node.proofs.Joints.{change_nil, change_here, change_there, through_nil, through_here, through_there}
use Rattle.nsi_world.specs.Worlds.{Homes, World, synced_part, IsSaidBy, IsGot}
use Rattle.nsi_world.specs.Seats.{MayGo, IsDoor, Follows}
use Rattle.nsi_world.proofs.Given.{Given}
use Rattle.nsi_world.proofs.Later.{go_later}

---- The first door to an agent

change_all : (P : Door → Type 0) (to : ℕ) (f : Door → Door) → ((d : Door) → d.other ≡ to → P d → P (f d)) → (ds : List Door) → All P ds → All P (change_first to f ds)
change_all P to f step [] h = subst (All P) (sym (change_nil to f)) h
change_all P to f step (d ∷ ds) h = elim (cases_eq d.other to) [
  | inl e ↦ subst (All P) (sym (change_here to f d ds e)) (All-cons P (f d) ds (step d e (All-head P d ds h)) (All-tail P d ds h))
  | inr n ↦ subst (All P) (sym (change_there to f d ds n)) (All-cons P d (change_first to f ds) (All-head P d ds h) (change_all P to f step ds (All-tail P d ds h)))
]

---- What is queued

pub doors_queue : (homes : Homes) (w : World) (a to : ℕ) (p : Parcel) (ds : List Door) → MayGo homes w w.journal a to p → All (IsDoor homes w a) ds → All (IsDoor homes w a) (queue_at to p ds)
doors_queue homes w a to p ds q h = change_all (IsDoor homes w a) to (with_parcel p) step ds h
  where
    step : (d : Door) → d.other ≡ to → IsDoor homes w a d → IsDoor homes w a (with_parcel p d)
    step d e k = record {
      inc = k.inc;
      out = k.out;
      queue = All-push (MayGo homes w w.journal a d.other) d.queue p k.queue (subst (λ o. MayGo homes w w.journal a o p) (sym e) q);
    }

doors_lead : (homes : Homes) → Given homes → (w : World) (a : ℕ) (m : Message) (o : Option ℕ) (ds : List Door) → (homes a).agent_of (addressee (identity m)) ≡ o → IsSaidBy homes w a m
    → All (IsDoor homes w a) ds → All (IsDoor homes w a) (queue_if o (Parcel.Message m) ds)
doors_lead homes given w a m None ds e q h = h
doors_lead homes given w a m (Some to) ds e q h = doors_queue homes w a to (Parcel.Message m) ds (q, sym (given.back a to (addressee (identity m)) e)) h

pub doors_say : (homes : Homes) → Given homes → (w : World) (a : ℕ) (ms : List Message) (ds : List Door) → All (IsSaidBy homes w a) ms → All (IsDoor homes w a) ds
    → All (IsDoor homes w a) (says_all (homes a).agent_of ms ds)
unfolding says_all
doors_say homes given w a [] ds q h = h
doors_say homes given w a (m ∷ ms) ds q h =
    doors_say homes given w a ms (says (homes a).agent_of m ds) (All-tail (IsSaidBy homes w a) m ms q)
    (doors_lead homes given w a m ((homes a).agent_of (addressee (identity m))) ds refl (All-head (IsSaidBy homes w a) m ms q) h)

---- What is taken and pushed

pub doors_clear : (homes : Homes) (w : World) (a : ℕ) (ds : List Door) → All (IsDoor homes w a) ds → All (IsDoor homes w a) (map clears ds)
doors_clear homes w a ds h = All-map (IsDoor homes w a) clears ds (All-weaker (IsDoor homes w a) (λ d. IsDoor homes w a (clears d)) step ds h)
  where
    step : (d : Door) → IsDoor homes w a d → IsDoor homes w a (clears d)
    step d k = record { inc = All-nil (MayGo homes w (synced_part w) d.other a); out = k.out; queue = k.queue }

go_synced : (homes : Homes) (w : World) (a to : ℕ) (p : Parcel) → w.journal a ≡ synced_part w a → MayGo homes w w.journal a to p → MayGo homes w (synced_part w) a to p
go_synced homes w a to (Parcel.Message m) e h = h
go_synced homes w a to (Parcel.Ack i) e h = (h.0, h.1, record { said = h.2.said; addressed = h.2.addressed; got = subst (IsGot h.0) e h.2.got })

pub doors_push : (homes : Homes) (w : World) (a : ℕ) (ds : List Door) → w.journal a ≡ synced_part w a → All (IsDoor homes w a) ds → All (IsDoor homes w a) (map pushes ds)
doors_push homes w a ds e h = All-map (IsDoor homes w a) pushes ds (All-weaker (IsDoor homes w a) (λ d. IsDoor homes w a (pushes d)) step ds h)
  where
    step : (d : Door) → IsDoor homes w a d → IsDoor homes w a (pushes d)
    step d k =
        let all : All (MayGo homes w (synced_part w) a d.other) d.queue = All-weaker (MayGo homes w w.journal a d.other) (MayGo homes w (synced_part w) a d.other) (λ p. go_synced homes w a d.other p e) d.queue k.queue in
        record {
          inc = k.inc;
          out = passes_out (MayGo homes w (synced_part w) a d.other) d.queue d.plan d.out all k.out;
          queue = passes_queue (MayGo homes w w.journal a d.other) d.queue d.plan d.out k.queue;
        }

-- a parcel that came, with its sender
abbrev pub IsComing : Homes → World → ℕ → ℕ × Parcel → Type 0
IsComing homes w a x = MayGo homes w (synced_part w) x.0 a x.1

pub doors_lying : (homes : Homes) (w : World) (a : ℕ) (ds : List Door) → All (IsDoor homes w a) ds → All (IsComing homes w a) (lying ds)
doors_lying homes w a [] h = All-nil (IsComing homes w a)
doors_lying homes w a (d ∷ ds) h =
    All-append (IsComing homes w a) (come_through d) (lying ds) (All-map (IsComing homes w a) (λ p. (d.other, p)) d.inc (All-head (IsDoor homes w a) d ds h).inc)
    (doors_lying homes w a ds (All-tail (IsDoor homes w a) d ds h))

pub lying_later : (homes : Homes) (rests : ℕ → Type 0) (w v : World) (a : ℕ) (xs : List (ℕ × Parcel)) → Follows rests w v → All (IsComing homes w a) xs → All (IsComing homes v a) xs
lying_later homes rests w v a xs f h = All-weaker (IsComing homes w a) (IsComing homes v a) (λ x. go_later homes w v (synced_part w) (synced_part v) x.0 a x.1 f.grows f.grows) xs h

---- Meetings

pub doors_through : (homes : Homes) (w : World) (a to : ℕ) (ds : List Door) → All (IsDoor homes w a) ds → All (MayGo homes w (synced_part w) a to) (let_through to ds)
doors_through homes w a to [] h = subst (All (MayGo homes w (synced_part w) a to)) (sym (through_nil to)) (All-nil (MayGo homes w (synced_part w) a to))
doors_through homes w a to (d ∷ ds) h = elim (cases_eq d.other to) [
  | inl e ↦ subst (All (MayGo homes w (synced_part w) a to)) (sym (through_here to d ds e)) (subst (λ o. All (MayGo homes w (synced_part w) a o) d.out) e (All-head (IsDoor homes w a) d ds h).out)
  | inr n ↦ subst (All (MayGo homes w (synced_part w) a to)) (sym (through_there to d ds n)) (doors_through homes w a to ds (All-tail (IsDoor homes w a) d ds h))
]

pub doors_learn : (homes : Homes) (w : World) (a from : ℕ) (ps : List Parcel) (ds : List Door) → All (MayGo homes w (synced_part w) from a) ps → All (IsDoor homes w a) ds
    → All (IsDoor homes w a) (change_first from (learns ps) ds)
doors_learn homes w a from ps ds q h = change_all (IsDoor homes w a) from (learns ps) step ds h
  where
    step : (d : Door) → d.other ≡ from → IsDoor homes w a d → IsDoor homes w a (learns ps d)
    step d e k = record {
      inc = subst (λ o. All (MayGo homes w (synced_part w) o a) ps) (sym e) q;
      out = All-nil (MayGo homes w (synced_part w) a d.other);
      queue = k.queue;
    }
