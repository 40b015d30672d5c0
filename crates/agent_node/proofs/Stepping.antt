-- Steps of a turn, one after another.
use Rattle.std.proofs.Common.{ℕ, ◌+◌, ◌<◌, ◌≤◌, ◌≡◌, Option, Some, None, refl, sym, ap, ◌∙◌, subst, arith, le_trans}
use Rattle.nsi_primitive.specs.declared.message.Parcel.{Parcel}
use Rattle.agent_state.specs.Entries.{most_entries}
use Rattle.nsi_agent.specs.Homes.{Home, AreRoutes, home_in}
use Rattle.agent_node.specs.declared.fault.TurnFault.{TurnFault}
use Rattle.agent_node.specs.Seat.{Seat, queues}
use Rattle.agent_node.specs.Seated.{Seated, AtSeat, Stays, Goes}
use Rattle.agent_node.proofs.Growing.{count}

abbrev pub none : Option TurnFault
none = None

pub no_fault : {A : Type 0} (z : TurnFault) → Some z ≡ None → A
no_fault z e = absurd (cc)

pub stays_same : (a : Seated) → Stays a a
stays_same a = record { network = refl; number = refl; plugs = refl; others = refl; synced = refl }

pub stays_twice : (a b c : Seated) → Stays a b → Stays b c → Stays a c
stays_twice a b c p q = record {
  network = q.network ∙ p.network;
  number = q.number ∙ p.number;
  plugs = q.plugs ∙ p.plugs;
  others = q.others ∙ p.others;
  synced = q.synced ∙ p.synced;
}

-- what is true at the homes of an agent is so at those that it had
pub at_before : (a b : Seated) (P : Home → Type 0) → Stays a b → AtSeat b P → AtSeat a P
at_before a b P s h = λ routes are.
    subst (λ n. P (home_in a.network routes n)) s.number
    (subst (λ t. P (home_in t routes b.seat.number)) s.network (h routes (subst (λ t. AreRoutes t routes) (sym s.network) are)))

-- steps that do the same to this agent
pub goes_as : (f g : Home → Seat → Seat) (r l : ℕ) (a b : Seated) (z : Option TurnFault) → AtSeat a (λ h. f h a.seat ≡ g h a.seat) → Goes f r l a b z → Goes g r l a b z
goes_as f g r l a b z same p = record {
  ok = λ routes are e. p.ok routes are e ∙ same routes are;
  long = λ routes are e. subst (λ s. r + count a.seat < count s) (same routes are) (p.long routes are e);
  spent = p.spent;
  few = p.few;
  failed = p.failed;
  stopped = p.stopped;
  stays = p.stays;
}

-- nothing is done
pub rests : (f : Home → Seat → Seat) (r : ℕ) (a : Seated) → a.seat.state.base.taken + r ≤ most_entries → AtSeat a (λ h. f h a.seat ≡ a.seat) → Goes f r r a a None
rests f r a few same = record {
  ok = λ routes are e. sym (same routes are);
  long = λ routes are e. absurd (cc);
  spent = λ e. refl;
  few = λ e. few;
  failed = λ e. absurd (cc);
  stopped = λ e. absurd (cc);
  stays = stays_same a;
}

-- memory is wanting
pub lacks : (f : Home → Seat → Seat) (r l : ℕ) (a b : Seated) → Stays a b → Goes f r l a b (Some TurnFault.NoMemory)
lacks f r l a b s = record {
  ok = λ routes are e. absurd (cc);
  long = λ routes are e. absurd (cc);
  spent = λ e. absurd (cc);
  few = λ e. absurd (cc);
  failed = λ e. absurd (cc);
  stopped = λ e. absurd (cc);
  stays = s;
}

-- there is no room for an event that is due
pub too_long : (f : Home → Seat → Seat) (r : ℕ) (a : Seated) → r ≡ 0 → AtSeat a (λ h. count a.seat < count (f h a.seat)) → Goes f r r a a (Some TurnFault.Long)
too_long f r a none more = record {
  ok = λ routes are e. absurd (cc);
  long = λ routes are e. let m = more routes are in omega (arith, none, m);
  spent = λ e. absurd (cc);
  few = λ e. absurd (cc);
  failed = λ e. absurd (cc);
  stopped = λ e. absurd (cc);
  stays = stays_same a;
}

-- something more to push
pub queued : (f : Home → Seat → Seat) (to : ℕ) (p : Parcel) (r l : ℕ) (a b c : Seated) → Goes f r l a b None → c.seat ≡ queues to p b.seat → Stays b c → Goes (λ h s. queues to p (f h s)) r l a c None
queued f to p r l a b c g e s = record {
  ok = λ routes are z. e ∙ ap (queues to p) (g.ok routes are refl);
  long = λ routes are z. absurd (cc);
  spent = λ z. ap (λ (x : Seat). l + count x) e ∙ g.spent refl;
  few = λ z. subst (λ (x : Seat). x.state.base.taken + l ≤ most_entries) (sym e) (g.few refl);
  failed = λ z. absurd (cc);
  stopped = λ z. absurd (cc);
  stays = stays_twice a b c g.stays s;
}

-- the fault of a first step is that of all
pub stops : (f g : Home → Seat → Seat) (r l : ℕ) (a b : Seated) (z : TurnFault) → ((h : Home) (s : Seat) → count s ≤ count (g h s)) → Goes f r l a b (Some z) → Goes (λ h s. g h (f h s)) r l a b (Some z)
stops f g r l a b z grows p = record {
  ok = λ routes are e. no_fault z e;
  long = λ routes are e. le_trans (p.long routes are e) (grows (home_in a.network routes a.seat.number) (f (home_in a.network routes a.seat.number) a.seat));
  spent = λ e. no_fault z e;
  few = λ e. no_fault z e;
  failed = p.failed;
  stopped = p.stopped;
  stays = p.stays;
}

pub goes_twice : (f g : Home → Seat → Seat) (r l k : ℕ) (a b c : Seated) (z : Option TurnFault) → Goes f r l a b None → Goes g l k b c z → Goes (λ h s. g h (f h s)) r k a c z
goes_twice f g r l k a b c z p q = record {
  ok = λ routes are e.
      at_before a b (λ h. z ≡ None → c.seat ≡ g h b.seat) p.stays q.ok routes are e ∙ ap (g (home_in a.network routes a.seat.number)) (p.ok routes are refl);
  long = λ routes are e.
      let far : l + count b.seat < count (g (home_in a.network routes a.seat.number) b.seat) =
      at_before a b (λ h. z ≡ Some TurnFault.Long → l + count b.seat < count (g h b.seat)) p.stays q.long routes are e in
      let same = ap (λ (s : Seat). count (g (home_in a.network routes a.seat.number) s)) (p.ok routes are refl) in
      let spent = p.spent refl in
      omega (arith, far, same, spent);
  spent = λ e. q.spent e ∙ p.spent refl;
  few = q.few;
  failed = q.failed;
  stopped = q.stopped;
  stays = stays_twice a b c p.stays q.stays;
}

---- Loops

-- what is still to be done from here is what all makes from the start
pub record IsOnWay (all rest : Home → Seat → Seat) (room left : ℕ) (old new : Seated) : Type 0 where
  pub way : AtSeat old (λ h. rest h new.seat ≡ all h old.seat)
  pub spent : left + count new.seat ≡ room + count old.seat
  pub few : new.seat.state.base.taken + left ≤ most_entries
  pub stays : Stays old new

pub goes_on : (all rest f later : Home → Seat → Seat) (r l k : ℕ) (a b c : Seated) → AtSeat b (λ h. later h (f h b.seat) ≡ rest h b.seat) → IsOnWay all rest r l a b → Goes f l k b c None → IsOnWay all later r k a c
goes_on all rest f later r l k a b c same w p = record {
  way = λ routes are.
      ap (later (home_in a.network routes a.seat.number)) (at_before a b (λ h. none ≡ None → c.seat ≡ f h b.seat) w.stays p.ok routes are refl)
      ∙ (at_before a b (λ h. later h (f h b.seat) ≡ rest h b.seat) w.stays same routes are ∙ w.way routes are);
  spent = p.spent refl ∙ w.spent;
  few = p.few refl;
  stays = stays_twice a b c w.stays p.stays;
}

pub ends : (all rest : Home → Seat → Seat) (r l : ℕ) (a b : Seated) → AtSeat b (λ h. rest h b.seat ≡ b.seat) → IsOnWay all rest r l a b → Goes all r l a b None
ends all rest r l a b none w = record {
  ok = λ routes are e. sym (at_before a b (λ h. rest h b.seat ≡ b.seat) w.stays none routes are) ∙ w.way routes are;
  long = λ routes are e. absurd (cc);
  spent = λ e. w.spent;
  few = λ e. w.few;
  failed = λ e. absurd (cc);
  stopped = λ e. absurd (cc);
  stays = w.stays;
}

pub breaks_off : (all rest f later : Home → Seat → Seat) (r l k : ℕ) (a b c : Seated) (z : TurnFault) → AtSeat b (λ h. later h (f h b.seat) ≡ rest h b.seat) → ((h : Home) (s : Seat) → count s ≤ count (later h s))
    → IsOnWay all rest r l a b → Goes f l k b c (Some z) → Goes all r k a c (Some z)
breaks_off all rest f later r l k a b c z same grows w p = record {
  ok = λ routes are e. no_fault z e;
  long = λ routes are e.
      let h = home_in a.network routes a.seat.number in
      let far : l + count b.seat < count (f h b.seat) = at_before a b (λ o. Some z ≡ Some TurnFault.Long → l + count b.seat < count (f o b.seat)) w.stays p.long routes are e in
      let more : count (f h b.seat) ≤ count (later h (f h b.seat)) = grows h (f h b.seat) in
      let here = ap (λ (s : Seat). count s) (at_before a b (λ o. later o (f o b.seat) ≡ rest o b.seat) w.stays same routes are ∙ w.way routes are) in
      let spent = w.spent in
      omega (arith, far, more, here, spent);
  spent = λ e. no_fault z e;
  few = λ e. no_fault z e;
  failed = p.failed;
  stopped = p.stopped;
  stays = stays_twice a b c w.stays p.stays;
}
