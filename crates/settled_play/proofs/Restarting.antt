-- Restarts of some agents: what holds always still holds, a pair whose one restarts is made afresh, and one whose other one alone restarts is cut off.
use Rattle.std.proofs.Common.{ℕ, ◌≡◌, ◌≢◌, ◌==◌, ◌&&◌, ◌||◌, Bool, true, false, cond, not, List, [], ◌∷◌, ◌++◌, Option, Some, None, ◌⊎◌, inl, inr, refl, sym, ap, ◌∙◌, subst, map, take, append_assoc, append-nil, eq-eqb, ne_eqb}
use Rattle.std.specs.List.{All, Contains}
use Rattle.std.proofs.lemmas.Bool.{cases_eq}
use Rattle.std.proofs.lemmas.List.Elements.{All-nil, All-take}
use Rattle.nsi_primitive.specs.declared.entry.Entry.{Entry}
use Rattle.nsi_primitive.specs.declared.entry.Event.{Event}
use Rattle.nsi_primitive.specs.declared.entry.Happening.{Happening}
use Rattle.nsi_primitive.specs.declared.message.Message.{Message}
use Rattle.stp_topology.specs.declared.network.Network.{Network}
use Rattle.nsi_agent.specs.Homes.{Home, Routes, home_in}
use Rattle.nsi_agent.specs.Told.{told}
use Rattle.nsi_agent.proofs.Telling.{waiting_was_caused}
use Rattle.agent_node.specs.Doors.{Door}
use Rattle.agent_node.specs.Passing.{others, says_all}
use Rattle.agent_node.specs.Openings.{others_of}
use Rattle.agent_node.specs.Restarts.{drops}
use Rattle.agent_node.specs.Seat.{Seat}
use Rattle.nsi_play.specs.Openings.{Plans}
use Rattle.nsi_play.specs.Rounds.{Net, emptied}
use Rattle.nsi_world.specs.Worlds.{World, empty}
use Rattle.nsi_world.specs.Runs.{happens, world_after}
use Rattle.nsi_world.specs.Seats.{AreFree}
use Rattle.nsi_world.proofs.Acked.{AcksAreOfGot, acks_are_of_got}
use Rattle.nsi_world.proofs.Later.{after_append, at_same, at_other}
use Rattle.settled_play.specs.Settled.{cuts_by, cut_after, cut_off}
use Rattle.settled_play.proofs.Finding.{door_to, map_door, others_map, says_keeps}
use Rattle.settled_play.proofs.Links.{Given, Goes, IsLinked}
use Rattle.settled_play.proofs.Steps.{IsDoor, AreDoors, IsInHand, Sits}
use Rattle.settled_play.proofs.Moves.{mapped_from, keeps_said, ways}
use Rattle.settled_play.proofs.Pairs.{IsWithin, within_met, HasSamePlan}
use Rattle.settled_play.proofs.Afresh.{read_spoken, pair_afresh, acked_was_got}
use Rattle.settled_play.proofs.Journals.{journal_at}
use Rattle.settled_play.proofs.Cuts.{cut_append}
use Rattle.settled_play.proofs.Rounds.{SitsIn, PairIn, PairIf, AllWithin, HasMetAll, Rests, sits_as, pair_as, same_numbers, told_all}

---- What a restart makes of an agent

-- it has read these entries: all that waits is queued, and nothing else
pub record HasRead (t : Network) (routes : Routes) (es : List Entry) (s u : Seat) : Type 0 where
  pub number : u.number ≡ s.number
  pub state : u.state ≡ (told (home_in t routes s.number) es).state
  pub unsaid : u.unsaid ≡ []
  pub doors : u.doors ≡ says_all (home_in t routes s.number).agent_of (told (home_in t routes s.number) es).state.base.waiting (map drops s.doors)

dropped : (t : Network) (a : ℕ) (ds : List Door) → AreDoors t a ds → AreDoors t a (map drops ds)
dropped t a ds h d c =
    let r = mapped_from drops ds d c in
    subst (IsDoor t a) r.2 (let k = h r.0 r.1 in record { link = k.link; queue = All-nil (Goes t a r.0.other); out = k.out; inc = k.inc })

dropped_others : (t : Network) (routes : Routes) (past : List Event) (s : Seat) → SitsIn t routes past s → others (map drops s.doors) ≡ others_of t s.number
dropped_others t routes past s h = others_map drops (λ d. refl) s.doors ∙ h.others

read_sits : (t : Network) (routes : Routes) → Given t routes → (past : List Event) (es : List Entry) (s u : Seat) → HasRead t routes es s u → All (IsLinked t s.number) es → SitsIn t routes past s → Sits t routes s.number es [] u
read_sits t routes given past es s u r heard h =
    let home : Home = home_in t routes s.number in
    let ms : List Message = (told home es).state.base.waiting in
    let k = keeps_said t routes s.number ms [] (map drops s.doors) (ways t routes given s.number es ms h.within heard (waiting_was_caused home es)) in
    record {
      number = r.number;
      within = h.within;
      state = sym r.state;
      clear = λ q. r.unsaid;
      unsaid = subst (All (Contains (told home es).out)) (sym r.unsaid) (All-nil (Contains (told home es).out));
      others = ap others r.doors ∙ (k.others ∙ dropped_others t routes past s h);
      doors = subst (AreDoors t s.number) (sym r.doors) (k.doors (dropped t s.number s.doors h.doors));
      heard = heard;
      held = All-nil (IsInHand t s.number);
    }

read_met : (t : Network) (routes : Routes) (es : List Entry) (s u : Seat) → HasRead t routes es s u → HasMetAll s → HasMetAll u
read_met t routes es s u r met b =
    let home : Home = home_in t routes s.number in
    ap (λ (ds : List Door). (door_to b ds).out) r.doors
    ∙ says_keeps (λ d. d.out ≡ []) (λ p d z. z) b home.agent_of (told home es).state.base.waiting (map drops s.doors) (ap (λ (d : Door). d.out) (map_door b drops (λ d. refl) refl s.doors) ∙ met b)

read_plan : (t : Network) (routes : Routes) (es : List Entry) (s u : Seat) → HasRead t routes es s u → (b : ℕ) → HasSamePlan b s u
read_plan t routes es s u r b =
    let home : Home = home_in t routes s.number in
    ap (λ (ds : List Door). (door_to b ds).plan) r.doors
    ∙ says_keeps (λ d. d.plan ≡ (door_to b s.doors).plan) (λ p d z. z) b home.agent_of (told home es).state.base.waiting (map drops s.doors) (ap (λ (d : Door). d.plan) (map_door b drops (λ d. refl) refl s.doors))

read_within : (plans : Plans) (t : Network) (routes : Routes) (es : List Entry) (s u : Seat) → HasRead t routes es s u → AllWithin plans s → AllWithin plans u
read_within plans t routes es s u r h b = subst (λ k. IsWithin (plans k b) b [] u) (sym r.number) (within_met (plans s.number b) b [] s u (read_plan t routes es s u r b) (h b))

---- What the events of restarts say

-- the entries that each agent reads, if it restarts
abbrev pub Reads : Type 0
Reads = ℕ → Option (List Entry)

-- Some agents have restarted, and these entries were read: they have all that holds of each entry before. A pair whose other one has restarted is cut
-- off, unless the one has restarted as well.
pub record AreRestarts (reads : Reads) (past events : List Event) : Type 1 where
  pub others : (b : ℕ) → reads b ≡ None → journal_at b (past ++ events) ≡ journal_at b past
  pub own : (b : ℕ) (es : List Entry) → reads b ≡ Some es → journal_at b (past ++ events) ≡ es
  pub front : (b : ℕ) (es : List Entry) → reads b ≡ Some es → (P : Entry → Type 0) → All P (journal_at b past) → All P es
  pub apart : (b c : ℕ) → reads b ≡ None → reads c ≡ None → cut_off b c (past ++ events) ≡ cut_off b c past
  pub cut : (b c : ℕ) (es : List Entry) → reads b ≡ None → reads c ≡ Some es → cut_off b c (past ++ events) ≡ true

abbrev pub restart : (a count : ℕ) → Event
restart a count = record { agent = a; what = Happening.Restart count }

one_after : (w : World) (e : Event) → world_after w (e ∷ []) ≡ happens w e
unfolding world_after
one_after w e = refl

one_cut : (b c : ℕ) (past : List Event) (e : Event) → cut_off b c (past ++ e ∷ []) ≡ cuts_by e.what (e.agent == b) (e.agent == c) (cut_off b c past)
unfolding cut_after
one_cut b c past e = cut_append b c false past (e ∷ [])

journal_one : (b : ℕ) (past : List Event) (e : Event) → journal_at b (past ++ e ∷ []) ≡ (happens (world_after empty past) e).journal b
journal_one b past e = ap (λ (w : World). w.journal b) (after_append empty past (e ∷ []) ∙ one_after (world_after empty past) e)

pub no_none : {X : Type 0} (x : X) (o : Option X) → o ≡ Some x → o ≡ None → ⊥
no_none x o p q = absurd (cc)

same_some : {X : Type 0} (x y : X) → Some x ≡ Some y → x ≡ y
same_some x y e = cc

-- where nobody has restarted yet
abbrev pub nobody : Reads
nobody b = None

pub restarts_none : (past : List Event) → AreRestarts nobody past []
restarts_none past = record {
  others = λ b n. ap (λ xs. journal_at b xs) (append-nil past);
  own = λ b es q. absurd (no_none es None q refl);
  front = λ b es q. absurd (no_none es None q refl);
  apart = λ b c n m. ap (λ xs. cut_off b c xs) (append-nil past);
  cut = λ b c es n q. absurd (no_none es None q refl);
}

-- and this one restarts with these
abbrev pub with_read : ℕ → List Entry → Reads → Reads
with_read a es reads b = cond (b == a) (Some es) (reads b)

pub read_here : (a : ℕ) (es : List Entry) (reads : Reads) → with_read a es reads a ≡ Some es
read_here a es reads = ap (λ z. cond z (Some es) (reads a)) (eq-eqb a a refl)

pub read_else : (a b : ℕ) (es : List Entry) (reads : Reads) → b ≢ a → with_read a es reads b ≡ reads b
read_else a b es reads n = ap (λ z. cond z (Some es) (reads b)) (ne_eqb b a n)

pub not_here : (a b : ℕ) (es : List Entry) (reads : Reads) → with_read a es reads b ≡ None → b ≢ a
not_here a b es reads q e = no_none es (with_read a es reads a) (read_here a es reads) (subst (λ k. with_read a es reads k ≡ None) e q)

-- one restart more, with so many entries of those that its journal has then
module _ (a count : ℕ) (reads : Reads) (past events : List Event) (h : AreRestarts reads past events) where
  abbrev before : List Event
  before = past ++ events

  abbrev behind : List Event
  behind = past ++ (events ++ restart a count ∷ [])

  abbrev kept : List Entry
  kept = take count (journal_at a before)

  same : before ++ restart a count ∷ [] ≡ behind
  same = append_assoc past events (restart a count ∷ [])

  journal_here : journal_at a behind ≡ kept
  journal_here = ap (λ xs. journal_at a xs) (sym same) ∙ (journal_one a before (restart a count) ∙ at_same a kept (world_after empty before).journal)

  journal_there : (b : ℕ) → b ≢ a → journal_at b behind ≡ journal_at b before
  journal_there b n = ap (λ xs. journal_at b xs) (sym same) ∙ (journal_one b before (restart a count) ∙ at_other a b kept (world_after empty before).journal n)

  flag_there : (b c : ℕ) → b ≢ a → cut_off b c behind ≡ ((a == c) || cut_off b c before)
  flag_there b c n = ap (λ xs. cut_off b c xs) (sym same) ∙ (one_cut b c before (restart a count) ∙ ap (λ z. (a == c) || (not z && cut_off b c before)) (ne_eqb a b (λ q. n (sym q))))

  kept_is : (b : ℕ) (es : List Entry) → b ≡ a → with_read a kept reads b ≡ Some es → kept ≡ es
  kept_is b es k q = same_some kept es (sym (read_here a kept reads) ∙ subst (λ n. with_read a kept reads n ≡ Some es) k q)

  -- what holds of each entry of its journal before these events holds in front of this restart
  holds_before : (P : Entry → Type 0) → All P (journal_at a past) → All P (journal_at a before)
  holds_before P all = by (reads a) refl
    where
      by : (o : Option (List Entry)) → reads a ≡ o → All P (journal_at a before)
      by None q = subst (All P) (sym (h.others a q)) all
      by (Some es) q = subst (All P) (sym (h.own a es q)) (h.front a es q P all)

  pub restarts_more : AreRestarts (with_read a kept reads) past (events ++ restart a count ∷ [])
  restarts_more = record {
    others = λ b q. let n = not_here a b kept reads q in journal_there b n ∙ h.others b (sym (read_else a b kept reads n) ∙ q);
    own = λ b es q. elim (cases_eq b a) [
      | inl k ↦ ap (λ n. journal_at n behind) k ∙ (journal_here ∙ kept_is b es k q)
      | inr n ↦ journal_there b n ∙ h.own b es (sym (read_else a b kept reads n) ∙ q)
    ];
    front = λ b es q P all. elim (cases_eq b a) [
      | inl k ↦ subst (All P) (kept_is b es k q) (All-take P count (journal_at a before) (holds_before P (subst (λ n. All P (journal_at n past)) k all)))
      | inr n ↦ h.front b es (sym (read_else a b kept reads n) ∙ q) P all
    ];
    apart = λ b c q k.
        let n = not_here a b kept reads q in
        let m = not_here a c kept reads k in
        flag_there b c n ∙ (ap (λ z. z || cut_off b c before) (ne_eqb a c (λ x. m (sym x))) ∙ h.apart b c (sym (read_else a b kept reads n) ∙ q) (sym (read_else a c kept reads m) ∙ k));
    cut = λ b c es q k.
        let n = not_here a b kept reads q in
        flag_there b c n ∙ elim (cases_eq a c) [
          | inl x ↦ ap (λ z. z || cut_off b c before) (eq-eqb a c x)
          | inr x ↦ ap (λ z. z || cut_off b c before) (ne_eqb a c x) ∙ h.cut b c es (sym (read_else a b kept reads n) ∙ q) (sym (read_else a c kept reads (λ y. x (sym y))) ∙ k)
        ];
  }

---- All agents behind them

never : {X : Type 0} (b : Bool) → b ≡ false → b ≡ true → X
never b p q = absurd (cc)

whether : (o : Option (List Entry)) → (o ≡ None) ⊎ ((es : List Entry) × (o ≡ Some es))
whether None = inl refl
whether (Some es) = inr (es, refl)

module _ (plans : Plans) (t : Network) (routes : Routes) (given : Given t routes) (past events : List Event) (reads : Reads) (f : Seat → Seat) (net : Net) (r : Rests t routes plans past net) (are : AreRestarts reads past events)
    (read : (s : Seat) → Contains net s → (es : List Entry) → reads s.number ≡ Some es → HasRead t routes es s (f s)) (rests : (s : Seat) → Contains net s → reads s.number ≡ None → f s ≡ s) where
  abbrev later : List Event
  later = past ++ events

  number_same : (s : Seat) → Contains net s → (f s).number ≡ s.number
  number_same s c = elim (whether (reads s.number)) [ inl n ↦ ap (λ (z : Seat). z.number) (rests s c n) | inr e ↦ (read s c e.0 e.1).number ]

  linked : (s : Seat) → Contains net s → (es : List Entry) → reads s.number ≡ Some es → All (IsLinked t s.number) es
  linked s c es e = are.front s.number es e (IsLinked t s.number) (r.sits s c).heard

  sits_later : (s : Seat) → Contains net s → SitsIn t routes later (f s)
  sits_later s c = elim (whether (reads s.number)) [
    | inl n ↦
        subst (SitsIn t routes later) (sym (rests s c n)) (sits_as t routes s.number s.number (journal_at s.number past) (journal_at s.number later) s refl (are.others s.number n) (r.sits s c))
    | inr e ↦
        let own : journal_at (f s).number later ≡ e.0 = ap (λ n. journal_at n later) (number_same s c) ∙ are.own s.number e.0 e.1 in
        sits_as t routes s.number (f s).number e.0 (journal_at (f s).number later) (f s) (number_same s c) own (read_sits t routes given past e.0 s (f s) (read s c e.0 e.1) (linked s c e.0 e.1) (r.sits s c))
  ]

  met_later : (s : Seat) → Contains net s → HasMetAll (f s)
  met_later s c = elim (whether (reads s.number)) [ inl n ↦ subst HasMetAll (sym (rests s c n)) (r.met s c) | inr e ↦ read_met t routes e.0 s (f s) (read s c e.0 e.1) (r.met s c) ]

  within_later : (s : Seat) → Contains net s → AllWithin plans (f s)
  within_later s c = elim (whether (reads s.number)) [ inl n ↦ subst (AllWithin plans) (sym (rests s c n)) (r.within s c) | inr e ↦ read_within plans t routes e.0 s (f s) (read s c e.0 e.1) (r.within s c) ]

  flag : (s u : Seat) → Contains net s → Contains net u → cut_off (f s).number (f u).number later ≡ false → cut_off s.number u.number later ≡ false
  flag s u c d cut = subst (λ n. cut_off n u.number later ≡ false) (number_same s c) (subst (λ n. cut_off (f s).number n later ≡ false) (number_same u d) cut)

  pairs_later : AcksAreOfGot (home_in t routes) (world_after empty later) → (s u : Seat) → Contains net s → Contains net u → PairIf t routes plans later (f s) (f u)
  pairs_later got s u c d cut = elim (whether (reads s.number)) [
    | inr e ↦
        let h = read s c e.0 e.1 in
        pair_afresh t routes (f s).number (f u).number (journal_at (f s).number later) (journal_at (f u).number later) (f s) (f u) (sits_later s c).state
        (read_spoken t routes given s.number (f u).number e.0 (map drops s.doors) (f s) (r.sits s c).within (linked s c e.0 e.1) (dropped_others t routes past s (r.sits s c)) h.state h.doors)
        (acked_was_got t routes (world_after empty later) (f s).number (f u).number got) (within_later s c (f u).number) (within_later u d (f s).number)
    | inl n ↦ elim (whether (reads u.number)) [
      | inr e ↦ never (cut_off s.number u.number later) (flag s u c d cut) (are.cut s.number u.number e.0 n e.1)
      | inl m ↦
          let was : cut_off s.number u.number past ≡ false = sym (are.apart s.number u.number n m) ∙ flag s u c d cut in
          let pair : PairIn t routes plans later s u =
          pair_as t routes s.number s.number u.number u.number (journal_at s.number past) (journal_at s.number later) (journal_at u.number past) (journal_at u.number later) s u refl refl (are.others s.number n) (are.others u.number m) (r.pairs s u c d was) in
          subst (λ z. PairIn t routes plans later z (f u)) (sym (rests s c n)) (subst (λ z. PairIn t routes plans later s z) (sym (rests u d m)) pair)
    ]
  ]

  pub restart_rests : AreFree (home_in t routes) empty (past ++ events) → Rests t routes plans (past ++ events) (emptied (map f net))
  restart_rests free =
      let got : AcksAreOfGot (home_in t routes) (world_after empty later) = acks_are_of_got (home_in t routes) later free in
      told_all t routes later (map f net) (same_numbers f net number_same ∙ r.numbers)
      (λ u c. let x = mapped_from f net u c in subst (SitsIn t routes later) x.2 (sits_later x.0 x.1))
      (λ u c. let x = mapped_from f net u c in subst HasMetAll x.2 (met_later x.0 x.1))
      (λ u c. let x = mapped_from f net u c in subst (AllWithin plans) x.2 (within_later x.0 x.1))
      (λ u v c d.
      let x = mapped_from f net u c in
      let y = mapped_from f net v d in
      subst (λ z. PairIf t routes plans later z v) x.2 (subst (PairIf t routes plans later (f x.0)) y.2 (pairs_later got x.0 y.0 x.1 y.1)))
