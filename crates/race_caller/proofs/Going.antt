-- How a caller of a book that nobody shares goes on.
use Rattle.std.proofs.Common.{◌≡◌, ◌∙◌, ⊎_elim, ◌≤◌, ◌<◌, ◌+◌, ◌*◌, ℕ, Bool, true, false, List, [], ◌∷◌, ◌++◌, map, length, Option, Some, None, refl, sym, ap, subst, arith, suc, drop, get_or, length-append, drop-cons}
use Rattle.std.proofs.lemmas.Bool.{true≢false, eq-eqb}
use Rattle.std.proofs.lemmas.List.{length-map}
use Rattle.std.specs.Prelude.{◌&&◌}
use Rattle.nsi_primitive.specs.Printable.{IsPrintable}
use Rattle.nsi_primitive.specs.declared.ask.Ask.{Ask}
use Rattle.nsi_primitive.specs.declared.entry.Entry.{Entry}
use Rattle.nsi_primitive.specs.declared.entry.Input.{Input}
use Rattle.nsi_primitive.specs.declared.message.Message.{Message}
use Rattle.stp_topology.specs.declared.network.Network.{Network}
use Rattle.agent_state.specs.Entries.{most_entries}
use Rattle.sole_requester.specs.Sole.{named_by}
use Rattle.shared_provider.specs.Asked.{now_at}
use Rattle.shared_provider.specs.Book.{Book, steps, enter, entered}
use Rattle.race_run.specs.declared.item.Item.{Item}
use Rattle.race_run.specs.declared.replayed.Call.{Call}
use Rattle.race_run.specs.Found.{item, got, heard_item}
use Rattle.race_caller.specs.declared.asker.Asker.{Asker}
use Rattle.race_caller.specs.declared.asker.Sent.{Sent}
use Rattle.race_caller.specs.declared.desk.Answer.{Answer}
use Rattle.race_caller.specs.declared.desk.DoneWork.{DoneWork}
use Rattle.race_caller.specs.declared.desk.Work.{Work}
use Rattle.nsi_script.specs.declared.script.Act.{Act}
use Rattle.race_run.specs.Scripts.{ask_by, asks_by}
use Rattle.race_caller.specs.Plays.{is_work_by}
use Rattle.race_caller.specs.Askers.{HasSent}
use Rattle.race_caller.specs.Alone.{Hands, HasTakenIn, HasDoneIn, IsHanded, IsDone, Works, HasRoomFor, HasHeardThese, Rest, rest, idle, sending, waiting, answered, worked, side_of, IsAlone, IsNewRequest, heard_items, done_items, EndsTo, EndsAlone}
use Rattle.race_caller.proofs.Stepping.{kept_one, kept_all, side_heard, idle_at, idle_unnamed, idle_done, taken_is_got, is_not_taken, request_taken, work_at_of, work_is, work_taken, silent_idle, sent_alone, sent_new, never_full}

---- Messages

-- all that is left was heard
all_heard : (t : Network) (first : List Item) (ms : List Message) (works : ℕ) (at : Option ℕ) (room own_room place : ℕ) (b : Book) (x y : Asker) (on : Bool) → IsAlone t first (rest (heard_items x place ms) works at room (own_room + 5)) b x
    → (HasRoomFor (length ms) x → HasHeardThese place ms x y on) → EndsTo t first (rest [] works at room own_room) b y on
all_heard t first ms works at room own_room place b x y on h hears =
    let some : length ms ≤ 5 = omega (arith, h.few, length-map ms (heard_item x.call.agent x.call.second place)) in
    let k = hears (omega (arith, h.own_room, some)) in
    subst (EndsTo t first (rest [] works at room own_room) b y) (sym k.goes)
    (kept_all t first ms works at room own_room place b (side_of x) (side_of y) some (side_heard place ms x y on k) h)

---- Work

side_kept : (x y : Asker) (i : Item) → y ≡ record x { kept = x.kept ++ i ∷ [] } → side_of y ≡ record (side_of x) { kept = x.kept ++ i ∷ [] }
side_kept x y i is = ap side_of is

pub work_heard : (t : Network) (first : List Item) (j works : ℕ) (at : Option ℕ) (b : Book) (done : DoneWork) (x y z : Asker) (on : Bool) → IsAlone t first (worked j works at (done_items x done)) b x
    → y ≡ record x { kept = x.kept ++ item done.place done.event ∷ [] } → (HasRoomFor (length done.messages.items) y → HasHeardThese done.place done.messages.items y z on) → EndsTo t first (waiting j works at) b z on
work_heard t first j works at b done x y z on h is hears =
    let kept = kept_one t first (worked j works at (done_items x done)) b (side_of x) (side_of y) (item done.place done.event) (heard_items x done.place done.messages.items) refl (side_kept x y (item done.place done.event) is) h in
    all_heard t first done.messages.items works at (3 * j + works + 1) (11 * j + 5 * works) done.place b y z on
    (subst (λ (c : Call). IsAlone t first (rest (map (heard_item c.agent c.second done.place) done.messages.items) works at (3 * j + works + 1) (11 * j + 5 * works + 5)) b y) (sym (ap (λ (w : Asker). w.call) is)) kept) hears

still_running : (t : Network) (first : List Item) (j works : ℕ) (at : Option ℕ) (b : Book) (x : Asker) → IsAlone t first (waiting j works at) b x → b.state.taken ≡ most_entries → ⊥
still_running t first j works at b x h full = omega (arith, full, h.room)

pub work_idle : (t : Network) (first : List Item) (j id : ℕ) (b : Book) (x : Asker) (new : Option Book) (work : Work) → IsAlone t first (waiting j 1 (Some id)) b x → IsDone b id new work → work ≡ Work.Idle
    → EndsAlone t first (idle j) new x true
work_idle t first j id b x new work h done is =
    let k = subst (Works b id done.now) is done.works in
    record { now = b; told = done.told ∙ ap Some k.book; ends = idle_done t first j 1 id b (side_of x) k.none h }

pub work_refused : (t : Network) (first : List Item) (j id : ℕ) (b : Book) (x : Asker) (new : Option Book) (work : Work) → IsAlone t first (waiting j 1 (Some id)) b x → IsDone b id new work → work ≡ Work.Refused
    → EndsAlone t first (idle j) new x false
work_refused t first j id b x new work h done is =
    let k = subst (Works b id done.now) is done.works in
    record { now = done.now; told = done.told; ends = ⊎_elim (λ shut. shut) (λ full. absurd (still_running t first j 1 (Some id) b x h full)) k.why }

-- work was done, and what it causes is heard
pub done_alone : (t : Network) (first : List Item) (j works id : ℕ) (b d : Book) (x : Asker) (done : DoneWork) → works ≤ 1 → IsAlone t first (waiting j works (Some id)) b x → HasDoneIn b id d done
    → (works ≡ 1) × (is_work_by x.call.provider done.event ≡ true) × IsAlone t first (worked j 0 (Some id) (done_items x done)) d x
done_alone t first j works id b d x done one h k =
    let w = work_at_of b.state id k.entry k.asked in
    let e : Entry = now_at b.state (Input.Work w.place w.machine) in
    let event : done.event ≡ enter b.agent e = k.event ∙ ap (enter b.agent) (sym w.is) in
    let is = work_taken t first j works id b x one h w.place w.machine w.at in
    let book : d ≡ entered e b = k.book ∙ ap (λ (f : Entry). entered f b) (sym w.is) in
    let messages : done.messages.items ≡ (steps b e).out = k.messages ∙ ap (λ (f : Entry). (steps b f).out) (sym w.is) in (
      work_is t first j works id b x one h w.place w.machine w.at,
      ap (is_work_by x.call.provider) event ∙ ap (λ b. b && true) (eq-eqb b.agent x.call.provider h.agent),
      subst (λ (f : Book). IsAlone t first (worked j 0 (Some id) (done_items x done)) f x) (sym book)
          (subst (λ (l : List Item). IsAlone t first (worked j 0 (Some id) l) (entered e b) x)
          (λ i. item (sym k.place i) (sym event i) ∷ map (heard_item x.call.agent x.call.second (sym k.place i)) (sym messages i)) is),
    )

-- no more of it waits then
pub work_done : (t : Network) (first : List Item) (j id : ℕ) (b : Book) (x y : Asker) (new : Option Book) (work : Work) (done : DoneWork) (on : Bool) → IsAlone t first (waiting j 1 (Some id)) b x → IsDone b id new work → work ≡ Work.Done done
    → ((first : List Item) (j works : ℕ) (at : Option ℕ) (b : Book) → is_work_by x.call.provider done.event ≡ true → IsAlone t first (worked j works at (done_items x done)) b x → EndsTo t first (waiting j works at) b y on)
    → EndsAlone t first (idle j) new y on
work_done t first j id b x y new work done on h is_done is hears =
    let k = subst (Works b id is_done.now) is is_done.works in
    let a = done_alone t first j 1 id b is_done.now x done (omega arith) h k in
    record { now = is_done.now; told = is_done.told; ends = by on (hears first j 0 (Some id) is_done.now a.1 a.2) }
  where
    by : (c : Bool) → EndsTo t first (waiting j 0 (Some id)) is_done.now y c → EndsTo t first (idle j) is_done.now y c
    by true g = idle_at t first j 0 (Some id) is_done.now (side_of y) (omega (arith, g.works)) g
    by false g = g

---- A request

pub ended_early : (t : Network) (first : List Item) (j : ℕ) (b : Book) (x y : Asker) (m : Message) (new : Option Book) (o : Option Answer) → IsAlone t first (sending j) b x → IsNewRequest b x m → IsHanded b m new o → o ≡ None
    → EndsAlone t first (idle j) new y false
ended_early t first j b x y m new o h k handed is =
    let n = subst (Hands b m handed.now) is handed.hands in
    record {
      now = handed.now;
      told = handed.told;
      ends = ⊎_elim (λ shut. shut)
          (⊎_elim (λ no. absurd (true≢false (sym k.request ∙ no))) (⊎_elim (λ seen. absurd (is_not_taken b.state m k.request k.new seen)) (λ full. absurd (omega (arith, full, h.room))))) n.why;
    }

pub was_answered : (t : Network) (first : List Item) (j : ℕ) (b d : Book) (x y : Asker) (m : Message) (answer : Answer) → IsPrintable m → IsAlone t first (sending j) b x → IsNewRequest b x m → HasTakenIn b m d answer
    → y ≡ record x { kept = x.kept ++ item answer.place (enter x.call.provider (got x.call.second m)) ∷ [] } → IsAlone t first (answered j (named_by m.body answer.messages.items) (heard_items y answer.place answer.messages.items)) d y
was_answered t first j b d x y m answer printable h k taken is =
    let e : Entry = got b.state.now m in
    let same : e ≡ taken.entry = taken_is_got b.state m taken.entry k.request k.new taken.asked in
    let book : d ≡ entered e b = taken.book ∙ ap (λ (f : Entry). entered f b) (sym same) in
    let messages : answer.messages.items ≡ (steps b e).out = taken.messages ∙ ap (λ (f : Entry). (steps b f).out) (sym same) in
    let base = request_taken t first j b x m h k printable in
    let here = subst (λ (f : Book). IsAlone t first (answered j (named_by m.body answer.messages.items) (item answer.place (enter b.agent (got x.call.second m)) ∷ heard_items x answer.place answer.messages.items)) f x) (sym book)
    (subst (λ (l : List Message). IsAlone t first (answered j (named_by m.body l) (item answer.place (enter b.agent (got x.call.second m)) ∷ heard_items x answer.place l)) (entered e b) x) (sym messages)
    (subst (λ n. IsAlone t first (answered j (named_by m.body (steps b e).out) (item n (enter b.agent (got x.call.second m)) ∷ heard_items x n (steps b e).out)) (entered e b) x) (sym taken.place) base))
    in
    let kept = kept_one t first (answered j (named_by m.body answer.messages.items) (item answer.place (enter b.agent (got x.call.second m)) ∷ heard_items x answer.place answer.messages.items)) d (side_of x) (side_of y)
    (item answer.place (enter b.agent (got x.call.second m))) (heard_items x answer.place answer.messages.items) refl
    (ap side_of is ∙ ap (λ n. record (side_of x) { kept = x.kept ++ item answer.place (enter n (got x.call.second m)) ∷ [] }) (sym h.agent)) here
    in
    subst (λ (c : Call). IsAlone t first (answered j (named_by m.body answer.messages.items) (map (heard_item c.agent c.second answer.place) answer.messages.items)) d y) (sym (ap (λ (w : Asker). w.call) is)) kept

-- the request was taken, and what it causes goes on
pub hears_answer : (t : Network) (first : List Item) (j : ℕ) (b : Book) (x y z : Asker) (m : Message) (answer : Answer) (o : Option Answer) (at : Option ℕ) (between new : Option Book) (on : Bool) → IsPrintable m → IsAlone t first (sending j) b x → IsNewRequest b x m
    → IsHanded b m between o → o ≡ Some answer → at ≡ named_by m.body answer.messages.items → y ≡ record x { kept = x.kept ++ item answer.place (enter x.call.provider (got x.call.second m)) ∷ [] }
    → ((d : Book) → between ≡ Some d → IsAlone t first (answered j at (heard_items y answer.place answer.messages.items)) d y → EndsAlone t first (idle j) new z on) → EndsAlone t first (idle j) new z on
hears_answer t first j b x y z m answer o at between new on printable h k handed is named kept_is goes =
    let taken = subst (Hands b m handed.now) is handed.hands in
    goes handed.now handed.told
    (subst (λ (n : Option ℕ). IsAlone t first (answered j n (heard_items y answer.place answer.messages.items)) handed.now y) (sym named) (was_answered t first j b handed.now x y m answer printable h k taken kept_is))

-- its messages were heard
pub answers_heard : (t : Network) (first : List Item) (j : ℕ) (at : Option ℕ) (b : Book) (x y : Asker) (answer : Answer) (on : Bool) → IsAlone t first (answered j at (heard_items x answer.place answer.messages.items)) b x
    → (HasRoomFor (length answer.messages.items) x → HasHeardThese answer.place answer.messages.items x y on) → EndsTo t first (waiting j 1 at) b y on
answers_heard t first j at b x y answer on h hears =
    let room : 3 * j + 2 ≡ 3 * j + 1 + 1 = omega arith in
    let own_room : 11 * j + 10 ≡ 11 * j + 5 * 1 + 5 = omega arith in
    all_heard t first answer.messages.items 1 at (3 * j + 1 + 1) (11 * j + 5 * 1) answer.place b x y on
    (subst (λ n. IsAlone t first (rest (heard_items x answer.place answer.messages.items) 1 at (3 * j + 1 + 1) n) b x) own_room (subst (λ n. IsAlone t first (rest (heard_items x answer.place answer.messages.items) 1 at n (11 * j + 10)) b x) room h)) hears

---- An ask

pub asked_full : (t : Network) (first : List Item) (j : ℕ) (b : Book) (x y : Asker) (ask : Ask) (sent : Sent) (new : Option Book) → IsAlone t first (idle (j + 1)) b x → HasSent t ask x y sent → sent ≡ Sent.Full → EndsAlone t first (idle j) new y false
asked_full t first j b x y ask sent new h s is = absurd (never_full t first j b x y ask h s.call s.kept (go (subst (HasSent t ask x y) is s)))
  where
    go : HasSent t ask x y Sent.Full → most_entries ≤ x.requester.state.base.taken
    go s = s.sends

pub asked_nothing : (t : Network) (first : List Item) (j : ℕ) (b : Book) (x y : Asker) (ask : Ask) (sent : Sent) (new : Option Book) → new ≡ Some b → IsAlone t first (idle (j + 1)) b x → HasSent t ask x y sent → sent ≡ Sent.Nothing → EndsAlone t first (idle j) new y true
asked_nothing t first j b x y ask sent new told h s is = go (subst (HasSent t ask x y) is s)
  where
    go : HasSent t ask x y Sent.Nothing → EndsAlone t first (idle j) new y true
    go s = record { now = b; told = told; ends = silent_idle t first j b x y ask h s.call s.kept s.sends }

pub asked_request : (t : Network) (first : List Item) (j : ℕ) (b : Book) (x y : Asker) (ask : Ask) (m : Message) (sent : Sent) → IsAlone t first (idle (j + 1)) b x → HasSent t ask x y sent → sent ≡ Sent.Request m → IsAlone t first (sending j) b y × IsNewRequest b y m
asked_request t first j b x y ask m sent h s is = go (subst (HasSent t ask x y) is s)
  where
    go : HasSent t ask x y (Sent.Request m) → IsAlone t first (sending j) b y × IsNewRequest b y m
    go s = (sent_alone t first j b x y ask h s.call s.kept m s.sends.0, sent_new t first j b x y ask h s.call s.kept m s.sends.0)

---- Act after act

pub ends_idle : (t : Network) (first : List Item) (j : ℕ) (at : Option ℕ) (b : Book) (x : Asker) (new : Option Book) → new ≡ Some b → IsAlone t first (waiting j 1 at) b x → at ≡ None → EndsAlone t first (idle j) new x true
ends_idle t first j at b x new told h is = record { now = b; told = told; ends = idle_unnamed t first j b (side_of x) (subst (λ (o : Option ℕ). IsAlone t first (waiting j 1 o) b x) is h) }

pub ends_here : (t : Network) (first : List Item) (j n : ℕ) (b : Book) (x : Asker) (new : Option Book) → new ≡ Some b → n ≡ 0 → IsAlone t first (idle (j + n)) b x → EndsAlone t first (idle j) new x true
ends_here t first j n b x new told none h =
    let same : j + n ≡ j = omega (arith, none) in
    record { now = b; told = told; ends = subst (λ k. IsAlone t first (idle k) b x) same h }

-- an act more was asked, or the book is closed
pub plays_on : (t : Network) (first : List Item) (acts : List Act) (n : ℕ) (act : Act) → n < length acts → act ≡ get_or acts n act → (a : ℕ) (old : Option Book) (x : Asker) (new : Option Book) (y : Asker) (on : Bool) → x.call.agent ≡ a
    → EndsAlone t first (idle (length (asks_by a (drop n acts)))) old x true
    → ((j : ℕ) (b : Book) → old ≡ Some b → IsAlone t first (idle (j + length (ask_by x.call.agent act))) b x → EndsAlone t first (idle j) new y on) → EndsAlone t first (idle (length (asks_by a (drop (n + 1) acts)))) new y on
unfolding asks_by
plays_on t first acts n act within item_is a old x new y on own h promises =
    let rest_is : drop n acts ≡ act ∷ drop (n + 1) acts = drop-cons acts n act within ∙ (λ i. sym item_is i ∷ drop (add_one_is n i) acts) in
    let count : length (asks_by a (drop n acts)) ≡ length (asks_by a (drop (n + 1) acts)) + length (ask_by x.call.agent act) =
    ap (λ (l : List Act). length (asks_by a l)) rest_is ∙ (length-append (ask_by a act) (asks_by a (drop (n + 1) acts)) ∙ omega (arith, ap (λ k. length (ask_by k act)) own))
    in
    promises (length (asks_by a (drop (n + 1) acts))) h.now h.told (subst (λ k. IsAlone t first (idle k) h.now x) count h.ends)
  where
    add_one_is : (n : ℕ) → suc n ≡ n + 1
    add_one_is n = omega arith

-- nothing is left to be asked
pub played_out : (t : Network) (first : List Item) (a : ℕ) (acts : List Act) (new : Option Book) (y : Asker) → acts ≡ [] → EndsAlone t first (idle (length (asks_by a acts))) new y true → EndsAlone t first (idle 0) new y true
unfolding asks_by
played_out t first a acts new y none h = subst (λ (l : List Act). EndsAlone t first (idle (length (asks_by a l))) new y true) none h

---- Early ends

pub ends_early : (t : Network) (first : List Item) (w v : Rest) (new : Option Book) (y : Asker) (on : Bool) → on ≡ false → EndsAlone t first w new y on → EndsAlone t first v new y false
ends_early t first w v new y on off h = record { now = h.now; told = h.told; ends = subst (EndsTo t first w h.now y) off h.ends }

pub ended_hearing : (t : Network) (first : List Item) (w v : Rest) (b : Book) (y : Asker) (new : Option Book) (on : Bool) → new ≡ Some b → on ≡ false → EndsTo t first w b y on → EndsAlone t first v new y false
ended_hearing t first w v b y new on told off h = ends_early t first w v new y on off (record { now = b; told = told; ends = h })
