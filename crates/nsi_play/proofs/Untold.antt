-- What is told of synced entries changes nothing of a play in which nobody is restarted.
use Rattle.std.proofs.Common.{ℕ, zero, suc, ◌+◌, ◌<◌, ◌≡◌, ◌==◌, ◌&&◌, Bool, true, false, cond, List, [], ◌∷◌, ◌++◌, None, inl, inr, refl, sym, ap, ap₂, ◌∙◌, subst, length, map}
use Rattle.std.specs.List.{All}
use Rattle.std.proofs.lemmas.Bool.{cases_Bool}
use Rattle.std.proofs.lemmas.List.Elements.{All-head, All-tail}
use Rattle.nsi_primitive.specs.declared.entry.Event.{Event}
use Rattle.nsi_primitive.specs.declared.entry.Input.{Input}
use Rattle.nsi_script.specs.declared.script.Act.{Act}
use Rattle.nsi_script.specs.declared.script.Group.{Group}
use Rattle.agent_node.specs.Seat.{Seat, now_at}
use Rattle.agent_node.specs.Acts.{asked, forced, is_quiet}
use Rattle.agent_node.specs.Meetings.{met}
use Rattle.agent_node.specs.Restarts.{untold}
use Rattle.agent_node.proofs.Pasts.{past_enters, past_turned, past_ticked, past_met, past_of_other}
use Rattle.nsi_play.specs.Rounds.{Net, Homes, turned_all, meets_each, meets_all, met_all, round, events_of, emptied, is_quiet_in, all_quiet}
use Rattle.nsi_play.specs.Play.{Played, behind, after_round, settles, does, asks_in, asks_among, acted, acts, ticked_in, begins, group, then_on, plays, ended, RestartsNone, RestartNobody, untold_net}
use Rattle.nsi_play.specs.Laws.{PlayNeedsNoPast, FrontNeedsNoPast}
use Rattle.nsi_play.proofs.Settling.{settle_quiet, settle_more, settle_stop, group_is, plays_cons, plays_nil}

---- Rounds

turned_untold : (homes : Homes) (net : Net) → turned_all homes (untold_net net) ≡ untold_net (turned_all homes net)
turned_untold homes [] = refl
turned_untold homes (s ∷ ss) = ap₂ ◌∷◌ (past_turned None (homes s.number) s) (turned_untold homes ss)

met_untold : (o s : Seat) → met (untold o) (untold s) ≡ untold (met o s)
met_untold o s = past_of_other None o (untold s) ∙ past_met None o s

meets_untold : (net : Net) (s : Seat) → meets_each (untold s) (untold_net net) ≡ untold (meets_each s net)
unfolding meets_each
meets_untold [] s = refl
meets_untold (o ∷ os) s = ap (λ (z : Seat). meets_each z (untold_net os)) (met_untold o s) ∙ meets_untold os (met o s)

each_untold : (all xs : Net) → map (meets_all (untold_net all)) (untold_net xs) ≡ untold_net (map (meets_all all) xs)
each_untold all [] = refl
each_untold all (s ∷ ss) = ap₂ ◌∷◌ (meets_untold all s) (each_untold all ss)

round_untold : (homes : Homes) (net : Net) → round homes (untold_net net) ≡ untold_net (round homes net)
unfolding round
round_untold homes net = ap met_all (turned_untold homes net) ∙ each_untold (turned_all homes net) (turned_all homes net)

events_untold : (net : Net) → events_of (untold_net net) ≡ events_of net
events_untold [] = refl
events_untold (s ∷ ss) = ap (λ (es : List Event). s.events ++ es) (events_untold ss)

emptied_untold : (net : Net) → emptied (untold_net net) ≡ untold_net (emptied net)
emptied_untold [] = refl
emptied_untold (s ∷ ss) = ap (λ (xs : Net). untold (record s { events = [] }) ∷ xs) (emptied_untold ss)

quiet_one : (homes : Homes) (s : Seat) → is_quiet_in homes (untold s) ≡ is_quiet_in homes s
unfolding is_quiet
quiet_one homes s = refl

quiet_untold : (homes : Homes) (net : Net) → all_quiet homes (untold_net net) ≡ all_quiet homes net
quiet_untold homes [] = refl
quiet_untold homes (s ∷ ss) = ap₂ (λ (a b : Bool). a && b) (quiet_one homes s) (quiet_untold homes ss)

---- Plays

-- the same play, of whose agents it isn't told which entries are synced
abbrev untold_play : Played → Played
untold_play p = record p { net = untold_net p.net }

after_untold : (y : Net) (rest : Net → Played) → ((x : Net) → rest (untold_net x) ≡ untold_play (rest x)) → after_round (untold_net y) rest ≡ untold_play (after_round y rest)
after_untold y rest more =
    ap (λ (es : List Event). behind es (rest (emptied (untold_net y)))) (events_untold y)
    ∙ (ap (λ (x : Net). behind (events_of y) (rest x)) (emptied_untold y) ∙ ap (behind (events_of y)) (more (emptied y)))

settles_untold : (most : ℕ) (homes : Homes) (net : Net) → settles most homes (untold_net net) ≡ untold_play (settles most homes net)
settles_untold zero homes net = elim (cases_Bool (all_quiet homes net)) [
  | inl q ↦ settle_quiet 0 homes (untold_net net) (quiet_untold homes net ∙ q) ∙ ap untold_play (sym (settle_quiet 0 homes net q))
  | inr q ↦ settle_stop homes (untold_net net) (quiet_untold homes net ∙ q) ∙ ap untold_play (sym (settle_stop homes net q))
]
settles_untold (suc most) homes net = elim (cases_Bool (all_quiet homes net)) [
  | inl q ↦ settle_quiet (suc most) homes (untold_net net) (quiet_untold homes net ∙ q) ∙ ap untold_play (sym (settle_quiet (suc most) homes net q))
  | inr q ↦ settle_more most homes (untold_net net) (quiet_untold homes net ∙ q)
      ∙ (ap (λ (y : Net). after_round y (settles most homes)) (round_untold homes net)
      ∙ (after_untold (round homes net) (settles most homes) (settles_untold most homes) ∙ ap untold_play (sym (settle_more most homes net q))))
]

---- Acts

part_untold : (b : Bool) (s u v : Seat) → v ≡ untold u → cond b v (untold s) ≡ untold (cond b u s)
part_untold true s u v e = e
part_untold false s u v e = refl

does_untold : (act : Act) → RestartsNone act → (count : ℕ) (homes : Homes) (s : Seat) → does act count homes (untold s) ≡ untold (does act count homes s)
does_untold (Act.Ask a ask) none count homes s =
    part_untold (s.number == a) s (asked (homes a) count ask s) (asked (homes a) count ask (untold s)) (past_enters None (homes a) (now_at s (Input.Ask count ask)) s)
does_untold (Act.Force a n) none count homes s =
    part_untold (s.number == a) s (forced (homes a) n s) (forced (homes a) n (untold s)) (past_enters None (homes a) (now_at s (Input.Force n)) s)
does_untold (Act.Restart a) none count homes s = absurd none

acted_untold : (act : Act) → RestartsNone act → (count : ℕ) (homes : Homes) (net : Net) → acted act count homes (untold_net net) ≡ untold_net (acted act count homes net)
acted_untold act none count homes [] = refl
acted_untold act none count homes (s ∷ ss) = ap₂ ◌∷◌ (does_untold act none count homes s) (acted_untold act none count homes ss)

acts_untold : (todo : List Act) → All RestartsNone todo → (count : ℕ) (homes : Homes) (net : Net) → acts todo count homes (untold_net net) ≡ untold_play (acts todo count homes net)
unfolding acts
acts_untold [] none count homes net = refl
acts_untold (a ∷ rest) none count homes net =
    ap (λ (y : Net). after_round y (acts rest (count + asks_in a) homes)) (acted_untold a (All-head RestartsNone a rest none) count homes net)
    ∙ after_untold (acted a count homes net) (acts rest (count + asks_in a) homes) (acts_untold rest (All-tail RestartsNone a rest none) (count + asks_in a) homes)

ticked_untold : (second : ℕ) (homes : Homes) (net : Net) → map (ticked_in second homes) (untold_net net) ≡ untold_net (map (ticked_in second homes) net)
ticked_untold second homes [] = refl
ticked_untold second homes (s ∷ ss) = ap₂ ◌∷◌ (past_ticked None (homes s.number) second s) (ticked_untold second homes ss)

---- Groups

begins_untold : (g : Group) → All RestartsNone g.acts → (count : ℕ) (homes : Homes) (net : Net) → begins g count homes (untold_net net) ≡ untold_play (begins g count homes net)
unfolding begins
begins_untold g none count homes net =
    ap (λ (y : Net). after_round y (acts g.acts count homes)) (ticked_untold g.at homes net)
    ∙ after_untold (map (ticked_in g.at homes) net) (acts g.acts count homes) (acts_untold g.acts none count homes)

group_untold : (most : ℕ) (g : Group) → All RestartsNone g.acts → (count : ℕ) (homes : Homes) (net : Net) → group most g count homes (untold_net net) ≡ untold_play (group most g count homes net)
group_untold most g none count homes net =
    let b : Played = begins g count homes net in
    group_is most g count homes (untold_net net)
    ∙ (ap (λ (p : Played). behind p.events (settles most homes p.net)) (begins_untold g none count homes net)
    ∙ (ap (behind b.events) (settles_untold most homes b.net) ∙ ap untold_play (sym (group_is most g count homes net))))

then_untold : (p : Played) (rest : Net → Played) → ((x : Net) → rest (untold_net x) ≡ untold_play (rest x)) → then_on (untold_play p) rest ≡ untold_play (then_on p rest)
then_untold p rest more = by_end p.is_over
  where
    by_end : (b : Bool) → cond b (behind p.events (rest (untold_net p.net))) (untold_play p) ≡ untold_play (cond b (behind p.events (rest p.net)) p)
    by_end true = ap (behind p.events) (more p.net)
    by_end false = refl

plays_untold : (most : ℕ) (gs : List Group) → RestartNobody gs → (count : ℕ) (homes : Homes) (net : Net) → plays most gs count homes (untold_net net) ≡ untold_play (plays most gs count homes net)
plays_untold most [] none count homes net = plays_nil most count homes (untold_net net) ∙ ap untold_play (sym (plays_nil most count homes net))
plays_untold most (g ∷ gs) none count homes net =
    let n : ℕ = count + asks_among g.acts in
    plays_cons most g gs count homes (untold_net net)
    ∙ (ap (λ (p : Played). then_on p (plays most gs n homes)) (group_untold most g none.0 count homes net)
    ∙ (then_untold (group most g count homes net) (plays most gs n homes) (plays_untold most gs none.1 n homes) ∙ ap untold_play (sym (plays_cons most g gs count homes net))))

---- The laws

whole : (p : Played) (es : List Event) → p.events ≡ es → p.is_over ≡ true → p ≡ ended es p.net
whole p es e o = ap (λ (xs : List Event). record { events = xs; net = p.net; is_over = p.is_over }) e ∙ ap (λ (b : Bool). record { events = es; net = p.net; is_over = b }) o

pub play_needs_none : PlayNeedsNoPast
play_needs_none script homes net events last none p =
    let q : Played = plays p.0 script 0 homes net in
    let same : untold_play q ≡ ended events last = sym (plays_untold p.0 script none 0 homes net) ∙ p.1 in
    (q.net, (p.0, whole q events (ap (λ (z : Played). z.events) same) (ap (λ (z : Played). z.is_over) same)))

pub front_needs_none : FrontNeedsNoPast
front_needs_none limit script homes net none p = (p.0, subst (λ (z : Played). limit < length z.events) (plays_untold p.0 script none 0 homes net) p.1)
