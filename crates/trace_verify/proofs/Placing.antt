-- Agents that are followed, where one of them has gone on.
use Rattle.std.proofs.Common.{ℕ, ◌+◌, ◌≤◌, ◌<◌, ◌≡◌, ◌↔◌, ◌⊎◌, inl, inr, ◌∙◌, Bool, true, List, [], ◌∷◌, ◌++◌, length, take, Option, Some, slice_get, slice_set, get_or, refl, sym, ap, subst, arith}
use Rattle.std.specs.List.{All}
use Rattle.std.proofs.lemmas.Bool.{cases_eq}
use Rattle.std.proofs.lemmas.List.{length-append, length-set}
use Rattle.std.proofs.lemmas.List.Elements.{All-push, All-set}
use Rattle.std.proofs.lemmas.Option.{slice_get-get_or, slice_get_read, slice_get_within}
use Rattle.nsi_primitive.specs.Printable.{IsPrintableEntry}
use Rattle.nsi_primitive.specs.declared.ask.AskAnswer.{AskAnswer}
use Rattle.nsi_primitive.specs.declared.entry.Entry.{Entry}
use Rattle.nsi_primitive.specs.declared.entry.Happening.{Happening}
use Rattle.stp_topology.specs.declared.network.Network.{Network}
use Rattle.stp_topology.proofs.NameLemmas.{at_push}
use Rattle.provider_agent.proofs.RecordPlaces.{set_cases, set_elsewhere, set_here}
use Rattle.nsi_agent.specs.Homes.{Routes, home_in}
use Rattle.nsi_agent.specs.Steps.{after}
use Rattle.nsi_agent.specs.Told.{told}
use Rattle.followed_agent.specs.Kept.{IsKept, Seen, seen}
use Rattle.followed_agent.specs.declared.agent.Followed.{Followed}
use Rattle.nsi_world.specs.Worlds.{Homes, World}
use Rattle.nsi_world.specs.Runs.{happens_at}
use Rattle.nsi_world.proofs.Later.{at_other, at_same}
use Rattle.trace_verify.specs.Standing.{HasHappened, IsFollower, MayTake, Shows}
use Rattle.trace_verify.specs.declared.follower.Follower.{Follower}

one_some : {X : Type 0} {p q : X} → Some p ≡ Some q → p ≡ q
one_some e = cc

abbrev pub blank_at : Network → ℕ → Seen
blank_at t a = record { network = t; number = a; journal = []; synced = 0 }

pub follower_set : (t : Network) (x y : Follower) (a : ℕ) (f : Followed) → IsFollower t x → a < length x.agents.items → y.agents.items ≡ slice_set x.agents.items a f → IsKept f → f.agent.network ≡ t → f.agent.number ≡ a → IsFollower t y
follower_set t x y a f is within set kept network number = record {
  many = ap length set ∙ (length-set x.agents.items a f ∙ is.many);
  kept = subst (All IsKept) (sym set) (All-set IsKept x.agents.items a f kept is.kept);
  network = λ b g stands. by_network b g (was b g stands);
  number = λ b g stands. by_number b g (was b g stands);
  names = is.names;
}
  where
    first : slice_get x.agents.items a ≡ Some (get_or x.agents.items a f)
    first = slice_get-get_or x.agents.items a f within

    was : (b : ℕ) (g : Followed) → slice_get y.agents.items b ≡ Some g → ((b ≡ a) × (f ≡ g)) ⊎ (slice_get x.agents.items b ≡ Some g)
    was b g stands = set_cases x.agents.items a b f g (get_or x.agents.items a f) first (ap (λ xs. slice_get xs b) (sym set) ∙ stands)

    by_network : (b : ℕ) (g : Followed) → ((b ≡ a) × (f ≡ g)) ⊎ (slice_get x.agents.items b ≡ Some g) → g.agent.network ≡ t
    by_network b g (inl new) = ap (λ (z : Followed). z.agent.network) (sym new.1) ∙ network
    by_network b g (inr old) = is.network b g old

    by_number : (b : ℕ) (g : Followed) → ((b ≡ a) × (f ≡ g)) ⊎ (slice_get x.agents.items b ≡ Some g) → g.agent.number ≡ b
    by_number b g (inl new) = ap (λ (z : Followed). z.agent.number) (sym new.1) ∙ (number ∙ sym new.0)
    by_number b g (inr old) = is.number b g old

-- the world has changed at that agent alone
pub record IsChangedAt (a : ℕ) (w v : World) : Type 0 where
  pub journal : (b : ℕ) → (b ≡ a → ⊥) → v.journal b ≡ w.journal b
  pub synced : (b : ℕ) → (b ≡ a → ⊥) → v.synced b ≡ w.synced b

pub changed : (w : World) (a : ℕ) (what : Happening) → IsChangedAt a w (happens_at w a what)
changed w a (Happening.Entry e answer) = record { journal = λ b other. at_other a b (w.journal a ++ e ∷ []) w.journal other; synced = λ b other. refl }
changed w a (Happening.Sync count) = record { journal = λ b other. refl; synced = λ b other. at_other a b count w.synced other }
changed w a (Happening.Restart count) = record { journal = λ b other. at_other a b (take count (w.journal a)) w.journal other; synced = λ b other. at_other a b count w.synced other }

pub shows_set : (x y : Follower) (a : ℕ) (f : Followed) (w v : World) → Shows x w → a < length x.agents.items → y.agents.items ≡ slice_set x.agents.items a f → f.journal.items ≡ v.journal a → f.synced ≡ v.synced a → IsChangedAt a w v → Shows y v
shows_set x y a f w v shows within set journal synced else_same = record {
  journal = λ b g stands. by_journal b g (was b g stands);
  synced = λ b g stands. by_synced b g (was b g stands);
  others = λ b past.
      let more : length x.agents.items ≤ b = omega (arith, past, ap length set ∙ length-set x.agents.items a f) in
      else_same.journal b (λ e. absurd (omega (arith, e, more, within))) ∙ shows.others b more;
}
  where
    was : (b : ℕ) (g : Followed) → slice_get y.agents.items b ≡ Some g → ((b ≡ a) × (f ≡ g)) ⊎ ((b ≡ a → ⊥) × (slice_get x.agents.items b ≡ Some g))
    was b g stands = by (cases_eq b a)
      where
        here : slice_get y.agents.items a ≡ Some f
        here = ap (λ xs. slice_get xs a) set ∙ set_here x.agents.items a f within

        by : (b ≡ a) ⊎ (b ≡ a → ⊥) → ((b ≡ a) × (f ≡ g)) ⊎ ((b ≡ a → ⊥) × (slice_get x.agents.items b ≡ Some g))
        by (inl e) = inl (e, one_some (sym here ∙ (ap (λ k. slice_get y.agents.items k) (sym e) ∙ stands)))
        by (inr n) = inr (n, sym (ap (λ xs. slice_get xs b) set ∙ set_elsewhere x.agents.items a b f n) ∙ stands)

    by_journal : (b : ℕ) (g : Followed) → ((b ≡ a) × (f ≡ g)) ⊎ ((b ≡ a → ⊥) × (slice_get x.agents.items b ≡ Some g)) → g.journal.items ≡ v.journal b
    by_journal b g (inl new) = ap (λ (z : Followed). z.journal.items) (sym new.1) ∙ (journal ∙ ap v.journal (sym new.0))
    by_journal b g (inr old) = shows.journal b g old.1 ∙ sym (else_same.journal b old.0)

    by_synced : (b : ℕ) (g : Followed) → ((b ≡ a) × (f ≡ g)) ⊎ ((b ≡ a → ⊥) × (slice_get x.agents.items b ≡ Some g)) → g.synced ≡ v.synced b
    by_synced b g (inl new) = ap (λ (z : Followed). z.synced) (sym new.1) ∙ (synced ∙ ap v.synced (sym new.0))
    by_synced b g (inr old) = shows.synced b g old.1 ∙ sym (else_same.synced b old.0)

---- An agent at its place

pub at_place : (t : Network) (x : Follower) (a place : ℕ) (f : Followed) → IsFollower t x → a < length t.agents → place ≡ a → f ≡ get_or x.agents.items place f → slice_get x.agents.items a ≡ Some f
at_place t x a place f is within same read =
    slice_get_read x.agents.items (length x.agents.items) a f refl (omega (arith, within, is.many)) (read ∙ ap (λ k. get_or x.agents.items k f) same)

pub same_item : {X : Type 0} (xs : List X) (a : ℕ) (f g : X) → slice_get xs a ≡ Some f → slice_get xs a ≡ Some g → f ≡ g
same_item xs a f g p q = one_some (sym p ∙ q)

pub put_at : (xs : List Followed) (a place : ℕ) (g : Followed) → place ≡ a → slice_set xs place g ≡ slice_set xs a g
put_at xs a place g same = ap (λ k. slice_set xs k g) same

---- All agents, before anything has happened

pub record AreNew (t : Network) (n : ℕ) (xs : List Followed) : Type 0 where
  pub many : length xs ≡ n
  pub kept : All IsKept xs
  pub seen_as : (a : ℕ) (f : Followed) → slice_get xs a ≡ Some f → seen f ≡ record { network = t; number = a; journal = []; synced = 0 }

pub new_more : (t : Network) (n : ℕ) (xs : List Followed) (f : Followed) → AreNew t n xs → IsKept f → seen f ≡ record { network = t; number = n; journal = []; synced = 0 } → AreNew t (n + 1) (xs ++ f ∷ [])
new_more t n xs f are kept is = record {
  many = omega (arith, are.many, length-append xs (f ∷ []));
  kept = All-push IsKept xs f are.kept kept;
  seen_as = λ a g stands. by a g (at_push xs f g a stands);
}
  where
    by : (a : ℕ) (g : Followed) → (slice_get xs a ≡ Some g) ⊎ ((a ≡ length xs) × (f ≡ g)) → seen g ≡ record { network = t; number = a; journal = []; synced = 0 }
    by a g (inl old) = are.seen_as a g old
    by a g (inr new) = ap seen (sym new.1) ∙ (is ∙ ap (λ k. blank_at t k) (sym are.many ∙ sym new.0))

---- What has happened

-- the agent at a place, in a world
pub record IsThere (t : Network) (x : Follower) (w : World) (a : ℕ) (f : Followed) : Type 0 where
  pub stands : slice_get x.agents.items a ≡ Some f
  pub follower : IsFollower t x
  pub shows : Shows x w

pub journal_of : (t : Network) (x : Follower) (w : World) (a : ℕ) (f : Followed) → IsThere t x w a f → f.journal.items ≡ w.journal a
journal_of t x w a f is = is.shows.journal a f is.stands

pub synced_of : (t : Network) (x : Follower) (w : World) (a : ℕ) (f : Followed) → IsThere t x w a f → f.synced ≡ w.synced a
synced_of t x w a f is = is.shows.synced a f is.stands

-- another agent stands in its place
pub record IsPut (t : Network) (x y : Follower) (a : ℕ) (f g : Followed) (s : Seen) : Type 0 where
  pub put : y.agents.items ≡ slice_set x.agents.items a g
  pub is : seen g ≡ s
  pub kept : IsKept g
  pub network : s.network ≡ f.agent.network
  pub number : s.number ≡ f.agent.number

pub follower_put : (t : Network) (x y : Follower) (a : ℕ) (f g : Followed) (s : Seen) → IsFollower t x → slice_get x.agents.items a ≡ Some f → IsPut t x y a f g s → IsFollower t y
follower_put t x y a f g s is stands p =
    follower_set t x y a g is (slice_get_within x.agents.items a f stands) p.put p.kept (ap (λ (z : Seen). z.network) p.is ∙ (p.network ∙ is.network a f stands)) (ap (λ (z : Seen). z.number) p.is ∙ (p.number ∙ is.number a f stands))

pub shows_put : (t : Network) (x y : Follower) (w : World) (a : ℕ) (f g : Followed) (s : Seen) (what : Happening) → IsThere t x w a f → IsPut t x y a f g s → s.journal ≡ (happens_at w a what).journal a → s.synced ≡ (happens_at w a what).synced a
    → Shows y (happens_at w a what)
shows_put t x y w a f g s what is p journal synced =
    shows_set x y a g w (happens_at w a what) is.shows (slice_get_within x.agents.items a f is.stands) p.put (ap (λ (z : Seen). z.journal) p.is ∙ journal) (ap (λ (z : Seen). z.synced) p.is ∙ synced) (changed w a what)

pub sync_done : (homes : Homes) (t : Network) (x y : Follower) (w : World) (a count : ℕ) (f g : Followed) → IsThere t x w a f → count ≡ length f.journal.items → IsPut t x y a f g (record (seen f) { synced = length f.journal.items })
    → HasHappened homes w a (Happening.Sync count) y true
sync_done homes t x y w a count f g is whole p =
    let journal = journal_of t x w a f is in
    record {
      tells = (λ e. whole ∙ ap length journal, λ may. refl);
      shows = λ e. shows_put t x y w a f g (record (seen f) { synced = length f.journal.items }) (Happening.Sync count) is p journal (sym whole ∙ sym (at_same a count w.synced));
    }

pub restart_done : (homes : Homes) (t : Network) (x y : Follower) (w : World) (a count : ℕ) (f g : Followed) → IsThere t x w a f → f.synced ≤ count → count ≤ length f.journal.items
    → IsPut t x y a f g (record (seen f) { journal = take count f.journal.items; synced = count }) → HasHappened homes w a (Happening.Restart count) y true
restart_done homes t x y w a count f g is from to p =
    let journal = journal_of t x w a f is in
    record {
      tells = (λ e. (omega (arith, from, synced_of t x w a f is), omega (arith, to, ap length journal)), λ may. refl);
      shows = λ e.
          shows_put t x y w a f g (record (seen f) { journal = take count f.journal.items; synced = count }) (Happening.Restart count) is p (ap (take count) journal ∙ sym (at_same a (take count (w.journal a)) w.journal))
          (sym (at_same a count w.synced));
    }

pub entry_done : (t : Network) (routes : Routes) (x y : Follower) (w : World) (a : ℕ) (e : Entry) (given answer : Option AskAnswer) (is : Bool) (f g : Followed) → IsThere t x w a f → MayTake (home_in t routes) w a e → IsPrintableEntry e
    → given ≡ (after (home_in t routes a) (told (home_in t routes a) f.journal.items).state e).answer → (is ≡ true) ↔ (answer ≡ given) → IsPut t x y a f g (record (seen f) { journal = f.journal.items ++ e ∷ [] })
    → HasHappened (home_in t routes) w a (Happening.Entry e answer) y is
entry_done t routes x y w a e given answer is f g there may printable answered same p =
    let journal = journal_of t x w a f there in
    let right : given ≡ (after (home_in t routes a) (told (home_in t routes a) (w.journal a)).state e).answer = answered ∙ ap (λ es. (after (home_in t routes a) (told (home_in t routes a) es).state e).answer) journal in
    record {
      tells = (
        λ its. (may.room, record { printable = printable; in_time = may.in_time; comes = may.comes; answered = same.0 its ∙ right }),
        λ happens. same.1 (happens.1.answered ∙ sym right),
      );
      shows = λ its.
          shows_put t x y w a f g (record (seen f) { journal = f.journal.items ++ e ∷ [] }) (Happening.Entry e answer) there p
          (ap (λ es. es ++ e ∷ []) journal ∙ sym (at_same a (w.journal a ++ e ∷ []) w.journal)) (synced_of t x w a f there);
    }
