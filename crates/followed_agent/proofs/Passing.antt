-- Messages that were taken.
use Rattle.std.proofs.Common.{ℕ, ◌≤◌, ◌<◌, ◌≡◌, ◌↔◌, ◌∙◌, Bool, true, List, length, take, drop, Option, Some, None, slice_get, refl, sym, ap, subst, arith}
use Rattle.std.specs.List.{Contains, list_any}
use Rattle.std.proofs.lemmas.List.{length-take-le, take-append-drop}
use Rattle.nsi_primitive.specs.Messages.{identity}
use Rattle.nsi_primitive.specs.declared.entry.Entry.{Entry}
use Rattle.nsi_primitive.specs.declared.entry.Input.{Input}
use Rattle.nsi_primitive.specs.declared.message.Identity.{Identity}
use Rattle.nsi_primitive.specs.declared.message.Message.{Message}
use Rattle.message_retry.specs.Retry.{is_same_identity}
use Rattle.stp_topology.proofs.RankLemmas.{before as front_place}
use Rattle.stp_topology.proofs.PairLemmas.{any_found, found_any}
use Rattle.id_index.specs.declared.IdPlace.{IdPlace}
use Rattle.followed_agent.specs.Kept.{AreNoted, takes, takes_at, takes_by, taking}
use Rattle.followed_agent.proofs.Keeping.{is_there, there}
use Rattle.followed_agent.proofs.Same.{identity_itself, same_identity}

one_some : {X : Type 0} {a b : X} → Some a ≡ Some b → a ≡ b
one_some e = cc

-- an element of a front stands in the whole, and the other way round
front_same : {X : Type 0} (xs : List X) (n p : ℕ) → n ≤ length xs → p < n → slice_get (take n xs) p ≡ slice_get xs p
front_same xs n p few lt =
    sym (front_place (take n xs) (drop n xs) p (omega (arith, lt, length-take-le n xs few))) ∙ ap (λ ys. slice_get ys p) (take-append-drop n xs)

---- What an entry takes

-- what takes a message of the identity is such
taken_from : (second : ℕ) (input : Input) (i : Identity) → takes input i ≡ true → (m : Message) × (identity m ≡ i) × (record { second = second; input = input } ≡ taking second m)
taken_from second (Input.Got n) i h = (n, sym (same_identity i (identity n) h), refl)
taken_from second (Input.Ask n a) i h = absurd (cc)
taken_from second (Input.Work n machine) i h = absurd (cc)
taken_from second Input.Tick i h = absurd (cc)
taken_from second (Input.Force n) i h = absurd (cc)
taken_from second (Input.Acked j) i h = absurd (cc)

-- a message of the identity is taken by one of the entries
abbrev pub IsTakenOf : List Entry → Identity → Type 0
IsTakenOf es i = (m : Message) × (identity m ≡ i) × ((second : ℕ) × Contains es (taking second m))

taken_there : (es : List Entry) (i : Identity) (place : ℕ) (o : Option Entry) → slice_get es place ≡ o → takes_by o i ≡ true → IsTakenOf es i
taken_there es i place (Some e) at h = let its = taken_from e.second e.input i h in (its.0, its.1, (e.second, is_there es place (taking e.second its.0) (at ∙ ap Some its.2)))
taken_there es i place None at h = absurd (cc)

takes_it : (second : ℕ) (i : Identity) (m : Message) → identity m ≡ i → takes_by (Some (taking second m)) i ≡ true
takes_it second i m same = subst (λ j. is_same_identity j (identity m) ≡ true) same (identity_itself (identity m))

-- the places at which it may be taken are enough to look at
pub taken_at_one : (journal part : List Entry) (synced : ℕ) (i : Identity) (places : List ℕ) (got : List IdPlace) (is : Bool) → synced ≤ length journal → part ≡ take synced journal → AreNoted got synced journal
    → ((p : ℕ) → Contains got (record { id = i.correlation; place = p }) → Contains places p) → is ≡ list_any (takes_at part i) places → (is ≡ true) ↔ IsTakenOf (take synced journal) i
taken_at_one journal part synced i places got is within part_is noted listed value = (one, other)
  where
    one : is ≡ true → IsTakenOf (take synced journal) i
    one h =
        let found = found_any (takes_at part i) places (sym value ∙ h) in
        subst (λ es. IsTakenOf es i) part_is (taken_there part i found.1 (slice_get part found.1) refl found.3)

    other : IsTakenOf (take synced journal) i → is ≡ true
    other has =
        let m = has.0 in
        let its = has.2.1 in
        let lt : its.0 < synced = omega (arith, its.1, length-take-le synced journal within) in
        let here : slice_get (take synced journal) its.0 ≡ Some (taking has.2.0 m) = there (take synced journal) (taking has.2.0 m) its in
        let correlation : m.header.correlation ≡ i.correlation = ap (λ (x : Identity). x.correlation) has.1 in
        let found = noted its.0 has.2.0 m lt (sym (front_same journal synced its.0 within lt) ∙ here) in
        let listed_there = listed its.0 (subst (λ c. Contains got (record { id = c; place = its.0 })) correlation found) in
        value ∙ any_found (takes_at part i) places listed_there.0 its.0 (there places its.0 listed_there) (ap (λ es. takes_at es i its.0) part_is ∙ (ap (λ o. takes_by o i) here ∙ takes_it has.2.0 i m has.1))
