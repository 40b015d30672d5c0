-- What was acknowledged was got, by entries that are synced and stay: whoever restarts.
use Rattle.std.proofs.Common.{ℕ, ◌≤◌, ◌≡◌, List, [], ◌∷◌, ◌++◌, inl, inr, sym, ap, subst, arith, length, length-append, take, drop, take-append-drop}
use Rattle.std.specs.List.{Contains}
use Rattle.std.proofs.lemmas.Bool.{cases_eq}
use Rattle.std.proofs.lemmas.List.{length-take-le}
use Rattle.std.proofs.lemmas.List.Elements.{Contains-append_left, Contains-push_cases}
use Rattle.nsi_primitive.specs.Messages.{identity}
use Rattle.nsi_primitive.specs.declared.entry.Entry.{Entry}
use Rattle.nsi_primitive.specs.declared.entry.Event.{Event}
use Rattle.nsi_primitive.specs.declared.entry.Happening.{Happening}
use Rattle.nsi_primitive.specs.declared.entry.Input.{Input}
use Rattle.nsi_primitive.specs.declared.message.Identity.{Identity}
use Rattle.nsi_primitive.specs.declared.message.Message.{Message}
use Rattle.nsi_world.specs.Worlds.{Homes, World, IsAgent, empty, synced_part, IsTo, IsGot}
use Rattle.nsi_world.specs.Runs.{MayCome, at, happens_at, happens, world_after}
use Rattle.nsi_world.specs.Seats.{MayBe, AreFree}
use Rattle.nsi_world.proofs.Later.{Extends, at_same, at_other, follows_entry, follows_sync}
use Rattle.nsi_world.proofs.Receipts.{none_contained}
use Rattle.nsi_world.proofs.Sending.{restart_grows}

-- an agent has got a message of this identity, by a synced entry
pub record IsGotOf (homes : Homes) (w : World) (i : Identity) : Type 0 where
  pub message : Message
  pub by : ℕ
  pub same : identity message ≡ i
  pub addressed : IsTo homes by message
  pub got : IsGot message (synced_part w by)

-- so it is of what this entry acknowledges
abbrev pub AcksGot : Homes → World → Input → Type 0
AcksGot homes w (Input.Acked i) = IsGotOf homes w i
AcksGot homes w _ = Unit {0}

-- only agents have taken anything, and what they have taken the acknowledgement of was got
pub record AcksAreOfGot (homes : Homes) (w : World) : Type 0 where
  pub within : (a : ℕ) → w.synced a ≤ length (w.journal a)
  pub agents : (a : ℕ) (e : Entry) → Contains (w.journal a) e → IsAgent homes a
  pub acks : (a : ℕ) (e : Entry) → Contains (w.journal a) e → AcksGot homes w e.input

got_later : (homes : Homes) (w v : World) (i : Input) → Extends (synced_part w) (synced_part v) → AcksGot homes w i → AcksGot homes v i
got_later homes w v (Input.Acked i) g h = record {
  message = h.message;
  by = h.by;
  same = h.same;
  addressed = h.addressed;
  got = record { second = h.got.second; there = subst (λ (es : List Entry). Contains es (record { second = h.got.second; input = Input.Got h.message })) (sym (g h.by).1) (Contains-append_left (synced_part w h.by) (g h.by).0 _ h.got.there) };
}
got_later homes w v (Input.Got m) g h = tt
got_later homes w v (Input.Work n machine) g h = tt
got_later homes w v (Input.Force n) g h = tt
got_later homes w v Input.Tick g h = tt
got_later homes w v (Input.Ask n ask) g h = tt

-- what may come is so
comes_got : (homes : Homes) (w : World) (a : ℕ) (i : Input) → MayCome homes w a i → AcksGot homes w i
comes_got homes w a (Input.Acked i) h = record { message = h.0; by = h.1; same = h.2; addressed = h.3.addressed; got = h.3.got }
comes_got homes w a (Input.Got m) h = tt
comes_got homes w a (Input.Work n machine) h = tt
comes_got homes w a (Input.Force n) h = tt
comes_got homes w a Input.Tick h = tt
comes_got homes w a (Input.Ask n ask) h = tt

---- Events

of_event : (homes : Homes) (w : World) (a : ℕ) (what : Happening) → IsAgent homes a → MayBe homes w a what → AcksAreOfGot homes w → AcksAreOfGot homes (happens_at w a what)
of_event homes w a (Happening.Entry e answer) agent may h =
    let v : World = happens_at w a (Happening.Entry e answer) in
    let js : List Entry = w.journal a ++ e ∷ [] in
    let grows : Extends (synced_part w) (synced_part v) = (follows_entry a e answer w (h.within a)).grows in
    record {
      within = λ b. elim (cases_eq b a) [
        | inl q ↦ subst (λ c. w.synced c ≤ length (at a js w.journal c)) (sym q) (omega (arith, h.within a, ap length (at_same a js w.journal), length-append (w.journal a) (e ∷ [])))
        | inr n ↦ omega (arith, h.within b, ap length (at_other a b js w.journal n))
      ];
      agents = λ b x c. elim (cases_eq b a) [
        | inl q ↦ subst (IsAgent homes) (sym q) agent
        | inr n ↦ h.agents b x (subst (λ (es : List Entry). Contains es x) (at_other a b js w.journal n) c)
      ];
      acks = λ b x c. elim (cases_eq b a) [
        | inl q ↦
            let here : Contains (at a js w.journal a) x = subst (λ k. Contains (at a js w.journal k) x) q c in
            elim (Contains-push_cases (w.journal a) e x (subst (λ (es : List Entry). Contains es x) (at_same a js w.journal) here)) [
              | inl old ↦ got_later homes w v x.input grows (h.acks a x old)
              | inr new ↦ got_later homes w v x.input grows (subst (λ (z : Entry). AcksGot homes w z.input) new (comes_got homes w a e.input may.comes))
            ]
        | inr n ↦ got_later homes w v x.input grows (h.acks b x (subst (λ (es : List Entry). Contains es x) (at_other a b js w.journal n) c))
      ];
    }
of_event homes w a (Happening.Sync k) agent may h =
    let v : World = happens_at w a (Happening.Sync k) in
    let grows : Extends (synced_part w) (synced_part v) = (follows_sync a k w may).grows in
    record {
      within = λ b. elim (cases_eq b a) [
        | inl q ↦ subst (λ c. at a k w.synced c ≤ length (w.journal c)) (sym q) (omega (arith, may, at_same a k w.synced))
        | inr m ↦ omega (arith, h.within b, at_other a b k w.synced m)
      ];
      agents = h.agents;
      acks = λ b x c. got_later homes w v x.input grows (h.acks b x c);
    }
of_event homes w a (Happening.Restart k) agent may h =
    let v : World = happens_at w a (Happening.Restart k) in
    let js : List Entry = take k (w.journal a) in
    let grows : Extends (synced_part w) (synced_part v) = restart_grows w a k may.0 may.1 in
    record {
      within = λ b. elim (cases_eq b a) [
        | inl q ↦ subst (λ c. at a k w.synced c ≤ length (at a js w.journal c)) (sym q) (omega (arith, may.1, at_same a k w.synced, ap length (at_same a js w.journal), length-take-le k (w.journal a) may.1))
        | inr m ↦ omega (arith, h.within b, at_other a b k w.synced m, ap length (at_other a b js w.journal m))
      ];
      agents = λ b x c. elim (cases_eq b a) [
        | inl q ↦ subst (IsAgent homes) (sym q) agent
        | inr n ↦ h.agents b x (subst (λ (es : List Entry). Contains es x) (at_other a b js w.journal n) c)
      ];
      acks = λ b x c. elim (cases_eq b a) [
        | inl q ↦
            let here : Contains (at a js w.journal a) x = subst (λ n. Contains (at a js w.journal n) x) q c in
            let front : Contains js x = subst (λ (es : List Entry). Contains es x) (at_same a js w.journal) here in
            got_later homes w v x.input grows (h.acks a x (subst (λ (es : List Entry). Contains es x) (take-append-drop k (w.journal a)) (Contains-append_left js (drop k (w.journal a)) x front)))
        | inr n ↦ got_later homes w v x.input grows (h.acks b x (subst (λ (es : List Entry). Contains es x) (at_other a b js w.journal n) c))
      ];
    }

of_events : (homes : Homes) (w : World) (es : List Event) → AreFree homes w es → AcksAreOfGot homes w → AcksAreOfGot homes (world_after w es)
unfolding world_after AreFree
of_events homes w [] free h = h
of_events homes w (e ∷ es) free h = of_events homes (happens w e) es free.1 (of_event homes w e.agent e.what free.0.0 free.0.1 h)

pub acks_are_of_got : (homes : Homes) (events : List Event) → AreFree homes empty events → AcksAreOfGot homes (world_after empty events)
acks_are_of_got homes events free = of_events homes empty events free (record {
  within = λ a. omega arith;
  agents = λ a e c. absurd (none_contained e c);
  acks = λ a e c. absurd (none_contained e c);
})

---- Fronts

pub free_front : (homes : Homes) (w : World) (es fs : List Event) → AreFree homes w (es ++ fs) → AreFree homes w es
unfolding AreFree
free_front homes w [] fs h = tt
free_front homes w (e ∷ es) fs h = (h.0, free_front homes (happens w e) es fs h.1)
