-- Which messages entries take, one entry more, and none yet.
use Rattle.std.proofs.Common.{ℕ, ◌+◌, ◌≤◌, ◌<◌, ◌≡◌, ◌↔◌, ◌⊎◌, inl, inr, ◌∙◌, List, [], length, Some, slice_get, refl, sym, ap, subst, arith}
use Rattle.std.specs.List.{All, Contains}
use Rattle.std.proofs.lemmas.Bool.{cases_lt}
use Rattle.std.proofs.lemmas.List.Elements.{All-nil}
use Rattle.nsi_primitive.specs.Printable.{IsPrintable, IsPrintableEntry}
use Rattle.nsi_primitive.specs.declared.entry.Entry.{Entry}
use Rattle.nsi_primitive.specs.declared.entry.Input.{Input}
use Rattle.nsi_primitive.specs.declared.message.Message.{Message}
use Rattle.id_index.specs.declared.IdPlace.{IdPlace}
use Rattle.agent_state.specs.State.{blank_agent}
use Rattle.nsi_agent.specs.Homes.{home_in}
use Rattle.nsi_agent.specs.Told.{goes_on, told}
use Rattle.followed_agent.specs.Messages.{IsIndexed}
use Rattle.followed_agent.specs.Kept.{AreNoted, IsKept, taking}
use Rattle.followed_agent.specs.declared.agent.Followed.{Followed}

one_some : {X : Type 0} {a b : X} → Some a ≡ Some b → a ≡ b
one_some e = cc

abbrev id_at : ℕ → ℕ → IdPlace
id_at id k = record { id = id; place = k }

one_got : (m n : Message) → Input.Got m ≡ Input.Got n → m ≡ n
one_got m n e = cc

module _ (got : List IdPlace) (place : ℕ) (journal : List Entry) (noted : AreNoted got place journal) (e : Entry) (at : slice_get journal place ≡ Some e) where
  -- it stands at the place, or before it
  here_or_before : (p : ℕ) → p < place + 1 → (p < place) ⊎ (p ≡ place)
  here_or_before p lt = by (cases_lt p place)
    where
      by : (p < place) ⊎ (place ≤ p) → (p < place) ⊎ (p ≡ place)
      by (inl less) = inl less
      by (inr past) = inr (omega (arith, lt, past))

  taken_here : (p second : ℕ) (n : Message) → p ≡ place → slice_get journal p ≡ Some (taking second n) → e.input ≡ Input.Got n
  taken_here p second n same there = ap (λ (x : Entry). x.input) (one_some (sym at ∙ (ap (slice_get journal) (sym same) ∙ there)))

  pub noted_one : (new : List IdPlace) (m : Message) → e.input ≡ Input.Got m → ((x : IdPlace) → Contains new x ↔ ((x ≡ record { id = m.header.correlation; place = place }) ⊎ Contains got x)) → AreNoted new (place + 1) journal
  noted_one new m is adds = λ p second n lt there. by p second n there (here_or_before p lt)
    where
      by : (p second : ℕ) (n : Message) → slice_get journal p ≡ Some (taking second n) → (p < place) ⊎ (p ≡ place) → Contains new (record { id = n.header.correlation; place = p })
      by p second n there (inl less) = (adds (record { id = n.header.correlation; place = p })).1 (inr (noted p second n less there))
      by p second n there (inr same) =
          let its : n ≡ m = one_got n m (sym (taken_here p second n same there) ∙ is) in
          (adds (record { id = n.header.correlation; place = p })).1
          (inl (ap (λ (z : Message). id_at z.header.correlation p) its ∙ ap (λ k. id_at m.header.correlation k) same))

  pub noted_none : ((n : Message) → e.input ≡ Input.Got n → ⊥) → AreNoted got (place + 1) journal
  noted_none none = λ p second n lt there. by p second n there (here_or_before p lt)
    where
      by : (p second : ℕ) (n : Message) → slice_get journal p ≡ Some (taking second n) → (p < place) ⊎ (p ≡ place) → Contains got (record { id = n.header.correlation; place = p })
      by p second n there (inl less) = noted p second n less there
      by p second n there (inr same) = absurd (none n (taken_here p second n same there))

-- an agent that has taken nothing yet
pub kept_new : (x : Followed) → x.agent.state ≡ blank_agent → x.journal.items ≡ [] → x.synced ≡ 0 → x.said.messages.items ≡ [] → IsIndexed x.said → x.unsaid.items ≡ [] → IsKept x
unfolding goes_on
kept_new x state journal synced said indexed unsaid = record {
  printable = subst (All IsPrintableEntry) (sym journal) (All-nil IsPrintableEntry);
  within = omega (arith, synced, ap length journal);
  state = λ routes are. state ∙ ap (λ es. (told (home_in x.agent.network routes x.agent.number) es).state) (sym journal);
  said = λ routes are. rw (journal, synced) said;
  indexed = indexed;
  out = λ routes are. rw (journal, synced, unsaid) refl;
  unsaid = subst (All IsPrintable) (sym unsaid) (All-nil IsPrintable);
  got = λ p second m lt at. absurd (omega (arith, lt, synced));
}
