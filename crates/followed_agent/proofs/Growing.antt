-- What an agent tells, as its journal grows, is synced, and is cut.
use Rattle.std.proofs.Common.{ℕ, ◌≤◌, ◌<◌, ◌≡◌, ◌∙◌, List, [], ◌∷◌, ◌++◌, length, take, drop, Some, slice_get, refl, sym, ap, subst, arith, append_assoc}
use Rattle.std.specs.Global.{Vec}
use Rattle.std.specs.List.{All, Contains}
use Rattle.std.proofs.lemmas.List.{append-nil, take-append-le, take_all, take-take, take-append-drop, drop_at, length-take-le, length-append}
use Rattle.std.proofs.lemmas.List.Elements.{All-append, All-cons, All-nil, All-take}
use Rattle.nsi_primitive.specs.Printable.{IsPrintable, IsPrintableEntry}
use Rattle.nsi_primitive.specs.declared.entry.Entry.{Entry}
use Rattle.nsi_primitive.specs.declared.message.Message.{Message}
use Rattle.stp_topology.specs.declared.network.Network.{Network}
use Rattle.stp_topology.proofs.RankLemmas.{before as front_place}
use Rattle.agent_state.specs.State.{blank_agent}
use Rattle.nsi_agent.specs.Homes.{Home, home_in}
use Rattle.nsi_agent.specs.Standing.{Standing}
use Rattle.nsi_agent.specs.Steps.{after}
use Rattle.nsi_agent.specs.Told.{Told, behind, goes_on, told}
use Rattle.nsi_agent.proofs.Telling.{telling_is_in_parts}
use Rattle.followed_agent.specs.Messages.{IsIndexed}
use Rattle.followed_agent.specs.Kept.{AreNoted, At, AtSeen, IsKept, said_by, seen, taking, telling}
use Rattle.followed_agent.specs.declared.agent.Followed.{Followed}
use Rattle.followed_agent.specs.declared.messages.Messages.{Messages}

pub one_more : (h : Home) (es : List Entry) (e : Entry) → told h (es ++ e ∷ []) ≡ telling (after h (told h es).state e).state ((told h es).out ++ (after h (told h es).state e).out)
unfolding goes_on
one_more h es e =
    let x = after h (told h es).state e in
    telling_is_in_parts h blank_agent es (e ∷ []) ∙ ap (λ (ms : List Message). telling x.state ((told h es).out ++ ms)) (append-nil x.out)

-- what more entries say stands behind
pub out_of_more : (h : Home) (es fs : List Entry) → (told h (es ++ fs)).out ≡ (told h es).out ++ (goes_on h (told h es).state fs).out
out_of_more h es fs = ap (λ (x : Told). x.out) (telling_is_in_parts h blank_agent es fs)

---- An entry

pub kept_entry : (x y : Followed) (e : Entry) → IsKept x → y.agent.network ≡ x.agent.network → y.agent.number ≡ x.agent.number
    → AtSeen (seen x) (λ h. y.agent.state ≡ (after h x.agent.state e).state) → AtSeen (seen x) (λ h. y.unsaid.items ≡ x.unsaid.items ++ (after h x.agent.state e).out)
    → y.journal.items ≡ x.journal.items ++ e ∷ [] → y.said ≡ x.said → y.synced ≡ x.synced → y.got ≡ x.got
    → IsPrintableEntry e → All IsPrintable y.unsaid.items → IsKept y
kept_entry x y e kept network number state out journal said synced got printable all = record {
  printable = subst (All IsPrintableEntry) (sym journal) (All-append IsPrintableEntry x.journal.items (e ∷ []) kept.printable (All-cons IsPrintableEntry e [] printable (All-nil IsPrintableEntry)));
  within = omega (arith, synced, ap length journal, length-append x.journal.items (e ∷ []), kept.within);
  state = at_new (λ h. y.agent.state ≡ (told h y.journal.items).state) (λ routes are.
      let h = home_in x.agent.network routes x.agent.number in
      state routes are
      ∙ (ap (λ s. (after h s e).state) (kept.state routes are)
      ∙ sym (ap (λ (z : Told). z.state) (ap (told h) journal ∙ one_more h x.journal.items e))));
  said = at_new (λ h. y.said.messages.items ≡ said_by h (seen y)) (λ routes are.
      let h = home_in x.agent.network routes x.agent.number in
      ap (λ (z : Messages). z.messages.items) said ∙ (kept.said routes are ∙ ap (λ es. (told h es).out) (sym part)));
  indexed = subst IsIndexed (sym said) kept.indexed;
  out = at_new (λ h. (told h y.journal.items).out ≡ said_by h (seen y) ++ y.unsaid.items) (λ routes are.
      let h = home_in x.agent.network routes x.agent.number in
      ap (λ (z : Told). z.out) (ap (told h) journal ∙ one_more h x.journal.items e)
      ∙ (ap (λ ms. ms ++ (after h (told h x.journal.items).state e).out) (kept.out routes are)
      ∙ (append_assoc (said_by h (seen x)) x.unsaid.items (after h (told h x.journal.items).state e).out
      ∙ (ap (λ s. said_by h (seen x) ++ (x.unsaid.items ++ (after h s e).out)) (sym (kept.state routes are))
      ∙ (ap (λ ms. said_by h (seen x) ++ ms) (sym (out routes are)) ∙ ap (λ es. (told h es).out ++ y.unsaid.items) (sym part))))));
  unsaid = all;
  got = λ p second m lt at.
      subst (λ z. Contains z (record { id = m.header.correlation; place = p })) (sym got)
      (kept.got p second m (omega (arith, lt, synced)) (before p second m (omega (arith, lt, synced)) (ap (λ es. slice_get es p) (sym journal) ∙ at)));
}
  where
    part : take y.synced y.journal.items ≡ take x.synced x.journal.items
    part = ap (λ n. take n y.journal.items) synced ∙ (ap (take x.synced) journal ∙ take-append-le x.synced x.journal.items (e ∷ []) kept.within)

    at_new : (P : Home → Type 0) → AtSeen (seen x) P → AtSeen (seen y) P
    at_new P at = subst (λ t. At t y.agent.number P) (sym network) (subst (λ n. At x.agent.network n P) (sym number) at)

    before : (p second : ℕ) (m : Message) → p < x.synced → slice_get (x.journal.items ++ e ∷ []) p ≡ Some (taking second m) → slice_get x.journal.items p ≡ Some (taking second m)
    before p second m lt at = sym (front_place x.journal.items (e ∷ []) p (omega (arith, lt, kept.within))) ∙ at

---- A sync

pub kept_sync : (x y : Followed) → IsKept x → y.agent ≡ x.agent → y.journal ≡ x.journal → y.synced ≡ length x.journal.items → y.unsaid.items ≡ []
    → IsIndexed y.said → y.said.messages.items ≡ x.said.messages.items ++ x.unsaid.items → AreNoted y.got (length x.journal.items) x.journal.items → IsKept y
kept_sync x y kept agent journal synced unsaid indexed said got = record {
  printable = subst (λ (es : Vec Entry). All IsPrintableEntry es.items) (sym journal) kept.printable;
  within = omega (arith, synced, ap (λ (es : Vec Entry). length es.items) journal);
  state = at_new (λ h. y.agent.state ≡ (told h y.journal.items).state) (λ routes are.
      let h = home_in x.agent.network routes x.agent.number in
      ap (λ (a : Standing). a.state) agent ∙ (kept.state routes are ∙ ap (λ (es : Vec Entry). (told h es.items).state) (sym journal)));
  said = at_new (λ h. y.said.messages.items ≡ said_by h (seen y)) (λ routes are.
      let h = home_in x.agent.network routes x.agent.number in
      said ∙ (ap (λ ms. ms ++ x.unsaid.items) (kept.said routes are) ∙ (sym (kept.out routes are) ∙ ap (λ es. (told h es).out) (sym part))));
  indexed = indexed;
  out = at_new (λ h. (told h y.journal.items).out ≡ said_by h (seen y) ++ y.unsaid.items) (λ routes are.
      let h = home_in x.agent.network routes x.agent.number in
      ap (λ (es : Vec Entry). (told h es.items).out) journal
      ∙ (sym (append-nil (told h x.journal.items).out) ∙ (ap (λ es. (told h es).out ++ []) (sym part) ∙ ap (λ ms. said_by h (seen y) ++ ms) (sym unsaid))));
  unsaid = subst (All IsPrintable) (sym unsaid) (All-nil IsPrintable);
  got = subst (λ n. AreNoted y.got n y.journal.items) (sym synced) (subst (λ (es : Vec Entry). AreNoted y.got (length x.journal.items) es.items) (sym journal) got);
}
  where
    part : take y.synced y.journal.items ≡ x.journal.items
    part = ap (λ n. take n y.journal.items) synced ∙ (ap (λ (es : Vec Entry). take (length x.journal.items) es.items) journal ∙ take_all (length x.journal.items) x.journal.items (omega arith))

    at_new : (P : Home → Type 0) → AtSeen (seen x) P → AtSeen (seen y) P
    at_new P at = subst (λ (a : Standing). At a.network a.number P) (sym agent) at

---- A cut

-- the entries that an agent has taken anew
pub refolded : (t u : Network) (a b : ℕ) (agent new : Standing) (out before : List Message) (es fs : List Entry) → u ≡ t → b ≡ a → new ≡ agent → before ≡ [] → es ≡ fs
    → At u b (λ h. telling agent.state out ≡ behind before (told h es)) → At t a (λ h. telling new.state out ≡ told h fs)
refolded t u a b agent new out before es fs p q is none same x = λ routes are.
    let there = subst (λ v. At v a (λ h. telling agent.state out ≡ behind before (told h es))) p (subst (λ n. At u n (λ h. telling agent.state out ≡ behind before (told h es))) q x) in
    let h = home_in t routes a in
    ap (λ (z : Standing). telling z.state out) is ∙ (there routes are ∙ (ap (λ ms. behind ms (told h es)) none ∙ ap (told h) same))

-- the first so many entries are taken anew
pub kept_cut : (x y : Followed) (count : ℕ) (out : List Message) → IsKept x → x.synced ≤ count → count ≤ length x.journal.items → y.agent.network ≡ x.agent.network → y.agent.number ≡ x.agent.number
    → AtSeen (seen x) (λ h. telling y.agent.state out ≡ told h (take count x.journal.items)) → y.journal.items ≡ take count x.journal.items
    → y.unsaid.items ≡ drop (length x.said.messages.items) out → y.said ≡ x.said → y.synced ≡ x.synced → y.got ≡ x.got
    → All IsPrintable y.unsaid.items → IsKept y
kept_cut x y count out kept from to network number told_is journal unsaid said synced got printable = record {
  printable = subst (All IsPrintableEntry) (sym journal) (All-take IsPrintableEntry count x.journal.items kept.printable);
  within = omega (arith, synced, ap length journal, length-take-le count x.journal.items to, from);
  state = at_new (λ h. y.agent.state ≡ (told h y.journal.items).state) (λ routes are.
      let h = home_in x.agent.network routes x.agent.number in
      ap (λ (z : Told). z.state) (told_is routes are) ∙ ap (λ es. (told h es).state) (sym journal));
  said = at_new (λ h. y.said.messages.items ≡ said_by h (seen y)) (λ routes are.
      let h = home_in x.agent.network routes x.agent.number in
      ap (λ (z : Messages). z.messages.items) said ∙ (kept.said routes are ∙ ap (λ es. (told h es).out) (sym part)));
  indexed = subst IsIndexed (sym said) kept.indexed;
  out = at_new (λ h. (told h y.journal.items).out ≡ said_by h (seen y) ++ y.unsaid.items) (λ routes are.
      let h = home_in x.agent.network routes x.agent.number in
      ap (λ es. (told h es).out) journal
      ∙ (whole h
      ∙ (ap (λ ms. said_by h (seen x) ++ ms) (sym (rest routes are))
      ∙ ap (λ es. (told h es).out ++ y.unsaid.items) (sym part))));
  unsaid = printable;
  got = λ p second m lt at.
      subst (λ z. Contains z (record { id = m.header.correlation; place = p })) (sym got)
      (kept.got p second m (omega (arith, lt, synced)) (before p second m (omega (arith, lt, synced)) (ap (λ es. slice_get es p) (sym journal) ∙ at)));
}
  where
    part : take y.synced y.journal.items ≡ take x.synced x.journal.items
    part = ap (λ n. take n y.journal.items) synced ∙ (ap (take x.synced) journal ∙ take-take x.synced count x.journal.items from)

    at_new : (P : Home → Type 0) → AtSeen (seen x) P → AtSeen (seen y) P
    at_new P at = subst (λ t. At t y.agent.number P) (sym network) (subst (λ n. At x.agent.network n P) (sym number) at)

    more : Home → List Message
    more h = (goes_on h (told h (take x.synced x.journal.items)).state (drop x.synced (take count x.journal.items))).out

    whole : (h : Home) → (told h (take count x.journal.items)).out ≡ said_by h (seen x) ++ more h
    whole h =
        ap (λ es. (told h es).out)
        (sym (take-append-drop x.synced (take count x.journal.items)) ∙ ap (λ es. es ++ drop x.synced (take count x.journal.items)) (take-take x.synced count x.journal.items from))
        ∙ out_of_more h (take x.synced x.journal.items) (drop x.synced (take count x.journal.items))

    rest : AtSeen (seen x) (λ h. y.unsaid.items ≡ more h)
    rest = λ routes are.
        let h = home_in x.agent.network routes x.agent.number in
        unsaid
        ∙ (ap (λ ms. drop (length ms) out) (kept.said routes are)
        ∙ (ap (drop (length (said_by h (seen x)))) (ap (λ (z : Told). z.out) (told_is routes are) ∙ whole h) ∙ drop_at (said_by h (seen x)) (more h) (length (said_by h (seen x))) refl))

    before : (p second : ℕ) (m : Message) → p < x.synced → slice_get (take count x.journal.items) p ≡ Some (taking second m) → slice_get x.journal.items p ≡ Some (taking second m)
    before p second m lt at =
        ap (λ es. slice_get es p) (sym (take-append-drop count x.journal.items))
        ∙ (front_place (take count x.journal.items) (drop count x.journal.items) p (omega (arith, lt, from, length-take-le count x.journal.items to)) ∙ at)
