-- What the book of a provider that nobody shares makes of a call.
use Rattle.std.proofs.Common.{◌≡◌, ◌∙◌, ◌⊎◌, inl, inr, ⊎_elim, ◌<◌, ℕ, false, length, Option, Some, None, refl, sym, ap, subst, arith}
use Rattle.std.specs.Global.{Vec}
use Rattle.std.specs.Prelude.{IfSome, IfNone, IsSome}
use Rattle.std.proofs.lemmas.Bool.{true≢false}
use Rattle.std.proofs.lemmas.Option.{none-some, same_Some}
use Rattle.nsi_primitive.specs.Messages.{is_request}
use Rattle.nsi_primitive.specs.declared.entry.Entry.{Entry}
use Rattle.nsi_primitive.specs.declared.message.Message.{Message}
use Rattle.agent_state.specs.Entries.{most_entries}
use Rattle.shared_provider.specs.declared.reply.BookFault.{BookFault}
use Rattle.shared_provider.specs.declared.reply.Reply.{Reply}
use Rattle.shared_provider.specs.Answers.{Answers, Fails}
use Rattle.shared_provider.specs.Asked.{took_entry, work_entry}
use Rattle.shared_provider.specs.Book.{Book, Held, IsBook, counted, enter}
use Rattle.race_caller.specs.declared.desk.Answer.{Answer}
use Rattle.race_caller.specs.declared.desk.Work.{Work}
use Rattle.race_caller.specs.Alone.{Hands, Works, IsHanded, IsDone, HasParts, LacksPart, IsWorkOf, lacks_memory}

---- Faults

-- nothing was taken: the book is closed, or it was full
pub failed_why : (asked : Option Entry) (old new : Held) (fault : BookFault) → IsBook new → lacks_memory fault ≡ false → Fails asked old new fault → (0 < new.book.faults) ⊎ (old.book.state.taken ≡ most_entries)
failed_why asked old new (BookFault.DiskFault n) is lacks_none h = inl (by is.fault)
  where
    by : ((new.book.faults ≡ 0) × (counted new.meter ≡ 0)) ⊎ ((new.book.faults ≡ 1) × (0 < counted new.meter)) → 0 < new.book.faults
    by (inl e) = let c = h.counts in absurd (omega (arith, e.1, c))
    by (inr k) = omega (arith, k.0)
failed_why asked old new (BookFault.Closed n) is lacks_none h = let c = h.was_closed in inl (omega (arith, c, ap (λ (x : Held). x.book.faults) h.same))
failed_why asked old new BookFault.Full is lacks_none h = inr h.full
failed_why asked old new BookFault.NoMemory is lacks_none h = absurd (true≢false lacks_none)

---- A request

pub not_a_request : (b : Book) (m : Message) → is_request m.body ≡ false → IsHanded b m (Some b) None
not_a_request b m other = record { now = b; told = refl; hands = record { why = inr (inl other) } }

hands_by : (asked : Option Entry) (b d : Book) (m : Message) (reply : Reply) (o : Option Answer) → took_entry b.state m ≡ asked → Answers asked b d reply → IfSome o (HasParts reply.place (Some reply.messages))
    → IfNone o (LacksPart reply.place (Some reply.messages)) → Hands b m d o
hands_by None b d m reply None is h parts lacks = record { why = inr (inr (inl is)) }
hands_by None b d m reply (Some answer) is h parts lacks = absurd (none-some answer.place (sym h.place ∙ parts.place_is))
hands_by (Some e) b d m reply None is h parts lacks =
    ⊎_elim (λ e. absurd (none-some (length b.events) (sym e ∙ h.place))) (λ e. absurd (none-some reply.messages (sym e))) lacks
hands_by (Some e) b d m reply (Some answer) is h parts lacks = record {
  entry = e;
  asked = is;
  book = h.book;
  place = same_Some answer.place (length b.events) (sym parts.place_is ∙ h.place);
  messages = ap (λ (v : Vec Message). v.items) (same_Some answer.messages reply.messages (sym parts.messages_are)) ∙ h.messages;
}

pub was_handed : (b d : Book) (m : Message) (reply : Reply) (o : Option Answer) → Answers (took_entry b.state m) b d reply → IfSome o (HasParts reply.place (Some reply.messages)) → IfNone o (LacksPart reply.place (Some reply.messages))
    → IsHanded b m (Some d) o
was_handed b d m reply o h parts lacks = record { now = d; told = refl; hands = hands_by (took_entry b.state m) b d m reply o refl h parts lacks }

pub not_handed : (old new : Held) (m : Message) (asked : Option Entry) (fault : BookFault) → IsBook new → lacks_memory fault ≡ false → Fails asked old new fault → IsHanded old.book m (Some new.book) None
not_handed old new m asked fault is lacks_none h = record {
  now = new.book;
  told = refl;
  hands = record { why = ⊎_elim (λ shut. inl shut) (λ full. inr (inr (inr full))) (failed_why asked old new fault is lacks_none h) };
}

---- Work

works_by : (asked : Option Entry) (b d : Book) (id : ℕ) (reply : Reply) (work : Work) → work_entry b.state id ≡ asked → Answers asked b d reply → IsWorkOf reply.place reply.event (Some reply.messages) work → Works b id d work
works_by None b d id reply Work.Idle is h of = record { none = is; book = h.same }
works_by None b d id reply (Work.Done done) is h of = absurd (none-some done.event (sym h.event ∙ of.0))
works_by None b d id reply Work.Refused is h of = absurd (true≢false (sym (subst IsSome h.event of.0)))
works_by (Some e) b d id reply Work.Idle is h of = absurd (none-some (enter b.agent e) (sym of ∙ h.event))
works_by (Some e) b d id reply (Work.Done done) is h of = record {
  entry = e;
  asked = is;
  book = h.book;
  place = same_Some done.place (length b.events) (sym of.1.0 ∙ h.place);
  event = same_Some done.event (enter b.agent e) (sym of.0 ∙ h.event);
  messages = ap (λ (v : Vec Message). v.items) (same_Some done.messages reply.messages (sym of.1.1)) ∙ h.messages;
}
works_by (Some e) b d id reply Work.Refused is h of =
    ⊎_elim (λ e. absurd (none-some (length b.events) (sym e ∙ h.place))) (λ e. absurd (none-some reply.messages (sym e))) of.1

pub was_done : (b d : Book) (id : ℕ) (reply : Reply) (work : Work) → Answers (work_entry b.state id) b d reply → IsWorkOf reply.place reply.event (Some reply.messages) work → IsDone b id (Some d) work
was_done b d id reply work h of = record { now = d; told = refl; works = works_by (work_entry b.state id) b d id reply work refl h of }

pub not_done : (old new : Held) (id : ℕ) (asked : Option Entry) (fault : BookFault) → IsBook new → lacks_memory fault ≡ false → Fails asked old new fault → IsDone old.book id (Some new.book) Work.Refused
not_done old new id asked fault is lacks_none h = record { now = new.book; told = refl; works = record { why = failed_why asked old new fault is lacks_none h } }
