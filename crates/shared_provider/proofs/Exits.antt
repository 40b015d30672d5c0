-- How an entry that is put into a book ends.
use Rattle.std.proofs.Common.{◌≡◌, ◌∙◌, inl, inr, ◌<◌, ◌+◌, ℕ, Bool, false, List, [], ◌∷◌, ◌++◌, Option, Some, Result, refl, sym, ap, subst, arith, length}
use Rattle.std.proofs.lemmas.List.{append_assoc}
use Rattle.nsi_primitive.specs.declared.entry.Entry.{Entry}
use Rattle.nsi_primitive.specs.declared.entry.Event.{Event}
use Rattle.nsi_disk.specs.Disk.{History, Meter}
use Rattle.journal_entry.specs.Journal.{Kept}
use Rattle.stp_topology.specs.declared.network.Network.{Network}
use Rattle.provider_agent.specs.Setting.{Setting, setting_of, own_stp}
use Rattle.provider_agent.specs.State.{State, Standing}
use Rattle.provider_agent.specs.Steps.{after}
use Rattle.shared_provider.specs.declared.reply.Reply.{Reply}
use Rattle.shared_provider.specs.declared.reply.BookFault.{BookFault}
use Rattle.shared_provider.specs.declared.reply.BookFault.TheVariants.{DiskFault, Closed, Full, NoMemory}
use Rattle.shared_provider.specs.History.{journal_of}
use Rattle.shared_provider.specs.Book.{Book, Held, counted, steps, enter, sync, with_entry, entered, closed, IsOpen}
use Rattle.shared_provider.specs.Asked.{MayBeAsked}
use Rattle.shared_provider.specs.Answers.{Adds, Fails, HasBroken}
use Rattle.shared_provider.specs.Sound.{Keeps, LeavesThese, LeavesOneOf, HasFailed, faults_by, IsSound}
use Rattle.shared_provider.proofs.Histories.{taken_more}
use Rattle.shared_provider.proofs.Kept.{keeps_same}
use Rattle.shared_provider.proofs.Sounds.{same_sound, shut_sound, synced_entered}

abbrev pub a_book : Network → ℕ → State → List Event → ℕ → Book
a_book network agent state events faults = record { network = network; agent = agent; state = state; events = events; faults = faults }

pub book_is : (network : Network) (agent : ℕ) (s t : State) (xs ys : List Event) (f g : ℕ) → s ≡ t → xs ≡ ys → f ≡ g → a_book network agent s xs f ≡ a_book network agent t ys g
book_is network agent s t xs ys f g p q r = rw (p, q, r) refl

-- an entry and its sync, pushed one after the other
pub entered_is : (b : Book) (e : Entry) (s : State) (xs : List Event) (count : ℕ) (f : ℕ) → MayBeAsked b.state e → s ≡ (steps b e).state → xs ≡ (b.events ++ enter b.agent e ∷ []) ++ sync b.agent count ∷ [] → count ≡ s.taken → f ≡ b.faults
    → a_book b.network b.agent s xs f ≡ entered e b
entered_is b e s xs count f may to is counts same =
    let next : count ≡ b.state.taken + 1 = counts ∙ (ap (λ (z : State). z.taken) to ∙ taken_more (setting_of b.network b.agent) (own_stp b.network b.agent) b.state e may.may_take) in
    let whole : xs ≡ b.events ++ enter b.agent e ∷ sync b.agent (b.state.taken + 1) ∷ [] =
    is ∙ (append_assoc b.events (enter b.agent e ∷ []) (sync b.agent count ∷ []) ∙ ap (λ n. b.events ++ enter b.agent e ∷ sync b.agent n ∷ []) next) in
    book_is b.network b.agent s (steps b e).state xs _ f b.faults to whole same

-- an entry without its sync, and a fault
pub broken_is : (b : Book) (e : Entry) (s : State) (xs : List Event) (f : ℕ) → s ≡ (steps b e).state → xs ≡ b.events ++ enter b.agent e ∷ [] → f ≡ 1 → a_book b.network b.agent s xs f ≡ closed (with_entry e b)
broken_is b e s xs f to is one = book_is b.network b.agent s (steps b e).state xs (b.events ++ enter b.agent e ∷ []) f 1 to is one

-- the provider after an entry
pub next_is : (network : Network) (agent : ℕ) (old new : Standing) (e : Entry) → old.setting ≡ setting_of network agent → new ≡ record old { state = (after old.setting (own_stp network old.setting.number) old.state e).state }
    → (new.setting ≡ old.setting) × (new.state ≡ (after (setting_of network agent) (own_stp network agent) old.state e).state)
next_is network agent old new e own is = (
  ap (λ (p : Standing). p.setting) is,
  ap (λ (p : Standing). p.state) is ∙ ap (λ (y : Setting). (after y (own_stp network y.number) old.state e).state) own,
)

module _ (ready : Type 0) (waits : Bool) (kept : Option Kept) (disk : Option History) (reading : List ℕ → Result (List Entry) ℕ) (setting : Setting) where
  -- the same of a book that is the same
  pub moved : (own : Setting) (b c : Book) (meter : Meter) → own ≡ setting → c ≡ b → IsSound ready waits kept disk reading setting (record { book = b; meter = meter }) → IsSound ready waits kept disk reading own (record { book = c; meter = meter })
  moved own b c meter same is h = rw (same, is) h

  module _ (x : Held) (s : IsSound ready waits kept disk reading setting x) (opened : IsOpen x.book) (ready' : Type 0) (waits' : Bool) (kept' : Option Kept) (meter : Meter) (disk' : Option History) where
    -- where nothing was written, by the fault
    pub unwritten_sound : (fault : BookFault) → HasFailed x.meter meter fault → (fault ≡ NoMemory → (waits' ≡ false) × ready') → (fault ≡ NoMemory → disk' ≡ disk) → (fault ≡ NoMemory → kept' ≡ kept)
        → LeavesThese reading disk' (journal_of x.book.events).entries → IsSound ready' waits' kept' disk' reading setting (record { book = record x.book { faults = faults_by fault x.book.faults }; meter = meter })
    unwritten_sound (DiskFault n) failed usable same_disk same left = shut_sound ready waits kept disk reading setting x s opened ready' waits' kept' meter disk' (omega (arith, failed.1)) left
    unwritten_sound NoMemory failed usable same_disk same left =
        let may = usable refl in
        same_sound ready waits kept disk reading setting x s opened ready' waits' kept' meter disk' may.1 may.0 (omega (arith, failed.faults, failed.stops, (s.runs opened.running).calm)) (keeps_same disk disk' kept kept' (journal_of x.book.events).entries [] (same_disk refl) (same refl) (s.runs opened.running).keeps)
    unwritten_sound (Closed n) failed usable same_disk same left = absurd failed
    unwritten_sound Full failed usable same_disk same left = absurd failed

  pub unwritten_fails : (x : Held) (asked : Option Entry) (opened : IsOpen x.book) (meter : Meter) (fault : BookFault) → HasFailed x.meter meter fault → Fails asked x (record { book = record x.book { faults = faults_by fault x.book.faults }; meter = meter }) fault
  unwritten_fails x asked opened meter (DiskFault n) failed = record { was_open = opened; number = failed.0; counts = failed.1; book = inl refl }
  unwritten_fails x asked opened meter NoMemory failed = record { was_open = opened; same = refl; counts = failed }
  unwritten_fails x asked opened meter (Closed n) failed = absurd failed
  unwritten_fails x asked opened meter Full failed = absurd failed
