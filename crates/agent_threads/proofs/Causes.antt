-- Why rounds and runs have failed.
use Rattle.std.proofs.Common.{ℕ, ◌≡◌, ◌∙◌, Bool, true, List, [], ◌∷◌, inl, inr, refl, sym, ap₂, subst, arith, Result, Ok, Err, IfErr}
use Rattle.stp_topology.specs.declared.network.Network.{Network}
use Rattle.stp_topology.specs.Network.{name_of}
use Rattle.agent_node.specs.Kept.{Kept}
use Rattle.agent_node.specs.Reopening.{HasRisen as HasCountRisen}
use Rattle.agent_threads.specs.declared.fault.RunFault.{RunFault}
use Rattle.agent_threads.specs.Made.{HasRisen, HasFailed, faults_in, HasRunCause, HasMetCause, HasGoOnCause, HasSettleCause, ShelfCounts, HaveRisen, KeepsShelf, AreUntold, IsOfRestart, IsOfAgent, IsOfWriting}
use Rattle.agent_threads.specs.Nets.{seats, numbers, EachIs, IsOneOf, IsAsPlanned, AreSame, AreAmong, AreListed}
use Rattle.agent_threads.specs.Leaving.{StayOwned}
use Rattle.agent_threads.specs.Promise.{Shows}
use Rattle.agent_threads.specs.Stopping.{AtOwned, WereOwned, NoneCounted}
use Rattle.agent_threads.proofs.Same.{still_of, same_agents}
use Rattle.agent_threads.proofs.Owning.{still_seen}
use Rattle.nsi_script.specs.declared.script.Act.{Act}
use Rattle.std.specs.List.{All}
use Rattle.std.proofs.lemmas.List.Elements.{All-nil, All-cons}

pub same_error : {T E : Type 0} (r : Result T E) (y e k : E) → r ≡ Err y → y ≡ e → r ≡ Err k → e ≡ k
same_error r y e k p q h = cc

pub if_err : {T E : Type 0} (r : Result T E) (P : E → Type 0) (y : E) → r ≡ Err y → P y → IfErr r P
if_err r P y e p = subst (λ z. IfErr z P) (sym e) p

pub failed : (a : ℕ) (os ns : List Kept) → HasRisen faults_in a os ns → HasFailed a ns
failed a [] ns h = absurd h
failed a (o ∷ os) [] h = absurd h
failed a (o ∷ os) (n ∷ ns) (inl p) = inl (p.0, omega (arith, p.1))
failed a (o ∷ os) (n ∷ ns) (inr q) = inr (failed a os ns q)

pub no_agent : (e : RunFault) → IsOfWriting e → IsOfAgent e → ⊥
no_agent RunFault.Long w a = a
no_agent RunFault.WriteFault w a = a
no_agent (RunFault.DiskFault n) w a = w
no_agent (RunFault.NotAJournal n place) w a = w
no_agent RunFault.NoMemory w a = a

-- a fault of a write is a count that rose, or want of memory
pub if_writing : (e : RunFault) (P : Type 0) → IsOfWriting e → (e ≡ RunFault.WriteFault → ⊥) → (e ≡ RunFault.NoMemory → P) → P
if_writing RunFault.Long P w n m = absurd w
if_writing RunFault.WriteFault P w n m = absurd (n refl)
if_writing (RunFault.DiskFault a) P w n m = absurd w
if_writing (RunFault.NotAJournal a place) P w n m = absurd w
if_writing RunFault.NoMemory P w n m = m refl

-- a fault of a write has its cause whoever the agents are, and isn't Long
pub write_settle : (acts : List Act) (e : RunFault) (olds news : List Kept) (c d : ShelfCounts) → IsOfWriting e → HasSettleCause acts olds news c d e
write_settle acts RunFault.Long olds news c d w = tt
write_settle acts RunFault.WriteFault olds news c d w = tt
write_settle acts (RunFault.DiskFault a) olds news c d w = absurd w
write_settle acts (RunFault.NotAJournal a place) olds news c d w = absurd w
write_settle acts RunFault.NoMemory olds news c d w = tt

pub not_long : (e : RunFault) → IsOfWriting e → e ≡ RunFault.Long → ⊥
not_long e w p = subst IsOfWriting p w

---- Who is left

pub among_twice : (xs ys zs : List Kept) → AreAmong xs ys → AreAmong ys zs → AreAmong xs zs
among_twice xs ys zs p q a h = p a (q a h)

among_by : (ns ms : List ℕ) → ms ≡ ns → (a : ℕ) → IsOneOf a ms → IsOneOf a ns
among_by ns ms e a h = subst (IsOneOf a) e h

same_numbers : (xs ys : List Kept) → EachIs IsAsPlanned xs ys → numbers (seats ys) ≡ numbers (seats xs)
same_numbers [] [] p = refl
same_numbers [] (y ∷ ys) p = absurd p
same_numbers (x ∷ xs) [] p = absurd p
same_numbers (x ∷ xs) (y ∷ ys) p = ap₂ ◌∷◌ p.0.same.number (same_numbers xs ys p.1)

pub among_same : (xs ys : List Kept) → EachIs IsAsPlanned xs ys → AreAmong xs ys
among_same xs ys p a h = among_by (numbers (seats xs)) (numbers (seats ys)) (same_numbers xs ys p) a h

---- Restarts

-- a restart isn't too long, and writes nothing
pub restart_fits : (e : RunFault) → IsOfRestart e → e ≡ RunFault.Long → ⊥
restart_fits e r p = subst IsOfRestart p r

pub restart_writes : (e : RunFault) → IsOfRestart e → e ≡ RunFault.WriteFault → ⊥
restart_writes e r p = subst IsOfRestart p r

-- acts that aren't shown then weren't before, where they are among these
pub untold_before : (acts more : List Act) (olds mids : List Kept) → AreSame olds mids → StayOwned olds mids → ((b : Bool) → All (Shows b) acts → All (Shows b) more) → AreUntold more mids → AreUntold acts olds
untold_before acts more olds mids same owned among h t o routes r b w shows = h t (still_of t olds mids same o) routes r b (still_seen t olds mids owned o routes r b w) (among b shows)

-- seen from where the counts were the same
pub cause_before : (acts more : List Act) (olds mids news : List Kept) (b c d : ShelfCounts) (e : RunFault) → AreSame olds mids → StayOwned olds mids → ((z : Bool) → All (Shows z) acts → All (Shows z) more) → c.faults ≡ b.faults → c.stops ≡ b.stops
    → HasRunCause more mids news c d e → HasRunCause acts olds news b d e
cause_before acts more olds mids news b c d RunFault.Long same owned among p q h = tt
cause_before acts more olds mids news b c d RunFault.WriteFault same owned among p q h = tt
cause_before acts more olds mids news b c d (RunFault.DiskFault a) same owned among p q (inl h) = inl h
cause_before acts more olds mids news b c d (RunFault.DiskFault a) same owned among p q (inr h) = inr (among_same olds mids (same_agents olds mids same) a h.0, subst (λ (n : ℕ). HasCountRisen n d.faults) p h.1)
cause_before acts more olds mids news b c d (RunFault.NotAJournal a place) same owned among p q h = (
  among_same olds mids (same_agents olds mids same) a h.0,
  untold_before acts more olds mids same owned among h.1,
)
cause_before acts more olds mids news b c d RunFault.NoMemory same owned among p q h = tt

-- whichever the acts are: all of them show where journals tell what made their agents
all_shown : (acts : List Act) → All (Shows true) acts
all_shown [] = All-nil (Shows true)
all_shown (Act.Ask a ask ∷ rest) = All-cons (Shows true) (Act.Ask a ask) rest tt (all_shown rest)
all_shown (Act.Force a n ∷ rest) = All-cons (Shows true) (Act.Force a n) rest tt (all_shown rest)
all_shown (Act.Restart a ∷ rest) = All-cons (Shows true) (Act.Restart a) rest refl (all_shown rest)

pub run_settle : (acts : List Act) (olds news : List Kept) (c d : ShelfCounts) (e : RunFault) → HasRunCause acts olds news c d e → HasSettleCause acts olds news c d e
run_settle acts olds news c d RunFault.Long h = tt
run_settle acts olds news c d RunFault.WriteFault h = tt
run_settle acts olds news c d (RunFault.DiskFault a) h = h
run_settle acts olds news c d (RunFault.NotAJournal a place) h = (h.0, record { untold = λ t o routes r w. h.1 t o routes r true (λ e. w) (all_shown acts); restarted = λ none. h.1 })
run_settle acts olds news c d RunFault.NoMemory h = tt

-- a round that has failed for want of memory, or at a disk
pub met_settle : (acts : List Act) (olds news : List Kept) (c d : ShelfCounts) (e : RunFault) → HasMetCause news e → HasSettleCause acts olds news c d e
met_settle acts olds news c d RunFault.Long h = tt
met_settle acts olds news c d RunFault.WriteFault h = absurd h
met_settle acts olds news c d (RunFault.DiskFault a) h = inl h
met_settle acts olds news c d (RunFault.NotAJournal a place) h = absurd h
met_settle acts olds news c d RunFault.NoMemory h = tt

pub met_writes : (ks : List Kept) (e : RunFault) → HasMetCause ks e → e ≡ RunFault.WriteFault → ⊥
met_writes ks e h p = subst (HasMetCause ks) p h

-- those whose disks had stopped in a round don't go on
pub go_settle : (acts : List Act) (olds lefts news : List Kept) (c d : ShelfCounts) (e : RunFault) → AreSame olds lefts → AtOwned olds (λ homes. WereOwned homes lefts) → (NoneCounted olds news c d → ⊥) → HasGoOnCause lefts c d e
    → HasSettleCause acts olds news c d e
go_settle acts olds lefts news c d RunFault.Long same were stop h = tt
go_settle acts olds lefts news c d RunFault.WriteFault same were stop h = tt
go_settle acts olds lefts news c d (RunFault.DiskFault a) same were stop h = inr (among_same olds lefts (same_agents olds lefts same) a h.0, h.1)
go_settle acts olds lefts news c d (RunFault.NotAJournal a place) same were stop h = (
  among_same olds lefts (same_agents olds lefts same) a h.0,
  record { untold = λ t o routes r w. h.1 t (still_of t olds lefts same o) routes r (were t o routes r w); restarted = λ none. absurd (stop none) },
)
go_settle acts olds lefts news c d RunFault.NoMemory same were stop h = tt

-- a count of a shelf that rose, seen from where the counts were the same
risen_before : (b c d : ShelfCounts) → c.faults ≡ b.faults → HaveRisen c d → HaveRisen b d
risen_before b c d p h = subst (λ (n : ℕ). HasCountRisen n d.faults) p h

-- seen from before the rounds that were made
pub settle_before : (acts more : List Act) (olds mids news : List Kept) (b c d : ShelfCounts) (e : RunFault) → AreSame olds mids → StayOwned olds mids → ((z : Bool) → All (Shows z) acts → All (Shows z) more) → (NoneCounted olds news b d → NoneCounted mids news c d)
    → c.faults ≡ b.faults → c.stops ≡ b.stops → HasSettleCause more mids news c d e → HasSettleCause acts olds news b d e
settle_before acts more olds mids news b c d RunFault.Long same owned among later p q h = tt
settle_before acts more olds mids news b c d RunFault.WriteFault same owned among later p q h = tt
settle_before acts more olds mids news b c d (RunFault.DiskFault a) same owned among later p q (inl h) = inl h
settle_before acts more olds mids news b c d (RunFault.DiskFault a) same owned among later p q (inr h) = inr (among_same olds mids (same_agents olds mids same) a h.0, risen_before b c d p h.1)
settle_before acts more olds mids news b c d (RunFault.NotAJournal a place) same owned among later p q h = (
  among_same olds mids (same_agents olds mids same) a h.0,
  record {
    untold = λ t o routes r w. h.1.untold t (still_of t olds mids same o) routes r (owned t o routes r w);
    restarted = λ none. untold_before acts more olds mids same owned among (h.1.restarted (later none));
  },
)
settle_before acts more olds mids news b c d RunFault.NoMemory same owned among later p q h = tt

---- Shelves

-- its counts are the same
pub shelf_still : {T : Type 0} (b c : ShelfCounts) (r : Result T RunFault) → c.faults ≡ b.faults → c.stops ≡ b.stops → KeepsShelf b c r
shelf_still b c (Ok x) e f = record { faults = omega (arith, e); stops = omega (arith, f); quiet = e; calm = f }
shelf_still b c (Err x) e f = record { faults = omega (arith, e); stops = omega (arith, f); quiet = tt; calm = tt }

-- a call has failed, before which its counts were the same
pub shelf_failed : {S T : Type 0} (b c d : ShelfCounts) (r : Result S RunFault) (q : Result T RunFault) (y : RunFault) → q ≡ Err y → c.faults ≡ b.faults → c.stops ≡ b.stops → KeepsShelf c d r → KeepsShelf b d q
shelf_failed {S} {T} b c d r q y is e f k = subst (λ (z : Result T RunFault). KeepsShelf b d z) (sym is) (record { faults = let h = k.faults in omega (arith, e, h); stops = let h = k.stops in omega (arith, f, h); quiet = tt; calm = tt })

---- Names

pub listed_stays : (f g : List ℕ → Bool) → ((n : List ℕ) → f n ≡ true → g n ≡ true) → (ks : List Kept) → AreListed f ks → AreListed g ks
listed_stays f g stays [] l = tt
listed_stays f g stays (k ∷ ks) l = (stays (name_of k.network k.seat.number) l.0, listed_stays f g stays ks l.1)

pub listed_same : (f : List ℕ → Bool) (xs ys : List Kept) → AreSame xs ys → AreListed f xs → AreListed f ys
listed_same f [] [] s l = tt
listed_same f [] (y ∷ ys) s l = absurd s
listed_same f (x ∷ xs) [] s l = absurd s
listed_same f (x ∷ xs) (y ∷ ys) s l = (ap₂ (λ (t : Network) (n : ℕ). f (name_of t n)) s.0.network s.0.number ∙ l.0, listed_same f xs ys s.1 l.1)
