-- Disks are fetched from a shelf, and given back to it.
use Rattle.std.proofs.Common.{ℕ, ◌≡◌, Bool, true, false, cond, List, [], ◌∷◌, ◌++◌, Option, Some, None, refl, sym, ap, ◌∙◌, subst}
use Rattle.std.specs.Prelude.{Ok, IfSome, is_some, bytes_eq}
use Rattle.std.proofs.lemmas.Slice.Eq.{bytes_eq-Decides}
use Rattle.nsi_disk.specs.Disk.{History, MayLeave, seen}
use Rattle.journal_entry.specs.Journal.{Kept as Journaled, MayLeaveSynced}
use Rattle.journal_entry.specs.Journals.{recovers}
use Rattle.journal_entry.specs.Payloads.{batch_of}
use Rattle.stp_topology.specs.declared.network.Network.{Network}
use Rattle.stp_topology.specs.Network.{name_of}
use Rattle.agent_node.specs.Kept.{Kept}
use Rattle.net_run.specs.Journals.{no_entries, AreEmpty, IsUnnamed, AreToReturn, IsRead, AreRead}

---- Fetched

-- seen from before the shelf was asked for other disks
pub empty_before : (t : Network) (a : ℕ) (k : Kept) (held now : List ℕ → Option (List ℕ)) → k.seat.number ≡ a → ((n : List ℕ) → now n ≡ held n) → IfSome (now (name_of t a)) (λ bytes. k.kept ≡ Some no_entries)
    → IfSome (held (name_of t k.seat.number)) (λ bytes. k.kept ≡ Some no_entries)
empty_before t a k held now e same p =
    subst (λ (n : ℕ). IfSome (held (name_of t n)) (λ bytes. k.kept ≡ Some no_entries)) (sym e) (subst (λ (o : Option (List ℕ)). IfSome o (λ bytes. k.kept ≡ Some no_entries)) (same (name_of t a)) p)

pub empty_more : (t : Network) (held : List ℕ → Option (List ℕ)) (ks : List Kept) (k : Kept) → AreEmpty t held ks → IfSome (held (name_of t k.seat.number)) (λ bytes. k.kept ≡ Some no_entries) → AreEmpty t held (ks ++ k ∷ [])
empty_more t held [] k e p = (p, tt)
empty_more t held (x ∷ xs) k e p = (e.0, empty_more t held xs k e.1 p)

---- Given back

-- as much is held under the names of none of these
abbrev pub AgreesOff : Network → List Kept → (now then_held : List ℕ → Option (List ℕ)) → Type 0
AgreesOff t ks now later = (n : List ℕ) → IsUnnamed t n ks → later n ≡ now n

-- as far as disks were given back, what the shelf holds in the end is read as their journals
abbrev pub Returns : Network → (all rest : List Kept) → (now : List ℕ → Option (List ℕ)) → Type 0
Returns t all rest now = AreToReturn t all → AreToReturn t rest × ((later : List ℕ → Option (List ℕ)) → AgreesOff t rest now later → AreRead t later rest → AreRead t later all)

pub returns_none : (t : Network) (all : List Kept) (now : List ℕ → Option (List ℕ)) → Returns t all all now
returns_none t all now = λ r. (r, λ later agrees read. read)

pub returns_all : (t : Network) (all : List Kept) (now : List ℕ → Option (List ℕ)) → Returns t all [] now → AreToReturn t all → AreRead t now all
returns_all t all now p r = (p r).1 now (λ n u. refl) tt

-- what a disk that was given back leaves on its shelf
abbrev pub GivesBack : List ℕ → Bool → Option History → (now later : List ℕ → Option (List ℕ)) → Type 0
GivesBack name stopped history now later =
    IfSome history (λ h. (c : List ℕ) × MayLeave h c × (stopped ≡ false → c ≡ seen h) × ((n : List ℕ) → later n ≡ cond (bytes_eq name n) (Some c) (now n)))

-- the file that a told disk leaves
pub record IsReturned (k : Kept) (name : List ℕ) (now later : List ℕ → Option (List ℕ)) : Type 0 where
  pub file : List ℕ
  pub reads : IfSome k.kept (λ j. recovers batch_of file ≡ Ok j.synced)
  pub held : (n : List ℕ) → later n ≡ cond (bytes_eq name n) (Some file) (now n)

pub is_returned : (k : Kept) (name : List ℕ) (stopped : Bool) (history : Option History) (now later : List ℕ → Option (List ℕ)) → is_some k.kept ≡ true → is_some k.kept ≡ is_some history → MayLeaveSynced (recovers batch_of) k.kept history → GivesBack name stopped history now later
    → IsReturned k name now later
is_returned k name stopped None now later told tells left back = absurd (let e : false ≡ true = sym tells ∙ told in cc)
is_returned k name stopped (Some h) now later told tells left back = record {
  file = back.0;
  reads = read k.kept left;
  held = back.3;
}
  where
    read : (j : Option Journaled) → MayLeaveSynced (recovers batch_of) j (Some h) → IfSome j (λ i. recovers batch_of back.0 ≡ Ok i.synced)
    read None p = tt
    read (Some i) p = p back.0 back.1

same_name : (n : List ℕ) → bytes_eq n n ≡ true
same_name n = (bytes_eq-Decides n n).1 refl

is_read : (t : Network) (k : Kept) (name : List ℕ) (now mid later : List ℕ → Option (List ℕ)) → name_of t k.seat.number ≡ name → IsReturned k name now mid → later name ≡ mid name → IsRead t later k
is_read t k name now mid later e r same = by_kept k.kept r.reads
  where
    by_kept : (j : Option Journaled) → IfSome j (λ i. recovers batch_of r.file ≡ Ok i.synced) → IfSome j (λ i. (file : List ℕ) × (later (name_of t k.seat.number) ≡ Some file) × (recovers batch_of file ≡ Ok i.synced))
    by_kept None p = tt
    by_kept (Some i) p = (r.file, ap later e ∙ (same ∙ (r.held name ∙ ap (λ (b : Bool). cond b (Some r.file) (now name)) (same_name name))), p)

-- one more is given back
pub returns_more : (t : Network) (all : List Kept) (k : Kept) (rest : List Kept) (now mid : List ℕ → Option (List ℕ)) → Returns t all (k ∷ rest) now
    → (k.fault ≡ None → is_some k.kept ≡ true → IsReturned k (name_of t k.seat.number) now mid) → Returns t all rest mid
returns_more t all k rest now mid p one = λ r.
    let q = p r in
    let name : List ℕ = name_of t k.seat.number in
    let own : IsReturned k name now mid = one q.0.usable.0 q.0.tell.0 in (
      record { usable = q.0.usable.1; tell = q.0.tell.1; apart = q.0.apart.1 },
      λ later agrees read.
          q.1 later
          (λ n u. agrees n u.1 ∙ (own.held n ∙ ap (λ (b : Bool). cond b (Some own.file) (now n)) u.0))
          (is_read t k name now mid later refl own (agrees name q.0.apart.0), read),
    )
