-- Agents of a net and what a shelf holds of their journals.
use Rattle.std.specs.Prelude.{ℕ, ◌≡◌, true, false, List, [], ◌∷◌, Option, Some, Ok, IfSome, is_some, bytes_eq}
use Rattle.journal_entry.specs.Journal.{Kept as Journaled}
use Rattle.journal_entry.specs.Journals.{recovers}
use Rattle.journal_entry.specs.Payloads.{batch_of}
use Rattle.stp_topology.specs.declared.network.Network.{Network}
use Rattle.stp_topology.specs.Network.{name_of}
use Rattle.agent_node.specs.Kept.{Kept}
use Rattle.agent_threads.specs.Nets.{AreUsable}

---- Agents and their disks

-- a journal without entries
abbrev pub no_entries : Journaled
no_entries = record { synced = []; waiting = [] }

-- where the shelf told what it held under their names, their journals have no entries
abbrev pub AreEmpty : Network → (List ℕ → Option (List ℕ)) → List Kept → Type 0
AreEmpty t held [] = Unit {0}
AreEmpty t held (k ∷ ks) = IfSome (held (name_of t k.seat.number)) (λ bytes. k.kept ≡ Some no_entries) × AreEmpty t held ks

-- it is told what their journals keep
abbrev pub AllTell : List Kept → Type 0
AllTell [] = Unit {0}
AllTell (k ∷ ks) = (is_some k.kept ≡ true) × AllTell ks

-- none of them has this name
abbrev pub IsUnnamed : Network → List ℕ → List Kept → Type 0
IsUnnamed t name [] = Unit {0}
IsUnnamed t name (k ∷ ks) = (bytes_eq (name_of t k.seat.number) name ≡ false) × IsUnnamed t name ks

-- each has a name of its own
abbrev pub AreNamedApart : Network → List Kept → Type 0
AreNamedApart t [] = Unit {0}
AreNamedApart t (k ∷ ks) = IsUnnamed t (name_of t k.seat.number) ks × AreNamedApart t ks

-- none of their calls has failed, it is told what their journals keep, and each has a name of its own
pub record AreToReturn (t : Network) (ks : List Kept) : Type 0 where
  pub usable : AreUsable ks
  pub tell : AllTell ks
  pub apart : AreNamedApart t ks

-- what is held under its name reads as what its journal keeps
abbrev pub IsRead : Network → (List ℕ → Option (List ℕ)) → Kept → Type 0
IsRead t holds k = IfSome k.kept (λ j. (file : List ℕ) × (holds (name_of t k.seat.number) ≡ Some file) × (recovers batch_of file ≡ Ok j.synced))

-- the same of each
abbrev pub AreRead : Network → (List ℕ → Option (List ℕ)) → List Kept → Type 0
AreRead t holds [] = Unit {0}
AreRead t holds (k ∷ ks) = IsRead t holds k × AreRead t holds ks
