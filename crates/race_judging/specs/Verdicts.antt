-- What the comparison of lists comes to.
use Rattle.std.specs.Prelude.{◌≡◌, ◌⊎◌, ℕ, List, [], ◌∷◌, ◌++◌, map, Option, Some, None}
use Rattle.std.specs.List.{All}
use Rattle.nsi_primitive.specs.declared.entry.Event.{Event}
use Rattle.stp_topology.specs.declared.network.Network.{Network}
use Rattle.provider_agent.specs.State.{blank}
use Rattle.race_run.specs.declared.item.Item.{Item}
use Rattle.race_run.specs.declared.item.Difference.{Difference}
use Rattle.race_run.specs.declared.replayed.Lists.{Lists}
use Rattle.race_run.specs.Compared.{IsFirst, IsOfNetwork}
use Rattle.race_run.specs.Found.{state_gone}
use Rattle.race_run.specs.Replay.{items_at}
use Rattle.race_judging.specs.declared.judging.Own.{Own}
use Rattle.race_judging.specs.declared.judging.Verdict.{Verdict}
use Rattle.race_judging.specs.Pairs.{Pair, pair, AreSame, pairs_of, committed_of}

-- the first difference is of the first pair that isn't the same
abbrev pub IsFirstOf : List Pair → Difference → Type 0
IsFirstOf [] d = ⊥
IsFirstOf (x ∷ xs) d = IsFirst x.kept x.found d ⊎ (AreSame x × IsFirstOf xs d)

-- all is the same, and so many records have something committed
pub record IsSame (t : Network) (p : ℕ) (start : Option ℕ) (events : List Event) (owns : List Own) (n : ℕ) : Type 0 where
  pub same : All AreSame (pairs_of t p start events owns)
  pub committed : n ≡ committed_of (state_gone t p blank events).records

-- the first difference, whose events can be told
pub record IsDifferent (t : Network) (p : ℕ) (start : Option ℕ) (events : List Event) (owns : List Own) (d : Difference) : Type 0 where
  pub first : IsFirstOf (pairs_of t p start events owns) d
  pub told : IsOfNetwork t d

abbrev pub IsJudged : Network → ℕ → Option ℕ → List Event → List Own → Verdict → Type 0
IsJudged t p start events owns (Verdict.Same n) = IsSame t p start events owns n
IsJudged t p start events owns (Verdict.Differs d) = IsDifferent t p start events owns d

---- Steps of the comparison

abbrev pub IsVerdict : List Pair → Option Difference → Type 0
IsVerdict pairs None = All AreSame pairs
IsVerdict pairs (Some d) = IsFirstOf pairs d

abbrev pub IsOfTold : Option Difference → ℕ → Verdict → Type 0
IsOfTold None n v = v ≡ Verdict.Same n
IsOfTold (Some d) n v = v ≡ Verdict.Differs d

abbrev pub found_pair : List (List Item) → Own → Pair
found_pair found o = pair o.items (items_at found o.agent)

abbrev pub pairs_in : List Item → Lists → List Own → List Item → List Pair
pairs_in ticks lists owns waits = pair ticks lists.ticks ∷ (map (found_pair lists.found.items) owns ++ pair [] lists.strays ∷ pair [] waits ∷ [])

-- of each of the lists that are compared it holds
pub record OfEach (P : List Item → Type 0) (ticks : List Item) (lists : Lists) (owns : List Own) (waits : List Item) : Type 0 where
  pub first : P ticks
  pub found_ticks : P lists.ticks
  pub kept : All (λ o. P o.items) owns
  pub found : All P lists.found.items
  pub nobodys : P lists.strays
  pub waiting : P waits
