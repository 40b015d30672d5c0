-- The first confirmation of a commit that a requester gets, the view that awaits it, and what that view has as committed then.
use Rattle.std.specs.Prelude.{◌≡◌, ◌≢◌, ℕ, Some, slice_get}
use Rattle.nsi_primitive.specs.declared.message.Body.{Body}
use Rattle.nsi_primitive.specs.declared.message.Message.{Message}
use Rattle.stp_topology.specs.declared.network.Network.{Network}
use Rattle.agent_state.specs.declared.parent.View.{View}
use Rattle.requester_agent.specs.Setting.{Setting as RequesterSetting}
use Rattle.nsi_agent.specs.Homes.{requests}
use Rattle.nsi_agent.specs.Told.{WasGot}
use Rattle.nsi_world.specs.Worlds.{Homes, World}
use Rattle.nsi_world.specs.Runs.{IsAllowed, happens}
use Rattle.run_text.specs.Committed.{AwaitsCommit, Commits, gets, state_in}

-- a requester may get the confirmation of a commit now, and hadn't got it before
pub record IsFirstConfirmation (homes : Homes) (w : World) (a second : ℕ) (m : Message) : Type 0 where
  pub setting : RequesterSetting
  pub role : (homes a).role ≡ requests setting
  pub may : IsAllowed homes w (gets a second m)
  pub id : ℕ
  pub body : m.body ≡ Body.ReserveCommitConfirmed id
  pub first : WasGot m (w.journal a) → ⊥

-- just one of its views awaits it, and holds a version
pub record IsAwaited (homes : Homes) (w : World) (a : ℕ) (m : Message) : Type 0 where
  pub place : ℕ
  pub view : View
  pub version : ℕ
  pub there : slice_get (state_in homes w a).views place ≡ Some view
  pub awaits : AwaitsCommit m.header view.child version
  pub alone : (k n : ℕ) (v : View) → slice_get (state_in homes w a).views k ≡ Some v → AwaitsCommit m.header v.child n → k ≡ place

-- and once it is got, that view has the version as committed, behind those that it had, and each other view has what it had
pub record IsKnown (homes : Homes) (w : World) (a second : ℕ) (m : Message) : Type 0 where
  pub place : ℕ
  pub earlier : View
  pub later : View
  pub version : ℕ
  pub was : slice_get (state_in homes w a).views place ≡ Some earlier
  pub is : slice_get (state_in homes (happens w (gets a second m)) a).views place ≡ Some later
  pub label : later.label ≡ earlier.label
  pub awaits : AwaitsCommit m.header earlier.child version
  pub commits : Commits earlier.child later.child version
  pub others : (k : ℕ) (x y : View) → k ≢ place → slice_get (state_in homes w a).views k ≡ Some x →
      slice_get (state_in homes (happens w (gets a second m)) a).views k ≡ Some y → y.child.committed ≡ x.child.committed

abbrev pub EachConfirmationIsAwaited : Network → Homes → World → Type 0
EachConfirmationIsAwaited t homes w = (a second : ℕ) (m : Message) → IsFirstConfirmation homes w a second m → IsAwaited homes w a m

abbrev pub EachConfirmationIsKnown : Network → Homes → World → Type 0
EachConfirmationIsKnown t homes w = (a second : ℕ) (m : Message) → IsFirstConfirmation homes w a second m → IsKnown homes w a second m
