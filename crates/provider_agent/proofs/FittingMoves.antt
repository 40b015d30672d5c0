-- The moves of requests and of work: what is asked is above what is committed, and only work that finds no lack makes a fit.
use Rattle.std.proofs.Common.{◌≡◌, ℕ, List, Option, Some, None, IfSome, arith}
use Rattle.std.proofs.lemmas.Bool.Decides.{nat_tests}
use Rattle.nsi_primitive.specs.declared.state.Machine.{Machine}
use Rattle.nsi_primitive.specs.declared.message.Body.{Body}
use Rattle.nsi_primitive.specs.declared.message.Cause.{Cause}
use Rattle.connection_record.specs.declared.record.Record.{Record}
use Rattle.connection_record.specs.Demand.{last}
use Rattle.connection_record.specs.Moves.{worked}
use Rattle.connection_record.specs.Refusal.{modification_refusal}
use Rattle.connection_record.specs.Applied.{requested, provided, work_of}
use Rattle.provider_agent.proofs.GoodMoves.{IsFitting}
use Rattle.provider_agent.proofs.Demands.{IsNoFit}

-- a request that isn't refused for its version asks for one above the last
pub requested_fitting : (now : ℕ) (body : Body) (c : ℕ) (r : Record) → modification_refusal now body r ≡ None → IfSome (requested now body c r) (λ m. IsFitting m r)
unfolding requested modification_refusal
requested_fitting now body c r h = grind (arith, nat_tests)

-- and so does a first one
pub first_fitting : (now : ℕ) (body : Body) (c : ℕ) (r : Record) → last r.committed ≡ None → IfSome (requested now body c r) (λ m. IsFitting m r)
unfolding requested
first_fitting now body c r h = grind arith

pub requested_no_fit : (now : ℕ) (body : Body) (c : ℕ) (r : Record) → IfSome (requested now body c r) IsNoFit
unfolding requested
requested_no_fit now body c r = grind arith

pub worked_fitting : (machine : Machine) (lack : Option Cause) (agent : List ℕ) (deadline : ℕ) (r : Record) → IfSome (work_of machine r lack agent deadline) (λ m. IsFitting m r)
unfolding work_of worked provided
worked_fitting machine lack agent deadline r = grind arith

-- work that isn't on a reserve that fits
pub lack_no_fit : (machine : Machine) (r : Record) (cause : Cause) (agent : List ℕ) (deadline : ℕ) → IfSome (work_of machine r (Some cause) agent deadline) IsNoFit
unfolding work_of worked provided
lack_no_fit machine r cause agent deadline = grind arith

pub provision_no_fit : (r : Record) (lack : Option Cause) (agent : List ℕ) (deadline : ℕ) → IfSome (work_of Machine.Provision r lack agent deadline) IsNoFit
unfolding work_of provided
provision_no_fit r lack agent deadline = grind arith

pub close_no_fit : (r : Record) (lack : Option Cause) (agent : List ℕ) (deadline : ℕ) → IfSome (work_of Machine.Lifecycle r lack agent deadline) IsNoFit
unfolding work_of
close_no_fit r lack agent deadline = tt
