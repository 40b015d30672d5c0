-- An agent's ends of the links to others.
use Rattle.std.specs.Prelude.{ℕ, ◌==◌, List, [], ◌∷◌, ◌++◌, if◌then◌else◌}
use Rattle.nsi_primitive.specs.declared.message.Parcel.{Parcel}
use Rattle.agent_link.specs.Plans.{Plan}

-- the ends of both ways between an agent and another one: what is still to be pushed, what was let through since the two
-- met, what is planned for what is pushed from here on, and what came and isn't taken
pub record Door : Type 0 where
  pub other : ℕ
  pub queue : List Parcel
  pub out : List Parcel
  pub plan : Plan
  pub inc : List Parcel

-- the first door to an agent is changed
unfoldable pub change_first : ℕ → (Door → Door) → List Door → List Door
change_first to f [] = []
change_first to f (d ∷ ds) = if d.other == to then f d ∷ ds else d ∷ change_first to f ds

---- What is to be pushed

abbrev pub with_parcel : Parcel → Door → Door
with_parcel p d = record d { queue = d.queue ++ p ∷ [] }

-- something more to push to an agent
abbrev pub queue_at : ℕ → Parcel → List Door → List Door
queue_at to p ds = change_first to (with_parcel p) ds
