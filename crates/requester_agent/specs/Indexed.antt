-- By what the views of a requester are found.
use Rattle.std.specs.Prelude.{◌≡◌, ◌⊎◌, ℕ, Bool, true, ◌||◌, List, Some, map, slice_get, Contains}
use Rattle.nsi_primitive.specs.Messages.{named_connection}
use Rattle.nsi_primitive.specs.declared.message.Message.{Message}
use Rattle.child_connection.specs.Views.{ChildConnection, is_id, is_open}
use Rattle.agent_state.specs.declared.parent.View.{View}
use Rattle.id_index.specs.declared.IdPlace.{IdPlace}

-- whether it is a correlation under which the view may be told something, or its connection
abbrev pub listens : ℕ → ChildConnection → Bool
listens id x = is_id x.attempt id || (is_id x.connection id || (is_open x.reserve_request id || (is_open x.provision_request id || is_open x.lifecycle_request id)))

-- a message reaches those that listen to its correlation or to its connection
abbrev pub IsReachedBy : Message → ℕ → Type 0
IsReachedBy m id = (id ≡ m.header.correlation) ⊎ (named_connection m.body ≡ Some id)

-- what a view listens to is named with the place of the view
abbrev pub AreNamed : List View → List IdPlace → Type 0
AreNamed vs ids = (place id : ℕ) (v : View) → slice_get vs place ≡ Some v → listens id v.child ≡ true → Contains ids (record { id = id; place = place })

-- the labels are those of the views, and no id of a view is wanting
pub record IsIndexed (vs : List View) (labels : List (List ℕ)) (ids : List IdPlace) : Type 0 where
  pub by_label : labels ≡ map (λ (v : View). v.label) vs
  pub by_id : AreNamed vs ids
