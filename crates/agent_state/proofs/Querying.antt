-- What is said to a query: an error's name, or rows.
use Rattle.std.proofs.Common.{◌≡◌, ℕ, Bool, true, false, List, Option, Some, None, refl, bytes_eq, arith}
use Rattle.nsi_primitive.specs.Messages.{connection_of, has_rows, is_request}
use Rattle.nsi_primitive.specs.Printable.{has_further_keys}
use Rattle.nsi_primitive.specs.declared.kind.ErrorName.{ErrorName}
use Rattle.nsi_primitive.specs.declared.message.Body.{Body}
use Rattle.nsi_primitive.specs.declared.message.Message.{Message}
use Rattle.connection_record.specs.Replies.{plain}
use Rattle.agent_state.specs.Entries.{reply_by, query_reply}

-- what holds of an error's body and of the answer holds of what is said
pub replied_by : (P : Body → Type 0) (agent : List ℕ) (m : Message) (o : Option Body) → ((error : ErrorName) → has_further_keys error ≡ false → P (Body.Error (connection_of m.body) (plain agent error)))
    → ((body : Body) → o ≡ Some body → P body) → P (query_reply agent m o).body
replied_by P agent m o errors answers = by (bytes_eq m.header.provider agent) o refl
  where
    by : (b : Bool) (x : Option Body) → o ≡ x → P (reply_by b x agent m).body
    by true (Some body) e = answers body e
    by true None e = errors ErrorName.Nonexistent refl
    by false x e = errors ErrorName.WrongProvider refl

pub reply_header : (agent : List ℕ) (m : Message) (o : Option Body) → (query_reply agent m o).header ≡ m.header
reply_header agent m o = by (bytes_eq m.header.provider agent) o
  where
    by : (b : Bool) (x : Option Body) → (reply_by b x agent m).header ≡ m.header
    by true (Some body) = refl
    by true None = refl
    by false x = refl

pub rows_ask_nothing : (body : Body) → has_rows body ≡ true → is_request body ≡ false
rows_ask_nothing body e = grind arith
