-- Each record of an agent that is asked is in order, whatever entries the agent takes.
use Rattle.std.proofs.Common.{ℕ, ◌≡◌, false, List, []}
use Rattle.nsi_primitive.specs.declared.entry.Entry.{Entry}
use Rattle.connection_record.specs.declared.record.Record.{Record}
use Rattle.connection_record.specs.Applied.{requested}
use Rattle.connection_record.specs.Order.{IsInOrder}
use Rattle.connection_record.proofs.Courses.{course_after}
use Rattle.connection_record.proofs.InOrder.{fresh_in_order, moves_if_in_order}
use Rattle.agent_state.specs.State.{record_at}
use Rattle.nsi_agent.specs.Homes.{Home}
use Rattle.nsi_agent.specs.Told.{told}
use Rattle.nsi_world.specs.Runs.{is_requester}
use Rattle.circuit_laws.proofs.Kept.{IsKept, told_kept}

abbrev pub Orderly : List Entry → Record → Type 0
Orderly es r = IsInOrder r

order_kept : IsKept Orderly
order_kept =
    record {
      more = λ es fs r h. h;
      course = λ es r q out course h. (course_after r q out course).order h;
      taken = λ es e m side now r got owner h. moves_if_in_order side (requested now m.body m.header.correlation r) now r h;
      fresh = λ es id owner s source dest. fresh_in_order id owner s source dest;
      none = fresh_in_order 0 [] _ 0 0;
    }

pub told_order : (h : Home) → is_requester h.role ≡ false → (es : List Entry) (n : ℕ) → IsInOrder (record_at n (told h es).state.base.records)
told_order h asked es n = told_kept Orderly order_kept h asked es n
