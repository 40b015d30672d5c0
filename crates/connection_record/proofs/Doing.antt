-- What an agent does to a record by itself: its work, a forced end, the end of a connection, a tick, and what is told of the data plane.
use Rattle.std.proofs.Common.{ℕ, ◌+◌, Bool, List, Option, None}
use Rattle.nsi_primitive.specs.declared.message.Cause.{Cause}
use Rattle.nsi_primitive.specs.declared.plane.Plane.{Plane}
use Rattle.nsi_primitive.specs.declared.state.Machine.{Machine}
use Rattle.nsi_primitive.specs.declared.state.Side.{Side}
use Rattle.connection_record.specs.declared.record.Record.{Record}
use Rattle.connection_record.specs.declared.life.LifecycleMove.{LifecycleMove}
use Rattle.connection_record.specs.declared.moves.Origin.{Origin}
use Rattle.connection_record.specs.declared.moves.ReservationMove.{ReservationMove}
use Rattle.connection_record.specs.declared.provisioning.ProvisionMove.{ProvisionMove}
use Rattle.connection_record.specs.declared.apply.Move.{Move}
use Rattle.connection_record.specs.Courses.{IsOwn, IsOwnProvision, IsAct}
use Rattle.connection_record.specs.Lives.{provisions_if}
use Rattle.connection_record.specs.Moves.{reserves_if}
use Rattle.connection_record.specs.Replies.{Moved}
use Rattle.connection_record.specs.Speaking.{drawn_of, no_ids, drawn_if}
use Rattle.connection_record.specs.Applied.{closes, moves, moves_if, work_of, ticks, is_told, tells}
use Rattle.connection_record.proofs.Acts.{reserves_acts, provisions_besides, besides_acts, closes_acts, works_act, force_acts, ticks_act, tells_act}
use Rattle.connection_record.proofs.Growing.{reserves_if_later, provisions_if_later, closes_later, moves_later, moves_if_later, ticks_later, tells_later}
use Rattle.connection_record.proofs.InOrder.{reserves_if_in_order, provisions_if_in_order, closes_in_order, moves_in_order, moves_if_in_order, ticks_in_order, tells_in_order}
use Rattle.connection_record.proofs.Naming.{reserves_if_names, provisions_if_names, closes_names, moves_names, moves_if_names, ticks_names, tells_names}
use Rattle.connection_record.proofs.Saying.{reserves_if_speaks, provisions_if_speaks, closes_speaks, moves_speaks, works_speaks, ticks_speaks, tells_speaks}

pub reservation_is_act : (o : Option ReservationMove) (now : ℕ) (r : Record) → IsOwn o → IsAct r (reserves_if o now r)
reservation_is_act o now r h =
    record {
      drawn = no_ids;
      acts = reserves_acts o now r h;
      speaks = reserves_if_speaks o now r h;
      names = reserves_if_names o now r;
      later = reserves_if_later o now r;
      order = λ g. reserves_if_in_order o now r g;
    }

pub provision_is_act : (side : Side) (o : Option ProvisionMove) (now : ℕ) (r : Record) → IsOwnProvision o → IsAct r (provisions_if side o now r)
provision_is_act side o now r h =
    record {
      drawn = no_ids;
      acts = besides_acts r (provisions_if side o now r) (provisions_besides side o now r h);
      speaks = provisions_if_speaks side o now r h;
      names = provisions_if_names side o now r;
      later = provisions_if_later side o now r;
      order = λ g. provisions_if_in_order side o now r g;
    }

pub close_is_act : (agent : List ℕ) (side : Side) (now : ℕ) (r : Record) → IsAct r (closes agent side now r)
close_is_act agent side now r =
    record {
      drawn = no_ids;
      acts = closes_acts agent side now r;
      speaks = closes_speaks agent side now r;
      names = closes_names agent side now r;
      later = closes_later agent side now r;
      order = λ g. closes_in_order agent side now r g;
    }

pub work_is_act : (side : Side) (machine : Machine) (lack : Option Cause) (agent : List ℕ) (deadline now : ℕ) (r : Record) →
    IsAct r (moves_if side (work_of machine r lack agent deadline) now r)
work_is_act side machine lack agent deadline now r =
    record {
      drawn = no_ids;
      acts = works_act side machine lack agent deadline now r;
      speaks = works_speaks side machine lack agent deadline now r;
      names = moves_if_names side (work_of machine r lack agent deadline) now r;
      later = moves_if_later side (work_of machine r lack agent deadline) now r;
      order = λ g. moves_if_in_order side (work_of machine r lack agent deadline) now r g;
    }

pub force_is_act : (side : Side) (d : ℕ) (origin : Origin) (now : ℕ) (r : Record) → IsAct r (moves side (Move.Lifecycle (LifecycleMove.Force d origin)) now r)
force_is_act side d origin now r =
    record {
      drawn = drawn_of (Move.Lifecycle (LifecycleMove.Force d origin));
      acts = force_acts side d origin now r;
      speaks = moves_speaks side (Move.Lifecycle (LifecycleMove.Force d origin)) now r;
      names = moves_names side (Move.Lifecycle (LifecycleMove.Force d origin)) now r;
      later = moves_later side (Move.Lifecycle (LifecycleMove.Force d origin)) now r;
      order = λ g. moves_in_order side (Move.Lifecycle (LifecycleMove.Force d origin)) now r g;
    }

pub tick_is_act : (live : Bool) (origin : Origin) (now : ℕ) (r : Record) → IsAct r (ticks live origin now r)
tick_is_act live origin now r =
    record {
      drawn = no_ids;
      acts = ticks_act live origin now r;
      speaks = ticks_speaks live origin now r;
      names = ticks_names live origin now r;
      later = ticks_later live origin now r;
      order = λ g. ticks_in_order live origin now r g;
    }

pub telling_is_act : (before : Plane) (d now : ℕ) (r : Record) (x : Moved) → IsAct r x → IsAct r (tells before d now x)
telling_is_act before d now r x a =
    record {
      drawn = λ c. a.drawn c + drawn_if (is_told before now x.rec) d c;
      acts = tells_act before d now r x a.acts;
      speaks = tells_speaks before None a.drawn d now r x a.speaks;
      names = tells_names before d now r x a.names;
      later = tells_later before d now r x a.later;
      order = λ g. tells_in_order before d now x (a.order g);
    }
