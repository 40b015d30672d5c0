-- What the two ends of a ring are to a contract.
use Rattle.std.specs.Prelude.{ℕ, ◌+◌, ◌-◌, length, map, drop, Box}
use Rattle.std.specs.declared.alloc.Global.{Global}
use Rattle.rtrb.specs.Ring.{sent, received, known_items}
use Rattle.rtrb.specs.declared.producer.Producer.{Producer}
use Rattle.rtrb.specs.declared.consumer.Consumer.{Consumer}
use Rattle.nsi_primitive.specs.declared.message.Parcel.{Parcel}
use Rattle.agent_link.specs.Plans.{Plan}
use Rattle.agent_link.specs.Link.{Half, OutHalf, unboxed}

-- so many places a ring has
abbrev pub slots : ℕ
slots = 2048

module _ {P : Type 0} where
  -- how many were let through when the ends last met, where so many were since
  abbrev pub before : Producer (Box Parcel Global) Global P → ℕ → ℕ
  before p count = length (sent p) - count

  abbrev pub out_half : Producer (Box Parcel Global) Global P → ℕ → Plan → OutHalf
  out_half p count plan =
      record {
        parcels = map unboxed (drop (before p count) (sent p));
        wire = record { words = p.end.words; slots = p.end.slots; names = p.end.names; heap = p.end.heap; met = before p count };
        plan = plan;
      }

  abbrev pub in_half : Consumer (Box Parcel Global) Global P → Half
  in_half c =
      record {
        parcels = map unboxed (known_items c);
        wire =
            record {
              words = c.end.words;
              slots = c.end.slots;
              names = c.end.names;
              heap = c.end.heap;
              met = length (received c) + length (known_items c);
            };
      }
