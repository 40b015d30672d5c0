-- An agent's links as doors and wires.
use Rattle.std.specs.Prelude.{◌≡◌, List, map}
use Rattle.agent_node.specs.declared.links.Link.{Link}
use Rattle.nsi_primitive.specs.declared.message.Parcel.{Parcel}
use Rattle.agent_link.specs.Link.{OutHalf}
use Rattle.agent_node.specs.Doors.{Door}
use Rattle.agent_node.specs.Passing.{Passing, Plug, others}

abbrev pub door_of : Link → Door
door_of l = record { other = l.other; queue = l.queue; out = l.out.parcels; plan = l.out.plan; inc = l.inc.parcels }

-- how far a queue is pushed
abbrev pub passing : List Parcel → OutHalf → Passing
passing queue out = record { queue = queue; out = out.parcels; plan = out.plan }

abbrev pub plug_of : Link → Plug
plug_of l = record { other = l.other; out = l.out.wire; inc = l.inc.wire }

abbrev pub doors : List Link → List Door
doors ls = map door_of ls

abbrev pub plugs : List Link → List Plug
plugs ls = map plug_of ls

-- all links
pub record Linked : Type 0 where
  pub doors : List Door
  pub plugs : List Plug

-- to the same others, by the same wires
pub record HasSameLinks (old new : Linked) : Type 0 where
  pub plugs : new.plugs ≡ old.plugs
  pub others : others new.doors ≡ others old.doors
