-- What becomes of parcels that are put on a link.
use Rattle.std.specs.Prelude.{◌-◌, ◌==◌, ◌&&◌, Bool, List, [], ◌∷◌, ◌++◌, map, if◌then◌else◌, Option, Some, None}
use Rattle.std.specs.List.{find}
use Rattle.nsi_primitive.specs.Messages.{kind_of}
use Rattle.nsi_primitive.specs.declared.message.Parcel.{Parcel}
use Rattle.agent_link.specs.declared.plan.How.{How}
use Rattle.agent_link.specs.declared.plan.LinkFault.{LinkFault}
use Rattle.agent_link.specs.declared.plan.ParcelKind.{ParcelKind}
use Rattle.agent_link.specs.declared.plan.Pushed.{Pushed}
use Rattle.agent_link.specs.Plans.{parcel_number, Plan}

abbrev pub parcel_kind : Parcel → ParcelKind
parcel_kind (Parcel.Message m) = ParcelKind.Message (kind_of m.body)
parcel_kind (Parcel.Ack i) = ParcelKind.Ack

abbrev pub is_of_kind : Parcel → LinkFault → Bool
is_of_kind p f = parcel_number (parcel_kind p) == parcel_number f.of

-- it is of the next parcel of that kind
abbrev pub is_due : Parcel → LinkFault → Bool
is_due p f = is_of_kind p f && (f.nth == 1)

abbrev pub made_how : How → Pushed
made_how How.Lose = Pushed.Lost
made_how How.Repeat = Pushed.Twice

abbrev pub made_by : Option LinkFault → Pushed
made_by None = Pushed.Once
made_by (Some f) = made_how f.how

-- what becomes of a parcel that is put on the link now
abbrev pub fate_of : Parcel → Plan → Pushed
fate_of p plan = made_by (find (is_due p) plan)

-- the next one of that kind is one nearer
abbrev pub nearer : Parcel → LinkFault → LinkFault
nearer p f = if is_of_kind p f then record f { nth = f.nth - 1 } else f

-- the plan behind it
abbrev pub passed : Parcel → Plan → Plan
passed p plan = map (nearer p) plan

-- what comes of a parcel
abbrev pub copies : Pushed → Parcel → List Parcel
copies Pushed.Once p = p ∷ []
copies Pushed.Lost p = []
copies Pushed.Twice p = p ∷ p ∷ []

-- what comes of a parcel that is put on the link now
abbrev pub comes : Parcel → Plan → List Parcel
comes p plan = copies (fate_of p plan) p

-- what comes of parcels that are put on the link one after another
unfoldable pub let_through : Plan → List Parcel → List Parcel
let_through plan [] = []
let_through plan (p ∷ ps) = comes p plan ++ let_through (passed p plan) ps

-- the plan behind them
unfoldable pub passed_all : Plan → List Parcel → Plan
passed_all plan [] = plan
passed_all plan (p ∷ ps) = passed_all (passed p plan) ps
