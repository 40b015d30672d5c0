-- All that the ends of a link do, one call after another.
use Rattle.std.specs.Prelude.{Bool, true, false, List, [], ◌∷◌, ◌++◌, option_to_list}
use Rattle.nsi_primitive.specs.declared.message.Parcel.{Parcel}
use Rattle.agent_link.specs.Plans.{Plan}
use Rattle.agent_link.specs.Fates.{comes, passed}
use Rattle.agent_link.specs.Link.{is_full, next_of, taken}

-- all that was put, what was let through since the ends met, what is planned from here on, what is known, and what was given or let go of
pub record Line : Type 0 where
  pub put : List Parcel
  pub out : List Parcel
  pub plan : Plan
  pub known : List Parcel
  pub gone : List Parcel

-- a call at one of the ends, or a meeting
pub data Step : Type 0 where
  Push : Parcel → Step
  Take : Step
  Clear : Step
  Meet : Step

abbrev pub unused : Plan → Line
unused plan = record { put = []; out = []; plan = plan; known = []; gone = [] }

-- a parcel is put where the link isn't full
abbrev pub pushed_if : (is_full : Bool) → Parcel → Line → Line
pushed_if true p l = l
pushed_if false p l = record l { put = l.put ++ p ∷ []; out = l.out ++ comes p l.plan; plan = passed p l.plan }

-- the ends meet where all that was known is gone
abbrev pub met_if : (known : List Parcel) → Line → Line
met_if [] l = record l { known = l.out; out = [] }
met_if (p ∷ ps) l = l

abbrev pub after : Step → Line → Line
after (Push p) l = pushed_if (is_full p l.plan l.out) p l
after Take l = record l { known = taken l.known; gone = l.gone ++ option_to_list (next_of l.known) }
after Clear l = record l { known = []; gone = l.gone ++ l.known }
after Meet l = met_if l.known l

abbrev pub after_all : List Step → Line → Line
after_all [] l = l
after_all (x ∷ xs) l = after_all xs (after x l)
