-- Laws of plays.
use Rattle.std.specs.Prelude.{ℕ, ◌≤◌, ◌≡◌, List, length}
use Rattle.nsi_primitive.specs.declared.entry.Event.{Event}
use Rattle.nsi_script.specs.declared.script.Group.{Group}
use Rattle.nsi_play.specs.Rounds.{Net, Homes}
use Rattle.nsi_play.specs.Play.{IsPlayFrom, PassesFrom, RestartNobody, untold_net}

-- a play that is over is the play for every greater number of rounds, so there is one
abbrev pub OnePlay : Type 0
OnePlay =
    (script : List Group) (homes : Homes) (net : Net) (es fs : List Event) (x y : Net)
    → IsPlayFrom script homes net es x → IsPlayFrom script homes net fs y → (es ≡ fs) × (x ≡ y)

-- a play that is over passes no limit that it keeps
abbrev pub NoLonger : Type 0
NoLonger =
    (script : List Group) (homes : Homes) (net : Net) (es : List Event) (last : Net) (limit : ℕ)
    → IsPlayFrom script homes net es last → length es ≤ limit → PassesFrom limit script homes net → ⊥

-- where nobody is restarted, it changes nothing of a play whether it is told which entries are synced
abbrev pub PlayNeedsNoPast : Type 0
PlayNeedsNoPast =
    (script : List Group) (homes : Homes) (net : Net) (events : List Event) (last : Net) → RestartNobody script → IsPlayFrom script homes (untold_net net) events last
    → (x : Net) × IsPlayFrom script homes net events x

-- nor of how many events it has
abbrev pub FrontNeedsNoPast : Type 0
FrontNeedsNoPast = (limit : ℕ) (script : List Group) (homes : Homes) (net : Net) → RestartNobody script → PassesFrom limit script homes (untold_net net) → PassesFrom limit script homes net
