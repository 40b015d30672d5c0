-- How many rounds are enough for agents to come to rest, or for more than so much to happen.
use Rattle.std.specs.Prelude.{ℕ, zero, suc, ◌+◌, if◌then◌else◌}
use Rattle.nsi_play.specs.Play.{Played, settles}
use Rattle.nsi_play.specs.Rounds.{Net, Homes}
use Rattle.quiet_rounds.specs.Left.{left}

-- none more where it is over
abbrev pub more_where : Played → (Net → ℕ) → ℕ
more_where p rest = if p.is_over then 0 else rest p.net

-- one round more than is left, and from there again so, where something has happened and more may happen
unfoldable pub enough : (limit : ℕ) → Homes → Net → ℕ
enough zero homes net = left net + 1
enough (suc limit) homes net = left net + 1 + more_where (settles (left net + 1) homes net) (enough limit homes)
