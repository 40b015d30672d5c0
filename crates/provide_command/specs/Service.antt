-- What is true of a service.
use Rattle.std.specs.Prelude.{◌≤◌}
use Rattle.provide_command.specs.Serving.{Serving}

-- each event beside the provider's entries counts, and there are no more than there may be
abbrev pub IsServing : Serving → Type 0
IsServing s = s.others ≤ s.most
