-- What a table of requests stands for, where agents are places of names.
use Rattle.std.specs.Prelude.{◌≡◌, ℕ, List, Option, Some, map}
use Rattle.std.specs.Option.{option_map, option_and_then}
use Rattle.nsi_primitive.specs.declared.message.Header.{Header}
use Rattle.message_retry.specs.Names.{place_of, name_at}
use Rattle.message_retry.specs.declared.exchange.Exchange.{Exchange}

-- the exchange of a request, where both agents have a place
abbrev pub exchange_of : List (List ℕ) → Header → Option Exchange
exchange_of names h = option_and_then (λ requester. option_map (λ provider. record { requester = requester; provider = provider; correlation = h.correlation }) (place_of names h.provider)) (place_of names h.requester)

abbrev pub header_of : List (List ℕ) → Exchange → Header
header_of names e = record { correlation = e.correlation; requester = name_at names e.requester; provider = name_at names e.provider }

abbrev pub headers : List (List ℕ) → List Exchange → List Header
headers names es = map (header_of names) es

-- it is the exchange of the request that it stands for
abbrev pub IsPlaced : List (List ℕ) → Exchange → Type 0
IsPlaced names e = exchange_of names (header_of names e) ≡ Some e
