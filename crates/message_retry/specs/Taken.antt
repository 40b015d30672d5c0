-- Which requests were taken.
use Rattle.std.specs.Prelude.{List, [], ◌∷◌, ◌++◌, Bool, ◌&&◌, ◌==◌, if◌then◌else◌}
use Rattle.std.specs.List.{list_any}
use Rattle.std.specs.Str.{bytes_eq}
use Rattle.nsi_primitive.specs.declared.message.Header.{Header}

-- a request, by the agents and the correlationId; its kind doesn't count
abbrev pub is_same_request : Header → Header → Bool
is_same_request a b = bytes_eq a.requester b.requester && (bytes_eq a.provider b.provider && (a.correlation == b.correlation))

-- whether a request of that requester, provider and correlationId is among them
unfoldable pub is_taken : Header → List Header → Bool
is_taken h taken = list_any (is_same_request h) taken

-- the requests with one more, where it wasn't among them
unfoldable pub with_taken : Header → List Header → List Header
with_taken h taken = if is_taken h taken then taken else taken ++ h ∷ []
