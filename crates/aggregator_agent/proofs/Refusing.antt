-- Why a request is refused, rule by rule, and what then is done.
use Rattle.std.proofs.Common.{◌≡◌, ◌<◌, ◌∙◌, ◌==◌, ◌&&◌, ◌+◌, ℕ, cond, Bool, true, false, not, List, [], ◌∷◌, length, slice_get, position, Option, Some, None, refl, ap, arith}
use Rattle.std.specs.List.{prefix_len}
use Rattle.std.proofs.lemmas.List.{length-map, get_or-map}
use Rattle.std.specs.Str.{bytes_eq}
use Rattle.std.proofs.lemmas.Option.{slice_get-get_or}
use Rattle.nsi_primitive.specs.Messages.{connection_of}
use Rattle.nsi_primitive.specs.declared.kind.ErrorName.{ErrorName}
use Rattle.nsi_primitive.specs.declared.message.Message.{Message}
use Rattle.connection_record.specs.declared.record.Record.{Record}
use Rattle.connection_record.specs.Refusal.{refusal, unnamed_refusal, record_refusal, place_of}
use Rattle.aggregator_agent.specs.declared.connection.Connection.{Connection}
use Rattle.aggregator_agent.specs.Bonds.{Bond, bond, bonds, no_bond, bond_at, own_of, records_of, is_owned}
use Rattle.agent_state.specs.State.{no_record}

pub refused_wrong : (now : ℕ) (agent : List ℕ) (stp_of : List ℕ → Option ℕ) (rs : List Record) (m : Message) → bytes_eq m.header.provider agent ≡ false → refusal now agent stp_of rs m ≡ Some ErrorName.WrongProvider
unfolding refusal
refused_wrong now agent stp_of rs m h = rw h refl

pub refused_unnamed : (now : ℕ) (agent : List ℕ) (stp_of : List ℕ → Option ℕ) (rs : List Record) (m : Message) → bytes_eq m.header.provider agent ≡ true → connection_of m.body ≡ None → refusal now agent stp_of rs m ≡ unnamed_refusal now m.body stp_of
unfolding refusal
refused_unnamed now agent stp_of rs m h e = rw (h, e) refl

pub refused_nowhere : (now : ℕ) (agent : List ℕ) (stp_of : List ℕ → Option ℕ) (rs : List Record) (m : Message) (id : ℕ) → bytes_eq m.header.provider agent ≡ true → connection_of m.body ≡ Some id → place_of id m.header.requester rs ≡ None
    → refusal now agent stp_of rs m ≡ Some ErrorName.Nonexistent
unfolding refusal
refused_nowhere now agent stp_of rs m id h e f = rw (h, e, f) refl

pub refused_record : (now : ℕ) (agent : List ℕ) (stp_of : List ℕ → Option ℕ) (rs : List Record) (m : Message) (id n : ℕ) (r : Record) → bytes_eq m.header.provider agent ≡ true → connection_of m.body ≡ Some id → place_of id m.header.requester rs ≡ Some n
    → slice_get rs n ≡ Some r → refusal now agent stp_of rs m ≡ record_refusal now m.body r
unfolding refusal
refused_record now agent stp_of rs m id n r h e f g = rw (h, e, f, g) refl

---- The record of a connection

-- what stands at a place
pub bond_read : (bs : List Bond) (n : ℕ) → n < length bs → slice_get (records_of bs) n ≡ Some (bond_at n bs).own
bond_read bs n l =
    let long = length-map bs own_of in
    slice_get-get_or (records_of bs) n no_record (omega (arith, l, long)) ∙ ap Some (get_or-map own_of bs n no_bond no_record l)

-- where the first stands that passes
prefix_as : (test : Record → Bool) (xs : List Connection) → prefix_len test (records_of (bonds xs)) ≡ prefix_len (λ (c : Connection). test c.own) xs
prefix_as test [] = refl
prefix_as test (x ∷ xs) = ap (λ n. cond (test x.own) (1 + n) 0) (prefix_as test xs)

long_as : (xs : List Connection) → length (records_of (bonds xs)) ≡ length xs
long_as xs = length-map (bonds xs) own_of ∙ length-map xs bond

pub found_as : (id : ℕ) (owner : List ℕ) (xs : List Connection) → position (is_owned id owner) xs ≡ place_of id owner (records_of (bonds xs))
found_as id owner xs =
    let test : Record → Bool = λ r. not ((id == r.id) && bytes_eq owner r.owner) in
    rw (prefix_as test xs, long_as xs) refl
