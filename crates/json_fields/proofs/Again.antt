-- What is put at a key reads again.
use Rattle.std.proofs.Common.{◌≡◌, ◌≤◌, ℕ, List, Option, Some, None, option_map, option_and_then, false, IfSome, Ok, refl, ap, ◌∙◌, Bool, cond, length, le-leb}
use Rattle.serde_json.specs.Data.{Data}
use Rattle.serde_json.specs.Find.{get}
use Rattle.nsi_primitive.specs.Kinds.{direction_text, direction_named, kind_name, kind_named, first_named, error_text, error_named, first_error_named, event_text}
use Rattle.nsi_primitive.specs.Printable.{has_further_keys}
use Rattle.nsi_primitive.specs.declared.kind.Kind.{Kind}
use Rattle.nsi_primitive.specs.declared.kind.ErrorName.{ErrorName}
use Rattle.nsi_primitive.specs.declared.kind.FaultEvent.{FaultEvent}
use Rattle.nsi_primitive.specs.declared.kind.Directionality.{Directionality}
use Rattle.json_fields.specs.Keys.{name_of}
use Rattle.json_fields.specs.declared.key.Key.{Key}
use Rattle.json_fields.specs.Fields.{needed, allowed, formed, wrapped, required, optional, text_from, count_from, flag_from, directionality_from, kind_from, error_from, kept_if_plain, plain_error_from, event_from}
use Rattle.json_fields.specs.Objects.{Scalar, digits, words, flag, directionality_scalar, scalar_data, IsReadBack}

-- what stands at a key in its form is read
pub required_again : {A : Type 0} (form : Data → Option A) (key : Key) (d : Data) (s : Scalar) (x : A) → get (name_of key) d ≡ Some (scalar_data s) → IsReadBack form s x → required form key d ≡ Ok x
unfolding required
required_again form key d s x found form_is = ap (needed form key) found ∙ ap (formed key) form_is

-- what may be absent is read too
pub optional_again : {A : Type 0} (form : Data → Option A) (key : Key) (d : Data) (wrap : A → Scalar) (o : Option A) → get (name_of key) d ≡ option_map scalar_data (option_map wrap o) → IfSome o (λ x. IsReadBack form (wrap x) x) → optional form key d ≡ Ok o
unfolding optional
optional_again form key d wrap None found form_is = ap (allowed form key) found
optional_again form key d wrap (Some x) found form_is = ap (allowed form key) found ∙ ap (λ r. wrapped (formed key r)) form_is

-- what isn't there is read as absent
pub absent_again : {A : Type 0} (form : Data → Option A) (key : Key) (d : Data) → get (name_of key) d ≡ None → optional form key d ≡ Ok None
unfolding optional
absent_again form key d found = ap (allowed form key) found

pub text_again : (most : ℕ) (o : Option (List ℕ)) → IfSome o (λ t. length t ≤ most) → IfSome o (λ t. IsReadBack (text_from most) (words t) t)
text_again most None h = tt
text_again most (Some t) h = ap (λ b. cond b (Some t) None) (le-leb _ _ h)

pub count_again : (o : Option ℕ) → IfSome o (λ n. IsReadBack count_from (digits n) n)
count_again None = tt
count_again (Some n) = refl

pub flag_again : (o : Option Bool) → IfSome o (λ b. IsReadBack flag_from (flag b) b)
flag_again None = tt
flag_again (Some b) = refl

named_again : (d : Directionality) → direction_named (direction_text d) ≡ Some d
unfolding direction_text
named_again Directionality.Bidirectional = refl
named_again Directionality.Unidirectional = refl

pub directionality_again : (o : Option Directionality) → IfSome o (λ d. IsReadBack directionality_from (directionality_scalar d) d)
directionality_again None = tt
directionality_again (Some d) = named_again d

-- a directionality is the one that its name names
pub one_direction_again : (d : Directionality) → IsReadBack directionality_from (directionality_scalar d) d
one_direction_again d = named_again d

-- a kind is the one that its name names
pub kind_again : (k : Kind) → IsReadBack kind_from (words (kind_name k)) k
unfolding kind_name kind_named first_named
kind_again Kind.Reserve = refl
kind_again Kind.ReserveResponse = refl
kind_again Kind.ReserveConfirmed = refl
kind_again Kind.ReserveFailed = refl
kind_again Kind.ReserveCommit = refl
kind_again Kind.ReserveCommitConfirmed = refl
kind_again Kind.ReserveCommitFailed = refl
kind_again Kind.ReserveAbort = refl
kind_again Kind.ReserveAbortConfirmed = refl
kind_again Kind.Provision = refl
kind_again Kind.ProvisionConfirmed = refl
kind_again Kind.Release = refl
kind_again Kind.ReleaseConfirmed = refl
kind_again Kind.Terminate = refl
kind_again Kind.TerminateConfirmed = refl
kind_again Kind.Error = refl
kind_again Kind.ReserveTimeout = refl
kind_again Kind.ErrorEvent = refl
kind_again Kind.DataPlaneStateChange = refl
kind_again Kind.MessageDeliveryTimeout = refl
kind_again Kind.QuerySummary = refl
kind_again Kind.QuerySummaryConfirmed = refl
kind_again Kind.QueryNotification = refl
kind_again Kind.QueryNotificationConfirmed = refl
kind_again Kind.QueryResult = refl
kind_again Kind.QueryResultConfirmed = refl
kind_again Kind.QueryRecursive = refl
kind_again Kind.QueryRecursiveConfirmed = refl

-- an error is the one that its name names
pub error_again : (e : ErrorName) → IsReadBack error_from (words (error_text e)) e
unfolding error_text error_named first_error_named
error_again ErrorName.Payload = refl
error_again ErrorName.Version = refl
error_again ErrorName.WrongProvider = refl
error_again ErrorName.Nonexistent = refl
error_again ErrorName.Gone = refl
error_again ErrorName.InvalidTransition = refl
error_again ErrorName.VersionLow = refl
error_again ErrorName.UnknownStp = refl
error_again ErrorName.Schedule = refl
error_again ErrorName.Bandwidth = refl
error_again ErrorName.Passed = refl
error_again ErrorName.NoPath = refl
error_again ErrorName.Child = refl
error_again ErrorName.Timeout = refl

pub plain_error_again : (e : ErrorName) → has_further_keys e ≡ false → IsReadBack plain_error_from (words (error_text e)) e
plain_error_again e plain = ap (option_and_then kept_if_plain) (error_again e) ∙ ap (λ b. cond b None (Some e)) plain

pub event_again : (e : FaultEvent) → IsReadBack event_from (words (event_text e)) e
unfolding event_text
event_again FaultEvent.ForcedEnd = refl

pub one_flag_again : (b : Bool) → IsReadBack flag_from (flag b) b
one_flag_again b = refl
