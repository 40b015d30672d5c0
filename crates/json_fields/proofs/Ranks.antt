-- The ranks of keys are the byte order of their names.
use Rattle.std.proofs.Common.{◌≡◌, ◌<◌, ℕ, zero, suc, List, [], ◌∷◌, Bool, true, ◌&&◌, length, get_or, nat_lt, Ordering, Less, Equal, Greater, nat_cmp, refl, sym, ap, ◌∙◌, subst, arith, is_lt}
use Rattle.std.specs.Cmp.Lexicographic.{slice_cmp}
use Rattle.std.specs.Ordering.{ordering_reverse}
use Rattle.std.proofs.lemmas.Cmp.{nat_list_cmp_total}
use Rattle.json_fields.specs.Keys.{name_of}
use Rattle.json_fields.specs.Ranks.{rank_of}
use Rattle.json_fields.specs.declared.key.Key.{Key}

-- all keys, by rank
abbrev others : List Key
others = Key.Capacity ∷ Key.Child ∷ Key.ChildErrorId ∷ Key.ConnectionId ∷ Key.CorrelationId ∷ Key.DeliveryCorrelationId ∷ Key.Depth ∷ Key.Description ∷ Key.DestStp ∷ Key.Direction ∷ Key.Directionality ∷ Key.EndNotificationId ∷ Key.EndResultId ∷ Key.EndTime ∷ Key.Ero ∷ Key.ErrorId ∷ Key.Event ∷ Key.Fault ∷ Key.GlobalReservationId ∷ Key.Key ∷ Key.Kind ∷ Key.LifecycleState ∷ Key.Line ∷ Key.Load ∷ Key.More ∷ Key.NotificationId ∷ Key.Notifications ∷ Key.NsaId ∷ Key.Of ∷ Key.OriginatingConnectionId ∷ Key.OriginatingNsa ∷ Key.ProviderNsa ∷ Key.ProvisionState ∷ Key.RequesterNsa ∷ Key.ReservationState ∷ Key.Reservations ∷ Key.ResultId ∷ Key.Results ∷ Key.Second ∷ Key.SourceStp ∷ Key.StartNotificationId ∷ Key.StartResultId ∷ Key.StartTime ∷ Key.Stp ∷ Key.SymmetricPath ∷ Key.TimeStamp ∷ Key.TimeoutValue ∷ Key.Version ∷ Key.VersionConsistent ∷ []

abbrev keys : List Key
keys = Key.Active ∷ others

at_rank : (k : Key) → get_or keys (rank_of k) Key.Active ≡ k
unfolding rank_of
at_rank Key.Active = refl
at_rank Key.Capacity = refl
at_rank Key.Child = refl
at_rank Key.ChildErrorId = refl
at_rank Key.ConnectionId = refl
at_rank Key.CorrelationId = refl
at_rank Key.DeliveryCorrelationId = refl
at_rank Key.Depth = refl
at_rank Key.Description = refl
at_rank Key.DestStp = refl
at_rank Key.Direction = refl
at_rank Key.Directionality = refl
at_rank Key.EndNotificationId = refl
at_rank Key.EndResultId = refl
at_rank Key.EndTime = refl
at_rank Key.Ero = refl
at_rank Key.ErrorId = refl
at_rank Key.Event = refl
at_rank Key.Fault = refl
at_rank Key.GlobalReservationId = refl
at_rank Key.Key = refl
at_rank Key.Kind = refl
at_rank Key.LifecycleState = refl
at_rank Key.Line = refl
at_rank Key.Load = refl
at_rank Key.More = refl
at_rank Key.NotificationId = refl
at_rank Key.Notifications = refl
at_rank Key.NsaId = refl
at_rank Key.Of = refl
at_rank Key.OriginatingConnectionId = refl
at_rank Key.OriginatingNsa = refl
at_rank Key.ProviderNsa = refl
at_rank Key.ProvisionState = refl
at_rank Key.RequesterNsa = refl
at_rank Key.ReservationState = refl
at_rank Key.Reservations = refl
at_rank Key.ResultId = refl
at_rank Key.Results = refl
at_rank Key.Second = refl
at_rank Key.SourceStp = refl
at_rank Key.StartNotificationId = refl
at_rank Key.StartResultId = refl
at_rank Key.StartTime = refl
at_rank Key.Stp = refl
at_rank Key.SymmetricPath = refl
at_rank Key.TimeStamp = refl
at_rank Key.TimeoutValue = refl
at_rank Key.Version = refl
at_rank Key.VersionConsistent = refl

is_ranked : (k : Key) → nat_lt (rank_of k) (length keys) ≡ true
unfolding rank_of
is_ranked Key.Active = refl
is_ranked Key.Capacity = refl
is_ranked Key.Child = refl
is_ranked Key.ChildErrorId = refl
is_ranked Key.ConnectionId = refl
is_ranked Key.CorrelationId = refl
is_ranked Key.DeliveryCorrelationId = refl
is_ranked Key.Depth = refl
is_ranked Key.Description = refl
is_ranked Key.DestStp = refl
is_ranked Key.Direction = refl
is_ranked Key.Directionality = refl
is_ranked Key.EndNotificationId = refl
is_ranked Key.EndResultId = refl
is_ranked Key.EndTime = refl
is_ranked Key.Ero = refl
is_ranked Key.ErrorId = refl
is_ranked Key.Event = refl
is_ranked Key.Fault = refl
is_ranked Key.GlobalReservationId = refl
is_ranked Key.Key = refl
is_ranked Key.Kind = refl
is_ranked Key.LifecycleState = refl
is_ranked Key.Line = refl
is_ranked Key.Load = refl
is_ranked Key.More = refl
is_ranked Key.NotificationId = refl
is_ranked Key.Notifications = refl
is_ranked Key.NsaId = refl
is_ranked Key.Of = refl
is_ranked Key.OriginatingConnectionId = refl
is_ranked Key.OriginatingNsa = refl
is_ranked Key.ProviderNsa = refl
is_ranked Key.ProvisionState = refl
is_ranked Key.RequesterNsa = refl
is_ranked Key.ReservationState = refl
is_ranked Key.Reservations = refl
is_ranked Key.ResultId = refl
is_ranked Key.Results = refl
is_ranked Key.Second = refl
is_ranked Key.SourceStp = refl
is_ranked Key.StartNotificationId = refl
is_ranked Key.StartResultId = refl
is_ranked Key.StartTime = refl
is_ranked Key.Stp = refl
is_ranked Key.SymmetricPath = refl
is_ranked Key.TimeStamp = refl
is_ranked Key.TimeoutValue = refl
is_ranked Key.Version = refl
is_ranked Key.VersionConsistent = refl

-- each key's name is less than that of the next
abbrev are_rising : Key → List Key → Bool
are_rising k [] = true
are_rising k (l ∷ ls) = is_lt (slice_cmp nat_cmp (name_of k) (name_of l)) && are_rising l ls

all_rising : are_rising Key.Active others ≡ true
unfolding name_of
all_rising = refl

first_part : (a b : Bool) → (a && b) ≡ true → a ≡ true
first_part a b h = grind arith

second_part : (a b : Bool) → (a && b) ≡ true → b ≡ true
second_part a b h = grind arith

is_less : (o : Ordering) → is_lt o ≡ true → o ≡ Less
is_less Less h = refl
is_less Equal h = cc
is_less Greater h = cc

-- what stands further on is greater
later : (k : Key) (ls : List Key) (i : ℕ) → are_rising k ls ≡ true → i < length ls → slice_cmp nat_cmp (name_of k) (name_of (get_or ls i Key.Active)) ≡ Less
later k [] i rising low = absurd (omega (arith, low))
later k (l ∷ ls) zero rising low = is_less _ (first_part _ (are_rising l ls) rising)
later k (l ∷ ls) (suc i) rising low =
    nat_list_cmp_total.trans (name_of k) (name_of l) _ (is_less _ (first_part _ (are_rising l ls) rising)) (later l ls i (second_part (is_lt (slice_cmp nat_cmp (name_of k) (name_of l))) _ rising) (omega (arith, low)))

between : (k : Key) (ls : List Key) (i j : ℕ) → are_rising k ls ≡ true → i < j → j < length (k ∷ ls) → slice_cmp nat_cmp (name_of (get_or (k ∷ ls) i Key.Active)) (name_of (get_or (k ∷ ls) j Key.Active)) ≡ Less
between k ls zero zero rising less low = absurd (omega (arith, less))
between k ls zero (suc j) rising less low = later k ls j rising (omega (arith, low))
between k ls (suc i) zero rising less low = absurd (omega (arith, less))
between k [] (suc i) (suc j) rising less low = absurd (omega (arith, low))
between k (l ∷ ls) (suc i) (suc j) rising less low = between l ls i j (second_part (is_lt (slice_cmp nat_cmp (name_of k) (name_of l))) _ rising) (omega (arith, less)) (omega (arith, low))

below : {a b : ℕ} → nat_lt a b ≡ true → a < b
below h = grind (arith, h)

pub less_by_rank : (k l : Key) → rank_of k < rank_of l → slice_cmp nat_cmp (name_of k) (name_of l) ≡ Less
less_by_rank k l less =
    let P : Key → Type 0 = λ x. slice_cmp nat_cmp (name_of x) (name_of l) ≡ Less in
    let Q : Key → Type 0 = λ x. slice_cmp nat_cmp (name_of (get_or keys (rank_of k) Key.Active)) (name_of x) ≡ Less in
    subst P (at_rank k) (subst Q (at_rank l) (between Key.Active others (rank_of k) (rank_of l) all_rising less (below (is_ranked l))))

pub greater_by_rank : (k l : Key) → rank_of l < rank_of k → slice_cmp nat_cmp (name_of k) (name_of l) ≡ Greater
greater_by_rank k l less = nat_list_cmp_total.antisymm (name_of k) (name_of l) ∙ ap ordering_reverse (less_by_rank l k less)

pub same_by_rank : (k l : Key) → rank_of k ≡ rank_of l → k ≡ l
same_by_rank k l same = sym (at_rank k) ∙ ap (λ n. get_or keys n Key.Active) same ∙ at_rank l

own_equal : (o : Ordering) → o ≡ ordering_reverse o → o ≡ Equal
own_equal Less h = cc
own_equal Equal h = refl
own_equal Greater h = cc

pub equal_by_rank : (k l : Key) → rank_of k ≡ rank_of l → slice_cmp nat_cmp (name_of k) (name_of l) ≡ Equal
equal_by_rank k l same = ap (λ x. slice_cmp nat_cmp (name_of k) (name_of x)) (sym (same_by_rank k l same)) ∙ own_equal _ (nat_list_cmp_total.antisymm (name_of k) (name_of k))
