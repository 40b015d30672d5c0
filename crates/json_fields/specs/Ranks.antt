-- The byte order of keys.
use Rattle.std.specs.Prelude.{ℕ}
use Rattle.json_fields.specs.declared.key.Key.{Key}

-- how many keys stand before it
unfoldable pub rank_of : Key → ℕ
rank_of Key.Active = 0
rank_of Key.Capacity = 1
rank_of Key.Child = 2
rank_of Key.ChildErrorId = 3
rank_of Key.ConnectionId = 4
rank_of Key.CorrelationId = 5
rank_of Key.DeliveryCorrelationId = 6
rank_of Key.Depth = 7
rank_of Key.Description = 8
rank_of Key.DestStp = 9
rank_of Key.Direction = 10
rank_of Key.Directionality = 11
rank_of Key.EndNotificationId = 12
rank_of Key.EndResultId = 13
rank_of Key.EndTime = 14
rank_of Key.Ero = 15
rank_of Key.ErrorId = 16
rank_of Key.Event = 17
rank_of Key.Fault = 18
rank_of Key.GlobalReservationId = 19
rank_of Key.Key = 20
rank_of Key.Kind = 21
rank_of Key.LifecycleState = 22
rank_of Key.Line = 23
rank_of Key.Load = 24
rank_of Key.More = 25
rank_of Key.NotificationId = 26
rank_of Key.Notifications = 27
rank_of Key.NsaId = 28
rank_of Key.Of = 29
rank_of Key.OriginatingConnectionId = 30
rank_of Key.OriginatingNsa = 31
rank_of Key.ProviderNsa = 32
rank_of Key.ProvisionState = 33
rank_of Key.RequesterNsa = 34
rank_of Key.ReservationState = 35
rank_of Key.Reservations = 36
rank_of Key.ResultId = 37
rank_of Key.Results = 38
rank_of Key.Second = 39
rank_of Key.SourceStp = 40
rank_of Key.StartNotificationId = 41
rank_of Key.StartResultId = 42
rank_of Key.StartTime = 43
rank_of Key.Stp = 44
rank_of Key.SymmetricPath = 45
rank_of Key.TimeStamp = 46
rank_of Key.TimeoutValue = 47
rank_of Key.Version = 48
rank_of Key.VersionConsistent = 49
