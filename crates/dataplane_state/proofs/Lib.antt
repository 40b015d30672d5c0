pub mod JoinedStatus
