-- What a record was, kept so that what is done to it can be taken back.
use Rattle.std.specs.Prelude.{◌≡◌, length, take}
use Rattle.connection_record.specs.declared.record.Record.{Record}

-- a later form of a record: what never changes is the same, and the lists only grew
pub record IsLater (old new : Record) : Type 0 where
  pub id : new.id ≡ old.id
  pub owner : new.owner ≡ old.owner
  pub service : new.service ≡ old.service
  pub source : new.source ≡ old.source
  pub dest : new.dest ≡ old.dest
  pub committed : take (length old.committed) new.committed ≡ old.committed
  pub notices : take (length old.notices) new.notices ≡ old.notices
  pub results : take (length old.results) new.results ≡ old.results
