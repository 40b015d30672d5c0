-- What a record has kept.
use Rattle.std.specs.Prelude.{length}
use Rattle.connection_record.specs.declared.record.Record.{Record}
use Rattle.connection_record.specs.declared.savepoint.Savepoint.{Savepoint}

-- the fields that change, and how long the lists are
abbrev pub saved_of : Record → Savepoint
saved_of r =
    record {
      pending = r.pending;
      attempt = r.attempt;
      rsm = r.rsm;
      psm = r.psm;
      lsm = r.lsm;
      mixed = r.mixed;
      reserve_request = r.reserve_request;
      provision_request = r.provision_request;
      lifecycle_request = r.lifecycle_request;
      deadline = r.deadline;
      committed = length r.committed;
      notices = length r.notices;
      results = length r.results;
    }
