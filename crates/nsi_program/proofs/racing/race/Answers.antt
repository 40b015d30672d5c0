use Rattle.nsi_program.proofs.racing.race.Goals as goal

pub returns-clause-raced : goal.returns-clause-raced
returns-clause-raced g c =
    let e = c.race-end.ensures in
    record {
      end = c.race-end.result;
      told = c.status_of.ensures.status;
      raced = record {
        ends = e.ends;
        read_fault = e.read_fault;
        alone = e.alone;
        write_fault = e.write_fault;
        disk_fault = e.disk_fault;
        unfinished = e.unfinished;
        quiet_in = e.quiet_in;
        quiet_out = e.quiet_out;
      };
    }
