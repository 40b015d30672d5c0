use Rattle.std.proofs.Common.{◌≡◌, List, ℕ, Option, Some, map, sym, ◌∙◌, ap}
use Rattle.std.specs.Prelude.{string_bytes}
use Rattle.command_words.specs.declared.command.Command.{Command}
use Rattle.command_words.specs.Words.{command_of}
use Rattle.command_words.proofs.FewEvents.{limit_few}
use Rattle.nsi_program.proofs.Plainly.{as_named, provide_plain, check_plain, generate_plain, usage_plain, nothing_plain, run_plain, verify_plain}
use Rattle.nsi_program.proofs.calls.top.Goals as goal

-- the words name this command
named_by : (words : List (List ℕ)) (result : Option Command) (own command : Command) → result ≡ command_of words → result ≡ Some own → own ≡ command → command_of words ≡ Some command
named_by words result own command e is same = sym e ∙ (is ∙ ap (λ x. Some x) same)

pub returns-in_default-clause-plain : goal.returns-in_default-clause-plain
returns-in_default-clause-plain g c = nothing_plain c.begins_with_nothing.ensures (map string_bytes c.args.words.now) _

pub provide-requires : goal.provide-requires
provide-requires g c = let words = map string_bytes c.args.words.now in limit_few words c.in-Provide.most (named_by words c.in-Ok.named c.in-Some.command (Command.Provide c.in-Provide.most) c.in-Ok.ensures c.in-Some.is c.in-Provide.is)

pub returns-in-Provide-clause-plain : goal.returns-in-Provide-clause-plain
returns-in-Provide-clause-plain g c =
    let words = map string_bytes c.args.words.now in
    let named = named_by words c.in-Ok.named c.in-Some.command (Command.Provide c.in-Provide.most) c.in-Ok.ensures c.in-Some.is c.in-Provide.is in
    as_named (command_of words) _ named (provide_plain c.in-Provide.most _ _ c.provide.result (limit_few words c.in-Provide.most named) c.provide.ensures.provided c.provide.ensures.counts c.provide.ensures.backed)

pub returns-in-Run-clause-plain : goal.returns-in-Run-clause-plain
returns-in-Run-clause-plain g c =
    let words = map string_bytes c.args.words.now in
    let e = c.run.ensures in
    as_named (command_of words) _ (named_by words c.in-Ok.named c.in-Some.command (Command.Run c.in-Run.play) c.in-Ok.ensures c.in-Some.is c.in-Run.is)
    (run_plain c.in-Run.play _ _ c.run.result (record {
      ends = e.ends;
      read_fault = e.read_fault;
      alone = e.alone;
      write_fault = e.write_fault;
      disk_fault = e.disk_fault;
      broken = e.broken;
      unfinished = e.unfinished;
      quiet_in = e.quiet_in;
      quiet_out = e.quiet_out;
      quiet_disk = e.quiet_disk;
      reading = e.reading;
      memory = e.memory;
      journals = e.journals;
      settles = e.settles;
    }))

pub returns-in-Check-clause-plain : goal.returns-in-Check-clause-plain
returns-in-Check-clause-plain g c =
    let words = map string_bytes c.args.words.now in
    let e = c.check.ensures in
    as_named (command_of words) _ (named_by words c.in-Ok.named c.in-Some.command Command.Check c.in-Ok.ensures c.in-Some.is c.in-Check.is)
    (check_plain _ (g.K.Sink.content c.check.new.out) (g.S.Source.left c.check.new.input) (g.S.Source.faults c.check.new.input) (g.K.Sink.faults c.check.new.out) c.check.result (record {
      ends = e.ends;
      not_disk = e.not_disk;
      read_fault = e.read_fault;
      alone = e.alone;
      write_fault = e.write_fault;
      unfinished = e.unfinished;
      quiet_in = e.quiet_in;
      quiet_out = e.quiet_out;
      reading = e.reading;
      memory = e.memory;
    }))

pub returns-in-Verify-clause-plain : goal.returns-in-Verify-clause-plain
returns-in-Verify-clause-plain g c =
    let words = map string_bytes c.args.words.now in
    let e = c.verify.ensures in
    as_named (command_of words) _ (named_by words c.in-Ok.named c.in-Some.command (Command.Verify c.in-Verify.most) c.in-Ok.ensures c.in-Some.is c.in-Verify.is)
    (verify_plain c.in-Verify.most _ (g.K.Sink.content c.verify.new.out) (g.S.Source.left c.verify.new.input) (g.S.Source.faults c.verify.new.input) (g.K.Sink.faults c.verify.new.out) c.verify.result (record {
      ends = e.ends;
      not_disk = e.not_disk;
      read_fault = e.read_fault;
      alone = e.alone;
      write_fault = e.write_fault;
      unfinished = e.unfinished;
      quiet_in = e.quiet_in;
      quiet_out = e.quiet_out;
      reading = e.reading;
      memory = e.memory;
    }))

pub returns-in-Generate-clause-plain : goal.returns-in-Generate-clause-plain
returns-in-Generate-clause-plain g c =
    let words = map string_bytes c.args.words.now in
    let e = c.generate.ensures in
    as_named (command_of words) _ (named_by words c.in-Ok.named c.in-Some.command (Command.Generate c.in-Generate.load) c.in-Ok.ensures c.in-Some.is c.in-Generate.is)
    (generate_plain c.in-Generate.load _ (g.K.Sink.content c.generate.new.out) (g.K.Sink.faults c.generate.new.out) c.generate.result
    (record { told = e.told; front = e.front; write = e.write; not_read = e.not_read; not_disk = e.not_disk; quiet = e.quiet; memory = e.memory }))

pub returns-in_default-named-clause-plain : goal.returns-in_default-named-clause-plain
returns-in_default-named-clause-plain g c =
    let e = c.usage.ensures in
    as_named (command_of (map string_bytes c.args.words.now)) _ (sym c.in-Ok.ensures ∙ c.in_default-named.is)
    (usage_plain _ (g.K.Sink.content c.usage.new.out) (g.K.Sink.faults c.usage.new.out) c.usage.result
    (record { told = e.told; front = e.front; write = e.write; not_read = e.not_read; not_disk = e.not_disk; quiet = e.quiet; memory = e.memory }))
