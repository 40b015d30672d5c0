-- What is asked of a book is an entry that it may add.
use Rattle.std.proofs.Common.{◌≡◌, ◌<◌, ℕ, Bool, true, false, ◌&&◌, nat_lt, nat_eq, Option, Some, None, Result, Ok, Err, refl, arith}
use Rattle.std.specs.Prelude.{IfSome, IfOk, IfErr, MatchResult, if◌then◌else◌}
use Rattle.std.proofs.lemmas.Bool.{lt-ltb, and_from}
use Rattle.std.proofs.lemmas.Bool.Decides.{nat_tests}
use Rattle.nsi_primitive.specs.Messages.{is_request}
use Rattle.nsi_primitive.specs.Printable.{IsPrintable}
use Rattle.nsi_primitive.specs.declared.entry.Entry.{Entry}
use Rattle.nsi_primitive.specs.declared.entry.Input.{Input}
use Rattle.nsi_primitive.specs.declared.message.Message.{Message}
use Rattle.nsi_primitive.specs.declared.state.Machine.{Machine}
use Rattle.agent_state.specs.Entries.{is_on_time, most_entries}
use Rattle.provider_agent.specs.State.{State}
use Rattle.provider_agent.specs.Steps.{is_seen, is_for_provider, may_take}
use Rattle.shared_provider.specs.Asked.{now_at, took_entry, work_on, work_then, work_entry, MayBeAsked}

same_now : (n : ℕ) → nat_eq n n ≡ true
same_now n = grind (arith, nat_tests)

may_now : (s : State) (input : Input) → is_for_provider input ≡ true → is_on_time input s.now s.now ≡ true → s.taken < most_entries → may_take s (now_at s input) ≡ true
may_now s input own on_time room =
    and_from (nat_lt s.taken most_entries) (is_for_provider input && is_on_time input s.now s.now) (lt-ltb s.taken most_entries room) (and_from (is_for_provider input) (is_on_time input s.now s.now) own on_time)

pub took_fits : (s : State) (m : Message) → is_request m.body ≡ true → IsPrintable m → s.taken < most_entries → IfSome (took_entry s m) (MayBeAsked s)
unfolding took_entry
took_fits s m asks printable room = by_seen (is_seen s m)
  where
    by_seen : (b : Bool) → IfSome (if b then None else Some (now_at s (Input.Got m))) (MayBeAsked s)
    by_seen true = tt
    by_seen false = record { may_take = may_now s (Input.Got m) refl (same_now s.now) room; own = asks; printable = printable }

pub work_fits : (s : State) (id : ℕ) → s.taken < most_entries → IfSome (work_entry s id) (MayBeAsked s)
unfolding work_entry
work_fits s id room = by_work (work_on id s.records)
  where
    by_work : (o : Option (ℕ × Machine)) → IfSome (work_then s o) (MayBeAsked s)
    by_work None = tt
    by_work (Some work) = record { may_take = may_now s (Input.Work work.0 work.1) refl (same_now s.now) room; own = refl; printable = tt }

pub match_of : {T E : Type 0} (P : T → Type 0) (Q : E → Type 0) (r : Result T E) → IfOk r P → IfErr r Q → MatchResult r P Q
match_of P Q (Ok x) ok err = ok
match_of P Q (Err e) ok err = err
