-- The places at which a tick does something.
use Rattle.std.proofs.Common.{◌≡◌, ◌↔◌, ◌<◌, ◌≤◌, ◌⊎◌, inl, inr, ℕ, Bool, true, false, ◌||◌, Option, Some, None, List, length, refl, arith, Contains}
use Rattle.std.specs.List.Sorted.{IsStrictlyIncreasing}
use Rattle.std.proofs.lemmas.Bool.{cases_lt}
use Rattle.std.proofs.lemmas.Bool.Decides.{nat_tests}
use Rattle.nsi_primitive.specs.declared.message.Criteria.{Criteria}
use Rattle.dataplane_state.specs.Plane.{status, announces}
use Rattle.record_index.specs.declared.deadlines.Deadline.{Deadline}
use Rattle.record_index.specs.Due.{IsDueIn}
use Rattle.connection_record.specs.declared.record.Record.{Record}
use Rattle.connection_record.specs.Demand.{last}
use Rattle.connection_record.specs.Moves.{is_over}
use Rattle.connection_record.specs.Refusal.{is_created}
use Rattle.connection_record.specs.Applied.{status_of, is_told}
use Rattle.provider_agent.specs.Indexed.{held_until, ends_at, starts_at, deadline_of, AreIndexed}
use Rattle.provider_agent.specs.State.{record_at}
use Rattle.provider_agent.specs.Ticks.{is_ending, is_touched, AreDue}

---- The second of what a tick does

-- a hold or a schedule that ends, or a schedule that begins since another second
abbrev pub IsSecondOf : ℕ → Record → ℕ → Type 0
IsSecondOf before r t = (held_until r ≡ Some t) ⊎ ((ends_at r ≡ Some t) ⊎ ((starts_at r ≡ Some t) × (before < t)))

abbrev pub HasSecondBy : (before now : ℕ) → Record → Type 0
HasSecondBy before now r = (t : ℕ) × (t ≤ now) × IsSecondOf before r t

over_never : (now : ℕ) (r : Record) → held_until r ≡ None → is_over now r ≡ true → ⊥
over_never now r e h = grind (arith, nat_tests)

over_by : (now : ℕ) (r : Record) (t : ℕ) → held_until r ≡ Some t → is_over now r ≡ true → t ≤ now
over_by now r t e h = grind (arith, nat_tests)

over_second : (before now : ℕ) (r : Record) → is_over now r ≡ true → HasSecondBy before now r
over_second before now r h = by_end (held_until r) refl
  where
    by_end : (o : Option ℕ) → held_until r ≡ o → HasSecondBy before now r
    by_end None e = absurd (over_never now r e h)
    by_end (Some t) e = (t, over_by now r t e h, inl e)

ending_never : (now : ℕ) (r : Record) → ends_at r ≡ None → is_ending now r ≡ true → ⊥
ending_never now r e h = grind (arith, nat_tests)

ending_by : (now : ℕ) (r : Record) (t : ℕ) → ends_at r ≡ Some t → is_ending now r ≡ true → t ≤ now
ending_by now r t e h = grind (arith, nat_tests)

ending_second : (before now : ℕ) (r : Record) → is_ending now r ≡ true → HasSecondBy before now r
ending_second before now r h = by_end (ends_at r) refl
  where
    by_end : (o : Option ℕ) → ends_at r ≡ o → HasSecondBy before now r
    by_end None e = absurd (ending_never now r e h)
    by_end (Some t) e = (t, ending_by now r t e h, inr (inl e))

-- only of a created connection, to which something was committed, is a change told
told_created : (before now : ℕ) (r : Record) → is_told (status_of before r) now r ≡ true → is_created r.lsm ≡ true
unfolding status announces
told_created before now r h = grind arith

told_never : (before now : ℕ) (r : Record) → last r.committed ≡ None → is_told (status_of before r) now r ≡ true → ⊥
unfolding status announces
told_never before now r e h = grind arith

told_start : (before now : ℕ) (r : Record) (c : Criteria) → last r.committed ≡ Some c → before ≤ now → now < c.interval.end → is_told (status_of before r) now r ≡ true → (before < c.interval.start) × (c.interval.start ≤ now)
unfolding status announces
told_start before now r c e le l h = grind (arith, nat_tests)

ends_of : (r : Record) (c : Criteria) → last r.committed ≡ Some c → is_created r.lsm ≡ true → ends_at r ≡ Some c.interval.end
ends_of r c e h = grind arith

starts_of : (r : Record) (c : Criteria) → last r.committed ≡ Some c → is_created r.lsm ≡ true → starts_at r ≡ Some c.interval.start
starts_of r c e h = grind arith

told_second : (before now : ℕ) (r : Record) → before ≤ now → is_told (status_of before r) now r ≡ true → HasSecondBy before now r
told_second before now r le h = by_last (last r.committed) refl
  where
    by_last : (o : Option Criteria) → last r.committed ≡ o → HasSecondBy before now r
    by_last None e = absurd (told_never before now r e h)
    by_last (Some c) e = elim (cases_lt now c.interval.end) [
      | inl l ↦ let at = told_start before now r c e le l h in (c.interval.start, at.1, inr (inr (starts_of r c e (told_created before now r h), at.0)))
      | inr ended ↦ (c.interval.end, ended, inr (inl (ends_of r c e (told_created before now r h))))
    ]

one_of : (a b c : Bool) → a || (b || c) ≡ true → (a ≡ true) ⊎ ((b ≡ true) ⊎ (c ≡ true))
one_of true b c h = inl refl
one_of false true c h = inr (inl refl)
one_of false false c h = inr (inr h)

touched_second : (before now : ℕ) (r : Record) → before ≤ now → is_touched before now r ≡ true → HasSecondBy before now r
touched_second before now r le h = elim (one_of (is_over now r) (is_ending now r) (is_told (status_of before r) now r) h) [
  | inl over ↦ over_second before now r over
  | inr rest ↦ elim rest [
    | inl ending ↦ ending_second before now r ending
    | inr told ↦ told_second before now r le told
  ]
]

---- The places

named_second : (before : ℕ) (records : List Record) (waiting : List ℕ) (deadlines : List Deadline) (n t : ℕ) → AreIndexed before records waiting deadlines → n < length records → IsSecondOf before (record_at n records) t → Contains deadlines (deadline_of t n)
named_second before records waiting deadlines n t ix l is = elim is [
  | inl e ↦ ix.holds n t l e
  | inr rest ↦ elim rest [
    | inl e ↦ ix.ends n t l e
    | inr start ↦ ix.starts n t l start.0 start.1
  ]
]

-- The places that the index gives.
pub due_from : (before now : ℕ) (records : List Record) (waiting : List ℕ) (deadlines : List Deadline) (places : List ℕ) → AreIndexed before records waiting deadlines → before ≤ now
    → ((p : ℕ) → Contains places p ↔ IsDueIn deadlines now p) → IsStrictlyIncreasing places → AreDue before now records places
due_from before now records waiting deadlines places ix le is up = record {
  rising = up;
  within = λ n has. let due = (is n).0 has in omega (arith, ix.within due.0 due.1, due.2);
  all = λ n l h.
      let second = touched_second before now (record_at n records) le h in
      (is n).1 (deadline_of second.0 n, named_second before records waiting deadlines n second.0 ix l second.2, refl, second.1);
}
