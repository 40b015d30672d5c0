-- Answers to queries, computed: connections of the requesters r1 and r2 at the provider p1.
use Rattle.std.proofs.Common.{◌≡◌, ℕ, zero, suc, ◌+◌, Bool, true, false, List, [], ◌∷◌, ◌++◌, Some, None, replicate, refl}
use Rattle.std.specs.Prelude.{codes}
use Rattle.nsi_primitive.specs.declared.kind.Directionality.{Directionality}
use Rattle.nsi_primitive.specs.declared.kind.Kind.{Kind}
use Rattle.nsi_primitive.specs.declared.state.Rsm.{Rsm}
use Rattle.nsi_primitive.specs.declared.state.Psm.{Psm}
use Rattle.nsi_primitive.specs.declared.state.Lsm.{Lsm}
use Rattle.nsi_primitive.specs.declared.message.Criteria.{Criteria}
use Rattle.nsi_primitive.specs.declared.message.Notice.{Notice}
use Rattle.nsi_primitive.specs.declared.message.RecursiveRow.{RecursiveRow}
use Rattle.nsi_primitive.specs.declared.message.SummaryRow.{SummaryRow}
use Rattle.connection_record.specs.declared.record.Record.{Record}
use Rattle.connection_record.specs.Moves.{fresh}
use Rattle.nsi_query.specs.declared.rows.Rows.{Rows}
use Rattle.nsi_query.specs.Summary.{Shown, summary, summary_of, summary_row}
use Rattle.nsi_query.specs.Counted.{notifications, results}
use Rattle.nsi_query.specs.Nested.{own_row, nest}

abbrev rows : {A : Type 0} → List A → Bool → Rows A
rows all more = record { rows = all; more = more }

---- The connections of an owner

-- nothing is asked yet
abbrev made : ℕ → List ℕ → Record
made id owner =
    fresh id owner
    (record { source = codes "A"; dest = codes "B"; directionality = Directionality.Bidirectional; symmetric = None; global = None; description = Some (codes "d") })
    0 1

abbrev old : Criteria
old = record { version = 0; interval = record { start = 100; end = 200 }; capacity = 600 }

abbrev new : Criteria
new = record { version = 3; interval = record { start = 110; end = 220 }; capacity = 700 }

abbrev committed : Record
committed = record (made 1 (codes "r1")) { committed = old ∷ new ∷ []; psm = Psm.Provisioned }

abbrev up : Record → Shown
up r = (r, record { active = true; version = 3; consistent = true })

abbrev down : Record → Shown
down r = (r, record { active = false; version = 0; consistent = true })

abbrev committed_row : SummaryRow
committed_row =
    record {
      active = true;
      capacity = Some 700;
      connection = 1;
      description = Some (codes "d");
      dest = codes "B";
      directionality = Directionality.Bidirectional;
      end = Some 220;
      global = None;
      lifecycle = Lsm.Created;
      provision = Psm.Provisioned;
      reservation = Rsm.ReserveStart;
      source = codes "A";
      start = Some 110;
      version = Some 3;
    }

abbrev uncommitted_row : ℕ → SummaryRow
uncommitted_row id =
    record {
      active = false;
      capacity = None;
      connection = id;
      description = Some (codes "d");
      dest = codes "B";
      directionality = Directionality.Bidirectional;
      end = None;
      global = None;
      lifecycle = Lsm.Created;
      provision = Psm.Released;
      reservation = Rsm.ReserveStart;
      source = codes "A";
      start = None;
      version = None;
    }

-- one of another owner stands between the two
abbrev three : List Shown
three = up committed ∷ down (made 2 (codes "r2")) ∷ down (made 3 (codes "r1")) ∷ []

abbrev many : ℕ → List Shown
many n = replicate n (down (made 2 (codes "r2")))

record AreSummaries : Type 0 where
  an_owner_sees_its_own : summary (codes "r1") three ≡ rows (committed_row ∷ uncommitted_row 3 ∷ []) false
  another_sees_the_other : summary (codes "r2") three ≡ rows (uncommitted_row 2 ∷ []) false
  a_stranger_sees_none : summary (codes "r3") three ≡ rows [] false
  of_none_there_are_none : summary (codes "r1") [] ≡ rows [] false
  one_is_told_alone : summary_of (up committed) ≡ rows (committed_row ∷ []) false
  sixteen_are_all : summary (codes "r2") (many 16) ≡ rows (replicate 16 (uncommitted_row 2)) false
  of_seventeen_one_is_left_out : summary (codes "r2") (many 17) ≡ rows (replicate 16 (uncommitted_row 2)) true
  others_do_not_count : summary (codes "r2") (many 16 ++ up committed ∷ []) ≡ rows (replicate 16 (uncommitted_row 2)) false
  nor_before : summary (codes "r1") (many 17 ++ three) ≡ rows (committed_row ∷ uncommitted_row 3 ∷ []) false

are_summaries : AreSummaries
unfolding summary_row
are_summaries = record {
  an_owner_sees_its_own = refl;
  another_sees_the_other = refl;
  a_stranger_sees_none = refl;
  of_none_there_are_none = refl;
  one_is_told_alone = refl;
  sixteen_are_all = refl;
  of_seventeen_one_is_left_out = refl;
  others_do_not_count = refl;
  nor_before = refl;
}

---- Notices and outcomes

abbrev notice : ℕ → Notice
notice n = record { number = n; kind = Kind.DataPlaneStateChange; correlation = 9; second = 100 }

-- those from a number on, so many
notices : ℕ → ℕ → List Notice
notices from zero = []
notices from (suc n) = notice from ∷ notices (from + 1) n

abbrev noticed : ℕ → Record
noticed n = record committed { notices = notices 1 n }

record AreCounted : Type 0 where
  none_are_none : notifications 1 18446744073709551615 committed ≡ rows [] false
  both_ends_are_in : notifications 2 3 (noticed 4) ≡ rows (notice 2 ∷ notice 3 ∷ []) false
  from_nought_is_from_one : notifications 0 1 (noticed 4) ≡ rows (notice 1 ∷ []) false
  past_its_end_is_none : notifications 3 2 (noticed 4) ≡ rows [] false
  behind_the_last_is_none : notifications 5 9 (noticed 4) ≡ rows [] false
  thirty_two_are_all : notifications 1 18446744073709551615 (noticed 32) ≡ rows (notices 1 32) false
  of_thirty_three_one_is_left_out : notifications 1 18446744073709551615 (noticed 33) ≡ rows (notices 1 32) true
  only_the_range_counts : notifications 2 33 (noticed 33) ≡ rows (notices 2 32) false
  outcomes_are_others : results 1 18446744073709551615 (noticed 4) ≡ rows [] false
  results_are_told : results 2 2 (record committed { results = record { number = 1; kind = Kind.ReserveConfirmed; correlation = 8; second = 7 } ∷ record { number = 2; kind = Kind.ReserveCommitConfirmed; correlation = 9; second = 8 } ∷ [] })
      ≡ rows (record { number = 2; kind = Kind.ReserveCommitConfirmed; correlation = 9; second = 8 } ∷ []) false

are_counted : AreCounted
unfolding notices
are_counted = record {
  none_are_none = refl;
  both_ends_are_in = refl;
  from_nought_is_from_one = refl;
  past_its_end_is_none = refl;
  behind_the_last_is_none = refl;
  thirty_two_are_all = refl;
  of_thirty_three_one_is_left_out = refl;
  only_the_range_counts = refl;
  outcomes_are_others = refl;
  results_are_told = refl;
}

---- A connection and those below it

abbrev at_depth : ℕ → RecursiveRow
at_depth depth =
    record { connection = 7; depth = depth; lifecycle = Lsm.Created; provider = codes "p1"; provision = Psm.Released; reservation = Rsm.ReserveStart; version = None }

abbrev own : RecursiveRow
own =
    record { connection = 1; depth = 0; lifecycle = Lsm.Created; provider = codes "a1"; provision = Psm.Provisioned; reservation = Rsm.ReserveStart; version = Some 3 }

-- a child that answered so many rows
abbrev told : ℕ → Rows RecursiveRow
told n = rows (replicate n (at_depth 0)) false

-- a child that answered nothing, or wasn't asked
abbrev silent : Rows RecursiveRow
silent = rows [] true

record AreNested : Type 0 where
  the_own_row_is_the_first : nest (own_row (codes "a1") committed) [] ≡ rows (own ∷ []) false
  children_are_one_deeper : nest own (rows (at_depth 0 ∷ at_depth 1 ∷ []) false ∷ told 1 ∷ [])
      ≡ rows (own ∷ at_depth 1 ∷ at_depth 2 ∷ at_depth 1 ∷ []) false
  a_silent_child_has_none : nest own (told 1 ∷ silent ∷ told 1 ∷ []) ≡ rows (own ∷ at_depth 1 ∷ at_depth 1 ∷ []) true
  what_is_left_out_below_is_told : nest own (rows (at_depth 0 ∷ []) true ∷ []) ≡ rows (own ∷ at_depth 1 ∷ []) true
  the_greatest_depth_is_reached : nest own (rows (at_depth 254 ∷ []) false ∷ []) ≡ rows (own ∷ at_depth 255 ∷ []) false
  none_is_deeper : nest own (rows (at_depth 255 ∷ at_depth 3 ∷ []) false ∷ []) ≡ rows (own ∷ at_depth 4 ∷ []) true
  a_hundred_and_twenty_eight_are_all : nest own (told 32 ∷ told 32 ∷ told 32 ∷ told 31 ∷ []) ≡ rows (own ∷ replicate 127 (at_depth 1)) false
  of_one_more_one_is_left_out : nest own (told 32 ∷ told 32 ∷ told 32 ∷ told 32 ∷ []) ≡ rows (own ∷ replicate 127 (at_depth 1)) true

are_nested : AreNested
unfolding own_row
are_nested = record {
  the_own_row_is_the_first = refl;
  children_are_one_deeper = refl;
  a_silent_child_has_none = refl;
  what_is_left_out_below_is_told = refl;
  the_greatest_depth_is_reached = refl;
  none_is_deeper = refl;
  a_hundred_and_twenty_eight_are_all = refl;
  of_one_more_one_is_left_out = refl;
}
