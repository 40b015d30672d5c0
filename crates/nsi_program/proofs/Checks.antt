-- What `check` writes, line by line, and how it ends.
use Rattle.std.proofs.Common.{◌≡◌, ℕ, ◌≤◌, List, [], ◌∷◌, ◌++◌, length, take, drop, leb, Bool, true, false, Option, Some, None, Ok, Err, refl, sym, ap, ◌∙◌, subst, append_assoc, append-nil, arith}
use Rattle.std.specs.Prelude.{codes}
use Rattle.nsi_base.specs.Lines.{lines_of, lines_to}
use Rattle.stp_topology.specs.declared.network.Network.{Network}
use Rattle.stp_topology.specs.Text.{topology_of}
use Rattle.fault_lines.specs.Lines.{as_line}
use Rattle.fault_lines.specs.Lines.{topology_fault}
use Rattle.nsi_program.specs.Check.{count_line, Answers, AnswersAll, AnswersUpTo, AnswersFront, Counts, Read, BeginsRead, BeginsIf, Begins}
use Rattle.nsi_base.specs.Range.{greatest_input}
use Rattle.provide_command.specs.Promise.{Writes, WritesFront}
use Rattle.provide_command.specs.Writes.{WritesSome, WritesSomeFront}
use Rattle.provide_command.proofs.Written.{some_along, then_some, then_front, writes_some}

---- Lines

-- an answer behind the others
answers_behind : (t : Network) (front : List (List ℕ)) (line x y : List ℕ) → AnswersAll t front x → Answers t line y → AnswersAll t (front ++ line ∷ []) (x ++ y)
answers_behind t [] line x y a b = (y, [], b, refl, ap (λ z. z ++ y) a ∙ sym (append-nil y))
answers_behind t (l ∷ front) line x y a b =
    (a.0, a.1 ++ y, a.2, answers_behind t front line a.1 y a.3 b, ap (λ z. z ++ y) a.4 ∙ append_assoc a.0 a.1 y)

-- one line more is answered
up_to_next : (t : Network) (lines : List (List ℕ)) (line : List ℕ) (behind : List (List ℕ)) (x y : List ℕ) → AnswersUpTo t lines (line ∷ behind) x → Answers t line y → AnswersUpTo t lines behind (x ++ y)
up_to_next t lines line behind x y u a = (u.0 ++ line ∷ [], u.1 ∙ sym (append_assoc u.0 (line ∷ []) behind), answers_behind t u.0 line x y u.2 a)

-- at the start no line is answered, and nothing is written
pub answers_start : (t : Network) (lines : List (List ℕ)) (old : Option (List ℕ)) → WritesSome (AnswersUpTo t lines lines) old old
answers_start t lines None = tt
answers_start t lines (Some c) = ([], ([], refl, refl), ap (λ x. Some x) (sym (append-nil c)))

pub answers_next : (t : Network) (lines : List (List ℕ)) (line : List ℕ) (rest behind : List (List ℕ)) (old between new : Option (List ℕ)) → rest ≡ line ∷ behind
    → WritesSome (AnswersUpTo t lines rest) old between → WritesSome (Answers t line) between new → WritesSome (AnswersUpTo t lines behind) old new
answers_next t lines line rest behind old between new e w v =
    let S : List (List ℕ) → Type 0 = λ r. WritesSome (AnswersUpTo t lines r) old between in
    then_some (AnswersUpTo t lines (line ∷ behind)) (Answers t line) (AnswersUpTo t lines behind) old between new (λ x y u a. up_to_next t lines line behind x y u a) (subst S e w) v

-- one line's front is its answer or nothing
pub answers_cut : (t : Network) (lines : List (List ℕ)) (line : List ℕ) (rest behind : List (List ℕ)) (old between new : Option (List ℕ)) → rest ≡ line ∷ behind
    → WritesSome (AnswersUpTo t lines rest) old between → WritesSomeFront (AnswersFront t (line ∷ [])) between new → WritesSomeFront (AnswersFront t lines) old new
answers_cut t lines line rest behind old between new e w v =
    let S : List (List ℕ) → Type 0 = λ r. WritesSome (AnswersUpTo t lines r) old between in
    then_front (AnswersUpTo t lines (line ∷ behind)) (AnswersFront t (line ∷ [])) (AnswersFront t lines) old between new (λ x y u a. joined x y u a) (subst S e w) v
  where
    by_front : (x y : List ℕ) (front last : List (List ℕ)) → AnswersUpTo t lines (line ∷ behind) x → line ∷ [] ≡ front ++ last → AnswersAll t front y → AnswersFront t lines (x ++ y)
    by_front x y [] last u e a = (line ∷ behind, (u.0, u.1, subst (AnswersAll t u.0) (sym (ap (λ z. x ++ z) a ∙ append-nil x)) u.2))
    by_front x y (l ∷ []) last u e a =
        let same : l ≡ line = cc in
        let one : y ≡ a.0 = a.4 ∙ (ap (λ z. a.0 ++ z) a.3 ∙ append-nil a.0) in
        let P : List ℕ → Type 0 = λ z. Answers t z a.0 in
        (behind, up_to_next t lines line behind x y u (subst (Answers t line) (sym one) (subst P same a.2)))
    by_front x y (l ∷ m ∷ front) last u e a = cc

    joined : (x y : List ℕ) → AnswersUpTo t lines (line ∷ behind) x → AnswersFront t (line ∷ []) y → AnswersFront t lines (x ++ y)
    joined x y u a = by_front x y a.1.0 a.0 u a.1.1 a.1.2

-- an answer that was written, or a front of it
pub answer_front : (t : Network) (line x : List ℕ) → Answers t line x → AnswersFront t (line ∷ []) x
answer_front t line x a = ([], (line ∷ [], refl, (x, [], a, refl, sym (append-nil x))))

pub answer_none : (t : Network) (line : List ℕ) → AnswersFront t (line ∷ []) []
answer_none t line = (line ∷ [], ([], refl, refl))

pub lines_none : (bytes : List ℕ) → length bytes ≤ 0 → lines_of bytes ≡ []
unfolding lines_to
lines_none [] few = refl
lines_none (b ∷ bs) few = absurd (omega arith)

-- at the end all lines are answered
pub answers_end : (t : Network) (lines rest : List (List ℕ)) (old new : Option (List ℕ)) → rest ≡ [] → WritesSome (AnswersUpTo t lines rest) old new → WritesSome (AnswersAll t lines) old new
answers_end t lines rest old new e w = some_along (AnswersUpTo t lines rest) (AnswersAll t lines) old new (λ x u. subst (λ (l : List (List ℕ)). AnswersAll t l x) (sym (whole u.0 u.1)) u.2) w
  where
    whole : (front : List (List ℕ)) → lines ≡ front ++ rest → lines ≡ front
    whole front h = h ∙ (ap (λ z. front ++ z) e ∙ append-nil front)

---- The whole

-- behind the counts
pub counts_all : (t : Network) (P : List ℕ → Type 0) (old between new : Option (List ℕ)) → Writes old between (count_line t) → WritesSome P between new → WritesSome (Counts t P) old new
counts_all t P old between new w v =
    let Q : List ℕ → Type 0 = λ x. x ≡ count_line t in
    then_some Q P (Counts t P) old between new (λ x y e p. (y, p, ap (λ z. z ++ y) e)) (writes_some Q old between (count_line t) refl w) v

pub counts_cut : (t : Network) (P : List ℕ → Type 0) (old between new : Option (List ℕ)) → Writes old between (count_line t) → WritesSomeFront P between new → WritesSomeFront (Counts t P) old new
counts_cut t P old between new w v =
    let Q : List ℕ → Type 0 = λ x. x ≡ count_line t in
    then_front Q P (Counts t P) old between new (λ x y e p. (y, p, ap (λ z. z ++ y) e)) (writes_some Q old between (count_line t) refl w) v

-- where not even the counts were written whole
pub counts_front : (t : Network) (lines : List (List ℕ)) (old new : Option (List ℕ)) → WritesFront old new (count_line t) → WritesSomeFront (Counts t (AnswersFront t lines)) old new
counts_front t lines None new w = tt
counts_front t lines (Some c) new w = (count_line t ++ [], w.0, ([], (lines, ([], refl, refl)), refl), w.1 ∙ ap (λ z. Some (c ++ take w.0 z)) (sym (append-nil (count_line t))))

-- some text may be written
pub read_begins : (bytes : List ℕ) (r : Read) → (text : List ℕ) × BeginsRead r bytes text
read_begins bytes (Ok r) = (count_line r.0 ++ [], ([], (lines_of (drop r.1 bytes), ([], refl, refl)), refl))
read_begins bytes (Err f) = (topology_fault f.0 f.1, refl)

pub some_begins : (bytes : List ℕ) → (text : List ℕ) × Begins bytes text
some_begins bytes = by_size (leb (length bytes) greatest_input)
  where
    by_size : (fits : Bool) → (text : List ℕ) × BeginsIf fits bytes text
    by_size true = read_begins bytes (topology_of bytes)
    by_size false = (as_line (codes "fault long"), refl)
