-- Of some bytes `check` makes one text.
use Rattle.std.proofs.Common.{◌≡◌, ℕ, inl, inr, List, [], ◌∷◌, ◌++◌, length, leb, Bool, true, false, Ok, Err, sym, ap, ◌∙◌, subst, append_assoc, append-nil}
use Rattle.stp_topology.specs.declared.network.Network.{Network}
use Rattle.stp_topology.specs.Text.{topology_of}
use Rattle.path_segments.specs.declared.path.Segment.{Segment}
use Rattle.nsi_program.specs.declared.asked.Ask.{Ask}
use Rattle.nsi_program.specs.declared.asked.Wanted.{Wanted}
use Rattle.provide_command.specs.declared.status.Status.{Status}
use Rattle.nsi_program.specs.Asked.{ask_of}
use Rattle.nsi_program.specs.Check.{path_line, count_line, IsLeast, Tells, TellsPath, AnswersAll, Read, ChecksRead, ChecksIf, Checks, BeginsRead, BeginsIf, Begins}
use Rattle.nsi_base.specs.Range.{greatest_input}
use Rattle.path_segments.proofs.OneLeast.{one_least as only_one}

---- One least path

one_least : (t : Network) (w : Wanted) (xs ys : List Segment) → IsLeast t w xs → IsLeast t w ys → xs ≡ ys
one_least t w xs ys l g = only_one t w.aggregator w.source w.dest xs ys (record { path = l.path; least = l.least }) (record { path = g.path; least = g.least })

---- One text

one_path_text : (t : Network) (w : Wanted) (x y : List ℕ) → TellsPath t w x → TellsPath t w y → x ≡ y
one_path_text t w x y (inl l) (inl g) = l.2 ∙ (ap (path_line t) (one_least t w l.0 g.0 l.1 g.1) ∙ sym g.2)
one_path_text t w x y (inl l) (inr g) = absurd (g.0 l.0 l.1.path)
one_path_text t w x y (inr l) (inl g) = absurd (l.0 g.0 g.1.path)
one_path_text t w x y (inr l) (inr g) = l.1 ∙ sym g.1

one_answer : (t : Network) (ask : Ask) (x y : List ℕ) → Tells t ask x → Tells t ask y → x ≡ y
one_answer t Ask.Nothing x y l g = l ∙ sym g
one_answer t (Ask.Path w) x y l g = one_path_text t w x y l g
one_answer t Ask.Bad x y l g = l ∙ sym g

-- the answers to the first lines are a front of those to all
one_front : (t : Network) (front behind : List (List ℕ)) (x y : List ℕ) → AnswersAll t front x → AnswersAll t (front ++ behind) y → (rest : List ℕ) × (AnswersAll t behind rest) × (y ≡ x ++ rest)
one_front t [] behind x y l g = (y, g, ap (λ z. z ++ y) (sym l))
one_front t (line ∷ front) behind x y l g =
    let r = one_front t front behind l.1 g.1 l.3 g.3 in
    (r.0, r.1, g.4 ∙ ap (λ z. z ++ g.1) (one_answer t (ask_of t line) g.0 l.0 g.2 l.2) ∙ ap (λ z. l.0 ++ z) r.2 ∙ sym (append_assoc l.0 l.1 r.0) ∙ ap (λ z. z ++ r.0) (sym l.4))

one_all : (t : Network) (lines : List (List ℕ)) (x y : List ℕ) → AnswersAll t lines x → AnswersAll t lines y → x ≡ y
one_all t [] x y l g = l ∙ sym g
one_all t (line ∷ lines) x y l g =
    l.4 ∙ (ap (λ z. z ++ l.1) (one_answer t (ask_of t line) l.0 g.0 l.2 g.2) ∙ (ap (λ z. g.0 ++ z) (one_all t lines l.1 g.1 l.3 g.3) ∙ sym g.4))

-- one text and one status
pub one_text : (bytes : List ℕ) (status other : Status) (x y : List ℕ) → Checks bytes status x → Checks bytes other y → (status ≡ other) × (x ≡ y)
one_text bytes status other x y l g = by_size (leb (length bytes) greatest_input) l g
  where
    by_read : (r : Read) → ChecksRead r bytes status x → ChecksRead r bytes other y → (status ≡ other) × (x ≡ y)
    by_read (Ok r) l g = (l.0 ∙ sym g.0, l.1.2 ∙ (ap (λ z. count_line r.0 ++ z) (one_all r.0 _ l.1.0 g.1.0 l.1.1 g.1.1) ∙ sym g.1.2))
    by_read (Err e) l g = (l.0 ∙ sym g.0, l.1 ∙ sym g.1)

    by_size : (fits : Bool) → ChecksIf fits bytes status x → ChecksIf fits bytes other y → (status ≡ other) × (x ≡ y)
    by_size true l g = by_read (topology_of bytes) l g
    by_size false l g = (l.0 ∙ sym g.0, l.1 ∙ sym g.1)

-- a text up to a line is a front of it
pub begins_front : (bytes : List ℕ) (status : Status) (x y : List ℕ) → Begins bytes x → Checks bytes status y → (rest : List ℕ) × (y ≡ x ++ rest)
begins_front bytes status x y l g = by_size (leb (length bytes) greatest_input) l g
  where
    same_front : x ≡ y → (rest : List ℕ) × (y ≡ x ++ rest)
    same_front e = ([], sym (append-nil y) ∙ ap (λ z. z ++ []) (sym e))

    by_read : (r : Read) → BeginsRead r bytes x → ChecksRead r bytes status y → (rest : List ℕ) × (y ≡ x ++ rest)
    by_read (Ok r) l g =
        let P : List (List ℕ) → Type 0 = λ z. AnswersAll r.0 z g.1.0 in
        let f = one_front r.0 l.1.1.0 l.1.0 l.0 g.1.0 l.1.1.2 (subst P l.1.1.1 g.1.1) in
        (f.0, g.1.2 ∙ (ap (λ z. count_line r.0 ++ z) f.2 ∙ (sym (append_assoc (count_line r.0) l.0 f.0) ∙ ap (λ z. z ++ f.0) (sym l.2))))
    by_read (Err e) l g = same_front (l ∙ sym g.1)

    by_size : (fits : Bool) → BeginsIf fits bytes x → ChecksIf fits bytes status y → (rest : List ℕ) × (y ≡ x ++ rest)
    by_size true l g = by_read (topology_of bytes) l g
    by_size false l g = same_front (l ∙ sym g.1)
