-- Loops that read and write until nothing is left.
use Rattle.std.proofs.Common.{◌≡◌, ◌⊎◌, ◌≤◌, ◌<◌, ◌+◌, ◌-◌, ℕ, zero, suc, List, length, take, drop, Option, Some, None, IfSome, Result, Ok, Err, MatchResult, IfOk, IfErr, refl, sym, ◌∙◌, ap, subst, arith, inl, inr, length-take}
use Rattle.std.specs.Prelude.{⊤}
use Rattle.std.specs.IoError.{error_kind}
use Rattle.std.specs.declared.io.Error.{Error}
use Rattle.std.specs.declared.io.ErrorKind.{ErrorKind}
use Rattle.std.proofs.lemmas.Bool.Decides.{nat_tests}
use Rattle.std.proofs.lemmas.List.{take_all, drop-drop}
use Rattle.nsi_disk.specs.Disk.{History, Wrote, Broke, MayLeave, IsTornWrite, seen, written, wrote}
use Rattle.nsi_disk.specs.Stopped.{torn-written, length-written}
use Rattle.file_shelf.specs.Outcomes.{call_outcome, piece_outcome, piece_after}
use Rattle.file_shelf.specs.Told.{Told, goes_to, MayGo, Goes, put, begun, PutsSome, ReadsOn, Reaches}
use Rattle.file_shelf.specs.declared.outcome.CallOutcome.{CallOutcome}
use Rattle.file_shelf.specs.declared.outcome.PieceOutcome.{PieceOutcome}

-- the buffer begins with k of the bytes from this place on
abbrev pub HasRead : ℕ → Option Told → List ℕ → ℕ → Type 0
HasRead place None buffer k = ⊤
HasRead place (Some t) buffer k = take k buffer ≡ take k (drop place (seen t.past))

-- the first k bytes of the piece are written
abbrev pub HasWritten : ℕ → List ℕ → Option Told → Option Told → ℕ → Type 0
HasWritten place piece None now k = now ≡ None
HasWritten place piece (Some t) now k = now ≡ Some (goes_to (begun place piece k t.past) t)

-- why so many bytes are left
abbrev pub LeftBy : ℕ → ℕ → Result ℕ Error → Type 0
LeftBy left n r =
    MatchResult r (λ m. (0 < m) × (m < left) × (n ≡ left - m))
    (λ e. (error_kind e ≡ ErrorKind.Interrupted) × (n ≡ left))

kind_left : (left n : ℕ) (k : ErrorKind) → piece_after left k ≡ PieceOutcome.Left n → (k ≡ ErrorKind.Interrupted) × (n ≡ left)
kind_left left n k h = grind arith

pub left_by : (left n : ℕ) (r : Result ℕ Error) → piece_outcome left r ≡ PieceOutcome.Left n → LeftBy left n r
left_by left n (Ok m) h = grind (arith, nat_tests)
left_by left n (Err e) h = kind_left left n (error_kind e) h

kind_whole : (left : ℕ) (k : ErrorKind) → piece_after left k ≡ PieceOutcome.Whole → ⊥
kind_whole left k h = grind arith

pub whole_by : (left : ℕ) (r : Result ℕ Error) → piece_outcome left r ≡ PieceOutcome.Whole → MatchResult r (λ m. left ≤ m) (λ _. ⊥)
whole_by left (Ok m) h = grind (arith, nat_tests)
whole_by left (Err e) h = kind_whole left (error_kind e) h

-- reading on
more : (len left n m : ℕ) → left ≤ len → m < left → n ≡ left - m → (len - left) + m ≡ len - n
more len left n m few less is = omega (arith, few, less, is)

pub read_left : (place left n : ℕ) (o : Option Told) (old new : List ℕ) (r : Result ℕ Error) → left ≤ length old → length new ≡ length old
    → HasRead place o old (length old - left) → take (length old - left) new ≡ take (length old - left) old
    → IfSome o (λ t. IfOk r (λ m. ReadsOn place (length old - left) m (seen t.past) old new)) → LeftBy left n r
    → HasRead place o new (length new - n)
read_left place left n None old new r few long has front bytes by = tt
read_left place left n (Some t) old new (Ok m) few long has front bytes by =
    subst (λ k. take k new ≡ take k (drop place (seen t.past))) (more (length old) left n m few by.1 by.2 ∙ ap (λ k. k - n) (sym long)) (bytes has)
read_left place left n (Some t) old new (Err e) few long has front bytes by =
    subst (λ k. take k new ≡ take k (drop place (seen t.past))) (ap (λ k. length old - k) (sym by.1) ∙ ap (λ k. k - n) (sym long))
    (front ∙ has)

pub goes_same : (o new : Option Told) → Goes Broke (λ h. h) o new CallOutcome.Done → new ≡ o
goes_same None new h = h
goes_same (Some t) new h = h

read_same : (o now new : Option Told) (r : Result ℕ Error) → now ≡ o → Goes Broke (λ h. h) now new (call_outcome r)
    → IfErr r (λ e. error_kind e ≡ ErrorKind.Interrupted → new ≡ now) → (left n : ℕ) → LeftBy left n r → new ≡ o
read_same o now new (Ok m) same goes interrupted left n by = goes_same now new goes ∙ same
read_same o now new (Err e) same goes interrupted left n by = interrupted by.0 ∙ same

few_left : (left n : ℕ) (r : Result ℕ Error) → LeftBy left n r → n ≤ left
few_left left n (Ok m) by = omega (arith, by.1, by.2)
few_left left n (Err e) by = omega (arith, by.1)

-- what the loop keeps
pub record IsReading (place left len : ℕ) (buffer : List ℕ) (o now : Option Told) : Type 0 where
  pub few : left ≤ length buffer
  pub long : length buffer ≡ len
  pub same : now ≡ o
  pub bytes : HasRead place o buffer (length buffer - left)

pub reads_on : (place left len n : ℕ) (o now next : Option Told) (old new : List ℕ) (r : Result ℕ Error) → IsReading place left len old o now
    → length new ≡ length old → take (length old - left) new ≡ take (length old - left) old
    → IfSome now (λ t. IfOk r (λ m. ReadsOn place (length old - left) m (seen t.past) old new))
    → Goes Broke (λ h. h) now next (call_outcome r) → IfErr r (λ e. error_kind e ≡ ErrorKind.Interrupted → next ≡ now)
    → LeftBy left n r → IsReading place n len new o next
reads_on place left len n o now next old new r is long front bytes goes interrupted by = record {
  few = omega (arith, is.few, long, few_left left n r by);
  long = long ∙ is.long;
  same = read_same o now next r is.same goes interrupted left n by;
  bytes = read_left place left n o old new r is.few long is.bytes front
      (subst (λ v. IfSome v (λ t. IfOk r (λ m. ReadsOn place (length old - left) m (seen t.past) old new))) is.same bytes) by;
}

-- writing on
torn_wider : (at k n : ℕ) (d c : List ℕ) → k ≤ n → IsTornWrite at k d c → IsTornWrite at n d c
torn_wider at k n d c less torn =
    let e : (l : List ℕ) → drop (n - k) (drop (at + k) l) ≡ drop (at + n) l = λ l. drop-drop (n - k) (at + k) l ∙ ap (λ (i : ℕ). drop i l) (omega (arith, less)) in
    record {
      before = torn.before;
      after = sym (e c) ∙ ap (drop (n - k)) torn.after ∙ e d;
      no_shorter = torn.no_shorter;
      no_longer = omega (arith, torn.no_longer, less);
    }

put_may : (place k : ℕ) (piece : List ℕ) (t : Told) → k ≤ length piece → place ≤ length (seen t.past) → MayLeave t.past (seen t.past)
    → MayGo (Wrote place (length piece)) t (Some (goes_to (put place piece k t.past) t))
put_may place k piece t less inside law =
    let long : k ≡ length (take k piece) = omega (arith, length-take k piece, less) in
    inr (
      written place (take k piece) (seen t.past),
      refl,
      (
        seen t.past,
        law,
        torn_wider place k (length piece) (seen t.past) (written place (take k piece) (seen t.past)) less
            (torn-written place k (take k piece) (seen t.past) inside long),
      ),
    )

begun_may : (place k : ℕ) (piece : List ℕ) (t : Told) → k ≤ length piece → place ≤ length (seen t.past) → MayLeave t.past (seen t.past)
    → MayGo (Wrote place (length piece)) t (Some (goes_to (begun place piece k t.past) t))
begun_may place zero piece t less inside law = inl refl
begun_may place (suc k) piece t less inside law = put_may place (suc k) piece t less inside law

begun_put : (place k : ℕ) (piece : List ℕ) (h : History) → 0 < k → begun place piece k h ≡ put place piece k h
begun_put place zero piece h less = absurd (omega (arith, less))
begun_put place (suc k) piece h less = refl

put_all : (place k : ℕ) (piece : List ℕ) (h : History) → k ≡ length piece → put place piece k h ≡ wrote place piece h
put_all place k piece h all = ap (λ p. Wrote place (length piece) (written place p (seen h)) h) (take_all k piece (omega (arith, all)))

pub written_left : (place left n : ℕ) (piece : List ℕ) (o now new : Option Told) (r : Result ℕ Error) → left ≤ length piece
    → HasWritten place piece o now (length piece - left) → PutsSome place piece (length piece - left) now new r → (now ≡ None → new ≡ None)
    → IfErr r (λ e. error_kind e ≡ ErrorKind.Interrupted → new ≡ now) → LeftBy left n r
    → HasWritten place piece o new (length piece - n)
written_left place left n piece None now new r few has puts untold same by = untold has
written_left place left n piece (Some t) now new (Ok m) few has puts untold same by =
    puts t has
    ∙ ap (λ h. Some (goes_to h t)) (sym (begun_put place _ piece t.past (omega (arith, by.0)))
    ∙ ap (λ (k : ℕ). begun place piece k t.past) (more (length piece) left n m few by.1 by.2))
written_left place left n piece (Some t) now new (Err e) few has puts untold same by =
    same by.0 ∙ has ∙ ap (λ (k : ℕ). Some (goes_to (begun place piece (length piece - k) t.past) t)) (sym by.1)

pub reach_left : (place k : ℕ) (piece : List ℕ) (o now : Option Told) → Reaches place o → HasWritten place piece o now k → Reaches place now
reach_left place k piece None now inside has = subst (Reaches place) (sym has) tt
reach_left place zero piece (Some t) now inside has = subst (Reaches place) (sym has) inside
reach_left place (suc k) piece (Some t) now inside has =
    let long : place ≤ length (written place (take (suc k) piece) (seen t.past)) = omega (arith, length-written place (take (suc k) piece) (seen t.past) inside) in
    subst (Reaches place) (sym has) long

abbrev WritesAll : ℕ → List ℕ → Option Told → Option Told → CallOutcome → Type 0
WritesAll place piece = Goes (Wrote place (length piece)) (λ h. wrote place piece h)

pub written_whole : (place left : ℕ) (piece : List ℕ) (o now new : Option Told) (r : Result ℕ Error) → left ≤ length piece
    → HasWritten place piece o now (length piece - left) → PutsSome place piece (length piece - left) now new r → (now ≡ None → new ≡ None)
    → IfOk r (λ m. (length piece - left) + m ≤ length piece) → piece_outcome left r ≡ PieceOutcome.Whole
    → WritesAll place piece o new CallOutcome.Done
written_whole place left piece None now new r few has puts untold within is = untold has
written_whole place left piece (Some t) now new (Ok m) few has puts untold within is =
    puts t has
    ∙ ap (λ h. Some (goes_to h t)) (put_all place _ piece t.past (omega (arith, few, within, whole_by left (Ok m) is)))
written_whole place left piece (Some t) now new (Err e) few has puts untold within is = absurd (whole_by left (Err e) is)

failed_ok : (place left : ℕ) (piece : List ℕ) (t : Told) (m : ℕ) → (length piece - left) + m ≤ length piece → place ≤ length (seen t.past)
    → MayLeave t.past (seen t.past) → (new : Option Told) → new ≡ Some (goes_to (put place piece ((length piece - left) + m) t.past) t)
    → MayGo (Wrote place (length piece)) t new
failed_ok place left piece t m within inside law new is =
    subst (MayGo (Wrote place (length piece)) t) (sym is) (put_may place _ piece t within inside law)

failed_err : (place left : ℕ) (piece : List ℕ) (t : Told) (now new : Option Told) → place ≤ length (seen t.past) → MayLeave t.past (seen t.past)
    → now ≡ Some (goes_to (begun place piece (length piece - left) t.past) t) → (new ≡ now) ⊎ MayGo (Wrote place (length piece)) t new
    → MayGo (Wrote place (length piece)) t new
failed_err place left piece t now new inside law is (inl same) =
    subst (MayGo (Wrote place (length piece)) t) (sym (same ∙ is)) (begun_may place _ piece t (omega arith) inside law)
failed_err place left piece t now new inside law is (inr went) = went

pub written_failed : (place left : ℕ) (piece : List ℕ) (o now new : Option Told) (r : Result ℕ Error) → Reaches place o
    → IfSome o (λ t. MayLeave t.past (seen t.past))
    → HasWritten place piece o now (length piece - left) → PutsSome place piece (length piece - left) now new r → (now ≡ None → new ≡ None)
    → IfOk r (λ m. (length piece - left) + m ≤ length piece) → WritesAll place piece o new CallOutcome.Failed
written_failed place left piece None now new r inside law has puts untold within = untold has
written_failed place left piece (Some t) now new (Ok m) inside law has puts untold within =
    failed_ok place left piece t m within inside law new (puts t has)
written_failed place left piece (Some t) now new (Err e) inside law has puts untold within =
    failed_err place left piece t now new inside law has (puts t has)

pub written_none : (place left : ℕ) (piece : List ℕ) (o now : Option Told) → Reaches place o → IfSome o (λ t. MayLeave t.past (seen t.past))
    → HasWritten place piece o now (length piece - left) → WritesAll place piece o now CallOutcome.Failed
written_none place left piece None now inside law has = has
written_none place left piece (Some t) now inside law has = failed_err place left piece t now now inside law has (inl refl)

pub begins : (place : ℕ) (piece : List ℕ) (o : Option Told) → HasWritten place piece o o (length piece - length piece)
begins place piece None = refl
begins place piece (Some t) =
    let none : 0 ≡ length piece - length piece = omega arith in
    ap (λ (k : ℕ). Some (goes_to (begun place piece k t.past) t)) none
