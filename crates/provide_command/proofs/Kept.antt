-- What a service keeps of the lines that it answers.
use Rattle.std.proofs.Common.{◌≡◌, ◌+◌, ◌∙◌, inl, inr, ℕ, List, [], ◌∷◌, ◌++◌, length, take, leb, Bool, true, false, Option, Some, None, is_some, option_map, Result, Ok, Err, IfSome, All, refl, sym, ap, subst, append_assoc, append-nil}
use Rattle.std.specs.Prelude.{IfOk, IfErr, OnOk, OnErr}
use Rattle.nsi_disk.specs.Disk.{History}
use Rattle.nsi_primitive.specs.Printable.{IsPrintableEntry}
use Rattle.nsi_primitive.specs.declared.entry.Entry.{Entry}
use Rattle.nsi_primitive.specs.declared.message.Message.{Message}
use Rattle.journal_entry.specs.Journal.{Kept, Adds, ReadsOneOf, MayLeaveSynced, MayLeaveWith}
use Rattle.provider_agent.specs.Setting.{Setting}
use Rattle.provider_agent.specs.State.{State, Stepped}
use Rattle.provider_agent.specs.Runs.{after_all}
use Rattle.provider_agent.specs.Safety.{IsRun}
use Rattle.provider_agent.specs.Replay.{replayed, AreFirstOf}
use Rattle.provider_agent.proofs.EventsSafe.{good_replayed}
use Rattle.provider_agent.proofs.RunsSafe.{after_all_append, after_all_out, every_run_safe}
use Rattle.provider_run.proofs.WorkRuns.{run_append}
use Rattle.provider_run.specs.Works.{with_works}
use Rattle.provide_command.specs.declared.receiving.Received.{Received}
use Rattle.provide_command.specs.Backed.{StandsFor, IsLast, IsFrontOf}
use Rattle.provide_command.specs.Backed.IsLast.{last_none, last_long}
use Rattle.provide_command.specs.Keeping.{HasKept, KeepsAt, KeepsOn, KeepsAnswer, is_whole, IsToldBy, LeavesTold, with_added}
use Rattle.provide_command.specs.Lines.{answered, entered, serve, lines_of_messages, payload, long_line}
use Rattle.provide_command.specs.Phases.{Reading}
use Rattle.provide_command.specs.Promise.{Writes, WritesFront}
use Rattle.provide_command.specs.Receiving.{received, IsTimely, IsTimelyEntry}
use Rattle.provide_command.specs.Runs.{IsWoven}
use Rattle.provide_command.specs.Serving.{Serving, Served, points_at, with_answer}
use Rattle.provide_command.specs.Halts.{ending_of, text_of}
use Rattle.provide_command.specs.declared.output.Halt.{Halt}
use Rattle.provide_command.specs.declared.service.Answer.{Answer}
use Rattle.provide_command.specs.declared.status.Ending.{Ending}
use Rattle.provide_command.proofs.Served.{woven_none, woven_append, woven_messages, woven_fault}
use Rattle.provide_command.proofs.Written.{front_behind}
use Rattle.provide_command.proofs.Serves.{IsServingWell, timely, text_with, well_with, run_with, go_with, served_if}

---- What a service has made so far

-- what its journal's first entries make of the provider
abbrev base_of : List Entry → Serving → State
base_of stated s = replayed s.standing.setting (points_at s) stated

-- and then others
abbrev made_by : List Entry → Serving → List Entry → Stepped
made_by stated s more = after_all s.standing.setting (points_at s) (base_of stated s) more

-- an entry and its work
abbrev works_with : Serving → Entry → List Entry
works_with s e = with_works s.standing.setting (points_at s) s.standing.state e

---- An answer more

kept_with : (es entries : List Entry) (kept now : Option Kept) → (kept ≡ None → now ≡ None) → Adds es kept now → IfSome kept (λ k. (k.synced ≡ entries) × (k.waiting ≡ [])) → IfSome now (λ k. (k.synced ≡ entries ++ es) × (k.waiting ≡ []))
kept_with es entries None now stays adds is = subst (λ o. IfSome o (λ (k : Kept). (k.synced ≡ entries ++ es) × (k.waiting ≡ []))) (sym (stays refl)) tt
kept_with es entries (Some k) now stays adds is = subst (λ o. IfSome o (λ (x : Kept). (x.synced ≡ entries ++ es) × (x.waiting ≡ []))) (sym adds) (ap (λ (xs : List Entry). xs ++ es) is.0, refl)

text_more : (ms said all : List Message) (text : List ℕ) (first now new : Option (List ℕ)) → all ≡ ms ++ said → IsWoven said text → Writes now new text
    → IfSome first (λ c. (t : List ℕ) × IsWoven ms t × (now ≡ Some (c ++ t))) → IfSome first (λ c. (t : List ℕ) × IsWoven all t × (new ≡ Some (c ++ t)))
text_more ms said all text None now new e woven w h = tt
text_more ms said all text (Some c) now new e woven w h =
    let v = subst (λ o. Writes o new text) h.2 w in
    (h.0 ++ text, subst (λ (xs : List Message). IsWoven xs (h.0 ++ text)) (sym e) (woven_append ms said h.0 text h.1 woven), v ∙ ap (λ x. Some x) (append_assoc c h.0 text))

module _ (stated : List Entry) (s : Serving) (kept : Option Kept) (first now : Option (List ℕ)) (h : HasKept stated s kept first now) where
  well : IsServingWell s
  well = record { few = h.fits; most = h.most; good = h.good }

  -- what is no entry changes the text alone
  kept_said : (text : List ℕ) (later : Option Kept) (new : Option (List ℕ)) → IsWoven [] text → (kept ≡ None → later ≡ None) → Adds [] kept later → Writes now new text → HasKept stated s later first new
  kept_said text later new woven stays adds w = record {
    printable = h.printable;
    more = h.more;
    run = h.run;
    state = h.state;
    good = h.good;
    fits = h.fits;
    most = h.most;
    kept_is = subst (λ (es : List Entry). IfSome later (λ k. (k.synced ≡ es) × (k.waiting ≡ []))) (append-nil (stated ++ h.more)) (kept_with [] (stated ++ h.more) kept later stays adds h.kept_is);
    text = text_more (made_by stated s h.more).out [] (made_by stated s h.more).out text first now new (sym (append-nil (made_by stated s h.more).out)) woven w h.text;
  }

  module _ (e : Entry) (timely : IsTimelyEntry s.standing.state e) where
    -- the entries are a run behind those before
    run_more : IsRun s.standing.setting (points_at s) (base_of stated s) (h.more ++ works_with s e)
    run_more =
        run_append s.standing.setting (points_at s) (base_of stated s) h.more (works_with s e) h.run
        (subst (λ t. IsRun s.standing.setting (points_at s) t (works_with s e)) h.state (text_with s e (record { few = h.fits; most = h.most; good = h.good }) timely).run)

    kept_entry : leb ((run_with s e).state.taken + s.others + 1) s.most ≡ true → (later : Option Kept) (new : Option (List ℕ)) → (kept ≡ None → later ≡ None) → Adds (works_with s e) kept later → Writes now new (lines_of_messages (run_with s e).out)
        → HasKept stated (go_with s e) later first new
    kept_entry fits later new stays adds w =
        let next = well_with s e (record { few = h.fits; most = h.most; good = h.good }) timely fits in
        record {
          printable = h.printable;
          more = h.more ++ works_with s e;
          run = run_append s.standing.setting (points_at s) (base_of stated s) h.more (works_with s e) h.run
              (subst (λ t. IsRun s.standing.setting (points_at s) t (works_with s e)) h.state (text_with s e (record { few = h.fits; most = h.most; good = h.good }) timely).run);
          state = ap (λ y. (after_all s.standing.setting (points_at s) y (works_with s e)).state) h.state ∙ sym (after_all_append s.standing.setting (points_at s) (base_of stated s) h.more (works_with s e));
          good = next.good;
          fits = next.few;
          most = next.most;
          kept_is = subst (λ (es : List Entry). IfSome later (λ k. (k.synced ≡ es) × (k.waiting ≡ []))) (append_assoc stated h.more (works_with s e)) (kept_with (works_with s e) (stated ++ h.more) kept later stays adds h.kept_is);
          text = text_more (made_by stated s h.more).out (run_with s e).out (made_by stated s (h.more ++ works_with s e)).out (lines_of_messages (run_with s e).out) first now new
              (after_all_out s.standing.setting (points_at s) (base_of stated s) h.more (works_with s e) ∙ ap (λ y. (made_by stated s h.more).out ++ (after_all s.standing.setting (points_at s) y (works_with s e)).out) (sym h.state))
              (woven_messages (run_with s e).out) w h.text;
        }

-- an answer to a line, whose entries were kept and whose text was written
pub kept_answer : (stated : List Entry) (s : Serving) (kept later : Option Kept) (first now new : Option (List ℕ)) (number : ℕ) (line : List ℕ) (x : Served) → HasKept stated s kept first now → serve s number line ≡ Some x → (kept ≡ None → later ≡ None)
    → Adds x.entries kept later → Writes now new x.text → HasKept stated x.serving later first new
unfolding entered
kept_answer stated s kept later first now new number line x h e stays adds w = by_received (received s.standing.state line) (timely s.standing.state line) e
  where
    Goal : Type 0
    Goal = HasKept stated x.serving later first new

    some_is : (a b : Served) → Some a ≡ Some b → a ≡ b
    some_is a b q = cc

    said : (text : List ℕ) → IsWoven [] text → Some (record { serving = s; entries = []; text = text }) ≡ Some x → Goal
    said text woven q =
        let same : record { serving = s; entries = []; text = text } ≡ x = some_is (record { serving = s; entries = []; text = text }) x q in
        subst (λ (y : Served). HasKept stated y.serving later first new) same
        (kept_said stated s kept first now h text later new woven stays (subst (λ (y : Served). Adds y.entries kept later) (sym same) adds) (subst (λ (y : Served). Writes now new y.text) (sym same) w))

    by_fits : (en : Entry) → IsTimelyEntry s.standing.state en → (b : Bool) → leb ((run_with s en).state.taken + s.others + 1) s.most ≡ b → served_if b s en ≡ Some x → Goal
    by_fits en t false f q = absurd (cc)
    by_fits en t true f q =
        let same : record { serving = go_with s en; entries = works_with s en; text = lines_of_messages (run_with s en).out } ≡ x =
        some_is (record { serving = go_with s en; entries = works_with s en; text = lines_of_messages (run_with s en).out }) x q in
        subst (λ (y : Served). HasKept stated y.serving later first new) same
        (kept_entry stated s kept first now h en t f later new stays (subst (λ (y : Served). Adds y.entries kept later) (sym same) adds) (subst (λ (y : Served). Writes now new y.text) (sym same) w))

    by_received : (r : Received) → IsTimely s.standing.state r → answered r s number ≡ Some x → Goal
    by_received Received.Nothing t q = said [] woven_none q
    by_received (Received.Fault fault) t q = said (payload number fault) (woven_fault number fault) q
    by_received (Received.Entry en) t q = by_fits en t (leb ((run_with s en).state.taken + s.others + 1) s.most) refl q

-- its entries are a run behind those before
pub answer_run : (stated : List Entry) (s : Serving) (kept : Option Kept) (first now : Option (List ℕ)) (number : ℕ) (line : List ℕ) (x : Served) (h : HasKept stated s kept first now) → serve s number line ≡ Some x
    → IsRun s.standing.setting (points_at s) (base_of stated s) (h.more ++ x.entries)
unfolding entered
answer_run stated s kept first now number line x h e = by_received (received s.standing.state line) (timely s.standing.state line) e
  where
    Goal : List Entry → Type 0
    Goal es = IsRun s.standing.setting (points_at s) (base_of stated s) (h.more ++ es)

    some_is : (a b : Served) → Some a ≡ Some b → a ≡ b
    some_is a b q = cc

    said : (text : List ℕ) → Some (record { serving = s; entries = []; text = text }) ≡ Some x → Goal x.entries
    said text q =
        subst (λ (y : Served). Goal y.entries) (some_is (record { serving = s; entries = []; text = text }) x q)
        (subst (λ (es : List Entry). IsRun s.standing.setting (points_at s) (base_of stated s) es) (sym (append-nil h.more)) h.run)

    by_fits : (en : Entry) → IsTimelyEntry s.standing.state en → (b : Bool) → served_if b s en ≡ Some x → Goal x.entries
    by_fits en t false q = absurd (cc)
    by_fits en t true q =
        subst (λ (y : Served). Goal y.entries) (some_is (record { serving = go_with s en; entries = works_with s en; text = lines_of_messages (run_with s en).out }) x q) (run_more stated s kept first now h en t)

    by_received : (r : Received) → IsTimely s.standing.state r → answered r s number ≡ Some x → Goal x.entries
    by_received Received.Nothing t q = said [] q
    by_received (Received.Fault fault) t q = said (payload number fault) q
    by_received (Received.Entry en) t q = by_fits en t (leb ((run_with s en).state.taken + s.others + 1) s.most) q

-- an answer leaves setting and points as they are
pub answer_home : (s : Serving) (number : ℕ) (line : List ℕ) (x : Served) → serve s number line ≡ Some x → (x.serving.standing.setting ≡ s.standing.setting) × (points_at x.serving ≡ points_at s)
unfolding entered
answer_home s number line x e = by_received (received s.standing.state line) e
  where
    Goal : Serving → Type 0
    Goal t = (t.standing.setting ≡ s.standing.setting) × (points_at t ≡ points_at s)

    some_is : (a b : Served) → Some a ≡ Some b → a ≡ b
    some_is a b q = cc

    by_fits : (en : Entry) (b : Bool) → served_if b s en ≡ Some x → Goal x.serving
    by_fits en false q = absurd (cc)
    by_fits en true q = subst (λ (y : Served). Goal y.serving) (some_is (record { serving = go_with s en; entries = works_with s en; text = lines_of_messages (run_with s en).out }) x q) (refl, refl)

    by_received : (r : Received) → answered r s number ≡ Some x → Goal x.serving
    by_received Received.Nothing q = subst (λ (y : Served). Goal y.serving) (some_is (record { serving = s; entries = []; text = [] }) x q) (refl, refl)
    by_received (Received.Fault fault) q = subst (λ (y : Served). Goal y.serving) (some_is (record { serving = s; entries = []; text = payload number fault }) x q) (refl, refl)
    by_received (Received.Entry en) q = by_fits en (leb ((run_with s en).state.taken + s.others + 1) s.most) q

---- What a crash leaves

abbrev pub ok : List Entry → Reading
ok es = Ok es

none_told : (h : History) → Some h ≡ None → ⊥
none_told h e = cc

-- a file of a run's entries stands for the first of their messages
pub stands : (setting : Setting) (stp_of : List ℕ → Option ℕ) (reading : List ℕ → Reading) (stated more : List Entry) (messages : List Message) (file lines : List ℕ) → All IsPrintableEntry stated → IsRun setting stp_of (replayed setting stp_of stated) more
    → reading file ≡ Ok (stated ++ more) → AreFirstOf messages (after_all setting stp_of (replayed setting stp_of stated) more).out → IsWoven messages lines → StandsFor setting stp_of reading stated file lines
stands setting stp_of reading stated more messages file lines printable run read first woven = record {
  more = more;
  recovered = read;
  run = run;
  safe = every_run_safe setting stp_of (replayed setting stp_of stated) more (good_replayed setting stp_of stated printable) run;
  messages = messages;
  first = first;
  woven = woven;
}

all_first : (messages : List Message) → AreFirstOf messages messages
all_first messages = ([], sym (append-nil messages))

-- all that was written are whole lines
pub told_whole : (whole : Bool) (name lines : List ℕ) → IsToldBy whole name lines lines
told_whole true name lines = refl
told_whole false name lines = ([], last_none refl, length lines, sym (ap (take (length lines)) (append-nil lines) ∙ take_all lines))
  where
    take_all : (xs : List ℕ) → take (length xs) xs ≡ xs
    take_all [] = refl
    take_all (x ∷ xs) = ap (λ ys. x ∷ ys) (take_all xs)

-- a front of the last line stands behind them
pub told_front : (name lines last : List ℕ) (k : ℕ) → IsLast name last → IsFrontOf name lines (lines ++ take k last)
told_front name lines last k is = let b = front_behind lines last k in (last, is, b.0, b.1)

module _ (reading : List ℕ → Reading) (stated : List Entry) (s : Serving) (kept : Option Kept) (first now : Option (List ℕ)) (h : HasKept stated s kept first now) (history : Option History) (told : kept ≡ None → history ≡ None) where
  abbrev LeavesNow : Bool → Option (List ℕ) → Type 0
  LeavesNow whole new = LeavesTold whole s.standing.setting (points_at s) reading stated history first new

  abbrev HasText : Option (List ℕ) → Type 0
  HasText f = IfSome f (λ c. (t : List ℕ) × IsWoven (made_by stated s h.more).out t × (now ≡ Some (c ++ t)))

  abbrev HasEntries : Option Kept → Type 0
  HasEntries k = IfSome k (λ x. (x.synced ≡ stated ++ h.more) × (x.waiting ≡ []))

  -- a file of what was kept stands for all that was written
  stands_now : (k : Kept) (file text : List ℕ) → reading file ≡ Ok k.synced → k.synced ≡ stated ++ h.more → IsWoven (made_by stated s h.more).out text → StandsFor s.standing.setting (points_at s) reading stated file text
  stands_now k file text read is woven =
      stands s.standing.setting (points_at s) reading stated h.more (made_by stated s h.more).out file text h.printable h.run (read ∙ ap (λ (es : List Entry). ok es) is) (all_first (made_by stated s h.more).out) woven

  -- nothing more is written
  pub leaves_kept : (whole : Bool) → MayLeaveSynced reading kept history → LeavesNow whole now
  leaves_kept whole l = by_told first kept history h.text h.kept_is told l
    where
      by_told : (f : Option (List ℕ)) (k : Option Kept) (o : Option History) → HasText f → HasEntries k → (k ≡ None → o ≡ None) → MayLeaveSynced reading k o → LeavesTold whole s.standing.setting (points_at s) reading stated o f now
      by_told None k o t is e l = tt
      by_told (Some c) k None t is e l = tt
      by_told (Some c) None (Some x) t is e l = absurd (none_told x (e refl))
      by_told (Some c) (Some k) (Some x) t is e l = λ file leaves. (t.0, stands_now k file t.0 (l file leaves) is.0 t.1, t.0, t.2, told_whole whole s.standing.setting.name t.0)

  -- a front of a last line is written
  pub leaves_last : (last : List ℕ) (new : Option (List ℕ)) → IsLast s.standing.setting.name last → WritesFront now new last → MayLeaveSynced reading kept history → LeavesNow false new
  leaves_last last new is w l = by_told first kept history h.text h.kept_is told l
    where
      by_told : (f : Option (List ℕ)) (k : Option Kept) (o : Option History) → HasText f → HasEntries k → (k ≡ None → o ≡ None) → MayLeaveSynced reading k o → LeavesTold false s.standing.setting (points_at s) reading stated o f new
      by_told None k o t is_kept e l = tt
      by_told (Some c) k None t is_kept e l = tt
      by_told (Some c) None (Some x) t is_kept e l = absurd (none_told x (e refl))
      by_told (Some c) (Some k) (Some x) t is_kept e l =
          let v = subst (λ o. WritesFront o new last) t.2 w in
          λ file leaves. (
            t.0,
            stands_now k file t.0 (l file leaves) is_kept.0 t.1,
            t.0 ++ take v.0 last,
            v.1 ∙ ap (λ y. Some y) (append_assoc c t.0 (take v.0 last)),
            told_front s.standing.setting.name t.0 last v.0 is,
          )

  -- a batch is kept whole or not at all, and nothing is written for it
  pub leaves_with : (whole : Bool) (es : List Entry) → IsRun s.standing.setting (points_at s) (base_of stated s) (h.more ++ es) → MayLeaveWith reading es kept history → LeavesNow whole now
  leaves_with whole es run l = by_told first kept history h.text h.kept_is told l
    where
      by_told : (f : Option (List ℕ)) (k : Option Kept) (o : Option History) → HasText f → HasEntries k → (k ≡ None → o ≡ None) → MayLeaveWith reading es k o → LeavesTold whole s.standing.setting (points_at s) reading stated o f now
      by_told None k o t is e l = tt
      by_told (Some c) k None t is e l = tt
      by_told (Some c) None (Some o) t is e l = absurd (none_told o (e refl))
      by_told (Some c) (Some k) (Some o) t is e l = λ file leaves. (t.0, by_file file (l file leaves), t.0, t.2, told_whole whole s.standing.setting.name t.0)
        where
          by_file : (file : List ℕ) → ReadsOneOf reading k.synced es file → StandsFor s.standing.setting (points_at s) reading stated file t.0
          by_file file (inl read) = stands_now k file t.0 read is.0 t.1
          by_file file (inr read) =
              stands s.standing.setting (points_at s) reading stated (h.more ++ es) (made_by stated s h.more).out file t.0 h.printable run
              (read ∙ ap (λ (xs : List Entry). ok xs) (ap (λ (xs : List Entry). xs ++ es) is.0 ∙ append_assoc stated h.more es))
              ((after_all s.standing.setting (points_at s) (made_by stated s h.more).state es).out, after_all_out s.standing.setting (points_at s) (base_of stated s) h.more es) t.1

-- the batch is kept, and a front of what it causes is written
pub leaves_front : (reading : List ℕ → Reading) (stated : List Entry) (s : Serving) (kept : Option Kept) (first now new : Option (List ℕ)) (history : Option History) (number : ℕ) (line : List ℕ) (x : Served) (h : HasKept stated s kept first now)
    → serve s number line ≡ Some x → (with_added x.entries kept ≡ None → history ≡ None) → WritesFront now new x.text → MayLeaveSynced reading (with_added x.entries kept) history
    → LeavesTold false s.standing.setting (points_at s) reading stated history first new
leaves_front reading stated s kept first now new history number line x h e told w l =
    let home = answer_home s number line x e in
    subst (λ p. LeavesTold false s.standing.setting p reading stated history first new) home.1
    (subst (λ p. LeavesTold false p (points_at x.serving) reading stated history first new) home.0 (by_told first (with_added x.entries kept) history h.text has.text has.kept_is told l))
  where
    behind : List ℕ → List ℕ
    behind c = c ++ x.text

    writes : (o : Option (List ℕ)) → Writes o (option_map behind o) x.text
    writes None = tt
    writes (Some c) = refl

    adds : (k : Option Kept) → Adds x.entries k (with_added x.entries k)
    adds None = tt
    adds (Some k) = refl

    has : HasKept stated x.serving (with_added x.entries kept) first (option_map behind now)
    has = kept_answer stated s kept (with_added x.entries kept) first now (option_map behind now) number line x h e (λ q. ap (with_added x.entries) q) (adds kept) (writes now)

    some_is : (a b : List ℕ) → Some a ≡ Some b → a ≡ b
    some_is a b q = cc

    cons_is : (x y : ℕ) (a b : List ℕ) → x ∷ a ≡ y ∷ b → a ≡ b
    cons_is x y a b q = cc

    cancel : (c a b : List ℕ) → c ++ a ≡ c ++ b → a ≡ b
    cancel [] a b q = q
    cancel (y ∷ c) a b q = cancel c a b (cons_is y y (c ++ a) (c ++ b) q)

    by_told : (f : Option (List ℕ)) (k : Option Kept) (o : Option History) → IfSome f (λ c. (t : List ℕ) × IsWoven (made_by stated s h.more).out t × (now ≡ Some (c ++ t)))
        → IfSome f (λ c. (t : List ℕ) × IsWoven (made_by stated x.serving has.more).out t × (option_map behind now ≡ Some (c ++ t)))
        → IfSome k (λ z. (z.synced ≡ stated ++ has.more) × (z.waiting ≡ [])) → (k ≡ None → o ≡ None) → MayLeaveSynced reading k o → LeavesTold false x.serving.standing.setting (points_at x.serving) reading stated o f new
    by_told None k o t u is q l = tt
    by_told (Some c) k None t u is q l = tt
    by_told (Some c) None (Some o) t u is q l = absurd (none_told o (q refl))
    by_told (Some c) (Some k) (Some o) t u is q l =
        let all : t.0 ++ x.text ≡ u.0 = cancel c (t.0 ++ x.text) u.0 (sym (append_assoc c t.0 x.text) ∙ some_is ((c ++ t.0) ++ x.text) (c ++ u.0) (sym (ap (option_map behind) t.2) ∙ u.2)) in
        let v = subst (λ o. WritesFront o new x.text) t.2 w in
        let b = front_behind t.0 x.text v.0 in
        λ file leaves. (
          u.0,
          stands x.serving.standing.setting (points_at x.serving) reading stated has.more (made_by stated x.serving has.more).out file u.0 has.printable has.run (l file leaves ∙ ap (λ (es : List Entry). ok es) is.0)
              (all_first (made_by stated x.serving has.more).out) u.1,
          t.0 ++ take v.0 x.text,
          v.1 ∙ ap (λ y. Some y) (append_assoc c t.0 (take v.0 x.text)),
          ([], last_none refl, b.0, b.1 ∙ ap (take b.0) (all ∙ sym (append-nil u.0))),
        )

---- A line

-- the whole is a front of itself
pub whole_front : (content new : Option (List ℕ)) (text : List ℕ) → Writes content new text → WritesFront content new text
whole_front None new text w = tt
whole_front (Some c) new text w = (length text, w ∙ ap (λ t. Some (c ++ t)) (sym (take_whole text)))
  where
    take_whole : (xs : List ℕ) → take (length xs) xs ≡ xs
    take_whole [] = refl
    take_whole (x ∷ xs) = ap (λ ys. x ∷ ys) (take_whole xs)

no_added : (es : List Entry) (kept : Option Kept) → with_added es kept ≡ None → kept ≡ None
no_added es None e = refl
no_added es (Some k) e = absurd (cc)

-- what is added is what is kept then
added_is : (more : List Entry) (kept later : Option Kept) → (kept ≡ None → later ≡ None) → Adds more kept later → later ≡ with_added more kept
added_is more None later stays a = stays refl
added_is more (Some k) later stays a = a

module _ (setting : Setting) (stp_of : List ℕ → Option ℕ) (reading : List ℕ → Reading) (stated : List Entry) (s : Serving) (kept : Option Kept) (first content : Option (List ℕ)) (at : KeepsAt setting stp_of stated s kept first content) (history : Option History)
    (told : kept ≡ None → history ≡ None) where
  at_home : (whole : Bool) (new : Option (List ℕ)) → LeavesTold whole s.standing.setting (points_at s) reading stated history first new → LeavesTold whole setting stp_of reading stated history first new
  at_home whole new l =
      subst (λ p. LeavesTold whole setting p reading stated history first new) at.points_are (subst (λ h. LeavesTold whole h (points_at s) reading stated history first new) at.setting_is l)

  -- nothing is kept and nothing is written
  pub rests_kept : (whole : Bool) (new : Option (List ℕ)) → new ≡ content → MayLeaveSynced reading kept history → LeavesTold whole setting stp_of reading stated history first new
  rests_kept whole new same l =
      at_home whole new (subst (λ o. LeavesTold whole s.standing.setting (points_at s) reading stated history first o) (sym same) (leaves_kept reading stated s kept first content at.has history told whole l))

  -- a front of a last line is written
  pub last_kept : (last : List ℕ) (new : Option (List ℕ)) → IsLast s.standing.setting.name last → WritesFront content new last → MayLeaveSynced reading kept history → LeavesTold false setting stp_of reading stated history first new
  last_kept last new is w l = at_home false new (leaves_last reading stated s kept first content at.has history told last new is w l)

  pub long_kept : (r : Result (Option Ending) Halt) (t : Serving) (later : Option Kept) (new : Option (List ℕ)) → IfOk r (λ o. o ≡ Some Ending.Long) → OnOk r (Writes content new long_line) → OnErr r (WritesFront content new long_line)
      → IfErr r (λ halt. is_whole halt ≡ false) → MayLeaveSynced reading kept history → KeepsOn setting stp_of reading stated r t later history first new
  long_kept (Ok o) t later new e all front cut l =
      subst (λ x. KeepsOn setting stp_of reading stated (Ok x) t later history first new) (sym e) (last_kept long_line new (last_long refl) (whole_front content new long_line all) l)
  long_kept (Err halt) t later new e all front cut l =
      subst (λ b. LeavesTold b setting stp_of reading stated history first new) (sym cut) (last_kept long_line new (last_long refl) front l)

  pub line_kept : (number : ℕ) (line : List ℕ) (o : Option Answer) (t : Serving) (r : Result (Option Ending) Halt) (later : Option Kept) (new : Option (List ℕ)) → serve s number line ≡ option_map (with_answer t) o → (kept ≡ None → later ≡ None)
      → IfOk r (λ e. e ≡ ending_of o) → OnOk r (Writes content new (text_of o)) → OnErr r (WritesFront content new (text_of o)) → KeepsAnswer reading o r kept later history content new
      → KeepsOn setting stp_of reading stated r t later history first new
  line_kept number line (Some a) t (Ok e) later new is stays ends all front k =
      let home = answer_home s number line (with_answer t a) is in
      subst (λ x. KeepsOn setting stp_of reading stated (Ok x) t later history first new) (sym ends) (record {
        setting_is = home.0 ∙ at.setting_is;
        points_are = home.1 ∙ at.points_are;
        has = kept_answer stated s kept later first content new number line (with_answer t a) at.has is stays k all;
      })
  line_kept number line (Some a) t (Err halt) later new is stays ends all front (inl k) =
      at_home (is_whole halt) new (subst (λ o. LeavesTold (is_whole halt) s.standing.setting (points_at s) reading stated history first o) (sym k.0)
      (leaves_with reading stated s kept first content at.has history told (is_whole halt) a.entries.items (answer_run stated s kept first content number line (with_answer t a) at.has is) k.1))
  line_kept number line (Some a) t (Err halt) later new is stays ends all front (inr k) =
      let added = added_is a.entries.items kept later stays k.1 in
      subst (λ b. LeavesTold b setting stp_of reading stated history first new) (sym k.0)
      (at_home false new (leaves_front reading stated s kept first content new history number line (with_answer t a) at.has is (λ e. told (no_added a.entries.items kept e)) front (subst (λ o. MayLeaveSynced reading o history) added k.2)))
  line_kept number line None t (Ok e) later new is stays ends all front k =
      subst (λ x. KeepsOn setting stp_of reading stated (Ok x) t later history first new) (sym ends) (last_kept long_line new (last_long refl) (whole_front content new long_line all) k)
  line_kept number line None t (Err halt) later new is stays ends all front k =
      subst (λ b. LeavesTold b setting stp_of reading stated history first new) (sym k.0) (last_kept long_line new (last_long refl) front k.1)

---- A disk that tells goes on telling

-- a journal that keeps nothing has told nothing
pub untold_now : (kept : Option Kept) (old now : Option History) → is_some kept ≡ is_some old → is_some now ≡ is_some old → kept ≡ None → now ≡ None
untold_now kept None None e f k = refl
untold_now kept None (Some h) e f k = absurd (cc)
untold_now None (Some h) now e f k = absurd (cc)
untold_now (Some x) (Some h) now e f k = absurd (cc)

pub untold_later : (kept later : Option Kept) (old now : Option History) → is_some kept ≡ is_some old → is_some later ≡ is_some now → is_some now ≡ is_some old → kept ≡ None → later ≡ None
untold_later kept later old now e f same k = none_later later now f (untold_now kept old now e same k)
  where
    none_later : (l : Option Kept) (n : Option History) → is_some l ≡ is_some n → n ≡ None → l ≡ None
    none_later None n f e = refl
    none_later (Some x) None f e = absurd (cc)
    none_later (Some x) (Some h) f e = absurd (cc)
