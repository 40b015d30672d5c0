-- What lines make of a provider that serves them.
use Rattle.std.proofs.Common.{◌≡◌, ◌+◌, ℕ, List, [], ◌∷◌, ◌++◌, length, map, Option, None, Ok, Err, refl, sym, ap, ◌∙◌, subst, append_assoc, append-nil, arith}
use Rattle.std.specs.List.{concat, flat_map}
use Rattle.std.proofs.lemmas.Grind.{flat_map-append}
use Rattle.std.proofs.lemmas.List.{map-append}
use Rattle.std.proofs.lemmas.List.Folds.{concat-append}
use Rattle.nsi_primitive.specs.declared.entry.Entry.{Entry}
use Rattle.nsi_primitive.specs.declared.message.Message.{Message}
use Rattle.provide_command.specs.declared.payload.PayloadFault.{PayloadFault}
use Rattle.json_primitives.specs.Spelling.{spelling}
use Rattle.provider_agent.specs.Setting.{Setting}
use Rattle.provider_agent.specs.Runs.{after_all}
use Rattle.provider_agent.specs.Safety.{IsRun}
use Rattle.provider_agent.specs.Good.{IsGood}
use Rattle.provider_agent.specs.State.{State}
use Rattle.provider_agent.specs.Steps.{after, waiting_work}
use Rattle.provider_agent.proofs.GoodAfter.{good_after}
use Rattle.provider_agent.proofs.RunsSafe.{after_all_append, after_all_out}
use Rattle.provider_run.proofs.Working.{taken_after}
use Rattle.provider_run.proofs.WorkRuns.{run_append}
use Rattle.provide_command.specs.Receiving.{received}
use Rattle.provide_command.specs.Lines.{as_line, lines_of_messages, payload, long_line}
use Rattle.provide_command.specs.Runs.{entries_of, run_of, piece_text, said, IsWoven}
use Rattle.provide_command.specs.declared.receiving.Received.{Received}
use Rattle.provide_command.specs.declared.status.Status.{Status}

---- Entries one after another

-- each entry of a run counts
pub taken_all : (setting : Setting) (stp_of : List ℕ → Option ℕ) (s : State) (es : List Entry) → IsRun setting stp_of s es → (after_all setting stp_of s es).state.taken ≡ s.taken + length es
unfolding after_all
taken_all setting stp_of s [] run = omega arith
taken_all setting stp_of s (e ∷ es) run = omega (arith, taken_all setting stp_of (after setting stp_of s e).state es run.2, taken_after setting stp_of s e run.1)

pub good_all : (setting : Setting) (stp_of : List ℕ → Option ℕ) (s : State) (es : List Entry) → IsGood setting s → IsRun setting stp_of s es → IsGood setting (after_all setting stp_of s es).state
unfolding after_all
good_all setting stp_of s [] good run = good
good_all setting stp_of s (e ∷ es) good run = good_all setting stp_of (after setting stp_of s e).state es (good_after setting stp_of s e good run.0) run.2

---- Texts

pub woven_none : IsWoven [] []
woven_none = ([], refl, refl)

pub woven_append : (ms ns : List Message) (x y : List ℕ) → IsWoven ms x → IsWoven ns y → IsWoven (ms ++ ns) (x ++ y)
woven_append ms ns x y w v = (
  w.0 ++ v.0,
  ap (λ a. a ++ ns) w.1 ∙ (ap (λ a. flat_map said w.0 ++ a) v.1 ∙ sym (flat_map-append said w.0 v.0)),
  ap (λ a. a ++ y) w.2 ∙ (ap (λ a. concat (map piece_text w.0) ++ a) v.2 ∙ (sym (concat-append (map piece_text w.0) (map piece_text v.0)) ∙ ap concat (sym (map-append piece_text w.0 v.0)))),
)

pub woven_messages : (ms : List Message) → IsWoven ms (lines_of_messages ms)
woven_messages [] = woven_none
woven_messages (m ∷ ms) = let r = woven_messages ms in (Ok m ∷ r.0, ap (λ (xs : List Message). m ∷ xs) r.1, ap (λ t. as_line (spelling m) ++ t) r.2)

pub woven_fault : (number : ℕ) (fault : PayloadFault) → IsWoven [] (payload number fault)
woven_fault number fault = (Err (number, fault) ∷ [], refl, sym (append-nil (payload number fault)))

---- Lines from a state on

-- a run of entries that leaves no work where none waited, and the text of its messages
pub record IsTextOf (setting : Setting) (stp_of : List ℕ → Option ℕ) (s : State) (es : List Entry) (text : List ℕ) : Type 0 where
  pub run : IsRun setting stp_of s es
  pub idle : waiting_work s ≡ None → waiting_work (after_all setting stp_of s es).state ≡ None
  pub woven : IsWoven (after_all setting stp_of s es).out text

pub text_none : (setting : Setting) (stp_of : List ℕ → Option ℕ) (s : State) (text : List ℕ) → IsWoven [] text → IsTextOf setting stp_of s [] text
unfolding after_all
text_none setting stp_of s text w = record { run = tt; idle = λ h. h; woven = w }

pub text_append : (setting : Setting) (stp_of : List ℕ → Option ℕ) (s : State) (es fs : List Entry) (x y : List ℕ) → IsTextOf setting stp_of s es x
    → IsTextOf setting stp_of (after_all setting stp_of s es).state fs y → IsTextOf setting stp_of s (es ++ fs) (x ++ y)
text_append setting stp_of s es fs x y a b = record {
  run = run_append setting stp_of s es fs a.run b.run;
  idle = λ h. ap waiting_work (after_all_append setting stp_of s es fs) ∙ b.idle (a.idle h);
  woven = subst (λ (ms : List Message). IsWoven ms (x ++ y)) (sym (after_all_out setting stp_of s es fs))
      (woven_append (after_all setting stp_of s es).out (after_all setting stp_of (after_all setting stp_of s es).state fs).out x y a.woven b.woven);
}

-- the entries of a line come before those of the lines behind it
pub run_is : (setting : Setting) (stp_of : List ℕ → Option ℕ) (s : State) (line : List ℕ) (lines : List (List ℕ)) (h : Received) → h ≡ received s line
    → run_of setting stp_of s (line ∷ lines) ≡ entries_of setting stp_of s h ++ run_of setting stp_of (after_all setting stp_of s (entries_of setting stp_of s h)).state lines
unfolding run_of
run_is setting stp_of s line lines h e =
    ap (λ x. entries_of setting stp_of s x ++ run_of setting stp_of (after_all setting stp_of s (entries_of setting stp_of s x)).state lines) (sym e)

-- all lines are served, or some of them
pub data ServedFrom (setting : Setting) (stp_of : List ℕ → Option ℕ) (s : State) (lines : List (List ℕ)) (status : Status) (text : List ℕ) : Type 0 where
  all_from : status ≡ Status.Done → IsTextOf setting stp_of s (run_of setting stp_of s lines) text → ServedFrom setting stp_of s lines status text
  some_from : (front back : List (List ℕ)) → (body : List ℕ) → lines ≡ front ++ back → status ≡ Status.Long → IsTextOf setting stp_of s (run_of setting stp_of s front) body → text ≡ body ++ long_line
      → ServedFrom setting stp_of s lines status text

module _ (setting : Setting) (stp_of : List ℕ → Option ℕ) (s : State) (line : List ℕ) (h : Received) (e : h ≡ received s line) (x : List ℕ) (first : IsTextOf setting stp_of s (entries_of setting stp_of s h) x) where
  text_behind : (lines : List (List ℕ)) (y : List ℕ) → IsTextOf setting stp_of (after_all setting stp_of s (entries_of setting stp_of s h)).state (run_of setting stp_of (after_all setting stp_of s (entries_of setting stp_of s h)).state lines) y
      → IsTextOf setting stp_of s (run_of setting stp_of s (line ∷ lines)) (x ++ y)
  text_behind lines y rest =
      subst (λ (es : List Entry). IsTextOf setting stp_of s es (x ++ y)) (sym (run_is setting stp_of s line lines h e))
      (text_append setting stp_of s (entries_of setting stp_of s h) (run_of setting stp_of (after_all setting stp_of s (entries_of setting stp_of s h)).state lines) x y first rest)

  -- one line, and what those behind it make
  pub served_behind : (lines : List (List ℕ)) (status : Status) (text : List ℕ) → ServedFrom setting stp_of (after_all setting stp_of s (entries_of setting stp_of s h)).state lines status text
      → ServedFrom setting stp_of s (line ∷ lines) status (x ++ text)
  served_behind lines status text (all_from done rest) = all_from done (text_behind lines text rest)
  served_behind lines status text (some_from front back body cut long rest whole) =
      some_from (line ∷ front) back (x ++ body) (ap (λ ls. line ∷ ls) cut) long (text_behind front body rest) (ap (λ z. x ++ z) whole ∙ sym (append_assoc x body long_line))
