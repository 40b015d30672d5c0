-- A message that comes for the first time is noted: a request among those that were taken, all else among what was heard.
use Rattle.std.proofs.Common.{ℕ, ◌≤◌, ◌≡◌, Bool, true, false, cond, List, ◌⊎◌, inl, inr, refl, arith}
use Rattle.nsi_primitive.specs.Messages.{identity, is_request}
use Rattle.nsi_primitive.specs.declared.message.Header.{Header}
use Rattle.nsi_primitive.specs.declared.message.Message.{Message}
use Rattle.message_retry.specs.Retry.{Retry, is_heard, with_heard, is_old, saw_if, saw}
use Rattle.message_retry.specs.Taken.{is_taken, with_taken}
use Rattle.connection_record.specs.Speaking.{is_asking, is_answering}
use Rattle.agent_speech.specs.Owing.{took}
use Rattle.agent_speech.specs.Unanswered.{answers_at, was_answered}
use Rattle.agent_speech.proofs.Measures.{taken_still}
use Rattle.agent_speech.proofs.Answering.{no_answer}

pub saw_heard : (m : Message) (t : Retry) → ((saw m t).heard ≡ t.heard) ⊎ ((saw m t).heard ≡ with_heard (identity m) t.heard)
unfolding saw
saw_heard m t = by (is_request m.body)
  where
    by : (b : Bool) → ((saw_if b m t).heard ≡ t.heard) ⊎ ((saw_if b m t).heard ≡ with_heard (identity m) t.heard)
    by true = inl refl
    by false = inr refl

pub saw_took : (h : Header) (m : Message) (t : Retry) → took h t.seen ≤ took h (saw m t).seen
unfolding saw
saw_took h m t = by (is_request m.body)
  where
    by : (b : Bool) → took h t.seen ≤ took h (saw_if b m t).seen
    by true = taken_still h m.header t.seen
    by false = omega arith

asks_no_answer : (p : List ℕ) (c : ℕ) (m : Message) → is_request m.body ≡ true → answers_at p c m ≡ false
unfolding is_answering is_asking
asks_no_answer p c m e = grind (arith, e)

-- what leaves something unanswered is no answer to it
pub saw_leaves : (p : List ℕ) (c : ℕ) (m : Message) (t : Retry) → is_old m t ≡ false → was_answered p c (saw m t).heard ≡ false → answers_at p c m ≡ false
unfolding saw is_old
saw_leaves p c m t old n = by (is_request m.body) refl old n
  where
    by : (b : Bool) → is_request m.body ≡ b → cond b (is_taken m.header t.seen) (is_heard (identity m) t.heard) ≡ false → was_answered p c (saw_if b m t).heard ≡ false → answers_at p c m ≡ false
    by true e o h = asks_no_answer p c m e
    by false e o h = no_answer p c m t.heard o h

-- a request that comes for the first time
pub new_request : (m : Message) (t : Retry) → is_request m.body ≡ true → is_old m t ≡ false → is_taken m.header t.seen ≡ false
unfolding is_old
new_request m t e old = by (is_request m.body) e old
  where
    by : (b : Bool) → b ≡ true → cond b (is_taken m.header t.seen) (is_heard (identity m) t.heard) ≡ false → is_taken m.header t.seen ≡ false
    by true q o = o
    by false q o = absurd (cc)

pub saw_request : (m : Message) (t : Retry) → is_request m.body ≡ true → (saw m t).seen ≡ with_taken m.header t.seen
unfolding saw
saw_request m t e = by (is_request m.body) e
  where
    by : (b : Bool) → b ≡ true → (saw_if b m t).seen ≡ with_taken m.header t.seen
    by true q = refl
    by false q = absurd (cc)

pub saw_request_heard : (m : Message) (t : Retry) → is_request m.body ≡ true → (saw m t).heard ≡ t.heard
unfolding saw
saw_request_heard m t e = by (is_request m.body) e
  where
    by : (b : Bool) → b ≡ true → (saw_if b m t).heard ≡ t.heard
    by true q = refl
    by false q = absurd (cc)

pub saw_other : (m : Message) (t : Retry) → is_request m.body ≡ false → (saw m t).seen ≡ t.seen
unfolding saw
saw_other m t e = by (is_request m.body) e
  where
    by : (b : Bool) → b ≡ false → (saw_if b m t).seen ≡ t.seen
    by true q = absurd (cc)
    by false q = refl
