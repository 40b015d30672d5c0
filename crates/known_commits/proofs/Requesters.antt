-- Each entry of a requester: what it has heard stays heard, what its views hear is noted, and a view waits on for each confirmation.
use Rattle.std.proofs.Common.{ℕ, ◌≡◌, ◌∙◌, ◌⊎◌, inl, inr, ◌&&◌, ◌||◌, ◌==◌, Bool, true, false, cond, List, [], ◌∷◌, ◌++◌, refl, sym, ap, subst, eq-eqb}
use Rattle.std.specs.List.{list_any}
use Rattle.std.specs.Str.{bytes_eq}
use Rattle.std.proofs.lemmas.List.Folds.{list_any-append}
use Rattle.nsi_primitive.specs.Kinds.{kind_number}
use Rattle.std.proofs.lemmas.Bool.{cases_eq}
use Rattle.nsi_primitive.specs.Ids.{id_of}
use Rattle.nsi_primitive.specs.Messages.{identity, is_request}
use Rattle.nsi_primitive.specs.declared.entry.Entry.{Entry}
use Rattle.nsi_primitive.specs.declared.entry.Input.{Input}
use Rattle.nsi_primitive.specs.declared.message.Identity.{Identity}
use Rattle.nsi_primitive.specs.declared.message.Message.{Message}
use Rattle.message_retry.specs.Retry.{is_heard, is_old, is_same_identity, saw, saw_if, with_heard}
use Rattle.agent_state.specs.Entries.{retry_of}
use Rattle.agent_state.specs.State.{AgentState, AgentStepped, counts_agent}
use Rattle.agent_state.specs.declared.parent.View.{View}
use Rattle.requester_agent.specs.Setting.{Setting}
use Rattle.requester_agent.specs.Steps.{after, after_if, hears_if, may_take, step}
use Rattle.nsi_agent.specs.Homes.{Role, requests}
use Rattle.nsi_agent.specs.Said.{name_in}
use Rattle.nsi_agent.specs.Steps.{after_as}
use Rattle.agent_speech.specs.Unanswered.{HeardBy}
use Rattle.agent_speech.proofs.Every.{every_step}
use Rattle.connection_record.specs.Speaking.{is_answering}
use Rattle.run_growth.proofs.Sent.{answer_asks}
use Rattle.child_connection.specs.Holding.{IsHeeded}
use Rattle.circuit_link.specs.Children.{Child, MayReach}
use Rattle.circuit_link.specs.Headers.{header_of}
use Rattle.circuit_link.proofs.Abouts.{same_bytes}
use Rattle.circuit_pairs.specs.Minding.{view_in}
use Rattle.circuit_pairs.specs.Pairs.{IsPair}
use Rattle.circuit_pairs.proofs.Requesters.{requester_minds}
use Rattle.circuit_laws.proofs.Roles.{views_to}
use Rattle.known_commits.proofs.Hearing.{minded_waited}
use Rattle.known_commits.proofs.Others.{committed_stays}
use Rattle.known_commits.proofs.Waiting.{AreWaited}

---- Identities that were heard

one_more : (p : Identity → Bool) (heard : List Identity) (i : Identity) → (list_any p heard || p i) ≡ true → list_any p (heard ++ i ∷ []) ≡ true
one_more p heard i h = list_any-append p heard (i ∷ []) ∙ by (list_any p heard) (p i) h
  where
    by : (a b : Bool) → (a || b) ≡ true → (a || (b || false)) ≡ true
    by true b e = refl
    by false true e = refl
    by false false e = absurd (cc)

heard_still : (i j : Identity) (heard : List Identity) → is_heard i heard ≡ true → is_heard i (with_heard j heard) ≡ true
unfolding is_heard with_heard
heard_still i j heard h = by (list_any (is_same_identity j) heard)
  where
    by : (b : Bool) → list_any (is_same_identity i) (cond b heard (heard ++ j ∷ [])) ≡ true
    by true = h
    by false = one_more (is_same_identity i) heard j (ap (λ (a : Bool). a || is_same_identity i j) h)

same_identity : (i : Identity) → is_same_identity i i ≡ true
same_identity i = by (bytes_eq i.requester i.requester) (bytes_eq i.provider i.provider) (i.correlation == i.correlation) (kind_number i.kind == kind_number i.kind) (same_bytes i.requester) (same_bytes i.provider) (eq-eqb i.correlation i.correlation refl) (eq-eqb (kind_number i.kind) (kind_number i.kind) refl)
  where
    by : (a b c d : Bool) → a ≡ true → b ≡ true → c ≡ true → d ≡ true → (a && (b && (c && d))) ≡ true
    by a b c d e f g h = rw (e, f, g, h) refl

heard_now : (i : Identity) (heard : List Identity) → is_heard i (with_heard i heard) ≡ true
unfolding is_heard with_heard
heard_now i heard = by (list_any (is_same_identity i) heard) refl
  where
    by : (b : Bool) → list_any (is_same_identity i) heard ≡ b → list_any (is_same_identity i) (cond b heard (heard ++ i ∷ [])) ≡ true
    by true h = h
    by false h = one_more (is_same_identity i) heard i (ap (λ (a : Bool). a || is_same_identity i i) h ∙ same_identity i)

---- An entry

pub heard_grows : (role : Role) (s : AgentState) (e : Entry) (i : Identity) → is_heard i s.base.heard ≡ true → is_heard i (after_as role s e).state.base.heard ≡ true
heard_grows role s e i h = by (every_step role s e).heard
  where
    by : HeardBy s.base.heard e.input (after_as role s e).state.base.heard → is_heard i (after_as role s e).state.base.heard ≡ true
    by (inl same) = ap (is_heard i) same ∙ h
    by (inr (m, got, new)) = ap (is_heard i) new ∙ heard_still i (identity m) s.base.heard h

-- the views rest, or the message is heard
abbrev pub Notes : Message → AgentState → AgentStepped → Type 0
Notes m s x = (x.state.views ≡ s.views) ⊎ (is_heard (identity m) x.state.base.heard ≡ true)

saw_now : (b : Bool) (m : Message) (s : AgentState) → b ≡ false → is_heard (identity m) (saw_if b m (retry_of s.base)).heard ≡ true
saw_now false m s e = heard_now (identity m) s.base.heard
saw_now true m s e = absurd (cc)

hears_notes : (b : Bool) (m : Message) (s : AgentState) → is_request m.body ≡ false → Notes m s (counts_agent (hears_if b m s))
unfolding hears_if saw
hears_notes true m s e = inl refl
hears_notes false m s e = inr (saw_now (is_request m.body) m s e)

step_notes : (setting : Setting) (s : AgentState) (second : ℕ) (m : Message) → is_request m.body ≡ false → Notes m s (counts_agent (step (Input.Got m) second setting s))
unfolding step
step_notes setting s second m e = hears_notes (is_old m (retry_of s.base)) m s e

pub requester_notes : (setting : Setting) (s : AgentState) (e : Entry) (m : Message) → e.input ≡ Input.Got m → is_request m.body ≡ false → Notes m s (after setting s e)
unfolding after
requester_notes setting s e m got asks = by (may_take s e)
  where
    by : (b : Bool) → Notes m s (after_if b setting s e)
    by true = subst (λ (i : Input). Notes m s (counts_agent (step i e.second setting s))) (sym got) (step_notes setting s e.second m asks)
    by false = inl refl

---- Its views and the agent that it asks

-- an entry of an agent with a role keeps what is awaited
abbrev pub KeepsWaited : Role → List ℕ → Type 0
KeepsWaited role child =
    (d : Child) (asked : List Message) (s : AgentState) (e : Entry) →
    ((m : Message) → e.input ≡ Input.Got m → is_answering m.body ≡ true → m.header.provider ≡ child →
    (m.header.requester ≡ name_in role) × MayReach (header_of (name_in role) child m.header.correlation) d.said m.body) →
    IsPair ℕ (name_in role) child (views_to child s) asked d → AreWaited ℕ (name_in role) child s.base.heard (views_to child s) d →
    AreWaited ℕ (name_in role) child (after_as role s e).state.base.heard (views_to child (after_as role s e).state) d

requester_waits : (setting : Setting) → KeepsWaited (requests setting) setting.provider
unfolding after_as
requester_waits setting d asked s e reach pair waited =
    minded_waited ℕ cases_eq setting.name setting.provider asked d (id_of setting.number s.base.next) e.input (view_in setting.provider s.views) (view_in setting.provider (after setting s e).state.views)
    (after setting s e).out (requester_minds setting s e pair.children) pair reach s.base.heard (after setting s e).state.base.heard (λ i h. heard_grows (requests setting) s e i h) notes waited
  where
    notes : (m : Message) → e.input ≡ Input.Got m → is_answering m.body ≡ true →
        ((i : ℕ) → view_in setting.provider (after setting s e).state.views i ≡ view_in setting.provider s.views i) ⊎ (is_heard (identity m) (after setting s e).state.base.heard ≡ true)
    notes m got answers = by (requester_notes setting s e m got (answer_asks m answers))
      where
        by : Notes m s (after setting s e) → ((i : ℕ) → view_in setting.provider (after setting s e).state.views i ≡ view_in setting.provider s.views i) ⊎ (is_heard (identity m) (after setting s e).state.base.heard ≡ true)
        by (inl same) = inl (λ i. ap (λ (vs : List View). view_in setting.provider vs i) same)
        by (inr now) = inr now

pub role_waits : (role : Role) (setting : Setting) (child : List ℕ) → role ≡ requests setting → setting.provider ≡ child → KeepsWaited role child
role_waits role setting child e p = subst (λ (r : Role). KeepsWaited r child) (sym e) (subst (KeepsWaited (requests setting)) p (requester_waits setting))

-- but for a view that listens to its correlation, a message leaves what the views have as committed
abbrev pub KeepsCommitted : Role → List ℕ → Type 0
KeepsCommitted role child =
    (d : Child) (asked : List Message) (s : AgentState) (second : ℕ) (m : Message) (i : ℕ) → IsPair ℕ (name_in role) child (views_to child s) asked d → IsHeeded (views_to child s i) m.header.correlation →
    (j : ℕ) → (j ≡ i → ⊥) → (views_to child (after_as role s (record { second = second; input = Input.Got m })).state j).committed ≡ (views_to child s j).committed

requester_keeps : (setting : Setting) → KeepsCommitted (requests setting) setting.provider
unfolding after_as
requester_keeps setting d asked s second m i pair heeds j apart =
    let e : Entry = record { second = second; input = Input.Got m } in
    committed_stays ℕ cases_eq setting.name setting.provider asked d (view_in setting.provider s.views) pair m i heeds j apart (id_of setting.number s.base.next) (Input.Got m)
    (view_in setting.provider (after setting s e).state.views) (after setting s e).out refl (requester_minds setting s e pair.children)

pub role_keeps : (role : Role) (setting : Setting) (child : List ℕ) → role ≡ requests setting → setting.provider ≡ child → KeepsCommitted role child
role_keeps role setting child e p = subst (λ (r : Role). KeepsCommitted r child) (sym e) (subst (KeepsCommitted (requests setting)) p (requester_keeps setting))
