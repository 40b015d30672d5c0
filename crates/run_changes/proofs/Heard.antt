-- What an agent has heard came by its entries, and each counts once.
use Rattle.std.proofs.Common.{◌≡◌, ◌||◌, ◌∙◌, inl, inr, Bool, true, false, List, [], ◌∷◌, ◌++◌, refl, sym, ap, subst, if◌then◌else◌}
use Rattle.std.specs.List.{All, Contains, list_any}
use Rattle.std.proofs.lemmas.Bool.Decides.{Decides-eqb}
use Rattle.std.proofs.lemmas.Slice.Eq.{bytes_eq-Decides}
use Rattle.std.proofs.lemmas.List.Elements.{All-nil, All-cons, All-head, All-tail, All-push, All-contains_itself}
use Rattle.nsi_primitive.specs.Kinds.{kind_number}
use Rattle.nsi_primitive.specs.Messages.{identity}
use Rattle.nsi_primitive.specs.declared.entry.Entry.{Entry}
use Rattle.nsi_primitive.specs.declared.entry.Input.{Input}
use Rattle.nsi_primitive.specs.declared.message.Identity.{Identity}
use Rattle.nsi_primitive.specs.declared.message.Message.{Message}
use Rattle.message_retry.specs.Retry.{is_same_identity, is_heard, with_heard}
use Rattle.agent_state.specs.State.{AgentState, blank_agent}
use Rattle.nsi_agent.specs.Homes.{Home}
use Rattle.nsi_agent.specs.Steps.{after}
use Rattle.nsi_agent.specs.Told.{goes_on, told}
use Rattle.nsi_world.specs.Worlds.{IsGot}
use Rattle.agent_speech.specs.Unanswered.{HeardBy}
use Rattle.agent_speech.proofs.Every.{every_step}
use Rattle.run_changes.specs.Told.{AreApart}
use Rattle.run_changes.proofs.Lists.{apart_push}

-- one of the entries brings a message of this identity
pub record Came (es : List Entry) (i : Identity) : Type 0 where
  pub message : Message
  pub its : identity message ≡ i
  pub got : IsGot message es

-- each came so, and no two are the same
pub record CameOnce (es : List Entry) (heard : List Identity) : Type 0 where
  pub apart : AreApart heard
  pub came : All (Came es) heard

---- One identity more

identity_itself : (i : Identity) → is_same_identity i i ≡ true
identity_itself i = rw ((bytes_eq-Decides i.requester i.requester).1 refl, (bytes_eq-Decides i.provider i.provider).1 refl, (Decides-eqb i.correlation i.correlation).1 refl, (Decides-eqb (kind_number i.kind) (kind_number i.kind)).1 refl) refl

neither : (a b : Bool) → (a || b) ≡ false → (a ≡ false) × (b ≡ false)
neither true b e = absurd (cc)
neither false b e = (refl, e)

never : (b : Bool) → b ≡ false → b ≡ true → ⊥
never b e f = absurd (cc)

-- what isn't heard differs from all that is
not_among : (i : Identity) (heard : List Identity) → is_heard i heard ≡ false → All (λ j. j ≡ i → ⊥) heard
unfolding is_heard
not_among i [] e = All-nil (λ j. j ≡ i → ⊥)
not_among i (j ∷ js) e =
    let n = neither (is_same_identity i j) (list_any (is_same_identity i) js) e in
    All-cons (λ k. k ≡ i → ⊥) j js (λ same. never (is_same_identity i j) n.0 (ap (is_same_identity i) same ∙ identity_itself i)) (not_among i js n.1)

with_one : (es : List Entry) (m : Message) (heard : List Identity) → IsGot m es → CameOnce es heard → CameOnce es (with_heard (identity m) heard)
unfolding with_heard
with_one es m heard got old = by (is_heard (identity m) heard) refl
  where
    by : (b : Bool) → is_heard (identity m) heard ≡ b → CameOnce es (if b then heard else heard ++ identity m ∷ [])
    by true e = old
    by false e =
        record {
          apart = apart_push heard (identity m) old.apart (not_among (identity m) heard e);
          came = All-push (Came es) heard (identity m) old.came (record { message = m; its = refl; got = got });
        }

---- Entries one after another

entry_heard : (es : List Entry) (e : Entry) (old new : List Identity) → Contains es e → HeardBy old e.input new → CameOnce es old → CameOnce es new
entry_heard es e old new c (inl same) once = subst (CameOnce es) (sym same) once
entry_heard es e old new c (inr (m, got, more)) once =
    let there : Contains es (record { second = e.second; input = Input.Got m }) = subst (λ (input : Input). Contains es (record { second = e.second; input = input })) got c in
    subst (CameOnce es) (sym more) (with_one es m old (record { second = e.second; there = there }) once)

heard_from : (whole : List Entry) (h : Home) (es : List Entry) (s : AgentState) → All (Contains whole) es → CameOnce whole s.base.heard → CameOnce whole (goes_on h s es).state.base.heard
unfolding goes_on
heard_from whole h [] s all once = once
heard_from whole h (e ∷ es) s all once =
    let t : AgentState = (after h s e).state in
    heard_from whole h es t (All-tail (Contains whole) e es all)
    (entry_heard whole e s.base.heard t.base.heard (All-head (Contains whole) e es all) (every_step h.role s e).heard once)

pub heard_once : (h : Home) (es : List Entry) → CameOnce es (told h es).state.base.heard
heard_once h es = heard_from es h es blank_agent (All-contains_itself es) (record { apart = tt; came = All-nil (Came es) })
