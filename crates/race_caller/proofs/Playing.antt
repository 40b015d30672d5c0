-- Acts, one after another.
use Rattle.std.proofs.Common.{◌≡◌, ℕ, List, [], ◌∷◌, ◌++◌, Bool, true, false, Ok, Err, refl, sym, ap, ◌∙◌, subst, inl, inr}
use Rattle.std.specs.Prelude.{Result, Option, IfOk, OnOk}
use Rattle.std.specs.declared.alloc.AllocError.{AllocError}
use Rattle.nsi_primitive.specs.declared.ask.Ask.{Ask}
use Rattle.nsi_primitive.specs.declared.message.Message.{Message}
use Rattle.agent_state.specs.State.{AgentState}
use Rattle.stp_topology.specs.declared.network.Network.{Network}
use Rattle.nsi_script.specs.declared.script.Act.{Act}
use Rattle.race_run.specs.declared.item.Item.{Item}
use Rattle.race_run.specs.declared.replayed.Call.{Call}
use Rattle.race_run.specs.Scripts.{asks_by}
use Rattle.race_caller.specs.declared.asker.Asker.{Asker}
use Rattle.race_caller.specs.declared.asker.Sent.{Sent}
use Rattle.race_caller.specs.Plays.{Plays, IsPlay, IsOwn, begun}
use Rattle.race_caller.specs.Askers.{IsAsker, HasSent, HasAsked, HasFollowed, HasPlayed}
use Rattle.race_caller.specs.Handed.{HandsOver}
use Rattle.race_caller.proofs.Asking.{asked_by, asked_silent, not_asked, played_one, played_none}

pub played_no_acts : (t : Network) (a : ℕ) (x : Asker) (on : Bool) → IsAsker t x → HasPlayed t (asks_by a []) x x on
unfolding asks_by
played_no_acts t a x on is = played_none t x on is

-- an act that is an ask of the caller
pub played_if : (t : Network) (asks : List Ask) (ask : Ask) (x y : Asker) (r : Result Bool AllocError) → asks ≡ ask ∷ [] → IfOk r (HasAsked t ask x y) → IfOk r (HasPlayed t asks x y)
played_if t asks ask x y (Ok on) is h = subst (λ (l : List Ask). HasPlayed t l x y on) (sym is) (played_one t ask x y on h)
played_if t asks ask x y (Err e) is h = tt

-- an act that isn't
pub played_other : (t : Network) (asks : List Ask) (x : Asker) (on : Bool) → asks ≡ [] → IsAsker t x → HasPlayed t asks x x on
played_other t asks x on none is = subst (λ (l : List Ask). HasPlayed t l x x on) (sym none) (played_none t x on is)

---- What an ask made it send

pub asked_full : (t : Network) (ask : Ask) (x y : Asker) (sent : Sent) → HasSent t ask x y sent → HasAsked t ask x y false
asked_full t ask x y sent h = not_asked t ask x y h.is h.call

pub asked_nothing : (t : Network) (ask : Ask) (x y : Asker) (sent : Sent) (on : Bool) → HasSent t ask x y sent → sent ≡ Sent.Nothing → HasAsked t ask x y on
asked_nothing t ask x y sent on h e = go (subst (HasSent t ask x y) e h)
  where
    go : HasSent t ask x y Sent.Nothing → HasAsked t ask x y on
    go h = asked_silent t ask x y on h.is h.call h.kept h.sends

pub asked_if : (t : Network) (ask : Ask) (x y z : Asker) (m : Message) (sent : Sent) (r : Result Bool AllocError) → HasSent t ask x y sent → sent ≡ Sent.Request m → IfOk r (HasFollowed t m y z) → IfOk r (HasAsked t ask x z)
asked_if t ask x y z m sent (Err e) h is f = tt
asked_if t ask x y z m sent (Ok on) h is f = go (subst (HasSent t ask x y) is h)
  where
    go : HasSent t ask x y (Sent.Request m) → HasAsked t ask x z on
    go h = asked_by t ask x y z m on h.sends.0 h.call h.kept f

---- What is handed over

pub is_behind : (t : Network) (asks : List Ask) (x y : Asker) (r : Result Bool AllocError) → IfOk r (HasPlayed t asks x y) → OnOk r (IsAsker t y)
is_behind t asks x y (Ok on) h = h.is
is_behind t asks x y (Err e) h = tt

whole_play : (t : Network) (c : Call) (start : Option ℕ) (acts : List Act) (x y : Asker) (kept : List Item) → x.call ≡ c → x.requester.state ≡ begun t c.agent start → x.kept ≡ [] → HasPlayed t (asks_by x.call.agent acts) x y true
    → kept ≡ y.kept → IsPlay t c start (asks_by c.agent acts) kept
whole_play t c start acts x y kept call state none h e =
    let p = h.plays refl in
    let same : kept ≡ p.more = e ∙ p.is ∙ ap (λ (l : List Item). l ++ p.more) none in (
      y.requester.state,
      subst (λ (l : List Item). Plays t c (begun t c.agent start) (asks_by c.agent acts) l y.requester.state) (sym same)
          (subst (λ (s : AgentState). Plays t c s (asks_by c.agent acts) p.more y.requester.state) state
          (subst (λ (d : Call). Plays t d x.requester.state (asks_by d.agent acts) p.more y.requester.state) call p.plays)),
    )

own_of : (t : Network) (c : Call) (start : Option ℕ) (acts : List Act) (x y : Asker) (r : Result Bool AllocError) (kept : List Item) → x.call ≡ c → x.requester.state ≡ begun t c.agent start → x.kept ≡ []
    → IfOk r (HasPlayed t (asks_by x.call.agent acts) x y) → HandsOver y r kept → IsOwn t c start (asks_by c.agent acts) kept
own_of t c start acts x y (Ok true) kept call state none h k = inl (whole_play t c start acts x y kept call state none h k)
own_of t c start acts x y (Ok false) kept call state none h k = inr k
own_of t c start acts x y (Err e) kept call state none h k = absurd k

-- what is handed over is the caller's own
pub own_if : (t : Network) (c : Call) (start : Option ℕ) (acts : List Act) (x y : Asker) (r : Result Bool AllocError) (o : Result (List Item) AllocError) → x.call ≡ c → x.requester.state ≡ begun t c.agent start → x.kept ≡ []
    → IfOk r (HasPlayed t (asks_by x.call.agent acts) x y) → IfOk o (HandsOver y r) → IfOk o (IsOwn t c start (asks_by c.agent acts))
own_if t c start acts x y r (Ok kept) call state none h k = own_of t c start acts x y r kept call state none h k
own_if t c start acts x y r (Err e) call state none h k = tt
