-- A history with an entry and its sync more.
use Rattle.std.proofs.Common.{◌≡◌, ◌∙◌, ◌+◌, ℕ, Bool, true, false, not, ◌&&◌, List, [], ◌∷◌, ◌++◌, Option, Some, None, refl, sym, ap, arith, length}
use Rattle.std.specs.Prelude.{◌==◌, if◌then◌else◌}
use Rattle.std.proofs.lemmas.Bool.{eq-eqb}
use Rattle.std.proofs.lemmas.List.{append-nil, append_assoc}
use Rattle.nsi_primitive.specs.declared.entry.Entry.{Entry}
use Rattle.nsi_primitive.specs.declared.entry.Event.{Event}
use Rattle.stp_topology.specs.declared.network.Network.{Network}
use Rattle.provider_agent.specs.State.{State, blank}
use Rattle.shared_provider.specs.Book.{enter, sync}
use Rattle.race_run.specs.declared.item.Item.{Item}
use Rattle.race_run.specs.Found.{item, after_at, along, entry_in, entry_items, state_by, state_gone, found, found_at, is_one, owner, is_tick, tick_at, ticks, is_caller, stray_at, strays}

abbrev pub two : ℕ → Entry → ℕ → List Event
two p e n = enter p e ∷ sync p n ∷ []

gone_more : (t : Network) (p : ℕ) (s : State) (events : List Event) (e : Entry) (n : ℕ) → state_gone t p s (events ++ two p e n) ≡ (after_at t p (state_gone t p s events) e).state
unfolding state_gone
gone_more t p s [] e n = refl
gone_more t p s (x ∷ events) e n = gone_more t p (state_by t p s x.what) events e n

along_more : (t : Network) (p : ℕ) (adds : ℕ → State → Option Entry → List Item) → ((place : ℕ) (s : State) → adds place s None ≡ []) → (s : State) (place : ℕ) (events : List Event) (e : Entry) (n : ℕ)
    → along t p adds s place (events ++ two p e n) ≡ along t p adds s place events ++ adds (place + length events) (state_gone t p s events) (Some e)
unfolding along state_gone
along_more t p adds none s place [] e n =
    ap (λ k. adds k s (Some e) ++ (adds (place + 1) (after_at t p s e).state None ++ [])) here
    ∙ (ap (λ (l : List Item). adds (place + 0) s (Some e) ++ (l ++ [])) (none (place + 1) (after_at t p s e).state) ∙ append-nil (adds (place + 0) s (Some e)))
  where
    here : place ≡ place + 0
    here = omega arith
along_more t p adds none s place (x ∷ events) e n =
    let later : place + 1 + length events ≡ place + length (x ∷ events) = omega arith in
    ap (λ (l : List Item). adds place s (entry_in x.what) ++ l) (along_more t p adds none (state_by t p s x.what) (place + 1) events e n)
    ∙ (sym (append_assoc (adds place s (entry_in x.what)) (along t p adds (state_by t p s x.what) (place + 1) events) (adds (place + 1 + length events) (state_gone t p (state_by t p s x.what) events) (Some e)))
    ∙ ap (λ k. (adds place s (entry_in x.what) ++ along t p adds (state_by t p s x.what) (place + 1) events) ++ adds k (state_gone t p (state_by t p s x.what) events) (Some e)) later)

no_more : (n : ℕ) → 0 + n ≡ n
no_more n = omega arith

-- an entry of one requester more
module _ (t : Network) (p a second : ℕ) (events : List Event) (s : State) (e : Entry) (n : ℕ) (gone : state_gone t p blank events ≡ s) (own : owner t s e.input ≡ Some a) (no_tick : is_tick e.input ≡ false) (caller : is_caller t p (Some a) ≡ true) where
  abbrev all : List Event
  all = events ++ two p e n

  pub gone_then : state_gone t p blank all ≡ (after_at t p s e).state
  gone_then = gone_more t p blank events e n ∙ ap (λ (u : State). (after_at t p u e).state) gone

  along_then : (adds : ℕ → State → Option Entry → List Item) → ((place : ℕ) (s : State) → adds place s None ≡ []) → along t p adds blank 0 all ≡ along t p adds blank 0 events ++ adds (length events) s (Some e)
  along_then adds none = along_more t p adds none blank 0 events e n ∙ ap (λ k. along t p adds blank 0 events ++ adds k (state_gone t p blank events) (Some e)) (no_more (length events)) ∙ ap (λ (u : State). along t p adds blank 0 events ++ adds (length events) u (Some e)) gone

  pub found_then : found t p a second blank 0 all ≡ found t p a second blank 0 events ++ entry_items t p a second (length events) s e
  found_then =
      along_then (found_at t p a second) (λ place u. refl)
      ∙ ap (λ b. found t p a second blank 0 events ++ (if b then entry_items t p a second (length events) s e else [])) (ap (is_one a) own ∙ eq-eqb a a refl)

  pub others_then : (o : ℕ) → (a == o) ≡ false → found t p o second blank 0 events ≡ [] → found t p o second blank 0 all ≡ []
  others_then o apart none =
      along_then (found_at t p o second) (λ place u. refl)
      ∙ (ap (λ b. found t p o second blank 0 events ++ (if b then entry_items t p o second (length events) s e else [])) (ap (is_one o) own ∙ apart) ∙ (append-nil (found t p o second blank 0 events) ∙ none))

  pub strays_then : strays t p blank 0 events ≡ [] → strays t p blank 0 all ≡ []
  strays_then none =
      along_then (stray_at t p) (λ place u. refl)
      ∙ (ap (λ (l : List Item). l ++ stray_at t p (length events) s (Some e)) none ∙ by_tests (is_tick e.input) (is_caller t p (owner t s e.input)) no_tick (ap (is_caller t p) own ∙ caller))
    where
      by_tests : (tick asked : Bool) → tick ≡ false → asked ≡ true → (if not tick && not asked then item (length events) (enter p e) ∷ [] else []) ≡ []
      by_tests tick asked f g = ap (λ b. if not b && not asked then item (length events) (enter p e) ∷ [] else []) f ∙ ap (λ b. if not b then item (length events) (enter p e) ∷ [] else []) g

  pub ticks_then : ticks t p blank 0 all ≡ ticks t p blank 0 events
  ticks_then =
      along_then (tick_at p) (λ place u. refl)
      ∙ (ap (λ b. ticks t p blank 0 events ++ (if b then item (length events) (enter p e) ∷ [] else [])) no_tick ∙ append-nil (ticks t p blank 0 events))
