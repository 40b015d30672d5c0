-- Journals that are made by entries alone, as worlds: what was heard was sent; and cuts at places of one's choice.
use Rattle.std.proofs.Common.{ℕ, ◌≤◌, ◌≡◌, ◌≢◌, inl, inr, List, [], ◌∷◌, ◌++◌, length, append-nil, sym, ap, ◌∙◌, subst, arith}
use Rattle.std.specs.List.{All}
use Rattle.std.proofs.lemmas.Bool.{cases_eq}
use Rattle.std.proofs.lemmas.List.{take_all}
use Rattle.std.proofs.lemmas.List.Elements.{All-nil, All-cons, All-append, All-weaker}
use Rattle.nsi_primitive.specs.declared.entry.Entry.{Entry}
use Rattle.nsi_primitive.specs.declared.entry.Input.{Input}
use Rattle.nsi_world.specs.Worlds.{Homes, World, synced_part}
use Rattle.nsi_world.specs.Runs.{MayCome, at}
use Rattle.nsi_world.specs.Heard.{WasSent, IsHeard, IsFair}
use Rattle.run_growth.specs.WorldCuts.{IsPlaceOf, IsCut, all_synced, IsGrown, begins, grows}
use Rattle.run_growth.proofs.Grown.{at_cases, GoesOn, sent_more}

---- Cuts

-- what is synced is one
pub synced_cut : (w : World) → ((a : ℕ) → w.synced a ≤ length (w.journal a)) → IsCut w w.synced
synced_cut w within a = (omega arith, within a)

-- a cut with another place for an agent is one
pub cut_at : (w : World) (c : ℕ → ℕ) (a k : ℕ) → IsCut w c → IsPlaceOf w a k → IsCut w (at a k c)
cut_at w c a k is place = at_cases (λ b n. IsPlaceOf w b n) a k c place (λ b n. is b)

---- Where all is synced

pub synced_whole : (journal : ℕ → List Entry) (a : ℕ) → synced_part (all_synced journal) a ≡ journal a
synced_whole journal a = take_all (length (journal a)) (journal a) (omega arith)

came_sent : (homes : Homes) (w : World) (a : ℕ) (i : Input) → MayCome homes w a i → WasSent homes w a i
came_sent homes w a (Input.Got m) h = h
came_sent homes w a (Input.Work n machine) h = tt
came_sent homes w a (Input.Force n) h = tt
came_sent homes w a (Input.Acked i) h = tt
came_sent homes w a Input.Tick h = tt
came_sent homes w a (Input.Ask n ask) h = tt

was_sent_more : (homes : Homes) (w v : World) → ((b : ℕ) → GoesOn (synced_part w b) (synced_part v b)) → (a : ℕ) (i : Input) → WasSent homes w a i → WasSent homes v a i
was_sent_more homes w v more a (Input.Got m) h = (sent_more homes w v more m h.0, h.1)
was_sent_more homes w v more a (Input.Work n machine) h = tt
was_sent_more homes w v more a (Input.Force n) h = tt
was_sent_more homes w v more a (Input.Acked i) h = tt
was_sent_more homes w v more a Input.Tick h = tt
was_sent_more homes w v more a (Input.Ask n ask) h = tt

heard_more : (homes : Homes) (w v : World) → ((b : ℕ) → GoesOn (synced_part w b) (synced_part v b)) → (a : ℕ) (e : Entry) → IsHeard homes w a e → IsHeard homes v a e
heard_more homes w v more a e h = record { printable = h.printable; sent = was_sent_more homes w v more a e.input h.sent }

-- one entry more goes on all journals
pub grown_more : (journal more : ℕ → List Entry) (a : ℕ) (e : Entry) → more a ≡ journal a ++ e ∷ [] → ((b : ℕ) → b ≢ a → more b ≡ journal b) →
    (b : ℕ) → GoesOn (synced_part (all_synced journal) b) (synced_part (all_synced more) b)
grown_more journal more a e here there b = elim (cases_eq b a) [
  | inl q ↦ (e ∷ [], synced_whole more b ∙ (subst (λ z. more z ≡ journal z ++ e ∷ []) (sym q) here ∙ ap (λ es. es ++ e ∷ []) (sym (synced_whole journal b))))
  | inr n ↦ ([], synced_whole more b ∙ (there b n ∙ (sym (synced_whole journal b) ∙ sym (append-nil (synced_part (all_synced journal) b)))))
]

-- what was heard was sent
pub grown_fair : (homes : Homes) (journal : ℕ → List Entry) → IsGrown homes journal → IsFair homes (all_synced journal)
grown_fair homes journal (begins _ none) =
    record { within = λ a. omega arith; heard = λ a. subst (All (IsHeard homes (all_synced journal) a)) (sym (none a)) (All-nil (IsHeard homes (all_synced journal) a)) }
grown_fair homes more (grows journal _ a e answer x agent room entered here there) =
    let w : World = all_synced journal in
    let v : World = all_synced more in
    let on : (b : ℕ) → GoesOn (synced_part w b) (synced_part v b) = grown_more journal more a e here there in
    let fair : IsFair homes w = grown_fair homes journal x in
    let old : (b : ℕ) → All (IsHeard homes v b) (journal b) = λ b. All-weaker (IsHeard homes w b) (IsHeard homes v b) (λ f h. heard_more homes w v on b f h) (journal b) (fair.heard b) in
    let new : IsHeard homes v a e = heard_more homes w v on a e (record { printable = entered.printable; sent = came_sent homes w a e.input entered.comes }) in
    record {
      within = λ b. omega arith;
      heard = λ b. elim (cases_eq b a) [
        | inl q ↦ subst (λ z. All (IsHeard homes v z) (more z)) (sym q)
            (subst (All (IsHeard homes v a)) (sym here) (All-append (IsHeard homes v a) (journal a) (e ∷ []) (old a) (All-cons (IsHeard homes v a) e [] new (All-nil (IsHeard homes v a)))))
        | inr n ↦ subst (All (IsHeard homes v b)) (sym (there b n)) (old b)
      ];
    }
