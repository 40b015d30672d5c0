-- What is done to each connection in order: what is done, before what is still to come, is the whole.
use Rattle.std.proofs.Common.{ℕ, zero, suc, ◌≡◌, ◌≢◌, ◌⊎◌, inl, inr, ◌<◌, ◌≤◌, ◌+◌, ◌∙◌, List, [], ◌∷◌, ◌++◌, length, take, drop, set, get_or, refl, sym, ap, subst, arith, Ok}
use Rattle.std.proofs.Math.Seq.{drop-cons}
use Rattle.std.proofs.lemmas.List.{append_assoc, append-nil, take_all, drop_all, take_more_set, drop-set-lt, length-set, set-get_or}
use Rattle.std.specs.List.{Contains}
use Rattle.std.proofs.lemmas.List.Elements.{Contains-get_or}
use Rattle.record_index.proofs.Members.{nothing_in}
use Rattle.nsi_primitive.specs.declared.message.Message.{Message}
use Rattle.agent_state.specs.declared.parent.Due.{Due}
use Rattle.aggregator_agent.specs.declared.said.Said.{Said}
use Rattle.aggregator_agent.specs.declared.keeping.Kept.{Kept}
use Rattle.aggregator_agent.specs.Bonds.{Bond, no_bond, bond_at, Done, AllDone, each_bond, done_by, IsDoneAt}
use Rattle.aggregator_agent.specs.Rounds.{still, AreTouched}
use Rattle.aggregator_agent.specs.Undo.{CanUndo}
use Rattle.aggregator_agent.proofs.Edges.{edge, edge_next, edge_before, no_place, along}
use Rattle.aggregator_agent.proofs.Undo.{undo_none}

abbrev pub all_behind : List Bond → List Message → List Due → AllDone → AllDone
all_behind bs ms ds a = record { bonds = bs ++ a.bonds; out = ms ++ a.out; dues = ds ++ a.dues; next = a.next }

-- the first ones are done
pub record IsRound (does : (number next : ℕ) → Bond → Done) (all : AllDone) (i : ℕ) (now : List Bond) (out : List Message) (dues : List Due) (next : ℕ) : Type 0 where
  pub whole : all_behind (take i now) out dues (each_bond does i next (drop i now)) ≡ all

pub round_none : (does : (number next : ℕ) → Bond → Done) (bs : List Bond) (out : List Message) (dues : List Due) (next : ℕ) → out ≡ [] → dues ≡ [] → IsRound does (each_bond does 0 next bs) 0 bs out dues next
round_none does bs out dues next e f = rw (e, f) (record { whole = refl })

here : (i : ℕ) (bs : List Bond) → i < length bs → drop i bs ≡ bond_at i bs ∷ drop (i + 1) bs
here i bs h =
    let e : suc i ≡ i + 1 = omega arith in
    drop-cons bs i no_bond h ∙ ap (λ k. bond_at i bs ∷ drop k bs) e

past : (i : ℕ) (bs : List Bond) (b : Bond) → drop (i + 1) (set bs i b) ≡ drop (i + 1) bs
past i bs b = drop-set-lt (i + 1) bs i b (omega arith)

one_more : (bs : List Bond) (ms : List Message) (ds : List Due) (one : Done) (rest : AllDone)
    → all_behind (bs ++ one.bond ∷ []) (ms ++ one.out) (ds ++ one.dues) rest
    ≡ all_behind bs ms ds (record { bonds = one.bond ∷ rest.bonds; out = one.out ++ rest.out; dues = one.dues ++ rest.dues; next = rest.next })
one_more bs ms ds one rest =
    ap (λ c. record { bonds = c; out = (ms ++ one.out) ++ rest.out; dues = (ds ++ one.dues) ++ rest.dues; next = rest.next }) (append_assoc bs (one.bond ∷ []) rest.bonds)
    ∙ ap (λ a. record { bonds = bs ++ one.bond ∷ rest.bonds; out = a; dues = (ds ++ one.dues) ++ rest.dues; next = rest.next }) (append_assoc ms one.out rest.out)
    ∙ ap (λ d. record { bonds = bs ++ one.bond ∷ rest.bonds; out = ms ++ (one.out ++ rest.out); dues = d; next = rest.next }) (append_assoc ds one.dues rest.dues)

round_next : (does : (number next : ℕ) → Bond → Done) (whole : AllDone) (i : ℕ) (bs : List Bond) (ms : List Message) (ds : List Due) (next : ℕ) → i < length bs → IsRound does whole i bs ms ds next
    → IsRound does whole (i + 1) (set bs i (does i next (bond_at i bs)).bond) (ms ++ (does i next (bond_at i bs)).out) (ds ++ (does i next (bond_at i bs)).dues) (does i next (bond_at i bs)).next
unfolding each_bond
round_next does whole i bs ms ds next h e =
    let one : Done = does i next (bond_at i bs) in
    record {
      whole =
          ap (λ front. all_behind front (ms ++ one.out) (ds ++ one.dues) (each_bond does (i + 1) one.next (drop (i + 1) (set bs i one.bond)))) (take_more_set bs i one.bond h)
          ∙ ap (λ rest. all_behind (take i bs ++ one.bond ∷ []) (ms ++ one.out) (ds ++ one.dues) (each_bond does (i + 1) one.next rest)) (past i bs one.bond)
          ∙ one_more (take i bs) ms ds one (each_bond does (i + 1) one.next (drop (i + 1) bs))
          ∙ ap (λ rest. all_behind (take i bs) ms ds (each_bond does i next rest)) (sym (here i bs h))
          ∙ e.whole;
    }

-- the same of what a call leaves
pub round_more : {X : Type 0} (does : (number next : ℕ) → Bond → Done) (all : AllDone) (i : ℕ) (bs cs : List Bond) (old new : Said) (u : X) → i < length bs
    → IsDoneAt old new i bs cs (Ok u) (does i old.next (bond_at i bs)) → IsRound does all i bs old.out.items old.dues.items old.next → IsRound does all (i + 1) cs new.out.items new.dues.items new.next
round_more does all i bs cs old new u h a e =
    rw (a.bonds, a.out, a.dues, a.next) (round_next does all i bs old.out.items old.dues.items old.next h e)

pub long_as : {X : Type 0} (i : ℕ) (bs cs : List Bond) (old new : Said) (u : X) (one : Done) → IsDoneAt old new i bs cs (Ok u) one → length cs ≡ length bs
long_as i bs cs old new u one a = ap length a.bonds ∙ length-set bs i one.bond

-- at the end nothing is still to come
pub round_all : (does : (number next : ℕ) → Bond → Done) (whole : AllDone) (i : ℕ) (bs : List Bond) (said : Said) → length bs ≤ i → IsRound does whole i bs said.out.items said.dues.items said.next → done_by said bs ≡ whole
unfolding each_bond
round_all does whole i bs said h e =
    sym (ap (λ rest. all_behind (take i bs) said.out.items said.dues.items (each_bond does i said.next rest)) (drop_all i bs h)
    ∙ ap (λ front. record { bonds = front ++ []; out = said.out.items ++ []; dues = said.dues.items ++ []; next = said.next }) (take_all i bs h)
    ∙ ap (λ front. record { bonds = front; out = said.out.items ++ []; dues = said.dues.items ++ []; next = said.next }) (append-nil bs)
    ∙ ap (λ a. record { bonds = bs; out = a; dues = said.dues.items ++ []; next = said.next }) (append-nil said.out.items)
    ∙ ap (λ d. record { bonds = bs; out = said.out.items; dues = d; next = said.next }) (append-nil said.dues.items))
    ∙ e.whole

---- Some connections alone

-- where nothing is made of the next one, it is done
round_still : (does : (number next : ℕ) → Bond → Done) (whole : AllDone) (i : ℕ) (bs : List Bond) (ms : List Message) (ds : List Due) (next : ℕ) → i < length bs → does i next (bond_at i bs) ≡ still (bond_at i bs) next → IsRound does whole i bs ms ds next
    → IsRound does whole (i + 1) bs ms ds next
round_still does whole i bs ms ds next l e r =
    let b = bond_at i bs in
    let moved : IsRound does whole (i + 1) (set bs i b) (ms ++ []) (ds ++ []) next =
    subst (λ (one : Done). IsRound does whole (i + 1) (set bs i one.bond) (ms ++ one.out) (ds ++ one.dues) one.next) e (round_next does whole i bs ms ds next l r) in
    subst (λ z. IsRound does whole (i + 1) z ms ds next) (set-get_or bs i no_bond)
    (subst (λ z. IsRound does whole (i + 1) (set bs i b) z ds next) (append-nil ms) (subst (λ z. IsRound does whole (i + 1) (set bs i b) (ms ++ []) z next) (append-nil ds) moved))

-- the first places are done, and what stood there is kept
pub record IsRoundTo (does : (number next : ℕ) → Bond → Done) (all : AllDone) (old : List Bond) (ps : List ℕ) (i : ℕ) (now : List Bond) (kept : List Kept) (out : List Message) (dues : List Due) (next : ℕ) : Type 0 where
  pub round : IsRound does all (edge ps i) now out dues next
  pub undo : CanUndo old now kept
  pub behind : (k : Kept) → Contains kept k → k.place < edge ps i

pub to_none : (does : (number next : ℕ) → Bond → Done) (bs : List Bond) (ps : List ℕ) (kept : List Kept) (out : List Message) (dues : List Due) (next : ℕ) → kept ≡ [] → out ≡ [] → dues ≡ []
    → IsRoundTo does (each_bond does 0 next bs) bs ps 0 bs kept out dues next
to_none does bs ps kept out dues next e f g = record {
  round = round_none does bs out dues next f g;
  undo = undo_none bs kept e;
  behind = λ k has. absurd (nothing_in k (subst (λ ks. Contains ks k) e has));
}

module _ (does : (number next : ℕ) → Bond → Done) (all : AllDone) (old : List Bond) (ps : List ℕ) (touched : AreTouched does old ps) where
  -- what isn't done yet is what it was
  ahead : (i : ℕ) (now : List Bond) (kept : List Kept) (out : List Message) (dues : List Due) (next q : ℕ) → IsRoundTo does all old ps i now kept out dues next → edge ps i ≤ q → bond_at q now ≡ bond_at q old
  ahead i now kept out dues next q r le = r.undo.rest q (λ k has e. let l = r.behind k has in omega (arith, l, le, e))

  -- up to the next place, or to the end, nothing is made of what stands there
  reach : (i k : ℕ) (now : List Bond) (kept : List Kept) (out : List Message) (dues : List Due) (next : ℕ) → i ≤ length ps → edge ps i ≤ k → k ≤ length old → (i < length ps → k ≤ get_or ps i 0) → IsRoundTo does all old ps i now kept out dues next
      → IsRound does all k now out dues next
  reach i k now kept out dues next within le most before r = along (λ q. IsRound does all q now out dues next) (edge ps i) k le step r.round
    where
      step : (q : ℕ) → edge ps i ≤ q → q < k → IsRound does all q now out dues next → IsRound does all (q + 1) now out dues next
      step q ge l round =
          let same = ahead i now kept out dues next q r ge in
          let long = r.undo.long in
          let quiet = touched.others q (omega (arith, l, most)) (no_place ps i q touched.rising within ge (λ m. let less = before m in omega (arith, l, less))) next in
          round_still does all q now out dues next (omega (arith, l, most, long)) (subst (λ b. does q next b ≡ still b next) (sym same) quiet) round

  pub inside : (i p : ℕ) (now : List Bond) (kept : List Kept) (out : List Message) (dues : List Due) (next : ℕ) → i < length ps → p ≡ get_or ps i 0 → IsRoundTo does all old ps i now kept out dues next → p < length now
  inside i p now kept out dues next l e r =
      let long = r.undo.long in
      let less = touched.within (get_or ps i 0) (Contains-get_or ps i 0 l) in
      let is = e in
      omega (arith, long, less, is)

  pub is_new : (i p : ℕ) (now : List Bond) (kept : List Kept) (out : List Message) (dues : List Due) (next : ℕ) → i < length ps → p ≡ get_or ps i 0 → IsRoundTo does all old ps i now kept out dues next → (k : Kept) → Contains kept k → k.place ≢ p
  is_new i p now kept out dues next l e r k has same =
      let less = r.behind k has in
      let le = edge_before ps i touched.rising l in
      let is = e in
      omega (arith, less, le, is, same)

  -- one place more is done
  pub to_more : {X : Type 0} (i p : ℕ) (now cs : List Bond) (kept more : List Kept) (before after : Said) (u : X) → i < length ps → p ≡ get_or ps i 0 → IsDoneAt before after p now cs (Ok u) (does p before.next (bond_at p now))
      → ((k : Kept) → Contains more k → Contains kept k ⊎ (k.place ≡ p)) → CanUndo old cs more → IsRoundTo does all old ps i now kept before.out.items before.dues.items before.next
      → IsRoundTo does all old ps (i + 1) cs more after.out.items after.dues.items after.next
  to_more i p now cs kept more before after u l e done adds undo r =
      let is = e in
      let le = edge_before ps i touched.rising l in
      let next = edge_next ps i in
      let less = inside i p now kept before.out.items before.dues.items before.next l e r in
      let long = r.undo.long in
      let here = reach i p now kept before.out.items before.dues.items before.next (omega (arith, l)) (omega (arith, le, is)) (omega (arith, less, long)) (λ m. omega (arith, is)) r in
      let moved = round_more does all p now cs before after u less done here in
      let to : p + 1 ≡ edge ps (i + 1) = omega (arith, next, is) in
      record {
        round = subst (λ q. IsRound does all q cs after.out.items after.dues.items after.next) to moved;
        undo = undo;
        behind = λ k has. elim (adds k has) [
          | inl there ↦ let was = r.behind k there in omega (arith, was, le, next)
          | inr at ↦ omega (arith, at, next, is)
        ];
      }

  pub to_all : (i : ℕ) (now : List Bond) (kept : List Kept) (said : Said) → i ≤ length ps → length ps ≤ i → IsRoundTo does all old ps i now kept said.out.items said.dues.items said.next → done_by said now ≡ all
  to_all i now kept said le ge r =
      let long = r.undo.long in
      round_all does all (length old) now said (omega (arith, long)) (reach i (length old) now kept said.out.items said.dues.items said.next le (edge_within i le) (omega arith) (λ m. absurd (omega (arith, m, ge))) r)
    where
      edge_within : (k : ℕ) → k ≤ length ps → edge ps k ≤ length old
      edge_within zero l = omega arith
      edge_within (suc k) l = let less = touched.within (get_or ps k 0) (Contains-get_or ps k 0 (omega (arith, l))) in omega (arith, less)
