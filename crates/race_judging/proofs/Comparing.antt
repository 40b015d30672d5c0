-- One list behind the other, to the first difference.
use Rattle.std.proofs.Common.{◌≡◌, ◌<◌, ◌≤◌, ◌+◌, ◌∙◌, ℕ, suc, Bool, true, false, List, [], ◌∷◌, ◌++◌, map, length, take, drop, get_or, Option, Some, None, All, inl, inr, refl, sym, ap, subst, take-append-drop}
use Rattle.std.specs.Prelude.{is_some, MatchOption, IfSome, count_by}
use Rattle.std.proofs.Math.Seq.{drop-cons}
use Rattle.std.proofs.lemmas.Bool.{true≢false}
use Rattle.std.proofs.lemmas.List.{map-append, take_all}
use Rattle.std.proofs.lemmas.List.Sums.{count_by_more_yes, count_by_more_no}
use Rattle.std.proofs.lemmas.List.Elements.{All-nil, All-cons, All-head, All-tail, All-map, All-more, All-get_or}
use Rattle.nsi_primitive.specs.declared.entry.Event.{Event}
use Rattle.connection_record.specs.declared.record.Record.{Record}
use Rattle.stp_topology.specs.declared.network.Network.{Network}
use Rattle.provider_agent.specs.State.{blank}
use Rattle.race_run.specs.declared.item.Item.{Item}
use Rattle.race_run.specs.declared.item.Difference.{Difference}
use Rattle.race_run.specs.declared.replayed.Lists.{Lists}
use Rattle.race_run.specs.Compared.{IsFirst, IsOfNetwork}
use Rattle.race_run.specs.Found.{waits, state_gone}
use Rattle.race_run.specs.Replay.{AreOf}
use Rattle.race_judging.specs.declared.judging.Own.{Own}
use Rattle.race_judging.specs.declared.judging.Verdict.{Verdict}
use Rattle.race_judging.specs.Pairs.{Pair, pair, AreSame, first_ticks, second_of, pairs_of, has_committed, committed_of}
use Rattle.race_judging.specs.Verdicts.{IsFirstOf, IsVerdict, IsJudged, IsOfTold, pairs_in}

-- what a comparison of two lists says
abbrev pub IsCompared : List Item → List Item → Option Difference → Type 0
IsCompared kept found o = MatchOption o (kept ≡ found) (IsFirst kept found)

pub alone : (kept found : List Item) (o : Option Difference) → IsCompared kept found o → IsVerdict (pair kept found ∷ []) o
alone kept found None h = All-cons AreSame (pair kept found) [] h (All-nil AreSame)
alone kept found (Some d) h = inl h

pub first_differs : (kept found : List Item) (xs : List Pair) (o : Option Difference) → is_some o ≡ true → IsCompared kept found o → IsVerdict (pair kept found ∷ xs) o
first_differs kept found xs None some h = absurd (true≢false (sym some))
first_differs kept found xs (Some d) some h = inl h

pub first_same : (kept found : List Item) (xs : List Pair) (o u : Option Difference) → is_some o ≡ false → IsCompared kept found o → IsVerdict xs u → IsVerdict (pair kept found ∷ xs) u
first_same kept found xs (Some d) u some h v = absurd (true≢false some)
first_same kept found xs None None some h v = All-cons AreSame (pair kept found) xs h v
first_same kept found xs None (Some d) some h v = inr (h, v)

first_of_more : (xs ys : List Pair) (d : Difference) → IsFirstOf xs d → IsFirstOf (xs ++ ys) d
first_of_more [] ys d h = absurd h
first_of_more (x ∷ xs) ys d (inl h) = inl h
first_of_more (x ∷ xs) ys d (inr h) = inr (h.0, first_of_more xs ys d h.1)

pub front_differs : (xs ys : List Pair) (o : Option Difference) → is_some o ≡ true → IsVerdict xs o → IsVerdict (xs ++ ys) o
front_differs xs ys None some h = absurd (true≢false (sym some))
front_differs xs ys (Some d) some h = first_of_more xs ys d h

behind_same : (xs ys : List Pair) (u : Option Difference) → All AreSame xs → IsVerdict ys u → IsVerdict (xs ++ ys) u
behind_same [] ys u h v = v
behind_same (x ∷ xs) ys None h v = All-cons AreSame x (xs ++ ys) (All-head AreSame x xs h) (behind_same xs ys None (All-tail AreSame x xs h) v)
behind_same (x ∷ xs) ys (Some d) h v = inr (All-head AreSame x xs h, behind_same xs ys (Some d) (All-tail AreSame x xs h) v)

pub front_same : (xs ys : List Pair) (o u : Option Difference) → is_some o ≡ false → IsVerdict xs o → IsVerdict ys u → IsVerdict (xs ++ ys) u
front_same xs ys (Some d) u some h v = absurd (true≢false some)
front_same xs ys None u some h v = behind_same xs ys u h v

---- Callers

pub own_next : (f : Own → Pair) (owns : List Own) (i : ℕ) (o : Own) → i < length owns → o ≡ get_or owns i o → All (λ x. AreSame (f x)) (take i owns) → IsVerdict (f o ∷ []) None → All (λ x. AreSame (f x)) (take (i + 1) owns)
own_next f owns i o h is same v = All-more (λ (x : Own). AreSame (f x)) owns i o h same (subst (λ (x : Own). AreSame (f x)) is (All-head AreSame (f o) [] v))

pub own_all : (f : Own → Pair) (owns : List Own) (i : ℕ) → length owns ≤ i → All (λ x. AreSame (f x)) (take i owns) → IsVerdict (map f owns) None
own_all f owns i h same = All-map AreSame f owns (subst (All (λ x. AreSame (f x))) (take_all i owns h) same)

split_at : (f : Own → Pair) (owns : List Own) (i : ℕ) (o : Own) → i < length owns → o ≡ get_or owns i o → map f owns ≡ map f (take i owns) ++ ((f o ∷ []) ++ map f (drop (suc i) owns))
split_at f owns i o h is =
    ap (map f) (sym (take-append-drop i owns) ∙ ap (λ (l : List Own). take i owns ++ l) (drop-cons owns i o h ∙ ap (λ (x : Own). x ∷ drop (suc i) owns) (sym is)))
    ∙ map-append f (take i owns) (o ∷ drop (suc i) owns)

pub own_differs : (f : Own → Pair) (owns : List Own) (i : ℕ) (o : Own) (d : Difference) → i < length owns → o ≡ get_or owns i o → All (λ x. AreSame (f x)) (take i owns) → IsVerdict (f o ∷ []) (Some d)
    → IsVerdict (map f owns) (Some d)
own_differs f owns i o d h is same v =
    subst (λ (l : List Pair). IsVerdict l (Some d)) (sym (split_at f owns i o h is))
    (behind_same (map f (take i owns)) ((f o ∷ []) ++ map f (drop (suc i) owns)) (Some d) (All-map AreSame f (take i owns) same) (front_differs (f o ∷ []) (map f (drop (suc i) owns)) (Some d) refl v))

-- of one of them
pub of_one : (P : Own → Type 0) (owns : List Own) (i : ℕ) (o : Own) → i < length owns → o ≡ get_or owns i o → All P owns → P o
of_one P owns i o h is all = subst P (sym is) (All-get_or P owns i o h all)

---- The whole

pub pairs_same : (t : Network) (p : ℕ) (start : Option ℕ) (events : List Event) (owns : List Own) (first waiting : List Item) (lists : Lists)
    → first ≡ first_ticks p start → AreOf t p (second_of start) events lists → waiting ≡ waits p (length events) (state_gone t p blank events) → pairs_in first lists owns waiting ≡ pairs_of t p start events owns
pairs_same t p start events owns first waiting lists first_is are waiting_is =
    λ i. pair (first_is i) (are.ticks i) ∷ (map (λ (o : Own). pair o.items (are.found o.agent i)) owns ++ pair [] (are.strays i) ∷ pair [] (waiting_is i) ∷ [])

pub counted : (records : List Record) (i n : ℕ) (r : Record) (b : Bool) → i < length records → r ≡ get_or records i r → has_committed r ≡ b → n ≡ count_by has_committed (take i records)
    → (b ≡ true → n + 1 ≡ count_by has_committed (take (i + 1) records)) × (b ≡ false → n ≡ count_by has_committed (take (i + 1) records))
counted records i n r b h is test so_far = (
  λ e. ap (λ k. k + 1) so_far ∙ sym (count_by_more_yes has_committed records i r h (ap has_committed (sym is) ∙ test ∙ e)),
  λ e. so_far ∙ sym (count_by_more_no has_committed records i r h (ap has_committed (sym is) ∙ test ∙ e)),
)

pub judged_of : (t : Network) (p : ℕ) (start : Option ℕ) (events : List Event) (owns : List Own) (told : Option Difference) (n : ℕ) (v : Verdict) → IsVerdict (pairs_of t p start events owns) told
    → IfSome told (IsOfNetwork t) → n ≡ committed_of (state_gone t p blank events).records → IsOfTold told n v → IsJudged t p start events owns v
judged_of t p start events owns None n v same told committed is = subst (IsJudged t p start events owns) (sym is) (record { same = same; committed = committed })
judged_of t p start events owns (Some d) n v first told committed is = subst (IsJudged t p start events owns) (sym is) (record { first = first; told = told })
