-- What becomes of the open queries once one is told its part.
use Rattle.std.proofs.Common.{◌≡◌, ◌∙◌, ◌<◌, ◌+◌, ◌↔◌, ℕ, zero, suc, Bool, true, false, List, [], ◌∷◌, ◌++◌, cond, length, drop, get_or, Option, Some, None, slice_get, All, IfSome, IfNone, IsSome, refl, sym, ap, subst, arith}
use Rattle.std.specs.BTreeMap.{insert_entry, is_at}
use Rattle.std.specs.List.{list_any}
use Rattle.std.specs.List.Sorted.{IsStrictlySortedBy}
use Rattle.std.specs.Map.{lookup, set_value, remove_entry, keys_of, values_of}
use Rattle.std.specs.Option.{option_map}
use Rattle.std.specs.Ordering.{nat_cmp, match_ordering}
use Rattle.std.specs.declared.cmp.Ordering.{Ordering}
use Rattle.std.proofs.lemmas.Bool.{false≢true}
use Rattle.std.proofs.lemmas.List.{at_drop_more, length_push, map_push, same_from_push}
use Rattle.std.proofs.lemmas.List.Elements.{All-nil, All-head, All-tail, All-cons, All-push, All-set}
use Rattle.std.proofs.lemmas.Map.Keys.{sorted_tail}
use Rattle.nsi_primitive.specs.declared.message.Body.{Body}
use Rattle.nsi_primitive.specs.declared.message.Message.{Message}
use Rattle.connection_record.specs.declared.record.Record.{Record}
use Rattle.id_index.specs.declared.IdPlace.{IdPlace}
use Rattle.agent_state.specs.declared.parent.OpenQuery.{OpenQuery}
use Rattle.agent_state.specs.declared.parent.Part.{Part}
use Rattle.agent_state.specs.State.{record_at}
use Rattle.aggregator_agent.specs.declared.open_queries.Awaited.{Awaited}
use Rattle.aggregator_agent.specs.declared.open_queries.Told.{Told}
use Rattle.aggregator_agent.specs.Below.{Heard, is_asked, part_of, told_at, closes, closes_unless, hears_nothing, heard_behind, tells_query, asked_place, tells_first, tells_if, hear_below}
use Rattle.aggregator_agent.specs.Open.{left_by, said_by, IsKept, IsTold, IsToldBy}
use Rattle.aggregator_agent.specs.OpenTable.{IsPartNamed, IsQueryNamed, AreQueriesNamed, AsksNoMore, part_there, waiting_part, awaited_at, or_behind, first_awaited, lesser, least_awaited}
use Rattle.aggregator_agent.specs.Indexed.{id_at, StaysIn}
use Rattle.aggregator_agent.proofs.OpenTable.{same_number, other_number, all_above, first_key, first_stands, stands_query, waiting_asked}

---- The query at the front

-- a query that isn't told
passed_by : (own : Option Record) (c : ℕ) (q : OpenQuery) → part_there own c q ≡ None → (agent : List ℕ) (p : Part) (qs : List OpenQuery) (rest : Heard) →
    tells_query own (asked_place c q) agent p q qs rest ≡ heard_behind q rest
passed_by None c q e agent p qs rest = refl
passed_by (Some own) c q e agent p qs rest = rw e refl

record_there : (records : List Record) (n : ℕ) → n < length records → slice_get records n ≡ Some (record_at n records)
record_there [] n l = absurd (omega (arith, l))
record_there (r ∷ rs) zero l = refl
record_there (r ∷ rs) (suc n) l = record_there rs n (omega (arith, l))

-- and one that is
told_here : (c : ℕ) (records : List Record) (q : OpenQuery) (k : ℕ) → asked_place c q ≡ Some k → q.place < length records → (agent : List ℕ) (p : Part) (qs : List OpenQuery) (rest : Heard) →
    tells_query (slice_get records q.place) (asked_place c q) agent p q qs rest ≡ closes agent (record_at q.place records) (told_at k p q) qs
told_here c records q k asked own agent p qs rest =
    ap (λ o. tells_query o (asked_place c q) agent p q qs rest) (record_there records q.place own) ∙ ap (λ o. tells_query (Some (record_at q.place records)) o agent p q qs rest) asked

closed_left : (waits : Bool) (agent : List ℕ) (own : Record) (q : OpenQuery) (n : ℕ) (e : ℕ × OpenQuery) (es : List (ℕ × OpenQuery)) → is_at (nat_cmp n) e.0 ≡ true →
    (closes_unless waits agent own q (values_of es)).queries ≡ values_of (left_by waits n q (e ∷ es))
closed_left true agent own q n e es at = sym (ap (λ b. values_of (cond b ((e.0, q) ∷ es) (e ∷ set_value (is_at (nat_cmp n)) es q))) at)
closed_left false agent own q n e es at = sym (ap (λ b. values_of (cond b es (e ∷ remove_entry (is_at (nat_cmp n)) es))) at)

behind_left : (waits : Bool) (q : OpenQuery) (n : ℕ) (e : ℕ × OpenQuery) (es : List (ℕ × OpenQuery)) → is_at (nat_cmp n) e.0 ≡ false → e.1 ∷ values_of (left_by waits n q es) ≡ values_of (left_by waits n q (e ∷ es))
behind_left true q n e es at = sym (ap (λ b. values_of (cond b ((e.0, q) ∷ es) (e ∷ set_value (is_at (nat_cmp n)) es q))) at)
behind_left false q n e es at = sym (ap (λ b. values_of (cond b es (e ∷ remove_entry (is_at (nat_cmp n)) es))) at)

closed_said : (waits : Bool) (agent : List ℕ) (records : List Record) (q : OpenQuery) (qs : List OpenQuery) → (closes_unless waits agent (record_at q.place records) q qs).out ≡ said_by waits agent records q
closed_said true agent records q qs = refl
closed_said false agent records q qs = refl

---- Among the others

-- where none waits, none is told
pub none_told : (c : ℕ) (records : List Record) (es : List (ℕ × OpenQuery)) → first_awaited c records es ≡ None → (agent : List ℕ) (p : Part) → tells_first agent records c p (values_of es) ≡ hears_nothing (values_of es)
unfolding first_awaited tells_first
none_told c records [] none agent p = refl
none_told c records (e ∷ es) none agent p = by (waiting_part c records e.1) refl none (λ behind. none_told c records es behind agent p)
  where
    by : (o : Option ℕ) → waiting_part c records e.1 ≡ o → or_behind (option_map (λ k. let x : Awaited = record { number = e.0; part = k } in x) o) (first_awaited c records es) ≡ None
        → (first_awaited c records es ≡ None → tells_first agent records c p (values_of es) ≡ hears_nothing (values_of es))
        → tells_first agent records c p (values_of (e ∷ es)) ≡ hears_nothing (values_of (e ∷ es))
    by None passed behind rest =
        passed_by (slice_get records e.1.place) c e.1 passed agent p (values_of es) (tells_first agent records c p (values_of es))
        ∙ ap (λ h. heard_behind e.1 h) (rest behind)
    by (Some k) here found rest = absurd (cc)

-- the first one that waits is told, and no other
first_told : (c : ℕ) (records : List Record) (es : List (ℕ × OpenQuery)) (f : Awaited) (q : OpenQuery) → IsStrictlySortedBy nat_cmp (keys_of es) → first_awaited c records es ≡ Some f → lookup (is_at (nat_cmp f.number)) es ≡ Some q
    → (agent : List ℕ) (p : Part) → let t : OpenQuery = told_at f.part p q in
    let w : Bool = list_any is_asked t.parts in
    ((tells_first agent records c p (values_of es)).queries ≡ values_of (left_by w f.number t es)) × ((tells_first agent records c p (values_of es)).out ≡ said_by w agent records t)
unfolding first_awaited tells_first
first_told c records [] f q sorted is at agent p = absurd (cc)
first_told c records (e ∷ es) f q sorted is at agent p =
    by (waiting_part c records e.1) refl is (λ behind below. first_told c records es f q (sorted_tail nat_cmp e.0 (keys_of es) sorted) behind below agent p)
  where
    t : OpenQuery
    t = told_at f.part p q

    w : Bool
    w = list_any is_asked t.parts

    by : (o : Option ℕ) → waiting_part c records e.1 ≡ o → or_behind (option_map (λ k. let x : Awaited = record { number = e.0; part = k } in x) o) (first_awaited c records es) ≡ Some f
        → (first_awaited c records es ≡ Some f → lookup (is_at (nat_cmp f.number)) es ≡ Some q
        → ((tells_first agent records c p (values_of es)).queries ≡ values_of (left_by w f.number t es)) × ((tells_first agent records c p (values_of es)).out ≡ said_by w agent records t))
        → ((tells_first agent records c p (values_of (e ∷ es))).queries ≡ values_of (left_by w f.number t (e ∷ es))) × ((tells_first agent records c p (values_of (e ∷ es))).out ≡ said_by w agent records t)
    by None passed behind told =
        let less : e.0 < f.number = first_key c records (λ k. e.0 < k) es f behind (all_above e es sorted) in
        let other = other_number e.0 f.number less in
        let below : lookup (is_at (nat_cmp f.number)) es ≡ Some q = sym (ap (λ b. cond b (Some e.1) (lookup (is_at (nat_cmp f.number)) es)) other) ∙ at in
        let rest = told behind below in
        let heard = passed_by (slice_get records e.1.place) c e.1 passed agent p (values_of es) (tells_first agent records c p (values_of es)) in (
          ap (λ (h : Heard). h.queries) heard ∙ (ap (λ qs. e.1 ∷ qs) rest.0 ∙ behind_left w t f.number e es other),
          ap (λ (h : Heard). h.out) heard ∙ rest.1,
        )
    by (Some k) here found behind =
        let same : (let x : Awaited = record { number = e.0; part = k } in x) ≡ f = cc in
        let number : e.0 ≡ f.number = ap (λ (x : Awaited). x.number) same in
        let part : k ≡ f.part = ap (λ (x : Awaited). x.part) same in
        let itself = same_number e.0 f.number number in
        let query : e.1 ≡ q = (let found = sym (ap (λ b. cond b (Some e.1) (lookup (is_at (nat_cmp f.number)) es)) itself) ∙ at in cc) in
        let asked = waiting_asked c records e.1 k here in
        let told : told_at k p e.1 ≡ t = ap (λ n. told_at n p e.1) part ∙ ap (λ x. told_at f.part p x) query in
        let heard : tells_first agent records c p (values_of (e ∷ es)) ≡ closes_unless w agent (record_at t.place records) t (values_of es) =
        told_here c records e.1 k asked.0 asked.1 agent p (values_of es) (tells_first agent records c p (values_of es))
        ∙ ap (λ (x : OpenQuery). closes agent (record_at x.place records) x (values_of es)) told
        in (
          ap (λ (h : Heard). h.queries) heard ∙ closed_left w agent (record_at t.place records) t f.number e es itself,
          ap (λ (h : Heard). h.out) heard ∙ closed_said w agent records t (values_of es),
        )

---- What is kept

none_named : (ids : List IdPlace) (n : ℕ) (p : Part) → is_asked p ≡ false → IsPartNamed ids n p
none_named ids n (Part.Asked c) h = absurd (cc)
none_named ids n (Part.Told rows) h = tt
none_named ids n Part.Missing h = tt

asks_no_more : (k : ℕ) (p : Part) (q : OpenQuery) → is_asked p ≡ false → AsksNoMore (told_at k p q) q
asks_no_more k p q h ids n all = All-set (IsPartNamed ids n) q.parts k p (none_named ids n p h) all

set_named : (ids : List IdPlace) (n : ℕ) (q : OpenQuery) (es : List (ℕ × OpenQuery)) → ((old : OpenQuery) → lookup (is_at (nat_cmp n)) es ≡ Some old → AsksNoMore q old) → AreQueriesNamed ids es → AreQueriesNamed ids (set_value (is_at (nat_cmp n)) es q)
set_named ids n q [] kept all = all
set_named ids n q (e ∷ es) kept all = by (is_at (nat_cmp n) e.0) kept (λ more. set_named ids n q es more (All-tail (IsQueryNamed ids) e es all))
  where
    by : (b : Bool) → ((old : OpenQuery) → cond b (Some e.1) (lookup (is_at (nat_cmp n)) es) ≡ Some old → AsksNoMore q old)
        → (((old : OpenQuery) → lookup (is_at (nat_cmp n)) es ≡ Some old → AsksNoMore q old) → AreQueriesNamed ids (set_value (is_at (nat_cmp n)) es q))
        → AreQueriesNamed ids (cond b ((e.0, q) ∷ es) (e ∷ set_value (is_at (nat_cmp n)) es q))
    by true more rest = All-cons (IsQueryNamed ids) (e.0, q) es (more e.1 refl ids e.0 (All-head (IsQueryNamed ids) e es all)) (All-tail (IsQueryNamed ids) e es all)
    by false more rest = All-cons (IsQueryNamed ids) e (set_value (is_at (nat_cmp n)) es q) (All-head (IsQueryNamed ids) e es all) (rest more)

removed_named : (ids : List IdPlace) (n : ℕ) (es : List (ℕ × OpenQuery)) → AreQueriesNamed ids es → AreQueriesNamed ids (remove_entry (is_at (nat_cmp n)) es)
removed_named ids n [] all = all
removed_named ids n (e ∷ es) all = by (is_at (nat_cmp n) e.0) (removed_named ids n es (All-tail (IsQueryNamed ids) e es all))
  where
    by : (b : Bool) → AreQueriesNamed ids (remove_entry (is_at (nat_cmp n)) es) → AreQueriesNamed ids (cond b es (e ∷ remove_entry (is_at (nat_cmp n)) es))
    by true rest = All-tail (IsQueryNamed ids) e es all
    by false rest = All-cons (IsQueryNamed ids) e (remove_entry (is_at (nat_cmp n)) es) (All-head (IsQueryNamed ids) e es all) rest

-- what is left is named
pub replaced_named : (ids : List IdPlace) (es view new : List (ℕ × OpenQuery)) (o : Option Told) (t : Told) → es ≡ view → o ≡ Some t → IfSome o (IsKept view) → new ≡ set_value (is_at (nat_cmp t.number)) es t.query → AreQueriesNamed ids es
    → AreQueriesNamed ids new
replaced_named ids es view new o t same is kept put all =
    subst (AreQueriesNamed ids) (sym put) (set_named ids t.number t.query es (subst (λ xs. IsKept xs t) (sym same) (subst (λ x. IfSome x (IsKept view)) is kept)) all)

pub answered_named : (ids : List IdPlace) (es new : List (ℕ × OpenQuery)) (n : ℕ) → new ≡ remove_entry (is_at (nat_cmp n)) es → AreQueriesNamed ids es → AreQueriesNamed ids new
answered_named ids es new n is all = subst (AreQueriesNamed ids) (sym is) (removed_named ids n es all)

-- more names do no harm
part_grown : (old new : List IdPlace) (n : ℕ) (p : Part) → StaysIn old new → IsPartNamed old n p → IsPartNamed new n p
part_grown old new n (Part.Asked c) more named = more (id_at c n) named
part_grown old new n (Part.Told rows) more named = tt
part_grown old new n Part.Missing more named = tt

pub parts_grown : (old new : List IdPlace) (n : ℕ) (ps : List Part) → StaysIn old new → All (IsPartNamed old n) ps → All (IsPartNamed new n) ps
parts_grown old new n ps more all k d within = part_grown old new n _ more (all k d within)

pub queries_grown : (old new : List IdPlace) (es : List (ℕ × OpenQuery)) → StaysIn old new → AreQueriesNamed old es → AreQueriesNamed new es
queries_grown old new es more all k d within = parts_grown old new _ _ more (all k d within)

---- What is told

pub told_none : (records : List Record) (c : ℕ) (p : Part) (es : List (ℕ × OpenQuery)) → first_awaited c records es ≡ None → IsTold records es (λ agent. tells_first agent records c p (values_of es)) None
told_none records c p es none = record {
  left = λ agent. ap (λ (h : Heard). h.queries) (none_told c records es none agent p);
  said = λ agent. ap (λ (h : Heard). h.out) (none_told c records es none agent p);
  own = tt;
  kept = tt;
}

pub told_one : (records : List Record) (c : ℕ) (p : Part) (es : List (ℕ × OpenQuery)) (f : Awaited) (q t : OpenQuery) (w : Bool) → is_asked p ≡ false → IsStrictlySortedBy nat_cmp (keys_of es) → first_awaited c records es ≡ Some f
    → lookup (is_at (nat_cmp f.number)) es ≡ Some q → t ≡ told_at f.part p q → w ≡ list_any is_asked t.parts
    → IsTold records es (λ agent. tells_first agent records c p (values_of es)) (Some (record { number = f.number; query = t; waits = w }))
told_one records c p es f q t w none sorted first at is waits =
    let stands = stands_query c records es f.number f (first_stands c records es f sorted first) in
    let same : stands.0 ≡ q = (let is = sym stands.1 ∙ at in cc) in
    let waited : list_any is_asked (told_at f.part p q).parts ≡ w = ap (λ (x : OpenQuery). list_any is_asked x.parts) (sym is) ∙ sym waits in
    record {
      left = λ agent. (first_told c records es f q sorted first at agent p).0 ∙ (ap (λ b. values_of (left_by b f.number (told_at f.part p q) es)) waited ∙ ap (λ x. values_of (left_by w f.number x es)) (sym is));
      said = λ agent. (first_told c records es f q sorted first at agent p).1 ∙ (ap (λ b. said_by b agent records (told_at f.part p q)) waited ∙ ap (λ x. said_by w agent records x) (sym is));
      own = subst (λ (x : OpenQuery). x.place < length records) (sym is) (subst (λ (x : OpenQuery). x.place < length records) same stands.3);
      kept = λ old found.
          let here : q ≡ old = (let is = sym at ∙ found in cc) in
          subst (λ x. AsksNoMore t x) here (subst (λ x. AsksNoMore x q) (sym is) (asks_no_more f.part p q none));
    }

-- the same of a message
pub told_by_none : (records : List Record) (m : Message) (es : List (ℕ × OpenQuery)) → part_of m.body ≡ None → IsToldBy records m es None
told_by_none records m es e = record { left = λ agent. rw e refl; said = λ agent. rw e refl; own = tt; kept = tt }

pub told_by_one : (records : List Record) (m : Message) (es : List (ℕ × OpenQuery)) (p : Part) (o : Option Told) → part_of m.body ≡ Some p → IsTold records es (λ agent. tells_first agent records m.header.correlation p (values_of es)) o → IsToldBy records m es o
told_by_one records m es p o e told = record {
  left = λ agent. ap (λ x. (tells_if x agent records m.header.correlation (values_of es)).queries) e ∙ told.left agent;
  said = λ agent. ap (λ x. (tells_if x agent records m.header.correlation (values_of es)).out) e ∙ told.said agent;
  own = told.own;
  kept = told.kept;
}

pub told_part : (b : Body) (p : Part) → part_of b ≡ Some p → is_asked p ≡ false
unfolding part_of
told_part b p is = grind (arith, is)

---- Steps of the table's calls

pub set_none : (test : ℕ → Bool) (es : List (ℕ × OpenQuery)) (q : OpenQuery) → lookup test es ≡ None → set_value test es q ≡ es
set_none test [] q none = refl
set_none test (e ∷ es) q none = by (test e.0) none (set_none test es q)
  where
    by : (b : Bool) → cond b (Some e.1) (lookup test es) ≡ None → (lookup test es ≡ None → set_value test es q ≡ es) → cond b ((e.0, q) ∷ es) (e ∷ set_value test es q) ≡ e ∷ es
    by true found rest = absurd (cc)
    by false none rest = ap (λ xs. e ∷ xs) (rest none)

-- a query under a number above the others comes last
put_behind : (n : ℕ) (q : OpenQuery) (es : List (ℕ × OpenQuery)) → All (λ k. k < n) (keys_of es) → insert_entry nat_cmp es n q ≡ es ++ (n, q) ∷ []
put_behind n q [] all = refl
put_behind n q (e ∷ es) all =
    by (nat_cmp n e.0) (above n e.0 (All-head (λ k. k < n) e.0 (keys_of es) all)) (put_behind n q es (All-tail (λ k. k < n) e.0 (keys_of es) all))
  where
    above : (n k : ℕ) → k < n → nat_cmp n k ≡ Ordering.Greater
    above n k lt = grind (arith, lt)

    by : (o : Ordering) → o ≡ Ordering.Greater → insert_entry nat_cmp es n q ≡ es ++ (n, q) ∷ []
        → match_ordering o ((n, q) ∷ e ∷ es) ((e.0, q) ∷ es) (e ∷ insert_entry nat_cmp es n q) ≡ (e ∷ es) ++ (n, q) ∷ []
    by Ordering.Greater is rest = ap (λ xs. e ∷ xs) rest
    by Ordering.Equal is rest = absurd (cc)
    by Ordering.Less is rest = absurd (cc)

pub pushed_values : (n : ℕ) (q : OpenQuery) (es new : List (ℕ × OpenQuery)) → All (λ k. k < n) (keys_of es) → new ≡ insert_entry nat_cmp es n q → values_of new ≡ values_of es ++ q ∷ []
pushed_values n q es new all is = ap values_of (is ∙ put_behind n q es all) ∙ map_push (λ (e : ℕ × OpenQuery). e.1) es (n, q)

pub pushed_named : (old ids : List IdPlace) (n : ℕ) (q : OpenQuery) (es new : List (ℕ × OpenQuery)) → StaysIn old ids → All (λ k. k < n) (keys_of es) → new ≡ insert_entry nat_cmp es n q → All (IsPartNamed ids n) q.parts → AreQueriesNamed old es
    → AreQueriesNamed ids new
pushed_named old ids n q es new more above is named all =
    subst (AreQueriesNamed ids) (sym (is ∙ put_behind n q es above)) (All-push (IsQueryNamed ids) es (n, q) (queries_grown old ids es more all) named)

-- the last one is taken out again
pub popped : (old new : List (ℕ × OpenQuery)) (last : Option (ℕ × OpenQuery)) → IsSome last ↔ (0 < length old) → IfSome last (λ p. old ≡ new ++ p ∷ [])
    → (front : List OpenQuery) (q : OpenQuery) → values_of old ≡ front ++ q ∷ [] → values_of new ≡ front
popped old new (Some p) some removal front q is =
    (same_from_push (values_of new) front p.1 q (sym (map_push (λ (e : ℕ × OpenQuery). e.1) new p) ∙ (sym (ap values_of removal) ∙ is))).0
popped [] new None some removal front q is = absurd (omega (arith, ap length is, length_push front q))
popped (e ∷ es) new None some removal front q is = absurd (false≢true (some.1 (omega arith)))

front_of : (P : ℕ × OpenQuery → Type 0) (xs ys : List (ℕ × OpenQuery)) → All P (xs ++ ys) → All P xs
front_of P [] ys all = All-nil P
front_of P (x ∷ xs) ys all = All-cons P x xs (All-head P x (xs ++ ys) all) (front_of P xs ys (All-tail P x (xs ++ ys) all))

pub popped_named : (ids : List IdPlace) (old new : List (ℕ × OpenQuery)) (last : Option (ℕ × OpenQuery)) → IfSome last (λ p. old ≡ new ++ p ∷ []) → IfNone last (new ≡ old) → AreQueriesNamed ids old → AreQueriesNamed ids new
popped_named ids old new None removal unchanged all = subst (AreQueriesNamed ids) (sym unchanged) all
popped_named ids old new (Some p) removal unchanged all = front_of (IsQueryNamed ids) new (p ∷ []) (subst (AreQueriesNamed ids) removal all)

-- one number more was looked at
pub least_more : (c : ℕ) (records : List Record) (es : List (ℕ × OpenQuery)) (least found new start : Option Awaited) (ns : List ℕ) (i d : ℕ) → i < length ns → found ≡ awaited_at c records es (get_or ns i d) → new ≡ lesser least found
    → least_awaited c records es least (drop i ns) ≡ start → least_awaited c records es new (drop (i + 1) ns) ≡ start
unfolding least_awaited
least_more c records es least found new start ns i d l is more was =
    ap (λ o. least_awaited c records es o (drop (i + 1) ns)) (more ∙ ap (λ o. lesser least o) is)
    ∙ (sym (at_drop_more (λ xs. least_awaited c records es least xs) ns i d l) ∙ was)
