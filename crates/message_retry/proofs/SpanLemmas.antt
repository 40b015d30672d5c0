-- Between which numbers the waiting messages of a mark lie.
use Rattle.std.proofs.Common.{◌≡◌, ℕ, ◌<◌, ◌≤◌, List, [], ◌∷◌, Bool, true, false, not, ◌&&◌, ◌==◌, cond, filter, All, Some, None, sym, ◌∙◌, refl, ap, subst, arith, true≢false}
use Rattle.std.specs.Bool.{Decides}
use Rattle.std.specs.Ordering.{nat_cmp, is_le, is_lt}
use Rattle.std.specs.List.Sorted.{IsStrictlySortedBy}
use Rattle.std.specs.BTreeMap.{is_at}
use Rattle.std.specs.Map.{keys_of, remove_entry, lookup}
use Rattle.std.proofs.lemmas.Bool.Decides.{Decides-and, Decides-eqb, Decides-like}
use Rattle.std.specs.declared.cmp.Ordering.{Ordering}
use Rattle.std.proofs.lemmas.List.Elements.{All-cons, All-head, All-tail}
use Rattle.std.proofs.lemmas.Map.Keys.{sorted_tail}
use Rattle.std.proofs.lemmas.Map.Views.{All-after_first}
use Rattle.nsi_primitive.specs.Messages.{identity}
use Rattle.nsi_primitive.specs.declared.message.Identity.{Identity}
use Rattle.nsi_primitive.specs.declared.message.Message.{Message}
use Rattle.message_retry.specs.declared.mark.Mark.{Mark}
use Rattle.message_retry.specs.declared.span.Span.{Span}
use Rattle.message_retry.specs.Retry.{is_same_identity}
use Rattle.message_retry.specs.Names.{Keeps}
use Rattle.message_retry.specs.Marks.{mark_of}
use Rattle.message_retry.specs.Numbered.{first_number}
use Rattle.message_retry.specs.Spans.{is_same_mark, ends_at, IsCovered, LiesWithin}
use Rattle.message_retry.proofs.ExchangeLemmas.{exchange_decides}
use Rattle.message_retry.proofs.MarkLemmas.{marks_message, mark_stays, identity_decides}
use Rattle.message_retry.proofs.NumberLemmas.{number_within, at_itself, not_below}

mark_decides : (a b : Mark) → Decides (is_same_mark a b) (a ≡ b)
mark_decides a b = Decides-like _ is parts (Decides-and _ _ (exchange_decides a.exchange b.exchange) (Decides-eqb a.kind b.kind))
  where
    is : (a.exchange ≡ b.exchange) × (a.kind ≡ b.kind) → a ≡ b
    is p = ap (λ e. record { exchange = e; kind = a.kind }) p.0 ∙ ap (λ k. record { exchange = b.exchange; kind = k }) p.1

    parts : a ≡ b → (a.exchange ≡ b.exchange) × (a.kind ≡ b.kind)
    parts e = (ap (λ (x : Mark). x.exchange) e, ap (λ (x : Mark). x.kind) e)

---- What stays covered

-- more names change nothing
pub still_covered : (old new : List (List ℕ)) → Keeps old new → (spans : List (Mark × Span)) (es : List (ℕ × Message)) → All (IsCovered old spans) es → All (IsCovered new spans) es
still_covered old new keeps spans es all k d within =
    let c = all k d within in
    record { mark = c.mark; span = c.span; is_of = mark_stays old new keeps _ c.mark c.is_of; has = c.has; low = c.low; high = c.high }

module _ (names : List (List ℕ)) (old new : List (Mark × Span)) (mark : Mark) where
  -- the span of a mark is another one, and begins no later
  pub widened : (first number : ℕ) → ((q : Mark) → lookup (is_same_mark q) new ≡ cond (is_same_mark mark q) (Some (record { first = first; last = number })) (lookup (is_same_mark q) old))
      → ((span : Span) → lookup (is_same_mark mark) old ≡ Some span → first ≤ span.first)
      → (e : ℕ × Message) → e.0 ≤ number → IsCovered names old e → IsCovered names new e
  widened first number updates begins e before c = by (is_same_mark mark c.mark) refl
    where
      by : (b : Bool) → is_same_mark mark c.mark ≡ b → IsCovered names new e
      by true is =
          let same = (mark_decides mark c.mark).0 is in
          record {
            mark = c.mark;
            span = record { first = first; last = number };
            is_of = c.is_of;
            has = updates c.mark ∙ ap (λ b. cond b (Some (record { first = first; last = number })) (lookup (is_same_mark c.mark) old)) is;
            low = (let begin = begins c.span (ap (λ m. lookup (is_same_mark m) old) same ∙ c.has) in omega (arith, begin, c.low));
            high = before;
          }
      by false is =
          record {
            mark = c.mark;
            span = c.span;
            is_of = c.is_of;
            has = updates c.mark ∙ (ap (λ b. cond b (Some (record { first = first; last = number })) (lookup (is_same_mark c.mark) old)) is ∙ c.has);
            low = c.low;
            high = c.high;
          }

  -- the message of the number is covered
  pub covers : (first number : ℕ) → ((q : Mark) → lookup (is_same_mark q) new ≡ cond (is_same_mark mark q) (Some (record { first = first; last = number })) (lookup (is_same_mark q) old))
      → first ≤ number → (m : Message) → mark_of names (identity m) ≡ Some mark → IsCovered names new (number, m)
  covers first number updates begins m is =
      record {
        mark = mark;
        span = record { first = first; last = number };
        is_of = is;
        has = updates mark ∙ ap (λ b. cond b (Some (record { first = first; last = number })) (lookup (is_same_mark mark) old)) ((mark_decides mark mark).1 refl);
        low = begins;
        high = omega arith;
      }

  -- the mark is forgotten, whose span ended at a number below those that are left of it
  pub forgotten : (number : ℕ) → ((q : Mark) → lookup (is_same_mark q) new ≡ cond (is_same_mark mark q) None (lookup (is_same_mark q) old))
      → ends_at (lookup (is_same_mark mark) old) number ≡ true
      → (e : ℕ × Message) → (mark_of names (identity e.1) ≡ Some mark → number < e.0) → IsCovered names old e → IsCovered names new e
  forgotten number updates ends e later c = by (is_same_mark mark c.mark) refl
    where
      ends_there : (span : Span) → lookup (is_same_mark mark) old ≡ Some span → (span.last == number) ≡ true
      ends_there span is = sym (ap (λ o. ends_at o number) is) ∙ ends

      by : (b : Bool) → is_same_mark mark c.mark ≡ b → IsCovered names new e
      by true is =
          let same = (mark_decides mark c.mark).0 is in
          let at_end = ends_there c.span (ap (λ m. lookup (is_same_mark m) old) same ∙ c.has) in
          let last : c.span.last ≡ number = (Decides-eqb c.span.last number).0 at_end in
          let above = later (c.is_of ∙ ap Some (sym same)) in
          absurd (omega (arith, last, above, c.high))
      by false is =
          record {
            mark = c.mark;
            span = c.span;
            is_of = c.is_of;
            has = updates c.mark ∙ (ap (λ b. cond b None (lookup (is_same_mark c.mark) old)) is ∙ c.has);
            low = c.low;
            high = c.high;
          }

-- those before a number, where a span is widened up to it
pub all_widened : (names : List (List ℕ)) (old new : List (Mark × Span)) (number : ℕ) → ((e : ℕ × Message) → e.0 ≤ number → IsCovered names old e → IsCovered names new e)
    → (es : List (ℕ × Message)) → All (λ k. k < number) (keys_of es) → All (IsCovered names old) es → All (IsCovered names new) es
all_widened names old new number keeps [] below all = λ k d within. absurd (omega (arith, within))
all_widened names old new number keeps (e ∷ es) below all =
    let first = All-head (λ k. k < number) e.0 (keys_of es) below in
    All-cons (IsCovered names new) e es (keeps e (omega (arith, first)) (All-head (IsCovered names old) e es all))
    (all_widened names old new number keeps es (All-tail (λ k. k < number) e.0 (keys_of es) below) (All-tail (IsCovered names old) e es all))

---- What is found

-- nothing of the identity waits
pub none_of : (i : Identity) (es : List (ℕ × Message)) → All (λ e. is_same_identity i (identity e.1) ≡ false) es → first_number i es ≡ None
unfolding first_number
none_of i [] all = refl
none_of i (e ∷ es) all =
    ap (λ b. cond b (Some e.0) (first_number i es)) (All-head (λ e. is_same_identity i (identity e.1) ≡ false) e es all)
    ∙ none_of i es (All-tail (λ e. is_same_identity i (identity e.1) ≡ false) e es all)

unless_same : (i j : Identity) → (i ≡ j → ⊥) → is_same_identity i j ≡ false
unless_same i j differ = by (is_same_identity i j) refl
  where
    by : (b : Bool) → is_same_identity i j ≡ b → b ≡ false
    by false is = refl
    by true is = absurd (differ ((identity_decides i j).0 is))

module _ (names : List (List ℕ)) (spans : List (Mark × Span)) (i : Identity) (es : List (ℕ × Message)) (all : All (IsCovered names spans) es) where
  pub none_unmarked : mark_of names i ≡ None → first_number i es ≡ None
  none_unmarked none = none_of i es (λ k d within. unless_same i _ (λ same. differ (all k d within).mark (sym none ∙ (ap (mark_of names) same ∙ (all k d within).is_of))))
    where
      differ : (m : Mark) → None ≡ Some m → ⊥
      differ m is = absurd (cc)

  same_span : (mark : Mark) → mark_of names i ≡ Some mark → (e : ℕ × Message) → IsCovered names spans e → i ≡ identity e.1 → (span : Span) × (lookup (is_same_mark mark) spans ≡ Some span) × (span.first ≤ e.0) × (e.0 ≤ span.last)
  same_span mark is e c same =
      let some : Some c.mark ≡ Some mark = sym c.is_of ∙ (ap (mark_of names) (sym same) ∙ is) in
      let one : c.mark ≡ mark = cc in
      (c.span, ap (λ m. lookup (is_same_mark m) spans) (sym one) ∙ c.has, c.low, c.high)

  pub none_spanned : (mark : Mark) → mark_of names i ≡ Some mark → lookup (is_same_mark mark) spans ≡ None → first_number i es ≡ None
  none_spanned mark is none = none_of i es (λ k d within. unless_same i _ (λ same. let s = same_span mark is _ (all k d within) same in differ s.0 s.1))
    where
      differ : (s : Span) → lookup (is_same_mark mark) spans ≡ Some s → ⊥
      differ s is = let is_both : None ≡ Some s = sym none ∙ is in absurd (cc)

  one_within : (mark : Mark) (span : Span) → mark_of names i ≡ Some mark → lookup (is_same_mark mark) spans ≡ Some span → (e : ℕ × Message) → IsCovered names spans e → LiesWithin i span e
  one_within mark span is has e c same =
      let s = same_span mark is e c ((identity_decides i (identity e.1)).0 same) in
      let some : Some s.0 ≡ Some span = sym s.1 ∙ has in
      let one : s.0 ≡ span = cc in
      (subst (λ (x : Span). x.first ≤ e.0) one s.2, subst (λ (x : Span). e.0 ≤ x.last) one s.3)

  pub all_within : (mark : Mark) (span : Span) → mark_of names i ≡ Some mark → lookup (is_same_mark mark) spans ≡ Some span → All (LiesWithin i span) es
  all_within mark span is has k d within = one_within mark span is has _ (all k d within)

---- Within a span

-- what passes no test that each message of the identity passes is none of its
pub among_some : (p : ℕ → Bool) (i : Identity) (es : List (ℕ × Message)) → All (λ e. is_same_identity i (identity e.1) ≡ true → p e.0 ≡ true) es
    → first_number i (filter (λ e. p e.0) es) ≡ first_number i es
unfolding first_number
among_some p i [] all = refl
among_some p i (e ∷ es) all =
    by (p e.0) (is_same_identity i (identity e.1)) refl refl (All-head (λ e. is_same_identity i (identity e.1) ≡ true → p e.0 ≡ true) e es all)
    (among_some p i es (All-tail (λ e. is_same_identity i (identity e.1) ≡ true → p e.0 ≡ true) e es all))
  where
    by : (b c : Bool) → p e.0 ≡ b → is_same_identity i (identity e.1) ≡ c → (is_same_identity i (identity e.1) ≡ true → p e.0 ≡ true)
        → first_number i (filter (λ e. p e.0) es) ≡ first_number i es
        → first_number i (cond b (e ∷ filter (λ e. p e.0) es) (filter (λ e. p e.0) es)) ≡ cond c (Some e.0) (first_number i es)
    by true c pb is passes rest = ap (λ b. cond b (Some e.0) (first_number i (filter (λ e. p e.0) es))) is ∙ ap (λ o. cond c (Some e.0) o) rest
    by false false pb is passes rest = rest
    by false true pb is passes rest = absurd (true≢false (sym (passes is) ∙ pb))

in_range : (first last n : ℕ) → first ≤ n → n ≤ last → (is_le (nat_cmp first n) && not (is_lt (nat_cmp last n))) ≡ true
in_range first last n low high = grind (arith, low, high)

in_range_of : (span : Span) (a b n : ℕ) → a ≡ span.first → b ≡ span.last → (span.first ≤ n) × (n ≤ span.last) → (is_le (nat_cmp a n) && not (is_lt (nat_cmp b n))) ≡ true
in_range_of span a b n first last within = in_range a b n (omega (arith, first, within.0)) (omega (arith, last, within.1))

-- the first of those between the ends of a span
pub among_range : (i : Identity) (span : Span) (a b : ℕ) → a ≡ span.first → b ≡ span.last → (es : List (ℕ × Message)) → All (LiesWithin i span) es
    → first_number i (filter (λ e. is_le (nat_cmp a e.0) && not (is_lt (nat_cmp b e.0))) es) ≡ first_number i es
among_range i span a b first last es all =
    among_some (λ n. is_le (nat_cmp a n) && not (is_lt (nat_cmp b n))) i es (λ k d within same. in_range_of span a b _ first last (all k d within same))

-- none lies within an empty span
pub none_within : (i : Identity) (span : Span) (es : List (ℕ × Message)) → span.last < span.first → All (LiesWithin i span) es → first_number i es ≡ None
none_within i span es empty all = none_of i es (λ k d within. unless_same i _ (λ same. outside (all k d within ((identity_decides i _).1 same))))
  where
    outside : {n : ℕ} → (span.first ≤ n) × (n ≤ span.last) → ⊥
    outside h = absurd (omega (arith, h.0, h.1, empty))

---- What is left where one is taken out

pub all_left : (P : ℕ × Message → Type 0) (test : ℕ → Bool) (es : List (ℕ × Message)) → All P es → All P (remove_entry test es)
all_left P test [] all = all
all_left P test (e ∷ es) all = by (test e.0) (all_left P test es (All-tail P e es all))
  where
    by : (b : Bool) → All P (remove_entry test es) → All P (cond b es (e ∷ remove_entry test es))
    by true rest = All-tail P e es all
    by false rest = All-cons P e (remove_entry test es) (All-head P e es all) rest

-- those of the identity that are left have higher numbers
pub behind : (i : Identity) (n : ℕ) (es : List (ℕ × Message)) → IsStrictlySortedBy nat_cmp (keys_of es) → first_number i es ≡ Some n
    → All (λ e. is_same_identity i (identity e.1) ≡ true → n < e.0) (remove_entry (is_at (nat_cmp n)) es)
unfolding first_number
behind i n [] sorted is = absurd (cc)
behind i n (e ∷ es) sorted is = by (is_same_identity i (identity e.1)) refl is (behind i n es (sorted_tail nat_cmp e.0 (keys_of es) sorted))
  where
    above : (m : ℕ) → e.0 ≡ m → (k : ℕ) → nat_cmp e.0 k ≡ Ordering.Less → m < k
    above m same k less = grind (arith, same, less)

    all_above : (m : ℕ) → e.0 ≡ m → (ks : List (ℕ × Message)) → All (λ k. nat_cmp e.0 k ≡ Ordering.Less) (keys_of ks) → All (λ x. is_same_identity i (identity x.1) ≡ true → m < x.0) ks
    all_above m same [] all = λ k d within. absurd (omega (arith, within))
    all_above m same (x ∷ xs) all =
        All-cons (λ x. is_same_identity i (identity x.1) ≡ true → m < x.0) x xs (λ _. above m same x.0 (All-head (λ k. nat_cmp e.0 k ≡ Ordering.Less) x.0 (keys_of xs) all))
        (all_above m same xs (All-tail (λ k. nat_cmp e.0 k ≡ Ordering.Less) x.0 (keys_of xs) all))

    by : (b : Bool) → is_same_identity i (identity e.1) ≡ b → cond b (Some e.0) (first_number i es) ≡ Some n
        → (first_number i es ≡ Some n → All (λ e. is_same_identity i (identity e.1) ≡ true → n < e.0) (remove_entry (is_at (nat_cmp n)) es))
        → All (λ e. is_same_identity i (identity e.1) ≡ true → n < e.0) (cond (is_at (nat_cmp n) e.0) es (e ∷ remove_entry (is_at (nat_cmp n)) es))
    by true t found rest =
        let same : e.0 ≡ n = cc in
        subst (λ b. All (λ e. is_same_identity i (identity e.1) ≡ true → n < e.0) (cond b es (e ∷ remove_entry (is_at (nat_cmp n)) es))) (sym (at_itself e.0 n same))
        (all_above n same es (All-after_first nat_cmp e.0 (keys_of es) sorted))
    by false t found rest =
        let less : nat_cmp e.0 n ≡ Ordering.Less = number_within i n (λ q. nat_cmp e.0 q ≡ Ordering.Less) es found (All-after_first nat_cmp e.0 (keys_of es) sorted) in
        subst (λ b. All (λ e. is_same_identity i (identity e.1) ≡ true → n < e.0) (cond b es (e ∷ remove_entry (is_at (nat_cmp n)) es))) (sym (not_below e.0 n less))
        (All-cons (λ e. is_same_identity i (identity e.1) ≡ true → n < e.0) e (remove_entry (is_at (nat_cmp n)) es) (λ same. absurd (true≢false (sym same ∙ t))) (rest found))

-- all that is left is covered still
pub still_covered_behind : (names : List (List ℕ)) (old new : List (Mark × Span)) (i : Identity) (mark : Mark) (n : ℕ) (es : List (ℕ × Message)) → IsStrictlySortedBy nat_cmp (keys_of es)
    → mark_of names i ≡ Some mark → first_number i es ≡ Some n
    → ((e : ℕ × Message) → (mark_of names (identity e.1) ≡ Some mark → n < e.0) → IsCovered names old e → IsCovered names new e)
    → All (IsCovered names old) es → All (IsCovered names new) (remove_entry (is_at (nat_cmp n)) es)
still_covered_behind names old new i mark n es sorted is found keeps all k d within =
    keeps _ (λ marked. behind i n es sorted found k d within ((identity_decides i _).1 (sym (marks_message names i mark is) ∙ marks_message names _ mark marked)))
    (all_left (IsCovered names old) (is_at (nat_cmp n)) es all k d within)
