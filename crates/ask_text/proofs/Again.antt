-- The text of an ask is read again.
use Rattle.std.proofs.Common.{◌≡◌, ℕ, List, [], ◌∷◌, ◌++◌, Bool, true, false, bytes_eq, codes, decimal, Option, Some, None, Result, Ok, Err, refl, sym, ap, ◌∙◌, arith}
use Rattle.std.specs.Prelude.{IfSome, IfOk, OnOk}
use Rattle.std.specs.Global.{Vec}
use Rattle.std.specs.List.{AllByRecursion}
use Rattle.std.proofs.lemmas.Bool.{false≢true}
use Rattle.std.proofs.lemmas.Slice.Eq.{bytes_eq-Decides}
use Rattle.nsi_base.specs.Digits.{number_of}
use Rattle.nsi_base.specs.Words.{words_of, is_word}
use Rattle.nsi_base.proofs.Joined.{words_again, word_from_name, word_from_decimal, behind_append}
use Rattle.nsi_base.proofs.Written.{number_again}
use Rattle.nsi_primitive.specs.declared.ask.Ask.{Ask}
use Rattle.nsi_primitive.specs.declared.ask.What.{What}
use Rattle.nsi_primitive.specs.declared.ask.ReserveAsk.{ReserveAsk}
use Rattle.nsi_primitive.specs.declared.ask.NumbersAsked.{NumbersAsked}
use Rattle.nsi_primitive.specs.declared.kind.Directionality.{Directionality}
use Rattle.ask_text.specs.Asks.{verb_of, label_words, version_words, way_words, numbers_words, reserve_words, what_words, ask_text}
use Rattle.nsi_primitive.specs.Printable.{IsPrintableAsk}
use Rattle.nsi_primitive.specs.Ranges.{IsName, IsVersion, AreCounts, IsRangedReserveAsk, IsRangedWhat, IsRangedAsk, IsSpellableAsk}
use Rattle.nsi_base.specs.Range.{greatest_second, least_mbps, greatest_mbps, greatest_version}
use Rattle.nsi_base.specs.declared.words.Blanks.TheVariants.{Space}
use Rattle.nsi_base.specs.Options.{◌>>=◌}
use Rattle.ask_text.specs.Reading.{name_in, labelled_in, summary_in, numbers_in, is_one, version_in, way_in, with_points_apart, reserve_in, plain_named, by_verb, as_spelled, ask_of}

abbrev AreWords : List (List ℕ) → Type 0
AreWords ws = AllByRecursion (λ w. is_word Space w ≡ true) ws

both_words : (vs ws : List (List ℕ)) → AreWords vs → AreWords ws → AreWords (vs ++ ws)
both_words [] ws h i = i
both_words (v ∷ vs) ws h i = (h.0, both_words vs ws h.1 i)

verb_is_word : (w : What) → is_word Space (verb_of w) ≡ true
unfolding verb_of
verb_is_word (What.Reserve r) = refl
verb_is_word What.Commit = refl
verb_is_word What.Abort = refl
verb_is_word What.Provision = refl
verb_is_word What.Release = refl
verb_is_word What.Terminate = refl
verb_is_word What.Summary = refl
verb_is_word (What.Notifications numbers) = refl
verb_is_word (What.Results numbers) = refl
verb_is_word What.Recursive = refl

label_is_word : (label : Option (List ℕ)) → IfSome label IsName → AreWords (label_words label)
label_is_word None h = tt
label_is_word (Some l) h = (word_from_name Space l h, tt)

version_is_word : (version : Option ℕ) → IfSome version IsVersion → AreWords (version_words version)
version_is_word None h = tt
version_is_word (Some v) h = (word_from_decimal Space v (omega (arith, h)), tt)

way_is_word : (d : Directionality) → AreWords (way_words d)
way_is_word Directionality.Bidirectional = tt
way_is_word Directionality.Unidirectional = (refl, tt)

numbers_are_words : (numbers : Option NumbersAsked) → IfSome numbers AreCounts → AreWords (numbers_words numbers)
numbers_are_words None h = tt
numbers_are_words (Some n) h = (word_from_decimal Space n.from h.from, (word_from_decimal Space n.to h.to, tt))

what_are_words : (w : What) → IsRangedWhat w → AreWords (what_words w)
what_are_words (What.Reserve r) h =
    (word_from_name Space r.source h.source, (word_from_name Space r.dest h.dest, (word_from_decimal Space r.capacity (omega (arith, h.capacity.1)), (word_from_decimal Space r.start (omega (arith, h.start)), (word_from_decimal Space r.end (omega (arith, h.end)), both_words (version_words r.version) (way_words r.directionality) (version_is_word r.version h.version) (way_is_word r.directionality))))))
what_are_words What.Commit h = tt
what_are_words What.Abort h = tt
what_are_words What.Provision h = tt
what_are_words What.Release h = tt
what_are_words What.Terminate h = tt
what_are_words What.Summary h = tt
what_are_words (What.Notifications numbers) h = numbers_are_words numbers h
what_are_words (What.Results numbers) h = numbers_are_words numbers h
what_are_words What.Recursive h = tt

-- the words of an ask's text
words_are : (a : Ask) → IsRangedAsk a → words_of Space (ask_text a) ≡ verb_of a.what ∷ (label_words a.label ++ what_words a.what)
words_are a v =
    ap (λ t. words_of Space (verb_of a.what ++ t)) (sym (behind_append (label_words a.label) (what_words a.what)))
    ∙ words_again Space (verb_of a.what) (label_words a.label ++ what_words a.what) (verb_is_word a.what) (both_words (label_words a.label) (what_words a.what) (label_is_word a.label v.label) (what_are_words a.what v.what))

-- an ask by its parts
abbrev asked : Option (List ℕ) → What → Ask
asked label what = record { label = label; what = what }

name_again : (l : List ℕ) → IsName l → name_in l ≡ Some l
name_again l h = rw h refl

label_again : (what : What) (l : List ℕ) (more : List (List ℕ)) → IsName l → labelled_in what (l ∷ more) ≡ Some (asked (Some l) what)
unfolding labelled_in
label_again what l more h = rw (name_again l h) refl

-- a number is another word than `one`
version_number : (v : ℕ) → IsVersion v → number_of 0 greatest_version (decimal v) ≡ Some v
version_number v h = number_again 0 greatest_version v (omega (arith, h)) (omega arith) h

one_is_no_number : number_of 0 greatest_version (codes "one") ≡ None
unfolding number_of
one_is_no_number = refl

number_is_not_one : (v : ℕ) → IsVersion v → is_one (decimal v) ≡ false
number_is_not_one v h = by (is_one (decimal v)) refl
  where
    by : (t : Bool) → is_one (decimal v) ≡ t → is_one (decimal v) ≡ false
    by false e = e
    by true e =
        let same : decimal v ≡ codes "one" = (bytes_eq-Decides (decimal v) (codes "one")).0 e in
        let clash : Some v ≡ None = sym (version_number v h) ∙ (ap (number_of 0 greatest_version) same ∙ one_is_no_number) in
        absurd (cc)

version_again : (version : Option ℕ) (way : Directionality) (a b c d e f : List ℕ) → IfSome version IsVersion → version_in (a ∷ b ∷ c ∷ d ∷ e ∷ f ∷ (version_words version ++ way_words way)) ≡ Some version
unfolding version_in
version_again None Directionality.Bidirectional a b c d e f h = refl
version_again None Directionality.Unidirectional a b c d e f h = refl
version_again (Some v) Directionality.Bidirectional a b c d e f h = rw (number_is_not_one v h, version_number v h) refl
version_again (Some v) Directionality.Unidirectional a b c d e f h = rw (version_number v h) refl

way_again : (version : Option ℕ) (way : Directionality) (a b c d e f : List ℕ) → IfSome version IsVersion → way_in (a ∷ b ∷ c ∷ d ∷ e ∷ f ∷ (version_words version ++ way_words way)) ≡ way
unfolding way_in
way_again None Directionality.Bidirectional a b c d e f h = refl
way_again None Directionality.Unidirectional a b c d e f h = refl
way_again (Some v) Directionality.Bidirectional a b c d e f h = rw (number_is_not_one v h) refl
way_again (Some v) Directionality.Unidirectional a b c d e f h = refl

numbers_again : (numbers : Option NumbersAsked) (l : List ℕ) → IfSome numbers AreCounts → numbers_in (l ∷ numbers_words numbers) ≡ Some numbers
unfolding numbers_in
numbers_again None l h = refl
numbers_again (Some n) l h =
    rw (number_again 0 18446744073709551615 n.from h.from (omega arith) (omega (arith, h.from)), number_again 0 18446744073709551615 n.to h.to (omega arith) (omega (arith, h.to))) refl

apart_again : (l : List ℕ) (r : ReserveAsk) → bytes_eq r.source r.dest ≡ false → with_points_apart l r ≡ Some (asked (Some l) (What.Reserve r))
apart_again l r h = rw h refl

reserve_again : (l : List ℕ) (r : ReserveAsk) → IsName l → IsRangedReserveAsk r → bytes_eq r.source r.dest ≡ false → reserve_in (l ∷ reserve_words r) ≡ Some (asked (Some l) (What.Reserve r))
unfolding reserve_in
reserve_again l r h v p =
    let version = version_again r.version r.directionality l r.source r.dest (decimal r.capacity) (decimal r.start) (decimal r.end) v.version in
    let capacity = number_again least_mbps greatest_mbps r.capacity (omega (arith, v.capacity.1)) v.capacity.0 v.capacity.1 in
    let start = number_again 0 greatest_second r.start (omega (arith, v.start)) (omega arith) v.start in
    let end = number_again 0 greatest_second r.end (omega (arith, v.end)) (omega arith) v.end in
    let way = way_again r.version r.directionality l r.source r.dest (decimal r.capacity) (decimal r.start) (decimal r.end) v.version in
    rw (version, name_again l h, name_again r.source v.source, name_again r.dest v.dest, capacity, start, end, way, apart_again l r p) refl

-- by the words of an ask
verb_again : (label : Option (List ℕ)) (w : What) → IsPrintableAsk (asked label w) → IsRangedAsk (asked label w) → by_verb (verb_of w) (label_words label ++ what_words w) ≡ Some (asked label w)
unfolding by_verb verb_of plain_named summary_in
verb_again None (What.Reserve r) p v = absurd (false≢true (p.label refl))
verb_again None What.Commit p v = absurd (false≢true (p.label refl))
verb_again None What.Abort p v = absurd (false≢true (p.label refl))
verb_again None What.Provision p v = absurd (false≢true (p.label refl))
verb_again None What.Release p v = absurd (false≢true (p.label refl))
verb_again None What.Terminate p v = absurd (false≢true (p.label refl))
verb_again None What.Summary p v = refl
verb_again None (What.Notifications numbers) p v = absurd (false≢true (p.label refl))
verb_again None (What.Results numbers) p v = absurd (false≢true (p.label refl))
verb_again None What.Recursive p v = absurd (false≢true (p.label refl))
verb_again (Some l) (What.Reserve r) p v = reserve_again l r v.label v.what p.apart
verb_again (Some l) What.Commit p v = label_again What.Commit l [] v.label
verb_again (Some l) What.Abort p v = label_again What.Abort l [] v.label
verb_again (Some l) What.Provision p v = label_again What.Provision l [] v.label
verb_again (Some l) What.Release p v = label_again What.Release l [] v.label
verb_again (Some l) What.Terminate p v = label_again What.Terminate l [] v.label
verb_again (Some l) What.Summary p v = label_again What.Summary l [] v.label
verb_again (Some l) (What.Notifications numbers) p v = ap (λ o. o >>= λ n. labelled_in (What.Notifications n) (l ∷ numbers_words numbers)) (numbers_again numbers l v.what) ∙ label_again (What.Notifications numbers) l (numbers_words numbers) v.label
verb_again (Some l) (What.Results numbers) p v = ap (λ o. o >>= λ n. labelled_in (What.Results n) (l ∷ numbers_words numbers)) (numbers_again numbers l v.what) ∙ label_again (What.Results numbers) l (numbers_words numbers) v.label
verb_again (Some l) What.Recursive p v = label_again What.Recursive l [] v.label

spelled_again : (a : Ask) → as_spelled (ask_text a) a ≡ Some a
spelled_again a = rw ((bytes_eq-Decides (ask_text a) (ask_text a)).1 refl) refl

-- what is printed is read
pub ask_again : (a : Ask) → IsPrintableAsk a → IsRangedAsk a → ask_of (ask_text a) ≡ Some a
unfolding ask_of
ask_again a p v = rw (words_are a v, verb_again a.label a.what p v) (spelled_again a)

pub text_again : {E : Type 0} (r : Result (Vec ℕ) E) (a : Ask) → IsPrintableAsk a → OnOk r (IsRangedAsk a) → IfOk r (λ t. t.items ≡ ask_text a) → IfOk r (λ t. ask_of t.items ≡ Some a)
text_again (Ok t) a p v s = ap ask_of s ∙ ask_again a p v
text_again (Err e) a p v s = tt

pub all_again : (a : Ask) → IsSpellableAsk a → ask_of (ask_text a) ≡ Some a
all_again a h = ask_again a h.printable h.ranged
