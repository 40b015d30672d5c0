-- What the parser's walk over words makes of options, step by step.
use Rattle.std.proofs.Common.{◌≡◌, ◌∙◌, ◌&&◌, ◌||◌, ℕ, Bool, true, false, not, cond, codes, List, [], ◌∷◌, ◌++◌, map, length, Option, Some, None, find, fold, refl, sym, ap, ap₂, subst, option_map, option_and_then, true≢false, nat_lt}
use Rattle.std.specs.Prelude.{slice_get, drop, encode_utf8}
use Rattle.std.specs.Option.{option_map_or}
use Rattle.std.specs.Str.{bytes_eq, chars, IsUtf8}
use Rattle.std.proofs.lemmas.Slice.Eq.{bytes_eq-Decides}
use Rattle.std.proofs.lemmas.List.{append-nil, map-append}
use Rattle.clap.specs.Faults.{positional_fault, stray_fault, bundle_fault, bundle_step_fault, flags_fault, short_fault, flag_word_fault, long_fault, react_fault, settle_fault, step_fault, turn_fault, use_fault, walk_fault}
use Rattle.clap.specs.Kinds.{Kinds, or_else}
use Rattle.clap.specs.Lexer.{long_of, short_of}
use Rattle.clap.specs.Simple.{Shape}
use Rattle.clap.specs.Walk.{Held, Row, Rule, Step, Text, Waiting, Walk, after_flag, after_step, long_met, short_or_plain, arg_by_id, arg_by_index, arg_by_long, arg_by_short, at_row, has_row, idle, long_or_other, option, settled, settled_rows, trailing, used, used_by_id, more_values, option_word, walk_from, walked, without}
use Rattle.clap.specs.declared.error.kind.ErrorKind.{ErrorKind}
use Rattle.clap.specs.declared.error.kind.ErrorKind.TheVariants.{ArgumentConflict, UnknownArgument, TooManyValues}
use Rattle.clap.specs.Values.{reading_of}
use Rattle.clap.specs.declared.builder.value_parser.ValueParser.TheVariants as vp
use Rattle.clap.specs.declared.parser.matches.ValueSource.TheVariants.{CommandLine}
use Rattle.command_words.specs.Words.{Known, Given, and_option, has_value, in_one_word, in_two_words, is_dashed, is_end, is_given, name_in, option_in, options_from, value_in, wants_next}
use Rattle.command_words.proofs.Lexing.{begins_long, flags_in, has_flag, long_dashed, long_is, parts_in, short_is}
use Rattle.command_words.proofs.Shapes.{parser_at, row_for, rule_at, rule_for, rules_for, shape_for}

---- Kinds of error

-- some kind comes
abbrev pub Refuses : Kinds → Type 0
Refuses kinds = kinds ≡ [] → ⊥

pub one_refuses : (kind : ErrorKind) → Refuses (kind ∷ [])
one_refuses kind e = cc

pub first_refuses : (a b : Kinds) → Refuses a → Refuses (or_else a b)
first_refuses [] b r e = r refl
first_refuses (k ∷ a) b r e = cc

pub in_turn : (a b d : Kinds) → or_else (or_else a b) d ≡ or_else a (or_else b d)
in_turn [] b d = refl
in_turn (k ∷ a) b d = refl

pub past : (a b : Kinds) → a ≡ [] → or_else a b ≡ b
past a b e = ap (λ x. or_else x b) e

---- Arguments by name

pub named_so : (known : List Known) (name : Text) (k : Known) → find (λ x. bytes_eq x.name name) known ≡ Some k → k.name ≡ name
named_so [] name k e = cc
named_so (x ∷ known) name k e = go (bytes_eq x.name name) refl (named_so known name k) e
  where
    same : (a b : Known) → Some a ≡ Some b → a ≡ b
    same a b h = cc

    go : (b : Bool) → bytes_eq x.name name ≡ b → (find (λ y. bytes_eq y.name name) known ≡ Some k → k.name ≡ name)
        → cond b (Some x) (find (λ y. bytes_eq y.name name) known) ≡ Some k → k.name ≡ name
    go true t rest h = sym (ap (λ (y : Known). y.name) (same x k h)) ∙ (bytes_eq-Decides x.name name).0 t
    go false t rest h = rest h

-- an option that is found by a name is found by its own
pub found_again : (known : List Known) (name : Text) (k : Known) → find (λ x. bytes_eq x.name name) known ≡ Some k → find (λ x. bytes_eq x.name k.name) known ≡ Some k
found_again known name k e = ap (λ (n : Text). find (λ x. bytes_eq x.name n) known) (named_so known name k e) ∙ e

pub by_long : (needed : Bool) (known : List Known) (name : Text) → arg_by_long (rules_for needed known) name ≡ option_map (rule_for needed) (find (λ x. bytes_eq x.name name) known)
by_long needed [] name = refl
by_long needed (x ∷ known) name = go (bytes_eq x.name name) (by_long needed known name)
  where
    go : (b : Bool) → arg_by_long (rules_for needed known) name ≡ option_map (rule_for needed) (find (λ y. bytes_eq y.name name) known)
        → cond (true && (b || false)) (Some (rule_for needed x)) (arg_by_long (rules_for needed known) name) ≡ option_map (rule_for needed) (cond b (Some x) (find (λ y. bytes_eq y.name name) known))
    go true e = refl
    go false e = e

pub by_id : (needed : Bool) (known : List Known) (name : Text) → arg_by_id (rules_for needed known) name ≡ option_map (rule_for needed) (find (λ x. bytes_eq x.name name) known)
by_id needed [] name = refl
by_id needed (x ∷ known) name = go (bytes_eq x.name name) (by_id needed known name)
  where
    go : (b : Bool) → arg_by_id (rules_for needed known) name ≡ option_map (rule_for needed) (find (λ y. bytes_eq y.name name) known)
        → cond b (Some (rule_for needed x)) (arg_by_id (rules_for needed known) name) ≡ option_map (rule_for needed) (cond b (Some x) (find (λ y. bytes_eq y.name name) known))
    go true e = refl
    go false e = e

pub no_short : (needed : Bool) (known : List Known) (x : ℕ) → arg_by_short (rules_for needed known) x ≡ None
no_short needed [] x = refl
no_short needed (k ∷ known) x = no_short needed known x

pub no_place : (needed : Bool) (known : List Known) (i : ℕ) → arg_by_index (rules_for needed known) i ≡ None
no_place needed [] i = refl
no_place needed (k ∷ known) i = no_place needed known i

---- Rows

-- the row of an option that is given
abbrev pub row_of : List Known → Given → Row
row_of known g = row_for (find (λ k. bytes_eq k.name g.name) known) g

abbrev pub rows_of : List Known → List Given → List Row
rows_of known given = map (row_of known) given

pub has_row_given : (known : List Known) (given : List Given) (name : Text) → has_row name (rows_of known given) ≡ is_given name given
has_row_given known [] name = refl
has_row_given known (g ∷ given) name = ap (λ b. bytes_eq g.name name || b) (has_row_given known given name)

pub no_row_at : (name : Text) (change : Row → List Row) (missing rows : List Row) → has_row name rows ≡ false → at_row name change missing rows ≡ rows ++ missing
no_row_at name change missing [] none = refl
no_row_at name change missing (r ∷ rows) none = go (bytes_eq r.id name) (no_row_at name change missing rows) none
  where
    go : (b : Bool) → (has_row name rows ≡ false → at_row name change missing rows ≡ rows ++ missing) → (b || has_row name rows) ≡ false
        → cond b (change r ++ rows) (r ∷ at_row name change missing rows) ≡ r ∷ (rows ++ missing)
    go true rest e = absurd (true≢false e)
    go false rest e = ap (λ l. r ∷ l) (rest e)

pub one_more_row : (name : Text) (change : Row → List Row) (row : Row) (rows : List Row) → has_row name rows ≡ false
    → at_row name change (row ∷ []) (without name rows) ≡ rows ++ row ∷ []
one_more_row name change row rows none =
    ap (at_row name change (row ∷ [])) (no_row_at name (λ _. []) [] rows none ∙ append-nil rows) ∙ no_row_at name change (row ∷ []) rows none

pub rows_more : (known : List Known) (given : List Given) (g : Given) → rows_of known (given ++ g ∷ []) ≡ rows_of known given ++ row_of known g ∷ []
rows_more known given g = map-append (row_of known) given (g ∷ [])

---- One use of an option

-- an option whose value stands in a word
pub value_fault : (needed : Bool) (n value : Text) (rows : List Row) → use_fault false (rule_at needed n true) (value ∷ []) rows ≡ cond (has_row n rows) (ArgumentConflict ∷ []) []
value_fault needed n value rows = go (has_row n rows)
  where
    go : (b : Bool) → or_else (cond (b && true) (ArgumentConflict ∷ []) []) [] ≡ cond b (ArgumentConflict ∷ []) []
    go true = refl
    go false = refl

pub flag_fault : (needed : Bool) (n : Text) (rows : List Row) → use_fault false (rule_at needed n false) [] rows ≡ cond (has_row n rows) (ArgumentConflict ∷ []) []
flag_fault needed n rows = go (has_row n rows)
  where
    go : (b : Bool) → or_else (cond (b && true) (ArgumentConflict ∷ []) []) [] ≡ cond b (ArgumentConflict ∷ []) []
    go true = refl
    go false = refl

pub missing_fault : (needed : Bool) (n : Text) (rows : List Row) → Refuses (use_fault false (rule_at needed n true) [] rows)
missing_fault needed n rows e = cc

abbrev pub held : List Row → Option (Text × List Text) → Held
held rows pending = record { rows = rows; pending = pending; skip = 0 }

abbrev pub at : Waiting → Held → Walk
at w h = record (walk_from h) { waiting = w }

abbrev pub idle_at : List Row → Option (Text × List Text) → Walk
idle_at rows pending = at idle (held rows pending)

abbrev pub waiting_at : List Row → Text → Walk
waiting_at rows id = at (option id) (held rows (Some (id, [])))

-- the words are texts, and none is `--`
abbrev pub AreTexts : List Text → Type 0
AreTexts [] = Unit {0}
AreTexts (word ∷ words) = (is_end word ≡ false) × IsUtf8 word × AreTexts words

module _ (name : Text) (needed : Bool) (known : List Known) where
  abbrev pub rules : List Rule
  rules = rules_for needed known

  abbrev pub shape : Shape
  shape = shape_for name needed known

  ---- What a word is

  abbrev seen : Waiting → Bool → Option (Text × Option Text) → Text → Held → Held × Step
  seen w b parts word h = cond b (h, trailing 1) (long_or_other rules w word parts h)

  abbrev seen_fault : Waiting → Bool → Option (Text × Option Text) → Text → Held → Kinds
  seen_fault w b parts word h =
      or_else (cond b [] (flag_word_fault rules false parts word h)) (step_fault shape 1 (seen w b parts word h).0 (seen w b parts word h).1)

  abbrev seen_walk : Waiting → Bool → Option (Text × Option Text) → Text → Held → Walk
  seen_walk w b parts word h = after_step rules word (at w h) (seen w b parts word h).0 (seen w b parts word h).1

  pub idle_turn : (parts : Option (Text × Option Text)) (word : Text) (h : Held) → is_end word ≡ false → long_of word ≡ parts → turn_fault shape [] (at idle h) word ≡ seen_fault idle false parts word h
  idle_turn parts word h d e = ap₂ (λ b l. seen_fault idle b l word h) d e

  pub option_turn : (id : Text) (parts : Option (Text × Option Text)) (word : Text) (h : Held) → is_end word ≡ false → long_of word ≡ parts
      → turn_fault shape [] (at (option id) h) word ≡ seen_fault (option id) false parts word h
  option_turn id parts word h d e = ap₂ (λ b l. seen_fault (option id) b l word h) d e

  pub idle_walk : (parts : Option (Text × Option Text)) (word : Text) (h : Held) → is_end word ≡ false → long_of word ≡ parts → walked rules [] (at idle h) word ≡ seen_walk idle false parts word h
  unfolding walked
  idle_walk parts word h d e = ap₂ (λ b l. seen_walk idle b l word h) d e

  pub option_walk : (id : Text) (parts : Option (Text × Option Text)) (word : Text) (h : Held) → is_end word ≡ false → long_of word ≡ parts
      → walked rules [] (at (option id) h) word ≡ seen_walk (option id) false parts word h
  unfolding walked
  option_walk id parts word h d e = ap₂ (λ b l. seen_walk (option id) b l word h) d e

  ---- A word that begins with `--`

  abbrev by : Waiting → Option Rule → Option Text → Text → Held → Held × Step
  by w found value word h = after_flag rules w word (long_met rules found value h).0 (long_met rules found value h).1

  abbrev fault_by : Waiting → Option Rule → Option Text → Text → Held → Kinds
  fault_by w found value word h = or_else (long_fault rules false found value h) (step_fault shape 1 (by w found value word h).0 (by w found value word h).1)

  abbrev walk_by : Waiting → Option Rule → Option Text → Text → Held → Walk
  walk_by w found value word h = after_step rules word (at w h) (by w found value word h).0 (by w found value word h).1

  abbrev value_part : Text → Option Text
  value_part word = cond (has_value word) (Some (value_in word)) None

  pub long_parts : (word : Text) → is_end word ≡ false → begins_long word ≡ true → long_of word ≡ Some (name_in word, value_part word)
  long_parts word d s = long_is word d ∙ ap (λ b. cond b (Some (parts_in word)) None) s

  pub found_rule : (word : Text) (o : Option Known) → find (λ x. bytes_eq x.name (name_in word)) known ≡ o → arg_by_long rules (name_in word) ≡ option_map (rule_for needed) o
  found_rule word o e = by_long needed known (name_in word) ∙ ap (option_map (rule_for needed)) e

  pub idle_long : (word : Text) (h : Held) (found : Option Rule) (value : Option Text) → is_end word ≡ false → begins_long word ≡ true → arg_by_long rules (name_in word) ≡ found → value_part word ≡ value
      → (turn_fault shape [] (at idle h) word ≡ fault_by idle found value word h) × (walked rules [] (at idle h) word ≡ walk_by idle found value word h)
  idle_long word h found value d s f v = (
    idle_turn (Some (name_in word, value_part word)) word h d (long_parts word d s) ∙ ap₂ (λ x y. fault_by idle x y word h) f v,
    idle_walk (Some (name_in word, value_part word)) word h d (long_parts word d s) ∙ ap₂ (λ x y. walk_by idle x y word h) f v,
  )

  pub option_long : (id word : Text) (h : Held) (found : Option Rule) (value : Option Text) → is_end word ≡ false → begins_long word ≡ true → arg_by_long rules (name_in word) ≡ found → value_part word ≡ value
      → turn_fault shape [] (at (option id) h) word ≡ fault_by (option id) found value word h
  option_long id word h found value d s f v =
      option_turn id (Some (name_in word, value_part word)) word h d (long_parts word d s) ∙ ap₂ (λ x y. fault_by (option id) x y word h) f v

  -- what a word with `--` is refused for, where the option that waits has no value
  pub long_refuses : (w : Waiting) (word : Text) (h : Held) (o : Option Known) (value : Option Text) → Refuses (settle_fault rules false h) → Refuses (fault_by w (option_map (rule_for needed) o) value word h)
  long_refuses w word h None value r = one_refuses UnknownArgument
  long_refuses w word h (Some k) value r = go k.takes_value value
    where
      go : (b : Bool) (value : Option Text) → Refuses (fault_by w (Some (rule_at needed k.name b)) value word h)
      go true (Some v) = first_refuses _ _ (first_refuses _ _ r)
      go true None = first_refuses _ _ r
      go false (Some v) = one_refuses TooManyValues
      go false None = first_refuses _ _ (first_refuses _ _ r)

  ---- A word that doesn't

  bundle_refuses : (flags : Text) (rows : List Row) (pending : Option (Text × List Text)) (x : ℕ) → slice_get (chars flags) 0 ≡ Some x → Refuses (bundle_fault rules false flags (held rows pending))
  unfolding flags_fault chars
  bundle_refuses [] rows pending x e none = cc
  bundle_refuses (f ∷ flags) rows pending x e none =
      let first = ap (λ o. bundle_step_fault rules false o (f ∷ flags) 0 (held rows pending) (flags_fault rules false (length flags))) e in
      let at_x = ap (λ o. short_fault rules false o (drop (length (encode_utf8 x)) (f ∷ flags)) (held rows pending) (flags_fault rules false (length flags) (drop (length (encode_utf8 x)) (f ∷ flags)) 0)) (no_short needed known x) in
      let bad : UnknownArgument ∷ [] ≡ [] = sym (first ∙ at_x) ∙ none in
      cc

  abbrev other_fault : Waiting → Option Text → Text → Held → Kinds
  other_fault w flags word h = or_else (option_map_or (λ f. bundle_fault rules false f h) flags []) (step_fault shape 1 (short_or_plain rules w word flags h).0 (short_or_plain rules w word flags h).1)

  dashed_refuses : (w : Waiting) (word : Text) (rows : List Row) (pending : Option (Text × List Text)) (o : Option Text) → flags_in word ≡ o → is_dashed word ≡ true → IsUtf8 word
      → Refuses (other_fault w o word (held rows pending))
  dashed_refuses w word rows pending None e dash u = let bad : Some (drop 1 word) ≡ None = sym (ap (λ b. cond b (Some (drop 1 word)) None) dash) ∙ e in absurd (cc)
  dashed_refuses w word rows pending (Some flags) e dash u = go (slice_get (chars flags) 0) refl
    where
      go : (o : Option ℕ) → slice_get (chars flags) 0 ≡ o → Refuses (other_fault w (Some flags) word (held rows pending))
      go None n = absurd (has_flag word flags e u n)
      go (Some x) n = first_refuses _ _ (bundle_refuses flags rows pending x n)

  abbrev placed_fault : Option Rule → Held → Kinds
  placed_fault a h = option_map_or (λ x. positional_fault rules false x h) a (stray_fault shape)

  -- a word that doesn't begin with `--` is refused where no option waits
  idle_short : (word : Text) (rows : List Row) (pending : Option (Text × List Text)) → begins_long word ≡ false → IsUtf8 word → Refuses (seen_fault idle false None word (held rows pending))
  idle_short word rows pending s u = subst (λ o. Refuses (other_fault idle o word (held rows pending))) (sym (short_is word s)) (go (is_dashed word) refl)
    where
      go : (b : Bool) → is_dashed word ≡ b → Refuses (other_fault idle (cond b (Some (drop 1 word)) None) word (held rows pending))
      go true e = dashed_refuses idle word rows pending (Some (drop 1 word)) (ap (λ b. cond b (Some (drop 1 word)) None) e) e u
      go false e = subst (λ a. Refuses (placed_fault a (held rows pending))) (sym (no_place needed known 1)) (one_refuses UnknownArgument)

  ---- A word where no option waits

  -- the word begins an option
  pub is_found : (word : Text) (k : Known) → option_in known word ≡ Some k → (begins_long word ≡ true) × (find (λ x. bytes_eq x.name (name_in word)) known ≡ Some k)
  is_found word k e = go (begins_long word) refl e
    where
      go : (b : Bool) → begins_long word ≡ b → cond b (find (λ x. bytes_eq x.name (name_in word)) known) None ≡ Some k
          → (begins_long word ≡ true) × (find (λ x. bytes_eq x.name (name_in word)) known ≡ Some k)
      go true s h = (s, h)
      go false s h = cc

  -- a word that begins no option is refused
  pub unknown_refuses : (word : Text) (rows : List Row) (pending : Option (Text × List Text)) → is_end word ≡ false → IsUtf8 word → option_in known word ≡ None
      → Refuses (turn_fault shape [] (idle_at rows pending) word)
  unknown_refuses word rows pending d u e = go (begins_long word) refl e
    where
      go : (b : Bool) → begins_long word ≡ b → cond b (find (λ x. bytes_eq x.name (name_in word)) known) None ≡ None → Refuses (turn_fault shape [] (idle_at rows pending) word)
      go true s h = subst Refuses (sym (idle_long word (held rows pending) None (value_part word) d s (found_rule word None h) refl).0) (one_refuses UnknownArgument)
      go false s h = subst Refuses (sym (idle_turn None word (held rows pending) d (long_is word d ∙ ap (λ b. cond b (Some (parts_in word)) None) s))) (idle_short word rows pending s u)

  -- where the option that waits has no value, any further word is refused, but the value
  pub turn_refuses : (word : Text) (rows : List Row) (pending : Option (Text × List Text)) → is_end word ≡ false → IsUtf8 word → Refuses (settle_fault rules false (held rows pending))
      → Refuses (turn_fault shape [] (idle_at rows pending) word)
  turn_refuses word rows pending d u r = go (begins_long word) refl
    where
      go : (b : Bool) → begins_long word ≡ b → Refuses (turn_fault shape [] (idle_at rows pending) word)
      go true s =
          let o = find (λ x. bytes_eq x.name (name_in word)) known in
          subst Refuses (sym (idle_long word (held rows pending) (option_map (rule_for needed) o) (value_part word) d s (found_rule word o refl) refl).0) (long_refuses idle word (held rows pending) o (value_part word) r)
      go false s = subst Refuses (sym (idle_turn None word (held rows pending) d (long_is word d ∙ ap (λ b. cond b (Some (parts_in word)) None) s))) (idle_short word rows pending s u)

  ---- An option in one word

  -- the kinds and the rows at the end of a walk over words
  abbrev pub total : Walk → List Text → Kinds
  total w words = or_else (walk_fault shape [] w words) (settle_fault rules false (fold (walked rules []) w words).held)

  abbrev pub end_rows : Walk → List Text → List Row
  end_rows w words = (settled rules (fold (walked rules []) w words).held).rows

  pub total_step : (w : Walk) (word : Text) (words : List Text) → total w (word ∷ words) ≡ or_else (turn_fault shape [] w word) (total (walked rules [] w word) words)
  unfolding walk_fault
  total_step w word words = in_turn (turn_fault shape [] w word) (walk_fault shape [] (walked rules [] w word) words) (settle_fault rules false (fold (walked rules []) w (word ∷ words)).held)

  pub total_refuses : (w : Walk) (word : Text) (words : List Text) → Refuses (turn_fault shape [] w word) → Refuses (total w (word ∷ words))
  total_refuses w word words r = subst Refuses (sym (total_step w word words)) (first_refuses _ _ r)

  -- where no kind of error comes of the words, the rows are those of the options that they are
  abbrev pub Agrees : Kinds → List Row → Option (List Given) → Type 0
  Agrees kinds rows None = Refuses kinds
  Agrees kinds rows (Some given) = (kinds ≡ []) × (rows ≡ rows_of known given)

  abbrev pub AgreesFrom : Walk → List Text → Option (List Given) → Type 0
  AgreesFrom w words given = Agrees (total w words) (end_rows w words) given

  agrees_step : (w w2 : Walk) (word : Text) (words : List Text) (given : Option (List Given)) → turn_fault shape [] w word ≡ [] → walked rules [] w word ≡ w2 → AgreesFrom w2 words given → AgreesFrom w (word ∷ words) given
  agrees_step w w2 word words given none e h =
      let here : AgreesFrom (walked rules [] w word) words given = subst (λ x. AgreesFrom x words given) (sym e) h in
      subst (λ k. Agrees k (end_rows (walked rules [] w word) words) given) (sym (total_step w word words ∙ past _ _ none)) here

  one_fault : Kinds → Bool → Kinds
  one_fault settling b = or_else (or_else settling (cond b (ArgumentConflict ∷ []) [])) []

  go_on : (w : Walk) (word : Text) (words : List Text) (rows : List Row) (pending : Option (Text × List Text)) (given : List Given) (a : Rule) (values : List Text) (g : Given)
      → turn_fault shape [] w word ≡ or_else (react_fault rules false a values (held rows pending)) []
      → walked rules [] w word ≡ idle_at (used a values (settled_rows rules pending rows)) None
      → settle_fault rules false (held rows pending) ≡ [] → settled_rows rules pending rows ≡ rows_of known given
      → use_fault false a values (rows_of known given) ≡ cond (has_row g.name (rows_of known given)) (ArgumentConflict ∷ []) []
      → (is_given g.name given ≡ false → used a values (rows_of known given) ≡ rows_of known (given ++ g ∷ []))
      → ((more : List Given) → AgreesFrom (idle_at (rows_of known more) None) words (options_from known more words))
      → AgreesFrom w (word ∷ words) (option_and_then (λ x. options_from known x words) (and_option given (Some g)))
  go_on w word words rows pending given a values g turn walk settle same fault row rest = go (is_given g.name given) refl
    where
      turned : (b : Bool) → is_given g.name given ≡ b → turn_fault shape [] w word ≡ or_else (or_else [] (cond b (ArgumentConflict ∷ []) [])) []
      turned b e =
          turn ∙ ap₂ (λ x y. or_else (or_else x y) []) settle (ap (use_fault false a values) same ∙ fault ∙ ap (λ x. cond x (ArgumentConflict ∷ []) []) (has_row_given known given g.name ∙ e))

      go : (b : Bool) → is_given g.name given ≡ b → AgreesFrom w (word ∷ words) (option_and_then (λ x. options_from known x words) (cond b None (Some (given ++ g ∷ []))))
      go true e = total_refuses w word words (subst Refuses (sym (turned true e)) (one_refuses ArgumentConflict))
      go false e =
          agrees_step w (idle_at (rows_of known (given ++ g ∷ [])) None) word words (options_from known (given ++ g ∷ []) words) (turned false e)
          (walk ∙ ap (λ r. idle_at r None) (ap (used a values) same ∙ row e)) (rest (given ++ g ∷ []))

  given_row : (n : Text) (k : Known) (value : Text) (t : Bool) → find (λ x. bytes_eq x.name n) known ≡ Some k → k.takes_value ≡ t
      → record { id = k.name; values = cond t (value ∷ []) (codes "true" ∷ []); count = None; source = Some CommandLine; reading = reading_of (parser_at t) } ≡ row_of known (record { name = k.name; value = value })
  given_row n k value t f e =
      sym (ap (λ o. row_for o (record { name = k.name; value = value })) (found_again known n k f)
      ∙ ap (λ b. record { id = k.name; values = cond b (value ∷ []) (codes "true" ∷ []); count = None; source = Some CommandLine; reading = reading_of (parser_at b) }) e)

  used_value : (n : Text) (k : Known) (value : Text) (given : List Given) → find (λ x. bytes_eq x.name n) known ≡ Some k → k.takes_value ≡ true → is_given k.name given ≡ false
      → used (rule_at needed k.name true) (value ∷ []) (rows_of known given) ≡ rows_of known (given ++ record { name = k.name; value = value } ∷ [])
  used_value n k value given f e none =
      one_more_row k.name (more_values CommandLine (value ∷ [])) (record { id = k.name; values = value ∷ []; count = None; source = Some CommandLine; reading = reading_of vp.String }) (rows_of known given)
      (has_row_given known given k.name ∙ none)
      ∙ (ap (λ r. rows_of known given ++ r ∷ []) (given_row n k value true f e) ∙ sym (rows_more known given (record { name = k.name; value = value })))

  used_flag : (n : Text) (k : Known) (given : List Given) → find (λ x. bytes_eq x.name n) known ≡ Some k → k.takes_value ≡ false → is_given k.name given ≡ false
      → used (rule_at needed k.name false) [] (rows_of known given) ≡ rows_of known (given ++ record { name = k.name; value = [] } ∷ [])
  used_flag n k given f e none =
      one_more_row k.name (more_values CommandLine (codes "true" ∷ [])) (record { id = k.name; values = codes "true" ∷ []; count = None; source = Some CommandLine; reading = reading_of vp.Bool }) (rows_of known given)
      (has_row_given known given k.name ∙ none)
      ∙ (ap (λ r. rows_of known given ++ r ∷ []) (given_row n k [] false f e) ∙ sym (rows_more known given (record { name = k.name; value = [] })))

  -- the words behind are read by what was given before them
  abbrev pub Rest : List Text → Type 0
  Rest words = (more : List Given) → AgreesFrom (idle_at (rows_of known more) None) words (options_from known more words)

  rule_found : (word : Text) (k : Known) (t : Bool) → find (λ x. bytes_eq x.name (name_in word)) known ≡ Some k → k.takes_value ≡ t → arg_by_long rules (name_in word) ≡ Some (rule_at needed k.name t)
  rule_found word k t f e = found_rule word (Some k) f ∙ ap (λ b. Some (rule_at needed k.name b)) e

  value_is : (word : Text) (v : Bool) → has_value word ≡ v → value_part word ≡ cond v (Some (value_in word)) None
  value_is word v e = ap (λ b. cond b (Some (value_in word)) None) e

  pub in_one : (word : Text) (words : List Text) (rows : List Row) (pending : Option (Text × List Text)) (given : List Given) → is_end word ≡ false → IsUtf8 word
      → settle_fault rules false (held rows pending) ≡ [] → settled_rows rules pending rows ≡ rows_of known given → (o : Option Known) → option_in known word ≡ o → wants_next o word ≡ false → Rest words
      → AgreesFrom (idle_at rows pending) (word ∷ words) (option_and_then (λ x. options_from known x words) (and_option given (in_one_word o word)))
  in_one word words rows pending given d u settle same None e wants rest = total_refuses (idle_at rows pending) word words (unknown_refuses word rows pending d u e)
  in_one word words rows pending given d u settle same (Some k) e wants rest = go k.takes_value (has_value word) refl refl wants
    where
      w : Walk
      w = idle_at rows pending

      f : (begins_long word ≡ true) × (find (λ x. bytes_eq x.name (name_in word)) known ≡ Some k)
      f = is_found word k e

      go : (t v : Bool) → k.takes_value ≡ t → has_value word ≡ v → (t && not v) ≡ false
          → AgreesFrom (idle_at rows pending) (word ∷ words) (option_and_then (λ x. options_from known x words) (and_option given
          (cond v (cond t (Some (record { name = k.name; value = value_in word })) None) (cond t None (Some (record { name = k.name; value = [] }))))))
      go true true t v wants =
          let step = idle_long word (held rows pending) (Some (rule_at needed k.name true)) (Some (value_in word)) d f.0 (rule_found word k true f.1 t) (value_is word true v) in
          go_on w word words rows pending given (rule_at needed k.name true) (value_in word ∷ []) (record { name = k.name; value = value_in word }) step.0 step.1 settle same
          (value_fault needed k.name (value_in word) (rows_of known given)) (used_value (name_in word) k (value_in word) given f.1 t) rest
      go true false t v wants = absurd (true≢false wants)
      go false true t v wants =
          let step = idle_long word (held rows pending) (Some (rule_at needed k.name false)) (Some (value_in word)) d f.0 (rule_found word k false f.1 t) (value_is word true v) in
          total_refuses w word words (subst Refuses (sym step.0) (one_refuses TooManyValues))
      go false false t v wants =
          let step = idle_long word (held rows pending) (Some (rule_at needed k.name false)) None d f.0 (rule_found word k false f.1 t) (value_is word false v) in
          go_on w word words rows pending given (rule_at needed k.name false) [] (record { name = k.name; value = [] }) step.0 step.1 settle same
          (flag_fault needed k.name (rows_of known given)) (used_flag (name_in word) k given f.1 t) rest

  ---- An option in two words

  total_waits : (words : List Text) (rows : List Row) (pending : Option (Text × List Text)) → AreTexts words → Refuses (settle_fault rules false (held rows pending)) → Refuses (total (idle_at rows pending) words)
  unfolding walk_fault
  total_waits [] rows pending t r = r
  total_waits (word ∷ words) rows pending t r = total_refuses (idle_at rows pending) word words (turn_refuses word rows pending t.0 t.1 r)

  module _ (word : Text) (k : Known) (f : find (λ x. bytes_eq x.name (name_in word)) known ≡ Some k) (takes : k.takes_value ≡ true) where
    rule_by_id : arg_by_id rules k.name ≡ Some (rule_at needed k.name true)
    rule_by_id = by_id needed known k.name ∙ (ap (option_map (rule_for needed)) (found_again known (name_in word) k f) ∙ ap (λ b. Some (rule_at needed k.name b)) takes)

    settle_by : (values : List Text) (rows : List Row) → settle_fault rules false (held rows (Some (k.name, values))) ≡ use_fault false (rule_at needed k.name true) values rows
    settle_by values rows = ap (λ o. option_map_or (λ a. use_fault false a values rows) o []) rule_by_id

    settle_missing : (rows : List Row) → Refuses (settle_fault rules false (held rows (Some (k.name, []))))
    settle_missing rows = subst Refuses (sym (settle_by [] rows)) (missing_fault needed k.name rows)

    settled_by : (values : List Text) (rows : List Row) → settled_rows rules (Some (k.name, values)) rows ≡ used (rule_at needed k.name true) values rows
    settled_by values rows = ap (λ o. used_by_id o values rows) rule_by_id

    waiting_ends : (rows : List Row) → AgreesFrom (waiting_at rows k.name) [] None
    unfolding walk_fault
    waiting_ends rows = settle_missing rows

    -- the value is pushed
    pushed_walk : (next : Text) (rows : List Row) → is_end next ≡ false → begins_long next ≡ false → is_dashed next ≡ false
        → (turn_fault shape [] (waiting_at rows k.name) next ≡ []) × (walked rules [] (waiting_at rows k.name) next ≡ idle_at rows (Some (k.name, next ∷ [])))
    pushed_walk next rows d s p = (
      option_turn k.name None next (held rows (Some (k.name, []))) d parts ∙ ap (λ o. other_fault (option k.name) o next (held rows (Some (k.name, [])))) short,
      option_walk k.name None next (held rows (Some (k.name, []))) d parts
          ∙ (ap (λ o. after_step rules next (waiting_at rows k.name) (short_or_plain rules (option k.name) next o (held rows (Some (k.name, [])))).0 (short_or_plain rules (option k.name) next o (held rows (Some (k.name, [])))).1) short
          ∙ (ap (λ a. after_step rules next (waiting_at rows k.name) (option_word a k.name next (held rows (Some (k.name, [])))).0 (Step.next (option_word a k.name next (held rows (Some (k.name, [])))).1)) rule_by_id
          ∙ ap (λ b. at (cond (nat_lt (cond b 1 0) 1) (option k.name) idle) (held rows (Some (k.name, next ∷ [])))) ((bytes_eq-Decides k.name k.name).1 refl))),
    )
      where
        parts : long_of next ≡ None
        parts = long_is next d ∙ ap (λ b. cond b (Some (parts_in next)) None) s

        short : short_of next ≡ None
        short = short_is next s ∙ ap (λ b. cond b (Some (drop 1 next)) None) p

    -- the word, where its value stands in the next one
    waits : (rows : List Row) (pending : Option (Text × List Text)) (given : List Given) → is_end word ≡ false → begins_long word ≡ true → has_value word ≡ false
        → settle_fault rules false (held rows pending) ≡ [] → settled_rows rules pending rows ≡ rows_of known given
        → (turn_fault shape [] (idle_at rows pending) word ≡ []) × (walked rules [] (idle_at rows pending) word ≡ waiting_at (rows_of known given) k.name)
    waits rows pending given d s v settle same =
        let step = idle_long word (held rows pending) (Some (rule_at needed k.name true)) None d s (rule_found word k true f takes) (value_is word false v) in
        (step.0 ∙ ap (λ x. or_else x []) settle, step.1 ∙ ap (λ r. waiting_at r k.name) same)

    value_settles : (next : Text) (given : List Given) (b : Bool) → is_given k.name given ≡ b
        → settle_fault rules false (held (rows_of known given) (Some (k.name, next ∷ []))) ≡ cond b (ArgumentConflict ∷ []) []
    value_settles next given b e =
        settle_by (next ∷ []) (rows_of known given) ∙ (value_fault needed k.name next (rows_of known given) ∙ ap (λ x. cond x (ArgumentConflict ∷ []) []) (has_row_given known given k.name ∙ e))

    in_two : (next : Text) (words : List Text) (given : List Given) → is_end next ≡ false → IsUtf8 next → AreTexts words
        → ((rows : List Row) (pending : Option (Text × List Text)) (more : List Given) → settle_fault rules false (held rows pending) ≡ [] → settled_rows rules pending rows ≡ rows_of known more
        → AgreesFrom (idle_at rows pending) words (options_from known more words))
        → AgreesFrom (waiting_at (rows_of known given) k.name) (next ∷ words) (option_and_then (λ x. options_from known x words) (and_option given (in_two_words (Some k) next)))
    in_two next words given d u t rest = go (begins_long next) (is_dashed next) refl refl
      where
        rows : List Row
        rows = rows_of known given

        w : Walk
        w = waiting_at rows k.name

        h : Held
        h = held rows (Some (k.name, []))

        g : Given
        g = record { name = k.name; value = next }

        o : Option Known
        o = find (λ x. bytes_eq x.name (name_in next)) known

        taken : begins_long next ≡ false → is_dashed next ≡ false → (b : Bool) → is_given k.name given ≡ b
            → AgreesFrom (waiting_at (rows_of known given) k.name) (next ∷ words) (option_and_then (λ x. options_from known x words) (cond b None (Some (given ++ record { name = k.name; value = next } ∷ []))))
        taken s p true e =
            let step = pushed_walk next rows d s p in
            agrees_step w (idle_at rows (Some (k.name, next ∷ []))) next words None step.0 step.1
            (total_waits words rows (Some (k.name, next ∷ [])) t (subst Refuses (sym (value_settles next given true e)) (one_refuses ArgumentConflict)))
        taken s p false e =
            let step = pushed_walk next rows d s p in
            agrees_step w (idle_at rows (Some (k.name, next ∷ []))) next words (options_from known (given ++ g ∷ []) words) step.0 step.1
            (rest rows (Some (k.name, next ∷ [])) (given ++ g ∷ []) (value_settles next given false e) (settled_by (next ∷ []) rows ∙ used_value (name_in word) k next given f takes e))

        go : (l p : Bool) → begins_long next ≡ l → is_dashed next ≡ p
            → AgreesFrom (waiting_at (rows_of known given) k.name) (next ∷ words) (option_and_then (λ x. options_from known x words) (and_option given (cond p None (Some (record { name = k.name; value = next })))))
        go true true s p =
            total_refuses w next words (subst Refuses (sym (option_long k.name next h (option_map (rule_for needed) o) (value_part next) d s (found_rule next o refl) refl))
            (long_refuses (option k.name) next h o (value_part next) (settle_missing rows)))
        go true false s p = absurd (true≢false (sym (long_dashed next s) ∙ p))
        go false true s p =
            total_refuses w next words (subst Refuses
            (sym (option_turn k.name None next h d (long_is next d ∙ ap (λ b. cond b (Some (parts_in next)) None) s) ∙ ap (λ x. other_fault (option k.name) x next h) (short_is next s)))
            (dashed_refuses (option k.name) next rows (Some (k.name, [])) (flags_in next) refl p u))
        go false false s p = taken s p (is_given k.name given) refl

  ---- All words

  wants_is : (o : Option Known) (word : Text) → wants_next o word ≡ true → (k : Known) × (o ≡ Some k) × (k.takes_value ≡ true) × (has_value word ≡ false)
  wants_is None word e = cc
  wants_is (Some k) word e = go k.takes_value (has_value word) refl refl e
    where
      go : (t v : Bool) → k.takes_value ≡ t → has_value word ≡ v → (t && not v) ≡ true → (x : Known) × (Some k ≡ Some x) × (x.takes_value ≡ true) × (has_value word ≡ false)
      go true false t v e = (k, refl, t, v)
      go true true t v e = absurd (true≢false (sym e))
      go false v t w e = absurd (true≢false (sym e))

  -- an option whose value is missing is none
  lacks_value : (o : Option Known) (word : Text) (given : List Given) → wants_next o word ≡ true → None ≡ and_option given (in_one_word o word)
  lacks_value o word given e =
      let w = wants_is o word e in
      sym (ap (λ x. and_option given (in_one_word x word)) w.1
      ∙ (ap (λ v. and_option given (cond v (cond w.0.takes_value (Some (record { name = w.0.name; value = value_in word })) None) (cond w.0.takes_value None (Some (record { name = w.0.name; value = [] }))))) w.3
      ∙ ap (λ t. and_option given (cond t None (Some (record { name = w.0.name; value = [] })))) w.2))

  only_one : (o : Option (List Given)) → option_and_then (λ x. options_from known x []) o ≡ o
  unfolding options_from
  only_one None = refl
  only_one (Some given) = refl

  -- the parser's walk reads the options that the words are
  pub walks : (words : List Text) → AreTexts words → (rows : List Row) (pending : Option (Text × List Text)) (given : List Given) → settle_fault rules false (held rows pending) ≡ []
      → settled_rows rules pending rows ≡ rows_of known given → AgreesFrom (idle_at rows pending) words (options_from known given words)
  unfolding options_from walk_fault
  walks [] t rows pending given settle same = (settle, same)
  walks (word ∷ []) t rows pending given settle same = go (wants_next (option_in known word) word) refl
    where
      o : Option Known
      o = option_in known word

      go : (b : Bool) → wants_next (option_in known word) word ≡ b → AgreesFrom (idle_at rows pending) (word ∷ []) (and_option given (in_one_word (option_in known word) word))
      go true e =
          let w = wants_is o word e in
          let f = is_found word w.0 w.1 in
          let step = waits word w.0 f.1 w.2 rows pending given t.0 f.0 w.3 settle same in
          subst (λ x. AgreesFrom (idle_at rows pending) (word ∷ []) x) (lacks_value o word given e)
          (agrees_step (idle_at rows pending) (waiting_at (rows_of known given) w.0.name) word [] None step.0 step.1 (waiting_ends word w.0 f.1 w.2 (rows_of known given)))
      go false e =
          subst (λ x. AgreesFrom (idle_at rows pending) (word ∷ []) x) (only_one (and_option given (in_one_word o word)))
          (in_one word [] rows pending given t.0 t.1 settle same o refl e (λ more. (refl, refl)))
  walks (word ∷ next ∷ words) t rows pending given settle same =
      go (λ more. walks (next ∷ words) t.2 (rows_of known more) None more refl refl) (walks words t.2.2) (wants_next (option_in known word) word) refl
    where
      o : Option Known
      o = option_in known word

      go : ((more : List Given) → AgreesFrom (idle_at (rows_of known more) None) (next ∷ words) (options_from known more (next ∷ words)))
          → ((rs : List Row) (p : Option (Text × List Text)) (more : List Given) → settle_fault rules false (held rs p) ≡ [] → settled_rows rules p rs ≡ rows_of known more
          → AgreesFrom (idle_at rs p) words (options_from known more words))
          → (b : Bool) → wants_next (option_in known word) word ≡ b
          → AgreesFrom (idle_at rows pending) (word ∷ next ∷ words) (cond b (option_and_then (λ g. options_from known g words) (and_option given (in_two_words (option_in known word) next)))
          (option_and_then (λ g. options_from known g (next ∷ words)) (and_option given (in_one_word (option_in known word) word))))
      go rest later true e =
          let w = wants_is o word e in
          let f = is_found word w.0 w.1 in
          let step = waits word w.0 f.1 w.2 rows pending given t.0 f.0 w.3 settle same in
          subst (λ x. AgreesFrom (idle_at rows pending) (word ∷ next ∷ words) (option_and_then (λ g. options_from known g words) (and_option given (in_two_words x next)))) (sym w.1)
          (agrees_step (idle_at rows pending) (waiting_at (rows_of known given) w.0.name) word (next ∷ words)
          (option_and_then (λ g. options_from known g words) (and_option given (in_two_words (Some w.0) next))) step.0 step.1
          (in_two word w.0 f.1 w.2 next words given t.2.0 t.2.1 t.2.2 later))
      go rest later false e = in_one word (next ∷ words) rows pending given t.0 t.1 settle same o refl e rest
