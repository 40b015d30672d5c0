-- The text that is written for plain data reads as the data.
use Rattle.std.proofs.Common.{◌≡◌, ◌≤◌, ◌<◌, ◌^◌, ℕ, suc, max, List, [], ◌∷◌, ◌++◌, Bool, true, false, Ordering, Less, Equal, Greater, nat_cmp, decimal, Some, option_map, option_and_then, refl, sym, ap, ap₂, ◌∙◌, subst, arith, append-nil}
use Rattle.std.specs.Str.{IsUtf8}
use Rattle.std.specs.Cmp.Lexicographic.{slice_cmp}
use Rattle.std.specs.Ordering.{match_ordering, ordering_reverse}
use Rattle.std.proofs.lemmas.Cmp.{nat_list_cmp_total}
use Rattle.std.proofs.lemmas.Fmt.{IsAscii-decimal}
use Rattle.std.proofs.lemmas.Str.{IsUtf8-append, IsUtf8-from_ascii}
use Rattle.json.specs.Json as json
use Rattle.json.specs.Lex.{tokens}
use Rattle.json.specs.Tree as tree
use Rattle.json.proofs.Printed.Decimals.{IsNumber-decimal}
use Rattle.json.proofs.Printed.Tokens.{tokens-print}
use Rattle.json.proofs.Printed.Trees.{ArePrintable-json_tokens, value-json_tokens}
use Rattle.json.proofs.Printed.Utf8.{IsUtf8-are_ascii, IsUtf8-quoted, IsUtf8-boolean}
use Rattle.serde_json.specs.Data.{Num, unsigned, negative, float, Data, null, boolean, number, string, array, object, Items, no_items, item, Members, no_members, member, put, depth, items_depth, members_depth}
use Rattle.serde_json.specs.Read.{of_json, of_items, of_members, max_depth}
use Rattle.serde_json.specs.Written.{outline, items_outline, members_outline, compact_text, items_text, members_text, comma_if}
use Rattle.serde_json.proofs.Numbers.{number_of-decimal}
use Rattle.serde_json.proofs.Texts.{print-outline}
use Rattle.json_fields.specs.Fields.{json_of}
use Rattle.json_fields.proofs.Texts.{json_of_read}

---- Plain data

abbrev pub IsUnsigned : Num → Type 0
IsUnsigned (unsigned n) = n < 2 ^ 64
IsUnsigned (negative z) = ⊥
IsUnsigned (float x) = ⊥

-- each key of the members comes after this one
abbrev pub AreBehind : List ℕ → Members → Type 0
AreBehind k no_members = Unit {0}
AreBehind k (member l d ms) = (slice_cmp nat_cmp k l ≡ Less) × AreBehind k ms

-- the keys rise
abbrev pub AreInOrder : Members → Type 0
AreInOrder no_members = Unit {0}
AreInOrder (member k d ms) = AreBehind k ms × AreInOrder ms

-- numbers of 64 bits, texts in UTF-8, and members in the order of their keys
abbrev mutual
  pub IsPlain : Data → Type 0
  IsPlain null = Unit {0}
  IsPlain (boolean b) = Unit {0}
  IsPlain (number n) = IsUnsigned n
  IsPlain (string s) = IsUtf8 s
  IsPlain (array ds) = ArePlainItems ds
  IsPlain (object ms) = ArePlain ms × AreInOrder ms

  pub ArePlainItems : Items → Type 0
  ArePlainItems no_items = Unit {0}
  ArePlainItems (item d ds) = IsPlain d × ArePlainItems ds

  pub ArePlain : Members → Type 0
  ArePlain no_members = Unit {0}
  ArePlain (member k d ms) = IsUtf8 k × IsPlain d × ArePlain ms

---- Members that are put one after another

behind_choice : (j : List ℕ) (o : Ordering) (a b c : Members) → AreBehind j a → AreBehind j b → AreBehind j c → AreBehind j (match_ordering o a b c)
behind_choice j Less a b c p q r = p
behind_choice j Equal a b c p q r = q
behind_choice j Greater a b c p q r = r

behind_put : (j k : List ℕ) (d : Data) (ms : Members) → slice_cmp nat_cmp j k ≡ Less → AreBehind j ms → AreBehind j (put k d ms)
behind_put j k d no_members less h = (less, tt)
behind_put j k d (member l e ms) less h = behind_choice j (slice_cmp nat_cmp k l) _ _ _ (less, h) h (h.0, behind_put j k d ms less h.1)

behind_both : (k l : List ℕ) (ms : Members) → slice_cmp nat_cmp k l ≡ Less → AreBehind l ms → AreBehind k ms
behind_both k l no_members less h = tt
behind_both k l (member j d ms) less h = (nat_list_cmp_total.trans k l j less h.0, behind_both k l ms less h.1)

order_choice : (k l : List ℕ) (d e : Data) (ms : Members) (o : Ordering) → slice_cmp nat_cmp k l ≡ o → AreInOrder (member l e ms) → AreInOrder (put k d ms) → AreInOrder (match_ordering o (member k d (member l e ms)) (member l d ms) (member l e (put k d ms)))
order_choice k l d e ms Less is h rest = ((is, behind_both k l ms is h.0), h)
order_choice k l d e ms Equal is h rest = h
order_choice k l d e ms Greater is h rest = (behind_put l k d ms (nat_list_cmp_total.antisymm l k ∙ ap ordering_reverse is) h.0, rest)

pub order_put : (k : List ℕ) (d : Data) (ms : Members) → AreInOrder ms → AreInOrder (put k d ms)
order_put k d no_members h = (tt, tt)
order_put k d (member l e ms) h = order_choice k l d e ms (slice_cmp nat_cmp k l) refl h (order_put k d ms h.1)

plain_choice : (o : Ordering) (a b c : Members) → ArePlain a → ArePlain b → ArePlain c → ArePlain (match_ordering o a b c)
plain_choice Less a b c p q r = p
plain_choice Equal a b c p q r = q
plain_choice Greater a b c p q r = r

pub plain_put : (k : List ℕ) (d : Data) (ms : Members) → IsUtf8 k → IsPlain d → ArePlain ms → ArePlain (put k d ms)
plain_put k d no_members text plain h = (text, plain, tt)
plain_put k d (member l e ms) text plain h =
    plain_choice (slice_cmp nat_cmp k l) _ _ _ (text, plain, h) (h.0, plain, h.2) (h.0, h.1, plain_put k d ms text plain h.2)

---- Reading

abbrev joined : Members → Members → Members
joined no_members ms = ms
joined (member k d done) ms = member k d (joined done ms)

joined-none : (done : Members) → joined done no_members ≡ done
joined-none no_members = refl
joined-none (member k d done) = ap (member k d) (joined-none done)

joined-joined : (done : Members) (k : List ℕ) (d : Data) (ms : Members) → joined (joined done (member k d no_members)) ms ≡ joined done (member k d ms)
joined-joined no_members k d ms = refl
joined-joined (member l e done) k d ms = ap (member l e) (joined-joined done k d ms)

middle : (l : List ℕ) (done : Members) (k : List ℕ) (d : Data) (ms : Members) → AreBehind l (joined done (member k d ms)) → slice_cmp nat_cmp l k ≡ Less
middle l no_members k d ms h = h.0
middle l (member j e done) k d ms h = middle l done k d ms h.1

-- a key behind all others goes last
put_last : (done : Members) (k : List ℕ) (d : Data) (ms : Members) → AreInOrder (joined done (member k d ms)) → put k d done ≡ joined done (member k d no_members)
put_last no_members k d ms h = refl
put_last (member l e done) k d ms h =
    let above : slice_cmp nat_cmp k l ≡ Greater = nat_list_cmp_total.antisymm k l ∙ ap ordering_reverse (middle l done k d ms h.0) in
    rw above (ap (member l e) (put_last done k d ms h.1))

mutual
  read_outline : (d : Data) → IsPlain d → of_json (outline d) ≡ Some d
  read_outline null h = refl
  read_outline (boolean b) h = refl
  read_outline (number (unsigned n)) h = ap (option_map number) (number_of-decimal n h)
  read_outline (number (negative z)) h = absurd h
  read_outline (number (float x)) h = absurd h
  read_outline (string s) h = refl
  read_outline (array ds) h = ap (option_map array) (read_items ds h)
  read_outline (object ms) h = ap (option_map object) (read_members ms no_members h.0 h.1)

  read_items : (ds : Items) → ArePlainItems ds → of_items (items_outline ds) ≡ Some ds
  read_items no_items h = refl
  read_items (item d ds) h = ap (option_and_then (λ x. option_map (item x) (of_items (items_outline ds)))) (read_outline d h.0) ∙ ap (option_map (item d)) (read_items ds h.1)

  read_members : (ms done : Members) → ArePlain ms → AreInOrder (joined done ms) → of_members (members_outline ms) done ≡ Some (joined done ms)
  read_members no_members done h order = ap (λ x. Some x) (sym (joined-none done))
  read_members (member k d ms) done h order =
      ap (option_and_then (λ x. of_members (members_outline ms) (put k x done))) (read_outline d h.1)
      ∙ (ap (of_members (members_outline ms)) (put_last done k d ms order)
      ∙ (read_members ms (joined done (member k d no_members)) h.2 (subst AreInOrder (sym (joined-joined done k d ms)) order)
      ∙ ap (λ x. Some x) (joined-joined done k d ms)))

mutual
  depth_outline : (d : Data) → tree.depth (outline d) ≡ depth d
  depth_outline null = refl
  depth_outline (boolean b) = refl
  depth_outline (number n) = refl
  depth_outline (string s) = refl
  depth_outline (array ds) = ap suc (items_depth_outline ds)
  depth_outline (object ms) = ap suc (members_depth_outline ms)

  items_depth_outline : (ds : Items) → tree.items_depth (items_outline ds) ≡ items_depth ds
  items_depth_outline no_items = refl
  items_depth_outline (item d ds) = ap₂ max (depth_outline d) (items_depth_outline ds)

  members_depth_outline : (ms : Members) → tree.members_depth (members_outline ms) ≡ members_depth ms
  members_depth_outline no_members = refl
  members_depth_outline (member k d ms) = ap₂ max (depth_outline d) (members_depth_outline ms)

mutual
  numbers_outline : (d : Data) → IsPlain d → tree.HasNumbers (outline d)
  numbers_outline null h = tt
  numbers_outline (boolean b) h = tt
  numbers_outline (number (unsigned n)) h = IsNumber-decimal n h
  numbers_outline (number (negative z)) h = absurd h
  numbers_outline (number (float x)) h = absurd h
  numbers_outline (string s) h = tt
  numbers_outline (array ds) h = item_numbers_outline ds h
  numbers_outline (object ms) h = member_numbers_outline ms h.0

  item_numbers_outline : (ds : Items) → ArePlainItems ds → tree.ItemsHaveNumbers (items_outline ds)
  item_numbers_outline no_items h = tt
  item_numbers_outline (item d ds) h = (numbers_outline d h.0, item_numbers_outline ds h.1)

  member_numbers_outline : (ms : Members) → ArePlain ms → tree.MembersHaveNumbers (members_outline ms)
  member_numbers_outline no_members h = tt
  member_numbers_outline (member k d ms) h = (numbers_outline d h.1, member_numbers_outline ms h.2)

comma : (later : Bool) → IsUtf8 (comma_if later)
comma true = IsUtf8-are_ascii (44 ∷ []) refl
comma false = IsUtf8-are_ascii [] refl

one : (b : ℕ) (bs : List ℕ) → IsUtf8 (b ∷ []) → IsUtf8 bs → IsUtf8 (b ∷ bs)
one b bs first rest = IsUtf8-append (b ∷ []) bs first rest

mutual
  text_of : (d : Data) → IsPlain d → IsUtf8 (compact_text d)
  text_of null h = IsUtf8-are_ascii _ refl
  text_of (boolean b) h = IsUtf8-boolean b
  text_of (number (unsigned n)) h = IsUtf8-from_ascii (decimal n) (IsAscii-decimal n h)
  text_of (number (negative z)) h = absurd h
  text_of (number (float x)) h = absurd h
  text_of (string s) h = IsUtf8-quoted s h
  text_of (array ds) h = one 91 (items_text false ds) (IsUtf8-are_ascii (91 ∷ []) refl) (items_text_of false ds h)
  text_of (object ms) h = one 123 (members_text false ms) (IsUtf8-are_ascii (123 ∷ []) refl) (members_text_of false ms h.0)

  items_text_of : (later : Bool) (ds : Items) → ArePlainItems ds → IsUtf8 (items_text later ds)
  items_text_of later no_items h = IsUtf8-are_ascii (93 ∷ []) refl
  items_text_of later (item d ds) h = IsUtf8-append (comma_if later) _ (comma later) (IsUtf8-append (compact_text d) _ (text_of d h.0) (items_text_of true ds h.1))

  members_text_of : (later : Bool) (ms : Members) → ArePlain ms → IsUtf8 (members_text later ms)
  members_text_of later no_members h = IsUtf8-are_ascii (125 ∷ []) refl
  members_text_of later (member k d ms) h =
      let value : IsUtf8 (compact_text d ++ members_text true ms) = IsUtf8-append (compact_text d) _ (text_of d h.1) (members_text_of true ms h.2) in
      IsUtf8-append (comma_if later) _ (comma later) (IsUtf8-append _ _ (IsUtf8-quoted k h.0) (one 58 _ (IsUtf8-are_ascii (58 ∷ []) refl) value))

-- what is written reads as the data
pub spelled_again : (d : Data) → IsPlain d → depth d ≤ max_depth → json_of (compact_text d) ≡ Some d
spelled_again d plain shallow =
    let ts = tree.json_tokens (outline d) in
    let same : tokens (compact_text d) ≡ ts = ap tokens (sym (print-outline d)) ∙ tokens-print ts (ArePrintable-json_tokens (outline d) (numbers_outline d plain)) in
    let found : json.value max_depth (tokens (compact_text d)) ≡ Some (outline d, []) =
    ap (json.value max_depth) (same ∙ sym (append-nil ts)) ∙ value-json_tokens (outline d) max_depth [] (omega (arith, shallow, depth_outline d)) in
    json_of_read (compact_text d) d (text_of d plain) (ap (λ o. option_and_then of_json (option_and_then (λ p. json.if_last p.0 p.1) o)) found ∙ read_outline d plain)
