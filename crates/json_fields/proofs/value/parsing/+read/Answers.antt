use Rattle.std.proofs.Common.{◌≡◌, ◌-◌, ◌<◌, [], ◌∷◌, length, Some, None, sym, ap, ◌∙◌, arith, rules}
use Rattle.json.specs.Token.{Token}
use Rattle.json.specs.Json.{parse_map, after_end_array, read_key, items, members, value}
use Rattle.json.specs.Reads.{token_of}
use Rattle.json.proofs.Grammar.{read_key-shorter, value_is}
use Rattle.serde_json.specs.Data.{null, boolean, number, string, array, object, no_members}
use Rattle.serde_json.specs.Read.{of_json, of_items, of_members, converted}
use Rattle.serde_json.specs.View.{number_view}
use Rattle.json_fields.specs.Values.{view, members_view}
use Rattle.json_fields.specs.declared.value.JsonValue.{String, Number, Bool, Null, the_lemmas}
use Rattle.json_fields.proofs.Parsed.{string_read, bool_read, null_read, number_read, number_refused, array_read, object_read, array_too_deep, object_too_deep, value_refused, item_turn, no_item, items_done, member_turn, no_member, no_key, members_done}
use Rattle.json_fields.proofs.Values.{view-Array, view-Object, none_before, items_before, items_before-no_items, one_more_item, members_push}
use Rattle.json_fields.proofs.value.parsing.+read.Goals as goal

pub read-returns-in-Some-String-clause-ok : goal.read-returns-in-Some-String-clause-ok
read-returns-in-Some-String-clause-ok t c =
    let seen : view (String c.in-Some-String.text) ≡ string c.in-Some-String.text.now = search (rules, the_lemmas) in
    string_read c.args.depth c.args.reader.now c.next.new.self c.in-Some-String.text.now (grind arith) ∙ ap (λ d. Some (d, c.next.new.self)) (sym seen)

pub read-returns-in-Some-Bool-clause-ok : goal.read-returns-in-Some-Bool-clause-ok
read-returns-in-Some-Bool-clause-ok t c =
    let seen : view (Bool c.in-Some-Bool.is_set) ≡ boolean c.in-Some-Bool.is_set = search (rules, the_lemmas) in
    bool_read c.args.depth c.args.reader.now c.next.new.self c.in-Some-Bool.is_set (grind arith) ∙ ap (λ d. Some (d, c.next.new.self)) (sym seen)

pub read-returns-in-Some-Null-clause-ok : goal.read-returns-in-Some-Null-clause-ok
read-returns-in-Some-Null-clause-ok t c =
    let seen : view Null ≡ null = search (rules, the_lemmas) in
    null_read c.args.depth c.args.reader.now c.next.new.self (grind arith) ∙ ap (λ d. Some (d, c.next.new.self)) (sym seen)

pub read-returns-in-Some-clause-ok : goal.read-returns-in-Some-clause-ok
read-returns-in-Some-clause-ok t c =
    let seen : view (Number c.in-Some.number) ≡ number (number_view c.in-Some.number) = search (rules, the_lemmas) in
    number_read c.args.depth c.args.reader.now c.next.new.self c.in-Some-Number.text.now (number_view c.in-Some.number) (grind arith) (sym c.in-Some.ensures) ∙ ap (λ d. Some (d, c.next.new.self)) (sym seen)

pub read-returns-in-None-number_in-clause-err : goal.read-returns-in-None-number_in-clause-err
read-returns-in-None-number_in-clause-err t c refused =
    number_refused c.args.depth c.args.reader.now c.next.new.self c.in-Some-Number.text.now (grind arith) (sym c.in-None-number_in.ensures)

pub read-returns-in_err-read_items-in-Some-BeginArray-clause-err : goal.read-returns-in_err-read_items-in-Some-BeginArray-clause-err
read-returns-in_err-read_items-in-Some-BeginArray-clause-err t c refused =
    array_read c.args.depth c.args.reader.now c.next.new.self (grind arith) (omega arith) ∙ ap (parse_map array) (c.read_items.ensures.err (grind arith))

pub read-returns-in_err-read_members-in-Some-BeginObject-clause-err : goal.read-returns-in_err-read_members-in-Some-BeginObject-clause-err
read-returns-in_err-read_members-in-Some-BeginObject-clause-err t c refused =
    object_read c.args.depth c.args.reader.now c.next.new.self (grind arith) (omega arith) ∙ ap (parse_map object) (c.read_members.ensures.err (grind arith))

pub read-returns-in_ok-read_items-in-Some-BeginArray-clause-ok : goal.read-returns-in_ok-read_items-in-Some-BeginArray-clause-ok
read-returns-in_ok-read_items-in-Some-BeginArray-clause-ok t c =
    let found = c.in_ok-read_items-in-Some-BeginArray in
    array_read c.args.depth c.args.reader.now c.next.new.self (grind arith) (omega arith) ∙ ap (parse_map array) found.ensures.ok ∙ ap (λ d. Some (d, c.read_items.new.reader)) (sym (view-Array found.field-0))

pub read-returns-in_ok-read_members-in-Some-BeginObject-clause-ok : goal.read-returns-in_ok-read_members-in-Some-BeginObject-clause-ok
read-returns-in_ok-read_members-in-Some-BeginObject-clause-ok t c =
    let found = c.in_ok-read_members-in-Some-BeginObject in
    object_read c.args.depth c.args.reader.now c.next.new.self (grind arith) (omega arith) ∙ ap (parse_map object) found.ensures.ok ∙ ap (λ d. Some (d, c.read_members.new.reader)) (sym (view-Object found.field-0))

pub read-returns-then-depth-eq0-clause-err : goal.read-returns-then-depth-eq0-clause-err
read-returns-then-depth-eq0-clause-err t c refused = array_too_deep c.args.depth c.args.reader.now c.next.new.self (grind arith) (omega arith)

pub read-returns-then-depth-eq0-2-clause-err : goal.read-returns-then-depth-eq0-2-clause-err
read-returns-then-depth-eq0-2-clause-err t c refused = object_too_deep c.args.depth c.args.reader.now c.next.new.self (grind arith) (omega arith)

pub read-returns-in-Some-EndArray-clause-err : goal.read-returns-in-Some-EndArray-clause-err
read-returns-in-Some-EndArray-clause-err t c refused =
    let first : c.args.reader.now ≡ token_of c.in-Some-EndArray.field-0 ∷ c.next.new.self = grind arith in
    value_refused c.args.depth c.args.reader.now (rw (value_is c.args.depth c.args.reader.now, first) (grind arith))

pub read-returns-in-None-clause-err : goal.read-returns-in-None-clause-err
read-returns-in-None-clause-err t c refused =
    let empty : c.args.reader.now ≡ [] = grind arith in
    value_refused c.args.depth c.args.reader.now (ap (value c.args.depth) empty ∙ value_is c.args.depth [])

pub read_items-items-init : goal.read_items-items-init
read_items-items-init t c =
    let all = converted of_items (items (value c.args.depth) (length c.args.reader.now) c.args.reader.now) in
    (length c.args.reader.now, omega arith, none_before all ∙ ap (λ vs. parse_map (items_before vs) all) (sym c.new-found.ensures.items), omega arith)

pub read_items-returns-in_err-item-clause-err : goal.read_items-returns-in_err-item-clause-err
read_items-returns-in_err-item-clause-err t c refused =
    let l = c.items in
    let going : (after_end_array l.reader ≡ None) × (c.take_end_array.new.self ≡ l.reader) = grind arith in
    l.invariant.2 ∙ ap (parse_map (items_before l.found.items)) (no_item (value c.args.depth) l.invariant.0 l.reader going.0 (rw (← going.1) (c.read.ensures.err (grind arith))))

pub read_items-items-preserved : goal.read_items-items-preserved
read_items-items-preserved t c =
    let p = value c.args.depth in
    let l = c.items in
    let n = l.invariant.0 in
    let going : (after_end_array l.reader ≡ None) × (c.take_end_array.new.self ≡ l.reader) = grind arith in
    let v = c.in_ok-item.item in
    let r = c.read.new.reader in
    let less : length r < length l.reader = rw (← going.1) c.in_ok-item.ensures.shorter in
    let turn = item_turn p n l.reader r (view v) (omega (arith, l.invariant.1)) going.0 (rw (← going.1) c.in_ok-item.ensures.ok) in
    let pushed = ap (λ vs. parse_map (items_before vs) (converted of_items (items p (n - 1) r))) (sym c.in-Ok.ensures.items) in
    (n - 1, omega (arith, l.invariant.1), l.invariant.2 ∙ ap (parse_map (items_before l.found.items)) turn ∙ one_more_item l.found.items v _ ∙ pushed, omega (arith, l.invariant.3))

pub read_items-returns-clause-ok : goal.read_items-returns-clause-ok
read_items-returns-clause-ok t c =
    let l = c.items in
    let r = c.take_end_array.new.self in
    let over = items_done (value c.args.depth) l.invariant.0 l.reader r l.invariant.1 (grind arith) in
    l.invariant.2 ∙ ap (parse_map (items_before l.found.items)) over ∙ ap (λ ds. Some (ds, r)) (items_before-no_items l.found.items)

pub read_members-members-init : goal.read_members-members-init
read_members-members-init t c =
    let all = members (value c.args.depth) (length c.args.reader.now) c.args.reader.now in
    (length c.args.reader.now, omega arith, ap (λ vs. converted (λ ms. of_members ms (members_view vs)) all) (sym c.new-found.ensures.items), omega arith)

pub read_members-returns-in-Err-clause-err : goal.read_members-returns-in-Err-clause-err
read_members-returns-in-Err-clause-err t c refused =
    let l = c.members in
    l.invariant.2 ∙ no_key (value c.args.depth) (members_view l.found.items) l.invariant.0 l.reader c.in-Err.ensures.value

pub read_members-returns-in_err-member-clause-err : goal.read_members-returns-in_err-member-clause-err
read_members-returns-in_err-member-clause-err t c refused =
    let l = c.members in
    let k = c.in-Ok-Some.key.now in
    let s = c.next_key.new.self in
    let named : read_key l.reader ≡ Some (Some k, s) = grind arith in
    l.invariant.2 ∙ no_member (value c.args.depth) (members_view l.found.items) l.invariant.0 k l.reader s named (c.read.ensures.err (grind arith))

pub read_members-members-preserved : goal.read_members-members-preserved
read_members-members-preserved t c =
    let p = value c.args.depth in
    let l = c.members in
    let n = l.invariant.0 in
    let old = members_view l.found.items in
    let k = c.in-Ok-Some.key in
    let s = c.next_key.new.self in
    let v = c.in_ok-member.member in
    let r = c.read.new.reader in
    let named : read_key l.reader ≡ Some (Some k.now, s) = grind arith in
    let less = read_key-shorter l.reader (Some k.now) s named in
    let lesser = c.in_ok-member.ensures.shorter in
    let turn = member_turn p old n k.now l.reader s r (view v) (omega (arith, l.invariant.1)) named c.in_ok-member.ensures.ok in
    let pushed = ap members_view c.in-Ok.ensures.items ∙ members_push l.found.items (k, v) in
    (n - 1, omega (arith, l.invariant.1), l.invariant.2 ∙ turn ∙ ap (λ found. converted (λ ms. of_members ms found) (members p (n - 1) r)) (sym pushed), omega (arith, l.invariant.3))

pub read_members-returns-in-Ok-None-clause-ok : goal.read_members-returns-in-Ok-None-clause-ok
read_members-returns-in-Ok-None-clause-ok t c =
    let l = c.members in
    l.invariant.2 ∙ members_done (value c.args.depth) (members_view l.found.items) l.invariant.0 l.reader c.next_key.new.self l.invariant.1 (grind arith)
