-- A value over a text, level by level, and lists of items and members that grow at their end.
use Rattle.std.proofs.Common.{◌≡◌, ℕ, List, [], ◌∷◌, ◌++◌, map, Option, Some, None, Bool, true, false, cond, Vec, Global, Bor, refl, sym, ap, ◌∙◌, rules, bytes_eq}
use Rattle.std.proofs.lemmas.Bool.{false≢true}
use Rattle.std.proofs.lemmas.Slice.Eq.{bytes_eq-Decides}
use Rattle.json.specs.Token.{Token}
use Rattle.json.specs.Json.{parse_map}
use Rattle.serde_json.specs.Data.{Data, array, object, Items, no_items, item, Members, no_members, put}
use Rattle.serde_json.specs.Find.{get_member}
use Rattle.serde_json.proofs.Views.{get_member-put, get_member-put_other}
use Rattle.json_fields.specs.Values.{view, items_view, members_view, put_all}
use Rattle.json_fields.specs.declared.value.JsonValue.{JsonValue, Array, Object, the_lemmas}

abbrev Named : Type 0
Named = Bor (List ℕ) × JsonValue

pub view-Array : (v : Vec JsonValue Global) → view (Array v) ≡ array (items_view v.items)
view-Array v = search (rules, the_lemmas)

pub view-Object : (v : Vec Named Global) → view (Object v) ≡ object (members_view v.items)
view-Object v = search (rules, the_lemmas)

---- Items

abbrev pub items_before : List JsonValue → Items → Items
items_before [] rest = rest
items_before (v ∷ vs) rest = item (view v) (items_before vs rest)

pub items_before-no_items : (vs : List JsonValue) → items_before vs no_items ≡ items_view vs
items_before-no_items [] = refl
items_before-no_items (v ∷ vs) = ap (item (view v)) (items_before-no_items vs)

items_push : (vs : List JsonValue) (v : JsonValue) (rest : Items) → items_before vs (item (view v) rest) ≡ items_before (vs ++ v ∷ []) rest
items_push [] v rest = refl
items_push (w ∷ vs) v rest = ap (item (view w)) (items_push vs v rest)

pub one_more_item : (vs : List JsonValue) (v : JsonValue) (r : Option (Items × List Token)) → parse_map (items_before vs) (parse_map (item (view v)) r) ≡ parse_map (items_before (vs ++ v ∷ [])) r
one_more_item vs v None = refl
one_more_item vs v (Some p) = ap (λ ds. Some (ds, p.1)) (items_push vs v p.0)

pub none_before : (r : Option (Items × List Token)) → r ≡ parse_map (items_before []) r
none_before None = refl
none_before (Some p) = refl

---- Members

put_all_push : (ms : List (Bor (List ℕ) × Data)) (m : Bor (List ℕ) × Data) (found : Members) → put_all (ms ++ m ∷ []) found ≡ put m.0.now m.1 (put_all ms found)
put_all_push [] m found = refl
put_all_push (n ∷ ms) m found = put_all_push ms m (put n.0.now n.1 found)

abbrev seen : Named → Bor (List ℕ) × Data
seen m = (m.0, view m.1)

seen_push : (ms : List Named) (m : Named) → map seen (ms ++ m ∷ []) ≡ map seen ms ++ seen m ∷ []
seen_push [] m = refl
seen_push (n ∷ ms) m = ap (λ ns. seen n ∷ ns) (seen_push ms m)

-- a member more is put behind the others
pub members_push : (ms : List Named) (m : Named) → members_view (ms ++ m ∷ []) ≡ put m.0.now (view m.1) (members_view ms)
members_push ms m = ap (λ ns. put_all ns no_members) (seen_push ms m) ∙ put_all_push (map seen ms) (seen m) no_members

-- and found there, where it has the name
pub found_last : (name : List ℕ) (ms : List Named) (m : Named) → bytes_eq m.0.now name ≡ true → get_member name (members_view (ms ++ m ∷ [])) ≡ Some (view m.1)
found_last name ms m e =
    let same : m.0.now ≡ name = (bytes_eq-Decides m.0.now name).0 e in
    ap (get_member name) (members_push ms m) ∙ ap (λ k. get_member name (put k (view m.1) (members_view ms))) same ∙ get_member-put name (view m.1) (members_view ms)

pub found_before : (name : List ℕ) (ms : List Named) (m : Named) → bytes_eq m.0.now name ≡ false → get_member name (members_view (ms ++ m ∷ [])) ≡ get_member name (members_view ms)
found_before name ms m e =
    let other = λ (is : name ≡ m.0.now). false≢true (sym e ∙ (bytes_eq-Decides m.0.now name).1 (sym is)) in
    ap (get_member name) (members_push ms m) ∙ get_member-put_other name m.0.now (view m.1) (members_view ms) other
