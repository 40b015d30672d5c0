-- From tokens to data, a token or a turn of a loop at a time.
use Rattle.std.proofs.Common.{◌≡◌, ℕ, zero, suc, ◌-◌, ◌<◌, ◌≤◌, List, [], ◌∷◌, length, Option, Some, None, option_map, option_and_then, unwrap_or, Bool, refl, ap, ap₂, ◌∙◌, arith}
use Rattle.json.specs.Token.{Token}
use Rattle.json.specs.Json as json
use Rattle.json.specs.Json.{Parse, parse_map, after_end_array, read_key, items, members, value, if_last}
use Rattle.json.proofs.Grammar.{items_end, items_fail, items_more, members_end, members_fail, members_more, members_no_key, value_is, value-begin_array, value-begin_object}
use Rattle.serde_json.specs.Data.{Num, Data, null, boolean, number, string, array, object, Items, no_items, item, Members, no_members, put}
use Rattle.serde_json.specs.Read.{of_json, of_items, of_members, converted, number_of}

---- What is converted

lost : {A B : Type 0} (g : A → B) (x : Option A) → option_map g x ≡ None → x ≡ None
lost g None e = refl
lost g (Some y) e = absurd (cc)

beside : {B : Type 0} (r s : List Token) (x : Option B) (b : B) → option_map {U = B × List Token} (λ y. (y, r)) x ≡ Some (b, s) → (x ≡ Some b) × (r ≡ s)
beside r s None b e = absurd (cc)
beside r s (Some y) b e = (ap (λ o. option_map (λ p. p.0) o) e, ap (λ o. unwrap_or (option_map (λ p. p.1) o) r) e)

-- what was converted was read
was_read : {A B : Type 0} (f : A → Option B) (o : Option (A × List Token)) (b : B) (r : List Token) → converted f o ≡ Some (b, r) → (a : A) × (o ≡ Some (a, r)) × (f a ≡ Some b)
was_read f None b r e = absurd (cc)
was_read f (Some p) b r e = let both = beside p.1 r (f p.0) b e in (p.0, ap (λ s. Some (p.0, s)) both.1, both.0)

-- a conversion behind a step of the grammar
stepped : {A B C : Type 0} (f : A → Option B) (h : C → A) (g : C → Option B) → ((c : C) → f (h c) ≡ g c) → (o : Option (C × List Token)) → converted f (parse_map h o) ≡ converted g o
stepped f h g same None = refl
stepped {B = B} f h g same (Some p) = ap (option_map {U = B × List Token} (λ b. (b, p.1))) (same p.0)

nothing : {A B C : Type 0} (f : A → Option B) (h : C → A) → ((c : C) → f (h c) ≡ None) → (o : Option (C × List Token)) → converted f (parse_map h o) ≡ None
nothing f h same None = refl
nothing {B = B} f h same (Some p) = ap (option_map {U = B × List Token} (λ b. (b, p.1))) (same p.0)

wrapped : {B C D : Type 0} (g : C → Option B) (k : B → D) (o : Option (C × List Token)) → converted (λ c. option_map k (g c)) o ≡ parse_map k (converted g o)
wrapped g k None = refl
wrapped g k (Some p) = each (g p.0)
  where
    each : (x : Option _) → option_map (λ d. (d, p.1)) (option_map k x) ≡ parse_map k (option_map (λ b. (b, p.1)) x)
    each None = refl
    each (Some y) = refl

---- A token that opens nothing

module _ (depth : ℕ) (ts rest : List Token) where
  pub string_read : (s : List ℕ) → ts ≡ Token.string s ∷ rest → converted of_json (value depth ts) ≡ Some (string s, rest)
  string_read s e = ap (converted of_json) (ap (value depth) e ∙ value_is depth _)

  pub bool_read : (b : Bool) → ts ≡ Token.boolean b ∷ rest → converted of_json (value depth ts) ≡ Some (boolean b, rest)
  bool_read b e = ap (converted of_json) (ap (value depth) e ∙ value_is depth _)

  pub null_read : ts ≡ Token.null ∷ rest → converted of_json (value depth ts) ≡ Some (null, rest)
  null_read e = ap (converted of_json) (ap (value depth) e ∙ value_is depth _)

  pub number_read : (s : List ℕ) (n : Num) → ts ≡ Token.number s ∷ rest → number_of s ≡ Some n → converted of_json (value depth ts) ≡ Some (number n, rest)
  number_read s n e in_range = ap (converted of_json) (ap (value depth) e ∙ value_is depth _) ∙ ap (λ o. option_map {U = Data × List Token} (λ d. (d, rest)) (option_map number o)) in_range

  pub number_refused : (s : List ℕ) → ts ≡ Token.number s ∷ rest → number_of s ≡ None → converted of_json (value depth ts) ≡ None
  number_refused s e beyond = ap (converted of_json) (ap (value depth) e ∙ value_is depth _) ∙ ap (λ o. option_map {U = Data × List Token} (λ d. (d, rest)) (option_map number o)) beyond

  ---- A token that opens

  pub array_too_deep : ts ≡ Token.begin_array ∷ rest → depth ≡ 0 → converted of_json (value depth ts) ≡ None
  unfolding value
  array_too_deep e flat = ap (converted of_json) (ap₂ value flat e)

  pub object_too_deep : ts ≡ Token.begin_object ∷ rest → depth ≡ 0 → converted of_json (value depth ts) ≡ None
  unfolding value
  object_too_deep e flat = ap (converted of_json) (ap₂ value flat e)

  pub array_read : ts ≡ Token.begin_array ∷ rest → 0 < depth → converted of_json (value depth ts) ≡ parse_map array (converted of_items (items (value (depth - 1)) (length rest) rest))
  array_read e deep = ap (converted of_json) (ap (value depth) e ∙ value-begin_array depth rest deep) ∙ stepped of_json json.array (λ js. option_map array (of_items js)) (λ js. refl) (items (value (depth - 1)) (length rest) rest) ∙ wrapped of_items array (items (value (depth - 1)) (length rest) rest)

  pub object_read : ts ≡ Token.begin_object ∷ rest → 0 < depth → converted of_json (value depth ts) ≡ parse_map object (converted (λ ms. of_members ms no_members) (members (value (depth - 1)) (length rest) rest))
  object_read e deep = ap (converted of_json) (ap (value depth) e ∙ value-begin_object depth rest deep) ∙ stepped of_json json.object (λ ms. option_map object (of_members ms no_members)) (λ ms. refl) (members (value (depth - 1)) (length rest) rest) ∙ wrapped (λ ms. of_members ms no_members) object (members (value (depth - 1)) (length rest) rest)

---- No value begins here

pub value_refused : (depth : ℕ) (ts : List Token) → value depth ts ≡ None → converted of_json (value depth ts) ≡ None
value_refused depth ts e = ap (converted of_json) e

---- The turns of the loops

module _ (p : Parse json.Json) where
  pub item_turn : (n : ℕ) (ts r : List Token) (d : Data) → 0 < n → after_end_array ts ≡ None → converted of_json (p ts) ≡ Some (d, r)
      → converted of_items (items p n ts) ≡ parse_map (item d) (converted of_items (items p (n - 1) r))
  item_turn n ts r d some going e =
      let j = was_read of_json (p ts) d r e in
      ap (converted of_items) (items_more p n ts r j.0 some going j.1)
      ∙ stepped of_items (json.item j.0) (λ js. option_map (item d) (of_items js)) (λ js. ap (option_and_then (λ x. option_map (item x) (of_items js))) j.2) (items p (n - 1) r)
      ∙ wrapped of_items (item d) (items p (n - 1) r)

  pub no_item : (n : ℕ) (ts : List Token) → after_end_array ts ≡ None → converted of_json (p ts) ≡ None → converted of_items (items p n ts) ≡ None
  unfolding items
  no_item n ts going refused = by_item n (p ts) refl refused
    where
      by_item : (n : ℕ) (o : Option (json.Json × List Token)) → p ts ≡ o → converted of_json o ≡ None → converted of_items (items p n ts) ≡ None
      by_item n None e never = ap (converted of_items) (items_fail p n ts going e)
      by_item zero (Some q) e never = refl
      by_item (suc n) (Some q) e never =
          ap (converted of_items) (items_more p (suc n) ts q.1 q.0 (omega arith) going e)
          ∙ nothing of_items (json.item q.0) (λ js. ap (option_and_then (λ x. option_map (item x) (of_items js))) (lost _ (of_json q.0) never)) (items p (suc n - 1) q.1)

  pub items_done : (n : ℕ) (ts r : List Token) → length ts ≤ n → after_end_array ts ≡ Some r → converted of_items (items p n ts) ≡ Some (no_items, r)
  items_done n ts r enough e = ap (converted of_items) (items_end p n ts r enough e)

  module _ (old : Members) where
    pub member_turn : (n : ℕ) (k : List ℕ) (ts s r : List Token) (d : Data) → 0 < n → read_key ts ≡ Some (Some k, s) → converted of_json (p s) ≡ Some (d, r)
        → converted (λ ms. of_members ms old) (members p n ts) ≡ converted (λ ms. of_members ms (put k d old)) (members p (n - 1) r)
    member_turn n k ts s r d some key e =
        let j = was_read of_json (p s) d r e in
        ap (converted (λ ms. of_members ms old)) (members_more p n k ts s r j.0 some key j.1)
        ∙ stepped (λ ms. of_members ms old) (json.member k j.0) (λ ms. of_members ms (put k d old)) (λ ms. ap (option_and_then (λ x. of_members ms (put k x old))) j.2) (members p (n - 1) r)

    pub no_member : (n : ℕ) (k : List ℕ) (ts s : List Token) → read_key ts ≡ Some (Some k, s) → converted of_json (p s) ≡ None → converted (λ ms. of_members ms old) (members p n ts) ≡ None
    unfolding members
    no_member n k ts s key refused = by_member n (p s) refl refused
      where
        by_member : (n : ℕ) (o : Option (json.Json × List Token)) → p s ≡ o → converted of_json o ≡ None → converted (λ ms. of_members ms old) (members p n ts) ≡ None
        by_member n None e never = ap (converted (λ ms. of_members ms old)) (members_fail p n k ts s key e)
        by_member zero (Some q) e never = refl
        by_member (suc n) (Some q) e never =
            ap (converted (λ ms. of_members ms old)) (members_more p (suc n) k ts s q.1 q.0 (omega arith) key e)
            ∙ nothing (λ ms. of_members ms old) (json.member k q.0) (λ ms. ap (option_and_then (λ x. of_members ms (put k x old))) (lost _ (of_json q.0) never)) (members p (suc n - 1) q.1)

    pub no_key : (n : ℕ) (ts : List Token) → read_key ts ≡ None → converted (λ ms. of_members ms old) (members p n ts) ≡ None
    no_key n ts e = ap (converted (λ ms. of_members ms old)) (members_no_key p n ts e)

    pub members_done : (n : ℕ) (ts r : List Token) → length ts ≤ n → read_key ts ≡ Some (None, r) → converted (λ ms. of_members ms old) (members p n ts) ≡ Some (old, r)
    members_done n ts r enough e = ap (converted (λ ms. of_members ms old)) (members_end p n ts r enough e)

---- The whole text

abbrev pub whole : Option (json.Json × List Token) → Option Data
whole o = option_and_then of_json (option_and_then (λ p. if_last p.0 p.1) o)

pub whole_read : (o : Option (json.Json × List Token)) (d : Data) → converted of_json o ≡ Some (d, []) → whole o ≡ Some d
whole_read o d e = let j = was_read of_json o d [] e in ap whole j.1 ∙ j.2

pub more_behind : (o : Option (json.Json × List Token)) (d : Data) (t : Token) (r : List Token) → converted of_json o ≡ Some (d, t ∷ r) → whole o ≡ None
more_behind o d t r e = ap whole (was_read of_json o d (t ∷ r) e).1

pub whole_refused : (o : Option (json.Json × List Token)) → converted of_json o ≡ None → whole o ≡ None
whole_refused None e = refl
whole_refused (Some (j, [])) e = lost _ (of_json j) e
whole_refused (Some (j, t ∷ r)) e = refl
