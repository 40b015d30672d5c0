-- Texts whose bytes stand for themselves.
use Rattle.std.proofs.Common.{◌≡◌, ◌≤◌, ◌==◌, ◌&&◌, ℕ, List, [], ◌∷◌, ◌++◌, Bool, true, false, not, refl, sym, ap, ◌∙◌, arith, append_assoc}
use Rattle.std.specs.List.{list_all}
use Rattle.json.specs.Print.{escape, escape_byte, quoted}
use Rattle.json.proofs.Printed.Strings.{escape_byte_plain}
use Rattle.json_fields.specs.Members.{is_plain_byte}

stands_for_itself : (b : ℕ) → is_plain_byte b ≡ true → escape_byte b ≡ b ∷ []
stands_for_itself b h = escape_byte_plain b (λ e. grind (arith, h, e)) (λ e. grind (arith, h, e)) (grind (arith, h))

escape_plain : (bs : List ℕ) → list_all is_plain_byte bs ≡ true → escape bs ≡ bs
escape_plain [] h = refl
escape_plain (b ∷ bs) h =
    ap (λ t. t ++ escape bs) (stands_for_itself b (grind (arith, h))) ∙ ap (λ t. b ∷ t) (escape_plain bs (grind (arith, h)))

-- a plain text between quotes
pub plain_quoted : (bs old opened spelled closed : List ℕ) → list_all is_plain_byte bs ≡ true → opened ≡ old ++ 34 ∷ [] → spelled ≡ opened ++ bs → closed ≡ spelled ++ 34 ∷ [] → closed ≡ old ++ quoted bs
plain_quoted bs old opened spelled closed h is_opened is_spelled is_closed =
    is_closed ∙ (ap (λ t. t ++ 34 ∷ []) (is_spelled ∙ ap (λ t. t ++ bs) is_opened)
    ∙ (append_assoc (old ++ 34 ∷ []) bs (34 ∷ []) ∙ (append_assoc old (34 ∷ []) (bs ++ 34 ∷ []) ∙ ap (λ t. old ++ 34 ∷ (t ++ 34 ∷ [])) (sym (escape_plain bs h)))))
