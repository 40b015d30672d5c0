-- Two agents have two files, and none is outside the folder.
use Rattle.std.proofs.Common.{◌≡◌, ◌≢◌, ℕ, ◌<◌, ◌&&◌, List, [], ◌∷◌, Bool, true, false, All, arith, refl, sym, ◌∙◌, ap}
use Rattle.std.specs.List.{list_all}
use Rattle.std.proofs.lemmas.Bool.{true≢false}
use Rattle.std.proofs.lemmas.Bool.Decides.{nat_tests}
use Rattle.std.proofs.lemmas.List.{append_cancel_right}
use Rattle.std.proofs.lemmas.List.Elements.{All-nil, All-cons, All-append}
use Rattle.percent_encoding.specs.AsciiSet.{should_percent_encode}
use Rattle.percent_encoding.specs.Percent.{percent_encode, percent_decode}
use Rattle.percent_encoding.proofs.PercentLemmas.{round_trip, All-percent_encode, IsByte, IsEscapeByte}
use Rattle.nsi_base.specs.Bytes.{is_name, is_name_byte}
use Rattle.file_shelf.specs.declared.name.TheConstants.{ESCAPED}
use Rattle.file_shelf.specs.FileNames.{suffix, HasDistinctFiles, StaysInFolder}

both : (a b : Bool) → (a && b) ≡ true → (a ≡ true) × (b ≡ true)
both a b h = grind arith

small : (b : ℕ) → is_name_byte b ≡ true → b < 256
small b h = grind (arith, nat_tests)

each_small : (bs : List ℕ) → list_all is_name_byte bs ≡ true → All IsByte bs
each_small [] h = All-nil IsByte
each_small (b ∷ bs) h =
    let p = both (is_name_byte b) (list_all is_name_byte bs) h in All-cons IsByte b bs (small b p.0) (each_small bs p.1)

read_again : (a : List ℕ) → is_name a ≡ true → percent_decode (percent_encode ESCAPED a) ≡ a
read_again a h = round_trip ESCAPED a refl (each_small a (both _ (list_all is_name_byte a) h).1)

pub distinct : HasDistinctFiles
distinct a b named_a named_b same =
    sym (read_again a named_a) ∙ ap percent_decode (append_cancel_right _ _ suffix same) ∙ read_again b named_b

abbrev IsInside : ℕ → Type 0
IsInside b = (b ≢ 47) × (b ≢ 0)

slash_escaped : should_percent_encode ESCAPED 47 ≡ true
unfolding should_percent_encode
slash_escaped = refl

nul_escaped : should_percent_encode ESCAPED 0 ≡ true
unfolding should_percent_encode
nul_escaped = refl

not_kept : (b c : ℕ) → should_percent_encode ESCAPED b ≡ false → should_percent_encode ESCAPED c ≡ true → b ≢ c
not_kept b c kept escaped same = true≢false (sym escaped ∙ ap (should_percent_encode ESCAPED) (sym same) ∙ kept)

kept_inside : (b : ℕ) → should_percent_encode ESCAPED b ≡ false → IsInside b
kept_inside b kept = (not_kept b 47 kept slash_escaped, not_kept b 0 kept nul_escaped)

escape_inside : (b : ℕ) → IsEscapeByte b → IsInside b
escape_inside b h = grind arith

suffix_inside : All IsInside suffix
suffix_inside k d within = grind arith

pub inside : StaysInFolder
inside name =
    All-append IsInside (percent_encode ESCAPED name) suffix
    (All-percent_encode IsInside ESCAPED name kept_inside escape_inside) suffix_inside
