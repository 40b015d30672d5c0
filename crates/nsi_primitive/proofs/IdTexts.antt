-- An id is read off its text.
use Rattle.std.proofs.Common.{◌≡◌, ◌∙◌, ℕ, zero, suc, ◌^◌, ◌<◌, Some, option_map, length, inl, refl, sym, ap, arith}
use Rattle.std.specs.Int.{byte_at, bytes_high_first}
use Rattle.std.specs.List.{All}
use Rattle.std.proofs.lemmas.List.Elements.{All-nil, All-cons}
use Rattle.uuid.specs.Text.{lower}
use Rattle.uuid.proofs.RoundTrips.{parses_urn}
use Rattle.nsi_primitive.specs.Ids.{bytes_of, from_bytes, id_from_text, id_text}
use Rattle.nsi_primitive.proofs.SixteenBytes.{from_bytes-bytes_of}

is_byte : (k n : ℕ) → byte_at k n < 256
is_byte zero n = omega arith
is_byte (suc k) n = omega arith

are_bytes : (k n : ℕ) → All (λ b. b < 256) (bytes_high_first k n)
are_bytes zero n = All-nil (λ b. b < 256)
are_bytes (suc k) n = All-cons (λ b. b < 256) (byte_at k n) (bytes_high_first k n) (is_byte k n) (are_bytes k n)

small : (n : ℕ) → All (λ b. b < 256) (bytes_of n)
unfolding bytes_of
small n = are_bytes 16 n

sixteen : (n : ℕ) → length (bytes_of n) ≡ 16
unfolding bytes_of
sixteen n = refl

pub id_text_again : (n : ℕ) → n < 2 ^ 128 → id_from_text (id_text n) ≡ Some n
unfolding id_from_text id_text
id_text_again n fits = ap (option_map from_bytes) (sym (parses_urn lower (bytes_of n) (inl refl) (sixteen n) (small n))) ∙ ap (λ x. Some x) (from_bytes-bytes_of n fits)
