-- The topology of a text is sound.
use Rattle.std.proofs.Common.{◌≡◌, ℕ, ◌+◌, List, [], ◌∷◌, Bool, true, false, cond, Result, Ok, Err, length, ◌==◌, codes, ap, refl, subst}
use Rattle.std.specs.Str.{bytes_eq}
use Rattle.nsi_base.specs.Lines.{lines_of}
use Rattle.nsi_base.specs.declared.words.Blanks.TheVariants.{SpaceOrTab}
use Rattle.nsi_base.specs.Words.{words_of}
use Rattle.stp_topology.specs.declared.fault.TopologyFault.{TopologyFault}
use Rattle.stp_topology.specs.declared.fault.TopologyFault.TheVariants.{Empty}
use Rattle.stp_topology.specs.declared.topology.Taken.{Taken}
use Rattle.stp_topology.specs.declared.topology.Taken.TheVariants.{More, Whole}
use Rattle.stp_topology.specs.Faults.{◌>>=◌}
use Rattle.stp_topology.specs.Network.{Network, nothing}
use Rattle.stp_topology.specs.Sound.{IsSound}
use Rattle.stp_topology.specs.Lines.{line_of}
use Rattle.stp_topology.specs.Text.{is_skipped, of_line, onward, read_lines, placed, place_behind, topology_of}
use Rattle.stp_topology.proofs.SoundLemmas.{nothing_sound}
use Rattle.stp_topology.proofs.LineSound.{line_sound}

abbrev IsSoundTaken : Result Taken TopologyFault → Type 0
IsSoundTaken (Ok (More t)) = IsSound t
IsSoundTaken (Ok (Whole t)) = IsSound t
IsSoundTaken (Err e) = Unit {0}

taken_sound : (t : Network) (line : List ℕ) → IsSound t → IsSoundTaken (of_line t line)
unfolding of_line
taken_sound t line s = by_tests (is_skipped line) (bytes_eq line (codes "---")) (length t.agents == 0) (by_words (line_of t (words_of SpaceOrTab line)) (λ new h. line_sound t new (words_of SpaceOrTab line) s h))
  where
    by_words : (read : Result Network TopologyFault) → ((new : Network) → read ≡ Ok new → IsSound new) → IsSoundTaken (read >>= λ new. Ok (More new))
    by_words (Ok new) f = f new refl
    by_words (Err e) f = tt

    by_tests : (skipped last empty : Bool) → IsSoundTaken (line_of t (words_of SpaceOrTab line) >>= λ new. Ok (More new))
        → IsSoundTaken (cond skipped (Ok (More t)) (cond last (cond empty (Err Empty) (Ok (Whole t))) (line_of t (words_of SpaceOrTab line) >>= λ new. Ok (More new))))
    by_tests true last empty f = s
    by_tests false true true f = tt
    by_tests false true false f = s
    by_tests false false empty f = f

abbrev IsSoundRead : Result (Network × ℕ) (ℕ × TopologyFault) → Type 0
IsSoundRead (Ok r) = IsSound r.0
IsSoundRead (Err e) = Unit {0}

lines_sound : (t : Network) (n : ℕ) (lines : List (List ℕ)) → IsSound t → IsSoundRead (read_lines t n lines)
unfolding read_lines
lines_sound t n [] s = tt
lines_sound t n (line ∷ lines) s = by_taken (of_line t line) (taken_sound t line s) (λ new i. lines_sound new (n + 1) lines i)
  where
    by_taken : (r : Result Taken TopologyFault) → IsSoundTaken r → ((new : Network) → IsSound new → IsSoundRead (read_lines new (n + 1) lines)) → IsSoundRead (onward (n + 1) r (λ new. read_lines new (n + 1) lines))
    by_taken (Ok (More new)) i next = next new i
    by_taken (Ok (Whole new)) i next = i
    by_taken (Err e) i next = tt

same_value : (x y : Network × ℕ) → (r : Result (Network × ℕ) (ℕ × TopologyFault)) → r ≡ Ok x → r ≡ Ok y → x ≡ y
same_value x y r h g = cc

pub text_sound : (text : List ℕ) (t : Network) (place : ℕ) → topology_of text ≡ Ok (t, place) → IsSound t
text_sound text t place h = by_read (read_lines nothing 0 (lines_of text)) (lines_sound nothing 0 (lines_of text) nothing_sound) h
  where
    by_read : (r : Result (Network × ℕ) (ℕ × TopologyFault)) → IsSoundRead r → placed text r ≡ Ok (t, place) → IsSound t
    by_read (Ok r) i e = subst IsSound (ap (λ (x : Network × ℕ). x.0) (same_value (r.0, place_behind text r.1) (t, place) (Ok (r.0, place_behind text r.1)) refl e)) i
    by_read (Err e) i h = cc
