-- A load that is generated.
use Rattle.std.specs.Prelude.{ℕ, zero, suc, ◌+◌, ◌*◌, ◌/◌, ◌%◌, ◌^◌, List, [], ◌∷◌, ◌++◌, codes, decimal}
use Rattle.nsi_script.specs.declared.load.DrawnRequest.{DrawnRequest}

-- a linear congruence modulo 2 ^ 64
unfoldable pub stepped : ℕ → ℕ
stepped x = (6364136223846793005 * x + 1442695040888963407) % 2 ^ 64

-- that many steps
abbrev pub after : ℕ → ℕ → ℕ
after zero x = x
after (suc n) x = after n (stepped x)

-- a number below a bound
abbrev pub drawn : ℕ → ℕ → ℕ
drawn below x = x / 2 ^ 33 % below

-- what is drawn for a reserve, in this order
abbrev pub drawn_request : ℕ → DrawnRequest
drawn_request x = record {
  source = drawn 4 (after 1 x);
  dest = drawn 4 (after 2 x);
  capacity = drawn 500 (after 3 x) + 1;
  start = 1000000 + 10 * drawn 100 (after 4 x);
  end = 1000000 + 10 * drawn 100 (after 4 x) + 10 * (drawn 20 (after 5 x) + 1);
}

-- pieces of a line, one behind the other
abbrev pub joined : List (List ℕ) → List ℕ
joined [] = []
joined (piece ∷ pieces) = piece ++ joined pieces

abbrev pub at_line : ℕ → List ℕ
at_line second = joined (codes "at " ∷ decimal second ∷ [])

abbrev pub asked : ℕ → List ℕ
asked i = joined (codes "ask r" ∷ decimal (i % 4) ∷ codes " reserve c" ∷ decimal i ∷ [])

abbrev pub between : DrawnRequest → List ℕ
between r = joined (codes " p" ∷ decimal r.source ∷ codes ".a p" ∷ decimal r.dest ∷ codes ".b " ∷ [])

abbrev pub sized : DrawnRequest → List ℕ
sized r = joined (decimal r.capacity ∷ codes " " ∷ decimal r.start ∷ codes " " ∷ decimal r.end ∷ [])

abbrev pub reserve_line : ℕ → DrawnRequest → List ℕ
reserve_line i r = joined (asked i ∷ between r ∷ sized r ∷ [])

abbrev pub commit_line : ℕ → List ℕ
commit_line i = joined (codes "ask r" ∷ decimal (i % 4) ∷ codes " commit c" ∷ decimal i ∷ [])

-- a reserve, and its commit a second later
abbrev pub pair_lines : ℕ → DrawnRequest → List (List ℕ)
pair_lines i r = at_line (2 * i) ∷ reserve_line i r ∷ at_line (2 * i + 1) ∷ commit_line i ∷ []

-- so many pairs, from the one with that number on
unfoldable pub pairs_from : ℕ → ℕ → ℕ → List (List ℕ)
pairs_from x i zero = []
pairs_from x i (suc size) = pair_lines i (drawn_request x) ++ pairs_from (after 5 x) (i + 1) size

-- four providers in a row below an aggregator, and four requesters
abbrev pub head_lines : List (List ℕ)
head_lines =
    codes "agent p0 provider 60" ∷ codes "agent p1 provider 60" ∷ codes "agent p2 provider 60" ∷ codes "agent p3 provider 60"
    ∷ codes "agent a0 aggregator"
    ∷ codes "agent r0 requester a0" ∷ codes "agent r1 requester a0" ∷ codes "agent r2 requester a0" ∷ codes "agent r3 requester a0"
    ∷ codes "stp p0 p0.a 1000" ∷ codes "stp p0 p0.b 1000" ∷ codes "stp p0 p0.w 4000" ∷ codes "stp p0 p0.e 4000"
    ∷ codes "stp p1 p1.a 1000" ∷ codes "stp p1 p1.b 1000" ∷ codes "stp p1 p1.w 4000" ∷ codes "stp p1 p1.e 4000"
    ∷ codes "stp p2 p2.a 1000" ∷ codes "stp p2 p2.b 1000" ∷ codes "stp p2 p2.w 4000" ∷ codes "stp p2 p2.e 4000"
    ∷ codes "stp p3 p3.a 1000" ∷ codes "stp p3 p3.b 1000" ∷ codes "stp p3 p3.w 4000" ∷ codes "stp p3 p3.e 4000"
    ∷ codes "sdp p0.e p1.w" ∷ codes "sdp p1.e p2.w" ∷ codes "sdp p2.e p3.w"
    ∷ codes "child a0 p0" ∷ codes "child a0 p1" ∷ codes "child a0 p2" ∷ codes "child a0 p3"
    ∷ codes "---" ∷ []

-- lines and their ends
unfoldable pub text_of : List (List ℕ) → List ℕ
text_of [] = []
text_of (line ∷ lines) = line ++ (10 ∷ text_of lines)

-- the load of that number, with so many reserves and commits
abbrev pub load_of : ℕ → ℕ → List ℕ
load_of number size = text_of (head_lines ++ pairs_from number 0 size)
